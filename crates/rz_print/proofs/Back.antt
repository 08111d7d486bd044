-- What is printed is read as the form that was read.
use Rattle.std.proofs.Common.{◌≡◌, ℕ, ◌+◌, zero, suc, List, [], ◌∷◌, ◌++◌, Some, length, refl, sym, ap, ◌∙◌, subst, arith, append-nil}
use Rattle.std.specs.Prelude.{slice_get}
use Rattle.rz_lex.specs.declared.token.Tok.{Tok}
use Rattle.rz_lex.specs.declared.token.Token.{Token}
use Rattle.rz_lex.specs.Text.{Lexed}
use Rattle.rz_syntax.specs.declared.action.Step.{Step}
use Rattle.rz_syntax.specs.declared.builder.Builder.{Builder}
use Rattle.rz_syntax.specs.declared.builder.Operand.{Operand}
use Rattle.rz_syntax.specs.declared.forms.Raw.{Raw}
use Rattle.rz_syntax.specs.declared.forms.Shape.{Shape}
use Rattle.rz_syntax.specs.declared.forms.Form.{Form}
use Rattle.rz_syntax.specs.declared.forms.Command.{Command}
use Rattle.rz_syntax.specs.declared.forms.Commands.{Commands}
use Rattle.rz_syntax.specs.declared.grammar.Rule.TheVariants as rule
use Rattle.rz_syntax.specs.Grammar.{Gives, kinds_of}
use Rattle.rz_syntax.specs.Building.{built, nothing_read, bytes_of, top_operand, no_operand}
use Rattle.rz_syntax.specs.Source.{IsFile}
use Rattle.rz_print.specs.declared.layout.Piece.{Piece}
use Rattle.rz_print.specs.declared.level.Level.TheVariants as level
use Rattle.rz_print.specs.Layout.{term}
use Rattle.rz_print.specs.Text.{Word, text_of}
use Rattle.rz_print.specs.Words.{Writes, Opens, Spells, nothing, writes, opens, HasWords}
use Rattle.rz_print.specs.Reading.{AreWords, ReadsAs}
use Rattle.rz_print.specs.Meaning.{Tree, IsTree, IsTerm, Makes, IsReadable, ReadsBack, forms_named, AreReadable, NameReadable}
use Rattle.rz_print.proofs.Runs.{kinds, top_last}
use Rattle.rz_print.proofs.Terms.{StandAt, Reads}
use Rattle.rz_print.proofs.Marking.{form_is_read}
use Rattle.rz_print.proofs.Fitting.{IsWritten}
use Rattle.rz_print.proofs.Trees.{tree_prints}
use Rattle.rz_print.proofs.Soundness.{AreBelow, IsSound, nothing_sound, tree_written, tree_of, tree_same}
use Rattle.rz_print.proofs.Effects.{Sound, CommandsBelow, Filed}
use Rattle.rz_print.proofs.Sounding.{phrase_done, kinds_all}
use Rattle.rz_print.proofs.Naming.{names_are}
use Rattle.rz_print.proofs.States.{pushed}

-- ---- the words of pieces are the same each time

same_word : (a b : Word) → Writes a ≡ Writes b → a ≡ b
same_word a b e = cc

same_inner : (a b : List Piece) → Opens a ≡ Opens b → a ≡ b
same_inner a b e = cc

pub spells_once : {shapes : List Shape} {forms : List Form} {pieces : List Piece} {xs ys : List Word} → Spells shapes forms pieces xs → Spells shapes forms pieces ys → xs ≡ ys
spells_once nothing nothing = refl
spells_once (writes {words = xs} word e s) (writes {words = ys} other f t) =
    let one : word ≡ other = same_word word other (sym e ∙ f) in
    let rest : xs ≡ ys = spells_once s t in
    cc
spells_once (writes word e s) (opens inner f t u) = absurd (cc)
spells_once (opens inner e s t) (writes word f u) = absurd (cc)
spells_once {shapes} {forms} (opens {front} {rest} inner e s t) (opens {front = front'} {rest = rest'} other f u v) =
    let same : inner ≡ other = same_inner inner other (sym e ∙ f) in
    let one : front ≡ front' = spells_once s (subst (λ (ps : List Piece). Spells shapes forms ps front') (sym same) u) in
    let two : rest ≡ rest' = spells_once t v in
    cc

-- ---- words at their places

stand_words : (text : List ℕ) (all : List Token) (tokens : List Token) (words : List Word) (read : ℕ) → ((number : ℕ) → slice_get all (read + number) ≡ slice_get tokens number) → AreWords text tokens words → StandAt text all read words
stand_words text all [] [] read h w = tt
stand_words text all [] (word ∷ words) read h w = absurd w
stand_words text all (token ∷ tokens) [] read h w = tt
stand_words text all (token ∷ tokens) (word ∷ words) read h w = (
  ap (bytes_of text) (ap (slice_get all) (none read) ∙ h 0) ∙ w.1,
  stand_words text all tokens words (read + 1) (λ number. ap (slice_get all) (next number) ∙ h (suc number)) w.2,
)
  where
    none : (n : ℕ) → n ≡ n + 0
    none n = omega arith

    next : (number : ℕ) → (read + 1) + number ≡ read + suc number
    next number = omega arith

kinds_words : (text : List ℕ) (tokens : List Token) (words : List Word) → AreWords text tokens words → kinds_of tokens ≡ kinds words
kinds_words text [] [] w = refl
kinds_words text [] (word ∷ words) w = absurd w
kinds_words text (token ∷ tokens) [] w = absurd w
kinds_words text (token ∷ tokens) (word ∷ words) w =
    let rest : kinds_of tokens ≡ kinds words = kinds_words text tokens words w.2 in
    let first : token.kind ≡ word.kind = w.0 in
    cc

-- ---- a text whose words are read as a tree

made_last : (start : ℕ) (raw : Raw) (shapes : List Shape) (forms : List Form) → (top_operand (pushed nothing_read start raw shapes forms)).raw ≡ raw
unfolding top_operand
made_last start raw shapes forms = ap (λ (o : Operand). o.raw) (top_last no_operand [] (record { start = start; raw = raw }))

text_is_term : (words : List Word) (tree : Tree) → ReadsAs (text_of words) words → Reads rule.Term words tree → IsTerm (text_of words) tree
text_is_term words tree r q =
    let text = text_of words in
    let tokens = r.tokens in
    let t = q text tokens 0 nothing_read (stand_words text tokens tokens words 0 (λ number. ap (slice_get tokens) (same number)) r.are) in
    let last = pushed nothing_read t.start t.raw t.shapes t.forms in
    let made : built text tokens 0 t.runs.steps nothing_read ≡ last = ap (λ (ss : List Step). built text tokens 0 ss nothing_read) (sym (append-nil t.runs.steps)) ∙ t.runs.makes [] in
    let whole : Makes last tree = subst (λ (x : Raw). IsTree last.shapes last.forms x.form tree) (sym (made_last t.start t.raw t.shapes t.forms)) t.is in
    record {
      tokens = tokens;
      lexed = r.lexed;
      steps = t.runs.steps;
      gives = subst (λ (ks : List Tok). Gives rule.Term ks t.runs.steps) (sym (kinds_words text tokens words r.are)) t.runs.phrase;
      is = subst (λ (b : Builder). Makes b tree) (sym made) whole;
    }
  where
    same : (number : ℕ) → 0 + number ≡ number
    same number = omega arith

-- a written tree has a text
written_text : (shapes : List Shape) (forms : List Form) (raw : Raw) (tree : Tree) → IsWritten tree → IsTree shapes forms raw.form tree
    → (words : List Word) × Spells shapes forms (term raw ∷ []) words × IsTerm (text_of words) tree
written_text shapes forms raw tree w h =
    let p = (tree_prints tree shapes forms raw w h).part level.Term in
    (p.words, p.spelt.spells, text_is_term p.words tree (form_is_read shapes forms raw p.words p.spelt.spells p.spelt.names) p.means)

-- ---- what is read is written

same_built : (text : List ℕ) (tokens : List Token) (steps : List Step) (b : Builder) → built text tokens 0 (steps ++ []) nothing_read ≡ b → built text tokens 0 steps nothing_read ≡ b
same_built text tokens steps b e = ap (λ (ss : List Step). built text tokens 0 ss nothing_read) (sym (append-nil steps)) ∙ e

term_written : (text : List ℕ) (tree : Tree) → IsTerm text tree → IsWritten tree
term_written text tree r =
    let d = phrase_done text r.tokens (names_are text r.tokens r.lexed) r.gives 0 nothing_read (kinds_all r.tokens) in
    let m = d.chain.2 nothing_sound in
    let b = built text r.tokens 0 r.steps nothing_read in
    let last : b ≡ d.last = same_built text r.tokens r.steps d.last (d.makes []) in
    let made : Sound d.chain.1 = subst Sound (sym m.is) m.sound in
    let sound : Sound b = subst Sound (d.chain.3 ∙ sym last) made in
    tree_written b.shapes b.forms sound (top_operand b).raw.form tree r.is

pub readable_has : (shapes : List Shape) (forms : List Form) (raw : Raw) → IsReadable shapes forms raw → HasWords shapes forms (term raw ∷ [])
readable_has shapes forms raw r =
    let t = written_text shapes forms raw r.tree (term_written r.text r.tree r.reads) r.is in
    (t.0, t.1)

pub reads_back : (shapes : List Shape) (forms : List Form) (raw : Raw) (words : List Word) → IsReadable shapes forms raw → Spells shapes forms (term raw ∷ []) words → ReadsBack shapes forms raw (text_of words)
reads_back shapes forms raw words r s tree h =
    let w : IsWritten tree = subst IsWritten (tree_same shapes forms raw.form r.tree tree r.is h) (term_written r.text r.tree r.reads) in
    let t = written_text shapes forms raw tree w h in
    subst (λ (ws : List Word). IsTerm (text_of ws) tree) (spells_once t.1 s) t.2

-- ---- the forms of a file

file_filed : (text : List ℕ) (tokens : List Token) (commands : Commands) → Lexed text tokens → IsFile text tokens commands
    → IsSound commands.shapes commands.forms × CommandsBelow (length commands.forms) commands.list
file_filed text tokens commands l f =
    let d = phrase_done text tokens (names_are text tokens l) f.gives 0 nothing_read (kinds_all tokens) in
    let b = built text tokens 0 f.steps nothing_read in
    let last : b ≡ d.last = same_built text tokens f.steps d.last (d.makes []) in
    let filed : Filed b = subst Filed (d.chain.3 ∙ sym last) (d.chain.2 (nothing_sound, tt)) in
    subst (λ (c : Commands). IsSound c.shapes c.forms × CommandsBelow (length c.forms) c.list) (sym f.are) filed

sound_readable : (shapes : List Shape) (forms : List Form) → IsSound shapes forms → (raws : List Raw) → AreBelow (length forms) raws → AreReadable shapes forms raws
sound_readable shapes forms s [] h = tt
sound_readable shapes forms s (raw ∷ raws) h =
    let t = tree_of shapes forms s raw.form h.0 in
    let p = written_text shapes forms raw t.0 (tree_written shapes forms s raw.form t.0 t.1) t.1 in
    (record { text = text_of p.0; tree = t.0; reads = p.2; is = t.1 }, sound_readable shapes forms s raws h.1)

command_below : (count : ℕ) (commands : List Command) (number : ℕ) (one : Command) → CommandsBelow count commands → slice_get commands number ≡ Some one → AreBelow count (forms_named one)
command_below count [] number one h e = absurd (cc)
command_below count (first ∷ commands) zero one h e = let same : first ≡ one = cc in subst (λ (c : Command). AreBelow count (forms_named c)) same h.0
command_below count (first ∷ commands) (suc number) one h e = command_below count commands number one h.1 e

pub file_readable : (text : List ℕ) (tokens : List Token) (commands : Commands) → Lexed text tokens → IsFile text tokens commands → NameReadable commands.shapes commands.forms commands.list
file_readable text tokens commands l f number one e =
    let h = file_filed text tokens commands l f in
    sound_readable commands.shapes commands.forms h.0 (forms_named one) (command_below (length commands.forms) commands.list number one h.1 e)

-- ---- a form of a command that was looked up

readable_at : (shapes shapes' : List Shape) (forms forms' : List Form) (raws : List Raw) → shapes' ≡ shapes → forms' ≡ forms → AreReadable shapes forms raws → AreReadable shapes' forms' raws
readable_at shapes shapes' forms forms' raws e f h =
    subst (λ (fs : List Form). AreReadable shapes' fs raws) (sym f) (subst (λ (ss : List Shape). AreReadable ss forms raws) (sym e) h)

pub found_readable : (shapes shapes' : List Shape) (forms forms' : List Form) (list : List Command) (number : ℕ) (there one : Command) → NameReadable shapes forms list
    → Some there ≡ slice_get list number → there ≡ one → shapes' ≡ shapes → forms' ≡ forms → AreReadable shapes' forms' (forms_named one)
found_readable shapes shapes' forms forms' list number there one h e same es ef =
    readable_at shapes shapes' forms forms' (forms_named one) es ef (h number one (sym e ∙ ap (λ (c : Command). Some c) same))

pub readable_behind : (shapes : List Shape) (forms : List Form) (front behind : List Raw) → AreReadable shapes forms (front ++ behind) → AreReadable shapes forms behind
readable_behind shapes forms [] behind h = h
readable_behind shapes forms (raw ∷ front) behind h = readable_behind shapes forms front behind h.1
