-- Commands name forms that stand in the tables.
use Rattle.std.proofs.Common.{◌≡◌, ℕ, ◌+◌, ◌<◌, ◌≤◌, Bool, true, false, List, [], ◌∷◌, ◌++◌, None, length, refl, sym, ap, ◌∙◌, subst}
use Rattle.rz_lex.specs.declared.token.Tok.TheVariants as token
use Rattle.rz_lex.specs.declared.token.Token.{Token}
use Rattle.rz_syntax.specs.declared.action.Action.{Action}
use Rattle.rz_syntax.specs.declared.action.Action.TheVariants as action
use Rattle.rz_syntax.specs.declared.builder.Builder.{Builder}
use Rattle.rz_syntax.specs.declared.forms.Raw.{Raw}
use Rattle.rz_syntax.specs.declared.forms.Bind.{Bind}
use Rattle.rz_syntax.specs.declared.forms.Command.{Command}
use Rattle.rz_syntax.specs.declared.forms.Command.TheVariants as command
use Rattle.rz_syntax.specs.declared.grammar.Symbol.{Symbol}
use Rattle.rz_syntax.specs.declared.grammar.Symbol.TheVariants.{One, Sub, Do}
use Rattle.rz_syntax.specs.declared.grammar.Rule.TheVariants as rule
use Rattle.rz_syntax.specs.Building.{after, begin, next_place, with_name, add_word, top_name, without_name, without_words, with_command, top_operand, without_operand, top_binds, without_binds}
use Rattle.rz_print.specs.Meaning.{bind_parts, forms_named}
use Rattle.rz_print.proofs.Runs.{top_last, below_last}
use Rattle.rz_print.proofs.States.{operand, bound}
use Rattle.rz_print.proofs.Doing.{act_open_binds}
use Rattle.rz_print.proofs.Soundness.{AreBelow, below_more, below_join}
use Rattle.rz_print.proofs.Effects.{Sound, Grows, grows_then, forms_longer, frame_then, on_operand, on_binds, MakesForm, made_on, Lists, GoodBinds, CommandsBelow, Filed, Chain}

-- ---- a new command

commands_more : (m n : ℕ) (list : List Command) → m ≤ n → CommandsBelow m list → CommandsBelow n list
commands_more m n [] le h = tt
commands_more m n (one ∷ list) le h = (below_more m n (forms_named one) le h.0, commands_more m n list le h.1)

commands_last : (n : ℕ) (list : List Command) (new : Command) → CommandsBelow n list → AreBelow n (forms_named new) → CommandsBelow n (list ++ new ∷ [])
commands_last n [] new h a = (a, tt)
commands_last n (one ∷ list) new h a = (h.0, commands_last n list new h.1 a)

filed_grows : (a c : Builder) → Filed a → Grows a c → Sound c → Filed c
filed_grows a c h g s =
    let same : c.commands ≡ a.commands = ap (λ (x : Builder). x.commands) g.is in
    (s, subst (λ (list : List Command). CommandsBelow (length c.forms) list) (sym same) (commands_more (length a.forms) (length c.forms) a.commands (forms_longer g) h.1))

-- ---- actions that make no command, and those whose command names no form

abbrev is_quiet : Action → Bool
is_quiet action.Begin = true
is_quiet action.CommandName = true
is_quiet action.AddWord = true
is_quiet _ = false

pub keeps : (text : List ℕ) (tokens : List Token) (read : ℕ) (act : Action) (b : Builder) → is_quiet act ≡ true → Filed b → Filed (after text tokens read act b)
unfolding after begin with_name add_word
keeps text tokens read action.Begin b e h = h
keeps text tokens read action.CommandName b e h = h
keeps text tokens read action.AddWord b e h = h
keeps text tokens read _ b e h = absurd (cc)

abbrev is_bare : Action → Bool
is_bare action.Section = true
is_bare action.End = true
is_bare action.SetOption = true
is_bare _ = false

pub adds : (text : List ℕ) (tokens : List Token) (read : ℕ) (act : Action) (b : Builder) → is_bare act ≡ true → Filed b → Filed (after text tokens read act b)
unfolding after next_place without_name with_command
adds text tokens read action.Section b e h = (h.0, commands_last (length b.forms) b.commands (command.Section b.first (next_place b read) b.name) h.1 tt)
adds text tokens read action.End b e h = (h.0, commands_last (length b.forms) b.commands (command.End b.first (next_place b read) b.name) h.1 tt)
adds text tokens read action.SetOption b e h = (h.0, commands_last (length b.forms) b.commands (command.Option b.first (next_place b read)) h.1 tt)
adds text tokens read _ b e h = absurd (cc)

-- ---- actions whose command names forms

-- a command is made, and what was kept for it is gone
abbrev commanded : Builder → Command → Builder
commanded g new = record g { name = None; words = []; commands = g.commands ++ new ∷ [] }

act_define : (text : List ℕ) (tokens : List Token) (read : ℕ) (g : Builder) (list : List Bind) (s t : ℕ) (of body : Raw)
    → after text tokens read action.Define (operand (operand (bound g list) s of) t body) ≡ commanded g (command.Def g.first (next_place g read) (top_name g) g.words list of body)
unfolding after next_place top_name without_name without_words with_command top_operand without_operand top_binds without_binds
act_define text tokens read g list s t of body = simp (top_last, below_last)

act_postulate : (text : List ℕ) (tokens : List Token) (read : ℕ) (g : Builder) (list : List Bind) (s : ℕ) (of : Raw)
    → after text tokens read action.Postulate (operand (bound g list) s of) ≡ commanded g (command.Post g.first (next_place g read) (top_name g) g.words list of)
unfolding after next_place top_name without_name without_words with_command top_operand without_operand top_binds without_binds
act_postulate text tokens read g list s of = simp (top_last, below_last)

act_check : (text : List ℕ) (tokens : List Token) (read : ℕ) (g : Builder) (s t : ℕ) (term of : Raw)
    → after text tokens read action.Check (operand (operand g s term) t of) ≡ record g { commands = g.commands ++ command.Check g.first (next_place g read) term of ∷ [] }
unfolding after next_place with_command top_operand without_operand
act_check text tokens read g s t term of = simp (top_last, below_last)

act_compute : (text : List ℕ) (tokens : List Token) (read : ℕ) (g : Builder) (s : ℕ) (term : Raw)
    → after text tokens read action.Compute (operand g s term) ≡ record g { commands = g.commands ++ command.Compute g.first (next_place g read) term ∷ [] }
unfolding after next_place with_command top_operand without_operand
act_compute text tokens read g s term = simp (top_last, below_last)

act_assume : (text : List ℕ) (tokens : List Token) (read : ℕ) (g : Builder) (s : ℕ) (of : Raw)
    → after text tokens read action.Assume (operand g s of) ≡ record g { words = []; commands = g.commands ++ command.Assume g.first (next_place g read) g.words of ∷ [] }
unfolding after next_place without_words with_command top_operand without_operand
act_assume text tokens read g s of = simp (top_last, below_last)

-- what the parts of a declaration make, behind its first token
pub record Declared (a c : Builder) : Type 0 where
  pub base : Builder
  pub list : List Bind
  pub start : ℕ
  pub of : Raw
  pub filed : Filed base
  pub is : c ≡ operand (bound base list) start of
  pub binds : AreBelow (length base.forms) (bind_parts list)
  pub within : of.form < length base.forms

declared : (text : List ℕ) (tokens : List Token) (read mid : ℕ) (b c d e : Builder)
    → (Filed (after text tokens (read + 1) action.CommandName (after text tokens read action.Begin b)) → Filed c) → Lists bound GoodBinds (after text tokens mid action.OpenBinds c) d → MakesForm d e → Filed b → Declared b e
declared text tokens read mid b c d e f g k h =
    let named = f (keeps text tokens (read + 1) action.CommandName (after text tokens read action.Begin b) refl (keeps text tokens read action.Begin b refl h)) in
    let l = g c [] (act_open_binds text tokens mid c) named.0 in
    let m = made_on (λ x. bound x l.new) (on_binds l.new) l.base d e l.is l.sound k in
    record {
      base = m.base;
      list = l.new;
      start = m.start;
      of = m.raw;
      filed = filed_grows c m.base named (grows_then l.grows m.grows) m.sound;
      is = m.is;
      binds = below_more (length l.base.forms) (length m.base.forms) (bind_parts l.new) (forms_longer m.grows) l.within.parts;
      within = m.within;
    }

-- the symbols of a declaration, behind its first token
abbrev pub declaration : List Symbol → List Symbol
declaration symbols = Do action.Begin ∷ One token.Name ∷ Do action.CommandName ∷ Sub rule.Uses ∷ Do action.OpenBinds ∷ Sub rule.Binders ∷ One token.Colon ∷ Sub rule.Term ∷ symbols

pub defines : (text : List ℕ) (tokens : List Token) (read : ℕ) (b b' : Builder) → Chain text tokens (declaration (One token.ColonEqual ∷ Sub rule.Term ∷ Do action.Define ∷ [])) read b b' → Filed b → Filed b'
defines text tokens read b b' p h =
    let x = p.1 in
    let y = x.3 in
    let z = y.3.1 in
    let w = z.3.1 in
    let d = declared text tokens read x.0 b x.1 y.1 z.1 x.2 y.2 z.2 h in
    let put = λ (x : Builder). operand (bound x d.list) d.start d.of in
    let m = made_on put (frame_then (λ x. operand x d.start d.of) (λ x. bound x d.list) (on_operand d.start d.of) (on_binds d.list)) d.base z.1 w.1 d.is d.filed.0 w.2 in
    let g = m.base in
    let longer = forms_longer m.grows in
    let filed = filed_grows d.base g d.filed m.grows m.sound in
    let made : b' ≡ commanded g (command.Def g.first (next_place g w.0) (top_name g) g.words d.list d.of m.raw) =
    sym w.3 ∙ ap (after text tokens w.0 action.Define) m.is ∙ act_define text tokens w.0 g d.list d.start m.start d.of m.raw in
    let parts : AreBelow (length g.forms) (bind_parts d.list ++ d.of ∷ m.raw ∷ []) =
    below_join (length g.forms) (bind_parts d.list) (d.of ∷ m.raw ∷ []) (below_more (length d.base.forms) (length g.forms) (bind_parts d.list) longer d.binds)
    ((below_more (length d.base.forms) (length g.forms) (d.of ∷ []) longer (d.within, tt)).0, (m.within, tt)) in
    subst Filed (sym made) (filed.0, commands_last (length g.forms) g.commands (command.Def g.first (next_place g w.0) (top_name g) g.words d.list d.of m.raw) filed.1 parts)

pub postulates : (text : List ℕ) (tokens : List Token) (read : ℕ) (b b' : Builder) → Chain text tokens (declaration (Do action.Postulate ∷ [])) read b b' → Filed b → Filed b'
postulates text tokens read b b' p h =
    let x = p.1 in
    let y = x.3 in
    let z = y.3.1 in
    let d = declared text tokens read x.0 b x.1 y.1 z.1 x.2 y.2 z.2 h in
    let g = d.base in
    let new = command.Post g.first (next_place g z.0) (top_name g) g.words d.list d.of in
    let made : b' ≡ commanded g new = sym z.3 ∙ ap (after text tokens z.0 action.Postulate) d.is ∙ act_postulate text tokens z.0 g d.list d.start d.of in
    subst Filed (sym made) (d.filed.0, commands_last (length g.forms) g.commands new d.filed.1 (below_join (length g.forms) (bind_parts d.list) (d.of ∷ []) d.binds (d.within, tt)))

-- one form in a builder that is filed
pub record Filing (a c : Builder) : Type 0 where
  pub base : Builder
  pub start : ℕ
  pub raw : Raw
  pub filed : Filed base
  pub is : c ≡ operand base start raw
  pub within : raw.form < length base.forms

filing : (a c : Builder) → MakesForm a c → Filed a → Filing a c
filing a c f h =
    let m = f h.0 in
    record { base = m.base; start = m.start; raw = m.raw; filed = filed_grows a m.base h m.grows m.sound; is = m.is; within = m.within }

pub checks : (text : List ℕ) (tokens : List Token) (read : ℕ) (b b' : Builder) → Chain text tokens (Do action.Begin ∷ Sub rule.Term ∷ One token.Colon ∷ Sub rule.Term ∷ Do action.Check ∷ []) read b b' → Filed b → Filed b'
checks text tokens read b b' p h =
    let w = p.3.1 in
    let t = filing (after text tokens read action.Begin b) p.1 p.2 (keeps text tokens read action.Begin b refl h) in
    let m = made_on (λ x. operand x t.start t.raw) (on_operand t.start t.raw) t.base p.1 w.1 t.is t.filed.0 w.2 in
    let g = m.base in
    let filed = filed_grows t.base g t.filed m.grows m.sound in
    let new = command.Check g.first (next_place g w.0) t.raw m.raw in
    let made : b' ≡ record g { commands = g.commands ++ new ∷ [] } = sym w.3 ∙ ap (after text tokens w.0 action.Check) m.is ∙ act_check text tokens w.0 g t.start m.start t.raw m.raw in
    subst Filed (sym made) (filed.0, commands_last (length g.forms) g.commands new filed.1 ((below_more (length t.base.forms) (length g.forms) (t.raw ∷ []) (forms_longer m.grows) (t.within, tt)).0, (m.within, tt)))

pub computes : (text : List ℕ) (tokens : List Token) (read : ℕ) (b b' : Builder) → Chain text tokens (Do action.Begin ∷ Sub rule.Term ∷ Do action.Compute ∷ []) read b b' → Filed b → Filed b'
computes text tokens read b b' p h =
    let t = filing (after text tokens read action.Begin b) p.1 p.2 (keeps text tokens read action.Begin b refl h) in
    let g = t.base in
    let new = command.Compute g.first (next_place g p.0) t.raw in
    let made : b' ≡ record g { commands = g.commands ++ new ∷ [] } = sym p.3 ∙ ap (after text tokens p.0 action.Compute) t.is ∙ act_compute text tokens p.0 g t.start t.raw in
    subst Filed (sym made) (t.filed.0, commands_last (length g.forms) g.commands new t.filed.1 (t.within, tt))

pub assumes : (text : List ℕ) (tokens : List Token) (read : ℕ) (b b' : Builder) → Chain text tokens (Do action.Begin ∷ One token.Name ∷ Do action.AddWord ∷ Sub rule.Words ∷ One token.Colon ∷ Sub rule.Term ∷ Do action.Assume ∷ []) read b b' → Filed b → Filed b'
assumes text tokens read b b' p h =
    let x = p.1 in
    let y = x.3.1 in
    let first = keeps text tokens (read + 1) action.AddWord (after text tokens read action.Begin b) refl (keeps text tokens read action.Begin b refl h) in
    let t = filing x.1 y.1 y.2 (x.2 first) in
    let g = t.base in
    let new = command.Assume g.first (next_place g y.0) g.words t.raw in
    let made : b' ≡ record g { words = []; commands = g.commands ++ new ∷ [] } = sym y.3 ∙ ap (after text tokens y.0 action.Assume) t.is ∙ act_assume text tokens y.0 g t.start t.raw in
    subst Filed (sym made) (t.filed.0, commands_last (length g.forms) g.commands new t.filed.1 (t.within, tt))
