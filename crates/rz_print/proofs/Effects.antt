-- What the rules of the grammar do to a builder, whatever the tokens.
use Rattle.std.proofs.Common.{◌≡◌, ℕ, ◌+◌, ◌<◌, ◌≤◌, true, List, [], ◌∷◌, ◌++◌, inl, inr, Some, length, refl, sym, ap, ◌∙◌, subst, arith, append-nil, length-append}
use Rattle.std.specs.Prelude.{slice_get}
use Rattle.rz_lex.specs.declared.token.Tok.TheVariants as token
use Rattle.rz_lex.specs.declared.token.Token.{Token}
use Rattle.rz_syntax.specs.declared.builder.Builder.{Builder}
use Rattle.rz_syntax.specs.declared.forms.Raw.{Raw}
use Rattle.rz_syntax.specs.declared.forms.Pat.{Pat}
use Rattle.rz_syntax.specs.declared.forms.Bind.{Bind}
use Rattle.rz_syntax.specs.declared.forms.RawFace.{RawFace}
use Rattle.rz_syntax.specs.declared.forms.Shape.{Shape}
use Rattle.rz_syntax.specs.declared.forms.Form.{Form}
use Rattle.rz_syntax.specs.declared.forms.Command.{Command}
use Rattle.rz_syntax.specs.declared.grammar.Symbol.{Symbol}
use Rattle.rz_syntax.specs.declared.grammar.Symbol.TheVariants.{One, Sub, Do}
use Rattle.rz_syntax.specs.declared.grammar.Rule.{Rule}
use Rattle.rz_syntax.specs.declared.grammar.Rule.TheVariants as rule
use Rattle.rz_syntax.specs.Grammar.{kinds_of, IsOneOf}
use Rattle.rz_syntax.specs.Building.{after, bytes_of}
use Rattle.rz_print.specs.Reading.{IsName}
use Rattle.rz_print.specs.Meaning.{forms_named, face_parts, bind_parts}
use Rattle.rz_print.proofs.Binding.{pats_of}
use Rattle.rz_print.proofs.Fitting.{some, is_typed, AreParameters}
use Rattle.rz_print.proofs.Soundness.{AreBelow, PatsBelow, FormStands, IsSound, sound_form}
use Rattle.rz_print.proofs.States.{noted, formed, patterned, grown, shaped, operand, argued, faced, grouped, bound, grown_none, grown_twice}

-- ---- builders that grow

abbrev pub Sound : Builder → Type 0
Sound b = IsSound b.shapes b.forms

pub record Grows (a b : Builder) : Type 0 where
  pub shapes : List Shape
  pub forms : List Form
  pub is : b ≡ grown a shapes forms

pub grows_none : (a : Builder) → Grows a a
grows_none a = record { shapes = []; forms = []; is = grown_none a }

pub grows_then : {a b c : Builder} → Grows a b → Grows b c → Grows a c
grows_then {a} g h = record {
  shapes = g.shapes ++ h.shapes;
  forms = g.forms ++ h.forms;
  is = h.is ∙ ap (λ (x : Builder). grown x h.shapes h.forms) g.is ∙ grown_twice a g.shapes h.shapes g.forms h.forms;
}

pub grows_form : (a : Builder) (new : Form) → Grows a (formed a new)
grows_form a new = record { shapes = []; forms = new ∷ []; is = simp append-nil }

pub grows_shape : (a : Builder) (new : Shape) → Grows a (shaped a (new ∷ []))
grows_shape a new = record { shapes = new ∷ []; forms = []; is = simp append-nil }

pub forms_longer : {a b : Builder} → Grows a b → length a.forms ≤ length b.forms
forms_longer {a} {b} g =
    let e : length b.forms ≡ length (a.forms ++ g.forms) = ap (λ (x : Builder). length x.forms) g.is in
    omega (arith, length-append a.forms g.forms)

pub shapes_longer : {a b : Builder} → Grows a b → length a.shapes ≤ length b.shapes
shapes_longer {a} {b} g =
    let e : length b.shapes ≡ length (a.shapes ++ g.shapes) = ap (λ (x : Builder). length x.shapes) g.is in
    omega (arith, length-append a.shapes g.shapes)

-- ---- what stands on top while more is read

pub record Frame (put : Builder → Builder) : Type 0 where
  pub grows : (a : Builder) (s : List Shape) (f : List Form) → grown (put a) s f ≡ put (grown a s f)
  pub shapes : (a : Builder) → (put a).shapes ≡ a.shapes
  pub forms : (a : Builder) → (put a).forms ≡ a.forms

pub frame_then : (p q : Builder → Builder) → Frame p → Frame q → Frame (λ x. p (q x))
frame_then p q f g = record {
  grows = λ a s h. f.grows (q a) s h ∙ ap p (g.grows a s h);
  shapes = λ a. f.shapes (q a) ∙ g.shapes a;
  forms = λ a. f.forms (q a) ∙ g.forms a;
}

pub on_operand : (start : ℕ) (raw : Raw) → Frame (λ x. operand x start raw)
on_operand start raw = record { grows = λ a s f. refl; shapes = λ a. refl; forms = λ a. refl }

pub on_place : (at : ℕ) → Frame (λ x. noted x at)
on_place at = record { grows = λ a s f. refl; shapes = λ a. refl; forms = λ a. refl }

pub on_pattern : (pat : Pat) → Frame (λ x. patterned x pat)
on_pattern pat = record { grows = λ a s f. refl; shapes = λ a. refl; forms = λ a. refl }

pub on_arguments : (list : List Raw) → Frame (λ x. argued x list)
on_arguments list = record { grows = λ a s f. refl; shapes = λ a. refl; forms = λ a. refl }

pub on_faces : (list : List RawFace) → Frame (λ x. faced x list)
on_faces list = record { grows = λ a s f. refl; shapes = λ a. refl; forms = λ a. refl }

pub on_group : (list : List Pat) → Frame (λ x. grouped x list)
on_group list = record { grows = λ a s f. refl; shapes = λ a. refl; forms = λ a. refl }

pub on_binds : (list : List Bind) → Frame (λ x. bound x list)
on_binds list = record { grows = λ a s f. refl; shapes = λ a. refl; forms = λ a. refl }

pub sound_on : (put : Builder → Builder) → Frame put → (a b : Builder) → b ≡ put a → Sound a → Sound b
sound_on put f a b e s =
    subst Sound (sym e) (subst (λ (fs : List Form). IsSound (put a).shapes fs) (sym (f.forms a)) (subst (λ (ss : List Shape). IsSound ss a.forms) (sym (f.shapes a)) s))

-- what has grown below
pub record Below (put : Builder → Builder) (a c : Builder) : Type 0 where
  pub base : Builder
  pub grows : Grows a base
  pub is : c ≡ put base
  pub shapes : c.shapes ≡ base.shapes
  pub forms : c.forms ≡ base.forms

pub below : (put : Builder → Builder) → Frame put → (a b c : Builder) → b ≡ put a → Grows b c → Below put a c
below put f a b c e g =
    let is : c ≡ put (grown a g.shapes g.forms) = g.is ∙ ap (λ (x : Builder). grown x g.shapes g.forms) e ∙ f.grows a g.shapes g.forms in
    record {
      base = grown a g.shapes g.forms;
      grows = record { shapes = g.shapes; forms = g.forms; is = refl };
      is = is;
      shapes = ap (λ (x : Builder). x.shapes) is ∙ f.shapes (grown a g.shapes g.forms);
      forms = ap (λ (x : Builder). x.forms) is ∙ f.forms (grown a g.shapes g.forms);
    }

-- ---- a form is made

pub record Made (a b : Builder) : Type 0 where
  pub base : Builder
  pub grows : Grows a base
  pub start : ℕ
  pub raw : Raw
  pub is : b ≡ operand base start raw
  pub sound : Sound base
  pub within : raw.form < length base.forms

abbrev pub MakesForm : Builder → Builder → Type 0
MakesForm b b' = Sound b → Made b b'

-- a form is made above what stands on top
pub record MadeOn (put : Builder → Builder) (a b : Builder) : Type 0 where
  pub base : Builder
  pub grows : Grows a base
  pub start : ℕ
  pub raw : Raw
  pub is : b ≡ operand (put base) start raw
  pub sound : Sound base
  pub within : raw.form < length base.forms

pub made_on : (put : Builder → Builder) → Frame put → (a b c : Builder) → b ≡ put a → Sound a → MakesForm b c → MadeOn put a c
made_on put f a b c e s eff =
    let m = eff (sound_on put f a b e s) in
    let t = below put f a b m.base e m.grows in
    record {
      base = t.base;
      grows = t.grows;
      start = m.start;
      raw = m.raw;
      is = m.is ∙ ap (λ (x : Builder). operand x m.start m.raw) t.is;
      sound = subst (λ (fs : List Form). IsSound t.base.shapes fs) t.forms (subst (λ (ss : List Shape). IsSound ss m.base.forms) t.shapes m.sound);
      within = subst (λ (fs : List Form). m.raw.form < length fs) t.forms m.within;
    }

-- the last step: a new form
pub new_form : (a g b : Builder) → Grows a g → Sound g → (new : Form) → FormStands (length g.shapes) (length g.forms) new → (start at : ℕ)
    → b ≡ operand (formed g new) start (record { form = length g.forms; at = at }) → Made a b
new_form a g b h s new stands start at e = record {
  base = formed g new;
  grows = grows_then h (grows_form g new);
  start = start;
  raw = record { form = length g.forms; at = at };
  is = e;
  sound = sound_form g.shapes g.forms new s stands;
  within = omega (arith, length-append g.forms (new ∷ []));
}

pub made_below : {a g b : Builder} → Grows a g → Made g b → Made a b
made_below h m = record { base = m.base; grows = grows_then h m.grows; start = m.start; raw = m.raw; is = m.is; sound = m.sound; within = m.within }

-- ---- a list on top grows

pub record Listed {X : Type 0} (put : Builder → List X → Builder) (W : Builder → List X → Type 0) (a : Builder) (list : List X) (b : Builder) : Type 0 where
  pub base : Builder
  pub grows : Grows a base
  pub new : List X
  pub is : b ≡ put base (list ++ new)
  pub sound : Sound base
  pub within : W base new

abbrev pub Lists : {X : Type 0} → (Builder → List X → Builder) → (Builder → List X → Type 0) → Builder → Builder → Type 0
Lists {X} put W b b' = (a : Builder) (list : List X) → b ≡ put a list → Sound a → Listed put W a list b'

abbrev pub GoodArguments : Builder → List Raw → Type 0
GoodArguments b list = AreBelow (length b.forms) list

abbrev pub GoodFaces : Builder → List RawFace → Type 0
GoodFaces b list = AreBelow (length b.forms) (face_parts list)

abbrev pub SomeFaces : Builder → List RawFace → Type 0
SomeFaces b list = GoodFaces b list × (some list ≡ true)

abbrev pub GoodPatterns : Builder → List Pat → Type 0
GoodPatterns b list = PatsBelow (length b.shapes) list

abbrev pub AreTyped : List Bind → Type 0
AreTyped [] = Unit {0}
AreTyped (bind ∷ binds) = (is_typed bind.of ≡ true) × AreTyped binds

pub record GoodBinds (b : Builder) (list : List Bind) : Type 0 where
  pub parts : AreBelow (length b.forms) (bind_parts list)
  pub patterns : PatsBelow (length b.shapes) (pats_of list)
  pub fit : AreParameters list

-- with one binder or more
abbrev pub SomeBinds : Builder → List Bind → Type 0
SomeBinds b list = GoodBinds b list × (some list ≡ true)

-- with a type each
abbrev pub TypedBinds : Builder → List Bind → Type 0
TypedBinds b list = GoodBinds b list × AreTyped list × (some list ≡ true)

-- ---- a pattern is made

pub record Draws (a b : Builder) : Type 0 where
  pub base : Builder
  pub grows : Grows a base
  pub pat : Pat
  pub is : b ≡ patterned base pat
  pub sound : Sound base
  pub within : pat.shape < length base.shapes

-- ---- what each rule does

-- takes a form, and makes another
abbrev pub TakesForm : Builder → Builder → Type 0
TakesForm b b' = (a : Builder) (start : ℕ) (raw : Raw) → b ≡ operand a start raw → Sound a → raw.form < length a.forms → Made a b'

-- takes a place and a form
abbrev pub TakesPlace : Builder → Builder → Type 0
TakesPlace b b' = (a : Builder) (at start : ℕ) (raw : Raw) → b ≡ operand (noted a at) start raw → Sound a → raw.form < length a.forms → Made a b'

-- takes a type and patterns
abbrev pub TakesType : Builder → Builder → Type 0
TakesType b b' =
    (a : Builder) (list : List Bind) (group : List Pat) (start : ℕ) (of : Raw) → b ≡ operand (grouped (bound a list) group) start of → Sound a
    → GoodPatterns a group → some group ≡ true → of.form < length a.forms → Listed bound TypedBinds a list b'

-- the forms that commands name stand before a number
abbrev pub CommandsBelow : ℕ → List Command → Type 0
CommandsBelow count [] = Unit {0}
CommandsBelow count (one ∷ list) = AreBelow count (forms_named one) × CommandsBelow count list

-- the tables are sound, and the commands name forms that stand there
abbrev pub Filed : Builder → Type 0
Filed b = Sound b × CommandsBelow (length b.forms) b.commands

-- of the rules of sequents, which are not printed, nothing is said
abbrev pub Effect : Rule → Builder → Builder → Type 0
Effect rule.Binders b b' = Lists bound GoodBinds b b'
Effect rule.Binder b b' = Lists bound TypedBinds b b'
Effect rule.Tope b b' = TakesType b b'
Effect rule.Patterns b b' = Lists grouped GoodPatterns b b'
Effect rule.Pattern b b' = Sound b → Draws b b'
Effect rule.Term b b' = MakesForm b b'
Effect rule.Tail b b' = TakesForm b b'
Effect rule.Parameters b b' = Lists bound GoodBinds b b'
Effect rule.Parameter b b' = Lists bound SomeBinds b b'
Effect rule.Rest b b' = MakesForm b b'
Effect rule.Faces b b' = TakesForm b b'
Effect rule.MoreFaces b b' = Lists faced GoodFaces b b'
Effect rule.Face b b' = Lists faced SomeFaces b b'
Effect rule.Disjunction b b' = MakesForm b b'
Effect rule.MoreDisjunction b b' = TakesForm b b'
Effect rule.Conjunction b b' = MakesForm b b'
Effect rule.MoreConjunction b b' = TakesForm b b'
Effect rule.Relation b b' = MakesForm b b'
Effect rule.RightSide b b' = TakesForm b b'
Effect rule.Product b b' = MakesForm b b'
Effect rule.MoreProduct b b' = TakesForm b b'
Effect rule.Application b b' = MakesForm b b'
Effect rule.Head b b' = MakesForm b b'
Effect rule.Arguments b b' = Lists argued GoodArguments b b'
Effect rule.Atom b b' = MakesForm b b'
Effect rule.ReflEnd b b' = TakesPlace b b'
Effect rule.Closing b b' = TakesPlace b b'
Effect rule.Sequent b b' = Unit {0}
Effect rule.Entries b b' = Unit {0}
Effect rule.MoreEntries b b' = Unit {0}
Effect rule.Names b b' = Unit {0}
Effect rule.Hypotheses b b' = Unit {0}
Effect rule.MoreHypotheses b b' = Unit {0}
Effect _ b b' = Filed b → Filed b'

-- what symbols do, one after another
abbrev pub Chain : List ℕ → List Token → List Symbol → ℕ → Builder → Builder → Type 0
Chain text tokens [] read b b' = b ≡ b'
Chain text tokens (One kind ∷ symbols) read b b' = (slice_get (kinds_of tokens) read ≡ Some kind) × Chain text tokens symbols (read + 1) b b'
Chain text tokens (Sub rule ∷ symbols) read b b' = (mid : ℕ) × (c : Builder) × Effect rule b c × Chain text tokens symbols mid c b'
Chain text tokens (Do act ∷ symbols) read b b' = Chain text tokens symbols read (after text tokens read act b) b'

-- the tokens that are names are spelled like names
abbrev pub NamesAre : List ℕ → List Token → Type 0
NamesAre text tokens = (read : ℕ) → slice_get (kinds_of tokens) read ≡ Some token.Name → IsName (bytes_of text (slice_get tokens read))

-- ---- one alternative of several

abbrev pub Cases : (List Symbol → Type 0) → Type 0 → List (List Symbol) → Type 0
Cases P R [] = Unit {0}
Cases P R (symbols ∷ others) = (P symbols → R) × Cases P R others

pub each : (P : List Symbol → Type 0) (R : Type 0) (inner : List Symbol) (among : List (List Symbol)) → Cases P R among → IsOneOf inner among → P inner → R
each P R inner [] c h p = absurd h
each P R inner (symbols ∷ others) c (inl e) p = c.0 (subst P e p)
each P R inner (symbols ∷ others) c (inr h) p = each P R inner others c.1 h p
