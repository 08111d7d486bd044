-- The alternatives of the rules of forms do what is said of the rules.
use Rattle.std.proofs.Common.{◌≡◌, ℕ, ◌+◌, ◌<◌, true, List, [], ◌∷◌, ◌++◌, None, Some, length, refl, sym, ap, ◌∙◌, subst, arith, append_assoc, append-nil}
use Rattle.std.specs.Prelude.{slice_get}
use Rattle.rz_lex.specs.declared.token.Tok.TheVariants as token
use Rattle.rz_lex.specs.declared.token.Token.{Token}
use Rattle.rz_syntax.specs.declared.action.Action.{Action}
use Rattle.rz_syntax.specs.declared.action.Action.TheVariants as action
use Rattle.rz_syntax.specs.declared.action.Leaf.{Leaf}
use Rattle.rz_syntax.specs.declared.action.Leaf.TheVariants as leaf
use Rattle.rz_syntax.specs.declared.action.Join.{Join}
use Rattle.rz_syntax.specs.declared.action.Join.TheVariants as join
use Rattle.rz_syntax.specs.declared.builder.Builder.{Builder}
use Rattle.rz_syntax.specs.declared.forms.Raw.{Raw}
use Rattle.rz_syntax.specs.declared.forms.RawFace.{RawFace}
use Rattle.rz_syntax.specs.declared.forms.Shape.{Shape}
use Rattle.rz_syntax.specs.declared.forms.Form.{Form}
use Rattle.rz_syntax.specs.declared.forms.Form.TheVariants as form
use Rattle.rz_syntax.specs.declared.grammar.Symbol.TheVariants.{One, Do}
use Rattle.rz_syntax.specs.Building.{after, last_place, next_place, last_bytes, bytes_of, join_form, leaf_form}
use Rattle.rz_print.specs.Reading.{IsName}
use Rattle.rz_print.specs.Meaning.{face_parts}
use Rattle.rz_print.proofs.Atoms.{name_here}
use Rattle.rz_print.proofs.Gathering.{parts_join}
use Rattle.rz_print.proofs.Fitting.{some, two_or_more}
use Rattle.rz_print.proofs.Soundness.{AreBelow, below_more, below_join, FormStands, IsSound}
use Rattle.rz_print.proofs.Effects.{Sound, Grows, grows_none, grows_then, forms_longer, frame_then, on_operand, on_place, on_arguments, on_faces, Below, below, Made, MakesForm, made_on, new_form, made_below, Listed, Lists, GoodArguments, GoodFaces, SomeFaces, TakesForm, TakesPlace, Chain, NamesAre}
use Rattle.rz_print.proofs.Doing.{act_here, act_join, act_equal_at, act_bracketed, act_argument, act_head, act_apply, act_induction, act_face, act_cases, act_restrict, act_named, act_leaf, act_open_arguments, act_open_faces}
use Rattle.rz_print.proofs.States.{noted, operand, argued, faced, topped}

pub sound_below : {put : Builder → Builder} {a c : Builder} → (t : Below put a c) → Sound c → Sound t.base
sound_below {c} t s = subst (λ (fs : List Form). IsSound t.base.shapes fs) t.forms (subst (λ (ss : List Shape). IsSound ss c.forms) t.shapes s)

-- ---- one rule after another

pub makes_then : (b c b' : Builder) → MakesForm b c → TakesForm c b' → MakesForm b b'
makes_then b c b' f t s = let m = f s in made_below m.grows (t m.base m.start m.raw m.is m.sound m.within)

pub takes_then : (b c b' : Builder) → TakesForm b c → TakesForm c b' → TakesForm b b'
takes_then b c b' f t a start raw e s w = let m = f a start raw e s w in made_below m.grows (t m.base m.start m.raw m.is m.sound m.within)

pub takes_none : (b b' : Builder) → b ≡ b' → TakesForm b b'
takes_none b b' p a start raw e s w = record { base = a; grows = grows_none a; start = start; raw = raw; is = sym p ∙ e; sound = s; within = w }

-- a place, a form, and the end of it
pub place_then : (text : List ℕ) (tokens : List Token) (read : ℕ) (b c b' : Builder) → MakesForm (after text tokens read action.Here b) c → TakesPlace c b' → MakesForm b b'
place_then text tokens read b c b' f t s =
    let at = next_place b read in
    let m = made_on (λ x. noted x at) (on_place at) b (after text tokens read action.Here b) c (act_here text tokens read b) s f in
    made_below m.grows (t m.base at m.start m.raw m.is m.sound m.within)

-- ---- joins

join_stands : (count number : ℕ) (how : Join) (l r : Raw) → l.form < number → r.form < number → FormStands count number (join_form how l r)
join_stands count number join.And l r a b = record { parts = (a, (b, tt)); patterns = tt; fits = tt }
join_stands count number _ l r a b = record { parts = (a, (b, tt)); patterns = tt; fits = tt }

pub join_takes : (text : List ℕ) (tokens : List Token) (read : ℕ) (how : Join) (b c b' : Builder) → MakesForm b c → after text tokens read (action.Join how) c ≡ b' → TakesForm b b'
join_takes text tokens read how b c b' f q a start raw e s w =
    let m = made_on (λ x. operand x start raw) (on_operand start raw) a b c e s f in
    let longer = forms_longer m.grows in
    let made : b' ≡ topped m.base start (join_form how raw m.raw) = sym q ∙ ap (after text tokens read (action.Join how)) m.is ∙ act_join text tokens read m.base how start m.start raw m.raw in
    new_form a m.base b' m.grows m.sound (join_form how raw m.raw) (join_stands (length m.base.shapes) (length m.base.forms) how raw m.raw (omega arith) m.within) start start made

pub equal_takes : (text : List ℕ) (tokens : List Token) (read : ℕ) (b c d b' : Builder) → MakesForm b c → MakesForm c d → after text tokens read action.EqualAt d ≡ b' → TakesForm b b'
equal_takes text tokens read b c d b' f g q a start raw e s w =
    let m = made_on (λ x. operand x start raw) (on_operand start raw) a b c e s f in
    let n = made_on (λ x. operand (operand x start raw) m.start m.raw) (frame_then (λ x. operand x m.start m.raw) (λ x. operand x start raw) (on_operand m.start m.raw) (on_operand start raw)) m.base c d m.is m.sound g in
    let first = forms_longer m.grows in
    let second = forms_longer n.grows in
    let inner = m.within in
    let new = form.EqualAt m.raw raw n.raw in
    let made : b' ≡ topped n.base start new = sym q ∙ ap (after text tokens read action.EqualAt) n.is ∙ act_equal_at text tokens read n.base start m.start n.start raw m.raw n.raw in
    new_form a n.base b' (grows_then m.grows n.grows) n.sound new (record { parts = (omega arith, (omega arith, (n.within, tt))); patterns = tt; fits = tt }) start start made

-- ---- lists

pub lists_none : {X : Type 0} (put : Builder → List X → Builder) (W : Builder → List X → Type 0) (b b' : Builder) → b ≡ b' → ((a : Builder) → W a []) → Lists put W b b'
lists_none put W b b' p w a list e s = record {
  base = a;
  grows = grows_none a;
  new = [];
  is = sym p ∙ e ∙ ap (put a) (sym (append-nil list));
  sound = s;
  within = w a;
}

pub listed_then : {X : Type 0} (put : Builder → List X → Builder) (M N L : Builder → List X → Type 0) (a c b' : Builder) (list : List X)
    → ((x y : Builder) (xs ys : List X) → Grows x y → M x xs → N y ys → L y (xs ++ ys)) → Listed put M a list c → Lists put N c b' → Listed put L a list b'
listed_then put M N L a c b' list join m n =
    let l = n m.base (list ++ m.new) m.is m.sound in
    record {
      base = l.base;
      grows = grows_then m.grows l.grows;
      new = m.new ++ l.new;
      is = l.is ∙ ap (put l.base) (append_assoc list m.new l.new);
      sound = l.sound;
      within = join m.base l.base m.new l.new l.grows m.within l.within;
    }

pub arguments_good : (x y : Builder) (xs ys : List Raw) → Grows x y → GoodArguments x xs → GoodArguments y ys → GoodArguments y (xs ++ ys)
arguments_good x y xs ys g a b = below_join (length y.forms) xs ys (below_more (length x.forms) (length y.forms) xs (forms_longer g) a) b

pub faces_good : (x y : Builder) (xs ys : List RawFace) → Grows x y → GoodFaces x xs → GoodFaces y ys → GoodFaces y (xs ++ ys)
faces_good x y xs ys g a b =
    subst (λ (rs : List Raw). AreBelow (length y.forms) rs) (sym (parts_join xs ys))
    (below_join (length y.forms) (face_parts xs) (face_parts ys) (below_more (length x.forms) (length y.forms) (face_parts xs) (forms_longer g) a) b)

pub some_join : {X : Type 0} (xs ys : List X) → some xs ≡ true → some (xs ++ ys) ≡ true
some_join [] ys e = absurd (cc)
some_join (x ∷ xs) ys e = refl

two_join : {X : Type 0} (xs ys : List X) → some xs ≡ true → some ys ≡ true → two_or_more (xs ++ ys) ≡ true
two_join [] ys e f = absurd (cc)
two_join (x ∷ []) ys e f = f
two_join (x ∷ y ∷ xs) ys e f = refl

two_more : {X : Type 0} (xs ys : List X) → two_or_more xs ≡ true → two_or_more (xs ++ ys) ≡ true
two_more [] ys e = absurd (cc)
two_more (x ∷ []) ys e = absurd (cc)
two_more (x ∷ y ∷ xs) ys e = refl

-- ---- applications

pub argument_lists : (text : List ℕ) (tokens : List Token) (read : ℕ) (b c b' : Builder) → MakesForm b c → Lists argued GoodArguments (after text tokens read action.AddArgument c) b' → Lists argued GoodArguments b b'
argument_lists text tokens read b c b' f n a list e s =
    let m = made_on (λ x. argued x list) (on_arguments list) a b c e s f in
    let made : after text tokens read action.AddArgument c ≡ argued m.base (list ++ m.raw ∷ []) = ap (after text tokens read action.AddArgument) m.is ∙ act_argument text tokens read m.base list m.start m.raw in
    let one : Listed argued GoodArguments a list (after text tokens read action.AddArgument c) =
    record { base = m.base; grows = m.grows; new = m.raw ∷ []; is = made; sound = m.sound; within = (m.within, tt) } in
    listed_then argued GoodArguments GoodArguments GoodArguments a (after text tokens read action.AddArgument c) b' list arguments_good one n

applied : (text : List ℕ) (tokens : List Token) (read : ℕ) (a g d b' : Builder) (start : ℕ) (raw : Raw) (list : List Raw) → Grows a g → Sound g → raw.form < length g.forms → GoodArguments g list
    → d ≡ argued (operand g start raw) list → after text tokens read action.Apply d ≡ b' → Made a b'
applied text tokens read a g d b' start raw [] h s w within e q =
    record { base = g; grows = h; start = start; raw = raw; is = sym q ∙ ap (after text tokens read action.Apply) e ∙ act_head text tokens read g start raw; sound = s; within = w }
applied text tokens read a g d b' start raw (arg ∷ args) h s w within e q =
    new_form a g b' h s (form.App raw (arg ∷ args)) (record { parts = (w, within); patterns = tt; fits = refl }) start start
    (sym q ∙ ap (after text tokens read action.Apply) e ∙ act_apply text tokens read g start raw arg args)

pub application_makes : (text : List ℕ) (tokens : List Token) (read mid : ℕ) (b c d b' : Builder) → MakesForm (after text tokens read action.OpenArguments b) c → Lists argued GoodArguments c d
    → after text tokens mid action.Apply d ≡ b' → MakesForm b b'
application_makes text tokens read mid b c d b' f n q s =
    let m = made_on (λ x. argued x []) (on_arguments []) b (after text tokens read action.OpenArguments b) c (act_open_arguments text tokens read b) s f in
    let l = n (operand m.base m.start m.raw) [] m.is m.sound in
    let t = below (λ x. operand x m.start m.raw) (on_operand m.start m.raw) m.base (operand m.base m.start m.raw) l.base refl l.grows in
    let longer = forms_longer t.grows in
    let inner = m.within in
    applied text tokens mid b t.base d b' m.start m.raw l.new (grows_then m.grows t.grows) (sound_below t l.sound) (omega arith)
    (subst (λ (fs : List Form). AreBelow (length fs) l.new) t.forms l.within) (l.is ∙ ap (λ (x : Builder). argued x l.new) t.is) q

-- ---- one part and two, at a place

pub unary_takes : (text : List ℕ) (tokens : List Token) (read : ℕ) (act : Action) (make : Raw → Form)
    → ((g : Builder) (at s : ℕ) (l : Raw) → after text tokens read act (operand (noted g at) s l) ≡ topped g at (make l))
    → ((count number : ℕ) (l : Raw) → l.form < number → FormStands count number (make l))
    → (b b' : Builder) → after text tokens read act b ≡ b' → TakesPlace b b'
unary_takes text tokens read act make acts stands b b' q a at start raw e s w =
    new_form a a b' (grows_none a) s (make raw) (stands (length a.shapes) (length a.forms) raw w) at at (sym q ∙ ap (after text tokens read act) e ∙ acts a at start raw)

pub binary_takes : (text : List ℕ) (tokens : List Token) (read : ℕ) (act : Action) (make : Raw → Raw → Form)
    → ((g : Builder) (at s t : ℕ) (l r : Raw) → after text tokens read act (operand (operand (noted g at) s l) t r) ≡ topped g at (make l r))
    → ((count number : ℕ) (l r : Raw) → l.form < number → r.form < number → FormStands count number (make l r))
    → (b c b' : Builder) → MakesForm b c → after text tokens read act c ≡ b' → TakesPlace b b'
binary_takes text tokens read act make acts stands b c b' f q a at start raw e s w =
    let m = made_on (λ x. operand (noted x at) start raw) (frame_then (λ x. operand x start raw) (λ x. noted x at) (on_operand start raw) (on_place at)) a b c e s f in
    let longer = forms_longer m.grows in
    new_form a m.base b' m.grows m.sound (make raw m.raw) (stands (length m.base.shapes) (length m.base.forms) raw m.raw (omega arith) m.within) at at
    (sym q ∙ ap (after text tokens read act) m.is ∙ acts m.base at start m.start raw m.raw)

pub first_stands : (count number : ℕ) (l : Raw) → l.form < number → FormStands count number (form.First l)
first_stands count number l a = record { parts = (a, tt); patterns = tt; fits = tt }

pub second_stands : (count number : ℕ) (l : Raw) → l.form < number → FormStands count number (form.Second l)
second_stands count number l a = record { parts = (a, tt); patterns = tt; fits = tt }

pub refl_stands : (count number : ℕ) (l : Raw) → l.form < number → FormStands count number (form.ReflAt l None)
refl_stands count number l a = record { parts = (a, tt); patterns = tt; fits = tt }

pub refl_typed_stands : (count number : ℕ) (l r : Raw) → l.form < number → r.form < number → FormStands count number (form.ReflAt l (Some r))
refl_typed_stands count number l r a b = record { parts = (a, (b, tt)); patterns = tt; fits = tt }

pub pair_stands : (count number : ℕ) (l r : Raw) → l.form < number → r.form < number → FormStands count number (form.Pair l r)
pair_stands count number l r a b = record { parts = (a, (b, tt)); patterns = tt; fits = tt }

pub brackets_take : (text : List ℕ) (tokens : List Token) (read : ℕ) (b b' : Builder) → after text tokens read action.Bracketed b ≡ b' → TakesPlace b b'
brackets_take text tokens read b b' q a at start raw e s w =
    record { base = a; grows = grows_none a; start = at; raw = raw; is = sym q ∙ ap (after text tokens read action.Bracketed) e ∙ act_bracketed text tokens read a at start raw; sound = s; within = w }

-- ---- names and forms without parts

pub name_makes : (text : List ℕ) (tokens : List Token) → NamesAre text tokens → (read : ℕ) (b b' : Builder) → Chain text tokens (One token.Name ∷ Do action.Named ∷ []) read b b' → MakesForm b b'
name_makes text tokens names read b b' p s =
    let name : IsName (last_bytes text tokens (read + 1)) = subst IsName (sym (name_here text tokens read (bytes_of text (slice_get tokens read)) refl)) (names read p.0) in
    new_form b b b' (grows_none b) s (form.Named (last_bytes text tokens (read + 1))) (record { parts = tt; patterns = tt; fits = name }) (last_place b (read + 1)) (last_place b (read + 1))
    (sym p.1 ∙ act_named text tokens (read + 1) b)

leaf_stands : (count number : ℕ) (kind : Leaf) → FormStands count number (leaf_form kind)
leaf_stands count number leaf.Universe = record { parts = tt; patterns = tt; fits = tt }
leaf_stands count number _ = record { parts = tt; patterns = tt; fits = tt }

pub leaf_makes : (text : List ℕ) (tokens : List Token) (read : ℕ) (kind : Leaf) (b b' : Builder) → after text tokens read (action.Leaf kind) b ≡ b' → MakesForm b b'
leaf_makes text tokens read kind b b' q s =
    new_form b b b' (grows_none b) s (leaf_form kind) (leaf_stands (length b.shapes) (length b.forms) kind) (last_place b read) (last_place b read) (sym q ∙ act_leaf text tokens read b kind)

-- ---- faces

pub face_lists : (text : List ℕ) (tokens : List Token) (read : ℕ) (b c d b' : Builder) → MakesForm b c → MakesForm c d → after text tokens read action.AddFace d ≡ b' → Lists faced SomeFaces b b'
face_lists text tokens read b c d b' f g q a list e s =
    let m = made_on (λ x. faced x list) (on_faces list) a b c e s f in
    let n = made_on (λ x. operand (faced x list) m.start m.raw) (frame_then (λ x. operand x m.start m.raw) (λ x. faced x list) (on_operand m.start m.raw) (on_faces list)) m.base c d m.is m.sound g in
    let longer = forms_longer n.grows in
    let inner = m.within in
    record {
      base = n.base;
      grows = grows_then m.grows n.grows;
      new = record { tope = m.raw; term = n.raw } ∷ [];
      is = sym q ∙ ap (after text tokens read action.AddFace) n.is ∙ act_face text tokens read n.base list m.start n.start m.raw n.raw;
      sound = n.sound;
      within = ((omega arith, (n.within, tt)), refl);
    }

pub more_faces_list : (b c b' : Builder) → Lists faced SomeFaces b c → Lists faced GoodFaces c b' → Lists faced GoodFaces b b'
more_faces_list b c b' m n a list e s = listed_then faced SomeFaces GoodFaces GoodFaces a c b' list (λ x y xs ys g h k. faces_good x y xs ys g h.0 k) (m a list e s) n

-- two lists of faces, of which the first has one
some_faces : (a b c d : Builder) (list : List RawFace) → Listed faced SomeFaces a list c → Lists faced GoodFaces c d → Listed faced SomeFaces a list d
some_faces a b c d list m n = listed_then faced SomeFaces GoodFaces SomeFaces a c d list (λ x y xs ys g h k. (faces_good x y xs ys g h.0 k, some_join xs ys h.1)) m n

abbrev TwoFaces : Builder → List RawFace → Type 0
TwoFaces b list = GoodFaces b list × (two_or_more list ≡ true)

pub restrict_takes : (text : List ℕ) (tokens : List Token) (read mid : ℕ) (b c d b' : Builder) → Lists faced SomeFaces (after text tokens read action.OpenFaces b) c → Lists faced GoodFaces c d
    → after text tokens mid action.Restrict d ≡ b' → TakesForm b b'
restrict_takes text tokens read mid b c d b' m n q a start raw e s w =
    let opened : after text tokens read action.OpenFaces b ≡ faced (operand a start raw) [] = ap (after text tokens read action.OpenFaces) e ∙ act_open_faces text tokens read (operand a start raw) in
    let l = some_faces (operand a start raw) b c d [] (m (operand a start raw) [] opened s) n in
    let t = below (λ x. operand x start raw) (on_operand start raw) a (operand a start raw) l.base refl l.grows in
    let longer = forms_longer t.grows in
    let faces : AreBelow (length t.base.forms) (face_parts l.new) = subst (λ (fs : List Form). AreBelow (length fs) (face_parts l.new)) t.forms l.within.0 in
    new_form a t.base b' t.grows (sound_below t l.sound) (form.Restrict raw l.new) (record { parts = (omega arith, faces); patterns = tt; fits = l.within.1 }) start start
    (sym q ∙ ap (after text tokens mid action.Restrict) (l.is ∙ ap (λ (x : Builder). faced x l.new) t.is) ∙ act_restrict text tokens mid t.base start raw l.new)

pub cases_make : (text : List ℕ) (tokens : List Token) (read mid : ℕ) (b c d o b' : Builder) → Lists faced SomeFaces (after text tokens read action.OpenFaces (after text tokens read action.Here b)) c → Lists faced SomeFaces c d → Lists faced GoodFaces d o
    → after text tokens mid action.RecOr o ≡ b' → MakesForm b b'
cases_make text tokens read mid b c d o b' m n k q s =
    let at = next_place b read in
    let opened : after text tokens read action.OpenFaces (after text tokens read action.Here b) ≡ faced (noted b at) [] =
    ap (after text tokens read action.OpenFaces) (act_here text tokens read b) ∙ act_open_faces text tokens read (noted b at) in
    let two : Listed faced TwoFaces (noted b at) [] d =
    listed_then faced SomeFaces SomeFaces TwoFaces (noted b at) c d [] (λ x y xs ys g h i. (faces_good x y xs ys g h.0 i.0, two_join xs ys h.1 i.1)) (m (noted b at) [] opened s) n in
    let l : Listed faced TwoFaces (noted b at) [] o =
    listed_then faced TwoFaces GoodFaces TwoFaces (noted b at) d o [] (λ x y xs ys g h i. (faces_good x y xs ys g h.0 i, two_more xs ys h.1)) two k in
    let t = below (λ x. noted x at) (on_place at) b (noted b at) l.base refl l.grows in
    let faces : AreBelow (length t.base.forms) (face_parts l.new) = subst (λ (fs : List Form). AreBelow (length fs) (face_parts l.new)) t.forms l.within.0 in
    new_form b t.base b' t.grows (sound_below t l.sound) (form.RecOr l.new) (record { parts = faces; patterns = tt; fits = l.within.1 }) at at
    (sym q ∙ ap (after text tokens mid action.RecOr) (l.is ∙ ap (λ (x : Builder). faced x l.new) t.is) ∙ act_cases text tokens mid t.base at l.new)

-- ---- six arguments

pub record Argued (text : List ℕ) (tokens : List Token) (read at : ℕ) (a c : Builder) (list : List Raw) : Type 0 where
  pub base : Builder
  pub grows : Grows a base
  pub raw : Raw
  pub is : after text tokens read action.AddArgument c ≡ argued (noted base at) (list ++ raw ∷ [])
  pub sound : Sound base
  pub within : GoodArguments base (list ++ raw ∷ [])

one_argument : (text : List ℕ) (tokens : List Token) (read at : ℕ) (a b c : Builder) (list : List Raw) → b ≡ argued (noted a at) list → Sound a → GoodArguments a list → MakesForm b c → Argued text tokens read at a c list
one_argument text tokens read at a b c list e s h f =
    let m = made_on (λ x. argued (noted x at) list) (frame_then (λ x. argued x list) (λ x. noted x at) (on_arguments list) (on_place at)) a b c e s f in
    record {
      base = m.base;
      grows = m.grows;
      raw = m.raw;
      is = ap (after text tokens read action.AddArgument) m.is ∙ act_argument text tokens read (noted m.base at) list m.start m.raw;
      sound = m.sound;
      within = arguments_good a m.base list (m.raw ∷ []) m.grows h (m.within, tt);
    }

pub induction_makes : (text : List ℕ) (tokens : List Token) (read r1 r2 r3 r4 r5 r6 r7 : ℕ) (b c1 c2 c3 c4 c5 c6 b' : Builder)
    → MakesForm (after text tokens read action.OpenArguments (after text tokens read action.Here b)) c1
    → MakesForm (after text tokens r1 action.AddArgument c1) c2 → MakesForm (after text tokens r2 action.AddArgument c2) c3 → MakesForm (after text tokens r3 action.AddArgument c3) c4
    → MakesForm (after text tokens r4 action.AddArgument c4) c5 → MakesForm (after text tokens r5 action.AddArgument c5) c6
    → after text tokens r7 action.IdJ (after text tokens r6 action.AddArgument c6) ≡ b' → MakesForm b b'
induction_makes text tokens read r1 r2 r3 r4 r5 r6 r7 b c1 c2 c3 c4 c5 c6 b' f1 f2 f3 f4 f5 f6 q s =
    let at = next_place b read in
    let opened : after text tokens read action.OpenArguments (after text tokens read action.Here b) ≡ argued (noted b at) [] =
    ap (after text tokens read action.OpenArguments) (act_here text tokens read b) ∙ act_open_arguments text tokens read (noted b at) in
    let x1 = one_argument text tokens r1 at b (after text tokens read action.OpenArguments (after text tokens read action.Here b)) c1 [] opened s tt f1 in
    let x2 = one_argument text tokens r2 at x1.base (after text tokens r1 action.AddArgument c1) c2 (x1.raw ∷ []) x1.is x1.sound x1.within f2 in
    let x3 = one_argument text tokens r3 at x2.base (after text tokens r2 action.AddArgument c2) c3 (x1.raw ∷ x2.raw ∷ []) x2.is x2.sound x2.within f3 in
    let x4 = one_argument text tokens r4 at x3.base (after text tokens r3 action.AddArgument c3) c4 (x1.raw ∷ x2.raw ∷ x3.raw ∷ []) x3.is x3.sound x3.within f4 in
    let x5 = one_argument text tokens r5 at x4.base (after text tokens r4 action.AddArgument c4) c5 (x1.raw ∷ x2.raw ∷ x3.raw ∷ x4.raw ∷ []) x4.is x4.sound x4.within f5 in
    let x6 = one_argument text tokens r6 at x5.base (after text tokens r5 action.AddArgument c5) c6 (x1.raw ∷ x2.raw ∷ x3.raw ∷ x4.raw ∷ x5.raw ∷ []) x5.is x5.sound x5.within f6 in
    let list = x1.raw ∷ x2.raw ∷ x3.raw ∷ x4.raw ∷ x5.raw ∷ x6.raw ∷ [] in
    let grows = grows_then x1.grows (grows_then x2.grows (grows_then x3.grows (grows_then x4.grows (grows_then x5.grows x6.grows)))) in
    new_form b x6.base b' grows x6.sound (form.IdJ list) (record { parts = x6.within; patterns = tt; fits = refl }) at at
    (sym q ∙ ap (after text tokens r7 action.IdJ) x6.is ∙ act_induction text tokens r7 x6.base at list)
