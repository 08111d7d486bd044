-- Which trees a text may have.
use Rattle.std.proofs.Common.{◌≡◌, ℕ, zero, suc, Bool, true, false, List, [], ◌∷◌, Option, None, Some, map, refl, sym, ◌∙◌}
use Rattle.rz_syntax.specs.declared.forms.Raw.{Raw}
use Rattle.rz_syntax.specs.declared.forms.Bind.{Bind}
use Rattle.rz_syntax.specs.declared.forms.Form.{Form}
use Rattle.rz_syntax.specs.declared.forms.Form.TheVariants as form
use Rattle.rz_syntax.specs.Building.{no_raw}
use Rattle.rz_print.specs.Reading.{IsName}
use Rattle.rz_print.specs.Meaning.{PatternTree, NameOf, NoName, PairOf, Tree, At, Trees, Nil, And, bare, bare_option, bare_bind, bare_face}

-- ---- how many

abbrev pub some : {X : Type 0} → List X → Bool
some [] = false
some (x ∷ xs) = true

abbrev pub two_or_more : {X : Type 0} → List X → Bool
two_or_more [] = false
two_or_more (x ∷ xs) = some xs

abbrev pub none : {X : Type 0} → List X → Bool
none [] = true
none (x ∷ xs) = false

-- so many
abbrev pub counts : {X : Type 0} → ℕ → List X → Bool
counts zero xs = none xs
counts (suc n) [] = false
counts (suc n) (x ∷ xs) = counts n xs

abbrev pub six : {X : Type 0} → List X → Bool
six xs = counts 6 xs

some_map : {X Y : Type 0} (f : X → Y) (xs : List X) → some (map f xs) ≡ some xs
some_map f [] = refl
some_map f (x ∷ xs) = refl

two_map : {X Y : Type 0} (f : X → Y) (xs : List X) → two_or_more (map f xs) ≡ two_or_more xs
two_map f [] = refl
two_map f (x ∷ xs) = some_map f xs

none_map : {X Y : Type 0} (f : X → Y) (xs : List X) → none (map f xs) ≡ none xs
none_map f [] = refl
none_map f (x ∷ xs) = refl

counts_map : {X Y : Type 0} (f : X → Y) (n : ℕ) (xs : List X) → counts n (map f xs) ≡ counts n xs
counts_map f zero xs = none_map f xs
counts_map f (suc n) [] = refl
counts_map f (suc n) (x ∷ xs) = counts_map f n xs

-- ---- binders

abbrev pub is_typed : Option Raw → Bool
is_typed None = false
is_typed (Some of) = true

-- a type, and no tope
abbrev pub is_plain_bind : Option Raw → Option Raw → Bool
is_plain_bind None tope = false
is_plain_bind (Some of) None = true
is_plain_bind (Some of) (Some tope) = false

-- a tope only with a type
abbrev pub is_parameter : Option Raw → Option Raw → Bool
is_parameter None None = true
is_parameter None (Some tope) = false
is_parameter (Some of) tope = true

abbrev pub AreParameters : List Bind → Type 0
AreParameters [] = Unit {0}
AreParameters (bind ∷ binds) = (is_parameter bind.of bind.tope ≡ true) × AreParameters binds

typed_bare : (of : Option Raw) → is_typed (bare_option of) ≡ is_typed of
typed_bare None = refl
typed_bare (Some of) = refl

plain_bare : (of tope : Option Raw) → is_plain_bind (bare_option of) (bare_option tope) ≡ is_plain_bind of tope
plain_bare None tope = refl
plain_bare (Some of) None = refl
plain_bare (Some of) (Some tope) = refl

parameter_bare : (of tope : Option Raw) → is_parameter (bare_option of) (bare_option tope) ≡ is_parameter of tope
parameter_bare None None = refl
parameter_bare None (Some tope) = refl
parameter_bare (Some of) tope = refl

parameters_of : (binds : List Bind) → AreParameters (map bare_bind binds) → AreParameters binds
parameters_of [] h = tt
parameters_of (bind ∷ binds) h = (sym (parameter_bare bind.of bind.tope) ∙ h.0, parameters_of binds h.1)

parameters_bare : (binds : List Bind) → AreParameters binds → AreParameters (map bare_bind binds)
parameters_bare [] h = tt
parameters_bare (bind ∷ binds) h = (parameter_bare bind.of bind.tope ∙ h.0, parameters_bare binds h.1)

-- ---- forms

-- The form alone may stand in a text.
abbrev pub Fits : Form → Type 0
Fits (form.Named name) = IsName name
Fits (form.Bound up path) = ⊥
Fits (form.Assumed id) = ⊥
Fits (form.Global id args) = ⊥
Fits (form.IdJ parts) = six parts ≡ true
Fits (form.RecOr faces) = two_or_more faces ≡ true
Fits (form.App head args) = some args ≡ true
Fits (form.Restrict body faces) = some faces ≡ true
Fits (form.Arrow bind body) = is_typed bind.of ≡ true
Fits (form.Sigma bind body) = is_plain_bind bind.of bind.tope ≡ true
Fits (form.Lambda binds body) = (some binds ≡ true) × AreParameters binds
Fits _ = Unit {0}

-- it is enough to look at the form without its parts
pub fits_of : (written : Form) → Fits (bare written) → Fits written
fits_of (form.IdJ parts) h = sym (counts_map (λ (r : Raw). no_raw) 6 parts) ∙ h
fits_of (form.RecOr faces) h = sym (two_map bare_face faces) ∙ h
fits_of (form.App head args) h = sym (some_map (λ (r : Raw). no_raw) args) ∙ h
fits_of (form.Restrict body faces) h = sym (some_map bare_face faces) ∙ h
fits_of (form.Arrow bind body) h = sym (typed_bare bind.of) ∙ h
fits_of (form.Sigma bind body) h = sym (plain_bare bind.of bind.tope) ∙ h
fits_of (form.Lambda binds body) h = (sym (some_map bare_bind binds) ∙ h.0, parameters_of binds h.1)
fits_of other h = h

pub fits_bare : (written : Form) → Fits written → Fits (bare written)
fits_bare (form.IdJ parts) h = counts_map (λ (r : Raw). no_raw) 6 parts ∙ h
fits_bare (form.RecOr faces) h = two_map bare_face faces ∙ h
fits_bare (form.App head args) h = some_map (λ (r : Raw). no_raw) args ∙ h
fits_bare (form.Restrict body faces) h = some_map bare_face faces ∙ h
fits_bare (form.Arrow bind body) h = typed_bare bind.of ∙ h
fits_bare (form.Sigma bind body) h = plain_bare bind.of bind.tope ∙ h
fits_bare (form.Lambda binds body) h = (some_map bare_bind binds ∙ h.0, parameters_bare binds h.1)
fits_bare other h = h

-- ---- trees

-- the names of a pattern are names
abbrev pub IsNamed : PatternTree → Type 0
IsNamed (NameOf name) = IsName name
IsNamed NoName = Unit {0}
IsNamed (PairOf left right) = IsNamed left × IsNamed right

abbrev pub AreNamed : List PatternTree → Type 0
AreNamed [] = Unit {0}
AreNamed (tree ∷ trees) = IsNamed tree × AreNamed trees

-- each form of the tree may stand in a text
abbrev mutual
  pub IsWritten : Tree → Type 0
  IsWritten (At head patterns parts) = Fits head × AreNamed patterns × AreWritten parts

  pub AreWritten : Trees → Type 0
  AreWritten Nil = Unit {0}
  AreWritten (And tree trees) = IsWritten tree × AreWritten trees
