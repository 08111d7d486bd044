-- Parts in two orders, of which one says what the other does and more.
use Rattle.std.proofs.Common.{◌≡◌, ℕ, zero, suc, ◌<◌, ◌&&◌, Bool, true, false, ◌⊎◌, inl, inr, List, [], ◌∷◌, length, Some, refl, sym, ◌∙◌, arith}
use Rattle.std.specs.Prelude.{◌||◌, slice_get}
use Rattle.rz_tope_proof.specs.declared.parts.Form.{Form}
use Rattle.rz_tope_proof.specs.declared.parts.Form.TheVariants as form
use Rattle.rz_tope_proof.specs.declared.parts.Part.{Part}
use Rattle.rz_tope_proof.specs.Order.{Order, IsWithin}
use Rattle.rz_tope_proof.specs.Part.{value_over, decided_over, AreValues, AreDecided, IsMadeOf, AreParts}
use Rattle.rz_tope_search.proofs.RankOrders.{and_true, and_left, and_right}

-- ---- disjunctions of tests

pub or_left : (b c : Bool) → b ≡ true → (b || c) ≡ true
or_left true c h = refl
or_left false c h = cc

pub or_right : (b c : Bool) → c ≡ true → (b || c) ≡ true
or_right true c h = refl
or_right false c h = h

pub or_cases : (b c : Bool) → (b || c) ≡ true → (b ≡ true) ⊎ (c ≡ true)
or_cases true c h = inl refl
or_cases false c h = inr h

and_both : (b c d e : Bool) → (b ≡ true → d ≡ true) → (c ≡ true → e ≡ true) → (b && c) ≡ true → (d && e) ≡ true
and_both b c d e f g h = and_true d e (f (and_left b c h)) (g (and_right b c h))

or_either : (b c d e : Bool) → (b ≡ true → d ≡ true) → (c ≡ true → e ≡ true) → (b || c) ≡ true → (d || e) ≡ true
or_either b c d e f g h = elim (or_cases b c h) [ inl l ↦ or_left d e (f l) | inr r ↦ or_right d e (g r) ]

-- ---- an item of a list

pub item_at : {A : Type 0} (list : List A) (k : ℕ) → k < length list → (item : A) × (slice_get list k ≡ Some item)
item_at [] k lt = absurd (omega arith)
item_at (x ∷ list) zero lt = (x, refl)
item_at (x ∷ list) (suc k) lt = item_at list k (omega arith)

module _ (count : ℕ) (le more : Order) (within : IsWithin count le more) (v w : ℕ → Bool) where
  -- a form that is true in the smaller order is true in the greater one
  form-within : (k : ℕ) (f : Form) → IsMadeOf k count f → ((j : ℕ) → j < k → v j ≡ true → w j ≡ true)
      → value_over le v f ≡ true → value_over more w f ≡ true
  form-within k (form.And i j) made kept h = and_both (v i) (v j) (w i) (w j) (kept i made.0) (kept j made.1) h
  form-within k (form.Or i j) made kept h = or_either (v i) (v j) (w i) (w j) (kept i made.0) (kept j made.1) h
  form-within k (form.EqualPairs of i j pairs) made kept h = and_both (v i) (v j) (w i) (w j) (kept i made.0) (kept j made.1) h
  form-within k (form.AtMost a b) made kept h = within a.place b.place made.0 made.1 h
  form-within k (form.Equal a b) made kept h =
      and_both (le a.place b.place) (le b.place a.place) (more a.place b.place) (more b.place a.place)
      (within a.place b.place made.0 made.1) (within b.place a.place made.1 made.0) h
  form-within k form.Top made kept h = refl
  form-within k form.Same made kept h = refl
  form-within k form.OnePoint made kept h = refl
  form-within k form.Bottom made kept h = h

  -- so are the parts
  values-before : (parts : List Part) → AreParts count parts → AreValues le parts v → AreValues more parts w
      → (n k : ℕ) → k < n → k < length parts → v k ≡ true → w k ≡ true
  values-before parts made vs ws zero k lt there h = absurd (omega arith)
  values-before parts made vs ws (suc n) k lt there h =
      let item = item_at parts k there in
      let f : Form = item.0.form in
      let here : value_over le v f ≡ true = sym (vs k item.0 item.1) ∙ h in
      ws k item.0 item.1 ∙ form-within k f (made k item.0 item.1)
      (λ j l. values-before parts made vs ws n j (omega arith) (omega (arith, l, there))) here

  pub values-within : (parts : List Part) → AreParts count parts → AreValues le parts v → AreValues more parts w
      → (k : ℕ) → k < length parts → v k ≡ true → w k ≡ true
  values-within parts made vs ws k there h = values-before parts made vs ws (suc k) k (omega arith) there h

-- what an order decides, a greater one that agrees with it there doesn't change
abbrev pub Agrees : ℕ → Order → Order → Type 0
Agrees count le more = (x y : ℕ) → x < count → y < count → le y x ≡ true → more x y ≡ true → le x y ≡ true

module _ (count : ℕ) (le more : Order) (agrees : Agrees count le more) (v w d : ℕ → Bool) where
  decided-pair : (x y : ℕ) → x < count → y < count → (le x y || le y x) ≡ true → more x y ≡ true → le x y ≡ true
  decided-pair x y lx ly decided h = elim (or_cases (le x y) (le y x) decided) [ inl l ↦ l | inr r ↦ agrees x y lx ly r h ]

  or_turned : (b c : Bool) → (b || c) ≡ true → (c || b) ≡ true
  or_turned b c h = elim (or_cases b c h) [ inl l ↦ or_right c b l | inr r ↦ or_left c b r ]

  form-decided : (k : ℕ) (f : Form) → IsMadeOf k count f
      → ((j : ℕ) → j < k → d j ≡ true → w j ≡ true → v j ≡ true)
      → decided_over le d f ≡ true → value_over more w f ≡ true → value_over le v f ≡ true
  form-decided k (form.And i j) made kept decided h =
      and_both (w i) (w j) (v i) (v j) (kept i made.0 (and_left (d i) (d j) decided)) (kept j made.1 (and_right (d i) (d j) decided)) h
  form-decided k (form.Or i j) made kept decided h =
      or_either (w i) (w j) (v i) (v j) (kept i made.0 (and_left (d i) (d j) decided)) (kept j made.1 (and_right (d i) (d j) decided)) h
  form-decided k (form.EqualPairs of i j pairs) made kept decided h =
      and_both (w i) (w j) (v i) (v j) (kept i made.0 (and_left (d i) (d j) decided)) (kept j made.1 (and_right (d i) (d j) decided)) h
  form-decided k (form.AtMost a b) made kept decided h = decided-pair a.place b.place made.0 made.1 decided h
  form-decided k (form.Equal a b) made kept decided h =
      and_both (more a.place b.place) (more b.place a.place) (le a.place b.place) (le b.place a.place)
      (decided-pair a.place b.place made.0 made.1 decided)
      (decided-pair b.place a.place made.1 made.0 (or_turned (le a.place b.place) (le b.place a.place) decided)) h
  form-decided k form.Top made kept decided h = refl
  form-decided k form.Same made kept decided h = refl
  form-decided k form.OnePoint made kept decided h = refl
  form-decided k form.Bottom made kept decided h = h

  decided-before : (parts : List Part) → AreParts count parts → AreValues le parts v → AreValues more parts w → AreDecided le parts d
      → (n k : ℕ) → k < n → k < length parts → d k ≡ true → w k ≡ true → v k ≡ true
  decided-before parts made vs ws ds zero k lt there decided h = absurd (omega arith)
  decided-before parts made vs ws ds (suc n) k lt there decided h =
      let item = item_at parts k there in
      let f : Form = item.0.form in
      let here : value_over more w f ≡ true = sym (ws k item.0 item.1) ∙ h in
      let all : decided_over le d f ≡ true = sym (ds k item.0 item.1) ∙ decided in
      vs k item.0 item.1 ∙ form-decided k f (made k item.0 item.1)
      (λ j l. decided-before parts made vs ws ds n j (omega arith) (omega (arith, l, there))) all here

  -- A part whose comparisons are decided, and which is true in the greater order, is true in the smaller one.
  pub values-decided : (parts : List Part) → AreParts count parts → AreValues le parts v → AreValues more parts w → AreDecided le parts d
      → (k : ℕ) → k < length parts → d k ≡ true → w k ≡ true → v k ≡ true
  values-decided parts made vs ws ds k there decided h = decided-before parts made vs ws ds (suc k) k (omega arith) there decided h
