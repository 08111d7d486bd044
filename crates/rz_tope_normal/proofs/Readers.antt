-- What was read, while the pool and the proof grow.
use Rattle.std.proofs.Common.{◌≡◌, ℕ, ◌<◌, Bool, true, false, cond, List, [], ◌∷◌, length, map, nat_eq, All, Option, Some, refl, sym, ap, subst, ◌∙◌, arith}
use Rattle.std.specs.Prelude.{IsSome, slice_get}
use Rattle.std.specs.Cmp.{unsigned_Decides}
use Rattle.std.specs.HashMap.{get}
use Rattle.std.proofs.lemmas.Option.{slice_get_within}
use Rattle.std.proofs.lemmas.List.Elements.{All-nil, All-cons, All-head, All-tail}
use Rattle.rz_rules.specs.declared.coordinates.Coord.{Coord}
use Rattle.rz_rules.specs.declared.kinds.Sort.{Sort}
use Rattle.rz_rules.specs.declared.kinds.Sort.TheVariants as sort
use Rattle.rz_rules.specs.declared.kinds.Kind.{Kind}
use Rattle.rz_rules.specs.declared.kinds.Kind.TheVariants as kind
use Rattle.rz_rules.specs.declared.nodes.Node.{Node}
use Rattle.rz_rules.specs.Form.{form, kid_sorts}
use Rattle.rz_rules.specs.Tree.{Tree, HasForm, sort_of, tree_of, tree_over, trees_in}
use Rattle.rz_pool.specs.Pool.{Grows}
use Rattle.rz_tope_proof.specs.declared.proof.Inference.{Inference}
use Rattle.rz_tope_proof.specs.declared.parts.Part.{Part}
use Rattle.rz_tope_normal.specs.declared.norms.Norms.{Norms}
use Rattle.rz_tope_normal.specs.declared.reader.Reader.{Reader}
use Rattle.rz_tope_normal.specs.declared.settings.Setting.{Setting}
use Rattle.rz_tope_normal.specs.Later.{Later}
use Rattle.rz_tope_normal.specs.Norm.{AreNorms, IsKnown, IsSetting, KnowsKids}
use Rattle.rz_tope_normal.specs.Read.{ArePartsOf, SaysTope}
use Rattle.rz_tope_normal.specs.Reader.{AreDone, IsDone, IsDoneAs, IsReader, IsCachedPart, KeepsRead}
use Rattle.rz_tope_normal.proofs.ReadParts.{parts_later, says_later}
use Rattle.rz_tope_normal.proofs.Siding.{places_over}
use Rattle.rz_tope_normal.proofs.Staying.{live_stays, tree_stays}

abbrev table : Reader → ℕ → Option ℕ
table reader id = get nat_eq reader.topes id

done_with : (before after : Reader) → ((q : ℕ) → IsKnown before.norms q → IsKnown after.norms q) →
    ((q : ℕ) → IsSome (table before q) → IsSome (table after q))
    → (s : Sort) (id : ℕ) → IsDoneAs before id s → IsDoneAs after id s
done_with before after known topes sort.Point id h = known id h
done_with before after known topes sort.Tope id h = topes id h
done_with before after known topes sort.Cube id h = tt
done_with before after known topes sort.Term id h = tt
done_with before after known topes sort.Context id h = tt

module _ (old : List Node) (before : List Inference) (new : List Node) (after : List Inference) (later : Later old before new after) (context : Tree)
    (list : List Coord) (setting : Setting) (set : IsSetting old context list setting) (reader : Reader)
    (is : IsReader old context list setting before reader) where
  -- the parts, where the pool and the proof grow
  pub reader_parts : ArePartsOf new context list setting.places after reader.parts.items
  reader_parts = parts_later old before new after later context setting.places (places_over old context setting.places list set.places
      set.coordinates) list reader.parts.items is.parts

  pub says_grown : (number : ℕ) (tope : Tree) → SaysTope old reader.parts.items number tope → SaysTope new reader.parts.items number tope
  says_grown number tope says =
      says_later old before new after later context setting.places (places_over old context setting.places list set.places set.coordinates) list
      reader.parts.items is.parts number tope says

  module _ (more : Reader) (known : (q : ℕ) → IsKnown reader.norms q → IsKnown more.norms q)
      (norms : AreNorms new context setting.entries.items after more.norms)
      (parts : ArePartsOf new context list setting.places after more.parts.items)
      (kept : (number : ℕ) (tope : Tree) → SaysTope new reader.parts.items number tope → SaysTope new more.parts.items number tope)
      (same : (id : ℕ) → table more id ≡ table reader id) where
    pub reader_with : IsReader new context list setting after more
    reader_with = record {
      norms = norms;
      parts = parts;
      topes = λ id number e.
          let cached = is.topes id number (sym (same id) ∙ e) in
          record {
            live = live_stays old new later.grows id cached.live;
            says = kept number (tree_of new id)
                (subst (λ (t : Tree). SaysTope new reader.parts.items number t) (sym (tree_stays old new later.grows id cached.live))
                (says_grown number (tree_of old id) cached.says));
          };
    }

    pub reader_kept : KeepsRead old reader new more
    reader_kept = record {
      done = λ id live h. subst (λ (t : Tree). IsDoneAs more id (sort_of t)) (sym (tree_stays old new later.grows id live))
          (done_with reader more known (λ q s. subst IsSome (sym (same q)) s) (sort_of (tree_of old id)) id h);
      says = λ number tope s. kept number tope (says_grown number tope s);
    }

pub kept_trans : (a b c : List Node) → Grows a b → (x y z : Reader) → KeepsRead a x b y → KeepsRead b y c z → KeepsRead a x c z
kept_trans a b c grows x y z f g = record {
  done = λ id live h. g.done id (live_stays a b grows id live) (f.done id live h);
  says = λ number tope s. g.says number tope (f.says number tope s);
}

pub kept_same : (nodes : List Node) (reader : Reader) → KeepsRead nodes reader nodes reader
kept_same nodes reader = record { done = λ id live h. h; says = λ number tope s. s }

-- ---- one tope more

module _ (nodes : List Node) (context : Tree) (list : List Coord) (setting : Setting) (all : List Inference) (reader more : Reader)
    (is : IsReader nodes context list setting all reader) (norms_are : more.norms ≡ reader.norms) (parts_are : more.parts ≡ reader.parts)
    (id number : ℕ) (noted : (q : ℕ) → table more q ≡ cond (nat_eq id q) (Some number) (table reader q)) where
  pub noted_here : IsSome (table more id)
  noted_here = subst IsSome (sym (noted id ∙ ap (λ b. cond b (Some number) (table reader id)) ((unsigned_Decides id id).1 refl))) refl

  noted_still : (q : ℕ) → IsSome (table reader q) → IsSome (table more q)
  noted_still q s = by (nat_eq id q) refl where
    by : (b : Bool) → nat_eq id q ≡ b → IsSome (table more q)
    by true e = subst IsSome (sym (noted q ∙ ap (λ b. cond b (Some number) (table reader q)) e)) refl
    by false e = subst IsSome (sym (noted q ∙ ap (λ b. cond b (Some number) (table reader q)) e)) s

  pub noted_kept : KeepsRead nodes reader nodes more
  noted_kept = record {
    done = λ q live h. done_with reader more (λ p k. subst (λ (n : Norms). IsKnown n p) (sym norms_are) k) noted_still (sort_of (tree_of nodes q)) q
        h;
    says = λ n tope s. subst (λ (ps : List Part). SaysTope nodes ps n tope) (λ i. (sym parts_are i).items) s;
  }

  pub noted_reader : id < length nodes → SaysTope nodes reader.parts.items number (tree_of nodes id) → IsReader nodes context list setting all more
  noted_reader live says = record {
    norms = subst (λ (n : Norms). AreNorms nodes context setting.entries.items all n) (sym norms_are) is.norms;
    parts = subst (λ (ps : List Part). ArePartsOf nodes context list setting.places all ps) (λ i. (sym parts_are i).items) is.parts;
    topes = λ q n e. subst (λ (ps : List Part). IsCachedPart nodes ps q n) (λ i. (sym parts_are i).items) (by q n (nat_eq id q) refl e);
  } where
    by : (q n : ℕ) (b : Bool) → nat_eq id q ≡ b → table more q ≡ Some n → IsCachedPart nodes reader.parts.items q n
    by q n true e h =
        let here : id ≡ q = (unsigned_Decides id q).0 e in
        let is_some : Some number ≡ Some n = sym (noted q ∙ ap (λ b. cond b (Some number) (table reader q)) e) ∙ h in
        let same : number ≡ n = cc in
        subst (λ (p : ℕ). IsCachedPart nodes reader.parts.items p n) here (subst (λ (m : ℕ). IsCachedPart nodes reader.parts.items id m) same
        (record { live = live; says = says }))
    by q n false e h = is.topes q n (sym (noted q ∙ ap (λ b. cond b (Some number) (table reader q)) e) ∙ h)

-- ---- the kids of points

point_kids : (k : Kind) → (form k).sort ≡ sort.Point → All (λ s. s ≡ sort.Point) (kid_sorts k)
point_kids kind.PointVariable e = All-nil (λ s. s ≡ sort.Point)
point_kids kind.OnlyPoint e = All-nil (λ s. s ≡ sort.Point)
point_kids kind.Zero e = All-nil (λ s. s ≡ sort.Point)
point_kids kind.One e = All-nil (λ s. s ≡ sort.Point)
point_kids kind.PointPair e = All-cons (λ s. s ≡ sort.Point) sort.Point (sort.Point ∷ []) refl
    (All-cons (λ s. s ≡ sort.Point) sort.Point [] refl (All-nil (λ s. s ≡ sort.Point)))
point_kids kind.PointLeft e = All-cons (λ s. s ≡ sort.Point) sort.Point [] refl (All-nil (λ s. s ≡ sort.Point))
point_kids kind.PointRight e = All-cons (λ s. s ≡ sort.Point) sort.Point [] refl (All-nil (λ s. s ≡ sort.Point))
point_kids other e = absurd cc

known_kids : (nodes : List Node) (reader : Reader) (sorts : List Sort) (kids : List ℕ) → map sort_of (map (tree_of nodes) kids) ≡ sorts → All
    (λ s. s ≡ sort.Point) sorts
    → All (IsDone nodes reader) kids → All (IsKnown reader.norms) kids
known_kids nodes reader sorts [] e h done = All-nil (IsKnown reader.norms)
known_kids nodes reader [] (kid ∷ kids) e h done = absurd cc
known_kids nodes reader (s ∷ sorts) (kid ∷ kids) e h done =
    let here : sort_of (tree_of nodes kid) ≡ s = cc in
    let rest : map sort_of (map (tree_of nodes) kids) ≡ sorts = cc in
    let point : sort_of (tree_of nodes kid) ≡ sort.Point = here ∙ All-head (λ s. s ≡ sort.Point) s sorts h in
    All-cons (IsKnown reader.norms) kid kids (subst (λ (t : Sort). IsDoneAs reader kid t) point (All-head (IsDone nodes reader) kid kids done))
    (known_kids nodes reader sorts kids rest (All-tail (λ s. s ≡ sort.Point) s sorts h) (All-tail (IsDone nodes reader) kid kids done))

pub point_knows : (nodes : List Node) (reader : Reader) (id : ℕ) → ((node : Node) → slice_get nodes id ≡ Some node → HasForm (trees_in nodes) id node)
    → ((node : Node) → slice_get nodes id ≡ Some node → tree_of nodes id ≡ tree_over (trees_in nodes) node)
    → sort_of (tree_of nodes id) ≡ sort.Point → AreDone nodes reader id → KnowsKids nodes reader.norms id
point_knows nodes reader id forms trees point done node at =
    let e : (form node.kind).sort ≡ sort.Point = sym (ap sort_of (trees node at)) ∙ point in
    known_kids nodes reader (kid_sorts node.kind) node.kids (forms node at).sorts (point_kids node.kind e) (done node at)

-- ---- reading id by id

-- an id that was there is read
pub record IsOldDone (old new : List Node) (reader : Reader) (id : ℕ) : Type 0 where
  pub live : id < length old
  pub done : IsDone new reader id

pub no_item : {X : Type 0} (xs : List X) → xs ≡ [] → (k : ℕ) (x : X) → slice_get xs k ≡ Some x → ⊥
no_item xs e k x h = omega (arith, slice_get_within xs k x h, ap length e)
