-- Judgments that move, over trees: each rule has one conclusion at most.
use Rattle.std.proofs.Common.{◌≡◌, ℕ, List, [], ◌∷◌, length, refl, sym, ap, subst, ◌∙◌}
use Rattle.std.specs.Prelude.{◌↔◌}
use Rattle.rz_rules.specs.declared.kinds.Space.TheVariants.{Points, Terms}
use Rattle.rz_rules.specs.declared.rows.Scheme.{Scheme}
use Rattle.rz_rules.specs.declared.rows.Scheme.TheVariants as scheme
use Rattle.rz_rules.specs.Tree.{Tree}
use Rattle.rz_rules.specs.Substitution.{Changes, none, putting, raising}
use Rattle.rz_rules.specs.Context.{Entry, HasNoEntry, OfCube, OfTope, OfType, bound_by, changed_entries, with_entries, with_entry}
use Rattle.rz_rules.specs.Judgment.{Statement}
use Rattle.rz_rules.specs.Structural.{ConcludesBy, IsMoved, IsWeakening, Move, changed_statement, formed, has, holds}
use Rattle.rz_rules.specs.Tope.{equal_points}
use Rattle.rz_rules.proofs.Contexts.{length-changed_entries, with_entries-same, with_entry-same}
use Rattle.rz_kernel_rows.specs.Context.{NoCut, NoSplit}
use Rattle.rz_kernel_rows.specs.Move.{IsRemoval, Removes}

-- the two premises of a judgment that moved
module _ (move : Move) (number : ℕ) (premise allowed says : Statement) (m : IsMoved move number (premise ∷ allowed ∷ []) says) where
  premise_is : m.premise ≡ premise
  premise_is = let e = m.premises_are in cc

  allowed_is : move.allowed ≡ allowed
  allowed_is = let e = m.premises_are in cc

  context_is : premise.context ≡ with_entries move.before m.inner
  context_is = ap (λ (s : Statement). s.context) (sym premise_is) ∙ m.before

  says_is : says ≡ changed_statement move.changes move.after m.inner premise
  says_is = m.says ∙ ap (changed_statement move.changes move.after m.inner) premise_is

-- ---- entries that go

-- an entry goes, by a rule that allows it
pub record IsGone (s : Scheme) (number : ℕ) (premise allowed says : Statement) : Type 0 where
  pub outer : Tree
  pub entry : Entry
  pub inner : List Entry
  pub changes : Changes
  pub removes : Removes s outer entry allowed changes
  pub count : length inner ≡ number
  pub context : premise.context ≡ with_entries (with_entry outer entry) inner
  pub says_is : says ≡ changed_statement changes outer inner premise

gone : (s : Scheme) (number : ℕ) (premise allowed says : Statement) → IsRemoval s → ConcludesBy s number (premise ∷ allowed ∷ []) says → IsGone s number premise allowed says
gone scheme.TermCut number premise allowed says is h =
    let m = h.3 in
    record {
      outer = h.0;
      entry = OfType h.1;
      inner = m.inner;
      changes = putting Terms none h.2;
      removes = (h.2, sym (allowed_is _ number premise allowed says m), refl);
      count = m.count;
      context = context_is _ number premise allowed says m;
      says_is = says_is _ number premise allowed says m;
    }
gone scheme.CubeCut number premise allowed says is h =
    let m = h.3 in
    record {
      outer = h.0;
      entry = OfCube h.1;
      inner = m.inner;
      changes = putting Points none h.2;
      removes = (h.2, sym (allowed_is _ number premise allowed says m), refl);
      count = m.count;
      context = context_is _ number premise allowed says m;
      says_is = says_is _ number premise allowed says m;
    }
gone scheme.TopeCut number premise allowed says is h =
    let m = h.2 in
    record {
      outer = h.0;
      entry = OfTope h.1;
      inner = m.inner;
      changes = raising none none;
      removes = (sym (allowed_is _ number premise allowed says m), refl);
      count = m.count;
      context = context_is _ number premise allowed says m;
      says_is = says_is _ number premise allowed says m;
    }
gone s number premise allowed says is h = absurd is

goes : (s : Scheme) (e : Entry) (number : ℕ) (outer : Tree) (inner : List Entry) (changes : Changes) (premise allowed says : Statement) → Removes s outer e allowed changes → length inner ≡ number
    → premise.context ≡ with_entries (with_entry outer e) inner → says ≡ changed_statement changes outer inner premise → ConcludesBy s number (premise ∷ allowed ∷ []) says
goes scheme.TermCut (OfType type) number outer inner changes premise allowed says r n context is = (
  outer,
  type,
  r.0,
  record { premise = premise; inner = inner; count = n; premises_are = λ i. premise ∷ r.1 i ∷ []; before = context; says = is ∙ ap (λ (c : Changes). changed_statement c outer inner premise) r.2 },
)
goes scheme.CubeCut (OfCube cube) number outer inner changes premise allowed says r n context is = (
  outer,
  cube,
  r.0,
  record { premise = premise; inner = inner; count = n; premises_are = λ i. premise ∷ r.1 i ∷ []; before = context; says = is ∙ ap (λ (c : Changes). changed_statement c outer inner premise) r.2 },
)
goes scheme.TopeCut (OfTope tope) number outer inner changes premise allowed says r n context is = (
  outer,
  tope,
  record { premise = premise; inner = inner; count = n; premises_are = λ i. premise ∷ r.0 i ∷ []; before = context; says = is ∙ ap (λ (c : Changes). changed_statement c outer inner premise) r.1 },
)
goes s e number outer inner changes premise allowed says r n context is = absurd r

-- in one way at most
once : (s : Scheme) (e : Entry) (outer : Tree) (allowed : Statement) (c d : Changes) → Removes s outer e allowed c → Removes s outer e allowed d → c ≡ d
once scheme.TermCut (OfType type) outer allowed c d one other =
    let both : has outer one.0 type ≡ has outer other.0 type = sym one.1 ∙ other.1 in
    let parts : one.0 ∷ type ∷ [] ≡ other.0 ∷ type ∷ [] = ap (λ (s : Statement). s.parts) both in
    let value : one.0 ≡ other.0 = cc in
    one.2 ∙ ap (putting Terms none) value ∙ sym other.2
once scheme.CubeCut (OfCube cube) outer allowed c d one other =
    let both : holds outer (equal_points cube one.0 one.0) ≡ holds outer (equal_points cube other.0 other.0) = sym one.1 ∙ other.1 in
    let parts : equal_points cube one.0 one.0 ∷ [] ≡ equal_points cube other.0 other.0 ∷ [] = ap (λ (s : Statement). s.parts) both in
    let point : one.0 ≡ other.0 = cc in
    one.2 ∙ ap (putting Points none) point ∙ sym other.2
once scheme.TopeCut (OfTope tope) outer allowed c d one other = one.1 ∙ sym other.1
once s e outer allowed c d one other = absurd one

module _ (s : Scheme) (is : IsRemoval s) (number : ℕ) (premise allowed : Statement) where
  module _ (outer : Tree) (e : Entry) (inner : List Entry) (context : premise.context ≡ with_entries (with_entry outer e) inner) (count : length inner ≡ number) where
    -- the entry that goes is the one at which the context is cut
    at_cut : (says : Statement) (g : IsGone s number premise allowed says) → (g.outer ≡ outer) × (g.entry ≡ e) × (g.inner ≡ inner)
    at_cut says g =
        let same = with_entries-same (with_entry g.outer g.entry) (with_entry outer e) g.inner inner (g.count ∙ sym count) (sym g.context ∙ context) in
        let last = with_entry-same g.outer outer g.entry e same.0 in
        (last.0, last.1, same.1)

    removes_here : (says : Statement) (g : IsGone s number premise allowed says) → Removes s outer e allowed g.changes
    removes_here says g =
        let at = at_cut says g in
        subst (λ (x : Entry). Removes s outer x allowed g.changes) at.1 (subst (λ (t : Tree). Removes s t g.entry allowed g.changes) at.0 g.removes)

    pub removed_iff : (changes : Changes) → Removes s outer e allowed changes → (says : Statement) → ConcludesBy s number (premise ∷ allowed ∷ []) says ↔ (says ≡ changed_statement changes outer inner premise)
    removed_iff changes removes says = (
      λ h.
          let g = gone s number premise allowed says is h in
          let at = at_cut says g in
          let same = once s e outer allowed g.changes changes (removes_here says g) removes in
          g.says_is ∙ (λ i. changed_statement (same i) (at.0 i) (at.2 i) premise),
      λ said. goes s e number outer inner changes premise allowed says removes count context said,
    )

    pub not_removed : ((changes : Changes) → Removes s outer e allowed changes → ⊥) → (says : Statement) → ConcludesBy s number (premise ∷ allowed ∷ []) says → ⊥
    not_removed never says h = let g = gone s number premise allowed says is h in never g.changes (removes_here says g)

  pub nothing_there : NoSplit premise.context number → (says : Statement) → ConcludesBy s number (premise ∷ allowed ∷ []) says → ⊥
  nothing_there none_there says h = let g = gone s number premise allowed says is h in none_there g.outer g.entry g.inner g.count g.context

-- ---- weakening

-- the second premise says that a context is formed
pub allowed_formed : (number : ℕ) (premise allowed says : Statement) → IsWeakening number (premise ∷ allowed ∷ []) says → formed says.context ≡ allowed
allowed_formed number premise allowed says h = allowed_is _ number premise allowed says h.2

module _ (number : ℕ) (premise : Statement) (context : Tree) where
  -- the whole new context is that of the conclusion
  whole : (says : Statement) (h : IsWeakening number (premise ∷ formed context ∷ []) says) → says.context ≡ context
  whole says h =
      let allowed : formed says.context ≡ formed context = allowed_is _ number premise (formed context) says h.2 in
      ap (λ (s : Statement). s.context) allowed

  extended : (says : Statement) (h : IsWeakening number (premise ∷ formed context ∷ []) says) → context ≡ with_entries (with_entry h.0 h.1) (changed_entries (raising none (bound_by h.1)) h.2.inner)
  extended says h = sym (whole says h) ∙ ap (λ (s : Statement). s.context) (says_is _ number premise (formed context) says h.2)

  count_after : (says : Statement) (h : IsWeakening number (premise ∷ formed context ∷ []) says) → length (changed_entries (raising none (bound_by h.1)) h.2.inner) ≡ number
  count_after says h = length-changed_entries (raising none (bound_by h.1)) h.2.inner ∙ h.2.count

  pub not_cut_after : NoCut context number → (says : Statement) → IsWeakening number (premise ∷ formed context ∷ []) says → ⊥
  not_cut_after none_there says h = none_there (with_entry h.0 h.1) (changed_entries (raising none (bound_by h.1)) h.2.inner) (count_after says h) (extended says h)

  pub not_cut_before : NoCut premise.context number → (says : Statement) → IsWeakening number (premise ∷ formed context ∷ []) says → ⊥
  not_cut_before none_there says h = none_there h.0 h.2.inner h.2.count (context_is _ number premise (formed context) says h.2)

  module _ (after : Tree) (entries : List Entry) (is : context ≡ with_entries after entries) (count : length entries ≡ number) where
    at_after : (says : Statement) (h : IsWeakening number (premise ∷ formed context ∷ []) says) → after ≡ with_entry h.0 h.1
    at_after says h = (with_entries-same after (with_entry h.0 h.1) entries _ (count ∙ sym (count_after says h)) (sym is ∙ extended says h)).0

    pub no_entry_after : HasNoEntry after → (says : Statement) → IsWeakening number (premise ∷ formed context ∷ []) says → ⊥
    no_entry_after none_there says h = none_there h.0 h.1 (at_after says h)

    module _ (outer : Tree) (e : Entry) (last : after ≡ with_entry outer e) (before : Tree) (inner : List Entry) (cut : premise.context ≡ with_entries before inner) (many : length inner ≡ number) where
      at_last : (says : Statement) (h : IsWeakening number (premise ∷ formed context ∷ []) says) → (h.0 ≡ outer) × (h.1 ≡ e)
      at_last says h = with_entry-same h.0 outer h.1 e (sym (at_after says h) ∙ last)

      at_before : (says : Statement) (h : IsWeakening number (premise ∷ formed context ∷ []) says) → (h.0 ≡ before) × (h.2.inner ≡ inner)
      at_before says h = with_entries-same h.0 before h.2.inner inner (h.2.count ∙ sym many) (sym (context_is _ number premise (formed context) says h.2) ∙ cut)

      pub other_outer : (before ≡ outer → ⊥) → (says : Statement) → IsWeakening number (premise ∷ formed context ∷ []) says → ⊥
      other_outer differs says h = differs (sym (at_before says h).0 ∙ (at_last says h).0)

      pub weakened_iff : before ≡ outer → (says : Statement) → IsWeakening number (premise ∷ formed context ∷ []) says
          ↔ ((says ≡ changed_statement (raising none (bound_by e)) after inner premise) × (says.context ≡ context))
      weakened_iff same says = (
        λ h.
            let at = at_last says h in
            let there = at_before says h in
            (says_is _ number premise (formed context) says h.2 ∙ (λ i. changed_statement (raising none (bound_by (at.1 i))) (sym (at_after says h) i) (there.1 i) premise), whole says h),
        λ h. (
          outer,
          e,
          record {
            premise = premise;
            inner = inner;
            count = many;
            premises_are = λ i. premise ∷ formed (sym h.1 i) ∷ [];
            before = cut ∙ ap (λ (t : Tree). with_entries t inner) same;
            says = h.0 ∙ ap (λ (t : Tree). changed_statement (raising none (bound_by e)) t inner premise) last;
          },
        ),
      )
