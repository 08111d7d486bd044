-- A substitution, a shift or a judgment in front of what a stack has.
use Rattle.std.proofs.Common.{◌≡◌, ℕ, zero, suc, ◌<◌, ◌≤◌, ◌^◌, ◌&&◌, Bool, true, false, List, [], ◌∷◌, Some, None, Option, length, take, drop, map, All, Contains, refl, sym, ap, subst, ◌∙◌}
use Rattle.std.specs.Prelude.{Result, Ok, Err, IfOk, OnOk, IfSome, IsSome, ◌↔◌}
use Rattle.std.specs.Bool.{OnTrue, OnFalse}
use Rattle.std.specs.Cmp.{first_so, second_so}
use Rattle.std.proofs.lemmas.List.Elements.{All-cons, All-head}
use Rattle.rz_rules.specs.declared.kinds.Space.{Space}
use Rattle.rz_rules.specs.declared.judgments.JudgmentKind.{JudgmentKind}
use Rattle.rz_rules.specs.declared.nodes.Node.{Node}
use Rattle.rz_rules.specs.declared.symbols.Symbol.{Symbol}
use Rattle.rz_rules.specs.declared.symbols.Symbol.TheVariants as symbol
use Rattle.rz_rules.specs.Form.{sort_in}
use Rattle.rz_rules.specs.Tree.{Tree, sort_of, tree_at, tree_of, trees_in, trees_of}
use Rattle.rz_rules.specs.Substitution.{AllIndicesBelow, IndicesBelow, none, put, shift}
use Rattle.rz_rules.specs.Judgment.{IsStatement, Statement, context_of, ids_of, judgment_form, parts_of, sorts_of, statement}
use Rattle.rz_rules.specs.Row.{Assignment, spelled}
use Rattle.rz_rules.specs.Text.{Mark, same_sort, starts_with, with_mark}
use Rattle.rz_pool.specs.Pool.{Grows}
use Rattle.rz_rule_text.specs.declared.text.Stack.{Stack}
use Rattle.rz_rule_text.specs.Spelling.{Answers, CanPut, HasSpelled, IsJudgmentOver, IsTooHigh, SaysOnTop, Stands, StandsAt, first_of}
use Rattle.rz_rule_text.proofs.Stacks.{AllIndicesBelow-AreTrees, IndicesBelow-IsTree, Stands-drop, Stands-grows, enough, same_sort_is, top_known, top_none}
use Rattle.rz_rule_text.proofs.Putting.{if_some, marked, with_tree}

-- the operands of a substitution are on the stack
pub record AreOperands (nodes : List Node) (space : Space) (ids : List (Option ℕ)) (trees : List Tree) (marks new : List Mark) : Type 0 where
  pub body : ℕ
  pub value : ℕ
  pub first : first_of ids ≡ Some body
  pub second : first_of (drop 1 ids) ≡ Some value
  pub body_live : body < length nodes
  pub value_live : value < length nodes
  pub body_is : tree_of nodes body ≡ tree_at trees 0
  pub value_is : tree_of nodes value ≡ tree_at trees 1
  pub sort : sort_of (tree_of nodes value) ≡ sort_in space
  pub rest : List Mark
  pub new_is : new ≡ record { sort = sort_of (tree_of nodes body); plain = false } ∷ rest
  pub stands : Stands nodes (drop 1 (drop 1 ids)) (drop 2 trees) rest

never : {P : Type 0} → false ≡ true → P
never e = absurd cc

pub operands : (nodes : List Node) (space : Space) (ids : List (Option ℕ)) (trees : List Tree) (marks new : List Mark) → Stands nodes ids trees marks
    → with_mark (symbol.Put space) marks ≡ Some new → AreOperands nodes space ids trees marks new
operands nodes space [] [] [] new h e = absurd cc
operands nodes space (id ∷ []) (tree ∷ []) (mark ∷ []) new h e = absurd cc
operands nodes space (id ∷ []) (tree ∷ []) (mark ∷ second ∷ marks) new h e = absurd h.1
operands nodes space (id ∷ []) (tree ∷ other ∷ trees) (mark ∷ marks) new h e = absurd h.1
operands nodes space (id ∷ other ∷ ids) (tree ∷ []) (mark ∷ marks) new h e = absurd h.1
operands nodes space (id ∷ other ∷ ids) (tree ∷ second ∷ trees) (mark ∷ []) new h e = absurd h.1
operands nodes space (Some body ∷ Some value ∷ ids) (tree ∷ other ∷ trees) (mark ∷ second ∷ marks) new h e =
    let step = if_some (mark.plain && second.plain && same_sort second.sort (sort_in space)) (record { sort = mark.sort; plain = false } ∷ marks) new e in
    let sorted = same_sort_is second.sort (sort_in space) (second_so (mark.plain && second.plain) (same_sort second.sort (sort_in space)) step.0) in
    let sort : sort_of (tree_of nodes body) ≡ mark.sort = ap sort_of h.0.1 ∙ h.0.2 in
    record {
      body = body;
      value = value;
      first = refl;
      second = refl;
      body_live = h.0.0;
      value_live = h.1.0.0;
      body_is = h.0.1;
      value_is = h.1.0.1;
      sort = ap sort_of h.1.0.1 ∙ h.1.0.2 ∙ sorted;
      rest = marks;
      new_is = sym step.1 ∙ (λ i. record { sort = sym sort i; plain = false } ∷ marks);
      stands = h.1.1;
    }
operands nodes space (None ∷ value ∷ ids) (tree ∷ other ∷ trees) (mark ∷ second ∷ marks) new h e =
    let step = if_some (mark.plain && second.plain && same_sort second.sort (sort_in space)) (record { sort = mark.sort; plain = false } ∷ marks) new e in
    let plain = first_so mark.plain second.plain (first_so (mark.plain && second.plain) (same_sort second.sort (sort_in space)) step.0) in
    never (sym h.0.0 ∙ plain)
operands nodes space (Some body ∷ None ∷ ids) (tree ∷ other ∷ trees) (mark ∷ second ∷ marks) new h e =
    let step = if_some (mark.plain && second.plain && same_sort second.sort (sort_in space)) (record { sort = mark.sort; plain = false } ∷ marks) new e in
    let plain = second_so mark.plain second.plain (first_so (mark.plain && second.plain) (same_sort second.sort (sort_in space)) step.0) in
    never (sym h.1.0.0 ∙ plain)
operands nodes space ids trees marks new h e = absurd h

-- the operand of a shift
pub record IsOperand (nodes : List Node) (ids : List (Option ℕ)) (trees : List Tree) (new : List Mark) : Type 0 where
  pub tree : ℕ
  pub first : first_of ids ≡ Some tree
  pub live : tree < length nodes
  pub tree_is : tree_of nodes tree ≡ tree_at trees 0
  pub rest : List Mark
  pub new_is : new ≡ record { sort = sort_of (tree_of nodes tree); plain = false } ∷ rest
  pub stands : Stands nodes (drop 1 ids) (drop 1 trees) rest

pub operand : (nodes : List Node) (space : Space) (from : ℕ) (ids : List (Option ℕ)) (trees : List Tree) (marks new : List Mark) → Stands nodes ids trees marks
    → with_mark (symbol.Shift space from) marks ≡ Some new → IsOperand nodes ids trees new
operand nodes space from [] [] [] new h e = absurd cc
operand nodes space from (Some id ∷ ids) (tree ∷ trees) (mark ∷ marks) new h e =
    let step = if_some mark.plain (record { sort = mark.sort; plain = false } ∷ marks) new e in
    let sort : sort_of (tree_of nodes id) ≡ mark.sort = ap sort_of h.0.1 ∙ h.0.2 in
    record { tree = id; first = refl; live = h.0.0; tree_is = h.0.1; rest = marks; new_is = sym step.1 ∙ (λ i. record { sort = sym sort i; plain = false } ∷ marks); stands = h.1 }
operand nodes space from (None ∷ ids) (tree ∷ trees) (mark ∷ marks) new h e =
    let step = if_some mark.plain (record { sort = mark.sort; plain = false } ∷ marks) new e in
    never (sym h.0.0 ∙ step.0)
operand nodes space from ids trees marks new h e = absurd h

-- what a substitution or a shift answered stands for its tree
pub made_stands : (new : List Node) (made : Option ℕ) (tree other : Tree) (mark : Mark) → mark.plain ≡ false → mark.sort ≡ sort_of other → (IsSome made ↔ IndicesBelow (2 ^ 32) tree)
    → IfSome made (λ id. id < length new) → IfSome made (λ id. tree_of new id ≡ tree) → IfSome made (λ id. sort_of (tree_of new id) ≡ sort_of other) → StandsAt new made tree mark
made_stands new (Some id) tree other mark plain sort fits within is sorted = (within, is, sym (ap sort_of is) ∙ sorted ∙ sym sort)
made_stands new None tree other mark plain sort fits within is sorted = (plain, λ below. let wrong = fits.1 below in absurd cc)

module _ (old new : List Node) (grows : Grows old new) (space : Space) (behind : List Symbol) (a : Assignment) (before after : Stack) (letters : List (Option ℕ)) (name : Option ℕ) (made : Option ℕ) where
  pub put_put : (can : CanPut old (symbol.Put space) behind a before letters name)
      → (ops : AreOperands old space before.trees.items (spelled behind a).trees can.has.marks can.marks)
      → after.trees.items ≡ made ∷ drop 1 (drop 1 before.trees.items) → after.said ≡ before.said
      → (IsSome made ↔ IndicesBelow (2 ^ 32) (put space none (tree_of old ops.value) (tree_of old ops.body))) → IfSome made (λ id. id < length new)
      → IfSome made (λ id. tree_of new id ≡ put space none (tree_of old ops.value) (tree_of old ops.body)) → IfSome made (λ id. sort_of (tree_of new id) ≡ sort_of (tree_of old ops.body))
      → HasSpelled new (symbol.Put space ∷ behind) a after
  put_put can ops trees said fits within is sorted =
      let T = (spelled behind a).trees in
      let same : put space none (tree_of old ops.value) (tree_of old ops.body) ≡ put space none (tree_at T 1) (tree_at T 0) = λ i. put space none (ops.value_is i) (ops.body_is i) in
      let at = made_stands new made (put space none (tree_of old ops.value) (tree_of old ops.body)) (tree_of old ops.body) (record { sort = sort_of (tree_of old ops.body); plain = false }) refl refl fits within is sorted in
      with_tree old new grows (symbol.Put space) behind a before after letters name can said refl
      (subst (Stands new after.trees.items (put space none (tree_at T 1) (tree_at T 0) ∷ drop 2 T)) (sym ops.new_is)
      (subst (λ (ids : List (Option ℕ)). Stands new ids (put space none (tree_at T 1) (tree_at T 0) ∷ drop 2 T) (record { sort = sort_of (tree_of old ops.body); plain = false } ∷ ops.rest)) (sym trees)
      (subst (λ (t : Tree). StandsAt new made t (record { sort = sort_of (tree_of old ops.body); plain = false })) same at, Stands-grows old new grows _ _ _ ops.stands)))

  pub shift_put : (from : ℕ) (can : CanPut old (symbol.Shift space from) behind a before letters name) → (op : IsOperand old before.trees.items (spelled behind a).trees can.marks)
      → after.trees.items ≡ made ∷ drop 1 before.trees.items → after.said ≡ before.said
      → (IsSome made ↔ IndicesBelow (2 ^ 32) (shift space from 1 (tree_of old op.tree))) → IfSome made (λ id. id < length new)
      → IfSome made (λ id. tree_of new id ≡ shift space from 1 (tree_of old op.tree)) → IfSome made (λ id. sort_of (tree_of new id) ≡ sort_of (tree_of old op.tree))
      → HasSpelled new (symbol.Shift space from ∷ behind) a after
  shift_put from can op trees said fits within is sorted =
      let T = (spelled behind a).trees in
      let same : shift space from 1 (tree_of old op.tree) ≡ shift space from 1 (tree_at T 0) = ap (shift space from 1) op.tree_is in
      let at = made_stands new made (shift space from 1 (tree_of old op.tree)) (tree_of old op.tree) (record { sort = sort_of (tree_of old op.tree); plain = false }) refl refl fits within is sorted in
      with_tree old new grows (symbol.Shift space from) behind a before after letters name can said refl
      (subst (Stands new after.trees.items (shift space from 1 (tree_at T 0) ∷ drop 1 T)) (sym op.new_is)
      (subst (λ (ids : List (Option ℕ)). Stands new ids (shift space from 1 (tree_at T 0) ∷ drop 1 T) (record { sort = sort_of (tree_of old op.tree); plain = false } ∷ op.rest)) (sym trees)
      (subst (λ (t : Tree). StandsAt new made t (record { sort = sort_of (tree_of old op.tree); plain = false })) same at, Stands-grows old new grows _ _ _ op.stands)))

-- a judgment
module _ (nodes : List Node) (kind : JudgmentKind) (behind : List Symbol) (a : Assignment) (before : Stack) (letters : List (Option ℕ)) (name : Option ℕ)
    (can : CanPut nodes (symbol.Says kind) behind a before letters name) where
  says_step : (starts_with (sorts_of kind) can.has.marks ≡ true) × (drop (length (sorts_of kind)) can.has.marks ≡ can.marks)
  says_step = if_some (starts_with (sorts_of kind) can.has.marks) (drop (length (sorts_of kind)) can.has.marks) can.marks (marked nodes (symbol.Says kind) behind a before letters name can)

  pub says_ready : length (sorts_of kind) ≤ length before.trees.items
  says_ready = enough nodes (sorts_of kind) before.trees.items (spelled behind a).trees can.has.marks can.has.trees says_step.0

  drop_one_more : {A : Type 0} (n : ℕ) (xs : List A) → drop (suc n) xs ≡ drop n (drop 1 xs)
  drop_one_more zero [] = refl
  drop_one_more (suc n) [] = refl
  drop_one_more n (x ∷ xs) = refl

  split_top : (n : ℕ) (trees : List Tree) (first : Tree) (others : List Tree) → take (suc n) trees ≡ first ∷ others → (tree_at trees 0 ≡ first) × (take n (drop 1 trees) ≡ others)
  split_top n [] first others e = absurd cc
  split_top n (tree ∷ trees) first others e = (cc, cc)

  pub says_put : (after : Stack) → after.trees.items ≡ drop (length (sorts_of kind)) before.trees.items → SaysOnTop kind before after → HasSpelled nodes (symbol.Says kind ∷ behind) a after
  says_put after trees says =
      let T = (spelled behind a).trees in
      let n = length (judgment_form kind).parts in
      let top = top_known nodes (sorts_of kind) (ids_of says.says) before.trees.items T can.has.marks can.has.trees says_step.0 says.on_top in
      let parts = split_top n T (tree_of nodes (context_of says.says)) (map (tree_of nodes) (parts_of says.says)) top.trees_are in
      let here : record { kind = kind; context = tree_at T 0; parts = take n (drop 1 T) } ≡ statement (trees_in nodes) says.says =
      λ i. record { kind = sym says.kind_is i; context = parts.0 i; parts = parts.1 i } in
      record {
        marks = can.marks;
        marked = can.marked;
        trees = subst (Stands nodes after.trees.items (drop n (drop 1 T))) says_step.1
            (subst (λ (ids : List (Option ℕ)). Stands nodes ids (drop n (drop 1 T)) (drop (length (sorts_of kind)) can.has.marks)) (sym trees)
            (subst (λ (ts : List Tree). Stands nodes (drop (length (sorts_of kind)) before.trees.items) ts (drop (length (sorts_of kind)) can.has.marks)) (drop_one_more n T)
            (Stands-drop nodes (length (sorts_of kind)) before.trees.items T can.has.marks can.has.trees)));
        statements = (λ i. here i ∷ can.has.statements i) ∙ ap (map (statement (trees_in nodes))) (sym says.said);
        over = subst (All (IsJudgmentOver nodes)) (sym says.said)
            (All-cons (IsJudgmentOver nodes) says.says before.said.items (record { live = top.live; sorts = top.sorts_are ∙ ap sorts_of (sym says.kind_is) }) can.has.over);
      }

  top_below : (n : ℕ) (trees : List Tree) → IndicesBelow (2 ^ 32) (tree_at trees 0) → AllIndicesBelow (2 ^ 32) (trees_of (take n (drop 1 trees))) → AllIndicesBelow (2 ^ 32) (trees_of (take (suc n) trees))
  top_below n [] first others = tt
  top_below n (tree ∷ trees) first others = (first, others)

  pub says_too_high : Contains (take (length (sorts_of kind)) before.trees.items) None → IsTooHigh (symbol.Says kind ∷ behind) a
  says_too_high none all =
      let T = (spelled behind a).trees in
      let n = length (judgment_form kind).parts in
      let says : Statement = record { kind = kind; context = tree_at T 0; parts = take n (drop 1 T) } in
      let fine = All-head IsStatement says (spelled behind a).statements all in
      let high = top_none nodes (length (sorts_of kind)) before.trees.items T can.has.marks can.has.trees none in
      high.1 (top_below n T (IndicesBelow-IsTree _ (tree_at T 0) fine.context) (AllIndicesBelow-AreTrees (judgment_form kind).parts (trees_of (take n (drop 1 T))) fine.parts))

-- an answer that is yes
pub true_answers : (nodes : List Node) (text : List Symbol) (a : Assignment) (stack : Stack) (answer : Bool) → answer ≡ true → HasSpelled nodes text a stack → Answers nodes text a stack answer
true_answers nodes text a stack true e h = h
true_answers nodes text a stack false e h = absurd cc

pub says_answers : (nodes : List Node) (kind : JudgmentKind) (behind : List Symbol) (a : Assignment) (before after : Stack) (letters : List (Option ℕ)) (name : Option ℕ) (answer : Bool)
    → CanPut nodes (symbol.Says kind) behind a before letters name → after.trees.items ≡ drop (length (sorts_of kind)) before.trees.items → OnTrue answer (SaysOnTop kind before after)
    → OnFalse answer (Contains (take (length (sorts_of kind)) before.trees.items) None) → Answers nodes (symbol.Says kind ∷ behind) a after answer
says_answers nodes kind behind a before after letters name true can trees says none = says_put nodes kind behind a before letters name can after trees says
says_answers nodes kind behind a before after letters name false can trees says none = says_too_high nodes kind behind a before letters name can none

-- the same of a call that may want memory
pub put_answers : {E : Type 0} (r : Result Bool E) (P : Type 0) (nodes : List Node) (text : List Symbol) (a : Assignment) (stack : Stack) → IfOk r (λ put. put ≡ true) → OnOk r P
    → (P → HasSpelled nodes text a stack) → IfOk r (Answers nodes text a stack)
put_answers (Ok answer) P nodes text a stack e p h = true_answers nodes text a stack answer e (h p)
put_answers (Err error) P nodes text a stack e p h = tt

pub says_result : {E : Type 0} (r : Result Bool E) (nodes : List Node) (kind : JudgmentKind) (behind : List Symbol) (a : Assignment) (before after : Stack) (letters : List (Option ℕ)) (name : Option ℕ)
    → CanPut nodes (symbol.Says kind) behind a before letters name → OnOk r (after.trees.items ≡ drop (length (sorts_of kind)) before.trees.items)
    → IfOk r (λ put. OnTrue put (SaysOnTop kind before after)) → IfOk r (λ put. OnFalse put (Contains (take (length (sorts_of kind)) before.trees.items) None))
    → IfOk r (Answers nodes (symbol.Says kind ∷ behind) a after)
says_result (Ok answer) nodes kind behind a before after letters name can trees says none = says_answers nodes kind behind a before after letters name answer can trees says none
says_result (Err error) nodes kind behind a before after letters name can trees says none = tt

some_same : (x y : ℕ) (o : Option ℕ) → o ≡ Some x → o ≡ Some y → x ≡ y
some_same x y o e f = cc

-- the same with operands that were read off the stack
module _ (old new : List Node) (grows : Grows old new) (space : Space) (behind : List Symbol) (a : Assignment) (before after : Stack) (letters : List (Option ℕ)) (name : Option ℕ) (made : Option ℕ) where
  pub put_read : (can : CanPut old (symbol.Put space) behind a before letters name) (body value : ℕ) → first_of before.trees.items ≡ Some body → first_of (drop 1 before.trees.items) ≡ Some value
      → after.trees.items ≡ made ∷ drop 1 (drop 1 before.trees.items) → after.said ≡ before.said
      → (IsSome made ↔ IndicesBelow (2 ^ 32) (put space none (tree_of old value) (tree_of old body))) → IfSome made (λ id. id < length new)
      → IfSome made (λ id. tree_of new id ≡ put space none (tree_of old value) (tree_of old body)) → IfSome made (λ id. sort_of (tree_of new id) ≡ sort_of (tree_of old body))
      → HasSpelled new (symbol.Put space ∷ behind) a after
  put_read can body value first second trees said fits within is sorted =
      let ops = operands old space before.trees.items (spelled behind a).trees can.has.marks can.marks can.has.trees (marked old (symbol.Put space) behind a before letters name can) in
      let body_is : body ≡ ops.body = some_same body ops.body (first_of before.trees.items) first ops.first in
      let value_is : value ≡ ops.value = some_same value ops.value (first_of (drop 1 before.trees.items)) second ops.second in
      put_put old new grows space behind a before after letters name made can ops trees said
      (subst (λ (v : ℕ). IsSome made ↔ IndicesBelow (2 ^ 32) (put space none (tree_of old v) (tree_of old ops.body))) value_is
      (subst (λ (b : ℕ). IsSome made ↔ IndicesBelow (2 ^ 32) (put space none (tree_of old value) (tree_of old b))) body_is fits))
      within
      (subst (λ (v : ℕ). IfSome made (λ id. tree_of new id ≡ put space none (tree_of old v) (tree_of old ops.body))) value_is
      (subst (λ (b : ℕ). IfSome made (λ id. tree_of new id ≡ put space none (tree_of old value) (tree_of old b))) body_is is))
      (subst (λ (b : ℕ). IfSome made (λ id. sort_of (tree_of new id) ≡ sort_of (tree_of old b))) body_is sorted)

  pub shift_read : (from : ℕ) (can : CanPut old (symbol.Shift space from) behind a before letters name) (tree : ℕ) → first_of before.trees.items ≡ Some tree
      → after.trees.items ≡ made ∷ drop 1 before.trees.items → after.said ≡ before.said
      → (IsSome made ↔ IndicesBelow (2 ^ 32) (shift space from 1 (tree_of old tree))) → IfSome made (λ id. id < length new)
      → IfSome made (λ id. tree_of new id ≡ shift space from 1 (tree_of old tree)) → IfSome made (λ id. sort_of (tree_of new id) ≡ sort_of (tree_of old tree))
      → HasSpelled new (symbol.Shift space from ∷ behind) a after
  shift_read from can tree first trees said fits within is sorted =
      let op = operand old space from before.trees.items (spelled behind a).trees can.has.marks can.marks can.has.trees (marked old (symbol.Shift space from) behind a before letters name can) in
      let tree_is : tree ≡ op.tree = some_same tree op.tree (first_of before.trees.items) first op.first in
      shift_put old new grows space behind a before after letters name made from can op trees said
      (subst (λ (t : ℕ). IsSome made ↔ IndicesBelow (2 ^ 32) (shift space from 1 (tree_of old t))) tree_is fits) within
      (subst (λ (t : ℕ). IfSome made (λ id. tree_of new id ≡ shift space from 1 (tree_of old t))) tree_is is)
      (subst (λ (t : ℕ). IfSome made (λ id. sort_of (tree_of new id) ≡ sort_of (tree_of old t))) tree_is sorted)
