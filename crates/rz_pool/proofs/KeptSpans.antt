-- The spans that stand beside the nodes: one more, and fewer.
use Rattle.std.proofs.Common.{◌≡◌, ℕ, suc, ◌<◌, ◌≤◌, List, [], ◌∷◌, ◌++◌, Some, length, take, drop, slice_get, sym, ap, subst, ◌∙◌, inl, inr, arith}
use Rattle.std.proofs.lemmas.List.{length_push, get_or_push, length-take, take-append-drop}
use Rattle.std.proofs.lemmas.Option.{slice_get_within, get_or_from_slice_get}
use Rattle.std.proofs.lemmas.Bool.{cases_lt}
use Rattle.rz_rules.specs.declared.kinds.Space.TheVariants.{Points, Terms}
use Rattle.rz_rules.specs.declared.nodes.Node.{Node}
use Rattle.rz_rules.specs.Tree.{Tree, trees_in, tree_over, tree_of}
use Rattle.rz_rules.proofs.Trees.{tree_of-append}
use Rattle.rz_pool.specs.declared.spans.Span.{Span}
use Rattle.rz_pool.specs.declared.spans.Spans.{Spans}
use Rattle.rz_pool.specs.Free.{AreSpansOf, HaveSpans}
use Rattle.rz_rules.specs.Tree.{HasForm}
use Rattle.rz_pool.specs.Pool.{IsPool}
use Rattle.rz_pool.proofs.Nodes.{slice_get-front, slice_get-append, tree_of_last, KeepsTrees-take}

same_span : (a b : Span) → a.least ≡ b.least → a.bound ≡ b.bound → a ≡ b
same_span a b least bound = λ i. record { least = least i; bound = bound i }

-- a tree has one span of each space
pub same_spans : (tree : Tree) (a b : Spans) → AreSpansOf tree a → AreSpansOf tree b → a ≡ b
same_spans tree a b p q =
    let points : a.points ≡ b.points = same_span a.points b.points (p.least Points ∙ sym (q.least Points)) (p.bound Points ∙ sym (q.bound Points)) in
    let terms : a.terms ≡ b.terms = same_span a.terms b.terms (p.least Terms ∙ sym (q.least Terms)) (p.bound Terms ∙ sym (q.bound Terms)) in
    λ i. record { points = points i; terms = terms i }

pub HaveSpans-push : (ns : List Node) (bs : List Spans) (n : Node) (b : Spans) → IsPool ns → HasForm (trees_in ns) (length ns) n → length ns ≡ length bs
    → HaveSpans ns bs → AreSpansOf (tree_over (trees_in ns) n) b → HaveSpans (ns ++ n ∷ []) (bs ++ b ∷ [])
HaveSpans-push ns bs n b pool fine same kept here id spans at =
    elim (cases_lt id (length bs)) [
      | inl l ↦ subst (λ t. AreSpansOf t spans) (sym (tree_of-append ns (n ∷ []) id (omega arith))) (kept id spans (slice_get-front bs (b ∷ []) id spans l at))
      | inr le ↦
          let within : id < length (bs ++ b ∷ []) = slice_get_within (bs ++ b ∷ []) id spans at in
          let last : length bs ≡ id = omega (arith, length_push bs b) in
          let is : b ≡ spans = sym (get_or_push bs b spans id last) ∙ get_or_from_slice_get (bs ++ b ∷ []) id spans spans at in
          let place : length ns ≡ id = same ∙ last in
          let tree : tree_over (trees_in ns) n ≡ tree_of (ns ++ n ∷ []) id = sym (tree_of_last ns n pool fine) ∙ ap (tree_of (ns ++ n ∷ [])) place in
          subst (λ t. AreSpansOf t spans) tree (subst (AreSpansOf (tree_over (trees_in ns) n)) is here)
    ]

pub HaveSpans-take : (ns : List Node) (bs : List Spans) (k : ℕ) → length ns ≡ length bs → HaveSpans ns bs → HaveSpans (take k ns) (take k bs)
HaveSpans-take ns bs k same kept id spans at =
    let within : id < length (take k bs) = slice_get_within (take k bs) id spans at in
    let before : slice_get bs id ≡ Some spans =
    subst (λ xs. slice_get xs id ≡ Some spans) (take-append-drop k bs) (slice_get-append (take k bs) (drop k bs) id spans at) in
    let low : suc id ≤ k = omega (arith, length-take k bs) in
    let live : suc id ≤ length ns = omega (arith, length-take k bs) in
    subst (λ t. AreSpansOf t spans) (sym (KeepsTrees-take ns k (suc id) low live id (omega arith))) (kept id spans before)
