use Rattle.std.proofs.Common.{◌≡◌, ℕ, ◌<◌, List, [], ◌∷◌, length, sym, ap, subst, ◌∙◌, arith}
use Rattle.std.proofs.lemmas.List.Elements.{All-cons, All-nil}
use Rattle.rz_rules.specs.declared.nodes.Node.{Node}
use Rattle.rz_rules.specs.declared.judgments.Judgment.{Judgment}
use Rattle.rz_rules.specs.declared.judgments.Judgment.TheVariants as judgment
use Rattle.rz_rules.specs.Judgment.{statement}
use Rattle.rz_rules.specs.Structural.{has, holds, same}
use Rattle.rz_rules.specs.Substitution.{changed, none, raising}
use Rattle.rz_rules.specs.Tree.{tree_of, trees_in}
use Rattle.rz_pool.specs.Counts.{depth_of}
use Rattle.rz_pool.specs.Pool.{Grows}
use Rattle.rz_pool.proofs.Nodes.{Grows-trans, KeepsTrees-Grows, length-Grows}
use Rattle.rz_rule_text.specs.Spelling.{IsLive}
use Rattle.rz_lemmas.specs.Behind.{bound_in}
use Rattle.rz_lemmas.specs.Moves.{raised_judgment}
use Rattle.rz_lemmas.proofs.Moving.{raised_over}
use Rattle.rz_lemmas.proofs.structural.raise_judgment.Goals as goal

-- a tree stays where a pool grows
kept : (old new : List Node) → Grows old new → (id : ℕ) → id < length old → tree_of new id ≡ tree_of old id
kept old new grows id live = KeepsTrees-Grows old new grows id live

pub returns-in_ok-phi-in-Holds-clause-says : goal.returns-in_ok-phi-in-Holds-clause-says
returns-in_ok-phi-in-Holds-clause-says c =
    let old = c.args.pool.now.nodes in
    let new = c.raise.new.pool.nodes in
    let changes = raising none (bound_in c.args.behind.entry) in
    let depth = depth_of c.args.behind.depth in
    let context = kept old new c.raise.ensures.grows c.args.context c.requires.context.0 in
    let phi = c.in_ok-phi-in-Holds.ensures.tree in
    let is : holds (tree_of new c.args.context) (tree_of new c.in_ok-phi-in-Holds.phi) ≡ holds (tree_of old c.args.context) (changed changes depth (tree_of old c.in-Holds.phi)) =
    λ i. holds (context i) (phi i) in
    is ∙ ap (λ (says : Judgment). raised_judgment changes depth (tree_of old c.args.context) (statement (trees_in old) says)) (sym c.in-Holds.is)

pub returns-in_ok-phi-in-Holds-clause-over : goal.returns-in_ok-phi-in-Holds-clause-over
returns-in_ok-phi-in-Holds-clause-over c =
    let old = c.args.pool.now.nodes in
    let new = c.raise.new.pool.nodes in
    raised_over old new none (bound_in c.args.behind.entry) (depth_of c.args.behind.depth) (tree_of old c.args.context) c.args.says (judgment.Holds c.args.context c.in_ok-phi-in-Holds.phi)
    c.requires.over c.requires.context.1
    (All-cons (λ id. id < length new) c.args.context (c.in_ok-phi-in-Holds.phi ∷ []) (omega (arith, c.requires.context.0, length-Grows old new c.raise.ensures.grows))
    (All-cons (λ id. id < length new) c.in_ok-phi-in-Holds.phi [] c.in_ok-phi-in-Holds.ensures.within (All-nil (λ id. id < length new))))
    (returns-in_ok-phi-in-Holds-clause-says c)

pub returns-in_ok-of-in-Has-clause-says : goal.returns-in_ok-of-in-Has-clause-says
returns-in_ok-of-in-Has-clause-says c =
    let old = c.args.pool.now.nodes in
    let one = c.raise-in-Has.new.pool.nodes in
    let new = c.raise-in-Has-2.new.pool.nodes in
    let changes = raising none (bound_in c.args.behind.entry) in
    let depth = depth_of c.args.behind.depth in
    let live = subst (IsLive old) c.in-Has.is c.requires.over.live in
    let all = Grows-trans old one new c.raise-in-Has.ensures.grows c.raise-in-Has-2.ensures.grows in
    let context = kept old new all c.args.context c.requires.context.0 in
    let a = kept one new c.raise-in-Has-2.ensures.grows c.in_ok-a-in-Has.a c.in_ok-a-in-Has.ensures.within ∙ c.in_ok-a-in-Has.ensures.tree in
    let of = c.in_ok-of-in-Has.ensures.tree ∙ ap (changed changes depth) (kept old one c.raise-in-Has.ensures.grows c.in-Has.of (live 2 0 (omega arith))) in
    let is : has (tree_of new c.args.context) (tree_of new c.in_ok-a-in-Has.a) (tree_of new c.in_ok-of-in-Has.of)
    ≡ has (tree_of old c.args.context) (changed changes depth (tree_of old c.in-Has.a)) (changed changes depth (tree_of old c.in-Has.of)) =
    λ i. has (context i) (a i) (of i) in
    is ∙ ap (λ (says : Judgment). raised_judgment changes depth (tree_of old c.args.context) (statement (trees_in old) says)) (sym c.in-Has.is)

pub returns-in_ok-of-in-Has-clause-over : goal.returns-in_ok-of-in-Has-clause-over
returns-in_ok-of-in-Has-clause-over c =
    let old = c.args.pool.now.nodes in
    let one = c.raise-in-Has.new.pool.nodes in
    let new = c.raise-in-Has-2.new.pool.nodes in
    let a = c.in_ok-a-in-Has.a in
    let of = c.in_ok-of-in-Has.of in
    raised_over old new none (bound_in c.args.behind.entry) (depth_of c.args.behind.depth) (tree_of old c.args.context) c.args.says (judgment.Has c.args.context a of)
    c.requires.over c.requires.context.1
    (All-cons (λ id. id < length new) c.args.context (a ∷ of ∷ [])
    (omega (arith, c.requires.context.0, length-Grows old one c.raise-in-Has.ensures.grows, length-Grows one new c.raise-in-Has-2.ensures.grows))
    (All-cons (λ id. id < length new) a (of ∷ []) (omega (arith, c.in_ok-a-in-Has.ensures.within, length-Grows one new c.raise-in-Has-2.ensures.grows))
    (All-cons (λ id. id < length new) of [] c.in_ok-of-in-Has.ensures.within (All-nil (λ id. id < length new)))))
    (returns-in_ok-of-in-Has-clause-says c)

pub returns-in_ok-of-in-Same-clause-says : goal.returns-in_ok-of-in-Same-clause-says
returns-in_ok-of-in-Same-clause-says c =
    let old = c.args.pool.now.nodes in
    let one = c.raise-in-Same.new.pool.nodes in
    let two = c.raise-in-Same-2.new.pool.nodes in
    let new = c.raise-in-Same-3.new.pool.nodes in
    let changes = raising none (bound_in c.args.behind.entry) in
    let depth = depth_of c.args.behind.depth in
    let live = subst (IsLive old) c.in-Same.is c.requires.over.live in
    let front = Grows-trans old one two c.raise-in-Same.ensures.grows c.raise-in-Same-2.ensures.grows in
    let back = Grows-trans one two new c.raise-in-Same-2.ensures.grows c.raise-in-Same-3.ensures.grows in
    let context = kept old new (Grows-trans old two new front c.raise-in-Same-3.ensures.grows) c.args.context c.requires.context.0 in
    let a = kept one new back c.in_ok-a-in-Same.a c.in_ok-a-in-Same.ensures.within ∙ c.in_ok-a-in-Same.ensures.tree in
    let b = kept two new c.raise-in-Same-3.ensures.grows c.in_ok-b-in-Same.b c.in_ok-b-in-Same.ensures.within
    ∙ c.in_ok-b-in-Same.ensures.tree ∙ ap (changed changes depth) (kept old one c.raise-in-Same.ensures.grows c.in-Same.b (live 2 0 (omega arith))) in
    let of = c.in_ok-of-in-Same.ensures.tree ∙ ap (changed changes depth) (kept old two front c.in-Same.of (live 3 0 (omega arith))) in
    let is : same (tree_of new c.args.context) (tree_of new c.in_ok-a-in-Same.a) (tree_of new c.in_ok-b-in-Same.b) (tree_of new c.in_ok-of-in-Same.of)
    ≡ same (tree_of old c.args.context) (changed changes depth (tree_of old c.in-Same.a)) (changed changes depth (tree_of old c.in-Same.b)) (changed changes depth (tree_of old c.in-Same.of)) =
    λ i. same (context i) (a i) (b i) (of i) in
    is ∙ ap (λ (says : Judgment). raised_judgment changes depth (tree_of old c.args.context) (statement (trees_in old) says)) (sym c.in-Same.is)

pub returns-in_ok-of-in-Same-clause-over : goal.returns-in_ok-of-in-Same-clause-over
returns-in_ok-of-in-Same-clause-over c =
    let old = c.args.pool.now.nodes in
    let one = c.raise-in-Same.new.pool.nodes in
    let two = c.raise-in-Same-2.new.pool.nodes in
    let new = c.raise-in-Same-3.new.pool.nodes in
    let a = c.in_ok-a-in-Same.a in
    let b = c.in_ok-b-in-Same.b in
    let of = c.in_ok-of-in-Same.of in
    let first = length-Grows old one c.raise-in-Same.ensures.grows in
    let second = length-Grows one two c.raise-in-Same-2.ensures.grows in
    let third = length-Grows two new c.raise-in-Same-3.ensures.grows in
    raised_over old new none (bound_in c.args.behind.entry) (depth_of c.args.behind.depth) (tree_of old c.args.context) c.args.says (judgment.Same c.args.context a b of)
    c.requires.over c.requires.context.1
    (All-cons (λ id. id < length new) c.args.context (a ∷ b ∷ of ∷ []) (omega (arith, c.requires.context.0, first, second, third))
    (All-cons (λ id. id < length new) a (b ∷ of ∷ []) (omega (arith, c.in_ok-a-in-Same.ensures.within, second, third))
    (All-cons (λ id. id < length new) b (of ∷ []) (omega (arith, c.in_ok-b-in-Same.ensures.within, third))
    (All-cons (λ id. id < length new) of [] c.in_ok-of-in-Same.ensures.within (All-nil (λ id. id < length new))))))
    (returns-in_ok-of-in-Same-clause-says c)
