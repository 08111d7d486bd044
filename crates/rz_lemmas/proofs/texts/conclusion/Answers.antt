use Rattle.std.proofs.Common.{length, arith, Vec, Global, IfSome, All, ◌≡◌, ℕ, ◌++◌, ◌∷◌, [], List, Option, map, refl, sym, ap, subst, ◌∙◌}
use Rattle.std.proofs.lemmas.List.{append-nil}
use Rattle.std.proofs.lemmas.List.Elements.{All-contains, Contains-push}
use Rattle.rz_rules.specs.declared.nodes.Node.{Node}
use Rattle.rz_rules.specs.declared.judgments.Judgment.{Judgment}
use Rattle.rz_rules.specs.declared.symbols.Symbol.{Symbol}
use Rattle.rz_rules.specs.Judgment.{statement}
use Rattle.rz_rules.specs.Row.{spelled}
use Rattle.rz_rule_text.specs.Letters.{assignment_of}
use Rattle.rz_rules.specs.Table.{rule_of}
use Rattle.rz_rules.specs.Tree.{trees_in}
use Rattle.rz_rule_text.specs.Spelling.{AreLetters, IsJudgmentOver}
use Rattle.rz_lemmas.specs.Letters.{letters_at, placed, slots}
use Rattle.rz_lemmas.proofs.Instances.{are_letters, row_says, spelled_at, spelled_last}
use Rattle.rz_lemmas.proofs.texts.conclusion.Goals as goal

pub spell-requires-clause-letters : goal.spell-requires-clause-letters
spell-requires-clause-letters c =
    let nodes = c.args.pool.now.nodes in
    let row = c.args.row in
    let placed_are = c.deref.ensures.value ∙ c.in_ok-slots.ensures ∙ ap (λ (t : List Symbol). placed (slots t) c.args.letters.now) c.text.ensures in
    subst (λ (t : List Symbol). AreLetters nodes t c.deref.result.now c.args.name) (sym c.text-2.ensures)
    (subst (λ (ls : List (Option ℕ)). AreLetters nodes (rule_of row).text ls c.args.name) (sym placed_are)
    (are_letters nodes row c.args.letters.now c.args.name c.requires.letters))

-- what was spelled, and that it is over the pool
abbrev Spells : List Node → List Node → List Symbol → List (Option ℕ) → Option ℕ → Option (Vec Judgment Global) → Type 0
Spells old new text letters name answer =
    IfSome answer (λ said. (spelled text (assignment_of old letters name)).statements ≡ map (statement (trees_in new)) said.items)

empty : (said : List Judgment) → length said ≡ 0 → said ≡ []
empty [] e = refl
empty (says ∷ said) e = absurd (omega (arith, e))

pub unreachable-requires : goal.unreachable-requires
unreachable-requires c =
    let nodes = c.args.pool.now.nodes in
    let new = c.spell.new.pool.nodes in
    let spells = subst (Spells nodes new c.text-2.result.now c.deref.result.now c.args.name) c.in-Some.is c.in_ok-said.ensures.spells in
    row_says c.args.row (letters_at nodes c.args.row c.args.letters.now c.args.name) c.requires.text
    (spelled_at nodes c.args.row c.args.letters.now c.args.name c.text-2.result.now c.text.result.now c.deref.result.now []
    c.text-2.ensures c.text.ensures (c.deref.ensures.value ∙ c.in_ok-slots.ensures)
    (spells ∙ ap (map (statement (trees_in new))) (c.in_default-pop.ensures.items ∙ append-nil c.pop.new.self.items ∙ empty c.pop.new.self.items (omega (arith, c.in_default-pop.ensures.cases.1)))))

pub returns-clause-says : goal.returns-clause-says
returns-clause-says c =
    let nodes = c.args.pool.now.nodes in
    let new = c.spell.new.pool.nodes in
    let spells = subst (Spells nodes new c.text-2.result.now c.deref.result.now c.args.name) c.in-Some.is c.in_ok-said.ensures.spells in
    spelled_last nodes new c.args.row c.args.letters.now c.args.name c.pop.new.self.items c.in-Some-pop.says
    (spelled_at nodes c.args.row c.args.letters.now c.args.name c.text-2.result.now c.text.result.now c.deref.result.now
    (map (statement (trees_in new)) (c.pop.new.self.items ++ c.in-Some-pop.says ∷ []))
    c.text-2.ensures c.text.ensures (c.deref.ensures.value ∙ c.in_ok-slots.ensures)
    (spells ∙ ap (map (statement (trees_in new))) c.in-Some-pop.ensures.items))

abbrev AreOver : List Node → Option (Vec Judgment Global) → Type 0
AreOver new answer = IfSome answer (λ said. All (IsJudgmentOver new) said.items)

pub returns-clause-over : goal.returns-clause-over
returns-clause-over c =
    let new = c.spell.new.pool.nodes in
    let over = subst (AreOver new) c.in-Some.is c.in_ok-said.ensures.over in
    All-contains (IsJudgmentOver new) (c.pop.new.self.items ++ c.in-Some-pop.says ∷ []) c.in-Some-pop.says
    (subst (All (IsJudgmentOver new)) c.in-Some-pop.ensures.items over) (Contains-push c.pop.new.self.items c.in-Some-pop.says)
