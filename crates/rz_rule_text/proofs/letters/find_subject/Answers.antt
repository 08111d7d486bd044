use Rattle.std.proofs.Common.{◌≡◌, ℕ, ◌∷◌, ◌<◌, [], List, Option, Some, All, IsTrue, length, map, true, sym, ap, subst, ◌∙◌}
use Rattle.std.specs.Prelude.{is_some, if◌then◌else◌}
use Rattle.std.specs.List.{list_all, list_any}
use Rattle.std.specs.Cmp.{first_so, second_so}
use Rattle.std.proofs.lemmas.List.Elements.{All-cons, All-nil}
use Rattle.rz_rules.specs.declared.judgments.Judgment.{Judgment}
use Rattle.rz_rules.specs.declared.symbols.Symbol.{Symbol}
use Rattle.rz_rules.specs.Judgment.{ids_of}
use Rattle.rz_rules.specs.Row.{Assignment, letters_in}
use Rattle.rz_rules.specs.Text.{same_letter}
use Rattle.rz_rule_text.specs.Letters.{has_name}
use Rattle.rz_rule_text.specs.Finding.{IsLive, Remains, SpeaksOf, last_words, letters_met, meets_name, symbol_fits}
use Rattle.rz_rule_text.proofs.Found.{All-last_words, all_met, from_subject, name_met, start_is, symbols_fit}
use Rattle.rz_rule_text.proofs.letters.find_subject.Goals as goal
use Rattle.rz_rule_text.proofs.letters.find_subject.Goals.{In_ok-walk}

-- what the walk expects
expected : (c : In_ok-walk) → c.in_ok-walk.walk.expected.items ≡ Some c.args.context ∷ Some c.args.term ∷ []
expected c = c.in_ok-walk.ensures.expected ∙ c.in_ok-expect.ensures ∙ ap (λ (es : List (Option ℕ)). Some c.args.context ∷ Some c.args.term ∷ es) c.new-expected.ensures.items

remains : (c : In_ok-walk) (a : Assignment) → SpeaksOf c.args.pool.now.nodes c.args.text.now c.args.context c.args.term a → Remains c.args.pool.now.nodes (last_words c.args.text.now c.args.text.now) a c.in_ok-walk.walk
remains c a speaks =
    from_subject c.args.pool.now.nodes c.args.text.now c.args.context c.args.term c.in_ok-walk.walk (expected c) c.in_ok-walk.ensures.rest c.in_ok-walk.ensures.letters c.in_ok-walk.ensures.name a speaks

pub pass_all-requires-clause-fits : goal.pass_all-requires-clause-fits
pass_all-requires-clause-fits c =
    let P : Symbol → Type 0 = λ symbol. IsTrue (symbol_fits symbol) in
    let text = c.args.text.now in
    let all = symbols_fit text [] c.requires.text in
    subst (λ (ss : List Symbol). All P ss) (sym c.behind_judgments.ensures) (All-last_words P text text all all)

pub pass_all-requires-clause-walk : goal.pass_all-requires-clause-walk
pass_all-requires-clause-walk c =
    let ns = c.args.pool.now.nodes in
    let facts = c.in_ok-walk.ensures in
    start_is ns c.in_ok-walk.walk
    (subst (All (IsLive ns)) (sym (expected (goal.at.pass_all-requires-clause-walk c).In_ok-walk))
    (All-cons (IsLive ns) (Some c.args.context) (Some c.args.term ∷ []) c.requires.context (All-cons (IsLive ns) (Some c.args.term) [] c.requires.term (All-nil (IsLive ns)))))
    (subst (λ (js : List Judgment). All (λ says. All (λ id. id < length ns) (ids_of says)) js) (sym facts.rest) (All-nil (λ (says : Judgment). All (λ id. id < length ns) (ids_of says)))) facts.letters facts.name

pub returns-then-branch-clause-finds : goal.returns-then-branch-clause-finds
returns-then-branch-clause-finds c a speaks =
    let passed = rw (c.if-branch.true, c.behind_judgments.ensures) at c.in_ok-pass_all.ensures.passes in
    (passed.remains a (remains (goal.at.returns-then-branch-clause-finds c).In_ok-walk a speaks)).found

pub returns-then-branch-clause-letters : goal.returns-then-branch-clause-letters
returns-then-branch-clause-letters c determined =
    let text = c.args.text.now in
    let end = last_words text text in
    let passed = rw (c.if-branch.true, c.behind_judgments.ensures) at c.in_ok-pass_all.ensures.passes in
    all_met c.args.pool.now.nodes end c.in_ok-walk.walk c.pass_all.new.walk passed (letters_in text)
    (subst (λ (es : List (Option ℕ)). list_all (λ letter. list_any (same_letter letter) (letters_met (map is_some es) end)) (letters_in text) ≡ true)
    (sym (expected (goal.at.returns-then-branch-clause-letters c).In_ok-walk))
    (first_so _ (if has_name text then meets_name (true ∷ true ∷ []) end else true) determined))

pub returns-then-branch-clause-name : goal.returns-then-branch-clause-name
returns-then-branch-clause-name c determined named =
    let text = c.args.text.now in
    let end = last_words text text in
    let passed = rw (c.if-branch.true, c.behind_judgments.ensures) at c.in_ok-pass_all.ensures.passes in
    let met = name_met (has_name text) (meets_name (true ∷ true ∷ []) end) named (second_so _ (if has_name text then meets_name (true ∷ true ∷ []) end else true) determined) in
    passed.met_name (subst (λ (es : List (Option ℕ)). meets_name (map is_some es) end ≡ true) (sym (expected (goal.at.returns-then-branch-clause-name c).In_ok-walk)) met)

pub returns-else-branch-clause-none : goal.returns-else-branch-clause-none
returns-else-branch-clause-none c a speaks =
    (rw (c.if-branch.false, c.behind_judgments.ensures) at c.in_ok-pass_all.ensures.refuses) a (remains (goal.at.returns-else-branch-clause-none c).In_ok-walk a speaks)
