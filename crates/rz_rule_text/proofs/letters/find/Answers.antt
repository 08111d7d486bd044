use Rattle.std.proofs.Common.{◌≡◌, ℕ, ◌<◌, [], List, Option, All, length, map, true, true≢false, sym, ap, subst, ◌∙◌}
use Rattle.std.specs.Prelude.{is_some, ◌==◌, if◌then◌else◌}
use Rattle.std.specs.List.{list_all, list_any}
use Rattle.rz_rules.specs.declared.judgments.Judgment.{Judgment}
use Rattle.rz_rules.specs.Judgment.{ids_of, statement}
use Rattle.rz_rules.specs.Tree.{trees_in}
use Rattle.rz_rules.specs.Text.{same_letter}
use Rattle.std.specs.Cmp.{first_so, second_so}
use Rattle.std.proofs.lemmas.List.Elements.{All-nil}
use Rattle.rz_rules.specs.Row.{Assignment, IsInstance, letters_in}
use Rattle.rz_rule_text.specs.Finding.{IsLive, Remains, letters_met, meets_name}
use Rattle.rz_rule_text.specs.Letters.{has_name}
use Rattle.rz_rule_text.proofs.Found.{all_met, from_judgments, name_met, rest_over, start_is, symbols_fit}
use Rattle.rz_rule_text.proofs.letters.find.Goals as goal
use Rattle.rz_rule_text.proofs.letters.find.Goals.{In_ok-walk}

-- each instance is what the walk has before it
remains : (c : In_ok-walk) (a : Assignment) → IsInstance c.args.text.now a (map (statement (trees_in c.args.pool.now.nodes)) c.args.judgments.now) → Remains c.args.pool.now.nodes c.args.text.now a c.in_ok-walk.walk
remains c a instance =
    from_judgments c.args.pool.now.nodes c.args.text.now c.args.judgments.now c.in_ok-walk.walk (c.in_ok-walk.ensures.expected ∙ c.new.ensures.items) c.in_ok-walk.ensures.rest c.in_ok-walk.ensures.letters c.in_ok-walk.ensures.name a instance

pub pass_all-requires-clause-fits : goal.pass_all-requires-clause-fits
pass_all-requires-clause-fits c = symbols_fit c.args.text.now [] c.requires.text

pub pass_all-requires-clause-walk : goal.pass_all-requires-clause-walk
pass_all-requires-clause-walk c =
    let ns = c.args.pool.now.nodes in
    let facts = c.in_ok-walk.ensures in
    start_is ns c.in_ok-walk.walk (subst (All (IsLive ns)) (sym (facts.expected ∙ c.new.ensures.items)) (All-nil (IsLive ns)))
    (subst (λ (js : List Judgment). All (λ says. All (λ id. id < length ns) (ids_of says)) js) (sym facts.rest) c.requires.there) facts.letters facts.name

pub returns-then-not-branch-clause-none : goal.returns-then-not-branch-clause-none
returns-then-not-branch-clause-none c a instance =
    let at = (goal.at.returns-then-not-branch-clause-none c).In_ok-walk in
    (rw c.if-not-branch.true at c.in_ok-pass_all.ensures.refuses) a (remains at a instance)

pub returns-then-is_empty-clause-finds : goal.returns-then-is_empty-clause-finds
returns-then-is_empty-clause-finds c a instance =
    let at = (goal.at.returns-then-is_empty-clause-finds c).In_ok-walk in
    let passed = rw c.if-not-branch.false at c.in_ok-pass_all.ensures.passes in
    (passed.remains a (remains at a instance)).found

pub returns-then-is_empty-clause-letters : goal.returns-then-is_empty-clause-letters
returns-then-is_empty-clause-letters c determined =
    let text = c.args.text.now in
    let at = (goal.at.returns-then-is_empty-clause-letters c).In_ok-walk in
    let passed = rw c.if-not-branch.false at c.in_ok-pass_all.ensures.passes in
    all_met c.args.pool.now.nodes text c.in_ok-walk.walk c.pass_all.new.walk passed (letters_in text)
    (subst (λ (es : List (Option ℕ)). list_all (λ letter. list_any (same_letter letter) (letters_met (map is_some es) text)) (letters_in text) ≡ true) (sym (c.in_ok-walk.ensures.expected ∙ c.new.ensures.items))
    (first_so _ (if has_name text then meets_name [] text else true) determined))

pub returns-else-is_empty-clause-none : goal.returns-else-is_empty-clause-none
returns-else-is_empty-clause-none c a instance =
    let at = (goal.at.returns-else-is_empty-clause-none c).In_ok-walk in
    let passed = rw c.if-not-branch.false at c.in_ok-pass_all.ensures.passes in
    let over = rest_over c.args.pool.now.nodes c.pass_all.new.walk a (passed.remains a (remains at a instance)) in
    let yes = c.is_empty.ensures ∙ ap (λ (js : List Judgment). length js == 0) over in
    absurd (true≢false (sym yes ∙ c.if-is_empty.false))

pub returns-then-is_empty-clause-name : goal.returns-then-is_empty-clause-name
returns-then-is_empty-clause-name c determined named =
    let text = c.args.text.now in
    let passed = rw c.if-not-branch.false at c.in_ok-pass_all.ensures.passes in
    let met = name_met (has_name text) (meets_name [] text) named (second_so _ (if has_name text then meets_name [] text else true) determined) in
    passed.met_name (subst (λ (es : List (Option ℕ)). meets_name (map is_some es) text ≡ true) (sym (c.in_ok-walk.ensures.expected ∙ c.new.ensures.items)) met)
