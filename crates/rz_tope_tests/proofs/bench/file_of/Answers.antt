use Rattle.std.proofs.Common.{◌≡◌, ◌+◌, IsTrue, [], length, ap, ◌∙◌, arith, rules}
use Rattle.rz_tope_tests.specs.Bench.{said, trees}
use Rattle.rz_tope_tests.proofs.Picking.{length_said_after}
use Rattle.rz_tope_tests.proofs.bench.file_of.Goals as goal

pub file-requires-clause-there : goal.file-requires-clause-there
file-requires-clause-there c k d l =
    let made : IsTrue c.in_ok-build.field-0 = search rules in
    let before = c.build.new.self in
    let none : said before ≡ [] = c.in_ok-build.ensures.said made ∙ c.new-bench.ensures.said in
    let count : length (said c.run.new.self) ≡ length (said before) + length c.args.steps.now =
    ap length c.in_ok-run.ensures.said ∙ length_said_after (trees before) (said before) c.args.steps.now in
    omega (arith, c.requires.claimed k d l, c.in_ok-weaken.ensures.count, count, ap length none)
