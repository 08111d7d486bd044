use Rattle.std.proofs.Common.{sym, ◌∙◌, arith}
use Rattle.std.proofs.lemmas.List.Sums.{prefix_len_is}
use Rattle.rz_lex.specs.Spelling.{is_in_name}
use Rattle.rz_lex.proofs.piece.run_in_name.Goals as goal

pub returns-then-not-is_in_name : goal.returns-then-not-is_in_name
returns-then-not-is_in_name c = sym (prefix_len_is is_in_name c.args.rest.now c.loop-i.i 0 (omega arith) c.loop-i.invariant (λ lt. sym c.is_in_name.ensures ∙ c.if-not-is_in_name.true))

pub returns : goal.returns
returns c = sym (prefix_len_is is_in_name c.args.rest.now _ 0 (omega arith) (λ k lt. c.loop-i.invariant k (omega arith)) (λ lt. absurd (omega arith)))
