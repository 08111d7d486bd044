use Rattle.rz_lex.specs.Spelling.{table}
use Rattle.rz_lex.proofs.Choice.{fixed_chosen, free_chosen, fixed_alone, free_alone, none_alone}
use Rattle.rz_lex.proofs.piece.longest_token.Goals as goal

pub returns-then-free_len-fixed_len-clause-some : goal.returns-then-free_len-fixed_len-clause-some
returns-then-free_len-fixed_len-clause-some c =
    fixed_chosen table c.args.rest.now c.longest_listed-fixed.result c.longest_free-free.result _ _ c.in-Some-Some.free_len c.in-Some-Some.free_kind c.in-Some-Some.is-0 c.in-Some-Some.is-1
    c.longest_listed-fixed.ensures.some c.longest_free-free.ensures.some c.if-free_len-fixed_len.true

pub returns-else-free_len-fixed_len-clause-some : goal.returns-else-free_len-fixed_len-clause-some
returns-else-free_len-fixed_len-clause-some c =
    free_chosen table c.args.rest.now c.longest_listed-fixed.result c.longest_free-free.result c.in-Some-Some.fixed_len c.in-Some-Some.fixed_kind _ _ c.in-Some-Some.is-0 c.in-Some-Some.is-1
    c.longest_listed-fixed.ensures.some c.longest_free-free.ensures.some c.if-free_len-fixed_len.false

pub returns-in-Some-None-clause-some : goal.returns-in-Some-None-clause-some
returns-in-Some-None-clause-some c =
    fixed_alone table c.args.rest.now c.longest_listed-fixed.result c.longest_free-free.result c.in-Some-None.fixed c.in-Some-None.is-0 c.in-Some-None.is-1 c.longest_listed-fixed.ensures.some c.longest_free-free.ensures.none

pub returns-in-None-default-clause-none : goal.returns-in-None-default-clause-none
returns-in-None-default-clause-none c =
    none_alone table c.args.rest.now c.longest_listed-fixed.result c.longest_free-free.result c.in-None-default.is-0 c.longest_listed-fixed.ensures.none c.longest_free-free.ensures.none

pub returns-in-None-default-clause-some : goal.returns-in-None-default-clause-some
returns-in-None-default-clause-some c =
    free_alone table c.args.rest.now c.longest_listed-fixed.result c.longest_free-free.result c.in-None-default.is-0 c.longest_listed-fixed.ensures.none c.longest_free-free.ensures.some
