use Rattle.rz_app.proofs.Statuses.{one_where_invalid, seven_where_wide, two_where_no_command, zero_where_valid}
use Rattle.rz_app.proofs.app.rzk.Goals as goal

pub returns-in-Ok-write_all-clause-no_command_only : goal.returns-in-Ok-write_all-clause-no_command_only
returns-in-Ok-write_all-clause-no_command_only g c = two_where_no_command _ _ _ _ _ _ c.in-Ok.ensures.composed

pub returns-in-Ok-write_all-clause-holds : goal.returns-in-Ok-write_all-clause-holds
returns-in-Ok-write_all-clause-holds g c = zero_where_valid c.one_sequent.ensures _ _ _ _ _ _ c.in-Ok.ensures.composed

pub returns-in-Ok-write_all-clause-refuted : goal.returns-in-Ok-write_all-clause-refuted
returns-in-Ok-write_all-clause-refuted g c = one_where_invalid c.one_sequent.ensures _ _ _ _ _ _ c.in-Ok.ensures.composed

pub returns-in-Ok-write_all-clause-silent : goal.returns-in-Ok-write_all-clause-silent
returns-in-Ok-write_all-clause-silent g c = seven_where_wide c.one_sequent.ensures _ _ _ _ _ _ c.in-Ok.ensures.composed
