use Rattle.rz_reduction.proofs.Views.{spine_is, introduction_is, former_is}
use Rattle.rz_reduction.proofs.laws.views.Goals as goal

pub returns-clause-spine : goal.returns-clause-spine
returns-clause-spine c = spine_is

pub returns-clause-introduction : goal.returns-clause-introduction
returns-clause-introduction c = introduction_is

pub returns-clause-former : goal.returns-clause-former
returns-clause-former c = former_is
