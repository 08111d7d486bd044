use Rattle.rz_metatheory.proofs.RankLists.{everywhere_valid, ranks_refute}
use Rattle.rz_metatheory.proofs.SmallOrders.{small_refutation, valid_everywhere}
use Rattle.rz_metatheory.proofs.laws.small_orders.Goals as goal

pub returns-clause-smaller : goal.returns-clause-smaller
returns-clause-smaller c = small_refutation

pub returns-clause-larger : goal.returns-clause-larger
returns-clause-larger c = ranks_refute

pub returns-clause-valid : goal.returns-clause-valid
returns-clause-valid c = λ context tope. (valid_everywhere context tope, everywhere_valid context tope)
