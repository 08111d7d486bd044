use Rattle.std.proofs.Common.{◌≡◌, ◌++◌, ◌≤◌, ◌-◌, reverse, length}
use Rattle.rz_subst.proofs.tasks.last_kids.Given as goal

abbrev pub invariant-loop-news : goal.invariant-loop-news
invariant-loop-news l = record { ids : l.kids ++ reverse l.news.items ≡ reverse l.initial.news.items; few : length l.kids ≤ l.count }

abbrev pub decreases-loop-news : goal.decreases-loop-news
decreases-loop-news l = l.count - length l.kids
