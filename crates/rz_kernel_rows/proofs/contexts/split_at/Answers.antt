use Rattle.rz_kernel_rows.proofs.Entries.{no_split}
use Rattle.rz_kernel_rows.proofs.contexts.split_at.Goals as goal

pub returns-in_default-last_entry-clause-none : goal.returns-in_default-last_entry-clause-none
returns-in_default-last_entry-clause-none c =
    let cut = rw c.in-Some.is at c.in_ok-cut.ensures.cut in
    no_split c.args.pool.now.nodes c.args.context c.in-Some.cut.outer c.in-Some.cut.inner.items cut.tree c.args.number c.in_default-last_entry.ensures.none cut.counted
