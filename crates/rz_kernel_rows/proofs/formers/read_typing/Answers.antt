use Rattle.rz_kernel_rows.proofs.Owning.{read_none, read_some}
use Rattle.rz_kernel_rows.proofs.Typed.{no_typing, typing_of}
use Rattle.rz_kernel_rows.proofs.formers.read_typing.Goals as goal

pub returns-clause-typed : goal.returns-clause-typed
returns-clause-typed c =
    let ns = c.args.pool.now.nodes in
    let new = c.typing_row.new.pool.nodes in
    let facts = c.in_ok-said.ensures in
    let are = rw c.in-Some-2.is at facts.typed in
    read_some ns new c.args.context c.args.term c.typing_from.result _
    (typing_of ns new facts.grows facts.pool c.args.context c.args.term c.requires.context.0 c.requires.term.0 c.in-Some-2.said.items are) c.typing_from.ensures.found

pub returns-clause-none : goal.returns-clause-none
returns-clause-none c =
    let ns = c.args.pool.now.nodes in
    let new = c.typing_row.new.pool.nodes in
    let facts = c.in_ok-said.ensures in
    let are = rw c.in-Some-2.is at facts.typed in
    read_none ns c.args.context c.args.term c.typing_from.result _
    (no_typing ns new facts.grows facts.pool c.args.context c.args.term c.requires.context.0 c.requires.term.0 c.in-Some-2.said.items are) c.typing_from.ensures.none
