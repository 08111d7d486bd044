use Rattle.std.proofs.Common.{◌≡◌, true, sym, subst, arith}
use Rattle.std.proofs.lemmas.Result.{err_from_is_err_and}
use Rattle.rz_drv.specs.Items.{item_of}
use Rattle.rz_kernel.specs.declared.answer.KernelAnswer.TheVariants.{Yes}
use Rattle.rz_kernel.specs.Answer.{KernelSays}
use Rattle.rz_kernel.specs.State.{file_state}
use Rattle.rz_kernel.specs.Run.{FaultSays}
use Rattle.rz_kernel.proofs.Adding.{claims_count}
use Rattle.rz_kernel.proofs.Runs.{first_says, next_says, end_says, next_fits, step_says, taken_more}
use Rattle.rz_kernel.proofs.file.read_items.Goals as goal

pub returns-in_err-reader-clause-fault : goal.returns-in_err-reader-clause-fault
returns-in_err-reader-clause-fault c =
    let p = err_from_is_err_and c.from_residual.result c.from_residual.ensures.1 in
    rw p.1 (subst (FaultSays c.args.bytes.now) (sym p.2) (first_says c.args.bytes.now c.in_err-reader.field-0.0 c.in_err-reader.ensures.fault))

pub returns-in_err-item-clause-fault : goal.returns-in_err-item-clause-fault
returns-in_err-item-clause-fault c =
    let p = err_from_is_err_and c.from_residual-in_err-item.result c.from_residual-in_err-item.ensures.1 in
    rw p.1 (subst (FaultSays c.args.bytes.now) (sym p.2)
    (next_says c.args.bytes.now c.loop-state.reader (file_state c.loop-state.state) c.loop-state.invariant.taken c.in_err-item.field-0.0 c.in_err-item.ensures.fault))

pub take-requires-clause-fits : goal.take-requires-clause-fits
take-requires-clause-fits c =
    let taken = c.loop-state.invariant.taken in
    let read = (rw c.in-Some.is at c.in_ok-item.ensures.item).more c.args.bytes.now taken.items taken.read in
    next_fits c.args.bytes.now c.loop-state.reader (file_state c.loop-state.state) taken c.next.new.self (item_of c.in-Some.item) read

pub returns-then-not-branch-clause-answer : goal.returns-then-not-branch-clause-answer
returns-then-not-branch-clause-answer c =
    let taken = c.loop-state.invariant.taken in
    let read = (rw c.in-Some.is at c.in_ok-item.ensures.item).more c.args.bytes.now taken.items taken.read in
    step_says c.args.bytes.now c.loop-state.reader (file_state c.loop-state.state) taken c.next.new.self (item_of c.in-Some.item) read c.line.result
    (c.line.ensures c.args.bytes.now _ read)
    (λ follows. let sure : c.in_ok-take.field-0 ≡ true = c.in_ok-take.ensures.follows.1 follows in let no = c.if-not-branch.true in absurd cc)

pub loop-state-preserved : goal.loop-state-preserved
loop-state-preserved c =
    let taken = c.loop-state.invariant.taken in
    let read = (rw c.in-Some.is at c.in_ok-item.ensures.item).more c.args.bytes.now taken.items taken.read in
    record {
      taken = taken_more c.args.bytes.now c.loop-state.reader (file_state c.loop-state.state) taken c.next.new.self (item_of c.in-Some.item) read (file_state c.take.new.self)
          (rw c.if-not-branch.false at c.in_ok-take.ensures.known) (c.in_ok-take.ensures.follows.0 c.if-not-branch.false);
      over = c.in_ok-take.ensures.state;
    }

pub returns-clause-answer : goal.returns-clause-answer
returns-clause-answer c =
    let taken = c.loop-state.invariant.taken in
    let state = c.loop-state.state in
    subst (λ n. KernelSays c.args.bytes.now (Yes n)) (omega (arith, claims_count (file_state state).statements state.claims.items, c.len.ensures, state.claims.ok.0, state.claims.ok.1))
    (end_says c.args.bytes.now c.loop-state.reader (file_state state) taken ((rw c.in_default.is at c.in_ok-item.ensures.end) c.args.bytes.now taken.items taken.read))
