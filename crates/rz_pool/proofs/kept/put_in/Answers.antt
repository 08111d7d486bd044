use Rattle.rz_pool.proofs.Asking.{put_or_not}
use Rattle.rz_pool.proofs.kept.put_in.Goals as goal

pub returns : goal.returns
returns c = put_or_not c.put.result c.args.table.now c.put.new.self c.args.question c.args.answer c.put.ensures.entries c.put.ensures.err
