use Rattle.std.proofs.Common.{◌-◌, Some, sym, ◌∙◌, arith}
use Rattle.std.proofs.lemmas.Map.Text.{hash_map_updates_str}
use Rattle.rz_tope_query.proofs.Naming.{told_more, told_twice}
use Rattle.rz_tope_query.proofs.names.places.Goals as goal

pub returns-then-is_some-clause-none : goal.returns-then-is_some-clause-none
returns-then-is_some-clause-none c =
    let loop = c.loop-name in
    told_twice c.args.names.now loop.name-index c.name-item.result c.as_str.result.now loop.behind loop.places c.in_ok-insert.field-0 (omega arith) c.name-item.is c.as_str.ensures.value
    loop.invariant.told c.in_ok-insert.ensures.old (sym c.is_some.ensures ∙ c.if-is_some.true)

pub loop-name-preserved : goal.loop-name-preserved
loop-name-preserved c =
    let loop = c.loop-name in record {
      left = omega arith;
      told = told_more c.args.names.now loop.name-index c.name-item.result c.as_str.result.now loop.behind (loop.behind - 1) loop.places c.insert.new.self c.in_ok-insert.field-0
          (omega arith) c.name-item.is c.as_str.ensures.value loop.invariant.told (omega arith) c.in_ok-insert.ensures.old (sym c.is_some.ensures ∙ c.if-is_some.false)
          (hash_map_updates_str c.as_str.result.now loop.places c.insert.new.self (Some (loop.behind - 1)) c.in_ok-insert.ensures.updates);
    }
