use Rattle.rz_tope_search.proofs.table.Table.set_all.Goals as goal

pub returns-clause-proves : goal.returns-clause-proves
returns-clause-proves c at all places few ends proves =
    c.set-3.ensures.proves at all places few ends.2 (c.set-2.ensures.proves at all places few ends.1 (c.set.ensures.proves at all places few ends.0 proves))
