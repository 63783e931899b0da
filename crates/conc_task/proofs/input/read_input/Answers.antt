use Rattle.std.proofs.Common.{rules, ◌++◌, ◌∙◌}
use Rattle.conc_task.proofs.Taking.{took_more}
use Rattle.conc_task.proofs.input.read_input.Goals as goal

-- the piece that found no memory was taken all the same
pub returns-in-NoMemory : goal.returns-in-NoMemory
returns-in-NoMemory g c =
    let (calm, piece, taken, fits) = c.in-NoMemory.ensures in
    (calm ∙ c.loop-chunk.invariant.steady, c.loop-chunk.bytes.items ++ piece, took_more _ _ _ _ c.loop-chunk.bytes.items piece c.loop-chunk.invariant.took taken (search (rules, fits, c.loop-chunk-test.true)))
