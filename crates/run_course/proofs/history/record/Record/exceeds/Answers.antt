use Rattle.std.proofs.Common.{arith}
use Rattle.hs_rules.specs.declared.entry.LimitKind.TheVariants as limit
use Rattle.run_course.proofs.history_lemmas.Exceeding.{adds_so, act_exceeds, act_fits, record_within}
use Rattle.run_course.proofs.history.record.Record.exceeds.Goals as goal

pub overflow_sub-threads_left : goal.overflow_sub-threads_left
overflow_sub-threads_left c = let k = record_within c.args.self.now limit.Threads in omega (arith, k, c.args.self.now.world.threads.list.ok.0)

pub overflow_sub-cells_left : goal.overflow_sub-cells_left
overflow_sub-cells_left c = let k = record_within c.args.self.now limit.Cells in omega (arith, k)

pub overflow_sub-output_left : goal.overflow_sub-output_left
overflow_sub-output_left c = let k = record_within c.args.self.now limit.Output in omega (arith, k)

pub returns-then-from-threads_left-clause-some : goal.returns-then-from-threads_left-clause-some
returns-then-from-threads_left-clause-some c =
    let r = c.args.self.now in
    let m = adds_so r c.makes-makes.result.threads c.makes-makes.result.cells c.args.bytes c.args.act c.makes-makes.ensures.threads c.makes-makes.ensures.cells c.requires.bytes in
    let size = r.world.threads.list.ok.0 in
    let threads = record_within r limit.Threads in
    let cells = record_within r limit.Cells in
    let printed = record_within r limit.Output in
    act_exceeds r c.requires.goes c.args.act c.requires.can c.makes-makes.result.threads c.makes-makes.result.cells c.args.bytes m c.requires.fuel limit.Threads (omega arith)

pub returns-then-from-cells_left-clause-some : goal.returns-then-from-cells_left-clause-some
returns-then-from-cells_left-clause-some c =
    let r = c.args.self.now in
    let m = adds_so r c.makes-makes.result.threads c.makes-makes.result.cells c.args.bytes c.args.act c.makes-makes.ensures.threads c.makes-makes.ensures.cells c.requires.bytes in
    let size = r.world.threads.list.ok.0 in
    let threads = record_within r limit.Threads in
    let cells = record_within r limit.Cells in
    let printed = record_within r limit.Output in
    act_exceeds r c.requires.goes c.args.act c.requires.can c.makes-makes.result.threads c.makes-makes.result.cells c.args.bytes m c.requires.fuel limit.Cells (omega arith, omega arith)

pub returns-then-from-frames_left-clause-some : goal.returns-then-from-frames_left-clause-some
returns-then-from-frames_left-clause-some c =
    let r = c.args.self.now in
    let m = adds_so r c.makes-makes.result.threads c.makes-makes.result.cells c.args.bytes c.args.act c.makes-makes.ensures.threads c.makes-makes.ensures.cells c.requires.bytes in
    let size = r.world.threads.list.ok.0 in
    let threads = record_within r limit.Threads in
    let cells = record_within r limit.Cells in
    let printed = record_within r limit.Output in
    act_exceeds r c.requires.goes c.args.act c.requires.can c.makes-makes.result.threads c.makes-makes.result.cells c.args.bytes m c.requires.fuel limit.Frames (omega arith, omega arith, omega arith)

pub returns-then-bytes-output_left-clause-some : goal.returns-then-bytes-output_left-clause-some
returns-then-bytes-output_left-clause-some c =
    let r = c.args.self.now in
    let m = adds_so r c.makes-makes.result.threads c.makes-makes.result.cells c.args.bytes c.args.act c.makes-makes.ensures.threads c.makes-makes.ensures.cells c.requires.bytes in
    let size = r.world.threads.list.ok.0 in
    let threads = record_within r limit.Threads in
    let cells = record_within r limit.Cells in
    let printed = record_within r limit.Output in
    act_exceeds r c.requires.goes c.args.act c.requires.can c.makes-makes.result.threads c.makes-makes.result.cells c.args.bytes m c.requires.fuel limit.Output (omega arith, omega arith, omega arith, omega arith)

pub returns-clause-none : goal.returns-clause-none
returns-clause-none c =
    let r = c.args.self.now in
    let m = adds_so r c.makes-makes.result.threads c.makes-makes.result.cells c.args.bytes c.args.act c.makes-makes.ensures.threads c.makes-makes.ensures.cells c.requires.bytes in
    let size = r.world.threads.list.ok.0 in
    let threads = record_within r limit.Threads in
    let cells = record_within r limit.Cells in
    let printed = record_within r limit.Output in
    act_fits r c.requires.goes c.args.act c.requires.can c.makes-makes.result.threads c.makes-makes.result.cells c.args.bytes m (omega arith, omega arith, omega arith, omega arith)
