use Rattle.std.proofs.Common.{subst}
use Rattle.thread_table.specs.Kinds.{IsEnd}
use Rattle.thread_table.proofs.Owns.{meets_by_count}
use Rattle.thread_table.proofs.having.meets.Goals as goal

pub returns : goal.returns
returns c =
    let s = c.args.stack.now in
    let end : IsEnd s.control = subst IsEnd c.control.ensures (c.is_end.ensures.0 c.if-not-is_end.false) in
    meets_by_count s.control s.frames c.frames.result c.frames.ensures end
