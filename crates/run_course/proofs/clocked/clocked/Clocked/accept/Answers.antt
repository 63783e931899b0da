use Rattle.std.proofs.Common.{◌≡◌, arith}
use Rattle.hs_rules.specs.declared.entry.Entry.{Entry}
use Rattle.hs_rules.specs.declared.entry.Entry.TheVariants as entry
use Rattle.hs_rules.specs.declared.entry.LimitKind.TheVariants as limit
use Rattle.run_course.specs.history.Records.{Same, WouldExceed}
use Rattle.run_course.proofs.clocked_lemmas.Going.{went_so, went_time, went_kept}
use Rattle.run_course.proofs.clocked.clocked.Clocked.accept.Goals as goal

pub invariant_of-self : goal.invariant_of-self
invariant_of-self g c =
    let K = g.K.Clock in
    let before = c.args.self.now in
    let old = before.«record» in
    let new = c.accept.new.self in
    let e : Entry = entry.Local c.args.slice.tid c.args.slice.steps in
    let went = went_so c.accept.result (λ kind. (kind ≡ limit.Frames) × Same old new × WouldExceed kind e old) e old new (λ kind h. h.1) c.accept.ensures.ok c.accept.ensures.err in
    let time = went_time old new e (λ z. z) went in
    record {
      chosen = before.chosen;
      time = omega (arith, time, before.time);
      later = before.later;
      ticks = went_kept old new e (K.early_waits before.lent.value) (K.early_waits before.clock) (λ z. z) went before.ticks;
    }
