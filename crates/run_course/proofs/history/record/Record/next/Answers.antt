use Rattle.run_course.proofs.history_lemmas.GoingOn.{still_live}
use Rattle.run_course.proofs.history.record.Record.next.Goals as goal

pub invariant_of-self : goal.invariant_of-self
invariant_of-self c =
    let r = c.args.self.now in
    record { after = still_live r.of.value r.history.list r.world c.next_of.new.world c.next_of.ensures.same r.after; within = r.within; few = r.few; limited = r.limited }
