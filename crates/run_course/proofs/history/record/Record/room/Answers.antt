use Rattle.std.proofs.Common.{refl}
use Rattle.run_course.proofs.history_lemmas.GoingOn.{same_live, same_steps, same_stays}
use Rattle.run_course.proofs.history.record.Record.room.Goals as goal

pub invariant_of-self : goal.invariant_of-self
invariant_of-self c =
    let r = c.args.self.now in
    let list = c.room.ensures.list in
    record {
      after = same_live r c.room.new.self.list r.world list (λ b. refl);
      within = same_steps r c.room.new.self.list r.world list;
      few = r.few;
      limited = same_stays r c.room.new.self.list r.world list;
    }

pub invariant_of-self-2 : goal.invariant_of-self-2
invariant_of-self-2 c =
    let r = c.args.self.now in
    let list = c.room.ensures.list in
    let w = c.room-2.new.self in
    record {
      after = same_live r c.room.new.self.list w list c.room-2.ensures.state;
      within = same_steps r c.room.new.self.list w list;
      few = r.few;
      limited = same_stays r c.room.new.self.list w list;
    }
