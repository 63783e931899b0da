use Rattle.std.proofs.Common.{◌≡◌, refl, sym, ap, ◌∙◌, subst, arith}
use Rattle.std.specs.declared.snapshot.Snapshot.{Snapshot}
use Rattle.hs_rules.specs.declared.entry.Entry.{Entry}
use Rattle.hs_rules.specs.declared.entry.Entry.TheVariants as entry
use Rattle.rules_code.specs.declared.code.CodeBody.{CodeBody}
use Rattle.world_entries.specs.Worlds.{MakesOf}
use Rattle.hs_rules.specs.Histories.{steps_of}
use Rattle.run_course.proofs.history_lemmas.GoingOn.{is_live, same_live, grown_live, grown_steps, grown_stays}
use Rattle.run_course.proofs.history.record.Record.accept.Goals as goal

pub accept-requires-clause-live : goal.accept-requires-clause-live
accept-requires-clause-live c = let r = c.room.new.self in is_live r.of.value r.history.list r.world r.after

pub add-requires-clause-steps : goal.add-requires-clause-steps
add-requires-clause-steps c =
    let f = ap steps_of c.in_ok-room.ensures.same.history in
    let few = c.args.self.now.few in
    omega (arith, f)

pub invariant_of-self : goal.invariant_of-self
invariant_of-self c =
    let r = c.room.new.self in
    let same = c.in_ok-room.ensures.same in
    let e : Entry = entry.Local c.args.slice.tid c.args.slice.steps in
    let code : c.args.slice.of.value ≡ r.of.value = c.requires.code ∙ sym (ap (λ (z : Snapshot CodeBody). z.value) same.plan.2) in
    let makes = subst (λ b. MakesOf b e r.world c.accept.new.self) code c.in-Ok.ensures.ok in
    let steps = ap steps_of same.history in
    record {
      after = grown_live r c.add.new.self.list c.accept.new.self e c.add.ensures.list makes;
      within = grown_steps r c.add.new.self.list c.accept.new.self e c.add.ensures.list (omega (arith, steps, same.plan.0));
      few = r.few;
      limited = grown_stays r c.add.new.self.list c.accept.new.self e c.add.ensures.list makes (c.if-frames_exceed.ensures.no refl);
    }

pub invariant_of-self-in-Err : goal.invariant_of-self-in-Err
invariant_of-self-in-Err c =
    let r = c.room.new.self in
    record { after = same_live r r.history.list c.accept.new.self refl c.in-Err.ensures.err; within = r.within; few = r.few; limited = r.limited }
