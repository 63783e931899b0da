use Rattle.std.proofs.Common.{◌++◌, ◌∷◌, [], refl, ap, ◌∙◌, arith}
use Rattle.hs_rules.specs.declared.entry.Entry.{Entry}
use Rattle.hs_rules.specs.Histories.{cost_of, steps_of}
use Rattle.run_course.specs.history.Acts.{entry_of}
use Rattle.run_course.proofs.history_lemmas.Asking.{can_kept, prints_kept}
use Rattle.run_course.proofs.history_lemmas.Exceeding.{cost_one}
use Rattle.run_course.proofs.history_lemmas.GoingOn.{is_live, same_live, grown_live, grown_steps, grown_stays}
use Rattle.run_course.proofs.history.record.Record.act.Goals as goal

pub exceeds-requires-clause-can : goal.exceeds-requires-clause-can
exceeds-requires-clause-can c =
    let r = c.args.self.now in
    let h = c.in_ok-room.ensures in
    can_kept r.world c.room.new.self.world r.of.value h.same.world h.threads h.flight c.args.act c.requires.can

pub change-requires-clause-live : goal.change-requires-clause-live
change-requires-clause-live c = let r = c.room.new.self in is_live r.of.value r.history.list r.world r.after

pub change-requires-clause-can : goal.change-requires-clause-can
change-requires-clause-can c =
    let r = c.args.self.now in
    let h = c.in_ok-room.ensures in
    can_kept r.world c.room.new.self.world r.of.value h.same.world h.threads h.flight c.args.act c.requires.can

pub change-requires-clause-bytes : goal.change-requires-clause-bytes
change-requires-clause-bytes c =
    let r = c.args.self.now in
    let h = c.in_ok-room.ensures in
    (r.of.value, prints_kept r.world c.room.new.self.world r.of.value h.same.world h.threads h.flight c.args.bytes c.args.act c.requires.bytes)

pub invariant_of-self : goal.invariant_of-self
invariant_of-self c =
    let r = c.room.new.self in
    record { after = same_live r r.history.list c.change.new.world refl c.in_err-change.ensures.err; within = r.within; few = r.few; limited = r.limited }

pub add-requires-clause-steps : goal.add-requires-clause-steps
add-requires-clause-steps c =
    let r = c.room.new.self in
    let e = ap cost_of c.entry.ensures ∙ cost_one c.args.act in
    let f = ap steps_of c.in_ok-room.ensures.same.history in
    let few = c.args.self.now.few in
    omega (arith, e, f)

pub invariant_of-self-2 : goal.invariant_of-self-2
invariant_of-self-2 c =
    let r = c.room.new.self in
    let same = c.in_ok-room.ensures.same in
    let e : Entry = entry_of c.args.act in
    let list = c.add.ensures.list ∙ ap (λ z. r.history.list ++ z ∷ []) c.entry.ensures in
    let makes = c.in_ok-change.ensures.ok r.of.value in
    let steps = ap steps_of same.history in
    let one = cost_one c.args.act in
    record {
      after = grown_live r c.add.new.self.list c.change.new.world e list makes;
      within = grown_steps r c.add.new.self.list c.change.new.world e list (omega (arith, steps, one, same.plan.0));
      few = r.few;
      limited = grown_stays r c.add.new.self.list c.change.new.world e list makes c.in_default.ensures.none;
    }
