use Rattle.std.proofs.Common.{◌++◌, ◌∷◌, [], refl, ap, ◌∙◌, arith}
use Rattle.hs_rules.specs.declared.entry.Entry.{Entry}
use Rattle.hs_rules.specs.declared.entry.Entry.TheVariants as entry
use Rattle.hs_rules.specs.Histories.{steps_of}
use Rattle.run_course.proofs.history_lemmas.Asking.{tick_clock}
use Rattle.run_course.proofs.history_lemmas.Exceeding.{tick_fits}
use Rattle.run_course.proofs.history_lemmas.GoingOn.{same_live, same_steps, same_stays, grown_live, grown_steps, grown_stays}
use Rattle.run_course.proofs.history.record.Record.tick.Goals as goal

pub invariant_of-self : goal.invariant_of-self
invariant_of-self c =
    let r = c.args.self.now in
    let list = c.room.ensures.list in
    record {
      after = same_live r c.room.new.self.list r.world list (λ b. refl);
      within = same_steps r c.room.new.self.list r.world list;
      few = r.few;
      limited = same_stays r c.room.new.self.list r.world list;
    }

pub add-requires-clause-steps : goal.add-requires-clause-steps
add-requires-clause-steps c =
    let steps = ap steps_of c.room.ensures.list in
    let few = c.args.self.now.few in
    omega (arith, steps)

pub invariant_of-self-2 : goal.invariant_of-self-2
invariant_of-self-2 c =
    let r = c.args.self.now in
    let e : Entry = entry.Tick c.args.at in
    let list = c.add.ensures.list ∙ ap (λ es. es ++ e ∷ []) c.room.ensures.list in
    let makes = c.tick.ensures r.of.value in
    record {
      after = grown_live r c.add.new.self.list c.tick.new.self e list makes;
      within = grown_steps r c.add.new.self.list c.tick.new.self e list (omega arith);
      few = r.few;
      limited = grown_stays r c.add.new.self.list c.tick.new.self e list makes (tick_fits r c.args.at);
    }

pub returns-clause-clock : goal.returns-clause-clock
returns-clause-clock c = let r = c.args.self.now in tick_clock r.of.value r.history.list r.world c.tick.new.self c.args.at c.tick.ensures r.after
