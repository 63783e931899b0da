-- A ticket comes back with its thread's and with its mark, and a ticket that isn't out has neither.
use Rattle.std.proofs.Common.{◌≡◌, ◌≢◌, ℕ, Some, None, nat_eq, arith, refl, sym, ◌∙◌}
use Rattle.std.proofs.lemmas.Bool.{false_from_ne_true}
use Rattle.std.proofs.lemmas.Grind.{common_steps}
use Rattle.std.specs.HashMap.{get}
use Rattle.std.specs.Set.{is_member}
use Rattle.conc_world.proofs.tickets_lemmas.Marks.{fewer_out}
use Rattle.conc_world.proofs.tickets_lemmas.Mirrors.{mirrors_removed}
use Rattle.conc_world.specs.tickets.Out.{job, is_overtaken}
use Rattle.conc_world.proofs.tickets.tickets.Tickets.drop.Goals as goal

pub returns-in_default : goal.returns-in_default
returns-in_default c =
    let s = c.args.self.now in
    let none : job s c.args.ticket ≡ None = grind (arith, common_steps) in
    record {
      out = c.remove.ensures.updates.1;
      others = λ k ne. grind (arith, common_steps, c.remove.ensures.updates.0 k);
      thread = λ t h. grind (arith, common_steps, s.mirror c.args.ticket t, none);
      threads = λ t ne. refl;
      mark = false_from_ne_true (is_overtaken s c.args.ticket) (λ marked. grind (arith, s.out c.args.ticket marked, none));
      marks = λ k ne. refl;
    }

pub invariant_of-self-2-clause-mirror : goal.invariant_of-self-2-clause-mirror
invariant_of-self-2-clause-mirror c =
    let s = c.args.self.now in
    let here : job s c.args.ticket ≡ Some c.in-Some.out = sym c.remove.ensures.value ∙ c.in-Some.is in
    mirrors_removed (get nat_eq s.jobs) (get nat_eq c.remove.new.self) (get nat_eq s.of_threads) (get nat_eq c.remove-2.new.self) c.args.ticket c.in-Some.out s.mirror here c.remove.ensures.updates.0 c.remove-2.ensures.updates.0

pub invariant_of-self-2-clause-out : goal.invariant_of-self-2-clause-out
invariant_of-self-2-clause-out c =
    let s = c.args.self.now in
    let others : (k : ℕ) → k ≢ c.args.ticket → get nat_eq c.remove.new.self k ≡ get nat_eq s.jobs k = λ k ne. grind (arith, common_steps, c.remove.ensures.updates.0 k) in
    fewer_out (is_overtaken s) (is_member nat_eq c.take_out.new.tickets.items) (get nat_eq s.jobs) (get nat_eq c.remove.new.self) c.args.ticket s.out c.take_out.ensures.taken c.take_out.ensures.others others

pub invariant_of-self-2-clause-once : goal.invariant_of-self-2-clause-once
invariant_of-self-2-clause-once c = c.take_out.ensures.once c.args.self.now.once

pub returns : goal.returns
returns c =
    let s = c.args.self.now in
    let here : job s c.args.ticket ≡ Some c.in-Some.out = sym c.remove.ensures.value ∙ c.in-Some.is in
    record {
      out = c.remove.ensures.updates.1;
      others = λ k ne. grind (arith, common_steps, c.remove.ensures.updates.0 k);
      thread = λ t h. grind (arith, common_steps, s.mirror c.args.ticket t, here, c.remove-2.ensures.updates.0 t);
      threads = λ t ne. grind (arith, common_steps, s.mirror c.args.ticket t, here, c.remove-2.ensures.updates.0 t);
      mark = c.take_out.ensures.taken;
      marks = c.take_out.ensures.others;
    }
