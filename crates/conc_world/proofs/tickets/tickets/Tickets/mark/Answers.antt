-- A job that is out and not marked yet has room for its mark.
use Rattle.std.proofs.Common.{nat_eq, arith, sym}
use Rattle.std.specs.HashMap.{get}
use Rattle.std.specs.Set.{is_member}
use Rattle.conc_world.proofs.tickets_lemmas.Marks.{fewer_marked, more_out}
use Rattle.conc_world.proofs.tickets_lemmas.Mirrors.{its_job}
use Rattle.conc_world.specs.tickets.Out.{job, is_overtaken}
use Rattle.conc_world.proofs.tickets.tickets.Tickets.mark.Goals as goal

pub put_in-requires : goal.put_in-requires
put_in-requires c = λ new.
    let s = c.args.self.now in
    let k = c.in-Some.field-0.now in
    let here = its_job (get nat_eq s.jobs) (get nat_eq s.of_threads) k _ s.mirror (sym c.in-Some.ensures.value) in
    omega (arith, fewer_marked s.overtaken.items s.jobs.entries k s.once s.out new here, s.roomy)

pub invariant_of-self-clause-out : goal.invariant_of-self-clause-out
invariant_of-self-clause-out c =
    let s = c.args.self.now in
    let k = c.in-Some.field-0.now in
    let here = its_job (get nat_eq s.jobs) (get nat_eq s.of_threads) k _ s.mirror (sym c.in-Some.ensures.value) in
    more_out (is_overtaken s) (is_member nat_eq c.put_in.new.tickets.items) (job s) k s.out here c.put_in.ensures.others

pub invariant_of-self-clause-once : goal.invariant_of-self-clause-once
invariant_of-self-clause-once c = c.put_in.ensures.once c.args.self.now.once
