-- A new job is its thread's only one, and its ticket is new.
use Rattle.std.proofs.Common.{Some, nat_eq, arith}
use Rattle.std.proofs.lemmas.Grind.{common_steps}
use Rattle.std.specs.HashMap.{get}
use Rattle.conc_world.proofs.tickets_lemmas.Mirrors.{mirrors_added, with_inserted}
use Rattle.conc_world.proofs.tickets.tickets.Tickets.add.Goals as goal

pub invariant_of-self-clause-mirror : goal.invariant_of-self-clause-mirror
invariant_of-self-clause-mirror c =
    let s = c.args.self.now in
    let threads = with_inserted c.insert-2.result s.of_threads c.insert-2.new.self c.args.thread (Some c.args.ticket) (c.insert-2.ensures.succeeds c.requires.room.thread) c.insert-2.ensures.updates in
    mirrors_added (get nat_eq s.jobs) (get nat_eq c.insert.new.self) (get nat_eq s.of_threads) (get nat_eq c.insert-2.new.self) c.args.ticket _ s.mirror c.requires.new c.requires.free c.in-Ok.ensures.updates.0 threads

pub invariant_of-self-clause-out : goal.invariant_of-self-clause-out
invariant_of-self-clause-out c = λ k marked. grind (arith, common_steps, c.args.self.now.out k marked, c.in-Ok.ensures.updates.0 k)
