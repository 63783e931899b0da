use Rattle.std.proofs.Common.{subst}
use Rattle.thread_table.specs.Listing.{Listed}
use Rattle.thread_table.proofs.Queues.{wanted_in, has_turned}
use Rattle.thread_table.proofs.threads.Threads.next.Goals as goal

pub invariant_of-self : goal.invariant_of-self
invariant_of-self c =
    let s = c.loop-t.self in
    record {
      listed = has_turned (wanted_in s.flight.list) _ _ _ c.in-Some.t c.push_back_reserved.ensures.items (subst (λ work. Listed s.list.items s.flight.list work) c.in-Some.ensures.items s.listed);
      queued = s.queued;
      kept = s.kept;
      framed = s.framed;
      gone = s.gone;
    }
