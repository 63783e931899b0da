use Rattle.std.proofs.Common.{◌≡◌, ◌+◌, ◌<◌, ◌↔◌, [], ◌++◌, List, ℕ, slice_get, Some, IsNone, sym, subst, ◌∙◌, ap, arith, append-nil}
use Rattle.conc_hands.specs.declared.queues.deque.DequePass.{DequePass}
use Rattle.conc_hands.specs.queues.QueueRule.{SameTickets}
use Rattle.conc_hands.specs.queues.Deques.{deque_view, pass_view}
use Rattle.conc_hands.specs.Ends.{stolen_by, share_at}
use Rattle.conc_hands.proofs.Tickets.{popped, stolen_alone}
use Rattle.conc_hands.proofs.hands.Hands.pop.Goals as goal

pub returns-clause-job : goal.returns-clause-job
returns-clause-job g c = popped g.J.Ticketed.number g.J.Ticketed.belongs c.pop.result _ _ (stolen_by c.args.hand.now.jobs.passes.items) _ c.requires.jobs_code c.pop.ensures.job

pub returns-clause-alone : goal.returns-clause-alone
returns-clause-alone g c one = let x = c.args.hand.now in let h = c.requires in let v = deque_view x.jobs.deque in
    let first : x.jobs.number ≡ 0 = (let a = h.end.place in let b = h.doors in omega arith) in
    let none : stolen_by x.jobs.passes.items ≡ [] = stolen_alone x.jobs.passes.items (h.dealt.all ∙ one)
    (λ p at. (h.end.clean 0 p at).2 (h.dealt.pass_shares 0 p at ∙ ap (λ n. share_at n 0) first)) in
    subst (λ (ts : List ℕ). IsNone c.pop.result ↔ SameTickets v.put ts) (sym (ap (λ (ts : List ℕ). v.taken ++ ts) none ∙ append-nil v.taken))
    (c.pop.ensures.alone (let s = h.dealt.own_shares in omega arith))
