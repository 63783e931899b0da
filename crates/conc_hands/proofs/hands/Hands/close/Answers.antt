use Rattle.std.proofs.Common.{rules, ◌≡◌, ◌++◌, List, ℕ, ◌+◌, ◌<◌, [], length, sym, ap, ◌∙◌, subst, refl, arith}
use Rattle.conc_hands.specs.queues.QueueRule.{weigh}
use Rattle.conc_hands.proofs.queues_lemmas.Weights.{weigh_append}
use Rattle.conc_hands.specs.declared.flags.view.PenView.{PenView}
use Rattle.conc_hands.specs.flags.FlagsRule.{OnlyRaised}
use Rattle.conc_hands.specs.Lists.{all_pushed, all_taken}
use Rattle.conc_hands.specs.Gathering.{total_over, pushed_weight, taken_weight, ends_in, AreEnds, AreDealt}
use Rattle.conc_hands.proofs.Closes.{pushed_sum, taken_sum, all_counted, all_rights, all_posts, all_ends, all_dealt}
use Rattle.conc_hands.proofs.hands.Hands.close.Goals as goal

pub gather_rights-pass-requires-clause-some : goal.gather_rights-pass-requires-clause-some
gather_rights-pass-requires-clause-some g c = let n = all_counted c.args.self c.args.hands.hands.items c.requires in let some = c.args.self.flags.some_hand in omega arith

pub gather_rights-pass-requires-clause-rights : goal.gather_rights-pass-requires-clause-rights
gather_rights-pass-requires-clause-rights g c = all_rights c.args.self c.args.hands.hands.items c.requires

pub close-requires-clause-all : goal.close-requires-clause-all
close-requires-clause-all g c = ap (λ (v : PenView). v.shares) c.gather_rights-pass.ensures.pen.1 ∙ all_counted c.args.self c.args.hands.hands.items c.requires

pub gather_jobs-requires-clause-ends : goal.gather_jobs-requires-clause-ends
gather_jobs-requires-clause-ends g c = subst (AreEnds c.args.self.doors.items) (sym c.gather_rights-pass.ensures.same) (all_ends c.args.self c.args.hands.hands.items c.requires)

pub gather_jobs-requires-clause-dealt : goal.gather_jobs-requires-clause-dealt
gather_jobs-requires-clause-dealt g c = subst (AreDealt c.args.self.doors.items) (sym c.gather_rights-pass.ensures.same) (all_dealt c.args.self c.args.hands.hands.items c.requires)

pub invariant_of-result-2 : goal.invariant_of-result-2
invariant_of-result-2 g c = record {
  of_inbox = c.gather_rights-pass.ensures.post.0;
  whole = c.gather_rights-pass.ensures.post.1 ∙ all_posts c.args.self c.args.hands.hands.items c.requires;
}

pub returns-clause-jobs : goal.returns-clause-jobs
returns-clause-jobs g c = let xs = c.args.hands.hands.items in let kept = c.gather_jobs.ensures.conserved in let same = c.gather_rights-pass.ensures.same in λ left are h.
    let a = pushed_sum xs h in
    let b = taken_sum xs h in
    let p = kept.pushed h ∙ ap (total_over (pushed_weight h)) same in
    let t = kept.taken h ∙ ap (total_over (taken_weight h)) same in
    let l = are h in
    let d = weigh_append h (all_taken xs) left in omega arith

pub returns-clause-flags : goal.returns-clause-flags
returns-clause-flags g c = subst (λ (v : PenView). OnlyRaised v.raised v.read) c.gather_rights-pass.ensures.pen.1 c.close.ensures
