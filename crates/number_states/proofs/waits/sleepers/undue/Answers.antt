-- What the sort leaves is in order by thread, and is what it was given in another order.
use Rattle.std.proofs.Common.{◌≡◌, ◌++◌, length, take, drop, ap, ◌∙◌, rules, arith}
use Rattle.std.proofs.Math.Seq.{take-append_seam}
use Rattle.std.proofs.lemmas.List.Sorted.{IsNonDecreasingBy-from_sort_by_key}
use Rattle.number_states.specs.waits.Sleeping.{sleepers, undue}
use Rattle.number_states.specs.declared.waits.sleepers.Asleep.{Asleep}
use Rattle.number_states.proofs.waits_lemmas.Sorted.{undue_sorted}
use Rattle.number_states.proofs.waits.sleepers.undue.Goals as goal

pub returns : goal.returns
returns c =
    let old = c.args.list.now in
    let woken = c.wake_all.new.list in
    let size : old.len ≡ length woken = omega (arith, old.ok.0, c.wake_all.auto.list, ap length c.as_mut_slice.ensures.value) in
    let same = ap (λ n. take n (woken ++ drop (length woken) old.items)) size ∙ take-append_seam woken (drop (length woken) old.items) in
    let e = ap sleepers same ∙ c.wake_all.ensures ∙ ap (λ xs. undue (sleepers xs)) c.as_mut_slice.ensures.value in
    undue_sorted (sleepers old.items) _ c.sort_unstable_by_key.new.self.items e
    c.sort_unstable_by_key.ensures.permutation (IsNonDecreasingBy-from_sort_by_key (λ (x : Asleep). x.thread) _ c.sort_unstable_by_key.ensures.sorted (λ a r q k. search rules))
