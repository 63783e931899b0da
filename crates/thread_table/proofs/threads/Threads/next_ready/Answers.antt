use Rattle.std.proofs.Common.{◌≡◌, ℕ, ◌+◌, ◌-◌, [], Some, nat_eq, IsSome, option_to_list, sym, ◌∙◌, subst, arith}
use Rattle.std.specs.HashMap.{get}
use Rattle.thread_table.proofs.Table.{slots_unqueued}
use Rattle.thread_table.proofs.Spending.{spends_both}
use Rattle.thread_table.proofs.Rounds.{Looked, looked_on, looked_one, looked_none}
use Rattle.thread_table.proofs.threads.Threads.next_ready.Goals.{in-Some+else-not-contains_key, in_default}
use Rattle.thread_table.proofs.threads.Threads.next_ready.Goals as goal

pub returns-then-not-contains_key-clause-slots : goal.returns-then-not-contains_key-clause-slots
returns-then-not-contains_key-clause-slots c = λ b. slots_unqueued b _ _ (c.turn.ensures.others ∙ c.loop-turn.invariant.others)

pub loop-turn-preserved : goal.loop-turn-preserved
loop-turn-preserved c =
    let before = c.loop-turn.invariant in
    let after = c.turn.ensures in
    let IsOut : ℕ → Type 0 = λ t. IsSome (get nat_eq c.args.out.now t) in
    let left = c.len-turn-end.result - (c.loop-turn._turn + 1) in
    let one : c.len-turn-end.result - c.loop-turn._turn ≡ 1 + left = omega arith in
    let q = c.loop-turn.self.ready.items in
    let q' = c.turn.new.self.ready.items in
    let looked = subst (λ n. Looked IsOut n q) one before.looked in
    record {
      looked = elim c.match-turn.branch [
        | in-Some+else-not-contains_key w ↦ looked_on IsOut left q q' (option_to_list (Some w.in-Some.t)) w.in-Some.ensures.ready (looked_one IsOut w.in-Some.t (sym w.contains_key.ensures ∙ w.if-not-contains_key.false)) looked
        | in_default w ↦ looked_on IsOut left q q' [] w.in_default.ensures.ready (looked_none IsOut) looked
      ];
      others = after.others ∙ before.others;
      flight = after.flight ∙ before.flight;
      spends = spends_both 0 0 0 0 0 0 0 0 _ _ _ before.spends after.spends;
    }

pub returns-clause-slots : goal.returns-clause-slots
returns-clause-slots c = λ b. slots_unqueued b _ _ c.loop-turn.invariant.others
