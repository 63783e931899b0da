-- Endings by what can be done next.
use Rattle.std.specs.Prelude.{MatchOption}
use Rattle.std.proofs.Common.{◌≡◌, ◌<◌, ◌≤◌, ℕ, Bool, List, Option, Some, None, arith, refl, sym, subst}
use Rattle.std.proofs.Math.Logic.{∥∥₁_elim, ∥∥₁_map}
use Rattle.std.proofs.Props.{props}
use Rattle.hs_rules.specs.declared.entry.Entry.{Entry}
use Rattle.hs_rules.specs.Histories.{steps_of}
use Rattle.hs_rules.specs.Endings.{RunEnding, Done, Uncaught, Deadlock, Fuel, IsDone, IsUncaught, IsDeadlock}
use Rattle.rules_expansion.specs.trees.Programs.{Fn}
use Rattle.rules_meaning.specs.CoreMeaning.{code_of}
use Rattle.hs_laws.specs.HistoryEndings.{HasEnding}
use Rattle.slot_states.specs.SlotStates.{Represents}
use Rattle.slot_states.proofs.Settled.{is_left}
use Rattle.world_entries.specs.Worlds.{state_of, Goes}
use Rattle.world_entries.proofs.Making.{main_goes}
use Rattle.run_course.specs.declared.history.acts.Next.{Next}
use Rattle.run_course.specs.declared.history.acts.Next.TheVariants as next
use Rattle.run_course.specs.declared.history.record.Record.{Record}
use Rattle.run_course.specs.history.Records.{script, HasFinished, IsNext, EndsAs}
use Rattle.run_course.proofs.history_lemmas.GoingOn.{one_state}
use Rattle.run_course.proofs.history_lemmas.HowItEnds.{act_spends, goer_spends, sleeper_spends, stuck_ends}
use Rattle.run_course.specs.declared.ends.RunEnd.{RunEnd}
use Rattle.run_course.specs.declared.ends.RunEnd.TheVariants as end
use Rattle.run_course.specs.Endings.{EndsBy, IsOpen}
use Rattle.run_course.specs.Settled.{GoesBy, OnlyGoes}

-- a history that would end for want of fuel now, but has fuel, has no ending
module _ (ds : List Fn) (es : List Entry) (fuel : ℕ) (spent : HasEnding Fuel ds es (steps_of es)) (less : steps_of es < fuel) where
  no_ending : (ending : RunEnding) → HasEnding ending ds es fuel → ⊥
  no_ending Done k = spent.ends.0 (subst IsDone (one_state ds es k.state spent.state k.run spent.run) k.ends)
  no_ending Uncaught k = spent.ends.1 (subst IsUncaught (one_state ds es k.state spent.state k.run spent.run) k.ends.1)
  no_ending Deadlock k = spent.ends.2 (subst (IsDeadlock (code_of ds)) (one_state ds es k.state spent.state k.run spent.run) k.ends.2)
  no_ending Fuel k = let e = k.ends.3 in omega (arith, e, less)

-- where something can be done next
module _ (r : Record) where
  spent_by : (n : Next) → IsNext n r → GoesBy n → ∥ HasEnding Fuel (script r) r.history.list (steps_of r.history.list) ∥₁
  spent_by (next.Over value) h g = absurd g
  spent_by (next.Act a) h g = ∥∥₁_map r.after (λ l. act_spends r.of.value r.history.list r.world l h.0 (steps_of r.history.list) a h.1 refl)
  spent_by next.Goes h g = ∥∥₁_map r.after (λ l. goer_spends r.of.value r.history.list r.world l h.0 (steps_of r.history.list) h.2.0 (h.2.1 r.of.value) refl)
  spent_by (next.Sleeps due) h g = ∥∥₁_map r.after (λ l. sleeper_spends r.of.value r.history.list r.world l h.0 (steps_of r.history.list) due h.2 refl)
  spent_by next.Stuck h g = absurd g

  goes_by : (n : Next) → IsNext n r → GoesBy n → Goes r.world
  goes_by (next.Over value) h g = absurd g
  goes_by (next.Act a) h g = h.0
  goes_by next.Goes h g = h.0
  goes_by (next.Sleeps due) h g = h.0
  goes_by next.Stuck h g = absurd g

  -- there is no ending while there is fuel
  pub is_open : (n : Next) → IsNext n r → GoesBy n → steps_of r.history.list < r.fuel → IsOpen r
  is_open n h g less = record {
    goes = goes_by n h g;
    fuel = less;
    none = λ ending k. ∥∥₁_elim k (hlevel props) (λ e. ∥∥₁_elim (spent_by n h g) (hlevel props) (λ s. no_ending (script r) r.history.list r.fuel s less ending e));
  }

  -- and else it is the ending
  pub fuel_ends : (n : Next) → IsNext n r → GoesBy n → r.fuel ≤ steps_of r.history.list → EndsAs Fuel r
  fuel_ends n h g le =
      let within = r.within in
      let e : steps_of r.history.list ≡ r.fuel = omega (arith, le, within) in
      subst (λ z. ∥ HasEnding Fuel (script r) r.history.list z ∥₁) e (spent_by n h g)

  -- a run that could go on ends where the fuel is spent
  pub spent_ends : (n : Next) → IsNext n r → GoesBy n → (ended : Option RunEnd) → MatchOption ended (steps_of r.history.list < r.fuel) (λ e. (e ≡ end.Fuel) × (r.fuel ≤ steps_of r.history.list)) → MatchOption ended (IsOpen r × GoesBy n) (λ e. EndsBy e r)
  spent_ends n h g None less = (is_open n h g less, g)
  spent_ends n h g (Some e) spent = subst (λ z. EndsBy z r) (sym spent.0) (fuel_ends n h g spent.1)

  -- where main has finished, or nothing can be done
  pub over_ends : (n : Next) (value : Bool) → n ≡ next.Over value → IsNext n r → HasFinished value r
  over_ends n value e h = subst (λ z. IsNext z r) e h

  pub stuck_so : (n : Next) → n ≡ next.Stuck → IsNext n r → EndsAs Deadlock r
  stuck_so n e h =
      let k = subst (λ z. IsNext z r) e h in
      ∥∥₁_map r.after (λ l. stuck_ends r.of.value r.history.list r.world l k.0 r.fuel k.1 k.2 (k.3 r.of.value))

  -- nothing is legal but Ticks and local rules of threads that are to do an action
  pub only_goes : IsNext next.Goes r → OnlyGoes r
  only_goes h = record {
    left = λ s run e legal. ∥∥₁_map r.after (λ l.
        is_left r.of.value.of.value l.accepted r.history.list s run (state_of r.of.value r.world)
        (subst (Represents (script r) (state_of r.of.value r.world)) (one_state (script r) r.history.list l.state s l.run run) l.represents)
        (main_goes r.world h.0 r.of.value) (h.1 r.of.value) e legal);
    some = h.2;
  }
