-- How a history ends, by what can be done next.
use Rattle.std.proofs.Common.{◌≡◌, ℕ, List, [], true, false, Option, Some, None, sym, ap, ◌∙◌}
use Rattle.std.proofs.Math.Logic.{∥∥₁_map}
use Rattle.hs_rules.specs.declared.entry.Entry.{Entry}
use Rattle.hs_rules.specs.declared.entry.Entry.TheVariants as entry
use Rattle.rules_expansion.specs.trees.Programs.{Fn, script_of}
use Rattle.rules_meaning.specs.CoreMeaning.{code_of}
use Rattle.rules_code.specs.declared.code.CodeBody.{CodeBody}
use Rattle.rules_waiting.specs.Waiting.{earliest}
use Rattle.hs_rules.specs.Histories.{steps_of}
use Rattle.hs_rules.specs.Terms.{Part}
use Rattle.hs_rules.specs.Endings.{Done, Uncaught, Deadlock, Fuel, IsTick, ended_by, IsDone, IsUncaught, IsDeadlock}
use Rattle.hs_laws.specs.HistoryEndings.{HasEnding}
use Rattle.slot_states.specs.Resting as rest
use Rattle.slot_states.proofs.AtRest.{main_goes}
use Rattle.slot_states.proofs.Settled.{rest_deadlock, no_deadlock}
use Rattle.world_entries.specs.declared.world.World.{World}
use Rattle.world_entries.specs.Worlds.{state_of, Live, Goes, IsAtRest}
use Rattle.world_entries.proofs.Making as making
use Rattle.run_course.specs.declared.history.acts.NextEntry.{NextEntry}
use Rattle.run_course.specs.declared.history.acts.NextEntry.TheVariants as act
use Rattle.run_course.specs.declared.history.record.Record.{Record}
use Rattle.run_course.specs.history.Acts.{entry_of}
use Rattle.run_course.specs.history.Records.{Can, HasFinished, EndsAs}
use Rattle.run_course.proofs.history_lemmas.Legal.{acts_are_legal, goers_are_legal}

-- ---- main has finished
pub done_ends : (r : Record) → HasFinished true r → EndsAs Done r
done_ends r h = ∥∥₁_map h (λ k. record { state = k.0; run = k.1; ends = k.2 })

pub one_result : (o : Option Part) → ended_by o true → ended_by o false → ⊥
one_result None d u = d
one_result (Some p) d u = let z : true ≡ false = sym d ∙ u in cc z

pub uncaught_ends : (r : Record) → HasFinished false r → EndsAs Uncaught r
uncaught_ends r h = ∥∥₁_map h (λ k. record { state = k.0; run = k.1; ends = (λ d. one_result _ d k.2, k.2) })

-- ---- main goes on
pub act_no_tick : (a : NextEntry) → ¬ IsTick (entry_of a)
act_no_tick (act.Op t) h = h
act_no_tick (act.Finish t) h = h
act_no_tick (act.Local t) h = h
act_no_tick (act.Receive t) h = h
act_no_tick (act.Wake t) h = h
act_no_tick act.Strand h = h

module _ (b : CodeBody) (es : List Entry) (w : World) (live : Live b es w) (goes : Goes w) where
  abbrev ds : List Fn
  ds = script_of b.of.value

  going : (¬ IsDone live.state) × (¬ IsUncaught live.state)
  going = main_goes ds (state_of b w) live.state live.represents (making.main_goes w goes b)

  -- where it is no deadlock and the steps are the fuel the fuel is spent
  spent : (fuel : ℕ) → (¬ IsDeadlock (code_of ds) live.state) → steps_of es ≡ fuel → HasEnding Fuel ds es fuel
  spent fuel more e = record { state = live.state; run = live.run; ends = (going.0, going.1, more, e) }

  pub act_spends : (fuel : ℕ) (a : NextEntry) → Can a w → steps_of es ≡ fuel → HasEnding Fuel ds es fuel
  act_spends fuel a h = spent fuel (λ d. d.0 (entry_of a) (act_no_tick a) (acts_are_legal b es w live goes a h))

  pub goer_spends : (fuel t : ℕ) → rest.Goes (state_of b w) t → steps_of es ≡ fuel → HasEnding Fuel ds es fuel
  goer_spends fuel t g = spent fuel (λ d. d.0 (entry.Local t 1) (λ z. z) (goers_are_legal b es w live goes t g))

  pub sleeper_spends : (fuel due : ℕ) → earliest w.sleepers.list ≡ Some due → steps_of es ≡ fuel → HasEnding Fuel ds es fuel
  sleeper_spends fuel due e = spent fuel (no_deadlock ds (state_of b w) live.state live.represents some)
    where
      some : w.sleepers.list ≡ [] → ⊥
      some n = let z : ◌≡◌ {A = Option ℕ} None (Some due) = ap earliest (sym n) ∙ e in cc z

  pub stuck_ends : (fuel : ℕ) → IsAtRest w → w.sleepers.list ≡ [] → ((t : ℕ) → ¬ rest.WaitsOpen (state_of b w) t) → HasEnding Deadlock ds es fuel
  stuck_ends fuel quiet asleep none =
      record { state = live.state; run = live.run; ends = (going.0, going.1, rest_deadlock b.of.value live.accepted es live.state live.run (state_of b w) live.represents (making.main_goes w goes b) (quiet b) asleep none) }
