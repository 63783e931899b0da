-- What a run has come to.
use Rattle.std.proofs.Props.{props}
use Rattle.std.proofs.Math.Logic.{∥∥₁_elim}
use Rattle.std.proofs.Common.{◌≡◌, ◌≢◌, ℕ, List, [], ◌∷◌, Bool, true, false, Option, Some, None, refl, sym, ap, ◌∙◌, subst, slice_get}
use Rattle.hs_rules.specs.declared.entry.Entry.{Entry}
use Rattle.hs_rules.specs.declared.entry.Entry.TheVariants as entry
use Rattle.rules_expansion.specs.trees.Programs.{Fn, script_of}
use Rattle.rules_meaning.specs.CoreMeaning.{Code, code_of}
use Rattle.rules_code.specs.declared.code.CodeBody.{CodeBody}
use Rattle.rules_waiting.specs.Waiting.{earliest}
use Rattle.hs_rules.specs.Terms.{Part}
use Rattle.hs_rules.specs.State.{State}
use Rattle.hs_rules.specs.Runs.{IsRun}
use Rattle.hs_rules.specs.Endings.{ended_by, result_of, IsDone, IsUncaught, IsDeadlock}
use Rattle.hs_laws.proofs.RunParts.{is_after, same_after}
use Rattle.slot_states.proofs.AtRest.{main_goes}
use Rattle.slot_states.proofs.Settled.{rest_deadlock, no_deadlock}
use Rattle.frame_stack.specs.declared.control.Control.{Control}
use Rattle.frame_stack.specs.declared.control.Control.TheVariants as c
use Rattle.thread_table.specs.declared.thread.Thread.{Thread}
use Rattle.world_entries.specs.declared.world.World.{World}
use Rattle.world_entries.specs.Worlds.{state_of, Live, Goes, SameState}
use Rattle.world_entries.proofs.Making as making
use Rattle.run_course.specs.declared.history.acts.NextEntry.{NextEntry}
use Rattle.run_course.specs.declared.history.acts.Next.{Next}
use Rattle.run_course.specs.declared.history.acts.Next.TheVariants as next
use Rattle.run_course.specs.history.Acts.{entry_of, is_value}
use Rattle.run_course.specs.history.Records.{IsNextOf}
use Rattle.run_course.proofs.history_lemmas.Finished.{ended}
use Rattle.run_course.proofs.history_lemmas.GoingOn.{still_live}
use Rattle.run_course.proofs.history_lemmas.HowItEnds.{act_no_tick, one_result}
use Rattle.run_course.proofs.history_lemmas.Legal.{acts_are_legal, goers_are_legal}
use Rattle.trace_checker.specs.declared.player.player.Player.{Player}
use Rattle.trace_checker.specs.declared.player.player.Reached.{Reached}
use Rattle.trace_checker.specs.declared.player.player.Reached.TheVariants as reached
use Rattle.trace_checker.specs.player.Playing.{Played, ReachedAs, script}
use Rattle.trace_checker.specs.player.Reaching.{ended_as, going_as}

-- ---- it is plain
ended_prop : (o : Option Part) (v : Bool) → IsProp (ended_by o v)
ended_prop None v = hlevel props
ended_prop (Some p) v = hlevel props

reached_prop : (r : Reached) (code : Code) (s : State) → IsProp (ReachedAs r code s)
reached_prop reached.Done code s = ended_prop (result_of (slice_get s.threads 0)) true
reached_prop reached.Uncaught code s = let p = ended_prop (result_of (slice_get s.threads 0)) false in hlevel (props, p)
reached_prop reached.Deadlock code s = hlevel props
reached_prop reached.Open code s = hlevel props

-- ---- main has finished

by_value : (k : Control) (code : Code) (s : State) → ended_by (result_of (slice_get s.threads 0)) (is_value k) → ReachedAs (ended_as k) code s
by_value (c.Doing i vs) code s h = (λ d. one_result (result_of (slice_get s.threads 0)) d h, h)
by_value (c.Ret v) code s h = h
by_value (c.Throw e) code s h = (λ d. one_result (result_of (slice_get s.threads 0)) d h, h)
by_value (c.Op p) code s h = (λ d. one_result (result_of (slice_get s.threads 0)) d h, h)

-- ---- of a live world
module _ (b : CodeBody) (es : List Entry) (w : World) (live : Live b es w) where
  abbrev ds : List Fn
  ds = script_of b.of.value

  finished_reaches : (th : Thread) → slice_get w.threads.list.items 0 ≡ Some th → th.finished ≡ true → ReachedAs (ended_as th.stack.control) (code_of ds) live.state
  finished_reaches th is f = by_value th.stack.control (code_of ds) live.state (ended b es w live th is f)

  module _ (goes : Goes w) where
    going : (¬ IsDone live.state) × (¬ IsUncaught live.state)
    going = main_goes ds (state_of b w) live.state live.represents (making.main_goes w goes b)

    -- where there is more to do
    open_reaches : (¬ IsDeadlock (code_of ds) live.state) → ReachedAs reached.Open (code_of ds) live.state
    open_reaches more = (going.0, going.1, more)

    some_sleep : (due : ℕ) → earliest w.sleepers.list ≡ Some due → w.sleepers.list ≡ [] → ⊥
    some_sleep due e n = let z : ◌≡◌ {A = Option ℕ} None (Some due) = ap earliest (sym n) ∙ e in cc z

    going_reaches : (n : Next) → IsNextOf n w → ReachedAs (going_as n) (code_of ds) live.state
    going_reaches (next.Over v) h = absurd h
    going_reaches (next.Act a) h = open_reaches (λ d. d.0 (entry_of a) (act_no_tick a) (acts_are_legal b es w live goes a h.1))
    going_reaches next.Goes h = open_reaches (λ d. d.0 (entry.Local h.2.0 1) (λ z. z) (goers_are_legal b es w live goes h.2.0 (h.2.1 b)))
    going_reaches (next.Sleeps due) h = open_reaches (no_deadlock ds (state_of b w) live.state live.represents (some_sleep due h.2))
    going_reaches next.Stuck h = (
      going.0,
      going.1,
      rest_deadlock b.of.value live.accepted es live.state live.run (state_of b w) live.represents (making.main_goes w goes b) (h.1 b) h.2 (h.3 b),
    )

next_goes : (n : Next) (w : World) → IsNextOf n w → Goes w
next_goes (next.Over v) w h = absurd h
next_goes (next.Act a) w h = h.0
next_goes next.Goes w h = h.0
next_goes (next.Sleeps due) w h = h.0
next_goes next.Stuck w h = h.0

-- ---- of a player
module _ (p : Player) (es : List Entry) (s : State) (played : Played es p) (run : IsRun (script p) es s) where
  reaches : (r : Reached) (w : World) → SameState p.world w → ((live : Live p.of.value es w) → ReachedAs r (code_of (script p)) live.state) → ReachedAs r (code_of (script p)) s
  reaches r w same h =
      ∥∥₁_elim (still_live p.of.value es p.world w same played) (reached_prop r (code_of (script p)) s) (λ live.
      subst (ReachedAs r (code_of (script p))) (same_after (script p) es live.state s live.run (is_after (script p) es s run)) (h live))

  pub reached_finished : (th : Thread) → slice_get p.world.threads.list.items 0 ≡ Some th → th.finished ≡ true → ReachedAs (ended_as th.stack.control) (code_of (script p)) s
  reached_finished th is f = reaches (ended_as th.stack.control) p.world (λ b. refl) (λ live. finished_reaches p.of.value es p.world live th is f)

  pub reached_going : (n : Next) (w : World) → SameState p.world w → IsNextOf n w → ReachedAs (going_as n) (code_of (script p)) s
  reached_going n w same h = reaches (going_as n) w same (λ live. going_reaches p.of.value es w live (next_goes n w h) n h)
