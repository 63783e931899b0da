-- What can be done next is legal.
use Rattle.std.proofs.Common.{refl, ◌≡◌, ℕ, List, [], false, Some, sym, ◌∙◌, subst, slice_get}
use Rattle.hs_rules.specs.declared.entry.Entry.{Entry}
use Rattle.hs_rules.specs.declared.entry.Entry.TheVariants as entry
use Rattle.rules_expansion.specs.trees.Trees.{T}
use Rattle.rules_expansion.specs.trees.Programs.{Fn, script_of}
use Rattle.rules_meaning.specs.CoreMeaning.{code_of}
use Rattle.rules_code.specs.declared.code.CodeBody.{CodeBody}
use Rattle.rules_waiting.specs.Waiting.{first_awake}
use Rattle.hs_rules.specs.Entries.{IsLegal}
use Rattle.hs_laws.proofs.Lists.{StandsIn}
use Rattle.hs_laws.proofs.Expanded.{standing_of}
use Rattle.hs_progress.specs.TypedStates.{has}
use Rattle.hs_progress.specs.GoingOn.{MainRuns, own_entry}
use Rattle.hs_progress.proofs.Entries.{runs_go_on}
use Rattle.hs_progress.proofs.Quiet.{stranded_exactly}
use Rattle.slot_states.specs.SlotStates.{SlotState, Enters}
use Rattle.slot_states.specs.Resting as rest
use Rattle.slot_states.proofs.Reading.{Named, named_of, main_runs}
use Rattle.slot_states.proofs.AtRest.{none_works, nobody_sleeps}
use Rattle.slot_states.proofs.Receiving.{receive_entered}
use Rattle.slot_states.proofs.Settled.{local_legal}
use Rattle.slot_states.proofs.StrandedAlike.{waits_named, open_stands}
use Rattle.slot_states.proofs.Waking.{wake_entered}
use Rattle.frame_stack.specs.Parts.{IsOp, Meets, Stacked}
use Rattle.thread_table.specs.declared.thread.Thread.{Thread}
use Rattle.thread_table.specs.Kinds.{Own, Hears, IsBare}
use Rattle.thread_table.specs.Table.{slot_of}
use Rattle.thread_table.proofs.Slots.{receptive_same, hit_is, open_waits}
use Rattle.thread_table.proofs.Table.{slots_is}
use Rattle.world_entries.specs.declared.world.World.{World}
use Rattle.world_entries.specs.Worlds.{state_of, Live, Goes, IsAtRest, SomeWaitOpen}
use Rattle.world_entries.proofs.Making.{main_goes}
use Rattle.run_course.specs.declared.history.acts.NextEntry.{NextEntry}
use Rattle.run_course.specs.declared.history.acts.NextEntry.TheVariants as act
use Rattle.run_course.specs.history.Acts.{entry_of}
use Rattle.run_course.specs.history.Records.{Can}
use Rattle.run_course.proofs.history_lemmas.Controls.{own_op, own_finish, own_local}

-- an entry is legal in the state that a live world stands for
abbrev pub Legal : (b : CodeBody) (es : List Entry) (w : World) → Live b es w → Entry → Type 0
Legal b es w live e = IsLegal (code_of (script_of b.of.value)) live.state e

module _ (b : CodeBody) (es : List Entry) (w : World) (live : Live b es w) (goes : Goes w) where
  abbrev ds : List Fn
  ds = script_of b.of.value

  abbrev x : SlotState
  x = state_of b w

  abbrev cells : ℕ → T → Type 0
  cells = has live.represents.stacks.store

  main : MainRuns live.state
  main = main_runs ds x live.state live.represents (main_goes w goes b)

  -- the thread of the rules that a thread stands for
  abbrev NamedOf : ℕ → Thread → Type 0
  NamedOf t th = Named ds x live.state live.represents t (slot_of b th)

  named : (t : ℕ) (th : Thread) → slice_get w.threads.list.items t ≡ Some th → NamedOf t th
  named t th is = named_of ds x live.state live.represents t (slot_of b th) (slots_is b w.threads.list.items t th is)

  -- the own entry of a thread that isn't blocked
  own_legal : (t : ℕ) (th : Thread) (n : NamedOf t th) → th.finished ≡ false → th.blocked ≡ false → (e : Entry) → own_entry t n.thread.term.part n.thread.term.frames ≡ e → Legal b es w live e
  own_legal t th n going free e is =
      subst (Legal b es w live) is
      (runs_go_on b.of.value live.accepted es live.state live.run main t n.thread (record { there = n.is; unfinished = sym n.finished ∙ going; awake = sym n.blocked ∙ free }))

  -- what an entry of the slots enters is legal
  entered_legal : (e : Entry) (y : SlotState) → Enters b.of.value e x y → Legal b es w live e
  entered_legal e y enters = let k = enters es live.state live.run live.represents in (k.0, k.1)

  op_legal : (t : ℕ) → Own (λ (k : Stacked). IsOp k.control) t w.threads → Legal b es w live (entry.Op t)
  op_legal t h =
      let n = named t h.thread h.is in
      own_legal t h.thread n h.unfinished h.free (entry.Op t) (own_op cells ds b t h.thread.stack.control h.holds n.thread.term.part _ n.thread.term.frames n.stands.0)

  finish_legal : (t : ℕ) → Own IsBare t w.threads → Legal b es w live (entry.Finish t)
  finish_legal t h =
      let n = named t h.thread h.is in
      own_legal t h.thread n h.unfinished h.free (entry.Finish t)
      (own_finish cells ds b t h.thread.stack.control h.holds.0 h.thread.stack.frames h.holds.1 n.thread.term.part _ n.thread.term.frames n.stands.0 n.stands.1)

  pop_legal : (t : ℕ) → Own Meets t w.threads → Legal b es w live (entry.Local t 1)
  pop_legal t h =
      let n = named t h.thread h.is in
      own_legal t h.thread n h.unfinished h.free (entry.Local t 1)
      (own_local cells ds b t h.thread.stack.control h.thread.stack.frames h.holds n.thread.term.part _ n.thread.term.frames n.stands.0 n.stands.1)

  receive_legal : (t : ℕ) → Hears t w.threads → Legal b es w live (entry.Receive t)
  receive_legal t h =
      let f = hit_is t w.threads.flight.list h.hit in
      entered_legal (entry.Receive t) _
      (receive_entered b.of.value live.accepted x t f.0.0 f.0.1 (slot_of b h.thread) (slots_is b w.threads.list.items t h.thread h.is) h.unfinished (receptive_same b h.thread ∙ h.receptive) f.1 (main_goes w goes b))

  wake_legal : (t : ℕ) → first_awake w.clock w.sleepers.list ≡ Some t → Legal b es w live (entry.Wake t)
  wake_legal t e = entered_legal (entry.Wake t) _ (wake_entered b.of.value live.accepted x t e (main_goes w goes b))

  strand_legal : IsAtRest w → w.sleepers.list ≡ [] → SomeWaitOpen w → Legal b es w live entry.Stranded
  strand_legal quiet asleep some =
      let waits = waits_named ds x live.state live.represents (standing_of ds es live.state live.run) some.0 (open_waits b w.threads.list.items x some.0 refl some.1) in
      (stranded_exactly b.of.value live.accepted es live.state live.run).1
      (record {
        main = main;
        waits = none_works ds x live.state live.represents (quiet b);
        awake = nobody_sleeps ds x live.state live.represents asleep;
        some = λ e. subst (StandsIn some.0) e (open_stands live.state some.0 waits);
      })

  -- an act that is possible is legal
  pub acts_are_legal : (a : NextEntry) → Can a w → Legal b es w live (entry_of a)
  acts_are_legal (act.Op t) h = op_legal t h
  acts_are_legal (act.Finish t) h = finish_legal t h
  acts_are_legal (act.Local t) h = pop_legal t h
  acts_are_legal (act.Receive t) h = receive_legal t h
  acts_are_legal (act.Wake t) h = wake_legal t h
  acts_are_legal act.Strand h = strand_legal h.0 h.1 h.2

  -- local rules of a thread that is to do an action are
  pub goers_are_legal : (t : ℕ) → rest.Goes x t → Legal b es w live (entry.Local t 1)
  goers_are_legal t g = local_legal b.of.value live.accepted es live.state live.run x live.represents (main_goes w goes b) t g
