-- A player after an entry was tried.
use Rattle.std.proofs.Math.Logic.{∥∥₁_elim, ∥∥₁_prop, ∥∥₁_map}
use Rattle.std.proofs.Common.{◌≡◌, ℕ, List, [], ◌∷◌, ◌++◌, Bool, true, false, Result, Ok, Err, Some, refl, sym, ap, ◌∙◌, subst, slice_get, None}
use Rattle.std.specs.Prelude.{IfOk, OnErr, IsTrue}
use Rattle.hs_base.specs.declared.no_memory.NoMemory.{NoMemory}
use Rattle.hs_base.specs.declared.mask.Mask.TheVariants.{Unmasked}
use Rattle.hs_rules.specs.declared.entry.Entry.{Entry}
use Rattle.hs_rules.specs.declared.entry.Entry.TheVariants as entry
use Rattle.hs_rules.specs.Entries.{IsLegal}
use Rattle.hs_rules.specs.Runs.{IsRun}
use Rattle.hs_rules.specs.State.{State}
use Rattle.hs_laws.proofs.RunParts.{is_after, same_after}
use Rattle.rules_meaning.specs.CoreMeaning.{code_of}
use Rattle.rules_expansion.specs.trees.Programs.{Fn, script_of}
use Rattle.rules_code.specs.declared.code.CodeBody.{CodeBody}
use Rattle.slot_states.specs.SlotStates.{MainGoes, Enters}
use Rattle.slot_laws.specs.SlotRules.{locals}
use Rattle.local_steps.specs.Machine.{funs_of}
use Rattle.frame_stack.specs.Parts.{term_of}
use Rattle.slot_states.specs.demands.Demands.{Asks}
use Rattle.slot_states.proofs.demands_lemmas.Demanding.{asked}
use Rattle.thread_table.specs.declared.thread.Thread.{Thread}
use Rattle.thread_table.specs.Table.{slot_of}
use Rattle.thread_table.proofs.Slots.{slot_back}
use Rattle.world_entries.specs.declared.world.World.{World}
use Rattle.world_entries.specs.Worlds.{state_of, Live, IsLive, MakesOf, SameState, Goes}
use Rattle.run_course.proofs.history_lemmas.GoingOn.{still_live, more_live}
use Rattle.trace_checker.specs.declared.player.player.Player.{Player}
use Rattle.trace_checker.specs.player.Playing.{script, Played, CanFollow}
use Rattle.trace_checker.specs.player.Entering.{IsFree, Tried, TriedOf}
use Rattle.trace_checker.proofs.player_lemmas.Asked.{stuck_asked}

-- it stands for the state that some run leaves
abbrev pub Stood : CodeBody → World → Type 0
Stood b w = ∥ ((es : List Entry) × Live b es w) ∥₁

pub still_stood : (b : CodeBody) (old new : World) → SameState old new → Stood b old → Stood b new
still_stood b old new same h = ∥∥₁_elim h ∥∥₁_prop (λ k. ∥∥₁_map (still_live b k.0 old new same ∣ k.1 ∣₁) (λ l. (k.0, l)))

more_stood : (b : CodeBody) (e : Entry) (old new : World) → MakesOf b e old new → Stood b old → Stood b new
more_stood b e old new makes h = ∥∥₁_elim h ∥∥₁_prop (λ k. ∥∥₁_map (more_live b k.0 e old new makes ∣ k.1 ∣₁) (λ l. (k.0 ++ e ∷ [], l)))

pub stood_lives : (b : CodeBody) (w : World) → Stood b w → IsLive w
stood_lives b w h = ∥∥₁_map h (λ k. (b, k.0, k.1))

pub still_lives : (old new : World) → SameState old new → IsLive old → IsLive new
still_lives old new same h = ∥∥₁_elim h ∥∥₁_prop (λ k. ∥∥₁_map (still_live k.0 k.1 old new same ∣ k.2 ∣₁) (λ l. (k.0, k.1, l)))

-- what is entered in the same state is entered
pub makes_from : (b : CodeBody) (e : Entry) (old mid new : World) → SameState old mid → MakesOf b e mid new
    → MakesOf b e old new
makes_from b e old mid new same makes accepted code = subst (λ x. Enters b.of.value e x (state_of b new)) (same b) (makes accepted code)

-- ---- what isn't legal
legal_here : (p : Player) (es : List Entry) (e : Entry) → CanFollow es e p → (live : Live p.of.value es p.world) → IsLegal (code_of (script p)) live.state e
legal_here p es e can live = subst (λ s. IsLegal (code_of (script p)) s e) (same_after (script p) es can.0 live.state can.1 (is_after (script p) es live.state live.run)) can.2

-- what follows has what it asks
asked_here : (p : Player) (es : List Entry) (e : Entry) → CanFollow es e p → Live p.of.value es p.world → MainGoes (state_of p.of.value p.world) × Asks (script p) e (state_of p.of.value p.world)
asked_here p es e can live = asked p.of.value.of.value live.accepted es live.state live.run (state_of p.of.value p.world) live.represents e (legal_here p es e can live)

pub refused : (p : Player) (e : Entry) → (MainGoes (state_of p.of.value p.world) × Asks (script p) e (state_of p.of.value p.world) → ⊥) → (es : List Entry) → Played es p → CanFollow es e p → ⊥
refused p e never es played can = ∥∥₁_elim played (λ x y. absurd x) (λ live. never (asked_here p es e can live))

main_back : (b : CodeBody) (w : World) → MainGoes (state_of b w) → Goes w
main_back b w m = let k = slot_back b w.threads.list.items 0 m.main m.is in record { main = k.0; is = k.1; unfinished = ap (λ z. z.finished) k.2 ∙ m.unfinished }

-- nothing follows where main has finished
pub none_follows : (p : Player) (e : Entry) → (Goes p.world → ⊥) → (es : List Entry) → Played es p → CanFollow es e p → ⊥
none_follows p e over = refused p e (λ k. over (main_back p.of.value p.world k.0))

-- ---- after an entry was tried, where room was made before
module _ (p : Player) (b : CodeBody) (of : p.of.value ≡ b) (mid new : World) (room : SameState p.world mid) (e : Entry) where
  makes_on : MakesOf b e mid new → (es : List Entry) → Played es p → ∥ Live p.of.value (es ++ e ∷ []) new ∥₁
  makes_on makes es played = more_live p.of.value es e mid new (subst (λ z. MakesOf z e mid new) (sym of) makes) (still_live p.of.value es p.world mid room played)

  still_on : SameState mid new → SameState p.world new
  still_on same z = same z ∙ room z

  never_on : (Asks (script_of b.of.value) e (state_of b mid) → ⊥) → (es : List Entry) → Played es p → CanFollow es e p → ⊥
  never_on never =
      refused p e (λ k. never (subst (λ x. Asks (script_of b.of.value) e x) (sym (room b)) (subst (λ (z : CodeBody). Asks (script_of z.of.value) e (state_of z p.world)) of k.1)))

  pub legal_on : (r : Result Bool NoMemory) → IfOk r (λ done. TriedOf b e mid new done) → IfOk r (λ done. IsTrue done → (es : List Entry) → Played es p → ∥ Live p.of.value (es ++ e ∷ []) new ∥₁)
  legal_on (Ok true) h = λ t es played. makes_on h es played
  legal_on (Ok false) h = λ t. absurd (cc t)
  legal_on (Err x) h = tt

  -- where nothing follows all is as it was, in any words for that
  pub illegal_on : (U : Type 0) → (SameState p.world new → U) → (r : Result Bool NoMemory) → IfOk r (λ done. TriedOf b e mid new done) → IfOk r (λ done. (done ≡ false) → U × ((es : List Entry) → Played es p → CanFollow es e p → ⊥))
  illegal_on U same (Ok true) h = λ f. absurd (cc f)
  illegal_on U same (Ok false) h = λ f. (same (still_on h.0), never_on h.1)
  illegal_on U same (Err x) h = tt

  pub stands_on : (r : Result Bool NoMemory) → IfOk r (λ done. TriedOf b e mid new done) → OnErr r (SameState mid new) → Stood p.of.value new
  stands_on (Ok true) h k = more_stood p.of.value e mid new (subst (λ z. MakesOf z e mid new) (sym of) h) (still_stood p.of.value p.world mid room p.live)
  stands_on (Ok false) h k = still_stood p.of.value p.world new (still_on h.0) p.live
  stands_on (Err x) h k = still_stood p.of.value p.world new (still_on k) p.live

-- ---- of each answer
pub tried_as : (r : Result Bool NoMemory) (b : CodeBody) (e f : Entry) (old new : World) → e ≡ f → IfOk r (λ done. Tried f old new done) → IfOk r (λ done. TriedOf b e old new done)
tried_as (Ok x) b e f old new is h = subst (λ z. TriedOf b z old new x) (sym is) (h b)
tried_as (Err x) b e f old new is h = tt

-- local rules that were tried
pub advance_tried : (b : CodeBody) (old new : World) (t k : ℕ) → IsFree t old.threads → (r : Result Bool NoMemory)
    → IfOk r (λ done. IsTrue done → MakesOf b (entry.Local t k) old new)
    → IfOk r (λ done. (done ≡ false) → SameState old new × ((th : Thread) → slice_get old.threads.list.items t ≡ Some th → locals (funs_of b) Unmasked k (term_of b th.stack) ≡ None))
    → IfOk r (λ done. TriedOf b (entry.Local t k) old new done)
advance_tried b old new t k free (Ok true) moves stuck = moves refl
advance_tried b old new t k free (Ok false) moves stuck = let q = stuck refl in (q.0, stuck_asked b old t k free.0 free.1 (q.1 free.0 free.1))
advance_tried b old new t k free (Err x) moves stuck = tt
