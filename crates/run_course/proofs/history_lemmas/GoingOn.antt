-- A history and the world that stands for the state that it leaves, after one more entry or after a change that nobody sees.
use Rattle.std.proofs.Common.{append-nil, arith, ◌≤◌, ◌+◌, ℕ, ◌≡◌, List, [], ◌∷◌, ◌++◌, sym, subst}
use Rattle.std.proofs.Math.Logic.{∥∥₁_elim, ∥∥₁_prop, ∥∥₁_map}
use Rattle.hs_base.specs.declared.limits.Limits.{Limits}
use Rattle.hs_rules.specs.declared.entry.Entry.{Entry}
use Rattle.rules_expansion.specs.trees.Programs.{Fn, script_of}
use Rattle.rules_meaning.specs.CoreMeaning.{code_of}
use Rattle.rules_code.specs.declared.code.CodeBody.{CodeBody}
use Rattle.hs_rules.specs.State.{State}
use Rattle.hs_rules.specs.Entries.{Leads}
use Rattle.hs_rules.specs.Runs.{IsRun}
use Rattle.hs_rules.specs.Histories.{cost_of, steps_of}
use Rattle.hs_rules.specs.Endings.{IsWithin}
use Rattle.hs_rules.proofs.Histories.{steps_of_last}
use Rattle.hs_laws.specs.HistoryEndings.{StaysWithin}
use Rattle.hs_laws.proofs.RunParts.{is_after, run_more, same_after}
use Rattle.hs_laws.proofs.HowItEnds.{within_more}
use Rattle.slot_states.specs.SlotStates.{Represents}
use Rattle.world_entries.specs.declared.world.World.{World}
use Rattle.run_course.specs.declared.history.record.Record.{Record}
use Rattle.run_course.specs.history.Records.{script, Fits}
use Rattle.world_entries.specs.Worlds.{Live, IsLive, MakesOf, SameState}

-- ---- nobody sees it
live_same : (b : CodeBody) (es : List Entry) (old new : World) → SameState old new → Live b es old → Live b es new
live_same b es old new same l = record { accepted = l.accepted; code = l.code; state = l.state; run = l.run; represents = subst (λ z. Represents (script_of b.of.value) z l.state) (sym (same b)) l.represents }

pub still_live : (b : CodeBody) (es : List Entry) (old new : World) → SameState old new → ∥ Live b es old ∥₁
    → ∥ Live b es new ∥₁
still_live b es old new same h = ∥∥₁_map h (live_same b es old new same)

pub is_live : (b : CodeBody) (es : List Entry) (w : World) → ∥ Live b es w ∥₁ → IsLive w
is_live b es w h = ∥∥₁_map h (λ l. (b, es, l))

-- ---- one more entry
live_more : (b : CodeBody) (es : List Entry) (e : Entry) (old new : World) → MakesOf b e old new → Live b es old → Live b (es ++ e ∷ []) new
live_more b es e old new makes l =
    let k = makes l.accepted l.code es l.state l.run l.represents in
    record { accepted = l.accepted; code = l.code; state = k.0; run = run_more (script_of b.of.value) es e l.state k.0 l.run k.1; represents = k.2 }

pub more_live : (b : CodeBody) (es : List Entry) (e : Entry) (old new : World) → MakesOf b e old new → ∥ Live b es old ∥₁ → ∥ Live b (es ++ e ∷ []) new ∥₁
more_live b es e old new makes h = ∥∥₁_map h (live_more b es e old new makes)

-- every state that the entry leaves after the history is within the limits
abbrev pub FitsAfter : Limits → List Fn → List Entry → Entry → Type 0
FitsAfter limits ds es e = (s u : State) → IsRun ds es s → Leads (code_of ds) s e u → IsWithin limits u

-- the history of a live world stays within limits by an entry that fits
more_within : (b : CodeBody) (limits : Limits) (es : List Entry) (e : Entry) (old new : World) → MakesOf b e old new → FitsAfter limits (script_of b.of.value) es e
    → ∥ Live b es old ∥₁ → ∥ StaysWithin limits (script_of b.of.value) es ∥₁ → ∥ StaysWithin limits (script_of b.of.value) (es ++ e ∷ []) ∥₁
more_within b limits es e old new makes fits live stays =
    ∥∥₁_elim live ∥∥₁_prop (λ l. ∥∥₁_map stays (λ h.
    let ds : List Fn = script_of b.of.value in
    let k = makes l.accepted l.code es l.state l.run l.represents in
    within_more limits ds es e k.0 h (is_after ds (es ++ e ∷ []) k.0 (run_more ds es e l.state k.0 l.run k.1)) (fits l.state k.0 l.run k.1)))

-- a history that stays within limits leaves a state that is within them
pub state_within : (limits : Limits) (ds : List Fn) (es : List Entry) (s : State) → StaysWithin limits ds es → IsRun ds es s → IsWithin limits s
state_within limits ds es s h run = h es [] s (sym (append-nil es)) (is_after ds es s run)

-- two states that a history leaves are one
pub one_state : (ds : List Fn) (es : List Entry) (s u : State) → IsRun ds es s → IsRun ds es u → s ≡ u
one_state ds es s u run other = same_after ds es s u run (is_after ds es u other)

-- ---- a history that is the same list
pub relisted_live : (b : CodeBody) (es fs : List Entry) (w : World) → fs ≡ es → ∥ Live b es w ∥₁ → ∥ Live b fs w ∥₁
relisted_live b es fs w e h = subst (λ zs. ∥ Live b zs w ∥₁) (sym e) h

pub relisted_stays : (limits : Limits) (ds : List Fn) (es fs : List Entry) → fs ≡ es → ∥ StaysWithin limits ds es ∥₁ → ∥ StaysWithin limits ds fs ∥₁
relisted_stays limits ds es fs e h = subst (λ zs. ∥ StaysWithin limits ds zs ∥₁) (sym e) h

pub relisted_steps : (es fs : List Entry) (fuel : ℕ) → fs ≡ es → steps_of es ≤ fuel → steps_of fs ≤ fuel
relisted_steps es fs fuel e h = subst (λ zs. steps_of zs ≤ fuel) (sym e) h

-- ---- a record after a change that nobody sees, and after one more entry
module _ (r : Record) (fs : List Entry) (w : World) where
  module _ (list : fs ≡ r.history.list) where
    pub same_live : SameState r.world w → ∥ Live r.of.value fs w ∥₁
    same_live same = relisted_live r.of.value r.history.list fs w list (still_live r.of.value r.history.list r.world w same r.after)

    pub same_steps : steps_of fs ≤ r.fuel
    same_steps = relisted_steps r.history.list fs r.fuel list r.within

    pub same_stays : ∥ StaysWithin r.limits (script r) fs ∥₁
    same_stays = relisted_stays r.limits (script r) r.history.list fs list r.limited

  module _ (e : Entry) (list : fs ≡ r.history.list ++ e ∷ []) where
    pub grown_live : MakesOf r.of.value e r.world w → ∥ Live r.of.value fs w ∥₁
    grown_live makes = relisted_live r.of.value (r.history.list ++ e ∷ []) fs w list (more_live r.of.value r.history.list e r.world w makes r.after)

    pub grown_steps : steps_of r.history.list + cost_of e ≤ r.fuel → steps_of fs ≤ r.fuel
    grown_steps h = relisted_steps (r.history.list ++ e ∷ []) fs r.fuel list (let k = steps_of_last r.history.list e in omega (arith, k, h))

    pub grown_stays : MakesOf r.of.value e r.world w → Fits e r → ∥ StaysWithin r.limits (script r) fs ∥₁
    grown_stays makes fits = relisted_stays r.limits (script r) (r.history.list ++ e ∷ []) fs list (more_within r.of.value r.limits r.history.list e r.world w makes fits r.after r.limited)
