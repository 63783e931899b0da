-- A record after a change that nobody sees and after an entry that isn't a Tick: its time, and what Ticks are kept to.
use Rattle.std.proofs.Props.{props}
use Rattle.std.specs.declared.snapshot.Snapshot.{Snapshot}
use Rattle.std.specs.Prelude.{Result, Ok, Err, IfOk, OnErr, MatchOption}
use Rattle.hs_base.specs.declared.no_memory.NoMemory.{NoMemory}
use Rattle.hs_rules.specs.declared.entry.LimitKind.{LimitKind}
use Rattle.std.proofs.Common.{◌≡◌, ◌≤◌, ℕ, List, [], ◌∷◌, ◌++◌, Option, Some, None, ◌⊎◌, inl, inr, refl, sym, ap, ◌∙◌, subst, arith}
use Rattle.std.proofs.Math.Logic.{∥∥₁_elim, ∥∥₁_map}
use Rattle.hs_rules.specs.declared.entry.Entry.{Entry}
use Rattle.rules_expansion.specs.trees.Programs.{Fn, script_of}
use Rattle.rules_meaning.specs.CoreMeaning.{code_of}
use Rattle.rules_code.specs.declared.code.CodeBody.{CodeBody}
use Rattle.hs_rules.specs.State.{State}
use Rattle.hs_rules.specs.Endings.{IsTick}
use Rattle.hs_laws.proofs.RunParts.{run_before}
use Rattle.slot_states.specs.SlotStates.{SlotState}
use Rattle.world_entries.specs.declared.world.World.{World}
use Rattle.world_entries.specs.Worlds.{Live}
use Rattle.run_course.specs.declared.history.record.Record.{Record}
use Rattle.run_course.specs.history.Records.{script, Same, Appended}
use Rattle.run_course.proofs.history_lemmas.GoingOn.{one_state, relisted_live}
use Rattle.run_course.specs.clocked.Clocks.{TicksKept}
use Rattle.hs_laws.proofs.Ticking.{entry_stays}
use Rattle.run_course.proofs.clocked_lemmas.Keeping.{ticks_begin, ticks_later, ticks_worked}

-- ---- the same script
pub same_script : (old new : Record) → new.of ≡ old.of → script new ≡ script old
same_script old new e = ap (λ (z : Snapshot CodeBody). script_of z.value.of.value) e

-- what Ticks are kept to speaks of a record's script and history alone
abbrev pub Kept : Record → (lent now : ℕ) → Type 0
Kept r lent now = ∥ TicksKept (script r) r.history.list lent now ∥₁

pub kept_as : (old new : Record) (es : List Entry) (lent now : ℕ) → new.of ≡ old.of → new.history.list ≡ es → ∥ TicksKept (script old) es lent now ∥₁ → Kept new lent now
kept_as old new es lent now of list h =
    subst (λ ds. ∥ TicksKept ds new.history.list lent now ∥₁) (sym (same_script old new of))
    (subst (λ fs. ∥ TicksKept (script old) fs lent now ∥₁) (sym list) h)

-- where no entry stands yet
pub begun_kept : (r : Record) (lent now : ℕ) → r.history.list ≡ [] → lent ≡ now → Kept r lent now
begun_kept r lent now none e = kept_as r r [] lent now refl none ∣ subst (TicksKept (script r) [] lent) e (ticks_begin (script r) lent) ∣₁

-- ---- nobody sees it
pub same_time : (old new : Record) → Same old new → new.world.clock ≡ old.world.clock
same_time old new h = ap (λ (x : SlotState). x.clock) (h.world old.of.value)

pub same_kept : (old new : Record) (lent before now : ℕ) → before ≤ now → Same old new → Kept old lent before → Kept new lent now
same_kept old new lent before now le h k =
    kept_as old new old.history.list lent now h.plan.2 h.history (∥∥₁_map k (λ z. ticks_later (script old) old.history.list lent before now le z))

-- ---- one more entry that isn't a Tick
worked_time : (b : CodeBody) (es : List Entry) (e : Entry) (old new : World) → ¬ IsTick e → Live b es old → Live b (es ++ e ∷ []) new → new.clock ≡ old.clock
worked_time b es e old new other l m =
    let ds : List Fn = script_of b.of.value in
    let k = run_before ds es (e ∷ []) m.state m.run in
    let same : k.0 ≡ l.state = one_state ds es k.0 l.state k.1 l.run in
    let stays = entry_stays (code_of ds) k.0 k.2.0 e other k.2.1.0 in
    m.represents.agrees.clock
    ∙ (ap (λ (s : State). s.clock) (sym k.2.2) ∙ (stays ∙ (ap (λ (s : State). s.clock) same ∙ sym l.represents.agrees.clock)))

pub appended_time : (old new : Record) (e : Entry) → ¬ IsTick e → Appended e old new → new.world.clock ≡ old.world.clock
appended_time old new e other h =
    let b : CodeBody = old.of.value in
    let es : List Entry = old.history.list in
    let now : ∥ Live b (es ++ e ∷ []) new.world ∥₁ =
    relisted_live b new.history.list (es ++ e ∷ []) new.world (sym h.history) (subst (λ (z : Snapshot CodeBody). ∥ Live z.value new.history.list new.world ∥₁) h.plan.2 new.after) in
    ∥∥₁_elim old.after (hlevel props) (λ l. ∥∥₁_elim now (hlevel props) (λ m. worked_time b es e old.world new.world other l m))

pub appended_kept : (old new : Record) (e : Entry) (lent before now : ℕ) → before ≤ now → ¬ IsTick e → Appended e old new → Kept old lent before → Kept new lent now
appended_kept old new e lent before now le other h k =
    kept_as old new (old.history.list ++ e ∷ []) lent now h.plan.2 h.history (∥∥₁_map k (λ z. ticks_worked (script old) old.history.list lent before now le z e other))

-- ---- what a call of the record did
-- the entry was appended, or nobody sees a change
abbrev pub Went : Entry → Record → Record → Type 0
Went e old new = Appended e old new ⊎ Same old new

pub went_so : (R : Result (Option LimitKind) NoMemory) (P : LimitKind → Type 0) (e : Entry) (old new : Record) → ((kind : LimitKind) → P kind → Same old new)
    → IfOk R (λ over. MatchOption over (Appended e old new) P) → OnErr R (Same old new) → Went e old new
went_so (Ok None) P e old new same ok err = inl ok
went_so (Ok (Some kind)) P e old new same ok err = inr (same kind ok)
went_so (Err x) P e old new same ok err = inr err

pub went_time : (old new : Record) (e : Entry) → ¬ IsTick e → Went e old new → new.world.clock ≡ old.world.clock
went_time old new e other (inl h) = appended_time old new e other h
went_time old new e other (inr h) = same_time old new h

pub went_kept : (old new : Record) (e : Entry) (lent now : ℕ) → ¬ IsTick e → Went e old new → Kept old lent now → Kept new lent now
went_kept old new e lent now other (inl h) k = appended_kept old new e lent now now (omega arith) other h k
went_kept old new e lent now other (inr h) k = same_kept old new lent now now (omega arith) h k
