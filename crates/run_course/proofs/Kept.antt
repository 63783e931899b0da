-- What stays of a run whose record has the same history, or one entry more, and where there is no ending.
use Rattle.std.proofs.Common.{is_some, not, ◌≡◌, [], ◌⊎◌, inl, inr, ℕ, List, Bool, true, false, Option, Some, None, refl, sym, ap, ◌∙◌, subst}
use Rattle.std.specs.Prelude.{Result, Ok, Err, OnOk, OnErr, MatchOption}
use Rattle.std.specs.Result.{is_err}
use Rattle.std.proofs.Math.Logic.{∥∥₁_map}
use Rattle.std.proofs.KnownBytes.{Appends-nil}
use Rattle.std.specs.Io.KnownBytes.{Appends}
use Rattle.hs_base.specs.declared.limits.Limits.{Limits}
use Rattle.hs_io.specs.Causes.{Rose}
use Rattle.hs_rules.specs.declared.entry.Entry.{Entry}
use Rattle.hs_rules.specs.declared.entry.Entry.TheVariants as entry
use Rattle.hs_rules.specs.declared.entry.LimitKind.{LimitKind}
use Rattle.hs_rules.specs.Runs.{out, err}
use Rattle.rules_expansion.specs.trees.Programs.{Fn}
use Rattle.hs_laws.specs.HistoryEndings.{HasLimit}
use Rattle.slot_states.specs.SlotStates.{SlotState}
use Rattle.slot_states.specs.Printing.{output_by, errors_by}
use Rattle.slot_states.proofs.Printed.{nothing_yet}
use Rattle.world_entries.specs.Worlds.{state_of}
use Rattle.run_course.specs.declared.history.record.Record.{Record}
use Rattle.run_course.specs.history.Records.{script, Same, Appended, WouldExceed}
use Rattle.run_course.specs.clocked.Clocks.{Looked}
use Rattle.run_course.proofs.clocked_lemmas.Going.{same_script}
use Rattle.run_course.specs.declared.ends.RunEnd.{RunEnd}
use Rattle.run_course.specs.declared.ends.RunEnd.TheVariants as end
use Rattle.run_course.specs.Told.{is_write, ToldBy, ToldOf, Both, OneFailed}
use Rattle.run_course.specs.Endings.{EndedBy, EndsBy}
use Rattle.run_course.proofs.Printed.{printed, told_both, told_cut, told_still}

-- ---- no ending
pub not_write : (ended : Option RunEnd) → ended ≡ None → is_write ended ≡ false
not_write ended e = ap is_write e

pub is_none : {A : Type 0} (o : Option A) (b : Bool) → b ≡ true → is_some o ≡ not b → o ≡ None
is_none None b e h = refl
is_none (Some x) b e h = let z : true ≡ false = h ∙ ap not e in absurd (cc z)

-- no ending comes for no cause
pub ended_none : (ended : Option RunEnd) → ended ≡ None → (ds : List Fn) (es : List Entry) (fuel : ℕ) (limits : Limits) (a b c d : ℕ) → ∥ EndedBy ended ds es fuel limits a b c d ∥₁
ended_none None e ds es fuel limits a b c d = ∣ tt ∣₁
ended_none (Some x) e ds es fuel limits a b c d = absurd (cc e)

-- an ending that isn't a failed put, in place of none
pub told_ends : (ended after : Option RunEnd) → ended ≡ None → is_write after ≡ false → (ds : List Fn) (es : List Entry) (a b c d : Option (List ℕ)) → ∥ ToldOf ended ds es a b c d ∥₁ → ∥ ToldOf after ds es a b c d ∥₁
told_ends ended after e f ds es a b c d told =
    subst (λ z. ∥ ToldBy z ds es a b c d ∥₁) (sym f) (subst (λ z. ∥ ToldBy z ds es a b c d ∥₁) (not_write ended e) told)

pub calm_ends : (ended after : Option RunEnd) → ended ≡ None → (a b c d : ℕ) → ∥ (is_write ended ≡ false → (a ≡ b) × (c ≡ d)) ∥₁ → ∥ (is_write after ≡ false → (a ≡ b) × (c ≡ d)) ∥₁
calm_ends ended after e a b c d calm = ∥∥₁_map calm (λ h f. h (not_write ended e))

-- what holds by what can be done next isn't a failed put, and comes for its cause
pub ends_calmly : (e : RunEnd) (r : Record) → EndsBy e r → is_write (Some e) ≡ false
ends_calmly end.Done r h = refl
ends_calmly end.Uncaught r h = refl
ends_calmly end.Deadlock r h = refl
ends_calmly end.Fuel r h = refl
ends_calmly end.Memory r h = absurd h
ends_calmly end.Write r h = absurd h
ends_calmly (end.Limit kind e) r h = absurd h

pub ends_so : (e : RunEnd) (r : Record) (a b c d : ℕ) → EndsBy e r → ∥ EndedBy (Some e) (script r) r.history.list r.fuel r.limits a b c d ∥₁
ends_so end.Done r a b c d h = ∣ h ∣₁
ends_so end.Uncaught r a b c d h = ∣ h ∣₁
ends_so end.Deadlock r a b c d h = ∣ h ∣₁
ends_so end.Fuel r a b c d h = ∣ h ∣₁
ends_so end.Memory r a b c d h = absurd h
ends_so end.Write r a b c d h = absurd h
ends_so (end.Limit kind e) r a b c d h = absurd h

-- ---- the same history, or one entry more that prints nothing
abbrev pub IsSilent : Entry → Type 0
IsSilent e = (x : SlotState) → (output_by x e ≡ []) × (errors_by x e ≡ [])

abbrev pub Went : Record → Record → Type 0
Went old new = Same old new ⊎ ((e : Entry) × Appended e old new × IsSilent e)

pub looked : (ticked : Bool) (old new : Record) → Looked ticked old new → Went old new
looked true old new h = inr (entry.Tick h.0, h.1, (λ x. (refl, refl)))
looked false old new h = subst (Went old) (sym h) (inl (record { history = refl; world = λ b. refl; plan = (refl, refl, refl) }))

pub told_same : (old new : Record) → Same old new → (ended : Option RunEnd) (a b c d : Option (List ℕ)) → ∥ ToldOf ended (script old) old.history.list a b c d ∥₁ → ∥ ToldOf ended (script new) new.history.list a b c d ∥₁
told_same old new h ended a b c d told =
    subst (λ ds. ∥ ToldOf ended ds new.history.list a b c d ∥₁) (sym (same_script old new h.plan.2))
    (subst (λ es. ∥ ToldOf ended (script old) es a b c d ∥₁) (sym h.history) told)

-- both sinks were told all, of the old record by the new one's script
all_told : (old new : Record) (e : Entry) → Appended e old new → (ended : Option RunEnd) → ended ≡ None → (a b c d : Option (List ℕ)) → ToldOf ended (script old) old.history.list a b c d
    → Appends a b (out (script new) old.history.list) × Appends c d (err (script new) old.history.list)
all_told old new e h ended none a b c d told =
    subst (λ ds. ToldBy false ds old.history.list a b c d) (sym (same_script old new h.plan.2)) (subst (λ z. ToldBy z (script old) old.history.list a b c d) (not_write ended none) told)

pub told_went : (old new : Record) → Went old new → (ended : Option RunEnd) → ended ≡ None → (a b c d : Option (List ℕ)) → ∥ ToldOf ended (script old) old.history.list a b c d ∥₁ → ∥ ToldOf ended (script new) new.history.list a b c d ∥₁
told_went old new (inl same) ended none a b c d told = told_same old new same ended a b c d told
told_went old new (inr w) ended none a b c d told =
    ∥∥₁_map told (λ t.
    let e : Entry = w.0 in
    let x : SlotState = state_of old.of.value old.world in
    subst (λ z. ToldBy z (script new) new.history.list a b c d) (sym (not_write ended none))
    (told_still (script new) old.history.list new.history.list (output_by x e) (errors_by x e) (printed old new e w.1) a b b c d d (all_told old new e w.1 ended none a b c d t) (w.2 x).0 (w.2 x).1))

-- ---- one entry more, and what was put of it
module _ (old new : Record) (e : Entry) (h : Appended e old new) (ended : Option RunEnd) (none : ended ≡ None) (a b b′ c d d′ : Option (List ℕ)) (told : ∥ ToldOf ended (script old) old.history.list a b c d ∥₁) where
  abbrev x : SlotState
  x = state_of old.of.value old.world

  pub told_put : Both b b′ d d′ (output_by x e) (errors_by x e) → ∥ ToldOf ended (script new) new.history.list a b′ c d′ ∥₁
  told_put both =
      ∥∥₁_map told (λ t.
      subst (λ z. ToldBy z (script new) new.history.list a b′ c d′) (sym (not_write ended none))
      (told_both (script new) old.history.list new.history.list (output_by x e) (errors_by x e) (printed old new e h) a b b′ c d d′ (all_told old new e h ended none a b c d t) both))

  pub told_failed : OneFailed b b′ d d′ (output_by x e) (errors_by x e) → ∥ ToldOf (Some end.Write) (script new) new.history.list a b′ c d′ ∥₁
  told_failed failed =
      ∥∥₁_map told (λ t.
      told_cut (script new) old.history.list new.history.list (output_by x e) (errors_by x e) (printed old new e h) a b b′ c d d′ (all_told old new e h ended none a b c d t) e h.history failed)

-- ---- where nothing was told
pub told_nothing : (r : Record) → r.history.list ≡ [] → (a b c d : Option (List ℕ)) → a ≡ b → c ≡ d → ToldOf None (script r) r.history.list a b c d
told_nothing r none a b c d x y =
    let ds : List Fn = script r in
    let n = nothing_yet ds in
    subst (λ es. ToldBy false ds es a b c d) (sym none) (
      subst (λ z. Appends a z (out ds [])) x (subst (Appends a a) (sym n.0) (Appends-nil a)),
      subst (λ z. Appends c z (err ds [])) y (subst (Appends c c) (sym n.1) (Appends-nil c)),
    )

-- ---- a limit, and a failed put

pub on_none : {A : Type 0} (P : Type 0) (Q : A → Type 0) (o : Option A) → o ≡ None → MatchOption o P Q → P
on_none P Q o e h = subst (λ z. MatchOption z P Q) e h

pub on_ok : {A E P : Type 0} (r : Result A E) (b : Bool) → b ≡ false → b ≡ is_err r → OnOk r P → P
on_ok (Ok x) b e f h = h
on_ok (Err x) b e f h = let z : true ≡ false = sym f ∙ e in absurd (cc z)

pub on_err : {A E P : Type 0} (r : Result A E) (b : Bool) → b ≡ true → b ≡ is_err r → OnErr r P → P
on_err (Err x) b e f h = h
on_err (Ok x) b e f h = let z : true ≡ false = sym e ∙ f in absurd (cc z)

pub limit_same : (old new : Record) → Same old new → (kind : LimitKind) (e : Entry) → WouldExceed kind e old → WouldExceed kind e new
limit_same old new h kind e w =
    subst (λ z. ∥ HasLimit kind e z (script new) new.history.list new.fuel ∥₁) (sym h.plan.1)
    (subst (λ z. ∥ HasLimit kind e old.limits z new.history.list new.fuel ∥₁) (sym (same_script old new h.plan.2))
    (subst (λ z. ∥ HasLimit kind e old.limits (script old) z new.fuel ∥₁) (sym h.history)
    (subst (λ z. ∥ HasLimit kind e old.limits (script old) old.history.list z ∥₁) (sym h.plan.0) w)))

pub rose_since : (ended : Option RunEnd) → ended ≡ None → (lent before now lent2 before2 now2 : ℕ) → ∥ (is_write ended ≡ false → (before ≡ lent) × (before2 ≡ lent2)) ∥₁ → Rose before now ⊎ Rose before2 now2
    → ∥ (Rose lent now ⊎ Rose lent2 now2) ∥₁
rose_since ended none lent before now lent2 before2 now2 calm (inl r) = ∥∥₁_map calm (λ h. inl (subst (λ z. Rose z now) (h (not_write ended none)).0 r))
rose_since ended none lent before now lent2 before2 now2 calm (inr r) = ∥∥₁_map calm (λ h. inr (subst (λ z. Rose z now2) (h (not_write ended none)).1 r))

pub calm_put : (ended : Option RunEnd) → ended ≡ None → (lent before now lent2 before2 now2 : ℕ) → ∥ (is_write ended ≡ false → (before ≡ lent) × (before2 ≡ lent2)) ∥₁ → (now ≡ before) × (now2 ≡ before2)
    → ∥ (is_write ended ≡ false → (now ≡ lent) × (now2 ≡ lent2)) ∥₁
calm_put ended none lent before now lent2 before2 now2 calm e = ∥∥₁_map calm (λ h f. (e.0 ∙ (h f).0, e.1 ∙ (h f).1))
