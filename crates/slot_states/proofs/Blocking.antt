-- Sleeping and throwing: what they leave is stood for.
use Rattle.std.proofs.Common.{append-nil, ◌≡◌, ◌≢◌, ℕ, suc, ◌+◌, ◌<◌, ◌++◌, [], ◌∷◌, Some, refl, sym, ap, ◌∙◌, subst, arith, pos, negsuc, min, true, false, slice_get}
use Rattle.hs_base.specs.declared.exn.Exn.{Exn}
use Rattle.hs_base.specs.declared.tree.script.Script.{Script}
use Rattle.hs_rules.specs.declared.entry.Entry.TheVariants.{Op}
use Rattle.rules_expansion.specs.trees.Programs.{script_of}
use Rattle.rules_meaning.specs.Values as val
use Rattle.rules_meaning.specs.Values.{UnitValue, Int, Exception}
use Rattle.rules_expansion.specs.declared.primitive.Primitive.TheVariants.{ThreadDelay, ThrowTo}
use Rattle.rules_typing.specs.TypingScripts.{Accepted}
use Rattle.rules_waiting.specs.Waiting.{Throwing, Sleeping, flight_of, sleepers_of, sorted_sleepers, sleeper_added}
use Rattle.exn_flight.proofs.OneList.{flight_blocks, sleepers_block}
use Rattle.exn_flight.proofs.Sorting.{sleeps_in_order}
use Rattle.hs_laws.specs.cases.Cases as row
use Rattle.slot_laws.specs.SlotRules.{performs, calls}
use Rattle.slot_states.specs.SlotStates.{SlotThread, SlotState, answer, throws, throws_at, sleeps, Enters, StandsAt, MainGoes}
use Rattle.slot_states.proofs.Following.{same_some}
use Rattle.slot_states.proofs.Reading.{named_of}
use Rattle.slot_states.proofs.Operating.{call_waits, answers_alone, throws_alone}

-- ---- sleeping
pub delay_sleeps : (script : Script) → Accepted script → (x : SlotState) (t n : ℕ) → StandsAt x t (performs (calls ThreadDelay (Int (pos (suc n)) ∷ []))) → MainGoes x
    → Enters script (Op t) x (sleeps t (min (x.clock + suc n) 18446744073709551615) x)
delay_sleeps script accepted x t n h main es s run r =
    let due : ℕ = min (x.clock + suc n) 18446744073709551615 in
    let more : 0 < suc n = omega arith in
    call_waits script accepted x t main es s run r ThreadDelay (Int (pos (suc n)) ∷ []) h (Sleeping due) (rw r.agrees.clock (row.sleeps more)) (λ k. refl)
    x.flight (r.agrees.flight ∙ sym (flight_blocks t (Sleeping due) s.blocked ∙ append-nil (flight_of s.blocked)))
    (sleeper_added (record { thread = t; due = due }) x.sleepers) (ap (sleeper_added (record { thread = t; due = due })) r.agrees.sleepers ∙ sym (sleeps_in_order t due s.blocked))

pub delay_none : (script : Script) → Accepted script → (x : SlotState) (t : ℕ) → StandsAt x t (performs (calls ThreadDelay (Int (pos 0) ∷ []))) → MainGoes x → Enters script (Op t) x (answer t UnitValue x)
delay_none script accepted x t h main es s run r = answers_alone script accepted x t main es s run r ThreadDelay (Int (pos 0) ∷ []) h UnitValue row.sleep_of_nothing

pub delay_less : (script : Script) → Accepted script → (x : SlotState) (t n : ℕ) → StandsAt x t (performs (calls ThreadDelay (Int (negsuc n) ∷ []))) → MainGoes x → Enters script (Op t) x (answer t UnitValue x)
delay_less script accepted x t n h main es s run r = answers_alone script accepted x t main es s run r ThreadDelay (Int (negsuc n) ∷ []) h UnitValue row.sleep_of_less

-- ---- throwing
pub throws_itself : (script : Script) → Accepted script → (x : SlotState) (t : ℕ) (e : Exn) → StandsAt x t (performs (calls ThrowTo (val.Thread t ∷ Exception e ∷ []))) → MainGoes x → Enters script (Op t) x (throws t e x)
throws_itself script accepted x t e h main es s run r =
    throws_alone script accepted x t main es s run r ThrowTo (val.Thread t ∷ Exception e ∷ []) h e (row.throws_at_itself (named_of (script_of script) x s r t h.thread h.is).is)

pub throws_at_finished : (script : Script) → Accepted script → (x : SlotState) (t u : ℕ) (e : Exn) (th : SlotThread) → StandsAt x t (performs (calls ThrowTo (val.Thread u ∷ Exception e ∷ [])))
    → slice_get x.threads u ≡ Some th → th.finished ≡ true → MainGoes x → Enters script (Op t) x (answer t UnitValue x)
throws_at_finished script accepted x t u e th h is f main es s run r =
    let n = named_of (script_of script) x s r u th is in
    let apart : u ≢ t = λ q.
    let same : th ≡ h.thread = same_some (slice_get x.threads t) th h.thread (subst (λ z. slice_get x.threads z ≡ Some th) q is) h.is in
    let z : true ≡ false = sym f ∙ (ap (λ (y : SlotThread). y.finished) same ∙ h.unfinished) in
    cc z in
    answers_alone script accepted x t main es s run r ThrowTo (val.Thread u ∷ Exception e ∷ []) h UnitValue (row.throws_at_finished apart n.is (sym n.finished ∙ f))

pub throws_at_other : (script : Script) → Accepted script → (x : SlotState) (t u : ℕ) (e : Exn) (th : SlotThread) → StandsAt x t (performs (calls ThrowTo (val.Thread u ∷ Exception e ∷ []))) → u ≢ t
    → slice_get x.threads u ≡ Some th → th.finished ≡ false → MainGoes x → Enters script (Op t) x (throws_at t u e x)
throws_at_other script accepted x t u e th h apart is f main es s run r =
    let n = named_of (script_of script) x s r u th is in
    call_waits script accepted x t main es s run r ThrowTo (val.Thread u ∷ Exception e ∷ []) h (Throwing u e) (row.throw_waits apart n.is (sym n.finished ∙ f)) (λ k. refl)
    (x.flight ++ record { thrower = t; target = u; exn = e } ∷ []) (ap (λ fs. fs ++ record { thrower = t; target = u; exn = e } ∷ []) r.agrees.flight ∙ sym (flight_blocks t (Throwing u e) s.blocked))
    x.sleepers (r.agrees.sleepers ∙ ap sorted_sleepers (sym (sleepers_block t (Throwing u e) s.blocked ∙ append-nil (sleepers_of s.blocked))))
