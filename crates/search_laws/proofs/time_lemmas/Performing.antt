-- An operation other than a reading of the clock does alike without time.
use Rattle.std.proofs.Common.{◌≡◌, ℕ, zero, suc, pos, negsuc, ◌+◌, min, ◌==◌, false, List, [], ◌∷◌, ◌++◌, Option, Some, None, refl, ap, slice_get}
use Rattle.hs_base.specs.declared.mask.Mask.{Mask}
use Rattle.hs_base.specs.declared.mask.Mask.TheVariants.{Unmasked}
use Rattle.hs_base.specs.declared.exn.Exn.{Exn}
use Rattle.rules_meaning.specs.Values as val
use Rattle.rules_meaning.specs.Values.{V, UnitValue, Int, Text, Exception, Restore, Inst}
use Rattle.rules_expansion.specs.declared.primitive.Primitive.{Primitive}
use Rattle.rules_expansion.specs.declared.primitive.Primitive.TheVariants.{ClockMicros, ThreadDelay, ThrowTo}
use Rattle.rules_waiting.specs.Waiting.{Sleeper, sorted_sleepers}
use Rattle.slot_laws.specs.SlotRules.{SlotOp, calls, forks, forks_unmask, doing, mask_in, at}
use Rattle.slot_states.specs.SlotStates.{SlotThread, SlotState, answer, forks_to, throws, throws_at, sleeps}
use Rattle.slot_states.specs.entering.Operating.{thrown_at, thrown, performed, operated}
use Rattle.search_laws.specs.time.WithoutTime.{undue, untimed, op_reads_clock}
use Rattle.search_laws.proofs.time_lemmas.Sleepers.{untimed_twice, added_alike}
use Rattle.search_laws.proofs.time_lemmas.Untimed.{Alikes, again, either_alike}

-- with these sleepers, at the clock 0
abbrev pub slept : List Sleeper → Option SlotState → Option SlotState
slept ss None = None
slept ss (Some y) = Some (record y { sleepers = ss; clock = 0 })

module _ (x : SlotState) (t : ℕ) where
  -- who goes to sleep does so for any time
  sleeps_alike : (a b : ℕ) → untimed (sleeps t a (untimed x)) ≡ untimed (sleeps t b x)
  sleeps_alike a b = ap (λ (ss : List Sleeper). record (sleeps t b x) { sleepers = ss; clock = 0 }) (added_alike t a b x.sleepers)

  at_alike : (u : ℕ) (e : Exn) (o : Option SlotThread) → Alikes (thrown_at t u e o (untimed x)) (thrown_at t u e o x)
  at_alike u e None = refl
  at_alike u e (Some th) =
      either_alike th.finished (Some (answer t UnitValue (untimed x))) (Some (throws_at t u e (untimed x))) (Some (answer t UnitValue x)) (Some (throws_at t u e x))
      (again (answer t UnitValue x)) (again (throws_at t u e x))

  throw_alike : (u : ℕ) (e : Exn) → Alikes (thrown t u e (untimed x)) (thrown t u e x)
  throw_alike u e =
      either_alike (u == t) (Some (throws t e (untimed x))) (thrown_at t u e (slice_get x.threads u) (untimed x)) (Some (throws t e x)) (thrown_at t u e (slice_get x.threads u) x)
      (again (throws t e x)) (at_alike u e (slice_get x.threads u))

  -- where neither the sleepers nor the clock are looked at
  kept_alike : (o : Option SlotState) → slept (sorted_sleepers (undue (untimed x).sleepers)) o ≡ slept (untimed x).sleepers o
  kept_alike o = ap (λ ss. slept ss o) (untimed_twice x.sleepers)

  call_alike : (m : Mask) (p : Primitive) (vs : List V) → op_reads_clock (calls p vs) ≡ false → Alikes (performed t m p vs (untimed x)) (performed t m p vs x)
  call_alike m ClockMicros vs n = absurd (cc n)
  call_alike m ThreadDelay (Int (pos zero) ∷ []) n = again (answer t UnitValue x)
  call_alike m ThreadDelay (Int (pos (suc k)) ∷ []) n = ap Some (sleeps_alike (min (0 + suc k) 18446744073709551615) (min (x.clock + suc k) 18446744073709551615))
  call_alike m ThreadDelay (Int (negsuc k) ∷ []) n = again (answer t UnitValue x)
  call_alike m ThrowTo (val.Thread u ∷ Exception e ∷ []) n = throw_alike u e
  call_alike m p [] n = kept_alike (performed t m p [] x)
  call_alike m p (Text b ∷ []) n = kept_alike (performed t m p (Text b ∷ []) x)
  call_alike m p (val.Cell k ∷ []) n = kept_alike (performed t m p (val.Cell k ∷ []) x)
  call_alike m p (Inst i ∷ []) n = kept_alike (performed t m p (Inst i ∷ []) x)
  call_alike m p (v ∷ []) n = kept_alike (performed t m p (v ∷ []) x)
  call_alike m p (val.Cell k ∷ v ∷ []) n = kept_alike (performed t m p (val.Cell k ∷ v ∷ []) x)
  call_alike m p vs n = kept_alike (performed t m p vs x)

  pub operation_alike : (m : Mask) (p : SlotOp) → op_reads_clock p ≡ false → Alikes (operated t m p (untimed x)) (operated t m p x)
  operation_alike m (calls p vs) n = call_alike m p vs n
  operation_alike m (forks tree vs) n = again (forks_to t (at (doing tree vs) (mask_in m ∷ [])) x)
  operation_alike m (forks_unmask tree vs) n = again (forks_to t (at (doing tree (vs ++ Restore Unmasked ∷ [])) (mask_in m ∷ [])) x)
