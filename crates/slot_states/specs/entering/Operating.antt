-- What the operation that a thread stands at makes of a state with slots (own): for each operation the function of
-- `slot_states/specs/SlotStates` that the laws there speak of; nothing where its values aren't of the primitive's types.
use Rattle.std.specs.Prelude.{ℕ, zero, suc, ◌==◌, ◌+◌, ℤ, pos, negsuc, min, cond, List, [], ◌∷◌, ◌++◌, length, Option, Some, None, slice_get}
use Rattle.hs_base.specs.declared.mask.Mask.{Mask}
use Rattle.hs_base.specs.declared.mask.Mask.TheVariants.{Unmasked}
use Rattle.hs_base.specs.declared.exn.Exn.{Exn}
use Rattle.hs_base.specs.declared.exn.Exn.TheVariants.{Timeout}
use Rattle.rules_meaning.specs.Values as val
use Rattle.rules_meaning.specs.Values.{V, UnitValue, Int, Text, Exception, Restore, Inst}
use Rattle.rules_expansion.specs.declared.primitive.Primitive.{Primitive}
use Rattle.rules_expansion.specs.declared.primitive.Primitive.TheVariants.{PutStr, PutStrLn, HPutStrLn, NewMVar, NewEmptyMVar, TakeMVar, PutMVar, ReadMVar, TryTakeMVar, TryPutMVar, MyThreadId, GetMaskingState, ClockMicros, ThreadDelay, ThrowTo, NewTimeout, Acquired, Release}
use Rattle.rules_waiting.specs.OneCell.{Take, Read, Put, Try_take, Try_put}
use Rattle.hs_rules.specs.Primitives.{masking_text}
use Rattle.slot_laws.specs.SlotRules.{SlotOp, calls, forks, forks_unmask, doing, mask_in, at}
use Rattle.slot_states.specs.SlotStates.{SlotThread, SlotState, answer, prints, makes, called, forks_to, throws, throws_at, sleeps}

-- thread t throws e at thread u, which is this one, and isn't t
abbrev pub thrown_at : ℕ → ℕ → Exn → Option SlotThread → SlotState → Option SlotState
thrown_at t u e None x = None
thrown_at t u e (Some th) x = cond th.finished (Some (answer t UnitValue x)) (Some (throws_at t u e x))

-- thread t throws e at thread u: where it stands, if that is itself
abbrev pub thrown : ℕ → ℕ → Exn → SlotState → Option SlotState
thrown t u e x = cond (u == t) (Some (throws t e x)) (thrown_at t u e (slice_get x.threads u) x)

-- thread t sleeps for so many microseconds, or, where there are none, is answered at once
abbrev pub delayed : ℕ → ℤ → SlotState → SlotState
delayed t (pos zero) x = answer t UnitValue x
delayed t (pos (suc n)) x = sleeps t (min (x.clock + suc n) 18446744073709551615) x
delayed t (negsuc n) x = answer t UnitValue x

-- thread t, in this masking state, performs a primitive with these values
abbrev pub performed : ℕ → Mask → Primitive → List V → SlotState → Option SlotState
performed t m PutStr (Text b ∷ []) x = Some (prints t (length b) x)
performed t m PutStrLn (Text b ∷ []) x = Some (prints t (length b + 1) x)
performed t m HPutStrLn (Text b ∷ []) x = Some (prints t (length b + 1) x)
performed t m NewMVar (v ∷ []) x = Some (makes t (Some v) x)
performed t m NewEmptyMVar [] x = Some (makes t None x)
performed t m TakeMVar (val.Cell k ∷ []) x = Some (called t k (Take t) x)
performed t m PutMVar (val.Cell k ∷ v ∷ []) x = Some (called t k (Put t v) x)
performed t m ReadMVar (val.Cell k ∷ []) x = Some (called t k (Read t) x)
performed t m TryTakeMVar (val.Cell k ∷ []) x = Some (called t k (Try_take t) x)
performed t m TryPutMVar (val.Cell k ∷ v ∷ []) x = Some (called t k (Try_put t v) x)
performed t m MyThreadId [] x = Some (answer t (val.Thread t) x)
performed t m GetMaskingState [] x = Some (answer t (Text (masking_text m)) x)
performed t m ClockMicros [] x = Some (answer t (Int (pos (min x.clock 9223372036854775807))) x)
performed t m ThreadDelay (Int n ∷ []) x = Some (delayed t n x)
performed t m ThrowTo (val.Thread u ∷ Exception e ∷ []) x = thrown t u e x
performed t m NewTimeout [] x = Some (record (answer t (Exception (Timeout x.next_timeout)) x) { next_timeout = suc x.next_timeout })
performed t m Acquired [] x = Some (record (answer t (Inst x.next_instance) x) { next_instance = suc x.next_instance })
performed t m Release (Inst i ∷ []) x = Some (answer t UnitValue x)
performed t m _ _ x = None

-- thread t, in this masking state, performs an operation; a thread that is forked begins in that state
abbrev pub operated : ℕ → Mask → SlotOp → SlotState → Option SlotState
operated t m (calls p vs) x = performed t m p vs x
operated t m (forks tree vs) x = Some (forks_to t (at (doing tree vs) (mask_in m ∷ [])) x)
operated t m (forks_unmask tree vs) x = Some (forks_to t (at (doing tree (vs ++ Restore Unmasked ∷ [])) (mask_in m ∷ [])) x)
