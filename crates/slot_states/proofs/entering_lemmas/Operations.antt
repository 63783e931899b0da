-- An operation that leaves a state with slots is entered.
use Rattle.std.proofs.Common.{◌≡◌, ◌≢◌, ℕ, zero, suc, pos, negsuc, ◌==◌, Bool, true, false, List, [], ◌∷◌, Option, Some, None, refl, sym, ◌∙◌, subst, slice_get, ⊎_elim}
use Rattle.std.proofs.lemmas.Option.{same_Some}
use Rattle.hs_base.specs.declared.mask.Mask.TheVariants.{Unmasked}
use Rattle.hs_base.specs.declared.exn.Exn.{Exn}
use Rattle.hs_base.specs.declared.tree.script.Script.{Script}
use Rattle.hs_rules.specs.declared.entry.Entry.{Entry}
use Rattle.hs_rules.specs.declared.entry.Entry.TheVariants as entry
use Rattle.rules_meaning.specs.Values as val
use Rattle.rules_meaning.specs.Values.{V, UnitValue, Int, Text, Exception, Inst}
use Rattle.rules_expansion.specs.declared.primitive.Primitive.{Primitive}
use Rattle.rules_expansion.specs.declared.primitive.Primitive.TheVariants.{PutStr, PutStrLn, HPutStrLn, NewMVar, NewEmptyMVar, TakeMVar, PutMVar, ReadMVar, TryTakeMVar, TryPutMVar, MyThreadId, GetMaskingState, ClockMicros, ThreadDelay, ThrowTo, NewTimeout, Acquired, Release}
use Rattle.rules_typing.specs.TypingScripts.{Accepted}
use Rattle.hs_laws.proofs.Lists.{equal_or, cond_true, cond_false}
use Rattle.slot_laws.specs.SlotRules.{SlotOp, calls, forks, forks_unmask, performs, mask_from}
use Rattle.slot_states.specs.SlotStates.{SlotThread, SlotState, Enters, StandsAt, MainGoes}
use Rattle.slot_states.proofs.Printing.{prints_text, prints_line, prints_error_line, answers_thread, answers_masking, answers_clock, answers_timeout, answers_acquired, answers_release}
use Rattle.slot_states.proofs.CellsEntered.{take_entered, read_entered, put_entered, try_take_entered, try_put_entered, new_entered, new_empty_entered}
use Rattle.slot_states.proofs.Blocking.{delay_sleeps, delay_none, delay_less, throws_itself, throws_at_finished, throws_at_other}
use Rattle.slot_states.proofs.Spawning.{fork_enters, fork_unmasked_enters}
use Rattle.slot_states.specs.entering.Operating.{thrown_at, thrown, performed, operated}

-- what is entered is what is left
pub left : (script : Script) (e : Entry) (x z y : SlotState) → Enters script e x z → Some z ≡ Some y → Enters script e x y
left script e x z y h q = subst (Enters script e x) (same_Some z y q) h

module _ (script : Script) (accepted : Accepted script) (x : SlotState) (main : MainGoes x) (t : ℕ) where
  leaves : (z y : SlotState) → Enters script (entry.Op t) x z → Some z ≡ Some y → Enters script (entry.Op t) x y
  leaves = left script (entry.Op t) x

  -- ---- throwing
  at_finished : (u : ℕ) (e : Exn) (th : SlotThread) (y : SlotState) → StandsAt x t (performs (calls ThrowTo (val.Thread u ∷ Exception e ∷ []))) → u ≢ t → slice_get x.threads u ≡ Some th →
      (b : Bool) → th.finished ≡ b → thrown_at t u e (Some th) x ≡ Some y → Enters script (entry.Op t) x y
  at_finished u e th y h n is true f q =
      leaves _ y (throws_at_finished script accepted x t u e th h is f main) (sym (cond_true th.finished _ _ f) ∙ q)
  at_finished u e th y h n is false f q =
      leaves _ y (throws_at_other script accepted x t u e th h n is f main) (sym (cond_false th.finished _ _ f) ∙ q)

  at_other : (u : ℕ) (e : Exn) (y : SlotState) → StandsAt x t (performs (calls ThrowTo (val.Thread u ∷ Exception e ∷ []))) → u ≢ t →
      (o : Option SlotThread) → slice_get x.threads u ≡ o → thrown_at t u e o x ≡ Some y → Enters script (entry.Op t) x y
  at_other u e y h n None is q = absurd (cc q)
  at_other u e y h n (Some th) is q = at_finished u e th y h n is th.finished refl q

  throw_entered : (u : ℕ) (e : Exn) (y : SlotState) → StandsAt x t (performs (calls ThrowTo (val.Thread u ∷ Exception e ∷ []))) → thrown t u e x ≡ Some y → Enters script (entry.Op t) x y
  throw_entered u e y h q =
      ⊎_elim
      (λ k. (let own : StandsAt x t (performs (calls ThrowTo (val.Thread t ∷ Exception e ∷ []))) = subst (λ v. StandsAt x t (performs (calls ThrowTo (val.Thread v ∷ Exception e ∷ [])))) k.1 h in
      leaves _ y (throws_itself script accepted x t e own main) (sym (cond_true (u == t) _ (thrown_at t u e (slice_get x.threads u) x) k.0) ∙ q)))
      (λ k. at_other u e y h k.1 (slice_get x.threads u) refl (sym (cond_false (u == t) _ (thrown_at t u e (slice_get x.threads u) x) k.0) ∙ q))
      (equal_or u t)

  -- ---- calls of primitives
  call_entered : (p : Primitive) (vs : List V) (y : SlotState) → (h : StandsAt x t (performs (calls p vs))) → performed t (mask_from Unmasked h.thread.term.frames) p vs x ≡ Some y → Enters script (entry.Op t) x y
  call_entered PutStr (Text b ∷ []) y h q = leaves _ y (prints_text script accepted x t b h main) q
  call_entered PutStrLn (Text b ∷ []) y h q = leaves _ y (prints_line script accepted x t b h main) q
  call_entered HPutStrLn (Text b ∷ []) y h q = leaves _ y (prints_error_line script accepted x t b h main) q
  call_entered NewMVar (v ∷ []) y h q = leaves _ y (new_entered script accepted x t v h main) q
  call_entered NewEmptyMVar [] y h q = leaves _ y (new_empty_entered script accepted x t h main) q
  call_entered TakeMVar (val.Cell k ∷ []) y h q = leaves _ y (take_entered script accepted x t k h main) q
  call_entered PutMVar (val.Cell k ∷ v ∷ []) y h q = leaves _ y (put_entered script accepted x t k v h main) q
  call_entered ReadMVar (val.Cell k ∷ []) y h q = leaves _ y (read_entered script accepted x t k h main) q
  call_entered TryTakeMVar (val.Cell k ∷ []) y h q = leaves _ y (try_take_entered script accepted x t k h main) q
  call_entered TryPutMVar (val.Cell k ∷ v ∷ []) y h q = leaves _ y (try_put_entered script accepted x t k v h main) q
  call_entered MyThreadId [] y h q = leaves _ y (answers_thread script accepted x t h main) q
  call_entered GetMaskingState [] y h q = leaves _ y (answers_masking script accepted x t h main) q
  call_entered ClockMicros [] y h q = leaves _ y (answers_clock script accepted x t h main) q
  call_entered ThreadDelay (Int (pos zero) ∷ []) y h q = leaves _ y (delay_none script accepted x t h main) q
  call_entered ThreadDelay (Int (pos (suc n)) ∷ []) y h q = leaves _ y (delay_sleeps script accepted x t n h main) q
  call_entered ThreadDelay (Int (negsuc n) ∷ []) y h q = leaves _ y (delay_less script accepted x t n h main) q
  call_entered ThrowTo (val.Thread u ∷ Exception e ∷ []) y h q = throw_entered u e y h q
  call_entered NewTimeout [] y h q = leaves _ y (answers_timeout script accepted x t h main) q
  call_entered Acquired [] y h q = leaves _ y (answers_acquired script accepted x t h main) q
  call_entered Release (Inst i ∷ []) y h q = leaves _ y (answers_release script accepted x t i h main) q
  call_entered _ _ y h q = absurd (cc q)

  -- ---- any operation
  pub operation_entered : (p : SlotOp) (y : SlotState) → (h : StandsAt x t (performs p)) → operated t (mask_from Unmasked h.thread.term.frames) p x ≡ Some y → Enters script (entry.Op t) x y
  operation_entered (calls p vs) y h q = call_entered p vs y h q
  operation_entered (forks tree vs) y h q = leaves _ y (fork_enters script accepted x t tree vs h main) q
  operation_entered (forks_unmask tree vs) y h q = leaves _ y (fork_unmasked_enters script accepted x t tree vs h main) q
