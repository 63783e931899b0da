-- A primitive does nothing with values that it doesn't take.
use Rattle.std.proofs.Common.{◌≡◌, ℕ, cond, List, [], ◌∷◌, None, refl, subst}
use Rattle.hs_base.specs.declared.mask.Mask.{Mask}
use Rattle.rules_expansion.specs.declared.primitive.Primitive.{Primitive}
use Rattle.rules_expansion.specs.declared.primitive.Primitive.TheVariants.{PutStr, PutStrLn, HPutStrLn, NewMVar, TakeMVar, PutMVar, ReadMVar, TryTakeMVar, TryPutMVar, ThreadDelay, ThrowTo, Release}
use Rattle.rules_meaning.specs.Values as val
use Rattle.rules_meaning.specs.Values.{V, Int, Text, Exception, Inst}
use Rattle.slot_states.specs.SlotStates.{SlotState}
use Rattle.slot_states.specs.entering.Operating.{performed}
use Rattle.frame_stack.specs.Kinds.{kinds_of, are_of, AreOthers}

-- what a primitive makes of values other than those that it takes
module _ (t : ℕ) (m : Mask) (x : SlotState) where
  made_of_others : (q : Primitive) (us : List V) → cond (are_of (kinds_of q) us) None (performed t m q us x) ≡ None
  made_of_others PutStr (Text b ∷ []) = refl
  made_of_others PutStrLn (Text b ∷ []) = refl
  made_of_others HPutStrLn (Text b ∷ []) = refl
  made_of_others NewMVar (v ∷ []) = refl
  made_of_others TakeMVar (val.Cell k ∷ []) = refl
  made_of_others PutMVar (val.Cell k ∷ v ∷ []) = refl
  made_of_others ReadMVar (val.Cell k ∷ []) = refl
  made_of_others TryTakeMVar (val.Cell k ∷ []) = refl
  made_of_others TryPutMVar (val.Cell k ∷ v ∷ []) = refl
  made_of_others ThreadDelay (Int n ∷ []) = refl
  made_of_others ThrowTo (val.Thread u ∷ Exception e ∷ []) = refl
  made_of_others Release (Inst i ∷ []) = refl
  made_of_others _ [] = refl
  made_of_others _ _ = refl

  pub refused : (q : Primitive) (us : List V) → AreOthers q us → performed t m q us x ≡ None
  refused q us n = subst (λ c. cond c None (performed t m q us x) ≡ None) n (made_of_others q us)
