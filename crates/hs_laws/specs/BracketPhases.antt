-- The phases of a bracket (own): what the active part and the frames of a thread look like, and which brackets it has acquired
-- and still has to release.
use Rattle.std.specs.Prelude.{◌≡◌, ◌≢◌, ◌≤◌, ℕ, ℤ, List, [], ◌∷◌, ◌++◌, Option, Some, None, slice_get}
use Rattle.hs_base.specs.declared.mask.Mask.{Mask}
use Rattle.hs_base.specs.declared.exn.Exn.{Exn}
use Rattle.rules_expansion.specs.Names.{Name, Written, Added, Unread}
use Rattle.rules_expansion.specs.declared.hidden.Hidden.TheVariants.{Instance, BracketResult, BracketFault}
use Rattle.rules_meaning.specs.Values.{V, Int, Exception, Inst, Env, value_at}
use Rattle.rules_meaning.specs.Values as val
use Rattle.rules_expansion.specs.Core.{CoreEx, Read, Core, Return, ThrowIo, Let, Bind, If, CaseMaybe, CaseEither, CaseList, CasePair, Call, Perform, Fork, ForkUnmask, Catch, MaskWith, MaskHard, ActionFunction}
use Rattle.rules_expansion.specs.declared.primitive.Primitive.{Primitive}
use Rattle.rules_expansion.specs.declared.primitive.Primitive.TheVariants.{TakeMVar, ReadMVar, PutMVar, ThreadDelay, ThrowTo, Acquired, Release}
use Rattle.rules_expansion.specs.Core as core
use Rattle.rules_expansion.specs.trees.Trees.{Exs}
use Rattle.rules_expansion.specs.Expansion.{release, bracket_return, bracket_exit, bracket_rethrow, bracket_handler, bracket_guarded, bracket_acquired, acquire, bracket_marked, bracket_masked}
use Rattle.hs_rules.specs.Terms.{Operation, Calls, Forks, ForksUnmask, Part, Ret, Throw, Do, Performs, Frame, BindTo, CatchBy, MaskIn, mask_at}
use Rattle.rules_waiting.specs.Waiting.{Reason, Taking, Reading, Putting, Throwing, Sleeping, reason_of}
use Rattle.hs_rules.specs.State.{Thread, State}
use Rattle.hs_rules.specs.declared.entry.Entry.{Entry}
use Rattle.rules_expansion.specs.trees.Programs.{Fn}
use Rattle.hs_rules.specs.Runs.{after}
use Rattle.hs_laws.specs.BracketLaw.{Brackets, count, mine, Numbered, owed, owed_here, IsMasked, MaskedCatches}

-- a name that isn't a bracket's own
abbrev pub IsCommon : Name → Type 0
IsCommon (Written x) = Unit {0}
IsCommon (Added Instance) = ⊥
IsCommon (Added BracketResult) = ⊥
IsCommon (Added BracketFault) = ⊥
IsCommon (Added h) = Unit {0}
IsCommon Unread = Unit {0}

-- a primitive that isn't a bracket's own
abbrev pub IsOrdinary : Primitive → Type 0
IsOrdinary Acquired = ⊥
IsOrdinary Release = ⊥
IsOrdinary p = Unit {0}

-- an action of some expansion
pub data Fine : Core → Type 0 where
  fine_return : {e : CoreEx} → Fine (Return e)
  fine_throw : {e : CoreEx} → Fine (ThrowIo e)
  fine_let : {x : Name} {e : CoreEx} {a : Core} → Fine a → Fine (Let x e a)
  fine_bind : {x : Name} {a b : Core} → IsCommon x → Fine a → Fine b → Fine (Bind x a b)
  fine_if : {e : CoreEx} {a b : Core} → Fine a → Fine b → Fine (If e a b)
  fine_maybe : {e : CoreEx} {x : Name} {a b : Core} → Fine a → Fine b → Fine (CaseMaybe e a x b)
  fine_either : {e : CoreEx} {x y : Name} {a b : Core} → Fine a → Fine b → Fine (CaseEither e x a y b)
  fine_list : {e : CoreEx} {x y : Name} {a b : Core} → Fine a → Fine b → Fine (CaseList e a x y b)
  fine_pair : {e : CoreEx} {x y : Name} {b : Core} → Fine b → Fine (CasePair e x y b)
  fine_call : {f : List ℕ} {es : Exs} → Fine (Call f es)
  fine_primitive : {w : Primitive} {es : List CoreEx} → IsOrdinary w → Fine (Perform w es)
  fine_fork : {a : Core} → Fine a → Fine (Fork a)
  fine_fork_unmask : {r : Name} {a : Core} → Fine a → Fine (ForkUnmask r a)
  fine_catch : {x : Name} {a b : Core} → IsCommon x → Fine a → Fine b → Fine (Catch a x b)
  fine_mask : {r : Name} {a : Core} → Fine a → Fine (MaskWith r a)
  fine_mask_hard : {r : Name} {a : Core} → Fine a → Fine (MaskHard r a)
  fine_restore : {r : Name} {a : Core} → Fine a → Fine (core.Restore r a)
  fine_bracket : {r x : Name} {a b c : Core} → IsCommon x → Fine a → Fine b → Fine c → Fine (MaskWith r (bracket_masked a x b c))

abbrev pub FineCode : List ActionFunction → Type 0
FineCode [] = Unit {0}
FineCode (d ∷ ds) = Fine d.body × FineCode ds

-- an operation that is none of a bracket's own
abbrev pub FineOp : Operation → Type 0
FineOp (Calls w vs) = IsOrdinary w
FineOp (Forks a env) = Fine a
FineOp (ForksUnmask r a env) = Fine a

-- The frames under what may return or throw, and the instances that they owe, the innermost first.
pub data Below : List Frame → List ℕ → Type 0 where
  no_frames : Below [] []
  below_bind : {x : Name} {b : Core} {env : Env} {fs : List Frame} {o : List ℕ} → IsCommon x → Fine b → Below fs o → Below (BindTo x b env ∷ fs) o
  below_catch : {x : Name} {b : Core} {env : Env} {fs : List Frame} {o : List ℕ} → IsCommon x → Fine b → Below fs o → Below (CatchBy x b env ∷ fs) o
  below_mask : {s : Mask} {fs : List Frame} {o : List ℕ} → Below fs o → Below (MaskIn s ∷ fs) o
  -- to what follows `x <-`
  below_number : {x : Name} {b c : Core} {env : Env} {fs : List Frame} {o : List ℕ} → IsCommon x → Fine b → Fine c → IsMasked (mask_at fs) → Below fs o → Below (BindTo x (bracket_marked b c) env ∷ fs) o
  -- to the handler, inside a bind to the exit with the same number
  below_guarded : {b : Core} {i : ℕ} {env : Env} {fs : List Frame} {o : List ℕ} → value_at (Added Instance) env ≡ Some (Inst i) → Fine b → IsMasked (mask_at fs) → Below fs o →
      Below (CatchBy (Added BracketFault) (bracket_handler b) env ∷ BindTo (Added BracketResult) (bracket_exit b) env ∷ fs) (i ∷ o)
  -- what is left of the handler after its release
  below_throw : {b b' : Core} {env env' : Env} {s : Mask} {fs : List Frame} {o : List ℕ} → Fine b → IsMasked (mask_at fs) → Below fs o →
      Below (BindTo Unread (bracket_rethrow b) env ∷ MaskIn s ∷ BindTo (Added BracketResult) (bracket_exit b') env' ∷ fs) o
  below_last : {b' : Core} {env env' : Env} {s : Mask} {fs : List Frame} {o : List ℕ} → IsMasked (mask_at fs) → Below fs o →
      Below (BindTo Unread (ThrowIo (Read (Added BracketFault))) env ∷ MaskIn s ∷ BindTo (Added BracketResult) (bracket_exit b') env' ∷ fs) o

-- An active part in its frames, and the instances that it owes, the innermost first: one case for each phase of a bracket.
-- What belongs to a bracket stands where the masking state isn't Unmasked.
pub data Held : Part → List Frame → List ℕ → Type 0 where
  held_ret : {v : V} {fs : List Frame} {o : List ℕ} → Below fs o → Held (Ret v) fs o
  held_throw : {e : Exn} {fs : List Frame} {o : List ℕ} → Below fs o → Held (Throw e) fs o
  held_do : {a : Core} {env : Env} {fs : List Frame} {o : List ℕ} → Fine a → Below fs o → Held (Do a env) fs o
  held_op : {op : Operation} {fs : List Frame} {o : List ℕ} → FineOp op → Below fs o → Held (Performs op) fs o
  -- the masked block, what follows `x <-`, `acquired`, and the number that it gives
  held_masked : {x : Name} {a b c : Core} {env : Env} {fs : List Frame} {o : List ℕ} → IsCommon x → Fine a → Fine b → Fine c → IsMasked (mask_at fs) → Below fs o → Held (Do (bracket_masked a x b c) env) fs o
  held_number : {b c : Core} {env : Env} {fs : List Frame} {o : List ℕ} → Fine b → Fine c → IsMasked (mask_at fs) → Below fs o → Held (Do (bracket_marked b c) env) fs o
  held_acquire : {b c : Core} {env env' : Env} {fs : List Frame} {o : List ℕ} → Fine b → Fine c → IsMasked (mask_at fs) → Below fs o → Held (Do acquire env) (BindTo (Added Instance) (bracket_acquired b c) env' ∷ fs) o
  held_acquired : {b c : Core} {env' : Env} {fs : List Frame} {o : List ℕ} → Fine b → Fine c → IsMasked (mask_at fs) → Below fs o → Held (Performs (Calls Acquired [])) (BindTo (Added Instance) (bracket_acquired b c) env' ∷ fs) o
  held_instance : {b c : Core} {env' : Env} {i : ℕ} {fs : List Frame} {o : List ℕ} → Fine b → Fine c → IsMasked (mask_at fs) → Below fs o → Held (Ret (Inst i)) (BindTo (Added Instance) (bracket_acquired b c) env' ∷ fs) (i ∷ o)
  -- what follows `acquired`, its catch, and a value that comes to the exit
  held_keep : {b c : Core} {env : Env} {i : ℕ} {fs : List Frame} {o : List ℕ} → value_at (Added Instance) env ≡ Some (Inst i) → Fine b → Fine c → IsMasked (mask_at fs) → Below fs o → Held (Do (bracket_acquired b c) env) fs (i ∷ o)
  held_guarded : {b c : Core} {env : Env} {i : ℕ} {fs : List Frame} {o : List ℕ} → value_at (Added Instance) env ≡ Some (Inst i) → Fine b → Fine c → IsMasked (mask_at fs) → Below fs o →
      Held (Do (bracket_guarded b c) env) (BindTo (Added BracketResult) (bracket_exit b) env ∷ fs) (i ∷ o)
  held_result : {b : Core} {env : Env} {v : V} {i : ℕ} {fs : List Frame} {o : List ℕ} → value_at (Added Instance) env ≡ Some (Inst i) → Fine b → IsMasked (mask_at fs) → Below fs o →
      Held (Ret v) (BindTo (Added BracketResult) (bracket_exit b) env ∷ fs) (i ∷ o)
  -- the exit, up to its release
  held_leave : {b : Core} {env : Env} {i : ℕ} {fs : List Frame} {o : List ℕ} → value_at (Added Instance) env ≡ Some (Inst i) → Fine b → IsMasked (mask_at fs) → Below fs o → Held (Do (bracket_exit b) env) fs (i ∷ o)
  held_leave_release : {b : Core} {env env' : Env} {i : ℕ} {fs : List Frame} {o : List ℕ} → value_at (Added Instance) env ≡ Some (Inst i) → Fine b → IsMasked (mask_at fs) → Below fs o →
      Held (Do release env) (BindTo Unread (bracket_return b) env' ∷ fs) (i ∷ o)
  held_leave_op : {b : Core} {env' : Env} {i : ℕ} {fs : List Frame} {o : List ℕ} → Fine b → IsMasked (mask_at fs) → Below fs o →
      Held (Performs (Calls Release (Inst i ∷ []))) (BindTo Unread (bracket_return b) env' ∷ fs) (i ∷ o)
  -- the handler, up to its release
  held_handle : {b b' : Core} {env env' : Env} {s : Mask} {i : ℕ} {fs : List Frame} {o : List ℕ} → value_at (Added Instance) env ≡ Some (Inst i) → Fine b → IsMasked s → IsMasked (mask_at fs) → Below fs o →
      Held (Do (bracket_handler b) env) (MaskIn s ∷ BindTo (Added BracketResult) (bracket_exit b') env' ∷ fs) (i ∷ o)
  held_handle_release : {b b' : Core} {env env1 env' : Env} {s : Mask} {i : ℕ} {fs : List Frame} {o : List ℕ} → value_at (Added Instance) env ≡ Some (Inst i) → Fine b → IsMasked s → IsMasked (mask_at fs) → Below fs o →
      Held (Do release env) (BindTo Unread (bracket_rethrow b) env1 ∷ MaskIn s ∷ BindTo (Added BracketResult) (bracket_exit b') env' ∷ fs) (i ∷ o)
  held_handle_op : {b b' : Core} {env1 env' : Env} {s : Mask} {i : ℕ} {fs : List Frame} {o : List ℕ} → Fine b → IsMasked s → IsMasked (mask_at fs) → Below fs o →
      Held (Performs (Calls Release (Inst i ∷ []))) (BindTo Unread (bracket_rethrow b) env1 ∷ MaskIn s ∷ BindTo (Added BracketResult) (bracket_exit b') env' ∷ fs) (i ∷ o)
  -- the handler after its release: its last action throws on
  held_then_throw : {b b' : Core} {env env' : Env} {s : Mask} {fs : List Frame} {o : List ℕ} → Fine b → IsMasked (mask_at fs) → Below fs o →
      Held (Do (bracket_rethrow b) env) (MaskIn s ∷ BindTo (Added BracketResult) (bracket_exit b') env' ∷ fs) o
  held_last : {b' : Core} {env env' : Env} {s : Mask} {fs : List Frame} {o : List ℕ} → IsMasked (mask_at fs) → Below fs o →
      Held (Do (ThrowIo (Read (Added BracketFault))) env) (MaskIn s ∷ BindTo (Added BracketResult) (bracket_exit b') env' ∷ fs) o
  held_thrown : {b' : Core} {env' : Env} {e : Exn} {s : Mask} {fs : List Frame} {o : List ℕ} → IsMasked (mask_at fs) → Below fs o → Held (Throw e) (MaskIn s ∷ BindTo (Added BracketResult) (bracket_exit b') env' ∷ fs) o
  held_passing : {b' : Core} {env' : Env} {e : Exn} {fs : List Frame} {o : List ℕ} → IsMasked (mask_at fs) → Below fs o → Held (Throw e) (BindTo (Added BracketResult) (bracket_exit b') env' ∷ fs) o

-- ---- what blocks a thread

-- the operation that blocks for a reason
abbrev pub Blocks : Reason V → Operation → Type 0
Blocks (Taking m) op = op ≡ Calls TakeMVar (val.Cell m ∷ [])
Blocks (Reading m) op = op ≡ Calls ReadMVar (val.Cell m ∷ [])
Blocks (Putting m a) op = op ≡ Calls PutMVar (val.Cell m ∷ a ∷ [])
Blocks (Throwing u e) op = op ≡ Calls ThrowTo (val.Thread u ∷ Exception e ∷ [])
Blocks (Sleeping due) op = (n : ℤ) × (op ≡ Calls ThreadDelay (Int n ∷ []))

abbrev pub OpPart : (Operation → Type 0) → Part → Type 0
OpPart P (Ret v) = ⊥
OpPart P (Throw e) = ⊥
OpPart P (Do a env) = ⊥
OpPart P (Performs op) = P op

-- a thread stands at such an operation
abbrev pub At : (Operation → Type 0) → Option Thread → Type 0
At P None = ⊥
At P (Some th) = OpPart P th.term.part

-- ---- the fact that every entry keeps

-- Of each thread: its term owes what the thread has acquired and not released, no number twice; what owes stands where the
-- masking state isn't Unmasked; and the term is in a phase of its brackets. A blocked thread stands at the operation that
-- blocked it, so never at `acquired` or `release`. Each mark's number is below the next one.
pub record Owing (s : State) : Type 0 where
  pub owes : (t : ℕ) (th : Thread) → slice_get s.threads t ≡ Some th → owed th.term.part th.term.frames ≡ mine t s.marks
  pub here : (t : ℕ) (th : Thread) → slice_get s.threads t ≡ Some th → owed_here th.term.part th.term.frames ≢ [] → IsMasked (mask_at th.term.frames)
  pub catches : (t : ℕ) (th : Thread) → slice_get s.threads t ≡ Some th → MaskedCatches th.term.frames
  pub once : (i t : ℕ) (th : Thread) → slice_get s.threads t ≡ Some th → count i (owed th.term.part th.term.frames) ≤ 1
  pub phase : (t : ℕ) (th : Thread) → slice_get s.threads t ≡ Some th → Held th.term.part th.term.frames (mine t s.marks)
  pub blocked : (t : ℕ) (r : Reason V) → reason_of t s.blocked ≡ Some r → At (Blocks r) (slice_get s.threads t)
  pub numbered : Numbered s.next_instance s.marks

-- ---- the law

-- Both hold at every moment of a history.
pub record BracketsKept (ds : List Fn) (es : List Entry) : Type 0 where
  pub released : (front back : List Entry) (s : State) → es ≡ front ++ back → after ds front ≡ Some s → Brackets s
  pub owed : (front back : List Entry) (s : State) → es ≡ front ++ back → after ds front ≡ Some s → Owing s
