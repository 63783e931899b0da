-- The phases of an async scope (own): what the active part and the frames of a thread look like, which cells of scopes it guards,
-- and what part each cell has in its scope.
--
-- An exception goes directly to the bind to E, and what follows the `readMVar` of STOP runs, only where the scope's cell is full.
-- Every part that guards stands where the masking state isn't Unmasked, STOP's block where it is Uninterruptible, and nothing
-- throws there.
--
-- Nothing throws in a child but inside its own catch, so it never ends before it has put how its action ended.
use Rattle.std.specs.Prelude.{◌≡◌, ◌≢◌, ℕ, false, List, [], ◌∷◌, Option, Some, None}
use Rattle.hs_base.specs.declared.mask.Mask.{Mask}
use Rattle.hs_base.specs.declared.mask.Mask.TheVariants.{Uninterruptible}
use Rattle.hs_base.specs.declared.exn.Exn.{Exn}
use Rattle.hs_base.specs.declared.exn.Exn.TheVariants.{ThreadKilled}
use Rattle.rules_expansion.specs.trees.Trees.{Ex, Exs}
use Rattle.rules_expansion.specs.Names.{Name, Written, Added, Unread}
use Rattle.rules_expansion.specs.declared.hidden.Hidden.TheVariants.{Restorer, Caught, TheCell, ScopeCell, Child, ChildEnding, ScopeResult, Awaited}
use Rattle.rules_meaning.specs.Values.{V, Cell, Exception, Env, value_at}
use Rattle.rules_meaning.specs.Values as val
use Rattle.rules_expansion.specs.Core as core
use Rattle.rules_expansion.specs.Core.{CoreEx, OfScript, Read, LeftRead, Killed, Nil, Core, Return, ThrowIo, Let, Bind, If, CaseMaybe, CaseEither, CaseList, CasePair, Call, Perform, Fork, ForkUnmask, Catch, MaskWith, MaskHard, ActionFunction}
use Rattle.rules_expansion.specs.declared.primitive.Primitive.{Primitive}
use Rattle.rules_expansion.specs.declared.primitive.Primitive.TheVariants.{NewEmptyMVar, PutMVar, ReadMVar, ThrowTo}
use Rattle.rules_expansion.specs.Expansion.{scope_await, scope_kill, scope_stop, scope_return, scope_exit, scope_throw, scope_handler, scope_guarded, scope_run, scope_named, child_action, child_put, child_block, scope_masked, scope}
use Rattle.hs_rules.specs.Terms.{Operation, Calls, Forks, ForksUnmask, Part, Ret, Throw, Do, Performs, Frame, BindTo, CatchBy, MaskIn, mask_at}
use Rattle.hs_laws.specs.BracketLaw.{IsMasked}
use Rattle.scope_laws.specs.ScopeLaw.{returns_result, is_async}

-- ---- actions

-- a name that neither tells a part of a scope nor is read by one, nor by the last step of a `modifyMVar_`
abbrev pub IsCommon : Name → Type 0
IsCommon (Written x) = Unit {0}
IsCommon (Added TheCell) = ⊥
IsCommon (Added ScopeCell) = ⊥
IsCommon (Added Child) = ⊥
IsCommon (Added ChildEnding) = ⊥
IsCommon (Added ScopeResult) = ⊥
IsCommon (Added h) = Unit {0}
IsCommon Unread = Unit {0}

abbrev pub IsNoPut : Primitive → Type 0
IsNoPut PutMVar = ⊥
IsNoPut p = Unit {0}

-- An action of some expansion: only a scope has the parts of one, and what is put into a cell is put by an expression of the
-- script, or by a `modifyMVar_`.
pub data Fine : Core → Type 0 where
  fine_return : {e : CoreEx} → returns_result (Return e) ≡ false → Fine (Return e)
  fine_throw : {e : CoreEx} → Fine (ThrowIo e)
  fine_let : {x : Name} {e : CoreEx} {a : Core} → IsCommon x → is_async e ≡ false → Fine a → Fine (Let x e a)
  fine_cell : {e : Ex} {a : Core} → Fine a → Fine (Let (Added TheCell) (OfScript e) a)
  fine_bind : {x : Name} {a b : Core} → IsCommon x → Fine a → Fine b → Fine (Bind x a b)
  fine_if : {e : CoreEx} {a b : Core} → Fine a → Fine b → Fine (If e a b)
  fine_maybe : {e : CoreEx} {x : Name} {a b : Core} → IsCommon x → Fine a → Fine b → Fine (CaseMaybe e a x b)
  fine_either : {e : CoreEx} {x y : Name} {a b : Core} → IsCommon x → IsCommon y → Fine a → Fine b → Fine (CaseEither e x a y b)
  fine_list : {e : CoreEx} {x y : Name} {a b : Core} → IsCommon x → IsCommon y → Fine a → Fine b → Fine (CaseList e a x y b)
  fine_pair : {e : CoreEx} {x y : Name} {b : Core} → IsCommon x → IsCommon y → Fine b → Fine (CasePair e x y b)
  fine_call : {f : List ℕ} {es : Exs} → Fine (Call f es)
  fine_primitive : {w : Primitive} {es : List CoreEx} → IsNoPut w → Fine (Perform w es)
  fine_put : {e : Ex} {h : CoreEx} → Fine (Perform PutMVar (OfScript e ∷ h ∷ []))
  fine_put_back : {h : CoreEx} → Fine (Perform PutMVar (Read (Added TheCell) ∷ h ∷ []))
  fine_fork : {a : Core} → Fine a → Fine (Fork a)
  fine_fork_unmask : {r : Name} {a : Core} → IsCommon r → Fine a → Fine (ForkUnmask r a)
  fine_catch : {x : Name} {a b : Core} → IsCommon x → Fine a → Fine b → Fine (Catch a x b)
  fine_mask : {r : Name} {a : Core} → IsCommon r → Fine a → Fine (MaskWith r a)
  fine_mask_hard : {r : Name} {a : Core} → IsCommon r → Fine a → Fine (MaskHard r a)
  fine_restore : {r : Name} {a : Core} → Fine a → Fine (core.Restore r a)
  fine_scope : {x : Name} {a b : Core} → IsCommon x → Fine a → Fine b → Fine (scope a x b)

abbrev pub AllCommon : List Name → Type 0
AllCommon [] = Unit {0}
AllCommon (x ∷ xs) = IsCommon x × AllCommon xs

abbrev pub FineCode : List ActionFunction → Type 0
FineCode [] = Unit {0}
FineCode (d ∷ ds) = (AllCommon d.params × Fine d.body) × FineCode ds

-- ---- cells

-- what part a cell has in its scope
pub data Role : Type 0 where
  -- in none
  Plain : Role
  -- thread p made it for a scope whose child isn't there yet
  Fresh : (p : ℕ) → Role
  -- thread p runs the scope, and its child is c: only that one puts into the cell, once
  Running : (p c : ℕ) → Role
  -- thread p runs or ran the scope, and its child has put how its action ended
  Ended : (p : ℕ) → Role

-- thread t runs or ran the scope
abbrev pub IsOf : ℕ → Role → Type 0
IsOf t Plain = ⊥
IsOf t (Fresh p) = ⊥
IsOf t (Running p c) = p ≡ t
IsOf t (Ended p) = p ≡ t

-- thread c may be the child of the scope: it is, as long as that hasn't ended
abbrev pub IsChild : ℕ → Role → Type 0
IsChild c Plain = ⊥
IsChild c (Fresh p) = ⊥
IsChild c (Running p d) = d ≡ c
IsChild c (Ended p) = Unit {0}

-- $v is this cell
abbrev pub IsCell : Env → ℕ → Type 0
IsCell env m = value_at (Added ScopeCell) env ≡ Some (Cell m)

-- ---- terms, where values says which cells are no scope's
module _ (values : ℕ → Type 0) where
  -- no cell of a scope
  abbrev pub OfValues : Option V → Type 0
  OfValues (Some (Cell m)) = values m
  OfValues _ = Unit {0}

  -- the cell of a `modifyMVar_` is no scope's
  abbrev pub Clean : Env → Type 0
  Clean env = OfValues (value_at (Added TheCell) env)

  -- what is put into is no scope's
  abbrev pub PutsInto : List V → Type 0
  PutsInto (Cell m ∷ vs) = values m
  PutsInto _ = Unit {0}

  -- an operation that is none of a scope's own
  abbrev pub FineOp : Operation → Type 0
  FineOp (Calls PutMVar vs) = PutsInto vs
  FineOp (Calls w vs) = Unit {0}
  FineOp (Forks a env) = Fine a × Clean env
  FineOp (ForksUnmask r a env) = IsCommon r × Fine a × Clean env

  module _ (roles : ℕ → Role) (t : ℕ) where
    -- $v is this cell, and $t is the child of its scope, another thread than this one
    abbrev pub Named : Env → ℕ → Type 0
    Named env m = IsCell env m × (c : ℕ) × (value_at (Added Child) env ≡ Some (val.Thread c)) × (c ≢ t) × IsChild c (roles m)

  -- owed is the cell that the thread, as the child of a scope, has still to put into
  module _ (roles : ℕ → Role) (t : ℕ) (owed : Option ℕ) where
    -- the thread is the child of thread p's scope with this cell, and has still to put into it
    abbrev pub Owes : ℕ → ℕ → Type 0
    Owes m p = (roles m ≡ Running p t) × (owed ≡ Some m)

    -- The frames under what may return or throw, and the cells that they guard, the innermost first.
    pub data Below : List Frame → List ℕ → Type 0 where
      -- no child of a scope gets here before it has put
      no_frames : owed ≡ None → Below [] []
      below_bind : {x : Name} {b : Core} {env : Env} {fs : List Frame} {o : List ℕ} → IsCommon x → Fine b → Clean env → Below fs o → Below (BindTo x b env ∷ fs) o
      below_catch : {x : Name} {b : Core} {env : Env} {fs : List Frame} {o : List ℕ} → IsCommon x → Fine b → Clean env → Below fs o → Below (CatchBy x b env ∷ fs) o
      below_mask : {s : Mask} {fs : List Frame} {o : List ℕ} → Below fs o → Below (MaskIn s ∷ fs) o
      -- to the handler, inside a bind to the exit with the same cell
      below_guarded : {m : ℕ} {env : Env} {fs : List Frame} {o : List ℕ} → IsOf t (roles m) → Named roles t env m → IsMasked (mask_at fs) → Below fs o →
          Below (CatchBy (Added Caught) scope_handler env ∷ BindTo (Added ScopeResult) scope_exit env ∷ fs) (m ∷ o)
      -- of a child: to its handler, inside a bind to what puts
      below_child : {m p : ℕ} {env env' : Env} {s : Mask} → Owes m p → IsCell env m → IsMasked s → Below (CatchBy (Added Caught) (Return (LeftRead (Added Caught))) env' ∷ BindTo (Added ChildEnding) child_put env ∷ MaskIn s ∷ []) []

    -- the frames of a STOP: to F, or to the rest of the handler
    pub data After (m : ℕ) : List Frame → List ℕ → Type 0 where
      after_exit : {env : Env} {fs : List Frame} {o : List ℕ} → IsCell env m → IsMasked (mask_at fs) → Below fs o → After m (BindTo Unread scope_return env ∷ fs) (m ∷ o)
      after_handler : {env env' : Env} {s : Mask} {fs : List Frame} {o : List ℕ} → IsMasked s → IsCell env' m → IsMasked (mask_at fs) → Below fs o →
          After m (BindTo Unread scope_throw env ∷ MaskIn s ∷ BindTo (Added ScopeResult) scope_exit env' ∷ fs) (m ∷ o)

    -- STOP in these frames: it, its block, and the parts of that up to the read
    pub data Stopping (m : ℕ) (fs : List Frame) : Part → List Frame → Type 0 where
      stop_whole : {env : Env} → Named roles t env m → Stopping m fs (Do scope_stop env) fs
      stop_kills : {env : Env} → Named roles t env m → Stopping m fs (Do scope_kill env) (MaskIn Uninterruptible ∷ fs)
      stop_throws : {env : Env} → Named roles t env m → Stopping m fs (Do (Perform ThrowTo (Read (Added Child) ∷ Killed ∷ [])) env) (BindTo Unread scope_await env ∷ MaskIn Uninterruptible ∷ fs)
      stop_throwing : {env : Env} {c : ℕ} → IsCell env m → c ≢ t → IsChild c (roles m) → Stopping m fs (Performs (Calls ThrowTo (val.Thread c ∷ Exception ThreadKilled ∷ []))) (BindTo Unread scope_await env ∷ MaskIn Uninterruptible ∷ fs)
      stop_thrown : {env : Env} {v : V} → IsCell env m → Stopping m fs (Ret v) (BindTo Unread scope_await env ∷ MaskIn Uninterruptible ∷ fs)
      stop_awaits : {env : Env} → IsCell env m → Stopping m fs (Do scope_await env) (MaskIn Uninterruptible ∷ fs)
      stop_reads : {env env' : Env} → IsCell env m → Stopping m fs (Do (Perform ReadMVar (Read (Added ScopeCell) ∷ [])) env) (BindTo (Added Awaited) (Return Nil) env' ∷ MaskIn Uninterruptible ∷ fs)
      stop_reading : {env' : Env} → Stopping m fs (Performs (Calls ReadMVar (Cell m ∷ []))) (BindTo (Added Awaited) (Return Nil) env' ∷ MaskIn Uninterruptible ∷ fs)
      -- what follows the read, where the cell is full
      stop_has_read : {env' : Env} {v : V} → roles m ≡ Ended t → Stopping m fs (Ret v) (BindTo (Added Awaited) (Return Nil) env' ∷ MaskIn Uninterruptible ∷ fs)
      stop_gives : {env : Env} → roles m ≡ Ended t → Stopping m fs (Do (Return Nil) env) (MaskIn Uninterruptible ∷ fs)
      stop_leaves : {v : V} → roles m ≡ Ended t → Stopping m fs (Ret v) (MaskIn Uninterruptible ∷ fs)

    -- An active part in its frames, and the cells that it guards, the innermost first: one case for each phase of a scope.
    pub data Held : Part → List Frame → List ℕ → Type 0 where
      held_ret : {v : V} {fs : List Frame} {o : List ℕ} → Below fs o → Held (Ret v) fs o
      held_throw : {e : Exn} {fs : List Frame} {o : List ℕ} → Below fs o → Held (Throw e) fs o
      held_do : {a : Core} {env : Env} {fs : List Frame} {o : List ℕ} → Fine a → Clean env → Below fs o → Held (Do a env) fs o
      held_op : {op : Operation} {fs : List Frame} {o : List ℕ} → FineOp op → Below fs o → Held (Performs op) fs o
      -- `$v <- newEmptyMVar`, where an exception may still come, and the cell
      held_new : {x : Name} {a b : Core} {env env' : Env} {fs : List Frame} {o : List ℕ} → IsCommon x → Fine a → Fine b → Clean env' → Below fs o →
          Held (Do (Perform NewEmptyMVar []) env) (BindTo (Added ScopeCell) (MaskWith (Added Restorer) (scope_masked a x b)) env' ∷ fs) o
      held_new_op : {x : Name} {a b : Core} {env' : Env} {fs : List Frame} {o : List ℕ} → IsCommon x → Fine a → Fine b → Clean env' → Below fs o →
          Held (Performs (Calls NewEmptyMVar [])) (BindTo (Added ScopeCell) (MaskWith (Added Restorer) (scope_masked a x b)) env' ∷ fs) o
      held_new_throw : {x : Name} {a b : Core} {env' : Env} {e : Exn} {fs : List Frame} {o : List ℕ} → Below fs o →
          Held (Throw e) (BindTo (Added ScopeCell) (MaskWith (Added Restorer) (scope_masked a x b)) env' ∷ fs) o
      held_new_cell : {m : ℕ} {x : Name} {a b : Core} {env' : Env} {fs : List Frame} {o : List ℕ} → roles m ≡ Fresh t → IsCommon x → Fine a → Fine b → Clean env' → Below fs o →
          Held (Ret (Cell m)) (BindTo (Added ScopeCell) (MaskWith (Added Restorer) (scope_masked a x b)) env' ∷ fs) o
      -- the masked block, up to the fork
      held_made : {m : ℕ} {x : Name} {a b : Core} {env : Env} {fs : List Frame} {o : List ℕ} → roles m ≡ Fresh t → IsCell env m → IsCommon x → Fine a → Fine b → Clean env → Below fs o →
          Held (Do (MaskWith (Added Restorer) (scope_masked a x b)) env) fs o
      held_masked : {m : ℕ} {x : Name} {a b : Core} {env : Env} {fs : List Frame} {o : List ℕ} → roles m ≡ Fresh t → IsCell env m → IsCommon x → Fine a → Fine b → Clean env → IsMasked (mask_at fs) → Below fs o →
          Held (Do (scope_masked a x b) env) fs o
      held_fork : {m : ℕ} {x : Name} {a b : Core} {env : Env} {fs : List Frame} {o : List ℕ} → roles m ≡ Fresh t → IsCell env m → IsCommon x → Fine a → Fine b → Clean env → IsMasked (mask_at fs) → Below fs o →
          Held (Do (Fork (child_block a)) env) (BindTo (Added Child) (scope_named x b) env ∷ fs) o
      held_fork_op : {m : ℕ} {x : Name} {a b : Core} {env : Env} {fs : List Frame} {o : List ℕ} → roles m ≡ Fresh t → IsCell env m → IsCommon x → Fine a → Fine b → Clean env → IsMasked (mask_at fs) → Below fs o →
          Held (Performs (Forks (child_block a) env)) (BindTo (Added Child) (scope_named x b) env ∷ fs) o
      -- from the fork to the second block
      held_forked : {m c : ℕ} {x : Name} {b : Core} {env : Env} {fs : List Frame} {o : List ℕ} → IsOf t (roles m) → IsCell env m → c ≢ t → IsChild c (roles m) → IsCommon x → Fine b → Clean env → IsMasked (mask_at fs) → Below fs o →
          Held (Ret (val.Thread c)) (BindTo (Added Child) (scope_named x b) env ∷ fs) (m ∷ o)
      held_named : {m : ℕ} {x : Name} {b : Core} {env : Env} {fs : List Frame} {o : List ℕ} → IsOf t (roles m) → Named roles t env m → IsCommon x → Fine b → Clean env → IsMasked (mask_at fs) → Below fs o →
          Held (Do (scope_named x b) env) fs (m ∷ o)
      held_run : {m : ℕ} {b : Core} {env : Env} {fs : List Frame} {o : List ℕ} → IsOf t (roles m) → Named roles t env m → Fine b → Clean env → IsMasked (mask_at fs) → Below fs o → Held (Do (scope_run b) env) fs (m ∷ o)
      held_guarded : {m : ℕ} {b : Core} {env : Env} {fs : List Frame} {o : List ℕ} → IsOf t (roles m) → Named roles t env m → Fine b → Clean env → IsMasked (mask_at fs) → Below fs o →
          Held (Do (scope_guarded b) env) (BindTo (Added ScopeResult) scope_exit env ∷ fs) (m ∷ o)
      -- a value that comes to the exit, the exit, and the handler
      held_result : {m : ℕ} {v : V} {env : Env} {fs : List Frame} {o : List ℕ} → IsOf t (roles m) → Named roles t env m → IsMasked (mask_at fs) → Below fs o → Held (Ret v) (BindTo (Added ScopeResult) scope_exit env ∷ fs) (m ∷ o)
      held_exit : {m : ℕ} {env : Env} {fs : List Frame} {o : List ℕ} → IsOf t (roles m) → Named roles t env m → IsMasked (mask_at fs) → Below fs o → Held (Do scope_exit env) fs (m ∷ o)
      held_handler : {m : ℕ} {env env' : Env} {s : Mask} {fs : List Frame} {o : List ℕ} → IsOf t (roles m) → Named roles t env m → IsMasked s → IsCell env' m → IsMasked (mask_at fs) → Below fs o →
          Held (Do scope_handler env) (MaskIn s ∷ BindTo (Added ScopeResult) scope_exit env' ∷ fs) (m ∷ o)
      -- STOP, and its value
      held_stop : {m : ℕ} {p : Part} {fs gs : List Frame} {o : List ℕ} → IsOf t (roles m) → Stopping m fs p gs → After m fs o → Held p gs o
      held_stopped : {m : ℕ} {v : V} {fs : List Frame} {o : List ℕ} → roles m ≡ Ended t → After m fs o → Held (Ret v) fs o
      -- F, and the rest of the handler
      held_return : {env : Env} {fs : List Frame} {o : List ℕ} → Below fs o → Held (Do scope_return env) fs o
      held_rethrow : {m : ℕ} {env env' : Env} {s : Mask} {fs : List Frame} {o : List ℕ} → roles m ≡ Ended t → IsMasked s → IsCell env' m → IsMasked (mask_at fs) → Below fs o →
          Held (Do scope_throw env) (MaskIn s ∷ BindTo (Added ScopeResult) scope_exit env' ∷ fs) (m ∷ o)
      held_thrown : {m : ℕ} {env' : Env} {e : Exn} {s : Mask} {fs : List Frame} {o : List ℕ} → roles m ≡ Ended t → IsCell env' m → IsMasked (mask_at fs) → Below fs o →
          Held (Throw e) (MaskIn s ∷ BindTo (Added ScopeResult) scope_exit env' ∷ fs) (m ∷ o)
      held_passing : {m : ℕ} {env' : Env} {e : Exn} {fs : List Frame} {o : List ℕ} → roles m ≡ Ended t → IsCell env' m → IsMasked (mask_at fs) → Below fs o →
          Held (Throw e) (BindTo (Added ScopeResult) scope_exit env' ∷ fs) (m ∷ o)
      -- A child: its block, and its action, where nothing throws before its catch stands.
      held_child : {m p : ℕ} {a : Core} {env : Env} {s : Mask} → Owes m p → IsCell env m → Fine a → Clean env → IsMasked s → Held (Do (child_block a) env) (MaskIn s ∷ []) []
      held_action : {m p : ℕ} {a : Core} {env env' : Env} {s : Mask} → Owes m p → IsCell env m → Fine a → Clean env' → IsMasked s → Held (Do (child_action a) env') (BindTo (Added ChildEnding) child_put env ∷ MaskIn s ∷ []) []
      -- what it has caught, how its action ended, and its put
      held_fault : {m p : ℕ} {env env' : Env} {q s : Mask} → Owes m p → IsCell env m → IsMasked q → IsMasked s → Held (Do (Return (LeftRead (Added Caught))) env') (MaskIn q ∷ BindTo (Added ChildEnding) child_put env ∷ MaskIn s ∷ []) []
      held_told : {m p : ℕ} {v : V} {env : Env} {q s : Mask} → Owes m p → IsCell env m → IsMasked q → IsMasked s → Held (Ret v) (MaskIn q ∷ BindTo (Added ChildEnding) child_put env ∷ MaskIn s ∷ []) []
      held_ending : {m p : ℕ} {v : V} {env : Env} {s : Mask} → Owes m p → IsCell env m → IsMasked s → Held (Ret v) (BindTo (Added ChildEnding) child_put env ∷ MaskIn s ∷ []) []
      held_put : {m p : ℕ} {env : Env} {s : Mask} → Owes m p → IsCell env m → IsMasked s → Held (Do child_put env) (MaskIn s ∷ []) []
      held_put_op : {m p : ℕ} {v : V} {s : Mask} → Owes m p → IsMasked s → Held (Performs (Calls PutMVar (Cell m ∷ v ∷ []))) (MaskIn s ∷ []) []
