-- The parts of the very expansion act and guard as the law says, and what stands beside them doesn't.
use Rattle.std.proofs.Common.{◌≡◌, ◌++◌, ℕ, List, [], ◌∷◌, refl}
use Rattle.hs_base.specs.declared.mask.Mask.{Mask}
use Rattle.hs_base.specs.declared.exn.Exn.{Exn}
use Rattle.rules_expansion.specs.Names.{Name, Written, Added, Unread}
use Rattle.rules_expansion.specs.declared.hidden.Hidden.TheVariants.{Child, ChildEnding, ScopeResult}
use Rattle.rules_expansion.specs.declared.primitive.Primitive.TheVariants.{PutMVar}
use Rattle.rules_expansion.specs.Core.{Core}
use Rattle.rules_expansion.specs.declared.template.Derived.TheVariants as form
use Rattle.rules_expansion.specs.Expansion.{derived, on_named, scope_stop, scope_return, scope_exit, scope_run, scope_named, child_action, child_put, child_block, scope_masked, scope}
use Rattle.rules_meaning.specs.Values.{V, Cell, Env}
use Rattle.hs_rules.specs.Terms.{Calls, Ret, Throw, Do, Performs, Frame, BindTo, MaskIn}
use Rattle.scope_laws.specs.ScopeLaw.{cell_in, acting, guards, guards_frames, ending}

-- the parts are those of `withAsync`
the_expansion : (a c : Core) (x : List ℕ) → derived form.WithAsync (on_named a x c) ≡ scope a (Written x) c
the_expansion a c x = refl

module _ (a b : Core) (env : Env) (s : Mask) (fs : List Frame) where
  -- C, and its action inside the bind to P: whatever it is but a value
  child_acts : acting (Do (child_block a) env) (MaskIn s ∷ []) ≡ cell_in env ++ []
  child_acts = refl

  action_acts : acting (Do (child_action a) env) (BindTo (Added ChildEnding) child_put env ∷ MaskIn s ∷ []) ≡ cell_in env ++ []
  action_acts = refl

  fault_acts : (e : Exn) → acting (Throw e) (BindTo (Added ChildEnding) child_put env ∷ MaskIn s ∷ []) ≡ cell_in env ++ []
  fault_acts e = refl

  inner_acts : (v : V) → acting (Ret v) (MaskIn s ∷ BindTo (Added ChildEnding) child_put env ∷ MaskIn s ∷ []) ≡ cell_in env ++ []
  inner_acts v = refl

  -- its value, and P
  ending_acts : (v : V) → acting (Ret v) (BindTo (Added ChildEnding) child_put env ∷ MaskIn s ∷ []) ≡ []
  ending_acts v = refl

  put_acts : acting (Do child_put env) (MaskIn s ∷ []) ≡ []
  put_acts = refl

  -- who comes to P is about to put
  ending_ends : (v : V) → ending (Ret v) (BindTo (Added ChildEnding) child_put env ∷ MaskIn s ∷ []) ≡ cell_in env
  ending_ends v = refl

  put_ends : ending (Do child_put env) (MaskIn s ∷ []) ≡ cell_in env
  put_ends = refl

  op_ends : (m : ℕ) (v : V) → ending (Performs (Calls PutMVar (Cell m ∷ v ∷ []))) (MaskIn s ∷ []) ≡ m ∷ []
  op_ends m v = refl

  action_ends_none : ending (Do (child_action a) env) (BindTo (Added ChildEnding) child_put env ∷ MaskIn s ∷ []) ≡ []
  action_ends_none = refl

  -- what stands before the fork
  made_guards : (x : Name) → guards (Do (scope_masked a x b) env) fs ≡ guards_frames fs
  made_guards x = refl

  -- K, L and E, and a value that comes to K
  forked_guards : (v : V) (x : Name) → guards (Ret v) (BindTo (Added Child) (scope_named x b) env ∷ fs) ≡ cell_in env ++ guards_frames fs
  forked_guards v x = refl

  named_guards : (x : Name) → guards (Do (scope_named x b) env) fs ≡ cell_in env ++ guards_frames fs
  named_guards x = refl

  run_guards : guards (Do (scope_run b) env) fs ≡ cell_in env ++ guards_frames fs
  run_guards = refl

  exit_guards : guards (Do scope_exit env) fs ≡ cell_in env ++ guards_frames fs
  exit_guards = refl

  -- the bind to E, and the bind to F
  inside_guards : (e : Exn) → guards (Throw e) (BindTo (Added ScopeResult) scope_exit env ∷ fs) ≡ cell_in env ++ guards_frames fs
  inside_guards e = refl

  stop_guards : guards (Do scope_stop env) (BindTo Unread scope_return env ∷ fs) ≡ cell_in env ++ guards_frames fs
  stop_guards = refl

  -- F
  return_guards : guards (Do scope_return env) fs ≡ guards_frames fs
  return_guards = refl
