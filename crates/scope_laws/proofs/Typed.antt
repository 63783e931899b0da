-- What types say of the cells of scopes: an expression of the script gives none, and an operation that takes or tries is at none.
use Rattle.std.proofs.Common.{◌≡◌, ℕ, List, [], ◌∷◌, Some, slice_get, sym, subst}
use Rattle.hs_base.specs.declared.tree.script.Script.{Script}
use Rattle.rules_expansion.specs.trees.Trees.{T, cell, Ex}
use Rattle.rules_expansion.specs.trees.Programs.{Fn, script_of}
use Rattle.rules_expansion.specs.Names.{Name, Added}
use Rattle.rules_expansion.specs.declared.hidden.Hidden.TheVariants.{ScopeCell}
use Rattle.rules_expansion.specs.Core.{CoreEx, OfScript, Core, Let, Perform}
use Rattle.rules_expansion.specs.declared.primitive.Primitive.{Primitive}
use Rattle.rules_expansion.specs.declared.primitive.Primitive.TheVariants.{TakeMVar, PutMVar, TryTakeMVar, TryPutMVar}
use Rattle.rules_meaning.specs.Values.{V, Cell, Env, Outcome, Gives}
use Rattle.rules_meaning.specs.Meaning.{value_of_ex, functions_of}
use Rattle.rules_meaning.specs.CoreMeaning.{Code, code_of}
use Rattle.rules_sorts.specs.Sorts.{Sort, a_value, a_scope_cell, SortedName}
use Rattle.rules_sorts.specs.TypedMeaning.{HasV}
use Rattle.rules_typing.specs.TypingScripts.{Accepted}
use Rattle.hs_rules.specs.Terms.{Calls, Part, Ret, Frame, BindTo}
use Rattle.hs_soundness.specs.CoreSorts.{CoreHas, OfSort, FitsScope, GoodSort}
use Rattle.hs_soundness.proofs.CoreExpressions.{accepted_good}
use Rattle.hs_progress.specs.CoreTyping.{IsScopeCell, Does, does_let, does_perform, CoreAllHave, no_more, one_more, asks_take, asks_try_take, asks_try_put}
use Rattle.hs_progress.specs.TypedStates.{ctx_of, Purpose, for_values, Store, has, no_values, one_value, OpTyped, calls_typed, PartTyped, ret_typed, do_typed, FramesTyped, bind_typed}
use Rattle.scope_laws.specs.ScopePhases.{OfValues}
use Rattle.scope_laws.specs.ScopesKept.{IsForValues, IsForEnd, at_values}
use Rattle.scope_laws.proofs.Steps.{SureEx, SureFirst, SureDo, Sure}

-- where each cell that a store knows stays for what it is
abbrev pub Kept : Store → List Purpose → Type 0
Kept st cells = (m : ℕ) (p : Purpose) → slice_get st.cells m ≡ Some p → slice_get cells m ≡ Some p

module _ (st : Store) (cells : List Purpose) (kept : Kept st cells) where
  at_cell : (m : ℕ) (t : T) → slice_get st.cells m ≡ Some (for_values t) → at_values cells m
  at_cell m t e = subst IsForValues (sym (kept m (for_values t) e)) tt

  cell_sure : (t : T) (m : ℕ) → HasV (has st) t (Cell m) → at_values cells m
  cell_sure (cell t) m h = at_cell m t h
  cell_sure _ m h = absurd h

  value_sure : (t : T) (v : V) → HasV (has st) t v → OfValues (at_values cells) (Some v)
  value_sure t (Cell m) h = cell_sure t m h
  value_sure t _ h = tt

  -- ---- operations

  pub take_at : (ds : List Fn) (m : ℕ) {k : Sort} → OpTyped (has st) ds (Calls TakeMVar (Cell m ∷ [])) k → at_values cells m
  take_at ds m (calls_typed (asks_take {t}) (one_value h no_values)) = at_cell m t h

  pub try_take_at : (ds : List Fn) (m : ℕ) {k : Sort} → OpTyped (has st) ds (Calls TryTakeMVar (Cell m ∷ [])) k → at_values cells m
  try_take_at ds m (calls_typed (asks_try_take {t}) (one_value h no_values)) = at_cell m t h

  pub try_put_at : (ds : List Fn) (m : ℕ) (v : V) {k : Sort} → OpTyped (has st) ds (Calls TryPutMVar (Cell m ∷ v ∷ [])) k → at_values cells m
  try_put_at ds m v (calls_typed (asks_try_put {t}) (one_value h (one_value g no_values))) = at_cell m t h

  -- ---- expressions of the script

  module _ (script : Script) (accepted : Accepted script) where
    abbrev code : Code
    code = code_of (script_of script)

    module _ (here : ℕ) (g : List SortedName) (env : Env) (f : FitsScope (has st) g env) where
      gives_sure : (k : Sort) (t : T) (v : V) (q : Outcome) → q ≡ Gives v → k ≡ a_value t → GoodSort (has st) k q → OfValues (at_values cells) (Some v)
      gives_sure k t v q e s h = value_sure t v (subst (λ j. OfSort (has st) j v) s (subst (GoodSort (has st) k) e h))

      ex_sure : (e : Ex) (k : Sort) → CoreHas (ctx_of (script_of script) here) g (OfScript e) k → SureEx (at_values cells) code env e
      ex_sure e k h v q = gives_sure k h.0 v (value_of_ex (functions_of (script_of script)) env e) q h.3 (accepted_good (has st) script here g env (OfScript e) k accepted h f)

      let_sure : (x : Name) (e : CoreEx) (a : Core) (k : Sort) → CoreHas (ctx_of (script_of script) here) g e k → SureDo (at_values cells) code (Let x e a) env
      let_sure x (OfScript e) a k h = ex_sure e k h
      let_sure x _ a k h = tt

      first_sure : {es : List CoreEx} {ks : List Sort} → CoreAllHave (ctx_of (script_of script) here) g es ks → SureFirst (at_values cells) code env es
      first_sure no_more = tt
      first_sure (one_more {e} {k} {es} h hs) = head e h
        where
          head : (e : CoreEx) → CoreHas (ctx_of (script_of script) here) g e k → SureFirst (at_values cells) code env (e ∷ es)
          head (OfScript e) h = ex_sure e k h
          head _ h = tt

      perform_sure : (w : Primitive) {es : List CoreEx} {ks : List Sort} → CoreAllHave (ctx_of (script_of script) here) g es ks → SureDo (at_values cells) code (Perform w es) env
      perform_sure PutMVar h = first_sure h
      perform_sure _ h = tt

      does_sure : {a : Core} {k : Sort} → Does (ctx_of (script_of script) here) g a k → SureDo (at_values cells) code a env
      does_sure (does_let {y} {e} {a} {j} p h d) = let_sure y e a j h
      does_sure (does_perform {p} q h) = perform_sure p h
      does_sure _ = tt

    pub part_sure : {p : Part} {k : Sort} → PartTyped (has st) (script_of script) p k → Sure (at_values cells) code p
    part_sure (do_typed {env = env} r) = does_sure r.here r.scope env r.fits r.does
    part_sure _ = tt

-- ---- the cell of a scope

end_is : (st : Store) (n : ℕ) (k : Sort) → IsScopeCell k → OfSort (has st) k (Cell n) → IsForEnd (slice_get st.cells n)
end_is st n (a_scope_cell t) i h = subst IsForEnd (sym h) tt
end_is st n _ i h = absurd i

-- what comes to the bind of a scope's cell is for an end
pub new_end : (ds : List Fn) (st : Store) (n : ℕ) {k : Sort} {b : Core} {env : Env} {fs : List Frame} → PartTyped (has st) ds (Ret (Cell n)) k → FramesTyped (has st) ds k (BindTo (Added ScopeCell) b env ∷ fs) → IsForEnd (slice_get st.cells n)
new_end ds st n {k} (ret_typed h) (bind_typed w q) = end_is st n k w.binds h
