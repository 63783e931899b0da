-- A step of a term with slots is the local rule of each term with names that it stands for.
use Rattle.std.proofs.Common.{◌≡◌, ℕ, zero, suc, ◌==◌, List, [], ◌∷◌, ◌++◌, length, Bool, true, false, cond, Option, Some, None, refl, sym, subst, eq-eqb}
use Rattle.std.specs.Prelude.{slice_get}
use Rattle.hs_base.specs.declared.exn.Exn.{Exn}
use Rattle.hs_base.specs.declared.mask.Mask.{Mask}
use Rattle.hs_base.specs.declared.mask.Mask.TheVariants.{Unmasked, Masked}
use Rattle.hs_base.specs.Masks.{join_of}
use Rattle.hs_base.specs.declared.tree.script.Script.{Script}
use Rattle.rules_expansion.specs.trees.Trees.{T, bool, exn, pair, maybe, either, list}
use Rattle.rules_expansion.specs.trees.Programs.{Fn, script_of}
use Rattle.rules_expansion.specs.Names.{Name}
use Rattle.rules_meaning.specs.Values.{V, Truth, Nothing, Just, Left, Right, Pair, Nil, Cons, Exception, Restore, Env, with_name, value_at}
use Rattle.rules_meaning.specs.Meaning.{functions_of, values_of_exs}
use Rattle.rules_sorts.specs.Sorts.{Sort, a_value, a_masking_name, SortedName}
use Rattle.rules_typing.specs.Typing as typing
use Rattle.rules_typing.specs.TypingScripts.{Accepted, sigs_from}
use Rattle.rules_sorts.specs.TypedMeaning.{AllOf}
use Rattle.rules_expansion.specs.Core.{CoreEx, Core, Bind, ActionFunction, action_named}
use Rattle.rules_meaning.specs.CoreMeaning.{value_of_core, values_of_core, code_of}
use Rattle.rules_expansion.specs.Expansion.{actions_of}
use Rattle.rules_code.specs.Slots.{roots_of, run, run_all, slotted_all}
use Rattle.rules_code.specs.CodeTrees.{Sa, a_then, a_bind, slotted_core, slotted_core_ex, slotted_core_exs, place_among, code_trees}
use Rattle.hs_rules.specs.Terms as named
use Rattle.hs_rules.specs.Terms.{Do, Calls, BindTo, CatchBy, MaskIn}
use Rattle.hs_rules.specs.LocalRules as name
use Rattle.rules_code.proofs.Slotted.{all_agree, parallel}
use Rattle.hs_soundness.specs.CoreSorts.{names_of, CoreHas, of_masking, OfSort, FitsAt, SlotsFit}
use Rattle.hs_soundness.proofs.CoreExpressions.{accepted_good}
use Rattle.hs_soundness.proofs.CoreSlots.{core_slots}
use Rattle.hs_soundness.proofs.Growing.{fits_none}
use Rattle.slot_laws.specs.SlotRules as slot
use Rattle.slot_laws.specs.SlotRules.{SlotPart, doing, performs, calls, bind_to, then_to, catch_by, mask_in, SlotFrame, SlotTerm, mask_from}
use Rattle.hs_progress.specs.CoreTyping.{Binds, with_bound, Does, does_return, does_throw, does_let, does_bind, does_then, does_if, does_maybe, does_either, does_list, does_pair, does_call, does_perform, does_fork, does_fork_unmask, does_catch, does_mask, does_mask_hard, does_restore}
use Rattle.slot_laws.specs.Standing.{tree_of, Reads, Awaits, calls_stands, forks_stands, forks_unmask_stands, PartStands, ret_stands, throw_stands, do_stands, op_stands, FramesStand, none_stand, bind_stands, then_stands, catch_stands, mask_stands, Stands, BothStand, StepsTo}
use Rattle.hs_progress.specs.TypedStates.{ctx_of, HeadsKept, AllOfSorts}
use Rattle.hs_progress.proofs.Moves.{binds_read, exs_sorts, args_good}
use Rattle.slot_laws.proofs.SlotFraming.{framed}
use Rattle.slot_laws.proofs.Steps.{Entered, same_masks, more_fits, slot_is, mask_of, exs_slots, takes_fit, takes_count, takes_names, place_found, throws, rets, goes_on, value_steps, values_step, throwing, awaited}

module _ (cells : ℕ → T → Type 0) (script : Script) (accepted : Accepted script) (heads : HeadsKept (script_of script)) where
  abbrev ds : List Fn
  ds = script_of script

  reads : (here : ℕ) (g : List SortedName) {a : Core} {env : Env} {vs : List V} {k : Sort} → Does (ctx_of ds here) g a k → SlotsFit cells g env vs → Reads cells ds (tree_of ds g a) vs a env k
  reads here g d f = record { here = here; scope = g; is = refl; does = d; fits = f }

  awaits : (here : ℕ) (g : List SortedName) {x : Name} {j : Sort} {a : Core} {env : Env} {vs : List V} {k : Sort} → Binds x j → Does (ctx_of ds here) (with_bound x j g) a k → SlotsFit cells g env vs
      → Awaits cells ds x j (tree_of ds (with_bound x j g) a) vs a env k
  awaits here g b d f = record { here = here; scope = g; binds = b; is = refl; does = d; fits = f }

  module _ {k : Sort} {ss : List SlotFrame} {fs : List named.Frame} (b : FramesStand cells ds k ss fs) where
    -- ---- a value that chooses
    chooses : {A C : Sa} {a c : Core} {env : Env} {vs : List V} → Reads cells ds A vs a env k → Reads cells ds C vs c env k → (v : V) → OfSort cells (a_value bool) v
        → StepsTo cells ds (slot.on_top ss (slot.chosen A C vs v)) (name.on_top fs (name.chosen a c env v))
    chooses p q (Truth true) h = goes_on cells ds b p
    chooses p q (Truth false) h = goes_on cells ds b q
    chooses p q _ h = absurd h

    chooses_maybe : {A C : Sa} {a c : Core} {x : Name} {t : T} {env : Env} {vs : List V} → Reads cells ds A vs a env k → Awaits cells ds x (a_value t) C vs c env k → (v : V) → OfSort cells (a_value (maybe t)) v
        → StepsTo cells ds (slot.on_top ss (slot.chosen_maybe A C vs v)) (name.on_top fs (name.chosen_maybe a x c env v))
    chooses_maybe p q Nothing h = goes_on cells ds b p
    chooses_maybe p q (Just u) h = goes_on cells ds b (awaited cells ds q u h)
    chooses_maybe p q _ h = absurd h

    chooses_either : {A C : Sa} {a c : Core} {x y : Name} {s t : T} {env : Env} {vs : List V} → Awaits cells ds x (a_value s) A vs a env k → Awaits cells ds y (a_value t) C vs c env k → (v : V) → OfSort cells (a_value (either s t)) v
        → StepsTo cells ds (slot.on_top ss (slot.chosen_either A C vs v)) (name.on_top fs (name.chosen_either x a y c env v))
    chooses_either p q (Left u) h = goes_on cells ds b (awaited cells ds p u h)
    chooses_either p q (Right u) h = goes_on cells ds b (awaited cells ds q u h)
    chooses_either p q _ h = absurd h

    module _ (here : ℕ) (g : List SortedName) (x y : Name) (env : Env) (vs : List V) (f : SlotsFit cells g env vs) where
      -- an action that waits for two values
      two : {i j : Sort} {a : Core} → Binds x i → Binds y j → Does (ctx_of ds here) (with_bound y j (with_bound x i g)) a k → (u w : V) → OfSort cells i u → OfSort cells j w
          → Reads cells ds (tree_of ds (with_bound y j (with_bound x i g)) a) ((vs ++ u ∷ []) ++ w ∷ []) a (with_name y w (with_name x u env)) k
      two {i} p q d u w hu hw = awaited cells ds (awaits here (with_bound x i g) q d (more_fits cells g env vs x i u p hu f)) w hw

      chooses_list : {A : Sa} {a c : Core} {t : T} → Reads cells ds A vs a env k → Binds x (a_value t) → Binds y (a_value (list t)) → Does (ctx_of ds here) (with_bound y (a_value (list t)) (with_bound x (a_value t) g)) c k
          → (v : V) → OfSort cells (a_value (list t)) v
          → StepsTo cells ds (slot.on_top ss (slot.chosen_list A (tree_of ds (with_bound y (a_value (list t)) (with_bound x (a_value t) g)) c) vs v)) (name.on_top fs (name.chosen_list a x y c env v))
      chooses_list p q r d Nil h = goes_on cells ds b p
      chooses_list p q r d (Cons u w) h = goes_on cells ds b (two q r d u w h.0 h.1)
      chooses_list p q r d _ h = absurd h

      chooses_pair : {c : Core} {s t : T} → Binds x (a_value s) → Binds y (a_value t) → Does (ctx_of ds here) (with_bound y (a_value t) (with_bound x (a_value s) g)) c k → (v : V) → OfSort cells (a_value (pair s t)) v
          → StepsTo cells ds (slot.on_top ss (slot.chosen_pair (tree_of ds (with_bound y (a_value t) (with_bound x (a_value s) g)) c) vs v)) (name.on_top fs (name.chosen_pair x y c env v))
      chooses_pair q r d (Pair u w) h = goes_on cells ds b (two q r d u w h.0 h.1)
      chooses_pair q r d _ h = absurd h

    restores_at : (A : Sa) (a : Core) (env : Env) (vs : List V) → Reads cells ds A vs a env k → (w : V) → of_masking w → StepsTo cells ds (slot.on_top ss (slot.restored A vs (Some w))) (name.on_top fs (name.restored a env (Some w)))
    restores_at A a env vs p (Restore m) q = goes_on cells ds (mask_stands b) p
    restores_at A a env vs p _ q = absurd q

    restores : (r : Name) {A : Sa} {a : Core} {env : Env} {vs : List V} → Reads cells ds A vs a env k → (o : Option V) → FitsAt cells r (Some a_masking_name) o
        → StepsTo cells ds (slot.on_top ss (slot.restored A vs o)) (name.on_top fs (name.restored a env o))
    restores r p None h = absurd h
    restores r {A} {a} {env} {vs} p (Some v) h = restores_at A a env vs p v (mask_of cells r v h)

    -- ---- a call
    enters : {g : List SortedName} {k' : Sort} (here : ℕ) (d : ActionFunction) (us : List V) (o : Option Env) (t : Bool) → t ≡ true → k' ≡ k → Does (ctx_of ds here) g d.body k' → Entered cells g us o
        → StepsTo cells ds (slot.on_top ss (cond t (slot.just_part (doing (tree_of ds g d.body) us)) None)) (name.on_top fs (name.entered d.body o))
    enters here d us None t e q w f = absurd f
    enters {g} here d us (Some env) t e q w f =
        subst (λ z. StepsTo cells ds (slot.on_top ss (cond z (slot.just_part (doing (tree_of ds g d.body) us)) None)) (name.on_top fs (name.entered d.body (Some env)))) (sym e)
        (goes_on cells ds b (subst (λ z. Reads cells ds (tree_of ds g d.body) us d.body env z) q (reads here g w f)))

    calls_function : (f : List ℕ) (sig : typing.Sig) → typing.find (sigs_from 0 ds) f ≡ Some sig → sig.acts ≡ true → a_value sig.result ≡ k → (us : List V) → AllOf cells sig.params us
        → StepsTo cells ds (slot.on_top ss (slot.called (slice_get (code_trees ds) (place_among (actions_of ds) f)) us)) (name.on_top fs (name.called (action_named f (actions_of ds)) us))
    calls_function f sig e w q us a =
        let h = heads f sig e w in
        let d = h.0 in let n = h.1 in let p = h.2 in
        subst (λ z. StepsTo cells ds (slot.on_top ss (slot.called (slice_get (code_trees ds) (place_among (actions_of ds) f)) us)) (name.on_top fs (name.called z us))) (sym n)
        (subst (λ z. StepsTo cells ds (slot.on_top ss (slot.called z us)) (name.on_top fs (name.called (Some d) us))) (sym (place_found (roots_of ds) (actions_of ds) (actions_of ds) f d n))
        (subst (λ z. StepsTo cells ds (slot.on_top ss (cond (length d.params == length us) (slot.just_part (doing (slotted_core (roots_of ds) (actions_of ds) z d.body) us)) None)) (name.on_top fs (name.called (Some d) us))) (takes_names p.takes)
        (enters p.here d us (name.with_params d.params us []) (length d.params == length us) (eq-eqb (length d.params) (length us) (takes_count cells p.takes us a)) q p.does
        (takes_fit cells p.takes [] [] us (fits_none cells) a))))

  -- ---- rules 1 to 11
  module _ (here : ℕ) (s : Mask) where
    -- an expression whose value an action goes on with
    valued : {g : List SortedName} {k : Sort} {ss : List SlotFrame} {fs : List named.Frame} (env : Env) (vs : List V) (b : FramesStand cells ds k ss fs) (e : CoreEx) (j : Sort) → CoreHas (ctx_of ds here) g e j → SlotsFit cells g env vs
        → (f : V → Option SlotTerm) (h : V → Option named.Term) → ((v : V) → OfSort cells j v → StepsTo cells ds (slot.on_top ss (f v)) (name.on_top fs (h v)))
        → StepsTo cells ds (slot.on_top ss (slot.on_value (run (slotted_core_ex (roots_of ds) (names_of g) e) vs) f)) (name.on_top fs (name.on_value (value_of_core (functions_of ds) env e) h))
    valued {g} env vs b e j p f _ _ w =
        value_steps cells ds b j (value_of_core (functions_of ds) env e) (run (slotted_core_ex (roots_of ds) (names_of g) e) vs) _ _ (core_slots cells ds (ctx_of ds here) g env vs e j p f) (accepted_good cells script here g env e j accepted p f.sorts) w

    first_steps : {g : List SortedName} {a : Core} {k : Sort} {ss : List SlotFrame} {fs : List named.Frame} (env : Env) (vs : List V) → Does (ctx_of ds here) g a k → SlotsFit cells g env vs → FramesStand cells ds k ss fs
        → StepsTo cells ds (slot.on_top ss (slot.first_step (code_trees ds) s (tree_of ds g a) vs)) (name.on_top fs (name.first_step (code_of ds) s a env))
    first_steps {g} {k} env vs (does_return {e} h) f b = valued env vs b e k h f _ _ (λ v q. rets cells ds b v q)
    first_steps {g} env vs (does_throw {e} h) f b = valued env vs b e (a_value exn) h f _ _ (throwing cells ds b)
    first_steps {g} env vs (does_let {e} {j} p h d) f b = valued env vs b e j h f _ _ (λ v q. goes_on cells ds b (awaited cells ds (awaits here g p d f) v q))
    first_steps {g} {ss} {fs} env vs (does_bind {y} {a} {b = c} {j} p d w) f b =
        subst (λ t. StepsTo cells ds (slot.on_top ss (slot.first_step (code_trees ds) s (cond t (a_then (tree_of ds g a) (tree_of ds g c)) (a_bind (tree_of ds g a) (tree_of ds (with_bound y j g) c))) vs))
        (name.on_top fs (name.first_step (code_of ds) s (Bind y a c) env))) (sym (binds_read y j p))
        (goes_on cells ds (bind_stands (awaits here g p w f) b) (reads here g d f))
    first_steps {g} env vs (does_then d w) f b = goes_on cells ds (then_stands (reads here g w f) b) (reads here g d f)
    first_steps {g} env vs (does_if {e} h d w) f b = valued env vs b e (a_value bool) h f _ _ (chooses b (reads here g d f) (reads here g w f))
    first_steps {g} env vs (does_maybe {e} {t} p h d w) f b = valued env vs b e (a_value (maybe t)) h f _ _ (chooses_maybe b (reads here g d f) (awaits here g p w f))
    first_steps {g} env vs (does_either {e} {s = i} {t} p q h d w) f b = valued env vs b e (a_value (either i t)) h f _ _ (chooses_either b (awaits here g p d f) (awaits here g q w f))
    first_steps {g} env vs (does_list {e} {x} {y} {t} p q h d w) f b = valued env vs b e (a_value (list t)) h f _ _ (chooses_list b here g x y env vs f (reads here g d f) p q w)
    first_steps {g} env vs (does_pair {e} {x} {y} {s = i} {t} p q h w) f b = valued env vs b e (a_value (pair i t)) h f _ _ (chooses_pair b here g x y env vs f p q w)
    first_steps {g} env vs (does_call {f = fn} {es} sig e w l h) f b =
        values_step cells ds b (AllOf cells sig.params) (values_of_exs (functions_of ds) env es) (run_all (slotted_all (roots_of ds) (names_of g) es) vs) _ _
        (all_agree (functions_of ds) (roots_of ds) (parallel ds) (names_of g) env vs f.slots es) (args_good cells script accepted here g env es sig.params f.sorts l h)
        (calls_function b fn sig e w refl)
    first_steps {g} {k} env vs (does_perform {p} {es} {ks} q h) f b =
        values_step cells ds b (AllOfSorts cells ks) (values_of_core (functions_of ds) env es) (run_all (slotted_core_exs (roots_of ds) (names_of g) es) vs) _ _
        (exs_slots cells script accepted here env vs f h) (exs_sorts cells script accepted here env f.sorts h)
        (λ us z. record { sort = k; part = op_stands (calls_stands q z); frames = b })
    first_steps {g} env vs (does_fork d) f b = record { sort = _; part = op_stands (forks_stands (reads here g d f)); frames = b }
    first_steps {g} env vs (does_fork_unmask p d) f b = record { sort = _; part = op_stands (forks_unmask_stands (awaits here g p d f)); frames = b }
    first_steps {g} env vs (does_catch p d w) f b = goes_on cells ds (catch_stands (awaits here g p w f) b) (reads here g d f)
    first_steps {g} env vs (does_mask p d) f b = goes_on cells ds (mask_stands b) (awaited cells ds (awaits here g p d f) (Restore s) tt)
    first_steps {g} env vs (does_mask_hard p d) f b = goes_on cells ds (mask_stands b) (awaited cells ds (awaits here g p d f) (Restore s) tt)
    first_steps {g} {ss} {fs} env vs (does_restore {r} {a} h d) f b =
        subst (λ z. StepsTo cells ds (slot.on_top ss (slot.restored (tree_of ds g a) vs z)) (name.on_top fs (name.restored a env (value_at r env)))) (sym (slot_is cells g env vs r h.0 f))
        (restores b r (reads here g d f) (value_at r env) (subst (λ o. FitsAt cells r o (value_at r env)) h.1 (f.sorts r)))

  -- ---- one local rule
  both : (o : Option SlotTerm) (r : Option named.Term) → StepsTo cells ds o r → BothStand cells ds o r
  both None None h = tt
  both _ _ h = h

  -- a typed action always has a step
  does_step : {k : Sort} {ss : List SlotFrame} {fs : List named.Frame} (tree : Sa) (vs : List V) (a : Core) (env : Env) → Reads cells ds tree vs a env k → FramesStand cells ds k ss fs
      → StepsTo cells ds (slot.local (code_trees ds) Unmasked (doing tree vs) ss) (name.local (code_of ds) (Do a env) fs)
  does_step {ss} {fs} tree vs a env r b =
      subst (λ z. StepsTo cells ds (slot.local (code_trees ds) Unmasked (doing z vs) ss) (name.local (code_of ds) (Do a env) fs)) (sym r.is)
      (subst (λ m. StepsTo cells ds (slot.on_top ss (slot.first_step (code_trees ds) m (tree_of ds r.scope a) vs)) (name.on_top fs (name.first_step (code_of ds) (named.mask_at fs) a env))) (sym (same_masks cells ds b))
      (first_steps r.here (named.mask_at fs) env vs r.does r.fits b))

  ret_both : {k : Sort} {ss : List SlotFrame} {fs : List named.Frame} (v : V) → OfSort cells k v → FramesStand cells ds k ss fs → BothStand cells ds (slot.ret_step v ss) (name.ret_step v fs)
  ret_both v h none_stand = tt
  ret_both v h (bind_stands w b) = goes_on cells ds b (awaited cells ds w v h)
  ret_both v h (then_stands r b) = goes_on cells ds b r
  ret_both v h (catch_stands w b) = rets cells ds b v h
  ret_both v h (mask_stands b) = rets cells ds b v h

  throw_both : {k : Sort} {ss : List SlotFrame} {fs : List named.Frame} (e : Exn) → FramesStand cells ds k ss fs → BothStand cells ds (slot.throw_step Unmasked e ss) (name.throw_step e fs)
  throw_both e none_stand = tt
  throw_both e (bind_stands w b) = throws cells ds b e
  throw_both e (then_stands r b) = throws cells ds b e
  throw_both e (catch_stands {x} {tree} {vs} {b = a} {env} {ss} {fs} w b) =
      subst (λ m. BothStand cells ds (Some (slot.at (doing tree (vs ++ Exception e ∷ [])) (mask_in (join_of Masked m) ∷ ss))) (name.throw_step e (CatchBy x a env ∷ fs))) (sym (same_masks cells ds b))
      (goes_on cells ds (mask_stands b) (awaited cells ds w (Exception e) tt))
  throw_both e (mask_stands b) = throws cells ds b e

  part_both : {k : Sort} {p : SlotPart} {q : named.Part} {ss : List SlotFrame} {fs : List named.Frame} → PartStands cells ds p q k → FramesStand cells ds k ss fs
      → BothStand cells ds (slot.local (code_trees ds) Unmasked p ss) (name.local (code_of ds) q fs)
  part_both (ret_stands {v} h) b = ret_both v h b
  part_both (throw_stands {e}) b = throw_both e b
  part_both {ss} {fs} (do_stands {tree} {vs} {a} {env} r) b = both (slot.local (code_trees ds) Unmasked (doing tree vs) ss) (name.local (code_of ds) (Do a env) fs) (does_step tree vs a env r b)
  part_both (op_stands o) b = tt

  -- where it stands, a step is the local rule and stands again
  pub same_rule : (st : SlotTerm) (t : named.Term) → Stands cells ds st t → BothStand cells ds (slot.local (code_trees ds) Unmasked st.part st.frames) (name.local (code_of ds) t.part t.frames)
  same_rule st t h = part_both h.part h.frames

  -- ---- some in turn
  on_both : (o : Option SlotTerm) (r : Option named.Term) (f : SlotTerm → Option SlotTerm) (g : named.Term → Option named.Term) → BothStand cells ds o r
      → ((st : SlotTerm) (t : named.Term) → Stands cells ds st t → BothStand cells ds (f st) (g t)) → BothStand cells ds (slot.on_term o f) (name.on_term r g)
  on_both None None f g h w = tt
  on_both None (Some t) f g h w = absurd h
  on_both (Some st) None f g h w = absurd h
  on_both (Some st) (Some t) f g h w = w st t h

  pub same_rules : (k : ℕ) (st : SlotTerm) (t : named.Term) → Stands cells ds st t → BothStand cells ds (slot.locals (code_trees ds) Unmasked k st) (name.locals (code_of ds) k t)
  same_rules zero st t h = h
  same_rules (suc k) st t h =
      on_both (slot.local (code_trees ds) Unmasked st.part st.frames) (name.local (code_of ds) t.part t.frames) (slot.locals (code_trees ds) Unmasked k) (name.locals (code_of ds) k)
      (same_rule st t h) (same_rules k)

  -- ---- a slice, over the frames that stand below it
  pub moved : (o : Option SlotTerm) (r : Option named.Term) (st : SlotTerm) → o ≡ Some st → BothStand cells ds o r → (u : named.Term) × (r ≡ Some u) × Stands cells ds st u
  moved None r st e h = let z : None ≡ Some st = e in absurd (cc z)
  moved (Some s) None st e h = absurd h
  moved (Some s) (Some u) st e h = (u, refl, (let z : s ≡ st = cc in subst (λ w. Stands cells ds w u) z h))

  pub slice_moves : (k : ℕ) (start end : SlotPart) (below pushed : List SlotFrame) (t : named.Term) → Stands cells ds (slot.at start below) t
      → slot.locals (code_trees ds) (mask_from Unmasked below) k (slot.at start []) ≡ Some (slot.at end pushed)
      → (u : named.Term) × (name.locals (code_of ds) k t ≡ Some u) × Stands cells ds (slot.at end (pushed ++ below)) u
  slice_moves k start end below pushed t h e =
      moved (slot.locals (code_trees ds) Unmasked k (slot.at start below)) (name.locals (code_of ds) k t) (slot.at end (pushed ++ below))
      (framed (code_trees ds) Unmasked below k (slot.at start []) (slot.at end pushed) e) (same_rules k (slot.at start below) t h)

  go_on : {k : Sort} {q : named.Part} {ss : List SlotFrame} {fs : List named.Frame} (tree : Sa) (vs : List V) → PartStands cells ds (doing tree vs) q k → FramesStand cells ds k ss fs
      → StepsTo cells ds (slot.local (code_trees ds) Unmasked (doing tree vs) ss) (name.local (code_of ds) q fs)
  go_on tree vs (do_stands {a} {env} r) b = does_step tree vs a env r b

  -- an action has a next step
  pub does_go : (tree : Sa) (vs : List V) (ss : List SlotFrame) (t : named.Term) → Stands cells ds (slot.at (doing tree vs) ss) t
      → StepsTo cells ds (slot.local (code_trees ds) Unmasked (doing tree vs) ss) (name.local (code_of ds) t.part t.frames)
  does_go tree vs ss t h = go_on tree vs h.part h.frames
