-- What the steps of actions with slots share: names that are bound, slots that are read, values that choose, and calls.
use Rattle.std.proofs.Common.{◌≡◌, ℕ, zero, suc, ◌+◌, ◌≤◌, List, [], ◌∷◌, ◌++◌, length, Bool, true, false, cond, Option, Some, None, refl, sym, ap, ◌∙◌, subst, arith, append-nil, append_assoc, bytes_eq}
use Rattle.std.specs.Prelude.{slice_get}
use Rattle.hs_base.specs.declared.exn.Exn.{Exn}
use Rattle.hs_base.specs.declared.mask.Mask.TheVariants.{Unmasked}
use Rattle.hs_base.specs.declared.tree.script.Script.{Script}
use Rattle.rules_expansion.specs.trees.Trees.{T, exn}
use Rattle.rules_expansion.specs.trees.Programs.{Fn, script_of}
use Rattle.rules_meaning.specs.Values as val
use Rattle.rules_expansion.specs.Names.{Name, Written, Added, Unread}
use Rattle.rules_meaning.specs.Values.{V, Env, with_name, value_at, Outcome, Gives, Throws, Stuck, Outcomes, AllGive, OneThrows, OneStuck, and_then}
use Rattle.rules_meaning.specs.Meaning.{functions_of}
use Rattle.rules_sorts.specs.Sorts.{Sort, a_value, a_masking_name, SortedName}
use Rattle.rules_typing.specs.TypingScripts.{Accepted}
use Rattle.rules_sorts.specs.TypedMeaning.{AllOf}
use Rattle.rules_expansion.specs.Core.{CoreEx, Core, ActionFunction, action_named}
use Rattle.rules_meaning.specs.CoreMeaning.{value_of_core, values_of_core}
use Rattle.rules_code.specs.Slots.{Scope, slot_of, Root, roots_of, run_all}
use Rattle.rules_code.specs.CodeTrees.{Sa, is_unread, slot_or_end, slotted_core_exs, place_among, scope_of_names, slotted_function, slotted_functions}
use Rattle.rules_code.specs.Matching.{Seen}
use Rattle.hs_rules.specs.Terms as named
use Rattle.hs_rules.specs.Terms.{Frame, Do}
use Rattle.hs_rules.specs.LocalRules as name
use Rattle.hs_soundness.specs.CoreSorts.{names_of, of_masking, OfSort, FitsAt, GoodSort, SlotsFit}
use Rattle.hs_soundness.proofs.CoreSlots.{core_slots}
use Rattle.hs_soundness.proofs.Growing.{fits_with}
use Rattle.slot_laws.specs.SlotRules as slot
use Rattle.slot_laws.specs.SlotRules.{SlotFrame, SlotTerm}
use Rattle.hs_progress.specs.CoreTyping.{Binds, with_bound, CoreAllHave, no_more, one_more, Takes, takes_none, takes_one}
use Rattle.slot_laws.specs.Standing.{Reads, Awaits, ret_stands, throw_stands, do_stands, FramesStand, none_stand, bind_stands, then_stands, catch_stands, mask_stands, Stands, StepsTo}
use Rattle.hs_progress.specs.TypedStates.{ctx_of}
use Rattle.hs_progress.proofs.Moves.{binds_read, binds_fits, AllAre}

-- ---- names that are bound

module _ (cells : ℕ → T → Type 0) where
  pub more_fits : (g : List SortedName) (env : Env) (vs : List V) (y : Name) (k : Sort) (v : V) → Binds y k → OfSort cells k v → SlotsFit cells g env vs → SlotsFit cells (with_bound y k g) (with_name y v env) (vs ++ v ∷ [])
  more_fits g env vs y k v b h f = fits_with cells g env vs y k v (binds_read y k b) (binds_fits cells y k v b h) f

  -- ---- the slot of a masking name

  none_at_end : (vs : List V) (n : ℕ) → length vs ≤ n → slice_get vs n ≡ None
  none_at_end [] n h = refl
  none_at_end (v ∷ vs) zero h = absurd (omega arith)
  none_at_end (v ∷ vs) (suc n) h = none_at_end vs n (omega arith)

  slot_holds : (o : Option ℕ) (r : Option V) (s : Scope) (vs : List V) → length vs ≡ length s → Seen o r vs → slice_get vs (slot_or_end o s) ≡ r
  slot_holds None None s vs l h = none_at_end vs (length s) (omega (arith, l))
  slot_holds None (Some v) s vs l h = absurd h
  slot_holds (Some k) None s vs l h = absurd h
  slot_holds (Some k) (Some v) s vs l h = h

  pub slot_is : (g : List SortedName) (env : Env) (vs : List V) (y : Name) → is_unread y ≡ false → SlotsFit cells g env vs → slice_get vs (slot_or_end (slot_of (names_of g) y) (names_of g)) ≡ value_at y env
  slot_is g env vs y u f = slot_holds (slot_of (names_of g) y) (value_at y env) (names_of g) vs f.slots.size (f.slots.seen y u)

  pub mask_of : (y : Name) (v : V) → FitsAt cells y (Some a_masking_name) (Some v) → of_masking v
  mask_of (Written x) v h = h
  mask_of (Added z) v h = h
  mask_of Unread v h = h

  -- ---- expressions of a primitive

  module _ (script : Script) (accepted : Accepted script) (here : ℕ) where
    pub exs_slots : {g : List SortedName} {es : List CoreEx} {ks : List Sort} (env : Env) (vs : List V) → SlotsFit cells g env vs → CoreAllHave (ctx_of (script_of script) here) g es ks
        → run_all (slotted_core_exs (roots_of (script_of script)) (names_of g) es) vs ≡ values_of_core (functions_of (script_of script)) env es
    exs_slots env vs f no_more = refl
    exs_slots {g} env vs f (one_more {e} {k} {es} {ks} h hs) =
        ap (λ o. and_then o (run_all (slotted_core_exs (roots_of (script_of script)) (names_of g) es) vs)) (core_slots cells (script_of script) (ctx_of (script_of script) here) g env vs e k h f)
        ∙ ap (and_then (value_of_core (functions_of (script_of script)) env e)) (exs_slots env vs f hs)

  -- ---- parameters

  abbrev pub Entered : List SortedName → List V → Option Env → Type 0
  Entered g vs None = ⊥
  Entered g vs (Some env) = SlotsFit cells g env vs

  pub takes_fit : {g h : List SortedName} {ps : List Name} {ts : List T} → Takes g ps ts h → (env : Env) (vs us : List V) → SlotsFit cells g env vs → AllOf cells ts us → Entered h (vs ++ us) (name.with_params ps us env)
  takes_fit {g} takes_none env vs [] f a = subst (λ z. SlotsFit cells g env z) (sym (append-nil vs)) f
  takes_fit takes_none env vs (u ∷ us) f a = absurd a
  takes_fit (takes_one w) env vs [] f a = absurd a
  takes_fit {g} {h} (takes_one {x} {ps} {t} w) env vs (u ∷ us) f a =
      subst (λ z. Entered h z (name.with_params ps us (with_name (Written x) u env))) (append_assoc vs (u ∷ []) us)
      (takes_fit w (with_name (Written x) u env) (vs ++ u ∷ []) us (more_fits g env vs (Written x) (a_value t) u tt a.0 f) a.1)

  pub takes_count : {g h : List SortedName} {ps : List Name} {ts : List T} → Takes g ps ts h → (us : List V) → AllOf cells ts us → length ps ≡ length us
  takes_count takes_none [] a = refl
  takes_count takes_none (u ∷ us) a = absurd a
  takes_count (takes_one w) [] a = absurd a
  takes_count (takes_one w) (u ∷ us) a = ap suc (takes_count w us a.1)

pub takes_names : {g h : List SortedName} {ps : List Name} {ts : List T} → Takes g ps ts h → names_of h ≡ scope_of_names (names_of g) ps
takes_names takes_none = refl
takes_names (takes_one w) = takes_names w

-- the action function of a name stands at the place of the name
place_step : (rs : List Root) (fs ds : List ActionFunction) (c d : ActionFunction) (t : Bool) (n : ℕ) (o : Option ActionFunction)
    → (o ≡ Some d → slice_get (slotted_functions rs fs ds) n ≡ Some (slotted_function rs fs d)) → cond t (Some c) o ≡ Some d
    → slice_get (slotted_function rs fs c ∷ slotted_functions rs fs ds) (cond t 0 (1 + n)) ≡ Some (slotted_function rs fs d)
place_step rs fs ds c d true n o h e = let z : c ≡ d = cc in ap (λ w. Some (slotted_function rs fs w)) z
place_step rs fs ds c d false n o h e = ap (slice_get (slotted_function rs fs c ∷ slotted_functions rs fs ds)) (let z : 1 + n ≡ suc n = omega arith in z) ∙ h e

pub place_found : (rs : List Root) (fs ds : List ActionFunction) (f : List ℕ) (d : ActionFunction) → action_named f ds ≡ Some d → slice_get (slotted_functions rs fs ds) (place_among ds f) ≡ Some (slotted_function rs fs d)
place_found rs fs [] f d e = let z : None ≡ Some d = e in absurd (cc z)
place_found rs fs (c ∷ ds) f d e = place_step rs fs ds c d (bytes_eq f c.name) (place_among ds f) (action_named f ds) (place_found rs fs ds f d) e

-- ---- both sides of a step

module _ (cells : ℕ → T → Type 0) (script : List Fn) where
  pub same_masks : {k : Sort} {ss : List SlotFrame} {fs : List Frame} → FramesStand cells script k ss fs → slot.mask_from Unmasked ss ≡ named.mask_at fs
  same_masks none_stand = refl
  same_masks (bind_stands w b) = same_masks b
  same_masks (then_stands r b) = same_masks b
  same_masks (catch_stands w b) = same_masks b
  same_masks (mask_stands b) = refl

  module _ {k : Sort} {ss : List SlotFrame} {fs : List Frame} (b : FramesStand cells script k ss fs) where
    pub throws : (e : Exn) → Stands cells script (slot.at (slot.throw e) ss) (named.term (named.Throw e) fs)
    throws e = record { sort = k; part = throw_stands; frames = b }

    pub rets : (v : V) → OfSort cells k v → Stands cells script (slot.at (slot.ret v) ss) (named.term (named.Ret v) fs)
    rets v h = record { sort = k; part = ret_stands h; frames = b }

    pub goes_on : {tree : Sa} {vs : List V} {a : Core} {env : Env} → Reads cells script tree vs a env k → Stands cells script (slot.at (slot.doing tree vs) ss) (named.term (Do a env) fs)
    goes_on r = record { sort = k; part = do_stands r; frames = b }

    -- a value or an exception, the same on both sides
    pub value_steps : (j : Sort) (o r : Outcome) (f : V → Option SlotTerm) (g : V → Option named.Term) → r ≡ o → GoodSort cells j o
        → ((v : V) → OfSort cells j v → StepsTo cells script (slot.on_top ss (f v)) (name.on_top fs (g v)))
        → StepsTo cells script (slot.on_top ss (slot.on_value r f)) (name.on_top fs (name.on_value o g))
    value_steps j o r f g e h w = subst (λ z. StepsTo cells script (slot.on_top ss (slot.on_value z f)) (name.on_top fs (name.on_value o g))) (sym e) (by o h)
      where
        by : (q : Outcome) → GoodSort cells j q → StepsTo cells script (slot.on_top ss (slot.on_value q f)) (name.on_top fs (name.on_value q g))
        by (Gives v) z = w v z
        by (Throws x) z = throws x
        by Stuck z = absurd z

    pub values_step : (P : List V → Type 0) (o r : Outcomes) (f : List V → Option SlotTerm) (g : List V → Option named.Term) → r ≡ o → AllAre cells P o
        → ((vs : List V) → P vs → StepsTo cells script (slot.on_top ss (f vs)) (name.on_top fs (g vs)))
        → StepsTo cells script (slot.on_top ss (slot.on_values r f)) (name.on_top fs (name.on_values o g))
    values_step P o r f g e h w = subst (λ z. StepsTo cells script (slot.on_top ss (slot.on_values z f)) (name.on_top fs (name.on_values o g))) (sym e) (by o h)
      where
        by : (q : Outcomes) → AllAre cells P q → StepsTo cells script (slot.on_top ss (slot.on_values q f)) (name.on_top fs (name.on_values q g))
        by (AllGive vs) z = w vs z
        by (OneThrows x) z = throws x
        by OneStuck z = absurd z

    pub throwing : (v : V) → OfSort cells (a_value exn) v → StepsTo cells script (slot.on_top ss (slot.thrown v)) (name.on_top fs (name.thrown v))
    throwing (val.Exception e) h = throws e
    throwing _ h = absurd h

  -- a value for the name that an action waits for
  pub awaited : {x : Name} {j : Sort} {tree : Sa} {vs : List V} {a : Core} {env : Env} {k : Sort} → Awaits cells script x j tree vs a env k → (v : V) → OfSort cells j v → Reads cells script tree (vs ++ v ∷ []) a (with_name x v env) k
  awaited {x} {j} {tree} {vs} {a} {env} w v h = record { here = w.here; scope = with_bound x j w.scope; is = w.is; does = w.does; fits = more_fits cells w.scope env vs x j v w.binds h w.fits }
