-- When a term with slots stands for a term with names (own).
--
-- An action with slots stands for a named one where it is that action with the slots of some scope, in which the action
-- has a sort, and which the values of the slots fit. One action with slots can stand for many named ones. A term stands
-- for a term part by part and frame by frame, with the sort of what goes from each to the next.
use Rattle.std.specs.Prelude.{◌≡◌, ℕ, List, [], ◌∷◌, Option, Some, None}
use Rattle.hs_base.specs.declared.mask.Mask.{Mask}
use Rattle.hs_base.specs.declared.exn.Exn.{Exn}
use Rattle.rules_expansion.specs.trees.Trees.{T, exn, thread}
use Rattle.rules_expansion.specs.trees.Programs.{Fn}
use Rattle.rules_expansion.specs.Names.{Name, Unread}
use Rattle.rules_meaning.specs.Values.{V, Env}
use Rattle.rules_sorts.specs.Sorts.{Sort, a_value, a_masking_name, SortedName}
use Rattle.rules_expansion.specs.Core.{Core}
use Rattle.rules_expansion.specs.declared.primitive.Primitive.{Primitive}
use Rattle.rules_expansion.specs.Expansion.{actions_of}
use Rattle.rules_code.specs.Slots.{roots_of}
use Rattle.rules_code.specs.CodeTrees.{Sa, slotted_core}
use Rattle.hs_rules.specs.Terms as named
use Rattle.hs_rules.specs.Terms.{Ret, Throw, Do, Performs, Calls, Forks, ForksUnmask, BindTo, CatchBy, MaskIn}
use Rattle.hs_soundness.specs.CoreSorts.{names_of, OfSort, SlotsFit}
use Rattle.slot_laws.specs.SlotRules.{SlotOp, calls, forks, forks_unmask, SlotPart, ret, throw, doing, performs, SlotFrame, bind_to, then_to, catch_by, mask_in, SlotTerm}
use Rattle.hs_progress.specs.CoreTyping.{Binds, with_bound, Asks, Does}
use Rattle.hs_progress.specs.TypedStates.{ctx_of, AllOfSorts, Store, has}

-- an action of a script with slots for the names of a scope
abbrev pub tree_of : List Fn → List SortedName → Core → Sa
tree_of script g a = slotted_core (roots_of script) (actions_of script) (names_of g) a

-- which number is of which type: each of every type, or as a store says
abbrev pub cells_of : Option Store → ℕ → T → Type 0
cells_of None m t = Unit {0}
cells_of (Some store) m t = has store m t

module _ (cells : ℕ → T → Type 0) where
  module _ (script : List Fn) where
    -- an action in values of slots stands for a named one in an environment, and gives a value of sort k
    pub record Reads (tree : Sa) (vs : List V) (a : Core) (env : Env) (k : Sort) : Type 0 where
      pub here : ℕ
      pub scope : List SortedName
      pub is : tree ≡ tree_of script scope a
      pub does : Does (ctx_of script here) scope a k
      pub fits : SlotsFit cells scope env vs

    -- the same of an action that waits for a value of sort j, to be bound to x
    pub record Awaits (x : Name) (j : Sort) (tree : Sa) (vs : List V) (a : Core) (env : Env) (k : Sort) : Type 0 where
      pub here : ℕ
      pub scope : List SortedName
      pub binds : Binds x j
      pub is : tree ≡ tree_of script (with_bound x j scope) a
      pub does : Does (ctx_of script here) (with_bound x j scope) a k
      pub fits : SlotsFit cells scope env vs

    -- an operation, and the sort of what it is answered
    pub data OpStands : SlotOp → named.Operation → Sort → Type 0 where
      calls_stands : {p : Primitive} {ks : List Sort} {k : Sort} {vs : List V} → Asks p ks k → AllOfSorts cells ks vs → OpStands (calls p vs) (Calls p vs) k
      forks_stands : {tree : Sa} {vs : List V} {a : Core} {env : Env} {j : Sort} → Reads tree vs a env j → OpStands (forks tree vs) (Forks a env) (a_value thread)
      forks_unmask_stands : {r : Name} {tree : Sa} {vs : List V} {a : Core} {env : Env} {j : Sort} → Awaits r a_masking_name tree vs a env j → OpStands (forks_unmask tree vs) (ForksUnmask r a env) (a_value thread)

    -- a part, and the sort of what it gives to the frames
    pub data PartStands : SlotPart → named.Part → Sort → Type 0 where
      ret_stands : {v : V} {k : Sort} → OfSort cells k v → PartStands (ret v) (Ret v) k
      throw_stands : {e : Exn} {k : Sort} → PartStands (throw e) (Throw e) k
      do_stands : {tree : Sa} {vs : List V} {a : Core} {env : Env} {k : Sort} → Reads tree vs a env k → PartStands (doing tree vs) (Do a env) k
      op_stands : {p : SlotOp} {op : named.Operation} {k : Sort} → OpStands p op k → PartStands (performs p) (Performs op) k

    -- frames that take a value of sort k
    pub data FramesStand : Sort → List SlotFrame → List named.Frame → Type 0 where
      none_stand : {k : Sort} → FramesStand k [] []
      bind_stands : {x : Name} {tree : Sa} {vs : List V} {b : Core} {env : Env} {k j : Sort} {ss : List SlotFrame} {fs : List named.Frame} →
          Awaits x k tree vs b env j → FramesStand j ss fs → FramesStand k (bind_to tree vs ∷ ss) (BindTo x b env ∷ fs)
      then_stands : {tree : Sa} {vs : List V} {b : Core} {env : Env} {k j : Sort} {ss : List SlotFrame} {fs : List named.Frame} →
          Reads tree vs b env j → FramesStand j ss fs → FramesStand k (then_to tree vs ∷ ss) (BindTo Unread b env ∷ fs)
      catch_stands : {x : Name} {tree : Sa} {vs : List V} {b : Core} {env : Env} {k : Sort} {ss : List SlotFrame} {fs : List named.Frame} →
          Awaits x (a_value exn) tree vs b env k → FramesStand k ss fs → FramesStand k (catch_by tree vs ∷ ss) (CatchBy x b env ∷ fs)
      mask_stands : {m : Mask} {k : Sort} {ss : List SlotFrame} {fs : List named.Frame} → FramesStand k ss fs → FramesStand k (mask_in m ∷ ss) (MaskIn m ∷ fs)

    -- a term with slots stands for a term with names
    pub record Stands (st : SlotTerm) (t : named.Term) : Type 0 where
      pub sort : Sort
      pub part : PartStands st.part t.part sort
      pub frames : FramesStand sort st.frames t.frames

    -- each stands for the other, where there is one
    abbrev pub BothStand : Option SlotTerm → Option named.Term → Type 0
    BothStand None None = Unit {0}
    BothStand None (Some t) = ⊥
    BothStand (Some st) None = ⊥
    BothStand (Some st) (Some t) = Stands st t

    -- each is there, and one stands for the other
    abbrev pub StepsTo : Option SlotTerm → Option named.Term → Type 0
    StepsTo (Some st) (Some t) = Stands st t
    StepsTo _ _ = ⊥

-- a stack stands for thread t, where its frames take what the store says
abbrev pub StandsIn : List Fn → Store → ℕ → SlotTerm → named.Term → Type 0
StandsIn script store t st u = PartStands (has store) script st.part u.part (store.sorts t) × FramesStand (has store) script (store.sorts t) st.frames u.frames

-- a value or an exception, with slots
abbrev pub EndsAs : named.Part → SlotPart → Type 0
EndsAs (Ret v) p = p ≡ ret v
EndsAs (Throw e) p = p ≡ throw e
EndsAs (Do a env) p = ⊥
EndsAs (Performs op) p = ⊥
