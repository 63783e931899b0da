-- When states are typed (own): by a store, which says what each cell is for, how many threads there are, and what goes
-- to the frames of each.
--
-- Each thread's term fits together: its part gives a value of the sort that its frames take. Each cell is empty or holds a
-- value of its type, or how an action that gives that type ended. What a blocked thread waits for is said by the operation that it stands at.
use Rattle.std.specs.Prelude.{◌≡◌, ◌≢◌, ℕ, suc, ◌==◌, ◌<◌, ◌≤◌, true, cond, List, [], ◌∷◌, ◌++◌, length, Option, Some, None, slice_get}
use Rattle.hs_base.specs.declared.mask.Mask.{Mask}
use Rattle.hs_base.specs.declared.exn.Exn.{Exn}
use Rattle.hs_rules.specs.declared.entry.Entry.{Entry}
use Rattle.hs_rules.specs.declared.entry.Entry.TheVariants as entry
use Rattle.rules_expansion.specs.trees.Trees.{T, exn, thread, either, cell, async}
use Rattle.rules_expansion.specs.trees.Programs.{Fn}
use Rattle.rules_expansion.specs.Names.{Name, Unread}
use Rattle.rules_meaning.specs.Values.{V, Env}
use Rattle.rules_sorts.specs.Sorts.{Sort, a_value, a_masking_name, SortedName}
use Rattle.rules_typing.specs.Typing as typing
use Rattle.rules_typing.specs.TypingScripts.{sigs_from}
use Rattle.rules_sorts.specs.TypedMeaning.{HasV}
use Rattle.rules_expansion.specs.Core.{Core, ActionFunction, action_named}
use Rattle.rules_expansion.specs.declared.primitive.Primitive.{Primitive}
use Rattle.rules_expansion.specs.Expansion.{actions_of}
use Rattle.hs_rules.specs.Terms.{Operation, Calls, Forks, ForksUnmask, Part, Ret, Throw, Do, Performs, Frame, BindTo, CatchBy, MaskIn, Term}
use Rattle.hs_rules.specs.State.{Thread, State}
use Rattle.hs_soundness.specs.CoreSorts.{OfSort, FitsScope}
use Rattle.hs_progress.specs.CoreTyping.{Binds, with_bound, Asks, Does, Takes}

-- ---- what a script defines

-- what is defined, where so many definitions precede
abbrev pub ctx_of : List Fn → ℕ → typing.Ctx
ctx_of ds here = record { sigs = sigs_from 0 ds; here = here }

-- the action function does what a head says
pub record KeepsHead (ds : List Fn) (sig : typing.Sig) (d : ActionFunction) : Type 0 where
  pub here : ℕ
  pub scope : List SortedName
  pub takes : Takes [] d.params sig.params scope
  pub does : Does (ctx_of ds here) scope d.body (a_value sig.result)

-- each action function of a script does what its head says
abbrev pub HeadsKept : List Fn → Type 0
HeadsKept ds = (f : List ℕ) (sig : typing.Sig) → typing.find (sigs_from 0 ds) f ≡ Some sig → sig.acts ≡ true → (d : ActionFunction) × (action_named f (actions_of ds) ≡ Some d) × KeepsHead ds sig d

-- ---- stores

-- what a cell is for: values of a type, or the end of the thread of an async scope, whose action gives that type
pub data Purpose : Type 0 where
  for_values : T → Purpose
  for_end : T → Purpose

-- the type of what such a cell holds
abbrev pub held_by : Purpose → T
held_by (for_values t) = t
held_by (for_end t) = either exn t

-- which number is of which type: a cell's, where cells for these purposes were made, and a thread's, where there are n
abbrev pub stored : List Purpose → ℕ → ℕ → T → Type 0
stored cells n m (cell t) = slice_get cells m ≡ Some (for_values t)
stored cells n m (async t) = slice_get cells m ≡ Some (for_end t)
stored cells n m thread = m < n
stored cells n m _ = ⊥

-- ---- terms

module _ (cells : ℕ → T → Type 0) where
  -- values of these sorts, one of each
  pub data AllOfSorts : List Sort → List V → Type 0 where
    no_values : AllOfSorts [] []
    one_value : {k : Sort} {ks : List Sort} {v : V} {vs : List V} → OfSort cells k v → AllOfSorts ks vs → AllOfSorts (k ∷ ks) (v ∷ vs)

  module _ (ds : List Fn) where
    -- an action gives a value of sort k, in an environment that fits its scope
    pub record Runs (a : Core) (env : Env) (k : Sort) : Type 0 where
      pub here : ℕ
      pub scope : List SortedName
      pub does : Does (ctx_of ds here) scope a k
      pub fits : FitsScope cells scope env

    -- the same of an action that waits for a value of sort j, to be bound to x
    pub record Awaits (x : Name) (j : Sort) (a : Core) (env : Env) (k : Sort) : Type 0 where
      pub here : ℕ
      pub scope : List SortedName
      pub binds : Binds x j
      pub does : Does (ctx_of ds here) (with_bound x j scope) a k
      pub fits : FitsScope cells scope env

    -- an operation, and the sort of what it is answered
    pub data OpTyped : Operation → Sort → Type 0 where
      calls_typed : {p : Primitive} {ks : List Sort} {k : Sort} {vs : List V} → Asks p ks k → AllOfSorts ks vs → OpTyped (Calls p vs) k
      forks_typed : {a : Core} {env : Env} {j : Sort} → Runs a env j → OpTyped (Forks a env) (a_value thread)
      forks_unmask_typed : {r : Name} {a : Core} {env : Env} {j : Sort} → Awaits r a_masking_name a env j → OpTyped (ForksUnmask r a env) (a_value thread)

    -- a part, and the sort of what it gives to the frames
    pub data PartTyped : Part → Sort → Type 0 where
      ret_typed : {v : V} {k : Sort} → OfSort cells k v → PartTyped (Ret v) k
      throw_typed : {e : Exn} {k : Sort} → PartTyped (Throw e) k
      do_typed : {a : Core} {env : Env} {k : Sort} → Runs a env k → PartTyped (Do a env) k
      op_typed : {op : Operation} {k : Sort} → OpTyped op k → PartTyped (Performs op) k

    -- frames that take a value of sort k
    pub data FramesTyped : Sort → List Frame → Type 0 where
      no_frames : {k : Sort} → FramesTyped k []
      bind_typed : {x : Name} {b : Core} {env : Env} {k j : Sort} {fs : List Frame} → Awaits x k b env j → FramesTyped j fs → FramesTyped k (BindTo x b env ∷ fs)
      then_typed : {b : Core} {env : Env} {k j : Sort} {fs : List Frame} → Runs b env j → FramesTyped j fs → FramesTyped k (BindTo Unread b env ∷ fs)
      catch_typed : {x : Name} {b : Core} {env : Env} {k : Sort} {fs : List Frame} → Awaits x (a_value exn) b env k → FramesTyped k fs → FramesTyped k (CatchBy x b env ∷ fs)
      mask_typed : {m : Mask} {k : Sort} {fs : List Frame} → FramesTyped k fs → FramesTyped k (MaskIn m ∷ fs)

    pub record TermTyped (t : Term) : Type 0 where
      pub sort : Sort
      pub part : PartTyped t.part sort
      pub frames : FramesTyped sort t.frames

    -- a thread whose frames take a value of sort k
    abbrev pub ThreadTyped : Sort → Option Thread → Type 0
    ThreadTyped k None = Unit {0}
    ThreadTyped k (Some th) = PartTyped th.term.part k × FramesTyped k th.term.frames

  abbrev pub ContentTyped : Purpose → Option V → Type 0
  ContentTyped p None = Unit {0}
  ContentTyped p (Some v) = HasV cells (held_by p) v

  abbrev pub CellTyped : Option (Option V) → Option Purpose → Type 0
  CellTyped None None = Unit {0}
  CellTyped None (Some p) = ⊥
  CellTyped (Some c) None = ⊥
  CellTyped (Some c) (Some p) = ContentTyped p c

-- ---- states

-- what is known of a state
pub record Store : Type 0 where
  -- what each cell is for
  pub cells : List Purpose
  -- how many threads there are
  pub count : ℕ
  -- the sort of what each thread's part gives to its frames
  pub sorts : ℕ → Sort

abbrev pub has : Store → ℕ → T → Type 0
has st = stored st.cells st.count

-- one more cell, for this
abbrev pub with_cell : Purpose → Store → Store
with_cell p st = record { cells = st.cells ++ p ∷ []; count = st.count; sorts = st.sorts }

-- thread t takes a value of sort k
abbrev pub with_sort : ℕ → Sort → Store → Store
with_sort t k st = record { cells = st.cells; count = st.count; sorts = λ u. cond (u == t) k (st.sorts u) }

-- one more thread, which takes a value of sort k
abbrev pub with_thread : Sort → Store → Store
with_thread k st = record { cells = st.cells; count = suc st.count; sorts = λ u. cond (u == st.count) k (st.sorts u) }

-- a later store: cells stay for what they are, and threads stay
pub record Grows (old new : Store) : Type 0 where
  pub cells : (m : ℕ) (p : Purpose) → slice_get old.cells m ≡ Some p → slice_get new.cells m ≡ Some p
  pub count : old.count ≤ new.count

-- threads and cells fit a store
pub record Sound (ds : List Fn) (st : Store) (ts : List Thread) (cs : List (Option V)) : Type 0 where
  pub threads : (t : ℕ) → ThreadTyped (has st) ds (st.sorts t) (slice_get ts t)
  pub contents : (m : ℕ) → CellTyped (has st) (slice_get cs m) (slice_get st.cells m)
  pub counted : st.count ≡ length ts

pub record TypedState (ds : List Fn) (s : State) : Type 0 where
  pub store : Store
  pub sound : Sound ds store s.threads s.cells

-- A state that follows one with an earlier store: cells stay for what they are, threads stay, and what goes to the frames of those
-- that stay as they are keeps its sort.
pub record Follows (ds : List Fn) (old : Store) (stays : ℕ → Type 0) (s : State) : Type 0 where
  pub store : Store
  pub sound : Sound ds store s.threads s.cells
  pub cells : (m : ℕ) (p : Purpose) → slice_get old.cells m ≡ Some p → slice_get store.cells m ≡ Some p
  pub count : old.count ≤ store.count
  pub sorts : (u : ℕ) → u < old.count → stays u → store.sorts u ≡ old.sorts u

-- local rules of a thread may change the sort that goes to its frames, and no other entry changes one
abbrev pub Stays : Entry → ℕ → Type 0
Stays (entry.Local t k) u = u ≢ t
Stays (entry.Op t) u = Unit {0}
Stays (entry.Receive t) u = Unit {0}
Stays (entry.Wake t) u = Unit {0}
Stays (entry.Finish t) u = Unit {0}
Stays (entry.Tick at) u = Unit {0}
Stays entry.Stranded u = Unit {0}
