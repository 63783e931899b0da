-- The fact that every entry keeps, from which the law of async scopes follows (own), and the law of a history.
--
-- A store, by which the state is typed, says which cells are for the ends of children: nothing takes from one, and only the child
-- puts into it.
use Rattle.std.specs.Prelude.{◌≡◌, ◌≢◌, ℕ, true, List, [], ◌∷◌, ◌++◌, Option, Some, None, slice_get}
use Rattle.rules_expansion.specs.trees.Programs.{Fn}
use Rattle.rules_expansion.specs.declared.hidden.Hidden.TheVariants.{ScopeResult}
use Rattle.rules_expansion.specs.declared.primitive.Primitive.{Primitive}
use Rattle.rules_expansion.specs.declared.primitive.Primitive.TheVariants.{PutMVar}
use Rattle.rules_meaning.specs.Values.{V, Cell}
use Rattle.rules_waiting.specs.Waiting.{Reason, Taking, Reading, Putting, Throwing, Sleeping, Waiting}
use Rattle.hs_rules.specs.Terms.{Calls, Part, Throw, Performs, Frame, BindTo, CatchBy, MaskIn, mask_at}
use Rattle.hs_rules.specs.State.{Thread, State}
use Rattle.hs_rules.specs.declared.entry.Entry.{Entry}
use Rattle.hs_rules.specs.Runs.{after}
use Rattle.hs_laws.specs.BracketLaw.{count, IsMasked}
use Rattle.hs_progress.specs.TypedStates.{Purpose, for_values, for_end, TypedState}
use Rattle.scope_laws.specs.ScopeLaw.{is_added, acting, guards_bind, guards_here, guards, IsFull, TakesOrTries, ScopeLaw}
use Rattle.scope_laws.specs.ScopePhases.{Role, Plain, Fresh, Running, Ended, IsOf, IsCell, Held}

-- ---- what cells are for

abbrev pub IsForValues : Option Purpose → Type 0
IsForValues (Some (for_values t)) = Unit {0}
IsForValues (Some (for_end t)) = ⊥
IsForValues None = ⊥

abbrev pub IsForEnd : Option Purpose → Type 0
IsForEnd (Some (for_end t)) = Unit {0}
IsForEnd (Some (for_values t)) = ⊥
IsForEnd None = ⊥

-- a cell is for values
abbrev pub at_values : List Purpose → ℕ → Type 0
at_values cells m = IsForValues (slice_get cells m)

-- A cell of a scope is for the end of its child. It is empty until that has put, and full from then on.
abbrev pub CellFits : Role → Option (Option V) → Option Purpose → Type 0
CellFits Plain c q = Unit {0}
CellFits (Fresh p) c q = (c ≡ Some None) × IsForEnd q
CellFits (Running p d) c q = (c ≡ Some None) × IsForEnd q
CellFits (Ended p) c q = ((v : V) × (c ≡ Some (Some v))) × IsForEnd q

-- whoever waits to take or to put waits at a cell for values
abbrev pub WaitsFor : List Purpose → Reason V → Type 0
WaitsFor cells (Taking m) = at_values cells m
WaitsFor cells (Reading m) = Unit {0}
WaitsFor cells (Putting m a) = at_values cells m
WaitsFor cells (Throwing u e) = Unit {0}
WaitsFor cells (Sleeping due) = Unit {0}

abbrev pub AllWaitFor : List Purpose → List (Waiting V) → Type 0
AllWaitFor cells [] = Unit {0}
AllWaitFor cells (w ∷ ws) = WaitsFor cells w.reason × AllWaitFor cells ws

-- ---- states

-- the part of each cell; and for each thread the cells that it guards, the innermost first, and that which it, as a child, has
-- still to put into
pub record Book : Type 0 where
  pub roles : ℕ → Role
  pub guarded : ℕ → List ℕ
  pub owed : ℕ → Option ℕ

-- a thread is in a phase of its scopes
abbrev pub HeldThread : List Purpose → Book → ℕ → Option Thread → Type 0
HeldThread cells b t None = (b.guarded t ≡ []) × (b.owed t ≡ None)
HeldThread cells b t (Some th) = Held (at_values cells) b.roles t (b.owed t) th.term.part th.term.frames (b.guarded t)

-- Each thread is in a phase of its scopes, and each cell is as its part says. While a child runs, the thread that runs its scope
-- guards the cell, by one of its scopes; and the child is there, and has still to put into it.
pub record Fits (cells : List Purpose) (b : Book) (s : State) : Type 0 where
  pub threads : (t : ℕ) → HeldThread cells b t (slice_get s.threads t)
  pub contents : (m : ℕ) → CellFits (b.roles m) (slice_get s.cells m) (slice_get cells m)
  pub once : (m p c : ℕ) → b.roles m ≡ Running p c → count m (b.guarded p) ≡ 1
  pub child : (m p c : ℕ) → b.roles m ≡ Running p c → b.owed c ≡ Some m
  pub lines : AllWaitFor cells s.blocked

-- ---- what that says of a thread, in plain words

-- where a bind guards, the state round it isn't Unmasked
abbrev pub MaskedGuards : List Frame → Type 0
MaskedGuards [] = Unit {0}
MaskedGuards (BindTo x b env ∷ fs) = (guards_bind x b env ≢ [] → IsMasked (mask_at fs)) × MaskedGuards fs
MaskedGuards (CatchBy x b env ∷ fs) = MaskedGuards fs
MaskedGuards (MaskIn m ∷ fs) = MaskedGuards fs

-- an exception directly inside a bind to E: the scope's cell is full
abbrev pub ThrownAtFull : State → Part → List Frame → Type 0
ThrownAtFull s (Throw e) (BindTo x b env ∷ fs) = is_added ScopeResult x ≡ true → (m : ℕ) → IsCell env m → IsFull s m
ThrownAtFull s _ _ = Unit {0}

-- What guards stands where the masking state isn't Unmasked; an exception goes directly to a bind to E only where the scope's cell is
-- full; into a cell for an end only the child of its scope puts; and nothing takes from one. What a thread guards or is acting on is
-- such a cell, of a scope that it runs or ran, or whose child it is.
pub record StandsInScopes (cells : List Purpose) (b : Book) (s : State) (t : ℕ) (th : Thread) : Type 0 where
  pub here : guards_here th.term.part th.term.frames ≢ [] → IsMasked (mask_at th.term.frames)
  pub binds : MaskedGuards th.term.frames
  pub thrown : ThrownAtFull s th.term.part th.term.frames
  pub puts : (m : ℕ) (vs : List V) → th.term.part ≡ Performs (Calls PutMVar (Cell m ∷ vs)) → IsForEnd (slice_get cells m) → (p : ℕ) × (b.roles m ≡ Running p t)
  pub takes : (w : Primitive) (m : ℕ) (vs : List V) → TakesOrTries w → th.term.part ≡ Performs (Calls w (Cell m ∷ vs)) → IsForEnd (slice_get cells m) → ⊥
  pub guarded : (m : ℕ) → count m (guards th.term.part th.term.frames) ≢ 0 → IsForEnd (slice_get cells m) × IsOf t (b.roles m)
  pub acted : (m : ℕ) → count m (acting th.term.part th.term.frames) ≢ 0 → IsForEnd (slice_get cells m) × (p : ℕ) × (b.roles m ≡ Running p t)

-- a typed state, and a book that fits it and what its store says of cells
pub record Scoped (ds : List Fn) (s : State) : Type 0 where
  pub typed : TypedState ds s
  pub book : Book
  pub fits : Fits typed.store.cells book s
  pub stands : (t : ℕ) (th : Thread) → slice_get s.threads t ≡ Some th → StandsInScopes typed.store.cells book s t th

-- ---- the law

-- Both hold at every moment of a history.
pub record ScopesKept (ds : List Fn) (es : List Entry) : Type 0 where
  pub law : (front back : List Entry) (s : State) → es ≡ front ++ back → after ds front ≡ Some s → ScopeLaw s
  pub fact : (front back : List Entry) (s : State) → es ≡ front ++ back → after ds front ≡ Some s → Scoped ds s
