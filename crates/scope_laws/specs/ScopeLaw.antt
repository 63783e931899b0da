-- The law of async scopes (own): that no scope is left while its child still acts is what the documentation of
-- `Control.Concurrent.Async` promises of `withAsync`; that it is said of every run by the scopes' cells is this project's own.
--
-- In one use of `withAsync` let C be the block of the child, the thread that it forks, P the last action of C, K what follows
-- `$t <-`, L what follows the `let`, E what follows `$y <-`, and F its `return $y`. No script can write the names that an
-- expansion adds, and each has one role, so they tell which part an action is.
use Rattle.std.specs.Prelude.{◌≡◌, ◌≢◌, ℕ, Bool, false, cond, ◌&&◌, ◌||◌, ◌⊎◌, List, [], ◌∷◌, ◌++◌, Option, Some, slice_get}
use Rattle.rules_expansion.specs.Names.{Name, Added, same_name}
use Rattle.rules_expansion.specs.declared.hidden.Hidden.{Hidden}
use Rattle.rules_expansion.specs.declared.hidden.Hidden.TheVariants.{ScopeCell, Child, ChildEnding, ScopeResult}
use Rattle.rules_expansion.specs.declared.primitive.Primitive.{Primitive}
use Rattle.rules_expansion.specs.declared.primitive.Primitive.TheVariants.{TakeMVar, PutMVar, TryTakeMVar, TryPutMVar}
use Rattle.rules_expansion.specs.Core.{CoreEx, Read, PairRead, Core, Return, Let, Bind, Perform}
use Rattle.rules_meaning.specs.Values.{V, Cell, Env, value_at}
use Rattle.hs_rules.specs.Terms.{Operation, Calls, Part, Ret, Throw, Do, Performs, Frame, BindTo, CatchBy, MaskIn}
use Rattle.hs_rules.specs.State.{Thread, State}
use Rattle.hs_laws.specs.BracketLaw.{count}

-- a name is this one of those that expansions add
abbrev pub is_added : Hidden → Name → Bool
is_added h x = same_name x (Added h)

abbrev pub cell_of : Option V → List ℕ
cell_of (Some (Cell m)) = m ∷ []
cell_of _ = []

-- the number of $v in an environment
abbrev pub cell_in : Env → List ℕ
cell_in env = cell_of (value_at (Added ScopeCell) env)

-- ---- the numbers that a term is acting on: it is that of a child whose action hasn't ended

-- by a bind to P
abbrev pub acting_bind : Name → Env → List ℕ
acting_bind x env = cond (is_added ChildEnding x) (cell_in env) []

-- by C
abbrev pub acting_do : Core → Env → List ℕ
acting_do (Bind x a b) env = acting_bind x env
acting_do _ env = []

abbrev pub acting_frames : List Frame → List ℕ
acting_frames [] = []
acting_frames (BindTo x b env ∷ fs) = acting_bind x env ++ acting_frames fs
acting_frames (CatchBy x b env ∷ fs) = acting_frames fs
acting_frames (MaskIn s ∷ fs) = acting_frames fs

-- a value that comes to P is how the action ended
abbrev pub acting_ret : List Frame → List ℕ
acting_ret [] = []
acting_ret (f ∷ fs) = acting_frames fs

abbrev pub acting : Part → List Frame → List ℕ
acting (Ret v) fs = acting_ret fs
acting (Throw e) fs = acting_frames fs
acting (Do a env) fs = acting_do a env ++ acting_frames fs
acting (Performs op) fs = acting_frames fs

-- ---- the numbers that a term guards: it is between the fork of a scope and the end of the scope's last STOP

-- return $y
abbrev pub returns_result : Core → Bool
returns_result (Return (Read y)) = is_added ScopeResult y
returns_result _ = false

-- ($t, $v)
abbrev pub is_async : CoreEx → Bool
is_async (PairRead y z) = is_added Child y && is_added ScopeCell z
is_async _ = false

-- by a bind to E, or to F
abbrev pub guards_bind : Name → Core → Env → List ℕ
guards_bind x b env = cond (is_added ScopeResult x || returns_result b) (cell_in env) []

-- by K, L or E
abbrev pub guards_do : Core → Env → List ℕ
guards_do (Let x e a) env = cond (is_async e) (cell_in env) []
guards_do (Bind x a b) env = guards_bind x b env
guards_do _ env = []

-- by a value that comes to K
abbrev pub guards_ret : List Frame → List ℕ
guards_ret (BindTo x b env ∷ fs) = cond (is_added Child x) (cell_in env) []
guards_ret _ = []

abbrev pub guards_here : Part → List Frame → List ℕ
guards_here (Ret v) fs = guards_ret fs
guards_here (Throw e) fs = []
guards_here (Do a env) fs = guards_do a env
guards_here (Performs op) fs = []

abbrev pub guards_frames : List Frame → List ℕ
guards_frames [] = []
guards_frames (BindTo x b env ∷ fs) = guards_bind x b env ++ guards_frames fs
guards_frames (CatchBy x b env ∷ fs) = guards_frames fs
guards_frames (MaskIn s ∷ fs) = guards_frames fs

abbrev pub guards : Part → List Frame → List ℕ
guards p fs = guards_here p fs ++ guards_frames fs

-- ---- the numbers that a term ends: it is that of a child that has in hand how its action ended, and is about to put that; or that
-- of any put

-- by a value that comes to P
abbrev pub ending_ret : List Frame → List ℕ
ending_ret (BindTo x b env ∷ fs) = acting_bind x env
ending_ret _ = []

-- by P: putMVar $v $z
abbrev pub ending_do : Core → Env → List ℕ
ending_do (Perform PutMVar (Read x ∷ es)) env = cond (is_added ScopeCell x) (cell_in env) []
ending_do _ env = []

-- by the put itself
abbrev pub ending_op : Operation → List ℕ
ending_op (Calls PutMVar (Cell m ∷ vs)) = m ∷ []
ending_op _ = []

abbrev pub ending : Part → List Frame → List ℕ
ending (Ret v) fs = ending_ret fs
ending (Throw e) fs = []
ending (Do a env) fs = ending_do a env
ending (Performs op) fs = ending_op op

-- ---- threads and cells

-- thread t is there, hasn't finished, and is acting on cell m
pub record Acts (s : State) (m t : ℕ) : Type 0 where
  pub thread : Thread
  pub is : slice_get s.threads t ≡ Some thread
  pub unfinished : thread.finished ≡ false
  pub on : count m (acting thread.term.part thread.term.frames) ≢ 0

-- thread t is there, hasn't finished, and guards cell m
pub record Guards (s : State) (m t : ℕ) : Type 0 where
  pub thread : Thread
  pub is : slice_get s.threads t ≡ Some thread
  pub unfinished : thread.finished ≡ false
  pub on : count m (guards thread.term.part thread.term.frames) ≢ 0

-- thread t is there, hasn't finished, and is about to put into cell m
pub record Ends (s : State) (m t : ℕ) : Type 0 where
  pub thread : Thread
  pub is : slice_get s.threads t ≡ Some thread
  pub unfinished : thread.finished ≡ false
  pub on : count m (ending thread.term.part thread.term.frames) ≢ 0

-- the cell is there and full
abbrev pub IsFull : State → ℕ → Type 0
IsFull s m = (v : V) × (slice_get s.cells m ≡ Some (Some v))

-- exactly one thread guards the cell, by exactly one of its scopes
pub record OneGuards (s : State) (m : ℕ) : Type 0 where
  pub thread : ℕ
  pub guard : Guards s m thread
  pub once : count m (guards guard.thread.term.part guard.thread.term.frames) ≡ 1
  pub only : (u : ℕ) → Guards s m u → u ≡ thread

-- ---- what cells of scopes are for

-- what takes or may take, or puts without waiting
abbrev pub TakesOrTries : Primitive → Type 0
TakesOrTries TakeMVar = Unit {0}
TakesOrTries TryTakeMVar = Unit {0}
TakesOrTries TryPutMVar = Unit {0}
TakesOrTries w = ⊥

-- thread t is at this operation on cell m
pub record Asks (s : State) (w : Primitive) (m t : ℕ) : Type 0 where
  pub thread : Thread
  pub is : slice_get s.threads t ≡ Some thread
  pub values : List V
  pub part : thread.term.part ≡ Performs (Calls w (Cell m ∷ values))

-- The cell is for the end of one child: whoever puts into it is that child, which is acting on it until then, and no other thread
-- puts into it; and nothing takes from it.
pub record ForItsChild (s : State) (m : ℕ) : Type 0 where
  pub child : (t u : ℕ) → Asks s PutMVar m t → Acts s m u ⊎ Asks s PutMVar m u → t ≡ u
  pub takes : (w : Primitive) (t : ℕ) → TakesOrTries w → Asks s w m t → ⊥

-- ---- the law itself

-- Each number that an unfinished thread is acting on is guarded by exactly one unfinished thread, and no other thread is acting
-- on it. So where a thread has left an async scope, the child has ended its action. That holds where the main thread has
-- finished, too. A number that a thread guards has its end, or an unfinished thread is acting on it or about to put that. So no STOP
-- waits for a child that has gone without leaving its end. The cell of a number that a thread is acting on or guards is put into by
-- the scope's child alone, and never taken from.
pub record ScopeLaw (s : State) : Type 0 where
  pub guarded : (m t : ℕ) → Acts s m t → OneGuards s m
  pub alone : (m t u : ℕ) → Acts s m t → Acts s m u → t ≡ u
  pub awaited : (m t : ℕ) → Guards s m t → IsFull s m ⊎ ((u : ℕ) × (Acts s m u ⊎ Ends s m u))
  pub cells : (m t : ℕ) → Acts s m t ⊎ Guards s m t → ForItsChild s m
