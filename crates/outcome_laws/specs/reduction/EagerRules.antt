-- Eager rules (own): small steps that a search over all schedules may take at once, and needn't put off.
--
-- A local rule changes one thread alone, and what others do comes to the same before it and after it. Only an exception from
-- outside may reach the thread before the rule or after it, which can make a difference: round the one stands a handler that
-- isn't round the other, or the one is masked. A local rule is eager where such an exception would come to the same before it
-- and after it: the thread can receive none there, or the rule throws nothing and enters and leaves no `catch` and no masking
-- scope but an unmasked one. Where nobody throws at a thread each local rule is, and so is the end of a thread by a value,
-- unless it is the main one.
use Rattle.std.specs.Prelude.{◌≡◌, ◌≢◌, ◌⊎◌, ℕ, zero, suc, Bool, true, false, not, ◌&&◌, ◌||◌, List, [], ◌∷◌, Option, Some, None, slice_get}
use Rattle.rules_meaning.specs.CoreMeaning.{Code}
use Rattle.rules_waiting.specs.Waiting.{is_blocked}
use Rattle.hs_rules.specs.declared.entry.Entry.TheVariants as entry
use Rattle.hs_rules.specs.Terms.{Part, Ret, Throw, Do, Performs, Frame, BindTo, CatchBy, MaskIn, Term, mask_at}
use Rattle.hs_rules.specs.LocalRules.{first_step}
use Rattle.hs_rules.specs.State.{Thread, State}
use Rattle.hs_rules.specs.Entries.{is_throw, is_unmasked, Leads}
use Rattle.hs_rules.specs.Endings.{is_ret}
use Rattle.outcome_laws.specs.reduction.NoThrowTo.{NobodyThrows}

-- whether an exception passes this frame and isn't handled there, and a thread can receive one inside it where it can outside
abbrev pub passes : Frame → Bool
passes (BindTo x b env) = true
passes (CatchBy x b env) = false
passes (MaskIn m) = is_unmasked m

-- so of all these frames
abbrev pub passes_all : List Frame → Bool
passes_all [] = true
passes_all (f ∷ fs) = passes f && passes_all fs

-- whether a thread that isn't blocked can receive nothing there: it throws already, or is masked
abbrev pub receives_nothing : Part → List Frame → Bool
receives_nothing p fs = is_throw p || not (is_unmasked (mask_at fs))

-- an action's first step throws nothing, and an exception passes the frames that it adds
abbrev pub step_is_eager : Option Term → Bool
step_is_eager None = false
step_is_eager (Some x) = not (is_throw x.part) && passes_all x.frames

-- an exception passes the frame that a value leaves, and nothing is masked behind it
abbrev pub leaving_is_eager : List Frame → Bool
leaving_is_eager [] = false
leaving_is_eager (f ∷ fs) = passes f && is_unmasked (mask_at fs)

-- whether the local rule of a term is eager though its thread may receive there
abbrev pub is_eager_though_open : Code → Part → List Frame → Bool
is_eager_though_open code (Ret v) fs = leaving_is_eager fs
is_eager_though_open code (Throw e) fs = false
is_eager_though_open code (Do a env) fs = step_is_eager (first_step code (mask_at fs) a env)
is_eager_though_open code (Performs p) fs = false

-- whether the local rule of a term is eager, where one applies
abbrev pub is_eager : Code → Part → List Frame → Bool
is_eager code p fs = receives_nothing p fs || is_eager_though_open code p fs

-- whether the local rule of a thread that is there is
abbrev pub thread_is_eager : Code → Option Thread → Bool
thread_is_eager code None = false
thread_is_eager code (Some th) = is_eager code th.term.part th.term.frames

-- One eager local rule of thread t leads from a state to another: eager by its term, or since nobody throws at a thread.
pub record EagerRule (code : Code) (t : ℕ) (s u : State) : Type 0 where
  pub leads : Leads code s (entry.Local t 1) u
  pub eager : (thread_is_eager code (slice_get s.threads t) ≡ true) ⊎ NobodyThrows code s

-- the active part of a thread that is there is a value
abbrev pub has_value : Option Thread → Bool
has_value None = false
has_value (Some th) = is_ret th.term.part

-- An eager Finish of thread t leads from a state to another: it isn't the main one, it isn't blocked and finishes by a value,
-- and nobody throws at a thread.
pub record EagerFinish (code : Code) (t : ℕ) (s u : State) : Type 0 where
  pub other : 0 ≢ t
  pub free : is_blocked t s.blocked ≡ false
  pub value : has_value (slice_get s.threads t) ≡ true
  pub nobody_throws : NobodyThrows code s
  pub leads : Leads code s (entry.Finish t) u

-- an eager local rule, or an eager Finish, leads from a state to another
abbrev pub EagerStep : Code → State → State → Type 0
EagerStep code s u = ((t : ℕ) × EagerRule code t s u) ⊎ ((t : ℕ) × EagerFinish code t s u)

-- a chain of so many eager steps, of any threads, leads from a state to another
abbrev pub EagerSteps : Code → ℕ → State → State → Type 0
EagerSteps code zero s r = s ≡ r
EagerSteps code (suc k) s r = (m : State) × EagerStep code s m × EagerSteps code k m r
