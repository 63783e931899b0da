-- Scripts in which nobody throws at a thread (own): there no exception comes from outside, and each local rule is eager.
use Rattle.std.specs.Prelude.{◌≡◌, ℕ, List, [], ◌∷◌, Option, Some, None, slice_get}
use Rattle.rules_expansion.specs.Core.{Core, Return, ThrowIo, Let, Bind, If, CaseMaybe, CaseEither, CaseList, CasePair, Call, Perform, Fork, ForkUnmask, Catch, MaskWith, MaskHard, Restore, ActionFunction}
use Rattle.rules_expansion.specs.declared.primitive.Primitive.{Primitive}
use Rattle.rules_expansion.specs.declared.primitive.Primitive.TheVariants.{ThrowTo}
use Rattle.rules_meaning.specs.CoreMeaning.{Code}
use Rattle.rules_waiting.specs.Waiting.{flight_of}
use Rattle.hs_rules.specs.Terms.{Operation, Calls, Forks, ForksUnmask, Part, Ret, Throw, Do, Performs, Frame, BindTo, CatchBy, MaskIn, Term}
use Rattle.hs_rules.specs.State.{Thread, State}

abbrev pub IsNotThrowTo : Primitive → Type 0
IsNotThrowTo ThrowTo = ⊥
IsNotThrowTo _ = Unit {0}

-- `throwTo` stands nowhere in an action
abbrev pub NoThrowTo : Core → Type 0
NoThrowTo (Return e) = Unit {0}
NoThrowTo (ThrowIo e) = Unit {0}
NoThrowTo (Let x e a) = NoThrowTo a
NoThrowTo (Bind x a b) = NoThrowTo a × NoThrowTo b
NoThrowTo (If e a b) = NoThrowTo a × NoThrowTo b
NoThrowTo (CaseMaybe e a x b) = NoThrowTo a × NoThrowTo b
NoThrowTo (CaseEither e x a y b) = NoThrowTo a × NoThrowTo b
NoThrowTo (CaseList e a x y b) = NoThrowTo a × NoThrowTo b
NoThrowTo (CasePair e x y b) = NoThrowTo b
NoThrowTo (Call f es) = Unit {0}
NoThrowTo (Perform p es) = IsNotThrowTo p
NoThrowTo (Fork a) = NoThrowTo a
NoThrowTo (ForkUnmask r a) = NoThrowTo a
NoThrowTo (Catch a x b) = NoThrowTo a × NoThrowTo b
NoThrowTo (MaskWith r a) = NoThrowTo a
NoThrowTo (MaskHard r a) = NoThrowTo a
NoThrowTo (Restore r a) = NoThrowTo a

abbrev pub NoThrowToOperation : Operation → Type 0
NoThrowToOperation (Calls p vs) = IsNotThrowTo p
NoThrowToOperation (Forks a env) = NoThrowTo a
NoThrowToOperation (ForksUnmask r a env) = NoThrowTo a

abbrev pub NoThrowToPart : Part → Type 0
NoThrowToPart (Ret v) = Unit {0}
NoThrowToPart (Throw e) = Unit {0}
NoThrowToPart (Do a env) = NoThrowTo a
NoThrowToPart (Performs o) = NoThrowToOperation o

abbrev pub NoThrowToFrames : List Frame → Type 0
NoThrowToFrames [] = Unit {0}
NoThrowToFrames (BindTo x b env ∷ fs) = NoThrowTo b × NoThrowToFrames fs
NoThrowToFrames (CatchBy x b env ∷ fs) = NoThrowTo b × NoThrowToFrames fs
NoThrowToFrames (MaskIn m ∷ fs) = NoThrowToFrames fs

abbrev pub NoThrowToTerm : Term → Type 0
NoThrowToTerm u = NoThrowToPart u.part × NoThrowToFrames u.frames

abbrev pub NoThrowToThread : Option Thread → Type 0
NoThrowToThread None = Unit {0}
NoThrowToThread (Some th) = NoThrowToTerm th.term

abbrev pub NoThrowToActions : List ActionFunction → Type 0
NoThrowToActions [] = Unit {0}
NoThrowToActions (d ∷ ds) = NoThrowTo d.body × NoThrowToActions ds

-- no thread is to throw at one, and no exception is in flight
pub record NoThrowToState (s : State) : Type 0 where
  pub threads : (t : ℕ) → NoThrowToThread (slice_get s.threads t)
  pub flight : flight_of s.blocked ≡ []

-- so of all threads of a state, and of all action functions
abbrev pub NobodyThrows : Code → State → Type 0
NobodyThrows code s = NoThrowToActions code.actions × NoThrowToState s
