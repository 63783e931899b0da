-- What marks say, and the law of brackets: that a resource is released once is what the documentation of
-- `Control.Exception` promises of `bracket`; that the law is said of every run by marks is this project's own.
use Rattle.std.specs.Prelude.{◌≡◌, ◌≢◌, ◌<◌, ℕ, suc, ◌≤◌, ◌==◌, List, [], ◌∷◌, ◌++◌, slice_get, true, cond, Option, Some}
use Rattle.hs_base.specs.declared.mask.Mask.{Mask}
use Rattle.hs_base.specs.declared.mask.Mask.TheVariants.{Unmasked, Masked, Uninterruptible}
use Rattle.rules_expansion.specs.Names.{Name, Added}
use Rattle.rules_expansion.specs.declared.hidden.Hidden.TheVariants.{Instance, BracketResult, BracketFault}
use Rattle.rules_meaning.specs.Values.{V, Inst, Env, value_at}
use Rattle.rules_expansion.specs.Core.{Core, Bind, Perform, Catch}
use Rattle.rules_expansion.specs.declared.primitive.Primitive.{Primitive}
use Rattle.rules_expansion.specs.declared.primitive.Primitive.TheVariants.{Release}
use Rattle.hs_rules.specs.Terms.{Operation, Calls, Part, Ret, Throw, Do, Performs, Frame, BindTo, CatchBy, MaskIn, mask_at}
use Rattle.hs_rules.specs.State.{Mark, AcquiredBy, ReleasedBy, Thread, State}

abbrev pub without : ℕ → List ℕ → List ℕ
without i [] = []
without i (j ∷ js) = cond (i == j) js (j ∷ without i js)

-- the acquired and unreleased instances of a thread, the latest first
abbrev pub mine : ℕ → List Mark → List ℕ
mine t [] = []
mine t (AcquiredBy i u ∷ ms) = cond (t == u) (i ∷ mine t ms) (mine t ms)
mine t (ReleasedBy i u ∷ ms) = cond (t == u) (without i (mine t ms)) (mine t ms)

-- how often an instance was acquired, and by a thread; how often released, and by a thread
abbrev pub acquired : ℕ → List Mark → ℕ
acquired i [] = 0
acquired i (AcquiredBy j u ∷ ms) = cond (i == j) (suc (acquired i ms)) (acquired i ms)
acquired i (ReleasedBy j u ∷ ms) = acquired i ms

abbrev pub acquired_by : ℕ → ℕ → List Mark → ℕ
acquired_by i t [] = 0
acquired_by i t (AcquiredBy j u ∷ ms) = cond (i == j) (cond (t == u) (suc (acquired_by i t ms)) (acquired_by i t ms)) (acquired_by i t ms)
acquired_by i t (ReleasedBy j u ∷ ms) = acquired_by i t ms

abbrev pub released : ℕ → List Mark → ℕ
released i [] = 0
released i (AcquiredBy j u ∷ ms) = released i ms
released i (ReleasedBy j u ∷ ms) = cond (i == j) (suc (released i ms)) (released i ms)

abbrev pub released_by : ℕ → ℕ → List Mark → ℕ
released_by i t [] = 0
released_by i t (AcquiredBy j u ∷ ms) = released_by i t ms
released_by i t (ReleasedBy j u ∷ ms) = cond (i == j) (cond (t == u) (suc (released_by i t ms)) (released_by i t ms)) (released_by i t ms)

-- how often a number stands in a list
abbrev pub count : ℕ → List ℕ → ℕ
count i [] = 0
count i (j ∷ js) = cond (i == j) (suc (count i js)) (count i js)

-- each mark's number is below this one
abbrev pub Numbered : ℕ → List Mark → Type 0
Numbered n [] = Unit {0}
Numbered n (AcquiredBy i t ∷ ms) = (i < n) × Numbered n ms
Numbered n (ReleasedBy i t ∷ ms) = (i < n) × Numbered n ms

-- Each number is acquired at most once and released at most once, by the thread that acquired it, and exactly once where
-- that thread has finished.
pub record Brackets (s : State) : Type 0 where
  pub acquired_once : (i : ℕ) → acquired i s.marks ≤ 1
  pub released_once : (i : ℕ) → released i s.marks ≤ 1
  pub by_its_own : (i t : ℕ) → released_by i t s.marks ≤ acquired_by i t s.marks
  pub in_the_end : (i t : ℕ) (th : Thread) → slice_get s.threads t ≡ Some th → th.finished ≡ true → released_by i t s.marks ≡ acquired_by i t s.marks

-- ---- what a term owes, the innermost first
abbrev pub instance_of : Option V → List ℕ
instance_of (Some (Inst i)) = i ∷ []
instance_of _ = []

-- the number of $i in an environment
abbrev pub instance_in : Env → List ℕ
instance_in env = instance_of (value_at (Added Instance) env)

abbrev pub owed_word : Primitive → Env → List ℕ
owed_word Release env = instance_in env
owed_word _ env = []

abbrev pub owed_start : Core → Env → List ℕ
owed_start (Perform w es) env = owed_word w env
owed_start _ env = []

abbrev pub owed_bind : Name → Core → Env → List ℕ
owed_bind (Added BracketResult) a env = instance_in env
owed_bind _ a env = owed_start a env

abbrev pub owed_catch : Name → Env → List ℕ
owed_catch (Added BracketFault) env = instance_in env
owed_catch _ env = []

-- by an action that is about to run: K, E, R, the catch of K, or their release
abbrev pub owed_do : Core → Env → List ℕ
owed_do (Bind x a b) env = owed_bind x a env
owed_do (Catch a x b) env = owed_catch x env
owed_do (Perform w es) env = owed_word w env
owed_do _ env = []

abbrev pub owed_to : Name → V → Env → List ℕ
owed_to (Added Instance) v env = instance_of (Some v)
owed_to (Added BracketResult) v env = instance_in env
owed_to _ v env = []

-- by a value that comes to its context
abbrev pub owed_ret : V → List Frame → List ℕ
owed_ret v (BindTo x b env ∷ fs) = owed_to x v env
owed_ret v _ = []

abbrev pub owed_value : List V → List ℕ
owed_value (Inst i ∷ vs) = i ∷ []
owed_value _ = []

abbrev pub owed_op : Operation → List ℕ
owed_op (Calls Release vs) = owed_value vs
owed_op _ = []

abbrev pub owed_here : Part → List Frame → List ℕ
owed_here (Ret v) fs = owed_ret v fs
owed_here (Throw e) fs = []
owed_here (Do a env) fs = owed_do a env
owed_here (Performs op) fs = owed_op op

abbrev pub owed_frames : List Frame → List ℕ
owed_frames [] = []
owed_frames (BindTo x b env ∷ fs) = owed_frames fs
owed_frames (CatchBy x b env ∷ fs) = owed_catch x env ++ owed_frames fs
owed_frames (MaskIn s ∷ fs) = owed_frames fs

abbrev pub owed : Part → List Frame → List ℕ
owed p fs = owed_here p fs ++ owed_frames fs

-- ---- where what owes stands
abbrev pub IsMasked : Mask → Type 0
IsMasked Unmasked = ⊥
IsMasked Masked = Unit {0}
IsMasked Uninterruptible = Unit {0}

-- Where a Catch owes, the state round it isn't Unmasked.
abbrev pub MaskedCatches : List Frame → Type 0
MaskedCatches [] = Unit {0}
MaskedCatches (BindTo x b env ∷ fs) = MaskedCatches fs
MaskedCatches (CatchBy x b env ∷ fs) = (owed_catch x env ≢ [] → IsMasked (mask_at fs)) × MaskedCatches fs
MaskedCatches (MaskIn s ∷ fs) = MaskedCatches fs
