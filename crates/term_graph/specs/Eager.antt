-- Eager rules of terms with slots (own): each is the rule of the same name in `outcome_laws/specs/reduction/EagerRules`, where it is said
-- of terms with names.
use Rattle.std.specs.Prelude.{◌≡◌, ℕ, zero, suc, Bool, true, false, not, ◌&&◌, ◌||◌, List, [], ◌∷◌, Option, Some, None}
use Rattle.hs_base.specs.declared.mask.Mask.{Mask}
use Rattle.hs_base.specs.declared.mask.Mask.TheVariants.{Unmasked, Masked, Uninterruptible}
use Rattle.rules_code.specs.CodeTrees.{SlottedFunction}
use Rattle.slot_laws.specs.SlotRules.{SlotPart, ret, throw, doing, performs, SlotFrame, bind_to, then_to, catch_by, mask_in, SlotTerm, mask_from, first_step, local}

abbrev pub is_unmasked : Mask → Bool
is_unmasked Unmasked = true
is_unmasked Masked = false
is_unmasked Uninterruptible = false

abbrev pub is_throw : SlotPart → Bool
is_throw (ret v) = false
is_throw (throw e) = true
is_throw (doing a vs) = false
is_throw (performs p) = false

-- whether an exception passes this frame and isn't handled there, and a thread can receive one inside it where it can outside
abbrev pub passes : SlotFrame → Bool
passes (bind_to a vs) = true
passes (then_to a vs) = true
passes (catch_by a vs) = false
passes (mask_in m) = is_unmasked m

abbrev pub passes_all : List SlotFrame → Bool
passes_all [] = true
passes_all (f ∷ fs) = passes f && passes_all fs

-- whether a thread that isn't blocked can receive nothing there
abbrev pub receives_nothing : SlotPart → List SlotFrame → Bool
receives_nothing p fs = is_throw p || not (is_unmasked (mask_from Unmasked fs))

-- an action's first step throws nothing, and an exception passes the frames that it adds
abbrev pub step_is_eager : Option SlotTerm → Bool
step_is_eager None = false
step_is_eager (Some x) = not (is_throw x.part) && passes_all x.frames

-- an exception passes the frame that a value leaves, and nothing is masked behind it
abbrev pub leaving_is_eager : List SlotFrame → Bool
leaving_is_eager [] = false
leaving_is_eager (f ∷ fs) = passes f && is_unmasked (mask_from Unmasked fs)

abbrev pub is_eager_though_open : List SlottedFunction → SlotPart → List SlotFrame → Bool
is_eager_though_open funs (ret v) fs = leaving_is_eager fs
is_eager_though_open funs (throw e) fs = false
is_eager_though_open funs (doing a vs) fs = step_is_eager (first_step funs (mask_from Unmasked fs) a vs)
is_eager_though_open funs (performs p) fs = false

-- whether the local rule of a term is eager, where one applies
abbrev pub is_eager : List SlottedFunction → SlotTerm → Bool
is_eager funs t = receives_nothing t.part t.frames || is_eager_though_open funs t.part t.frames

-- a chain of so many local rules, each eager by its term, leads from a term to another
abbrev pub EagerLocals : List SlottedFunction → ℕ → SlotTerm → SlotTerm → Type 0
EagerLocals funs zero t u = t ≡ u
EagerLocals funs (suc k) t u = (m : SlotTerm) × (local funs Unmasked t.part t.frames ≡ Some m) × (is_eager funs t ≡ true) × EagerLocals funs k m u
