-- The typing rules of definitions and scripts (own).
--
-- A body has its definition's declared type, else Mismatch is broken at the definition's name. Of two definitions of one
-- name the later breaks Twice. Where a definition's head is broken, its body isn't judged; a call elsewhere is judged by
-- the head as it is written. Large is judged where a definition is otherwise sound.
use Rattle.std.specs.Prelude.{◌≡◌, ℕ, ◌+◌, ◌<◌, ◌⊎◌, ◌&&◌, List, [], ◌∷◌, ◌++◌, length, Bool, true, false, cond, Option, Some, None, ltb, codes}
use Rattle.hs_base.specs.declared.tree.expr.Name.{Name}
use Rattle.hs_base.specs.declared.tree.script.Script.{Script}
use Rattle.rules_expansion.specs.trees.Trees.{T, unit, Wr}
use Rattle.rules_expansion.specs.trees.Programs.{Par, Bd, pure_body, io_body, Fn, script_of}
use Rattle.rules_typing.specs.Typing.{Fault, twice, scope, wide, large, nodes, is, FirstUnmet, TypedName, bound, Sig, Ctx, find, HasType, BreaksIn}
use Rattle.rules_typing.specs.TypingActions.{BlHas, BlBreaks}
use Rattle.rules_typing.specs.TypingFaults.{In, Precedes}
use Rattle.rules_expansion.specs.Sizes.{body_size}
use Rattle.rules_typing.specs.TypingSizes.{Extent, nil, called_extent, worst_body, param_names}

-- ---- heads

abbrev pub result_of : Bd → Wr
result_of (pure_body w e) = w
result_of (io_body w a) = w

abbrev pub acts : Bd → Bool
acts (pure_body w e) = false
acts (io_body w a) = true

abbrev pub param_types : List Par → List T
param_types [] = []
param_types (p ∷ ps) = p.ty.ty ∷ param_types ps

abbrev pub sig_of_fn : ℕ → Fn → Sig
sig_of_fn k d = record { spelling = d.name.text; acts = acts d.body; params = param_types d.params; result = (result_of d.body).ty; place = k }

abbrev pub sigs_from : ℕ → List Fn → List Sig
sigs_from k [] = []
sigs_from k (d ∷ ds) = sig_of_fn k d ∷ sigs_from (k + 1) ds

-- the scope of a body
abbrev pub params_in : List TypedName → List Par → List TypedName
params_in s [] = s
params_in s (p ∷ ps) = params_in (bound p.name p.ty.ty ∷ s) ps

abbrev pub wide_faults : Wr → List Fault
wide_faults w = cond (ltb 64 (nodes w.ty)) (wide w.pos ∷ []) []

abbrev pub room_faults : List TypedName → Name → List Fault
room_faults s x = cond (ltb 63 (length s)) (scope x.pos ∷ []) []

abbrev pub param_faults : List TypedName → List Par → List Fault
param_faults s [] = []
param_faults s (p ∷ ps) = (wide_faults p.ty ++ room_faults s p.name) ++ param_faults (bound p.name p.ty.ty ∷ s) ps

abbrev pub head_faults : Fn → List Fault
head_faults d = param_faults [] d.params ++ wide_faults (result_of d.body)

abbrev pub twice_by : Name → ℕ → Option Sig → List Fault
twice_by x k None = []
twice_by x k (Some g) = cond (ltb g.place k) (twice x.pos ∷ []) []

abbrev pub twice_faults : Ctx → Name → List Fault
twice_faults c x = twice_by x c.here (find c.sigs x.text)

-- ---- definitions

abbrev pub BodyHas : Ctx → List TypedName → Bd → T → Type 0
BodyHas c s (pure_body w e) t = HasType c s e t
BodyHas c s (io_body w a) t = BlHas c s a t

abbrev pub BodyBreaks : Ctx → List TypedName → Bd → Fault → Type 0
BodyBreaks c s (pure_body w e) f = BreaksIn c s e f
BodyBreaks c s (io_body w a) f = BlBreaks c s a f

-- the body has another type than the declared one
abbrev pub Ends : Ctx → Fn → Fault → Type 0
Ends c d f = (u : T) × BodyHas c (params_in [] d.params) d.body u × FirstUnmet d.name.pos (is (result_of d.body).ty u ∷ []) f

-- the rules that a definition breaks, Large aside
abbrev pub DefBreaks : Ctx → Fn → Fault → Type 0
DefBreaks c d f = In (twice_faults c d.name) f ⊎ (In (head_faults d) f ⊎ ((head_faults d ≡ []) × (BodyBreaks c (params_in [] d.params) d.body f ⊎ Ends c d f)))

-- ---- Large

abbrev pub none_of : List Fault → Bool
none_of [] = true
none_of (f ∷ fs) = false

-- what was measured of the definitions before one: how far a call of each unfolds, and their expanded sizes together
pub record Measured : Type 0 where
  pub extents : List Extent
  pub total : ℕ

abbrev pub unmeasured : Measured
unmeasured = record { extents = []; total = 0 }

-- a definition whose head is broken unfolds to nothing; the script is refused for its head
abbrev pub fn_extent : List Sig → List Extent → Fn → Extent
fn_extent gs xs d = cond (none_of (head_faults d)) (called_extent gs xs (param_names [] d.params) d.body) nil

abbrev pub measured_with : List Sig → Measured → Fn → Measured
measured_with gs m d = record { extents = m.extents ++ fn_extent gs m.extents d ∷ []; total = m.total + body_size d.body }

-- an expression of it unfolds too far, or the expanded sizes up to and with it are too much
abbrev pub IsLarge : List Sig → Measured → Fn → Type 0
IsLarge gs m d = let x = worst_body gs m.extents (param_names [] d.params) d.body in (100000 < x.size) ⊎ (1000 < x.height) ⊎ (1000000 < m.total + body_size d.body)

abbrev pub LargeBreaks : Ctx → Measured → Fn → Fault → Type 0
LargeBreaks c m d f = ((g : Fault) → DefBreaks c d g → ⊥) × (IsLarge c.sigs m d × (f ≡ large d.name.pos))

-- ---- scripts

-- from the definition with number k on, where m was measured of those before
abbrev pub AnyBreaks : List Sig → Measured → ℕ → List Fn → Fault → Type 0
AnyBreaks sigs m k [] f = ⊥
AnyBreaks sigs m k (d ∷ ds) f = (DefBreaks (record { sigs = sigs; here = k }) d f ⊎ LargeBreaks (record { sigs = sigs; here = k }) m d f) ⊎ AnyBreaks sigs (measured_with sigs m d) (k + 1) ds f

-- a rule that a script breaks
abbrev pub ScriptBreaks : List Fn → Fault → Type 0
ScriptBreaks ds f = AnyBreaks (sigs_from 0 ds) unmeasured 0 ds f

abbrev pub is_unit : T → Bool
is_unit unit = true
is_unit _ = false

abbrev pub is_none : List T → Bool
is_none [] = true
is_none (t ∷ ts) = false

abbrev pub main_by : Option Sig → Bool
main_by None = false
main_by (Some g) = g.acts && (is_none g.params && is_unit g.result)

-- the script has `main :: IO ()` without parameters
abbrev pub has_main : List Fn → Bool
has_main ds = main_by (find (sigs_from 0 ds) (codes "main"))

-- ---- what is answered for a script

abbrev pub NothingBroken : List Fn → Type 0
NothingBroken ds = (f : Fault) → ScriptBreaks ds f → ⊥

-- a script that the typing rules accept
abbrev pub Accepted : Script → Type 0
Accepted s = NothingBroken (script_of s) × (has_main (script_of s) ≡ true)

-- nothing is broken, but there is no such `main`
abbrev pub LacksMain : Script → Type 0
LacksMain s = NothingBroken (script_of s) × (has_main (script_of s) ≡ false)

-- the rule that is answered: broken, and none that is broken comes before it
abbrev pub IsFirstBroken : Script → Fault → Type 0
IsFirstBroken s f = ScriptBreaks (script_of s) f × ((g : Fault) → ScriptBreaks (script_of s) g → Precedes f g)
