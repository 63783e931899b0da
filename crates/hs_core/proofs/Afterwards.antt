-- Forms whose first parts stand already, and the rest of a form after its first parts.
use Rattle.std.proofs.Common.{◌≡◌, sym, ap, subst}
use Rattle.std.proofs.lemmas.Result.{IfOk-weaker}
use Rattle.std.specs.Prelude.{List, Result, IfOk}
use Rattle.rules_code.specs.declared.node.ExprId.{ExprId}
use Rattle.rules_code.specs.declared.act.Act.{Act}
use Rattle.rules_code.specs.declared.act.ActId.{ActId}
use Rattle.rules_code.specs.Slots.{Sx, Scope, tree_in}
use Rattle.rules_code.specs.CodeTrees.{Sa, act_in, act_decode}
use Rattle.rules_expansion.specs.trees.Programs.{SurfaceAction}
use Rattle.rules_expansion.specs.Core.{Core}
use Rattle.rules_expansion.specs.Expansion.{core}
use Rattle.hs_nodes.specs.Names.{scope_of}
use Rattle.hs_core.specs.declared.defs.Defs.{Defs}
use Rattle.hs_core.specs.declared.emitter.ActEmitter.{ActEmitter}
use Rattle.hs_core.specs.Defining.{Knows}
use Rattle.hs_core.specs.Emits.{DoneIn, StandsIn, Emits, EmitsEx, Pushed}
use Rattle.hs_core.specs.Opening.{core_tree, action_tree}
use Rattle.hs_core.proofs.ActArena.{knows_on}
use Rattle.hs_core.proofs.Steps.{goes, goes_ex, goes_on, kept, kept_ex, at, emits, follow, done_ex2}

-- ---- what stood before, and blocks after it

pub held_branch : {a m n : ActEmitter} {e : ExprId} {i j id : ActId} {v : Scope → Sa} (d : Defs) (t : Sx) (r : Sa) (mk : ExprId → ActId → ActId → Act) (mt : Sx → Sa → Sa → Sa)
    → ((ts : List Sx) (us : List Sa) (x : ExprId) (y z : ActId) → act_decode ts us (mk x y z) ≡ mt (tree_in ts x) (act_in us y) (act_in us z))
    → Emits (Knows a.emitter.nodes d) a m j v → Pushed m n id (mk e i j) → Emits (Knows a.emitter.nodes d × StandsIn a e t × DoneIn a i r) a n id (λ s. mt t r (v s))
held_branch d t r mk mt dec f p = emits (goes f) p (λ k. done_ex2 mk mt dec p (kept_ex (goes f) k.1) (kept (goes f) k.2) (f.is k.0))

-- ---- the rest of a form

pub all_as_core : {E : Type 0} (r : Result ActId E) (a n : ActEmitter) (d : Defs) (x y : Core) → y ≡ x → IfOk r (λ id. Emits (Knows a.emitter.nodes d) a n id (λ s. core_tree d s x)) → IfOk r (λ id. Emits (Knows a.emitter.nodes d) a n id (λ s. core_tree d s y))
all_as_core r a n d x y e h = subst (λ z. IfOk r (λ id. Emits (Knows a.emitter.nodes d) a n id (λ s. core_tree d s z))) (sym e) h

pub all_as_action : {E : Type 0} (r : Result ActId E) (a n : ActEmitter) (d : Defs) (p q : SurfaceAction) → q ≡ p → IfOk r (λ id. Emits (Knows a.emitter.nodes d) a n id (λ s. action_tree d s p)) → IfOk r (λ id. Emits (Knows a.emitter.nodes d) a n id (λ s. action_tree d s q))
all_as_action r a n d p q e h = all_as_core r a n d (core p) (core q) (ap core e) h

pub act_then : {E : Type 0} {b : ActEmitter} {i : ActId} (r : Result ActId E) (a n : ActEmitter) (t : Scope → Sa) (d : Defs) (mt : Scope → Sa → Sa) → Emits (Knows a.emitter.nodes d) a b i t
    → ((x : Sa) → IfOk r (λ id. Emits (Knows b.emitter.nodes d × DoneIn b i x) b n id (λ s. mt s x))) → IfOk r (λ id. Emits (Knows a.emitter.nodes d) a n id (λ s. mt s (t s)))
act_then {b = m} {i = j} r a n t d mt e h =
    let u : Sa = t (scope_of a.emitter.scope) in
    IfOk-weaker r (λ id. Emits (Knows m.emitter.nodes d × DoneIn m j u) m n id (λ s. mt s u)) (λ id. Emits (Knows a.emitter.nodes d) a n id (λ s. mt s (t s)))
    (λ id z. follow (goes e) (goes z) (λ k. at {t = λ s. mt s u} (goes e) z (knows_on e.nodes k, e.is k))) (h u)

pub ex_act_then : {E : Type 0} {b m : ActEmitter} {e : ExprId} {i : ActId} (r : Result ActId E) (a n : ActEmitter) (t : Scope → Sx) (v : Scope → Sa) (d : Defs) (mt : Scope → Sx → Sa → Sa) → EmitsEx (Knows a.emitter.nodes d) a b e t → Emits (Knows b.emitter.nodes d) b m i v
    → ((x : Sx) (y : Sa) → IfOk r (λ id. Emits (Knows m.emitter.nodes d × StandsIn m e x × DoneIn m i y) m n id (λ s. mt s x y))) → IfOk r (λ id. Emits (Knows a.emitter.nodes d) a n id (λ s. mt s (t s) (v s)))
ex_act_then {m = l} {e = g} {i = j} r a n t v d mt e f h =
    let u : Sx = t (scope_of a.emitter.scope) in
    let y : Sa = v (scope_of a.emitter.scope) in
    let w = goes_on (goes_ex e) (goes f) in
    IfOk-weaker r (λ id. Emits (Knows l.emitter.nodes d × StandsIn l g u × DoneIn l j y) l n id (λ s. mt s u y)) (λ id. Emits (Knows a.emitter.nodes d) a n id (λ s. mt s (t s) (v s)))
    (λ id z. follow w (goes z) (λ k. at {t = λ s. mt s u y} w z (knows_on f.nodes (knows_on e.nodes k), kept_ex (goes f) (e.is k), at (goes_ex e) f (knows_on e.nodes k)))) (h u y)
