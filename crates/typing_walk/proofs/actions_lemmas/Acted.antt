-- The rules by which actions and blocks are judged.
use Rattle.std.proofs.Common.{◌≡◌, ◌≤◌, ◌-◌, List, [], ◌∷◌, ◌++◌, length, drop, Bool, true, false, Option, Some, None, refl, ap, ◌∙◌, sym, subst, arith}
use Rattle.std.proofs.lemmas.List.{append-nil}
use Rattle.hs_base.specs.declared.tree.expr.Name.{Name}
use Rattle.rules_expansion.specs.trees.Trees.{T}
use Rattle.rules_typing.specs.Typing.{Fault, TypedName, bound, Ctx}
use Rattle.rules_expansion.specs.trees.Programs.{Bl}
use Rattle.typing_table.proofs.Equations.{type_rules}
use Rattle.rules_expansion.proofs.trees_lemmas.EquationsOfActions.{act_rules, act_arms_rules, stmt_rules}
use Rattle.typing_judge.specs.Judging.{Found, after, with1, part, not_full, full, unless, scope_faults}
use Rattle.typing_judge.specs.JudgingActions.{judge_bl}
use Rattle.typing_judge.specs.Least.{least}
use Rattle.typing_table.specs.declared.table.TypeNode.{TypeNode}
use Rattle.typing_parts.specs.Judged.{names, kept, Judged, Begun, BegunBy, Goes, Stated}
use Rattle.typing_parts.specs.declared.checker.Checker.{Checker}
use Rattle.typing_parts.proofs.Noted.{least-append, step_rules}

pub ruleset acted_rules = (step_rules, type_rules, act_rules)

pub ruleset caught_rules = (step_rules, type_rules)

pub ruleset arms_rules = (step_rules, act_arms_rules)

pub ruleset stated_rules = (step_rules, stmt_rules)

goes_by : (ms : List TypeNode) (c : Ctx) (s : List TypedName) (k : Option Fault) (b : Bool) (x : Name) (sf af : List Fault) (old new : Checker) (o : Option T) (rest : Bl)
    → names ms old ≡ s → kept ms old ≡ least (least k sf) af → BegunBy ms o old new b x
    → Goes b (after sf (after af (with1 o (λ u. judge_bl c (bound x u ∷ s) rest)))) (judge_bl c (names ms new) rest) k (kept ms new)
goes_by ms c s k b x sf af old new None rest es ek h =
    let w : Goes false (after sf (after af (with1 None (λ u. judge_bl c (bound x u ∷ s) rest)))) (judge_bl c (names ms new) rest) k (kept ms new) =
    (refl, least-append k sf (af ++ []) ∙ (ap (least (least k sf)) (append-nil af) ∙ (sym ek ∙ sym h.2))) in
    subst (λ z. Goes z (after sf (after af (with1 None (λ u. judge_bl c (bound x u ∷ s) rest)))) (judge_bl c (names ms new) rest) k (kept ms new)) (sym h.0) w
goes_by ms c s k b x sf af old new (Some u) rest es ek h =
    let e : bound x u ∷ s ≡ names ms new = sym (h.1 ∙ ap (λ z. bound x u ∷ z) es) in
    let r = judge_bl c (bound x u ∷ s) rest in
    let w : Goes true (after sf (after af r)) (judge_bl c (names ms new) rest) k (kept ms new) =
    (ap (λ z. (judge_bl c z rest).type) e, least-append k sf (af ++ r.faults) ∙ (least-append (least k sf) af r.faults ∙ (ap (λ z. least z r.faults) (sym ek ∙ sym h.2) ∙ ap (λ z. least (kept ms new) (judge_bl c z rest).faults) e))) in
    subst (λ z. Goes z (after sf (after af r)) (judge_bl c (names ms new) rest) k (kept ms new)) (sym h.0) w

back_none : (s n : List TypedName) → n ≡ s → (length s ≤ length n) × (drop (length n - length s) n ≡ s)
back_none s n e = (omega (arith, ap length e), ap (λ k. drop k n) (let z : length n - length s ≡ 0 = omega (arith, ap length e) in z) ∙ e)

back_one : (s n : List TypedName) (u : TypedName) → n ≡ u ∷ s → (length s ≤ length n) × (drop (length n - length s) n ≡ s)
back_one s n u e = (omega (arith, ap length e), ap (λ k. drop k n) (let z : length n - length s ≡ 1 = omega (arith, ap length e) in z) ∙ ap (drop 1) e)

back_by : (ms : List TypeNode) (s : List TypedName) (b : Bool) (x : Name) (old new : Checker) (o : Option T) → names ms old ≡ s → BegunBy ms o old new b x → (length s ≤ length (names ms new)) × (drop (length (names ms new) - length s) (names ms new) ≡ s)
back_by ms s b x old new None es h = back_none s (names ms new) (h.1 ∙ es)
back_by ms s b x old new (Some u) es h = back_one s (names ms new) (bound x u) (h.1 ∙ ap (λ z. bound x u ∷ z) es)

-- a statement that binds a name
pub stated : (ms : List TypeNode) (c : Ctx) (old one two new : Checker) (b : Bool) (x : Name) (t : Option T) (a : List TypedName → Found) (st : Bl → Bl)
    → ((rest : Bl) → judge_bl c (names ms old) (st rest) ≡ after (scope_faults (names ms old) x) (part (not_full (names ms old) (a (names ms old))) (λ u. judge_bl c (bound x u ∷ names ms old) rest)))
    → names ms one ≡ names ms old → kept ms one ≡ least (kept ms old) (scope_faults (names ms old) x)
    → Judged ms one two t (a (names ms one)) → Begun ms two new b x (unless (full (names ms two)) t) → Stated ms c old new b st
stated ms c old one two new b x t a st row e1 k1 j h =
    let e2 : names ms two ≡ names ms old = j.scope ∙ e1 in
    let et : unless (full (names ms two)) t ≡ unless (full (names ms old)) (a (names ms old)).type = ap (λ z. unless (full z) t) e2 ∙ ap (unless (full (names ms old))) (j.type ∙ ap (λ z. (a z).type) e1) in
    let h2 : BegunBy ms (unless (full (names ms old)) (a (names ms old)).type) two new b x = subst (λ z. BegunBy ms z two new b x) et h in
    let ek : kept ms two ≡ least (least (kept ms old) (scope_faults (names ms old) x)) (a (names ms old)).faults =
    j.faults ∙ (ap (λ z. least z (a (names ms one)).faults) k1 ∙ ap (λ z. least (least (kept ms old) (scope_faults (names ms old) x)) (a z).faults) e1) in
    let r = back_by ms (names ms old) b x two new (unless (full (names ms old)) (a (names ms old)).type) e2 h2 in record {
      long = r.0;
      back = r.1;
      goes = λ rest. subst (λ z. Goes b z (judge_bl c (names ms new) rest) (kept ms old) (kept ms new)) (sym (row rest))
          (goes_by ms c (names ms old) (kept ms old) b x (scope_faults (names ms old) x) (a (names ms old)).faults two new (unless (full (names ms old)) (a (names ms old)).type) rest e2 ek h2);
    }
