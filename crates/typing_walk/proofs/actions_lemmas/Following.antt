-- The steps of an action one after another.
use Rattle.std.proofs.Common.{◌≡◌, List, ◌++◌, Option, Result, ap, ◌∙◌, sym, subst, append_assoc}
use Rattle.std.specs.Prelude.{IfOk}
use Rattle.std.proofs.lemmas.Result.{IfOk-weaker}
use Rattle.hs_base.specs.declared.no_memory.NoMemory.{NoMemory}
use Rattle.typing_table.specs.declared.table.TypeNode.{TypeNode}
use Rattle.typing_table.specs.declared.ty.TypeTerm.{TypeTerm}
use Rattle.rules_expansion.specs.trees.Trees.{T}
use Rattle.rules_typing.specs.Typing.{TypedName}
use Rattle.typing_judge.specs.Judging.{Found, with1, with2, part, parts2}
use Rattle.typing_judge.specs.Least.{least}
use Rattle.typing_parts.specs.Views.{opt_ty}
use Rattle.typing_parts.specs.Judged.{names, kept, Judged}
use Rattle.typing_parts.specs.declared.checker.Checker.{Checker}
use Rattle.typing_parts.proofs.Noted.{least-append}
use Rattle.typing_walk.specs.actions.Parts.{second_part}

-- ---- parts one after another

pub step1 : (ms : List TypeNode) (o m n : Checker) (t r : Option T) (x : Found) (k : List TypedName → T → Found)
    → Judged ms o m t x → Judged ms m n r (with1 t (k (names ms m))) → Judged ms o n r (part x (k (names ms o)))
step1 ms o m n t r x k a b = record {
  scope = b.scope ∙ a.scope;
  type = b.type ∙ (ap (λ z. (with1 t (k z)).type) a.scope ∙ ap (λ z. (with1 z (k (names ms o))).type) a.type);
  faults = b.faults ∙ (ap (λ z. least z (with1 t (k (names ms m))).faults) a.faults ∙ (ap (λ z. least (least (kept ms o) x.faults) (with1 t (k z)).faults) a.scope
      ∙ (ap (λ z. least (least (kept ms o) x.faults) (with1 z (k (names ms o))).faults) a.type ∙ sym (least-append (kept ms o) x.faults (with1 x.type (k (names ms o))).faults))));
}

pub step2 : (ms : List TypeNode) (o m n : Checker) (t r : Option T) (x : Found) (y : List TypedName → Found) (k : T → T → Found)
    → Judged ms o m t x → Judged ms m n r (second_part t (y (names ms m)) k) → Judged ms o n r (parts2 x (y (names ms o)) k)
step2 ms o m n t r x y k a b = let v = y (names ms o) in record {
  scope = b.scope ∙ a.scope;
  type = b.type ∙ (ap (λ z. (with2 t (y z).type k).type) a.scope ∙ ap (λ z. (with2 z v.type k).type) a.type);
  faults = b.faults ∙ (ap (λ z. least z (second_part t (y (names ms m)) k).faults) a.faults ∙ (ap (λ z. least (least (kept ms o) x.faults) (second_part t (y z) k).faults) a.scope
      ∙ (ap (λ z. least (least (kept ms o) x.faults) (second_part z v k).faults) a.type ∙ (sym (least-append (kept ms o) x.faults (v.faults ++ (with2 x.type v.type k).faults))
      ∙ ap (least (kept ms o)) (sym (append_assoc x.faults v.faults (with2 x.type v.type k).faults))))));
}

-- ---- an action whose last step answers

pub tail0 : (ms : List TypeNode) (o n : Checker) (r : Result (Option TypeTerm) NoMemory) (f x : Found) → f ≡ x → IfOk r (λ t. Judged ms o n (opt_ty ms t) x) → IfOk r (λ t. Judged ms o n (opt_ty ms t) f)
tail0 ms o n r f x e h = subst (λ z. IfOk r (λ t. Judged ms o n (opt_ty ms t) z)) (sym e) h

pub tail1 : (ms : List TypeNode) (o m n : Checker) (r : Result (Option TypeTerm) NoMemory) (t : Option T) (f x : Found) (k : List TypedName → T → Found) → f ≡ part x (k (names ms o))
    → Judged ms o m t x → IfOk r (λ z. Judged ms m n (opt_ty ms z) (with1 t (k (names ms m)))) → IfOk r (λ z. Judged ms o n (opt_ty ms z) f)
tail1 ms o m n r t f x k e a h = subst (λ y. IfOk r (λ z. Judged ms o n (opt_ty ms z) y)) (sym e) (IfOk-weaker r _ _ (λ z g. step1 ms o m n t (opt_ty ms z) x k a g) h)

pub tail2 : (ms : List TypeNode) (o m n : Checker) (r : Result (Option TypeTerm) NoMemory) (t : Option T) (f x : Found) (y : List TypedName → Found) (k : T → T → Found) → f ≡ parts2 x (y (names ms o)) k
    → Judged ms o m t x → IfOk r (λ z. Judged ms m n (opt_ty ms z) (second_part t (y (names ms m)) k)) → IfOk r (λ z. Judged ms o n (opt_ty ms z) f)
tail2 ms o m n r t f x y k e a h = subst (λ y. IfOk r (λ z. Judged ms o n (opt_ty ms z) y)) (sym e) (IfOk-weaker r _ _ (λ z g. step2 ms o m n t (opt_ty ms z) x y k a g) h)
