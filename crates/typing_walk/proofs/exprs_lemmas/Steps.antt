-- Steps of the walk, over the states of the checker.
use Rattle.std.proofs.Common.{◌≡◌, ℕ, ◌+◌, ◌<◌, List, [], ◌∷◌, ◌++◌, length, drop, get_or, Option, refl, ap, ◌∙◌, sym}
use Rattle.hs_base.specs.declared.pos.Pos.{Pos}
use Rattle.typing_table.specs.declared.table.TypeNode.{TypeNode}
use Rattle.typing_table.specs.declared.ty.TypeTerm.{TypeTerm}
use Rattle.hs_base.specs.declared.tree.expr.Expr.{Expr}
use Rattle.hs_base.specs.declared.tree.forms.BinaryForm.{BinaryForm}
use Rattle.rules_expansion.specs.trees.Trees.{T, Ex, Links, link, ex_of, exs_of}
use Rattle.rules_typing.specs.Typing.{Ctx, TypedName, row_binary}
use Rattle.typing_judge.specs.Judging.{Found, Founds, own, parts2, typed, with2, judge, judges, judge_links, operand_faults, operand_types}
use Rattle.typing_judge.specs.Least.{least}
use Rattle.typing_parts.specs.Views.{opt_ty, opts_of}
use Rattle.typing_parts.specs.Judged.{names, kept, pushed, Judged}
use Rattle.typing_parts.specs.declared.checker.Checker.{Checker}
use Rattle.typing_parts.proofs.Noted.{least-append, all_joined, judged_step}
use Rattle.typing_parts.proofs.Chains.{links_step, operands_step}

-- a node with two parts, in the scope before the first
abbrev over : Ctx → List TypedName → BinaryForm → Pos → Option T → Ex → Found
over c s f p t e = parts2 (typed t) (judge c s e) (λ u v. own p (row_binary f u v))

-- one more link of a chain
pub link_step : (ms : List TypeNode) (c : Ctx) (o m n : Checker) (f g : BinaryForm) (p : Pos) (e : Ex) (all ks : Links) (t w : Option T) (whole : Found)
    → names ms m ≡ names ms o → all ≡ link f p e ks → g ≡ f
    → (judge_links c (names ms o) (typed t) all).type ≡ whole.type → least (kept ms m) (judge_links c (names ms o) (typed t) all).faults ≡ least (kept ms o) whole.faults
    → Judged ms m n w (over c (names ms m) g p t e)
    → ((judge_links c (names ms o) (typed w) ks).type ≡ whole.type) × (least (kept ms n) (judge_links c (names ms o) (typed w) ks).faults ≡ least (kept ms o) whole.faults)
link_step ms c o m n f g p e all ks t w whole hs is hg ht hf h =
    let s = names ms o in
    let a = judge c s e in
    let b = with2 t a.type (λ u v. own p (row_binary f u v)) in
    links_step c s (kept ms o) (kept ms m) (least (kept ms m) a.faults) (kept ms n) f p e ks t a.type w whole
    (ap (λ z. (judge_links c s (typed t) z).type) (sym is) ∙ ht)
    (ap (λ z. least (kept ms m) (judge_links c s (typed t) z).faults) (sym is) ∙ hf)
    refl
    refl
    (h.type ∙ (ap (λ z. (over c z g p t e).type) hs ∙ ap (λ z. (over c s z p t e).type) hg))
    (h.faults ∙ (ap (λ z. least (kept ms m) (over c z g p t e).faults) hs ∙ (ap (λ z. least (kept ms m) (over c s z p t e).faults) hg ∙ least-append (kept ms m) a.faults b.faults)))

-- one more operand of `:` and `++`
pub operand_step : (ms : List TypeNode) (c : Ctx) (o m n : Checker) (p : Pos) (f : BinaryForm) (e : Ex) (all ks whole : Links) (x : Option T) (ts us : List (Option TypeTerm)) (t : Option TypeTerm)
    → names ms m ≡ names ms o → all ≡ link f p e ks
    → opts_of ms ts ++ operand_types c (names ms o) all ≡ x ∷ operand_types c (names ms o) whole
    → least (kept ms m) (operand_faults c (names ms o) all) ≡ least (kept ms o) (operand_faults c (names ms o) whole)
    → Judged ms m n (opt_ty ms t) (judge c (names ms m) e) → us ≡ ts ++ t ∷ []
    → (opts_of ms us ++ operand_types c (names ms o) ks ≡ x ∷ operand_types c (names ms o) whole) × (least (kept ms n) (operand_faults c (names ms o) ks) ≡ least (kept ms o) (operand_faults c (names ms o) whole))
operand_step ms c o m n p f e all ks whole x ts us t hs is ht hf h eu =
    let s = names ms o in
    operands_step ms c s (kept ms o) (kept ms m) (kept ms n) p f e ks whole x ts us t
    (ap (λ z. opts_of ms ts ++ operand_types c s z) (sym is) ∙ ht)
    (ap (λ z. least (kept ms m) (operand_faults c s z)) (sym is) ∙ hf)
    (h.type ∙ ap (λ z. (judge c z e).type) hs)
    (h.faults ∙ ap (λ z. least (kept ms m) (judge c z e).faults) hs)
    eu

-- one more expression of a row
pub part_step : (ms : List TypeNode) (c : Ctx) (o m n : Checker) (es : List Expr) (e : Expr) (i : ℕ) (ts us : Option (List T)) (t : Option T) (whole : Founds)
    → names ms m ≡ names ms o → i < length es → e ≡ get_or es i e
    → all_joined ts (judges c (names ms o) (exs_of (drop i es))).types ≡ whole.types
    → least (kept ms m) (judges c (names ms o) (exs_of (drop i es))).faults ≡ least (kept ms o) whole.faults
    → Judged ms m n t (judge c (names ms m) (ex_of e)) → us ≡ pushed ts t
    → (all_joined us (judges c (names ms o) (exs_of (drop (i + 1) es))).types ≡ whole.types) × (least (kept ms n) (judges c (names ms o) (exs_of (drop (i + 1) es))).faults ≡ least (kept ms o) whole.faults)
part_step ms c o m n es e i ts us t whole hs lt is ht hf h eu =
    judged_step c (names ms o) (kept ms o) (kept ms m) (kept ms n) es e i ts us t whole lt is ht hf
    (h.type ∙ ap (λ z. (judge c z (ex_of e)).type) hs)
    (h.faults ∙ ap (λ z. least (kept ms m) (judge c z (ex_of e)).faults) hs)
    eu
