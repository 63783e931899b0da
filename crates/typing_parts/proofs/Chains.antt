-- Chains of operators: their links from the left, and those of `:` and `++` in two passes.
use Rattle.std.proofs.Common.{◌≡◌, ℕ, ◌+◌, suc, List, [], ◌∷◌, ◌++◌, length, drop, get_or, ◌<◌, Option, refl, ap, ◌∙◌, sym, append_assoc, arith}
use Rattle.std.proofs.Math.Seq.{drop-cons}
use Rattle.hs_base.specs.declared.pos.Pos.{Pos}
use Rattle.hs_base.specs.declared.tree.expr.Link.{Link}
use Rattle.hs_base.specs.declared.tree.expr.ListLink.{ListLink}
use Rattle.hs_base.specs.declared.tree.expr.SumLink.{SumLink}
use Rattle.typing_table.specs.declared.table.TypeNode.{TypeNode}
use Rattle.typing_table.specs.declared.ty.TypeTerm.{TypeTerm}
use Rattle.hs_base.specs.declared.tree.forms.BinaryForm.{BinaryForm}
use Rattle.rules_expansion.specs.trees.Trees.{T, Ex, Links, link, ex_of, links_of, sum_links_of, list_links_of, sum_form, cons_form}
use Rattle.rules_typing.specs.Typing.{Fault, Ctx, TypedName, row_binary}
use Rattle.typing_judge.specs.Judging.{Found, after, with2, own, parts2, typed, folded, judge, judge_links, operand_faults, operand_types}
use Rattle.typing_judge.proofs.Chains.{links_after}
use Rattle.typing_judge.specs.Least.{least}
use Rattle.typing_parts.specs.Views.{opt_ty, opts_of}
use Rattle.typing_parts.proofs.Noted.{least-append}

abbrev row : BinaryForm → Pos → T → T → Found
row o p u v = own p (row_binary o u v)

-- one more link
pub links_step : (c : Ctx) (s : List TypedName) (o m n l : Option Fault) (f : BinaryForm) (p : Pos) (e : Ex) (ks : Links) (t u w : Option T) (whole : Found)
    → (judge_links c s (typed t) (link f p e ks)).type ≡ whole.type
    → least m (judge_links c s (typed t) (link f p e ks)).faults ≡ least o whole.faults
    → u ≡ (judge c s e).type → n ≡ least m (judge c s e).faults
    → w ≡ (with2 t u (λ u v. own p (row_binary f u v))).type → l ≡ least n (with2 t u (λ u v. own p (row_binary f u v))).faults
    → ((judge_links c s (typed w) ks).type ≡ whole.type) × (least l (judge_links c s (typed w) ks).faults ≡ least o whole.faults)
links_step c s o m n l f p e ks t u w whole ht hf eu en ew el =
    let a = judge c s e in
    let y : Found = parts2 (typed t) a (row f p) in
    let b : Found = with2 t a.type (row f p) in
    let k : judge_links c s (typed t) (link f p e ks) ≡ after y.faults (judge_links c s (typed y.type) ks) = links_after c s ks y in
    let r : Found = judge_links c s (typed y.type) ks in
    let w1 : w ≡ y.type = ew ∙ ap (λ z. (with2 t z (row f p)).type) eu in
    let l1 : l ≡ least (least m a.faults) b.faults = el ∙ (ap (λ z. least n (with2 t z (row f p)).faults) eu ∙ ap (λ z. least z b.faults) en) in (
      ap (λ z. (judge_links c s (typed z) ks).type) w1 ∙ (sym (ap (λ z. z.type) k) ∙ ht),
      ap (λ z. least l (judge_links c s (typed z) ks).faults) w1 ∙ (ap (λ z. least z r.faults) l1 ∙ (sym (least-append (least m a.faults) b.faults r.faults) ∙ (sym (least-append m a.faults (b.faults ++ r.faults))
          ∙ (ap (least m) (sym (append_assoc a.faults b.faults r.faults)) ∙ (sym (ap (λ z. least m z.faults) k) ∙ hf))))),
    )

pub links-drop : (f : BinaryForm) (ks : List Link) (i : ℕ) (k : Link) → i < length ks → k ≡ get_or ks i k → links_of f (drop i ks) ≡ link f k.pos (ex_of k.operand) (links_of f (drop (i + 1) ks))
links-drop f ks i k lt is = ap (links_of f) (drop-cons ks i k lt ∙ (ap (λ z. z ∷ drop (suc i) ks) (sym is) ∙ ap (λ j. k ∷ drop j ks) (let z : suc i ≡ i + 1 = omega arith in z)))

pub sum_links-drop : (ks : List SumLink) (i : ℕ) (k : SumLink) → i < length ks → k ≡ get_or ks i k → sum_links_of (drop i ks) ≡ link (sum_form k.op) k.pos (ex_of k.operand) (sum_links_of (drop (i + 1) ks))
sum_links-drop ks i k lt is = ap sum_links_of (drop-cons ks i k lt ∙ (ap (λ z. z ∷ drop (suc i) ks) (sym is) ∙ ap (λ j. k ∷ drop j ks) (let z : suc i ≡ i + 1 = omega arith in z)))

pub list_links-drop : (ks : List ListLink) (i : ℕ) (k : ListLink) → i < length ks → k ≡ get_or ks i k → list_links_of (drop i ks) ≡ link (cons_form k.op) k.pos (ex_of k.operand) (list_links_of (drop (i + 1) ks))
list_links-drop ks i k lt is = ap list_links_of (drop-cons ks i k lt ∙ (ap (λ z. z ∷ drop (suc i) ks) (sym is) ∙ ap (λ j. k ∷ drop j ks) (let z : suc i ≡ i + 1 = omega arith in z)))

opts_of-length : (ms : List TypeNode) (ts : List (Option TypeTerm)) → length (opts_of ms ts) ≡ length ts
opts_of-length ms [] = refl
opts_of-length ms (t ∷ ts) = ap suc (opts_of-length ms ts)

operands-length : (c : Ctx) (s : List TypedName) (ks : List ListLink)
    → length (operand_types c s (list_links_of ks)) ≡ length ks
operands-length c s [] = refl
operands-length c s (k ∷ ks) = ap suc (operands-length c s ks)

pub gathered-length : (ms : List TypeNode) (c : Ctx) (s : List TypedName) (x : Option T) (ts : List (Option TypeTerm)) (ks : List ListLink) → opts_of ms ts ≡ x ∷ operand_types c s (list_links_of ks) → length ts ≡ 1 + length ks
gathered-length ms c s x ts ks h = let a = opts_of-length ms ts in let b = operands-length c s ks in let e : length (opts_of ms ts) ≡ suc (length (operand_types c s (list_links_of ks))) = ap length h in omega (arith, a, b, e)

pub opts_of-push : (ms : List TypeNode) (ts : List (Option TypeTerm)) (t : Option TypeTerm) → opts_of ms (ts ++ t ∷ []) ≡ opts_of ms ts ++ opt_ty ms t ∷ []
opts_of-push ms [] t = refl
opts_of-push ms (x ∷ ts) t = ap (λ z. opt_ty ms x ∷ z) (opts_of-push ms ts t)

-- one more operand
pub operands_step : (ms : List TypeNode) (c : Ctx) (s : List TypedName) (o m n : Option Fault) (p : Pos) (f : BinaryForm) (e : Ex) (ks whole : Links) (x : Option T) (ts us : List (Option TypeTerm)) (t : Option TypeTerm)
    → opts_of ms ts ++ operand_types c s (link f p e ks) ≡ x ∷ operand_types c s whole
    → least m (operand_faults c s (link f p e ks)) ≡ least o (operand_faults c s whole)
    → opt_ty ms t ≡ (judge c s e).type → n ≡ least m (judge c s e).faults → us ≡ ts ++ t ∷ []
    → (opts_of ms us ++ operand_types c s ks ≡ x ∷ operand_types c s whole) × (least n (operand_faults c s ks) ≡ least o (operand_faults c s whole))
operands_step ms c s o m n p f e ks whole x ts us t ht hf et en eu =
    let r = operand_types c s ks in (
      ap (λ z. opts_of ms z ++ r) eu ∙ (ap (λ z. z ++ r) (opts_of-push ms ts t) ∙ (append_assoc (opts_of ms ts) (opt_ty ms t ∷ []) r ∙ (ap (λ z. opts_of ms ts ++ z ∷ r) et ∙ ht))),
      ap (λ z. least z (operand_faults c s ks)) en ∙ (sym (least-append m (judge c s e).faults (operand_faults c s ks)) ∙ hf),
    )

pub opts_of-drop : (ms : List TypeNode) (ts : List (Option TypeTerm)) (i : ℕ) (t : Option TypeTerm) → i < length ts → t ≡ get_or ts i t → opts_of ms (drop i ts) ≡ opt_ty ms t ∷ opts_of ms (drop (i + 1) ts)
opts_of-drop ms ts i t lt is = ap (opts_of ms) (drop-cons ts i t lt ∙ (ap (λ z. z ∷ drop (suc i) ts) (sym is) ∙ ap (λ j. t ∷ drop j ts) (let z : suc i ≡ i + 1 = omega arith in z)))

-- one more node, from the right
pub folded_step : (ms : List TypeNode) (ts : List (Option TypeTerm)) (ks : List ListLink) (i j : ℕ) (t : Option TypeTerm) (k : ListLink) → j ≡ i + 1 → i < length ts → t ≡ get_or ts i t → i < length ks → k ≡ get_or ks i k
    → folded (opts_of ms (drop i ts)) (list_links_of (drop i ks)) ≡ after (folded (opts_of ms (drop j ts)) (list_links_of (drop j ks))).faults (with2 (opt_ty ms t) (folded (opts_of ms (drop j ts)) (list_links_of (drop j ks))).type (λ u v. own k.pos (row_binary (cons_form k.op) u v)))
folded_step ms ts ks i j t k e lt is lk ik =
    let a : folded (opts_of ms (drop i ts)) (list_links_of (drop i ks)) ≡ folded (opt_ty ms t ∷ opts_of ms (drop (i + 1) ts)) (link (cons_form k.op) k.pos (ex_of k.operand) (list_links_of (drop (i + 1) ks))) =
    ap (λ z. folded z (list_links_of (drop i ks))) (opts_of-drop ms ts i t lt is) ∙ ap (folded (opt_ty ms t ∷ opts_of ms (drop (i + 1) ts))) (list_links-drop ks i k lk ik) in
    a ∙ ap (λ n. after (folded (opts_of ms (drop n ts)) (list_links_of (drop n ks))).faults (with2 (opt_ty ms t) (folded (opts_of ms (drop n ts)) (list_links_of (drop n ks))).type (λ u v. own k.pos (row_binary (cons_form k.op) u v)))) (sym e)
