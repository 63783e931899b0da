-- An expression's nodes break each rule at each position no more often than a node stands there.
use Rattle.std.proofs.Common.{ℕ, ◌+◌, ◌≤◌, cond, List, [], ◌∷◌, ◌++◌, length, Option, Some, None, refl, arith, ltb}
use Rattle.std.specs.Prelude.{◌==◌}
use Rattle.hs_base.specs.declared.pos.Pos.{Pos}
use Rattle.hs_base.specs.declared.tree.expr.Name.{Name}
use Rattle.hs_base.specs.declared.tree.forms.BinaryForm.{BinaryForm}
use Rattle.rules_expansion.specs.trees.Trees.{T, Ex, lit, name, unary, binary, chain, conses, choose, items, empty, side, given, case, Exs, none, more, Links, end, link, Arms, maybe_arms, either_arms, list_arms, pair_arms}
use Rattle.rules_typing.specs.Typing.{Fault, of, kind, forward, Sig, Sort, value, masking_name, meant_act_sig, meant_act_sort, unmask_sig, unmask_sort, row_unary, row_binary, row_empty, row_side, row_choose, row_items, row_arms, form_of_arms, first_of, second_of, inner_of, Ctx, TypedName, bound, wrong, arity, takes, meant_args, meant_sig, meant_sort, meant, shown_count, find, look, count}
use Rattle.typing_judge.specs.Judging.{Found, after, own, written, unless_full, typed, folded, with2, scope_faults, not_full, part, parts2, operand_faults, operand_types, judge, judges, judge_links, judge_arms}
use Rattle.front_laws.specs.typing.Positions.{ex_positions, exs_positions, link_positions, arm_positions}
use Rattle.front_laws.proofs.typing_lemmas.Counts.{here, times, times-append}
use Rattle.front_laws.proofs.typing_lemmas.Tally.{tally, tally-append, Most, needing_most, own_most, written_most, after_most, part_most, parts2_most, parts3_most, all_most, room_most, unless_full_most, WrongAt, MaybeAt, wrong_cond, call_most}

-- ---- a rule that a name breaks is broken at the name
args_at : (p : Pos) (n : ℕ) (params : List T) (t : T) → WrongAt p (meant_args p n params t)
args_at p n params t = wrong_cond p (length params == n) (takes params t) (wrong (arity p (shown_count (length params)) (shown_count n))) tt refl

sig_at : (c : Ctx) (p : Pos) (n : ℕ) (o : Option Sig) → WrongAt p (meant_sig c p n o)
sig_at c p n None = refl
sig_at c p n (Some g) =
    wrong_cond p g.acts (wrong (kind p)) (cond (ltb g.place c.here) (meant_args p n g.params g.result) (wrong (forward p))) refl
    (wrong_cond p (ltb g.place c.here) (meant_args p n g.params g.result) (wrong (forward p)) (args_at p n g.params g.result) refl)

sort_at : (c : Ctx) (x : Name) (n : ℕ) (o : Option Sort) → WrongAt x.pos (meant_sort c x n o)
sort_at c x n None = sig_at c x.pos n (find c.sigs x.text)
sort_at c x n (Some masking_name) = refl
sort_at c x n (Some (value t)) = args_at x.pos n [] t

act_sig_at : (p : Pos) (n : ℕ) (o : Option Sig) → WrongAt p (meant_act_sig p n o)
act_sig_at p n None = refl
act_sig_at p n (Some g) = wrong_cond p g.acts (meant_args p n g.params g.result) (wrong (kind p)) (args_at p n g.params g.result) refl

pub act_sort_at : (c : Ctx) (x : Name) (n : ℕ) (o : Option Sort) → WrongAt x.pos (meant_act_sort c x n o)
act_sort_at c x n None = act_sig_at x.pos n (find c.sigs x.text)
act_sort_at c x n (Some sort) = refl

unmask_sig_at : (p : Pos) (o : Option Sig) → MaybeAt p (unmask_sig p o)
unmask_sig_at p None = refl
unmask_sig_at p (Some g) = refl

pub unmask_sort_at : (c : Ctx) (x : Name) (o : Option Sort) → MaybeAt x.pos (unmask_sort c x o)
unmask_sort_at c x None = unmask_sig_at x.pos (find c.sigs x.text)
unmask_sort_at c x (Some masking_name) = tt
unmask_sort_at c x (Some (value t)) = refl

module _ (q : Pos) (r : ℕ) where
  -- a node over its parts
  pub over1 : (fs : List Fault) (p : Pos) (A : List Pos) → tally q r fs ≤ times q A + here q p → tally q r fs ≤ times q (p ∷ A)
  over1 fs p A h = omega (arith, h)

  pub over2 : (fs : List Fault) (p : Pos) (A B : List Pos) → tally q r fs ≤ times q A + times q B + here q p → tally q r fs ≤ times q (p ∷ (A ++ B))
  over2 fs p A B h = omega (arith, h, times-append q A B)

  pub over3 : (fs : List Fault) (p : Pos) (A B C : List Pos) → tally q r fs ≤ times q A + times q B + times q C + here q p → tally q r fs ≤ times q (p ∷ (A ++ (B ++ C)))
  over3 fs p A B C h = omega (arith, h, times-append q A (B ++ C), times-append q B C)

  -- a name that is bound over two parts
  pub given_most : (s : List TypedName) (x : Name) (a : Found) (k : T → Found) (A B : List Pos) → Most q r a (times q A) → ((u : T) → Most q r (k u) (times q B))
      → Most q r (after (scope_faults s x) (part (not_full s a) k)) (times q (x.pos ∷ (A ++ B)))
  given_most s x a k A B h g =
      let x' : Found = after (scope_faults s x) (part (not_full s a) k) in
      let w : Most q r x' (here q x.pos + (times q A + times q B)) = after_most q r (scope_faults s x) (part (not_full s a) k) (here q x.pos) (times q A + times q B) (room_most q r s x) (part_most q r (not_full s a) k (times q A) (times q B) h g) in
      over2 x'.faults x.pos A B (omega (arith, w))

  -- a case, whose arms are broken at its position too
  pub cased : (a : Found) (k : T → Found) (p : Pos) (A B : List Pos) → Most q r a (times q A) → ((u : T) → Most q r (k u) (times q B + here q p)) → Most q r (part a k) (times q (p ∷ (A ++ B)))
  cased a k p A B h g = omega (arith, part_most q r a k (times q A) (times q B + here q p) h g, times-append q A B)

  folded_more : (x : Option T) (y : Found) (k : T → T → Found) (m n : ℕ) → Most q r y m → ((u v : T) → Most q r (k u v) n) → Most q r (after y.faults (with2 x y.type k)) (m + n)
  folded_more x y k m n h g = omega (arith, parts2_most q r (typed x) y k 0 m n (omega arith) h g)

  -- parts beside one another
  pub beside : (A B : List Pos) (fs : List Fault) → tally q r fs ≤ times q A + times q B → tally q r fs ≤ times q (A ++ B)
  beside A B fs h = omega (arith, h, times-append q A B)

  pub joined_most : (fs gs : List Fault) (A B : List Pos) → tally q r fs ≤ times q A → tally q r gs ≤ times q B → tally q r (fs ++ gs) ≤ times q (A ++ B)
  joined_most fs gs A B h k = omega (arith, h, k, times-append q A B, tally-append q r fs gs)

  linked_most : (n : ℕ) (p : Pos) (A B : List Pos) (fs : List Fault) → tally q r fs ≤ n + times q A + here q p + times q B → tally q r fs ≤ n + times q (p ∷ (A ++ B))
  linked_most n p A B fs h = omega (arith, h, times-append q A B)

  -- two arms
  pub arms2 : (a b : Found) (k : T → T → Found) (p : Pos) (A B : List Pos) → Most q r a (times q A) → Most q r b (times q B) → ((u v : T) → Most q r (k u v) (here q p))
      → Most q r (parts2 a b k) (times q (A ++ B) + here q p)
  arms2 a b k p A B h g f = omega (arith, parts2_most q r a b k (times q A) (times q B) (here q p) h g f, times-append q A B)

  pub more_most : (x : Found) (m n : ℕ) → Most q r x m → Most q r x (m + n)
  more_most x m n h = omega (arith, h)

  -- a name that is bound over a part
  pub named : (s : List TypedName) (x : Name) (a : Found) (A : List Pos) → Most q r a (times q A) → Most q r (unless_full s x a) (times q (x.pos ∷ A))
  named s x a A h = omega (arith, unless_full_most q r s x a (times q A) h)

  ends_most : (ts : List (Option T)) → Most q r (folded ts end) 0
  ends_most [] = omega arith
  ends_most (t ∷ ts) = omega arith

  consed_most : (o : BinaryForm) (p : Pos) (e : Ex) (ks : Links) (ts : List (Option T)) (fs gs : List Fault) (A : List Pos) → tally q r fs ≤ times q A
      → ((us : List (Option T)) → tally q r gs + tally q r (folded us ks).faults ≤ times q (link_positions ks))
      → tally q r (fs ++ gs) + tally q r (folded ts (link o p e ks)).faults ≤ times q (p ∷ (A ++ link_positions ks))
  consed_most o p e ks [] fs gs A h g = omega (arith, h, g [], times-append q A (link_positions ks), tally-append q r fs gs)
  consed_most o p e ks (t ∷ ts) fs gs A h g =
      omega (
        arith,
        h,
        g ts,
        times-append q A (link_positions ks),
        tally-append q r fs gs,
        folded_more t (folded ts ks) (λ u v. own p (row_binary o u v)) (tally q r (folded ts ks).faults) (here q p) (omega arith) (λ u v. own_most q r p (row_binary o u v)),
      )

  -- ---- expressions
  mutual
    pub judge_most : (c : Ctx) (s : List TypedName) (e : Ex) → Most q r (judge c s e) (times q (ex_positions e))
    judge_most c s (lit p l) = omega arith
    judge_most c s (name x es) = over1 _ x.pos (exs_positions es) (call_most q r x.pos (meant c s x (count es)) (judges c s es) (times q (exs_positions es)) (sort_at c x (count es) (look s x.text)) (judges_most c s es))
    judge_most c s (unary o p a) = over1 _ p (ex_positions a) (part_most q r (judge c s a) _ (times q (ex_positions a)) (here q p) (judge_most c s a) (λ u. own_most q r p (row_unary o u)))
    judge_most c s (binary o p a e) =
        over2 _ p (ex_positions a) (ex_positions e)
        (parts2_most q r (judge c s a) (judge c s e) _ (times q (ex_positions a)) (times q (ex_positions e)) (here q p) (judge_most c s a) (judge_most c s e) (λ u v. own_most q r p (row_binary o u v)))
    judge_most c s (chain a ks) =
        beside (ex_positions a) (link_positions ks) _
        (after_most q r (judge c s a).faults (judge_links c s (typed (judge c s a).type) ks) (times q (ex_positions a)) (times q (link_positions ks)) (judge_most c s a) (omega (arith, links_most c s ks (typed (judge c s a).type) 0 (omega arith))))
    judge_most c s (conses a ks) =
        beside (ex_positions a) (link_positions ks) _
        (after_most q r (judge c s a).faults (after (operand_faults c s ks) (folded ((judge c s a).type ∷ operand_types c s ks) ks)) (times q (ex_positions a)) (times q (link_positions ks)) (judge_most c s a) (omega (arith, tally-append q r (operand_faults c s ks) (folded ((judge c s a).type ∷ operand_types c s ks) ks).faults, conses_most c s ks ((judge c s a).type ∷ operand_types c s ks))))
    judge_most c s (choose p e a g) =
        over3 _ p (ex_positions e) (ex_positions a) (ex_positions g)
        (parts3_most q r (judge c s e) (judge c s a) (judge c s g) _ (times q (ex_positions e)) (times q (ex_positions a)) (times q (ex_positions g)) (here q p) (judge_most c s e) (judge_most c s a) (judge_most c s g) (λ u v z. own_most q r p (row_choose u v z)))
    judge_most c s (items p es) = over1 _ p (exs_positions es) (all_most q r (judges c s es) _ (times q (exs_positions es)) (here q p) (judges_most c s es) (λ us. own_most q r p (row_items us)))
    judge_most c s (empty o p w) = over1 _ p (w.pos ∷ []) (part_most q r (written w) _ (times q (w.pos ∷ [])) (here q p) (omega (arith, written_most q r w)) (λ u. own_most q r p (row_empty o u)))
    judge_most c s (side o p w v a) =
        over3 _ p (w.pos ∷ []) (v.pos ∷ []) (ex_positions a)
        (parts3_most q r (written w) (written v) (judge c s a) _ (times q (w.pos ∷ [])) (times q (v.pos ∷ [])) (times q (ex_positions a)) (here q p) (omega (arith, written_most q r w)) (omega (arith, written_most q r v)) (judge_most c s a) (λ u v z. own_most q r p (row_side o u v z)))
    judge_most c s (given x a e) = given_most s x (judge c s a) _ (ex_positions a) (ex_positions e) (judge_most c s a) (λ u. judge_most c (bound x u ∷ s) e)
    judge_most c s (case p e arms) =
        cased (judge c s e) _ p (ex_positions e) (arm_positions arms) (judge_most c s e)
        (λ u. needing_most q r p (of (form_of_arms arms) u ∷ []) (judge_arms c s p u arms) (times q (arm_positions arms) + here q p) (omega arith) (arms_most c s p u arms))

    pub judges_most : (c : Ctx) (s : List TypedName) (es : Exs) → tally q r (judges c s es).faults ≤ times q (exs_positions es)
    judges_most c s none = omega arith
    judges_most c s (more e es) = joined_most (judge c s e).faults (judges c s es).faults (ex_positions e) (exs_positions es) (judge_most c s e) (judges_most c s es)

    links_most : (c : Ctx) (s : List TypedName) (ks : Links) (x : Found) (n : ℕ) → Most q r x n → Most q r (judge_links c s x ks) (n + times q (link_positions ks))
    links_most c s end x n h = omega (arith, h)
    links_most c s (link o p e ks) x n h =
        linked_most n p (ex_positions e) (link_positions ks) _
        (links_most c s ks (parts2 x (judge c s e) (λ u v. own p (row_binary o u v))) (n + times q (ex_positions e) + here q p)
        (parts2_most q r x (judge c s e) _ n (times q (ex_positions e)) (here q p) h (judge_most c s e) (λ u v. own_most q r p (row_binary o u v))))

    conses_most : (c : Ctx) (s : List TypedName) (ks : Links) (ts : List (Option T)) → tally q r (operand_faults c s ks) + tally q r (folded ts ks).faults ≤ times q (link_positions ks)
    conses_most c s end ts = omega (arith, ends_most ts)
    conses_most c s (link o p e ks) ts = consed_most o p e ks ts (judge c s e).faults (operand_faults c s ks) (ex_positions e) (judge_most c s e) (conses_most c s ks)

    arms_most : (c : Ctx) (s : List TypedName) (p : Pos) (u : T) (arms : Arms) → Most q r (judge_arms c s p u arms) (times q (arm_positions arms) + here q p)
    arms_most c s p u (maybe_arms a x e) =
        let k : List TypedName = bound x (inner_of u) ∷ s in
        arms2 (judge c s a) (unless_full s x (judge c k e)) _ p (ex_positions a) (x.pos ∷ ex_positions e) (judge_most c s a) (named s x (judge c k e) (ex_positions e) (judge_most c k e)) (λ v z. own_most q r p (row_arms v z))
    arms_most c s p u (either_arms x a y e) =
        let k : List TypedName = bound x (first_of u) ∷ s in
        let l : List TypedName = bound y (second_of u) ∷ s in
        arms2 (unless_full s x (judge c k a)) (unless_full s y (judge c l e)) _ p (x.pos ∷ ex_positions a) (y.pos ∷ ex_positions e) (named s x (judge c k a) (ex_positions a) (judge_most c k a)) (named s y (judge c l e) (ex_positions e) (judge_most c l e)) (λ v z. own_most q r p (row_arms v z))
    arms_most c s p u (list_arms a x y e) =
        let k : List TypedName = bound x (inner_of u) ∷ s in
        let l : List TypedName = bound y u ∷ k in
        arms2 (judge c s a) (unless_full s x (unless_full k y (judge c l e))) _ p (ex_positions a) (x.pos ∷ y.pos ∷ ex_positions e) (judge_most c s a)
        (named s x (unless_full k y (judge c l e)) (y.pos ∷ ex_positions e) (named k y (judge c l e) (ex_positions e) (judge_most c l e))) (λ v z. own_most q r p (row_arms v z))
    arms_most c s p u (pair_arms x y a) =
        let k : List TypedName = bound x (first_of u) ∷ s in
        let l : List TypedName = bound y (second_of u) ∷ k in
        more_most (unless_full s x (unless_full k y (judge c l a))) (times q (x.pos ∷ y.pos ∷ ex_positions a)) (here q p) (named s x (unless_full k y (judge c l a)) (y.pos ∷ ex_positions a) (named k y (judge c l a) (ex_positions a) (judge_most c l a)))
