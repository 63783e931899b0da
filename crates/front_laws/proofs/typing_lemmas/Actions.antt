-- An action's nodes break each rule at each position no more often than a node stands there.
use Rattle.std.proofs.Common.{ℕ, ◌+◌, ◌≤◌, List, [], ◌∷◌, ◌++◌, arith}
use Rattle.hs_base.specs.declared.pos.Pos.{Pos}
use Rattle.rules_expansion.specs.trees.Trees.{T, exn}
use Rattle.rules_expansion.specs.trees.Programs.{SurfaceAction, bare, unary_act, binary_act, throw_io, new_empty, call, choose_act, case_act, modify, scoped, masking, restore, catch, guard, bracket, timeout, with_async, Bl, last, then, bind, let_in, ActArms, maybe_acts, either_acts, list_acts, pair_acts}
use Rattle.rules_typing.specs.Typing.{Fault, a_cell, of, first_of, second_of, inner_of, row_choose, row_arms, TypedName, bound, masked, Ctx, look, meant_act, no_mask, count}
use Rattle.rules_typing.specs.TypingActions.{row_unary_act, row_binary_act, row_throw, row_new_empty, row_scoped, row_masking, row_modify, row_guard, row_bracket, row_timeout, row_async, form_of_acts}
use Rattle.typing_judge.specs.Judging.{Found, own, written, unless_full, part, parts2, judge, judges}
use Rattle.typing_judge.specs.JudgingActions.{judge_act, judge_bl, judge_act_arms}
use Rattle.front_laws.specs.typing.Positions.{ex_positions, exs_positions, act_positions, bl_positions, act_arm_positions}
use Rattle.front_laws.proofs.typing_lemmas.Counts.{here, times, times-append}
use Rattle.front_laws.proofs.typing_lemmas.Tally.{tally, Most, needing_most, own_most, written_most, part_most, parts2_most, parts3_most, call_most, unless_full_most, unless_wrong_most}
use Rattle.front_laws.proofs.typing_lemmas.Expressions.{over1, over2, over3, given_most, cased, beside, arms2, more_most, named, act_sort_at, unmask_sort_at, judge_most, judges_most}

module _ (q : Pos) (r : ℕ) where
  -- a node over one part and over two
  node1 : (a : Found) (k : T → Found) (p : Pos) (A : List Pos) → Most q r a (times q A) → ((u : T) → Most q r (k u) (here q p)) → Most q r (part a k) (times q (p ∷ A))
  node1 a k p A h g = over1 q r (part a k).faults p A (part_most q r a k (times q A) (here q p) h g)

  node2 : (a b : Found) (k : T → T → Found) (p : Pos) (A B : List Pos) → Most q r a (times q A) → Most q r b (times q B) → ((u v : T) → Most q r (k u v) (here q p))
      → Most q r (parts2 a b k) (times q (p ∷ (A ++ B)))
  node2 a b k p A B h g f = over2 q r (parts2 a b k).faults p A B (parts2_most q r a b k (times q A) (times q B) (here q p) h g f)

  one : (p : Pos) (x : Found) → Most q r x (here q p) → Most q r x (times q (p ∷ []))
  one p x h = omega (arith, h)

  -- the first block, and then its name and the two others
  bracketed : (a : Found) (k : T → Found) (p x : Pos) (A B C : List Pos) → Most q r a (times q A) → ((u : T) → Most q r (k u) (here q x + (times q B + times q C + here q p))) → Most q r (part a k) (times q (p ∷ (A ++ x ∷ (B ++ C))))
  bracketed a k p x A B C h g = omega (arith, part_most q r a k (times q A) (here q x + (times q B + times q C + here q p)) h g, times-append q A (x ∷ (B ++ C)), times-append q B C)

  -- the first block, what its node makes, and then a name and the second block
  scoped_by : (a : Found) (k : T → Found) (p x : Pos) (A B : List Pos) → Most q r a (times q A) → ((u : T) → Most q r (k u) (here q p + (here q x + times q B))) → Most q r (part a k) (times q (p ∷ (A ++ x ∷ B)))
  scoped_by a k p x A B h g = omega (arith, part_most q r a k (times q A) (here q p + (here q x + times q B)) h g, times-append q A (x ∷ B))

  restored : (p x : Pos) (fs : List Fault) (A : List Pos) → tally q r fs ≤ here q x + times q A → tally q r fs ≤ times q (p ∷ x ∷ A)
  restored p x fs A h = omega (arith, h)

  in_row : (a : Found) (k : T → Found) (A B : List Pos) → Most q r a (times q A) → ((u : T) → Most q r (k u) (times q B)) → Most q r (part a k) (times q (A ++ B))
  in_row a k A B h g = beside q r A B (part a k).faults (part_most q r a k (times q A) (times q B) h g)

  mutual
    pub act_most : (c : Ctx) (s : List TypedName) (a : SurfaceAction) → Most q r (judge_act c s a) (times q (act_positions a))
    act_most c s (bare o p) = omega arith
    act_most c s (unary_act o p a) = node1 (judge c s a) (λ u. own p (row_unary_act o u)) p (ex_positions a) (judge_most q r c s a) (λ u. own_most q r p (row_unary_act o u))
    act_most c s (binary_act o p a e) = node2 (judge c s a) (judge c s e) (λ u v. own p (row_binary_act o u v)) p (ex_positions a) (ex_positions e) (judge_most q r c s a) (judge_most q r c s e) (λ u v. own_most q r p (row_binary_act o u v))
    act_most c s (throw_io p w a) = node2 (written w) (judge c s a) (λ u v. own p (row_throw u v)) p (w.pos ∷ []) (ex_positions a) (one w.pos (written w) (written_most q r w)) (judge_most q r c s a) (λ u v. own_most q r p (row_throw u v))
    act_most c s (new_empty p w) = node1 (written w) (λ u. own p (row_new_empty u)) p (w.pos ∷ []) (one w.pos (written w) (written_most q r w)) (λ u. own_most q r p (row_new_empty u))
    act_most c s (call x es) =
        over1 q r _ x.pos (exs_positions es) (call_most q r x.pos (meant_act c s x (count es)) (judges c s es) (times q (exs_positions es)) (act_sort_at c x (count es) (look s x.text)) (judges_most q r c s es))
    act_most c s (choose_act p e a g) =
        over3 q r _ p (ex_positions e) (bl_positions a) (bl_positions g)
        (parts3_most q r (judge c s e) (judge_bl c s a) (judge_bl c s g) _ (times q (ex_positions e)) (times q (bl_positions a)) (times q (bl_positions g)) (here q p) (judge_most q r c s e) (bl_most c s a) (bl_most c s g) (λ u v z. own_most q r p (row_choose u v z)))
    act_most c s (case_act p e arms) =
        cased q r (judge c s e) _ p (ex_positions e) (act_arm_positions arms) (judge_most q r c s e)
        (λ u. needing_most q r p (of (form_of_acts arms) u ∷ []) (judge_act_arms c s p u arms) (times q (act_arm_positions arms) + here q p) (omega arith) (act_arms_most c s p u arms))
    act_most c s (modify p a x g) =
        cased q r (judge c s a) _ p (ex_positions a) (x.pos ∷ bl_positions g) (judge_most q r c s a)
        (λ u. let b = judge_bl c (bound x (inner_of u) ∷ s) g in
        needing_most q r p (of a_cell u ∷ []) (part (unless_full s x b) (λ v. own p (row_modify u v))) (times q (x.pos ∷ bl_positions g) + here q p) (omega arith)
        (part_most q r (unless_full s x b) _ (times q (x.pos ∷ bl_positions g)) (here q p) (named q r s x b (bl_positions g) (bl_most c (bound x (inner_of u) ∷ s) g)) (λ v. own_most q r p (row_modify u v))))
    act_most c s (scoped o p a) = node1 (judge_bl c s a) (λ u. own p (row_scoped o u)) p (bl_positions a) (bl_most c s a) (λ u. own_most q r p (row_scoped o u))
    act_most c s (masking o p x a) =
        node1 (unless_full s x (judge_bl c (masked x ∷ s) a)) (λ u. own p (row_masking o u)) p (x.pos ∷ bl_positions a) (named q r s x (judge_bl c (masked x ∷ s) a) (bl_positions a) (bl_most c (masked x ∷ s) a)) (λ u. own_most q r p (row_masking o u))
    act_most c s (restore p x a) = restored p x.pos _ (bl_positions a) (unless_wrong_most q r x.pos (no_mask c s x) (judge_bl c s a) (times q (bl_positions a)) (unmask_sort_at c x (look s x.text)) (bl_most c s a))
    act_most c s (catch p a x g) =
        node2 (judge_bl c s a) (unless_full s x (judge_bl c (bound x exn ∷ s) g)) (λ u v. own p (row_arms u v)) p (bl_positions a) (x.pos ∷ bl_positions g)
        (bl_most c s a) (named q r s x (judge_bl c (bound x exn ∷ s) g) (bl_positions g) (bl_most c (bound x exn ∷ s) g)) (λ u v. own_most q r p (row_arms u v))
    act_most c s (guard o p a g) = node2 (judge_bl c s a) (judge_bl c s g) (λ u v. own p (row_guard o u v)) p (bl_positions a) (bl_positions g) (bl_most c s a) (bl_most c s g) (λ u v. own_most q r p (row_guard o u v))
    act_most c s (bracket p a x g h) =
        bracketed (judge_bl c s a) _ p x.pos (bl_positions a) (bl_positions g) (bl_positions h) (bl_most c s a)
        (λ u. let k : List TypedName = bound x u ∷ s in
        unless_full_most q r s x (parts2 (judge_bl c k g) (judge_bl c k h) (λ v z. own p (row_bracket v z))) (times q (bl_positions g) + times q (bl_positions h) + here q p)
        (parts2_most q r (judge_bl c k g) (judge_bl c k h) _ (times q (bl_positions g)) (times q (bl_positions h)) (here q p) (bl_most c k g) (bl_most c k h) (λ v z. own_most q r p (row_bracket v z))))
    act_most c s (timeout p e a) = node2 (judge c s e) (judge_bl c s a) (λ u v. own p (row_timeout u v)) p (ex_positions e) (bl_positions a) (judge_most q r c s e) (bl_most c s a) (λ u v. own_most q r p (row_timeout u v))
    act_most c s (with_async p a x g) =
        scoped_by (judge_bl c s a) _ p x.pos (bl_positions a) (bl_positions g) (bl_most c s a)
        (λ u. part_most q r (own p (row_async u)) (λ v. unless_full s x (judge_bl c (bound x v ∷ s) g)) (here q p) (here q x.pos + times q (bl_positions g)) (own_most q r p (row_async u))
        (λ v. unless_full_most q r s x (judge_bl c (bound x v ∷ s) g) (times q (bl_positions g)) (bl_most c (bound x v ∷ s) g)))

    pub bl_most : (c : Ctx) (s : List TypedName) (g : Bl) → Most q r (judge_bl c s g) (times q (bl_positions g))
    bl_most c s (last a) = act_most c s a
    bl_most c s (then a g) = in_row (judge_act c s a) (λ u. judge_bl c s g) (act_positions a) (bl_positions g) (act_most c s a) (λ u. bl_most c s g)
    bl_most c s (bind x a g) = given_most q r s x (judge_act c s a) _ (act_positions a) (bl_positions g) (act_most c s a) (λ u. bl_most c (bound x u ∷ s) g)
    bl_most c s (let_in x e g) = given_most q r s x (judge c s e) _ (ex_positions e) (bl_positions g) (judge_most q r c s e) (λ u. bl_most c (bound x u ∷ s) g)

    act_arms_most : (c : Ctx) (s : List TypedName) (p : Pos) (u : T) (arms : ActArms) → Most q r (judge_act_arms c s p u arms) (times q (act_arm_positions arms) + here q p)
    act_arms_most c s p u (maybe_acts a x e) =
        let k : List TypedName = bound x (inner_of u) ∷ s in
        arms2 q r (judge_bl c s a) (unless_full s x (judge_bl c k e)) _ p (bl_positions a) (x.pos ∷ bl_positions e) (bl_most c s a) (named q r s x (judge_bl c k e) (bl_positions e) (bl_most c k e)) (λ v z. own_most q r p (row_arms v z))
    act_arms_most c s p u (either_acts x a y e) =
        let k : List TypedName = bound x (first_of u) ∷ s in
        let l : List TypedName = bound y (second_of u) ∷ s in
        arms2 q r (unless_full s x (judge_bl c k a)) (unless_full s y (judge_bl c l e)) _ p (x.pos ∷ bl_positions a) (y.pos ∷ bl_positions e) (named q r s x (judge_bl c k a) (bl_positions a) (bl_most c k a)) (named q r s y (judge_bl c l e) (bl_positions e) (bl_most c l e))
        (λ v z. own_most q r p (row_arms v z))
    act_arms_most c s p u (list_acts a x y e) =
        let k : List TypedName = bound x (inner_of u) ∷ s in
        let l : List TypedName = bound y u ∷ k in
        arms2 q r (judge_bl c s a) (unless_full s x (unless_full k y (judge_bl c l e))) _ p (bl_positions a) (x.pos ∷ y.pos ∷ bl_positions e) (bl_most c s a)
        (named q r s x (unless_full k y (judge_bl c l e)) (y.pos ∷ bl_positions e) (named q r k y (judge_bl c l e) (bl_positions e) (bl_most c l e))) (λ v z. own_most q r p (row_arms v z))
    act_arms_most c s p u (pair_acts x y a) =
        let k : List TypedName = bound x (first_of u) ∷ s in
        let l : List TypedName = bound y (second_of u) ∷ k in
        more_most q r (unless_full s x (unless_full k y (judge_bl c l a))) (times q (x.pos ∷ y.pos ∷ bl_positions a)) (here q p)
        (named q r s x (unless_full k y (judge_bl c l a)) (y.pos ∷ bl_positions a) (named q r k y (judge_bl c l a) (bl_positions a) (bl_most c l a)))
