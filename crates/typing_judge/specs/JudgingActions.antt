-- The typing rules of actions and blocks as a function.
use Rattle.std.specs.Prelude.{List, [], ◌∷◌}
use Rattle.hs_base.specs.declared.pos.Pos.{Pos}
use Rattle.rules_expansion.specs.trees.Trees.{T, exn}
use Rattle.rules_expansion.specs.trees.Programs.{SurfaceAction, bare, unary_act, binary_act, throw_io, new_empty, call, choose_act, case_act, modify, scoped, masking, restore, catch, guard, bracket, timeout, with_async, Bl, last, then, bind, let_in, ActArms, maybe_acts, either_acts, list_acts, pair_acts}
use Rattle.rules_typing.specs.Typing.{a_cell, of, first_of, second_of, inner_of, row_choose, row_arms, TypedName, bound, masked, Ctx, meant_act, no_mask, count}
use Rattle.rules_typing.specs.TypingActions.{type_of_bare, row_unary_act, row_binary_act, row_throw, row_new_empty, row_scoped, row_masking, row_modify, row_guard, row_bracket, row_timeout, row_async, form_of_acts}
use Rattle.typing_judge.specs.Judging.{Found, good, after, needing, own, written, unless_full, unless_wrong, scope_faults, called, part, parts2, parts3, parts_all, not_full, judge, judges}

abbrev mutual
  pub judge_act : Ctx → List TypedName → SurfaceAction → Found
  judge_act c s (bare o p) = good (type_of_bare o)
  judge_act c s (unary_act o p a) = part (judge c s a) (λ u. own p (row_unary_act o u))
  judge_act c s (binary_act o p a e) = parts2 (judge c s a) (judge c s e) (λ u v. own p (row_binary_act o u v))
  judge_act c s (throw_io p w a) = parts2 (written w) (judge c s a) (λ u v. own p (row_throw u v))
  judge_act c s (new_empty p w) = part (written w) (λ u. own p (row_new_empty u))
  judge_act c s (call x es) = parts_all (judges c s es) (called x.pos (meant_act c s x (count es)))
  judge_act c s (choose_act p e a g) = parts3 (judge c s e) (judge_bl c s a) (judge_bl c s g) (λ u v z. own p (row_choose u v z))
  judge_act c s (case_act p e arms) = part (judge c s e) (λ u. needing p (of (form_of_acts arms) u ∷ []) (judge_act_arms c s p u arms))
  judge_act c s (modify p a x g) = part (judge c s a) (λ u. needing p (of a_cell u ∷ []) (part (unless_full s x (judge_bl c (bound x (inner_of u) ∷ s) g)) (λ v. own p (row_modify u v))))
  judge_act c s (scoped o p a) = part (judge_bl c s a) (λ u. own p (row_scoped o u))
  judge_act c s (masking o p x a) = part (unless_full s x (judge_bl c (masked x ∷ s) a)) (λ u. own p (row_masking o u))
  judge_act c s (restore p x a) = unless_wrong (no_mask c s x) (judge_bl c s a)
  judge_act c s (catch p a x g) = parts2 (judge_bl c s a) (unless_full s x (judge_bl c (bound x exn ∷ s) g)) (λ u v. own p (row_arms u v))
  judge_act c s (guard o p a g) = parts2 (judge_bl c s a) (judge_bl c s g) (λ u v. own p (row_guard o u v))
  judge_act c s (bracket p a x g h) = part (judge_bl c s a) (λ u. unless_full s x (parts2 (judge_bl c (bound x u ∷ s) g) (judge_bl c (bound x u ∷ s) h) (λ v z. own p (row_bracket v z))))
  judge_act c s (timeout p e a) = parts2 (judge c s e) (judge_bl c s a) (λ u v. own p (row_timeout u v))
  judge_act c s (with_async p a x g) = part (judge_bl c s a) (λ u. part (own p (row_async u)) (λ v. unless_full s x (judge_bl c (bound x v ∷ s) g)))

  pub judge_bl : Ctx → List TypedName → Bl → Found
  judge_bl c s (last a) = judge_act c s a
  judge_bl c s (then a g) = part (judge_act c s a) (λ u. judge_bl c s g)
  judge_bl c s (bind x a g) = after (scope_faults s x) (part (not_full s (judge_act c s a)) (λ u. judge_bl c (bound x u ∷ s) g))
  judge_bl c s (let_in x e g) = after (scope_faults s x) (part (not_full s (judge c s e)) (λ u. judge_bl c (bound x u ∷ s) g))

  pub judge_act_arms : Ctx → List TypedName → Pos → T → ActArms → Found
  judge_act_arms c s p u (maybe_acts a x e) = parts2 (judge_bl c s a) (unless_full s x (judge_bl c (bound x (inner_of u) ∷ s) e)) (λ v z. own p (row_arms v z))
  judge_act_arms c s p u (either_acts x a y e) = parts2 (unless_full s x (judge_bl c (bound x (first_of u) ∷ s) a)) (unless_full s y (judge_bl c (bound y (second_of u) ∷ s) e)) (λ v z. own p (row_arms v z))
  judge_act_arms c s p u (list_acts a x y e) = parts2 (judge_bl c s a) (unless_full s x (unless_full (bound x (inner_of u) ∷ s) y (judge_bl c (bound y u ∷ bound x (inner_of u) ∷ s) e))) (λ v z. own p (row_arms v z))
  judge_act_arms c s p u (pair_acts x y a) = unless_full s x (unless_full (bound x (first_of u) ∷ s) y (judge_bl c (bound y (second_of u) ∷ bound x (first_of u) ∷ s) a))
