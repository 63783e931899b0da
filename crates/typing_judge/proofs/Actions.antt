-- The function agrees with the rules on actions and blocks.
use Rattle.std.proofs.Common.{◌⊎◌, List, ◌∷◌}
use Rattle.hs_base.specs.declared.pos.Pos.{Pos}
use Rattle.rules_expansion.specs.trees.Trees.{T, exn}
use Rattle.rules_expansion.specs.trees.Programs.{SurfaceAction, bare, unary_act, binary_act, throw_io, new_empty, call, choose_act, case_act, modify, scoped, masking, restore, catch, guard, bracket, timeout, with_async, Bl, last, then, bind, let_in, ActArms, maybe_acts, either_acts, list_acts, pair_acts}
use Rattle.rules_typing.specs.Typing.{a_cell, first_of, second_of, inner_of, row_choose, row_arms, TypedName, bound, masked, Ctx, meant_act, no_mask, count, Gives, Breaks, NotFull, NoRoom, IsWritten, WrittenBreaks, HasType, HaveTypes, BreaksIn, BreaksAny}
use Rattle.rules_typing.specs.TypingActions.{type_of_bare, row_unary_act, row_binary_act, row_throw, row_new_empty, row_scoped, row_masking, row_modify, row_guard, row_bracket, row_timeout, row_async, form_of_acts, ActHas, BlHas, ActArmsHave, ActBreaks, BlBreaks, ActArmsBreak}
use Rattle.typing_judge.specs.Judging.{own, written, unless_full, judge, judges}
use Rattle.typing_judge.specs.JudgingActions.{judge_act, judge_bl, judge_act_arms}
use Rattle.typing_judge.proofs.Laws.{Agrees, agree_good, agree_part, agree_parts2, agree_parts3, agree_called, agree_own, agree_written, agree_room, agree_given, agree_formed, agree_unless}
use Rattle.typing_judge.proofs.Expressions.{agree, agrees}

mutual
  pub agree_act : (c : Ctx) (s : List TypedName) (a : SurfaceAction) → Agrees (judge_act c s a) (ActHas c s a) (ActBreaks c s a)
  agree_act c s (bare o p) = agree_good (type_of_bare o)
  agree_act c s (unary_act o p a) = agree_part (judge c s a) (HasType c s a) (BreaksIn c s a) (λ u. own p (row_unary_act o u)) (λ u. Gives (row_unary_act o u)) (λ u. Breaks p (row_unary_act o u)) (agree c s a) (λ u. agree_own p (row_unary_act o u))
  agree_act c s (binary_act o p a e) = agree_parts2 (judge c s a) (judge c s e) (HasType c s a) (HasType c s e) (BreaksIn c s a) (BreaksIn c s e) (λ u v. own p (row_binary_act o u v)) (λ u v. Gives (row_binary_act o u v)) (λ u v. Breaks p (row_binary_act o u v)) (agree c s a) (agree c s e) (λ u v. agree_own p (row_binary_act o u v))
  agree_act c s (throw_io p w a) = agree_parts2 (written w) (judge c s a) (IsWritten w) (HasType c s a) (WrittenBreaks w) (BreaksIn c s a) (λ u v. own p (row_throw u v)) (λ u v. Gives (row_throw u v)) (λ u v. Breaks p (row_throw u v)) (agree_written w) (agree c s a) (λ u v. agree_own p (row_throw u v))
  agree_act c s (new_empty p w) = agree_part (written w) (IsWritten w) (WrittenBreaks w) (λ u. own p (row_new_empty u)) (λ u. Gives (row_new_empty u)) (λ u. Breaks p (row_new_empty u)) (agree_written w) (λ u. agree_own p (row_new_empty u))
  agree_act c s (call x es) = agree_called x.pos (meant_act c s x (count es)) (judges c s es) (HaveTypes c s es) (BreaksAny c s es) (agrees c s es)
  agree_act c s (choose_act p e a g) = agree_parts3 (judge c s e) (judge_bl c s a) (judge_bl c s g) (HasType c s e) (BlHas c s a) (BlHas c s g) (BreaksIn c s e) (BlBreaks c s a) (BlBreaks c s g) (λ u v z. own p (row_choose u v z)) (λ u v z. Gives (row_choose u v z)) (λ u v z. Breaks p (row_choose u v z)) (agree c s e) (agree_bl c s a) (agree_bl c s g) (λ u v z. agree_own p (row_choose u v z))
  agree_act c s (case_act p e arms) = agree_part (judge c s e) (HasType c s e) (BreaksIn c s e) _ _ _ (agree c s e) (λ u. agree_formed p (form_of_acts arms) u _ _ _ (agree_act_arms c s p u arms))
  agree_act c s (modify p a x g) = agree_part (judge c s a) (HasType c s a) (BreaksIn c s a) _ _ _ (agree c s a) (λ u. agree_formed p a_cell u _ _ _ (agree_part (unless_full s x (judge_bl c (bound x (inner_of u) ∷ s) g)) (λ t. NotFull s × BlHas c (bound x (inner_of u) ∷ s) g t) (λ f. NoRoom s x f ⊎ (NotFull s × BlBreaks c (bound x (inner_of u) ∷ s) g f)) (λ v. own p (row_modify u v)) (λ v. Gives (row_modify u v)) (λ v. Breaks p (row_modify u v)) (agree_room s x (judge_bl c (bound x (inner_of u) ∷ s) g) (BlHas c (bound x (inner_of u) ∷ s) g) (BlBreaks c (bound x (inner_of u) ∷ s) g) (agree_bl c (bound x (inner_of u) ∷ s) g)) (λ v. agree_own p (row_modify u v))))
  agree_act c s (scoped o p a) = agree_part (judge_bl c s a) (BlHas c s a) (BlBreaks c s a) (λ u. own p (row_scoped o u)) (λ u. Gives (row_scoped o u)) (λ u. Breaks p (row_scoped o u)) (agree_bl c s a) (λ u. agree_own p (row_scoped o u))
  agree_act c s (masking o p x a) = agree_part (unless_full s x (judge_bl c (masked x ∷ s) a)) (λ t. NotFull s × BlHas c (masked x ∷ s) a t) (λ f. NoRoom s x f ⊎ (NotFull s × BlBreaks c (masked x ∷ s) a f)) (λ u. own p (row_masking o u)) (λ u. Gives (row_masking o u)) (λ u. Breaks p (row_masking o u)) (agree_room s x (judge_bl c (masked x ∷ s) a) (BlHas c (masked x ∷ s) a) (BlBreaks c (masked x ∷ s) a) (agree_bl c (masked x ∷ s) a)) (λ u. agree_own p (row_masking o u))
  agree_act c s (restore p x a) = agree_unless (no_mask c s x) (judge_bl c s a) (BlHas c s a) (BlBreaks c s a) (agree_bl c s a)
  agree_act c s (catch p a x g) = agree_parts2 (judge_bl c s a) (unless_full s x (judge_bl c (bound x exn ∷ s) g)) (BlHas c s a) (λ t. NotFull s × BlHas c (bound x exn ∷ s) g t) (BlBreaks c s a) (λ f. NoRoom s x f ⊎ (NotFull s × BlBreaks c (bound x exn ∷ s) g f)) (λ u v. own p (row_arms u v)) (λ u v. Gives (row_arms u v)) (λ u v. Breaks p (row_arms u v)) (agree_bl c s a) (agree_room s x (judge_bl c (bound x exn ∷ s) g) (BlHas c (bound x exn ∷ s) g) (BlBreaks c (bound x exn ∷ s) g) (agree_bl c (bound x exn ∷ s) g)) (λ u v. agree_own p (row_arms u v))
  agree_act c s (guard o p a g) = agree_parts2 (judge_bl c s a) (judge_bl c s g) (BlHas c s a) (BlHas c s g) (BlBreaks c s a) (BlBreaks c s g) (λ u v. own p (row_guard o u v)) (λ u v. Gives (row_guard o u v)) (λ u v. Breaks p (row_guard o u v)) (agree_bl c s a) (agree_bl c s g) (λ u v. agree_own p (row_guard o u v))
  agree_act c s (bracket p a x g h) = agree_part (judge_bl c s a) (BlHas c s a) (BlBreaks c s a) _ _ _ (agree_bl c s a) (λ u. agree_room s x _ _ _ (agree_parts2 (judge_bl c (bound x u ∷ s) g) (judge_bl c (bound x u ∷ s) h) (BlHas c (bound x u ∷ s) g) (BlHas c (bound x u ∷ s) h) (BlBreaks c (bound x u ∷ s) g) (BlBreaks c (bound x u ∷ s) h) (λ v z. own p (row_bracket v z)) (λ v z. Gives (row_bracket v z)) (λ v z. Breaks p (row_bracket v z)) (agree_bl c (bound x u ∷ s) g) (agree_bl c (bound x u ∷ s) h) (λ v z. agree_own p (row_bracket v z))))
  agree_act c s (timeout p e a) = agree_parts2 (judge c s e) (judge_bl c s a) (HasType c s e) (BlHas c s a) (BreaksIn c s e) (BlBreaks c s a) (λ u v. own p (row_timeout u v)) (λ u v. Gives (row_timeout u v)) (λ u v. Breaks p (row_timeout u v)) (agree c s e) (agree_bl c s a) (λ u v. agree_own p (row_timeout u v))
  agree_act c s (with_async p a x g) = agree_part (judge_bl c s a) (BlHas c s a) (BlBreaks c s a) _ _ _ (agree_bl c s a) (λ u. agree_part (own p (row_async u)) (Gives (row_async u)) (Breaks p (row_async u)) _ _ _ (agree_own p (row_async u)) (λ v. agree_room s x _ _ _ (agree_bl c (bound x v ∷ s) g)))

  pub agree_bl : (c : Ctx) (s : List TypedName) (g : Bl) → Agrees (judge_bl c s g) (BlHas c s g) (BlBreaks c s g)
  agree_bl c s (last a) = agree_act c s a
  agree_bl c s (then a g) = agree_part (judge_act c s a) (ActHas c s a) (ActBreaks c s a) (λ u. judge_bl c s g) (λ u. BlHas c s g) (λ u. BlBreaks c s g) (agree_act c s a) (λ u. agree_bl c s g)
  agree_bl c s (bind x a g) = agree_given s x (judge_act c s a) (ActHas c s a) (ActBreaks c s a) (λ u. judge_bl c (bound x u ∷ s) g) (λ u. BlHas c (bound x u ∷ s) g) (λ u. BlBreaks c (bound x u ∷ s) g) (agree_act c s a) (λ u. agree_bl c (bound x u ∷ s) g)
  agree_bl c s (let_in x e g) = agree_given s x (judge c s e) (HasType c s e) (BreaksIn c s e) (λ u. judge_bl c (bound x u ∷ s) g) (λ u. BlHas c (bound x u ∷ s) g) (λ u. BlBreaks c (bound x u ∷ s) g) (agree c s e) (λ u. agree_bl c (bound x u ∷ s) g)

  pub agree_act_arms : (c : Ctx) (s : List TypedName) (p : Pos) (u : T) (arms : ActArms) → Agrees (judge_act_arms c s p u arms) (ActArmsHave c s p u arms) (ActArmsBreak c s p u arms)
  agree_act_arms c s p u (maybe_acts a x e) = agree_parts2 (judge_bl c s a) (unless_full s x (judge_bl c (bound x (inner_of u) ∷ s) e)) (BlHas c s a) (λ t. NotFull s × BlHas c (bound x (inner_of u) ∷ s) e t) (BlBreaks c s a) (λ f. NoRoom s x f ⊎ (NotFull s × BlBreaks c (bound x (inner_of u) ∷ s) e f)) (λ v z. own p (row_arms v z)) (λ v z. Gives (row_arms v z)) (λ v z. Breaks p (row_arms v z)) (agree_bl c s a) (agree_room s x (judge_bl c (bound x (inner_of u) ∷ s) e) (BlHas c (bound x (inner_of u) ∷ s) e) (BlBreaks c (bound x (inner_of u) ∷ s) e) (agree_bl c (bound x (inner_of u) ∷ s) e)) (λ v z. agree_own p (row_arms v z))
  agree_act_arms c s p u (either_acts x a y e) = agree_parts2 (unless_full s x (judge_bl c (bound x (first_of u) ∷ s) a)) (unless_full s y (judge_bl c (bound y (second_of u) ∷ s) e)) (λ t. NotFull s × BlHas c (bound x (first_of u) ∷ s) a t) (λ t. NotFull s × BlHas c (bound y (second_of u) ∷ s) e t) (λ f. NoRoom s x f ⊎ (NotFull s × BlBreaks c (bound x (first_of u) ∷ s) a f)) (λ f. NoRoom s y f ⊎ (NotFull s × BlBreaks c (bound y (second_of u) ∷ s) e f)) (λ v z. own p (row_arms v z)) (λ v z. Gives (row_arms v z)) (λ v z. Breaks p (row_arms v z)) (agree_room s x (judge_bl c (bound x (first_of u) ∷ s) a) (BlHas c (bound x (first_of u) ∷ s) a) (BlBreaks c (bound x (first_of u) ∷ s) a) (agree_bl c (bound x (first_of u) ∷ s) a)) (agree_room s y (judge_bl c (bound y (second_of u) ∷ s) e) (BlHas c (bound y (second_of u) ∷ s) e) (BlBreaks c (bound y (second_of u) ∷ s) e) (agree_bl c (bound y (second_of u) ∷ s) e)) (λ v z. agree_own p (row_arms v z))
  agree_act_arms c s p u (list_acts a x y e) = agree_parts2 (judge_bl c s a) (unless_full s x (unless_full (bound x (inner_of u) ∷ s) y (judge_bl c (bound y u ∷ bound x (inner_of u) ∷ s) e))) (BlHas c s a) (λ t. NotFull s × (NotFull (bound x (inner_of u) ∷ s) × BlHas c (bound y u ∷ bound x (inner_of u) ∷ s) e t)) (BlBreaks c s a) (λ f. NoRoom s x f ⊎ (NotFull s × (NoRoom (bound x (inner_of u) ∷ s) y f ⊎ (NotFull (bound x (inner_of u) ∷ s) × BlBreaks c (bound y u ∷ bound x (inner_of u) ∷ s) e f)))) (λ v z. own p (row_arms v z)) (λ v z. Gives (row_arms v z)) (λ v z. Breaks p (row_arms v z)) (agree_bl c s a) (agree_room s x _ _ _ (agree_room (bound x (inner_of u) ∷ s) y _ _ _ (agree_bl c (bound y u ∷ bound x (inner_of u) ∷ s) e))) (λ v z. agree_own p (row_arms v z))
  agree_act_arms c s p u (pair_acts x y a) = agree_room s x _ _ _ (agree_room (bound x (first_of u) ∷ s) y _ _ _ (agree_bl c (bound y (second_of u) ∷ bound x (first_of u) ∷ s) a))
