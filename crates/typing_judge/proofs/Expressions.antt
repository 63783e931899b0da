-- The function agrees with the rules on expressions.
use Rattle.std.proofs.Common.{subst, ap, ◌∙◌, ◌⊎◌, List, ◌∷◌, inl, inr, ⊎_elim}
use Rattle.hs_base.specs.declared.pos.Pos.{Pos}
use Rattle.rules_expansion.specs.trees.Trees.{T, Ex, lit, name, unary, binary, chain, conses, choose, items, empty, side, given, case, Exs, none, more, Links, end, link, Arms, maybe_arms, either_arms, list_arms, pair_arms}
use Rattle.rules_typing.specs.Typing.{Fault, type_of_lit, row_unary, row_binary, row_empty, row_side, row_choose, row_items, row_arms, form_of_arms, first_of, second_of, inner_of, Ctx, TypedName, bound, meant, count, Gives, Breaks, NotFull, NoRoom, IsWritten, WrittenBreaks, HasType, HaveTypes, LinksHave, ConsesHave, ArmsHave, BreaksIn, BreaksAny, LinksBreak, ConsesBreak, ArmsBreak}
use Rattle.typing_judge.specs.Judging.{Found, own, written, parts2, unless_full, after, judge, judges, judge_links, judge_arms}
use Rattle.typing_judge.proofs.Chains.{judge_conses, links_after, conses_after, conses_are}
use Rattle.typing_judge.proofs.Laws.{Agrees, Parts, agree_good, agree_part, agree_parts2, agree_parts3, agree_all, agree_called, agree_own, agree_written, agree_room, agree_given, agree_formed, parts_none, parts_more}

-- each operand of a chain
abbrev OperandsAgree : Ctx → List TypedName → Links → Type 0
OperandsAgree c s end = Unit {0}
OperandsAgree c s (link o p e ks) = Agrees (judge c s e) (HasType c s e) (BreaksIn c s e) × OperandsAgree c s ks

agree_links : (c : Ctx) (s : List TypedName) (ks : Links) → OperandsAgree c s ks → (x : Found) (H : T → Type 0) (B : Fault → Type 0) → Agrees x H B → Agrees (judge_links c s x ks) (LinksHave c s H ks) (λ f. B f ⊎ LinksBreak c s H ks f)
agree_links c s end q x H B a = record {
  typed = λ t e. a.typed t e;
  types = λ t h. a.types t h;
  broken = λ f h. inl (a.broken f h);
  breaks = λ f h. ⊎_elim (λ w. a.breaks f w) (λ w. absurd w) h;
}
agree_links c s (link o p e ks) q x H B a =
    let r = agree_parts2 x (judge c s e) H (HasType c s e) B (BreaksIn c s e) (λ u v. own p (row_binary o u v)) (λ u v. Gives (row_binary o u v)) (λ u v. Breaks p (row_binary o u v)) a q.0 (λ u v. agree_own p (row_binary o u v)) in
    let w = agree_links c s ks q.1 (parts2 x (judge c s e) (λ u v. own p (row_binary o u v))) (λ t. (u v : T) × H u × HasType c s e v × Gives (row_binary o u v) t) (λ f. (B f ⊎ BreaksIn c s e f) ⊎ ((u v : T) × H u × HasType c s e v × Breaks p (row_binary o u v) f)) r in
    record {
      typed = λ t h. w.typed t h;
      types = λ t h. w.types t h;
      broken = λ f h. ⊎_elim (λ k. ⊎_elim (λ j. ⊎_elim (λ i. inl i) (λ i. inr (inl (inl i))) j) (λ j. inr (inl (inr j))) k) (λ k. inr (inr k)) (w.broken f h);
      breaks = λ f h. w.breaks f (⊎_elim (λ k. inl (inl (inl k))) (λ k. ⊎_elim (λ j. inl (⊎_elim (λ i. inl (inr i)) (λ i. inr i) j)) (λ j. inr j) k) h);
    }

agree_conses : (c : Ctx) (s : List TypedName) (ks : Links) → OperandsAgree c s ks → (x : Found) (H : T → Type 0) (B : Fault → Type 0) → Agrees x H B → Agrees (judge_conses c s x ks) (ConsesHave c s H ks) (λ f. B f ⊎ ConsesBreak c s H ks f)
agree_conses c s end q x H B a = record {
  typed = λ t e. a.typed t e;
  types = λ t h. a.types t h;
  broken = λ f h. inl (a.broken f h);
  breaks = λ f h. ⊎_elim (λ w. a.breaks f w) (λ w. absurd w) h;
}
agree_conses c s (link o p e ks) q x H B a =
    let r = agree_conses c s ks q.1 (judge c s e) (HasType c s e) (BreaksIn c s e) q.0 in
    let w = agree_parts2 x (judge_conses c s (judge c s e) ks) H (ConsesHave c s (HasType c s e) ks) B (λ f. BreaksIn c s e f ⊎ ConsesBreak c s (HasType c s e) ks f) (λ u v. own p (row_binary o u v)) (λ u v. Gives (row_binary o u v)) (λ u v. Breaks p (row_binary o u v)) a r (λ u v. agree_own p (row_binary o u v)) in
    record {
      typed = λ t h. w.typed t h;
      types = λ t h. w.types t h;
      broken = λ f h. ⊎_elim (λ k. ⊎_elim (λ j. inl j) (λ j. inr (inl j)) k) (λ k. inr (inr k)) (w.broken f h);
      breaks = λ f h. w.breaks f (⊎_elim (λ k. inl (inl k)) (λ k. ⊎_elim (λ j. inl (inr j)) (λ j. inr j) k) h);
    }

mutual
  pub agree : (c : Ctx) (s : List TypedName) (e : Ex) → Agrees (judge c s e) (HasType c s e) (BreaksIn c s e)
  agree c s (lit p l) = agree_good (type_of_lit l)
  agree c s (name x es) = agree_called x.pos (meant c s x (count es)) (judges c s es) (HaveTypes c s es) (BreaksAny c s es) (agrees c s es)
  agree c s (unary o p a) = agree_part (judge c s a) (HasType c s a) (BreaksIn c s a) (λ u. own p (row_unary o u)) (λ u. Gives (row_unary o u)) (λ u. Breaks p (row_unary o u)) (agree c s a) (λ u. agree_own p (row_unary o u))
  agree c s (binary o p a e) = agree_parts2 (judge c s a) (judge c s e) (HasType c s a) (HasType c s e) (BreaksIn c s a) (BreaksIn c s e) (λ u v. own p (row_binary o u v)) (λ u v. Gives (row_binary o u v)) (λ u v. Breaks p (row_binary o u v)) (agree c s a) (agree c s e) (λ u v. agree_own p (row_binary o u v))
  agree c s (chain a ks) = subst (λ z. Agrees z (HasType c s (chain a ks)) (BreaksIn c s (chain a ks))) (links_after c s ks (judge c s a)) (agree_links c s ks (agree_operands c s ks) (judge c s a) (HasType c s a) (BreaksIn c s a) (agree c s a))
  agree c s (conses a ks) = subst (λ z. Agrees z (HasType c s (conses a ks)) (BreaksIn c s (conses a ks))) (conses_after c s ks (judge c s a) ∙ ap (after (judge c s a).faults) (conses_are c s ks (judge c s a).type)) (agree_conses c s ks (agree_operands c s ks) (judge c s a) (HasType c s a) (BreaksIn c s a) (agree c s a))
  agree c s (choose p e a g) = agree_parts3 (judge c s e) (judge c s a) (judge c s g) (HasType c s e) (HasType c s a) (HasType c s g) (BreaksIn c s e) (BreaksIn c s a) (BreaksIn c s g) (λ u v z. own p (row_choose u v z)) (λ u v z. Gives (row_choose u v z)) (λ u v z. Breaks p (row_choose u v z)) (agree c s e) (agree c s a) (agree c s g) (λ u v z. agree_own p (row_choose u v z))
  agree c s (items p es) = agree_all (judges c s es) (HaveTypes c s es) (BreaksAny c s es) (λ ts. own p (row_items ts)) (λ ts. Gives (row_items ts)) (λ ts. Breaks p (row_items ts)) (agrees c s es) (λ ts. agree_own p (row_items ts))
  agree c s (empty o p w) = agree_part (written w) (IsWritten w) (WrittenBreaks w) (λ u. own p (row_empty o u)) (λ u. Gives (row_empty o u)) (λ u. Breaks p (row_empty o u)) (agree_written w) (λ u. agree_own p (row_empty o u))
  agree c s (side o p w r a) = agree_parts3 (written w) (written r) (judge c s a) (IsWritten w) (IsWritten r) (HasType c s a) (WrittenBreaks w) (WrittenBreaks r) (BreaksIn c s a) (λ u v z. own p (row_side o u v z)) (λ u v z. Gives (row_side o u v z)) (λ u v z. Breaks p (row_side o u v z)) (agree_written w) (agree_written r) (agree c s a) (λ u v z. agree_own p (row_side o u v z))
  agree c s (given x a e) = agree_given s x (judge c s a) (HasType c s a) (BreaksIn c s a) (λ u. judge c (bound x u ∷ s) e) (λ u. HasType c (bound x u ∷ s) e) (λ u. BreaksIn c (bound x u ∷ s) e) (agree c s a) (λ u. agree c (bound x u ∷ s) e)
  agree c s (case p e arms) = agree_part (judge c s e) (HasType c s e) (BreaksIn c s e) _ _ _ (agree c s e) (λ u. agree_formed p (form_of_arms arms) u _ _ _ (agree_arms c s p u arms))

  pub agrees : (c : Ctx) (s : List TypedName) (es : Exs) → Parts (judges c s es).faults (judges c s es).types (HaveTypes c s es) (BreaksAny c s es)
  agrees c s none = parts_none
  agrees c s (more e es) = parts_more (judge c s e) (judges c s es) (HasType c s e) (HaveTypes c s es) (BreaksIn c s e) (BreaksAny c s es) (agree c s e) (agrees c s es)

  pub agree_operands : (c : Ctx) (s : List TypedName) (ks : Links) → OperandsAgree c s ks
  agree_operands c s end = tt
  agree_operands c s (link o p e ks) = (agree c s e, agree_operands c s ks)

  pub agree_arms : (c : Ctx) (s : List TypedName) (p : Pos) (u : T) (arms : Arms) → Agrees (judge_arms c s p u arms) (ArmsHave c s p u arms) (ArmsBreak c s p u arms)
  agree_arms c s p u (maybe_arms a x e) = agree_parts2 (judge c s a) (unless_full s x (judge c (bound x (inner_of u) ∷ s) e)) (HasType c s a) (λ t. NotFull s × HasType c (bound x (inner_of u) ∷ s) e t) (BreaksIn c s a) (λ f. NoRoom s x f ⊎ (NotFull s × BreaksIn c (bound x (inner_of u) ∷ s) e f))
      (λ v z. own p (row_arms v z)) (λ v z. Gives (row_arms v z)) (λ v z. Breaks p (row_arms v z)) (agree c s a) (agree_room s x _ _ _ (agree c (bound x (inner_of u) ∷ s) e)) (λ v z. agree_own p (row_arms v z))
  agree_arms c s p u (either_arms x a y e) = agree_parts2 (unless_full s x (judge c (bound x (first_of u) ∷ s) a)) (unless_full s y (judge c (bound y (second_of u) ∷ s) e)) (λ t. NotFull s × HasType c (bound x (first_of u) ∷ s) a t) (λ t. NotFull s × HasType c (bound y (second_of u) ∷ s) e t) (λ f. NoRoom s x f ⊎ (NotFull s × BreaksIn c (bound x (first_of u) ∷ s) a f)) (λ f. NoRoom s y f ⊎ (NotFull s × BreaksIn c (bound y (second_of u) ∷ s) e f))
      (λ v z. own p (row_arms v z)) (λ v z. Gives (row_arms v z)) (λ v z. Breaks p (row_arms v z)) (agree_room s x _ _ _ (agree c (bound x (first_of u) ∷ s) a)) (agree_room s y _ _ _ (agree c (bound y (second_of u) ∷ s) e)) (λ v z. agree_own p (row_arms v z))
  agree_arms c s p u (list_arms a x y e) = let k : List TypedName = bound x (inner_of u) ∷ s in let l : List TypedName = bound y u ∷ bound x (inner_of u) ∷ s in
      agree_parts2 (judge c s a) (unless_full s x (unless_full k y (judge c l e))) (HasType c s a) (λ t. NotFull s × (NotFull k × HasType c l e t)) (BreaksIn c s a) (λ f. NoRoom s x f ⊎ (NotFull s × (NoRoom k y f ⊎ (NotFull k × BreaksIn c l e f))))
      (λ v z. own p (row_arms v z)) (λ v z. Gives (row_arms v z)) (λ v z. Breaks p (row_arms v z)) (agree c s a) (agree_room s x _ _ _ (agree_room k y _ _ _ (agree c l e))) (λ v z. agree_own p (row_arms v z))
  agree_arms c s p u (pair_arms x y a) = agree_room s x _ _ _ (agree_room (bound x (first_of u) ∷ s) y _ _ _ (agree c (bound y (second_of u) ∷ bound x (first_of u) ∷ s) a))
