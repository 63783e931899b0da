-- A part of a script that breaks no rule has a type.
use Rattle.std.proofs.Common.{◌≡◌, ◌&&◌, ltb, List, [], ◌∷◌, ◌++◌, Bool, true, false, cond, Option, Some, None, refl, sym, ap, ◌∙◌, subst}
use Rattle.hs_base.specs.declared.pos.Pos.{Pos}
use Rattle.hs_base.specs.declared.tree.expr.Name.{Name}
use Rattle.rules_expansion.specs.trees.Trees.{T, exn, Wr, Ex, lit, name, unary, binary, chain, conses, choose, items, empty, side, given, case, Exs, none, more, Links, end, link, Arms, maybe_arms, either_arms, list_arms, pair_arms}
use Rattle.rules_expansion.specs.trees.Programs.{SurfaceAction, bare, unary_act, binary_act, throw_io, new_empty, call, choose_act, case_act, modify, scoped, masking, restore, catch, guard, bracket, timeout, with_async, Bl, last, then, bind, let_in, ActArms, maybe_acts, either_acts, list_acts, pair_acts, Bd, pure_body, io_body}
use Rattle.rules_typing.specs.Typing.{Fault, scope, wide, nodes, a_cell, Need, of, Row, type_of_lit, row_unary, row_binary, row_empty, row_side, row_choose, row_items, row_arms, form_of_arms, first_of, second_of, inner_of, Ctx, TypedName, bound, masked, Meant, wrong, takes, meant, meant_act, no_mask, is_each, count}
use Rattle.rules_typing.specs.TypingActions.{type_of_bare, row_unary_act, row_binary_act, row_throw, row_new_empty, row_scoped, row_masking, row_modify, row_guard, row_bracket, row_timeout, row_async, form_of_acts}
use Rattle.typing_judge.specs.Judging.{met, Found, good, bad, after, with1, with2, with3, with_all, needing, made, own, written, full, unless_full, unless, unless_wrong, scope_faults, Founds, joined, called, part, parts2, parts3, parts_all, join, not_full, judge, judges, judge_links, judge_arms}
use Rattle.typing_judge.specs.JudgingActions.{judge_act, judge_bl, judge_act_arms}
use Rattle.typing_judge.specs.JudgingScripts.{judge_body}
use Rattle.typing_judge.proofs.Chains.{judge_conses, links_after, conses_after, conses_are}

abbrev pub Sure : Found → Type 0
Sure x = x.faults ≡ [] → (t : T) × (x.type ≡ Some t)

abbrev SureAll : Founds → Type 0
SureAll x = x.faults ≡ [] → (ts : List T) × (x.types ≡ Some ts)

both_none : (xs ys : List Fault) → xs ++ ys ≡ [] → (xs ≡ []) × (ys ≡ [])
both_none [] ys h = (refl, h)
both_none (x ∷ xs) ys h = absurd (cc h)

-- ---- one law for each way of putting parts together

sure_good : (u : T) → Sure (good u)
sure_good u h = (u, refl)

sure_bad : (g : Fault) → Sure (bad g)
sure_bad g h = absurd (cc h)

sure_where : (b : Bool) (g : Fault) (x : Found) → Sure x → Sure (cond b x (bad g))
sure_where true g x s = s
sure_where false g x s = sure_bad g

sure_unless : (b : Bool) (g : Fault) (x : Found) → Sure x → Sure (cond b (bad g) x)
sure_unless true g x s = sure_bad g
sure_unless false g x s = s

sure_needing : (p : Pos) (ns : List Need) (x : Found) → Sure x → Sure (needing p ns x)
sure_needing p [] x s = s
sure_needing p (n ∷ ns) x s = sure_where (met n) _ (needing p ns x) (sure_needing p ns x s)

sure_own : (p : Pos) (r : Row) → Sure (own p r)
sure_own p r = sure_needing p r.needs (made p r.makes r.type) (sure_unless (r.makes && ltb 64 (nodes r.type)) (wide p) (good r.type) (sure_good r.type))

sure_written : (w : Wr) → Sure (written w)
sure_written w = sure_unless (ltb 64 (nodes w.ty)) (wide w.pos) (good w.ty) (sure_good w.ty)

sure_room : (s : List TypedName) (x : Name) (a : Found) → Sure a → Sure (unless_full s x a)
sure_room s x a h = sure_unless (full s) (scope x.pos) a h

with1_sure : (o : Option T) (k : T → Found) → (t : T) × (o ≡ Some t) → ((u : T) → Sure (k u)) → Sure (with1 o k)
with1_sure o k h s = subst (λ z. Sure (with1 z k)) (sym h.1) (s h.0)

with2_sure : (o r : Option T) (k : T → T → Found) → (t : T) × (o ≡ Some t) → (t : T) × (r ≡ Some t) → ((u v : T) → Sure (k u v)) → Sure (with2 o r k)
with2_sure o r k h i s = subst (λ z. Sure (with2 z r k)) (sym h.1) (with1_sure r (k h.0) i (s h.0))

with3_sure : (o r q : Option T) (k : T → T → T → Found) → (t : T) × (o ≡ Some t) → (t : T) × (r ≡ Some t) → (t : T) × (q ≡ Some t) → ((u v z : T) → Sure (k u v z)) → Sure (with3 o r q k)
with3_sure o r q k h i j s = subst (λ z. Sure (with3 z r q k)) (sym h.1) (with2_sure r q (k h.0) i j (s h.0))

with_all_sure : (o : Option (List T)) (k : List T → Found) → (ts : List T) × (o ≡ Some ts) → ((us : List T) → Sure (k us)) → Sure (with_all o k)
with_all_sure o k h s = subst (λ z. Sure (with_all z k)) (sym h.1) (s h.0)

sure_part : (a : Found) (k : T → Found) → Sure a → ((u : T) → Sure (k u)) → Sure (part a k)
sure_part a k s t h = let q = both_none a.faults (with1 a.type k).faults h in with1_sure a.type k (s q.0) t q.1

sure_parts2 : (a b : Found) (k : T → T → Found) → Sure a → Sure b → ((u v : T) → Sure (k u v)) → Sure (parts2 a b k)
sure_parts2 a b k s t f h =
    let q = both_none (a.faults ++ b.faults) (with2 a.type b.type k).faults h in
    let r = both_none a.faults b.faults q.0 in
    with2_sure a.type b.type k (s r.0) (t r.1) f q.1

sure_parts3 : (a b d : Found) (k : T → T → T → Found) → Sure a → Sure b → Sure d → ((u v z : T) → Sure (k u v z)) → Sure (parts3 a b d k)
sure_parts3 a b d k s t u f h =
    let q = both_none (a.faults ++ b.faults ++ d.faults) (with3 a.type b.type d.type k).faults h in
    let r = both_none (a.faults ++ b.faults) d.faults q.0 in
    let z = both_none a.faults b.faults r.0 in
    with3_sure a.type b.type d.type k (s z.0) (t z.1) (u r.1) f q.1

sure_parts_all : (a : Founds) (k : List T → Found) → SureAll a → ((us : List T) → Sure (k us)) → Sure (parts_all a (λ us. with_all us k))
sure_parts_all a k s f h = let q = both_none a.faults (with_all a.types k).faults h in with_all_sure a.types k (s q.0) f q.1

sure_called : (p : Pos) (m : Meant) (a : Founds) → SureAll a → Sure (parts_all a (called p m))
sure_called p (wrong g) a s h = let q = both_none a.faults (g ∷ []) h in absurd (cc q.1)
sure_called p (takes params t) a s h = sure_parts_all a (λ us. needing p (is_each params us) (good t)) s (λ us. sure_needing p (is_each params us) (good t) (sure_good t)) h

sure_joined : (a : Found) (b : Founds) → Sure a → SureAll b → SureAll (join a b)
sure_joined a b s t h =
    let q = both_none a.faults b.faults h in
    let u = s q.0 in
    let us = t q.1 in
    (u.0 ∷ us.0, ap (λ z. joined z b.types) u.1 ∙ ap (joined (Some u.0)) us.1)

sure_given : (s : List TypedName) (x : Name) (a : Found) (k : T → Found) → Sure a → ((u : T) → Sure (k u)) → Sure (after (scope_faults s x) (part (not_full s a) k))
sure_given s x a k f g = by (full s)
  where
    by : (b : Bool) → Sure (after (cond b (scope x.pos ∷ []) []) (part (record { faults = a.faults; type = unless b a.type }) k))
    by true h = absurd (cc h)
    by false h = sure_part a k f g h

sure_restore : (o : Option Fault) (x : Found) → Sure x → Sure (unless_wrong o x)
sure_restore None x s h = s h
sure_restore (Some g) x s h = absurd (cc h)

-- ---- expressions

abbrev SureOperands : Ctx → List TypedName → Links → Type 0
SureOperands c s end = Unit {0}
SureOperands c s (link o p e ks) = Sure (judge c s e) × SureOperands c s ks

sure_links : (c : Ctx) (s : List TypedName) (ks : Links) → SureOperands c s ks → (x : Found) → Sure x
    → Sure (judge_links c s x ks)
sure_links c s end q x h = h
sure_links c s (link o p e ks) q x h =
    sure_links c s ks q.1 (parts2 x (judge c s e) (λ u v. own p (row_binary o u v))) (sure_parts2 x (judge c s e) _ h q.0 (λ u v. sure_own p (row_binary o u v)))

sure_conses : (c : Ctx) (s : List TypedName) (ks : Links) → SureOperands c s ks → (x : Found) → Sure x → Sure (judge_conses c s x ks)
sure_conses c s end q x h = h
sure_conses c s (link o p e ks) q x h =
    sure_parts2 x (judge_conses c s (judge c s e) ks) _ h (sure_conses c s ks q.1 (judge c s e) q.0) (λ u v. sure_own p (row_binary o u v))

mutual
  pub sure_ex : (c : Ctx) (s : List TypedName) (e : Ex) → Sure (judge c s e)
  sure_ex c s (lit p l) = sure_good (type_of_lit l)
  sure_ex c s (name x es) = sure_called x.pos (meant c s x (count es)) (judges c s es) (sure_exs c s es)
  sure_ex c s (unary o p a) = sure_part (judge c s a) _ (sure_ex c s a) (λ u. sure_own p (row_unary o u))
  sure_ex c s (binary o p a e) = sure_parts2 (judge c s a) (judge c s e) _ (sure_ex c s a) (sure_ex c s e) (λ u v. sure_own p (row_binary o u v))
  sure_ex c s (chain a ks) = subst Sure (links_after c s ks (judge c s a)) (sure_links c s ks (sure_operands c s ks) (judge c s a) (sure_ex c s a))
  sure_ex c s (conses a ks) = subst Sure (conses_after c s ks (judge c s a) ∙ ap (after (judge c s a).faults) (conses_are c s ks (judge c s a).type)) (sure_conses c s ks (sure_operands c s ks) (judge c s a) (sure_ex c s a))
  sure_ex c s (choose p e a g) = sure_parts3 (judge c s e) (judge c s a) (judge c s g) _ (sure_ex c s e) (sure_ex c s a) (sure_ex c s g) (λ u v z. sure_own p (row_choose u v z))
  sure_ex c s (items p es) = sure_parts_all (judges c s es) _ (sure_exs c s es) (λ us. sure_own p (row_items us))
  sure_ex c s (empty o p w) = sure_part (written w) _ (sure_written w) (λ u. sure_own p (row_empty o u))
  sure_ex c s (side o p w r a) = sure_parts3 (written w) (written r) (judge c s a) _ (sure_written w) (sure_written r) (sure_ex c s a) (λ u v z. sure_own p (row_side o u v z))
  sure_ex c s (given x a e) = sure_given s x (judge c s a) _ (sure_ex c s a) (λ u. sure_ex c (bound x u ∷ s) e)
  sure_ex c s (case p e arms) = sure_part (judge c s e) _ (sure_ex c s e) (λ u. sure_needing p (of (form_of_arms arms) u ∷ []) _ (sure_arms c s p u arms))

  sure_exs : (c : Ctx) (s : List TypedName) (es : Exs) → SureAll (judges c s es)
  sure_exs c s none = λ h. ([], refl)
  sure_exs c s (more e es) = sure_joined (judge c s e) (judges c s es) (sure_ex c s e) (sure_exs c s es)

  sure_operands : (c : Ctx) (s : List TypedName) (ks : Links) → SureOperands c s ks
  sure_operands c s end = tt
  sure_operands c s (link o p e ks) = (sure_ex c s e, sure_operands c s ks)

  sure_arms : (c : Ctx) (s : List TypedName) (p : Pos) (u : T) (arms : Arms) → Sure (judge_arms c s p u arms)
  sure_arms c s p u (maybe_arms a x e) = sure_parts2 (judge c s a) _ _ (sure_ex c s a) (sure_room s x _ (sure_ex c (bound x (inner_of u) ∷ s) e)) (λ v z. sure_own p (row_arms v z))
  sure_arms c s p u (either_arms x a y e) = sure_parts2 _ _ _ (sure_room s x _ (sure_ex c (bound x (first_of u) ∷ s) a)) (sure_room s y _ (sure_ex c (bound y (second_of u) ∷ s) e)) (λ v z. sure_own p (row_arms v z))
  sure_arms c s p u (list_arms a x y e) = sure_parts2 (judge c s a) _ _ (sure_ex c s a) (sure_room s x _ (sure_room (bound x (inner_of u) ∷ s) y _ (sure_ex c (bound y u ∷ bound x (inner_of u) ∷ s) e))) (λ v z. sure_own p (row_arms v z))
  sure_arms c s p u (pair_arms x y a) = sure_room s x _ (sure_room (bound x (first_of u) ∷ s) y _ (sure_ex c (bound y (second_of u) ∷ bound x (first_of u) ∷ s) a))

-- ---- actions and blocks

mutual
  sure_act : (c : Ctx) (s : List TypedName) (a : SurfaceAction) → Sure (judge_act c s a)
  sure_act c s (bare o p) = sure_good (type_of_bare o)
  sure_act c s (unary_act o p a) = sure_part (judge c s a) _ (sure_ex c s a) (λ u. sure_own p (row_unary_act o u))
  sure_act c s (binary_act o p a e) = sure_parts2 (judge c s a) (judge c s e) _ (sure_ex c s a) (sure_ex c s e) (λ u v. sure_own p (row_binary_act o u v))
  sure_act c s (throw_io p w a) = sure_parts2 (written w) (judge c s a) _ (sure_written w) (sure_ex c s a) (λ u v. sure_own p (row_throw u v))
  sure_act c s (new_empty p w) = sure_part (written w) _ (sure_written w) (λ u. sure_own p (row_new_empty u))
  sure_act c s (call x es) = sure_called x.pos (meant_act c s x (count es)) (judges c s es) (sure_exs c s es)
  sure_act c s (choose_act p e a g) = sure_parts3 (judge c s e) (judge_bl c s a) (judge_bl c s g) _ (sure_ex c s e) (sure_bl c s a) (sure_bl c s g) (λ u v z. sure_own p (row_choose u v z))
  sure_act c s (case_act p e arms) = sure_part (judge c s e) _ (sure_ex c s e) (λ u. sure_needing p (of (form_of_acts arms) u ∷ []) _ (sure_act_arms c s p u arms))
  sure_act c s (modify p a x g) = sure_part (judge c s a) _ (sure_ex c s a) (λ u. sure_needing p (of a_cell u ∷ []) _ (sure_part _ _ (sure_room s x _ (sure_bl c (bound x (inner_of u) ∷ s) g)) (λ v. sure_own p (row_modify u v))))
  sure_act c s (scoped o p a) = sure_part (judge_bl c s a) _ (sure_bl c s a) (λ u. sure_own p (row_scoped o u))
  sure_act c s (masking o p x a) = sure_part _ _ (sure_room s x _ (sure_bl c (masked x ∷ s) a)) (λ u. sure_own p (row_masking o u))
  sure_act c s (restore p x a) = sure_restore (no_mask c s x) (judge_bl c s a) (sure_bl c s a)
  sure_act c s (catch p a x g) = sure_parts2 (judge_bl c s a) _ _ (sure_bl c s a) (sure_room s x _ (sure_bl c (bound x exn ∷ s) g)) (λ u v. sure_own p (row_arms u v))
  sure_act c s (guard o p a g) = sure_parts2 (judge_bl c s a) (judge_bl c s g) _ (sure_bl c s a) (sure_bl c s g) (λ u v. sure_own p (row_guard o u v))
  sure_act c s (bracket p a x g h) = sure_part (judge_bl c s a) _ (sure_bl c s a) (λ u. sure_room s x _ (sure_parts2 _ _ _ (sure_bl c (bound x u ∷ s) g) (sure_bl c (bound x u ∷ s) h) (λ v z. sure_own p (row_bracket v z))))
  sure_act c s (timeout p e a) = sure_parts2 (judge c s e) (judge_bl c s a) _ (sure_ex c s e) (sure_bl c s a) (λ u v. sure_own p (row_timeout u v))
  sure_act c s (with_async p a x g) = sure_part (judge_bl c s a) _ (sure_bl c s a) (λ u. sure_part (own p (row_async u)) _ (sure_own p (row_async u)) (λ v. sure_room s x _ (sure_bl c (bound x v ∷ s) g)))

  pub sure_bl : (c : Ctx) (s : List TypedName) (a : Bl) → Sure (judge_bl c s a)
  sure_bl c s (last a) = sure_act c s a
  sure_bl c s (then a g) = sure_part (judge_act c s a) _ (sure_act c s a) (λ u. sure_bl c s g)
  sure_bl c s (bind x a g) = sure_given s x (judge_act c s a) _ (sure_act c s a) (λ u. sure_bl c (bound x u ∷ s) g)
  sure_bl c s (let_in x e g) = sure_given s x (judge c s e) _ (sure_ex c s e) (λ u. sure_bl c (bound x u ∷ s) g)

  sure_act_arms : (c : Ctx) (s : List TypedName) (p : Pos) (u : T) (arms : ActArms) → Sure (judge_act_arms c s p u arms)
  sure_act_arms c s p u (maybe_acts a x e) = sure_parts2 (judge_bl c s a) _ _ (sure_bl c s a) (sure_room s x _ (sure_bl c (bound x (inner_of u) ∷ s) e)) (λ v z. sure_own p (row_arms v z))
  sure_act_arms c s p u (either_acts x a y e) = sure_parts2 _ _ _ (sure_room s x _ (sure_bl c (bound x (first_of u) ∷ s) a)) (sure_room s y _ (sure_bl c (bound y (second_of u) ∷ s) e)) (λ v z. sure_own p (row_arms v z))
  sure_act_arms c s p u (list_acts a x y e) = sure_parts2 (judge_bl c s a) _ _ (sure_bl c s a) (sure_room s x _ (sure_room (bound x (inner_of u) ∷ s) y _ (sure_bl c (bound y u ∷ bound x (inner_of u) ∷ s) e))) (λ v z. sure_own p (row_arms v z))
  sure_act_arms c s p u (pair_acts x y a) = sure_room s x _ (sure_room (bound x (first_of u) ∷ s) y _ (sure_bl c (bound y (second_of u) ∷ bound x (first_of u) ∷ s) a))

pub sure_body : (c : Ctx) (s : List TypedName) (d : Bd) → Sure (judge_body c s d)
sure_body c s (pure_body w e) = sure_ex c s e
sure_body c s (io_body w a) = sure_bl c s a
