-- What the function of the rules says is what the rules say: one law for each way of putting parts together.
use Rattle.std.proofs.Common.{◌≡◌, ◌<◌, ◌≤◌, ◌&&◌, List, [], ◌∷◌, ◌++◌, length, Bool, true, false, cond, Option, Some, None, refl, sym, ap, ◌∙◌, subst, arith, ◌⊎◌, inl, inr, ⊎_elim, ltb}
use Rattle.std.proofs.lemmas.Bool.{ltb-true, and_parts}
use Rattle.hs_base.specs.declared.pos.Pos.{Pos}
use Rattle.hs_base.specs.declared.tree.expr.Name.{Name}
use Rattle.rules_expansion.specs.trees.Trees.{T, unit, int, bool, text, thread, exn, pair, maybe, either, list, cell, async, Wr}
use Rattle.rules_typing.specs.Typing.{Form, a_maybe, an_either, a_list, a_pair, a_cell, an_async, equal, order, shown, Fault, scope, wide, nodes, Need, is, of, refusal, Row, TypedName, Meant, wrong, takes, is_each, Has, Met, AllMet, FirstUnmet, Makes, TooWide, Gives, Breaks, NotFull, NoRoom, Calls, BreaksCall, IsWritten, WrittenBreaks}
use Rattle.rules_typing.specs.TypingFaults.{In}
use Rattle.typing_judge.specs.Judging.{same, has, met, Found, good, bad, lost, after, with1, with2, with3, with_all, needing, made, own, written, unless_full, unless_wrong, scope_faults, unless, Founds, joined, called, part, parts2, parts3, parts_all, join, not_full}

pub in_left : (xs ys : List Fault) (f : Fault) → In xs f → In (xs ++ ys) f
in_left [] ys f h = absurd h
in_left (x ∷ xs) ys f (inl e) = inl e
in_left (x ∷ xs) ys f (inr h) = inr (in_left xs ys f h)

pub in_right : (xs ys : List Fault) (f : Fault) → In ys f → In (xs ++ ys) f
in_right [] ys f h = h
in_right (x ∷ xs) ys f h = inr (in_right xs ys f h)

pub in_cases : (xs ys : List Fault) (f : Fault) → In (xs ++ ys) f → In xs f ⊎ In ys f
in_cases [] ys f h = inr h
in_cases (x ∷ xs) ys f (inl e) = inl (inl e)
in_cases (x ∷ xs) ys f (inr h) = ⊎_elim (λ k. inl (inr k)) (λ k. inr k) (in_cases xs ys f h)

pub same_true : (a b : T) → same a b ≡ true → a ≡ b
same_true unit unit h = refl
same_true int int h = refl
same_true bool bool h = refl
same_true text text h = refl
same_true thread thread h = refl
same_true exn exn h = refl
same_true (pair a b) (pair c d) h =
    let k = and_parts (same a c) (same b d) h in ap (λ z. pair z b) (same_true a c k.0) ∙ ap (λ z. pair c z) (same_true b d k.1)
same_true (maybe a) (maybe c) h = ap maybe (same_true a c h)
same_true (either a b) (either c d) h =
    let k = and_parts (same a c) (same b d) h in ap (λ z. either z b) (same_true a c k.0) ∙ ap (λ z. either c z) (same_true b d k.1)
same_true (list a) (list c) h = ap list (same_true a c h)
same_true (cell a) (cell c) h = ap cell (same_true a c h)
same_true (async a) (async c) h = ap async (same_true a c h)
same_true _ _ h = cc

pub same_self : (a : T) → same a a ≡ true
same_self unit = refl
same_self int = refl
same_self bool = refl
same_self text = refl
same_self thread = refl
same_self exn = refl
same_self (pair a b) = ap (λ z. z && same b b) (same_self a) ∙ same_self b
same_self (maybe a) = same_self a
same_self (either a b) = ap (λ z. z && same b b) (same_self a) ∙ same_self b
same_self (list a) = same_self a
same_self (cell a) = same_self a
same_self (async a) = same_self a

pub has_true : (f : Form) (t : T) → has f t ≡ true → Has f t
has_true a_maybe (maybe a) h = (a, refl)
has_true an_either (either a b) h = (a, b, refl)
has_true a_list (list a) h = (a, refl)
has_true a_pair (pair a b) h = (a, b, refl)
has_true a_cell (cell a) h = (a, refl)
has_true an_async (async a) h = (a, refl)
has_true equal int h = inl refl
has_true equal bool h = inr (inl refl)
has_true equal text h = inr (inr (inl refl))
has_true equal thread h = inr (inr (inr (inl refl)))
has_true equal exn h = inr (inr (inr (inr refl)))
has_true order int h = inl refl
has_true order text h = inr refl
has_true shown int h = inl refl
has_true shown bool h = inr (inl refl)
has_true shown thread h = inr (inr (inl refl))
has_true shown exn h = inr (inr (inr refl))
has_true _ _ h = cc

pub true_has : (f : Form) (t : T) → Has f t → has f t ≡ true
true_has a_maybe t h = ap (has a_maybe) h.1
true_has an_either t h = ap (has an_either) h.2
true_has a_list t h = ap (has a_list) h.1
true_has a_pair t h = ap (has a_pair) h.2
true_has a_cell t h = ap (has a_cell) h.1
true_has an_async t h = ap (has an_async) h.1
true_has equal t (inl e) = ap (has equal) e
true_has equal t (inr (inl e)) = ap (has equal) e
true_has equal t (inr (inr (inl e))) = ap (has equal) e
true_has equal t (inr (inr (inr (inl e)))) = ap (has equal) e
true_has equal t (inr (inr (inr (inr e)))) = ap (has equal) e
true_has order t (inl e) = ap (has order) e
true_has order t (inr e) = ap (has order) e
true_has shown t (inl e) = ap (has shown) e
true_has shown t (inr (inl e)) = ap (has shown) e
true_has shown t (inr (inr (inl e))) = ap (has shown) e
true_has shown t (inr (inr (inr e))) = ap (has shown) e

pub met_true : (n : Need) → met n ≡ true → Met n
met_true (is a b) h = same_true a b h
met_true (of f t) h = has_true f t h

pub true_met : (n : Need) → Met n → met n ≡ true
true_met (is a b) h = ap (same a) (sym h) ∙ same_self a
true_met (of f t) h = true_has f t h

-- ---- agreement
pub record Agrees (x : Found) (H : T → Type 0) (B : Fault → Type 0) : Type 0 where
  pub typed : (t : T) → x.type ≡ Some t → H t
  pub types : (t : T) → H t → x.type ≡ Some t
  pub broken : (f : Fault) → In x.faults f → B f
  pub breaks : (f : Fault) → B f → In x.faults f

pub agree_good : (u : T) → Agrees (good u) (λ t. t ≡ u) (λ f. ⊥)
agree_good u = record { typed = λ t e. cc; types = λ t e. ap Some (sym e); broken = λ f h. h; breaks = λ f h. h }

agree_bad : (g : Fault) → Agrees (bad g) (λ t. ⊥) (λ f. f ≡ g)
agree_bad g = record { typed = λ t e. cc; types = λ t e. absurd e; broken = λ f h. ⊎_elim (λ e. e) (λ k. absurd k) h; breaks = λ f e. inl e }

-- a test: where it is true the node is as x is, else it is broken by g
pub agree_test : (b : Bool) (P : Type 0) (g : Fault) (x : Found) (H : T → Type 0) (B : Fault → Type 0)
    → (b ≡ true → P) → (P → b ≡ true) → Agrees x H B
    → Agrees (cond b x (bad g)) (λ t. P × H t) (λ f. ((P → ⊥) × (f ≡ g)) ⊎ (P × B f))
agree_test true P g x H B to from a = record {
  typed = λ t e. (to refl, a.typed t e);
  types = λ t h. a.types t h.1;
  broken = λ f h. inr (to refl, a.broken f h);
  breaks = λ f h. ⊎_elim (λ w. absurd (w.0 (to refl))) (λ w. a.breaks f w.1) h;
}
agree_test false P g x H B to from a = record {
  typed = λ t e. cc;
  types = λ t h. absurd (let e : false ≡ true = from h.0 in cc);
  broken = λ f h. ⊎_elim (λ e. inl ((λ k. let z : false ≡ true = from k in cc), e)) (λ k. absurd k) h;
  breaks = λ f h. ⊎_elim (λ w. inl w.1) (λ w. let e : false ≡ true = from w.0 in cc) h;
}

pub agree_needing : (p : Pos) (ns : List Need) (x : Found) (H : T → Type 0) (B : Fault → Type 0) → Agrees x H B
    → Agrees (needing p ns x) (λ t. AllMet ns × H t) (λ f. FirstUnmet p ns f ⊎ (AllMet ns × B f))
agree_needing p [] x H B a = record {
  typed = λ t e. (tt, a.typed t e);
  types = λ t h. a.types t h.1;
  broken = λ f h. inr (tt, a.broken f h);
  breaks = λ f h. ⊎_elim (λ w. absurd w) (λ w. a.breaks f w.1) h;
}
agree_needing p (n ∷ ns) x H B a =
    let r = agree_test (met n) (Met n) (refusal p n) (needing p ns x) (λ t. AllMet ns × H t) (λ f. FirstUnmet p ns f ⊎ (AllMet ns × B f)) (met_true n) (true_met n) (agree_needing p ns x H B a) in
    record {
      typed = λ t e. let k = r.typed t e in ((k.0, k.1.0), k.1.1);
      types = λ t h. r.types t (h.0.0, (h.0.1, h.1));
      broken = λ f h. ⊎_elim (λ w. inl (inl w)) (λ w. ⊎_elim (λ v. inl (inr (w.0, v))) (λ v. inr ((w.0, v.0), v.1)) w.1) (r.broken f h);
      breaks = λ f h. r.breaks f (⊎_elim (λ w. ⊎_elim (λ v. inl v) (λ v. inr (v.0, inl v.1)) w) (λ w. inr (w.0.0, inr (w.0.1, w.1))) h);
    }

pub agree_made : (p : Pos) (m : Bool) (u : T) → Agrees (made p m u) (Makes m u) (TooWide p m u)
agree_made p false u = record {
  typed = λ t e. ((λ k. let z : false ≡ true = k in cc), cc);
  types = λ t h. ap Some (sym h.1);
  broken = λ f h. absurd h;
  breaks = λ f h. let z : false ≡ true = h.0 in cc;
}
agree_made p true u = elim (ltb 64 (nodes u)) as (λ b. (ltb 64 (nodes u) ≡ b) → Agrees (cond b (bad (wide p)) (good u)) (Makes true u) (TooWide p true u)) [
  | true ↦ λ w. let lt = ltb-true 64 (nodes u) w in record {
    typed = λ t e. cc;
    types = λ t h. absurd (let le : nodes u ≤ 64 = h.0 refl in omega arith);
    broken = λ f h. ⊎_elim (λ e. (refl, lt, e)) (λ k. absurd k) h;
    breaks = λ f h. inl h.2;
  }
  | false ↦ λ w. let le : nodes u ≤ 64 = grind arith in record {
    typed = λ t e. ((λ k. le), cc);
    types = λ t h. ap Some (sym h.1);
    broken = λ f h. absurd h;
    breaks = λ f h. absurd (let lt : 64 < nodes u = h.1 in omega arith);
  }
] refl

pub agree_own : (p : Pos) (r : Row) → Agrees (own p r) (Gives r) (Breaks p r)
agree_own p r = agree_needing p r.needs (made p r.makes r.type) (Makes r.makes r.type) (TooWide p r.makes r.type) (agree_made p r.makes r.type)

-- ---- parts: some of them, with types that stand together
pub record Parts {A : Type 0} (fs : List Fault) (o : Option A) (H : A → Type 0) (B : Fault → Type 0) : Type 0 where
  pub typed : (t : A) → o ≡ Some t → H t
  pub types : (t : A) → H t → o ≡ Some t
  pub broken : (f : Fault) → In fs f → B f
  pub breaks : (f : Fault) → B f → In fs f

abbrev pub with : {A : Type 0} → Option A → (A → Found) → Found
with None k = lost
with (Some a) k = k a

pub agree_with : {A : Type 0} (fs : List Fault) (o : Option A) (H : A → Type 0) (B : Fault → Type 0) (k : A → Found) (K : A → T → Type 0) (C : A → Fault → Type 0)
    → Parts fs o H B → ((u : A) → Agrees (k u) (K u) (C u))
    → Agrees (after fs (with o k)) (λ t. (u : A) × H u × K u t) (λ f. B f ⊎ ((u : A) × H u × C u f))
agree_with fs None H B k K C a g = record {
  typed = λ t e. cc;
  types = λ t h. let e = a.types h.0 h.1 in cc;
  broken = λ f h. ⊎_elim (λ w. inl (a.broken f w)) (λ w. absurd w) (in_cases fs [] f h);
  breaks = λ f h. ⊎_elim (λ w. in_left fs [] f (a.breaks f w)) (λ w. let e = a.types w.0 w.1 in cc) h;
}
agree_with fs (Some u) H B k K C a g = record {
  typed = λ t e. (u, a.typed u refl, (g u).typed t e);
  types = λ t h. let e = a.types h.0 h.1 in let eq : u ≡ h.0 = cc in subst (λ v. (k v).type ≡ Some t) (sym eq) ((g h.0).types t h.2);
  broken = λ f h. ⊎_elim (λ w. inl (a.broken f w)) (λ w. inr (u, a.typed u refl, (g u).broken f w)) (in_cases fs (k u).faults f h);
  breaks = λ f h. ⊎_elim (λ w. in_left fs (k u).faults f (a.breaks f w))
      (λ w. let e = a.types w.0 w.1 in let eq : u ≡ w.0 = cc in in_right fs (k u).faults f (subst (λ v. In (k v).faults f) (sym eq) ((g w.0).breaks f w.2))) h;
}

abbrev pub both : {A C : Type 0} → Option A → Option C → Option (A × C)
both None c = None
both (Some a) None = None
both (Some a) (Some c) = Some (a, c)

pub parts_both : {A C : Type 0} (fs gs : List Fault) (o : Option A) (r : Option C) (H : A → Type 0) (G : C → Type 0) (B D : Fault → Type 0)
    → Parts fs o H B → Parts gs r G D → Parts (fs ++ gs) (both o r) (λ p. H p.0 × G p.1) (λ f. B f ⊎ D f)
parts_both fs gs o r H G B D h i = record {
  typed = λ t. elim o as (λ o'. o ≡ o' → both o' r ≡ Some t → H t.0 × G t.1) [
    | None ↦ λ w e. cc
    | Some a ↦ λ w. elim r as (λ r'. r ≡ r' → both (Some a) r' ≡ Some t → H t.0 × G t.1) [
      | None ↦ λ v e. cc
      | Some c ↦ λ v e. let ea : a ≡ t.0 = cc in let ec : c ≡ t.1 = cc in (h.typed t.0 (w ∙ ap Some ea), i.typed t.1 (v ∙ ap Some ec))
    ] refl
  ] refl;
  types = λ t k. ap (λ z. both z r) (h.types t.0 k.0) ∙ ap (both (Some t.0)) (i.types t.1 k.1);
  broken = λ f k. ⊎_elim (λ w. inl (h.broken f w)) (λ w. inr (i.broken f w)) (in_cases fs gs f k);
  breaks = λ f k. ⊎_elim (λ w. in_left fs gs f (h.breaks f w)) (λ w. in_right fs gs f (i.breaks f w)) k;
}

as_parts : (a : Found) (H : T → Type 0) (B : Fault → Type 0) → Agrees a H B → Parts a.faults a.type H B
as_parts a H B h = record { typed = h.typed; types = h.types; broken = h.broken; breaks = h.breaks }

with1_is : (o : Option T) (k : T → Found) → with o k ≡ with1 o k
with1_is None k = refl
with1_is (Some a) k = refl

with2_is : (o r : Option T) (k : T → T → Found) → with (both o r) (λ p. k p.0 p.1) ≡ with2 o r k
with2_is None r k = refl
with2_is (Some a) None k = refl
with2_is (Some a) (Some b) k = refl

with3_is : (o r q : Option T) (k : T → T → T → Found) → with (both (both o r) q) (λ p. k p.0.0 p.0.1 p.1) ≡ with3 o r q k
with3_is None r q k = refl
with3_is (Some a) None q k = refl
with3_is (Some a) (Some b) None k = refl
with3_is (Some a) (Some b) (Some d) k = refl

with_all_is : (o : Option (List T)) (k : List T → Found) → with o k ≡ with_all o k
with_all_is None k = refl
with_all_is (Some a) k = refl

pub agree_part : (a : Found) (H : T → Type 0) (B : Fault → Type 0) (k : T → Found) (K : T → T → Type 0) (C : T → Fault → Type 0)
    → Agrees a H B → ((u : T) → Agrees (k u) (K u) (C u))
    → Agrees (part a k) (λ t. (u : T) × H u × K u t) (λ f. B f ⊎ ((u : T) × H u × C u f))
agree_part a H B k K C h g =
    subst (λ z. Agrees (after a.faults z) (λ t. (u : T) × H u × K u t) (λ f. B f ⊎ ((u : T) × H u × C u f))) (with1_is a.type k)
    (agree_with a.faults a.type H B k K C (as_parts a H B h) g)

pub agree_parts2 : (a b : Found) (H G : T → Type 0) (B D : Fault → Type 0) (k : T → T → Found) (K : T → T → T → Type 0) (C : T → T → Fault → Type 0)
    → Agrees a H B → Agrees b G D → ((u v : T) → Agrees (k u v) (K u v) (C u v))
    → Agrees (parts2 a b k) (λ t. (u v : T) × H u × G v × K u v t) (λ f. (B f ⊎ D f) ⊎ ((u v : T) × H u × G v × C u v f))
agree_parts2 a b H G B D k K C h i g =
    let w = subst (λ z. Agrees (after (a.faults ++ b.faults) z) (λ t. (p : T × T) × (H p.0 × G p.1) × K p.0 p.1 t) (λ f. (B f ⊎ D f) ⊎ ((p : T × T) × (H p.0 × G p.1) × C p.0 p.1 f))) (with2_is a.type b.type k)
    (agree_with (a.faults ++ b.faults) (both a.type b.type) (λ p. H p.0 × G p.1) (λ f. B f ⊎ D f) (λ p. k p.0 p.1) (λ p. K p.0 p.1) (λ p. C p.0 p.1)
    (parts_both a.faults b.faults a.type b.type H G B D (as_parts a H B h) (as_parts b G D i)) (λ p. g p.0 p.1)) in
    record {
      typed = λ t e. let z = w.typed t e in (z.0.0, z.0.1, z.1.0, z.1.1, z.2);
      types = λ t z. w.types t ((z.0, z.1), (z.2, z.3), z.4);
      broken = λ f e. ⊎_elim (λ z. inl z) (λ z. inr (z.0.0, z.0.1, z.1.0, z.1.1, z.2)) (w.broken f e);
      breaks = λ f e. w.breaks f (⊎_elim (λ z. inl z) (λ z. inr ((z.0, z.1), (z.2, z.3), z.4)) e);
    }

pub agree_parts3 : (a b d : Found) (H G J : T → Type 0) (B D E : Fault → Type 0) (k : T → T → T → Found) (K : T → T → T → T → Type 0) (C : T → T → T → Fault → Type 0)
    → Agrees a H B → Agrees b G D → Agrees d J E → ((u v z : T) → Agrees (k u v z) (K u v z) (C u v z))
    → Agrees (parts3 a b d k) (λ t. (u v z : T) × H u × G v × J z × K u v z t) (λ f. (B f ⊎ D f ⊎ E f) ⊎ ((u v z : T) × H u × G v × J z × C u v z f))
agree_parts3 a b d H G J B D E k K C h i j g =
    let w = subst (λ z. Agrees (after ((a.faults ++ b.faults) ++ d.faults) z) (λ t. (p : (T × T) × T) × ((H p.0.0 × G p.0.1) × J p.1) × K p.0.0 p.0.1 p.1 t) (λ f. ((B f ⊎ D f) ⊎ E f) ⊎ ((p : (T × T) × T) × ((H p.0.0 × G p.0.1) × J p.1) × C p.0.0 p.0.1 p.1 f))) (with3_is a.type b.type d.type k)
    (agree_with ((a.faults ++ b.faults) ++ d.faults) (both (both a.type b.type) d.type) (λ p. (H p.0.0 × G p.0.1) × J p.1) (λ f. (B f ⊎ D f) ⊎ E f) (λ p. k p.0.0 p.0.1 p.1) (λ p. K p.0.0 p.0.1 p.1) (λ p. C p.0.0 p.0.1 p.1)
    (parts_both (a.faults ++ b.faults) d.faults (both a.type b.type) d.type (λ p. H p.0 × G p.1) J (λ f. B f ⊎ D f) E
    (parts_both a.faults b.faults a.type b.type H G B D (as_parts a H B h) (as_parts b G D i)) (as_parts d J E j)) (λ p. g p.0.0 p.0.1 p.1)) in
    record {
      typed = λ t e. let z = w.typed t e in (z.0.0.0, z.0.0.1, z.0.1, z.1.0.0, z.1.0.1, z.1.1, z.2);
      types = λ t z. w.types t (((z.0, z.1), z.2), ((z.3, z.4), z.5), z.6);
      broken = λ f e. ⊎_elim (λ z. inl (⊎_elim (λ v. ⊎_elim (λ u. inl u) (λ u. inr (inl u)) v) (λ v. inr (inr v)) z)) (λ z. inr (z.0.0.0, z.0.0.1, z.0.1, z.1.0.0, z.1.0.1, z.1.1, z.2)) (w.broken f e);
      breaks = λ f e. w.breaks f (⊎_elim (λ z. inl (⊎_elim (λ v. inl (inl v)) (λ v. ⊎_elim (λ u. inl (inr u)) (λ u. inr u) v) z)) (λ z. inr (((z.0, z.1), z.2), ((z.3, z.4), z.5), z.6)) e);
    }

pub agree_all : (a : Founds) (H : List T → Type 0) (B : Fault → Type 0) (k : List T → Found) (K : List T → T → Type 0) (C : List T → Fault → Type 0)
    → Parts a.faults a.types H B → ((u : List T) → Agrees (k u) (K u) (C u))
    → Agrees (parts_all a (λ us. with_all us k)) (λ t. (u : List T) × H u × K u t) (λ f. B f ⊎ ((u : List T) × H u × C u f))
agree_all a H B k K C h g =
    subst (λ z. Agrees (after a.faults z) (λ t. (u : List T) × H u × K u t) (λ f. B f ⊎ ((u : List T) × H u × C u f))) (with_all_is a.types k)
    (agree_with a.faults a.types H B k K C h g)

-- ---- names and scopes
pub agree_called : (p : Pos) (m : Meant) (a : Founds) (H : List T → Type 0) (B : Fault → Type 0) → Parts a.faults a.types H B
    → Agrees (parts_all a (called p m)) (λ t. (us : List T) × H us × Calls m us t) (λ f. B f ⊎ ((m ≡ wrong f) ⊎ ((us : List T) × H us × BreaksCall p m us f)))
agree_called p (wrong g) a H B h = record {
  typed = λ t e. cc;
  types = λ t k. let e = k.2.1 in cc;
  broken = λ f k. ⊎_elim (λ w. inl (h.broken f w)) (λ w. ⊎_elim (λ e. inr (inl (ap wrong (sym e)))) (λ v. absurd v) w) (in_cases a.faults (g ∷ []) f k);
  breaks = λ f k. ⊎_elim (λ w. in_left a.faults (g ∷ []) f (h.breaks f w)) (λ w. ⊎_elim (λ e. let q : f ≡ g = cc in in_right a.faults (g ∷ []) f (inl q)) (λ v. let e = v.2.2 in cc) w) k;
}
agree_called p (takes params u) a H B h =
    let w = agree_all a H B (λ ts. needing p (is_each params ts) (good u)) (λ ts t. AllMet (is_each params ts) × (t ≡ u)) (λ ts f. FirstUnmet p (is_each params ts) f ⊎ (AllMet (is_each params ts) × ⊥)) h
    (λ ts. agree_needing p (is_each params ts) (good u) (λ t. t ≡ u) (λ f. ⊥) (agree_good u)) in
    record {
      typed = λ t e. let k = w.typed t e in (k.0, k.1, (params, ap (takes params) (sym k.2.1), k.2.0));
      types = λ t k. let e = k.2.1 in let ep : params ≡ k.2.0 = cc in let et : t ≡ u = cc in w.types t (k.0, k.1, (subst (λ z. AllMet (is_each z k.0)) (sym ep) k.2.2, et));
      broken = λ f k. ⊎_elim (λ z. inl z) (λ z. inr (inr (z.0, z.1, ⊎_elim (λ v. (params, u, refl, v)) (λ v. absurd v.1) z.2))) (w.broken f k);
      breaks = λ f k. w.breaks f (⊎_elim (λ z. inl z) (λ z. ⊎_elim (λ e. cc) (λ v. let e = v.2.2 in let ep : params ≡ v.2.0 = cc in inr (v.0, v.1, inl (subst (λ y. FirstUnmet p (is_each y v.0) f) (sym ep) v.2.3))) z) k);
    }

pub agree_written : (r : Wr) → Agrees (written r) (IsWritten r) (WrittenBreaks r)
agree_written r = let u = r.ty in let p = r.pos in elim (ltb 64 (nodes u)) as (λ b. (ltb 64 (nodes u) ≡ b) → Agrees (cond b (bad (wide p)) (good u)) (λ t. (nodes u ≤ 64) × (t ≡ u)) (λ f. (64 < nodes u) × (f ≡ wide p))) [
  | true ↦ λ w. let lt = ltb-true 64 (nodes u) w in record {
    typed = λ t e. cc;
    types = λ t h. absurd (let le : nodes u ≤ 64 = h.0 in omega arith);
    broken = λ f h. ⊎_elim (λ e. (lt, e)) (λ k. absurd k) h;
    breaks = λ f h. inl h.1;
  }
  | false ↦ λ w. let le : nodes u ≤ 64 = grind arith in record {
    typed = λ t e. (le, cc);
    types = λ t h. ap Some (sym h.1);
    broken = λ f h. absurd h;
    breaks = λ f h. absurd (let lt : 64 < nodes u = h.0 in omega arith);
  }
] refl

pub agree_unless : (o : Option Fault) (x : Found) (H : T → Type 0) (B : Fault → Type 0) → Agrees x H B
    → Agrees (unless_wrong o x) (λ t. (o ≡ None) × H t) (λ f. (o ≡ Some f) ⊎ B f)
agree_unless None x H B a = record {
  typed = λ t e. (refl, a.typed t e);
  types = λ t h. a.types t h.1;
  broken = λ f h. inr (a.broken f h);
  breaks = λ f h. ⊎_elim (λ e. cc) (λ w. a.breaks f w) h;
}
agree_unless (Some g) x H B a = record {
  typed = λ t e. cc;
  types = λ t h. let e = h.0 in cc;
  broken = λ f h. ⊎_elim (λ e. inl (ap Some (sym e))) (λ w. inr (a.broken f w)) h;
  breaks = λ f h. ⊎_elim (λ e. inl cc) (λ w. inr (a.breaks f w)) h;
}

pub agree_room : (s : List TypedName) (x : Name) (a : Found) (H : T → Type 0) (B : Fault → Type 0) → Agrees a H B
    → Agrees (unless_full s x a) (λ t. NotFull s × H t) (λ f. NoRoom s x f ⊎ (NotFull s × B f))
agree_room s x a H B h = elim (ltb 63 (length s)) as (λ b. (ltb 63 (length s) ≡ b) → Agrees (cond b (bad (scope x.pos)) a) (λ t. NotFull s × H t) (λ f. NoRoom s x f ⊎ (NotFull s × B f))) [
  | true ↦ λ w. let lt = ltb-true 63 (length s) w in let le : 64 ≤ length s = omega arith in record {
    typed = λ t e. cc;
    types = λ t k. absurd (let z : length s < 64 = k.0 in omega arith);
    broken = λ f k. ⊎_elim (λ e. inl (le, e)) (λ z. absurd z) k;
    breaks = λ f k. ⊎_elim (λ z. inl z.1) (λ z. absurd (let y : length s < 64 = z.0 in omega arith)) k;
  }
  | false ↦ λ w. let lt : length s < 64 = grind arith in record {
    typed = λ t e. (lt, h.typed t e);
    types = λ t k. h.types t k.1;
    broken = λ f k. inr (lt, h.broken f k);
    breaks = λ f k. ⊎_elim (λ z. absurd (let y : 64 ≤ length s = z.0 in omega arith)) (λ z. h.breaks f z.1) k;
  }
] refl

-- a name is bound to what a part has, where the scope takes one more
pub agree_given : (s : List TypedName) (x : Name) (a : Found) (H : T → Type 0) (B : Fault → Type 0) (k : T → Found) (K : T → T → Type 0) (C : T → Fault → Type 0)
    → Agrees a H B → ((u : T) → Agrees (k u) (K u) (C u))
    → Agrees (after (scope_faults s x) (part (not_full s a) k)) (λ t. (u : T) × H u × NotFull s × K u t) (λ f. NoRoom s x f ⊎ (B f ⊎ ((u : T) × H u × NotFull s × C u f)))
agree_given s x a H B k K C h g =
    let w = agree_part a H B k K C h g in
    elim (ltb 63 (length s)) as (λ b. (ltb 63 (length s) ≡ b) → Agrees (after (cond b (scope x.pos ∷ []) []) (part (record { faults = a.faults; type = unless b a.type }) k)) (λ t. (u : T) × H u × NotFull s × K u t) (λ f. NoRoom s x f ⊎ (B f ⊎ ((u : T) × H u × NotFull s × C u f)))) [
      | true ↦ λ z. let lt = ltb-true 63 (length s) z in let le : 64 ≤ length s = omega arith in record {
        typed = λ t e. cc;
        types = λ t k. absurd (let z : length s < 64 = k.2 in omega arith);
        broken = λ f q. ⊎_elim (λ e. inl (le, e)) (λ v. inr (⊎_elim (λ y. inl (h.broken f y)) (λ y. absurd y) (in_cases a.faults [] f v))) q;
        breaks = λ f q. ⊎_elim (λ v. inl v.1) (λ v. ⊎_elim (λ y. inr (in_left a.faults [] f (h.breaks f y))) (λ y. absurd (let z : length s < 64 = y.2 in omega arith)) v) q;
      }
      | false ↦ λ z. let lt : length s < 64 = grind arith in record {
        typed = λ t e. let q = w.typed t e in (q.0, q.1, lt, q.2);
        types = λ t q. w.types t (q.0, q.1, q.3);
        broken = λ f q. inr (⊎_elim (λ v. inl v) (λ v. inr (v.0, v.1, lt, v.2)) (w.broken f q));
        breaks = λ f q. ⊎_elim (λ v. absurd (let y : 64 ≤ length s = v.0 in omega arith)) (λ v. w.breaks f (⊎_elim (λ y. inl y) (λ y. inr (y.0, y.1, y.3)) v)) q;
      }
    ] refl

pub agree_formed : (p : Pos) (form : Form) (u : T) (x : Found) (H : T → Type 0) (B : Fault → Type 0) → Agrees x H B
    → Agrees (needing p (of form u ∷ []) x) (λ t. Has form u × H t) (λ f. FirstUnmet p (of form u ∷ []) f ⊎ (Has form u × B f))
agree_formed p form u x H B a =
    let w = agree_needing p (of form u ∷ []) x H B a in
    record {
      typed = λ t e. let k = w.typed t e in (k.0.0, k.1);
      types = λ t k. w.types t ((k.0, tt), k.1);
      broken = λ f e. ⊎_elim (λ k. inl k) (λ k. inr (k.0.0, k.1)) (w.broken f e);
      breaks = λ f e. w.breaks f (⊎_elim (λ k. inl k) (λ k. inr ((k.0, tt), k.1)) e);
    }

pub parts_none : Parts {A = List T} [] (Some []) (λ us. us ≡ []) (λ f. ⊥)
parts_none = record { typed = λ t e. cc; types = λ t e. ap Some (sym e); broken = λ f h. h; breaks = λ f h. h }

joined_some : (o : Option T) (r : Option (List T)) (ts : List T) → joined o r ≡ Some ts → (u : T) × (us : List T) × (o ≡ Some u) × (r ≡ Some us) × (ts ≡ u ∷ us)
joined_some None r ts e = cc
joined_some (Some u) None ts e = cc
joined_some (Some u) (Some us) ts e = (u, us, refl, refl, cc)

pub parts_more : (a : Found) (b : Founds) (H : T → Type 0) (G : List T → Type 0) (B D : Fault → Type 0) → Agrees a H B → Parts b.faults b.types G D
    → Parts (join a b).faults (join a b).types (λ us. (u : T) × (vs : List T) × H u × G vs × (us ≡ u ∷ vs)) (λ f. B f ⊎ D f)
parts_more a b H G B D h i = record {
  typed = λ ts e. let k = joined_some a.type b.types ts e in (k.0, k.1, h.typed k.0 k.2, i.typed k.1 k.3, k.4);
  types = λ ts k. ap (λ z. joined z b.types) (h.types k.0 k.2) ∙ (ap (joined (Some k.0)) (i.types k.1 k.3) ∙ ap Some (sym k.4));
  broken = λ f k. ⊎_elim (λ w. inl (h.broken f w)) (λ w. inr (i.broken f w)) (in_cases a.faults b.faults f k);
  breaks = λ f k. ⊎_elim (λ w. in_left a.faults b.faults f (h.breaks f w)) (λ w. in_right a.faults b.faults f (i.breaks f w)) k;
}
