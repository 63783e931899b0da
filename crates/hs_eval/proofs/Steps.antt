-- Steps of the evaluator.
use Rattle.std.proofs.Common.{◌≡◌, ℕ, suc, ◌+◌, ◌<◌, ◌≤◌, zero, List, [], ◌∷◌, ◌++◌, length, take, drop, refl, ap, ◌∙◌, sym, arith, append_assoc, Some, None}
use Rattle.std.specs.Prelude.{slice_get}
use Rattle.std.proofs.Math.ListN.{drop_of_length-le}
use Rattle.hs_base.specs.declared.exn.Exn.{Exn}
use Rattle.hs_base.specs.declared.value.Value.{Value}
use Rattle.hs_base.specs.declared.value.Value.TheVariants as raw
use Rattle.hs_base.specs.declared.tree.forms.BinaryForm.{BinaryForm}
use Rattle.hs_base.specs.declared.tree.forms.BinaryForm.TheVariants as b
use Rattle.hs_base.specs.declared.tree.forms.UnaryForm.{UnaryForm}
use Rattle.hs_base.specs.declared.tree.forms.SideForm.{SideForm}
use Rattle.rules_code.specs.declared.node.Node.{Node}
use Rattle.rules_code.specs.declared.node.Node.TheVariants as n
use Rattle.rules_code.specs.declared.node.ExprId.{ExprId}
use Rattle.rules_code.specs.declared.node.NodeLink.{NodeLink}
use Rattle.hs_base.specs.declared.value.ValueList.{ValueList}
use Rattle.hs_base.specs.declared.value.ValueList.TheVariants as items
use Rattle.hs_base.specs.Lists.{before}
use Rattle.rules_meaning.specs.Values.{V, Nil, Cons, value_of, list_value_of, values_of, Outcome, Gives, Throws, Stuck, Outcomes, AllGive, OneThrows, OneStuck, and_one, and_then}
use Rattle.rules_meaning.specs.Meaning.{put_before, then, then_all, binary_of, linked}
use Rattle.rules_code.specs.Slots.{Sx, Slinks, s_end, s_link, run, run_all, run_right, tree_in, trees_in, links_in}
use Rattle.hs_eval.specs.Evaluation.{slots, mirrored, operands_of, with_values, join_right, join_all, after}
use Rattle.rules_meaning.proofs.Values.{value_of-List, list_value_of-Nil, list_value_of-before}
use Rattle.hs_eval.proofs.Cases.{by_list}

onto_list : (v : V) (us : ValueList) → put_before v (list_value_of us) ≡ Gives (Cons v (list_value_of us))
onto_list v us =
    by_list (λ ws. put_before v (list_value_of ws) ≡ Gives (Cons v (list_value_of ws)))
    (ap (put_before v) list_value_of-Nil ∙ ap (λ z. Gives (Cons v z)) (sym list_value_of-Nil))
    (λ a rest. ap (put_before v) (list_value_of-before a rest) ∙ ap (λ z. Gives (Cons v z)) (sym (list_value_of-before a rest)))
    us

pub put_before_list : (v : V) (us : ValueList) → put_before v (value_of (raw.List us)) ≡ Gives (Cons v (list_value_of us))
put_before_list v us = ap (put_before v) (value_of-List us) ∙ onto_list v us

-- ---- the values of slots

pub values-append : (xs ys : List Value) → values_of (xs ++ ys) ≡ values_of xs ++ values_of ys
values-append [] ys = refl
values-append (x ∷ xs) ys = ap (λ z. value_of x ∷ z) (values-append xs ys)

pub slots-push : (outer inner : List Value) (v : Value) → slots outer (inner ++ v ∷ []) ≡ slots outer inner ++ value_of v ∷ []
slots-push outer inner v = ap values_of (sym (append_assoc outer inner (v ∷ []))) ∙ values-append (outer ++ inner) (v ∷ [])

pub off_is : (xs ys : List Value) (x y : Value) → xs ++ x ∷ [] ≡ ys ++ y ∷ [] → xs ≡ ys
off_is [] [] x y h = refl
off_is [] (b ∷ []) x y h = cc
off_is [] (b ∷ c ∷ ys) x y h = cc
off_is (a ∷ []) [] x y h = cc
off_is (a ∷ c ∷ xs) [] x y h = cc
off_is (a ∷ xs) (b ∷ ys) x y h = let e : a ≡ b = cc in let r : xs ++ x ∷ [] ≡ ys ++ y ∷ [] = cc in ap (λ z. z ∷ xs) e ∙ ap (λ z. b ∷ z) (off_is xs ys x y r)

get_left : (xs ys : List Value) (k : ℕ) → k < length xs → slice_get (xs ++ ys) k ≡ slice_get xs k
get_left [] ys k h = absurd (omega arith)
get_left (x ∷ xs) ys zero h = refl
get_left (x ∷ xs) ys (suc k) h = get_left xs ys k (omega arith)

get_right : (xs ys : List Value) (k : ℕ) → slice_get (xs ++ ys) (length xs + k) ≡ slice_get ys k
get_right [] ys k = ap (slice_get ys) (let e : 0 + k ≡ k = omega arith in e)
get_right (x ∷ xs) ys k = ap (slice_get (x ∷ (xs ++ ys))) (let e : length (x ∷ xs) + k ≡ suc (length xs + k) = omega arith in e) ∙ get_right xs ys k

mirrored_get : (vs : List Value) (k : ℕ) → slice_get (values_of vs) k ≡ mirrored (slice_get vs k)
mirrored_get [] k = refl
mirrored_get (x ∷ vs) zero = refl
mirrored_get (x ∷ vs) (suc k) = mirrored_get vs k

pub outer_slot : (outer inner : List Value) (k : ℕ) → k < length outer → slice_get (slots outer inner) k ≡ mirrored (slice_get outer k)
outer_slot outer inner k l = mirrored_get (outer ++ inner) k ∙ ap mirrored (get_left outer inner k l)

pub inner_slot : (outer inner : List Value) (k j : ℕ) → k ≡ length outer + j → slice_get (slots outer inner) k ≡ mirrored (slice_get inner j)
inner_slot outer inner k j e = mirrored_get (outer ++ inner) k ∙ ap mirrored (ap (slice_get (outer ++ inner)) e ∙ get_right outer inner j)

-- ---- lists of expressions

pub with_one_more : (vs : List V) (v : V) (o : Outcomes) → with_values (vs ++ v ∷ []) o ≡ with_values vs (and_one v o)
with_one_more [] v o = refl
with_one_more (u ∷ vs) v o = ap (and_one u) (with_one_more vs v o)

pub with_throw : (vs : List V) (e : Exn) → with_values vs (OneThrows e) ≡ OneThrows e
with_throw [] e = refl
with_throw (v ∷ vs) e = ap (and_one v) (with_throw vs e)

pub with_stuck : (vs : List V) → with_values vs OneStuck ≡ OneStuck
with_stuck [] = refl
with_stuck (v ∷ vs) = ap (and_one v) (with_stuck vs)

pub with_all : (vs : List V) → with_values vs (AllGive []) ≡ AllGive vs
with_all [] = refl
with_all (v ∷ vs) = ap (and_one v) (with_all vs)

pub ruleset push_rules = (slots-push)

-- ---- links

pub linked_throws : (f : BinaryForm) (e : Exn) (p : Outcome) → linked f (Throws e) p ≡ Throws e
linked_throws b.Pair e p = refl
linked_throws b.Div e p = refl
linked_throws b.Mod e p = refl
linked_throws b.Equal e p = refl
linked_throws b.Unequal e p = refl
linked_throws b.Less e p = refl
linked_throws b.AtMost e p = refl
linked_throws b.Greater e p = refl
linked_throws b.AtLeast e p = refl
linked_throws b.Or e p = refl
linked_throws b.And e p = refl
linked_throws b.Plus e p = refl
linked_throws b.Minus e p = refl
linked_throws b.Times e p = refl
linked_throws b.Cons e p = refl
linked_throws b.Append e p = refl

pub linked_stuck : (f : BinaryForm) (p : Outcome) → linked f Stuck p ≡ Stuck
linked_stuck b.Pair p = refl
linked_stuck b.Div p = refl
linked_stuck b.Mod p = refl
linked_stuck b.Equal p = refl
linked_stuck b.Unequal p = refl
linked_stuck b.Less p = refl
linked_stuck b.AtMost p = refl
linked_stuck b.Greater p = refl
linked_stuck b.AtLeast p = refl
linked_stuck b.Or p = refl
linked_stuck b.And p = refl
linked_stuck b.Plus p = refl
linked_stuck b.Minus p = refl
linked_stuck b.Times p = refl
linked_stuck b.Cons p = refl
linked_stuck b.Append p = refl

pub linked_other : (f : BinaryForm) (v : V) (p : Outcome) → (f ≡ b.And → ⊥) → (f ≡ b.Or → ⊥) → linked f (Gives v) p ≡ then p (binary_of f v)
linked_other b.Pair v p h g = refl
linked_other b.Div v p h g = refl
linked_other b.Mod v p h g = refl
linked_other b.Equal v p h g = refl
linked_other b.Unequal v p h g = refl
linked_other b.Less v p h g = refl
linked_other b.AtMost v p h g = refl
linked_other b.Greater v p h g = refl
linked_other b.AtLeast v p h g = refl
linked_other b.Or v p h g = absurd (g refl)
linked_other b.And v p h g = absurd (h refl)
linked_other b.Plus v p h g = refl
linked_other b.Minus v p h g = refl
linked_other b.Times v p h g = refl
linked_other b.Cons v p h g = refl
linked_other b.Append v p h g = refl

pub ruleset linked_rules = (linked_throws, linked_stuck, linked_other)

-- ---- chains that group from the right

pub right_throws : (vs : List V) (e : Exn) (ks : Slinks) → run_right vs (Throws e) ks ≡ Throws e
right_throws vs e s_end = refl
right_throws vs e (s_link f a ks) = refl

pub right_stuck : (vs : List V) (ks : Slinks) → run_right vs Stuck ks ≡ Stuck
right_stuck vs s_end = refl
right_stuck vs (s_link f a ks) = refl

all_joined : (k : NodeLink) (ks : List NodeLink) (v w : V) (o : Outcomes) → then (then_all (and_one w o) (join_all ks)) (binary_of k.form v) ≡ then_all (and_one v (and_one w o)) (join_all (k ∷ ks))
all_joined k ks v w (AllGive us) = refl
all_joined k ks v w (OneThrows e) = refl
all_joined k ks v w OneStuck = refl

right_from : (ts : List Sx) (vs : List V) (v : V) (k : NodeLink) (ks : List NodeLink) (o : Outcome)
    → ((w : V) → run_right vs (Gives w) (links_in ts ks) ≡ then_all (and_one w (run_all (trees_in ts (operands_of ks)) vs)) (join_all ks))
    → then (run_right vs o (links_in ts ks)) (binary_of k.form v) ≡ then_all (and_one v (and_then o (run_all (trees_in ts (operands_of ks)) vs))) (join_all (k ∷ ks))
right_from ts vs v k ks (Gives w) h = ap (λ z. then z (binary_of k.form v)) (h w) ∙ all_joined k ks v w (run_all (trees_in ts (operands_of ks)) vs)
right_from ts vs v k ks (Throws e) h = ap (λ z. then z (binary_of k.form v)) (right_throws vs e (links_in ts ks))
right_from ts vs v k ks Stuck h = ap (λ z. then z (binary_of k.form v)) (right_stuck vs (links_in ts ks))

pub right_is : (ts : List Sx) (vs : List V) (v : V) (ks : List NodeLink) → run_right vs (Gives v) (links_in ts ks) ≡ then_all (and_one v (run_all (trees_in ts (operands_of ks)) vs)) (join_all ks)
right_is ts vs v [] = refl
right_is ts vs v (k ∷ ks) = right_from ts vs v k ks (run (tree_in ts k.operand) vs) (λ w. right_is ts vs w ks)

last_alone : (k : NodeLink) (ks : List NodeLink) (w : V) → join_all (k ∷ ks) (w ∷ []) ≡ Stuck
last_alone k [] w = refl
last_alone k (x ∷ ks) w = refl

pub last_joined : (ks : List NodeLink) (us : List V) (w : V) → join_all ks (us ++ w ∷ []) ≡ join_right ks us (Gives w)
last_joined [] [] w = refl
last_joined [] (u ∷ []) w = refl
last_joined [] (u ∷ x ∷ us) w = refl
last_joined (k ∷ ks) [] w = last_alone k ks w
last_joined (k ∷ ks) (u ∷ us) w = ap (λ z. then z (binary_of k.form u)) (last_joined ks us w)

no_more : (ks : List NodeLink) (k : NodeLink) (o : Outcome) → join_right (ks ++ k ∷ []) [] o ≡ Stuck
no_more [] k o = refl
no_more (x ∷ ks) k o = refl

too_many : (us : List V) (k : NodeLink) (u v : V) (o : Outcome) → join_right (k ∷ []) (u ∷ (us ++ v ∷ [])) o ≡ Stuck
too_many [] k u v o = refl
too_many (x ∷ us) k u v o = refl

join_more : (ks : List NodeLink) (us : List V) (k : NodeLink) (v : V) (o : Outcome) → join_right (ks ++ k ∷ []) (us ++ v ∷ []) o ≡ join_right ks us (then o (binary_of k.form v))
join_more [] [] k v o = refl
join_more [] (u ∷ us) k v o = too_many us k u v o
join_more (x ∷ ks) [] k v o = ap (λ z. then z (binary_of x.form v)) (no_more ks k o)
join_more (x ∷ ks) (u ∷ us) k v o = ap (λ z. then z (binary_of x.form u)) (join_more ks us k v o)

pub last_value : (vs us : List Value) (w : Value) (ks : List NodeLink) → vs ≡ us ++ w ∷ [] → join_all ks (values_of vs) ≡ join_right ks (values_of us) (Gives (value_of w))
last_value vs us w ks e = ap (λ z. join_all ks (values_of z)) e ∙ (ap (join_all ks) (values-append us (w ∷ [])) ∙ last_joined ks (values_of us) (value_of w))

take_last : {A : Type 0} (ks : List A) (i : ℕ) (k : A) → slice_get ks i ≡ Some k → take (suc i) ks ≡ take i ks ++ k ∷ []
take_last [] i k h = let z : None ≡ Some k = h in cc
take_last (x ∷ ks) zero k h = let e : x ≡ k = cc in ap (λ z. z ∷ []) e
take_last (x ∷ ks) (suc i) k h = ap (λ z. x ∷ z) (take_last ks i k h)

pub one_joined : (ks : List NodeLink) (i j : ℕ) (k : NodeLink) (vs us : List Value) (v : Value) (o : Outcome) → j ≡ i + 1 → slice_get ks i ≡ Some k → vs ≡ us ++ v ∷ []
    → join_right (take j ks) (values_of vs) o ≡ join_right (take i ks) (values_of us) (then o (binary_of k.form (value_of v)))
one_joined ks i j k vs us v o ej lt e =
    let t : take j ks ≡ take i ks ++ k ∷ [] = ap (λ n. take n ks) (let z : j ≡ suc i = omega arith in z) ∙ take_last ks i k lt in
    ap (λ z. join_right z (values_of vs) o) t ∙ (ap (λ z. join_right (take i ks ++ k ∷ []) (values_of z) o) e ∙ (ap (λ z. join_right (take i ks ++ k ∷ []) z o) (values-append us (v ∷ [])) ∙ join_more (take i ks) (values_of us) k (value_of v) o))

pub none_joined : (ks : List NodeLink) (i j : ℕ) (vs : List Value) (o : Outcome) → j ≡ i + 1 → i < length ks → vs ≡ [] → join_right (take j ks) (values_of vs) o ≡ Stuck
none_joined [] i j vs o ej lt e = absurd (omega arith)
none_joined (k ∷ ks) i j vs o ej lt e = ap (λ z. join_right (take j (k ∷ ks)) (values_of z) o) e ∙ ap (λ n. join_right (take n (k ∷ ks)) [] o) (let z : j ≡ suc i = omega arith in z)

-- ---- a list by its first item

pub no_item : (xs : ValueList) → xs ≡ items.Nil → value_of (raw.List xs) ≡ Nil
no_item xs e = value_of-List xs ∙ ap list_value_of e ∙ list_value_of-Nil

pub first_item : (xs : ValueList) (v : Value) (ys : ValueList) → xs ≡ before v ys → value_of (raw.List xs) ≡ Cons (value_of v) (value_of (raw.List ys))
first_item xs v ys e = value_of-List xs ∙ ap list_value_of e ∙ list_value_of-before v ys ∙ ap (Cons (value_of v)) (sym (value_of-List ys))

-- ---- nodes with no first part that others follow

pub after_other : (ts : List Sx) (k : Node) (vs : List V) (v : V) → ((f : UnaryForm) (i : ExprId) → k ≡ n.Unary f i → ⊥) → ((f : SideForm) (i : ExprId) → k ≡ n.Side f i → ⊥)
    → ((f : BinaryForm) (i j : ExprId) → k ≡ n.Binary f i j → ⊥) → ((h i j : ExprId) → k ≡ n.If h i j → ⊥) → ((i j : ExprId) → k ≡ n.Let i j → ⊥) → ((h i j : ExprId) → k ≡ n.CaseMaybe h i j → ⊥)
    → ((h i j : ExprId) → k ≡ n.CaseEither h i j → ⊥) → ((h i j : ExprId) → k ≡ n.CaseList h i j → ⊥) → ((h i : ExprId) → k ≡ n.CasePair h i → ⊥) → after ts k vs v ≡ Stuck
after_other ts (n.Int m) vs v h1 h2 h3 h4 h5 h6 h7 h8 h9 = refl
after_other ts (n.Text t) vs v h1 h2 h3 h4 h5 h6 h7 h8 h9 = refl
after_other ts (n.Bool t) vs v h1 h2 h3 h4 h5 h6 h7 h8 h9 = refl
after_other ts (n.Exn e) vs v h1 h2 h3 h4 h5 h6 h7 h8 h9 = refl
after_other ts n.Unit vs v h1 h2 h3 h4 h5 h6 h7 h8 h9 = refl
after_other ts (n.Empty f) vs v h1 h2 h3 h4 h5 h6 h7 h8 h9 = refl
after_other ts (n.Slot m) vs v h1 h2 h3 h4 h5 h6 h7 h8 h9 = refl
after_other ts (n.Unary f i) vs v h1 h2 h3 h4 h5 h6 h7 h8 h9 = absurd (h1 f i refl)
after_other ts (n.Side f i) vs v h1 h2 h3 h4 h5 h6 h7 h8 h9 = absurd (h2 f i refl)
after_other ts (n.Binary f i j) vs v h1 h2 h3 h4 h5 h6 h7 h8 h9 = absurd (h3 f i j refl)
after_other ts (n.Chain i ks) vs v h1 h2 h3 h4 h5 h6 h7 h8 h9 = refl
after_other ts (n.Conses i ks) vs v h1 h2 h3 h4 h5 h6 h7 h8 h9 = refl
after_other ts (n.List ids) vs v h1 h2 h3 h4 h5 h6 h7 h8 h9 = refl
after_other ts (n.If h i j) vs v h1 h2 h3 h4 h5 h6 h7 h8 h9 = absurd (h4 h i j refl)
after_other ts (n.Let i j) vs v h1 h2 h3 h4 h5 h6 h7 h8 h9 = absurd (h5 i j refl)
after_other ts (n.CaseMaybe h i j) vs v h1 h2 h3 h4 h5 h6 h7 h8 h9 = absurd (h6 h i j refl)
after_other ts (n.CaseEither h i j) vs v h1 h2 h3 h4 h5 h6 h7 h8 h9 = absurd (h7 h i j refl)
after_other ts (n.CaseList h i j) vs v h1 h2 h3 h4 h5 h6 h7 h8 h9 = absurd (h8 h i j refl)
after_other ts (n.CasePair h i) vs v h1 h2 h3 h4 h5 h6 h7 h8 h9 = absurd (h9 h i refl)
after_other ts (n.Call i ids) vs v h1 h2 h3 h4 h5 h6 h7 h8 h9 = refl

pub end_joined : (ks : List NodeLink) (i : ℕ) (vs : List Value) (o : Outcome) → i ≡ 0 → (vs ≡ [] → ⊥) → join_right (take i ks) (values_of vs) o ≡ Stuck
end_joined ks i [] o e h = absurd (h refl)
end_joined ks i (v ∷ vs) o e h = ap (λ n. join_right (take n ks) (values_of (v ∷ vs)) o) e

pub nothing_joined : (ks : List NodeLink) (vs : List Value) → vs ≡ [] → join_all ks (values_of vs) ≡ Stuck
nothing_joined [] vs e = ap (λ z. join_all [] (values_of z)) e
nothing_joined (k ∷ ks) vs e = ap (λ z. join_all (k ∷ ks) (values_of z)) e

pub ruleset right_rules = (right_is, right_throws, right_stuck)

-- ---- the parts of a list or a call

drop_at : {A : Type 0} (xs : List A) (i : ℕ) (x : A) → slice_get xs i ≡ Some x → drop i xs ≡ x ∷ drop (suc i) xs
drop_at [] i x h = let z : None ≡ Some x = h in cc
drop_at (y ∷ xs) zero x h = let e : y ≡ x = cc in ap (λ z. z ∷ xs) e
drop_at (y ∷ xs) (suc i) x h = drop_at xs i x h

drop_next : {A : Type 0} (xs : List A) (i j : ℕ) (x : A) → j ≡ i + 1 → slice_get xs i ≡ Some x → drop i xs ≡ x ∷ drop j xs
drop_next xs i j x e h = drop_at xs i x h ∙ ap (λ n. x ∷ drop n xs) (let z : suc i ≡ j = omega (arith, e) in z)

pub all_step : (ts : List Sx) (ids : List ExprId) (i j : ℕ) (id : ExprId) (env : List V) (vs us : List Value) (v : Value) (r : Outcomes) → j ≡ i + 1 → slice_get ids i ≡ Some id
    → with_values (values_of vs) (run_all (trees_in ts (drop i ids)) env) ≡ r → Gives (value_of v) ≡ run (tree_in ts id) env → us ≡ vs ++ v ∷ []
    → with_values (values_of us) (run_all (trees_in ts (drop j ids)) env) ≡ r
all_step ts ids i j id env vs us v r ej e h g eu =
    let rest = run_all (trees_in ts (drop j ids)) env in
    ap (λ z. with_values (values_of z) rest) eu ∙ (ap (λ z. with_values z rest) (values-append vs (v ∷ [])) ∙ (with_one_more (values_of vs) (value_of v) rest
    ∙ (ap (λ o. with_values (values_of vs) (and_then o rest)) g ∙ (ap (λ z. with_values (values_of vs) (run_all (trees_in ts z) env)) (sym (drop_next ids i j id ej e)) ∙ h))))

pub all_throw : (ts : List Sx) (ids : List ExprId) (i : ℕ) (id : ExprId) (env : List V) (vs : List Value) (x : Exn) (r : Outcomes) → slice_get ids i ≡ Some id
    → with_values (values_of vs) (run_all (trees_in ts (drop i ids)) env) ≡ r → Throws x ≡ run (tree_in ts id) env → OneThrows x ≡ r
all_throw ts ids i id env vs x r e h g =
    let rest = run_all (trees_in ts (drop (suc i) ids)) env in
    sym (with_throw (values_of vs) x) ∙ (ap (λ o. with_values (values_of vs) (and_then o rest)) g ∙ (ap (λ z. with_values (values_of vs) (run_all (trees_in ts z) env)) (sym (drop_at ids i id e)) ∙ h))

pub all_stuck : (ts : List Sx) (ids : List ExprId) (i : ℕ) (id : ExprId) (env : List V) (vs : List Value) (r : Outcomes) → slice_get ids i ≡ Some id
    → with_values (values_of vs) (run_all (trees_in ts (drop i ids)) env) ≡ r → Stuck ≡ run (tree_in ts id) env → OneStuck ≡ r
all_stuck ts ids i id env vs r e h g =
    let rest = run_all (trees_in ts (drop (suc i) ids)) env in
    sym (with_stuck (values_of vs)) ∙ (ap (λ o. with_values (values_of vs) (and_then o rest)) g ∙ (ap (λ z. with_values (values_of vs) (run_all (trees_in ts z) env)) (sym (drop_at ids i id e)) ∙ h))

pub all_end : (ts : List Sx) (ids : List ExprId) (i : ℕ) (env : List V) (vs : List Value) (r : Outcomes) → length ids ≤ i
    → with_values (values_of vs) (run_all (trees_in ts (drop i ids)) env) ≡ r → AllGive (values_of vs) ≡ r
all_end ts ids i env vs r lt h =
    sym (with_all (values_of vs)) ∙ (ap (λ z. with_values (values_of vs) (run_all (trees_in ts z) env)) (sym (drop_of_length-le ids lt)) ∙ h)
