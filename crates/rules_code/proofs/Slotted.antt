-- An expression with slots means what the expression with names means.
use Rattle.std.proofs.Common.{◌≡◌, ℕ, zero, suc, ◌+◌, ◌==◌, List, [], ◌∷◌, ◌++◌, length, Bool, true, false, cond, Option, Some, None, refl, ap, ◌∙◌, sym, subst, arith, append_assoc, length-append}
use Rattle.std.specs.Prelude.{slice_get, bytes_eq}
use Rattle.std.proofs.lemmas.List.{append-nil}
use Rattle.plain_laws.proofs.Lists.{get_append}
use Rattle.rules_expansion.specs.trees.Trees.{Ex, Exs, Links, Arms, lit, name, unary, binary, chain, conses, choose, items, empty, side, given, case, none, more, end, link, maybe_arms, either_arms, list_arms, pair_arms}
use Rattle.rules_expansion.specs.trees.Programs.{Bd, pure_body, io_body, Fn}
use Rattle.rules_expansion.specs.Names.{Written, same_name}
use Rattle.rules_meaning.specs.Values.{V, UnitValue, Int, Truth, Text, Pair, Nothing, Just, Left, Right, Nil, Cons, Cell, Thread, Exception, Restore, Inst, list_of, Env, with_name, value_at, Outcome, Gives, Throws, Stuck, Outcomes, AllGive, OneThrows, OneStuck, and_then}
use Rattle.rules_meaning.specs.Meaning.{Functions, then, then_all, answer, or_else, linked, binary_of, unary_of, side_of, on_truth, on_maybe, on_either, on_list, on_pair, value_of_ex, values_of_exs, left_chain, right_chain, value_of_arms, bound_onto, in_env, answer_of, texts_of, with_body, functions_onto, functions_of}
use Rattle.rules_code.specs.Slots.{Sx, s_call, s_bad, run, run_all, run_left, run_right, at_slot, Scope, slot_of, Root, body_of, read_or, count, slotted, slotted_all, slotted_links, slotted_arms, scope_onto, root_with, roots_onto, roots_of}
use Rattle.rules_code.specs.Matching.{Seen, Matches, Parallel}

-- ---- slots

get_end : (xs : List V) (k : ℕ) (v : V) → length xs ≡ k → slice_get (xs ++ v ∷ []) k ≡ Some v
get_end [] zero v h = refl
get_end [] (suc k) v h = absurd (omega arith)
get_end (x ∷ xs) zero v h = absurd (omega arith)
get_end (x ∷ xs) (suc k) v h = get_end xs k v (omega arith)

pub seen_more : (o : Option ℕ) (r : Option V) (vs us : List V) → Seen o r vs → Seen o r (vs ++ us)
seen_more None None vs us h = tt
seen_more None (Some v) vs us h = h
seen_more (Some k) None vs us h = h
seen_more (Some k) (Some v) vs us h = get_append vs us k v h

pub seen_bound : (t : Bool) (n : ℕ) (o : Option ℕ) (r : Option V) (vs : List V) (v : V) → length vs ≡ n → Seen o r vs → Seen (cond t (Some n) o) (cond t (Some v) r) (vs ++ v ∷ [])
seen_bound true n o r vs v e h = get_end vs n v e
seen_bound false n o r vs v e h = seen_more o r vs (v ∷ []) h

-- a name is bound
pub matches_more : (s : Scope) (env : Env) (vs : List V) (x : List ℕ) (v : V) → Matches s env vs → Matches (Written x ∷ s) (with_name (Written x) v env) (vs ++ v ∷ [])
matches_more s env vs x v m = record {
  size = (let l = length-append vs (v ∷ []) in let z = m.size in omega (arith, l, z));
  seen = (λ y h. seen_bound (same_name y (Written x)) (length s) (slot_of s y) (value_at y env) vs v m.size (m.seen y h));
}

read_is : (k : Option ℕ) (r : Option V) (vs : List V) (t : Sx) (o : Outcome) → Seen k r vs → run t vs ≡ o → run (read_or k t) vs ≡ or_else r o
read_is None None vs t o h e = e
read_is None (Some v) vs t o h e = absurd h
read_is (Some k) None vs t o h e = absurd h
read_is (Some k) (Some v) vs t o h e = ap at_slot h

-- ---- the same in each part

then_same : (o o' : Outcome) (k k' : V → Outcome) → o ≡ o' → ((v : V) → k v ≡ k' v) → then o k ≡ then o' k'
then_same o o' k k' e h = ap (λ z. then z k) e ∙ elim o' as (λ z. then z k ≡ then z k') [ Gives v ↦ h v | Throws x ↦ refl | Stuck ↦ refl ]

all_same : (o o' : Outcome) (r r' : Outcomes) → o ≡ o' → r ≡ r' → and_then o r ≡ and_then o' r'
all_same o o' r r' e h = ap (λ z. and_then z r) e ∙ ap (and_then o') h

truth_same : (a a' c c' : Outcome) → a ≡ a' → c ≡ c' → (v : V) → on_truth (λ t. cond t a c) v ≡ on_truth (λ t. cond t a' c') v
truth_same a a' c c' e h v = ap (λ z. on_truth (λ t. cond t z c) v) e ∙ ap (λ z. on_truth (λ t. cond t a' z) v) h

maybe_same : (o o' : Outcome) (k k' : V → Outcome) → o ≡ o' → ((v : V) → k v ≡ k' v) → (v : V) → on_maybe o k v ≡ on_maybe o' k' v
maybe_same o o' k k' e h Nothing = e
maybe_same o o' k k' e h (Just a) = h a
maybe_same o o' k k' e h UnitValue = refl
maybe_same o o' k k' e h (Int m) = refl
maybe_same o o' k k' e h (Truth t) = refl
maybe_same o o' k k' e h (Text t) = refl
maybe_same o o' k k' e h (Pair a c) = refl
maybe_same o o' k k' e h (Left a) = refl
maybe_same o o' k k' e h (Right a) = refl
maybe_same o o' k k' e h Nil = refl
maybe_same o o' k k' e h (Cons a c) = refl
maybe_same o o' k k' e h (Cell m) = refl
maybe_same o o' k k' e h (Thread m) = refl
maybe_same o o' k k' e h (Exception x) = refl
maybe_same o o' k k' e h (Restore m) = refl
maybe_same o o' k k' e h (Inst m) = refl

either_same : (g g' k k' : V → Outcome) → ((v : V) → g v ≡ g' v) → ((v : V) → k v ≡ k' v) → (v : V) → on_either g k v ≡ on_either g' k' v
either_same g g' k k' e h Nothing = refl
either_same g g' k k' e h (Just a) = refl
either_same g g' k k' e h UnitValue = refl
either_same g g' k k' e h (Int m) = refl
either_same g g' k k' e h (Truth t) = refl
either_same g g' k k' e h (Text t) = refl
either_same g g' k k' e h (Pair a c) = refl
either_same g g' k k' e h (Left a) = e a
either_same g g' k k' e h (Right a) = h a
either_same g g' k k' e h Nil = refl
either_same g g' k k' e h (Cons a c) = refl
either_same g g' k k' e h (Cell m) = refl
either_same g g' k k' e h (Thread m) = refl
either_same g g' k k' e h (Exception x) = refl
either_same g g' k k' e h (Restore m) = refl
either_same g g' k k' e h (Inst m) = refl

list_same : (o o' : Outcome) (k k' : V → V → Outcome) → o ≡ o' → ((v w : V) → k v w ≡ k' v w) → (v : V) → on_list o k v ≡ on_list o' k' v
list_same o o' k k' e h Nothing = refl
list_same o o' k k' e h (Just a) = refl
list_same o o' k k' e h UnitValue = refl
list_same o o' k k' e h (Int m) = refl
list_same o o' k k' e h (Truth t) = refl
list_same o o' k k' e h (Text t) = refl
list_same o o' k k' e h (Pair a c) = refl
list_same o o' k k' e h (Left a) = refl
list_same o o' k k' e h (Right a) = refl
list_same o o' k k' e h Nil = e
list_same o o' k k' e h (Cons a c) = h a c
list_same o o' k k' e h (Cell m) = refl
list_same o o' k k' e h (Thread m) = refl
list_same o o' k k' e h (Exception x) = refl
list_same o o' k k' e h (Restore m) = refl
list_same o o' k k' e h (Inst m) = refl

pair_same : (k k' : V → V → Outcome) → ((v w : V) → k v w ≡ k' v w) → (v : V) → on_pair k v ≡ on_pair k' v
pair_same k k' h Nothing = refl
pair_same k k' h (Just a) = refl
pair_same k k' h UnitValue = refl
pair_same k k' h (Int m) = refl
pair_same k k' h (Truth t) = refl
pair_same k k' h (Text t) = refl
pair_same k k' h (Pair a c) = h a c
pair_same k k' h (Left a) = refl
pair_same k k' h (Right a) = refl
pair_same k k' h Nil = refl
pair_same k k' h (Cons a c) = refl
pair_same k k' h (Cell m) = refl
pair_same k k' h (Thread m) = refl
pair_same k k' h (Exception x) = refl
pair_same k k' h (Restore m) = refl
pair_same k k' h (Inst m) = refl

-- ---- calls

pub answers : (fs : Functions) (rs : List Root) (f : List ℕ) (vs : List V) → Parallel fs rs → run (body_of rs f (length vs)) vs ≡ answer fs f vs
answers [] [] f vs p = refl
answers [] (r ∷ rs) f vs p = absurd p
answers (g ∷ fs) [] f vs p = absurd p
answers (g ∷ fs) (r ∷ rs) f vs p =
    elim (bytes_eq r.text f) as (λ t. run (cond t (cond (r.params == length vs) r.tree s_bad) (body_of rs f (length vs))) vs ≡ cond t (g.1 vs) (answer fs f vs)) [
      | true ↦ p.1 vs
      | false ↦ answers fs rs f vs p.2
    ]
    ∙ ap (λ z. cond (bytes_eq z f) (g.1 vs) (answer fs f vs)) (sym p.0)

abbrev Counted : ℕ → Outcomes → Type 0
Counted k (AllGive vs) = length vs ≡ k
Counted k (OneThrows e) = Unit {0}
Counted k OneStuck = Unit {0}

counted_more : (k : ℕ) (o : Outcome) (r : Outcomes) → Counted k r → Counted (1 + k) (and_then o r)
counted_more k (Gives v) (AllGive vs) h = omega (arith, h)
counted_more k (Gives v) (OneThrows e) h = tt
counted_more k (Gives v) OneStuck h = tt
counted_more k (Throws e) r h = tt
counted_more k Stuck r h = tt

counted : (fs : Functions) (env : Env) (es : Exs) → Counted (count es) (values_of_exs fs env es)
counted fs env none = refl
counted fs env (more e es) = counted_more (count es) (value_of_ex fs env e) (values_of_exs fs env es) (counted fs env es)

call_same : (fs : Functions) (rs : List Root) (f : List ℕ) (k : ℕ) (o : Outcomes) → Parallel fs rs → Counted k o → then_all o (run (body_of rs f k)) ≡ then_all o (answer fs f)
call_same fs rs f k (AllGive vs) p h = ap (λ n. run (body_of rs f n) vs) (sym h) ∙ answers fs rs f vs p
call_same fs rs f k (OneThrows e) p h = refl
call_same fs rs f k OneStuck p h = refl

-- ---- expressions

module _ (fs : Functions) (rs : List Root) (p : Parallel fs rs) where
  mutual
    pub slots_agree : (s : Scope) (env : Env) (vs : List V) → Matches s env vs → (e : Ex) → run (slotted rs s e) vs ≡ value_of_ex fs env e
    slots_agree s env vs m (lit q l) = refl
    slots_agree s env vs m (name f es) =
        read_is (slot_of s (Written f.text)) (value_at (Written f.text) env) vs (s_call (body_of rs f.text (count es)) (slotted_all rs s es)) (then_all (values_of_exs fs env es) (answer fs f.text)) (m.seen (Written f.text) refl)
        (ap (λ z. then_all z (run (body_of rs f.text (count es)))) (all_agree s env vs m es) ∙ call_same fs rs f.text (count es) (values_of_exs fs env es) p (counted fs env es))
    slots_agree s env vs m (unary f q e) = ap (λ z. then z (unary_of f)) (slots_agree s env vs m e)
    slots_agree s env vs m (binary f q e g) = then_same _ _ _ _ (slots_agree s env vs m e) (λ v. ap (λ z. then z (binary_of f v)) (slots_agree s env vs m g))
    slots_agree s env vs m (chain e ks) = ap (λ z. run_left vs z (slotted_links rs s ks)) (slots_agree s env vs m e) ∙ left_agree s env vs m (value_of_ex fs env e) ks
    slots_agree s env vs m (conses e ks) = ap (λ z. run_right vs z (slotted_links rs s ks)) (slots_agree s env vs m e) ∙ right_agree s env vs m (value_of_ex fs env e) ks
    slots_agree s env vs m (choose q e f g) = then_same _ _ _ _ (slots_agree s env vs m e) (truth_same _ _ _ _ (slots_agree s env vs m f) (slots_agree s env vs m g))
    slots_agree s env vs m (items q es) = ap (λ z. then_all z (λ us. Gives (list_of us))) (all_agree s env vs m es)
    slots_agree s env vs m (empty f q w) = refl
    slots_agree s env vs m (side f q w u e) = ap (λ z. then z (λ v. Gives (side_of f v))) (slots_agree s env vs m e)
    slots_agree s env vs m (given y e f) = then_same _ _ _ _ (slots_agree s env vs m e) (λ v. slots_agree (Written y.text ∷ s) (with_name (Written y.text) v env) (vs ++ v ∷ []) (matches_more s env vs y.text v m) f)
    slots_agree s env vs m (case q e arms) = arms_agree s env vs m (slotted rs s e) (value_of_ex fs env e) (slots_agree s env vs m e) arms

    pub all_agree : (s : Scope) (env : Env) (vs : List V) → Matches s env vs → (es : Exs) → run_all (slotted_all rs s es) vs ≡ values_of_exs fs env es
    all_agree s env vs m none = refl
    all_agree s env vs m (more e es) = all_same _ _ _ _ (slots_agree s env vs m e) (all_agree s env vs m es)

    left_agree : (s : Scope) (env : Env) (vs : List V) → Matches s env vs → (o : Outcome) (ks : Links) → run_left vs o (slotted_links rs s ks) ≡ left_chain fs env o ks
    left_agree s env vs m o end = refl
    left_agree s env vs m o (link f q e ks) =
        ap (λ z. run_left vs (linked f o z) (slotted_links rs s ks)) (slots_agree s env vs m e) ∙ left_agree s env vs m (linked f o (value_of_ex fs env e)) ks

    right_agree : (s : Scope) (env : Env) (vs : List V) → Matches s env vs → (o : Outcome) (ks : Links) → run_right vs o (slotted_links rs s ks) ≡ right_chain fs env o ks
    right_agree s env vs m o end = refl
    right_agree s env vs m o (link f q e ks) =
        then_same o o _ _ refl (λ v. ap (λ z. then z (binary_of f v)) (ap (λ z. run_right vs z (slotted_links rs s ks)) (slots_agree s env vs m e) ∙ right_agree s env vs m (value_of_ex fs env e) ks))

    arms_agree : (s : Scope) (env : Env) (vs : List V) → Matches s env vs → (c : Sx) (o : Outcome) → run c vs ≡ o → (arms : Arms) → run (slotted_arms rs s c arms) vs ≡ then o (value_of_arms fs env arms)
    arms_agree s env vs m c o h (maybe_arms e y f) = then_same _ _ _ _ h (maybe_same _ _ _ _ (slots_agree s env vs m e) (λ v. slots_agree (Written y.text ∷ s) (with_name (Written y.text) v env) (vs ++ v ∷ []) (matches_more s env vs y.text v m) f))
    arms_agree s env vs m c o h (either_arms y e z f) = then_same _ _ _ _ h (either_same _ _ _ _
        (λ v. slots_agree (Written y.text ∷ s) (with_name (Written y.text) v env) (vs ++ v ∷ []) (matches_more s env vs y.text v m) e)
        (λ v. slots_agree (Written z.text ∷ s) (with_name (Written z.text) v env) (vs ++ v ∷ []) (matches_more s env vs z.text v m) f))
    arms_agree s env vs m c o h (list_arms e y z f) = then_same _ _ _ _ h (list_same _ _ _ _ (slots_agree s env vs m e)
        (λ v w. slots_agree (Written z.text ∷ Written y.text ∷ s) (with_name (Written z.text) w (with_name (Written y.text) v env)) ((vs ++ v ∷ []) ++ w ∷ [])
        (matches_more (Written y.text ∷ s) (with_name (Written y.text) v env) (vs ++ v ∷ []) z.text w (matches_more s env vs y.text v m)) f))
    arms_agree s env vs m c o h (pair_arms y z e) = then_same _ _ _ _ h (pair_same _ _
        (λ v w. slots_agree (Written z.text ∷ Written y.text ∷ s) (with_name (Written z.text) w (with_name (Written y.text) v env)) ((vs ++ v ∷ []) ++ w ∷ [])
        (matches_more (Written y.text ∷ s) (with_name (Written y.text) v env) (vs ++ v ∷ []) z.text w (matches_more s env vs y.text v m)) e))

-- ---- definitions

empty_matches : Matches [] [] []
empty_matches = record { size = refl; seen = λ y h. tt }

-- the environment of parameters has the values of the arguments in the first slots
abbrev ParamsMatch : Scope → Option Env → List V → List (List ℕ) → List V → Type 0
ParamsMatch s None us ys vs = (length ys == length vs) ≡ false
ParamsMatch s (Some env) us ys vs = ((length ys == length vs) ≡ true) × Matches s env us

same_suc : (m n : ℕ) (t : Bool) → (m == n) ≡ t → (suc m == suc n) ≡ t
same_suc m n true h = grind (arith, h)
same_suc m n false h = grind (arith, h)

bound_step : (s : Scope) (o : Option Env) (us : List V) (y : List ℕ) (ys : List (List ℕ)) (v : V) (vs : List V) → ParamsMatch s o ((us ++ v ∷ []) ++ vs) ys vs → ParamsMatch s o (us ++ v ∷ vs) (y ∷ ys) (v ∷ vs)
bound_step s None us y ys v vs h = same_suc (length ys) (length vs) false h
bound_step s (Some env) us y ys v vs h = (same_suc (length ys) (length vs) true h.0, subst (Matches s env) (append_assoc us (v ∷ []) vs) h.1)

bound_matches : (s : Scope) (env : Env) (us : List V) (ys : List (List ℕ)) (vs : List V) → Matches s env us → ParamsMatch (scope_onto s ys) (bound_onto env ys vs) (us ++ vs) ys vs
bound_matches s env us [] [] m = (refl, subst (Matches s env) (sym (append-nil us)) m)
bound_matches s env us [] (v ∷ vs) m = grind arith
bound_matches s env us (y ∷ ys) [] m = grind arith
bound_matches s env us (y ∷ ys) (v ∷ vs) m =
    bound_step (scope_onto (Written y ∷ s) ys) (bound_onto (with_name (Written y) v env) ys vs) us y ys v vs
    (bound_matches (Written y ∷ s) (with_name (Written y) v env) (us ++ v ∷ []) ys vs (matches_more s env us y v m))

module _ (fs : Functions) (rs : List Root) (p : Parallel fs rs) where
  body_in : (s : Scope) (e : Ex) (o : Option Env) (ys : List (List ℕ)) (vs : List V) → ParamsMatch s o vs ys vs → run (cond (length ys == length vs) (slotted rs s e) s_bad) vs ≡ in_env fs e o
  body_in s e None ys vs h = ap (λ t. run (cond t (slotted rs s e) s_bad) vs) h
  body_in s e (Some env) ys vs h = ap (λ t. run (cond t (slotted rs s e) s_bad) vs) h.0 ∙ slots_agree fs rs p s env vs h.1 e

  body_agrees : (ys : List (List ℕ)) (e : Ex) (vs : List V) → run (cond (length ys == length vs) (slotted rs (scope_onto [] ys) e) s_bad) vs ≡ answer_of fs ys e vs
  body_agrees ys e vs = body_in (scope_onto [] ys) e (bound_onto [] ys vs) ys vs (bound_matches [] [] [] ys vs empty_matches)

parallel_push : (fs : Functions) (rs : List Root) (f : List ℕ × (List V → Outcome)) (r : Root) → Parallel fs rs → f.0 ≡ r.text → ((vs : List V) → run (cond (r.params == length vs) r.tree s_bad) vs ≡ f.1 vs)
    → Parallel (fs ++ f ∷ []) (rs ++ r ∷ [])
parallel_push [] [] f r p e h = (e, h, tt)
parallel_push [] (x ∷ rs) f r p e h = absurd p
parallel_push (g ∷ fs) [] f r p e h = absurd p
parallel_push (g ∷ fs) (x ∷ rs) f r p e h = (p.0, p.1, parallel_push fs rs f r p.2 e h)

pub parallel_body : (fs : Functions) (rs : List Root) (f : Fn) (c : Bd) → Parallel fs rs → Parallel (with_body fs f c) (root_with rs f c)
parallel_body fs rs f (pure_body w e) p = parallel_push fs rs (f.name.text, answer_of fs (texts_of f.params) e) _ p refl (λ vs. body_agrees fs rs p (texts_of f.params) e vs)
parallel_body fs rs f (io_body w a) p = p

parallel_onto : (fs : Functions) (rs : List Root) (script : List Fn) → Parallel fs rs → Parallel (functions_onto fs script) (roots_onto rs script)
parallel_onto fs rs [] p = p
parallel_onto fs rs (f ∷ script) p = parallel_onto (with_body fs f f.body) (root_with rs f f.body) script (parallel_body fs rs f f.body p)

-- the bodies of a script's pure functions mean what the functions answer
pub parallel : (script : List Fn) → Parallel (functions_of script) (roots_of script)
parallel script = parallel_onto [] [] script tt

-- an expression of a script, with slots, means what it means with names
pub slots_mean : (script : List Fn) (s : Scope) (env : Env) (vs : List V) → Matches s env vs → (e : Ex) → run (slotted (roots_of script) s e) vs ≡ value_of_ex (functions_of script) env e
slots_mean script s env vs m e = slots_agree (functions_of script) (roots_of script) (parallel script) s env vs m e
