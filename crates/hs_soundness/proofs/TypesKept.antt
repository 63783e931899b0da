-- An expression that has a type gives a value of that type or an exception, in an environment that has what its scope says.
use Rattle.std.proofs.Common.{◌≡◌, ℕ, ◌==◌, ltb, ℤ, pos, List, [], ◌∷◌, ◌++◌, length, Bool, true, false, cond, Option, Some, None, map, refl, sym, ap, ◌∙◌, subst, arith, ⊎_elim, bytes_eq}
use Rattle.hs_base.specs.declared.exn.Exn.{Exn}
use Rattle.hs_base.specs.declared.exn.Exn.TheVariants as raw
use Rattle.std.specs.Ordering.{int_eq}
use Rattle.hs_base.specs.declared.tree.forms.UnaryForm.{UnaryForm}
use Rattle.hs_base.specs.declared.tree.forms.UnaryForm.TheVariants as u
use Rattle.hs_base.specs.declared.tree.forms.BinaryForm.{BinaryForm}
use Rattle.hs_base.specs.declared.tree.forms.BinaryForm.TheVariants as b
use Rattle.hs_base.specs.declared.tree.forms.EmptyForm.{EmptyForm}
use Rattle.hs_base.specs.declared.tree.forms.EmptyForm.TheVariants as n
use Rattle.hs_base.specs.declared.tree.forms.SideForm.{SideForm}
use Rattle.hs_base.specs.declared.tree.forms.SideForm.TheVariants as d
use Rattle.rules_expansion.specs.trees.Trees.{T, unit, int, bool, text, thread, exn, pair, maybe, either, list, Lit, number, letters, truth, nothing_more, exception, Ex, Exs, Links, Arms, lit, name, unary, binary, chain, conses, choose, items, empty, side, given, case, none, more, end, link, maybe_arms, either_arms, list_arms, pair_arms}
use Rattle.rules_meaning.specs.Values as val
use Rattle.rules_meaning.specs.Values.{V, UnitValue, Int, Truth, Text, Pair, Nothing, Just, Left, Right, Nil, Cons, Exception, Outcome, Gives, Throws, Stuck, Outcomes, AllGive, OneThrows, OneStuck, Restore, Env, value_at, with_name, list_of, and_one, and_then}
use Rattle.rules_expansion.specs.Names.{Written}
use Rattle.hs_base.specs.declared.tree.expr.Name.{Name}
use Rattle.rules_meaning.specs.Meaning.{has_no_quotient, floor_quotient, floor_rest, quotient, remainder, limited, shown, then, then_all, as_text, on_number, on_text, on_truth, on_pair, on_maybe, on_either, on_list, on_numbers, literal, unary_of, binary_of, put_before, joined_texts, both, either_one, linked, Functions, answer, or_else, empty_of, side_of, value_of_ex, values_of_exs, left_chain, right_chain, value_of_arms}
use Rattle.rules_typing.specs.Typing as typing
use Rattle.rules_typing.specs.Typing.{Has, equal, order, first_of, second_of, inner_of, row_unary, row_binary}
use Rattle.rules_sorts.specs.TypedMeaning.{of_int, of_bool, of_text, of_thread, of_exn, of_pair, of_maybe, of_either, of_list, HasV, Good, AllOf, AllGood, HasSort, Fits, FunctionsGood, IsStrict, Well, WellAll, WellLinks, WellConses, WellArms}
use Rattle.std.proofs.lemmas.Bool.{cond-true, cond-false}
use Rattle.std.proofs.lemmas.Bool.Decides.{eqb_tells}
use Rattle.plain_laws.proofs.Lists.{bytes_eq_sym}
use Rattle.plain_laws.proofs.Booleans.{cond_cases}
use Rattle.hs_base.specs.declared.pos.Pos.{Pos}

meant_args_is : (p : Pos) (n : ℕ) (params ps : List T) (r t : T) → typing.meant_args p n params r ≡ typing.takes ps t → (length params ≡ n) × (params ≡ ps) × (r ≡ t)
meant_args_is p n params ps r t e = ⊎_elim (λ q. by (q.1) (sym (cond-true (length params == n) (typing.takes params r) (typing.wrong (typing.arity p (typing.shown_count (length params)) (typing.shown_count n))) q.0) ∙ e)) (λ q. let z : typing.wrong (typing.arity p (typing.shown_count (length params)) (typing.shown_count n)) ≡ typing.takes ps t = sym (cond-false (length params == n) (typing.takes params r) (typing.wrong (typing.arity p (typing.shown_count (length params)) (typing.shown_count n))) q.0) ∙ e in absurd (cc z)) (eqb_tells (length params) n)
  where
    by : length params ≡ n → typing.takes params r ≡ typing.takes ps t → (length params ≡ n) × (params ≡ ps) × (r ≡ t)
    by l q = (l, cc q, cc q)

module _ (cells : ℕ → T → Type 0) where
  then_good : (s t : T) (o : Outcome) (k : V → Outcome) → Good cells s o → ((v : V) → HasV cells s v → Good cells t (k v)) → Good cells t (then o k)
  then_good s t (Gives v) k h f = f v h
  then_good s t (Throws e) k h f = tt
  then_good s t Stuck k h f = absurd h

  at_type : (s t : T) (v : V) → s ≡ t → HasV cells s v → HasV cells t v
  at_type s t v e h = subst (λ z. HasV cells z v) e h

  good_at : (s t : T) (o : Outcome) → t ≡ s → Good cells s o → Good cells t o
  good_at s t o e h = subst (λ z. Good cells z o) (sym e) h

  truth_good : (t : T) (f : Bool → Outcome) (v : V) → of_bool v → ((x : Bool) → Good cells t (f x)) → Good cells t (on_truth f v)
  truth_good t f (Truth x) h k = k x
  truth_good t f _ h k = absurd h

  number_good : (t : T) (f : ℤ → Outcome) (v : V) → of_int v → ((x : ℤ) → Good cells t (f x)) → Good cells t (on_number f v)
  number_good t f (Int x) h k = k x
  number_good t f _ h k = absurd h

  text_good : (t : T) (f : List ℕ → Outcome) (v : V) → of_text v → ((x : List ℕ) → Good cells t (f x)) → Good cells t (on_text f v)
  text_good t f (Text x) h k = k x
  text_good t f _ h k = absurd h

  pair_good : (t : T) (P Q : V → Type 0) (f : V → V → Outcome) (v : V) → of_pair P Q v → ((a c : V) → P a → Q c → Good cells t (f a c)) → Good cells t (on_pair f v)
  pair_good t P Q f (Pair a c) h k = k a c h.0 h.1
  pair_good t P Q f _ h k = absurd h

  limited_good : (x : List ℕ) → Good cells text (limited x)
  limited_good x = cond_cases (Good cells text) (ltb 65536 (length x)) _ _ (λ e. tt) (λ e. tt)

  -- what is shown, compared and ordered has its text, its answer and its order
  shown_good : (s : T) (v : V) → Has typing.shown s → HasV cells s v → Good cells text (as_text (shown v))
  shown_good s v h w =
      ⊎_elim (λ e. by_int v (at_type s int v e w)) (λ h2.
      ⊎_elim (λ e. by_bool v (at_type s bool v e w)) (λ h3.
      ⊎_elim (λ e. by_thread v (at_type s thread v e w)) (λ e. by_exn v (at_type s exn v e w)) h3) h2) h
    where
      by_int : (v : V) → of_int v → Good cells text (as_text (shown v))
      by_int (Int m) h = tt
      by_int _ h = absurd h

      by_bool : (v : V) → of_bool v → Good cells text (as_text (shown v))
      by_bool (Truth m) h = tt
      by_bool _ h = absurd h

      by_thread : (v : V) → of_thread (λ m. cells m thread) v → Good cells text (as_text (shown v))
      by_thread (val.Thread m) h = tt
      by_thread _ h = absurd h

      by_exn : (v : V) → of_exn v → Good cells text (as_text (shown v))
      by_exn (Exception m) h = tt
      by_exn _ h = absurd h

  literal_good : (l : Lit) → Good cells (typing.type_of_lit l) (literal l)
  literal_good (number m) = tt
  literal_good (letters x) = limited_good x
  literal_good (truth t) = tt
  literal_good nothing_more = tt
  literal_good (exception e) = tt

  unary_good : (o : UnaryForm) (s t : T) (v : V) → HasV cells s v → typing.Gives (row_unary o s) t → Good cells t (unary_of o v)
  unary_good u.Just s t v h g = good_at (maybe s) t (Gives (Just v)) g.1.1 h
  unary_good u.ErrorCall s t v h g = good_at exn t (unary_of u.ErrorCall v) g.1.1 (text_good exn _ v (at_type s text v (sym g.0.0) h) (λ x. tt))
  unary_good u.Not s t v h g = good_at bool t (unary_of u.Not v) g.1.1 (truth_good bool _ v (at_type s bool v (sym g.0.0) h) (λ x. tt))
  unary_good u.Fst s t v h g =
      let p : Has typing.a_pair s = g.0.0 in
      good_at p.0 t (unary_of u.Fst v) (g.1.1 ∙ ap first_of p.2) (pair_good p.0 (HasV cells p.0) (HasV cells p.1) _ v (at_type s (pair p.0 p.1) v p.2 h) (λ a c x y. x))
  unary_good u.Snd s t v h g =
      let p : Has typing.a_pair s = g.0.0 in
      good_at p.1 t (unary_of u.Snd v) (g.1.1 ∙ ap second_of p.2) (pair_good p.1 (HasV cells p.0) (HasV cells p.1) _ v (at_type s (pair p.0 p.1) v p.2 h) (λ a c x y. y))
  unary_good u.Show s t v h g = good_at text t (unary_of u.Show v) g.1.1 (shown_good s v g.0.0 h)
  unary_good u.Negate s t v h g = good_at int t (unary_of u.Negate v) g.1.1 (number_good int _ v (at_type s int v (sym g.0.0) h) (λ x. tt))

  -- ---- two values
  two_ints : (P : V → V → Type 0) → ((m k : ℤ) → P (Int m) (Int k)) → (a c : V) → of_int a → of_int c → P a c
  two_ints P f (Int m) (Int k) h g = f m k
  two_ints P f (Int m) _ h g = absurd g
  two_ints P f _ c h g = absurd h

  two_bools : (P : V → V → Type 0) → ((m k : Bool) → P (Truth m) (Truth k)) → (a c : V) → of_bool a → of_bool c → P a c
  two_bools P f (Truth m) (Truth k) h g = f m k
  two_bools P f (Truth m) _ h g = absurd g
  two_bools P f _ c h g = absurd h

  two_texts : (P : V → V → Type 0) → ((m k : List ℕ) → P (Text m) (Text k)) → (a c : V) → of_text a → of_text c → P a c
  two_texts P f (Text m) (Text k) h g = f m k
  two_texts P f (Text m) _ h g = absurd g
  two_texts P f _ c h g = absurd h

  two_threads : (P : V → V → Type 0) → ((m k : ℕ) → P (val.Thread m) (val.Thread k)) → (a c : V) → of_thread (λ m. cells m thread) a → of_thread (λ m. cells m thread) c → P a c
  two_threads P f (val.Thread m) (val.Thread k) h g = f m k
  two_threads P f (val.Thread m) _ h g = absurd g
  two_threads P f _ c h g = absurd h

  two_exns : (P : V → V → Type 0) → ((m k : Exn) → P (Exception m) (Exception k)) → (a c : V) → of_exn a → of_exn c → P a c
  two_exns P f (Exception m) (Exception k) h g = f m k
  two_exns P f (Exception m) _ h g = absurd g
  two_exns P f _ c h g = absurd h

  equal_good : (P : V → V → Type 0) → ((m k : ℤ) → P (Int m) (Int k)) → ((m k : Bool) → P (Truth m) (Truth k)) → ((m k : List ℕ) → P (Text m) (Text k)) → ((m k : ℕ) → P (val.Thread m) (val.Thread k)) → ((m k : Exn) → P (Exception m) (Exception k)) →
      (s : T) → Has equal s → (a c : V) → HasV cells s a → HasV cells s c → P a c
  equal_good P fi fb ft fh fe s h a c x y =
      ⊎_elim (λ e. two_ints P fi a c (at_type s int a e x) (at_type s int c e y)) (λ h2.
      ⊎_elim (λ e. two_bools P fb a c (at_type s bool a e x) (at_type s bool c e y)) (λ h3.
      ⊎_elim (λ e. two_texts P ft a c (at_type s text a e x) (at_type s text c e y)) (λ h4.
      ⊎_elim (λ e. two_threads P fh a c (at_type s thread a e x) (at_type s thread c e y)) (λ e. two_exns P fe a c (at_type s exn a e x) (at_type s exn c e y)) h4) h3) h2) h

  order_good : (P : V → V → Type 0) → ((m k : ℤ) → P (Int m) (Int k)) → ((m k : List ℕ) → P (Text m) (Text k)) → (s : T) → Has order s → (a c : V) → HasV cells s a → HasV cells s c → P a c
  order_good P fi ft s h a c x y = ⊎_elim (λ e. two_ints P fi a c (at_type s int a e x) (at_type s int c e y)) (λ e. two_texts P ft a c (at_type s text a e x) (at_type s text c e y)) h

  numbers_good : (f : ℤ → ℤ → Outcome) → ((m k : ℤ) → Good cells int (f m k)) → (a c : V) → of_int a → of_int c → Good cells int (on_numbers f a c)
  numbers_good f k a c x y = two_ints (λ v w. Good cells int (on_numbers f v w)) k a c x y

  quotient_good : (m k : ℤ) → Good cells int (quotient m k)
  quotient_good m k = by (int_eq k (pos 0)) (has_no_quotient m k)
    where
      by : (z y : Bool) → Good cells int (cond z (Throws raw.DivideByZero) (cond y (Throws raw.Overflow) (Gives (Int (floor_quotient m k)))))
      by true y = tt
      by false true = tt
      by false false = tt

  remainder_good : (m k : ℤ) → Good cells int (remainder m k)
  remainder_good m k = by (int_eq k (pos 0))
    where
      by : (z : Bool) → Good cells int (cond z (Throws raw.DivideByZero) (Gives (Int (floor_rest m k))))
      by true = tt
      by false = tt

  cons_good : (s : T) (a c : V) → HasV cells s a → of_list (HasV cells s) c → Good cells (list s) (put_before a c)
  cons_good s a Nil h g = (h, tt)
  cons_good s a (Cons x y) h g = (h, g)
  cons_good s a _ h g = absurd g

  binary_good : (o : BinaryForm) (s r t : T) (a c : V) → IsStrict o → HasV cells s a → HasV cells r c → typing.Gives (row_binary o s r) t → Good cells t (binary_of o a c)
  binary_good b.Pair s r t a c z x y g = good_at (pair s r) t (Gives (Pair a c)) g.1.1 (x, y)
  binary_good b.Div s r t a c z x y g = good_at int t (binary_of b.Div a c) g.1.1 (numbers_good quotient quotient_good a c (at_type s int a (sym g.0.0) x) (at_type r int c (sym g.0.1.0) y))
  binary_good b.Mod s r t a c z x y g = good_at int t (binary_of b.Mod a c) g.1.1 (numbers_good remainder remainder_good a c (at_type s int a (sym g.0.0) x) (at_type r int c (sym g.0.1.0) y))
  binary_good b.Equal s r t a c z x y g = good_at bool t (binary_of b.Equal a c) g.1.1 (equal_good (λ v w. Good cells bool (binary_of b.Equal v w)) (λ m k. tt) (λ m k. tt) (λ m k. tt) (λ m k. tt) (λ m k. tt) s g.0.0 a c x (at_type r s c (sym g.0.1.0) y))
  binary_good b.Unequal s r t a c z x y g = good_at bool t (binary_of b.Unequal a c) g.1.1 (equal_good (λ v w. Good cells bool (binary_of b.Unequal v w)) (λ m k. tt) (λ m k. tt) (λ m k. tt) (λ m k. tt) (λ m k. tt) s g.0.0 a c x (at_type r s c (sym g.0.1.0) y))
  binary_good b.Less s r t a c z x y g = good_at bool t (binary_of b.Less a c) g.1.1 (order_good (λ v w. Good cells bool (binary_of b.Less v w)) (λ m k. tt) (λ m k. tt) s g.0.0 a c x (at_type r s c (sym g.0.1.0) y))
  binary_good b.AtMost s r t a c z x y g = good_at bool t (binary_of b.AtMost a c) g.1.1 (order_good (λ v w. Good cells bool (binary_of b.AtMost v w)) (λ m k. tt) (λ m k. tt) s g.0.0 a c x (at_type r s c (sym g.0.1.0) y))
  binary_good b.Greater s r t a c z x y g = good_at bool t (binary_of b.Greater a c) g.1.1 (order_good (λ v w. Good cells bool (binary_of b.Greater v w)) (λ m k. tt) (λ m k. tt) s g.0.0 a c x (at_type r s c (sym g.0.1.0) y))
  binary_good b.AtLeast s r t a c z x y g = good_at bool t (binary_of b.AtLeast a c) g.1.1 (order_good (λ v w. Good cells bool (binary_of b.AtLeast v w)) (λ m k. tt) (λ m k. tt) s g.0.0 a c x (at_type r s c (sym g.0.1.0) y))
  binary_good b.Or s r t a c z x y g = absurd z
  binary_good b.And s r t a c z x y g = absurd z
  binary_good b.Plus s r t a c z x y g = good_at int t (binary_of b.Plus a c) g.1.1 (numbers_good _ (λ m k. tt) a c (at_type s int a (sym g.0.0) x) (at_type r int c (sym g.0.1.0) y))
  binary_good b.Minus s r t a c z x y g = good_at int t (binary_of b.Minus a c) g.1.1 (numbers_good _ (λ m k. tt) a c (at_type s int a (sym g.0.0) x) (at_type r int c (sym g.0.1.0) y))
  binary_good b.Times s r t a c z x y g = good_at int t (binary_of b.Times a c) g.1.1 (numbers_good _ (λ m k. tt) a c (at_type s int a (sym g.0.0) x) (at_type r int c (sym g.0.1.0) y))
  binary_good b.Cons s r t a c z x y g = good_at (list s) t (binary_of b.Cons a c) g.1.1 (cons_good s a c x (at_type r (list s) c (sym g.0.0) y))
  binary_good b.Append s r t a c z x y g = good_at text t (binary_of b.Append a c) g.1.1 (two_texts (λ v w. Good cells text (joined_texts v w)) (λ m k. limited_good (m ++ k)) a c (at_type s text a (sym g.0.0) x) (at_type r text c (sym g.0.1.0) y))

  -- one link of a chain that groups from the left
  strict_link : (o : BinaryForm) (s r t : T) (x y : Outcome) → IsStrict o → Good cells s x → Good cells r y → typing.Gives (row_binary o s r) t → Good cells t (then x (λ v. then y (binary_of o v)))
  strict_link o s r t x y z h k g = then_good s t x _ h (λ v p. then_good r t y (binary_of o v) k (λ w q. binary_good o s r t v w z p q g))

  linked_good : (o : BinaryForm) (s r t : T) (x y : Outcome) → Good cells s x → Good cells r y → typing.Gives (row_binary o s r) t → Good cells t (linked o x y)
  linked_good b.And s r t x y h k g = good_at bool t (linked b.And x y) g.1.1
      (then_good s bool x (both y) h (λ v p. truth_good bool _ v (at_type s bool v (sym g.0.0) p) (λ z. cond_cases (Good cells bool) z y (Gives (Truth false)) (λ e. good_at r bool y g.0.1.0 k) (λ e. tt))))
  linked_good b.Or s r t x y h k g = good_at bool t (linked b.Or x y) g.1.1
      (then_good s bool x (either_one y) h (λ v p. truth_good bool _ v (at_type s bool v (sym g.0.0) p) (λ z. cond_cases (Good cells bool) z (Gives (Truth true)) y (λ e. tt) (λ e. good_at r bool y g.0.1.0 k))))
  linked_good b.Pair s r t x y h k g = strict_link b.Pair s r t x y tt h k g
  linked_good b.Div s r t x y h k g = strict_link b.Div s r t x y tt h k g
  linked_good b.Mod s r t x y h k g = strict_link b.Mod s r t x y tt h k g
  linked_good b.Equal s r t x y h k g = strict_link b.Equal s r t x y tt h k g
  linked_good b.Unequal s r t x y h k g = strict_link b.Unequal s r t x y tt h k g
  linked_good b.Less s r t x y h k g = strict_link b.Less s r t x y tt h k g
  linked_good b.AtMost s r t x y h k g = strict_link b.AtMost s r t x y tt h k g
  linked_good b.Greater s r t x y h k g = strict_link b.Greater s r t x y tt h k g
  linked_good b.AtLeast s r t x y h k g = strict_link b.AtLeast s r t x y tt h k g
  linked_good b.Plus s r t x y h k g = strict_link b.Plus s r t x y tt h k g
  linked_good b.Minus s r t x y h k g = strict_link b.Minus s r t x y tt h k g
  linked_good b.Times s r t x y h k g = strict_link b.Times s r t x y tt h k g
  linked_good b.Cons s r t x y h k g = strict_link b.Cons s r t x y tt h k g
  linked_good b.Append s r t x y h k g = strict_link b.Append s r t x y tt h k g

  -- ---- lists of values
  one_more : (t : T) (ts : List T) (v : V) (o : Outcomes) → HasV cells t v → AllGood cells ts o → AllGood cells (t ∷ ts) (and_one v o)
  one_more t ts v (AllGive vs) h g = (h, g)
  one_more t ts v (OneThrows e) h g = tt
  one_more t ts v OneStuck h g = absurd g

  and_good : (t : T) (ts : List T) (x : Outcome) (o : Outcomes) → Good cells t x → AllGood cells ts o → AllGood cells (t ∷ ts) (and_then x o)
  and_good t ts (Gives v) o h g = one_more t ts v o h g
  and_good t ts (Throws e) o h g = tt
  and_good t ts Stuck o h g = absurd h

  all_good : (ts : List T) (t : T) (o : Outcomes) (k : List V → Outcome) → AllGood cells ts o → ((vs : List V) → AllOf cells ts vs → Good cells t (k vs)) → Good cells t (then_all o k)
  all_good ts t (AllGive vs) k h f = f vs h
  all_good ts t (OneThrows e) k h f = tt
  all_good ts t OneStuck k h f = absurd h

  each_at : (params us : List T) (vs : List V) → length params ≡ length us → typing.AllMet (typing.is_each params us) → AllOf cells us vs → AllOf cells params vs
  each_at [] [] vs l m h = h
  each_at [] (u ∷ us) vs l m h = absurd (omega (arith, l))
  each_at (p ∷ ps) [] vs l m h = absurd (omega (arith, l))
  each_at (p ∷ ps) (u ∷ us) [] l m h = absurd h
  each_at (p ∷ ps) (u ∷ us) (v ∷ vs) l m h = (at_type u p v (sym m.0) h.0, each_at ps us vs (omega (arith, l)) m.1 h.1)

  -- the items of a list
  items_good : (t : T) (ts : List T) (vs : List V) → typing.AllMet (map (typing.is t) ts) → AllOf cells ts vs → of_list (HasV cells t) (list_of vs)
  items_good t [] [] m h = tt
  items_good t [] (v ∷ vs) m h = absurd h
  items_good t (s ∷ ts) [] m h = absurd h
  items_good t (s ∷ ts) (v ∷ vs) m h = (at_type s t v (sym m.0) h.0, items_good t ts vs m.1 h.1)

  -- ---- scopes and functions

  pub fits_more : (s : List typing.TypedName) (env : Env) (x : Name) (t : T) (v : V) → Fits cells s env → HasV cells t v → Fits cells (typing.bound x t ∷ s) (with_name (Written x.text) v env)
  fits_more s env x t v f h y = by (bytes_eq x.text y) (bytes_eq y x.text) (bytes_eq_sym x.text y)
    where
      by : (p q : Bool) → p ≡ q → HasSort cells (cond p (Some (typing.value t)) (typing.look s y)) (cond q (Some v) (value_at (Written y) env))
      by true true e = h
      by false false e = f y
      by true false e = absurd (cc e)
      by false true e = absurd (cc e)

  maybe_good : (s t : T) (o : Outcome) (f : V → Outcome) (v : V) → of_maybe (HasV cells s) v → Good cells t o → ((a : V) → HasV cells s a → Good cells t (f a)) → Good cells t (on_maybe o f v)
  maybe_good s t o f Nothing h g k = g
  maybe_good s t o f (Just a) h g k = k a h
  maybe_good s t o f _ h g k = absurd h

  either_good : (s r t : T) (f g : V → Outcome) (v : V) → of_either (HasV cells s) (HasV cells r) v → ((a : V) → HasV cells s a → Good cells t (f a)) → ((a : V) → HasV cells r a → Good cells t (g a)) → Good cells t (on_either f g v)
  either_good s r t f g (Left a) h k l = k a h
  either_good s r t f g (Right a) h k l = l a h
  either_good s r t f g _ h k l = absurd h

  list_good : (s t : T) (o : Outcome) (f : V → V → Outcome) (v : V) → of_list (HasV cells s) v → Good cells t o → ((a c : V) → HasV cells s a → of_list (HasV cells s) c → Good cells t (f a c)) → Good cells t (on_list o f v)
  list_good s t o f Nil h g k = g
  list_good s t o f (Cons a c) h g k = k a c h.0 h.1
  list_good s t o f _ h g k = absurd h

  items_row : (us : List T) (t : T) (vs : List V) → typing.Gives (typing.row_items us) t → AllOf cells us vs → Good cells t (Gives (list_of vs))
  items_row [] t [] g h = good_at (list unit) t (Gives Nil) g.1.1 tt
  items_row [] t (v ∷ vs) g h = absurd h
  items_row (u ∷ us) t [] g h = absurd h
  items_row (u ∷ us) t (v ∷ vs) g h = good_at (list u) t (Gives (list_of (v ∷ vs))) g.1.1 (h.0, items_good u us vs g.0 h.1)

  empty_good : (o : EmptyForm) (s t : T) → typing.Gives (typing.row_empty o s) t → Good cells t (Gives (empty_of o))
  empty_good n.Nothing s t g = good_at (maybe s) t (Gives Nothing) g.1.1 tt
  empty_good n.EmptyList s t g = good_at (list s) t (Gives Nil) g.1.1 tt

  side_good : (o : SideForm) (s r z t : T) (v : V) → HasV cells z v → typing.Gives (typing.row_side o s r z) t → Good cells t (Gives (side_of o v))
  side_good d.Left s r z t v h g = good_at (either s r) t (Gives (Left v)) g.1.1 (at_type z s v (sym g.0.0) h)
  side_good d.Right s r z t v h g = good_at (either s r) t (Gives (Right v)) g.1.1 (at_type z r v (sym g.0.0) h)

  module _ (c : typing.Ctx) (fs : Functions) (fg : FunctionsGood cells c fs) where
    count_is : (es : Exs) (s : List typing.TypedName) (us : List T) → typing.HaveTypes c s es us → typing.count es ≡ length us
    count_is none s us h = ap length (sym h)
    count_is (more e es) s us h = let k = count_is es s h.1 h.3 in let l : length us ≡ length (h.0 ∷ h.1) = ap length h.4 in omega (arith, k, l)

    sig_good : (x : Name) (k : ℕ) (us : List T) (t : T) (o : Outcomes) (g : Option typing.Sig) → typing.find c.sigs x.text ≡ g → AllGood cells us o → k ≡ length us → typing.Calls (typing.meant_sig c x.pos k g) us t → Good cells t (then_all o (answer fs x.text))
    sig_good x k us t o None e h l m = let z : typing.wrong (typing.unknown x.pos) ≡ typing.takes m.0 t = m.1 in absurd (cc z)
    sig_good x k us t o (Some g) e h l m = by g.acts (ltb g.place c.here) refl refl m.1
      where
        by : (p q : Bool) → g.acts ≡ p → ltb g.place c.here ≡ q → cond p (typing.wrong (typing.kind x.pos)) (cond q (typing.meant_args x.pos k g.params g.result) (typing.wrong (typing.forward x.pos))) ≡ typing.takes m.0 t → Good cells t (then_all o (answer fs x.text))
        by true q y z r = absurd (cc r)
        by false false y z r = absurd (cc r)
        by false true y z r =
            let i = meant_args_is x.pos k g.params m.0 g.result t r in
            all_good us t o (answer fs x.text) h (λ vs w. good_at g.result t (answer fs x.text vs) (sym i.2) (fg x.text g e y z vs (each_at g.params us vs (i.0 ∙ l) (subst (λ ps. typing.AllMet (typing.is_each ps us)) (sym i.1) m.2) w)))

    name_good : (s : List typing.TypedName) (env : Env) (x : Name) (k : ℕ) (us : List T) (t : T) (o : Outcomes) → Fits cells s env → AllGood cells us o → k ≡ length us → typing.Calls (typing.meant c s x k) us t → Good cells t (or_else (value_at (Written x.text) env) (then_all o (answer fs x.text)))
    name_good s env x k us t o f h l m = by (typing.look s x.text) (value_at (Written x.text) env) (f x.text) m
      where
        by : (r : Option typing.Sort) (w : Option V) → HasSort cells r w → typing.Calls (typing.meant_sort c x k r) us t → Good cells t (or_else w (then_all o (answer fs x.text)))
        by None None y z = sig_good x k us t o (typing.find c.sigs x.text) refl h l z
        by None (Some v) y z = absurd y
        by (Some q) None y z = absurd y
        by (Some typing.masking_name) (Some v) y z = let q : typing.wrong (typing.kind x.pos) ≡ typing.takes z.0 t = z.1 in absurd (cc q)
        by (Some (typing.value r)) (Some v) y z = let i = meant_args_is x.pos k [] z.0 r t z.1 in at_type r t v i.2 y

    -- each operand of a chain gives a value of its type, or an exception
    abbrev pub LinksSound : List typing.TypedName → Env → Links → Type 0
    LinksSound s env end = Unit {0}
    LinksSound s env (link x p e ks) = ((t : T) → typing.HasType c s e t → Good cells t (value_of_ex fs env e)) × LinksSound s env ks

    links_good : (ks : Links) (s : List typing.TypedName) (env : Env) (H : T → Type 0) (o : Outcome) (t : T) → LinksSound s env ks → ((r : T) → H r → Good cells r o) → typing.LinksHave c s H ks t → Good cells t (left_chain fs env o ks)
    links_good end s env H o t w k h = k t h
    links_good (link x p e ks) s env H o t w k h =
        links_good ks s env (λ z. (u v : T) × H u × typing.HasType c s e v × typing.Gives (row_binary x u v) z) (linked x o (value_of_ex fs env e)) t w.1
        (λ r y. linked_good x y.0 y.1 r o (value_of_ex fs env e) (k y.0 y.2) (w.0 y.1 y.3) y.4) h

    conses_good : (ks : Links) (s : List typing.TypedName) (env : Env) (H : T → Type 0) (o : Outcome) (t : T) → WellConses ks → LinksSound s env ks → ((r : T) → H r → Good cells r o) → typing.ConsesHave c s H ks t → Good cells t (right_chain fs env o ks)
    conses_good end s env H o t z w k h = k t h
    conses_good (link x p e ks) s env H o t z w k h =
        then_good h.0 t o (λ v. then (right_chain fs env (value_of_ex fs env e) ks) (binary_of x v)) (k h.0 h.2)
        (λ v y. then_good h.1 t (right_chain fs env (value_of_ex fs env e) ks) (binary_of x v)
        (conses_good ks s env (typing.HasType c s e) (value_of_ex fs env e) h.1 z.2 w.1 (λ r q. w.0 r q) h.3)
        (λ q l. binary_good x h.0 h.1 t v q z.0 y l h.4))

    mutual
      pub ex_good : (e : Ex) (s : List typing.TypedName) (env : Env) (t : T) → Well e → Fits cells s env → typing.HasType c s e t → Good cells t (value_of_ex fs env e)
      ex_good (lit p l) s env t w f h = good_at (typing.type_of_lit l) t (literal l) h (literal_good l)
      ex_good (name x es) s env t w f h = name_good s env x (typing.count es) h.0 t (values_of_exs fs env es) f (exs_good es s env h.0 w f h.1) (count_is es s h.0 h.1) h.2
      ex_good (unary o p a) s env t w f h = then_good h.0 t (value_of_ex fs env a) (unary_of o) (ex_good a s env h.0 w f h.1) (λ v y. unary_good o h.0 t v y h.2)
      ex_good (binary o p a e) s env t w f h =
          then_good h.0 t (value_of_ex fs env a) (λ v. then (value_of_ex fs env e) (binary_of o v)) (ex_good a s env h.0 w.1 f h.2)
          (λ v y. then_good h.1 t (value_of_ex fs env e) (binary_of o v) (ex_good e s env h.1 w.2 f h.3) (λ z q. binary_good o h.0 h.1 t v z w.0 y q h.4))
      ex_good (chain a ks) s env t w f h = links_good ks s env (typing.HasType c s a) (value_of_ex fs env a) t (links_sound ks s env w.1 f) (λ r y. ex_good a s env r w.0 f y) h
      ex_good (conses a ks) s env t w f h = conses_good ks s env (typing.HasType c s a) (value_of_ex fs env a) t w.1 (conses_sound ks s env w.1 f) (λ r y. ex_good a s env r w.0 f y) h
      ex_good (choose p e a g) s env t w f h =
          then_good h.0 t (value_of_ex fs env e) (on_truth (λ x. cond x (value_of_ex fs env a) (value_of_ex fs env g))) (ex_good e s env h.0 w.0 f h.3)
          (λ v y. truth_good t (λ x. cond x (value_of_ex fs env a) (value_of_ex fs env g)) v (at_type h.0 bool v (sym h.6.0.0) y)
          (λ x. cond_cases (Good cells t) x (value_of_ex fs env a) (value_of_ex fs env g)
          (λ q. good_at h.1 t (value_of_ex fs env a) h.6.1.1 (ex_good a s env h.1 w.1 f h.4))
          (λ q. good_at h.2 t (value_of_ex fs env g) (h.6.1.1 ∙ h.6.0.1.0) (ex_good g s env h.2 w.2 f h.5))))
      ex_good (items p es) s env t w f h = all_good h.0 t (values_of_exs fs env es) (λ vs. Gives (list_of vs)) (exs_good es s env h.0 w f h.1) (λ vs y. items_row h.0 t vs h.2 y)
      ex_good (empty o p r) s env t w f h = empty_good o h.0 t h.2
      ex_good (side o p q r a) s env t w f h = then_good h.2 t (value_of_ex fs env a) (λ v. Gives (side_of o v)) (ex_good a s env h.2 w f h.5) (λ v y. side_good o h.0 h.1 h.2 t v y h.6)
      ex_good (given x a e) s env t w f h =
          then_good h.0 t (value_of_ex fs env a) (λ v. value_of_ex fs (with_name (Written x.text) v env) e) (ex_good a s env h.0 w.0 f h.1)
          (λ v y. ex_good e (typing.bound x h.0 ∷ s) (with_name (Written x.text) v env) t w.1 (fits_more s env x h.0 v f y) h.3)
      ex_good (case p e arms) s env t w f h =
          then_good h.0 t (value_of_ex fs env e) (value_of_arms fs env arms) (ex_good e s env h.0 w.0 f h.1) (λ v y. arms_good arms s env p h.0 t v w.1 f y h.2.0 h.2.1)

      pub exs_good : (es : Exs) (s : List typing.TypedName) (env : Env) (us : List T) → WellAll es → Fits cells s env → typing.HaveTypes c s es us → AllGood cells us (values_of_exs fs env es)
      exs_good none s env us w f h = subst (λ ts. AllOf cells ts []) (sym h) tt
      exs_good (more e es) s env us w f h = subst (λ ts. AllGood cells ts (values_of_exs fs env (more e es))) (sym h.4) (and_good h.0 h.1 (value_of_ex fs env e) (values_of_exs fs env es) (ex_good e s env h.0 w.0 f h.2) (exs_good es s env h.1 w.1 f h.3))

      pub links_sound : (ks : Links) (s : List typing.TypedName) (env : Env) → WellLinks ks → Fits cells s env
          → LinksSound s env ks
      links_sound end s env w f = tt
      links_sound (link x p e ks) s env w f = (λ t h. ex_good e s env t w.0 f h, links_sound ks s env w.1 f)

      pub conses_sound : (ks : Links) (s : List typing.TypedName) (env : Env) → WellConses ks → Fits cells s env → LinksSound s env ks
      conses_sound end s env w f = tt
      conses_sound (link x p e ks) s env w f = (λ t h. ex_good e s env t w.1 f h, conses_sound ks s env w.2 f)

      pub arms_good : (arms : Arms) (s : List typing.TypedName) (env : Env) (p : Pos) (u t : T) (v : V) → WellArms arms → Fits cells s env → HasV cells u v → Has (typing.form_of_arms arms) u → typing.ArmsHave c s p u arms t → Good cells t (value_of_arms fs env arms v)
      arms_good (maybe_arms a x e) s env p u t v w f y q h =
          maybe_good q.0 t (value_of_ex fs env a) (λ z. value_of_ex fs (with_name (Written x.text) z env) e) v (at_type u (maybe q.0) v q.1 y)
          (good_at h.0 t (value_of_ex fs env a) h.4.1.1 (ex_good a s env h.0 w.0 f h.2))
          (λ z k. good_at h.1 t (value_of_ex fs (with_name (Written x.text) z env) e) (h.4.1.1 ∙ h.4.0.0)
          (ex_good e (typing.bound x (inner_of u) ∷ s) (with_name (Written x.text) z env) h.1 w.1 (fits_more s env x (inner_of u) z f (at_type q.0 (inner_of u) z (sym (ap inner_of q.1)) k)) h.3.1))
      arms_good (either_arms x a z e) s env p u t v w f y q h =
          either_good q.0 q.1 t (λ k. value_of_ex fs (with_name (Written x.text) k env) a) (λ k. value_of_ex fs (with_name (Written z.text) k env) e) v (at_type u (either q.0 q.1) v q.2 y)
          (λ k l. good_at h.0 t (value_of_ex fs (with_name (Written x.text) k env) a) h.4.1.1
          (ex_good a (typing.bound x (first_of u) ∷ s) (with_name (Written x.text) k env) h.0 w.0 (fits_more s env x (first_of u) k f (at_type q.0 (first_of u) k (sym (ap first_of q.2)) l)) h.2.1))
          (λ k l. good_at h.1 t (value_of_ex fs (with_name (Written z.text) k env) e) (h.4.1.1 ∙ h.4.0.0)
          (ex_good e (typing.bound z (second_of u) ∷ s) (with_name (Written z.text) k env) h.1 w.1 (fits_more s env z (second_of u) k f (at_type q.1 (second_of u) k (sym (ap second_of q.2)) l)) h.3.1))
      arms_good (list_arms a x z e) s env p u t v w f y q h =
          list_good q.0 t (value_of_ex fs env a) (λ k l. value_of_ex fs (with_name (Written z.text) l (with_name (Written x.text) k env)) e) v (at_type u (list q.0) v q.1 y)
          (good_at h.0 t (value_of_ex fs env a) h.4.1.1 (ex_good a s env h.0 w.0 f h.2))
          (λ k l i j. good_at h.1 t (value_of_ex fs (with_name (Written z.text) l (with_name (Written x.text) k env)) e) (h.4.1.1 ∙ h.4.0.0)
          (ex_good e (typing.bound z u ∷ typing.bound x (inner_of u) ∷ s) (with_name (Written z.text) l (with_name (Written x.text) k env)) h.1 w.1
          (fits_more (typing.bound x (inner_of u) ∷ s) (with_name (Written x.text) k env) z u l (fits_more s env x (inner_of u) k f (at_type q.0 (inner_of u) k (sym (ap inner_of q.1)) i)) (at_type (list q.0) u l (sym q.1) j)) h.3.1.1))
      arms_good (pair_arms x z a) s env p u t v w f y q h =
          pair_good t (HasV cells q.0) (HasV cells q.1) (λ k l. value_of_ex fs (with_name (Written z.text) l (with_name (Written x.text) k env)) a) v (at_type u (pair q.0 q.1) v q.2 y)
          (λ k l i j. ex_good a (typing.bound z (second_of u) ∷ typing.bound x (first_of u) ∷ s) (with_name (Written z.text) l (with_name (Written x.text) k env)) t w
          (fits_more (typing.bound x (first_of u) ∷ s) (with_name (Written x.text) k env) z (second_of u) l (fits_more s env x (first_of u) k f (at_type q.0 (first_of u) k (sym (ap first_of q.2)) i)) (at_type q.1 (second_of u) l (sym (ap second_of q.2)) j)) h.1.1)
