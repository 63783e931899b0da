-- What an expression means.
--
-- Evaluation is strict, from the left to the right, in one environment of values (own), and the first exception is the
-- answer. `&&`, `||`, `if` and `case` evaluate only what they need. A call evaluates its arguments, and then the body in
-- the environment of its parameters. Where the typing rules are broken an expression may have no meaning: it is `Stuck`.
use Rattle.std.specs.Prelude.{ℕ, ℤ, pos, negsuc, suc, ◌+ℤ◌, ◌-ℤ◌, ◌*ℤ◌, neg_ℤ, ◌-◌, ◌^◌, ◌/◌, ◌%◌, ◌==◌, ltb, Bool, true, false, cond, not, ◌&&◌, List, [], ◌∷◌, ◌++◌, length, Option, Some, None, bytes_eq, codes}
use Rattle.std.specs.Int.{int_wrap, w64}
use Rattle.std.specs.Ordering.{int_cmp, nat_cmp, int_eq, is_lt, is_gt}
use Rattle.std.specs.declared.cmp.Ordering.{Ordering}
use Rattle.std.specs.Cmp.Lexicographic.{slice_cmp}
use Rattle.std.specs.Fmt.{decimal, signed_decimal}
use Rattle.hs_base.specs.declared.exn.Exn.{Exn}
use Rattle.hs_base.specs.declared.exn.Exn.TheVariants as x
use Rattle.hs_base.specs.ExceptionTexts.{text_of}
use Rattle.hs_base.specs.declared.tree.forms.UnaryForm.{UnaryForm}
use Rattle.hs_base.specs.declared.tree.forms.UnaryForm.TheVariants as u
use Rattle.hs_base.specs.declared.tree.forms.BinaryForm.{BinaryForm}
use Rattle.hs_base.specs.declared.tree.forms.BinaryForm.TheVariants as b
use Rattle.hs_base.specs.declared.tree.forms.EmptyForm.{EmptyForm}
use Rattle.hs_base.specs.declared.tree.forms.EmptyForm.TheVariants as n
use Rattle.hs_base.specs.declared.tree.forms.SideForm.{SideForm}
use Rattle.hs_base.specs.declared.tree.forms.SideForm.TheVariants as d
use Rattle.rules_expansion.specs.trees.Trees.{Ex, Exs, Links, Arms, Lit, number, letters, truth, nothing_more, exception, lit, name, unary, binary, chain, conses, choose, items, empty, side, given, case, none, more, end, link, maybe_arms, either_arms, list_arms, pair_arms}
use Rattle.rules_expansion.specs.trees.Programs.{Bd, pure_body, io_body, Fn, Par}
use Rattle.rules_expansion.specs.Names.{Name, Written}
use Rattle.rules_meaning.specs.Values.{V, UnitValue, Int, Truth, Text, Pair, Nothing, Just, Left, Right, Nil, Cons, Cell, Thread, Exception, Restore, Inst, list_of, Env, with_name, value_at, Outcome, Gives, Throws, Stuck, Outcomes, AllGive, OneThrows, OneStuck, and_then}

-- ---- numbers: 64 bits with a sign

-- the sum, the difference, the product and the negative, wrapped to 64 bits (`Int` of `base`)
abbrev pub plus : ℤ → ℤ → ℤ
plus m k = int_wrap w64 (m +ℤ k)

abbrev pub minus : ℤ → ℤ → ℤ
minus m k = int_wrap w64 (m -ℤ k)

abbrev pub times : ℤ → ℤ → ℤ
times m k = int_wrap w64 (m *ℤ k)

abbrev pub negated : ℤ → ℤ
negated m = int_wrap w64 (neg_ℤ m)

-- the quotient by a positive number, rounded toward minus infinity, and what is left: at least 0, and below the divisor
abbrev pub floor_by : ℤ → ℕ → ℤ
floor_by (pos m) k = pos (m / k)
floor_by (negsuc m) k = negsuc (m / k)

abbrev pub rest_by : ℤ → ℕ → ℤ
rest_by (pos m) k = pos (m % k)
rest_by (negsuc m) k = pos (k - 1 - m % k)

-- The same by any number but 0 (`div` and `mod` of `Prelude`): a quotient stays where both signs change, and what is left
-- has the sign of the divisor.
abbrev pub floor_quotient : ℤ → ℤ → ℤ
floor_quotient m (pos k) = floor_by m k
floor_quotient m (negsuc k) = floor_by (neg_ℤ m) (suc k)

abbrev pub floor_rest : ℤ → ℤ → ℤ
floor_rest m (pos k) = rest_by m k
floor_rest m (negsuc k) = neg_ℤ (rest_by (neg_ℤ m) (suc k))

-- the least number by -1, whose quotient has no place in 64 bits
abbrev pub has_no_quotient : ℤ → ℤ → Bool
has_no_quotient m k = int_eq m (negsuc 9223372036854775807) && int_eq k (negsuc 0)

abbrev pub quotient : ℤ → ℤ → Outcome
quotient m k = cond (int_eq k (pos 0)) (Throws x.DivideByZero) (cond (has_no_quotient m k) (Throws x.Overflow) (Gives (Int (floor_quotient m k))))

abbrev pub remainder : ℤ → ℤ → Outcome
remainder m k = cond (int_eq k (pos 0)) (Throws x.DivideByZero) (Gives (Int (floor_rest m k)))

-- ---- texts

-- a text has at most 65,536 bytes (own)
abbrev pub limited : List ℕ → Outcome
limited t = cond (ltb 65536 (length t)) (Throws x.TextLimit) (Gives (Text t))

abbrev pub truth_text : Bool → List ℕ
truth_text true = codes "True"
truth_text false = codes "False"

-- `show`, of the types that have it
abbrev pub shown : V → Option (List ℕ)
shown (Int m) = Some (signed_decimal m)
shown (Truth t) = Some (truth_text t)
shown (Thread m) = Some (codes "ThreadId " ++ decimal m)
shown (Exception e) = Some (text_of e)
shown _ = None

-- ---- comparisons

-- exceptions are equal where constructor and content are (own)
abbrev pub same_exn : Exn → Exn → Bool
same_exn (x.ErrorCall s) (x.ErrorCall t) = bytes_eq s t
same_exn x.ThreadKilled x.ThreadKilled = true
same_exn x.UserInterrupt x.UserInterrupt = true
same_exn x.DivideByZero x.DivideByZero = true
same_exn x.Overflow x.Overflow = true
same_exn (x.Timeout m) (x.Timeout k) = m == k
same_exn x.TextLimit x.TextLimit = true
same_exn x.BlockedIndefinitely x.BlockedIndefinitely = true
same_exn _ _ = false

abbrev pub same_truth : Bool → Bool → Bool
same_truth true t = t
same_truth false t = not t

-- whether two values are equal, of the types that have it
abbrev pub same_value : V → V → Option Bool
same_value (Int m) (Int k) = Some (int_eq m k)
same_value (Truth s) (Truth t) = Some (same_truth s t)
same_value (Text s) (Text t) = Some (bytes_eq s t)
same_value (Thread m) (Thread k) = Some (m == k)
same_value (Exception e) (Exception f) = Some (same_exn e f)
same_value _ _ = None

-- the order of two values, of the types that have it: texts by their bytes (own)
abbrev pub order_of : V → V → Option Ordering
order_of (Int m) (Int k) = Some (int_cmp m k)
order_of (Text s) (Text t) = Some (slice_cmp nat_cmp s t)
order_of _ _ = None

-- ---- outcomes

abbrev pub then : Outcome → (V → Outcome) → Outcome
then (Gives v) k = k v
then (Throws e) k = Throws e
then Stuck k = Stuck

abbrev pub then_all : Outcomes → (List V → Outcome) → Outcome
then_all (AllGive vs) k = k vs
then_all (OneThrows e) k = Throws e
then_all OneStuck k = Stuck

abbrev pub as_truth : Option Bool → Outcome
as_truth None = Stuck
as_truth (Some t) = Gives (Truth t)

abbrev pub as_text : Option (List ℕ) → Outcome
as_text None = Stuck
as_text (Some t) = Gives (Text t)

abbrev pub on_number : (ℤ → Outcome) → V → Outcome
on_number f (Int m) = f m
on_number f _ = Stuck

abbrev pub on_text : (List ℕ → Outcome) → V → Outcome
on_text f (Text t) = f t
on_text f _ = Stuck

abbrev pub on_truth : (Bool → Outcome) → V → Outcome
on_truth f (Truth t) = f t
on_truth f _ = Stuck

abbrev pub on_pair : (V → V → Outcome) → V → Outcome
on_pair f (Pair a c) = f a c
on_pair f _ = Stuck

abbrev pub on_maybe : Outcome → (V → Outcome) → V → Outcome
on_maybe o f Nothing = o
on_maybe o f (Just a) = f a
on_maybe o f _ = Stuck

abbrev pub on_either : (V → Outcome) → (V → Outcome) → V → Outcome
on_either f g (Left a) = f a
on_either f g (Right a) = g a
on_either f g _ = Stuck

abbrev pub on_list : Outcome → (V → V → Outcome) → V → Outcome
on_list o f Nil = o
on_list o f (Cons a c) = f a c
on_list o f _ = Stuck

abbrev pub on_numbers : (ℤ → ℤ → Outcome) → V → V → Outcome
on_numbers f v w = on_number (λ m. on_number (f m) w) v

-- ---- forms

abbrev pub literal : Lit → Outcome
literal (number m) = Gives (Int m)
literal (letters t) = limited t
literal (truth t) = Gives (Truth t)
literal nothing_more = Gives UnitValue
literal (exception e) = Gives (Exception e)

abbrev pub empty_of : EmptyForm → V
empty_of n.Nothing = Nothing
empty_of n.EmptyList = Nil

abbrev pub side_of : SideForm → V → V
side_of d.Left v = Left v
side_of d.Right v = Right v

abbrev pub unary_of : UnaryForm → V → Outcome
unary_of u.Just v = Gives (Just v)
unary_of u.ErrorCall v = on_text (λ t. Gives (Exception (x.ErrorCall t))) v
unary_of u.Not v = on_truth (λ t. Gives (Truth (not t))) v
unary_of u.Fst v = on_pair (λ a c. Gives a) v
unary_of u.Snd v = on_pair (λ a c. Gives c) v
unary_of u.Show v = as_text (shown v)
unary_of u.Negate v = on_number (λ m. Gives (Int (negated m))) v

abbrev pub is_before : Option Ordering → Option Bool
is_before None = None
is_before (Some o) = Some (is_lt o)

abbrev pub is_behind : Option Ordering → Option Bool
is_behind None = None
is_behind (Some o) = Some (is_gt o)

abbrev pub isnt : Option Bool → Option Bool
isnt None = None
isnt (Some t) = Some (not t)

abbrev pub put_before : V → V → Outcome
put_before v w = on_list (Gives (Cons v Nil)) (λ a c. Gives (Cons v (Cons a c))) w

abbrev pub joined_texts : V → V → Outcome
joined_texts v w = on_text (λ s. on_text (λ t. limited (s ++ t)) w) v

abbrev pub binary_of : BinaryForm → V → V → Outcome
binary_of b.Pair v w = Gives (Pair v w)
binary_of b.Div v w = on_numbers quotient v w
binary_of b.Mod v w = on_numbers remainder v w
binary_of b.Equal v w = as_truth (same_value v w)
binary_of b.Unequal v w = as_truth (isnt (same_value v w))
binary_of b.Less v w = as_truth (is_before (order_of v w))
binary_of b.AtMost v w = as_truth (isnt (is_behind (order_of v w)))
binary_of b.Greater v w = as_truth (is_behind (order_of v w))
binary_of b.AtLeast v w = as_truth (isnt (is_before (order_of v w)))
binary_of b.Plus v w = on_numbers (λ m k. Gives (Int (plus m k))) v w
binary_of b.Minus v w = on_numbers (λ m k. Gives (Int (minus m k))) v w
binary_of b.Times v w = on_numbers (λ m k. Gives (Int (times m k))) v w
binary_of b.Cons v w = put_before v w
binary_of b.Append v w = joined_texts v w
binary_of b.Or v w = Stuck
binary_of b.And v w = Stuck

abbrev pub both : Outcome → V → Outcome
both o v = on_truth (λ t. cond t o (Gives (Truth false))) v

abbrev pub either_one : Outcome → V → Outcome
either_one o v = on_truth (λ t. cond t (Gives (Truth true)) o) v

-- one link of a chain that groups from the left: what stands before it, and what its operand gives where it is needed
abbrev pub linked : BinaryForm → Outcome → Outcome → Outcome
linked b.And o p = then o (both p)
linked b.Or o p = then o (either_one p)
linked f o p = then o (λ v. then p (binary_of f v))

-- ---- functions

-- what each pure function answers to the values of its parameters, in the order of the definitions
abbrev pub Functions : Type 0
Functions = List (List ℕ × (List V → Outcome))

-- a call means the first definition of its name
abbrev pub answer : Functions → List ℕ → List V → Outcome
answer [] f vs = Stuck
answer (g ∷ fs) f vs = cond (bytes_eq g.0 f) (g.1 vs) (answer fs f vs)

abbrev pub or_else : Option V → Outcome → Outcome
or_else None o = o
or_else (Some v) o = Gives v

-- ---- expressions

abbrev mutual
  -- what an expression gives, with these functions and these values of its names
  pub value_of_ex : Functions → Env → Ex → Outcome
  value_of_ex fs env (lit p l) = literal l
  value_of_ex fs env (name f es) = or_else (value_at (Written f.text) env) (then_all (values_of_exs fs env es) (answer fs f.text))
  value_of_ex fs env (unary f p e) = then (value_of_ex fs env e) (unary_of f)
  value_of_ex fs env (binary f p e g) = then (value_of_ex fs env e) (λ v. then (value_of_ex fs env g) (binary_of f v))
  value_of_ex fs env (chain e ks) = left_chain fs env (value_of_ex fs env e) ks
  value_of_ex fs env (conses e ks) = right_chain fs env (value_of_ex fs env e) ks
  value_of_ex fs env (choose p e f g) = then (value_of_ex fs env e) (on_truth (λ t. cond t (value_of_ex fs env f) (value_of_ex fs env g)))
  value_of_ex fs env (items p es) = then_all (values_of_exs fs env es) (λ vs. Gives (list_of vs))
  value_of_ex fs env (empty f p w) = Gives (empty_of f)
  value_of_ex fs env (side f p w v e) = then (value_of_ex fs env e) (λ a. Gives (side_of f a))
  value_of_ex fs env (given y e f) = then (value_of_ex fs env e) (λ v. value_of_ex fs (with_name (Written y.text) v env) f)
  value_of_ex fs env (case p e arms) = then (value_of_ex fs env e) (value_of_arms fs env arms)

  pub values_of_exs : Functions → Env → Exs → Outcomes
  values_of_exs fs env none = AllGive []
  values_of_exs fs env (more e es) = and_then (value_of_ex fs env e) (values_of_exs fs env es)

  -- a chain that groups from the left
  pub left_chain : Functions → Env → Outcome → Links → Outcome
  left_chain fs env o end = o
  left_chain fs env o (link f p e ks) = left_chain fs env (linked f o (value_of_ex fs env e)) ks

  -- a chain that groups from the right
  pub right_chain : Functions → Env → Outcome → Links → Outcome
  right_chain fs env o end = o
  right_chain fs env o (link f p e ks) = then o (λ v. then (right_chain fs env (value_of_ex fs env e) ks) (binary_of f v))

  -- the arm of a `case` that a value chooses; a later name hides an earlier equal one
  pub value_of_arms : Functions → Env → Arms → V → Outcome
  value_of_arms fs env (maybe_arms e y f) v = on_maybe (value_of_ex fs env e) (λ a. value_of_ex fs (with_name (Written y.text) a env) f) v
  value_of_arms fs env (either_arms y e z f) v = on_either (λ a. value_of_ex fs (with_name (Written y.text) a env) e) (λ a. value_of_ex fs (with_name (Written z.text) a env) f) v
  value_of_arms fs env (list_arms e y z f) v = on_list (value_of_ex fs env e) (λ a c. value_of_ex fs (with_name (Written z.text) c (with_name (Written y.text) a env)) f) v
  value_of_arms fs env (pair_arms y z e) v = on_pair (λ a c. value_of_ex fs (with_name (Written z.text) c (with_name (Written y.text) a env)) e) v

-- ---- definitions

-- an environment of parameters and their values, the last one first
abbrev pub bound_onto : Env → List (List ℕ) → List V → Option Env
bound_onto env [] [] = Some env
bound_onto env [] (v ∷ vs) = None
bound_onto env (y ∷ ys) [] = None
bound_onto env (y ∷ ys) (v ∷ vs) = bound_onto (with_name (Written y) v env) ys vs

abbrev pub in_env : Functions → Ex → Option Env → Outcome
in_env fs e None = Stuck
in_env fs e (Some env) = value_of_ex fs env e

-- what a pure function with these parameters and this body answers, standing on these functions
abbrev pub answer_of : Functions → List (List ℕ) → Ex → List V → Outcome
answer_of fs params body vs = in_env fs body (bound_onto [] params vs)

abbrev pub texts_of : List Par → List (List ℕ)
texts_of [] = []
texts_of (p ∷ ps) = p.name.text ∷ texts_of ps

-- the functions with those of one more definition, where it is a pure one: it stands on the earlier ones
abbrev pub with_body : Functions → Fn → Bd → Functions
with_body fs f (pure_body w e) = fs ++ (f.name.text, answer_of fs (texts_of f.params) e) ∷ []
with_body fs f (io_body w a) = fs

abbrev pub functions_onto : Functions → List Fn → Functions
functions_onto fs [] = fs
functions_onto fs (f ∷ more_of) = functions_onto (with_body fs f f.body) more_of

-- the pure functions of a script
abbrev pub functions_of : List Fn → Functions
functions_of script = functions_onto [] script
