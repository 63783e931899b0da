-- No key begins another, and what has one key is one thing.
use Rattle.std.proofs.Common.{◌≡◌, ℕ, suc, ◌/◌, ◌%◌, ℤ, pos, negsuc, Bool, true, false, List, [], ◌∷◌, ◌++◌, refl, sym, ap, ap₂, ◌∙◌, append_assoc, arith}
use Rattle.hs_base.specs.declared.mask.Mask.{Mask}
use Rattle.hs_base.specs.declared.mask.Mask.TheVariants.{Unmasked, Masked, Uninterruptible}
use Rattle.hs_base.specs.declared.exn.Exn.{Exn}
use Rattle.hs_base.specs.declared.exn.Exn.TheVariants as exn
use Rattle.rules_meaning.specs.Values.{V, UnitValue, Int, Truth, Text, Pair, Nothing, Just, Left, Right, Nil, Cons, Cell, Thread, Exception, Restore, Inst}
use Rattle.number_tables.specs.value_keys.Keys.{wide_key, text_key, mask_number, exn_key, int_key, truth_number, value_key, values_key}

abbrev first_of : List ℕ → ℕ
first_of [] = 0
first_of (x ∷ xs) = x

abbrev rest_of : List ℕ → List ℕ
rest_of [] = []
rest_of (x ∷ xs) = xs

pub exact_wide : (m n : ℕ) (r s : List ℕ) → wide_key m ++ r ≡ wide_key n ++ s → (m ≡ n) × (r ≡ s)
exact_wide m n r s e =
    let high : m / 4294967296 ≡ n / 4294967296 = ap first_of e in
    let low : m % 4294967296 ≡ n % 4294967296 = ap (λ xs. first_of (rest_of xs)) e in
    (omega (arith, high, low), ap (λ xs. rest_of (rest_of xs)) e)

pub exact_text : (a b r s : List ℕ) → text_key a ++ r ≡ text_key b ++ s → (a ≡ b) × (r ≡ s)
exact_text [] [] r s e = (refl, ap rest_of e)
exact_text [] (y ∷ b) r s e = let h : 0 ≡ suc y = ap first_of e in absurd (omega (arith, h))
exact_text (x ∷ a) [] r s e = let h : suc x ≡ 0 = ap first_of e in absurd (omega (arith, h))
exact_text (x ∷ a) (y ∷ b) r s e =
    let h : suc x ≡ suc y = ap first_of e in
    let same : x ≡ y = omega (arith, h) in
    let more = exact_text a b r s (ap rest_of e) in
    (ap₂ (λ z zs. z ∷ zs) same more.0, more.1)

pub exact_mask : (a b : Mask) → mask_number a ≡ mask_number b → a ≡ b
exact_mask Unmasked Unmasked e = refl
exact_mask Masked Masked e = refl
exact_mask Uninterruptible Uninterruptible e = refl
exact_mask _ _ e = absurd (omega (arith, e))

pub exact_exn : (d e : Exn) (r s : List ℕ) → exn_key d ++ r ≡ exn_key e ++ s → (d ≡ e) × (r ≡ s)
exact_exn (exn.ErrorCall t) (exn.ErrorCall u) r s h = let k = exact_text t u r s (ap rest_of h) in (ap exn.ErrorCall k.0, k.1)
exact_exn exn.ThreadKilled exn.ThreadKilled r s h = (refl, ap rest_of h)
exact_exn exn.UserInterrupt exn.UserInterrupt r s h = (refl, ap rest_of h)
exact_exn exn.DivideByZero exn.DivideByZero r s h = (refl, ap rest_of h)
exact_exn exn.Overflow exn.Overflow r s h = (refl, ap rest_of h)
exact_exn (exn.Timeout m) (exn.Timeout n) r s h = let k : m ≡ n = ap (λ xs. first_of (rest_of xs)) h in (ap exn.Timeout k, ap (λ xs. rest_of (rest_of xs)) h)
exact_exn exn.TextLimit exn.TextLimit r s h = (refl, ap rest_of h)
exact_exn exn.BlockedIndefinitely exn.BlockedIndefinitely r s h = (refl, ap rest_of h)
exact_exn _ _ r s h = let k = ap first_of h in absurd (omega (arith, k))

exact_truth : (a b : Bool) → truth_number a ≡ truth_number b → a ≡ b
exact_truth true true e = refl
exact_truth false false e = refl
exact_truth _ _ e = absurd (omega (arith, e))

exact_int : (m n : ℤ) (r s : List ℕ) → int_key m ++ r ≡ int_key n ++ s → (m ≡ n) × (r ≡ s)
exact_int (pos m) (pos n) r s e = let k = exact_wide m n r s (ap rest_of e) in (ap pos k.0, k.1)
exact_int (negsuc m) (negsuc n) r s e = let k = exact_wide m n r s (ap rest_of e) in (ap negsuc k.0, k.1)
exact_int _ _ r s e = let k = ap first_of e in absurd (omega (arith, k))

-- two parts, one behind the other
both : (a b c d r s : List ℕ) (x : ℕ) → (x ∷ (a ++ b)) ++ r ≡ (x ∷ (c ++ d)) ++ s → a ++ (b ++ r) ≡ c ++ (d ++ s)
both a b c d r s x e = sym (append_assoc a b r) ∙ ap rest_of e ∙ append_assoc c d s

pub exact_value : (v w : V) (r s : List ℕ) → value_key v ++ r ≡ value_key w ++ s → (v ≡ w) × (r ≡ s)
exact_value UnitValue UnitValue r s e = (refl, ap rest_of e)
exact_value (Int m) (Int n) r s e = let k = exact_int m n r s (ap rest_of e) in (ap Int k.0, k.1)
exact_value (Truth a) (Truth b) r s e = (ap Truth (exact_truth a b (ap (λ xs. first_of (rest_of xs)) e)), ap (λ xs. rest_of (rest_of xs)) e)
exact_value (Text a) (Text b) r s e = let k = exact_text a b r s (ap rest_of e) in (ap Text k.0, k.1)
exact_value (Pair a b) (Pair c d) r s e =
    let k = exact_value a c (value_key b ++ r) (value_key d ++ s) (both (value_key a) (value_key b) (value_key c) (value_key d) r s 5 e) in
    let j = exact_value b d r s k.1 in
    (ap₂ Pair k.0 j.0, j.1)
exact_value Nothing Nothing r s e = (refl, ap rest_of e)
exact_value (Just a) (Just b) r s e = let k = exact_value a b r s (ap rest_of e) in (ap Just k.0, k.1)
exact_value (Left a) (Left b) r s e = let k = exact_value a b r s (ap rest_of e) in (ap Left k.0, k.1)
exact_value (Right a) (Right b) r s e = let k = exact_value a b r s (ap rest_of e) in (ap Right k.0, k.1)
exact_value Nil Nil r s e = (refl, ap rest_of e)
exact_value (Cons a b) (Cons c d) r s e =
    let k = exact_value a c (value_key b ++ r) (value_key d ++ s) (both (value_key a) (value_key b) (value_key c) (value_key d) r s 11 e) in
    let j = exact_value b d r s k.1 in
    (ap₂ Cons k.0 j.0, j.1)
exact_value (Cell m) (Cell n) r s e = (ap Cell (ap (λ xs. first_of (rest_of xs)) e), ap (λ xs. rest_of (rest_of xs)) e)
exact_value (Thread m) (Thread n) r s e = (ap Thread (ap (λ xs. first_of (rest_of xs)) e), ap (λ xs. rest_of (rest_of xs)) e)
exact_value (Exception d) (Exception f) r s e = let k = exact_exn d f r s (ap rest_of e) in (ap Exception k.0, k.1)
exact_value (Restore a) (Restore b) r s e = (ap Restore (exact_mask a b (ap (λ xs. first_of (rest_of xs)) e)), ap (λ xs. rest_of (rest_of xs)) e)
exact_value (Inst m) (Inst n) r s e = (ap Inst (ap (λ xs. first_of (rest_of xs)) e), ap (λ xs. rest_of (rest_of xs)) e)
exact_value _ _ r s e = let k = ap first_of e in absurd (omega (arith, k))

-- no value's key begins with a 0
form_of_some : (v : V) (r : List ℕ) → first_of (value_key v ++ r) ≡ 0 → ⊥
form_of_some UnitValue r e = omega (arith, e)
form_of_some (Int n) r e = omega (arith, e)
form_of_some (Truth b) r e = omega (arith, e)
form_of_some (Text t) r e = omega (arith, e)
form_of_some (Pair a b) r e = omega (arith, e)
form_of_some Nothing r e = omega (arith, e)
form_of_some (Just a) r e = omega (arith, e)
form_of_some (Left a) r e = omega (arith, e)
form_of_some (Right a) r e = omega (arith, e)
form_of_some Nil r e = omega (arith, e)
form_of_some (Cons a b) r e = omega (arith, e)
form_of_some (Cell n) r e = omega (arith, e)
form_of_some (Thread n) r e = omega (arith, e)
form_of_some (Exception x) r e = omega (arith, e)
form_of_some (Restore m) r e = omega (arith, e)
form_of_some (Inst n) r e = omega (arith, e)

pub exact_values : (vs ws : List V) (r s : List ℕ) → values_key vs ++ r ≡ values_key ws ++ s → (vs ≡ ws) × (r ≡ s)
exact_values [] [] r s e = (refl, ap rest_of e)
exact_values [] (w ∷ ws) r s e = absurd (form_of_some w (values_key ws ++ s) (sym (ap first_of (e ∙ append_assoc (value_key w) (values_key ws) s))))
exact_values (v ∷ vs) [] r s e = absurd (form_of_some v (values_key vs ++ r) (ap first_of (sym (append_assoc (value_key v) (values_key vs) r) ∙ e)))
exact_values (v ∷ vs) (w ∷ ws) r s e =
    let k = exact_value v w (values_key vs ++ r) (values_key ws ++ s) (sym (append_assoc (value_key v) (values_key vs) r) ∙ e ∙ append_assoc (value_key w) (values_key ws) s) in
    let j = exact_values vs ws r s k.1 in
    (ap₂ (λ z zs. z ∷ zs) k.0 j.0, j.1)
