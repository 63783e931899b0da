-- Two names are spelled apart, and none as another word.
use Rattle.std.proofs.Common.{◌≡◌, ◌≢◌, ℕ, ◌+◌, ◌*◌, ◌/◌, ◌%◌, ◌==◌, Bool, true, false, cond, not, List, [], ◌∷◌, ◌++◌, refl, sym, ap, ◌∙◌, arith, codes}
use Rattle.std.specs.Prelude.{nat_lt}
use Rattle.std.specs.List.{flat_map, list_all, AllByRecursion}
use Rattle.std.proofs.lemmas.Bool.{eqb-true, ltb-true, and_parts}
use Rattle.std.proofs.Math.Nat.{div-add-mod}
use Rattle.haskell_module.specs.Names.{hex_digit, is_plain, name_piece, name_text, begins_as_name}

-- ---- digits

digits_by : (p q : Bool) (d e : ℕ) → nat_lt d 10 ≡ p → nat_lt e 10 ≡ q → cond p (48 + d) (87 + d) ≡ cond q (48 + e) (87 + e) → d ≡ e
digits_by true true d e f g h = omega (arith, h)
digits_by false false d e f g h = omega (arith, h)
digits_by true false d e f g h = absurd (omega (arith, h, ltb-true d 10 f))
digits_by false true d e f g h = absurd (omega (arith, h, ltb-true e 10 g))

one_digit : (d e : ℕ) → hex_digit d ≡ hex_digit e → d ≡ e
one_digit d e h = digits_by (nat_lt d 10) (nat_lt e 10) d e refl refl h

no_prime_by : (p : Bool) (d : ℕ) → 39 ≡ cond p (48 + d) (87 + d) → ⊥
no_prime_by true d h = omega (arith, h)
no_prime_by false d h = omega (arith, h)

no_prime : (d : ℕ) → 39 ≡ hex_digit d → ⊥
no_prime d h = no_prime_by (nat_lt d 10) d h

one_byte : (a b : ℕ) → a / 16 ≡ b / 16 → a % 16 ≡ b % 16 → a ≡ b
one_byte a b h l = sym (div-add-mod a 16) ∙ (ap (λ z. 16 * z + a % 16) h ∙ (ap (λ z. 16 * (b / 16) + z) l ∙ div-add-mod b 16))

-- ---- pieces

first : {a b : ℕ} {x y : List ℕ} → a ∷ x ≡ b ∷ y → a ≡ b
first h = cc

rest : {a b : ℕ} {x y : List ℕ} → a ∷ x ≡ b ∷ y → x ≡ y
rest h = cc

-- the piece of a byte, by what it is
piece_by : Bool → Bool → ℕ → List ℕ
piece_by p q a = cond p (a ∷ []) (cond q (codes "''") (codes "'" ++ hex_digit (a / 16) ∷ hex_digit (a % 16) ∷ []))

not_plain : (a : ℕ) → is_plain a ≡ true → a ≡ 39 → ⊥
not_plain a p h = let t : is_plain 39 ≡ true = ap is_plain (sym h) ∙ p in let f : false ≡ true = t in cc

apart_by : (p q r s : Bool) (a b : ℕ) (x y : List ℕ) → is_plain a ≡ p → (a == 39) ≡ q → is_plain b ≡ r → (b == 39) ≡ s → piece_by p q a ++ x ≡ piece_by r s b ++ y → (a ≡ b) × (x ≡ y)
unfolding piece_by
apart_by true q true s a b x y pa qa rb sb h = (first h, rest h)
apart_by true q false true a b x y pa qa rb sb h = absurd (not_plain a pa (first h))
apart_by true q false false a b x y pa qa rb sb h = absurd (not_plain a pa (first h))
apart_by false true true s a b x y pa qa rb sb h = absurd (not_plain b rb (sym (first h)))
apart_by false false true s a b x y pa qa rb sb h = absurd (not_plain b rb (sym (first h)))
apart_by false true false true a b x y pa qa rb sb h = (eqb-true a 39 qa ∙ sym (eqb-true b 39 sb), rest (rest h))
apart_by false true false false a b x y pa qa rb sb h = absurd (no_prime (b / 16) (first (rest h)))
apart_by false false false true a b x y pa qa rb sb h = absurd (no_prime (a / 16) (sym (first (rest h))))
apart_by false false false false a b x y pa qa rb sb h =
    (one_byte a b (one_digit (a / 16) (b / 16) (first (rest h))) (one_digit (a % 16) (b % 16) (first (rest (rest h)))), rest (rest (rest h)))

apart : (a b : ℕ) (x y : List ℕ) → name_piece a ++ x ≡ name_piece b ++ y → (a ≡ b) × (x ≡ y)
unfolding piece_by
apart a b x y h = apart_by (is_plain a) (a == 39) (is_plain b) (b == 39) a b x y refl refl refl refl h

some_by : (p q : Bool) (a : ℕ) (x : List ℕ) → [] ≡ piece_by p q a ++ x → ⊥
unfolding piece_by
some_by true q a x h = cc
some_by false true a x h = cc
some_by false false a x h = cc

some : (a : ℕ) (x : List ℕ) → [] ≡ name_piece a ++ x → ⊥
unfolding piece_by
some a x h = some_by (is_plain a) (a == 39) a x h

pieces_apart : (x y : List ℕ) → flat_map name_piece x ≡ flat_map name_piece y → x ≡ y
pieces_apart [] [] h = refl
pieces_apart [] (b ∷ y) h = absurd (some b (flat_map name_piece y) h)
pieces_apart (a ∷ x) [] h = absurd (some a (flat_map name_piece x) (sym h))
pieces_apart (a ∷ x) (b ∷ y) h =
    let both = apart a b (flat_map name_piece x) (flat_map name_piece y) h in
    ap (λ z. z ∷ x) both.0 ∙ ap (λ z. b ∷ z) (pieces_apart x y both.1)

pub one_name : (x y : List ℕ) → name_text x ≡ name_text y → x ≡ y
one_name x y h = pieces_apart x y (rest (rest h))

-- ---- other words

other_word : (x w : List ℕ) → not (begins_as_name w) ≡ true → name_text x ≢ w
other_word x w n e =
    let t : true ≡ begins_as_name w = ap begins_as_name e in
    let f : false ≡ true = ap not t ∙ n in
    cc

pub no_other_words : (x : List ℕ) (ws : List (List ℕ)) → list_all (λ w. not (begins_as_name w)) ws ≡ true → AllByRecursion (λ w. name_text x ≢ w) ws
no_other_words x [] h = tt
no_other_words x (w ∷ ws) h =
    let both = and_parts (not (begins_as_name w)) (list_all (λ v. not (begins_as_name v)) ws) h in
    (other_word x w both.0, no_other_words x ws both.1)
