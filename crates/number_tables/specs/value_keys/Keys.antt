-- The keys of values (own): lists of numbers, none of which begins another. The first number says the form.
use Rattle.std.specs.Prelude.{ℕ, suc, ◌/◌, ◌%◌, ℤ, pos, negsuc, Bool, true, false, List, [], ◌∷◌, ◌++◌}
use Rattle.hs_base.specs.declared.mask.Mask.{Mask}
use Rattle.hs_base.specs.declared.mask.Mask.TheVariants.{Unmasked, Masked, Uninterruptible}
use Rattle.hs_base.specs.declared.exn.Exn.{Exn}
use Rattle.hs_base.specs.declared.exn.Exn.TheVariants as exn
use Rattle.rules_meaning.specs.Values.{V, UnitValue, Int, Truth, Text, Pair, Nothing, Just, Left, Right, Nil, Cons, Cell, Thread, Exception, Restore, Inst}

-- a number in two parts, each below 2^32 where it is below 2^64
abbrev pub wide_key : ℕ → List ℕ
wide_key n = n / 4294967296 ∷ n % 4294967296 ∷ []

-- one more than each byte, and a 0 behind them
abbrev pub text_key : List ℕ → List ℕ
text_key [] = 0 ∷ []
text_key (b ∷ bs) = suc b ∷ text_key bs

abbrev pub mask_number : Mask → ℕ
mask_number Unmasked = 0
mask_number Masked = 1
mask_number Uninterruptible = 2

abbrev pub exn_key : Exn → List ℕ
exn_key (exn.ErrorCall t) = 0 ∷ text_key t
exn_key exn.ThreadKilled = 1 ∷ []
exn_key exn.UserInterrupt = 2 ∷ []
exn_key exn.DivideByZero = 3 ∷ []
exn_key exn.Overflow = 4 ∷ []
exn_key (exn.Timeout n) = 5 ∷ n ∷ []
exn_key exn.TextLimit = 6 ∷ []
exn_key exn.BlockedIndefinitely = 7 ∷ []

abbrev pub int_key : ℤ → List ℕ
int_key (pos n) = 0 ∷ wide_key n
int_key (negsuc n) = 1 ∷ wide_key n

abbrev pub truth_number : Bool → ℕ
truth_number false = 0
truth_number true = 1

abbrev pub value_key : V → List ℕ
value_key UnitValue = 1 ∷ []
value_key (Int n) = 2 ∷ int_key n
value_key (Truth b) = 3 ∷ truth_number b ∷ []
value_key (Text t) = 4 ∷ text_key t
value_key (Pair a b) = 5 ∷ (value_key a ++ value_key b)
value_key Nothing = 6 ∷ []
value_key (Just a) = 7 ∷ value_key a
value_key (Left a) = 8 ∷ value_key a
value_key (Right a) = 9 ∷ value_key a
value_key Nil = 10 ∷ []
value_key (Cons a b) = 11 ∷ (value_key a ++ value_key b)
value_key (Cell n) = 12 ∷ n ∷ []
value_key (Thread n) = 13 ∷ n ∷ []
value_key (Exception e) = 14 ∷ exn_key e
value_key (Restore m) = 15 ∷ mask_number m ∷ []
value_key (Inst n) = 16 ∷ n ∷ []

-- the values in order, and a 0 behind them
abbrev pub values_key : List V → List ℕ
values_key [] = 0 ∷ []
values_key (v ∷ vs) = value_key v ++ values_key vs
