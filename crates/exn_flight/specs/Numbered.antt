-- Lists in which no two items have one thread's number.
use Rattle.std.specs.Prelude.{◌≡◌, ℕ, false, List, [], ◌∷◌}
use Rattle.rules_waiting.specs.Waiting.{has}

module _ {A : Type 0} (number : A → ℕ) where
  abbrev pub AreDistinct : List A → Type 0
  AreDistinct [] = Unit {0}
  AreDistinct (a ∷ as') = (has number (number a) as' ≡ false) × AreDistinct as'
