-- A list of hands that was cut in two.
use Rattle.std.proofs.Common.{◌≡◌, ◌+◌, ◌<◌, ℕ, Option, Some, All, length, IfSome, MatchOption, subst}
use Rattle.conc_hands.specs.declared.hands.Hands.{Hands}
use Rattle.conc_hands.specs.declared.list.HandList.{HandList}
use Rattle.conc_hands.specs.Hands.{IsHandOf}
use Rattle.conc_hands.specs.Lists.{hands_in}

module _ {J S : Type 0} where
  abbrev Counted : HandList J S → HandList J S → ℕ → HandList J S → Type 0
  Counted mine list n others = (0 < n) × (length (hands_in mine) + n ≡ length (hands_in list)) × (length (hands_in others) ≡ n)

  abbrev Moved : HandList J S → HandList J S → Type 0
  Moved list others = (h : Hands J S) → All (IsHandOf h) (hands_in list) → All (IsHandOf h) (hands_in others)

  pub cut_counts : (mine list : HandList J S) (n : ℕ) (o : Option (HandList J S)) (others : HandList J S) → o ≡ Some others
      → MatchOption o (mine ≡ list) (Counted mine list n) → Counted mine list n others
  cut_counts mine list n o others is cut = subst (λ z. MatchOption z (mine ≡ list) (Counted mine list n)) is cut

  pub cut_last : (list : HandList J S) (o : Option (HandList J S)) (others : HandList J S) → o ≡ Some others → IfSome o (Moved list) → Moved list others
  cut_last list o others is cut = subst (λ z. IfSome z (Moved list)) is cut
