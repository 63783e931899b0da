-- Values that may not be there.
use Rattle.std.proofs.Common.{◌≡◌, Option, Some, MatchOption, subst}

-- what is said of a value that is there
pub said_of : {A : Type 0} (N : Type 0) (P : A → Type 0) (o : Option A) (x : A) → o ≡ Some x → MatchOption o N P → P x
said_of N P o x e h = subst (λ z. MatchOption z N P) e h
