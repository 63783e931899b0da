-- The test whether two types are the same says the same of them the other way round.
use Rattle.std.proofs.Common.{◌≡◌, true, subst}
use Rattle.plain_laws.proofs.Booleans.{same_bool}
use Rattle.rules_expansion.specs.trees.Trees.{T}
use Rattle.typing_judge.specs.Judging.{same}
use Rattle.typing_judge.proofs.Laws.{same_true, same_self}

same_back : (a b : T) → same a b ≡ true → same b a ≡ true
same_back a b h = subst (λ z. same z a ≡ true) (same_true a b h) (same_self a)

pub same_swap : (a b : T) → same a b ≡ same b a
same_swap a b = same_bool (same a b) (same b a) (same_back a b) (same_back b a)
