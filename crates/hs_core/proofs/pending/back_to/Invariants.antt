use Rattle.std.proofs.Common.{◌≡◌, List, ◌++◌, length}
use Rattle.hs_nodes.specs.declared.names.ScopedName.{ScopedName}
use Rattle.hs_core.proofs.pending.back_to.Given as goal

abbrev pub invariant-back : goal.invariant-back
invariant-back l = (xs ys : List ScopedName) → l.fn.scope ≡ xs ++ ys → length xs ≡ l.count
    → (zs : List ScopedName) × (l.scope ≡ xs ++ zs)

abbrev pub decreases-back : goal.decreases-back
decreases-back l = length l.scope
