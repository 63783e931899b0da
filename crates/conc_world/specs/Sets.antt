-- Two proofs that bodies of codes are equal are one, since snapshots of them are told apart by their codes (own).
use Rattle.std.specs.Prelude.{◌≡◌}
use Rattle.std.proofs.Common.{ap}
use Rattle.std.specs.Coded.{Coded, Coded-set}
use Rattle.std.specs.declared.snapshot.Snapshot.{Snapshot}
use Rattle.rules_code.specs.declared.code.CodeBody.{CodeBody}

abbrev pub seen_as : Snapshot CodeBody → CodeBody → Snapshot CodeBody
seen_as s x = record s { value = x }

pub bodies_are_a_set : Coded (Snapshot CodeBody) → Snapshot CodeBody → (x y : CodeBody) → IsProp (x ≡ y)
bodies_are_a_set c s x y = λ p q. ap (λ (r : seen_as s x ≡ seen_as s y). ap (λ (z : Snapshot CodeBody). z.value) r) (Coded-set c (seen_as s x) (seen_as s y) (ap (seen_as s) p) (ap (seen_as s) q))
