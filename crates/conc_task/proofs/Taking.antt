-- Bytes that are taken one piece after another.
use Rattle.std.proofs.Common.{◌≤◌, ◌+◌, ◌++◌, ℕ, List, length, ap, sym, ◌∙◌, append_assoc, arith}
use Rattle.std.specs.Prelude.{Option, Some, None}
use Rattle.std.specs.Io.KnownBytes.{Consumes}
use Rattle.std.proofs.lemmas.List.{length-append}
use Rattle.conc_task.specs.Inputs.{Took}

pub consumes_then : (a b c : Option (List ℕ)) (xs ys : List ℕ) → Consumes a b xs → Consumes b c ys → Consumes a c (xs ++ ys)
consumes_then None b c xs ys p q = tt
consumes_then (Some k) None c xs ys p q = absurd p
consumes_then (Some k) (Some l) None xs ys p q = absurd q
consumes_then (Some k) (Some l) (Some m) xs ys p q = p ∙ ap (λ r. xs ++ r) q ∙ sym (append_assoc xs ys m)

pub took_more : (limit : ℕ) (a b c : Option (List ℕ)) (xs ys : List ℕ) → Took limit a b xs → Consumes b c ys → length xs + length ys ≤ limit + 1 → Took limit a c (xs ++ ys)
took_more limit a b c xs ys p q few = record {
  consumed = consumes_then a b c xs ys p.consumed q;
  few = omega (arith, few, length-append xs ys);
}
