use Rattle.std.proofs.Common.{◌≡◌, ◌<ℤ◌, ◌-ℤ◌, pos, neg_ℤ, arith, to_z, of_z}
use Rattle.std.specs.Int.{w128}
use Rattle.std.proofs.lemmas.Int.{ints}
use Rattle.hs_eval.proofs.Floors.{computed_rest}
use Rattle.hs_eval.proofs.numbers.floor_rest.Goals as goal

pub returns-else-b-gt0 : goal.returns-else-b-gt0
returns-else-b-gt0 c =
    let l : c.args.b <ℤ pos 0 = grind (arith, ints) in
    let x : to_z w128 (of_z w128 (pos 0 -ℤ to_z w128 (of_z w128 c.from.result))) ≡ neg_ℤ c.args.a = omega (arith, ints) in
    let y : to_z w128 (of_z w128 (pos 0 -ℤ to_z w128 (of_z w128 c.from-else-b-gt0.result))) ≡ neg_ℤ c.args.b = omega (arith, ints) in
    computed_rest c.args.a c.args.b _ _ _ (pos 0 -ℤ to_z w128 (of_z w128 c.rem_euclid-else-b-gt0.result)) c.ranges.a c.ranges.b l x y c.rem_euclid-else-b-gt0.ensures.value (let n : pos 0 -ℤ to_z w128 (of_z w128 c.rem_euclid-else-b-gt0.result) ≡ neg_ℤ c.rem_euclid-else-b-gt0.result = omega (arith, ints) in n)
