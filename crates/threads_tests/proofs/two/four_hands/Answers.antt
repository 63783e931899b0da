use Rattle.std.proofs.Common.{rules, ◌≡◌, ℕ, List, [], ◌∷◌, slice_get, Some, ap, sym, ◌∙◌, refl}
use Rattle.conc_hands.specs.Lists.{hands_in}
use Rattle.threads_tests.proofs.two.four_hands.Goals as goal

pub returns-clause-first : goal.returns-clause-first
returns-clause-first c = let fresh = c.in_ok-hands.ensures.list.1 in let one = c.unwrap-one.result in let two = c.unwrap-two.result in
    let first : slice_get (hands_in c.in_ok-hands.list) 0 ≡ Some one = search rules in
    let second : slice_get (hands_in c.in_ok-hands.list) 1 ≡ Some two = search rules in
    let a = fresh 0 one first in let b = fresh 1 two second in (a.0, a.1, b.0, b.1)

pub returns-clause-second : goal.returns-clause-second
returns-clause-second c = let fresh = c.in_ok-hands.ensures.list.1 in let three = c.unwrap-three.result in let four = c.unwrap-four.result in
    let third : slice_get (hands_in c.in_ok-hands.list) 2 ≡ Some three = search rules in
    let fourth : slice_get (hands_in c.in_ok-hands.list) 3 ≡ Some four = search rules in
    let a = fresh 2 three third in let b = fresh 3 four fourth in (a.0, a.1, b.0, b.1)
