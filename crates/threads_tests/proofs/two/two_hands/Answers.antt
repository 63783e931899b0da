use Rattle.std.proofs.Common.{rules, ◌≡◌, ℕ, List, [], ◌∷◌, slice_get, Some, ap, sym, ◌∙◌, refl}
use Rattle.conc_hands.specs.Lists.{hands_in}
use Rattle.threads_tests.proofs.two.two_hands.Goals as goal

pub returns-clause-hands : goal.returns-clause-hands
returns-clause-hands c = let fresh = c.in_ok-hands.ensures.list.1 in let one = c.unwrap-one.result in let two = c.unwrap-two.result in
    let first : slice_get (hands_in c.in_ok-hands.list) 0 ≡ Some one = search rules in
    let second : slice_get (hands_in c.in_ok-hands.list) 1 ≡ Some two = search rules in
    let a = fresh 0 one first in let b = fresh 1 two second in (a.0, a.1, b.0, b.1)
