-- States with one key hold the same.
use Rattle.std.proofs.Common.{◌≡◌, ℕ, Bool, true, false, List, [], ◌∷◌, ◌++◌, refl, sym, ap, ap₂, arith}
use Rattle.number_tables.proofs.value_keys_lemmas.Exact.{exact_wide}
use Rattle.number_states.specs.waits.Keys.{cells_key, flight_key, sleepers_key}
use Rattle.number_states.proofs.waits_lemmas.Exact.{exact_cells, exact_flight, exact_sleepers}
use Rattle.number_states.specs.declared.state.NumberThread.{NumberThread}
use Rattle.number_states.specs.States.{Contents}
use Rattle.number_states.specs.Keys.{standing_number, threads_key, counts_key, contents_key}

abbrev first_of : List ℕ → ℕ
first_of [] = 0
first_of (x ∷ xs) = x

abbrev rest_of : List ℕ → List ℕ
rest_of [] = []
rest_of (x ∷ xs) = xs

exact_standing : (a b c d : Bool) → standing_number a b ≡ standing_number c d → (a ≡ c) × (b ≡ d)
exact_standing false false false false e = (refl, refl)
exact_standing true false true false e = (refl, refl)
exact_standing false true false true e = (refl, refl)
exact_standing true true true true e = (refl, refl)
exact_standing false false false true e = absurd (omega (arith, e))
exact_standing false false true false e = absurd (omega (arith, e))
exact_standing false false true true e = absurd (omega (arith, e))
exact_standing false true false false e = absurd (omega (arith, e))
exact_standing false true true false e = absurd (omega (arith, e))
exact_standing false true true true e = absurd (omega (arith, e))
exact_standing true false false false e = absurd (omega (arith, e))
exact_standing true false false true e = absurd (omega (arith, e))
exact_standing true false true true e = absurd (omega (arith, e))
exact_standing true true false false e = absurd (omega (arith, e))
exact_standing true true false true e = absurd (omega (arith, e))
exact_standing true true true false e = absurd (omega (arith, e))

stands_some : (a b : Bool) → standing_number a b ≡ 0 → ⊥
stands_some false false e = omega (arith, e)
stands_some true false e = omega (arith, e)
stands_some false true e = omega (arith, e)
stands_some true true e = omega (arith, e)

exact_threads : (xs ys : List NumberThread) (r s : List ℕ) → threads_key xs ++ r ≡ threads_key ys ++ s → (xs ≡ ys) × (r ≡ s)
exact_threads [] [] r s e = (refl, ap rest_of e)
exact_threads [] (y ∷ ys) r s e = absurd (stands_some y.blocked y.finished (sym (ap first_of e)))
exact_threads (x ∷ xs) [] r s e = absurd (stands_some x.blocked x.finished (ap first_of e))
exact_threads (x ∷ xs) (y ∷ ys) r s e =
    let standing = exact_standing x.blocked x.finished y.blocked y.finished (ap first_of e) in
    let term : x.term ≡ y.term = ap (λ k. first_of (rest_of k)) e in
    let one : x ≡ y = ap₂ (λ n (b : Bool × Bool). record { term = n; blocked = b.0; finished = b.1 }) term (ap₂ (λ a b. (a, b)) standing.0 standing.1) in
    let more = exact_threads xs ys r s (ap (λ k. rest_of (rest_of k)) e) in
    (ap₂ (λ z zs. z ∷ zs) one more.0, more.1)

-- the numbers that stand alone
pub record SameCounts (x y : Contents) : Type 0 where
  pub clock : x.clock ≡ y.clock
  pub instances : x.instances ≡ y.instances
  pub timeouts : x.timeouts ≡ y.timeouts
  pub printed : x.printed ≡ y.printed
  pub output : x.output ≡ y.output
  pub errors : x.errors ≡ y.errors

exact_counts : (x y : Contents) → counts_key x ≡ counts_key y → SameCounts x y
exact_counts x y e =
    let clock = exact_wide x.clock y.clock _ _ e in
    let printed = exact_wide x.printed y.printed (x.output ∷ x.errors ∷ []) (y.output ∷ y.errors ∷ []) (ap (λ k. rest_of (rest_of k)) clock.1) in
    record {
      clock = clock.0;
      instances = ap first_of clock.1;
      timeouts = ap (λ k. first_of (rest_of k)) clock.1;
      printed = printed.0;
      output = ap first_of printed.1;
      errors = ap (λ k. first_of (rest_of k)) printed.1;
    }

pub exact_contents : (x y : Contents) → contents_key x ≡ contents_key y → x ≡ y
exact_contents x y e =
    let threads = exact_threads x.threads y.threads (cells_key x.cells ++ (flight_key x.flight ++ (sleepers_key x.sleepers ++ counts_key x))) (cells_key y.cells ++ (flight_key y.flight ++ (sleepers_key y.sleepers ++ counts_key y))) e in
    let cells = exact_cells x.cells y.cells (flight_key x.flight ++ (sleepers_key x.sleepers ++ counts_key x)) (flight_key y.flight ++ (sleepers_key y.sleepers ++ counts_key y)) threads.1 in
    let flight = exact_flight x.flight y.flight (sleepers_key x.sleepers ++ counts_key x) (sleepers_key y.sleepers ++ counts_key y) cells.1 in
    let sleepers = exact_sleepers x.sleepers y.sleepers (counts_key x) (counts_key y) flight.1 in
    let counts = exact_counts x y sleepers.1 in
    let p0 = threads.0 in let p1 = cells.0 in let p2 = flight.0 in let p3 = sleepers.0 in
    let q0 = counts.clock in let q1 = counts.instances in let q2 = counts.timeouts in let q3 = counts.printed in let q4 = counts.output in let q5 = counts.errors in
    λ i. record {
      threads = p0 i;
      cells = p1 i;
      flight = p2 i;
      sleepers = p3 i;
      clock = q0 i;
      instances = q1 i;
      timeouts = q2 i;
      printed = q3 i;
      output = q4 i;
      errors = q5 i;
    }
