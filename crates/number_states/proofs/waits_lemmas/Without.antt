-- Lists without the items of one number, and what stands for them.
use Rattle.std.proofs.Common.{◌≡◌, ℕ, ◌==◌, not, true, false, cond, List, [], ◌∷◌, ◌++◌, refl, ap}
use Rattle.std.specs.List.{filter}
use Rattle.hs_base.specs.declared.exn.Exn.{Exn}
use Rattle.rules_waiting.specs.Waiting.{Flying, without, withdrawn, is_throwing, flying_to, still_asleep}
use Rattle.hs_rules.specs.Entries.{throwers}
use Rattle.number_states.specs.declared.waits.flight.Thrown.{Thrown}
use Rattle.number_states.specs.declared.waits.sleepers.Asleep.{Asleep}
use Rattle.number_states.specs.waits.Throwing.{without_thrower, has_thrower, thrown_to, throwers_of, map_flight}
use Rattle.number_states.specs.waits.Sleeping.{sleeper_of, sleepers}

pub kept : {A : Type 0} (number : A → ℕ) (t : ℕ) (xs : List A) → filter (λ x. not (number x == t)) xs ≡ without number t xs
kept number t [] = refl
kept number t (x ∷ xs) =
    let rest = kept number t xs in
    elim (number x == t) as (λ b. cond (not b) (x ∷ filter (λ y. not (number y == t)) xs) (filter (λ y. not (number y == t)) xs) ≡ cond b (without number t xs) (x ∷ without number t xs)) [
      | true ↦ rest
      | false ↦ ap (λ ys. x ∷ ys) rest
    ]

pub sleepers_without : (t : ℕ) (xs : List Asleep) → sleepers (without (λ (a : Asleep). a.thread) t xs) ≡ still_asleep t (sleepers xs)
sleepers_without t [] = refl
sleepers_without t (x ∷ xs) =
    let rest = sleepers_without t xs in
    elim (x.thread == t) as (λ b. sleepers (cond b (without (λ (a : Asleep). a.thread) t xs) (x ∷ without (λ (a : Asleep). a.thread) t xs)) ≡ cond b (still_asleep t (sleepers xs)) (sleeper_of x ∷ still_asleep t (sleepers xs))) [
      | true ↦ rest
      | false ↦ ap (λ ys. sleeper_of x ∷ ys) rest
    ]

module _ (f : ℕ → Exn) where
  -- an exception in flight that the numbers stand for
  abbrev flying : Thrown → Flying
  flying x = record { thrower = x.thrower; target = x.target; exn = f x.exn }

  pub flight_without : (t : ℕ) (xs : List Thrown) → map_flight f (without_thrower t xs) ≡ withdrawn t (map_flight f xs)
  flight_without t [] = refl
  flight_without t (x ∷ xs) =
      let rest = flight_without t xs in
      elim (x.thrower == t) as (λ b. map_flight f (cond b (without_thrower t xs) (x ∷ without_thrower t xs)) ≡ cond b (withdrawn t (map_flight f xs)) (flying x ∷ withdrawn t (map_flight f xs))) [
        | true ↦ rest
        | false ↦ ap (λ ys. flying x ∷ ys) rest
      ]

  pub flight_has : (t : ℕ) (xs : List Thrown) → has_thrower t xs ≡ is_throwing t (map_flight f xs)
  flight_has t [] = refl
  flight_has t (x ∷ xs) = ap (λ b. cond (x.thrower == t) true b) (flight_has t xs)

  pub flight_to : (u : ℕ) (xs : List Thrown) → map_flight f (thrown_to u xs) ≡ flying_to u (map_flight f xs)
  flight_to u [] = refl
  flight_to u (x ∷ xs) =
      let rest = flight_to u xs in
      elim (x.target == u) as (λ b. map_flight f (cond b (x ∷ thrown_to u xs) (thrown_to u xs)) ≡ cond b (flying x ∷ flying_to u (map_flight f xs)) (flying_to u (map_flight f xs))) [
        | true ↦ ap (λ ys. flying x ∷ ys) rest
        | false ↦ rest
      ]

  pub flight_throwers : (xs : List Thrown) → throwers_of xs ≡ throwers (map_flight f xs)
  flight_throwers [] = refl
  flight_throwers (x ∷ xs) = ap (λ ts. x.thrower ∷ ts) (flight_throwers xs)

  pub flight_append : (xs ys : List Thrown) → map_flight f (xs ++ ys) ≡ map_flight f xs ++ map_flight f ys
  flight_append [] ys = refl
  flight_append (x ∷ xs) ys = ap (λ zs. flying x ∷ zs) (flight_append xs ys)
