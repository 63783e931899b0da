-- The longest front of a list whose elements all pass a test.
use Rattle.std.proofs.Common.{◌≡◌, ℕ, ◌+◌, ◌≤◌, List, [], ◌∷◌, ◌++◌, length, Bool, true, false, not, refl, sym, ap, ◌∙◌, subst, arith, ⊎_elim, length-append}
use Rattle.std.specs.List.{list_all, prefix_len, position}
use Rattle.std.specs.Option.{unwrap_or}
use Rattle.std.proofs.lemmas.Bool.{cases_Bool, cond-true, cond-false, and_from}
use Rattle.plain_laws.proofs.Lists.{until, prefix_not_not}
use Rattle.hs_lex.proofs.Longest.{Stops}

-- the first n elements pass, and there the list stops
pub record IsRun (p : ℕ → Bool) (xs : List ℕ) (n : ℕ) : Type 0 where
  pub front : List ℕ
  pub after : List ℕ
  pub whole : front ++ after ≡ xs
  pub len : length front ≡ n
  pub passes : list_all p front ≡ true
  pub stops : Stops p after

longer : (p : ℕ → Bool) (x : ℕ) (xs : List ℕ) (n : ℕ) → p x ≡ true → IsRun p xs n → IsRun p (x ∷ xs) (1 + n)
longer p x xs n e r = record {
  front = x ∷ r.front;
  after = r.after;
  whole = ap (λ z. x ∷ z) r.whole;
  len = let l : length r.front ≡ n = r.len in omega arith;
  passes = and_from (p x) (list_all p r.front) e r.passes;
  stops = r.stops;
}

none : (p : ℕ → Bool) (x : ℕ) (xs : List ℕ) → p x ≡ false → IsRun p (x ∷ xs) 0
none p x xs e = record { front = []; after = x ∷ xs; whole = refl; len = refl; passes = refl; stops = e }

pub prefix_is_run : (p : ℕ → Bool) (xs : List ℕ) → IsRun p xs (prefix_len p xs)
prefix_is_run p [] = record { front = []; after = []; whole = refl; len = refl; passes = refl; stops = tt }
prefix_is_run p (x ∷ xs) =
    ⊎_elim (λ (e : p x ≡ true). subst (IsRun p (x ∷ xs)) (sym (cond-true (p x) (1 + prefix_len p xs) 0 e)) (longer p x xs (prefix_len p xs) e (prefix_is_run p xs)))
    (λ (e : p x ≡ false). subst (IsRun p (x ∷ xs)) (sym (cond-false (p x) (1 + prefix_len p xs) 0 e)) (none p x xs e))
    (cases_Bool (p x))

-- up to the first element that passes, or to the end
pub run_until : (p : ℕ → Bool) (xs : List ℕ) → IsRun (λ x. not (p x)) xs (unwrap_or (position p xs) (length xs))
run_until p xs = subst (IsRun (λ x. not (p x)) xs) (sym (until p xs)) (prefix_is_run (λ x. not (p x)) xs)

-- up to the first element that fails, or to the end
pub run_while : (p : ℕ → Bool) (xs : List ℕ) → IsRun p xs (unwrap_or (position (λ x. not (p x)) xs) (length xs))
run_while p xs = subst (IsRun p xs) (sym (until (λ x. not (p x)) xs ∙ prefix_not_not p xs)) (prefix_is_run p xs)

pub run_length : (p : ℕ → Bool) (xs : List ℕ) (n : ℕ) → IsRun p xs n → n ≤ length xs
run_length p xs n run =
    let all : length run.front + length run.after ≡ length xs = sym (length-append run.front run.after) ∙ ap length run.whole in
    let len : length run.front ≡ n = run.len in
    omega arith
