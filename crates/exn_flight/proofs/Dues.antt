-- When a thread may wake: what the places say, and the sorted list.
use Rattle.std.proofs.Common.{◌≡◌, ◌≢◌, ℕ, zero, suc, ◌==◌, Bool, true, false, cond, List, [], ◌∷◌, Option, Some, None, refl, ap, ◌∙◌, arith, eq-eqb}
use Rattle.std.proofs.lemmas.Bool.{ne_eqb}
use Rattle.plain_laws.proofs.Booleans.{both_false}
use Rattle.rules_waiting.specs.Waiting.{Sleeper, sleeper_before, sleeper_added, sorted_sleepers, is_sleeping}
use Rattle.exn_flight.specs.Asleep.{with_sleeper, sleepers_at, due_of}
use Rattle.exn_flight.specs.Numbered.{AreDistinct}
use Rattle.exn_flight.specs.Tournaments.{node}
use Rattle.exn_flight.proofs.Order.{has_sorted}
use Rattle.exn_flight.proofs.Placing.{OnlyIs}

-- ---- the order doesn't matter where no thread sleeps twice
other_number : (a b t : ℕ) → a == b ≡ false → a == t ≡ true → b == t ≡ false
other_number a b t e q = grind arith

swapped_by : (a b : Bool) (u v w : Option ℕ) → (a ≡ true → b ≡ false) → cond a u (cond b v w) ≡ cond b v (cond a u w)
swapped_by true true u v w h = let no : true ≡ false = h refl in absurd (cc no)
swapped_by true false u v w h = refl
swapped_by false b u v w h = refl

due_added : (t : ℕ) (s : Sleeper) (ss : List Sleeper) → is_sleeping s.thread ss ≡ false → due_of t (sleeper_added s ss) ≡ due_of t (s ∷ ss)
due_added t s [] h = refl
due_added t s (x ∷ xs) h =
    let w = both_false (x.thread == s.thread) (is_sleeping s.thread xs) h in
    let rest = due_added t s xs w.1 in
    elim (sleeper_before x s) as (λ b. due_of t (cond b (x ∷ sleeper_added s xs) (s ∷ x ∷ xs)) ≡ due_of t (s ∷ x ∷ xs)) [
      | true ↦ ap (cond (x.thread == t) (Some x.due)) rest ∙ swapped_by (x.thread == t) (s.thread == t) (Some x.due) (Some s.due) (due_of t xs) (other_number x.thread s.thread t w.0)
      | false ↦ refl
    ]

pub due_sorted : (t : ℕ) (ss : List Sleeper) → AreDistinct (λ (s : Sleeper). s.thread) ss → due_of t (sorted_sleepers ss) ≡ due_of t ss
due_sorted t [] d = refl
due_sorted t (s ∷ ss) d = due_added t s (sorted_sleepers ss) (has_sorted s.thread ss d.0) ∙ ap (cond (s.thread == t) (Some s.due)) (due_sorted t ss d.1)

-- ---- who doesn't sleep has no time
pub none_due : (t : ℕ) (ss : List Sleeper) → is_sleeping t ss ≡ false → due_of t ss ≡ None
none_due t [] h = refl
none_due t (s ∷ ss) h =
    let w = both_false (s.thread == t) (is_sleeping t ss) h in
    ap (λ b. cond b (Some s.due) (due_of t ss)) w.0 ∙ none_due t ss w.1

-- ---- by place
due_here : (t : ℕ) (o : Option Sleeper) (s : Sleeper) (ss : List Sleeper) → o ≡ Some s → s.thread ≡ t → due_of t (with_sleeper o ss) ≡ Some s.due
due_here t o s ss e q = ap (λ x. due_of t (with_sleeper x ss)) e ∙ ap (λ b. cond b (Some s.due) (due_of t ss)) (eq-eqb s.thread t q)

due_there : (t : ℕ) (o : Option Sleeper) (ss : List Sleeper) → ((s : Sleeper) → o ≡ Some s → s.thread ≢ t) → due_of t (with_sleeper o ss) ≡ due_of t ss
due_there t None ss h = refl
due_there t (Some r) ss h = ap (λ b. cond b (Some r.due) (due_of t ss)) (ne_eqb r.thread t (h r refl))

pub due_at : (os : List (Option Sleeper)) (t p : ℕ) (r : Sleeper) → node os p ≡ Some r → r.thread ≡ t → OnlyIs os t p → due_of t (sleepers_at os) ≡ Some r.due
due_at [] t p r e q only = let no : ⊥ = cc in absurd no
due_at (o ∷ os) t zero r e q only = due_here t o r (sleepers_at os) e q
due_at (o ∷ os) t (suc p) r e q only =
    let later : OnlyIs os t p = λ k s f z. (let w : suc k ≡ suc p = only (suc k) s f z in omega (arith, w)) in
    due_there t o (sleepers_at os) (λ s f z. (let w : 0 ≡ suc p = only 0 s f z in let no : ⊥ = omega (arith, w) in no)) ∙ due_at os t p r e q later
