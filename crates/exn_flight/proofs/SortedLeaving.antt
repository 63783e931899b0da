-- A sleeper that leaves a sorted list leaves the rest sorted.
use Rattle.std.proofs.Common.{◌≡◌, ℕ, ◌==◌, true, false, cond, List, [], ◌∷◌, refl, ap, sym, ◌∙◌}
use Rattle.rules_waiting.specs.Waiting.{Sleeper, Waiting, leaves, sleepers_of, sleeper_before, sleeper_added, sorted_sleepers, still_asleep}
use Rattle.exn_flight.proofs.OneList.{sleepers_leave}
use Rattle.exn_flight.proofs.Before.{other_way, none_later}

abbrev NoneBefore : Sleeper → List Sleeper → Type 0
NoneBefore r [] = Unit {0}
NoneBefore r (q ∷ qs) = (sleeper_before q r ≡ false) × NoneBefore r qs

abbrev Rises : List Sleeper → Type 0
Rises [] = Unit {0}
Rises (r ∷ rs) = NoneBefore r rs × Rises rs

none_before : (r s : Sleeper) (qs : List Sleeper) → sleeper_before r s ≡ false → NoneBefore r qs → NoneBefore s qs
none_before r s [] p h = tt
none_before r s (q ∷ qs) p h = (none_later s r q p h.0, none_before r s qs p h.1)

none_added : (r s : Sleeper) (qs : List Sleeper) → sleeper_before s r ≡ false → NoneBefore r qs → NoneBefore r (sleeper_added s qs)
none_added r s [] p h = (p, tt)
none_added r s (q ∷ qs) p h =
    let rest = none_added r s qs p h.1 in
    elim (sleeper_before q s) as (λ b. NoneBefore r (cond b (q ∷ sleeper_added s qs) (s ∷ q ∷ qs))) [ true ↦ (h.0, rest) | false ↦ (p, h) ]

rises_added : (s : Sleeper) (qs : List Sleeper) → Rises qs → Rises (sleeper_added s qs)
rises_added s [] h = (tt, tt)
rises_added s (q ∷ qs) h =
    let rest = rises_added s qs h.1 in
    elim (sleeper_before q s) as (λ b. sleeper_before q s ≡ b → Rises (cond b (q ∷ sleeper_added s qs) (s ∷ q ∷ qs))) [
      | true ↦ λ e. (none_added q s qs (other_way q s e) h.0, rest)
      | false ↦ λ e. (let first : NoneBefore s (q ∷ qs) = (e, none_before q s qs e h.0) in (first, h))
    ] refl

rises : (ss : List Sleeper) → Rises (sorted_sleepers ss)
rises [] = tt
rises (s ∷ ss) = rises_added s (sorted_sleepers ss) (rises ss)

added_first : (s : Sleeper) (qs : List Sleeper) → NoneBefore s qs → sleeper_added s qs ≡ s ∷ qs
added_first s [] h = refl
added_first s (q ∷ qs) h = ap (λ b. cond b (q ∷ sleeper_added s qs) (s ∷ q ∷ qs)) h.0

none_left : (t : ℕ) (s : Sleeper) (qs : List Sleeper) → NoneBefore s qs → NoneBefore s (still_asleep t qs)
none_left t s [] h = tt
none_left t s (q ∷ qs) h =
    let rest = none_left t s qs h.1 in
    elim (q.thread == t) as (λ b. NoneBefore s (cond b (still_asleep t qs) (q ∷ still_asleep t qs))) [ true ↦ rest | false ↦ (h.0, rest) ]

-- the sleeper that was added leaves
added_leaves : (t : ℕ) (s : Sleeper) (qs : List Sleeper) → s.thread == t ≡ true → still_asleep t (sleeper_added s qs) ≡ still_asleep t qs
added_leaves t s [] e = ap (λ b. cond b [] (s ∷ [])) e
added_leaves t s (q ∷ qs) e =
    let rest = added_leaves t s qs e in
    elim (sleeper_before q s) as (λ b. still_asleep t (cond b (q ∷ sleeper_added s qs) (s ∷ q ∷ qs)) ≡ still_asleep t (q ∷ qs)) [
      | true ↦ ap (λ xs. cond (q.thread == t) xs (q ∷ xs)) rest
      | false ↦ ap (λ b. cond b (still_asleep t (q ∷ qs)) (s ∷ still_asleep t (q ∷ qs))) e
    ]

-- another leaves
other_leaves : (t : ℕ) (s : Sleeper) (qs : List Sleeper) → s.thread == t ≡ false → Rises qs → still_asleep t (sleeper_added s qs) ≡ sleeper_added s (still_asleep t qs)
other_leaves t s [] e h = ap (λ b. cond b [] (s ∷ [])) e
other_leaves t s (q ∷ qs) e h =
    let rest = other_leaves t s qs e h.1 in
    elim (sleeper_before q s) as (λ b. sleeper_before q s ≡ b → still_asleep t (cond b (q ∷ sleeper_added s qs) (s ∷ q ∷ qs)) ≡ sleeper_added s (still_asleep t (q ∷ qs))) [
      | true ↦ λ f. elim (q.thread == t) as (λ b. cond b (still_asleep t (sleeper_added s qs)) (q ∷ still_asleep t (sleeper_added s qs)) ≡ sleeper_added s (cond b (still_asleep t qs) (q ∷ still_asleep t qs))) [
        | true ↦ rest
        | false ↦ ap (λ xs. q ∷ xs) rest ∙ sym (ap (λ b. cond b (q ∷ sleeper_added s (still_asleep t qs)) (s ∷ q ∷ still_asleep t qs)) f)
      ]
      | false ↦ λ f. ap (λ b. cond b (still_asleep t (q ∷ qs)) (s ∷ still_asleep t (q ∷ qs))) e ∙ sym (added_first s (still_asleep t (q ∷ qs)) (none_left t s (q ∷ qs) (f, none_before q s qs f h.0)))
    ] refl

pub sorted_leaves : (t : ℕ) (ss : List Sleeper) → sorted_sleepers (still_asleep t ss) ≡ still_asleep t (sorted_sleepers ss)
sorted_leaves t [] = refl
sorted_leaves t (s ∷ ss) =
    let rest = sorted_leaves t ss in
    elim (s.thread == t) as (λ b. s.thread == t ≡ b → sorted_sleepers (cond b (still_asleep t ss) (s ∷ still_asleep t ss)) ≡ still_asleep t (sleeper_added s (sorted_sleepers ss))) [
      | true ↦ λ e. rest ∙ sym (added_leaves t s (sorted_sleepers ss) e)
      | false ↦ λ e. ap (sleeper_added s) rest ∙ sym (other_leaves t s (sorted_sleepers ss) e (rises ss))
    ] refl

pub leaves_in_order : {V : Type 0} (t : ℕ) (ws : List (Waiting V)) → sorted_sleepers (sleepers_of (leaves t ws)) ≡ still_asleep t (sorted_sleepers (sleepers_of ws))
leaves_in_order t ws = ap sorted_sleepers (sleepers_leave t ws) ∙ sorted_leaves t (sleepers_of ws)
