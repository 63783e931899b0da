-- The exceptions in flight and the sleepers, as the one list of blocked threads says them, when a thread blocks or is
-- blocked no more.
use Rattle.std.proofs.Common.{◌≡◌, ℕ, ◌==◌, true, false, cond, List, [], ◌∷◌, ◌++◌, refl, ap, sym, ◌∙◌}
use Rattle.rules_waiting.specs.Waiting.{Reason, Taking, Reading, Putting, Throwing, Sleeping, Waiting, Flying, Sleeper, blocks, leaves, flight_of, sleepers_of, with_flying, with_sleeper, withdrawn, still_asleep}

module _ {V : Type 0} where
  -- a thread that blocks is the last thrower, or the last sleeper
  with_flying_append : (t : ℕ) (r : Reason V) (fs gs : List Flying) → with_flying t r (fs ++ gs) ≡ with_flying t r fs ++ gs
  with_flying_append t (Taking m) fs gs = refl
  with_flying_append t (Reading m) fs gs = refl
  with_flying_append t (Putting m v) fs gs = refl
  with_flying_append t (Throwing u e) fs gs = refl
  with_flying_append t (Sleeping due) fs gs = refl

  pub flight_blocks : (t : ℕ) (r : Reason V) (ws : List (Waiting V)) → flight_of (blocks t r ws) ≡ flight_of ws ++ with_flying t r []
  flight_blocks t r [] = refl
  flight_blocks t r (w ∷ ws) =
      ap (with_flying w.thread w.reason) (flight_blocks t r ws) ∙ with_flying_append w.thread w.reason (flight_of ws) (with_flying t r [])

  with_sleeper_append : (t : ℕ) (r : Reason V) (ss rs : List Sleeper) → with_sleeper t r (ss ++ rs) ≡ with_sleeper t r ss ++ rs
  with_sleeper_append t (Taking m) ss rs = refl
  with_sleeper_append t (Reading m) ss rs = refl
  with_sleeper_append t (Putting m v) ss rs = refl
  with_sleeper_append t (Throwing u e) ss rs = refl
  with_sleeper_append t (Sleeping due) ss rs = refl

  pub sleepers_block : (t : ℕ) (r : Reason V) (ws : List (Waiting V)) → sleepers_of (blocks t r ws) ≡ sleepers_of ws ++ with_sleeper t r []
  sleepers_block t r [] = refl
  sleepers_block t r (w ∷ ws) =
      ap (with_sleeper w.thread w.reason) (sleepers_block t r ws) ∙ with_sleeper_append w.thread w.reason (sleepers_of ws) (with_sleeper t r [])

  -- a thread that is blocked no more throws no more, and sleeps no more
  with_flying_here : (t u : ℕ) (r : Reason V) (fs : List Flying) → u == t ≡ true → withdrawn t (with_flying u r fs) ≡ withdrawn t fs
  with_flying_here t u (Taking m) fs e = refl
  with_flying_here t u (Reading m) fs e = refl
  with_flying_here t u (Putting m v) fs e = refl
  with_flying_here t u (Throwing n x) fs e = ap (λ b. cond b (withdrawn t fs) (record { thrower = u; target = n; exn = x } ∷ withdrawn t fs)) e
  with_flying_here t u (Sleeping due) fs e = refl

  with_flying_there : (t u : ℕ) (r : Reason V) (fs : List Flying) → u == t ≡ false → withdrawn t (with_flying u r fs) ≡ with_flying u r (withdrawn t fs)
  with_flying_there t u (Taking m) fs e = refl
  with_flying_there t u (Reading m) fs e = refl
  with_flying_there t u (Putting m v) fs e = refl
  with_flying_there t u (Throwing n x) fs e = ap (λ b. cond b (withdrawn t fs) (record { thrower = u; target = n; exn = x } ∷ withdrawn t fs)) e
  with_flying_there t u (Sleeping due) fs e = refl

  pub flight_leaves : (t : ℕ) (ws : List (Waiting V)) → flight_of (leaves t ws) ≡ withdrawn t (flight_of ws)
  flight_leaves t [] = refl
  flight_leaves t (w ∷ ws) =
      let rest = flight_leaves t ws in
      elim (w.thread == t) as (λ b. w.thread == t ≡ b → flight_of (cond b (leaves t ws) (w ∷ leaves t ws)) ≡ withdrawn t (flight_of (w ∷ ws))) [
        | true ↦ λ e. rest ∙ sym (with_flying_here t w.thread w.reason (flight_of ws) e)
        | false ↦ λ e. ap (with_flying w.thread w.reason) rest ∙ sym (with_flying_there t w.thread w.reason (flight_of ws) e)
      ] refl

  with_sleeper_here : (t u : ℕ) (r : Reason V) (ss : List Sleeper) → u == t ≡ true → still_asleep t (with_sleeper u r ss) ≡ still_asleep t ss
  with_sleeper_here t u (Taking m) ss e = refl
  with_sleeper_here t u (Reading m) ss e = refl
  with_sleeper_here t u (Putting m v) ss e = refl
  with_sleeper_here t u (Throwing n x) ss e = refl
  with_sleeper_here t u (Sleeping due) ss e = ap (λ b. cond b (still_asleep t ss) (record { thread = u; due = due } ∷ still_asleep t ss)) e

  with_sleeper_there : (t u : ℕ) (r : Reason V) (ss : List Sleeper) → u == t ≡ false → still_asleep t (with_sleeper u r ss) ≡ with_sleeper u r (still_asleep t ss)
  with_sleeper_there t u (Taking m) ss e = refl
  with_sleeper_there t u (Reading m) ss e = refl
  with_sleeper_there t u (Putting m v) ss e = refl
  with_sleeper_there t u (Throwing n x) ss e = refl
  with_sleeper_there t u (Sleeping due) ss e = ap (λ b. cond b (still_asleep t ss) (record { thread = u; due = due } ∷ still_asleep t ss)) e

  pub sleepers_leave : (t : ℕ) (ws : List (Waiting V)) → sleepers_of (leaves t ws) ≡ still_asleep t (sleepers_of ws)
  sleepers_leave t [] = refl
  sleepers_leave t (w ∷ ws) =
      let rest = sleepers_leave t ws in
      elim (w.thread == t) as (λ b. w.thread == t ≡ b → sleepers_of (cond b (leaves t ws) (w ∷ leaves t ws)) ≡ still_asleep t (sleepers_of (w ∷ ws))) [
        | true ↦ λ e. rest ∙ sym (with_sleeper_here t w.thread w.reason (sleepers_of ws) e)
        | false ↦ λ e. ap (with_sleeper w.thread w.reason) rest ∙ sym (with_sleeper_there t w.thread w.reason (sleepers_of ws) e)
      ] refl
