-- Counts over threads, where one of them changed.
use Rattle.std.proofs.Common.{◌≡◌, ◌≢◌, ◌≤◌, ◌<◌, ◌^◌, ℕ, ◌==◌, zero, suc, ◌+◌, ◌-◌, List, [], ◌∷◌, ◌++◌, length, Bool, true, false, not, cond, ◌&&◌, Some, slice_get, slice_set, refl, sym, ap, ◌∙◌, subst, ⊎_elim, MatchBool, arith}
use Rattle.hs_laws.proofs.Lists.{equal_or}
use Rattle.frame_stack.specs.declared.control.Control.{Control}
use Rattle.frame_stack.specs.declared.control.Control.TheVariants as c
use Rattle.frame_stack.specs.Parts.{IsOp, MeetsOne}
use Rattle.local_steps.specs.declared.active.Frame.{Frame}
use Rattle.thread_table.specs.declared.thread.Thread.{Thread}
use Rattle.thread_table.specs.Listing.{goes, Goes, counted_going, going_over, is_doing}
use Rattle.thread_table.specs.Table.{changed, set_thread, sum_over, IsAt}
use Rattle.thread_table.proofs.Table.{set_twice}

-- ---- a sum over threads
pub sum_set : (g : Thread → ℕ) (ths : List Thread) (t : ℕ) (th y : Thread) → slice_get ths t ≡ Some th → sum_over g (slice_set ths t y) + g th ≡ sum_over g ths + g y
sum_set g [] t th y h = absurd (cc h)
sum_set g (x ∷ ths) zero th y h = let q : th ≡ x = cc h in let e = ap g q in omega (arith, e)
sum_set g (x ∷ ths) (suc t) th y h = let e = sum_set g ths t th y h in omega (arith, e)

pub sum_changed : (g : Thread → ℕ) (ths : List Thread) (t : ℕ) (f : Thread → Thread) (th : Thread) → slice_get ths t ≡ Some th → sum_over g (changed t f ths) + g th ≡ sum_over g ths + g (f th)
sum_changed g ths t f th h = ap (λ o. sum_over g (set_thread t f o ths) + g th) h ∙ sum_set g ths t th (f th) h

pub sum_part : (g : Thread → ℕ) (ths : List Thread) (t : ℕ) (th : Thread) → slice_get ths t ≡ Some th → g th ≤ sum_over g ths
sum_part g [] t th h = absurd (cc h)
sum_part g (x ∷ ths) zero th h = let q : th ≡ x = cc h in let e = ap g q in omega (arith, e)
sum_part g (x ∷ ths) (suc t) th h = let e = sum_part g ths t th h in omega (arith, e)

pub sum_more : (g : Thread → ℕ) (ths : List Thread) (y : Thread) → sum_over g (ths ++ y ∷ []) ≡ sum_over g ths + g y
sum_more g [] y = omega arith
sum_more g (x ∷ ths) y = let e = sum_more g ths y in omega (arith, e)

-- ---- a count that is the sum, where another thread y stands at number t
-- y counts as much as the one before
pub count_same : (g : Thread → ℕ) (ths : List Thread) (t : ℕ) (th y : Thread) (n : ℕ) → slice_get ths t ≡ Some th → g y ≡ g th → n ≡ sum_over g ths → n ≡ sum_over g (slice_set ths t y)
count_same g ths t th y n h e k = let a = sum_set g ths t th y h in omega (arith, a, e, k)

-- what the one before counted, and what y counts
pub count_swapped : (g : Thread → ℕ) (ths : List Thread) (t : ℕ) (th y : Thread) (n had has : ℕ) → slice_get ths t ≡ Some th → had ≡ g th → has ≡ g y → n ≡ sum_over g ths → n - had + has ≡ sum_over g (slice_set ths t y)
count_swapped g ths t th y n had has h i j k = let a = sum_set g ths t th y h in let b = sum_part g ths t th h in omega (arith, a, b, i, j, k)

-- y counts nothing
pub count_less : (g : Thread → ℕ) (ths : List Thread) (t : ℕ) (th y : Thread) (n had : ℕ) → slice_get ths t ≡ Some th → had ≡ g th → g y ≡ 0 → n ≡ sum_over g ths → n - had ≡ sum_over g (slice_set ths t y)
count_less g ths t th y n had h i j k = let a = sum_set g ths t th y h in let b = sum_part g ths t th h in omega (arith, a, b, i, j, k)

-- the one before counted nothing
pub count_more : (g : Thread → ℕ) (ths : List Thread) (t : ℕ) (th y : Thread) (n has : ℕ) → slice_get ths t ≡ Some th → g th ≡ 0 → has ≡ g y → n ≡ sum_over g ths → n + has ≡ sum_over g (slice_set ths t y)
count_more g ths t th y n has h i j k = let a = sum_set g ths t th y h in omega (arith, a, i, j, k)

-- one thread more
pub count_new : (g : Thread → ℕ) (ths : List Thread) (y : Thread) (n has : ℕ) → has ≡ g y → n ≡ sum_over g ths → n + has ≡ sum_over g (ths ++ y ∷ [])
count_new g ths y n has i k = let a = sum_more g ths y in omega (arith, a, i, k)

pub count_part : (g : Thread → ℕ) (ths : List Thread) (t : ℕ) (th : Thread) (n had : ℕ) → slice_get ths t ≡ Some th → had ≡ g th → n ≡ sum_over g ths → had ≤ n
count_part g ths t th n had h i k = let b = sum_part g ths t th h in omega (arith, b, i, k)

-- written twice
pub count_twice : (g : Thread → ℕ) (ths : List Thread) (t : ℕ) (y z : Thread) (n : ℕ) → n ≡ sum_over g (slice_set ths t z) → n ≡ sum_over g (slice_set (slice_set ths t y) t z)
count_twice g ths t y z n k = k ∙ sym (ap (sum_over g) (set_twice ths t y z))

-- ---- those who are to do an action
one_at_most : (b : Bool) → cond b 1 0 ≤ 1
one_at_most true = omega arith
one_at_most false = omega arith

pub going_at_most : (ths : List Thread) → going_over ths ≤ length ths
going_at_most [] = omega arith
going_at_most (th ∷ ths) = let a = one_at_most (goes th) in let b = going_at_most ths in omega (arith, a, b)

-- the count and one more fit their type, since a list has fewer than 2^63 threads
pub going_fits : (ths : List Thread) (n len cap has : ℕ) (th : Thread) → n ≡ going_over ths → (len ≡ length ths) × (len ≤ cap) → cap < 2 ^ 63 → has ≡ counted_going th → n + has < 2 ^ 64
going_fits ths n len cap has th e l small k =
    let a = one_at_most (goes th) in
    let b = going_at_most ths in
    let i = l.0 in
    let j = l.1 in
    omega (arith, a, b, e, i, j, small, k)

all_three : (a b d : Bool) → (not a && not b && d) ≡ true → (a ≡ false) × (b ≡ false) × (d ≡ true)
all_three false false true h = (refl, refl, refl)
all_three false false false h = absurd (cc h)
all_three false true d h = absurd (cc h)
all_three true b d h = absurd (cc h)

last_not : (a b : Bool) → (a && b && false) ≡ false
last_not false b = refl
last_not true false = refl
last_not true true = refl

middle_not : (a d : Bool) → (a && false && d) ≡ false
middle_not false d = refl
middle_not true d = refl

counts_one : (b : Bool) → ◌≡◌ {A = ℕ} (cond b 1 0) 0 → b ≡ true → ⊥
counts_one true h e = cc h
counts_one false h e = cc e

stays_still : (th : Thread) → goes th ≡ false → counted_going th ≡ 0
stays_still th e = ap (λ b. cond b 1 0) e

pub who_goes : (th : Thread) → goes th ≡ true → Goes th
who_goes th h = all_three th.finished th.blocked (is_doing th.stack.control) h

pub goes_true : (th : Thread) → Goes th → goes th ≡ true
goes_true th g = ap (λ b. not b && not th.blocked && is_doing th.stack.control) g.0 ∙ (ap (λ b. not b && is_doing th.stack.control) g.1 ∙ g.2)

-- who doesn't go
pub not_doing : (th : Thread) → is_doing th.stack.control ≡ false → goes th ≡ false
not_doing th e = ap (λ b. not th.finished && not th.blocked && b) e ∙ last_not (not th.finished) (not th.blocked)

pub not_free : (th : Thread) → th.blocked ≡ true → goes th ≡ false
not_free th e = ap (λ b. not th.finished && not b && is_doing th.stack.control) e ∙ middle_not (not th.finished) (is_doing th.stack.control)

-- who isn't counted
pub still_control : (th : Thread) → is_doing th.stack.control ≡ false → counted_going th ≡ 0
still_control th e = stays_still th (not_doing th e)

pub still_blocked : (th : Thread) → th.blocked ≡ true → counted_going th ≡ 0
still_blocked th e = stays_still th (not_free th e)

pub op_still : (x : Control) → IsOp x → is_doing x ≡ false
op_still (c.Doing i vs) h = absurd h
op_still (c.Ret v) h = refl
op_still (c.Throw e) h = refl
op_still (c.Op q) h = refl

pub meets_still : (x : Control) (fs : List Frame) → MeetsOne x fs → is_doing x ≡ false
meets_still (c.Doing i vs) fs h = absurd h
meets_still (c.Ret v) fs h = refl
meets_still (c.Throw e) fs h = refl
meets_still (c.Op q) fs h = refl

-- the count finds one where there is one
pub some_going : (ths : List Thread) (n : ℕ) → n ≡ going_over ths → n ≢ 0 → (t : ℕ) × IsAt t Goes ths
some_going [] n e k = absurd (k e)
some_going (th ∷ ths) n e k = by (goes th) refl (λ h. let i = stays_still th h in some_going ths n (omega (arith, e, i)) k)
  where
    by : (b : Bool) → goes th ≡ b → (goes th ≡ false → (t : ℕ) × IsAt t Goes ths) → (t : ℕ) × IsAt t Goes (th ∷ ths)
    by true h w = (0, record { thread = th; is = refl; holds = who_goes th h })
    by false h w = (suc (w h).0, record { thread = (w h).1.thread; is = (w h).1.is; holds = (w h).1.holds })

pub none_going : (ths : List Thread) (n : ℕ) → n ≡ going_over ths → n ≡ 0 → (t : ℕ) (th : Thread) → slice_get ths t ≡ Some th → Goes th → ⊥
none_going ths n e k t th h g =
    let a = sum_part counted_going ths t th h in
    counts_one (goes th) (omega (arith, a, e, k)) (goes_true th g)

pub going_found : (ths : List Thread) (n : ℕ) → n ≡ going_over ths → MatchBool (not (n == 0)) ((t : ℕ) × IsAt t Goes ths) ((t : ℕ) (th : Thread) → slice_get ths t ≡ Some th → Goes th → ⊥)
going_found ths n e =
    ⊎_elim
    (λ i. subst (λ b. MatchBool (not b) ((t : ℕ) × IsAt t Goes ths) ((t : ℕ) (th : Thread) → slice_get ths t ≡ Some th → Goes th → ⊥)) (sym i.0) (none_going ths n e i.1))
    (λ i. subst (λ b. MatchBool (not b) ((t : ℕ) × IsAt t Goes ths) ((t : ℕ) (th : Thread) → slice_get ths t ≡ Some th → Goes th → ⊥)) (sym i.0) (some_going ths n e i.1))
    (equal_or n 0)
