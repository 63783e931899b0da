-- Lists by number, and what holds of each that waits.
use Rattle.rules_waiting.specs.Waiting.{first_thrown}
use Rattle.std.proofs.Common.{◌≡◌, ◌≢◌, ℕ, zero, suc, ◌<◌, ◌==◌, List, [], ◌∷◌, ◌++◌, length, slice_get, slice_set, Bool, true, false, cond, Option, Some, None, refl, sym, ap, ◌∙◌, subst, arith, ◌⊎◌, inl, inr, ⊎_elim}
use Rattle.hs_base.specs.declared.exn.Exn.{Exn}
use Rattle.rules_meaning.specs.Values.{V}
use Rattle.rules_waiting.specs.OneCell.{To_take, To_read, To_put, first_put, first_take, readers}
use Rattle.rules_waiting.specs.Waiting.{Reason, Taking, Reading, Putting, Throwing, Sleeping, Waiting, leaves, is_blocked, reason_of, with_place, line_of, flight_of, flying_to}
use Rattle.hs_rules.specs.Entries.{throwers}
pub use Rattle.std.proofs.lemmas.Bool.{cond-true as cond_true, cond-false as cond_false}
pub use Rattle.std.proofs.lemmas.Bool.Decides.{eqb_tells as equal_or}
pub use Rattle.plain_laws.proofs.Booleans.{cond_cases}
pub use Rattle.plain_laws.proofs.Lists.{get_append as item_append}
use Rattle.hs_laws.specs.Standing.{Once}

pub item_same : {A : Type 0} (xs : List A) (n : ℕ) (x y : A) → slice_get xs n ≡ Some x → slice_get (slice_set xs n y) n ≡ Some y
item_same [] n x y h = absurd (cc h)
item_same (z ∷ xs) zero x y h = refl
item_same (z ∷ xs) (suc n) x y h = item_same xs n x y h

pub item_other : {A : Type 0} (xs : List A) (n k : ℕ) (y : A) → k ≢ n → slice_get (slice_set xs n y) k ≡ slice_get xs k
item_other [] n k y h = refl
item_other (z ∷ xs) zero zero y h = absurd (h refl)
item_other (z ∷ xs) zero (suc k) y h = refl
item_other (z ∷ xs) (suc n) zero y h = refl
item_other (z ∷ xs) (suc n) (suc k) y h = item_other xs n k y (λ e. h (ap suc e))

-- at a place of a list with one more item stands what stood there, or nothing did and the item does, or nothing does
pub item_more : {A : Type 0} (P : Option A → Type 0) (xs : List A) (y : A) (k : ℕ) → P (slice_get xs k) → (slice_get xs k ≡ None → P (Some y)) → P (slice_get (xs ++ y ∷ []) k)
item_more P [] y zero h g = g refl
item_more P [] y (suc k) h g = h
item_more P (x ∷ xs) y zero h g = h
item_more P (x ∷ xs) y (suc k) h g = item_more P xs y k h g

-- ---- looking through those that wait

-- what the first one tells for whom a test tells something
abbrev pub first_of_kind : {A : Type 0} → (Reason V → Option A) → List (Waiting V) → Option (ℕ × A)
first_of_kind {A} f [] = None
first_of_kind {A} f (w ∷ ws) = elim (f w.reason) [ None ↦ first_of_kind f ws | Some a ↦ Some (w.thread, a) ]

abbrev pub takes : ℕ → Reason V → Option (Unit {0})
takes m (Taking n) = cond (n == m) (Some tt) None
takes m (Reading n) = None
takes m (Putting n a) = None
takes m (Throwing u e) = None
takes m (Sleeping due) = None

abbrev pub puts : ℕ → Reason V → Option V
puts m (Taking n) = None
puts m (Reading n) = None
puts m (Putting n a) = cond (n == m) (Some a) None
puts m (Throwing u e) = None
puts m (Sleeping due) = None

abbrev pub throws : ℕ → Reason V → Option Exn
throws t (Taking n) = None
throws t (Reading n) = None
throws t (Putting n a) = None
throws t (Throwing u e) = cond (u == t) (Some e) None
throws t (Sleeping due) = None

pub throws_means : (t : ℕ) (r : Reason V) (e : Exn) → throws t r ≡ Some e → r ≡ Throwing t e
throws_means t (Throwing u x) e q =
    ⊎_elim
    (λ f. let z : ◌≡◌ {A = Option Exn} (Some x) (Some e) = sym (cond_true (u == t) (Some x) None f.0) ∙ q in let y : x ≡ e = cc z in ap (λ j. Throwing j x) f.1 ∙ ap (Throwing t) y)
    (λ f. let z : ◌≡◌ {A = Option Exn} None (Some e) = sym (cond_false (u == t) (Some x) None f.0) ∙ q in absurd (cc z))
    (equal_or u t)
throws_means t _ e q = absurd (cc q)

abbrev pub throws_at : ℕ → Reason V → Bool
throws_at t (Taking n) = false
throws_at t (Reading n) = false
throws_at t (Putting n a) = false
throws_at t (Throwing u e) = u == t
throws_at t (Sleeping due) = false

abbrev pub reads_at : ℕ → Reason V → Bool
reads_at m (Taking n) = false
reads_at m (Reading n) = n == m
reads_at m (Putting n a) = false
reads_at m (Throwing u e) = false
reads_at m (Sleeping due) = false

-- the threads that wait so, in order
abbrev pub those : (ℕ → Reason V → Bool) → List (Waiting V) → List ℕ
those p [] = []
those p (w ∷ ws) = cond (p w.thread w.reason) (w.thread ∷ those p ws) (those p ws)

put_at : (m : ℕ) (t : ℕ) (r : Reason V) (ws : List (Waiting V)) → first_put (line_of m ws) ≡ first_of_kind (puts m) ws
    → first_put (line_of m (record { thread = t; reason = r } ∷ ws)) ≡ first_of_kind (puts m) (record { thread = t; reason = r } ∷ ws)
put_at m t (Taking n) ws e = at (n == m)
  where
    at : (b : Bool) → first_put (with_place t (cond b (Some To_take) None) (line_of m ws)) ≡ first_of_kind (puts m) ws
    at true = e
    at false = e
put_at m t (Reading n) ws e = at (n == m)
  where
    at : (b : Bool) → first_put (with_place t (cond b (Some To_read) None) (line_of m ws)) ≡ first_of_kind (puts m) ws
    at true = e
    at false = e
put_at m t (Putting n a) ws e = at (n == m)
  where
    at : (b : Bool) → first_put (with_place t (cond b (Some (To_put a)) None) (line_of m ws)) ≡ elim (cond b (Some a) None) [ None ↦ first_of_kind (puts m) ws | Some c ↦ Some (t, c) ]
    at true = refl
    at false = e
put_at m t (Throwing u x) ws e = e
put_at m t (Sleeping due) ws e = e

-- the first that waits to put, among the places of the cell and among all that wait
pub put_is_first : (m : ℕ) (ws : List (Waiting V)) → first_put (line_of m ws) ≡ first_of_kind (puts m) ws
put_is_first m [] = refl
put_is_first m (w ∷ ws) = put_at m w.thread w.reason ws (put_is_first m ws)

abbrev pub only_thread : Option (ℕ × Unit {0}) → Option ℕ
only_thread None = None
only_thread (Some w) = Some w.0

take_at : (m : ℕ) (t : ℕ) (r : Reason V) (ws : List (Waiting V)) → first_take (line_of m ws) ≡ only_thread (first_of_kind (takes m) ws)
    → first_take (line_of m (record { thread = t; reason = r } ∷ ws)) ≡ only_thread (first_of_kind (takes m) (record { thread = t; reason = r } ∷ ws))
take_at m t (Taking n) ws e = at (n == m)
  where
    at : (b : Bool) → first_take (with_place t (cond b (Some To_take) None) (line_of m ws)) ≡ only_thread (elim (cond b (Some (tt {0})) None) [ None ↦ first_of_kind (takes m) ws | Some c ↦ Some (t, c) ])
    at true = refl
    at false = e
take_at m t (Reading n) ws e = at (n == m)
  where
    at : (b : Bool) → first_take (with_place t (cond b (Some To_read) None) (line_of m ws)) ≡ only_thread (first_of_kind (takes m) ws)
    at true = e
    at false = e
take_at m t (Putting n a) ws e = at (n == m)
  where
    at : (b : Bool) → first_take (with_place t (cond b (Some (To_put a)) None) (line_of m ws)) ≡ only_thread (first_of_kind (takes m) ws)
    at true = e
    at false = e
take_at m t (Throwing u x) ws e = e
take_at m t (Sleeping due) ws e = e

pub take_is_first : (m : ℕ) (ws : List (Waiting V)) → first_take (line_of m ws) ≡ only_thread (first_of_kind (takes m) ws)
take_is_first m [] = refl
take_is_first m (w ∷ ws) = take_at m w.thread w.reason ws (take_is_first m ws)

read_at : (m : ℕ) (t : ℕ) (r : Reason V) (ws : List (Waiting V)) → readers (line_of m ws) ≡ those (λ u. reads_at m) ws
    → readers (line_of m (record { thread = t; reason = r } ∷ ws)) ≡ those (λ u. reads_at m) (record { thread = t; reason = r } ∷ ws)
read_at m t (Taking n) ws e = at (n == m)
  where
    at : (b : Bool) → readers (with_place t (cond b (Some To_take) None) (line_of m ws)) ≡ those (λ u. reads_at m) ws
    at true = e
    at false = e
read_at m t (Reading n) ws e = at (n == m)
  where
    at : (b : Bool) → readers (with_place t (cond b (Some To_read) None) (line_of m ws)) ≡ cond b (t ∷ those (λ u. reads_at m) ws) (those (λ u. reads_at m) ws)
    at true = ap (λ us. t ∷ us) e
    at false = e
read_at m t (Putting n a) ws e = at (n == m)
  where
    at : (b : Bool) → readers (with_place t (cond b (Some (To_put a)) None) (line_of m ws)) ≡ those (λ u. reads_at m) ws
    at true = e
    at false = e
read_at m t (Throwing u x) ws e = e
read_at m t (Sleeping due) ws e = e

-- those that wait to read a cell
pub readers_are : (m : ℕ) (ws : List (Waiting V)) → readers (line_of m ws) ≡ those (λ u. reads_at m) ws
readers_are m [] = refl
readers_are m (w ∷ ws) = read_at m w.thread w.reason ws (readers_are m ws)

throw_at_is : (t : ℕ) (w : ℕ) (r : Reason V) (ws : List (Waiting V)) → first_thrown (flying_to t (flight_of ws)) ≡ first_of_kind (throws t) ws
    → first_thrown (flying_to t (flight_of (record { thread = w; reason = r } ∷ ws))) ≡ first_of_kind (throws t) (record { thread = w; reason = r } ∷ ws)
throw_at_is t w (Throwing u x) ws e = at (u == t)
  where
    at : (b : Bool) → first_thrown (cond b (record { thrower = w; target = u; exn = x } ∷ flying_to t (flight_of ws)) (flying_to t (flight_of ws))) ≡ elim (cond b (Some x) None) [ None ↦ first_of_kind (throws t) ws | Some c ↦ Some (w, c) ]
    at true = refl
    at false = e
throw_at_is t w _ ws e = e

pub throw_is_first : (t : ℕ) (ws : List (Waiting V)) → first_thrown (flying_to t (flight_of ws)) ≡ first_of_kind (throws t) ws
throw_is_first t [] = refl
throw_is_first t (w ∷ ws) = throw_at_is t w.thread w.reason ws (throw_is_first t ws)

throwers_at : (t : ℕ) (w : ℕ) (r : Reason V) (ws : List (Waiting V)) → throwers (flying_to t (flight_of ws)) ≡ those (λ u. throws_at t) ws
    → throwers (flying_to t (flight_of (record { thread = w; reason = r } ∷ ws))) ≡ those (λ u. throws_at t) (record { thread = w; reason = r } ∷ ws)
throwers_at t w (Throwing u x) ws e = at (u == t)
  where
    at : (b : Bool) → throwers (cond b (record { thrower = w; target = u; exn = x } ∷ flying_to t (flight_of ws)) (flying_to t (flight_of ws))) ≡ cond b (w ∷ those (λ v. throws_at t) ws) (those (λ v. throws_at t) ws)
    at true = ap (λ us. w ∷ us) e
    at false = e
throwers_at t w _ ws e = e

-- those that throw at a thread
pub throwers_are : (t : ℕ) (ws : List (Waiting V)) → throwers (flying_to t (flight_of ws)) ≡ those (λ u. throws_at t) ws
throwers_are t [] = refl
throwers_are t (w ∷ ws) = throwers_at t w.thread w.reason ws (throwers_are t ws)

-- ---- what holds of each that waits
abbrev pub Each : (ℕ → Reason V → Type 0) → List (Waiting V) → Type 0
Each P [] = Unit {0}
Each P (w ∷ ws) = P w.thread w.reason × Each P ws

pub each_more : (P : ℕ → Reason V → Type 0) (ws : List (Waiting V)) (w : Waiting V) → Each P ws → P w.thread w.reason → Each P (ws ++ w ∷ [])
each_more P [] w h p = (p, tt)
each_more P (v ∷ ws) w h p = (h.0, each_more P ws w h.1 p)

-- after a thread has left
pub each_left : (P Q : ℕ → Reason V → Type 0) (t : ℕ) (ws : List (Waiting V)) → ((u : ℕ) (r : Reason V) → u ≢ t → P u r → Q u r) → Each P ws → Each Q (leaves t ws)
each_left P Q t [] f h = tt
each_left P Q t (w ∷ ws) f h =
    ⊎_elim
    (λ e. subst (Each Q) (sym (cond_true (w.thread == t) (leaves t ws) (w ∷ leaves t ws) e.0)) (each_left P Q t ws f h.1))
    (λ e. let q : Each Q (w ∷ leaves t ws) = (f w.thread w.reason e.1 h.0, each_left P Q t ws f h.1) in subst (Each Q) (sym (cond_false (w.thread == t) (leaves t ws) (w ∷ leaves t ws) e.0)) q)
    (equal_or w.thread t)

-- where a thread doesn't wait
pub each_apart : (P Q : ℕ → Reason V → Type 0) (t : ℕ) (ws : List (Waiting V)) → ((u : ℕ) (r : Reason V) → u ≢ t → P u r → Q u r) → is_blocked t ws ≡ false → Each P ws → Each Q ws
each_apart P Q t [] f b h = tt
each_apart P Q t (w ∷ ws) f b h =
    ⊎_elim
    (λ e. let b1 : true ≡ false = sym (cond_true (w.thread == t) true (is_blocked t ws) e.0) ∙ b in absurd (cc b1))
    (λ e. (f w.thread w.reason e.1 h.0, each_apart P Q t ws f (sym (cond_false (w.thread == t) true (is_blocked t ws) e.0) ∙ b) h.1))
    (equal_or w.thread t)

pub each_changed : (P Q : ℕ → Reason V → Type 0) (ws : List (Waiting V)) → ((u : ℕ) (r : Reason V) → P u r → Q u r) → Each P ws → Each Q ws
each_changed P Q [] f h = tt
each_changed P Q (w ∷ ws) f h = (f w.thread w.reason h.0, each_changed P Q ws f h.1)

pub each_any : (ws : List (Waiting V)) → Each (λ t r. Unit {0}) ws
each_any [] = tt
each_any (w ∷ ws) = (tt, each_any ws)

-- ---- looking for one that waits
abbrev pub Found : {A : Type 0} → (ℕ → Reason V → Type 0) → (Reason V → Option A) → Option (ℕ × A) → Type 0
Found {A} P f None = Unit {0}
Found {A} P f (Some w) = (r : Reason V) × P w.0 r × (f r ≡ Some w.1)

found_in : {A : Type 0} (P : ℕ → Reason V → Type 0) (f : Reason V → Option A) (t : ℕ) (r : Reason V) (o : Option A) (rest : Option (ℕ × A)) → f r ≡ o → P t r → Found P f rest → Found P f (elim o [ None ↦ rest | Some a ↦ Some (t, a) ])
found_in P f t r None rest e p g = g
found_in P f t r (Some a) rest e p g = (r, p, e)

pub first_found : {A : Type 0} (P : ℕ → Reason V → Type 0) (f : Reason V → Option A) (ws : List (Waiting V)) → Each P ws → Found P f (first_of_kind f ws)
first_found P f [] h = tt
first_found P f (w ∷ ws) h = found_in P f w.thread w.reason (f w.reason) (first_of_kind f ws) refl h.0 (first_found P f ws h.1)

abbrev pub OnReason : (Reason V → Type 0) → Option (Reason V) → Type 0
OnReason P None = Unit {0}
OnReason P (Some r) = P r

pub reason_found : (P : ℕ → Reason V → Type 0) (t : ℕ) (ws : List (Waiting V)) → Each P ws → OnReason (P t) (reason_of t ws)
reason_found P t [] h = tt
reason_found P t (w ∷ ws) h =
    ⊎_elim
    (λ e. subst (OnReason (P t)) (sym (cond_true (w.thread == t) (Some w.reason) (reason_of t ws) e.0)) (subst (λ u. P u w.reason) e.1 h.0))
    (λ e. subst (OnReason (P t)) (sym (cond_false (w.thread == t) (Some w.reason) (reason_of t ws) e.0)) (reason_found P t ws h.1))
    (equal_or w.thread t)

pub blocked_found : (P : ℕ → Reason V → Type 0) (t : ℕ) (ws : List (Waiting V)) → is_blocked t ws ≡ true → Each P ws → (r : Reason V) × P t r
blocked_found P t [] b h = absurd (cc b)
blocked_found P t (w ∷ ws) b h =
    ⊎_elim
    (λ e. (w.reason, subst (λ u. P u w.reason) e.1 h.0))
    (λ e. blocked_found P t ws (sym (cond_false (w.thread == t) true (is_blocked t ws) e.0) ∙ b) h.1)
    (equal_or w.thread t)

-- ---- no thread waits two times
pub not_blocked_left : (t u : ℕ) (ws : List (Waiting V)) → is_blocked u ws ≡ false → is_blocked u (leaves t ws) ≡ false
not_blocked_left t u [] h = refl
not_blocked_left t u (w ∷ ws) h =
    ⊎_elim
    (λ e. let b : true ≡ false = sym (cond_true (w.thread == u) true (is_blocked u ws) e.0) ∙ h in absurd (cc b))
    (λ e.
    let rest = not_blocked_left t u ws (sym (cond_false (w.thread == u) true (is_blocked u ws) e.0) ∙ h) in
    cond_cases (λ vs. is_blocked u vs ≡ false) (w.thread == t) (leaves t ws) (w ∷ leaves t ws) (λ k. rest) (λ k. cond_false (w.thread == u) true (is_blocked u (leaves t ws)) e.0 ∙ rest))
    (equal_or w.thread u)

pub once_left : (t : ℕ) (ws : List (Waiting V)) → Once ws → Once (leaves t ws)
once_left t [] h = tt
once_left t (w ∷ ws) h =
    cond_cases Once (w.thread == t) (leaves t ws) (w ∷ leaves t ws) (λ k. once_left t ws h.1) (λ k. (not_blocked_left t w.thread ws h.0, once_left t ws h.1))

pub not_blocked_more : (u : ℕ) (ws : List (Waiting V)) (w : Waiting V) → is_blocked u ws ≡ false → w.thread ≢ u → is_blocked u (ws ++ w ∷ []) ≡ false
not_blocked_more u [] w h n = ⊎_elim (λ e. absurd (n e.1)) (λ e. cond_false (w.thread == u) true false e.0) (equal_or w.thread u)
not_blocked_more u (v ∷ ws) w h n =
    ⊎_elim
    (λ e. let b : true ≡ false = sym (cond_true (v.thread == u) true (is_blocked u ws) e.0) ∙ h in absurd (cc b))
    (λ e. cond_false (v.thread == u) true (is_blocked u (ws ++ w ∷ [])) e.0 ∙ not_blocked_more u ws w (sym (cond_false (v.thread == u) true (is_blocked u ws) e.0) ∙ h) n)
    (equal_or v.thread u)

pub once_more : (ws : List (Waiting V)) (w : Waiting V) → is_blocked w.thread ws ≡ false → Once ws → Once (ws ++ w ∷ [])
once_more [] w b h = (refl, tt)
once_more (v ∷ ws) w b h =
    ⊎_elim
    (λ e. let c : true ≡ false = sym (cond_true (v.thread == w.thread) true (is_blocked w.thread ws) e.0) ∙ b in absurd (cc c))
    (λ e. (not_blocked_more v.thread ws w h.0 (λ k. e.1 (sym k)), once_more ws w (sym (cond_false (v.thread == w.thread) true (is_blocked w.thread ws) e.0) ∙ b) h.1))
    (equal_or v.thread w.thread)

-- ---- those who wait so
abbrev pub Absent_in : ℕ → List ℕ → Type 0
Absent_in u [] = Unit {0}
Absent_in u (v ∷ vs) = (v ≢ u) × Absent_in u vs

abbrev pub Distinct : List ℕ → Type 0
Distinct [] = Unit {0}
Distinct (u ∷ us) = Absent_in u us × Distinct us

abbrev pub Ones : (ℕ → Type 0) → List ℕ → Type 0
Ones P [] = Unit {0}
Ones P (u ∷ us) = P u × Ones P us

pub ones_apart : (P Q : ℕ → Type 0) (t : ℕ) (us : List ℕ) → ((u : ℕ) → u ≢ t → P u → Q u) → Absent_in t us → Ones P us → Ones Q us
ones_apart P Q t [] f a h = tt
ones_apart P Q t (u ∷ us) f a h = (f u a.0 h.0, ones_apart P Q t us f a.1 h.1)

pub absent_those : (p : ℕ → Reason V → Bool) (u : ℕ) (ws : List (Waiting V)) → is_blocked u ws ≡ false → Absent_in u (those p ws)
absent_those p u [] h = tt
absent_those p u (w ∷ ws) h =
    ⊎_elim
    (λ e. let b : true ≡ false = sym (cond_true (w.thread == u) true (is_blocked u ws) e.0) ∙ h in absurd (cc b))
    (λ e.
    let rest = absent_those p u ws (sym (cond_false (w.thread == u) true (is_blocked u ws) e.0) ∙ h) in
    cond_cases (Absent_in u) (p w.thread w.reason) (w.thread ∷ those p ws) (those p ws) (λ a. (e.1, rest)) (λ a. rest))
    (equal_or w.thread u)

pub distinct_those : (p : ℕ → Reason V → Bool) (ws : List (Waiting V)) → Once ws → Distinct (those p ws)
distinct_those p [] h = tt
distinct_those p (w ∷ ws) h =
    cond_cases Distinct (p w.thread w.reason) (w.thread ∷ those p ws) (those p ws) (λ a. (absent_those p w.thread ws h.0, distinct_those p ws h.1)) (λ a. distinct_those p ws h.1)

pub ones_those : (P : ℕ → Reason V → Type 0) (Q : ℕ → Type 0) (p : ℕ → Reason V → Bool) (ws : List (Waiting V)) → ((u : ℕ) (r : Reason V) → P u r → Q u) → Each P ws → Ones Q (those p ws)
ones_those P Q p [] f h = tt
ones_those P Q p (w ∷ ws) f h =
    cond_cases (Ones Q) (p w.thread w.reason) (w.thread ∷ those p ws) (those p ws) (λ a. (f w.thread w.reason h.0, ones_those P Q p ws f h.1)) (λ a. ones_those P Q p ws f h.1)

pub ones_those_if : (P : ℕ → Reason V → Type 0) (Q : ℕ → Type 0) (p : ℕ → Reason V → Bool) (ws : List (Waiting V)) → ((u : ℕ) (r : Reason V) → p u r ≡ true → P u r → Q u) → Each P ws → Ones Q (those p ws)
ones_those_if P Q p [] f h = tt
ones_those_if P Q p (w ∷ ws) f h =
    cond_cases (Ones Q) (p w.thread w.reason) (w.thread ∷ those p ws) (those p ws) (λ a. (f w.thread w.reason a h.0, ones_those_if P Q p ws f h.1)) (λ a. ones_those_if P Q p ws f h.1)

pub some_item : {A : Type 0} (xs : List A) (k : ℕ) → k < length xs → (x : A) × (slice_get xs k ≡ Some x)
some_item [] k h = absurd (omega arith)
some_item (x ∷ xs) zero h = (x, refl)
some_item (x ∷ xs) (suc k) h = some_item xs k (omega arith)

pub item_below : {A : Type 0} (xs : List A) (k : ℕ) (x : A) → slice_get xs k ≡ Some x → k < length xs
item_below [] k x h = absurd (cc h)
item_below (z ∷ xs) zero x h = omega arith
item_below (z ∷ xs) (suc k) x h = let i = item_below xs k x h in omega arith

-- each waits for the reason that is found
pub once_reason : (ws : List (Waiting V)) → Once ws → Each (λ u r. reason_of u ws ≡ Some r) ws
once_reason [] o = tt
once_reason (w ∷ ws) o = (
  ⊎_elim (λ e. cond_true (w.thread == w.thread) (Some w.reason) (reason_of w.thread ws) e.0) (λ e. absurd (e.1 refl)) (equal_or w.thread w.thread),
  each_apart (λ u r. reason_of u ws ≡ Some r) (λ u r. reason_of u (w ∷ ws) ≡ Some r) w.thread ws
      (λ u r n h. cond_false (w.thread == u) (Some w.reason) (reason_of u ws) (⊎_elim (λ f. absurd (n (sym f.1))) (λ f. f.0) (equal_or w.thread u)) ∙ h)
      o.0 (once_reason ws o.1),
)

-- ---- lists of numbers, longer at the end
pub ones_both : (P : ℕ → Type 0) (us vs : List ℕ) → Ones P us → Ones P vs → Ones P (us ++ vs)
ones_both P [] vs h g = g
ones_both P (u ∷ us) vs h g = (h.0, ones_both P us vs h.1 g)

pub ones_changed : (P Q : ℕ → Type 0) (us : List ℕ) → ((u : ℕ) → P u → Q u) → Ones P us → Ones Q us
ones_changed P Q [] f h = tt
ones_changed P Q (u ∷ us) f h = (f u h.0, ones_changed P Q us f h.1)

pub absent_both : (t : ℕ) (us vs : List ℕ) → Absent_in t us → Absent_in t vs → Absent_in t (us ++ vs)
absent_both t [] vs h g = g
absent_both t (u ∷ us) vs h g = (h.0, absent_both t us vs h.1 g)

-- a number other than all of these stands behind them
pub distinct_last : (t : ℕ) (us : List ℕ) → Distinct us → Absent_in t us → Distinct (us ++ t ∷ [])
distinct_last t [] d a = (tt, tt)
distinct_last t (u ∷ us) d a = (absent_both u us (t ∷ []) d.0 ((λ e. a.0 (sym e)), tt), distinct_last t us d.1 a.1)

pub absent_above : (n t : ℕ) (us : List ℕ) → n < suc t → Ones (λ u. u < n) us → Absent_in t us
absent_above n t [] le h = tt
absent_above n t (u ∷ us) le h = ((λ e. absurd (omega (arith, e, h.0))), absent_above n t us le h.1)

-- a number stands in a list
abbrev pub StandsIn : ℕ → List ℕ → Type 0
StandsIn t [] = ⊥
StandsIn t (u ∷ us) = (u ≡ t) ⊎ StandsIn t us

pub stands_before : (t : ℕ) (us vs : List ℕ) → StandsIn t us → StandsIn t (us ++ vs)
stands_before t [] vs h = absurd h
stands_before t (u ∷ us) vs (inl e) = inl e
stands_before t (u ∷ us) vs (inr h) = inr (stands_before t us vs h)

pub stands_behind : (t : ℕ) (us vs : List ℕ) → StandsIn t vs → StandsIn t (us ++ vs)
stands_behind t [] vs h = h
stands_behind t (u ∷ us) vs h = inr (stands_behind t us vs h)
