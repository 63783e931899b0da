-- The lines of cells and the list of all that are blocked: who leaves, in which order, and what stays of exceptions in flight
-- and sleepers.
use Rattle.std.proofs.Common.{◌≡◌, ◌≢◌, ℕ, zero, suc, ◌==◌, Bool, true, false, List, [], ◌∷◌, ◌++◌, slice_get, slice_set, Option, Some, None, refl, sym, ap, ◌∙◌, subst, arith, ⊎_elim, append-nil}
use Rattle.rules_meaning.specs.Values.{V}
use Rattle.rules_waiting.specs.OneCell.{Want, Place, Cell, Leave, Reply, cell_of, leaves_line, stands_in, put_of, takes_it, reads_it, first_put, first_take, readers, shown, call}
use Rattle.rules_waiting.specs.Waiting.{Reason, Throwing, Sleeping, Waiting, blocks, leaves, is_blocked, reason_of, want_at, with_place, line_of, at_cell, flight_of, withdrawn, sleepers_of, sorted_sleepers, still_asleep}
use Rattle.hs_laws.specs.Standing.{Once}
use Rattle.hs_laws.proofs.Lists.{cond_cases, cond_true, cond_false, equal_or, Ones, ones_changed}
use Rattle.hs_laws.proofs.Stranding.{reason_blocked}
use Rattle.hs_laws.proofs.CellSteps.{leaves_absent}
use Rattle.exn_flight.proofs.OneList.{flight_blocks, flight_leaves, sleepers_block, sleepers_leave}
use Rattle.exn_flight.proofs.SortedLeaving.{leaves_in_order}
use Rattle.slot_states.specs.SlotStates.{cell_at, left_lines}
use Rattle.slot_states.specs.Resting.{NotThrowing, NotAsleep}
use Rattle.slot_states.proofs.Leaving.{Silent, Awake, no_flying, no_sleeper, cell_waits, flight_stays, sleepers_stay}

-- ---- threads leave in either order

gone : (t : ℕ) (w : Waiting V) (ws : List (Waiting V)) → w.thread == t ≡ true → leaves t (w ∷ ws) ≡ leaves t ws
gone t w ws e = cond_true (w.thread == t) (leaves t ws) (w ∷ leaves t ws) e

kept : (t : ℕ) (w : Waiting V) (ws : List (Waiting V)) → w.thread == t ≡ false → leaves t (w ∷ ws) ≡ w ∷ leaves t ws
kept t w ws e = cond_false (w.thread == t) (leaves t ws) (w ∷ leaves t ws) e

swap_one : (t u : ℕ) (w : Waiting V) (ws : List (Waiting V)) → leaves t (leaves u ws) ≡ leaves u (leaves t ws) → (a b : Bool) → w.thread == t ≡ a → w.thread == u ≡ b → leaves t (leaves u (w ∷ ws)) ≡ leaves u (leaves t (w ∷ ws))
swap_one t u w ws h true true p q = ap (leaves t) (gone u w ws q) ∙ (h ∙ sym (ap (leaves u) (gone t w ws p)))
swap_one t u w ws h true false p q = ap (leaves t) (kept u w ws q) ∙ (gone t w (leaves u ws) p ∙ (h ∙ sym (ap (leaves u) (gone t w ws p))))
swap_one t u w ws h false true p q = ap (leaves t) (gone u w ws q) ∙ (h ∙ sym (ap (leaves u) (kept t w ws p) ∙ gone u w (leaves t ws) q))
swap_one t u w ws h false false p q = ap (leaves t) (kept u w ws q) ∙ (kept t w (leaves u ws) p ∙ (ap (λ vs. w ∷ vs) h ∙ sym (ap (leaves u) (kept t w ws p) ∙ kept u w (leaves t ws) q)))

pub leaves_swap : (t u : ℕ) (ws : List (Waiting V)) → leaves t (leaves u ws) ≡ leaves u (leaves t ws)
leaves_swap t u [] = refl
leaves_swap t u (w ∷ ws) = swap_one t u w ws (leaves_swap t u ws) (w.thread == t) (w.thread == u) refl refl

-- ---- those who are answered leave

abbrev pub left_by : List (Reply V) → List (Waiting V) → List (Waiting V)
left_by [] ws = ws
left_by (r ∷ rs) ws = left_by rs (leaves r.thread ws)

abbrev pub EachReply : (ℕ → Type 0) → List (Reply V) → Type 0
EachReply P [] = Unit {0}
EachReply P (r ∷ rs) = P r.thread × EachReply P rs

pub left_both : (rs qs : List (Reply V)) (ws : List (Waiting V)) → left_by (rs ++ qs) ws ≡ left_by qs (left_by rs ws)
left_both [] qs ws = refl
left_both (r ∷ rs) qs ws = left_both rs qs (leaves r.thread ws)

pub left_swap : (t : ℕ) (rs : List (Reply V)) (ws : List (Waiting V)) → left_by rs (leaves t ws) ≡ leaves t (left_by rs ws)
left_swap t [] ws = refl
left_swap t (r ∷ rs) ws = ap (left_by rs) (leaves_swap r.thread t ws) ∙ left_swap t rs (leaves r.thread ws)

pub each_both : (P : ℕ → Type 0) (rs qs : List (Reply V)) → EachReply P rs → EachReply P qs → EachReply P (rs ++ qs)
each_both P [] qs h g = g
each_both P (r ∷ rs) qs h g = (h.0, each_both P rs qs h.1 g)

pub each_shown : (P : ℕ → Type 0) (v : V) (ts : List ℕ) → Ones P ts → EachReply P (shown v ts)
each_shown P v [] h = tt
each_shown P v (t ∷ ts) h = (h.0, each_shown P v ts h.1)

-- ---- who waits at a cell throws nothing and doesn't sleep

-- exceptions in flight and sleepers stay where this thread leaves
abbrev pub Quiet : List (Waiting V) → ℕ → Type 0
Quiet ws t = (flight_of (leaves t ws) ≡ flight_of ws) × (sleepers_of (leaves t ws) ≡ sleepers_of ws)

pub free_quiet : (t : ℕ) (ws : List (Waiting V)) → is_blocked t ws ≡ false → Quiet ws t
free_quiet t ws b = (ap flight_of (leaves_absent t ws b), ap sleepers_of (leaves_absent t ws b))

pub cell_quiet : (t : ℕ) (r : Reason V) (ws : List (Waiting V)) → Once ws → reason_of t ws ≡ Some r → at_cell r ≡ true → Quiet ws t
cell_quiet t r ws o e a = let k = cell_waits r a in (flight_stays t ws o (subst Silent (sym e) k.0), sleepers_stay t ws o (subst Awake (sym e) k.1))

-- also after another has left
flight_left : (t u : ℕ) (ws : List (Waiting V)) → flight_of (leaves t ws) ≡ flight_of ws → flight_of (leaves t (leaves u ws)) ≡ flight_of (leaves u ws)
flight_left t u ws q = ap flight_of (leaves_swap t u ws) ∙ (flight_leaves u (leaves t ws) ∙ (ap (withdrawn u) q ∙ sym (flight_leaves u ws)))

sleepers_left : (t u : ℕ) (ws : List (Waiting V)) → sleepers_of (leaves t ws) ≡ sleepers_of ws → sleepers_of (leaves t (leaves u ws)) ≡ sleepers_of (leaves u ws)
sleepers_left t u ws q = ap sleepers_of (leaves_swap t u ws) ∙ (sleepers_leave u (leaves t ws) ∙ (ap (still_asleep u) q ∙ sym (sleepers_leave u ws)))

each_left : (u : ℕ) (rs : List (Reply V)) (ws : List (Waiting V)) → EachReply (Quiet ws) rs → EachReply (Quiet (leaves u ws)) rs
each_left u [] ws h = tt
each_left u (r ∷ rs) ws h = ((flight_left r.thread u ws h.0.0, sleepers_left r.thread u ws h.0.1), each_left u rs ws h.1)

pub all_quiet : (rs : List (Reply V)) (ws : List (Waiting V)) → EachReply (Quiet ws) rs → (flight_of (left_by rs ws) ≡ flight_of ws) × (sleepers_of (left_by rs ws) ≡ sleepers_of ws)
all_quiet [] ws h = (refl, refl)
all_quiet (r ∷ rs) ws h = let k = all_quiet rs (leaves r.thread ws) (each_left r.thread rs ws h.1) in (k.0 ∙ h.0.0, k.1 ∙ h.0.1)

-- who blocks at a cell is no thrower and no sleeper
pub block_quiet : (t : ℕ) (r : Reason V) (ws : List (Waiting V)) → at_cell r ≡ true → (flight_of (blocks t r ws) ≡ flight_of ws) × (sleepers_of (blocks t r ws) ≡ sleepers_of ws)
block_quiet t r ws a = (
  flight_blocks t r ws ∙ (ap (λ fs. flight_of ws ++ fs) (no_flying t r [] (cell_waits r a).0) ∙ append-nil (flight_of ws)),
  sleepers_block t r ws ∙ (ap (λ ss. sleepers_of ws ++ ss) (no_sleeper t r [] (cell_waits r a).1) ∙ append-nil (sleepers_of ws)),
)

pub not_throwing : (t : ℕ) (ws : List (Waiting V)) → flight_of (leaves t ws) ≡ flight_of ws → NotThrowing t (flight_of ws)
not_throwing t ws q = (
  sym (flight_leaves t ws) ∙ q,
  λ w. ap (withdrawn t) (sym (flight_leaves w ws)) ∙ (sym (flight_leaves t (leaves w ws)) ∙ (flight_left t w ws q ∙ flight_leaves w ws)),
)

pub not_asleep : (t : ℕ) (ws : List (Waiting V)) → sleepers_of (leaves t ws) ≡ sleepers_of ws → NotAsleep t (sorted_sleepers (sleepers_of ws))
not_asleep t ws q = sym (leaves_in_order t ws) ∙ ap sorted_sleepers q

-- ---- who stands in a line

pub want_cell : (m : ℕ) (r : Reason V) (w : Want V) → want_at m r ≡ Some w → at_cell r ≡ true
want_cell m (Throwing u x) w e = absurd (cc e)
want_cell m (Sleeping due) w e = absurd (cc e)
want_cell m _ w e = refl

stands_more : (t u : ℕ) (o : Option (Want V)) (ps : List (Place V)) → stands_in u ps ≡ true → stands_in u (with_place t o ps) ≡ true
stands_more t u None ps h = h
stands_more t u (Some w) ps h = cond_cases (λ b. b ≡ true) (t == u) true (stands_in u ps) (λ e. refl) (λ e. h)

-- who stands in the line of a cell is blocked there
pub record Waits (m u : ℕ) (ws : List (Waiting V)) : Type 0 where
  pub reason : Reason V
  pub is : reason_of u ws ≡ Some reason
  pub want : Want V
  pub wants : want_at m reason ≡ Some want

pub stands_waits : (m u : ℕ) (ws : List (Waiting V)) → Once ws → stands_in u (line_of m ws) ≡ true → Waits m u ws
stands_waits m u [] o h = absurd (cc h)
stands_waits m u (w ∷ ws) o h = by (stands_waits m u ws o.1) (want_at m w.reason) refl h
  where
    later : Waits m u ws → Waits m u (w ∷ ws)
    later k =
        let blocked : is_blocked u ws ≡ true = reason_blocked u ws k.reason k.is in
        let other : w.thread == u ≡ false = ⊎_elim (λ e. let z : true ≡ false = sym blocked ∙ subst (λ v. is_blocked v ws ≡ false) e.1 o.0 in absurd (cc z)) (λ e. e.0) (equal_or w.thread u) in
        record { reason = k.reason; is = cond_false (w.thread == u) (Some w.reason) (reason_of u ws) other ∙ k.is; want = k.want; wants = k.wants }

    by : (stands_in u (line_of m ws) ≡ true → Waits m u ws) → (a : Option (Want V)) → want_at m w.reason ≡ a → stands_in u (with_place w.thread a (line_of m ws)) ≡ true → Waits m u (w ∷ ws)
    by f None q g = later (f g)
    by f (Some a) q g =
        ⊎_elim
        (λ e. record { reason = w.reason; is = cond_true (w.thread == u) (Some w.reason) (reason_of u ws) e.0; want = a; wants = q })
        (λ e. later (f (sym (cond_false (w.thread == u) true (stands_in u (line_of m ws)) e.0) ∙ g)))
        (equal_or w.thread u)

pub waits_stands : (m u : ℕ) (r : Reason V) (a : Want V) (ws : List (Waiting V)) → reason_of u ws ≡ Some r → want_at m r ≡ Some a → stands_in u (line_of m ws) ≡ true
waits_stands m u r a [] e q = absurd (cc e)
waits_stands m u r a (w ∷ ws) e q =
    ⊎_elim
    (λ f.
    let same : w.reason ≡ r = let z : Some w.reason ≡ Some r = sym (cond_true (w.thread == u) (Some w.reason) (reason_of u ws) f.0) ∙ e in cc z in
    ap (λ o. stands_in u (with_place w.thread o (line_of m ws))) (ap (want_at m) same ∙ q) ∙ cond_true (w.thread == u) true (stands_in u (line_of m ws)) f.0)
    (λ f. stands_more w.thread u (want_at m w.reason) (line_of m ws) (waits_stands m u r a ws (sym (cond_false (w.thread == u) (Some w.reason) (reason_of u ws) f.0) ∙ e) q))
    (equal_or w.thread u)

-- who isn't blocked stands in no line
free_placed : (t u : ℕ) (o : Option (Want V)) (ps : List (Place V)) → t == u ≡ false → stands_in u ps ≡ false → stands_in u (with_place t o ps) ≡ false
free_placed t u None ps n h = h
free_placed t u (Some w) ps n h = cond_false (t == u) true (stands_in u ps) n ∙ h

pub free_stands : (m u : ℕ) (ws : List (Waiting V)) → is_blocked u ws ≡ false → stands_in u (line_of m ws) ≡ false
free_stands m u [] h = refl
free_stands m u (w ∷ ws) h =
    ⊎_elim
    (λ e. let z : true ≡ false = sym (cond_true (w.thread == u) true (is_blocked u ws) e.0) ∙ h in absurd (cc z))
    (λ e. free_placed w.thread u (want_at m w.reason) (line_of m ws) e.0 (free_stands m u ws (sym (cond_false (w.thread == u) true (is_blocked u ws) e.0) ∙ h)))
    (equal_or w.thread u)

pub stands_quiet : (m u : ℕ) (ws : List (Waiting V)) → Once ws → stands_in u (line_of m ws) ≡ true → Quiet ws u
stands_quiet m u ws o h = let k = stands_waits m u ws o h in cell_quiet u k.reason ws o k.is (want_cell m k.reason k.want k.wants)

-- ---- whom a cell serves stands in its line

pub put_stands : (ps : List (Place V)) (w : ℕ × V) → first_put ps ≡ Some w → stands_in w.0 ps ≡ true
put_stands [] w e = absurd (cc e)
put_stands (p ∷ ps) w e = by (put_stands ps w) (put_of p.want) refl
  where
    by : (first_put ps ≡ Some w → stands_in w.0 ps ≡ true) → (o : Option V) → put_of p.want ≡ o → stands_in w.0 (p ∷ ps) ≡ true
    by h None q =
        let rest : first_put ps ≡ Some w = sym (ap (λ o. elim o [ None ↦ first_put ps | Some v ↦ Some (p.thread, v) ]) q) ∙ e in
        cond_cases (λ b. b ≡ true) (p.thread == w.0) true (stands_in w.0 ps) (λ f. refl) (λ f. h rest)
    by h (Some v) q =
        let z : Some (p.thread, v) ≡ Some w = sym (ap (λ o. elim o [ None ↦ first_put ps | Some v ↦ Some (p.thread, v) ]) q) ∙ e in
        let same : p.thread ≡ w.0 = let y : (p.thread, v) ≡ w = cc z in ap (λ (x : ℕ × V). x.0) y in
        ⊎_elim (λ f. cond_true (p.thread == w.0) true (stands_in w.0 ps) f.0) (λ f. absurd (f.1 same)) (equal_or p.thread w.0)

pub take_stands : (ps : List (Place V)) (u : ℕ) → first_take ps ≡ Some u → stands_in u ps ≡ true
take_stands [] u e = absurd (cc e)
take_stands (p ∷ ps) u e = by (take_stands ps u) (takes_it p.want) refl
  where
    by : (first_take ps ≡ Some u → stands_in u ps ≡ true) → (b : Bool) → takes_it p.want ≡ b → stands_in u (p ∷ ps) ≡ true
    by h false q =
        let rest : first_take ps ≡ Some u = sym (cond_false (takes_it p.want) (Some p.thread) (first_take ps) q) ∙ e in
        cond_cases (λ b. b ≡ true) (p.thread == u) true (stands_in u ps) (λ f. refl) (λ f. h rest)
    by h true q =
        let z : Some p.thread ≡ Some u = sym (cond_true (takes_it p.want) (Some p.thread) (first_take ps) q) ∙ e in
        let same : p.thread ≡ u = cc z in
        ⊎_elim (λ f. cond_true (p.thread == u) true (stands_in u ps) f.0) (λ f. absurd (f.1 same)) (equal_or p.thread u)

pub own_stands : (p : Place V) (ps : List (Place V)) → stands_in p.thread (p ∷ ps) ≡ true
own_stands p ps = ⊎_elim (λ f. cond_true (p.thread == p.thread) true (stands_in p.thread ps) f.0) (λ f. absurd (f.1 refl)) (equal_or p.thread p.thread)

pub readers_stand : (ps : List (Place V)) → Ones (λ u. stands_in u ps ≡ true) (readers ps)
readers_stand [] = tt
readers_stand (p ∷ ps) =
    let rest : Ones (λ u. stands_in u (p ∷ ps) ≡ true) (readers ps) =
    ones_changed (λ u. stands_in u ps ≡ true) (λ u. stands_in u (p ∷ ps) ≡ true) (readers ps) (λ u h. cond_cases (λ b. b ≡ true) (p.thread == u) true (stands_in u ps) (λ f. refl) (λ f. h)) (readers_stand ps) in
    cond_cases (Ones (λ u. stands_in u (p ∷ ps) ≡ true)) (reads_it p.want) (p.thread ∷ readers ps) (readers ps) (λ q. (own_stands p ps, rest)) (λ q. rest)

-- ---- a thread leaves all lines

pub lines_same : (t : ℕ) (cs : List (Cell V)) → ((k : ℕ) (c : Cell V) → slice_get cs k ≡ Some c → leaves_line t c.line ≡ c.line) → left_lines t cs ≡ cs
lines_same t [] h = refl
lines_same t (c ∷ cs) h = ap (λ ps. cell_of c.content ps ∷ left_lines t cs) (h zero c refl) ∙ ap (λ ds. c ∷ ds) (lines_same t cs (λ k d e. h (suc k) d e))

-- it stood in one alone
pub one_left : (t m : ℕ) (cs : List (Cell V)) → ((k : ℕ) (c : Cell V) → k ≢ m → slice_get cs k ≡ Some c → leaves_line t c.line ≡ c.line) → left_lines t cs ≡ slice_set cs m (call (Leave t) (cell_at m cs)).cell
one_left t m [] h = refl
one_left t zero (c ∷ cs) h = ap (λ ds. cell_of c.content (leaves_line t c.line) ∷ ds) (lines_same t cs (λ k d e. h (suc k) d (λ q. absurd (omega (arith, q))) e))
one_left t (suc m) (c ∷ cs) h =
    ap (λ ps. cell_of c.content ps ∷ left_lines t cs) (h zero c (λ q. absurd (omega (arith, q))) refl)
    ∙ ap (λ ds. c ∷ ds) (one_left t m cs (λ k d n e. h (suc k) d (λ q. n (omega (arith, q))) e))
