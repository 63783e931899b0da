-- A cell within a state does what the cell alone does.
use Rattle.std.proofs.Common.{◌≡◌, ◌≢◌, ℕ, zero, suc, ◌==◌, List, [], ◌∷◌, ◌++◌, slice_get, slice_set, Bool, true, false, cond, Option, Some, None, refl, sym, ap, ◌∙◌, subst, ◌⊎◌, inl, inr, ⊎_elim}
use Rattle.std.proofs.Common.{append-nil}
use Rattle.rules_meaning.specs.Values.{V, UnitValue, Truth, Nothing, Just}
use Rattle.hs_rules.specs.Terms.{Part, Ret, Term, term}
use Rattle.rules_waiting.specs.Waiting.{want_at, with_place, Reason, Taking, Reading, Putting, Waiting, leaves, is_blocked, reason_of, line_of}
use Rattle.hs_rules.specs.State.{Thread, State, with_term, frames_of, resume, answer, resume_all, block}
use Rattle.hs_rules.specs.Primitives.{moves_in, taken, goes_in, goes_on, read_by_all, given, take, read, put, try_take, try_put}
use Rattle.rules_waiting.specs.OneCell as one
use Rattle.rules_waiting.specs.OneCell.{Want, To_take, To_read, To_put, Place, Take, Read, Put, Try_take, Try_put, Answer, Took, Saw, Gave, Tried_take, Tried_put, Reply, After, cell_of, reply_of, after_of, leaves_line, joins_line, first_put, first_take, readers, leave_line, shown, comes_on, comes_in, call}
use Rattle.hs_laws.proofs.cases_lemmas.Lines.{free_stays, kept_place, line_left}
pub use Rattle.hs_laws.proofs.cases_lemmas.Lines.{all_left as all_line}
use Rattle.hs_laws.specs.CellLaw.{told, answered, replied}
use Rattle.hs_laws.specs.Standing.{Once}
use Rattle.hs_laws.proofs.Lists.{cond_cases, cond_true, cond_false, equal_or, item_same, item_other, Found, first_found, once_left, once_more, Absent_in, Distinct, Ones, ones_apart, absent_those, distinct_those, ones_those_if, first_of_kind, those, takes, puts, reads_at, readers_are, only_thread, put_is_first, take_is_first, once_reason}
use Rattle.hs_laws.proofs.States.{other_thread}

-- ---- the line of a cell within all that wait
pub line_leaves : (m t : ℕ) (ws : List (Waiting V)) → line_of m (leaves t ws) ≡ leaves_line t (line_of m ws)
line_leaves = line_left

append_placed : (u : ℕ) (o : Option (Want V)) (ps qs : List (Place V)) → with_place u o (ps ++ qs) ≡ with_place u o ps ++ qs
append_placed u None ps qs = refl
append_placed u (Some w) ps qs = refl

pub line_more : (m : ℕ) (ws : List (Waiting V)) (w : Waiting V) → line_of m (ws ++ w ∷ []) ≡ line_of m ws ++ with_place w.thread (want_at m w.reason) []
line_more m [] w = refl
line_more m (v ∷ ws) w = ap (with_place v.thread (want_at m v.reason)) (line_more m ws w) ∙ append_placed v.thread (want_at m v.reason) (line_of m ws) (with_place w.thread (want_at m w.reason) [])

pub not_blocked_line : (m t : ℕ) (ws : List (Waiting V)) → is_blocked t ws ≡ false → leaves_line t (line_of m ws) ≡ line_of m ws
not_blocked_line m t [] h = refl
not_blocked_line m t (w ∷ ws) h =
    ⊎_elim
    (λ e. let b : true ≡ false = sym (cond_true (w.thread == t) true (is_blocked t ws) e.0) ∙ h in absurd (cc b))
    (λ e. sym (kept_place t w.thread (want_at m w.reason) (line_of m ws) e.0) ∙ ap (with_place w.thread (want_at m w.reason)) (not_blocked_line m t ws (sym (cond_false (w.thread == t) true (is_blocked t ws) e.0) ∙ h)))
    (equal_or w.thread t)

-- ---- why the others wait
pub reason_left : (t u : ℕ) (ws : List (Waiting V)) → u ≢ t → reason_of u (leaves t ws) ≡ reason_of u ws
reason_left t u [] n = refl
reason_left t u (w ∷ ws) n =
    ⊎_elim
    (λ e. ap (reason_of u) (cond_true (w.thread == t) (leaves t ws) (w ∷ leaves t ws) e.0) ∙ (reason_left t u ws n ∙ sym (cond_false (w.thread == u) (Some w.reason) (reason_of u ws) (⊎_elim (λ f. absurd (n (sym f.1 ∙ e.1))) (λ f. f.0) (equal_or w.thread u)))))
    (λ e. ap (reason_of u) (cond_false (w.thread == t) (leaves t ws) (w ∷ leaves t ws) e.0) ∙ ap (cond (w.thread == u) (Some w.reason)) (reason_left t u ws n))
    (equal_or w.thread t)

pub not_blocked_reason : (t : ℕ) (ws : List (Waiting V)) → is_blocked t ws ≡ false → reason_of t ws ≡ None
not_blocked_reason t [] h = refl
not_blocked_reason t (w ∷ ws) h =
    ⊎_elim
    (λ e. let b : true ≡ false = sym (cond_true (w.thread == t) true (is_blocked t ws) e.0) ∙ h in absurd (cc b))
    (λ e. cond_false (w.thread == t) (Some w.reason) (reason_of t ws) e.0 ∙ not_blocked_reason t ws (sym (cond_false (w.thread == t) true (is_blocked t ws) e.0) ∙ h))
    (equal_or w.thread t)

-- who waits in a line is blocked
taker_placed : (t u : ℕ) (o : Option (Want V)) (ps : List (Place V)) → first_take (with_place t o ps) ≡ Some u → (t ≡ u) ⊎ (first_take ps ≡ Some u)
taker_placed t u (Some To_take) ps e = let same : t ≡ u = cc e in inl same
taker_placed t u _ ps e = inr e

taker_blocked : (m u : ℕ) (ws : List (Waiting V)) → first_take (line_of m ws) ≡ Some u → is_blocked u ws ≡ true
taker_blocked m u [] e = absurd (cc e)
taker_blocked m u (w ∷ ws) e =
    ⊎_elim
    (λ q. ⊎_elim (λ f. cond_true (w.thread == u) true (is_blocked u ws) f.0) (λ f. absurd (f.1 q)) (equal_or w.thread u))
    (λ q. cond_cases (λ b. b ≡ true) (w.thread == u) true (is_blocked u ws) (λ f. refl) (λ f. taker_blocked m u ws q))
    (taker_placed w.thread u (want_at m w.reason) (line_of m ws) e)

apart_taker : (m t u : ℕ) (ws : List (Waiting V)) → is_blocked t ws ≡ false → first_take (line_of m ws) ≡ Some u → t ≢ u
apart_taker m t u ws b e same = let x : true ≡ false = sym (taker_blocked m u ws e) ∙ (ap (λ k. is_blocked k ws) (sym same) ∙ b) in cc x

-- ---- who leaves and isn't of a kind changes nothing for the first of that kind
pub leaves_absent : (t : ℕ) (ws : List (Waiting V)) → is_blocked t ws ≡ false → leaves t ws ≡ ws
leaves_absent = free_stays

module _ {A : Type 0} (f : Reason V → Option A) where
  abbrev Unlike : Option (Reason V) → Type 0
  Unlike None = Unit {0}
  Unlike (Some r) = f r ≡ None

  abbrev first_from : Option A → ℕ → Option (ℕ × A) → Option (ℕ × A)
  first_from o t rest = elim o [ None ↦ rest | Some a ↦ Some (t, a) ]

  kind_left : (t : ℕ) (ws : List (Waiting V)) → Once ws → Unlike (reason_of t ws) → first_of_kind f (leaves t ws) ≡ first_of_kind f ws
  kind_left t [] o h = refl
  kind_left t (w ∷ ws) o h =
      ⊎_elim
      (λ e.
      let a : f w.reason ≡ None = subst Unlike (cond_true (w.thread == t) (Some w.reason) (reason_of t ws) e.0) h in
      let b : is_blocked t ws ≡ false = subst (λ u. is_blocked u ws ≡ false) e.1 o.0 in
      ap (first_of_kind f) (cond_true (w.thread == t) (leaves t ws) (w ∷ leaves t ws) e.0)
      ∙ (ap (first_of_kind f) (leaves_absent t ws b) ∙ ap (λ q. first_from q w.thread (first_of_kind f ws)) (sym a)))
      (λ e.
      ap (first_of_kind f) (cond_false (w.thread == t) (leaves t ws) (w ∷ leaves t ws) e.0)
      ∙ ap (first_from (f w.reason) w.thread) (kind_left t ws o.1 (subst Unlike (cond_false (w.thread == t) (Some w.reason) (reason_of t ws) e.0) h)))
      (equal_or w.thread t)

  all_left : (ts : List ℕ) (p : Part) (u : State) → Once u.blocked → Distinct ts → Ones (λ t. Unlike (reason_of t u.blocked)) ts → first_of_kind f (resume_all ts p u).blocked ≡ first_of_kind f u.blocked
  all_left [] p u o d h = refl
  all_left (t ∷ ts) p u o d h =
      all_left ts p (resume t p u) (once_left t u.blocked o) d.1
      (ones_apart (λ v. Unlike (reason_of v u.blocked)) (λ v. Unlike (reason_of v (leaves t u.blocked))) t ts (λ v n k. subst Unlike (sym (reason_left t v u.blocked n)) k) d.0 h.1)
      ∙ kind_left t u.blocked o h.0

reader_takes_not : (m : ℕ) (r : Reason V) → reads_at m r ≡ true → takes m r ≡ None
reader_takes_not m (Taking k) e = absurd (cc e)
reader_takes_not m _ e = refl

-- after all that read a cell were answered, the same thread is the first that takes
pub same_taker : (m : ℕ) (v : V) (u : State) → Once u.blocked → first_take (line_of m (read_by_all m v u).blocked) ≡ first_take (line_of m u.blocked)
same_taker m v u o =
    let ts = those (λ t. reads_at m) u.blocked in
    let one : first_of_kind (takes m) (resume_all ts (Ret v) u).blocked ≡ first_of_kind (takes m) u.blocked =
    all_left (takes m) ts (Ret v) u o (distinct_those (λ t. reads_at m) u.blocked o)
    (ones_those_if (λ t r. reason_of t u.blocked ≡ Some r) (λ t. Unlike (takes m) (reason_of t u.blocked)) (λ t. reads_at m) u.blocked (λ t r b e. subst (Unlike (takes m)) (sym e) (reader_takes_not m r b)) (once_reason u.blocked o)) in
    let two : first_of_kind (takes m) (read_by_all m v u).blocked ≡ first_of_kind (takes m) u.blocked = subst (λ us. first_of_kind (takes m) (resume_all us (Ret v) u).blocked ≡ first_of_kind (takes m) u.blocked) (sym (readers_are m u.blocked)) one in
    take_is_first m (read_by_all m v u).blocked ∙ (ap only_thread two ∙ sym (take_is_first m u.blocked))

-- ---- two threads are answered in either order
set_swap : {A : Type 0} (xs : List A) (t u : ℕ) (x y : A) → t ≢ u → slice_set (slice_set xs t x) u y ≡ slice_set (slice_set xs u y) t x
set_swap [] t u x y n = refl
set_swap (z ∷ xs) zero zero x y n = absurd (n refl)
set_swap (z ∷ xs) zero (suc u) x y n = refl
set_swap (z ∷ xs) (suc t) zero x y n = refl
set_swap (z ∷ xs) (suc t) (suc u) x y n = ap (λ ys. z ∷ ys) (set_swap xs t u x y (λ e. n (ap suc e)))

term_swap : (ths : List Thread) (t u : ℕ) (o p : Option Thread) (x y : Term) → t ≢ u → with_term u p y (with_term t o x ths) ≡ with_term t o x (with_term u p y ths)
term_swap ths t u None p x y n = refl
term_swap ths t u (Some th) None x y n = refl
term_swap ths t u (Some th) (Some ti) x y n = set_swap ths t u (record { term = x; finished = th.finished }) (record { term = y; finished = ti.finished }) n

answered_swap : (t u : ℕ) (a b : V) (ths : List Thread) → t ≢ u → answered u b (answered t a ths) ≡ answered t a (answered u b ths)
answered_swap t u a b ths n =
    ap (λ o. with_term u o (term (Ret b) (frames_of o)) (answered t a ths)) (other_thread ths t u (slice_get ths t) (term (Ret a) (frames_of (slice_get ths t))) (λ e. n (sym e)))
    ∙ (term_swap ths t u (slice_get ths t) (slice_get ths u) (term (Ret a) (frames_of (slice_get ths t))) (term (Ret b) (frames_of (slice_get ths u))) n
    ∙ ap (λ o. with_term t o (term (Ret a) (frames_of o)) (answered u b ths)) (sym (other_thread ths u t (slice_get ths u) (term (Ret b) (frames_of (slice_get ths u))) n)))

-- ---- an operation on a cell is the cell's call
-- the state after it shows the cell after it, and the threads that the cell answers are answered
pub record Follows (m : ℕ) (s u : State) (a : After V) : Type 0 where
  pub content : slice_get u.cells m ≡ Some a.cell.content
  pub line : line_of m u.blocked ≡ a.cell.line
  pub threads : u.threads ≡ replied m a.replies s.threads

replied_more : (m : ℕ) (rs : List (Reply V)) (r : Reply V) (ths : List Thread) → replied m (rs ++ r ∷ []) ths ≡ answered r.thread (told m r.answer) (replied m rs ths)
replied_more m [] r ths = refl
replied_more m (x ∷ rs) r ths = replied_more m rs r (answered x.thread (told m x.answer) ths)

reply_follows : (m : ℕ) (s u : State) (o : Option V) (ps : List (Place V)) (rs : List (Reply V)) (t : ℕ) (a : Answer V) → Follows m s u (after_of (cell_of o ps) rs) →
    Follows m s (answer t (told m a) u) (after_of (cell_of o (leaves_line t ps)) (rs ++ reply_of t a ∷ []))
reply_follows m s u o ps rs t a f = record {
  content = f.content;
  line = line_leaves m t u.blocked ∙ ap (leaves_line t) f.line;
  threads = ap (answered t (told m a)) f.threads ∙ sym (replied_more m rs (reply_of t a) s.threads);
}

set_follows : (m : ℕ) (s u : State) (o : Option V) (ps : List (Place V)) (rs : List (Reply V)) (p : Option V) → Follows m s u (after_of (cell_of o ps) rs) →
    Follows m s (record u { cells = slice_set u.cells m p }) (after_of (cell_of p ps) rs)
set_follows m s u o ps rs p f = record {
  content = item_same u.cells m o p f.content;
  line = f.line;
  threads = f.threads;
}

moves_follow : (m : ℕ) (s u : State) (o : Option V) (ps : List (Place V)) (rs : List (Reply V)) (w : Option (ℕ × V)) → Follows m s u (after_of (cell_of o ps) rs) →
    Follows m s (moves_in m w u) (one.moves_in w ps rs)
moves_follow m s u o ps rs None f = set_follows m s u o ps rs None f
moves_follow m s u o ps rs (Some w) f = reply_follows m s (record u { cells = slice_set u.cells m (Some w.1) }) (Some w.1) ps rs w.0 Gave (set_follows m s u o ps rs (Some w.1) f)

taken_follows : (m : ℕ) (s u : State) (o : Option V) (ps : List (Place V)) (rs : List (Reply V)) → Follows m s u (after_of (cell_of o ps) rs) → Follows m s (taken m u) (one.moves_in (first_put ps) ps rs)
taken_follows m s u o ps rs f = subst (λ w. Follows m s (taken m u) (one.moves_in w ps rs)) (ap first_put f.line) (moves_follow m s u o ps rs (first_put (line_of m u.blocked)) f)

replied_all : (m : ℕ) (rs qs : List (Reply V)) (ths : List Thread) → replied m (rs ++ qs) ths ≡ replied m qs (replied m rs ths)
replied_all m [] qs ths = refl
replied_all m (r ∷ rs) qs ths = replied_all m rs qs (answered r.thread (told m r.answer) ths)

goes_follow : (m t : ℕ) (s u : State) (ps : List (Place V)) (rs : List (Reply V)) (a : V) (x : Answer V) (w : Option ℕ) → ((v : ℕ) → w ≡ Some v → t ≢ v) → Follows m s u (after_of (cell_of None ps) (rs ++ reply_of t x ∷ [])) →
    Follows m s (goes_in m a w u) (comes_on a w ps rs (reply_of t x))
goes_follow m t s u ps rs a x None n f = set_follows m s u None ps (rs ++ reply_of t x ∷ []) (Some a) f
goes_follow m t s u ps rs a x (Some v) n f = record {
  content = f.content;
  line = line_leaves m v u.blocked ∙ ap (leaves_line v) f.line;
  threads = ap (answered v a) (f.threads ∙ replied_more m rs (reply_of t x) s.threads)
      ∙ (answered_swap t v (told m x) a (replied m rs s.threads) (n v refl) ∙ sym (replied_all m rs (reply_of v (Took a) ∷ reply_of t x ∷ []) s.threads));
}

-- ---- all that read are answered
pub all_cells : (ts : List ℕ) (p : Part) (u : State) → (resume_all ts p u).cells ≡ u.cells
all_cells [] p u = refl
all_cells (t ∷ ts) p u = all_cells ts p (resume t p u)

all_threads : (m : ℕ) (v : V) (ts : List ℕ) (u : State) → (resume_all ts (Ret v) u).threads ≡ replied m (shown v ts) u.threads
all_threads m v [] u = refl
all_threads m v (t ∷ ts) u = all_threads m v ts (answer t v u)

shown_swap : (m t : ℕ) (a v : V) (ts : List ℕ) (ths : List Thread) → Absent_in t ts → replied m (shown v ts) (answered t a ths) ≡ answered t a (replied m (shown v ts) ths)
shown_swap m t a v [] ths h = refl
shown_swap m t a v (u ∷ us) ths h = ap (replied m (shown v us)) (answered_swap t u a v ths (λ e. h.0 (sym e))) ∙ shown_swap m t a v us (answered u v ths) h.1

abbrev pub FollowsSome : ℕ → State → Option State → After V → Type 0
FollowsSome m s None a = Unit {0}
FollowsSome m s (Some u) a = Follows m s u a

want_own : (m : ℕ) (w : Want V) → cond (m == m) (Some w) None ≡ Some w
want_own m w = ⊎_elim (λ e. cond_true (m == m) (Some w) None e.0) (λ e. absurd (e.1 refl)) (equal_or m m)

-- thread t isn't blocked, and the state has this cell
module _ (m t : ℕ) (s : State) (o : Option V) (ps : List (Place V)) (b : is_blocked t s.blocked ≡ false) (hc : slice_get s.cells m ≡ Some o) (hl : line_of m s.blocked ≡ ps) (once : Once s.blocked) where
  own_line : line_of m (leaves t s.blocked) ≡ ps
  own_line = line_leaves m t s.blocked ∙ (not_blocked_line m t s.blocked b ∙ hl)

  own : (x : Answer V) → Follows m s (answer t (told m x) s) (after_of (cell_of o ps) (reply_of t x ∷ []))
  own x = record { content = hc; line = own_line; threads = refl }

  waits : (r : Reason V) (w : Want V) → want_at m r ≡ Some w → Follows m s (block t r s) (after_of (cell_of o (joins_line t w ps)) [])
  waits r w e = record {
    content = hc;
    line = line_more m s.blocked (record { thread = t; reason = r }) ∙ (ap (λ z. z ++ with_place t (want_at m r) []) hl ∙ ap (λ z. ps ++ with_place t z []) e);
    threads = refl;
  }

  -- after the thread's own answer all that read are answered
  read_follow : (a : V) (x : Answer V) → o ≡ None → Follows m s (read_by_all m a (answer t (told m x) s)) (after_of (cell_of None (leave_line (readers ps) ps)) (shown a (readers ps) ++ reply_of t x ∷ []))
  read_follow a x e =
      let u : State = answer t (told m x) s in
      let same : readers (line_of m u.blocked) ≡ readers ps = ap readers own_line in
      let free : is_blocked t u.blocked ≡ false = subst (λ ws. is_blocked t ws ≡ false) (sym (leaves_absent t s.blocked b)) b in
      let none : Absent_in t (readers ps) = subst (Absent_in t) (sym (readers_are m u.blocked) ∙ same) (absent_those (λ v. reads_at m) t u.blocked free) in
      subst (λ ts. Follows m s (resume_all ts (Ret a) u) (after_of (cell_of None (leave_line (readers ps) ps)) (shown a (readers ps) ++ reply_of t x ∷ []))) (sym same)
      (record {
        content = ap (λ cs. slice_get cs m) (all_cells (readers ps) (Ret a) u) ∙ (hc ∙ ap Some e);
        line = all_line m (readers ps) (Ret a) u ∙ ap (leave_line (readers ps)) own_line;
        threads = all_threads m a (readers ps) u ∙ (shown_swap m t (told m x) a (readers ps) s.threads none ∙ sym (replied_more m (shown a (readers ps)) (reply_of t x) s.threads));
      })

  pub given_follows : (a : V) (x : Answer V) → o ≡ None → Follows m s (given m a (answer t (told m x) s)) (comes_in a ps (reply_of t x))
  given_follows a x e =
      let u : State = answer t (told m x) s in
      let f = read_follow a x e in
      let n : (v : ℕ) → first_take ps ≡ Some v → t ≢ v = λ v q. apart_taker m t v s.blocked b (ap first_take hl ∙ q) in
      let taker : first_take (line_of m (read_by_all m a u).blocked) ≡ first_take ps = same_taker m a u (once_left t s.blocked once) ∙ ap first_take own_line in
      subst (λ w. Follows m s (goes_in m a w (read_by_all m a u)) (comes_in a ps (reply_of t x))) (sym taker)
      (goes_follow m t s (read_by_all m a u) (leave_line (readers ps) ps) (shown a (readers ps)) a x (first_take ps) n f)

-- thread t isn't blocked, and the state has this cell
module _ (m t : ℕ) (s : State) where
  abbrev HasCell : Option V → List (Place V) → Type 0
  HasCell o ps = (is_blocked t s.blocked ≡ false) × (slice_get s.cells m ≡ Some o) × (line_of m s.blocked ≡ ps) × Once s.blocked

  pub take_follows : (o : Option V) (ps : List (Place V)) → HasCell o ps → FollowsSome m s (take t m (Some o) s) (call (Take t) (cell_of o ps))
  take_follows None ps h = waits m t s None ps h.0 h.1 h.2 h.3 (Taking m) To_take (want_own m To_take)
  take_follows (Some a) ps h = taken_follows m s (answer t a s) (Some a) ps (reply_of t (Took a) ∷ []) (own m t s (Some a) ps h.0 h.1 h.2 h.3 (Took a))

  pub read_follows : (o : Option V) (ps : List (Place V)) → HasCell o ps → FollowsSome m s (read t m (Some o) s) (call (Read t) (cell_of o ps))
  read_follows None ps h = waits m t s None ps h.0 h.1 h.2 h.3 (Reading m) To_read (want_own m To_read)
  read_follows (Some a) ps h = own m t s (Some a) ps h.0 h.1 h.2 h.3 (Saw a)

  pub put_follows : (a : V) (o : Option V) (ps : List (Place V)) → HasCell o ps → FollowsSome m s (put t m a (Some o) s) (call (Put t a) (cell_of o ps))
  put_follows a (Some c) ps h = waits m t s (Some c) ps h.0 h.1 h.2 h.3 (Putting m a) (To_put a) (want_own m (To_put a))
  put_follows a None ps h = given_follows m t s None ps h.0 h.1 h.2 h.3 a Gave refl

  pub try_take_follows : (o : Option V) (ps : List (Place V)) → HasCell o ps → FollowsSome m s (try_take t m (Some o) s) (call (Try_take t) (cell_of o ps))
  try_take_follows None ps h = own m t s None ps h.0 h.1 h.2 h.3 (Tried_take None)
  try_take_follows (Some a) ps h = taken_follows m s (answer t (Just a) s) (Some a) ps (reply_of t (Tried_take (Some a)) ∷ []) (own m t s (Some a) ps h.0 h.1 h.2 h.3 (Tried_take (Some a)))

  pub try_put_follows : (a : V) (o : Option V) (ps : List (Place V)) → HasCell o ps → FollowsSome m s (try_put t m a (Some o) s) (call (Try_put t a) (cell_of o ps))
  try_put_follows a (Some c) ps h = own m t s (Some c) ps h.0 h.1 h.2 h.3 (Tried_put false)
  try_put_follows a None ps h = given_follows m t s None ps h.0 h.1 h.2 h.3 a (Tried_put true) refl

-- ---- what doesn't wait at a cell may leave without a change of its line
abbrev pub Away : ℕ → Option (Reason V) → Type 0
Away m None = Unit {0}
Away m (Some r) = want_at m r ≡ None

pub away_line : (m t : ℕ) (ws : List (Waiting V)) → Once ws → Away m (reason_of t ws) → leaves_line t (line_of m ws) ≡ line_of m ws
away_line m t [] o h = refl
away_line m t (w ∷ ws) o h =
    ⊎_elim
    (λ e.
    let a : want_at m w.reason ≡ None = subst (Away m) (cond_true (w.thread == t) (Some w.reason) (reason_of t ws) e.0) h in
    let b : is_blocked t ws ≡ false = subst (λ u. is_blocked u ws ≡ false) e.1 o.0 in
    ap (λ q. leaves_line t (with_place w.thread q (line_of m ws))) a ∙ (not_blocked_line m t ws b ∙ ap (λ q. with_place w.thread q (line_of m ws)) (sym a)))
    (λ e. sym (kept_place t w.thread (want_at m w.reason) (line_of m ws) e.0) ∙ ap (with_place w.thread (want_at m w.reason)) (away_line m t ws o.1 (subst (Away m) (cond_false (w.thread == t) (Some w.reason) (reason_of t ws) e.0) h)))
    (equal_or w.thread t)

pub away_leaves : (m t : ℕ) (ws : List (Waiting V)) → Once ws → Away m (reason_of t ws) → line_of m (leaves t ws) ≡ line_of m ws
away_leaves m t ws o h = line_leaves m t ws ∙ away_line m t ws o h

-- a state that shows a cell still shows it
abbrev pub Still : ℕ → State → State → Type 0
Still m s u = (slice_get u.cells m ≡ slice_get s.cells m) × (line_of m u.blocked ≡ line_of m s.blocked) × Once u.blocked

pub resume_still : (m : ℕ) (s u : State) (t : ℕ) (p : Part) → Still m s u → Away m (reason_of t u.blocked) → Still m s (resume t p u)
resume_still m s u t p h a = (h.0, away_leaves m t u.blocked h.2 a ∙ h.1, once_left t u.blocked h.2)

away_apart : (m t : ℕ) (ws : List (Waiting V)) (us : List ℕ) → Absent_in t us → Ones (λ u. Away m (reason_of u ws)) us → Ones (λ u. Away m (reason_of u (leaves t ws))) us
away_apart m t ws us a h = ones_apart (λ u. Away m (reason_of u ws)) (λ u. Away m (reason_of u (leaves t ws))) t us (λ u n k. subst (Away m) (sym (reason_left t u ws n)) k) a h

resume_all_still : (m : ℕ) (s u : State) (ts : List ℕ) (p : Part) → Still m s u → Distinct ts → Ones (λ t. Away m (reason_of t u.blocked)) ts → Still m s (resume_all ts p u)
resume_all_still m s u [] p h d a = h
resume_all_still m s u (t ∷ ts) p h d a = resume_all_still m s (resume t p u) ts p (resume_still m s u t p h a.0) d.1 (away_apart m t u.blocked ts d.0 a.1)

-- those who wait for a reason that is not at this cell
pub those_still : (m : ℕ) (s u : State) (q : ℕ → Reason V → Bool) (p : Part) → Still m s u → ((t : ℕ) (r : Reason V) → q t r ≡ true → want_at m r ≡ None) → Still m s (resume_all (those q u.blocked) p u)
those_still m s u q p h f =
    resume_all_still m s u (those q u.blocked) p h (distinct_those q u.blocked h.2)
    (ones_those_if (λ t r. reason_of t u.blocked ≡ Some r) (λ t. Away m (reason_of t u.blocked)) q u.blocked (λ t r b e. subst (Away m) (sym e) (f t r b)) (once_reason u.blocked h.2))

abbrev AwayFound : {A : Type 0} → ℕ → List (Waiting V) → Option (ℕ × A) → Type 0
AwayFound {A} m ws None = Unit {0}
AwayFound {A} m ws (Some w) = Away m (reason_of w.0 ws)

found_away : {A : Type 0} (m : ℕ) (ws : List (Waiting V)) (q : Reason V → Option A) → ((r : Reason V) (a : A) → q r ≡ Some a → want_at m r ≡ None) → (o : Option (ℕ × A)) → Found (λ t r. reason_of t ws ≡ Some r) q o → AwayFound m ws o
found_away m ws q f None h = tt
found_away m ws q f (Some w) h = subst (Away m) (sym h.1) (f h.0 w.1 h.2)

first_away : {A : Type 0} (m : ℕ) (ws : List (Waiting V)) (q : Reason V → Option A) → Once ws → ((r : Reason V) (a : A) → q r ≡ Some a → want_at m r ≡ None) → AwayFound m ws (first_of_kind q ws)
first_away m ws q once f = found_away m ws q f (first_of_kind q ws) (first_found (λ t r. reason_of t ws ≡ Some r) q ws (once_reason ws once))

-- ---- an operation on another cell
other_put : (m k : ℕ) → m ≢ k → (r : Reason V) (v : V) → puts k r ≡ Some v → want_at m r ≡ None
other_put m k n (Putting j w) v e =
    ⊎_elim
    (λ q. ⊎_elim (λ f. absurd (n (sym f.1 ∙ q.1))) (λ f. cond_false (j == m) (Some (To_put w)) None f.0) (equal_or j m))
    (λ q. let f : ◌≡◌ {A = Option V} None (Some v) = sym (cond_false (j == k) (Some w) None q.0) ∙ e in absurd (cc f))
    (equal_or j k)
other_put m k n _ v e = absurd (cc e)

other_take : (m k : ℕ) → m ≢ k → (r : Reason V) (v : Unit {0}) → takes k r ≡ Some v → want_at m r ≡ None
other_take m k n (Taking j) v e =
    ⊎_elim
    (λ q. ⊎_elim (λ f. absurd (n (sym f.1 ∙ q.1))) (λ f. cond_false (j == m) (Some To_take) None f.0) (equal_or j m))
    (λ q. let f : ◌≡◌ {A = Option (Unit {0})} None (Some v) = sym (cond_false (j == k) (Some tt) None q.0) ∙ e in absurd (cc f))
    (equal_or j k)
other_take m k n _ v e = absurd (cc e)

other_read : (m k : ℕ) → m ≢ k → (r : Reason V) → reads_at k r ≡ true → want_at m r ≡ None
other_read m k n (Reading j) e =
    ⊎_elim
    (λ q. ⊎_elim (λ f. absurd (n (sym f.1 ∙ q.1))) (λ f. cond_false (j == m) (Some To_read) None f.0) (equal_or j m))
    (λ q. let f : true ≡ false = sym e ∙ q.0 in absurd (cc f))
    (equal_or j k)
other_read m k n _ e = absurd (cc e)

set_still : (m k : ℕ) (s u : State) (c : Option V) → m ≢ k → Still m s u → Still m s (record u { cells = slice_set u.cells k c })
set_still m k s u c n h = (item_other u.cells k m c n ∙ h.0, h.1, h.2)

moves_still : (m k : ℕ) (s u : State) (o : Option (ℕ × V)) → m ≢ k → Still m s u → AwayFound m u.blocked o → Still m s (moves_in k o u)
moves_still m k s u None n h a = set_still m k s u None n h
moves_still m k s u (Some w) n h a = resume_still m s (record u { cells = slice_set u.cells k (Some w.1) }) w.0 (Ret UnitValue) (set_still m k s u (Some w.1) n h) a

goes_still : (m k : ℕ) (v : V) (s u : State) (o : Option (ℕ × Unit {0})) → m ≢ k → Still m s u → AwayFound m u.blocked o → Still m s (goes_in k v (only_thread o) u)
goes_still m k v s u None n h a = set_still m k s u (Some v) n h
goes_still m k v s u (Some w) n h a = resume_still m s u w.0 (Ret v) h a

taken_still : (m k : ℕ) (s u : State) → m ≢ k → Still m s u → Still m s (taken k u)
taken_still m k s u n h = subst (λ o. Still m s (moves_in k o u)) (sym (put_is_first k u.blocked)) (moves_still m k s u (first_of_kind (puts k) u.blocked) n h (first_away m u.blocked (puts k) h.2 (other_put m k n)))

read_all_still : (m k : ℕ) (v : V) (s u : State) → m ≢ k → Still m s u → Still m s (read_by_all k v u)
read_all_still m k v s u n h = subst (λ us. Still m s (resume_all us (Ret v) u)) (sym (readers_are k u.blocked)) (those_still m s u (λ t. reads_at k) (Ret v) h (λ t r e. other_read m k n r e))

goes_on_still : (m k : ℕ) (v : V) (s u : State) → m ≢ k → Still m s u → Still m s (goes_on k v u)
goes_on_still m k v s u n h = subst (λ o. Still m s (goes_in k v o u)) (sym (take_is_first k u.blocked)) (goes_still m k v s u (first_of_kind (takes k) u.blocked) n h (first_away m u.blocked (takes k) h.2 (other_take m k n)))

given_still : (m k : ℕ) (v : V) (s u : State) → m ≢ k → Still m s u → Still m s (given k v u)
given_still m k v s u n h = goes_on_still m k v s (read_by_all k v u) n (read_all_still m k v s u n h)

pub block_still : (m : ℕ) (s u : State) (t : ℕ) (r : Reason V) → want_at m r ≡ None → is_blocked t u.blocked ≡ false → Still m s u → Still m s (block t r u)
block_still m s u t r e b h = (
  h.0,
  line_more m u.blocked (record { thread = t; reason = r }) ∙ (ap (λ o. line_of m u.blocked ++ with_place t o []) e ∙ (append-nil (line_of m u.blocked) ∙ h.1)),
  once_more u.blocked (record { thread = t; reason = r }) b h.2,
)

abbrev pub StillSome : ℕ → State → Option State → Type 0
StillSome m s None = Unit {0}
StillSome m s (Some u) = Still m s u

-- t isn't blocked
module _ (m k t : ℕ) (s : State) (n : m ≢ k) (once : Once s.blocked) (b : is_blocked t s.blocked ≡ false) where
  here : Still m s s
  here = (refl, refl, once)

  own_still : (v : V) → Still m s (answer t v s)
  own_still v = resume_still m s s t (Ret v) here (subst (Away m) (sym (not_blocked_reason t s.blocked b)) tt)

  away_want : (w : Want V) → cond (k == m) (Some w) None ≡ None
  away_want w = ⊎_elim (λ e. absurd (n (sym e.1))) (λ e. cond_false (k == m) (Some w) None e.0) (equal_or k m)

  pub take_still : (o : Option (Option V)) → StillSome m s (take t k o s)
  take_still None = tt
  take_still (Some None) = block_still m s s t (Taking k) (away_want To_take) b here
  take_still (Some (Some v)) = taken_still m k s (answer t v s) n (own_still v)

  pub read_still : (o : Option (Option V)) → StillSome m s (read t k o s)
  read_still None = tt
  read_still (Some None) = block_still m s s t (Reading k) (away_want To_read) b here
  read_still (Some (Some v)) = own_still v

  pub try_take_still : (o : Option (Option V)) → StillSome m s (try_take t k o s)
  try_take_still None = tt
  try_take_still (Some None) = own_still Nothing
  try_take_still (Some (Some v)) = taken_still m k s (answer t (Just v) s) n (own_still (Just v))

  pub put_still : (v : V) (o : Option (Option V)) → StillSome m s (put t k v o s)
  put_still v None = tt
  put_still v (Some (Some w)) = block_still m s s t (Putting k v) (away_want (To_put v)) b here
  put_still v (Some None) = given_still m k v s (answer t UnitValue s) n (own_still UnitValue)

  pub try_put_still : (v : V) (o : Option (Option V)) → StillSome m s (try_put t k v o s)
  try_put_still v None = tt
  try_put_still v (Some (Some w)) = own_still (Truth false)
  try_put_still v (Some None) = given_still m k v s (answer t (Truth true) s) n (own_still (Truth true))
