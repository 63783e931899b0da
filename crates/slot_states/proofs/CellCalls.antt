-- What an operation on a cell makes of a state of the rules: who is blocked after it, and what stays.
use Rattle.std.proofs.Common.{◌≡◌, ◌≢◌, ℕ, true, false, List, [], ◌∷◌, ◌++◌, length, slice_get, Option, Some, None, refl, sym, ap, ◌∙◌}
use Rattle.rules_meaning.specs.Values.{V, UnitValue, Truth, Just}
use Rattle.hs_rules.specs.Terms.{Part, Ret}
use Rattle.rules_waiting.specs.OneCell as one
use Rattle.rules_waiting.specs.OneCell.{Place, Take, Read, Put, Try_take, Try_put, Answer, Took, Saw, Gave, Tried_take, Tried_put, Reply, After, cell_of, reply_of, stands_in, first_put, first_take, readers, leave_line, shown, comes_on, comes_in, call}
use Rattle.rules_waiting.specs.Waiting.{Reason, Taking, Reading, Putting, Waiting, blocks, leaves, is_blocked, line_of, at_cell, flight_of, sleepers_of}
use Rattle.hs_rules.specs.State.{State, answer, resume, resume_all, block}
use Rattle.hs_rules.specs.Primitives.{moves_in, taken, goes_in, read_by_all, given, take, read, put, try_take, try_put}
use Rattle.hs_laws.specs.CellLaw.{told}
use Rattle.hs_laws.specs.CellLaw as law
use Rattle.hs_laws.specs.Standing.{Once}
use Rattle.hs_laws.proofs.Lists.{once_left, ones_changed}
use Rattle.hs_laws.proofs.CellSteps.{line_leaves, not_blocked_line, Follows, take_follows, read_follows, put_follows, try_take_follows, try_put_follows, Still, take_still, read_still, put_still, try_take_still, try_put_still, same_taker}
use Rattle.hs_laws.proofs.Growing.{set_length}
use Rattle.slot_states.specs.SlotStates.{SlotThread, told_all}
use Rattle.slot_states.specs.SlotStates as slots
use Rattle.slot_states.proofs.Lines.{left_by, EachReply, left_both, left_swap, leaves_swap, each_both, each_shown, Quiet, free_quiet, stands_quiet, all_quiet, block_quiet, put_stands, take_stands, readers_stand}

-- ---- all but threads, cells and the blocked stays, and there are as many cells

abbrev pub Kept : State → State → Type 0
Kept s u = (u ≡ record s { threads = u.threads; cells = u.cells; blocked = u.blocked }) × (length u.cells ≡ length s.cells)

kept_then : (s u v : State) → Kept s u → Kept u v → Kept s v
kept_then s u v h g = (g.0 ∙ ap (λ (z : State). record z { threads = v.threads; cells = v.cells; blocked = v.blocked }) h.0, g.1 ∙ h.1)

all_kept : (ts : List ℕ) (p : Part) (s : State) → Kept s (resume_all ts p s)
all_kept [] p s = (refl, refl)
all_kept (t ∷ ts) p s = kept_then s (resume t p s) (resume_all ts p (resume t p s)) (refl, refl) (all_kept ts p (resume t p s))

moves_kept : (m : ℕ) (w : Option (ℕ × V)) (s : State) → Kept s (moves_in m w s)
moves_kept m None s = (refl, set_length s.cells m None)
moves_kept m (Some w) s = (refl, set_length s.cells m (Some w.1))

goes_kept : (m : ℕ) (a : V) (w : Option ℕ) (s : State) → Kept s (goes_in m a w s)
goes_kept m a None s = (refl, set_length s.cells m (Some a))
goes_kept m a (Some t) s = (refl, refl)

taken_kept : (m t : ℕ) (v : V) (s : State) → Kept s (taken m (answer t v s))
taken_kept m t v s = kept_then s (answer t v s) (taken m (answer t v s)) (refl, refl) (moves_kept m (first_put (line_of m (answer t v s).blocked)) (answer t v s))

given_kept : (m t : ℕ) (a v : V) (s : State) → Kept s (given m a (answer t v s))
given_kept m t a v s =
    let u : State = answer t v s in
    let w : State = read_by_all m a u in
    kept_then s w (given m a u) (kept_then s u w (refl, refl) (all_kept (readers (line_of m u.blocked)) (Ret a) u)) (goes_kept m a (first_take (line_of m w.blocked)) w)

-- ---- the threads that a call answers

module _ (P : ℕ → Type 0) (t : ℕ) (own : P t) where
  module _ (ps : List (Place V)) (each : (u : ℕ) → stands_in u ps ≡ true → P u) where
    each_moves : (w : Option (ℕ × V)) (rs : List (Reply V)) → first_put ps ≡ w → EachReply P rs → EachReply P (one.moves_in w ps rs).replies
    each_moves None rs e h = h
    each_moves (Some w) rs e h = each_both P rs (reply_of w.0 Gave ∷ []) h (each w.0 (put_stands ps w e), tt)

    each_comes : (v : V) (x : Answer V) (w : Option ℕ) (qs : List (Place V)) (rs : List (Reply V)) → first_take ps ≡ w → EachReply P rs → EachReply P (comes_on v w qs rs (reply_of t x)).replies
    each_comes v x None qs rs e h = each_both P rs (reply_of t x ∷ []) h (own, tt)
    each_comes v x (Some u) qs rs e h = each_both P rs (reply_of u (Took v) ∷ reply_of t x ∷ []) h (each u (take_stands ps u e), (own, tt))

    each_read : (v : V) → EachReply P (shown v (readers ps))
    each_read v = each_shown P v (readers ps) (ones_changed (λ u. stands_in u ps ≡ true) P (readers ps) each (readers_stand ps))

-- ---- whom a call answers, or who waits

-- With slots the same threads are answered. Where nobody is, the caller blocks at the cell.
pub data Goes (m t : ℕ) (s u : State) (rs : List (Reply V)) : Type 0 where
  waits : (r : Reason V) → at_cell r ≡ true → rs ≡ [] → u.threads ≡ s.threads → u.blocked ≡ blocks t r s.blocked → Goes m t s u rs
  answers : ((ths : List SlotThread) → told_all t m rs ths ≡ slots.replied m rs ths) → u.threads ≡ law.replied m rs s.threads → u.blocked ≡ left_by rs s.blocked → EachReply (Quiet s.blocked) rs → Goes m t s u rs

-- exceptions in flight and sleepers stay
pub goes_quiet : {m t : ℕ} {s u : State} {rs : List (Reply V)} → Goes m t s u rs → (flight_of u.blocked ≡ flight_of s.blocked) × (sleepers_of u.blocked ≡ sleepers_of s.blocked)
goes_quiet {m} {t} {s} (waits r a e h b) = let k = block_quiet t r s.blocked a in (ap flight_of b ∙ k.0, ap sleepers_of b ∙ k.1)
goes_quiet {m} {t} {s} {u} {rs} (answers e h b q) = let k = all_quiet rs s.blocked q in (ap flight_of b ∙ k.0, ap sleepers_of b ∙ k.1)

-- An operation leaves this state: it shows the cell after the call, other cells are shown as before, and the rest stays.
pub record Made (m t : ℕ) (s : State) (o : Option State) (a : After V) : Type 0 where
  pub after : State
  pub is : o ≡ Some after
  pub follows : Follows m s after a
  pub still : (k : ℕ) → k ≢ m → Still k s after
  pub goes : Goes m t s after a.replies
  pub kept : Kept s after

told_moves : (m t : ℕ) (w : Option (ℕ × V)) (ps : List (Place V)) (r : Reply V) (ths : List SlotThread) → told_all t m (one.moves_in w ps (r ∷ [])).replies ths ≡ slots.replied m (one.moves_in w ps (r ∷ [])).replies ths
told_moves m t None ps r ths = refl
told_moves m t (Some w) ps r ths = refl

told_more : (m t : ℕ) (rs : List (Reply V)) (r : Reply V) (qs : List (Reply V)) (ths : List SlotThread) → told_all t m (rs ++ r ∷ qs) ths ≡ slots.replied m (rs ++ r ∷ qs) ths
told_more m t [] r qs ths = refl
told_more m t (x ∷ rs) r qs ths = refl

told_comes : (m t : ℕ) (v : V) (w : Option ℕ) (ps : List (Place V)) (rs : List (Reply V)) (r : Reply V) (ths : List SlotThread) → told_all t m (comes_on v w ps rs r).replies ths ≡ slots.replied m (comes_on v w ps rs r).replies ths
told_comes m t v None ps rs r ths = told_more m t rs r [] ths
told_comes m t v (Some u) ps rs r ths = told_more m t rs (reply_of u (Took v)) (r ∷ []) ths

moves_blocked : (m : ℕ) (w : Option (ℕ × V)) (u : State) (ps : List (Place V)) (rs : List (Reply V)) (ws : List (Waiting V)) → u.blocked ≡ left_by rs ws → (moves_in m w u).blocked ≡ left_by (one.moves_in w ps rs).replies ws
moves_blocked m None u ps rs ws h = h
moves_blocked m (Some w) u ps rs ws h = ap (leaves w.0) h ∙ sym (left_both rs (reply_of w.0 Gave ∷ []) ws)

goes_blocked : (m t : ℕ) (a : V) (x : Answer V) (w : Option ℕ) (u : State) (ps : List (Place V)) (rs : List (Reply V)) (ws : List (Waiting V)) → u.blocked ≡ leaves t (left_by rs ws)
    → (goes_in m a w u).blocked ≡ left_by (comes_on a w ps rs (reply_of t x)).replies ws
goes_blocked m t a x None u ps rs ws h = h ∙ sym (left_both rs (reply_of t x ∷ []) ws)
goes_blocked m t a x (Some v) u ps rs ws h = ap (leaves v) h ∙ (leaves_swap v t (left_by rs ws) ∙ sym (left_both rs (reply_of v (Took a) ∷ reply_of t x ∷ []) ws))

shown_blocked : (v : V) (ts : List ℕ) (u : State) → (resume_all ts (Ret v) u).blocked ≡ left_by (shown v ts) u.blocked
shown_blocked v [] u = refl
shown_blocked v (t ∷ ts) u = shown_blocked v ts (answer t v u)

-- ---- each operation, of a thread that isn't blocked, on a cell that is there

abbrev pub HasCell : ℕ → ℕ → State → Option V → List (Place V) → Type 0
HasCell m t s o ps = (is_blocked t s.blocked ≡ false) × (slice_get s.cells m ≡ Some o) × (line_of m s.blocked ≡ ps) × Once s.blocked

module _ (m t : ℕ) (s : State) (o : Option V) (ps : List (Place V)) (h : HasCell m t s o ps) where
  free : is_blocked t s.blocked ≡ false
  free = h.0

  line : line_of m s.blocked ≡ ps
  line = h.2

  once : Once s.blocked
  once = h.3

  own_line : line_of m (leaves t s.blocked) ≡ ps
  own_line = line_leaves m t s.blocked ∙ (not_blocked_line m t s.blocked free ∙ line)

  quiet_here : (u : ℕ) → stands_in u ps ≡ true → Quiet s.blocked u
  quiet_here u e = stands_quiet m u s.blocked once (ap (stands_in u) line ∙ e)

  own_quiet : Quiet s.blocked t
  own_quiet = free_quiet t s.blocked free

  -- it alone is answered
  alone_goes : (x : Answer V) → Goes m t s (answer t (told m x) s) (reply_of t x ∷ [])
  alone_goes x = answers (λ ths. refl) refl refl (own_quiet, tt)

  -- the content is taken
  taken_goes : (x : Answer V) → Follows m s (taken m (answer t (told m x) s)) (one.moves_in (first_put ps) ps (reply_of t x ∷ [])) → Goes m t s (taken m (answer t (told m x) s)) (one.moves_in (first_put ps) ps (reply_of t x ∷ [])).replies
  taken_goes x f =
      let u : State = answer t (told m x) s in
      answers
      (told_moves m t (first_put ps) ps (reply_of t x))
      f.threads
      (ap (λ w. (moves_in m w u).blocked) (ap first_put own_line) ∙ moves_blocked m (first_put ps) u ps (reply_of t x ∷ []) s.blocked refl)
      (each_moves (Quiet s.blocked) t own_quiet ps quiet_here (first_put ps) (reply_of t x ∷ []) refl (own_quiet, tt))

  -- a value comes in
  given_goes : (a : V) (x : Answer V) → Follows m s (given m a (answer t (told m x) s)) (comes_in a ps (reply_of t x)) → Goes m t s (given m a (answer t (told m x) s)) (comes_in a ps (reply_of t x)).replies
  given_goes a x f =
      let u : State = answer t (told m x) s in
      let v : State = read_by_all m a u in
      let rs : List (Reply V) = shown a (readers ps) in
      let blocked : v.blocked ≡ leaves t (left_by rs s.blocked) = ap (λ ts. (resume_all ts (Ret a) u).blocked) (ap readers own_line) ∙ (shown_blocked a (readers ps) u ∙ left_swap t rs s.blocked) in
      let taker : first_take (line_of m v.blocked) ≡ first_take ps = same_taker m a u (once_left t s.blocked once) ∙ ap first_take own_line in
      answers
      (told_comes m t a (first_take ps) (leave_line (readers ps) ps) rs (reply_of t x))
      f.threads
      (ap (λ w. (goes_in m a w v).blocked) taker ∙ goes_blocked m t a x (first_take ps) v (leave_line (readers ps) ps) rs s.blocked blocked)
      (each_comes (Quiet s.blocked) t own_quiet ps quiet_here a x (first_take ps) (leave_line (readers ps) ps) rs refl (each_read (Quiet s.blocked) t own_quiet ps quiet_here a))

module _ (m t : ℕ) (s : State) where
  made_so : {u : State} {a : After V} → Follows m s u a → ((k : ℕ) → k ≢ m → Still k s u) → Goes m t s u a.replies → Kept s u → Made m t s (Some u) a
  made_so {u} f g w k = record { after = u; is = refl; follows = f; still = g; goes = w; kept = k }

  -- it waits
  waits_so : (r : Reason V) {a : After V} → at_cell r ≡ true → a.replies ≡ [] → Follows m s (block t r s) a → ((k : ℕ) → k ≢ m → Still k s (block t r s)) → Made m t s (Some (block t r s)) a
  waits_so r c e f g = made_so f g (waits r c e refl refl) (refl, refl)

  pub take_made : (o : Option V) (ps : List (Place V)) → HasCell m t s o ps → Made m t s (take t m (Some o) s) (call (Take t) (cell_of o ps))
  take_made None ps h = waits_so (Taking m) refl refl (take_follows m t s None ps h) (λ k n. take_still k m t s n h.3 h.0 (Some None))
  take_made (Some a) ps h = made_so (take_follows m t s (Some a) ps h) (λ k n. take_still k m t s n h.3 h.0 (Some (Some a))) (taken_goes m t s (Some a) ps h (Took a) (take_follows m t s (Some a) ps h)) (taken_kept m t a s)

  pub read_made : (o : Option V) (ps : List (Place V)) → HasCell m t s o ps → Made m t s (read t m (Some o) s) (call (Read t) (cell_of o ps))
  read_made None ps h = waits_so (Reading m) refl refl (read_follows m t s None ps h) (λ k n. read_still k m t s n h.3 h.0 (Some None))
  read_made (Some a) ps h = made_so (read_follows m t s (Some a) ps h) (λ k n. read_still k m t s n h.3 h.0 (Some (Some a))) (alone_goes m t s (Some a) ps h (Saw a)) (refl, refl)

  pub put_made : (v : V) (o : Option V) (ps : List (Place V)) → HasCell m t s o ps → Made m t s (put t m v (Some o) s) (call (Put t v) (cell_of o ps))
  put_made v None ps h = made_so (put_follows m t s v None ps h) (λ k n. put_still k m t s n h.3 h.0 v (Some None)) (given_goes m t s None ps h v Gave (put_follows m t s v None ps h)) (given_kept m t v UnitValue s)
  put_made v (Some a) ps h = waits_so (Putting m v) refl refl (put_follows m t s v (Some a) ps h) (λ k n. put_still k m t s n h.3 h.0 v (Some (Some a)))

  pub try_take_made : (o : Option V) (ps : List (Place V)) → HasCell m t s o ps → Made m t s (try_take t m (Some o) s) (call (Try_take t) (cell_of o ps))
  try_take_made None ps h = made_so (try_take_follows m t s None ps h) (λ k n. try_take_still k m t s n h.3 h.0 (Some None)) (alone_goes m t s None ps h (Tried_take None)) (refl, refl)
  try_take_made (Some a) ps h = made_so (try_take_follows m t s (Some a) ps h) (λ k n. try_take_still k m t s n h.3 h.0 (Some (Some a))) (taken_goes m t s (Some a) ps h (Tried_take (Some a)) (try_take_follows m t s (Some a) ps h)) (taken_kept m t (Just a) s)

  pub try_put_made : (v : V) (o : Option V) (ps : List (Place V)) → HasCell m t s o ps → Made m t s (try_put t m v (Some o) s) (call (Try_put t v) (cell_of o ps))
  try_put_made v None ps h = made_so (try_put_follows m t s v None ps h) (λ k n. try_put_still k m t s n h.3 h.0 v (Some None)) (given_goes m t s None ps h v (Tried_put true) (try_put_follows m t s v None ps h)) (given_kept m t v (Truth true) s)
  try_put_made v (Some a) ps h = made_so (try_put_follows m t s v (Some a) ps h) (λ k n. try_put_still k m t s n h.3 h.0 v (Some (Some a))) (alone_goes m t s (Some a) ps h (Tried_put false)) (refl, refl)
