-- Each entry makes its calls on a cell: a state's cell, or one that isn't there yet, does what the cell alone does by them.
use Rattle.std.proofs.Common.{◌≡◌, ◌≢◌, ◌<◌, ℕ, zero, suc, ◌==◌, List, [], ◌∷◌, ◌++◌, length, slice_get, slice_set, true, false, cond, Option, Some, None, refl, sym, ap, ◌∙◌, subst, arith, ◌⊎◌, inl, inr, ⊎_elim}
use Rattle.hs_base.specs.declared.mask.Mask.{Mask}
use Rattle.hs_base.specs.declared.mask.Mask.TheVariants.{Unmasked}
use Rattle.hs_base.specs.declared.exn.Exn.TheVariants.{Timeout, BlockedIndefinitely}
use Rattle.hs_base.specs.ExceptionTexts.{text_of}
use Rattle.std.specs.Prelude.{codes}
use Rattle.std.specs.Fmt.{decimal}
use Rattle.hs_rules.specs.declared.entry.Entry.{Entry}
use Rattle.rules_meaning.specs.Values as val
use Rattle.rules_meaning.specs.Values.{V, UnitValue, Text, Exception, Inst, with_name}
use Rattle.rules_expansion.specs.declared.primitive.Primitive.TheVariants.{TakeMVar, PutMVar, ReadMVar, TryTakeMVar, TryPutMVar}
use Rattle.rules_meaning.specs.CoreMeaning.{Code}
use Rattle.hs_rules.specs.Terms.{Operation, Calls, Part, Ret, Throw, Do, MaskIn, Term, term}
use Rattle.rules_waiting.specs.Waiting.{want_at, with_place, Reason, Throwing, Sleeping, Waiting, Flying, leaves, is_blocked, reason_of, line_of, flight_of, flying_to, first_thrown}
use Rattle.hs_rules.specs.State.{AcquiredBy, ReleasedBy, Thread, State, move, resume, answer, resume_all, block, spawn}
use Rattle.hs_rules.specs.Primitives.{take, read, put, try_take, try_put, due_in, clock_value, masking_text, line_feed}
use Rattle.hs_rules.specs.Entries.{uncaught_line, stranded, next}
use Rattle.hs_laws.specs.cases.Cases as row
use Rattle.hs_laws.specs.cases.Cases.{printed, told, finished}
use Rattle.hs_laws.proofs.cases_lemmas.Performing.{performed_is}
use Rattle.hs_laws.proofs.cases_lemmas.Entering.{case_of, all_are}
use Rattle.rules_waiting.specs.OneCell.{Want, Cell, Call, Make, Take, Read, Put, Try_take, Try_put, Leave, leaves_line, made, call}
use Rattle.hs_laws.specs.Standing.{Once}
use Rattle.hs_laws.specs.CellLaw.{Shows, answered, operation_calls, part_calls, thread_calls, leave_if, leave_call, leave_calls, calls_of, after_calls, IsAnswered, AnswersCalls, IsMake, NoMake}
use Rattle.hs_laws.proofs.Lists.{item_append, item_below, cond_true, cond_false, equal_or, Each, Found, first_found, Absent_in, Distinct, throws, throws_means, throws_at, throw_is_first, throwers_are, once_left, once_reason}
use Rattle.hs_laws.proofs.Changes.{Apart}
use Rattle.hs_laws.proofs.States.{Holds, Waits, stranded_distinct}
use Rattle.hs_laws.proofs.CellSteps.{Follows, FollowsSome, take_follows, read_follows, put_follows, try_take_follows, try_put_follows, Away, Still, StillSome, take_still, read_still, try_take_still, put_still, try_put_still, resume_still, block_still, those_still, away_leaves, line_leaves, not_blocked_reason, reason_left}

-- cell m as a state has it, or that it isn't there and nobody waits for it
abbrev pub Present : ℕ → State → Option (Cell V) → Type 0
Present m s None = (slice_get s.cells m ≡ None) × (line_of m s.blocked ≡ [])
Present m s (Some c) = Shows m s c

-- An entry that makes these calls leaves state u. Where the cell was there, u shows it after the calls, they answered whom the
-- machine answers, and none of them makes it. Else it still isn't there, or the one call has made it.
abbrev pub Done : ℕ → State → Option (Cell V) → List (Call V) → State → Type 0
Done m s (Some c) qs u = Shows m u (after_calls qs c) × AnswersCalls m qs c s u × NoMake qs
Done m s None qs u = (Present m u None × (qs ≡ [])) ⊎ ((t : ℕ) × (o : Option V) × (qs ≡ Make t o ∷ []) × Shows m u (made o) × (u.threads ≡ answered t (val.Cell m) s.threads))

abbrev pub DoneSome : ℕ → State → Option (Cell V) → List (Call V) → Option State → Type 0
DoneSome m s c qs None = Unit {0}
DoneSome m s c qs (Some u) = Done m s c qs u

still_is : (m : ℕ) (s u : State) (c : Option (Cell V)) → Present m s c → Still m s u → Done m s c [] u
still_is m s u None h f = inl ((f.0 ∙ h.0, f.1 ∙ h.1), refl)
still_is m s u (Some c) h f = (record { content = f.0 ∙ h.content; line = f.1 ∙ h.line }, tt, tt)

still_done : (m : ℕ) (s : State) (o : Option State) (c : Option (Cell V)) → Present m s c → StillSome m s o → DoneSome m s c [] o
still_done m s None c h f = tt
still_done m s (Some u) c h f = still_is m s u c h f

-- ---- a call on the cell itself

-- the machine answers by this call whoever it answers
abbrev Tells : ℕ → State → Call V → Type 0
Tells m s q = (¬ IsMake q) × ((c : Cell V) (u : State) → Follows m s u (call q c) → IsAnswered m q c s u)

follows_done : (m : ℕ) (s : State) (o : Option State) (c : Cell V) (q : Call V) → Tells m s q → FollowsSome m s o (call q c) → DoneSome m s (Some c) (q ∷ []) o
follows_done m s None c q k f = tt
follows_done m s (Some u) c q k f = (record { content = f.content; line = f.line }, (k.1 c u f, tt), (k.0, tt))

here_call : (m : ℕ) (s : State) (c : Option (Cell V)) → Present m s c → (k : ℕ) (f : ℕ → Option (Option V) → Option State) (q : Call V) → Tells m s q → f m None ≡ None →
    ((d : Cell V) → Shows m s d → FollowsSome m s (f m (Some d.content)) (call q d)) → k ≡ m → DoneSome m s c (q ∷ []) (f k (slice_get s.cells k))
here_call m s None h k f q a n w e =
    subst (λ j. DoneSome m s None (q ∷ []) (f j (slice_get s.cells j))) (sym e)
    (subst (λ o. DoneSome m s None (q ∷ []) (f m o)) (sym h.0) (subst (DoneSome m s None (q ∷ [])) (sym n) tt))
here_call m s (Some c) h k f q a n w e =
    subst (λ j. DoneSome m s (Some c) (q ∷ []) (f j (slice_get s.cells j))) (sym e) (subst (λ o. DoneSome m s (Some c) (q ∷ []) (f m o)) (sym h.content) (follows_done m s (f m (Some c.content)) c q a (w c h)))

-- ---- the Op that makes it

-- where nothing stands at a place of a list, nothing does in one with one more item, or it stands there
item_last : {A : Type 0} (xs : List A) (m : ℕ) (y : A) → slice_get xs m ≡ None →
    ((length xs ≢ m) × (slice_get (xs ++ y ∷ []) m ≡ None)) ⊎ ((length xs ≡ m) × (slice_get (xs ++ y ∷ []) m ≡ Some y))
item_last [] zero y h = inr (refl, refl)
item_last [] (suc m) y h = inl ((λ e. absurd (omega (arith, e))), refl)
item_last (x ∷ xs) zero y h = absurd (cc h)
item_last (x ∷ xs) (suc m) y h = ⊎_elim (λ q. inl ((λ e. q.0 (omega (arith, e))), q.1)) (λ q. inr (omega (arith, q.0), q.1)) (item_last xs m y h)

make_done : (m t : ℕ) (s : State) (c : Option (Cell V)) → Present m s c → is_blocked t s.blocked ≡ false → Once s.blocked → (o : Option V) →
    Done m s c (cond (length s.cells == m) (Make t o ∷ []) []) (answer t (val.Cell (length s.cells)) (record s { cells = s.cells ++ o ∷ [] }))
make_done m t s c h b once o =
    let l : line_of m (leaves t s.blocked) ≡ line_of m s.blocked = away_leaves m t s.blocked once (subst (Away m) (sym (not_blocked_reason t s.blocked b)) tt) in
    by c h l
  where
    by : (c : Option (Cell V)) → Present m s c → line_of m (leaves t s.blocked) ≡ line_of m s.blocked → Done m s c (cond (length s.cells == m) (Make t o ∷ []) []) (answer t (val.Cell (length s.cells)) (record s { cells = s.cells ++ o ∷ [] }))
    by (Some c) h l =
        let u : State = answer t (val.Cell (length s.cells)) (record s { cells = s.cells ++ o ∷ [] }) in
        let below : m < length s.cells = item_below s.cells m c.content h.content in
        let other : length s.cells == m ≡ false = ⊎_elim (λ e. absurd (omega (arith, e.1, below))) (λ e. e.0) (equal_or (length s.cells) m) in
        subst (λ qs. Done m s (Some c) qs u) (sym (cond_false (length s.cells == m) (Make t o ∷ []) [] other)) (record { content = item_append s.cells (o ∷ []) m c.content h.content; line = l ∙ h.line }, tt, tt)
    by None h l =
        let u : State = answer t (val.Cell (length s.cells)) (record s { cells = s.cells ++ o ∷ [] }) in
        ⊎_elim
        (λ q.
        let other : length s.cells == m ≡ false = ⊎_elim (λ e. absurd (q.0 e.1)) (λ e. e.0) (equal_or (length s.cells) m) in
        subst (λ qs. Done m s None qs u) (sym (cond_false (length s.cells == m) (Make t o ∷ []) [] other)) (inl ((q.1, l ∙ h.1), refl)))
        (λ q.
        let own : length s.cells == m ≡ true = ⊎_elim (λ e. e.0) (λ e. absurd (e.1 q.0)) (equal_or (length s.cells) m) in
        inr (t, o, cond_true (length s.cells == m) (Make t o ∷ []) [] own, record { content = q.1; line = l ∙ h.1 }, ap (λ k. answered t (val.Cell k) s.threads) q.0))
        (item_last s.cells m o h.0)

-- ---- who leaves

abbrev pub IsLeave : Call V → Type 0
IsLeave (Leave t) = Unit {0}
IsLeave _ = ⊥

abbrev pub OnlyLeaves : List (Call V) → Type 0
OnlyLeaves [] = Unit {0}
OnlyLeaves (q ∷ qs) = IsLeave q × OnlyLeaves qs

leaves_tell : (m : ℕ) (qs : List (Call V)) (c : Cell V) (s u : State) → OnlyLeaves qs → AnswersCalls m qs c s u × NoMake qs
leaves_tell m [] c s u h = (tt, tt)
leaves_tell m (Leave t ∷ qs) c s u h = let k = leaves_tell m qs (call (Leave t) c).cell s u h.1 in ((tt, k.0), ((λ x. x), k.1))
leaves_tell m (q ∷ qs) c s u h = absurd h.0

pub only_both : (qs rs : List (Call V)) → OnlyLeaves qs → OnlyLeaves rs → OnlyLeaves (qs ++ rs)
only_both [] rs h g = g
only_both (q ∷ qs) rs h g = (h.0, only_both qs rs h.1 g)

pub leave_only : (m t : ℕ) (o : Option (Reason V)) → OnlyLeaves (leave_call m t o)
leave_only m t None = tt
leave_only m t (Some r) = by (want_at m r)
  where
    by : (w : Option (Want V)) → OnlyLeaves (leave_if t w)
    by None = tt
    by (Some w) = (tt, tt)

pub leaves_only : (m : ℕ) (ts : List ℕ) (ws : List (Waiting V)) → OnlyLeaves (leave_calls m ts ws)
leaves_only m [] ws = tt
leaves_only m (t ∷ ts) ws = only_both (leave_call m t (reason_of t ws)) (leave_calls m ts ws) (leave_only m t (reason_of t ws)) (leaves_only m ts ws)

-- where the line is empty nobody waits there
nobody : (m t : ℕ) (ws : List (Waiting V)) (r : Reason V) → line_of m ws ≡ [] → reason_of t ws ≡ Some r → want_at m r ≡ None
nobody m t [] r l e = absurd (cc e)
nobody m t (w ∷ ws) r l e = by (want_at m w.reason) refl l (λ k. nobody m t ws r k)
  where
    by : (o : Option (Want V)) → want_at m w.reason ≡ o → with_place w.thread o (line_of m ws) ≡ [] → (line_of m ws ≡ [] → reason_of t ws ≡ Some r → want_at m r ≡ None) → want_at m r ≡ None
    by (Some x) q l rest = absurd (cc l)
    by None q l rest =
        ⊎_elim
        (λ f. let same : w.reason ≡ r = (let z : ◌≡◌ {A = Option (Reason V)} (Some w.reason) (Some r) = sym (cond_true (w.thread == t) (Some w.reason) (reason_of t ws) f.0) ∙ e in cc z) in ap (want_at m) (sym same) ∙ q)
        (λ f. rest l (sym (cond_false (w.thread == t) (Some w.reason) (reason_of t ws) f.0) ∙ e))
        (equal_or w.thread t)

-- the cell after some leaves
abbrev Left : ℕ → Option (Cell V) → List (Call V) → State → Type 0
Left m None qs u = (qs ≡ []) × Present m u None
Left m (Some c) qs u = Shows m u (after_calls qs c)

left_done : (m : ℕ) (s u : State) (c : Option (Cell V)) (qs : List (Call V)) → OnlyLeaves qs → Left m c qs u → Done m s c qs u
left_done m s u None qs o h = inl (h.1, h.0)
left_done m s u (Some c) qs o h = let k = leaves_tell m qs c s u o in (h, k.0, k.1)

left_by : (m t : ℕ) (p : Part) (u : State) (c : Option (Cell V)) (r : Option (Reason V)) → r ≡ reason_of t u.blocked → Once u.blocked → Present m u c → Left m c (leave_call m t r) (resume t p u)
left_by m t p u None None e o h = (refl, (h.0, line_leaves m t u.blocked ∙ ap (leaves_line t) h.1))
left_by m t p u None (Some r) e o h = (ap (leave_if t) (nobody m t u.blocked r h.1 (sym e)), (h.0, line_leaves m t u.blocked ∙ ap (leaves_line t) h.1))
left_by m t p u (Some c) None e o h = record { content = h.content; line = away_leaves m t u.blocked o (subst (Away m) e tt) ∙ h.line }
left_by m t p u (Some c) (Some r) e o h = by (want_at m r) refl
  where
    by : (w : Option (Want V)) → w ≡ want_at m r → Shows m (resume t p u) (after_calls (leave_if t w) c)
    by None q = record { content = h.content; line = away_leaves m t u.blocked o (subst (Away m) e (sym q)) ∙ h.line }
    by (Some w) q = record { content = h.content; line = line_leaves m t u.blocked ∙ ap (leaves_line t) h.line }

pub after_both : (qs rs : List (Call V)) (c : Cell V) → after_calls (qs ++ rs) c ≡ after_calls rs (after_calls qs c)
after_both [] rs c = refl
after_both (q ∷ qs) rs c = after_both qs rs (call q c).cell

-- the others leave as they would have
leaves_same : (m t : ℕ) (ts : List ℕ) (ws : List (Waiting V)) → Absent_in t ts → leave_calls m ts (leaves t ws) ≡ leave_calls m ts ws
leaves_same m t [] ws h = refl
leaves_same m t (u ∷ us) ws h = ap (λ o. leave_call m u o ++ leave_calls m us (leaves t ws)) (reason_left t u ws h.0) ∙ ap (λ z. leave_call m u (reason_of u ws) ++ z) (leaves_same m t us ws h.1)

all_left_by : (m : ℕ) (ts : List ℕ) (p : Part) (u : State) (c : Option (Cell V)) → Once u.blocked → Distinct ts → Present m u c → Left m c (leave_calls m ts u.blocked) (resume_all ts p u)
all_left_by m [] p u None o d h = (refl, h)
all_left_by m [] p u (Some c) o d h = h
all_left_by m (t ∷ ts) p u None o d h =
    let k : Left m None (leave_call m t (reason_of t u.blocked)) (resume t p u) = left_by m t p u None (reason_of t u.blocked) refl o h in
    let n : Left m None (leave_calls m ts (leaves t u.blocked)) (resume_all (t ∷ ts) p u) = all_left_by m ts p (resume t p u) None (once_left t u.blocked o) d.1 k.1 in
    (ap (λ z. z ++ leave_calls m ts u.blocked) k.0 ∙ (sym (leaves_same m t ts u.blocked d.0) ∙ n.0), n.1)
all_left_by m (t ∷ ts) p u (Some c) o d h =
    let qs : List (Call V) = leave_call m t (reason_of t u.blocked) in
    let k : Left m (Some c) qs (resume t p u) = left_by m t p u (Some c) (reason_of t u.blocked) refl o h in
    let n : Left m (Some (after_calls qs c)) (leave_calls m ts (leaves t u.blocked)) (resume_all (t ∷ ts) p u) = all_left_by m ts p (resume t p u) (Some (after_calls qs c)) (once_left t u.blocked o) d.1 k in
    subst (Shows m (resume_all (t ∷ ts) p u)) (ap (λ rs. after_calls rs (after_calls qs c)) (leaves_same m t ts u.blocked d.0) ∙ sym (after_both qs (leave_calls m ts u.blocked) c)) n

-- ---- entries
module _ (m : ℕ) (s : State) (c : Option (Cell V)) (h : Present m s c) (g : Holds s) where
  unchanged : (u : State) → Still m s u → Done m s c [] u
  unchanged u f = still_is m s u c h f

  here : Still m s s
  here = (refl, refl, g.once)

  -- on this cell or on another
  on_cell : (k : ℕ) (f : ℕ → Option (Option V) → Option State) (q : Call V) → Tells m s q → f m None ≡ None → ((d : Cell V) → Shows m s d → FollowsSome m s (f m (Some d.content)) (call q d)) →
      (m ≢ k → StillSome m s (f k (slice_get s.cells k))) → DoneSome m s c (cond (k == m) (q ∷ []) []) (f k (slice_get s.cells k))
  on_cell k f q a n w other =
      ⊎_elim
      (λ e. subst (λ z. DoneSome m s c z (f k (slice_get s.cells k))) (sym (cond_true (k == m) (q ∷ []) [] e.0)) (here_call m s c h k f q a n w e.1))
      (λ e. subst (λ z. DoneSome m s c z (f k (slice_get s.cells k))) (sym (cond_false (k == m) (q ∷ []) [] e.0)) (still_done m s (f k (slice_get s.cells k)) c h (other (λ i. e.1 (sym i)))))
      (equal_or k m)

  module _ (t : ℕ) (b : is_blocked t s.blocked ≡ false) where
    -- t goes on, and cells and the others stay
    goes : (u : State) (p : Part) → u.cells ≡ s.cells → u.blocked ≡ s.blocked → Done m s c [] (resume t p u)
    goes u p e f =
        let l = resume_still m s s t p here (subst (Away m) (sym (not_blocked_reason t s.blocked b)) tt) in
        unchanged (resume t p u) (ap (λ cs. slice_get cs m) e, ap (λ ws. line_of m (leaves t ws)) f ∙ l.1, subst (λ ws. Once (leaves t ws)) (sym f) l.2)

    waits_away : (r : Reason V) → want_at m r ≡ None → Done m s c [] (block t r s)
    waits_away r e = unchanged (block t r s) (block_still m s s t r e b here)

    by_take : {a : Mask} (k : ℕ) {u : State} → row.Performs t a (Calls TakeMVar (val.Cell k ∷ [])) s u → Done m s c (cond (k == m) (Take t ∷ []) []) u
    by_take k q =
        subst (DoneSome m s c (cond (k == m) (Take t ∷ []) [])) (performed_is q)
        (on_cell k (λ j o. take t j o s) (Take t) ((λ x. x), λ d u f. f.threads) refl (λ d w. take_follows m t s d.content d.line (b, w.content, w.line, g.once)) (λ n. take_still m k t s n g.once b (slice_get s.cells k)))

    by_read : {a : Mask} (k : ℕ) {u : State} → row.Performs t a (Calls ReadMVar (val.Cell k ∷ [])) s u → Done m s c (cond (k == m) (Read t ∷ []) []) u
    by_read k q =
        subst (DoneSome m s c (cond (k == m) (Read t ∷ []) [])) (performed_is q)
        (on_cell k (λ j o. read t j o s) (Read t) ((λ x. x), λ d u f. f.threads) refl (λ d w. read_follows m t s d.content d.line (b, w.content, w.line, g.once)) (λ n. read_still m k t s n g.once b (slice_get s.cells k)))

    by_try_take : {a : Mask} (k : ℕ) {u : State} → row.Performs t a (Calls TryTakeMVar (val.Cell k ∷ [])) s u → Done m s c (cond (k == m) (Try_take t ∷ []) []) u
    by_try_take k q =
        subst (DoneSome m s c (cond (k == m) (Try_take t ∷ []) [])) (performed_is q)
        (on_cell k (λ j o. try_take t j o s) (Try_take t) ((λ x. x), λ d u f. f.threads) refl (λ d w. try_take_follows m t s d.content d.line (b, w.content, w.line, g.once)) (λ n. try_take_still m k t s n g.once b (slice_get s.cells k)))

    by_put : {a : Mask} (k : ℕ) (v : V) {u : State} → row.Performs t a (Calls PutMVar (val.Cell k ∷ v ∷ [])) s u → Done m s c (cond (k == m) (Put t v ∷ []) []) u
    by_put k v q =
        subst (DoneSome m s c (cond (k == m) (Put t v ∷ []) [])) (performed_is q)
        (on_cell k (λ j o. put t j v o s) (Put t v) ((λ x. x), λ d u f. f.threads) refl (λ d w. put_follows m t s v d.content d.line (b, w.content, w.line, g.once)) (λ n. put_still m k t s n g.once b v (slice_get s.cells k)))

    by_try_put : {a : Mask} (k : ℕ) (v : V) {u : State} → row.Performs t a (Calls TryPutMVar (val.Cell k ∷ v ∷ [])) s u → Done m s c (cond (k == m) (Try_put t v ∷ []) []) u
    by_try_put k v q =
        subst (DoneSome m s c (cond (k == m) (Try_put t v ∷ []) [])) (performed_is q)
        (on_cell k (λ j o. try_put t j v o s) (Try_put t v) ((λ x. x), λ d u f. f.threads) refl (λ d w. try_put_follows m t s v d.content d.line (b, w.content, w.line, g.once)) (λ n. try_put_still m k t s n g.once b v (slice_get s.cells k)))

    forked_done : (x : Term) → Done m s c [] (spawn x (answer t (val.Thread (length s.threads)) s))
    forked_done x = unchanged (spawn x (answer t (val.Thread (length s.threads)) s)) (resume_still m s s t (Ret (val.Thread (length s.threads))) here (subst (Away m) (sym (not_blocked_reason t s.blocked b)) tt))

    performs_done : {a : Mask} {op : Operation} {u : State} → row.Performs t a op s u → Done m s c (operation_calls m (length s.cells) t op) u
    performs_done (row.prints {x}) = goes (printed x s) (Ret UnitValue) refl refl
    performs_done (row.prints_a_line {x}) = goes (printed line_feed (printed x s)) (Ret UnitValue) refl refl
    performs_done (row.tells_a_line {x}) = goes (told line_feed (told x s)) (Ret UnitValue) refl refl
    performs_done (row.makes_a_full_cell {a = v}) = make_done m t s c h b g.once (Some v)
    performs_done row.makes_an_empty_cell = make_done m t s c h b g.once None
    performs_done {a} (row.take_waits {c = k} q) = by_take {a = a} k (row.take_waits q)
    performs_done {a} (row.takes_and_empties {c = k} q w) = by_take {a = a} k (row.takes_and_empties q w)
    performs_done {a} (row.takes_and_serves {c = k} q w) = by_take {a = a} k (row.takes_and_serves q w)
    performs_done {a} (row.read_waits {c = k} q) = by_read {a = a} k (row.read_waits q)
    performs_done {a} (row.reads {c = k} q) = by_read {a = a} k (row.reads q)
    performs_done {a} (row.put_waits {c = k} {a = v} q) = by_put {a = a} k v (row.put_waits q)
    performs_done {a} (row.puts_and_fills {c = k} {a = v} q w) = by_put {a = a} k v (row.puts_and_fills q w)
    performs_done {a} (row.puts_and_serves {c = k} {a = v} q w) = by_put {a = a} k v (row.puts_and_serves q w)
    performs_done {a} (row.try_take_finds_nothing {c = k} q) = by_try_take {a = a} k (row.try_take_finds_nothing q)
    performs_done {a} (row.try_takes_and_empties {c = k} q w) = by_try_take {a = a} k (row.try_takes_and_empties q w)
    performs_done {a} (row.try_takes_and_serves {c = k} q w) = by_try_take {a = a} k (row.try_takes_and_serves q w)
    performs_done {a} (row.try_put_finds_a_value {c = k} {a = v} q) = by_try_put {a = a} k v (row.try_put_finds_a_value q)
    performs_done {a} (row.try_puts_and_fills {c = k} {a = v} q w) = by_try_put {a = a} k v (row.try_puts_and_fills q w)
    performs_done {a} (row.try_puts_and_serves {c = k} {a = v} q w) = by_try_put {a = a} k v (row.try_puts_and_serves q w)
    performs_done row.names_itself = goes s (Ret (val.Thread t)) refl refl
    performs_done {a} row.names_its_masking = goes s (Ret (Text (masking_text a))) refl refl
    performs_done row.reads_the_clock = goes s (Ret (clock_value s)) refl refl
    performs_done (row.sleeps {n} q) = waits_away (Sleeping (due_in n s)) refl
    performs_done (row.throws_at_itself {e} q) = goes s (Throw e) refl refl
    performs_done (row.throw_waits {u = w} {e} n q f) = waits_away (Throwing w e) refl
    performs_done row.makes_a_timeout = goes (record s { next_timeout = suc s.next_timeout }) (Ret (Exception (Timeout s.next_timeout))) refl refl
    performs_done row.acquires = goes (record s { marks = AcquiredBy s.next_instance t ∷ s.marks; next_instance = suc s.next_instance }) (Ret (Inst s.next_instance)) refl refl
    performs_done (row.releases {i}) = goes (record s { marks = ReleasedBy i t ∷ s.marks }) (Ret UnitValue) refl refl
    performs_done {a} (row.forks {a = x} {env}) = forked_done (term (Do x env) (MaskIn a ∷ []))
    performs_done {a} (row.forks_unmasked {r} {a = x} {env}) = forked_done (term (Do x (with_name r (val.Restore Unmasked) env)) (MaskIn a ∷ []))
    performs_done _ = goes s (Ret UnitValue) refl refl

  -- each waits for its reason, and nobody throws at itself
  abbrev Apartly : ℕ → Reason V → Type 0
  Apartly u r = (reason_of u s.blocked ≡ Some r) × Apart u r

  each_apartly : (ws : List (Waiting V)) → Each (λ u r. reason_of u s.blocked ≡ Some r) ws → Each (Waits s.threads) ws → Each Apartly ws
  each_apartly [] a b = tt
  each_apartly (w ∷ ws) a b = ((a.0, b.0.1), each_apartly ws a.1 b.1)

  hit_done : (t : ℕ) (w : Flying) (fs : List Flying) → flying_to t (flight_of s.blocked) ≡ w ∷ fs → Done m s c (leave_call m t (reason_of t s.blocked)) (resume t (Throw w.exn) (answer w.thrower UnitValue s))
  hit_done t w fs q =
      let f : Found Apartly (throws t) (Some (w.thrower, w.exn)) = subst (Found Apartly (throws t)) (sym (throw_is_first t s.blocked) ∙ ap first_thrown q) (first_found Apartly (throws t) s.blocked (each_apartly s.blocked (once_reason s.blocked g.once) g.waits)) in
      let means : f.0 ≡ Throwing t w.exn = throws_means t f.0 w.exn f.2 in
      let apart : w.thrower ≢ t = subst (Apart w.thrower) means f.1.1 in
      let same : reason_of t s.blocked ≡ reason_of t (leaves w.thrower s.blocked) = sym (reason_left w.thrower t s.blocked (λ e. apart (sym e))) in
      let a : Still m s (answer w.thrower UnitValue s) = resume_still m s s w.thrower (Ret UnitValue) here (subst (Away m) (sym f.1.0) (ap (want_at m) means)) in
      left_done m s (resume t (Throw w.exn) (answer w.thrower UnitValue s)) c (leave_call m t (reason_of t s.blocked)) (leave_only m t (reason_of t s.blocked))
      (left_by m t (Throw w.exn) (answer w.thrower UnitValue s) c (reason_of t s.blocked) same a.2 (still_present c h a))
    where
      still_present : (c : Option (Cell V)) → Present m s c → Still m s (answer w.thrower UnitValue s) → Present m (answer w.thrower UnitValue s) c
      still_present None h a = (a.0 ∙ h.0, a.1 ∙ h.1)
      still_present (Some c) h a = record { content = a.0 ∙ h.content; line = a.1 ∙ h.line }

  throw_away : (t u : ℕ) (r : Reason V) → throws_at t r ≡ true → want_at m r ≡ None
  throw_away t u (Throwing w x) q = refl
  throw_away t u _ q = absurd (cc q)

  close_done : (t : ℕ) (th : Thread) (u : State) → Still m s u → Done m s c [] (finished t th u)
  close_done t th u a =
      let z : State = record u { threads = slice_set u.threads t (record { term = th.term; finished = true }) } in
      unchanged (finished t th u) (subst (λ us. Still m s (resume_all us (Ret UnitValue) z)) (sym (throwers_are t u.blocked)) (those_still m s z (λ w. throws_at t) (Ret UnitValue) a (throw_away t)))

  enters_done : {code : Code} {e : Entry} {u : State} → row.Enters code s e u → Done m s c (calls_of m s e) u
  enters_done (row.local {t} {x} mr i b l) = unchanged (move t x s) here
  enters_done {u} (row.operation {t} {th} mr i b q k) =
      subst (λ o. Done m s c (thread_calls m (length s.cells) t o) u) (sym i.0) (subst (λ p. Done m s c (part_calls m (length s.cells) t p) u) (sym q) (performs_done t b k))
  enters_done (row.receives_while_it_runs {t} {f} {fs} mr i n b k q) = hit_done t f fs q
  enters_done (row.receives_while_it_waits {t} {f} {fs} mr i n b k q) = hit_done t f fs q
  enters_done (row.wakes {t} mr q d) = unchanged (answer t UnitValue s) (resume_still m s s t (Ret UnitValue) here (subst (Away m) (sym q) refl))
  enters_done (row.finishes_by_a_value {t} {th} mr i f q) = close_done t th s here
  enters_done (row.main_finishes_by_an_exception {th} {e = x} i f q) = close_done 0 th (told (uncaught_line 0 x) s) here
  enters_done (row.finishes_silently {t} {th} mr i f q z) = close_done (suc t) th s here
  enters_done (row.finishes_with_a_line {t} {th} {e = x} mr i f q z) =
      close_done (suc t) th (told (codes "uncaught exception in thread " ++ decimal (suc t) ++ codes ": " ++ text_of x ++ line_feed) s) here
  enters_done (row.ticks {at} mr q) = unchanged (record s { clock = at }) here
  enters_done (row.strands mr q a) =
      subst (λ ts. Done m s c (leave_calls m (stranded s) s.blocked) (resume_all ts (Throw BlockedIndefinitely) s)) (all_are a)
      (left_done m s (resume_all (stranded s) (Throw BlockedIndefinitely) s) c (leave_calls m (stranded s) s.blocked) (leaves_only m (stranded s) s.blocked)
      (all_left_by m (stranded s) (Throw BlockedIndefinitely) s c g.once (stranded_distinct (length s.threads) s) h))

  pub next_done : (code : Code) (e : Entry) → DoneSome m s c (calls_of m s e) (next code s e)
  next_done code e = by (next code s e) refl
    where
      by : (o : Option State) → next code s e ≡ o → DoneSome m s c (calls_of m s e) o
      by None q = tt
      by (Some u) q = enters_done (case_of code s e u q)
