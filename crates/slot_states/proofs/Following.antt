-- Threads with slots and threads of the rules change alike, step by step within one entry, which leaves a state that is stood for.
use Rattle.std.proofs.Common.{◌≡◌, ◌≢◌, ℕ, ◌==◌, List, [], ◌∷◌, length, slice_get, slice_set, Bool, true, false, cond, Option, Some, None, refl, sym, ap, ◌∙◌, subst, ⊎_elim, ◌+◌}
use Rattle.hs_base.specs.declared.tree.script.Script.{Script}
use Rattle.hs_rules.specs.declared.entry.Entry.{Entry}
use Rattle.rules_expansion.specs.trees.Programs.{Fn, script_of}
use Rattle.rules_meaning.specs.Values.{V}
use Rattle.rules_meaning.specs.CoreMeaning.{code_of}
use Rattle.rules_typing.specs.TypingScripts.{Accepted}
use Rattle.hs_rules.specs.Terms.{Part, Term, term}
use Rattle.rules_waiting.specs.Waiting.{Reason, Waiting, blocks, leaves, is_blocked, flight_of, sleepers_of, sorted_sleepers}
use Rattle.hs_rules.specs.State.{Thread, State, with_term, frames_of}
use Rattle.hs_rules.specs.Entries.{Leads}
use Rattle.hs_rules.specs.Runs.{IsRun}
use Rattle.hs_laws.proofs.Lists.{cond_true, cond_false, equal_or, item_same, item_other}
use Rattle.hs_laws.proofs.States.{other_thread}
use Rattle.hs_laws.proofs.Growing.{term_length, set_length}
use Rattle.hs_laws.proofs.Stranding.{left_free}
use Rattle.hs_progress.specs.TypedStates.{Stays}
use Rattle.slot_laws.proofs.StacksStand.{entries_stand}
use Rattle.slot_laws.specs.SlotRules.{SlotPart, SlotTerm, at}
use Rattle.slot_laws.specs.Standing.{EndsAs}
use Rattle.slot_laws.specs.Stacks.{Resumed, stayed, resumed, with_stack}
use Rattle.slot_states.specs.SlotStates as slots
use Rattle.slot_states.specs.SlotStates.{SlotThread, SlotState, set_thread, changed, resumed_by, blocking, blocked_at, finishing, finished_at, SameThread, SameCell, Agrees, terms, term_at, Represents}

-- ---- lists

pub changed_is : (ths : List SlotThread) (t : ℕ) (f : SlotThread → SlotThread) (th : SlotThread) → slice_get ths t ≡ Some th → slice_get (changed t f ths) t ≡ Some (f th)
changed_is ths t f th e = ap (λ o. slice_get (set_thread t f o ths) t) e ∙ item_same ths t th (f th) e

other_set : (ths : List SlotThread) (t u : ℕ) (f : SlotThread → SlotThread) (o : Option SlotThread) → u ≢ t → slice_get (set_thread t f o ths) u ≡ slice_get ths u
other_set ths t u f None n = refl
other_set ths t u f (Some th) n = item_other ths t u (f th) n

pub changed_other : (ths : List SlotThread) (t u : ℕ) (f : SlotThread → SlotThread) → u ≢ t → slice_get (changed t f ths) u ≡ slice_get ths u
changed_other ths t u f n = other_set ths t u f (slice_get ths t) n

set_count : (ths : List SlotThread) (t : ℕ) (f : SlotThread → SlotThread) (o : Option SlotThread) → length (set_thread t f o ths) ≡ length ths
set_count ths t f None = refl
set_count ths t f (Some th) = set_length ths t (f th)

pub changed_count : (ths : List SlotThread) (t : ℕ) (f : SlotThread → SlotThread) → length (changed t f ths) ≡ length ths
changed_count ths t f = set_count ths t f (slice_get ths t)

-- the stacks where one changed
pub changed_terms : (ths : List SlotThread) (t : ℕ) (f : SlotThread → SlotThread) (th : SlotThread) → slice_get ths t ≡ Some th → (v : ℕ) → terms (changed t f ths) v ≡ with_stack t (f th).term (terms ths) v
changed_terms ths t f th is v =
    ⊎_elim
    (λ e. ap (terms (changed t f ths)) e.1 ∙ (ap term_at (changed_is ths t f th is) ∙ sym (cond_true (v == t) (f th).term (terms ths v) e.0)))
    (λ e. ap term_at (changed_other ths t v f e.1) ∙ sym (cond_false (v == t) (f th).term (terms ths v) e.0))
    (equal_or v t)

pub term_is : (ths : List Thread) (t : ℕ) (x : Term) (th : Thread) → slice_get ths t ≡ Some th → slice_get (with_term t (slice_get ths t) x ths) t ≡ Some (record { term = x; finished = th.finished })
term_is ths t x th e = ap (λ o. slice_get (with_term t o x ths) t) e ∙ item_same ths t th (record { term = x; finished = th.finished }) e

-- what holds at one number and at all others
pub at_or : (P : ℕ → Type 0) (t : ℕ) → P t → ((v : ℕ) → v ≢ t → P v) → (v : ℕ) → P v
at_or P t h k v = ⊎_elim (λ e. subst P (sym e.1) h) (λ e. k v e.1) (equal_or v t)

-- ---- who is blocked
pub blocked_left : (t u : ℕ) (ws : List (Waiting V)) → u ≢ t → is_blocked u (leaves t ws) ≡ is_blocked u ws
blocked_left t u [] n = refl
blocked_left t u (w ∷ ws) n =
    ⊎_elim
    (λ e.
    let apart : w.thread ≢ u = λ q. n (sym q ∙ e.1) in
    ap (is_blocked u) (cond_true (w.thread == t) (leaves t ws) (w ∷ leaves t ws) e.0)
    ∙ (blocked_left t u ws n ∙ sym (cond_false (w.thread == u) true (is_blocked u ws) (⊎_elim (λ f. absurd (apart f.1)) (λ f. f.0) (equal_or w.thread u)))))
    (λ e. ap (is_blocked u) (cond_false (w.thread == t) (leaves t ws) (w ∷ leaves t ws) e.0) ∙ ap (cond (w.thread == u) true) (blocked_left t u ws n))
    (equal_or w.thread t)

pub blocked_own : (t : ℕ) (r : Reason V) (ws : List (Waiting V)) → is_blocked t (blocks t r ws) ≡ true
blocked_own t r [] = ⊎_elim (λ e. cond_true (t == t) true false e.0) (λ e. absurd (e.1 refl)) (equal_or t t)
blocked_own t r (w ∷ ws) = ap (cond (w.thread == t) true) (blocked_own t r ws) ∙ both (w.thread == t)
  where
    both : (b : Bool) → cond b true true ≡ true
    both true = refl
    both false = refl

pub blocked_more : (t u : ℕ) (r : Reason V) (ws : List (Waiting V)) → u ≢ t → is_blocked u (blocks t r ws) ≡ is_blocked u ws
blocked_more t u r [] n = ⊎_elim (λ e. absurd (n (sym e.1))) (λ e. cond_false (t == u) true false e.0) (equal_or t u)
blocked_more t u r (w ∷ ws) n = ap (cond (w.thread == u) true) (blocked_more t u r ws n)

-- ---- threads that change alike

-- From threads xs with slots and threads ts of the rules on: as many, each says rightly whether it is blocked and has
-- finished, and each pair stayed as it was or got the same value or exception.
pub record Follow (xs : List SlotThread) (ts : List Thread) (ys : List SlotThread) (us : List Thread) (ws : List (Waiting V)) : Type 0 where
  pub count : length ys ≡ length us
  pub long : length us ≡ length ts
  pub same : (t : ℕ) → SameThread (slice_get ys t) (slice_get us t) (is_blocked t ws)
  pub terms : (t : ℕ) (a b : Thread) → slice_get ts t ≡ Some a → slice_get us t ≡ Some b → Resumed (terms xs t) a.term (terms ys t) b.term

pub same_some : {A : Type 0} (o : Option A) (a b : A) → o ≡ Some a → o ≡ Some b → a ≡ b
same_some o a b p q = let z : Some a ≡ Some b = sym p ∙ q in cc z

pub resumed_more : {st : SlotTerm} {u : Term} {st' : SlotTerm} {u' : Term} (p : SlotPart) (q : Part) → EndsAs q p → Resumed st u st' u' → Resumed st u (at p st'.frames) (term q u'.frames)
resumed_more p q end (stayed e f) = resumed p q end (ap (λ (z : SlotTerm). at p z.frames) e) (ap (λ (z : Term). term q z.frames) f)
resumed_more p q end (resumed p' q' end' e f) = resumed p q end (ap (λ (z : SlotTerm). at p z.frames) e) (ap (λ (z : Term). term q z.frames) f)

-- ---- both as they are
pub follow_start : (ds : List Fn) (x : SlotState) (s : State) → Represents ds x s → Follow x.threads s.threads x.threads s.threads s.blocked
follow_start ds x s r = record {
  count = r.agrees.count;
  long = refl;
  same = r.agrees.threads;
  terms = λ t a b p q. stayed refl (ap (λ (z : Thread). z.term) (same_some (slice_get s.threads t) b a q p));
}

-- ---- one of both
module _ (xs : List SlotThread) (ts : List Thread) (ys : List SlotThread) (us : List Thread) (ws : List (Waiting V)) (f : Follow xs ts ys us ws) where
  -- a thread with slots, where there is one of the rules
  pub follow_there : (t : ℕ) (b : Thread) → slice_get us t ≡ Some b → (y : SlotThread) × (slice_get ys t ≡ Some y) × (y.finished ≡ b.finished) × (y.blocked ≡ is_blocked t ws)
  follow_there t b e = by (slice_get ys t) refl (subst (λ o. SameThread (slice_get ys t) o (is_blocked t ws)) e (f.same t))
    where
      by : (o : Option SlotThread) → slice_get ys t ≡ o → SameThread o (Some b) (is_blocked t ws) → (y : SlotThread) × (slice_get ys t ≡ Some y) × (y.finished ≡ b.finished) × (y.blocked ≡ is_blocked t ws)
      by None q h = absurd h
      by (Some y) q h = (y, q, h.0, h.1)

  -- what a pair becomes
  pair_terms : (t : ℕ) (a b : Thread) (y : SlotThread) → slice_get ts t ≡ Some a → slice_get us t ≡ Some b → slice_get ys t ≡ Some y → Resumed (terms xs t) a.term y.term b.term
  pair_terms t a b y p q e = subst (λ o. Resumed (terms xs t) a.term (term_at o) b.term) e (f.terms t a b p q)

  -- thread t, which is there, changes on both sides, and no other
  module _ (t : ℕ) (th : Thread) (is : slice_get us t ≡ Some th) (change : SlotThread → SlotThread) (new : Thread) (us' : List Thread) (ws' : List (Waiting V)) (now : slice_get us' t ≡ Some new) (long : length us' ≡ length us)
      (others : (v : ℕ) → v ≢ t → (slice_get us' v ≡ slice_get us v) × (is_blocked v ws' ≡ is_blocked v ws))
      (tells : (y : SlotThread) → y.finished ≡ th.finished → y.blocked ≡ is_blocked t ws → ((change y).finished ≡ new.finished) × ((change y).blocked ≡ is_blocked t ws'))
      (goes : (st : SlotTerm) (u : Term) (y : SlotThread) → Resumed st u y.term th.term → Resumed st u (change y).term new.term) where
    abbrev changed_ys : List SlotThread
    changed_ys = changed t change ys

    own_terms : (a b : Thread) → slice_get ts t ≡ Some a → slice_get us' t ≡ Some b → Resumed (terms xs t) a.term (terms changed_ys t) b.term
    own_terms a b ia ib =
        let y = follow_there t th is in
        subst (λ (z : Thread). Resumed (terms xs t) a.term (terms changed_ys t) z.term) (same_some (slice_get us' t) new b now ib)
        (subst (λ o. Resumed (terms xs t) a.term (term_at o) new.term) (sym (changed_is ys t change y.0 y.1)) (goes (terms xs t) a.term y.0 (pair_terms t a th y.0 ia is y.1)))

    one_changes : Follow xs ts changed_ys us' ws'
    one_changes = record {
      count = changed_count ys t change ∙ (f.count ∙ sym long);
      long = long ∙ f.long;
      same = at_or (λ v. SameThread (slice_get changed_ys v) (slice_get us' v) (is_blocked v ws')) t
          (let y = follow_there t th is in rw (changed_is ys t change y.0 y.1, now) (tells y.0 y.2 y.3))
          (λ v n. let k = others v n in rw (changed_other ys t v change n, k.0, k.1) (f.same v));
      terms = at_or (λ v. (a b : Thread) → slice_get ts v ≡ Some a → slice_get us' v ≡ Some b → Resumed (terms xs v) a.term (terms changed_ys v) b.term) t own_terms
          (λ v n a b ia ib. subst (λ o. Resumed (terms xs v) a.term (term_at o) b.term) (sym (changed_other ys t v change n)) (f.terms v a b ia (sym (others v n).0 ∙ ib)));
    }

  -- thread t gets a value or an exception, and is blocked no more
  module _ (t : ℕ) (p : SlotPart) (q : Part) (end : EndsAs q p) where
    abbrev us' : List Thread
    us' = with_term t (slice_get us t) (term q (frames_of (slice_get us t))) us

    abbrev ys' : List SlotThread
    ys' = slots.resumed t p ys

    new_of : (b : Thread) → slice_get us t ≡ Some b → slice_get us' t ≡ Some (record { term = term q b.term.frames; finished = b.finished })
    new_of b e = ap (λ o. slice_get (with_term t (slice_get us t) (term q (frames_of o)) us) t) e ∙ term_is us t (term q b.term.frames) b e

    -- where there is none, there is none with slots
    absent : slice_get us t ≡ None → slice_get ys t ≡ None
    absent e = by (slice_get ys t) (subst (λ o. SameThread (slice_get ys t) o (is_blocked t ws)) e (f.same t))
      where
        by : (o : Option SlotThread) → SameThread o None (is_blocked t ws) → o ≡ None
        by None h = refl
        by (Some y) h = absurd h

    pub follow_resume : Follow xs ts ys' us' (leaves t ws)
    follow_resume = by (slice_get us t) refl
      where
        by : (o : Option Thread) → slice_get us t ≡ o → Follow xs ts ys' us' (leaves t ws)
        by (Some b) e =
            one_changes t b e (resumed_by p) (record { term = term q b.term.frames; finished = b.finished }) us' (leaves t ws) (new_of b e) (term_length t (slice_get us t) (term q (frames_of (slice_get us t))) us)
            (λ v n. (other_thread us t v (slice_get us t) (term q (frames_of (slice_get us t))) n, blocked_left t v ws n)) (λ y g h. (g, sym (left_free t ws))) (λ st u y h. resumed_more p q end h)
        by None e =
            subst (λ zs. Follow xs ts zs us' (leaves t ws)) (sym (ap (λ o. set_thread t (resumed_by p) o ys) (absent e)))
            (subst (λ vs. Follow xs ts ys vs (leaves t ws)) (sym (ap (λ o. with_term t o (term q (frames_of (slice_get us t))) us) e)) (record {
              count = f.count;
              long = f.long;
              same = at_or (λ v. SameThread (slice_get ys v) (slice_get us v) (is_blocked v (leaves t ws))) t (rw (absent e, e) tt) (λ v n. rw (blocked_left t v ws n) (f.same v));
              terms = f.terms;
            }))

  -- thread t, which is there, blocks
  pub follow_block : (t : ℕ) (r : Reason V) (th : Thread) → slice_get us t ≡ Some th → Follow xs ts (blocked_at t ys) us (blocks t r ws)
  follow_block t r th is = one_changes t th is blocking th us (blocks t r ws) is refl (λ v n. (refl, blocked_more t v r ws n)) (λ y g h. (g, sym (blocked_own t r ws))) (λ st u y h. h)

  -- thread t, which is there, finishes
  pub follow_finish : (t : ℕ) (th : Thread) → slice_get us t ≡ Some th → Follow xs ts (finished_at t ys) (slice_set us t (record { term = th.term; finished = true })) ws
  follow_finish t th is =
      let new : Thread = record { term = th.term; finished = true } in
      one_changes t th is finishing new (slice_set us t new) ws (item_same us t th new is) (set_length us t new) (λ v n. (item_other us t v new n, refl)) (λ y g h. (refl, h)) (λ st u y h. h)

-- ---- the state that an entry leaves

-- all but the threads
pub record Parts (y : SlotState) (u : State) : Type 0 where
  pub made : length y.cells ≡ length u.cells
  pub cells : (m : ℕ) → SameCell m u (slice_get y.cells m)
  pub flight : y.flight ≡ flight_of u.blocked
  pub sleepers : y.sleepers ≡ sorted_sleepers (sleepers_of u.blocked)
  pub clock : y.clock ≡ u.clock
  pub instances : y.next_instance ≡ u.next_instance
  pub timeouts : y.next_timeout ≡ u.next_timeout
  pub printed : y.printed ≡ length u.output + length u.errors

pub parts_of : (x : SlotState) (s : State) → Agrees x s → Parts x s
parts_of x s a = record { made = a.made; cells = a.cells; flight = a.flight; sleepers = a.sleepers; clock = a.clock; instances = a.instances; timeouts = a.timeouts; printed = a.printed }

-- with threads that are told rightly they are a state that agrees
pub agreeing : (y : SlotState) (u : State) → length y.threads ≡ length u.threads → ((t : ℕ) → SameThread (slice_get y.threads t) (slice_get u.threads t) (is_blocked t u.blocked)) → Parts y u → Agrees y u
agreeing y u n same p = record { count = n; threads = same; made = p.made; cells = p.cells; flight = p.flight; sleepers = p.sleepers; clock = p.clock; instances = p.instances; timeouts = p.timeouts; printed = p.printed }

pub entered : (script : Script) → Accepted script → (es : List Entry) (s u : State) (e : Entry) (x y : SlotState) → IsRun (script_of script) es s → Represents (script_of script) x s → Leads (code_of (script_of script)) s e u → ((t : ℕ) → Stays e t) →
    Follow x.threads s.threads y.threads u.threads u.blocked → Parts y u → (v : State) × Leads (code_of (script_of script)) s e v × Represents (script_of script) y v
entered script accepted es s u e x y run r leads all f p = (
  u,
  leads,
  record {
    stacks = entries_stand script accepted es s u e run leads.0 all f.long (terms x.threads) (terms y.threads) r.stacks f.terms;
    agrees = agreeing y u f.count f.same p;
  },
)
