-- What a thread that stands before a eager local rule can do itself, and what comes of an exception from outside.
use Rattle.std.proofs.Common.{◌≡◌, ℕ, List, [], ◌∷◌, ◌++◌, slice_get, slice_set, Bool, true, false, not, ◌&&◌, ◌||◌, Option, Some, None, refl, sym, ap, ◌∙◌, subst, ◌⊎◌, inl, inr, ⊎_elim, suc}
use Rattle.std.proofs.lemmas.Bool.{and_parts}
use Rattle.hs_base.specs.declared.exn.Exn.{Exn}
use Rattle.hs_rules.specs.declared.entry.Entry.{Entry}
use Rattle.hs_rules.specs.declared.entry.Entry.TheVariants as entry
use Rattle.rules_meaning.specs.Values.{V, UnitValue}
use Rattle.rules_meaning.specs.CoreMeaning.{Code}
use Rattle.hs_rules.specs.Terms.{Part, Ret, Throw, Do, Performs, Frame, BindTo, CatchBy, MaskIn, Term, term, mask_at}
use Rattle.hs_rules.specs.LocalRules.{local, locals, first_step, on_top, on_term}
use Rattle.rules_waiting.specs.Waiting.{Flying, leaves, is_blocked, flight_of, flying_to, first_thrown}
use Rattle.hs_rules.specs.State.{Thread, State, with_term, frames_of, resume, answer}
use Rattle.hs_rules.specs.Entries.{is_throw, is_unmasked, is_open, is_receptive, received, receive_entry, finish_entry, on_thread, next}
use Rattle.hs_rules.specs.Entries as entries
use Rattle.hs_laws.proofs.Lists.{cond_true, equal_or, item_same, item_other, Found, first_found, throws, throw_is_first, not_blocked_left}
use Rattle.outcome_laws.proofs.timing_lemmas.Passing.{same_item, passed, thread_there, on_running}
use Rattle.outcome_laws.specs.reduction.EagerRules.{passes, passes_all, step_is_eager, leaving_is_eager, is_eager_though_open, is_eager, thread_is_eager, EagerRule}
use Rattle.outcome_laws.specs.reduction.Paths.{MainRuns}
use Rattle.outcome_laws.proofs.reduction_lemmas.Lists.{set_twice}
use Rattle.outcome_laws.proofs.reduction_lemmas.Tests.{there_is}
use Rattle.outcome_laws.proofs.reduction_lemmas.NobodyThrows.{nobody_throws_kept, none_receives}
use Rattle.outcome_laws.specs.reduction.NoThrowTo.{NobodyThrows}
use Rattle.hs_laws.proofs.SameCases.{put_in}
use Rattle.outcome_laws.proofs.reduction_lemmas.Apart.{Stands, SameFlag, same_flag, flags, resumed, Other, all_other}
use Rattle.hs_laws.specs.cases.Cases as row
use Rattle.hs_laws.proofs.cases_lemmas.Entering.{case_of, entered_is, not_true}

-- ---- main

pub main_runs : (s : State) (k : Thread → Option State) (u : State) → on_thread (slice_get s.threads 0) k ≡ Some u → MainRuns s
main_runs s k u e = let h = thread_there (slice_get s.threads 0) k u e in (h.0, h.1, h.2)

pub main_same : (a b : State) → SameFlag (slice_get a.threads 0) (slice_get b.threads 0) → MainRuns a → MainRuns b
main_same a b f m = by (slice_get b.threads 0) refl (subst (λ o. SameFlag o (slice_get b.threads 0)) m.1 f)
  where
    by : (o : Option Thread) → slice_get b.threads 0 ≡ o → SameFlag (Some m.0) o → MainRuns b
    by None e g = absurd g
    by (Some z) e g = (z, e, g ∙ m.2)

flag_moved : (ths : List Thread) (v : ℕ) (x : Term) (o : Option Thread) → slice_get ths v ≡ o → SameFlag (slice_get ths 0) (slice_get (with_term v o x ths) 0)
flag_moved ths v x None e = same_flag (slice_get ths 0)
flag_moved ths v x (Some z) e =
    ⊎_elim
    (λ q. subst (λ k. SameFlag (slice_get ths k) (slice_get (slice_set ths v (record { term = x; finished = z.finished })) k)) (sym q.1)
    (subst (λ p. SameFlag p (slice_get (slice_set ths v (record { term = x; finished = z.finished })) v)) (sym e)
    (subst (SameFlag (Some z)) (sym (item_same ths v z (record { term = x; finished = z.finished }) e)) refl)))
    (λ q. subst (SameFlag (slice_get ths 0)) (sym (item_other ths v 0 (record { term = x; finished = z.finished }) q.1)) (same_flag (slice_get ths 0)))
    (equal_or 0 v)

main_resumed : (s : State) (v : ℕ) (p : Part) → MainRuns s → MainRuns (resume v p s)
main_resumed s v p m = main_same s (resume v p s) (flag_moved s.threads v (term p (frames_of (slice_get s.threads v))) (slice_get s.threads v) refl) m

-- ---- a thread before a eager local rule

pub record Poised (code : Code) (t : ℕ) (s : State) (th : Thread) (x : Term) : Type 0 where
  pub is : slice_get s.threads t ≡ Some th
  pub unfinished : th.finished ≡ false
  pub free : is_blocked t s.blocked ≡ false
  pub rule : local code th.term.part th.term.frames ≡ Some x
  pub eager : (is_eager code th.term.part th.term.frames ≡ true) ⊎ NobodyThrows code s

-- the thread after it
abbrev pub gone : Thread → Term → Thread
gone th x = record { term = x; finished = th.finished }

pub stands : {code : Code} {t : ℕ} {s : State} {th : Thread} {x : Term} → Poised code t s th x → Stands t th s
stands h = record { is = h.is; free = h.free }

pub poised_on : {code : Code} {t : ℕ} {s : State} {th : Thread} {x : Term} → Poised code t s th x → (e : Entry) (u : State) → next code s e ≡ Some u → Stands t th u → Poised code t u th x
poised_on {code} {t} {s} h e u l k = record { is = k.is; unfinished = h.unfinished; free = k.free; rule = h.rule; eager = ⊎_elim (λ c. inl c) (λ q. inr (nobody_throws_kept code s e u q l)) h.eager }

-- ---- local rules of a thread

pub local_next : (code : Code) (t k : ℕ) (s : State) (th : Thread) (y : Term) → MainRuns s → Stands t th s → th.finished ≡ false → locals code (suc k) th.term ≡ Some y →
    next code s (entry.Local t (suc k)) ≡ Some (put_in t (gone th y) s)
local_next code t k s th y m h f e = entered_is (row.local (m.0, (m.1, m.2)) (h.is, f) h.free e) ∙ ap (λ o. Some (record s { threads = with_term t o y s.threads })) h.is

-- what some local rules stand for
pub record Went (code : Code) (t k : ℕ) (s m : State) : Type 0 where
  pub thread : Thread
  pub term : Term
  pub stands : Stands t thread s
  pub unfinished : thread.finished ≡ false
  pub rules : locals code (suc k) thread.term ≡ Some term
  pub leaves : m ≡ put_in t (gone thread term) s
  pub main : MainRuns s

went_by : {code : Code} {t k : ℕ} {s m : State} → row.Enters code s (entry.Local t (suc k)) m → Went code t k s m
went_by {t} {s} (row.local {th} {x} r i b l) = record { thread = th; term = x; stands = record { is = i.0; free = b }; unfinished = i.1; rules = l; leaves = ap (λ o. record s { threads = with_term t o x s.threads }) i.0; main = (r.0, r.1.0, r.1.1) }

pub went : (code : Code) (t k : ℕ) (s m : State) → next code s (entry.Local t (suc k)) ≡ Some m → Went code t k s m
went code t k s m e = went_by (case_of code s (entry.Local t (suc k)) m e)

pub poised_next : (code : Code) (t : ℕ) (s : State) (th : Thread) (x : Term) → MainRuns s → Poised code t s th x → next code s (entry.Local t 1) ≡ Some (put_in t (gone th x) s)
poised_next code t s th x m h = local_next code t 0 s th x m (stands h) h.unfinished (ap (λ o. on_term o (λ u. locals code 0 u)) h.rule)

-- what a eager local rule stands for
pub record Known (code : Code) (t : ℕ) (s u : State) : Type 0 where
  pub thread : Thread
  pub term : Term
  pub poised : Poised code t s thread term
  pub leaves : u ≡ put_in t (gone thread term) s
  pub main : MainRuns s

one_rule : (o : Option Term) (x : Term) → on_term o (λ z. Some z) ≡ Some x → o ≡ Some x
one_rule None x e = absurd (cc e)
one_rule (Some y) x e = e

pub known : {code : Code} {t : ℕ} {s u : State} → EagerRule code t s u → Known code t s u
known {code} {t} {s} {u} c =
    let w = went code t 0 s u c.leads.0 in
    record {
      thread = w.thread;
      term = w.term;
      poised = record {
        is = w.stands.is;
        unfinished = w.unfinished;
        free = w.stands.free;
        rule = one_rule (local code w.thread.term.part w.thread.term.frames) w.term w.rules;
        eager = ⊎_elim (λ q. inl (ap (thread_is_eager code) (sym w.stands.is) ∙ q)) (λ q. inr q) c.eager;
      };
      leaves = w.leaves;
      main = w.main;
    }

pub eager_of : (code : Code) (t : ℕ) (s : State) (th : Thread) (x : Term) → MainRuns s → Poised code t s th x → EagerRule code t s (put_in t (gone th x) s)
eager_of code t s th x m h = record { leads = (poised_next code t s th x m h, tt); eager = ⊎_elim (λ q. inl (ap (thread_is_eager code) h.is ∙ q)) (λ q. inr q) h.eager }

-- ---- it performs nothing and doesn't finish

module _ (code : Code) (t : ℕ) (s : State) (th : Thread) (x : Term) (h : Poised code t s th x) where
  on_own : (k : Thread → Option State) (u : State) → on_thread (slice_get s.threads 0) (λ main. on_thread (slice_get s.threads t) k) ≡ Some u → k th ≡ Some u
  on_own k u e = there_is (slice_get s.threads t) th k u h.is (thread_there (slice_get s.threads 0) (λ main. on_thread (slice_get s.threads t) k) u e).3

  no_op_by : {u : State} → row.Enters code s (entry.Op t) u → ⊥
  no_op_by (row.operation {th = z} {p} m i b q d) =
      let own : z ≡ th = same_item (sym i.0 ∙ h.is) in
      let e : None ≡ Some x = ap (λ y. local code y th.term.frames) (sym q ∙ ap (λ (y : Thread). y.term.part) own) ∙ h.rule in
      cc e

  pub no_op : (u : State) → next code s (entry.Op t) ≡ Some u → ⊥
  no_op u e = no_op_by (case_of code s (entry.Op t) u e)

  no_end : (p : Part) (fs : List Frame) (u : State) → local code p fs ≡ Some x → finish_entry t th fs p s ≡ Some u → ⊥
  no_end (Ret v) [] u r e = cc r
  no_end (Throw z) [] u r e = cc r
  no_end (Do a env) [] u r e = cc e
  no_end (Performs o) [] u r e = cc e
  no_end p (f ∷ fs) u r e = cc e

  pub no_finish : (u : State) → next code s (entry.Finish t) ≡ Some u → ⊥
  no_finish u e = no_end th.term.part th.term.frames u h.rule (on_own (λ z. finish_entry t z z.term.frames z.term.part s) u e)

  pub own_local : (u : State) → next code s (entry.Local t 1) ≡ Some u → u ≡ put_in t (gone th x) s
  own_local u e = sym (same_item (sym (poised_next code t s th x (main_runs s _ u e) h) ∙ e))

-- ---- an exception from outside

-- exceptions pass the frames that are added, or the one that is left
abbrev pub Near : List Frame → List Frame → Type 0
Near fs hs = ((gs : List Frame) × (passes_all gs ≡ true) × (hs ≡ gs ++ fs)) ⊎ ((f : Frame) × (passes f ≡ true) × (fs ≡ f ∷ hs))

pub record Opens (fs : List Frame) (x : Term) : Type 0 where
  pub part : is_throw x.part ≡ false
  pub unmasked : is_unmasked (mask_at x.frames) ≡ true
  pub near : Near fs x.frames

unmasked_more : (gs fs : List Frame) → passes_all gs ≡ true → is_unmasked (mask_at fs) ≡ true → is_unmasked (mask_at (gs ++ fs)) ≡ true
unmasked_more [] fs p m = m
unmasked_more (BindTo x b env ∷ gs) fs p m = unmasked_more gs fs p m
unmasked_more (CatchBy x b env ∷ gs) fs p m = absurd (cc p)
unmasked_more (MaskIn k ∷ gs) fs p m = (and_parts (is_unmasked k) (passes_all gs) p).0

opens_value : (code : Code) (v : V) (fs : List Frame) (x : Term) → leaving_is_eager fs ≡ true → local code (Ret v) fs ≡ Some x → Opens fs x
opens_value code v [] x c r = absurd (cc c)
opens_value code v (BindTo y b env ∷ fs) x c r =
    subst (Opens (BindTo y b env ∷ fs)) (same_item r) (record { part = refl; unmasked = c; near = inr (BindTo y b env, refl, refl) })
opens_value code v (CatchBy y b env ∷ fs) x c r = absurd (cc c)
opens_value code v (MaskIn m ∷ fs) x c r =
    let k = and_parts (is_unmasked m) (is_unmasked (mask_at fs)) c in
    subst (Opens (MaskIn m ∷ fs)) (same_item r) (record { part = refl; unmasked = k.1; near = inr (MaskIn m, k.0, refl) })

opens_step : (fs : List Frame) (o : Option Term) (x : Term) → is_unmasked (mask_at fs) ≡ true → step_is_eager o ≡ true → on_top fs o ≡ Some x → Opens fs x
opens_step fs None x m c r = absurd (cc r)
opens_step fs (Some y) x m c r =
    let k = and_parts (not (is_throw y.part)) (passes_all y.frames) c in
    subst (Opens fs) (same_item r) (record { part = not_true (is_throw y.part) k.0; unmasked = unmasked_more y.frames fs k.1 m; near = inl (y.frames, k.1, refl) })

opens : (code : Code) (p : Part) (fs : List Frame) (x : Term) → is_unmasked (mask_at fs) ≡ true → is_eager_though_open code p fs ≡ true → local code p fs ≡ Some x → Opens fs x
opens code (Ret v) fs x m c r = opens_value code v fs x c r
opens code (Throw e) fs x m c r = absurd (cc c)
opens code (Do a env) fs x m c r = opens_step fs (first_step code (mask_at fs) a env) x m c r
opens code (Performs o) fs x m c r = absurd (cc r)

-- the state where thread t, of that flag, throws within these frames and waits for nothing
abbrev pub hit : ℕ → Thread → Exn → List Frame → State → State
hit t th e fs a = record a { threads = slice_set a.threads t (record { term = term (Throw e) fs; finished = th.finished }); blocked = leaves t a.blocked }

hit_is : (t : ℕ) (th : Thread) (e : Exn) (a : State) → slice_get a.threads t ≡ Some th → resume t (Throw e) a ≡ hit t th e th.term.frames a
hit_is t th e a is = ap (λ o. record a { threads = with_term t o (term (Throw e) (frames_of o)) a.threads; blocked = leaves t a.blocked }) is

hit_gone : (t : ℕ) (th : Thread) (x : Term) (e : Exn) (a : State) → slice_get a.threads t ≡ Some th → resume t (Throw e) (put_in t (gone th x) a) ≡ hit t th e x.frames a
hit_gone t th x e a is =
    ap (λ o. record a { threads = with_term t o (term (Throw e) (frames_of o)) (slice_set a.threads t (gone th x)); blocked = leaves t a.blocked }) (item_same a.threads t th (gone th x) is)
    ∙ ap (λ ths. record a { threads = ths; blocked = leaves t a.blocked }) (set_twice a.threads t (gone th x) (record { term = term (Throw e) x.frames; finished = th.finished }))

pub main_hit : (t : ℕ) (th : Thread) (e : Exn) (fs : List Frame) (a : State) → Stands t th a → MainRuns a → MainRuns (hit t th e fs a)
main_hit t th e fs a h m = main_same a (hit t th e fs a) (flags t th (record { term = term (Throw e) fs; finished = th.finished }) refl a 0 h) m

-- an exception passes a frame
pub passing : (code : Code) (t : ℕ) (th : Thread) (e : Exn) (f : Frame) (fs : List Frame) (a : State) → th.finished ≡ false → Stands t th a → passes f ≡ true →
    Poised code t (hit t th e (f ∷ fs) a) (record { term = term (Throw e) (f ∷ fs); finished = th.finished }) (term (Throw e) fs)
passing code t th e f fs a un h p = record {
  is = item_same a.threads t th (record { term = term (Throw e) (f ∷ fs); finished = th.finished }) h.is;
  unfinished = un;
  free = not_blocked_left t t a.blocked h.free;
  rule = by f p;
  eager = inl refl;
}
  where
    by : (f : Frame) → passes f ≡ true → local code (Throw e) (f ∷ fs) ≡ Some (term (Throw e) fs)
    by (BindTo x b env) p = refl
    by (CatchBy x b env) p = absurd (cc p)
    by (MaskIn m) p = refl

pub frame_passed : (t : ℕ) (th : Thread) (e : Exn) (f : Frame) (fs : List Frame) (a : State) →
    put_in t (gone (record { term = term (Throw e) (f ∷ fs); finished = th.finished }) (term (Throw e) fs)) (hit t th e (f ∷ fs) a) ≡ hit t th e fs a
frame_passed t th e f fs a =
    ap (λ ths. record a { threads = ths; blocked = leaves t a.blocked })
    (set_twice a.threads t (record { term = term (Throw e) (f ∷ fs); finished = th.finished }) (record { term = term (Throw e) fs; finished = th.finished }))

-- where it is hit before the rule it can be after it, and differs in its frames alone
pub record Hit (code : Code) (t : ℕ) (s u : State) (th : Thread) (x : Term) : Type 0 where
  pub exn : Exn
  pub answered : State
  pub stands : Stands t th answered
  pub main : MainRuns answered
  pub before : u ≡ hit t th exn th.term.frames answered
  pub after : next code (put_in t (gone th x) s) (entry.Receive t) ≡ Some (hit t th exn x.frames answered)
  pub near : Near th.term.frames x.frames

module _ (code : Code) (t : ℕ) (s : State) (th : Thread) (x : Term) (h : Poised code t s th x) where
  eager_open : is_eager code th.term.part th.term.frames ≡ true → is_receptive t th.term s ≡ true → (is_unmasked (mask_at th.term.frames) ≡ true) × (is_eager_though_open code th.term.part th.term.frames ≡ true)
  eager_open c r =
      let k = and_parts (not (is_throw th.term.part)) (is_open (is_blocked t s.blocked) (mask_at th.term.frames)) r in
      let m : is_unmasked (mask_at th.term.frames) ≡ true = ap (λ b. is_open b (mask_at th.term.frames)) (sym h.free) ∙ k.1 in
      (m, by (is_throw th.term.part) (is_unmasked (mask_at th.term.frames)) (is_eager_though_open code th.term.part th.term.frames) (not_true (is_throw th.term.part) k.0) m c)
    where
      by : (a b c : Bool) → a ≡ false → b ≡ true → (a || not b) || c ≡ true → c ≡ true
      by true b c p q e = absurd (cc p)
      by false true c p q e = e
      by false false c p q e = absurd (cc q)

  own_received : (fs : List Flying) (u : State) → MainRuns s → Opens th.term.frames x → flying_to t (flight_of s.blocked) ≡ fs → Found (Other t th th (inl refl)) (throws t) (first_thrown fs) → received t fs s ≡ Some u → Hit code t s u th x
  own_received [] u m o e f g = absurd (cc g)
  own_received (w ∷ ws) u m o e f g =
      let a : State = answer w.thrower UnitValue s in
      let k = resumed t th (gone th x) (inl refl) w.thrower (Ret UnitValue) s f.1 (stands h) in
      let r : is_receptive t x (put_in t (gone th x) s) ≡ true =
      ap (λ b. not b && is_open (is_blocked t s.blocked) (mask_at x.frames)) o.part ∙ (ap (λ b. is_open b (mask_at x.frames)) h.free ∙ o.unmasked) in
      let is : slice_get (slice_set s.threads t (gone th x)) t ≡ Some (gone th x) = item_same s.threads t th (gone th x) h.is in
      let m1 : MainRuns (put_in t (gone th x) s) = main_same s (put_in t (gone th x) s) (flags t th (gone th x) refl s 0 (stands h)) m in
      record {
        exn = w.exn;
        answered = a;
        stands = k.1;
        main = main_resumed s w.thrower (Ret UnitValue) m;
        before = sym (same_item g) ∙ hit_is t th w.exn a k.1.is;
        after = on_running (slice_get (slice_set s.threads t (gone th x)) 0) m1.0 (λ main. entries.entered code (put_in t (gone th x) s) (entry.Receive t)) m1.1 m1.2
            ∙ (on_running (slice_get (slice_set s.threads t (gone th x)) t) (gone th x) (λ z. receive_entry t z (put_in t (gone th x) s)) is h.unfinished
            ∙ (cond_true (is_receptive t x (put_in t (gone th x) s)) (received t (flying_to t (flight_of s.blocked)) (put_in t (gone th x) s)) None r
            ∙ (ap (λ fs. received t fs (put_in t (gone th x) s)) e
            ∙ (ap (λ z. Some (resume t (Throw w.exn) z)) k.0 ∙ ap Some (hit_gone t th x w.exn a k.1.is)))));
        near = o.near;
      }

  pub own_receive : (u : State) → next code s (entry.Receive t) ≡ Some u → Hit code t s u th x
  own_receive u e = ⊎_elim eagerly (λ q. absurd (none_receives code s t u q e)) h.eager
    where
      eagerly : is_eager code th.term.part th.term.frames ≡ true → Hit code t s u th x
      eagerly q =
          let k = passed (is_receptive t th.term s) (received t (flying_to t (flight_of s.blocked)) s) u (on_own code t s th x h (λ z. receive_entry t z s) u e) in
          let c = eager_open q k.0 in
          own_received (flying_to t (flight_of s.blocked)) u (main_runs s _ u e) (opens code th.term.part th.term.frames x c.0 c.1 h.rule) refl
          (subst (Found (Other t th th (inl refl)) (throws t)) (sym (throw_is_first t s.blocked)) (first_found (Other t th th (inl refl)) (throws t) s.blocked (all_other t th th (inl refl) s (stands h)))) k.1
