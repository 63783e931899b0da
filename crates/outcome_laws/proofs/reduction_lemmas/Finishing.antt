-- Where nobody throws at a thread, that one other than main finishes by a value need not be put off.
use Rattle.std.proofs.Common.{◌≡◌, ◌≢◌, ℕ, suc, List, [], ◌∷◌, ◌++◌, slice_get, slice_set, true, false, Some, None, refl, sym, ap, ◌∙◌, subst, append-nil, inl, inr, ⊎_elim}
use Rattle.hs_rules.specs.declared.entry.Entry.{Entry}
use Rattle.hs_rules.specs.declared.entry.Entry.TheVariants as entry
use Rattle.rules_meaning.specs.Values.{V, UnitValue}
use Rattle.rules_meaning.specs.CoreMeaning.{Code}
use Rattle.hs_rules.specs.Terms.{Part, Ret, Throw, Do, Performs, Frame}
use Rattle.hs_rules.specs.LocalRules.{local, locals, on_term}
use Rattle.rules_waiting.specs.Waiting.{is_blocked, flying_to}
use Rattle.hs_rules.specs.State.{Thread, State, resume_all}
use Rattle.hs_rules.specs.Entries.{throwers, closed, finish_entry, next, Leads}
use Rattle.hs_rules.specs.Entries as entries
use Rattle.hs_rules.specs.Endings.{is_ret}
use Rattle.hs_laws.proofs.Lists.{equal_or, item_other}
use Rattle.outcome_laws.proofs.timing_lemmas.Passing.{same_item, thread_there, on_running}
use Rattle.outcome_laws.specs.reduction.NoThrowTo.{NobodyThrows}
use Rattle.outcome_laws.specs.reduction.EagerRules.{has_value, EagerFinish}
use Rattle.outcome_laws.specs.reduction.Paths.{MainRuns, ShowsSame, CommutesWithFinish}
use Rattle.outcome_laws.proofs.reduction_lemmas.NobodyThrows.{nobody_throws_kept, none_receives}
use Rattle.hs_laws.proofs.SameCases.{put_in}
use Rattle.outcome_laws.proofs.reduction_lemmas.Apart.{IsApart, apart_next}
use Rattle.outcome_laws.proofs.reduction_lemmas.Ending.{runs_or, timely}
use Rattle.hs_laws.specs.cases.Cases as row
use Rattle.hs_laws.proofs.cases_lemmas.Entering.{case_of}

-- a thread that is to close
pub record Finishing (code : Code) (t : ℕ) (s : State) (th : Thread) : Type 0 where
  pub other : 0 ≢ t
  pub is : slice_get s.threads t ≡ Some th
  pub unfinished : th.finished ≡ false
  pub free : is_blocked t s.blocked ≡ false
  pub frames : th.term.frames ≡ []
  pub value : V
  pub part : th.term.part ≡ Ret value
  pub nobody_throws : NobodyThrows code s

abbrev pub over : Thread → Thread
over th = record { term = th.term; finished = true }

closed_is : (code : Code) (t : ℕ) (s : State) (th : Thread) → NobodyThrows code s → closed t th [] s ≡ put_in t (over th) s
closed_is code t s th h =
    ap (λ fs. resume_all (throwers (flying_to t fs)) (Ret UnitValue) (record s { threads = slice_set s.threads t (over th); errors = s.errors ++ [] })) h.1.flight
    ∙ ap (λ x. record s { threads = slice_set s.threads t (over th); errors = x }) (append-nil s.errors)

finishing_next : (code : Code) (t : ℕ) (s : State) (th : Thread) → MainRuns s → Finishing code t s th → next code s (entry.Finish t) ≡ Some (put_in t (over th) s)
finishing_next code t s th m h =
    on_running (slice_get s.threads 0) m.0 (λ main. entries.entered code s (entry.Finish t)) m.1 m.2
    ∙ (on_running (slice_get s.threads t) th (λ z. finish_entry t z z.term.frames z.term.part s) h.is h.unfinished
    ∙ (ap (λ fs. finish_entry t th fs th.term.part s) h.frames
    ∙ (ap (λ p. finish_entry t th [] p s) h.part ∙ ap Some (closed_is code t s th h.nobody_throws))))

-- what finishing stands for
pub record KnownFinish (code : Code) (t : ℕ) (s u : State) : Type 0 where
  pub thread : Thread
  pub finishing : Finishing code t s thread
  pub leaves : u ≡ put_in t (over thread) s
  pub main : MainRuns s

pub finish_of : {code : Code} {t : ℕ} {s u : State} → EagerFinish code t s u → KnownFinish code t s u
finish_of {code} {t} {s} {u} c =
    let a = thread_there (slice_get s.threads 0) (λ main. entries.entered code s (entry.Finish t)) u c.leads.0 in
    let b = thread_there (slice_get s.threads t) (λ z. finish_entry t z z.term.frames z.term.part s) u a.3 in
    by b.0 b.1 b.2 (a.0, a.1, a.2) b.0.term.frames b.0.term.part refl refl (ap has_value (sym b.1) ∙ c.value) b.3
  where
    by : (th : Thread) → slice_get s.threads t ≡ Some th → th.finished ≡ false → MainRuns s → (fs : List Frame) (p : Part) → th.term.frames ≡ fs → th.term.part ≡ p → is_ret th.term.part ≡ true → finish_entry t th fs p s ≡ Some u
        → KnownFinish code t s u
    by th is f m [] (Ret v) q r i e = record {
      thread = th;
      finishing = record { other = c.other; is = is; unfinished = f; free = c.free; frames = q; value = v; part = r; nobody_throws = c.nobody_throws };
      leaves = sym (same_item e) ∙ closed_is code t s th c.nobody_throws;
      main = m;
    }
    by th is f m [] (Throw x) q r i e = let z : false ≡ true = ap is_ret (sym r) ∙ i in absurd (cc z)
    by th is f m [] (Do a env) q r i e = absurd (cc e)
    by th is f m [] (Performs o) q r i e = absurd (cc e)
    by th is f m (g ∷ gs) p q r i e = absurd (cc e)

eager_finish_of : (code : Code) (t : ℕ) (s : State) (th : Thread) → MainRuns s → Finishing code t s th → EagerFinish code t s (put_in t (over th) s)
eager_finish_of code t s th m h = record { other = h.other; free = h.free; value = ap has_value h.is ∙ ap is_ret h.part; nobody_throws = h.nobody_throws; leads = (finishing_next code t s th m h, tt) }

module _ (code : Code) (t : ℕ) (s : State) (th : Thread) (m : MainRuns s) (h : Finishing code t s th) where
  no_rule : local code th.term.part th.term.frames ≡ None
  no_rule = ap (λ p. local code p th.term.frames) h.part ∙ ap (λ fs. local code (Ret h.value) fs) h.frames

  no_local : {k : ℕ} {u : State} → row.Enters code s (entry.Local t k) u → ⊥
  no_local (row.local {k} {th = z} {x} r i b l) =
      let own : z ≡ th = same_item (sym i.0 ∙ h.is) in
      let c : None ≡ Some x = ap (λ o. on_term o (λ w. locals code k w)) (sym no_rule) ∙ (ap (λ (y : Thread). locals code (suc k) y.term) (sym own) ∙ l) in
      cc c

  no_op : {u : State} → row.Enters code s (entry.Op t) u → ⊥
  no_op (row.operation {th = z} {p} r i b q d) =
      let own : z ≡ th = same_item (sym i.0 ∙ h.is) in
      let c : Ret h.value ≡ Performs p = sym h.part ∙ (ap (λ (y : Thread). y.term.part) (sym own) ∙ q) in
      cc c

alike_finished : (t : ℕ) (s : State) (y : Thread) → 0 ≢ t → ShowsSame s (put_in t y s)
alike_finished t s y n = record { main = sym (item_other s.threads t 0 y n); blocked = refl; output = refl; errors = refl }

pub finish_commutes : (code : Code) (t : ℕ) (s u : State) (e : Entry) (m : State) → EagerFinish code t s u → Leads code s e m → CommutesWithFinish code t u e m
finish_commutes code t s u e m c l = let k = finish_of c in subst (λ q. CommutesWithFinish code t q e m) (sym k.leaves) (by k e l)
  where
    apart : (k : KnownFinish code t s u) (e : Entry) → IsApart t e → Leads code s e m → CommutesWithFinish code t (put_in t (over k.thread) s) e m
    apart k e n l =
        let th : Thread = k.thread in
        let b = apart_next t th (over th) (inr k.finishing.other) code s e m n (inr k.finishing.nobody_throws.1) (record { is = k.finishing.is; free = k.finishing.free }) l.0 in
        let h : Finishing code t m th = record { other = k.finishing.other; is = b.1.is; unfinished = k.finishing.unfinished; free = b.1.free; frames = k.finishing.frames; value = k.finishing.value; part = k.finishing.part; nobody_throws = nobody_throws_kept code s e m k.finishing.nobody_throws l.0 } in
        inr (put_in t (over th) m, (b.0, timely code t (put_in t (over th) s) e n), ⊎_elim (λ r. inl (eager_finish_of code t m th r h)) (λ r. inr (r, alike_finished t m (over th) k.finishing.other)) (runs_or m))

    by : (k : KnownFinish code t s u) (e : Entry) → Leads code s e m → CommutesWithFinish code t (put_in t (over k.thread) s) e m
    by k (entry.Local v i) l = ⊎_elim (λ q. absurd (no_local code t s k.thread k.main k.finishing (case_of code s (entry.Local t i) m (ap (λ j. next code s (entry.Local j i)) (sym q.1) ∙ l.0)))) (λ q. apart k (entry.Local v i) q.1 l) (equal_or v t)
    by k (entry.Op v) l = ⊎_elim (λ q. absurd (no_op code t s k.thread k.main k.finishing (case_of code s (entry.Op t) m (ap (λ j. next code s (entry.Op j)) (sym q.1) ∙ l.0)))) (λ q. apart k (entry.Op v) q.1 l) (equal_or v t)
    by k (entry.Receive v) l = ⊎_elim (λ q. absurd (none_receives code s v m k.finishing.nobody_throws l.0)) (λ q. apart k (entry.Receive v) q.1 l) (equal_or v t)
    by k (entry.Wake v) l = apart k (entry.Wake v) tt l
    by k (entry.Finish v) l =
        ⊎_elim
        (λ q. inl (sym (same_item (sym (finishing_next code t s k.thread k.main k.finishing) ∙ (ap (λ j. next code s (entry.Finish j)) (sym q.1) ∙ l.0)))))
        (λ q. apart k (entry.Finish v) q.1 l)
        (equal_or v t)
    by k (entry.Tick at) l = apart k (entry.Tick at) tt l
    by k entry.Stranded l = let z : None ≡ Some (put_in t (over k.thread) s) = sym (l.1 (entry.Finish t) tt) ∙ finishing_next code t s k.thread k.main k.finishing in absurd (cc z)
