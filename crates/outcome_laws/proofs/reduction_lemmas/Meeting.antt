-- What eager rules meet, and what endings that are alike have in common.
use Rattle.std.proofs.Common.{◌≡◌, ◌<◌, ℕ, length, List, [], ◌∷◌, ◌++◌, true, false, Some, None, refl, sym, ap, ◌∙◌, subst, ◌⊎◌, inl, inr, ⊎_elim}
use Rattle.std.proofs.lemmas.Bool.{and_parts}
use Rattle.hs_base.specs.declared.exn.Exn.{Exn}
use Rattle.hs_rules.specs.declared.entry.Entry.{Entry}
use Rattle.hs_rules.specs.declared.entry.Entry.TheVariants as entry
use Rattle.rules_meaning.specs.CoreMeaning.{Code}
use Rattle.hs_rules.specs.Terms.{Throw, Frame, term}
use Rattle.hs_rules.specs.State.{Thread, State}
use Rattle.hs_rules.specs.Entries.{next, Leads}
use Rattle.hs_laws.proofs.Lists.{item_below}
use Rattle.hs_rules.specs.Entries as entries
use Rattle.hs_rules.specs.Endings.{IsDone, IsUncaught, IsDeadlock, ended_by, result_of}
use Rattle.rules_waiting.specs.Waiting.{Sleeping, reason_of, sleepers_of}
use Rattle.outcome_laws.proofs.timing_lemmas.Passing.{same_item}
use Rattle.outcome_laws.specs.reduction.EagerRules.{passes, passes_all, EagerRule}
use Rattle.outcome_laws.specs.reduction.Paths.{LocalsLead, MainRuns, EndsLike, IsOther, Commutes, CommutesWithReceive, NamesThread}
use Rattle.hs_laws.proofs.SameCases.{put_in}
use Rattle.outcome_laws.proofs.reduction_lemmas.Apart.{Stands, IsApart}
use Rattle.outcome_laws.proofs.reduction_lemmas.Own.{main_runs, gone, Known, known, poised_next, eager_of, no_op, no_finish, Near, hit, main_hit, passing, frame_passed, Hit, own_receive}
use Rattle.outcome_laws.proofs.reduction_lemmas.Ending.{runs_or, alike_gone, apart_leads}
use Rattle.hs_laws.specs.cases.Cases as row
use Rattle.hs_laws.proofs.cases_lemmas.Entering.{case_of}
use Rattle.hs_laws.proofs.Changes.{receiving, closing}

pub others_commute : (code : Code) (t : ℕ) (s u : State) (e : Entry) (m : State) → EagerRule code t s u → IsOther t e → Leads code s e m → Commutes code t u e m
others_commute code t s u e m c n l = let k = known c in subst (λ q. Commutes code t q e m) (sym k.leaves) (by k e n l)
  where
    apart : (k : Known code t s u) (e : Entry) → IsApart t e → Leads code s e m → Commutes code t (put_in t (gone k.thread k.term) s) e m
    apart k e n l =
        let a = apart_leads code t s k.thread k.term e m k.poised n l in (
          put_in t (gone k.thread k.term) m,
          a.0,
          ⊎_elim (λ r. inl (eager_of code t m k.thread k.term r a.1)) (λ r. inr (r, alike_gone code t m k.thread k.term r a.1)) (runs_or m),
        )

    by : (k : Known code t s u) (e : Entry) → IsOther t e → Leads code s e m → Commutes code t (put_in t (gone k.thread k.term) s) e m
    by k (entry.Local v i) n l = apart k (entry.Local v i) n l
    by k (entry.Op v) n l = apart k (entry.Op v) n l
    by k (entry.Receive v) n l = apart k (entry.Receive v) n l
    by k (entry.Wake v) n l = apart k (entry.Wake v) tt l
    by k (entry.Finish v) n l = apart k (entry.Finish v) n l
    by k (entry.Tick at) n l = apart k (entry.Tick at) tt l
    by k entry.Stranded n l =
        let z : None ≡ Some (put_in t (gone k.thread k.term) s) = sym (l.1 (entry.Local t 1) tt) ∙ poised_next code t s k.thread k.term k.main k.poised in
        absurd (cc z)

passed_all : (code : Code) (t : ℕ) (th : Thread) (e : Exn) (a : State) (fs gs : List Frame) → th.finished ≡ false → MainRuns a → Stands t th a → passes_all gs ≡ true →
    (ts : List ℕ) × LocalsLead code ts (hit t th e (gs ++ fs) a) (hit t th e fs a)
passed_all code t th e a fs [] un m k p = ([], refl)
passed_all code t th e a fs (g ∷ gs) un m k p =
    let q = and_parts (passes g) (passes_all gs) p in
    let r = passed_all code t th e a fs gs un m k q.1 in
    let c = subst (EagerRule code t (hit t th e (g ∷ gs ++ fs) a)) (frame_passed t th e g (gs ++ fs) a)
    (eager_of code t (hit t th e (g ∷ gs ++ fs) a) (record { term = term (Throw e) (g ∷ gs ++ fs); finished = th.finished }) (term (Throw e) (gs ++ fs)) (main_hit t th e (g ∷ gs ++ fs) a k m) (passing code t th e g (gs ++ fs) a un k q.0)) in
    (t ∷ r.0, (hit t th e (gs ++ fs) a, c.leads, r.1))

pub receive_commutes : (code : Code) (t : ℕ) (s u m : State) → EagerRule code t s u → Leads code s (entry.Receive t) m → CommutesWithReceive code t u m
receive_commutes code t s u m c l =
    let k = known c in
    subst (λ q. CommutesWithReceive code t q m) (sym k.leaves) (by k (own_receive code t s k.thread k.term k.poised m l.0))
  where
    near : (k : Known code t s u) (r : Hit code t s m k.thread k.term) → Near k.thread.term.frames k.term.frames →
        ((ts : List ℕ) × LocalsLead code ts (hit t k.thread r.exn k.term.frames r.answered) m) ⊎ EagerRule code t m (hit t k.thread r.exn k.term.frames r.answered)
    near k r (inl n) =
        let p = passed_all code t k.thread r.exn r.answered k.thread.term.frames n.0 k.poised.unfinished r.main r.stands n.1 in
        inl (
          p.0,
          subst (λ q. LocalsLead code p.0 (hit t k.thread r.exn k.term.frames r.answered) q) (sym r.before)
              (subst (λ fs. LocalsLead code p.0 (hit t k.thread r.exn fs r.answered) (hit t k.thread r.exn k.thread.term.frames r.answered)) (sym n.2) p.1),
        )
    near k r (inr n) =
        inr (subst (λ q. EagerRule code t q (hit t k.thread r.exn k.term.frames r.answered)) (sym (r.before ∙ ap (λ fs. hit t k.thread r.exn fs r.answered) n.2))
        (subst (EagerRule code t (hit t k.thread r.exn (n.0 ∷ k.term.frames) r.answered)) (frame_passed t k.thread r.exn n.0 k.term.frames r.answered)
        (eager_of code t (hit t k.thread r.exn (n.0 ∷ k.term.frames) r.answered) (record { term = term (Throw r.exn) (n.0 ∷ k.term.frames); finished = k.thread.finished }) (term (Throw r.exn) k.term.frames)
        (main_hit t k.thread r.exn (n.0 ∷ k.term.frames) r.answered r.stands r.main) (passing code t k.thread r.exn n.0 k.term.frames r.answered k.poised.unfinished r.stands n.1))))

    by : (k : Known code t s u) → Hit code t s m k.thread k.term → CommutesWithReceive code t (put_in t (gone k.thread k.term) s) m
    by k r = (hit t k.thread r.exn k.term.frames r.answered, (r.after, tt), near k r r.near)

pub performs_nothing : (code : Code) (t : ℕ) (s u m : State) → EagerRule code t s u → ¬ Leads code s (entry.Op t) m
performs_nothing code t s u m c l = let k = known c in no_op code t s k.thread k.term k.poised m l.0

pub finishes_not : (code : Code) (t : ℕ) (s u m : State) → EagerRule code t s u → ¬ Leads code s (entry.Finish t) m
finishes_not code t s u m c l = let k = known c in no_finish code t s k.thread k.term k.poised m l.0

-- ---- endings that are alike

pub alike_print : (s u : State) → EndsLike s u → (s.output ≡ u.output) × (s.errors ≡ u.errors)
alike_print s u (inl e) = (ap (λ z. z.output) e, ap (λ z. z.errors) e)
alike_print s u (inr l) = (l.1.output, l.1.errors)

pub alike_done : (s u : State) → EndsLike s u → IsDone s → IsDone u
alike_done s u (inl e) d = subst IsDone e d
alike_done s u (inr l) d = subst (λ o. ended_by (result_of o) true) l.1.main d

pub alike_uncaught : (s u : State) → EndsLike s u → IsUncaught s → IsUncaught u
alike_uncaught s u (inl e) d = subst IsUncaught e d
alike_uncaught s u (inr l) d = subst (λ o. ended_by (result_of o) false) l.1.main d

pub alike_deadlock : (code : Code) (s u : State) → EndsLike s u → IsDeadlock code s → IsDeadlock code u
alike_deadlock code s u (inl e) d = subst (IsDeadlock code) e d
alike_deadlock code s u (inr l) d = (
  (λ e n k. let m = main_runs u (λ main. entries.entered code u e) k.0 k.1.0 in l.0 (m.0, l.1.main ∙ m.1, m.2)),
  ap (λ ws. sleepers_of ws) (sym l.1.blocked) ∙ d.1,
)

pub itself_alone : (code : Code) (t : ℕ) (s u m : State) → EagerRule code t s u → Leads code s (entry.Local t 1) m → m ≡ u
itself_alone code t s u m c l = same_item (sym l.0 ∙ c.leads.0)

-- ---- which entries there are to try

local_names : {code : Code} {t k : ℕ} {s u : State} → row.Enters code s (entry.Local t k) u → t < length s.threads
local_names {t} {s} (row.local {th} r i b l) = item_below s.threads t th i.0

op_names : {code : Code} {t : ℕ} {s u : State} → row.Enters code s (entry.Op t) u → t < length s.threads
op_names {t} {s} (row.operation {th} r i b q d) = item_below s.threads t th i.0

wake_names : {code : Code} {t : ℕ} {s u : State} → row.Enters code s (entry.Wake t) u → (due : ℕ) × (reason_of t s.blocked ≡ Some (Sleeping due))
wake_names (row.wakes {due} r q d) = (due, q)

pub names_a_thread : (code : Code) (s : State) (e : Entry) (u : State) → next code s e ≡ Some u → NamesThread s e
names_a_thread code s (entry.Local t k) u h = local_names (case_of code s (entry.Local t k) u h)
names_a_thread code s (entry.Op t) u h = op_names (case_of code s (entry.Op t) u h)
names_a_thread code s (entry.Receive t) u h = let r = receiving (case_of code s (entry.Receive t) u h) in item_below s.threads t r.thread r.is
names_a_thread code s (entry.Wake t) u h = wake_names (case_of code s (entry.Wake t) u h)
names_a_thread code s (entry.Finish t) u h = let r = closing (case_of code s (entry.Finish t) u h) in item_below s.threads t r.thread r.is
names_a_thread code s _ u h = tt
