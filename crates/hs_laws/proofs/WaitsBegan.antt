-- Each wait began with an Operation of its thread, and no entry.Receive of the thread came since.
use Rattle.std.proofs.Common.{◌≡◌, ◌≢◌, ℕ, suc, List, [], ◌∷◌, ◌++◌, slice_get, Option, Some, None, refl, sym, ap, ◌∙◌, subst, ◌⊎◌, inl, inr, ⊎_elim}
use Rattle.hs_base.specs.declared.exn.Exn.{Exn}
use Rattle.hs_base.specs.declared.exn.Exn.TheVariants.{BlockedIndefinitely}
use Rattle.hs_rules.specs.declared.entry.Entry.{Entry}
use Rattle.hs_rules.specs.declared.entry.Entry.TheVariants as entry
use Rattle.rules_meaning.specs.Values as val
use Rattle.rules_meaning.specs.Values.{V, UnitValue, Exception}
use Rattle.rules_expansion.specs.Core.{Core}
use Rattle.rules_expansion.specs.declared.primitive.Primitive.TheVariants.{ThrowTo}
use Rattle.rules_meaning.specs.CoreMeaning.{Code}
use Rattle.hs_rules.specs.Terms.{Calls, Part, Ret, Throw, Do, Performs}
use Rattle.rules_waiting.specs.Waiting.{Reason, Throwing, Waiting, leaves, reason_of, flight_of, flying_to}
use Rattle.hs_rules.specs.State.{Thread, State, answer, resume_all, first}
use Rattle.hs_rules.specs.Entries.{Leads, stranded, next}
use Rattle.hs_laws.specs.cases.Cases as row
use Rattle.hs_laws.proofs.cases_lemmas.Entering.{case_of}
use Rattle.hs_rules.specs.Runs.{Run}
use Rattle.std.proofs.lemmas.Option.{same_Some}
use Rattle.hs_laws.specs.MaskLaw.{WaitsThrough, ThrownBy, Received}
use Rattle.rules_waiting.specs.Waiting.{first_thrown}
use Rattle.hs_laws.specs.BracketPhases.{Fine, FineCode}
use Rattle.hs_laws.proofs.Lists.{Each, each_more, each_left, each_changed, Found, first_found, OnReason, reason_found, first_of_kind, throws, throws_means, those, throw_is_first, once_reason}
use Rattle.hs_laws.specs.BracketPhases.{Blocks, OpPart, At}
use Rattle.hs_laws.proofs.Changes as change
use Rattle.hs_laws.proofs.Changes.{Open, Changes, stands_blocks, all_kept, changes, receiving}
use Rattle.hs_laws.proofs.States.{Holds, Keeps, next_kept, first_holds}

-- ---- an entry's waits are earlier ones, whose thread didn't receive, or that of its own Operation
abbrev Since : State → Entry → ℕ → Reason V → Type 0
Since s e w r = ((reason_of w s.blocked ≡ Some r) × (e ≢ entry.Receive w)) ⊎ ((e ≡ entry.Op w) × At (Blocks r) (slice_get s.threads w))

module _ (code : Code) (s : State) (g : Holds s) where
  -- `blocked` only loses threads, and gets the one that acts
  had : (e : Entry) → ((w : ℕ) → e ≢ entry.Receive w) → Each (Since s e) s.blocked
  had e n = each_changed (λ w r. reason_of w s.blocked ≡ Some r) (Since s e) s.blocked (λ w r k. inl (k, n w)) (once_reason s.blocked g.once)

  left : (e : Entry) (t : ℕ) (ws : List (Waiting V)) → Each (Since s e) ws → Each (Since s e) (leaves t ws)
  left e t ws h = each_left (Since s e) (Since s e) t ws (λ v r n k. k) h

  all_left : (e : Entry) (p : Part) (ts : List ℕ) (u : State) → Each (Since s e) u.blocked → Each (Since s e) (resume_all ts p u).blocked
  all_left e p = all_kept (λ u. Each (Since s e) u.blocked) p (λ t u. left e t u.blocked)

  acts : (t : ℕ) → Each (Since s (entry.Op t)) (leaves t s.blocked)
  acts t = left (entry.Op t) t s.blocked (had (entry.Op t) (λ w e. cc e))

  changed_since : {e : Entry} {u : State} → Changes code s e u → Each (Since s e) u.blocked
  changed_since (change.moves {t} {k} h b l) = had (entry.Local t (suc k)) (λ w e. cc e)
  changed_since (change.blocks {t} r h c b a) = each_more (Since s (entry.Op t)) s.blocked (record { thread = t; reason = r }) (had (entry.Op t) (λ w e. cc e)) (inr (refl, stands_blocks r h b))
  changed_since (change.ends {t} p h c i) = acts t
  changed_since (change.prints {t} h) = acts t
  changed_since (change.prints_a_line {t} h) = acts t
  changed_since (change.tells_a_line {t} h) = acts t
  changed_since (change.makes {t} v o h m) = acts t
  changed_since (change.makes_a_timeout {t} h) = acts t
  changed_since (change.acquires {t} h) = acts t
  changed_since (change.releases {t} h) = acts t
  changed_since (change.forks {t} m h) = acts t
  changed_since (change.forks_unmasked {t} m h) = acts t
  changed_since (change.receives {t} {f} h o q) =
      each_left (λ w r. reason_of w s.blocked ≡ Some r) (Since s (entry.Receive t)) t (answer f.thrower UnitValue s).blocked (λ u r n k. inl (k, λ e. let q : t ≡ u = cc e in n (sym q)))
      (each_left (λ w r. reason_of w s.blocked ≡ Some r) (λ w r. reason_of w s.blocked ≡ Some r) f.thrower s.blocked (λ u r n k. k) (once_reason s.blocked g.once))
  changed_since (change.wakes {t} q) = left (entry.Wake t) t s.blocked (had (entry.Wake t) (λ w e. cc e))
  changed_since (change.finishes {t} line h f b) = had (entry.Finish t) (λ w e. cc e)
  changed_since (change.ticks {at} q) = had (entry.Tick at) (λ w e. cc e)
  changed_since change.strands = all_left entry.Stranded (Throw BlockedIndefinitely) (stranded s) s (had entry.Stranded (λ w e. cc e))
  changed_since (change.holds c o u k) = changed_since k
  changed_since {e} (change.serves w v u r a k) = left e w u.blocked (changed_since k)
  changed_since {e} (change.all p v u k) = all_left e (Ret v) (those p u.blocked) u (changed_since k)

-- ---- over runs
pub record Began (code : Code) (s : State) (es : List Entry) (w : ℕ) (r : Reason V) : Type 0 where
  pub front : List Entry
  pub back : List Entry
  pub split : es ≡ front ++ entry.Op w ∷ back
  pub state : State
  pub run : Run code s front state
  pub stood : At (Blocks r) (slice_get state.threads w)
  pub through : (m : State) → next code state (entry.Op w) ≡ Some m → WaitsThrough code m back w r

abbrev From : Code → State → List Entry → ℕ → Reason V → Type 0
From code s es w r = WaitsThrough code s es w r ⊎ Began code s es w r

waits_first : (code : Code) (s : State) (es : List Entry) (w : ℕ) (r : Reason V) → WaitsThrough code s es w r → reason_of w s.blocked ≡ Some r
waits_first code s [] w r h = h
waits_first code s (e ∷ es) w r h = h.0

waits_on : (code : Code) (s m : State) (e : Entry) (es : List Entry) (w : ℕ) (r : Reason V) → next code s e ≡ Some m → WaitsThrough code m es w r → (v : State) → next code s e ≡ Some v → WaitsThrough code v es w r
waits_on code s m e es w r l k v is = let same : m ≡ v = same_Some m v (sym l ∙ is) in subst (λ x. WaitsThrough code x es w r) same k

from_earlier : (code : Code) (s m : State) (e : Entry) (es : List Entry) (w : ℕ) (r : Reason V) → Leads code s e m → Each (Since s e) m.blocked → From code m es w r → From code s (e ∷ es) w r
from_earlier code s m e es w r l h (inl k) =
    let o : OnReason (Since s e w) (Some r) = subst (OnReason (Since s e w)) (waits_first code m es w r k) (reason_found (Since s e) w m.blocked h) in
    ⊎_elim
    (λ a. inl (a.0, a.1, waits_on code s m e es w r l.0 k))
    (λ a. inr (record { front = []; back = es; split = ap (λ x. x ∷ es) a.0; state = s; run = refl; stood = a.1; through = subst (λ f. (v : State) → next code s f ≡ Some v → WaitsThrough code v es w r) a.0 (waits_on code s m e es w r l.0 k) }))
    o
from_earlier code s m e es w r l h (inr b) = inr (record { front = e ∷ b.front; back = b.back; split = ap (λ z. e ∷ z) b.split; state = b.state; run = (m, l, b.run); stood = b.stood; through = b.through })

run_from : (code : Code) → FineCode code.actions → (es : List Entry) (s u : State) → Run code s es u → Holds s → Each (From code s es) u.blocked
run_from code fc [] s u r g = subst (λ v. Each (From code s []) v.blocked) r (each_changed (λ w x. reason_of w s.blocked ≡ Some x) (From code s []) s.blocked (λ w x k. inl k) (once_reason s.blocked g.once))
run_from code fc (e ∷ es) s u r g =
    each_changed (From code r.0 es) (From code s (e ∷ es)) u.blocked (λ w x k. from_earlier code s r.0 e es w x r.1 (changed_since code s g (changes code s e r.0 r.1.0)) k)
    (run_from code fc es r.0 u r.2 (subst Keeps r.1.0 (next_kept code fc s e g)))

-- ---- what a legal entry.Receive says
-- what goes to whom, and where
received_by : {code : Code} {u v : State} {t : ℕ} → row.Enters code u (entry.Receive t) v →
    (th : Thread) × (slice_get u.threads t ≡ Some th) × Open u t th × ((w : ℕ × Exn) × (first_thrown (flying_to t (flight_of u.blocked)) ≡ Some w))
received_by c = let r = receiving c in (r.thread, r.is, r.open_now, ((r.first.thrower, r.first.exn), ap first_thrown r.flying))

stood_at : (code : Code) (s : State) (es : List Entry) (w t : ℕ) (e : Exn) → Began code s es w (Throwing t e) → ThrownBy code s es w t e
stood_at code s es w t e b = by (slice_get b.state.threads w) refl b.stood
  where
    part_is : (p : Part) → OpPart (Blocks (Throwing t e)) p → p ≡ Performs (Calls ThrowTo (val.Thread t ∷ Exception e ∷ []))
    part_is (Ret v) h = absurd h
    part_is (Throw x) h = absurd h
    part_is (Do a env) h = absurd h
    part_is (Performs op) h = ap Performs h

    by : (o : Option Thread) → slice_get b.state.threads w ≡ o → At (Blocks (Throwing t e)) o → ThrownBy code s es w t e
    by None q h = absurd h
    by (Some th) q h = record { front = b.front; back = b.back; split = b.split; state = b.state; run = b.run; thread = th; is = q; part = part_is th.term.part h; through = b.through }

pub mask_law : (code : Code) → FineCode code.actions → (main : Core) → Fine main → (es : List Entry) (u v : State) (t : ℕ) → Run code (first main) es u → next code u (entry.Receive t) ≡ Some v → Received code (first main) es u t
mask_law code fc main fm es u v t r n =
    let c = received_by (case_of code u (entry.Receive t) v n) in
    let w = c.3 in
    let g : first_of_kind (throws t) u.blocked ≡ Some w.0 = sym (throw_is_first t u.blocked) ∙ w.1 in
    let f : Found (From code (first main) es) (throws t) (Some w.0) = subst (Found (From code (first main) es) (throws t)) g (first_found (From code (first main) es) (throws t) u.blocked (run_from code fc es (first main) u r (first_holds main fm))) in
    let k : From code (first main) es w.0.0 (Throwing t w.0.1) = subst (From code (first main) es w.0.0) (throws_means t f.0 w.0.1 f.2) f.1 in
    record {
      thread = c.0;
      is = c.1;
      open_now = c.2;
      w = w.0.0;
      e = w.0.1;
      first = w.1;
      thrown = ⊎_elim (λ q. let z : ◌≡◌ {A = Option (Reason V)} None (Some (Throwing t w.0.1)) = waits_first code (first main) es w.0.0 (Throwing t w.0.1) q in absurd (cc z)) (λ q. stood_at code (first main) es w.0.0 t w.0.1 q) k;
    }
