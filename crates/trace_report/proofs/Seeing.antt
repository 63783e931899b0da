-- What is seen of an entry is so.
use Rattle.std.proofs.Common.{◌≡◌, ℕ, List, [], ◌∷◌, ◌++◌, Bool, true, false, cond, Option, Some, None, slice_get, refl, sym, ap, ◌∙◌}
use Rattle.std.proofs.lemmas.Bool.{eqb-true}
use Rattle.hs_rules.specs.declared.entry.Entry.{Entry}
use Rattle.hs_rules.specs.declared.entry.Entry.TheVariants as entry
use Rattle.rules_expansion.specs.trees.Programs.{Fn}
use Rattle.rules_code.specs.declared.code.CodeBody.{CodeBody}
use Rattle.rules_meaning.specs.Values.{V}
use Rattle.rules_meaning.specs.CoreMeaning.{code_of}
use Rattle.rules_waiting.specs.Waiting.{Reason, is_blocked}
use Rattle.hs_rules.specs.State as rules
use Rattle.hs_rules.specs.State.{State}
use Rattle.hs_rules.specs.Entries.{Leads}
use Rattle.hs_rules.specs.Runs.{IsRun}
use Rattle.hs_laws.proofs.cases_lemmas.Entering.{case_of}
use Rattle.hs_laws.specs.Standing.{Standing}
use Rattle.hs_laws.proofs.Expanded.{standing_of}
use Rattle.hs_laws.proofs.RunParts.{run_more}
use Rattle.hs_laws.proofs.Stranding.{blocked_reason}
use Rattle.slot_states.specs.SlotStates.{Represents}
use Rattle.world_entries.specs.declared.world.World.{World}
use Rattle.world_entries.specs.Worlds.{state_of}
use Rattle.trace_report.specs.tally.Touching.{is_at, is_on, cell_of}
use Rattle.trace_report.specs.tally.Tallying.{SeesOp, Sees}
use Rattle.trace_report.proofs.tally_lemmas.Leaving.{free_stands}
use Rattle.trace_report.proofs.tally_lemmas.Operating.{performs}
use Rattle.trace_report.proofs.tally_lemmas.Steps.{did}
use Rattle.trace_report.specs.Looking.{touch_at, blocked_at, full_at, line_at, touched_full, touched_line, before_of, seen_of}
use Rattle.trace_report.proofs.Shown.{touch_shown, blocked_shown, absent_shown, full_shown, line_shown}

-- ---- a thread that isn't there isn't blocked
reason_first : (b : Bool) (r : Reason V) (o : Option (Reason V)) (x : Bool) → (x ≡ true → (q : Reason V) × (o ≡ Some q)) → cond b true x ≡ true → (q : Reason V) × (cond b (Some r) o ≡ Some q)
reason_first true r o x k e = (r, refl)
reason_first false r o x k e = k e

absent_free : (t : ℕ) (u : State) → Standing u → slice_get u.threads t ≡ None → is_blocked t u.blocked ≡ false
absent_free t u h none = by (is_blocked t u.blocked) refl
  where
    by : (b : Bool) → is_blocked t u.blocked ≡ b → b ≡ false
    by false e = refl
    by true e = let r = blocked_reason t u.blocked e in let z : ◌≡◌ {A = Option rules.Thread} None (Some (h.blocked t r.0 r.1).thread) = sym none ∙ (h.blocked t r.0 r.1).is in absurd (cc z)

-- ---- at the cell that is touched

full_touched : (w : World) (o : Option ℕ) (m : ℕ) → is_at m o ≡ true → touched_full o w ≡ full_at (slice_get w.cells.cells m)
full_touched w None m e = absurd (cc e)
full_touched w (Some k) m e = ap (λ x. full_at (slice_get w.cells.cells x)) (eqb-true k m e)

line_touched : (w : World) (o : Option ℕ) (m : ℕ) → is_at m o ≡ true → touched_line o w ≡ line_at (slice_get w.cells.cells m)
line_touched w None m e = absurd (cc e)
line_touched w (Some k) m e = ap (λ x. line_at (slice_get w.cells.cells x)) (eqb-true k m e)

module _ (ds : List Fn) (b : CodeBody) (old new : World) (es : List Entry) (s u : State) (run : IsRun ds es s) (before : Represents ds (state_of b old) s) (after : Represents ds (state_of b new) u) where
  blocked_now : (t : ℕ) → IsRun ds (es ++ entry.Op t ∷ []) u → blocked_at (slice_get new.threads.list.items t) ≡ is_blocked t u.blocked
  blocked_now t later = by (slice_get u.threads t) refl
    where
      by : (o : Option rules.Thread) → slice_get u.threads t ≡ o → blocked_at (slice_get new.threads.list.items t) ≡ is_blocked t u.blocked
      by (Some th) e = blocked_shown ds b new u after t th e
      by None e = absent_shown ds b new u after t e ∙ sym (absent_free t u (standing_of ds (es ++ entry.Op t ∷ []) u later) e)

  op_seen : (t : ℕ) → Leads (code_of ds) s (entry.Op t) u → SeesOp t s u (seen_of (entry.Op t) (before_of (entry.Op t) old) new)
  op_seen t leads =
      let h = touch_at (slice_get old.threads.list.items t) in
      let same = touch_shown ds b old s before t in
      let d = did (case_of (code_of ds) s (entry.Op t) u leads.0) in
      let p = performs d.performed (λ k. free_stands k t s.blocked d.free) in
      record {
        touch = same;
        blocked = blocked_now t (run_more ds es (entry.Op t) s u run leads);
        was_full = λ m on. full_touched old (cell_of h) m on ∙ full_shown ds b old s before m;
        is_full = λ m on. full_touched new (cell_of h) m on ∙ full_shown ds b new u after m;
        line = λ m on.
            let there = p.there m (ap (is_on m) (sym (same ∙ d.touch)) ∙ on) in
            line_touched new (cell_of h) m on ∙ line_shown ds b new u after m there.1 there.3;
      }

  pub entry_seen : (e : Entry) → Leads (code_of ds) s e u → Sees e s u (seen_of e (before_of e old) new)
  entry_seen (entry.Op t) leads = op_seen t leads
  entry_seen (entry.Local t k) leads = tt
  entry_seen (entry.Receive t) leads = tt
  entry_seen (entry.Wake t) leads = tt
  entry_seen (entry.Finish t) leads = tt
  entry_seen (entry.Tick at) leads = tt
  entry_seen entry.Stranded leads = tt
