-- Where all wait there is no work, and threads may be stranded; where nobody is to be, nothing but a Tick is legal.
use Rattle.std.proofs.Common.{◌≡◌, ℕ, suc, List, [], ◌∷◌, true, false, cond, Option, Some, None, refl, sym, ap, ◌∙◌, subst, slice_get, arith}
use Rattle.hs_rules.specs.declared.entry.Entry.{Entry}
use Rattle.hs_rules.specs.declared.entry.Entry.TheVariants as entry
use Rattle.rules_meaning.specs.Values.{V}
use Rattle.rules_meaning.specs.CoreMeaning.{Code}
use Rattle.hs_rules.specs.Terms.{Part, Ret, Throw, mask_at}
use Rattle.rules_waiting.specs.Waiting.{Reason, is_blocked, sleepers_of}
use Rattle.hs_rules.specs.State.{Thread, State, resume_all}
use Rattle.hs_rules.specs.Entries.{stranded, strand, strand_entry, on_thread, next, IsWork, IsIdle, Leads}
use Rattle.hs_rules.specs.Entries as entries
use Rattle.hs_laws.specs.cases.Cases as row
use Rattle.hs_laws.specs.cases.Cases.{Unfinished}
use Rattle.hs_laws.proofs.cases_lemmas.Entering.{case_of, all_are, open_so, interruptible}
use Rattle.hs_rules.specs.Endings.{IsTick, IsQuiet, AllWait}
use Rattle.hs_base.specs.declared.exn.Exn.TheVariants.{BlockedIndefinitely}
use Rattle.hs_laws.specs.Standing.{NoneWorks}
use Rattle.hs_laws.specs.BracketPhases.{Blocks, OpPart, At, Owing}
use Rattle.hs_laws.proofs.Stranding.{blocked_reason}

module _ (code : Code) (s : State) (w : NoneWorks s) (o : Owing s) where
  not_free : {A : Type 0} (t : ℕ) (th : Thread) → Unfinished t th s → is_blocked t s.blocked ≡ false → A
  not_free t th i b = let z : true ≡ false = sym (w.blocked t th i.0 i.1) ∙ b in absurd (cc z)

  -- who is blocked stands at an operation
  stands : (t : ℕ) (th : Thread) → Unfinished t th s → (p : Part) → th.term.part ≡ p → (r : Reason V) × OpPart (Blocks r) p
  stands t th i p q =
      let r = blocked_reason t s.blocked (w.blocked t th i.0 i.1) in
      (r.0, subst (OpPart (Blocks r.0)) q (subst (At (Blocks r.0)) i.0 (o.blocked t r.0 r.1)))

  no_case : {e : Entry} {u : State} → IsWork e → row.Enters code s e u → ⊥
  no_case n (row.local {t} {th} mr i b l) = not_free t th i b
  no_case n (row.operation {t} {th} mr i b q c) = not_free t th i b
  no_case n (row.receives_while_it_runs {t} {th} mr i x b k q) = not_free t th i b
  no_case n (row.receives_while_it_waits {t} {th} {f} {fs} mr i x b k q) =
      let z : [] ≡ f ∷ fs = sym (w.unheard t th i.0 i.1 (open_so code t th s true true x b (interruptible (mask_at th.term.frames) k))) ∙ q in
      cc z
  no_case n (row.wakes {t} {due} mr q d) = absurd (omega (arith, w.asleep t due q, d))
  no_case n (row.finishes_by_a_value {t} {th} {a} mr i f q) = (stands t th i (Ret a) q).1
  no_case n (row.main_finishes_by_an_exception {th} {e = x} i f q) = (stands 0 th i (Throw x) q).1
  no_case n (row.finishes_silently {t} {th} {e = x} mr i f q z) = (stands (suc t) th i (Throw x) q).1
  no_case n (row.finishes_with_a_line {t} {th} {e = x} mr i f q z) = (stands (suc t) th i (Throw x) q).1
  no_case n (row.ticks mr q) = n
  no_case n (row.strands mr q a) = n

  pub idle : IsIdle code s
  idle e n = by (next code s e) refl
    where
      by : (x : Option State) → next code s e ≡ x → x ≡ None
      by None q = refl
      by (Some u) q = absurd (no_case n (case_of code s e u q))

  -- so those who are to be stranded may be, where nobody sleeps
  pub may_strand : (main : Thread) → slice_get s.threads 0 ≡ Some main → main.finished ≡ false → sleepers_of s.blocked ≡ [] → (t : ℕ) (ts : List ℕ) → stranded s ≡ t ∷ ts →
      Leads code s entry.Stranded (resume_all (stranded s) (Throw BlockedIndefinitely) s)
  may_strand main is f asleep t ts some =
      let e : strand_entry (sleepers_of s.blocked) s ≡ Some (resume_all (stranded s) (Throw BlockedIndefinitely) s) =
      ap (λ ss. strand_entry ss s) asleep ∙ (ap (λ us. strand us s) some ∙ ap (λ us. Some (resume_all us (Throw BlockedIndefinitely) s)) (sym some)) in
      (ap (λ o. on_thread o (λ th. entries.entered code s entry.Stranded)) is ∙ (ap (λ b. cond b None (entries.entered code s entry.Stranded)) f ∙ e), idle)

none_works : (s : State) → AllWait s → NoneWorks s
none_works s w = record { blocked = w.blocked; unheard = w.unheard; asleep = w.asleep }

none_legal : (code : Code) (s : State) → AllWait s → Owing s → {e : Entry} {u : State} → ¬ IsTick e → row.Enters code s e u → ⊥
none_legal code s w o n (row.ticks mr q) = n tt
none_legal code s w o n (row.strands {t} {ts} mr q a) = let z : [] ≡ t ∷ ts = sym (w.unstranded q) ∙ all_are a in cc z
none_legal code s w o n c = no_case code s (none_works s w) o tt c

pub quiet : (code : Code) (s : State) → AllWait s → Owing s → IsQuiet code s
quiet code s w o e n l = none_legal code s w o n (case_of code s e l.0 l.1.0)
