-- Each entry makes at most one new thread, cell, use of `bracket` or use of `timeout`.
use Rattle.std.proofs.Common.{◌≡◌, ℕ, zero, suc, ◌+◌, ◌≤◌, List, [], ◌∷◌, length, slice_get, slice_set, true, Option, Some, None, refl, subst, arith, length-append}
use Rattle.hs_base.specs.declared.mask.Mask.TheVariants.{Unmasked}
use Rattle.hs_base.specs.declared.exn.Exn.TheVariants.{Timeout, BlockedIndefinitely}
use Rattle.hs_rules.specs.declared.entry.Entry.{Entry}
use Rattle.rules_meaning.specs.Values as val
use Rattle.rules_meaning.specs.Values.{V, UnitValue, Exception, Inst, with_name}
use Rattle.rules_meaning.specs.CoreMeaning.{Code}
use Rattle.hs_rules.specs.Terms.{Part, Ret, Throw, Do, MaskIn, Term, term}
use Rattle.hs_rules.specs.State.{AcquiredBy, ReleasedBy, Thread, State, with_term, frames_of, resume, answer, resume_all, thread_with, spawn}
use Rattle.hs_rules.specs.Primitives.{line_feed}
use Rattle.hs_rules.specs.Entries.{stranded, next}
use Rattle.hs_laws.specs.cases.Cases.{with_cell, printed, told}
use Rattle.hs_rules.specs.Histories.{cost_of, steps_of}
use Rattle.hs_rules.specs.Runs.{Run}
use Rattle.hs_laws.specs.Standing.{made_so_far}
use Rattle.hs_laws.proofs.Lists.{those}
use Rattle.hs_laws.proofs.Changes as change
use Rattle.hs_laws.proofs.Changes.{Changes, all_kept, changes}

pub set_length : {A : Type 0} (xs : List A) (n : ℕ) (y : A) → length (slice_set xs n y) ≡ length xs
set_length [] n y = refl
set_length (x ∷ xs) zero y = refl
set_length (x ∷ xs) (suc n) y = let k = set_length xs n y in omega arith

pub term_length : (t : ℕ) (o : Option Thread) (x : Term) (ths : List Thread) → length (with_term t o x ths) ≡ length ths
term_length t None x ths = refl
term_length t (Some th) x ths = set_length ths t (record { term = x; finished = th.finished })

-- ---- each update makes one more at most
resume_most : (n t : ℕ) (p : Part) (u : State) → made_so_far u ≤ n → made_so_far (resume t p u) ≤ n
resume_most n t p u h = omega (arith, h, term_length t (slice_get u.threads t) (term p (frames_of (slice_get u.threads t))) u.threads)

all_most : (n : ℕ) (p : Part) (ts : List ℕ) (u : State) → made_so_far u ≤ n → made_so_far (resume_all ts p u) ≤ n
all_most n p = all_kept (λ v. made_so_far v ≤ n) p (λ t. resume_most n t p)

spawn_most : (s : State) (t : ℕ) (v : V) (x : Term) → made_so_far (spawn x (answer t v s)) ≤ made_so_far s + 1
spawn_most s t v x = omega (arith, term_length t (slice_get s.threads t) (term (Ret v) (frames_of (slice_get s.threads t))) s.threads, length-append (answer t v s).threads (thread_with x ∷ []))

module _ (code : Code) (s : State) where
  changed_most : {e : Entry} {u : State} → Changes code s e u → made_so_far u ≤ made_so_far s + cost_of e
  changed_most (change.moves {t} {x} h b l) = omega (arith, term_length t (slice_get s.threads t) x s.threads)
  changed_most (change.blocks r h c b a) = omega arith
  changed_most (change.ends {t} p h c i) = resume_most (made_so_far s + 1) t p s (omega arith)
  changed_most (change.prints {t} {x} h) = resume_most (made_so_far s + 1) t (Ret UnitValue) (printed x s) (omega arith)
  changed_most (change.prints_a_line {t} {x} h) = resume_most (made_so_far s + 1) t (Ret UnitValue) (printed line_feed (printed x s)) (omega arith)
  changed_most (change.tells_a_line {t} {x} h) = resume_most (made_so_far s + 1) t (Ret UnitValue) (told line_feed (told x s)) (omega arith)
  changed_most (change.makes {t} v o h m) = resume_most (made_so_far s + 1) t (Ret v) (with_cell o s) (omega (arith, length-append s.cells (o ∷ [])))
  changed_most (change.makes_a_timeout {t} h) = resume_most (made_so_far s + 1) t (Ret (Exception (Timeout s.next_timeout))) (record s { next_timeout = suc s.next_timeout }) (omega arith)
  changed_most (change.acquires {t} h) =
      resume_most (made_so_far s + 1) t (Ret (Inst s.next_instance)) (record s { marks = AcquiredBy s.next_instance t ∷ s.marks; next_instance = suc s.next_instance }) (omega arith)
  changed_most (change.releases {t} {i} h) = resume_most (made_so_far s + 1) t (Ret UnitValue) (record s { marks = ReleasedBy i t ∷ s.marks }) (omega arith)
  changed_most (change.forks {t} m {a} {env} h) = spawn_most s t (val.Thread (length s.threads)) (term (Do a env) (MaskIn m ∷ []))
  changed_most (change.forks_unmasked {t} m {r} {a} {env} h) = spawn_most s t (val.Thread (length s.threads)) (term (Do a (with_name r (val.Restore Unmasked) env)) (MaskIn m ∷ []))
  changed_most (change.receives {t} {f} h o q) = resume_most (made_so_far s + 1) t (Throw f.exn) (answer f.thrower UnitValue s) (resume_most (made_so_far s + 1) f.thrower (Ret UnitValue) s (omega arith))
  changed_most (change.wakes {t} q) = resume_most (made_so_far s + 1) t (Ret UnitValue) s (omega arith)
  changed_most (change.finishes {t} {th} line h f b) = omega (arith, set_length s.threads t (record { term = th.term; finished = true }))
  changed_most (change.ticks q) = omega arith
  changed_most change.strands = all_most (made_so_far s + 1) (Throw BlockedIndefinitely) (stranded s) s (omega arith)
  changed_most (change.holds c o u k) = omega (arith, changed_most k, set_length u.cells c o)
  changed_most {e} (change.serves w v u r a k) = resume_most (made_so_far s + cost_of e) w (Ret v) u (changed_most k)
  changed_most {e} (change.all p v u k) = all_most (made_so_far s + cost_of e) (Ret v) (those p u.blocked) u (changed_most k)

pub next_most : (code : Code) (s u : State) (e : Entry) → next code s e ≡ Some u → made_so_far u ≤ made_so_far s + cost_of e
next_most code s u e n = changed_most code s (changes code s e u n)

pub run_most : (code : Code) (es : List Entry) (s u : State) → Run code s es u → made_so_far u ≤ made_so_far s + steps_of es
run_most code [] s u r = subst (λ x. made_so_far x ≤ made_so_far s + 0) r (omega arith)
run_most code (e ∷ es) s u r = omega (arith, next_most code s r.0 e r.1.0, run_most code es r.0 u r.2)
