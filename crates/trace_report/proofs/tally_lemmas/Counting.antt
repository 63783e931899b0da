-- Lists of counts by number.
use Rattle.std.proofs.Common.{◌≡◌, ◌<◌, ◌≤◌, ℕ, ◌+◌, ◌==◌, List, [], ◌∷◌, ◌++◌, length, Bool, true, false, cond, arith, Some, None, slice_get, slice_set, refl, sym, ap, ◌∙◌, subst, ⊎_elim}
use Rattle.hs_rules.specs.declared.entry.Entry.{Entry}
use Rattle.hs_rules.specs.declared.entry.Entry.TheVariants.{Local, Op, Receive}
use Rattle.hs_rules.specs.Histories.{cost_of}
use Rattle.hs_laws.proofs.Lists.{cond_cases, cond_true, cond_false, equal_or, item_same, item_other, item_more, some_item}
use Rattle.trace_report.specs.declared.tally.counts.ThreadCounts.{ThreadCounts}
use Rattle.trace_report.specs.declared.tally.counts.CellCounts.{CellCounts}
use Rattle.trace_report.specs.declared.tally.counts.Seen.{Seen}
use Rattle.trace_report.specs.tally.Reporting.{one_if}
use Rattle.trace_report.specs.tally.Touching.{cell_of, is_at, is_on, waits_there, serves}
use Rattle.trace_report.specs.tally.Tallying.{count_or, thread_at, cell_at, IsPut, thread_after, touched, op_after, ThreadWithin, CellWithin, ThreadsWithin, CellsWithin}

module _ {A : Type 0} (d : A) where
  -- one more that has done nothing
  pub pushed : (xs : List A) (k : ℕ) → count_or d (slice_get (xs ++ d ∷ []) k) ≡ count_or d (slice_get xs k)
  pushed xs k = item_more (λ o. count_or d o ≡ count_or d (slice_get xs k)) xs d k refl (λ n. sym (ap (count_or d) n))

  pub put_at : (xs : List A) (k : ℕ) (c : A) → k < length xs → (n : ℕ) → count_or d (slice_get (slice_set xs k c) n) ≡ cond (k == n) c (count_or d (slice_get xs n))
  put_at xs k c h n =
      ⊎_elim
      (λ same. let i = some_item xs k h in subst (λ x. count_or d (slice_get (slice_set xs k c) x) ≡ c) same.1 (ap (count_or d) (item_same xs k i.0 c i.1)) ∙ sym (cond_true (k == n) c (count_or d (slice_get xs n)) same.0))
      (λ other. ap (count_or d) (item_other xs k n c (λ e. other.1 (sym e))) ∙ sym (cond_false (k == n) c (count_or d (slice_get xs n)) other.0))
      (equal_or k n)

-- ---- an entry counted
thread_put : (k : ℕ) (f : ThreadCounts → ThreadCounts) (old new : List ThreadCounts) → IsPut thread_at k (f (thread_at old k)) old new → (t : ℕ) → thread_at new t ≡ cond (k == t) (f (thread_at old t)) (thread_at old t)
thread_put k f old new put t =
    put t
    ∙ ⊎_elim
    (λ same. ap (λ x. cond (k == t) (f (thread_at old x)) (thread_at old t)) same.1)
    (λ other. cond_false (k == t) (f (thread_at old k)) (thread_at old t) other.0 ∙ sym (cond_false (k == t) (f (thread_at old t)) (thread_at old t) other.0))
    (equal_or k t)

pub local_put : (k n : ℕ) (blocked : Bool) (old new : List ThreadCounts) → (c : ThreadCounts) → c ≡ record (thread_at old k) { local = (thread_at old k).local + n } → IsPut thread_at k c old new → (t : ℕ) → thread_at new t ≡ thread_after (Local k n) blocked t (thread_at old t)
local_put k n blocked old new c e put = thread_put k (λ x. record x { local = x.local + n }) old new (subst (λ z. IsPut thread_at k z old new) e put)

pub op_put : (k : ℕ) (blocked : Bool) (old new : List ThreadCounts) → (c : ThreadCounts) → c ≡ record (thread_at old k) { ops = (thread_at old k).ops + 1; waits = (thread_at old k).waits + one_if blocked } → IsPut thread_at k c old new → (t : ℕ) → thread_at new t ≡ thread_after (Op k) blocked t (thread_at old t)
op_put k blocked old new c e put = thread_put k (λ x. record x { ops = x.ops + 1; waits = x.waits + one_if blocked }) old new (subst (λ z. IsPut thread_at k z old new) e put)

pub receive_put : (k : ℕ) (blocked : Bool) (old new : List ThreadCounts) → (c : ThreadCounts) → c ≡ record (thread_at old k) { receives = (thread_at old k).receives + 1 } → IsPut thread_at k c old new → (t : ℕ) → thread_at new t ≡ thread_after (Receive k) blocked t (thread_at old t)
receive_put k blocked old new c e put = thread_put k (λ x. record x { receives = x.receives + 1 }) old new (subst (λ z. IsPut thread_at k z old new) e put)

pub cell_put : (k : ℕ) (seen : Seen) (old new : List CellCounts) → cell_of seen.touch ≡ Some k → IsPut cell_at k (touched seen (cell_at old k)) old new → (m : ℕ) → cell_at new m ≡ op_after seen m (cell_at old m)
cell_put k seen old new e put m =
    put m
    ∙ (⊎_elim
    (λ same. ap (λ x. cond (k == m) (touched seen (cell_at old x)) (cell_at old m)) same.1)
    (λ other. cond_false (k == m) (touched seen (cell_at old k)) (cell_at old m) other.0 ∙ sym (cond_false (k == m) (touched seen (cell_at old m)) (cell_at old m) other.0))
    (equal_or k m)
    ∙ ap (λ o. cond (is_at m o) (touched seen (cell_at old m)) (cell_at old m)) (sym e))

pub cell_kept : (seen : Seen) (old : List CellCounts) → cell_of seen.touch ≡ None → (m : ℕ) → cell_at old m ≡ op_after seen m (cell_at old m)
cell_kept seen old e m = ap (λ o. cond (is_at m o) (touched seen (cell_at old m)) (cell_at old m)) (sym e)

-- ---- counts stay within the steps
one_at_most : (b : Bool) → one_if b ≤ 1
one_at_most true = omega arith
one_at_most false = omega arith

wider : (n k : ℕ) (c : ThreadCounts) → ThreadWithin n c → n ≤ k → ThreadWithin k c
wider n k c h le = let a = h.local in let b = h.ops in let d = h.waits in let e = h.receives in record { local = omega (arith, a, le); ops = omega (arith, b, le); waits = omega (arith, d, le); receives = omega (arith, e, le) }

thread_within : (e : Entry) (blocked : Bool) (t n : ℕ) (c : ThreadCounts) → ThreadWithin n c → ThreadWithin (n + cost_of e) (thread_after e blocked t c)
thread_within (Local k x) blocked t n c h =
    let a = h.local in
    let w = wider n (n + x) c h (omega arith) in
    cond_cases (ThreadWithin (n + x)) (k == t) (record c { local = c.local + x }) c (λ b. record { local = omega (arith, a); ops = w.ops; waits = w.waits; receives = w.receives }) (λ b. w)
thread_within (Op k) blocked t n c h =
    let a = h.ops in
    let d = h.waits in
    let o = one_at_most blocked in
    let w = wider n (n + 1) c h (omega arith) in
    cond_cases (ThreadWithin (n + 1)) (k == t) (record c { ops = c.ops + 1; waits = c.waits + one_if blocked }) c (λ b. record { local = w.local; ops = omega (arith, a); waits = omega (arith, d, o); receives = w.receives }) (λ b. w)
thread_within (Receive k) blocked t n c h =
    let a = h.receives in
    let w = wider n (n + 1) c h (omega arith) in
    cond_cases (ThreadWithin (n + 1)) (k == t) (record c { receives = c.receives + 1 }) c (λ b. record { local = w.local; ops = w.ops; waits = w.waits; receives = omega (arith, a) }) (λ b. w)
thread_within _ blocked t n c h = wider n (n + 1) c h (omega arith)

pub threads_within : (e : Entry) (blocked : Bool) (n : ℕ) (old new : List ThreadCounts) → ThreadsWithin n old → ((t : ℕ) → thread_at new t ≡ thread_after e blocked t (thread_at old t)) → ThreadsWithin (n + cost_of e) new
threads_within e blocked n old new h all t = subst (ThreadWithin (n + cost_of e)) (sym (all t)) (thread_within e blocked t n (thread_at old t) (h t))

pub cells_wider : (n k : ℕ) (old : List CellCounts) → CellsWithin n old → n ≤ k → CellsWithin k old
cells_wider n k old h le m = let a = (h m).out in let b = (h m).waits in record { out = omega (arith, a, le); waits = omega (arith, b, le) }

pub cells_within : (seen : Seen) (n : ℕ) (old new : List CellCounts) → CellsWithin n old → ((m : ℕ) → cell_at new m ≡ op_after seen m (cell_at old m)) → CellsWithin (n + 1) new
cells_within seen n old new h all m =
    let a = (h m).out in
    let b = (h m).waits in
    let o = one_at_most (serves seen.touch seen.was_full seen.is_full) in
    let w = one_at_most (waits_there seen.touch seen.was_full) in
    subst (CellWithin (n + 1)) (sym (all m))
    (cond_cases (CellWithin (n + 1)) (is_on m seen.touch) (touched seen (cell_at old m)) (cell_at old m) (λ on. record { out = omega (arith, a, o); waits = omega (arith, b, w) }) (λ off. record { out = omega (arith, a); waits = omega (arith, b) }))
