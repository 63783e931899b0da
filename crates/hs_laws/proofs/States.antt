-- Every entry keeps what threads owe.
use Rattle.std.proofs.Common.{◌≡◌, ◌≤◌, ◌≢◌, ℕ, zero, suc, ◌<◌, List, [], ◌∷◌, ◌++◌, length, slice_get, slice_set, Bool, true, false, cond, Option, Some, None, refl, sym, ap, ◌∙◌, subst, arith, ⊎_elim}
use Rattle.hs_base.specs.declared.mask.Mask.{Mask}
use Rattle.hs_base.specs.declared.mask.Mask.TheVariants.{Unmasked}
use Rattle.hs_base.specs.declared.exn.Exn.{Exn}
use Rattle.hs_base.specs.declared.exn.Exn.TheVariants.{Timeout, BlockedIndefinitely}
use Rattle.hs_rules.specs.declared.entry.Entry.{Entry}
use Rattle.rules_meaning.specs.Values as val
use Rattle.rules_meaning.specs.Values.{V, UnitValue, Exception, Restore, Inst, Env, with_name}
use Rattle.rules_expansion.specs.Core.{Core}
use Rattle.rules_expansion.specs.declared.primitive.Primitive.TheVariants.{NewMVar, NewEmptyMVar, Acquired, Release}
use Rattle.rules_meaning.specs.CoreMeaning.{Code}
use Rattle.hs_rules.specs.Terms.{Operation, Calls, Forks, ForksUnmask, Part, Ret, Throw, Do, Performs, Frame, MaskIn, Term, term}
use Rattle.rules_waiting.specs.Waiting.{Reason, Throwing, Sleeping, Waiting, Flying, leaves, is_blocked, reason_of}
use Rattle.hs_rules.specs.State.{Mark, AcquiredBy, ReleasedBy, Thread, State, with_term, move, frames_of, resume, answer, resume_all, block, spawn, first}
use Rattle.hs_rules.specs.Primitives.{read_by_all, line_feed}
use Rattle.hs_rules.specs.Entries.{is_stranded, stranded_below, stranded, next}
use Rattle.hs_laws.specs.cases.Cases.{with_cell, printed, told}
use Rattle.hs_rules.specs.Runs.{Run}
use Rattle.rules_waiting.specs.Waiting.{first_thrown}
use Rattle.hs_laws.specs.BracketLaw.{mine, IsMasked, Brackets, count, Numbered}
use Rattle.hs_laws.specs.BracketPhases.{Blocks, OpPart, At, Owing, Fine, FineCode}
use Rattle.hs_laws.specs.BracketPhases.{FineOp, Below, no_frames, below_mask, Held, held_ret, held_throw, held_do}
use Rattle.hs_laws.specs.Standing.{Once, IsResult, IsBare, Standing}
use Rattle.std.proofs.Common.{append-nil}
use Rattle.hs_laws.proofs.Lists.{equal_or, item_same, item_other, item_more, Each, each_more, each_left, each_apart, each_changed, Found, first_found, OnReason, reason_found, blocked_found, once_left, once_more, Distinct, Ones, ones_apart, ones_both, ones_changed, distinct_last, distinct_those, ones_those, Absent_in, absent_above, those, throws, throws_means, reads_at, readers_are, throw_is_first}
use Rattle.hs_laws.proofs.Marks.{Proper, numbered_more, mine_acquired, mine_acquired_other, mine_released, mine_released_other, once_acquired, once_released, own_release, all_released, AllBelow, mine_below, open_once}
use Rattle.hs_laws.proofs.Owes.{held_owes, held_here, held_catches}
use Rattle.hs_laws.proofs.Ends.{below_of_op, instance_kept, release_kept, open_kept, ret_owes_nothing, throw_owes_nothing, fork_fine, fork_unmask_fine}
use Rattle.hs_laws.proofs.Steps.{Goes, locals_kept}
use Rattle.hs_laws.proofs.Changes as change
use Rattle.hs_laws.proofs.Changes.{each_among, Stands, stands_blocks, Apart, Makes, Calm, Open, ends_result, Changes, changes}

-- ---- the invariant
abbrev pub HeldThread : Option Thread → List ℕ → Type 0
HeldThread None o = o ≡ []
HeldThread (Some th) o = Held th.term.part th.term.frames o × (th.finished ≡ true → (o ≡ []) × IsBare th)

abbrev pub Stopped : Option Thread → Type 0
Stopped o = At FineOp o

abbrev pub Waits : List Thread → ℕ → Reason V → Type 0
Waits ts t r = At (Blocks r) (slice_get ts t) × Apart t r

pub record Fits (ts : List Thread) (ws : List (Waiting V)) (ms : List Mark) (n : ℕ) : Type 0 where
  pub threads : (t : ℕ) → HeldThread (slice_get ts t) (mine t ms)
  pub waits : Each (Waits ts) ws
  pub once : Once ws
  pub proper : Proper ms
  pub numbered : Numbered n ms

abbrev pub Holds : State → Type 0
Holds s = Fits s.threads s.blocked s.marks s.next_instance

abbrev pub Keeps : Option State → Type 0
Keeps None = Unit {0}
Keeps (Some s) = Holds s

-- ---- one thread moves
-- what a thread that hasn't finished may become
abbrev OkAt : Part → Option Thread → List ℕ → Type 0
OkAt p None m = m ≡ []
OkAt p (Some th) m = Held p th.term.frames m × (th.finished ≡ false)

-- it hasn't finished, so what would be true of one that has finished is due to nobody
unfinished_owes : {A : Type 0} {b : Bool} → b ≡ false → b ≡ true → A
unfinished_owes f g = let c : false ≡ true = sym f ∙ g in absurd (cc c)

pub other_thread : (ts : List Thread) (t u : ℕ) (o : Option Thread) (x : Term) → u ≢ t → slice_get (with_term t o x ts) u ≡ slice_get ts u
other_thread ts t u None x n = refl
other_thread ts t u (Some th) x n = item_other ts t u (record { term = x; finished = th.finished }) n

threads_moved : (ts : List Thread) (ms ms' : List Mark) (t : ℕ) (o : Option Thread) (x : Term) →
    ((u : ℕ) → HeldThread (slice_get ts u) (mine u ms)) →
    ((u : ℕ) → u ≢ t → mine u ms' ≡ mine u ms) →
    HeldThread (slice_get (with_term t o x ts) t) (mine t ms') →
    (u : ℕ) → HeldThread (slice_get (with_term t o x ts) u) (mine u ms')
threads_moved ts ms ms' t o x h same new u =
    ⊎_elim
    (λ e. subst (λ v. HeldThread (slice_get (with_term t o x ts) v) (mine v ms')) (sym e.1) new)
    (λ e. subst (λ m. HeldThread (slice_get (with_term t o x ts) u) m) (sym (same u e.1)) (subst (λ q. HeldThread q (mine u ms)) (sym (other_thread ts t u o x e.1)) (h u)))
    (equal_or u t)

part_moved : (ts : List Thread) (m : List ℕ) (t : ℕ) (p : Part) (o : Option Thread) → slice_get ts t ≡ o → OkAt p o m → HeldThread (slice_get (with_term t o (term p (frames_of o)) ts) t) m
part_moved ts m t p None e h = subst (λ q. HeldThread q m) (sym e) h
part_moved ts m t p (Some th) e h =
    subst (λ q. HeldThread q m) (sym (item_same ts t th (record { term = term p th.term.frames; finished = th.finished }) e)) (h.0, λ g. unfinished_owes h.1 g)

waits_moved : (ts : List Thread) (t : ℕ) (o : Option Thread) (x : Term) (u : ℕ) (r : Reason V) → u ≢ t → Waits ts u r → Waits (with_term t o x ts) u r
waits_moved ts t o x u r n w = (subst (At (Blocks r)) (sym (other_thread ts t u o x n)) w.0, w.1)

resume_fits : (ts : List Thread) (ws : List (Waiting V)) (ms ms' : List Mark) (n n' t : ℕ) (p : Part) → Fits ts ws ms n → ((u : ℕ) → u ≢ t → mine u ms' ≡ mine u ms) → Proper ms' → Numbered n' ms' →
    OkAt p (slice_get ts t) (mine t ms') →
    Fits (with_term t (slice_get ts t) (term p (frames_of (slice_get ts t))) ts) (leaves t ws) ms' n'
resume_fits ts ws ms ms' n n' t p h same pr nu ok = record {
  threads = threads_moved ts ms ms' t (slice_get ts t) (term p (frames_of (slice_get ts t))) h.threads same (part_moved ts (mine t ms') t p (slice_get ts t) refl ok);
  waits = each_left (Waits ts) (Waits (with_term t (slice_get ts t) (term p (frames_of (slice_get ts t))) ts)) t ws (waits_moved ts t (slice_get ts t) (term p (frames_of (slice_get ts t)))) h.waits;
  once = once_left t ws h.once;
  proper = pr;
  numbered = nu;
}

abbrev OkPart : Part → Option Thread → List ℕ → Type 0
OkPart p None m = Unit {0}
OkPart p (Some th) m = Held p th.term.frames m × (th.finished ≡ false)

ok_at : (p : Part) (o : Option Thread) (m : List ℕ) → HeldThread o m → OkPart p o m → OkAt p o m
ok_at p None m h k = h
ok_at p (Some th) m h k = k

pub resume_holds : (s : State) (t : ℕ) (p : Part) → Holds s → OkPart p (slice_get s.threads t) (mine t s.marks) → Holds (resume t p s)
resume_holds s t p h ok =
    resume_fits s.threads s.blocked s.marks s.marks s.next_instance s.next_instance t p h (λ u n. refl) h.proper h.numbered (ok_at p (slice_get s.threads t) (mine t s.marks) (h.threads t) ok)

blocks_fine : (r : Reason V) (op : Operation) → Blocks r op → FineOp op
blocks_fine (Sleeping due) op e = subst FineOp (sym e.1) tt
blocks_fine _ op e = subst FineOp (sym e) tt

part_stopped : (r : Reason V) (p : Part) → OpPart (Blocks r) p → OpPart FineOp p
part_stopped r (Performs op) h = blocks_fine r op h
part_stopped r _ h = h

stopped_by : (r : Reason V) (o : Option Thread) → At (Blocks r) o → Stopped o
stopped_by r None h = h
stopped_by r (Some th) h = part_stopped r th.term.part h

pub wait_stopped : (ts : List Thread) (t : ℕ) (r : Reason V) → Waits ts t r → Stopped (slice_get ts t)
wait_stopped ts t r w = stopped_by r (slice_get ts t) w.0

-- a thread that stands at an operation that is none of a bracket's own may return or throw
abbrev Free : Option Thread → List ℕ → Type 0
Free None m = Unit {0}
Free (Some th) m = Below th.term.frames m × (th.finished ≡ false)

-- no thread that has finished stands at an operation
not_bare : (P : Operation → Type 0) (p : Part) → OpPart P p → IsResult p → ⊥
not_bare P (Ret v) h r = h
not_bare P (Throw e) h r = h
not_bare P (Do a env) h r = h
not_bare P (Performs op) h r = r

pub unfinished_at : (P : Operation → Type 0) (th : Thread) {o : List ℕ} → OpPart P th.term.part → (th.finished ≡ true → (o ≡ []) × IsBare th) → th.finished ≡ false
unfinished_at P th h e = by th.finished refl
  where
    by : (b : Bool) → b ≡ th.finished → b ≡ false
    by false q = refl
    by true q = absurd (not_bare P th.term.part h (e (sym q)).1.0)

free_part : (p : Part) {fs : List Frame} {m : List ℕ} → Held p fs m → OpPart FineOp p → Below fs m
free_part (Performs op) h w = below_of_op w h
free_part _ h w = absurd w

free_of : (o : Option Thread) (m : List ℕ) → HeldThread o m → Stopped o → Free o m
free_of None m h w = absurd w
free_of (Some th) m h w = (free_part th.term.part h.0 w, unfinished_at FineOp th w h.1)

free_in : (s : State) (t : ℕ) → Holds s → Stopped (slice_get s.threads t) → Free (slice_get s.threads t) (mine t s.marks)
free_in s t h w = free_of (slice_get s.threads t) (mine t s.marks) (h.threads t) w

ok_ret : (v : V) (o : Option Thread) (m : List ℕ) → Free o m → OkPart (Ret v) o m
ok_ret v None m f = tt
ok_ret v (Some th) m f = (held_ret f.0, f.1)

ok_throw : (e : Exn) (o : Option Thread) (m : List ℕ) → Free o m → OkPart (Throw e) o m
ok_throw e None m f = tt
ok_throw e (Some th) m f = (held_throw f.0, f.1)

pub answer_holds : (s : State) (t : ℕ) (v : V) → Holds s → Stopped (slice_get s.threads t) → Holds (answer t v s)
answer_holds s t v h w = resume_holds s t (Ret v) h (ok_ret v (slice_get s.threads t) (mine t s.marks) (free_in s t h w))

throw_holds : (s : State) (t : ℕ) (e : Exn) → Holds s → Stopped (slice_get s.threads t) → Holds (resume t (Throw e) s)
throw_holds s t e h w = resume_holds s t (Throw e) h (ok_throw e (slice_get s.threads t) (mine t s.marks) (free_in s t h w))

-- a thread of another number stands as before
pub stopped_still : (s : State) (t u : ℕ) (p : Part) → u ≢ t → Stopped (slice_get s.threads u) → Stopped (slice_get (resume t p s).threads u)
stopped_still s t u p n w = subst Stopped (sym (other_thread s.threads t u (slice_get s.threads t) (term p (frames_of (slice_get s.threads t))) n)) w

-- any stopped thread may get a result
pub end_holds : (s : State) (t : ℕ) (p : Part) → IsResult p → Holds s → Stopped (slice_get s.threads t) → Holds (resume t p s)
end_holds s t (Ret v) e h w = answer_holds s t v h w
end_holds s t (Throw x) e h w = throw_holds s t x h w
end_holds s t (Do a env) e h w = absurd e
end_holds s t (Performs op) e h w = absurd e

resume_all_holds : (us : List ℕ) (p : Part) (s : State) → IsResult p → Holds s → Distinct us → Ones (λ u. Stopped (slice_get s.threads u)) us → Holds (resume_all us p s)
resume_all_holds [] p s e h d w = h
resume_all_holds (u ∷ us) p s e h d w =
    resume_all_holds us p (resume u p s) e (end_holds s u p e h w.0) d.1
    (ones_apart (λ v. Stopped (slice_get s.threads v)) (λ v. Stopped (slice_get (resume u p s).threads v)) u us (λ v n k. stopped_still s u v p n k) d.0 w.1)

pub those_hold : (p : ℕ → Reason V → Bool) (x : Part) (s : State) → IsResult x → Holds s → Holds (resume_all (those p s.blocked) x s)
those_hold p x s e h =
    resume_all_holds (those p s.blocked) x s e h (distinct_those p s.blocked h.once)
    (ones_those (Waits s.threads) (λ u. Stopped (slice_get s.threads u)) p s.blocked (wait_stopped s.threads) h.waits)

block_holds : (s : State) (t : ℕ) (r : Reason V) → Holds s → At (Blocks r) (slice_get s.threads t) → Apart t r → is_blocked t s.blocked ≡ false → Holds (block t r s)
block_holds s t r h w a b = record {
  threads = h.threads;
  waits = each_more (Waits s.threads) s.blocked (record { thread = t; reason = r }) h.waits (w, a);
  once = once_more s.blocked (record { thread = t; reason = r }) b h.once;
  proper = h.proper;
  numbered = h.numbered;
}

spawn_holds : (s : State) (x : Term) → Holds s → Held x.part x.frames [] → Holds (spawn x s)
spawn_holds s x h new = record {
  threads = λ t. item_more (λ o. HeldThread o (mine t s.marks)) s.threads (record { term = x; finished = false }) t (h.threads t) (λ none.
      let m : mine t s.marks ≡ [] = subst (λ o. HeldThread o (mine t s.marks)) none (h.threads t) in (subst (Held x.part x.frames) (sym m) new, λ f. absurd (cc f)));
  waits = each_changed (Waits s.threads) (Waits (s.threads ++ record { term = x; finished = false } ∷ [])) s.blocked
      (λ t r w. (item_more (At (Blocks r)) s.threads (record { term = x; finished = false }) t w.0 (λ none. absurd (subst (At (Blocks r)) none w.0)), w.1)) h.waits;
  once = h.once;
  proper = h.proper;
  numbered = h.numbered;
}

-- ---- cells
pub reads_hold : (m : ℕ) (v : V) (s : State) → Holds s → Holds (read_by_all m v s)
reads_hold m v s h = subst (λ us. Holds (resume_all us (Ret v) s)) (sym (readers_are m s.blocked)) (those_hold (λ u. reads_at m) (Ret v) s tt h)

-- ---- a primitive
-- a thread stands at an operation and isn't blocked
pub record Ready (s : State) (t : ℕ) (op : Operation) : Type 0 where
  pub th : Thread
  pub is : slice_get s.threads t ≡ Some th
  pub part : th.term.part ≡ Performs op
  pub unfinished : th.finished ≡ false
  pub running : is_blocked t s.blocked ≡ false
  pub holds : Holds s

pub ready_stopped : {s : State} {t : ℕ} {op : Operation} → Ready s t op → FineOp op → Stopped (slice_get s.threads t)
ready_stopped r f = subst Stopped (sym r.is) (subst (OpPart FineOp) (sym r.part) f)

pub ready_held : {s : State} {t : ℕ} {op : Operation} → (r : Ready s t op) → Held (Performs op) r.th.term.frames (mine t s.marks)
ready_held {s} {t} r = let h : HeldThread (Some r.th) (mine t s.marks) = subst (λ o. HeldThread o (mine t s.marks)) r.is (r.holds.threads t) in subst (λ p. Held p r.th.term.frames (mine t s.marks)) r.part h.0

ready : {s : State} {t : ℕ} {op : Operation} → Stands s t op → Holds s → Ready s t op
ready a h = record { th = a.th; is = a.is; part = a.part; unfinished = a.unfinished; running = a.running; holds = h }

calm_fine : (op : Operation) → Calm op → FineOp op
calm_fine (Calls Acquired vs) c = absurd c
calm_fine (Calls Release vs) c = absurd c
calm_fine (Calls w vs) c = tt
calm_fine (Forks a env) c = absurd c
calm_fine (ForksUnmask r a env) c = absurd c

makes_fine : (op : Operation) → Makes op → FineOp op
makes_fine (Calls NewMVar vs) m = tt
makes_fine (Calls NewEmptyMVar vs) m = tt
makes_fine op m = absurd m

acquired_holds : (s : State) (t : ℕ) (vs : List V) → Ready s t (Calls Acquired vs) →
    Holds (answer t (Inst s.next_instance) (record s { marks = AcquiredBy s.next_instance t ∷ s.marks; next_instance = suc s.next_instance }))
acquired_holds s t vs r =
    resume_fits s.threads s.blocked s.marks (AcquiredBy s.next_instance t ∷ s.marks) s.next_instance (suc s.next_instance) t (Ret (Inst s.next_instance)) r.holds
    (λ u n. mine_acquired_other t u s.next_instance s.marks n)
    (r.holds.numbered, r.holds.proper)
    (omega arith, numbered_more s.next_instance (suc s.next_instance) s.marks (omega arith) r.holds.numbered)
    (subst (λ o. OkAt (Ret (Inst s.next_instance)) o (mine t (AcquiredBy s.next_instance t ∷ s.marks))) (sym r.is) (
      subst (Held (Ret (Inst s.next_instance)) r.th.term.frames) (sym (mine_acquired t s.next_instance s.marks)) (instance_kept s.next_instance (ready_held r)),
      r.unfinished,
    ))

-- an open instance is below the next number
mine_numbered : (n t i : ℕ) (rest : List ℕ) (ms : List Mark) → Numbered n ms → mine t ms ≡ i ∷ rest → i < n
mine_numbered n t i rest ms nu e = let b : AllBelow n (i ∷ rest) = subst (AllBelow n) e (mine_below n t ms nu) in b.0

released_holds : (s : State) (t i : ℕ) (vs : List V) → Ready s t (Calls Release (Inst i ∷ vs)) → Holds (answer t UnitValue (record s { marks = ReleasedBy i t ∷ s.marks }))
released_holds s t i vs r =
    let k = release_kept (ready_held r) in
    let m : mine t (ReleasedBy i t ∷ s.marks) ≡ k.0 = mine_released t i s.marks k.0 k.1 in
    resume_fits s.threads s.blocked s.marks (ReleasedBy i t ∷ s.marks) s.next_instance s.next_instance t (Ret UnitValue) r.holds
    (λ u n. mine_released_other t u i s.marks n)
    (k.0, k.1, r.holds.proper)
    (mine_numbered s.next_instance t i k.0 s.marks r.holds.numbered k.1, r.holds.numbered)
    (subst (λ o. OkAt (Ret UnitValue) o (mine t (ReleasedBy i t ∷ s.marks))) (sym r.is) (
      subst (Held (Ret UnitValue) r.th.term.frames) (sym m) k.2,
      r.unfinished,
    ))

child_held : {a : Core} {env : Env} {m : Mask} → Fine a → Held (Do a env) (MaskIn m ∷ []) []
child_held f = held_do f (below_mask no_frames)

forked : {s : State} {t : ℕ} {op : Operation} (m : Mask) {a : Core} (env : Env) → Ready s t op → FineOp op → Fine a → Holds (spawn (term (Do a env) (MaskIn m ∷ [])) (answer t (val.Thread (length s.threads)) s))
forked {s} {t} m {a} env r f g = spawn_holds (answer t (val.Thread (length s.threads)) s) (term (Do a env) (MaskIn m ∷ [])) (answer_holds s t (val.Thread (length s.threads)) r.holds (ready_stopped r f)) (child_held g)

-- ---- entries
move_holds : (s : State) (t : ℕ) (th : Thread) (x : Term) → Holds s → slice_get s.threads t ≡ Some th → th.finished ≡ false → is_blocked t s.blocked ≡ false → Held x.part x.frames (mine t s.marks) → Holds (move t x s)
move_holds s t th x h e f b new = record {
  threads = threads_moved s.threads s.marks s.marks t (slice_get s.threads t) x h.threads (λ u n. refl)
      (subst (λ o. HeldThread (slice_get (with_term t o x s.threads) t) (mine t s.marks)) (sym e)
      (subst (λ o. HeldThread o (mine t s.marks)) (sym (item_same s.threads t th (record { term = x; finished = th.finished }) e)) (new, λ g. unfinished_owes f g)));
  waits = each_apart (Waits s.threads) (Waits (with_term t (slice_get s.threads t) x s.threads)) t s.blocked (waits_moved s.threads t (slice_get s.threads t) x) b h.waits;
  once = h.once;
  proper = h.proper;
  numbered = h.numbered;
}

pub thread_held : (s : State) (t : ℕ) (th : Thread) → Holds s → slice_get s.threads t ≡ Some th → Held th.term.part th.term.frames (mine t s.marks)
thread_held s t th h e = let k : HeldThread (Some th) (mine t s.marks) = subst (λ o. HeldThread o (mine t s.marks)) e (h.threads t) in k.0

-- where a thread may receive it may throw
hit_ok : (s : State) (t : ℕ) (th : Thread) (e : Exn) → Holds s → slice_get s.threads t ≡ Some th → th.finished ≡ false → Open s t th → OkPart (Throw e) (Some th) (mine t s.marks)
hit_ok s t th e h is f o =
    ⊎_elim
    (λ b. let k = blocked_found (Waits s.threads) t s.blocked b.0 h.waits in subst (λ o. OkPart (Throw e) o (mine t s.marks)) is (ok_throw e (slice_get s.threads t) (mine t s.marks) (free_in s t h (wait_stopped s.threads t k.0 k.1))))
    (λ u. (open_kept e (λ m. subst IsMasked u.1 m) (thread_held s t th h is), f))
    o

-- who throws at t isn't t
pub throws_apart : (t w : ℕ) (r : Reason V) (e : Exn) → Apart w r → throws t r ≡ Some e → w ≢ t
throws_apart t w r e a f = subst (Apart w) (throws_means t r e f) a

hit_holds : (s : State) (t : ℕ) (th : Thread) (w : Flying) → Holds s → slice_get s.threads t ≡ Some th → th.finished ≡ false → Open s t th → Found (Waits s.threads) (throws t) (Some (w.thrower, w.exn))
    → Holds (resume t (Throw w.exn) (answer w.thrower UnitValue s))
hit_holds s t th w h is un at_once f =
    let apart : t ≢ w.thrower = λ same. throws_apart t w.thrower f.0 w.exn f.1.1 f.2 (sym same) in
    let still : slice_get (answer w.thrower UnitValue s).threads t ≡ Some th = other_thread s.threads w.thrower t (slice_get s.threads w.thrower) (term (Ret UnitValue) (frames_of (slice_get s.threads w.thrower))) apart ∙ is in
    resume_holds (answer w.thrower UnitValue s) t (Throw w.exn) (answer_holds s w.thrower UnitValue h (wait_stopped s.threads w.thrower f.0 f.1)) (subst (λ o. OkPart (Throw w.exn) o (mine t s.marks)) (sym still) (hit_ok s t th w.exn h is un at_once))

abbrev pub ended : State → ℕ → Thread → List ℕ → State
ended s t th line = record s { threads = slice_set s.threads t (record { term = th.term; finished = true }); errors = s.errors ++ line }

pub ended_holds : (s : State) (t : ℕ) (th : Thread) (line : List ℕ) → Holds s → slice_get s.threads t ≡ Some th → IsBare th → mine t s.marks ≡ [] → Holds (ended s t th line)
ended_holds s t th line h is bare none =
    let new : Thread = record { term = th.term; finished = true } in
    let same : slice_get (slice_set s.threads t new) t ≡ Some new = item_same s.threads t th new is in
    record {
      threads = λ u. ⊎_elim
          (λ e. subst (λ v. HeldThread (slice_get (slice_set s.threads t new) v) (mine v s.marks)) (sym e.1) (subst (λ o. HeldThread o (mine t s.marks)) (sym same) (thread_held s t th h is, λ f. (none, bare))))
          (λ e. subst (λ o. HeldThread o (mine u s.marks)) (sym (item_other s.threads t u new e.1)) (h.threads u))
          (equal_or u t);
      waits = each_changed (Waits s.threads) (Waits (slice_set s.threads t new)) s.blocked (λ u r w. (
        ⊎_elim
            (λ e. subst (λ v. At (Blocks r) (slice_get (slice_set s.threads t new) v)) (sym e.1) (subst (At (Blocks r)) (sym same) (let k : At (Blocks r) (Some th) = subst (At (Blocks r)) (ap (slice_get s.threads) e.1 ∙ is) w.0 in k)))
            (λ e. subst (At (Blocks r)) (sym (item_other s.threads t u new e.1)) w.0)
            (equal_or u t),
        w.1,
      )) h.waits;
      once = h.once;
      proper = h.proper;
      numbered = h.numbered;
    }

result_owes_nothing : (p : Part) {m : List ℕ} → IsResult p → Held p [] m → m ≡ []
result_owes_nothing (Ret v) i k = ret_owes_nothing k
result_owes_nothing (Throw e) i k = throw_owes_nothing k
result_owes_nothing (Do a env) i k = absurd i
result_owes_nothing (Performs op) i k = absurd i

pub bare_owes_nothing : (s : State) (t : ℕ) (th : Thread) → Holds s → slice_get s.threads t ≡ Some th → IsBare th → mine t s.marks ≡ []
bare_owes_nothing s t th h is b = result_owes_nothing th.term.part b.0 (subst (λ fs. Held th.term.part fs (mine t s.marks)) b.1 (thread_held s t th h is))

-- ---- Stranded

-- thread t is to be stranded
abbrev pub Strands : State → ℕ → Type 0
Strands s t = is_stranded (slice_get s.threads t) (reason_of t s.blocked) ≡ true

maybe_one : (P : ℕ → Type 0) (b : Bool) (t : ℕ) → (b ≡ true → P t) → Ones P (cond b (t ∷ []) [])
maybe_one P true t f = (f refl, tt)
maybe_one P false t f = tt

pub strands_each : (n : ℕ) (s : State) → Ones (Strands s) (stranded_below n s)
strands_each zero s = tt
strands_each (suc t) s =
    ones_both (Strands s) (stranded_below t s) _ (strands_each t s)
    (maybe_one (Strands s) (is_stranded (slice_get s.threads t) (reason_of t s.blocked)) t (λ e. e))

stranded_are_below : (n : ℕ) (s : State) → Ones (λ u. u < n) (stranded_below n s)
stranded_are_below zero s = tt
stranded_are_below (suc t) s =
    ones_both (λ u. u < suc t) (stranded_below t s) _
    (ones_changed (λ u. u < t) (λ u. u < suc t) (stranded_below t s) (λ u h. omega arith) (stranded_are_below t s))
    (maybe_one (λ u. u < suc t) (is_stranded (slice_get s.threads t) (reason_of t s.blocked)) t (λ e. omega arith))

distinct_more : (b : Bool) (t : ℕ) (us : List ℕ) → Distinct us → Absent_in t us → Distinct (us ++ cond b (t ∷ []) [])
distinct_more true t us d a = distinct_last t us d a
distinct_more false t us d a = subst Distinct (sym (append-nil us)) d

pub stranded_distinct : (n : ℕ) (s : State) → Distinct (stranded_below n s)
stranded_distinct zero s = tt
stranded_distinct (suc t) s =
    distinct_more (is_stranded (slice_get s.threads t) (reason_of t s.blocked)) t (stranded_below t s) (stranded_distinct t s)
    (absent_above t t (stranded_below t s) (omega arith) (stranded_are_below t s))

reason_stops : (s : State) (t : ℕ) (o : Option (Reason V)) → OnReason (Waits s.threads t) o → is_stranded (slice_get s.threads t) o ≡ true → Stopped (slice_get s.threads t)
reason_stops s t None w e = absurd (cc e)
reason_stops s t (Some r) w e = wait_stopped s.threads t r w

stranded_stop : (s : State) → Holds s → Ones (λ t. Stopped (slice_get s.threads t)) (stranded s)
stranded_stop s h =
    ones_changed (Strands s) (λ t. Stopped (slice_get s.threads t)) (stranded s)
    (λ t e. reason_stops s t (reason_of t s.blocked) (reason_found (Waits s.threads) t s.blocked h.waits) e)
    (strands_each (length s.threads) s)

-- ---- every legal entry keeps the invariant
module _ (code : Code) (fc : FineCode code.actions) (s : State) (h : Holds s) where
  changed_holds : {e : Entry} {u : State} → Changes code s e u → Holds u
  changed_holds (change.moves {t} {k} {th} {x} a b l) = move_holds s t th x h a.0 a.1 b (subst (λ o. Goes o (mine t s.marks)) l (locals_kept code fc (suc k) th.term (thread_held s t th h a.0)))
  changed_holds (change.blocks {t} r a c b n) = block_holds s t r h (stands_blocks r a b) n a.running
  changed_holds (change.ends {t} {op} p a c i) = end_holds s t p i h (ready_stopped (ready a h) (calm_fine op c))
  changed_holds (change.prints {t} {x} a) = answer_holds (printed x s) t UnitValue h (ready_stopped (ready a h) tt)
  changed_holds (change.prints_a_line {t} {x} a) = answer_holds (printed line_feed (printed x s)) t UnitValue h (ready_stopped (ready a h) tt)
  changed_holds (change.tells_a_line {t} {x} a) = answer_holds (told line_feed (told x s)) t UnitValue h (ready_stopped (ready a h) tt)
  changed_holds (change.makes {t} {op} v o a m) = answer_holds (with_cell o s) t v h (ready_stopped (ready a h) (makes_fine op m))
  changed_holds (change.makes_a_timeout {t} a) = answer_holds (record s { next_timeout = suc s.next_timeout }) t (Exception (Timeout s.next_timeout)) h (ready_stopped (ready a h) tt)
  changed_holds (change.acquires {t} a) = acquired_holds s t [] (ready a h)
  changed_holds (change.releases {t} {i} a) = released_holds s t i [] (ready a h)
  changed_holds (change.forks m {env} a) = let f = fork_fine (ready_held (ready a h)) in forked m env (ready a h) f f
  changed_holds (change.forks_unmasked m {r} {env} a) = let f = fork_unmask_fine (ready_held (ready a h)) in forked m (with_name r (val.Restore Unmasked) env) (ready a h) f f
  changed_holds (change.receives {t} {th} {f} {fs} a o q) =
      hit_holds s t th f h a.0 a.1 o
      (subst (λ gs. Found (Waits s.threads) (throws t) (first_thrown gs)) q (subst (Found (Waits s.threads) (throws t)) (sym (throw_is_first t s.blocked)) (first_found (Waits s.threads) (throws t) s.blocked h.waits)))
  changed_holds (change.wakes {t} {due} q) = answer_holds s t UnitValue h (wait_stopped s.threads t (Sleeping due) (subst (OnReason (Waits s.threads t)) q (reason_found (Waits s.threads) t s.blocked h.waits)))
  changed_holds (change.finishes {t} {th} line a f b) = let i : IsBare th = (ends_result t line th.term.part b, f) in ended_holds s t th line h a.0 i (bare_owes_nothing s t th h a.0 i)
  changed_holds (change.ticks q) = h
  changed_holds change.strands = resume_all_holds (stranded s) (Throw BlockedIndefinitely) s tt h (stranded_distinct (length s.threads) s) (stranded_stop s h)
  changed_holds (change.holds c o u k) = changed_holds k
  changed_holds (change.serves w v u r a k) = let g = changed_holds k in answer_holds u w v g (wait_stopped u.threads w r (each_among (Waits u.threads) w r u.blocked g.waits a))
  changed_holds (change.all p v u k) = those_hold p (Ret v) u tt (changed_holds k)

pub next_kept : (code : Code) → FineCode code.actions → (s : State) (e : Entry) → Holds s → Keeps (next code s e)
next_kept code fc s e h = by (next code s e) refl
  where
    by : (o : Option State) → next code s e ≡ o → Keeps o
    by None q = tt
    by (Some u) q = changed_holds code fc s h (changes code s e u q)

pub run_kept : (code : Code) → FineCode code.actions → (es : List Entry) (s u : State) → Run code s es u → Holds s → Holds u
run_kept code fc [] s u r h = subst Holds r h
run_kept code fc (e ∷ es) s u r h = run_kept code fc es r.0 u r.2 (subst Keeps r.1.0 (next_kept code fc s e h))

pub first_holds : (main : Core) → Fine main → Holds (first main)
first_holds main f = record {
  threads = first_thread;
  waits = tt;
  once = tt;
  proper = tt;
  numbered = tt;
}
  where
    first_thread : (t : ℕ) → HeldThread (slice_get (first main).threads t) []
    first_thread zero = (held_do f no_frames, λ g. absurd (cc g))
    first_thread (suc t) = refl

pub brackets : (s : State) → Holds s → Brackets s
brackets s h = record {
  acquired_once = λ i. once_acquired i s.marks h.proper;
  released_once = λ i. once_released i s.marks h.proper;
  by_its_own = λ i t. own_release i t s.marks h.proper;
  in_the_end = λ i t th is f. let k : HeldThread (Some th) (mine t s.marks) = subst (λ o. HeldThread o (mine t s.marks)) is (h.threads t) in all_released i t s.marks h.proper (k.1 f).0;
}

pub owing : (s : State) → Holds s → Owing s
owing s h = record {
  owes = λ t th is. held_owes (thread_held s t th h is);
  here = λ t th is. held_here (thread_held s t th h is);
  catches = λ t th is. held_catches (thread_held s t th h is);
  once = λ i t th is. subst (λ o. count i o ≤ 1) (sym (held_owes (thread_held s t th h is))) (open_once i t s.marks h.proper);
  phase = λ t th is. thread_held s t th h is;
  blocked = λ t r is. let w : OnReason (Waits s.threads t) (Some r) = subst (OnReason (Waits s.threads t)) is (reason_found (Waits s.threads) t s.blocked h.waits) in w.0;
  numbered = h.numbered;
}

-- ---- how blocked and finished threads stand
thread_stands : (r : Reason V) (o : Option Thread) (m : List ℕ) → HeldThread o m → At (Blocks r) o → (th : Thread) × (o ≡ Some th) × (th.finished ≡ false) × OpPart (Blocks r) th.term.part
thread_stands r None m h w = absurd w
thread_stands r (Some th) m h w = (th, refl, unfinished_at (Blocks r) th w h.1, w)

pub standing : (s : State) → Holds s → Standing s
standing s h = record {
  once = h.once;
  blocked = λ t r is.
      let w : OnReason (Waits s.threads t) (Some r) = subst (OnReason (Waits s.threads t)) is (reason_found (Waits s.threads) t s.blocked h.waits) in
      let k = thread_stands r (slice_get s.threads t) (mine t s.marks) (h.threads t) w.0 in
      record { thread = k.0; is = k.1; unfinished = k.2; part = k.3 };
  apart = λ t u e is. let w : OnReason (Waits s.threads t) (Some (Throwing u e)) = subst (OnReason (Waits s.threads t)) is (reason_found (Waits s.threads) t s.blocked h.waits) in w.1;
  finished = λ t th is f. let k : HeldThread (Some th) (mine t s.marks) = subst (λ o. HeldThread o (mine t s.marks)) is (h.threads t) in (k.1 f).1;
}
