-- A cell goes on in its scope: what changes in the book, and what stays.
use Rattle.std.proofs.Common.{◌≡◌, ◌≢◌, ◌==◌, ℕ, suc, List, [], ◌∷◌, ◌++◌, length, slice_get, cond, Option, Some, None, refl, sym, ap, ◌∙◌, subst, ⊎_elim}
use Rattle.plain_laws.proofs.Lists.{get_last, get_before_last}
use Rattle.rules_meaning.specs.Values.{V}
use Rattle.hs_rules.specs.Terms.{Part, Term, term}
use Rattle.hs_rules.specs.State.{Thread, State, thread_with, frames_of, resume, resume_all, spawn}
use Rattle.rules_waiting.specs.Waiting.{Waiting, line_of}
use Rattle.rules_waiting.specs.OneCell.{first_take}
use Rattle.hs_laws.specs.BracketLaw.{count}
use Rattle.hs_laws.proofs.Lists.{cond_true, cond_false, equal_or, Found, first_found, first_of_kind, takes, only_thread, take_is_first, Ones}
use Rattle.hs_progress.specs.TypedStates.{Purpose}
use Rattle.scope_laws.specs.ScopePhases.{Role, Plain, Fresh, Running, Ended, IsOf, IsChild, Held}
use Rattle.scope_laws.specs.ScopesKept.{IsForEnd, at_values, CellFits, WaitsFor, AllWaitFor, Book, HeldThread, Fits}
use Rattle.scope_laws.proofs.Later.{Nearly, Later, held_more}
use Rattle.hs_progress.proofs.Sounds.{takes_is}
use Rattle.scope_laws.proofs.Threads.{lines_left, lines_each, threads_set_at, threads_set, not_both}

-- ---- lists, longer at the end

pub none_at_end : {A : Type 0} (xs : List A) → slice_get xs (length xs) ≡ None
none_at_end [] = refl
none_at_end (x ∷ xs) = none_at_end xs

-- ---- one of all has another part

abbrev pub with_one : {A : Type 0} → ℕ → A → (ℕ → A) → ℕ → A
with_one m r roles k = cond (k == m) r (roles k)

pub one_same : {A : Type 0} (m : ℕ) (r : A) (roles : ℕ → A) → with_one m r roles m ≡ r
one_same m r roles = ⊎_elim (λ e. cond_true (m == m) r (roles m) e.0) (λ e. absurd (e.1 refl)) (equal_or m m)

pub one_other : {A : Type 0} (m : ℕ) (r : A) (roles : ℕ → A) (k : ℕ) → k ≢ m → with_one m r roles k ≡ roles k
one_other m r roles k n = ⊎_elim (λ e. absurd (n e.1)) (λ e. cond_false (k == m) r (roles k) e.0) (equal_or k m)

-- what holds of the new part and of each old one
pub roles_each : (P : ℕ → Role → Type 0) (m : ℕ) (r : Role) (roles : ℕ → Role) → P m r → ((k : ℕ) → k ≢ m → P k (roles k)) → (k : ℕ) → P k (with_one m r roles k)
roles_each P m r roles h g k =
    ⊎_elim
    (λ e. subst (P k) (sym (cond_true (k == m) r (roles k) e.0)) (subst (λ j. P j r) (sym e.1) h))
    (λ e. subst (P k) (sym (cond_false (k == m) r (roles k) e.0)) (g k e.1))
    (equal_or k m)

module _ (values : ℕ → Type 0) (roles : ℕ → Role) (m : ℕ) (r : Role) (u : ℕ) where
  pub nearly_set : (IsOf u (roles m) → IsOf u r) → ((c : ℕ) → IsChild c (roles m) → IsChild c r) → ((p : ℕ) → roles m ≡ Running p u → r ≡ Running p u) → Nearly values values roles (with_one m r roles) u
  nearly_set own child runs = record {
    known = λ k h. h;
    own = roles_each (λ k q. IsOf u (roles k) → IsOf u q) m r roles own (λ k n h. h);
    child = roles_each (λ k q. (c : ℕ) → IsChild c (roles k) → IsChild c q) m r roles child (λ k n c h. h);
    runs = roles_each (λ k q. (p : ℕ) → roles k ≡ Running p u → q ≡ Running p u) m r roles runs (λ k n p h. h);
  }

  pub later_set : (IsOf u (roles m) → IsOf u r) → ((c : ℕ) → IsChild c (roles m) → IsChild c r) → ((p : ℕ) → roles m ≡ Running p u → r ≡ Running p u) → (roles m ≡ Fresh u → r ≡ Fresh u) → (roles m ≡ Ended u → r ≡ Ended u) → Later values values roles (with_one m r roles) u
  later_set own child runs fresh ended = record {
    nearly = nearly_set own child runs;
    fresh = roles_each (λ k q. roles k ≡ Fresh u → q ≡ Fresh u) m r roles fresh (λ k n h. h);
    ended = roles_each (λ k q. roles k ≡ Ended u → q ≡ Ended u) m r roles ended (λ k n h. h);
  }

-- ---- the book and the cells change, and one thread gets a part

pub held_thread : (cells cells' : List Purpose) (b b' : Book) (u : ℕ) (o : Option Thread) → Later (at_values cells) (at_values cells') b.roles b'.roles u → b'.guarded u ≡ b.guarded u → b'.owed u ≡ b.owed u → HeldThread cells b u o → HeldThread cells' b' u o
held_thread cells cells' b b' u None k e w h = (e ∙ h.0, w ∙ h.1)
held_thread cells cells' b b' u (Some th) k e w h =
    subst (Held (at_values cells') b'.roles u (b'.owed u) th.term.part th.term.frames) (sym e)
    (subst (λ o. Held (at_values cells') b'.roles u o th.term.part th.term.frames (b.guarded u)) (sym w) (held_more k h))

pub change_fits : (cells : List Purpose) (b b' : Book) (s : State) (t : ℕ) (th : Thread) (p : Part) (cs : List (Option V)) → Fits cells b s → slice_get s.threads t ≡ Some th
    → ((u : ℕ) → u ≢ t → Later (at_values cells) (at_values cells) b.roles b'.roles u) → ((u : ℕ) → u ≢ t → b'.guarded u ≡ b.guarded u) → ((u : ℕ) → u ≢ t → b'.owed u ≡ b.owed u)
    → Held (at_values cells) b'.roles t (b'.owed t) p th.term.frames (b'.guarded t) → ((m : ℕ) → CellFits (b'.roles m) (slice_get cs m) (slice_get cells m)) → ((m q c : ℕ) → b'.roles m ≡ Running q c → count m (b'.guarded q) ≡ 1)
    → ((m q c : ℕ) → b'.roles m ≡ Running q c → b'.owed c ≡ Some m) → Fits cells b' (resume t p (record s { cells = cs }))
change_fits cells b b' s t th p cs h is later same still own contents once child = record {
  threads = threads_set cells b' s.threads t (slice_get s.threads t) (term p (frames_of (slice_get s.threads t))) refl
      (λ u n. held_thread cells cells b b' u (slice_get s.threads u) (later u n) (same u n) (still u n) (h.threads u))
      (λ x e. subst (λ o. Held (at_values cells) b'.roles t (b'.owed t) p (frames_of o) (b'.guarded t)) (sym is) own)
      (λ e. let q : ◌≡◌ {A = Option Thread} (Some th) None = sym is ∙ e in absurd (cc q));
  contents = contents;
  once = once;
  child = child;
  lines = lines_left cells t s.blocked h.lines;
}

-- a new thread, the last by number, that guards nothing
pub spawn_fits : (cells : List Purpose) (b : Book) (s : State) (x : Term) → Fits cells b s → (HeldThread cells b (length s.threads) None → Held (at_values cells) b.roles (length s.threads) (b.owed (length s.threads)) x.part x.frames (b.guarded (length s.threads))) → Fits cells b (spawn x s)
spawn_fits cells b s x h new = record {
  threads = λ u. ⊎_elim
      (λ e. subst (λ v. HeldThread cells b v (slice_get (s.threads ++ thread_with x ∷ []) v)) (sym e.1)
      (subst (HeldThread cells b (length s.threads)) (sym (get_last s.threads (thread_with x))) (new (subst (HeldThread cells b (length s.threads)) (none_at_end s.threads) (h.threads (length s.threads))))))
      (λ e. subst (HeldThread cells b u) (sym (get_before_last s.threads (thread_with x) u e.1)) (h.threads u))
      (equal_or u (length s.threads));
  contents = h.contents;
  once = h.once;
  child = h.child;
  lines = h.lines;
}

-- a thread goes on, and a new one, the last by number, is the child of its scope
pub fork_fits : (cells : List Purpose) (b b' : Book) (s : State) (t : ℕ) (th : Thread) (p : Part) (x : Term) → Fits cells b s → slice_get s.threads t ≡ Some th → length (resume t p s).threads ≡ length s.threads
    → ((u : ℕ) → u ≢ t → Later (at_values cells) (at_values cells) b.roles b'.roles u) → ((u : ℕ) → u ≢ t → b'.guarded u ≡ b.guarded u) → ((u : ℕ) → u ≢ length s.threads → b'.owed u ≡ b.owed u)
    → Held (at_values cells) b'.roles t (b'.owed t) p th.term.frames (b'.guarded t)
    → Held (at_values cells) b'.roles (length s.threads) (b'.owed (length s.threads)) x.part x.frames (b'.guarded (length s.threads))
    → ((m : ℕ) → CellFits (b'.roles m) (slice_get s.cells m) (slice_get cells m)) → ((m q c : ℕ) → b'.roles m ≡ Running q c → count m (b'.guarded q) ≡ 1) → ((m q c : ℕ) → b'.roles m ≡ Running q c → b'.owed c ≡ Some m)
    → Fits cells b' (spawn x (resume t p s))
fork_fits cells b b' s t th p x h is long later same still own new contents once child = record {
  threads = λ u. ⊎_elim
      (λ e. subst (λ v. HeldThread cells b' v (slice_get ((resume t p s).threads ++ thread_with x ∷ []) v)) (sym e.1)
      (subst (HeldThread cells b' (length (resume t p s).threads)) (sym (get_last (resume t p s).threads (thread_with x)))
      (subst (λ c. Held (at_values cells) b'.roles c (b'.owed c) x.part x.frames (b'.guarded c)) (sym long) new)))
      (λ e. subst (HeldThread cells b' u) (sym (get_before_last (resume t p s).threads (thread_with x) u e.1))
      (threads_set_at cells b' s.threads t (slice_get s.threads t) (term p (frames_of (slice_get s.threads t))) u refl
      (λ n. held_thread cells cells b b' u (slice_get s.threads u) (later u n) (same u n) (still u (λ z. e.1 (z ∙ sym long))) (h.threads u))
      (λ y e. subst (λ o. Held (at_values cells) b'.roles t (b'.owed t) p (frames_of o) (b'.guarded t)) (sym is) own)
      (λ e. let q : ◌≡◌ {A = Option Thread} (Some th) None = sym is ∙ e in absurd (cc q))))
      (equal_or u (length (resume t p s).threads));
  contents = contents;
  once = once;
  child = child;
  lines = lines_left cells t s.blocked h.lines;
}

-- ---- contents

pub no_cell_is : (r : Role) (q : Option Purpose) → CellFits r None q → r ≡ Plain
no_cell_is Plain q h = refl
no_cell_is (Fresh p) q h = absurd (cc h.0)
no_cell_is (Running p c) q h = absurd (cc h.0)
no_cell_is (Ended p) q h = absurd (cc h.0.1)

-- a full cell of a scope is that of one whose child has ended
pub full_is : (r : Role) (o : Option (Option V)) (v : V) (q : Option Purpose) (u : ℕ) → o ≡ Some (Some v) → CellFits r o q → IsOf u r → r ≡ Ended u
full_is Plain o v q u e h i = absurd i
full_is (Fresh p) o v q u e h i = absurd i
full_is (Running p c) o v q u e h i = let x : ◌≡◌ {A = Option (Option V)} (Some (Some v)) (Some None) = sym e ∙ h.0 in absurd (cc x)
full_is (Ended p) o v q u e h i = ap Ended i

-- one more cell, which is no scope's
pub contents_more : (cells : List Purpose) (roles : ℕ → Role) (cs : List (Option V)) (c : Option V) → ((m : ℕ) → CellFits (roles m) (slice_get cs m) (slice_get cells m)) → (m : ℕ) → CellFits (roles m) (slice_get (cs ++ c ∷ []) m) (slice_get cells m)
contents_more cells roles cs c h m =
    ⊎_elim
    (λ e. subst (λ r. CellFits r (slice_get (cs ++ c ∷ []) m) (slice_get cells m)) (sym (no_cell_is (roles m) (slice_get cells m) (subst (λ o. CellFits (roles m) o (slice_get cells m)) (ap (slice_get cs) e.1 ∙ none_at_end cs) (h m)))) tt)
    (λ e. subst (λ o. CellFits (roles m) o (slice_get cells m)) (sym (get_before_last cs c m e.1)) (h m))
    (equal_or m (length cs))

-- ---- lines

pub no_taker : (cells : List Purpose) (m : ℕ) (ws : List (Waiting V)) → IsForEnd (slice_get cells m) → AllWaitFor cells ws → first_take (line_of m ws) ≡ None
no_taker cells m ws i h = take_is_first m ws ∙ none (first_of_kind (takes m) ws) (first_found (λ u. WaitsFor cells) (takes m) ws (lines_each cells ws h))
  where
    none : (o : Option (ℕ × Unit {0})) → Found (λ u. WaitsFor cells) (takes m) o → only_thread o ≡ None
    none None f = refl
    none (Some w) f = absurd (not_both (slice_get cells m) i (subst (WaitsFor cells) (takes_is m f.0 w.1 f.2) f.1))

-- ---- cells beside threads

pub all_cells : (us : List ℕ) (p : Part) (s : State) (cs : List (Option V)) → resume_all us p (record s { cells = cs }) ≡ record (resume_all us p s) { cells = cs }
all_cells [] p s cs = refl
all_cells (u ∷ us) p s cs = all_cells us p (resume u p s) cs

-- ---- counts

pub count_new : (m : ℕ) (o : List ℕ) → count m o ≡ 0 → count m (m ∷ o) ≡ 1
count_new m o e = ⊎_elim (λ q. cond_true (m == m) (suc (count m o)) (count m o) q.0 ∙ ap suc e) (λ q. absurd (q.1 refl)) (equal_or m m)

pub count_apart : (m k : ℕ) (o : List ℕ) → m ≢ k → count m (k ∷ o) ≡ count m o
count_apart m k o n = ⊎_elim (λ e. absurd (n e.1)) (λ e. cond_false (m == k) (suc (count m o)) (count m o) e.0) (equal_or m k)

pub count_none : (P : ℕ → Type 0) (m : ℕ) (o : List ℕ) → (P m → ⊥) → Ones P o → count m o ≡ 0
count_none P m [] n h = refl
count_none P m (k ∷ o) n h = count_apart m k o (λ e. n (subst P (sym e) h.0)) ∙ count_none P m o n h.1
