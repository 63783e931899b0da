-- The law of async scopes follows from the fact that every entry keeps.
use Rattle.std.proofs.Common.{◌≡◌, ◌≢◌, ℕ, List, [], slice_get, false, Option, Some, None, refl, sym, ap, ◌∙◌, subst, ◌⊎◌, inl, inr, ⊎_elim}
use Rattle.std.proofs.lemmas.Bool.{false_from_ne_true}
use Rattle.hs_base.specs.declared.tree.script.Script.{Script}
use Rattle.hs_rules.specs.declared.entry.Entry.{Entry}
use Rattle.rules_expansion.specs.declared.primitive.Primitive.TheVariants.{PutMVar}
use Rattle.rules_expansion.specs.trees.Programs.{script_of}
use Rattle.rules_typing.specs.TypingScripts.{Accepted}
use Rattle.hs_rules.specs.Terms.{Part, Ret, Throw, Do, Performs, Frame}
use Rattle.hs_rules.specs.State.{Thread, State}
use Rattle.hs_rules.specs.Runs.{IsRun}
use Rattle.hs_laws.specs.BracketLaw.{count}
use Rattle.hs_laws.specs.Standing.{IsResult, Standing}
use Rattle.hs_laws.proofs.Expanded.{standing_of}
use Rattle.hs_laws.proofs.RunParts.{prefix_runs}
use Rattle.scope_laws.specs.ScopeLaw.{acting, guards, ending, Acts, Guards, Ends, IsFull, OneGuards, Asks, ForItsChild, ScopeLaw}
use Rattle.scope_laws.specs.ScopePhases.{Role, Plain, Fresh, Running, Ended, IsOf, Held}
use Rattle.scope_laws.specs.ScopesKept.{IsForEnd, at_values, CellFits, HeldThread, Scoped, ScopesKept}
use Rattle.scope_laws.proofs.Phases.{held_guards, held_owned, RunsIt, held_acts}
use Rattle.scope_laws.proofs.Owing.{among_counts, Owing, bare_owes, held_owes}
use Rattle.scope_laws.proofs.Entries.{scoped_of}
use Rattle.scope_laws.proofs.Plain.{some_of}

-- a value or an exception without frames guards nothing
bare_guards : (p : Part) (fs : List Frame) → IsResult p → fs ≡ [] → guards p fs ≡ []
bare_guards (Ret v) fs i e = ap (guards (Ret v)) e
bare_guards (Throw x) fs i e = ap (guards (Throw x)) e
bare_guards (Do a env) fs i e = absurd i
bare_guards (Performs op) fs i e = absurd i

one_is_some : {n : ℕ} → n ≡ 1 → n ≢ 0
one_is_some e z = let q : 1 ≡ 0 = sym e ∙ z in absurd (cc q)

module _ (script : Script) (s : State) (k : Scoped (script_of script) s) (standing : Standing s) where
  abbrev values : ℕ → Type 0
  values m = at_values k.typed.store.cells m

  held_at : (t : ℕ) (th : Thread) → slice_get s.threads t ≡ Some th → Held values k.book.roles t (k.book.owed t) th.term.part th.term.frames (k.book.guarded t)
  held_at t th is = subst (HeldThread k.typed.store.cells k.book t) is (k.fits.threads t)

  -- the thread that runs the scope of which another is the child
  runs_it : (m t : ℕ) → Acts s m t → RunsIt k.book.roles t m
  runs_it m t a = some_of (RunsIt k.book.roles t) m (acting a.thread.term.part a.thread.term.frames) (held_acts values k.book.roles t (k.book.owed t) (held_at t a.thread a.is)) a.on

  owner : (m q : ℕ) → Guards s m q → IsOf q (k.book.roles m)
  owner m q g =
      let h = held_at q g.thread g.is in
      some_of (λ m. IsOf q (k.book.roles m)) m (k.book.guarded q) (held_owned values k.book.roles q (k.book.owed q) h) (λ z. g.on (ap (count m) (held_guards values k.book.roles q (k.book.owed q) h) ∙ z))

  module _ (m p c : ℕ) (e : k.book.roles m ≡ Running p c) where
    there : (o : Option Thread) → slice_get s.threads p ≡ o → (th : Thread) × (slice_get s.threads p ≡ Some th)
    there None q =
        let none : HeldThread k.typed.store.cells k.book p None = subst (HeldThread k.typed.store.cells k.book p) q (k.fits.threads p) in
        absurd (one_is_some (k.fits.once m p c e) (ap (count m) none.0))
    there (Some th) q = (th, q)

    once : (th : Thread) → slice_get s.threads p ≡ Some th → count m (guards th.term.part th.term.frames) ≡ 1
    once th is = ap (count m) (held_guards values k.book.roles p (k.book.owed p) (held_at p th is)) ∙ k.fits.once m p c e

    unfinished : (th : Thread) → slice_get s.threads p ≡ Some th → th.finished ≡ false
    unfinished th is =
        false_from_ne_true th.finished (λ f. let bare = standing.finished p th is f in one_is_some (once th is) (ap (count m) (bare_guards th.term.part th.term.frames bare.0 bare.1)))

    one_guards : OneGuards s m
    one_guards =
        let x = there (slice_get s.threads p) refl in
        record {
          thread = p;
          guard = record { thread = x.0; is = x.1; unfinished = unfinished x.0 x.1; on = one_is_some (once x.0 x.1) };
          once = once x.0 x.1;
          only = λ q g. let same : p ≡ q = subst (IsOf q) e (owner m q g) in sym same;
        }

    -- ---- its child

    child_there : (o : Option Thread) → slice_get s.threads c ≡ o → (th : Thread) × (slice_get s.threads c ≡ Some th)
    child_there None q =
        let none : HeldThread k.typed.store.cells k.book c None = subst (HeldThread k.typed.store.cells k.book c) q (k.fits.threads c) in
        let x : ◌≡◌ {A = Option ℕ} (Some m) None = sym (k.fits.child m p c e) ∙ none.1 in
        absurd (cc x)
    child_there (Some th) q = (th, q)

    child_owes : (th : Thread) → slice_get s.threads c ≡ Some th → Owing m th.term.part th.term.frames
    child_owes th is = held_owes values k.book.roles c (k.book.owed c) m (k.fits.child m p c e) (held_at c th is)

    child_unfinished : (th : Thread) → slice_get s.threads c ≡ Some th → th.finished ≡ false
    child_unfinished th is = false_from_ne_true th.finished (λ f. let bare = standing.finished c th is f in bare_owes m th.term.part th.term.frames bare.0 bare.1 (child_owes th is))

    child_goes_on : Acts s m c ⊎ Ends s m c
    child_goes_on =
        let x = child_there (slice_get s.threads c) refl in
        let th : Thread = x.0 in
        ⊎_elim
        (λ a. inl (record { thread = th; is = x.1; unfinished = child_unfinished th x.1; on = among_counts m (acting th.term.part th.term.frames) a }))
        (λ a. inr (record { thread = th; is = x.1; unfinished = child_unfinished th x.1; on = among_counts m (ending th.term.part th.term.frames) a }))
        (child_owes th x.1)

  waited : (m t : ℕ) (r : Role) → k.book.roles m ≡ r → IsOf t r → IsFull s m ⊎ ((u : ℕ) × (Acts s m u ⊎ Ends s m u))
  waited m t Plain e i = absurd i
  waited m t (Fresh p) e i = absurd i
  waited m t (Running p c) e i = inr (c, child_goes_on m p c e)
  waited m t (Ended p) e i = let x : CellFits (Ended p) (slice_get s.cells m) (slice_get k.typed.store.cells m) = subst (λ r. CellFits r (slice_get s.cells m) (slice_get k.typed.store.cells m)) e (k.fits.contents m) in inl x.0

  same_actor : (m t u : ℕ) → Acts s m t → Acts s m u → t ≡ u
  same_actor m t u a c =
      let x = runs_it m t a in
      let y = runs_it m u c in
      let q : Running x.0 t ≡ Running y.0 u = sym x.1 ∙ y.1 in
      let z : t ≡ u = cc q in z

  -- ---- its cell

  for_end : (m t : ℕ) → Acts s m t ⊎ Guards s m t → IsForEnd (slice_get k.typed.store.cells m)
  for_end m t h = ⊎_elim (λ a. ((k.stands t a.thread a.is).acted m a.on).0) (λ g. ((k.stands t g.thread g.is).guarded m g.on).0) h

  module _ (m : ℕ) (q : IsForEnd (slice_get k.typed.store.cells m)) where
    puts_it : (t : ℕ) → Asks s PutMVar m t → RunsIt k.book.roles t m
    puts_it t a = (k.stands t a.thread a.is).puts m a.values a.part q

    is_child : (t u : ℕ) → Asks s PutMVar m t → Acts s m u ⊎ Asks s PutMVar m u → t ≡ u
    is_child t u a h =
        let x = puts_it t a in
        let y = ⊎_elim (runs_it m u) (puts_it u) h in
        let same : Running x.0 t ≡ Running y.0 u = sym x.1 ∙ y.1 in
        let z : t ≡ u = cc same in z

    for_its_child : ForItsChild s m
    for_its_child = record { child = is_child; takes = λ w t i a. (k.stands t a.thread a.is).takes w m a.values i a.part q }

  law_holds : ScopeLaw s
  law_holds = record { cells = λ m t h. for_its_child m (for_end m t h); guarded = λ m t a. let x = runs_it m t a in one_guards m x.0 t x.1; alone = same_actor; awaited = λ m t g. waited m t (k.book.roles m) refl (owner m t g) }

pub scopes_of : (script : Script) → Accepted script → (es : List Entry) (u : State) → IsRun (script_of script) es u → ScopeLaw u
scopes_of script accepted es u r = law_holds script u (scoped_of script accepted es u r) (standing_of (script_of script) es u r)

pub scopes_law : (script : Script) → Accepted script → (es : List Entry) (u : State) → IsRun (script_of script) es u → ScopesKept (script_of script) es
scopes_law script accepted es u r = record {
  law = λ front back s split a. scopes_of script accepted front s (prefix_runs (script_of script) es front back u s r split a).0;
  fact = λ front back s split a. scoped_of script accepted front s (prefix_runs (script_of script) es front back u s r split a).0;
}
