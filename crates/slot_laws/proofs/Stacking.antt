-- What stands in a store stands in one that follows, and a thread that is answered stands by its answer.
use Rattle.std.proofs.Common.{◌≡◌, ℕ, ◌<◌, List, Option, Some, sym, subst, slice_get}
use Rattle.rules_expansion.specs.trees.Trees.{T}
use Rattle.rules_expansion.specs.trees.Programs.{Fn}
use Rattle.rules_expansion.specs.Names.{Name}
use Rattle.rules_meaning.specs.Values.{V, Env}
use Rattle.rules_sorts.specs.Sorts.{Sort, SortedName}
use Rattle.rules_expansion.specs.Core.{Core}
use Rattle.rules_code.specs.CodeTrees.{Sa}
use Rattle.hs_rules.specs.State.{Thread, State}
use Rattle.hs_rules.specs.Terms as named
use Rattle.hs_rules.specs.Terms.{Ret, Throw, Do, Performs, term}
use Rattle.hs_soundness.specs.CoreSorts.{OfSort, SlotsFit}
use Rattle.hs_soundness.proofs.Growing.{scope_more}
use Rattle.hs_progress.specs.TypedStates.{PartTyped, ret_typed, ThreadTyped, Store, has, Follows}
use Rattle.hs_progress.proofs.Stores.{stored_more, sort_more, values_more}
use Rattle.slot_laws.specs.SlotRules.{SlotOp, SlotPart, SlotFrame, SlotTerm, at}
use Rattle.slot_laws.specs.Standing.{Reads, Awaits, OpStands, calls_stands, forks_stands, forks_unmask_stands, PartStands, ret_stands, throw_stands, do_stands, op_stands, FramesStand, none_stand, bind_stands, then_stands, catch_stands, mask_stands, StandsIn, EndsAs}

module _ (cells more : ℕ → T → Type 0) (grow : (m : ℕ) (t : T) → cells m t → more m t) (ds : List Fn) where
  slots_more : (g : List SortedName) (env : Env) (vs : List V) → SlotsFit cells g env vs → SlotsFit more g env vs
  slots_more g env vs f = record { slots = f.slots; sorts = scope_more cells more grow g env f.sorts }

  reads_more : {tree : Sa} {vs : List V} {a : Core} {env : Env} {k : Sort} → Reads cells ds tree vs a env k → Reads more ds tree vs a env k
  reads_more {vs} {env} r = record { here = r.here; scope = r.scope; is = r.is; does = r.does; fits = slots_more r.scope env vs r.fits }

  awaits_more : {x : Name} {j : Sort} {tree : Sa} {vs : List V} {a : Core} {env : Env} {k : Sort} → Awaits cells ds x j tree vs a env k → Awaits more ds x j tree vs a env k
  awaits_more {vs} {env} w = record { here = w.here; scope = w.scope; binds = w.binds; is = w.is; does = w.does; fits = slots_more w.scope env vs w.fits }

  op_more : {p : SlotOp} {op : named.Operation} {k : Sort} → OpStands cells ds p op k → OpStands more ds p op k
  op_more (calls_stands p h) = calls_stands p (values_more cells more grow h)
  op_more (forks_stands r) = forks_stands (reads_more r)
  op_more (forks_unmask_stands w) = forks_unmask_stands (awaits_more w)

  pub part_more : {p : SlotPart} {q : named.Part} {k : Sort} → PartStands cells ds p q k → PartStands more ds p q k
  part_more (ret_stands {v} {k} h) = ret_stands (sort_more cells more grow k v h)
  part_more throw_stands = throw_stands
  part_more (do_stands r) = do_stands (reads_more r)
  part_more (op_stands h) = op_stands (op_more h)

  pub frames_more : {k : Sort} {ss : List SlotFrame} {fs : List named.Frame} → FramesStand cells ds k ss fs → FramesStand more ds k ss fs
  frames_more none_stand = none_stand
  frames_more (bind_stands w b) = bind_stands (awaits_more w) (frames_more b)
  frames_more (then_stands r b) = then_stands (reads_more r) (frames_more b)
  frames_more (catch_stands w b) = catch_stands (awaits_more w) (frames_more b)
  frames_more (mask_stands b) = mask_stands (frames_more b)

module _ (cells : ℕ → T → Type 0) (ds : List Fn) where
  ret_of : {v : V} {k : Sort} → PartTyped cells ds (Ret v) k → OfSort cells k v
  ret_of (ret_typed h) = h

  part_ends : (q : named.Part) (p : SlotPart) (k : Sort) → EndsAs q p → PartTyped cells ds q k → PartStands cells ds p q k
  part_ends (Ret v) p k e h = subst (λ z. PartStands cells ds z (Ret v) k) (sym e) (ret_stands (ret_of h))
  part_ends (Throw x) p k e h = subst (λ z. PartStands cells ds z (Throw x) k) (sym e) throw_stands
  part_ends (Do a env) p k e h = absurd e
  part_ends (Performs op) p k e h = absurd e

module _ (ds : List Fn) (old : Store) (stays : ℕ → Type 0) (s : State) (f : Follows ds old stays s) (t : ℕ) (lt : t < old.count) (q : stays t) where
  grows : (m : ℕ) (v : T) → has old m v → has f.store m v
  grows = stored_more old.cells f.store.cells old.count f.store.count f.cells f.count

  frames_stay : (ss : List SlotFrame) (fs : List named.Frame) → FramesStand (has old) ds (old.sorts t) ss fs → FramesStand (has f.store) ds (f.store.sorts t) ss fs
  frames_stay ss fs b = subst (λ k. FramesStand (has f.store) ds k ss fs) (sym (f.sorts t lt q)) (frames_more (has old) (has f.store) grows ds b)

  pub still_stands : (st : SlotTerm) (u : named.Term) → StandsIn ds old t st u → StandsIn ds f.store t st u
  still_stands st u h = (
    subst (λ k. PartStands (has f.store) ds st.part u.part k) (sym (f.sorts t lt q)) (part_more (has old) (has f.store) grows ds h.0),
    frames_stay st.frames u.frames h.1,
  )

  part_at : (o : Option Thread) (th : Thread) (k : Sort) → o ≡ Some th → ThreadTyped (has f.store) ds k o → PartTyped (has f.store) ds th.term.part k
  part_at o th k e h = let w : ThreadTyped (has f.store) ds k (Some th) = subst (ThreadTyped (has f.store) ds k) e h in w.0

  pub answered_stands : (st : SlotTerm) (u : named.Term) (x : named.Part) (p : SlotPart) (th : Thread) → StandsIn ds old t st u → slice_get s.threads t ≡ Some th → th.term ≡ term x u.frames → EndsAs x p → StandsIn ds f.store t (at p st.frames) (term x u.frames)
  answered_stands st u x p th h is e end = (
    part_ends (has f.store) ds x p (f.store.sorts t) end
        (subst (λ (z : named.Term). PartTyped (has f.store) ds z.part (f.store.sorts t)) e (part_at (slice_get s.threads t) th (f.store.sorts t) is (f.sound.threads t))),
    frames_stay st.frames u.frames h.1,
  )
