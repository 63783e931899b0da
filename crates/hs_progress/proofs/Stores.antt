-- What is typed by a store is typed by a greater one.
use Rattle.std.proofs.Common.{◌≡◌, ℕ, ◌==◌, ◌<◌, ◌≤◌, List, [], ◌∷◌, cond, Option, Some, None, slice_get, arith, ⊎_elim}
use Rattle.rules_expansion.specs.trees.Trees.{T, thread, cell, async}
use Rattle.rules_expansion.specs.trees.Programs.{Fn}
use Rattle.rules_expansion.specs.Names.{Name}
use Rattle.rules_meaning.specs.Values.{V, Env}
use Rattle.rules_expansion.specs.Core.{Core}
use Rattle.rules_sorts.specs.Sorts.{Sort, a_value, a_masking_name, an_instance, a_scope_cell}
use Rattle.hs_rules.specs.Terms.{Operation, Part, Frame, Term}
use Rattle.hs_rules.specs.State.{Thread}
use Rattle.hs_laws.proofs.Lists.{cond_false, equal_or, item_append}
use Rattle.hs_soundness.specs.CoreSorts.{OfSort}
use Rattle.hs_soundness.proofs.Growing.{has_more, end_more, scope_more}
use Rattle.hs_progress.specs.TypedStates.{Purpose, for_values, for_end, held_by, Store, has, with_cell, with_thread, Grows, stored, AllOfSorts, no_values, one_value, Runs, Awaits, OpTyped, calls_typed, forks_typed, forks_unmask_typed, PartTyped, ret_typed, throw_typed, do_typed, op_typed, FramesTyped, no_frames, bind_typed, then_typed, catch_typed, mask_typed, TermTyped, ThreadTyped, ContentTyped, CellTyped}

pub stored_more : (cells cells' : List Purpose) (n n' : ℕ) → ((m : ℕ) (p : Purpose) → slice_get cells m ≡ Some p → slice_get cells' m ≡ Some p) → n ≤ n' → (m : ℕ) (t : T) → stored cells n m t → stored cells' n' m t
stored_more cells cells' n n' kept le m (cell t) h = kept m (for_values t) h
stored_more cells cells' n n' kept le m (async t) h = kept m (for_end t) h
stored_more cells cells' n n' kept le m thread h = omega (arith, le, h)
stored_more cells cells' n n' kept le m _ h = absurd h

module _ (cells more : ℕ → T → Type 0) (grow : (m : ℕ) (t : T) → cells m t → more m t) where
  pub sort_more : (k : Sort) (v : V) → OfSort cells k v → OfSort more k v
  sort_more (a_value t) v h = has_more cells more grow t v h
  sort_more a_masking_name v h = h
  sort_more an_instance v h = h
  sort_more (a_scope_cell t) v h = end_more cells more grow t v h

  pub values_more : {ks : List Sort} {vs : List V} → AllOfSorts cells ks vs → AllOfSorts more ks vs
  values_more no_values = no_values
  values_more (one_value {k} {v} h hs) = one_value (sort_more k v h) (values_more hs)

  pub content_more : (p : Purpose) (c : Option V) → ContentTyped cells p c → ContentTyped more p c
  content_more p None h = tt
  content_more p (Some v) h = has_more cells more grow (held_by p) v h

  pub cell_more : (c : Option (Option V)) (o : Option Purpose) → CellTyped cells c o → CellTyped more c o
  cell_more None None h = tt
  cell_more None (Some p) h = h
  cell_more (Some c) None h = h
  cell_more (Some c) (Some p) h = content_more p c h

  module _ (ds : List Fn) where
    pub runs_more : {a : Core} {env : Env} {k : Sort} → Runs cells ds a env k → Runs more ds a env k
    runs_more {env} r = record { here = r.here; scope = r.scope; does = r.does; fits = scope_more cells more grow r.scope env r.fits }

    awaits_more : {x : Name} {j : Sort} {a : Core} {env : Env} {k : Sort} → Awaits cells ds x j a env k → Awaits more ds x j a env k
    awaits_more {env} w = record { here = w.here; scope = w.scope; binds = w.binds; does = w.does; fits = scope_more cells more grow w.scope env w.fits }

    op_more : {op : Operation} {k : Sort} → OpTyped cells ds op k → OpTyped more ds op k
    op_more (calls_typed p h) = calls_typed p (values_more h)
    op_more (forks_typed r) = forks_typed (runs_more r)
    op_more (forks_unmask_typed w) = forks_unmask_typed (awaits_more w)

    pub part_more : {p : Part} {k : Sort} → PartTyped cells ds p k → PartTyped more ds p k
    part_more (ret_typed {v} {k} h) = ret_typed (sort_more k v h)
    part_more throw_typed = throw_typed
    part_more (do_typed r) = do_typed (runs_more r)
    part_more (op_typed h) = op_typed (op_more h)

    pub frames_more : {k : Sort} {fs : List Frame} → FramesTyped cells ds k fs → FramesTyped more ds k fs
    frames_more no_frames = no_frames
    frames_more (bind_typed w b) = bind_typed (awaits_more w) (frames_more b)
    frames_more (then_typed r b) = then_typed (runs_more r) (frames_more b)
    frames_more (catch_typed w b) = catch_typed (awaits_more w) (frames_more b)
    frames_more (mask_typed b) = mask_typed (frames_more b)

    pub term_more : {t : Term} → TermTyped cells ds t → TermTyped more ds t
    term_more h = record { sort = h.sort; part = part_more h.part; frames = frames_more h.frames }

    pub thread_more : (k : Sort) (o : Option Thread) → ThreadTyped cells ds k o → ThreadTyped more ds k o
    thread_more k None h = tt
    thread_more k (Some th) h = (part_more h.0, frames_more h.1)

-- ---- later stores

pub numbers_grow : (old new : Store) → Grows old new → (m : ℕ) (t : T) → has old m t → has new m t
numbers_grow old new g = stored_more old.cells new.cells old.count new.count g.cells g.count

pub cell_grows : (p : Purpose) (st : Store) → Grows st (with_cell p st)
cell_grows p st = record { cells = λ m v e. item_append st.cells (p ∷ []) m v e; count = omega arith }

pub thread_grows : (k : Sort) (st : Store) → Grows st (with_thread k st)
thread_grows k st = record { cells = λ m v e. e; count = omega arith }

pub others_keep_sorts : (k : Sort) (st : Store) (u : ℕ) → u < st.count → cond (u == st.count) k (st.sorts u) ≡ st.sorts u
others_keep_sorts k st u lt = ⊎_elim (λ e. absurd (let z : u ≡ st.count = e.1 in omega (arith, lt, z))) (λ e. cond_false (u == st.count) k (st.sorts u) e.0) (equal_or u st.count)
