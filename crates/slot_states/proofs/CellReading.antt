-- The cells that the operations of threads with slots name are there.
use Rattle.std.proofs.Common.{◌≡◌, ◌⊎◌, inl, inr, ⊎_elim, ℕ, ◌<◌, List, [], ◌∷◌, length, slice_get, Option, Some, None, refl, subst, arith}
use Rattle.rules_expansion.specs.trees.Trees.{T, cell, async}
use Rattle.rules_expansion.specs.trees.Programs.{Fn}
use Rattle.rules_meaning.specs.Values as val
use Rattle.rules_meaning.specs.Values.{V}
use Rattle.rules_sorts.specs.Sorts.{Sort}
use Rattle.rules_expansion.specs.declared.primitive.Primitive.TheVariants.{TryTakeMVar, TryPutMVar}
use Rattle.hs_rules.specs.Terms as named
use Rattle.hs_rules.specs.Terms.{Operation, Calls, Performs, mask_at}
use Rattle.hs_rules.specs.State.{State}
use Rattle.hs_laws.proofs.Lists.{item_below}
use Rattle.hs_progress.specs.CoreTyping.{asks_take, asks_put, asks_put_end, asks_read, asks_read_end, asks_try_take, asks_try_put}
use Rattle.hs_progress.specs.TypedStates.{Purpose, for_values, for_end, one_value, no_values, CellTyped, has}
use Rattle.slot_laws.specs.SlotRules.{SlotPart, performs, calls}
use Rattle.slot_laws.specs.Standing.{PartStands, op_stands, calls_stands}
use Rattle.slot_states.specs.SlotStates.{SlotThread, SlotState, Represents, StandsAt}
use Rattle.slot_states.specs.Resting.{WaitsAt, takes, reads, puts}
use Rattle.slot_states.proofs.Reading.{named_of, part_is}

-- ---- one part

module _ (cells : ℕ → T → Type 0) (ds : List Fn) where
  -- a cell for values of a type, or that of a scope
  abbrev IsCell : ℕ → T → Type 0
  IsCell m t = cells m (cell t) ⊎ cells m (async t)

  -- the cell that it names has a type
  try_take_cell : {k : Sort} {m : ℕ} {x : named.Part} → PartStands cells ds (performs (calls TryTakeMVar (val.Cell m ∷ []))) x k → (t : T) × IsCell m t
  try_take_cell (op_stands (calls_stands (asks_try_take {t}) (one_value h no_values))) = (t, inl h)

  try_put_cell : {k : Sort} {m : ℕ} {v : V} {x : named.Part} → PartStands cells ds (performs (calls TryPutMVar (val.Cell m ∷ v ∷ []))) x k → (t : T) × IsCell m t
  try_put_cell (op_stands (calls_stands (asks_try_put {t}) (one_value h g))) = (t, inl h)

  waits_cell : {k : Sort} {m : ℕ} {p : SlotPart} {x : named.Part} → WaitsAt m p → PartStands cells ds p x k → (t : T) × IsCell m t
  waits_cell takes (op_stands (calls_stands (asks_take {t}) (one_value h no_values))) = (t, inl h)
  waits_cell reads (op_stands (calls_stands (asks_read {t}) (one_value h no_values))) = (t, inl h)
  waits_cell reads (op_stands (calls_stands (asks_read_end {t}) (one_value h no_values))) = (t, inr h)
  waits_cell puts (op_stands (calls_stands (asks_put {t}) (one_value h g))) = (t, inl h)
  waits_cell puts (op_stands (calls_stands (asks_put_end {t}) (one_value h g))) = (t, inr h)

-- ---- a state with slots and the state that it stands for

module _ (ds : List Fn) (x : SlotState) (s : State) (r : Represents ds x s) where
  -- a cell that is for something is there
  cell_there : (m : ℕ) (p : Purpose) → slice_get r.stacks.store.cells m ≡ Some p → (o : Option V) × (slice_get s.cells m ≡ Some o)
  cell_there m p e = by (slice_get s.cells m) refl (subst (CellTyped (has r.stacks.store) (slice_get s.cells m)) e (r.stacks.sound.contents m))
    where
      by : (c : Option (Option V)) → slice_get s.cells m ≡ c → CellTyped (has r.stacks.store) c (Some p) → (o : Option V) × (slice_get s.cells m ≡ Some o)
      by None q h = absurd h
      by (Some o) q h = (o, q)

  cell_below : (m : ℕ) (t : T) → IsCell (has r.stacks.store) ds m t → m < length x.cells
  cell_below m t e =
      let k = ⊎_elim (cell_there m (for_values t)) (cell_there m (for_end t)) e in
      let below : m < length s.cells = item_below s.cells m k.0 k.1 in
      let same : length x.cells ≡ length s.cells = r.agrees.made in
      omega (arith, below, same)

  -- the cell of an operation is there
  pub waits_below : (t m : ℕ) (th : SlotThread) → slice_get x.threads t ≡ Some th → WaitsAt m th.term.part → m < length x.cells
  waits_below t m th e w =
      let c = waits_cell (has r.stacks.store) ds w (named_of ds x s r t th e).stands.0 in
      cell_below m c.0 c.1

  pub try_take_below : (t m : ℕ) → StandsAt x t (performs (calls TryTakeMVar (val.Cell m ∷ []))) → m < length x.cells
  try_take_below t m h =
      let c = try_take_cell (has r.stacks.store) ds (part_is ds x s r t h.thread (named_of ds x s r t h.thread h.is) h.part) in
      cell_below m c.0 c.1

  pub try_put_below : (t m : ℕ) (v : V) → StandsAt x t (performs (calls TryPutMVar (val.Cell m ∷ v ∷ []))) → m < length x.cells
  try_put_below t m v h =
      let c = try_put_cell (has r.stacks.store) ds (part_is ds x s r t h.thread (named_of ds x s r t h.thread h.is) h.part) in
      cell_below m c.0 c.1
