-- How much an entry adds to what a run may use only so much of (own).
use Rattle.std.specs.Prelude.{ℕ, ◌+◌, length, Option, Some, None, slice_get}
use Rattle.hs_rules.specs.declared.entry.Entry.{Entry}
use Rattle.hs_rules.specs.declared.entry.Entry.TheVariants as entry
use Rattle.hs_rules.specs.declared.entry.LimitKind.{LimitKind}
use Rattle.hs_rules.specs.declared.entry.LimitKind.TheVariants as limit
use Rattle.rules_expansion.specs.declared.primitive.Primitive.TheVariants.{NewMVar, NewEmptyMVar}
use Rattle.slot_laws.specs.SlotRules.{SlotOp, calls, forks, forks_unmask, SlotPart, ret, throw, doing, performs}
use Rattle.slot_states.specs.SlotStates.{SlotThread, SlotState}
use Rattle.slot_states.specs.Printing.{output_by, errors_by}

-- an operation, where a part is one
abbrev pub performed : SlotPart → Option SlotOp
performed (ret v) = None
performed (throw e) = None
performed (doing a vs) = None
performed (performs p) = Some p

abbrev pub op_of : Option SlotThread → Option SlotOp
op_of None = None
op_of (Some th) = performed th.term.part

abbrev pub forked : Option SlotOp → ℕ
forked (Some (forks tree vs)) = 1
forked (Some (forks_unmask tree vs)) = 1
forked _ = 0

abbrev pub celled : Option SlotOp → ℕ
celled (Some (calls NewMVar vs)) = 1
celled (Some (calls NewEmptyMVar vs)) = 1
celled _ = 0

-- the thread that an Op is of
abbrev pub doer : SlotState → Entry → Option SlotThread
doer x (entry.Op t) = slice_get x.threads t
doer x _ = None

-- threads, cells, frames and bytes that an entry other than a Local adds
abbrev pub growth : LimitKind → SlotState → Entry → ℕ
growth limit.Threads x e = forked (op_of (doer x e))
growth limit.Cells x e = celled (op_of (doer x e))
growth limit.Frames x e = forked (op_of (doer x e))
growth limit.Output x e = length (output_by x e) + length (errors_by x e)

abbrev pub IsNoLocal : Entry → Type 0
IsNoLocal (entry.Local t k) = ⊥
IsNoLocal _ = Unit {0}
