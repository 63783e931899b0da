-- Calls on cells whose values are numbers (own).
use Rattle.std.specs.Prelude.{ℕ, ◌<◌, List, Option, Some, None, slice_get}
use Rattle.std.specs.List.{AllByRecursion}
use Rattle.rules_waiting.specs.OneCell as one
use Rattle.rules_waiting.specs.OneCell.{Cell, Call, Answer, Reply, made}
use Rattle.number_states.specs.States.{IsValueWithin}
use Rattle.number_changes.specs.declared.calling.CellCall.{CellCall}
use Rattle.number_changes.specs.declared.calling.CellCall.TheVariants as c

-- a thread's call, in the words of one cell alone
abbrev pub call_of : ℕ → CellCall → Call ℕ
call_of t c.Take = one.Take t
call_of t c.Read = one.Read t
call_of t (c.Put v) = one.Put t v
call_of t c.TryTake = one.Try_take t
call_of t (c.TryPut v) = one.Try_put t v

abbrev pub or_unmade : Option (Cell ℕ) → Cell ℕ
or_unmade None = made None
or_unmade (Some c) = c

-- the cell of a number, or an empty one
abbrev pub cell_in : List (Cell ℕ) → ℕ → Cell ℕ
cell_in cs m = or_unmade (slice_get cs m)

-- ---- values below a number

abbrev pub CallIsWithin : ℕ → CellCall → Type 0
CallIsWithin count c.Take = Unit {0}
CallIsWithin count c.Read = Unit {0}
CallIsWithin count (c.Put v) = v < count
CallIsWithin count c.TryTake = Unit {0}
CallIsWithin count (c.TryPut v) = v < count

abbrev pub AnswerIsWithin : ℕ → Answer ℕ → Type 0
AnswerIsWithin count one.Made = Unit {0}
AnswerIsWithin count (one.Took v) = v < count
AnswerIsWithin count (one.Saw v) = v < count
AnswerIsWithin count one.Gave = Unit {0}
AnswerIsWithin count (one.Tried_take o) = IsValueWithin count o
AnswerIsWithin count (one.Tried_put b) = Unit {0}

abbrev pub AreRepliesWithin : ℕ → List (Reply ℕ) → Type 0
AreRepliesWithin count rs = AllByRecursion (λ (r : Reply ℕ). AnswerIsWithin count r.answer) rs
