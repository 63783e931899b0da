-- Names: those of a script, by their bytes, and those that an expansion adds.
use Rattle.std.specs.Prelude.{ℕ, ◌==◌, Bool, false, true, List, bytes_eq}
use Rattle.rules_expansion.specs.declared.hidden.Hidden.{Hidden}
use Rattle.rules_expansion.specs.declared.hidden.Hidden.TheVariants as h

abbrev pub hidden_number : Hidden → ℕ
hidden_number h.Restorer = 1
hidden_number h.Given = 2
hidden_number h.Caught = 3
hidden_number h.TheCell = 4
hidden_number h.Instance = 5
hidden_number h.BracketResult = 6
hidden_number h.BracketFault = 7
hidden_number h.Allowed = 8
hidden_number h.InTime = 9
hidden_number h.Owner = 10
hidden_number h.Expiry = 11
hidden_number h.Helper = 12
hidden_number h.HelperRestorer = 13
hidden_number h.ScopeCell = 14
hidden_number h.Child = 15
hidden_number h.ChildEnding = 16
hidden_number h.ScopeResult = 17
hidden_number h.Awaited = 18
hidden_number h.Scope = 19
hidden_number h.Ended = 20
hidden_number h.ActionResult = 21
hidden_number h.FirstEnd = 22
hidden_number h.SideEnding = 23
hidden_number h.WasFirst = 24
hidden_number h.FirstSide = 25
hidden_number h.SecondSide = 26
hidden_number h.FirstResult = 27
hidden_number h.SecondResult = 28

-- a name of a script, by its bytes, one that an expansion adds, or what a statement without a name binds, which nothing
-- reads
pub data Name : Type 0 where
  Written : List ℕ → Name
  Added : Hidden → Name
  Unread : Name

abbrev pub same_name : Name → Name → Bool
same_name (Written x) (Written y) = bytes_eq x y
same_name (Written x) (Added h) = false
same_name (Written x) Unread = false
same_name (Added h) (Written y) = false
same_name (Added h) (Added k) = hidden_number h == hidden_number k
same_name (Added h) Unread = false
same_name Unread (Written y) = false
same_name Unread (Added h) = false
same_name Unread Unread = true
