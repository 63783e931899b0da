-- How nodes of one pool hold lines.
use Rattle.std.specs.Prelude.{◌≡◌, ◌≢◌, [], ◌∷◌, ℕ, zero, suc, ◌-◌, ◌<◌, ◌≤◌, min, List, length, map, sum_by, slice_index_or, slice_set, Bool, Option, Some, None, cond, ◌==◌, true, false, ◌++◌, ◌+◌}
use Rattle.hs_base.specs.declared.value.Value.{Value}
use Rattle.rules_waiting.specs.OneCell.{To_take, To_read, To_put, Place, reads_it}
use Rattle.rules_waiting.specs.OneCell as one
use Rattle.slab.specs.Slab.{Slab, get, slab_len}
use Rattle.mvar_cell.specs.declared.lines.Want.{Want}
use Rattle.mvar_cell.specs.declared.lines.Want.TheVariants.{Take, Read, Put}
use Rattle.mvar_cell.specs.declared.lines.Sought.{Sought}
use Rattle.mvar_cell.specs.declared.lines.Sought.TheVariants.{Thread, Reader}
use Rattle.mvar_cell.specs.declared.lines.LineNode.{LineNode}
use Rattle.mvar_cell.specs.declared.lines.Ends.{Ends}
use Rattle.mvar_cell.specs.Lined.{Lined, line_of}

abbrev pub want_of : Want → one.Want Value
want_of Take = To_take
want_of Read = To_read
want_of (Put v) = To_put v

abbrev pub place : ℕ → Want → Place Value
place t w = record { thread = t; want = want_of w }

-- what a node says of its place
abbrev pub place_of : Option LineNode → Place Value
place_of None = place 0 Take
place_of (Some n) = place n.thread n.want

-- the key of the node behind
abbrev pub next_of : Option LineNode → ℕ
next_of None = 0
next_of (Some n) = n.next

-- so many places, from the node with this key on
abbrev pub places : Slab LineNode → ℕ → ℕ → List (Place Value)
places s zero i = []
places s (suc n) i = place_of (get s i) ∷ places s n (next_of (get s i))

abbrev pub line_at : Slab LineNode → Ends → List (Place Value)
line_at s e = places s e.len e.first

-- there is a node of line k
abbrev pub IsOn : ℕ → Option LineNode → Type 0
IsOn k None = ⊥
IsOn k (Some n) = n.line ≡ k

-- behind node i stand n nodes of line k, the last of them node z, and no other is node z
abbrev pub IsTail : Slab LineNode → ℕ → ℕ → ℕ → ℕ → Type 0
IsTail s k zero i z = i ≡ z
IsTail s k (suc n) i z = (i ≢ z) × IsOn k (get s (next_of (get s i))) × IsTail s k n (next_of (get s i)) z

-- n nodes of line k stand from node i to node z
abbrev pub IsChain : Slab LineNode → ℕ → ℕ → ℕ → ℕ → Type 0
IsChain s k zero i z = Unit {0}
IsChain s k (suc n) i z = IsOn k (get s i) × IsTail s k n i z

abbrev pub IsLine : Slab LineNode → ℕ → Ends → Type 0
IsLine s k e = IsChain s k e.len e.first e.last

-- each line is a chain of nodes, and there are no more places than nodes
pub record IsSound (es : List Ends) (s : Slab LineNode) : Type 0 where
  pub chains : (k : ℕ) (d : Ends) → k < length es → IsLine s k (slice_index_or es k d)
  pub fits : sum_by (λ (e : Ends). e.len) es ≤ slab_len s

-- the lines that callers see, where so many lines fit, and so many more threads have room in the table
abbrev pub lined : List Ends → Slab LineNode → ℕ → ℕ → Lined
lined es s capacity more =
    record { lines = map (line_at s) es; spare = min (min (capacity - length es) (s.capacity - slab_len s)) more }

-- ---- a place is sought, and leaves
abbrev pub is_sought : Sought → Place Value → Bool
is_sought (Thread t) p = p.thread == t
is_sought Reader p = reads_it p.want

-- whether one of these places is sought
abbrev pub any_sought : Sought → List (Place Value) → Bool
any_sought k [] = false
any_sought k (p ∷ ps) = cond (is_sought k p) true (any_sought k ps)

-- the node that stands so many places behind node i
abbrev pub walk : Slab LineNode → ℕ → ℕ → ℕ
walk s zero i = i
walk s (suc a) i = walk s a (next_of (get s i))

-- the last node once node j has left from behind node p
abbrev pub last_after_leaving : ℕ → ℕ → ℕ → ℕ
last_after_leaving p j z = cond (j == z) p z

-- the places behind the first
abbrev pub behind : Slab LineNode → Ends → List (Place Value)
behind s e = places s (e.len - 1) (next_of (get s e.first))

-- node p of this line stands before the first place that is sought
pub record StandsBefore (s : Slab LineNode) (e : Ends) (sought : Sought) (p : ℕ) : Type 0 where
  pub steps : ℕ
  pub within : steps + 1 < e.len
  pub is : p ≡ walk s steps e.first
  pub found : is_sought sought (place_of (get s (next_of (get s p)))) ≡ true
  pub clear : any_sought sought (places s (suc steps) e.first) ≡ false

-- node p, and behind it node j, which leaves
pub record Unlinks (s u : Slab LineNode) (p j : ℕ) (before gone : LineNode) : Type 0 where
  pub was : get s p ≡ Some before
  pub left : get s j ≡ Some gone
  pub follows : before.next ≡ j
  pub linked : get u p ≡ Some (record before { next = gone.next })
  pub others : (x : ℕ) → x ≢ p → x ≢ j → get u x ≡ get s x

-- node p is followed by another, of the same line, which has so many places
pub record IsFollowed (s : Slab LineNode) (len p : ℕ) : Type 0 where
  pub line : ℕ
  pub long : 1 < len
  pub before_on : IsOn line (get s p)
  pub gone_on : IsOn line (get s (next_of (get s p)))
  pub apart : p ≢ next_of (get s p)

-- this node left from behind node p
pub record Unlinked (s u : Slab LineNode) (p : ℕ) (gone : LineNode) : Type 0 where
  pub before : LineNode
  pub unlinks : Unlinks s u p (next_of (get s p)) before gone

-- the ends of a line, with this cursor, once a node has left from behind node p
abbrev pub ends_after_leaving : Slab LineNode → ℕ → Option ℕ → Ends → Ends
ends_after_leaving s p cursor e = record { first = e.first; last = last_after_leaving p (next_of (get s p)) e.last; len = e.len - 1; cursor = cursor }

-- the first place of line m that is sought is left out, and all other lines are as they were
pub record LeavesFirst (sought : Sought) (m t : ℕ) (want : Want) (old new : Lined) : Type 0 where
  pub front : List (Place Value)
  pub back : List (Place Value)
  pub clear : any_sought sought front ≡ false
  pub found : is_sought sought (place t want) ≡ true
  pub was : line_of old m ≡ front ++ place t want ∷ back
  pub now : new.lines ≡ slice_set old.lines m (front ++ back)
