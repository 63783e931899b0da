-- Which of several broken rules is answered (own): the one at the least position, by line and then by column; at one
-- position the first in the order Twice, Unknown, Kind, Forward, Arity, Mismatch, Scope, Wide, Large.
use Rattle.std.specs.Prelude.{◌≡◌, ℕ, ◌<◌, ◌≤◌, ◌⊎◌, List, [], ◌∷◌}
use Rattle.hs_base.specs.declared.pos.Pos.{Pos}
use Rattle.rules_typing.specs.Typing.{Fault, twice, unknown, kind, forward, arity, mismatch, scope, wide, large}

-- where it is broken
abbrev pub place : Fault → Pos
place (twice p) = p
place (unknown p) = p
place (kind p) = p
place (forward p) = p
place (arity p m n) = p
place (mismatch p m t) = p
place (scope p) = p
place (wide p) = p
place (large p) = p

-- its number in that order
abbrev pub rank : Fault → ℕ
rank (twice p) = 0
rank (unknown p) = 1
rank (kind p) = 2
rank (forward p) = 3
rank (arity p m n) = 4
rank (mismatch p m t) = 5
rank (scope p) = 6
rank (wide p) = 7
rank (large p) = 8

-- f stands at a lesser place than g, or at the same and no later in the order
abbrev pub Precedes : Fault → Fault → Type 0
Precedes f g = ((place f).line < (place g).line) ⊎ (((place f).line ≡ (place g).line) × (((place f).col < (place g).col) ⊎ (((place f).col ≡ (place g).col) × (rank f ≤ rank g))))

abbrev pub In : List Fault → Fault → Type 0
In [] f = ⊥
In (g ∷ gs) f = (f ≡ g) ⊎ In gs f
