-- The first of a list of broken rules, by position and then by the order of the rules.
use Rattle.std.specs.Prelude.{ℕ, ◌||◌, List, [], ◌∷◌, Bool, false, cond, Option, Some, None, ltb}
use Rattle.hs_base.specs.declared.pos.Pos.{Pos}
use Rattle.rules_typing.specs.Typing.{Fault}
use Rattle.rules_typing.specs.TypingFaults.{place, rank}

abbrev pub lower : ℕ → ℕ → Bool → Bool
lower m n b = ltb m n || (cond (ltb n m) false b)

abbrev pub before_at : Pos → Pos → Bool → Bool
before_at p q b = lower p.line q.line (lower p.col q.col b)

abbrev pub before : Fault → Fault → Bool
before f g = before_at (place f) (place g) (ltb (rank f) (rank g))

-- the one that comes first, of one that was kept and one more
abbrev pub lesser : Option Fault → Fault → Fault
lesser None f = f
lesser (Some g) f = cond (before f g) f g

abbrev pub least : Option Fault → List Fault → Option Fault
least o [] = o
least o (f ∷ fs) = least (Some (lesser o f)) fs
