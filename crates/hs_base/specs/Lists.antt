-- A list of values, by its form.
use Rattle.std.specs.Prelude.{◌≡◌, List, [], ◌∷◌}
use Rattle.hs_base.specs.declared.value.Value.{Value}
use Rattle.hs_base.specs.declared.value.ValueList.{ValueList, Nil, Cons}
use Rattle.hs_base.specs.declared.value.Split.{Split}
use Rattle.hs_base.specs.declared.value.Split.TheVariants.{Empty, Of}

-- a value before a list
abbrev pub before : Value → ValueList → ValueList
before first rest = Cons (record { first = first; rest = rest })

-- the list of these values
abbrev pub chain_of : List Value → ValueList
chain_of [] = Nil
chain_of (v ∷ vs) = before v (chain_of vs)

-- these values before a list
abbrev pub all_before : List Value → ValueList → ValueList
all_before [] rest = rest
all_before (v ∷ vs) rest = before v (all_before vs rest)

abbrev pub SplitAs : ValueList → Split → Type 0
SplitAs vs Empty = vs ≡ Nil
SplitAs vs (Of first rest) = vs ≡ before first.now rest
