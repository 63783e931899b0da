-- What an environment in memory is (own).
use Rattle.std.specs.Prelude.{List, [], Option, Some, None}
use Rattle.hs_base.specs.declared.value.Value.{Value}

-- the values that an environment shares
abbrev pub base_of : Option (List Value) → List Value
base_of None = []
base_of (Some vs) = vs
