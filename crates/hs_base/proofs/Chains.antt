-- Values before a list.
use Rattle.std.proofs.Common.{◌≡◌, List, [], ◌∷◌, ◌++◌, refl, ap}
use Rattle.hs_base.specs.declared.value.Value.{Value}
use Rattle.hs_base.specs.declared.value.ValueList.{ValueList, Nil}
use Rattle.hs_base.specs.Lists.{before, chain_of, all_before}

pub all_before-Nil : (vs : List Value) → all_before vs Nil ≡ chain_of vs
all_before-Nil [] = refl
all_before-Nil (v ∷ vs) = ap (before v) (all_before-Nil vs)

pub all_before-one : (vs : List Value) (v : Value) (rest : ValueList) → all_before (vs ++ v ∷ []) rest ≡ all_before vs (before v rest)
all_before-one [] v rest = refl
all_before-one (u ∷ vs) v rest = ap (before u) (all_before-one vs v rest)

pub ruleset chains = (all_before-Nil, all_before-one)
