-- What the mirror of a value is, for each form of a value that holds values.
use Rattle.std.proofs.Common.{◌≡◌, List, [], ◌∷◌, ap, ◌∙◌, sym}
use Rattle.hs_base.specs.declared.value.Value.{Value}
use Rattle.hs_base.specs.declared.value.Value.TheVariants as raw
use Rattle.hs_base.specs.declared.value.Value.TheVariants.{rolls-Pair, rolls-Just, rolls-Left, rolls-Right, rolls-List}
use Rattle.hs_base.specs.declared.value.Value.TheOpen.{Value-F, ValueList-F}
use Rattle.hs_base.specs.declared.value.Value.TheFolds.{fold-roll-Value, fold-roll-ValueList, fold-roll-Head}
use Rattle.hs_base.specs.declared.value.ValueList.{ValueList}
use Rattle.hs_base.specs.declared.value.ValueList.TheVariants as list
use Rattle.hs_base.specs.declared.value.ValueList.TheVariants.{rolls-Nil, rolls-Cons}
use Rattle.hs_base.specs.declared.value.Head.{Head, out-Head}
use Rattle.hs_base.specs.Lists.{before, chain_of}
use Rattle.rules_meaning.specs.Values.{V, Pair, Just, Left, Right, Nil, Cons, value_of, list_value_of, values_of, value_step, list_step, head_step, list_of}

pub value_of-Pair : (a b : Value) → value_of (raw.Pair a b) ≡ Pair (value_of a) (value_of b)
value_of-Pair a b = ap value_of (sym (rolls-Pair a b)) ∙ fold-roll-Value V V (V × V) value_step list_step head_step (Value-F.Pair a b)

pub value_of-Just : (a : Value) → value_of (raw.Just a) ≡ Just (value_of a)
value_of-Just a = ap value_of (sym (rolls-Just a)) ∙ fold-roll-Value V V (V × V) value_step list_step head_step (Value-F.Just a)

pub value_of-Left : (a : Value) → value_of (raw.Left a) ≡ Left (value_of a)
value_of-Left a = ap value_of (sym (rolls-Left a)) ∙ fold-roll-Value V V (V × V) value_step list_step head_step (Value-F.Left a)

pub value_of-Right : (a : Value) → value_of (raw.Right a) ≡ Right (value_of a)
value_of-Right a = ap value_of (sym (rolls-Right a)) ∙ fold-roll-Value V V (V × V) value_step list_step head_step (Value-F.Right a)

pub value_of-List : (vs : ValueList) → value_of (raw.List vs) ≡ list_value_of vs
value_of-List vs = ap value_of (sym (rolls-List vs)) ∙ fold-roll-Value V V (V × V) value_step list_step head_step (Value-F.List vs)

pub list_value_of-Nil : list_value_of list.Nil ≡ Nil
list_value_of-Nil = ap list_value_of (sym rolls-Nil) ∙ fold-roll-ValueList V V (V × V) value_step list_step head_step ValueList-F.Nil

pub list_value_of-before : (first : Value) (rest : ValueList) → list_value_of (before first rest) ≡ Cons (value_of first) (list_value_of rest)
list_value_of-before first rest =
    let head : Head = record { first = first; rest = rest } in
    ap list_value_of (sym (rolls-Cons head)) ∙ fold-roll-ValueList V V (V × V) value_step list_step head_step (ValueList-F.Cons head)
    ∙ ap (λ (p : V × V). Cons p.0 p.1) (fold-roll-Head V V (V × V) value_step list_step head_step (out-Head head))

pub list_value_of-chain : (vs : List Value) → list_value_of (chain_of vs) ≡ list_of (values_of vs)
list_value_of-chain [] = list_value_of-Nil
list_value_of-chain (v ∷ vs) = list_value_of-before v (chain_of vs) ∙ ap (Cons (value_of v)) (list_value_of-chain vs)

pub ruleset value_rules = (value_of-Pair, value_of-Just, value_of-Left, value_of-Right, value_of-List, list_value_of-Nil, list_value_of-before, list_value_of-chain)
