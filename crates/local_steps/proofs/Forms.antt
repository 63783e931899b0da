-- A value that hasn't the form that is asked for chooses nothing.
use Rattle.std.proofs.Common.{◌≡◌, Bool, List, [], ◌∷◌, ◌++◌, Some, None, refl, ap}
use Rattle.hs_base.specs.declared.exn.Exn.{Exn}
use Rattle.hs_base.specs.declared.mask.Mask.{Mask}
use Rattle.hs_base.specs.declared.value.Value.{Value}
use Rattle.hs_base.specs.declared.value.ValueList.{ValueList}
use Rattle.hs_base.specs.declared.value.Value.TheVariants as raw
use Rattle.rules_meaning.specs.Values as val
use Rattle.rules_meaning.specs.Values.{V, UnitValue, value_of, Outcome, Gives, Stuck}
use Rattle.rules_meaning.specs.Meaning.{on_truth, on_pair, on_maybe, on_either, on_list}
use Rattle.rules_code.specs.CodeTrees.{Sa}
use Rattle.hs_base.specs.declared.value.ValueList.TheVariants as items
use Rattle.hs_base.specs.Lists.{before}
use Rattle.hs_eval.proofs.Steps.{no_item, first_item}
use Rattle.hs_eval.proofs.Cases.{by_form, value_of-Unit, value_of-Int, value_of-Bool, value_of-Text, value_of-Nothing, value_of-Cell, value_of-Thread, value_of-Exn, value_of-Restore, value_of-Inst, no_truth, no_pair, no_maybe, no_either, no_list, of_list}
use Rattle.rules_meaning.proofs.Values.{value_of-Pair, value_of-Just, value_of-Left, value_of-Right}
use Rattle.slot_laws.specs.SlotRules.{thrown, chosen, chosen_maybe, chosen_either, chosen_list, chosen_pair, just_part, doing, restored}

no_bool : (a b : Sa) (vs : List V) (w : V) → ((f : Bool → Outcome) → on_truth f w ≡ Stuck) → chosen a b vs w ≡ None
no_bool a b vs (val.Truth t) h = absurd (let z : Gives UnitValue ≡ Stuck = h (λ t. Gives UnitValue) in cc z)
no_bool a b vs _ h = refl

pub no_choice : (v : Value) → ((t : Bool) → v ≡ raw.Bool t → ⊥) → (a b : Sa) (vs : List V) → chosen a b vs (value_of v) ≡ None
no_choice v h a b vs = no_bool a b vs (value_of v) (no_truth v h)

no_some : (a b : Sa) (vs : List V) (w : V) → ((o : Outcome) (f : V → Outcome) → on_maybe o f w ≡ Stuck) → chosen_maybe a b vs w ≡ None
no_some a b vs val.Nothing h = absurd (let z : Gives UnitValue ≡ Stuck = h (Gives UnitValue) Gives in cc z)
no_some a b vs (val.Just u) h = absurd (let z : Gives u ≡ Stuck = h (Gives UnitValue) Gives in cc z)
no_some a b vs _ h = refl

pub no_maybe_choice : (v : Value) → (v ≡ raw.Nothing → ⊥) → ((a : Value) → v ≡ raw.Just a → ⊥) → (a b : Sa) (vs : List V) → chosen_maybe a b vs (value_of v) ≡ None
no_maybe_choice v h g a b vs = no_some a b vs (value_of v) (no_maybe v h g)

no_side : (a b : Sa) (vs : List V) (w : V) → ((f g : V → Outcome) → on_either f g w ≡ Stuck) → chosen_either a b vs w ≡ None
no_side a b vs (val.Left u) h = absurd (let z : Gives u ≡ Stuck = h Gives Gives in cc z)
no_side a b vs (val.Right u) h = absurd (let z : Gives u ≡ Stuck = h Gives Gives in cc z)
no_side a b vs _ h = refl

pub no_either_choice : (v : Value) → ((a : Value) → v ≡ raw.Left a → ⊥) → ((a : Value) → v ≡ raw.Right a → ⊥) → (a b : Sa) (vs : List V) → chosen_either a b vs (value_of v) ≡ None
no_either_choice v h g a b vs = no_side a b vs (value_of v) (no_either v h g)

no_items : (a b : Sa) (vs : List V) (w : V) → ((o : Outcome) (f : V → V → Outcome) → on_list o f w ≡ Stuck) → chosen_list a b vs w ≡ None
no_items a b vs val.Nil h = absurd (let z : Gives UnitValue ≡ Stuck = h (Gives UnitValue) (λ u w. Gives u) in cc z)
no_items a b vs (val.Cons u w) h = absurd (let z : Gives u ≡ Stuck = h (Gives UnitValue) (λ u w. Gives u) in cc z)
no_items a b vs _ h = refl

pub no_list_choice : (v : Value) → ((us : ValueList) → v ≡ raw.List us → ⊥) → (a b : Sa) (vs : List V) → chosen_list a b vs (value_of v) ≡ None
no_list_choice v h a b vs = no_items a b vs (value_of v) (no_list v h)

pub none_chosen : (a b : Sa) (vs : List V) (us : ValueList) → us ≡ items.Nil → chosen_list a b vs (value_of (raw.List us)) ≡ just_part (doing a vs)
none_chosen a b vs us e = ap (chosen_list a b vs) (no_item us e)

pub some_chosen : (a b : Sa) (vs : List V) (us : ValueList) (u : Value) (rest : ValueList) → us ≡ before u rest
    → chosen_list a b vs (value_of (raw.List us)) ≡ just_part (doing b ((vs ++ value_of u ∷ []) ++ value_of (raw.List rest) ∷ []))
some_chosen a b vs us u rest e = ap (chosen_list a b vs) (first_item us u rest e)

no_both : (a : Sa) (vs : List V) (w : V) → ((f : V → V → Outcome) → on_pair f w ≡ Stuck) → chosen_pair a vs w ≡ None
no_both a vs (val.Pair u w) h = absurd (let z : Gives u ≡ Stuck = h (λ u w. Gives u) in cc z)
no_both a vs _ h = refl

pub no_pair_choice : (v : Value) → ((a c : Value) → v ≡ raw.Pair a c → ⊥) → (a : Sa) (vs : List V) → chosen_pair a vs (value_of v) ≡ None
no_pair_choice v h a vs = no_both a vs (value_of v) (no_pair v h)

no_exn_list : (us : ValueList) → thrown (value_of (raw.List us)) ≡ None
no_exn_list us = of_list thrown None refl (λ a c. refl) us

pub no_exn : (v : Value) → ((e : Exn) → v ≡ raw.Exn e → ⊥) → thrown (value_of v) ≡ None
no_exn v h = by_form (λ w. ((e : Exn) → w ≡ raw.Exn e → ⊥) → thrown (value_of w) ≡ None)
    (λ h. ap thrown value_of-Unit) (λ m h. ap thrown (value_of-Int m)) (λ t h. ap thrown (value_of-Bool t)) (λ t h. ap thrown (value_of-Text t)) (λ a c h. ap thrown (value_of-Pair a c)) (λ h. ap thrown value_of-Nothing) (λ a h. ap thrown (value_of-Just a)) (λ a h. ap thrown (value_of-Left a)) (λ a h. ap thrown (value_of-Right a)) (λ us h. no_exn_list us) (λ m h. ap thrown (value_of-Cell m)) (λ m h. ap thrown (value_of-Thread m)) (λ e h. absurd (h e refl)) (λ m h. ap thrown (value_of-Restore m)) (λ m h. ap thrown (value_of-Inst m)) v h

no_mask_list : (a : Sa) (vs : List V) (us : ValueList) → restored a vs (Some (value_of (raw.List us))) ≡ None
no_mask_list a vs us = of_list (λ z. restored a vs (Some z)) None refl (λ a c. refl) us

pub no_mask : (v : Value) → ((m : Mask) → v ≡ raw.Restore m → ⊥) → (a : Sa) (vs : List V) → restored a vs (Some (value_of v)) ≡ None
no_mask v h a vs = by_form (λ w. ((m : Mask) → w ≡ raw.Restore m → ⊥) → restored a vs (Some (value_of w)) ≡ None)
    (λ h. ap (λ z. restored a vs (Some z)) value_of-Unit) (λ m h. ap (λ z. restored a vs (Some z)) (value_of-Int m)) (λ t h. ap (λ z. restored a vs (Some z)) (value_of-Bool t)) (λ t h. ap (λ z. restored a vs (Some z)) (value_of-Text t)) (λ p c h. ap (λ z. restored a vs (Some z)) (value_of-Pair p c)) (λ h. ap (λ z. restored a vs (Some z)) value_of-Nothing) (λ p h. ap (λ z. restored a vs (Some z)) (value_of-Just p)) (λ p h. ap (λ z. restored a vs (Some z)) (value_of-Left p)) (λ p h. ap (λ z. restored a vs (Some z)) (value_of-Right p)) (λ us h. no_mask_list a vs us) (λ m h. ap (λ z. restored a vs (Some z)) (value_of-Cell m)) (λ m h. ap (λ z. restored a vs (Some z)) (value_of-Thread m)) (λ e h. ap (λ z. restored a vs (Some z)) (value_of-Exn e)) (λ m h. absurd (h m refl)) (λ m h. ap (λ z. restored a vs (Some z)) (value_of-Inst m)) v h

pub ruleset list_choices = (none_chosen, some_chosen)
