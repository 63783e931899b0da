-- What a value gives where it hasn't the form that is asked for.
use Rattle.std.proofs.Common.{◌≡◌, ℕ, ℤ, Bool, List, refl, ap, ◌∙◌, sym, subst}
use Rattle.hs_base.specs.declared.exn.Exn.{Exn}
use Rattle.hs_base.specs.declared.mask.Mask.{Mask}
use Rattle.hs_base.specs.declared.value.Value.{Value, out-Value, roll-Value, roll-out-Value}
use Rattle.hs_base.specs.declared.value.Value.TheVariants as raw
use Rattle.hs_base.specs.declared.value.Value.TheOpen.{Value-F, ValueList-F}
use Rattle.hs_base.specs.declared.value.Value.TheFolds.{fold-roll-Value}
use Rattle.rules_meaning.specs.Values.{V, UnitValue, Int, Truth, Text, Nothing, Nil, Cons, Cell, Thread, Exception, Restore, Inst, value_of, list_value_of, value_step, list_step, head_step, Outcome, Stuck}
use Rattle.rules_meaning.specs.Meaning.{on_truth, on_number, on_text, on_pair, on_maybe, on_either, on_list}
use Rattle.hs_base.specs.declared.value.ValueList.{ValueList, out-ValueList, roll-ValueList, roll-out-ValueList}
use Rattle.hs_base.specs.declared.value.ValueList.TheVariants as items
use Rattle.hs_base.specs.declared.value.Head.{Head}
use Rattle.hs_base.specs.Lists.{before}
use Rattle.rules_meaning.proofs.Values.{value_of-Pair, value_of-Just, value_of-Left, value_of-Right, value_of-List, list_value_of-Nil, list_value_of-before, list_value_of-chain}

-- the mirror of each form of value that holds no value
pub value_of-Unit : value_of raw.Unit ≡ UnitValue
value_of-Unit = ap value_of (sym raw.rolls-Unit) ∙ fold-roll-Value V V (V × V) value_step list_step head_step Value-F.Unit

pub value_of-Int : (m : ℤ) → value_of (raw.Int m) ≡ Int m
value_of-Int m = ap value_of (sym (raw.rolls-Int m)) ∙ fold-roll-Value V V (V × V) value_step list_step head_step (Value-F.Int m)

pub value_of-Bool : (t : Bool) → value_of (raw.Bool t) ≡ Truth t
value_of-Bool t = ap value_of (sym (raw.rolls-Bool t)) ∙ fold-roll-Value V V (V × V) value_step list_step head_step (Value-F.Bool t)

pub value_of-Text : (t : List ℕ) → value_of (raw.Text t) ≡ Text t
value_of-Text t = ap value_of (sym (raw.rolls-Text t)) ∙ fold-roll-Value V V (V × V) value_step list_step head_step (Value-F.Text t)

pub value_of-Nothing : value_of raw.Nothing ≡ Nothing
value_of-Nothing = ap value_of (sym raw.rolls-Nothing) ∙ fold-roll-Value V V (V × V) value_step list_step head_step Value-F.Nothing

pub value_of-Cell : (m : ℕ) → value_of (raw.Cell m) ≡ Cell m
value_of-Cell m = ap value_of (sym (raw.rolls-Cell m)) ∙ fold-roll-Value V V (V × V) value_step list_step head_step (Value-F.Cell m)

pub value_of-Thread : (m : ℕ) → value_of (raw.Thread m) ≡ Thread m
value_of-Thread m = ap value_of (sym (raw.rolls-Thread m)) ∙ fold-roll-Value V V (V × V) value_step list_step head_step (Value-F.Thread m)

pub value_of-Exn : (e : Exn) → value_of (raw.Exn e) ≡ Exception e
value_of-Exn e = ap value_of (sym (raw.rolls-Exn e)) ∙ fold-roll-Value V V (V × V) value_step list_step head_step (Value-F.Exn e)

pub value_of-Restore : (m : Mask) → value_of (raw.Restore m) ≡ Restore m
value_of-Restore m = ap value_of (sym (raw.rolls-Restore m)) ∙ fold-roll-Value V V (V × V) value_step list_step head_step (Value-F.Restore m)

pub value_of-Inst : (m : ℕ) → value_of (raw.Inst m) ≡ Inst m
value_of-Inst m = ap value_of (sym (raw.rolls-Inst m)) ∙ fold-roll-Value V V (V × V) value_step list_step head_step (Value-F.Inst m)

pub ruleset value_forms = (value_of-Unit, value_of-Int, value_of-Bool, value_of-Text, value_of-Nothing, value_of-Cell, value_of-Thread, value_of-Exn, value_of-Restore, value_of-Inst, value_of-Pair, value_of-Just, value_of-Left, value_of-Right, value_of-List, list_value_of-Nil, list_value_of-before, list_value_of-chain)

-- a statement of each form of value is one of each value
pub by_form : (P : Value → Type 0) → P raw.Unit → ((m : ℤ) → P (raw.Int m)) → ((t : Bool) → P (raw.Bool t)) → ((t : List ℕ) → P (raw.Text t))
    → ((a c : Value) → P (raw.Pair a c)) → P raw.Nothing → ((a : Value) → P (raw.Just a)) → ((a : Value) → P (raw.Left a)) → ((a : Value) → P (raw.Right a))
    → ((vs : ValueList) → P (raw.List vs)) → ((m : ℕ) → P (raw.Cell m)) → ((m : ℕ) → P (raw.Thread m)) → ((e : Exn) → P (raw.Exn e))
    → ((m : Mask) → P (raw.Restore m)) → ((m : ℕ) → P (raw.Inst m)) → (v : Value) → P v
by_form P unit int bool text pair nothing just left right list cell thread exn restore inst v =
    subst P (roll-out-Value v) (at (out-Value v))
  where
    at : (w : Value-F Value ValueList Head) → P (roll-Value w)
    at Value-F.Unit = subst P (sym raw.rolls-Unit) unit
    at (Value-F.Int m) = subst P (sym (raw.rolls-Int m)) (int m)
    at (Value-F.Bool t) = subst P (sym (raw.rolls-Bool t)) (bool t)
    at (Value-F.Text t) = subst P (sym (raw.rolls-Text t)) (text t)
    at (Value-F.Pair a c) = subst P (sym (raw.rolls-Pair a c)) (pair a c)
    at Value-F.Nothing = subst P (sym raw.rolls-Nothing) nothing
    at (Value-F.Just a) = subst P (sym (raw.rolls-Just a)) (just a)
    at (Value-F.Left a) = subst P (sym (raw.rolls-Left a)) (left a)
    at (Value-F.Right a) = subst P (sym (raw.rolls-Right a)) (right a)
    at (Value-F.List vs) = subst P (sym (raw.rolls-List vs)) (list vs)
    at (Value-F.Cell m) = subst P (sym (raw.rolls-Cell m)) (cell m)
    at (Value-F.Thread m) = subst P (sym (raw.rolls-Thread m)) (thread m)
    at (Value-F.Exn e) = subst P (sym (raw.rolls-Exn e)) (exn e)
    at (Value-F.Restore m) = subst P (sym (raw.rolls-Restore m)) (restore m)
    at (Value-F.Inst m) = subst P (sym (raw.rolls-Inst m)) (inst m)

-- a statement of both forms of list is one of each list
pub by_list : (P : ValueList → Type 0) → P items.Nil → ((a : Value) (rest : ValueList) → P (before a rest)) → (vs : ValueList) → P vs
by_list P nil cons vs =
    subst P (roll-out-ValueList vs) (at (out-ValueList vs))
  where
    at : (w : ValueList-F Value ValueList Head) → P (roll-ValueList w)
    at ValueList-F.Nil = subst P (sym items.rolls-Nil) nil
    at (ValueList-F.Cons head) = subst P (sym (items.rolls-Cons head)) (cons head.first head.rest)

-- what says the same of the empty list and of every other says so of each list
pub of_list : {A : Type 0} (f : V → A) (x : A) → f Nil ≡ x → ((a c : V) → f (Cons a c) ≡ x) → (vs : ValueList) → f (value_of (raw.List vs)) ≡ x
of_list f x nil cons vs =
    ap f (value_of-List vs) ∙ by_list (λ us. f (list_value_of us) ≡ x) (ap f list_value_of-Nil ∙ nil) (λ a rest. ap f (list_value_of-before a rest) ∙ cons (value_of a) (list_value_of rest)) vs

no_truth_list : (f : Bool → Outcome) → (vs : ValueList) → on_truth f (value_of (raw.List vs)) ≡ Stuck
no_truth_list f vs = of_list (on_truth f) Stuck refl (λ a c. refl) vs

pub no_truth : (v : Value) → ((t : Bool) → v ≡ (raw.Bool t) → ⊥) → (f : Bool → Outcome) → on_truth f (value_of v) ≡ Stuck
no_truth v h0 f = by_form (λ w. ((t : Bool) → w ≡ (raw.Bool t) → ⊥) → on_truth f (value_of w) ≡ Stuck)
    (λ h0. ap (on_truth f) value_of-Unit) (λ m h0. ap (on_truth f) (value_of-Int m)) (λ t h0. absurd (h0 t refl)) (λ t h0. ap (on_truth f) (value_of-Text t)) (λ a c h0. ap (on_truth f) (value_of-Pair a c)) (λ h0. ap (on_truth f) value_of-Nothing) (λ a h0. ap (on_truth f) (value_of-Just a)) (λ a h0. ap (on_truth f) (value_of-Left a)) (λ a h0. ap (on_truth f) (value_of-Right a)) (λ vs h0. no_truth_list f vs) (λ m h0. ap (on_truth f) (value_of-Cell m)) (λ m h0. ap (on_truth f) (value_of-Thread m)) (λ e h0. ap (on_truth f) (value_of-Exn e)) (λ m h0. ap (on_truth f) (value_of-Restore m)) (λ m h0. ap (on_truth f) (value_of-Inst m)) v h0

no_number_list : (f : ℤ → Outcome) → (vs : ValueList) → on_number f (value_of (raw.List vs)) ≡ Stuck
no_number_list f vs = of_list (on_number f) Stuck refl (λ a c. refl) vs

pub no_number : (v : Value) → ((m : ℤ) → v ≡ (raw.Int m) → ⊥) → (f : ℤ → Outcome) → on_number f (value_of v) ≡ Stuck
no_number v h0 f = by_form (λ w. ((m : ℤ) → w ≡ (raw.Int m) → ⊥) → on_number f (value_of w) ≡ Stuck)
    (λ h0. ap (on_number f) value_of-Unit) (λ m h0. absurd (h0 m refl)) (λ t h0. ap (on_number f) (value_of-Bool t)) (λ t h0. ap (on_number f) (value_of-Text t)) (λ a c h0. ap (on_number f) (value_of-Pair a c)) (λ h0. ap (on_number f) value_of-Nothing) (λ a h0. ap (on_number f) (value_of-Just a)) (λ a h0. ap (on_number f) (value_of-Left a)) (λ a h0. ap (on_number f) (value_of-Right a)) (λ vs h0. no_number_list f vs) (λ m h0. ap (on_number f) (value_of-Cell m)) (λ m h0. ap (on_number f) (value_of-Thread m)) (λ e h0. ap (on_number f) (value_of-Exn e)) (λ m h0. ap (on_number f) (value_of-Restore m)) (λ m h0. ap (on_number f) (value_of-Inst m)) v h0

no_text_list : (f : List ℕ → Outcome) → (vs : ValueList) → on_text f (value_of (raw.List vs)) ≡ Stuck
no_text_list f vs = of_list (on_text f) Stuck refl (λ a c. refl) vs

pub no_text : (v : Value) → ((t : List ℕ) → v ≡ (raw.Text t) → ⊥) → (f : List ℕ → Outcome) → on_text f (value_of v) ≡ Stuck
no_text v h0 f = by_form (λ w. ((t : List ℕ) → w ≡ (raw.Text t) → ⊥) → on_text f (value_of w) ≡ Stuck)
    (λ h0. ap (on_text f) value_of-Unit) (λ m h0. ap (on_text f) (value_of-Int m)) (λ t h0. ap (on_text f) (value_of-Bool t)) (λ t h0. absurd (h0 t refl)) (λ a c h0. ap (on_text f) (value_of-Pair a c)) (λ h0. ap (on_text f) value_of-Nothing) (λ a h0. ap (on_text f) (value_of-Just a)) (λ a h0. ap (on_text f) (value_of-Left a)) (λ a h0. ap (on_text f) (value_of-Right a)) (λ vs h0. no_text_list f vs) (λ m h0. ap (on_text f) (value_of-Cell m)) (λ m h0. ap (on_text f) (value_of-Thread m)) (λ e h0. ap (on_text f) (value_of-Exn e)) (λ m h0. ap (on_text f) (value_of-Restore m)) (λ m h0. ap (on_text f) (value_of-Inst m)) v h0

no_pair_list : (f : V → V → Outcome) → (vs : ValueList) → on_pair f (value_of (raw.List vs)) ≡ Stuck
no_pair_list f vs = of_list (on_pair f) Stuck refl (λ a c. refl) vs

pub no_pair : (v : Value) → ((a c : Value) → v ≡ (raw.Pair a c) → ⊥) → (f : V → V → Outcome) → on_pair f (value_of v) ≡ Stuck
no_pair v h0 f = by_form (λ w. ((a c : Value) → w ≡ (raw.Pair a c) → ⊥) → on_pair f (value_of w) ≡ Stuck)
    (λ h0. ap (on_pair f) value_of-Unit) (λ m h0. ap (on_pair f) (value_of-Int m)) (λ t h0. ap (on_pair f) (value_of-Bool t)) (λ t h0. ap (on_pair f) (value_of-Text t)) (λ a c h0. absurd (h0 a c refl)) (λ h0. ap (on_pair f) value_of-Nothing) (λ a h0. ap (on_pair f) (value_of-Just a)) (λ a h0. ap (on_pair f) (value_of-Left a)) (λ a h0. ap (on_pair f) (value_of-Right a)) (λ vs h0. no_pair_list f vs) (λ m h0. ap (on_pair f) (value_of-Cell m)) (λ m h0. ap (on_pair f) (value_of-Thread m)) (λ e h0. ap (on_pair f) (value_of-Exn e)) (λ m h0. ap (on_pair f) (value_of-Restore m)) (λ m h0. ap (on_pair f) (value_of-Inst m)) v h0

no_maybe_list : (o : Outcome) → (f : V → Outcome) → (vs : ValueList) → on_maybe o f (value_of (raw.List vs)) ≡ Stuck
no_maybe_list o f vs = of_list (on_maybe o f) Stuck refl (λ a c. refl) vs

pub no_maybe : (v : Value) → (v ≡ raw.Nothing → ⊥) → ((a : Value) → v ≡ (raw.Just a) → ⊥) → (o : Outcome) → (f : V → Outcome) → on_maybe o f (value_of v) ≡ Stuck
no_maybe v h0 h1 o f = by_form (λ w. (w ≡ raw.Nothing → ⊥) → ((a : Value) → w ≡ (raw.Just a) → ⊥) → on_maybe o f (value_of w) ≡ Stuck)
    (λ h0 h1. ap (on_maybe o f) value_of-Unit) (λ m h0 h1. ap (on_maybe o f) (value_of-Int m)) (λ t h0 h1. ap (on_maybe o f) (value_of-Bool t)) (λ t h0 h1. ap (on_maybe o f) (value_of-Text t)) (λ a c h0 h1. ap (on_maybe o f) (value_of-Pair a c)) (λ h0 h1. absurd (h0 refl)) (λ a h0 h1. absurd (h1 a refl)) (λ a h0 h1. ap (on_maybe o f) (value_of-Left a)) (λ a h0 h1. ap (on_maybe o f) (value_of-Right a)) (λ vs h0 h1. no_maybe_list o f vs) (λ m h0 h1. ap (on_maybe o f) (value_of-Cell m)) (λ m h0 h1. ap (on_maybe o f) (value_of-Thread m)) (λ e h0 h1. ap (on_maybe o f) (value_of-Exn e)) (λ m h0 h1. ap (on_maybe o f) (value_of-Restore m)) (λ m h0 h1. ap (on_maybe o f) (value_of-Inst m)) v h0 h1

no_either_list : (f g : V → Outcome) → (vs : ValueList) → on_either f g (value_of (raw.List vs)) ≡ Stuck
no_either_list f g vs = of_list (on_either f g) Stuck refl (λ a c. refl) vs

pub no_either : (v : Value) → ((a : Value) → v ≡ (raw.Left a) → ⊥) → ((a : Value) → v ≡ (raw.Right a) → ⊥) → (f g : V → Outcome) → on_either f g (value_of v) ≡ Stuck
no_either v h0 h1 f g = by_form (λ w. ((a : Value) → w ≡ (raw.Left a) → ⊥) → ((a : Value) → w ≡ (raw.Right a) → ⊥) → on_either f g (value_of w) ≡ Stuck)
    (λ h0 h1. ap (on_either f g) value_of-Unit) (λ m h0 h1. ap (on_either f g) (value_of-Int m)) (λ t h0 h1. ap (on_either f g) (value_of-Bool t)) (λ t h0 h1. ap (on_either f g) (value_of-Text t)) (λ a c h0 h1. ap (on_either f g) (value_of-Pair a c)) (λ h0 h1. ap (on_either f g) value_of-Nothing) (λ a h0 h1. ap (on_either f g) (value_of-Just a)) (λ a h0 h1. absurd (h0 a refl)) (λ a h0 h1. absurd (h1 a refl)) (λ vs h0 h1. no_either_list f g vs) (λ m h0 h1. ap (on_either f g) (value_of-Cell m)) (λ m h0 h1. ap (on_either f g) (value_of-Thread m)) (λ e h0 h1. ap (on_either f g) (value_of-Exn e)) (λ m h0 h1. ap (on_either f g) (value_of-Restore m)) (λ m h0 h1. ap (on_either f g) (value_of-Inst m)) v h0 h1

pub no_list : (v : Value) → ((vs : ValueList) → v ≡ (raw.List vs) → ⊥) → (o : Outcome) → (f : V → V → Outcome) → on_list o f (value_of v) ≡ Stuck
no_list v h0 o f = by_form (λ w. ((vs : ValueList) → w ≡ (raw.List vs) → ⊥) → on_list o f (value_of w) ≡ Stuck)
    (λ h0. ap (on_list o f) value_of-Unit) (λ m h0. ap (on_list o f) (value_of-Int m)) (λ t h0. ap (on_list o f) (value_of-Bool t)) (λ t h0. ap (on_list o f) (value_of-Text t)) (λ a c h0. ap (on_list o f) (value_of-Pair a c)) (λ h0. ap (on_list o f) value_of-Nothing) (λ a h0. ap (on_list o f) (value_of-Just a)) (λ a h0. ap (on_list o f) (value_of-Left a)) (λ a h0. ap (on_list o f) (value_of-Right a)) (λ vs h0. absurd (h0 vs refl)) (λ m h0. ap (on_list o f) (value_of-Cell m)) (λ m h0. ap (on_list o f) (value_of-Thread m)) (λ e h0. ap (on_list o f) (value_of-Exn e)) (λ m h0. ap (on_list o f) (value_of-Restore m)) (λ m h0. ap (on_list o f) (value_of-Inst m)) v h0

pub ruleset no_form = (no_truth, no_number, no_text, no_pair, no_maybe, no_either, no_list)
