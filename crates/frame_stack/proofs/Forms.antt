-- Values that a primitive doesn't take: by the primitive and the values' forms.
use Rattle.std.proofs.Common.{◌≡◌, ◌<◌, ◌≤◌, arith, ℕ, suc, ℤ, Bool, true, false, cond, List, [], ◌∷◌, ◌++◌, length, length-append, Option, Some, None, refl, ap, ap₂, sym, subst, ◌∙◌}
use Rattle.std.specs.Prelude.{MatchOption}
use Rattle.hs_base.specs.declared.exn.Exn.{Exn}
use Rattle.hs_base.specs.declared.mask.Mask.{Mask}
use Rattle.hs_base.specs.declared.value.Value.{Value}
use Rattle.hs_base.specs.declared.value.Value.TheVariants as raw
use Rattle.hs_base.specs.declared.value.ValueList.{ValueList}
use Rattle.rules_expansion.specs.declared.primitive.Primitive.{Primitive}
use Rattle.rules_expansion.specs.declared.primitive.Primitive.TheVariants.{PutStr, PutStrLn, HPutStrLn, NewMVar, TakeMVar, PutMVar, ReadMVar, TryTakeMVar, TryPutMVar, ThreadDelay, ThrowTo, Release}
use Rattle.rules_meaning.specs.Values as val
use Rattle.rules_meaning.specs.Values.{V, value_of, values_of, list_value_of}
use Rattle.rules_meaning.proofs.Values.{value_of-Pair, value_of-Just, value_of-Left, value_of-Right, value_of-List, list_value_of-Nil, list_value_of-before}
use Rattle.rules_sorts.specs.Sorts.{Sort}
use Rattle.rules_sorts.specs.TypedMeaning.{any_cell, of_int, of_text, of_exn, of_thread, of_cell}
use Rattle.hs_eval.proofs.Cases.{by_form, by_list, value_of-Unit, value_of-Int, value_of-Bool, value_of-Text, value_of-Nothing, value_of-Cell, value_of-Thread, value_of-Exn, value_of-Restore, value_of-Inst}
use Rattle.hs_soundness.specs.CoreSorts.{of_instance}
use Rattle.hs_progress.specs.CoreTyping.{Asks, asks_put_str, asks_put_str_ln, asks_h_put_str_ln, asks_new, asks_new_empty, asks_take, asks_put, asks_put_end, asks_read, asks_read_end, asks_try_take, asks_try_put, asks_delay, asks_throw_to, asks_release}
use Rattle.hs_progress.specs.TypedStates.{AllOfSorts, no_values, one_value}
use Rattle.frame_stack.specs.Kinds.{Kind, a_text, a_number, a_cell, a_thread, an_exception, an_instance, kinds_of, is_of, are_of, AreOthers}
use Rattle.frame_stack.specs.Slicing.{Unfit}

-- a statement of each form of value and what it stands for is one of each value
forms : (P : Value → V → Type 0) → P raw.Unit val.UnitValue → ((m : ℤ) → P (raw.Int m) (val.Int m)) → ((t : Bool) → P (raw.Bool t) (val.Truth t)) → ((t : List ℕ) → P (raw.Text t) (val.Text t))
    → ((a c : Value) → P (raw.Pair a c) (val.Pair (value_of a) (value_of c))) → P raw.Nothing val.Nothing → ((a : Value) → P (raw.Just a) (val.Just (value_of a)))
    → ((a : Value) → P (raw.Left a) (val.Left (value_of a))) → ((a : Value) → P (raw.Right a) (val.Right (value_of a)))
    → ((vs : ValueList) → P (raw.List vs) val.Nil) → ((vs : ValueList) (x y : V) → P (raw.List vs) (val.Cons x y)) → ((m : ℕ) → P (raw.Cell m) (val.Cell m)) → ((m : ℕ) → P (raw.Thread m) (val.Thread m))
    → ((e : Exn) → P (raw.Exn e) (val.Exception e)) → ((m : Mask) → P (raw.Restore m) (val.Restore m)) → ((m : ℕ) → P (raw.Inst m) (val.Inst m)) → (v : Value) → P v (value_of v)
forms P unit int bool text pair nothing just left right nil cons cell thread exn restore inst v =
    by_form (λ w. P w (value_of w)) (on raw.Unit value_of-Unit unit) (λ m. on (raw.Int m) (value_of-Int m) (int m)) (λ t. on (raw.Bool t) (value_of-Bool t) (bool t)) (λ t. on (raw.Text t) (value_of-Text t) (text t))
    (λ a c. on (raw.Pair a c) (value_of-Pair a c) (pair a c)) (on raw.Nothing value_of-Nothing nothing) (λ a. on (raw.Just a) (value_of-Just a) (just a)) (λ a. on (raw.Left a) (value_of-Left a) (left a)) (λ a. on (raw.Right a) (value_of-Right a) (right a))
    (λ vs. on (raw.List vs) (value_of-List vs) (list vs)) (λ m. on (raw.Cell m) (value_of-Cell m) (cell m)) (λ m. on (raw.Thread m) (value_of-Thread m) (thread m)) (λ e. on (raw.Exn e) (value_of-Exn e) (exn e))
    (λ m. on (raw.Restore m) (value_of-Restore m) (restore m)) (λ m. on (raw.Inst m) (value_of-Inst m) (inst m)) v
  where
    on : (w : Value) {x : V} → value_of w ≡ x → P w x → P w (value_of w)
    on w e h = subst (P w) (sym e) h

    list : (vs : ValueList) → P (raw.List vs) (list_value_of vs)
    list vs = by_list (λ us. P (raw.List vs) (list_value_of us)) (subst (P (raw.List vs)) (sym list_value_of-Nil) (nil vs)) (λ a rest. subst (P (raw.List vs)) (sym (list_value_of-before a rest)) (cons vs (value_of a) (list_value_of rest))) vs

-- ---- a value that hasn't a form isn't of its kind

pub not_text : (v : Value) → ((t : List ℕ) → v ≡ raw.Text t → ⊥) → is_of a_text (value_of v) ≡ false
not_text = forms (λ w x. ((t : List ℕ) → w ≡ raw.Text t → ⊥) → is_of a_text x ≡ false) (λ h. refl) (λ m h. refl) (λ t h. refl) (λ t h. absurd (h t refl)) (λ a c h. refl) (λ h. refl) (λ a h. refl) (λ a h. refl) (λ a h. refl) (λ vs h. refl) (λ vs a c h. refl) (λ m h. refl) (λ m h. refl) (λ e h. refl) (λ m h. refl) (λ m h. refl)

pub not_int : (v : Value) → ((t : ℤ) → v ≡ raw.Int t → ⊥) → is_of a_number (value_of v) ≡ false
not_int = forms (λ w x. ((t : ℤ) → w ≡ raw.Int t → ⊥) → is_of a_number x ≡ false) (λ h. refl) (λ m h. absurd (h m refl)) (λ t h. refl) (λ t h. refl) (λ a c h. refl) (λ h. refl) (λ a h. refl) (λ a h. refl) (λ a h. refl) (λ vs h. refl) (λ vs a c h. refl) (λ m h. refl) (λ m h. refl) (λ e h. refl) (λ m h. refl) (λ m h. refl)

pub not_cell : (v : Value) → ((t : ℕ) → v ≡ raw.Cell t → ⊥) → is_of a_cell (value_of v) ≡ false
not_cell = forms (λ w x. ((t : ℕ) → w ≡ raw.Cell t → ⊥) → is_of a_cell x ≡ false) (λ h. refl) (λ m h. refl) (λ t h. refl) (λ t h. refl) (λ a c h. refl) (λ h. refl) (λ a h. refl) (λ a h. refl) (λ a h. refl) (λ vs h. refl) (λ vs a c h. refl) (λ m h. absurd (h m refl)) (λ m h. refl) (λ e h. refl) (λ m h. refl) (λ m h. refl)

pub not_thread : (v : Value) → ((t : ℕ) → v ≡ raw.Thread t → ⊥) → is_of a_thread (value_of v) ≡ false
not_thread = forms (λ w x. ((t : ℕ) → w ≡ raw.Thread t → ⊥) → is_of a_thread x ≡ false) (λ h. refl) (λ m h. refl) (λ t h. refl) (λ t h. refl) (λ a c h. refl) (λ h. refl) (λ a h. refl) (λ a h. refl) (λ a h. refl) (λ vs h. refl) (λ vs a c h. refl) (λ m h. refl) (λ m h. absurd (h m refl)) (λ e h. refl) (λ m h. refl) (λ m h. refl)

pub not_exn : (v : Value) → ((t : Exn) → v ≡ raw.Exn t → ⊥) → is_of an_exception (value_of v) ≡ false
not_exn = forms (λ w x. ((t : Exn) → w ≡ raw.Exn t → ⊥) → is_of an_exception x ≡ false) (λ h. refl) (λ m h. refl) (λ t h. refl) (λ t h. refl) (λ a c h. refl) (λ h. refl) (λ a h. refl) (λ a h. refl) (λ a h. refl) (λ vs h. refl) (λ vs a c h. refl) (λ m h. refl) (λ m h. refl) (λ e h. absurd (h e refl)) (λ m h. refl) (λ m h. refl)

pub not_instance : (v : Value) → ((t : ℕ) → v ≡ raw.Inst t → ⊥) → is_of an_instance (value_of v) ≡ false
not_instance = forms (λ w x. ((t : ℕ) → w ≡ raw.Inst t → ⊥) → is_of an_instance x ≡ false) (λ h. refl) (λ m h. refl) (λ t h. refl) (λ t h. refl) (λ a c h. refl) (λ h. refl) (λ a h. refl) (λ a h. refl) (λ a h. refl) (λ vs h. refl) (λ vs a c h. refl) (λ m h. refl) (λ m h. refl) (λ e h. refl) (λ m h. refl) (λ m h. absurd (h m refl))

-- ---- values that aren't of their kinds

none_of : (b : Bool) → cond b false false ≡ false
none_of true = refl
none_of false = refl

pub one_other : (k : Kind) (v : V) → is_of k v ≡ false → are_of (k ∷ []) (v ∷ []) ≡ false
one_other k v n = ap (λ b. cond b true false) n

pub first_other : (k j : Kind) (v w : V) → is_of k v ≡ false → are_of (k ∷ j ∷ []) (v ∷ w ∷ []) ≡ false
first_other k j v w n = ap (λ b. cond b (are_of (j ∷ []) (w ∷ [])) false) n

pub second_other : (k j : Kind) (v w : V) → is_of j w ≡ false → are_of (k ∷ j ∷ []) (v ∷ w ∷ []) ≡ false
second_other k j v w n = ap (λ b. cond (is_of k v) (cond b true false) false) n ∙ none_of (is_of k v)

pub ruleset two_others = (first_other, second_other)

-- ---- values that aren't as many as a primitive takes

wrong_count : (ks : List Kind) (us : List V) → (length us ≡ length ks → ⊥) → are_of ks us ≡ false
wrong_count [] [] n = absurd (n refl)
wrong_count [] (u ∷ us) n = refl
wrong_count (k ∷ ks) [] n = refl
wrong_count (k ∷ ks) (u ∷ us) n = ap (λ b. cond (is_of k u) b false) (wrong_count ks us (λ e. n (ap suc e))) ∙ none_of (is_of k u)

-- a primitive that takes no one value
pub not_one : (q : Primitive) (v : V) → (q ≡ PutStr → ⊥) → (q ≡ PutStrLn → ⊥) → (q ≡ HPutStrLn → ⊥) → (q ≡ NewMVar → ⊥) → (q ≡ TakeMVar → ⊥) → (q ≡ ReadMVar → ⊥) → (q ≡ TryTakeMVar → ⊥) → (q ≡ ThreadDelay → ⊥) → (q ≡ Release → ⊥) → AreOthers q (v ∷ [])
not_one PutStr v n0 n1 n2 n3 n4 n5 n6 n7 n8 = absurd (n0 refl)
not_one PutStrLn v n0 n1 n2 n3 n4 n5 n6 n7 n8 = absurd (n1 refl)
not_one HPutStrLn v n0 n1 n2 n3 n4 n5 n6 n7 n8 = absurd (n2 refl)
not_one NewMVar v n0 n1 n2 n3 n4 n5 n6 n7 n8 = absurd (n3 refl)
not_one TakeMVar v n0 n1 n2 n3 n4 n5 n6 n7 n8 = absurd (n4 refl)
not_one ReadMVar v n0 n1 n2 n3 n4 n5 n6 n7 n8 = absurd (n5 refl)
not_one TryTakeMVar v n0 n1 n2 n3 n4 n5 n6 n7 n8 = absurd (n6 refl)
not_one ThreadDelay v n0 n1 n2 n3 n4 n5 n6 n7 n8 = absurd (n7 refl)
not_one Release v n0 n1 n2 n3 n4 n5 n6 n7 n8 = absurd (n8 refl)
not_one q v n0 n1 n2 n3 n4 n5 n6 n7 n8 = wrong_count (kinds_of q) (v ∷ []) (λ e. omega (arith, e))

-- a primitive that takes no two values
pub not_two : (q : Primitive) (v w : V) → (q ≡ PutMVar → ⊥) → (q ≡ TryPutMVar → ⊥) → (q ≡ ThrowTo → ⊥) → AreOthers q (v ∷ w ∷ [])
not_two PutMVar v w n0 n1 n2 = absurd (n0 refl)
not_two TryPutMVar v w n0 n1 n2 = absurd (n1 refl)
not_two ThrowTo v w n0 n1 n2 = absurd (n2 refl)
not_two q v w n0 n1 n2 = wrong_count (kinds_of q) (v ∷ w ∷ []) (λ e. omega (arith, e))

two_at_most : (q : Primitive) → length (kinds_of q) ≤ 2
two_at_most PutMVar = omega arith
two_at_most q = omega arith

as_many : (vs : List Value) → length (values_of vs) ≡ length vs
as_many [] = refl
as_many (v ∷ vs) = let e = as_many vs in omega (arith, e)

none_longer : (xs : List Value) → (xs ≡ [] → ⊥) → 0 < length xs
none_longer [] n = absurd (n refl)
none_longer (x ∷ xs) n = omega arith

more_than_two : (q : Primitive) (vs : List Value) → 2 < length vs → AreOthers q (values_of vs)
more_than_two q vs l = wrong_count (kinds_of q) (values_of vs) (λ e. let m = two_at_most q in let n = as_many vs in omega (arith, m, e, n, l))

-- values from which two were taken, and some are left
pub some_left : (q : Primitive) (vs ms rest : List Value) (last first : Option Value) → MatchOption last ((vs ≡ []) × (ms ≡ [])) (λ x. vs ≡ ms ++ x ∷ []) → MatchOption first ((ms ≡ []) × (rest ≡ [])) (λ x. ms ≡ rest ++ x ∷ [])
    → (rest ≡ [] → ⊥) → AreOthers q (values_of vs)
some_left q vs ms rest last None h g n = absurd (n g.1)
some_left q vs ms rest None (Some y) h g n =
    let e = ap length (sym h.1 ∙ g) in let a = length-append rest (y ∷ []) in absurd (omega (arith, e, a))
some_left q vs ms rest (Some x) (Some y) h g n =
    let e = ap length h in let a = length-append ms (x ∷ []) in let d = ap length g in let b = length-append rest (y ∷ []) in let l = none_longer rest n in
    more_than_two q vs (omega (arith, e, a, d, b, l))

-- ---- values of the types that a primitive takes are of its kinds

text_is : (v : V) → of_text v → is_of a_text v ≡ true
text_is (val.Text t) h = refl
text_is _ h = absurd h

number_is : (v : V) → of_int v → is_of a_number v ≡ true
number_is (val.Int n) h = refl
number_is _ h = absurd h

cell_is : (v : V) → of_cell (λ m. Unit {0}) v → is_of a_cell v ≡ true
cell_is (val.Cell m) h = refl
cell_is _ h = absurd h

thread_is : (v : V) → of_thread (λ m. Unit {0}) v → is_of a_thread v ≡ true
thread_is (val.Thread m) h = refl
thread_is _ h = absurd h

exn_is : (v : V) → of_exn v → is_of an_exception v ≡ true
exn_is (val.Exception e) h = refl
exn_is _ h = absurd h

instance_is : (v : V) → of_instance v → is_of an_instance v ≡ true
instance_is (val.Inst i) h = refl
instance_is _ h = absurd h

-- one value of its kind, or two
alone : {b : Bool} → b ≡ true → cond b true false ≡ true
alone e = ap (λ b. cond b true false) e

both : {b c : Bool} → b ≡ true → c ≡ true → cond b (cond c true false) false ≡ true
both e f = ap₂ (λ b c. cond b (cond c true false) false) e f

are_typed : {q : Primitive} {ks : List Sort} {k : Sort} {us : List V} → Asks q ks k → AllOfSorts any_cell ks us → are_of (kinds_of q) us ≡ true
are_typed asks_put_str (one_value h no_values) = alone (text_is _ h)
are_typed asks_put_str_ln (one_value h no_values) = alone (text_is _ h)
are_typed asks_h_put_str_ln (one_value h no_values) = alone (text_is _ h)
are_typed asks_new (one_value h no_values) = refl
are_typed asks_new_empty no_values = refl
are_typed asks_take (one_value h no_values) = alone (cell_is _ h)
are_typed asks_put (one_value h (one_value g no_values)) = both (cell_is _ h) refl
are_typed asks_put_end (one_value h (one_value g no_values)) = both (cell_is _ h) refl
are_typed asks_read (one_value h no_values) = alone (cell_is _ h)
are_typed asks_read_end (one_value h no_values) = alone (cell_is _ h)
are_typed asks_try_take (one_value h no_values) = alone (cell_is _ h)
are_typed asks_try_put (one_value h (one_value g no_values)) = both (cell_is _ h) refl
are_typed asks_delay (one_value h no_values) = alone (number_is _ h)
are_typed asks_throw_to (one_value h (one_value g no_values)) = both (thread_is _ h) (exn_is _ g)
are_typed asks_release (one_value h no_values) = alone (instance_is _ h)
are_typed _ no_values = refl

pub others_unfit : (q : Primitive) (us : List V) → AreOthers q us → Unfit q us
others_unfit q us n ks k a h = let e : false ≡ true = sym n ∙ are_typed a h in cc e
