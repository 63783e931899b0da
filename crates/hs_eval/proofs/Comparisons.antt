-- What two values give where a comparison hasn't the form that is asked for.
use Rattle.std.proofs.Common.{◌≡◌, ℕ, ℤ, Bool, List, None, refl, ap}
use Rattle.hs_base.specs.declared.exn.Exn.{Exn}
use Rattle.hs_base.specs.declared.value.Value.{Value}
use Rattle.hs_base.specs.declared.value.Value.TheVariants as raw
use Rattle.rules_meaning.specs.Values.{V, Int, Truth, Text, Thread, Exception, value_of}
use Rattle.rules_meaning.specs.Meaning.{same_value, order_of, shown}
use Rattle.rules_meaning.proofs.Values.{value_of-Pair, value_of-Just, value_of-Left, value_of-Right}
use Rattle.hs_base.specs.declared.value.ValueList.{ValueList}
use Rattle.hs_eval.proofs.Cases.{by_form, of_list, value_of-Unit, value_of-Int, value_of-Bool, value_of-Text, value_of-Nothing, value_of-Cell, value_of-Thread, value_of-Exn, value_of-Restore, value_of-Inst}

no_order_list : (u : V) → (vs : ValueList) → order_of (value_of (raw.List vs)) u ≡ None
no_order_list u vs = of_list (λ z. order_of z u) None refl (λ a c. refl) vs

pub no_order : (v : Value) → ((m : ℤ) → v ≡ (raw.Int m) → ⊥) → ((t : List ℕ) → v ≡ (raw.Text t) → ⊥) → (u : V) → order_of (value_of v) u ≡ None
no_order v h0 h1 u = by_form (λ w. ((m : ℤ) → w ≡ (raw.Int m) → ⊥) → ((t : List ℕ) → w ≡ (raw.Text t) → ⊥) → order_of (value_of w) u ≡ None)
    (λ h0 h1. ap (λ z. order_of z u) value_of-Unit) (λ m h0 h1. absurd (h0 m refl)) (λ t h0 h1. ap (λ z. order_of z u) (value_of-Bool t)) (λ t h0 h1. absurd (h1 t refl)) (λ a c h0 h1. ap (λ z. order_of z u) (value_of-Pair a c)) (λ h0 h1. ap (λ z. order_of z u) value_of-Nothing) (λ a h0 h1. ap (λ z. order_of z u) (value_of-Just a)) (λ a h0 h1. ap (λ z. order_of z u) (value_of-Left a)) (λ a h0 h1. ap (λ z. order_of z u) (value_of-Right a)) (λ vs h0 h1. no_order_list u vs) (λ m h0 h1. ap (λ z. order_of z u) (value_of-Cell m)) (λ m h0 h1. ap (λ z. order_of z u) (value_of-Thread m)) (λ e h0 h1. ap (λ z. order_of z u) (value_of-Exn e)) (λ m h0 h1. ap (λ z. order_of z u) (value_of-Restore m)) (λ m h0 h1. ap (λ z. order_of z u) (value_of-Inst m)) v h0 h1

no_number_order_list : (n : ℤ) → (vs : ValueList) → order_of (Int n) (value_of (raw.List vs)) ≡ None
no_number_order_list n vs = of_list (λ z. order_of (Int n) z) None refl (λ a c. refl) vs

pub no_number_order : (v : Value) → ((m : ℤ) → v ≡ (raw.Int m) → ⊥) → (n : ℤ) → order_of (Int n) (value_of v) ≡ None
no_number_order v h0 n = by_form (λ w. ((m : ℤ) → w ≡ (raw.Int m) → ⊥) → order_of (Int n) (value_of w) ≡ None)
    (λ h0. ap (λ z. order_of (Int n) z) value_of-Unit) (λ m h0. absurd (h0 m refl)) (λ t h0. ap (λ z. order_of (Int n) z) (value_of-Bool t)) (λ t h0. ap (λ z. order_of (Int n) z) (value_of-Text t)) (λ a c h0. ap (λ z. order_of (Int n) z) (value_of-Pair a c)) (λ h0. ap (λ z. order_of (Int n) z) value_of-Nothing) (λ a h0. ap (λ z. order_of (Int n) z) (value_of-Just a)) (λ a h0. ap (λ z. order_of (Int n) z) (value_of-Left a)) (λ a h0. ap (λ z. order_of (Int n) z) (value_of-Right a)) (λ vs h0. no_number_order_list n vs) (λ m h0. ap (λ z. order_of (Int n) z) (value_of-Cell m)) (λ m h0. ap (λ z. order_of (Int n) z) (value_of-Thread m)) (λ e h0. ap (λ z. order_of (Int n) z) (value_of-Exn e)) (λ m h0. ap (λ z. order_of (Int n) z) (value_of-Restore m)) (λ m h0. ap (λ z. order_of (Int n) z) (value_of-Inst m)) v h0

no_text_order_list : (s : List ℕ) → (vs : ValueList) → order_of (Text s) (value_of (raw.List vs)) ≡ None
no_text_order_list s vs = of_list (λ z. order_of (Text s) z) None refl (λ a c. refl) vs

pub no_text_order : (v : Value) → ((t : List ℕ) → v ≡ (raw.Text t) → ⊥) → (s : List ℕ) → order_of (Text s) (value_of v) ≡ None
no_text_order v h0 s = by_form (λ w. ((t : List ℕ) → w ≡ (raw.Text t) → ⊥) → order_of (Text s) (value_of w) ≡ None)
    (λ h0. ap (λ z. order_of (Text s) z) value_of-Unit) (λ m h0. ap (λ z. order_of (Text s) z) (value_of-Int m)) (λ t h0. ap (λ z. order_of (Text s) z) (value_of-Bool t)) (λ t h0. absurd (h0 t refl)) (λ a c h0. ap (λ z. order_of (Text s) z) (value_of-Pair a c)) (λ h0. ap (λ z. order_of (Text s) z) value_of-Nothing) (λ a h0. ap (λ z. order_of (Text s) z) (value_of-Just a)) (λ a h0. ap (λ z. order_of (Text s) z) (value_of-Left a)) (λ a h0. ap (λ z. order_of (Text s) z) (value_of-Right a)) (λ vs h0. no_text_order_list s vs) (λ m h0. ap (λ z. order_of (Text s) z) (value_of-Cell m)) (λ m h0. ap (λ z. order_of (Text s) z) (value_of-Thread m)) (λ e h0. ap (λ z. order_of (Text s) z) (value_of-Exn e)) (λ m h0. ap (λ z. order_of (Text s) z) (value_of-Restore m)) (λ m h0. ap (λ z. order_of (Text s) z) (value_of-Inst m)) v h0

not_same_list : (u : V) → (vs : ValueList) → same_value (value_of (raw.List vs)) u ≡ None
not_same_list u vs = of_list (λ z. same_value z u) None refl (λ a c. refl) vs

pub not_same : (v : Value) → ((m : ℤ) → v ≡ (raw.Int m) → ⊥) → ((t : Bool) → v ≡ (raw.Bool t) → ⊥) → ((t : List ℕ) → v ≡ (raw.Text t) → ⊥) → ((m : ℕ) → v ≡ (raw.Thread m) → ⊥) → ((e : Exn) → v ≡ (raw.Exn e) → ⊥) → (u : V) → same_value (value_of v) u ≡ None
not_same v h0 h1 h2 h3 h4 u = by_form (λ w. ((m : ℤ) → w ≡ (raw.Int m) → ⊥) → ((t : Bool) → w ≡ (raw.Bool t) → ⊥) → ((t : List ℕ) → w ≡ (raw.Text t) → ⊥) → ((m : ℕ) → w ≡ (raw.Thread m) → ⊥) → ((e : Exn) → w ≡ (raw.Exn e) → ⊥) → same_value (value_of w) u ≡ None)
    (λ h0 h1 h2 h3 h4. ap (λ z. same_value z u) value_of-Unit) (λ m h0 h1 h2 h3 h4. absurd (h0 m refl)) (λ t h0 h1 h2 h3 h4. absurd (h1 t refl)) (λ t h0 h1 h2 h3 h4. absurd (h2 t refl)) (λ a c h0 h1 h2 h3 h4. ap (λ z. same_value z u) (value_of-Pair a c)) (λ h0 h1 h2 h3 h4. ap (λ z. same_value z u) value_of-Nothing) (λ a h0 h1 h2 h3 h4. ap (λ z. same_value z u) (value_of-Just a)) (λ a h0 h1 h2 h3 h4. ap (λ z. same_value z u) (value_of-Left a)) (λ a h0 h1 h2 h3 h4. ap (λ z. same_value z u) (value_of-Right a)) (λ vs h0 h1 h2 h3 h4. not_same_list u vs) (λ m h0 h1 h2 h3 h4. ap (λ z. same_value z u) (value_of-Cell m)) (λ m h0 h1 h2 h3 h4. absurd (h3 m refl)) (λ e h0 h1 h2 h3 h4. absurd (h4 e refl)) (λ m h0 h1 h2 h3 h4. ap (λ z. same_value z u) (value_of-Restore m)) (λ m h0 h1 h2 h3 h4. ap (λ z. same_value z u) (value_of-Inst m)) v h0 h1 h2 h3 h4

not_same_number_list : (n : ℤ) → (vs : ValueList) → same_value (Int n) (value_of (raw.List vs)) ≡ None
not_same_number_list n vs = of_list (λ z. same_value (Int n) z) None refl (λ a c. refl) vs

pub not_same_number : (v : Value) → ((m : ℤ) → v ≡ (raw.Int m) → ⊥) → (n : ℤ) → same_value (Int n) (value_of v) ≡ None
not_same_number v h0 n = by_form (λ w. ((m : ℤ) → w ≡ (raw.Int m) → ⊥) → same_value (Int n) (value_of w) ≡ None)
    (λ h0. ap (λ z. same_value (Int n) z) value_of-Unit) (λ m h0. absurd (h0 m refl)) (λ t h0. ap (λ z. same_value (Int n) z) (value_of-Bool t)) (λ t h0. ap (λ z. same_value (Int n) z) (value_of-Text t)) (λ a c h0. ap (λ z. same_value (Int n) z) (value_of-Pair a c)) (λ h0. ap (λ z. same_value (Int n) z) value_of-Nothing) (λ a h0. ap (λ z. same_value (Int n) z) (value_of-Just a)) (λ a h0. ap (λ z. same_value (Int n) z) (value_of-Left a)) (λ a h0. ap (λ z. same_value (Int n) z) (value_of-Right a)) (λ vs h0. not_same_number_list n vs) (λ m h0. ap (λ z. same_value (Int n) z) (value_of-Cell m)) (λ m h0. ap (λ z. same_value (Int n) z) (value_of-Thread m)) (λ e h0. ap (λ z. same_value (Int n) z) (value_of-Exn e)) (λ m h0. ap (λ z. same_value (Int n) z) (value_of-Restore m)) (λ m h0. ap (λ z. same_value (Int n) z) (value_of-Inst m)) v h0

not_same_truth_list : (s : Bool) → (vs : ValueList) → same_value (Truth s) (value_of (raw.List vs)) ≡ None
not_same_truth_list s vs = of_list (λ z. same_value (Truth s) z) None refl (λ a c. refl) vs

pub not_same_truth : (v : Value) → ((t : Bool) → v ≡ (raw.Bool t) → ⊥) → (s : Bool) → same_value (Truth s) (value_of v) ≡ None
not_same_truth v h0 s = by_form (λ w. ((t : Bool) → w ≡ (raw.Bool t) → ⊥) → same_value (Truth s) (value_of w) ≡ None)
    (λ h0. ap (λ z. same_value (Truth s) z) value_of-Unit) (λ m h0. ap (λ z. same_value (Truth s) z) (value_of-Int m)) (λ t h0. absurd (h0 t refl)) (λ t h0. ap (λ z. same_value (Truth s) z) (value_of-Text t)) (λ a c h0. ap (λ z. same_value (Truth s) z) (value_of-Pair a c)) (λ h0. ap (λ z. same_value (Truth s) z) value_of-Nothing) (λ a h0. ap (λ z. same_value (Truth s) z) (value_of-Just a)) (λ a h0. ap (λ z. same_value (Truth s) z) (value_of-Left a)) (λ a h0. ap (λ z. same_value (Truth s) z) (value_of-Right a)) (λ vs h0. not_same_truth_list s vs) (λ m h0. ap (λ z. same_value (Truth s) z) (value_of-Cell m)) (λ m h0. ap (λ z. same_value (Truth s) z) (value_of-Thread m)) (λ e h0. ap (λ z. same_value (Truth s) z) (value_of-Exn e)) (λ m h0. ap (λ z. same_value (Truth s) z) (value_of-Restore m)) (λ m h0. ap (λ z. same_value (Truth s) z) (value_of-Inst m)) v h0

not_same_text_list : (s : List ℕ) → (vs : ValueList) → same_value (Text s) (value_of (raw.List vs)) ≡ None
not_same_text_list s vs = of_list (λ z. same_value (Text s) z) None refl (λ a c. refl) vs

pub not_same_text : (v : Value) → ((t : List ℕ) → v ≡ (raw.Text t) → ⊥) → (s : List ℕ) → same_value (Text s) (value_of v) ≡ None
not_same_text v h0 s = by_form (λ w. ((t : List ℕ) → w ≡ (raw.Text t) → ⊥) → same_value (Text s) (value_of w) ≡ None)
    (λ h0. ap (λ z. same_value (Text s) z) value_of-Unit) (λ m h0. ap (λ z. same_value (Text s) z) (value_of-Int m)) (λ t h0. ap (λ z. same_value (Text s) z) (value_of-Bool t)) (λ t h0. absurd (h0 t refl)) (λ a c h0. ap (λ z. same_value (Text s) z) (value_of-Pair a c)) (λ h0. ap (λ z. same_value (Text s) z) value_of-Nothing) (λ a h0. ap (λ z. same_value (Text s) z) (value_of-Just a)) (λ a h0. ap (λ z. same_value (Text s) z) (value_of-Left a)) (λ a h0. ap (λ z. same_value (Text s) z) (value_of-Right a)) (λ vs h0. not_same_text_list s vs) (λ m h0. ap (λ z. same_value (Text s) z) (value_of-Cell m)) (λ m h0. ap (λ z. same_value (Text s) z) (value_of-Thread m)) (λ e h0. ap (λ z. same_value (Text s) z) (value_of-Exn e)) (λ m h0. ap (λ z. same_value (Text s) z) (value_of-Restore m)) (λ m h0. ap (λ z. same_value (Text s) z) (value_of-Inst m)) v h0

not_same_thread_list : (n : ℕ) → (vs : ValueList) → same_value (Thread n) (value_of (raw.List vs)) ≡ None
not_same_thread_list n vs = of_list (λ z. same_value (Thread n) z) None refl (λ a c. refl) vs

pub not_same_thread : (v : Value) → ((m : ℕ) → v ≡ (raw.Thread m) → ⊥) → (n : ℕ) → same_value (Thread n) (value_of v) ≡ None
not_same_thread v h0 n = by_form (λ w. ((m : ℕ) → w ≡ (raw.Thread m) → ⊥) → same_value (Thread n) (value_of w) ≡ None)
    (λ h0. ap (λ z. same_value (Thread n) z) value_of-Unit) (λ m h0. ap (λ z. same_value (Thread n) z) (value_of-Int m)) (λ t h0. ap (λ z. same_value (Thread n) z) (value_of-Bool t)) (λ t h0. ap (λ z. same_value (Thread n) z) (value_of-Text t)) (λ a c h0. ap (λ z. same_value (Thread n) z) (value_of-Pair a c)) (λ h0. ap (λ z. same_value (Thread n) z) value_of-Nothing) (λ a h0. ap (λ z. same_value (Thread n) z) (value_of-Just a)) (λ a h0. ap (λ z. same_value (Thread n) z) (value_of-Left a)) (λ a h0. ap (λ z. same_value (Thread n) z) (value_of-Right a)) (λ vs h0. not_same_thread_list n vs) (λ m h0. ap (λ z. same_value (Thread n) z) (value_of-Cell m)) (λ m h0. absurd (h0 m refl)) (λ e h0. ap (λ z. same_value (Thread n) z) (value_of-Exn e)) (λ m h0. ap (λ z. same_value (Thread n) z) (value_of-Restore m)) (λ m h0. ap (λ z. same_value (Thread n) z) (value_of-Inst m)) v h0

not_same_exn_list : (f : Exn) → (vs : ValueList) → same_value (Exception f) (value_of (raw.List vs)) ≡ None
not_same_exn_list f vs = of_list (λ z. same_value (Exception f) z) None refl (λ a c. refl) vs

pub not_same_exn : (v : Value) → ((e : Exn) → v ≡ (raw.Exn e) → ⊥) → (f : Exn) → same_value (Exception f) (value_of v) ≡ None
not_same_exn v h0 f = by_form (λ w. ((e : Exn) → w ≡ (raw.Exn e) → ⊥) → same_value (Exception f) (value_of w) ≡ None)
    (λ h0. ap (λ z. same_value (Exception f) z) value_of-Unit) (λ m h0. ap (λ z. same_value (Exception f) z) (value_of-Int m)) (λ t h0. ap (λ z. same_value (Exception f) z) (value_of-Bool t)) (λ t h0. ap (λ z. same_value (Exception f) z) (value_of-Text t)) (λ a c h0. ap (λ z. same_value (Exception f) z) (value_of-Pair a c)) (λ h0. ap (λ z. same_value (Exception f) z) value_of-Nothing) (λ a h0. ap (λ z. same_value (Exception f) z) (value_of-Just a)) (λ a h0. ap (λ z. same_value (Exception f) z) (value_of-Left a)) (λ a h0. ap (λ z. same_value (Exception f) z) (value_of-Right a)) (λ vs h0. not_same_exn_list f vs) (λ m h0. ap (λ z. same_value (Exception f) z) (value_of-Cell m)) (λ m h0. ap (λ z. same_value (Exception f) z) (value_of-Thread m)) (λ e h0. absurd (h0 e refl)) (λ m h0. ap (λ z. same_value (Exception f) z) (value_of-Restore m)) (λ m h0. ap (λ z. same_value (Exception f) z) (value_of-Inst m)) v h0

not_shown_list : (vs : ValueList) → shown (value_of (raw.List vs)) ≡ None
not_shown_list vs = of_list (λ z. shown z) None refl (λ a c. refl) vs

pub not_shown : (v : Value) → ((m : ℤ) → v ≡ (raw.Int m) → ⊥) → ((t : Bool) → v ≡ (raw.Bool t) → ⊥) → ((m : ℕ) → v ≡ (raw.Thread m) → ⊥) → ((e : Exn) → v ≡ (raw.Exn e) → ⊥) → shown (value_of v) ≡ None
not_shown v h0 h1 h2 h3 = by_form (λ w. ((m : ℤ) → w ≡ (raw.Int m) → ⊥) → ((t : Bool) → w ≡ (raw.Bool t) → ⊥) → ((m : ℕ) → w ≡ (raw.Thread m) → ⊥) → ((e : Exn) → w ≡ (raw.Exn e) → ⊥) → shown (value_of w) ≡ None)
    (λ h0 h1 h2 h3. ap (λ z. shown z) value_of-Unit) (λ m h0 h1 h2 h3. absurd (h0 m refl)) (λ t h0 h1 h2 h3. absurd (h1 t refl)) (λ t h0 h1 h2 h3. ap (λ z. shown z) (value_of-Text t)) (λ a c h0 h1 h2 h3. ap (λ z. shown z) (value_of-Pair a c)) (λ h0 h1 h2 h3. ap (λ z. shown z) value_of-Nothing) (λ a h0 h1 h2 h3. ap (λ z. shown z) (value_of-Just a)) (λ a h0 h1 h2 h3. ap (λ z. shown z) (value_of-Left a)) (λ a h0 h1 h2 h3. ap (λ z. shown z) (value_of-Right a)) (λ vs h0 h1 h2 h3. not_shown_list vs) (λ m h0 h1 h2 h3. ap (λ z. shown z) (value_of-Cell m)) (λ m h0 h1 h2 h3. absurd (h2 m refl)) (λ e h0 h1 h2 h3. absurd (h3 e refl)) (λ m h0 h1 h2 h3. ap (λ z. shown z) (value_of-Restore m)) (λ m h0 h1 h2 h3. ap (λ z. shown z) (value_of-Inst m)) v h0 h1 h2 h3

pub ruleset no_order_rules = (no_order, no_number_order, no_text_order)

pub ruleset not_same_rules = (not_same, not_same_number, not_same_truth, not_same_text, not_same_thread, not_same_exn)
