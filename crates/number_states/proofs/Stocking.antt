-- Numbers that the tables of values, exceptions and texts gave.
use Rattle.std.proofs.Common.{◌≡◌, ℕ, List, [], ◌++◌, Some, slice_get, map, ap, ◌∙◌}
use Rattle.hs_base.specs.declared.exn.Exn.{Exn}
use Rattle.hs_base.specs.declared.value.Value.{Value}
use Rattle.rules_meaning.specs.Values.{Text, value_of}
use Rattle.number_tables.specs.value_keys.Keys.{value_key, exn_key}
use Rattle.number_tables.proofs.value_keys_lemmas.Exact.{exact_exn}
use Rattle.number_tables.specs.Tables.{Grows, IsNumberOf}
use Rattle.term_graph.specs.tables.Numbered.{Numbered}
use Rattle.term_graph.proofs.tables_lemmas.Exact.{whole_value}
use Rattle.term_graph.proofs.Growth.{grows_same, grown_same}
use Rattle.number_states.specs.declared.held.HeldValue.{HeldValue}
use Rattle.number_states.specs.declared.held.HeldExn.{HeldExn}
use Rattle.number_states.specs.declared.held.HeldText.{HeldText}
use Rattle.number_states.specs.Stocks.{stock, HasGrown, IsValue}
use Rattle.number_states.proofs.Changes.{got_mapped}

pub value_number : (t : Numbered) (hs : List HeldValue) (es : List Exn) (ts : List (List ℕ)) (n : ℕ) (v : Value) → IsNumberOf (λ (h : HeldValue). value_key (value_of h.value)) hs n (record { value = v })
    → IsValue (stock t (map (λ (h : HeldValue). h.value) hs) es ts) n (value_of v)
value_number t hs es ts n v is = (is.0.value, got_mapped (λ (h : HeldValue). h.value) hs n is.0 is.1, whole_value (value_of is.0.value) (value_of v) is.2)

pub exception_number : (hs : List HeldExn) (n : ℕ) (e : Exn) → IsNumberOf (λ (h : HeldExn). exn_key h.exn) hs n (record { exn = e }) → slice_get (map (λ (h : HeldExn). h.exn) hs) n ≡ Some e
exception_number hs n e is =
    got_mapped (λ (h : HeldExn). h.exn) hs n is.0 is.1 ∙ ap (λ x. Some x) (exact_exn is.0.exn e [] [] (ap (λ k. k ++ []) is.2)).0

pub text_number : (hs : List HeldText) (n : ℕ) (t : List ℕ) → IsNumberOf (λ (h : HeldText). value_key (Text h.text)) hs n (record { text = t }) → slice_get (map (λ (h : HeldText). h.text) hs) n ≡ Some t
text_number hs n t is =
    let same : Text is.0.text ≡ Text t = whole_value (Text is.0.text) (Text t) is.2 in
    let is_text : is.0.text ≡ t = cc same in
    got_mapped (λ (h : HeldText). h.text) hs n is.0 is.1 ∙ ap (λ x. Some x) is_text

pub grown_values : (t : Numbered) (vs ws : List Value) (es : List Exn) (ts : List (List ℕ)) → Grows vs ws → HasGrown (stock t vs es ts) (stock t ws es ts)
grown_values t vs ws es ts g = record { terms = grown_same t; values = g; exceptions = grows_same es; texts = grows_same ts }

pub grown_exceptions : (t : Numbered) (vs : List Value) (es fs : List Exn) (ts : List (List ℕ)) → Grows es fs → HasGrown (stock t vs es ts) (stock t vs fs ts)
grown_exceptions t vs es fs ts g = record { terms = grown_same t; values = grows_same vs; exceptions = g; texts = grows_same ts }

pub grown_texts : (t : Numbered) (vs : List Value) (es : List Exn) (ts us : List (List ℕ)) → Grows ts us → HasGrown (stock t vs es ts) (stock t vs es us)
grown_texts t vs es ts us g = record { terms = grown_same t; values = grows_same vs; exceptions = grows_same es; texts = g }
