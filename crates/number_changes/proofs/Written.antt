-- What is printed.
use Rattle.std.proofs.Common.{◌≡◌, ℕ, zero, suc, ◌+◌, ◌<◌, List, [], ◌∷◌, ◌++◌, Some, Result, Ok, Err, OnOk, length, slice_get, refl, sym, ap, ◌∙◌, subst, arith, length-append}
use Rattle.std.proofs.lemmas.Option.{slice_get_within}
use Rattle.std.proofs.lemmas.List.{append-nil}
use Rattle.rules_meaning.specs.Values.{V, UnitValue}
use Rattle.rules_code.specs.declared.code.CodeBody.{CodeBody}
use Rattle.hs_rules.specs.Primitives.{line_feed}
use Rattle.slot_states.specs.SlotStates.{SlotState, answer, prints}
use Rattle.number_states.specs.declared.state.NumberState.{NumberState}
use Rattle.number_states.specs.Stocks.{Stock, HasGrown, or_empty, text_at}
use Rattle.number_states.specs.States.{Contents, contents, slots_of, slots, AllIn, AreIn, Becomes}
use Rattle.number_states.proofs.Growth.{slots_of_on, all_in_on, text_at_on, there_on}
use Rattle.number_changes.specs.Moves.{Makes}

pub on_ok : {A B : Type 0} (P Q : Type 0) → (P → Q) → (r : Result A B) → OnOk r P → OnOk r Q
on_ok P Q k (Ok x) p = k p
on_ok P Q k (Err y) p = p

some_text : (xs : List (List ℕ)) (n : ℕ) → n < length xs → slice_get xs n ≡ Some (or_empty (slice_get xs n))
some_text [] n small = absurd (omega arith)
some_text (x ∷ xs) zero small = refl
some_text (x ∷ xs) (suc n) small = some_text xs n (omega arith)

-- a text that nothing is put behind
pub kept_text : (g h : Stock) (n : ℕ) → HasGrown g h → n < length g.texts → slice_get h.texts n ≡ Some (text_at g n ++ [])
kept_text g h n grown small = there_on g.texts h.texts n grown.texts small ∙ some_text g.texts n small ∙ ap (λ t. Some t) (sym (append-nil (text_at g n)))

-- other texts, and another number of bytes
abbrev pub written : ℕ → ℕ → ℕ → Contents → Contents
written n o r c = record c { printed = n; output = o; errors = r }

module _ (g h : Stock) (grown : HasGrown g h) (x : NumberState) (all : AreIn g x) (o r : ℕ) (more_out more_err : List ℕ)
    (out : slice_get h.texts o ≡ Some (text_at g x.output ++ more_out)) (err : slice_get h.texts r ≡ Some (text_at g x.errors ++ more_err)) where
  pub written_in : (n : ℕ) → AllIn h (written n o r (contents x))
  written_in n =
      let c = all_in_on g h grown (contents x) all in
      record {
        threads = c.threads;
        cells = c.cells;
        flight = c.flight;
        output = slice_get_within h.texts o _ out;
        errors = slice_get_within h.texts r _ err;
      }

  written_slots : (b : CodeBody) (n : ℕ) → slots_of h b (written n o r (contents x)) ≡ record (slots g b x) { printed = n }
  written_slots b n = ap (λ (s : SlotState). record s { printed = n }) (slots_of_on g h grown b (contents x) all)

  pub prints_made : (i : Stock) (u y : NumberState) (t n : ℕ) (v : V) → v ≡ UnitValue → HasGrown h i → contents u ≡ written (x.printed + n) o r (contents x) → Becomes (λ b. answer t v) h u i y → (b : CodeBody) → Makes (λ s. Some (prints t n s)) b g x more_out more_err i y
  prints_made i u y t n v unit later same p b =
      let all_h = written_in (x.printed + n) in
      record {
        is = sym (ap (λ s. Some s) (p.is b ∙ ap (λ z. answer t z (slots h b u)) unit ∙ ap (λ c. answer t UnitValue (slots_of h b c)) same ∙ ap (answer t UnitValue) (written_slots b (x.printed + n))));
        there = p.there;
        output = ap (text_at i) (p.output ∙ ap (λ (c : Contents). c.output) same) ∙ text_at_on h i later o all_h.output ∙ ap or_empty out;
        errors = ap (text_at i) (p.errors ∙ ap (λ (c : Contents). c.errors) same) ∙ text_at_on h i later r all_h.errors ∙ ap or_empty err;
      }

-- what is so of a line and its length is so of a text and a line feed
pub line_of : (P : ℕ → List ℕ → Type 0) (line text : List ℕ) → line ≡ text ++ line_feed → P (length line) line → P (length text + 1) (text ++ line_feed)
line_of P line text e h = subst (λ n. P n (text ++ line_feed)) (length-append text line_feed) (subst (λ l. P (length l) l) e h)
