-- What a Finish makes.
use Rattle.std.proofs.Common.{◌≡◌, ℕ, ◌+◌, false, cond, List, [], ◌∷◌, ◌++◌, Some, None, length, slice_get, refl, sym, ap, ap₂, ◌∙◌, subst, add-zero, arith}
use Rattle.std.proofs.lemmas.List.{append-nil}
use Rattle.std.proofs.lemmas.Option.{slice_get_within}
use Rattle.hs_base.specs.declared.exn.Exn.{Exn}
use Rattle.hs_base.specs.declared.value.Value.{Value}
use Rattle.hs_rules.specs.declared.entry.Entry.TheVariants as entry
use Rattle.hs_rules.specs.Entries.{throwers}
use Rattle.rules_meaning.specs.Values.{UnitValue}
use Rattle.rules_waiting.specs.Waiting.{flying_to}
use Rattle.rules_code.specs.declared.code.CodeBody.{CodeBody}
use Rattle.slot_laws.specs.SlotRules.{SlotPart, SlotFrame, ret}
use Rattle.local_steps.specs.declared.active.Active.{Active}
use Rattle.local_steps.specs.declared.active.Active.TheVariants as a
use Rattle.local_steps.specs.Machine.{active_of, funs_of}
use Rattle.slot_states.specs.SlotStates.{SlotState, all_resumed, all_withdrawn, finished_at, finishes}
use Rattle.slot_states.specs.Printing.{end_line, line_by}
use Rattle.slot_states.specs.entering.Entering.{entered, ended, finish_entry}
use Rattle.number_states.specs.declared.waits.flight.Thrown.{Thrown}
use Rattle.number_states.specs.waits.Throwing.{thrown_to, throwers_of, map_flight}
use Rattle.number_states.proofs.waits_lemmas.Without.{flight_throwers, flight_to}
use Rattle.number_states.specs.declared.state.NumberThread.{NumberThread}
use Rattle.number_states.specs.declared.state.NumberState.{NumberState}
use Rattle.number_states.specs.Stocks.{Stock, HasGrown, term_at, text_at, or_empty}
use Rattle.number_states.specs.States.{Contents, contents, thread_of, slots_of, slots, AllIn, AreIn, Becomes}
use Rattle.number_states.proofs.Growth.{stock_on, slots_of_on, all_in_on, text_at_on}
use Rattle.number_states.proofs.Changes.{got_mapped}
use Rattle.number_changes.specs.Moves.{Makes, IsActing}
use Rattle.number_changes.proofs.Made.{on_acting}

-- each of these throwers is answered, and its throw is over
abbrev pub throwers_end : List ℕ → CodeBody → SlotState → SlotState
throwers_end ts b s = record s { threads = all_resumed ts (ret UnitValue) s.threads; flight = all_withdrawn ts s.flight }

pub throwers_are : (f : ℕ → Exn) (t : ℕ) (xs : List Thrown) → throwers_of (thrown_to t xs) ≡ throwers (flying_to t (map_flight f xs))
throwers_are f t xs = flight_throwers f (thrown_to t xs) ∙ ap throwers (flight_to f t xs)

pub finishes_so : (t : ℕ) (b : CodeBody) (s : SlotState) (us : List ℕ) → us ≡ throwers (flying_to t s.flight) → throwers_end us b (record s { threads = finished_at t s.threads }) ≡ finishes t 0 s
finishes_so t b s us e =
    ap (λ vs. record s { threads = all_resumed vs (ret UnitValue) (finished_at t s.threads); flight = all_withdrawn vs s.flight }) e
    ∙ ap (λ n. let z = finishes t 0 s in record z { printed = n }) (sym (add-zero s.printed))

-- a line is printed
pub line_makes : (b : CodeBody) (g h i : Stock) (x fin y : NumberState) (t : ℕ) (line : List ℕ) (m n : ℕ) → AreIn g x → HasGrown g h → HasGrown h i → Becomes (λ b. finishes t 0) g x h fin
    → contents y ≡ (let c = contents fin in record c { printed = m; errors = n }) → m ≡ fin.printed + length line → slice_get i.texts n ≡ Some (text_at h fin.errors ++ line)
    → Makes (λ s. Some (finishes t (length line) s)) b g x [] line i y
line_makes b g h i x fin y t line m n all grown more p e count text =
    let s = slots g b x in
    let c = contents fin in
    let d : Contents = record c { printed = m; errors = n } in
    let in_i = all_in_on h i more c p.there in
    let in_d : AllIn i d = record {
      threads = in_i.threads;
      cells = in_i.cells;
      flight = in_i.flight;
      output = in_i.output;
      errors = slice_get_within i.texts n (text_at h fin.errors ++ line) text;
    } in
    let before : slots i b fin ≡ finishes t 0 s = slots_of_on h i more b c p.there ∙ p.is b in
    let none : fin.printed ≡ s.printed + 0 = ap (λ (z : SlotState). z.printed) (p.is b) in
    let total : s.printed + length line ≡ m = omega (arith, none, count) in
    let out = stock_on g h i grown more in
    record {
      is = ap (λ z. Some z) (ap (λ k. let z = finishes t 0 s in record z { printed = k }) total ∙ ap (λ (z : SlotState). record z { printed = m }) (sym before) ∙ ap (slots_of i b) (sym e));
      there = subst (AllIn i) (sym e) in_d;
      output = ap (text_at i) (ap (λ (z : Contents). z.output) e ∙ p.output) ∙ text_at_on g i out x.output all.output ∙ sym (append-nil (text_at g x.output));
      errors = ap (text_at i) (ap (λ (z : Contents). z.errors) e) ∙ ap or_empty text ∙ ap (λ z. z ++ line) (ap (text_at h) p.errors ∙ text_at_on g h grown x.errors all.errors);
    }

-- ---- where it is legal

none_long : (fs : List SlotFrame) → 0 ≡ length fs → fs ≡ []
none_long [] e = refl
none_long (f ∷ fs) e = absurd (omega (arith, e))

pub bare_frames : (fs : List SlotFrame) (n : ℕ) → n ≡ length fs → n ≡ 0 → fs ≡ []
bare_frames fs n e z = none_long fs (sym z ∙ e)

ended_not : (b : CodeBody) (p : Active) (t : ℕ) (x : SlotState) → ((v : Value) → p ≡ a.Ret v → ⊥) → ((e : Exn) → p ≡ a.Throw e → ⊥) → ended t [] (active_of b p) x ≡ None
ended_not b (a.Ret v) t x r h = absurd (r v refl)
ended_not b (a.Throw e) t x r h = absurd (h e refl)
ended_not b (a.Doing i vs) t x r h = refl
ended_not b (a.Asks q vs) t x r h = refl
ended_not b (a.Forks i vs) t x r h = refl
ended_not b (a.ForksUnmask i vs) t x r h = refl

module _ (b : CodeBody) (g : Stock) (x : NumberState) (t : ℕ) (th : NumberThread) (acts : IsActing x t th) (free : th.blocked ≡ false) (bare : (term_at g b th.term).frames ≡ []) where
  entry_is : (p : SlotPart) → (term_at g b th.term).part ≡ p → entered (funs_of b) (slots g b x) (entry.Finish t) ≡ ended t [] p (slots g b x)
  entry_is p e =
      on_acting g b x t th (λ u. finish_entry t u (slots g b x)) acts
      ∙ ap (λ z. cond z None (ended t (term_at g b th.term).frames (term_at g b th.term).part (slots g b x))) free
      ∙ ap₂ (λ fs q. ended t fs q (slots g b x)) bare e

  pub finishes_none : (p : Active) → active_of b p ≡ (term_at g b th.term).part → ((v : Value) → p ≡ a.Ret v → ⊥) → ((e : Exn) → p ≡ a.Throw e → ⊥) → entered (funs_of b) (slots g b x) (entry.Finish t) ≡ None
  finishes_none p e r h = entry_is (active_of b p) (sym e) ∙ ended_not b p t (slots g b x) r h

  pub finish_found : (h : Stock) (y : NumberState) (line : List ℕ) (p : SlotPart) → (term_at g b th.term).part ≡ p → ended t [] p (slots g b x) ≡ Some (finishes t (length line) (slots g b x)) → line_by t p ≡ line
      → Makes (λ s. Some (finishes t (length line) s)) b g x [] line h y → Makes (λ s. entered (funs_of b) s (entry.Finish t)) b g x [] (end_line t (slice_get (slots g b x).threads t)) h y
  finish_found h y line p e is says m =
      let said : end_line t (slice_get (slots g b x).threads t) ≡ line = ap (end_line t) (got_mapped (thread_of g b) x.threads.items t th acts.is) ∙ ap (line_by t) e ∙ says in
      record {
        is = entry_is p e ∙ is ∙ m.is;
        there = m.there;
        output = m.output;
        errors = m.errors ∙ ap (λ z. text_at g x.errors ++ z) (sym said);
      }
