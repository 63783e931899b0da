-- Where a walk is: before any entry, behind one more, and when the tables have grown.
use Rattle.std.proofs.Common.{◌≡◌, ℕ, true, false, List, [], ◌∷◌, ◌++◌, Some, refl, sym, ◌∙◌, subst, ⊎_elim}
use Rattle.hs_base.specs.declared.tree.script.Script.{Script}
use Rattle.hs_rules.specs.declared.entry.Entry.{Entry}
use Rattle.hs_rules.specs.declared.entry.Entry.TheVariants as entry
use Rattle.hs_rules.specs.Endings.{IsTick}
use Rattle.rules_expansion.specs.trees.Programs.{Fn, script_of}
use Rattle.rules_code.specs.declared.code.CodeBody.{CodeBody}
use Rattle.rules_code.specs.CodeTrees.{code_trees}
use Rattle.hs_laws.specs.ClockLaw.{EndsInTick}
use Rattle.hs_laws.proofs.Ticking.{last_or, clock_begins}
use Rattle.outcome_listing.specs.declared.bounds.Bounds.{Bounds}
use Rattle.slot_states.specs.SlotStates.{SlotState, Represents}
use Rattle.slot_states.specs.Printing.{output_by, errors_by}
use Rattle.slot_states.proofs.AtRest.{first_stands_for}
use Rattle.slot_states.proofs.Printed.{nothing_yet, run_prints}
use Rattle.slot_states.specs.entering.Entering.{next}
use Rattle.local_steps.specs.Machine.{act_of, funs_of}
use Rattle.number_states.specs.Stocks.{Stock, HasGrown, text_at}
use Rattle.number_states.specs.States.{AreIn, contents, slots, first_slots}
use Rattle.number_states.proofs.Growth.{all_in_on, slots_of_on, text_at_on}
use Rattle.search_laws.specs.time.WithoutTime.{ReadsClock}
use Rattle.search_laws.specs.Shown.{Shown, FitsIn}
use Rattle.search_laws.specs.Going.{ReadsTime}
use Rattle.search_laws.proofs.Cited.{reads_named}
use Rattle.state_search.specs.Meaning.{shown}
use Rattle.state_search.specs.Searching.{IsCodeOf}
use Rattle.number_states.specs.declared.state.NumberState.{NumberState}
use Rattle.conc_outcomes.specs.declared.walks.walk.Walk.{Walk}
use Rattle.conc_outcomes.specs.walks.Walking.{IsUnread, LeadsTo}
use Rattle.conc_outcomes.specs.walks.Entering.{IsAt, EntryMay}
use Rattle.conc_outcomes.proofs.walks_lemmas.OneMore.{exactly, run_of, unread_more, one_more}

-- ---- the tables have grown

pub slots_later : (b : CodeBody) (g h : Stock) (x : NumberState) → AreIn g x → HasGrown g h → slots h b x ≡ slots g b x
slots_later b g h x there grown = slots_of_on g h grown b (contents x) there

pub there_later : (g h : Stock) (x : NumberState) → AreIn g x → HasGrown g h → AreIn h x
there_later g h x there grown = all_in_on g h grown (contents x) there

-- what a state shows is made of these three
same_shown : (x y : SlotState) (o p r q : List ℕ) → x ≡ y → o ≡ p → r ≡ q → ◌≡◌ {A = Shown} (record { slots = x; output = o; errors = r }) (record { slots = y; output = p; errors = q })
same_shown x y o p r q a b c = cc

pub shown_later : (b : CodeBody) (g h : Stock) (x : NumberState) → AreIn g x → HasGrown g h → shown g b x ≡ shown h b x
shown_later b g h x there grown =
    same_shown (slots g b x) (slots h b x) (text_at g x.output) (text_at h x.output) (text_at g x.errors) (text_at h x.errors)
    (sym (slots_later b g h x there grown)) (sym (text_at_on g h grown x.output there.output)) (sym (text_at_on g h grown x.errors there.errors))

pub at_later : (bounds : Bounds) (b : CodeBody) (g h : Stock) (w : Walk) → HasGrown g h → IsAt bounds b g w → IsAt bounds b h w
at_later bounds b g h w grown at = record {
  there = there_later g h w.state at.there grown;
  leads = λ script code. subst (LeadsTo bounds.clock bounds.limits (script_of script) w.history.list) (shown_later b g h w.state at.there grown) (at.leads script code);
  ticked = at.ticked;
  unread = at.unread;
}

-- ---- before any entry

no_split : (front back : List Entry) (e : Entry) → [] ≡ front ++ e ∷ back → ⊥
no_split [] back e h = cc h
no_split (x ∷ front) back e h = cc h

begins : (bounds : Bounds) (b : CodeBody) (script : Script) → IsCodeOf b script → (d : Shown) → d.slots ≡ first_slots (act_of b b.main) → d.output ≡ [] → d.errors ≡ [] → LeadsTo bounds.clock bounds.limits (script_of script) [] d
begins bounds b script code d is output errors =
    let ds : List Fn = script_of script in
    let h = first_stands_for script code.0 in
    let run = h.1 in
    let p = run_prints ds [] h.0 run in
    let q = nothing_yet ds in
    record {
      state = h.0;
      run = record { begin = run.0; begins = run.1; run = run.2 };
      before = λ front back e s split a. absurd (no_split front back e split);
      kept = clock_begins ds;
      stands = record {
        exact = d.slots;
        represents = subst (λ x. Represents ds x h.0) (sym is) (subst (λ tree. Represents ds (first_slots tree) h.0) (sym code.1.main_is) h.2);
        forgotten = refl;
        output = sym p.0 ∙ (q.0 ∙ sym output);
        errors = sym p.1 ∙ (q.1 ∙ sym errors);
      };
    }

pub begun_at : (bounds : Bounds) (b : CodeBody) (g : Stock) (w : Walk) → AreIn g w.state → slots g b w.state ≡ first_slots (act_of b b.main) → text_at g w.state.output ≡ [] → text_at g w.state.errors ≡ [] → w.history.list ≡ [] → IsAt bounds b g w
begun_at bounds b g w there is output errors none = record {
  there = there;
  leads = λ script code. subst (λ es. LeadsTo bounds.clock bounds.limits (script_of script) es (shown g b w.state)) (sym none) (begins bounds b script code (shown g b w.state) is output errors);
  ticked = λ q t. no_split t.0 [] (entry.Tick t.1) (sym none ∙ t.2);
  unread = λ q script code real front back e s split a reads. no_split front back e (sym none ∙ split);
}

-- ---- one more entry

-- the last entry is a Tick, or the history doesn't end in one
ends_by : (es : List Entry) (e : Entry) → EndsInTick (es ++ e ∷ []) → IsTick e
ends_by es e (front, at, split) =
    ⊎_elim
    (λ k. subst IsTick k.2 tt)
    (λ k. absurd (no_split k.0 [] e (k.1)))
    (last_or es e front (entry.Tick at) [] split)

module _ (bounds : Bounds) (b : CodeBody) (g h i : Stock) (w v : Walk) (e : Entry) (at : IsAt bounds b g w) (grown : HasGrown g h) (fits : FitsIn bounds.limits (slots g b w.state)) (may : EntryMay bounds.clock (funs_of b) (slots g b w.state) w.ticked e) where
  abbrev here : Shown
  here = shown h b w.state

  abbrev left : Shown
  left = shown i b v.state

  leads_on : next (funs_of b) here.slots e ≡ Some left.slots → left.output ≡ here.output ++ output_by here.slots e → left.errors ≡ here.errors ++ errors_by here.slots e → (script : Script) → IsCodeOf b script → LeadsTo bounds.clock bounds.limits (script_of script) (w.history.list ++ e ∷ []) left
  leads_on is output errors script code =
      let same : funs_of b ≡ code_trees (script_of script) = code.1.functions in
      let shows = shown_later b g h w.state at.there grown in
      one_more bounds.clock bounds.limits script code.0 w.history.list here left e w.ticked
      (subst (LeadsTo bounds.clock bounds.limits (script_of script) w.history.list) shows (at.leads script code))
      (subst (λ (c : Shown). FitsIn bounds.limits c.slots) shows fits)
      (subst (λ fs. EntryMay bounds.clock fs here.slots w.ticked e) same (subst (λ (c : Shown). EntryMay bounds.clock (funs_of b) c.slots w.ticked e) shows may))
      at.ticked (subst (λ fs. next fs here.slots e ≡ Some left.slots) same is) output errors

  unread_on : (w.unread ≡ true) × (ReadsTime bounds.clock (slots h b w.state) e → ⊥) → (script : Script) → IsCodeOf b script → IsUnread bounds.clock (script_of script) (w.history.list ++ e ∷ [])
  unread_on k script code real =
      let ds : List Fn = script_of script in
      let l = at.leads script code in
      let c : Shown = shown g b w.state in
      let not : ReadsClock c.slots e → ⊥ = subst (λ x. ReadsClock x e → ⊥) (slots_later b g h w.state at.there grown) (subst (λ clock. ReadsTime clock (slots h b w.state) e → ⊥) real k.1) in
      unread_more ds w.history.list e l.state (run_of bounds.clock ds w.history.list l.state l.run) (λ reads. not ((reads_named script c.slots l.state (exactly ds c l.state l.stands) e).1 reads)) (at.unread k.0 script code real)

  pub entered_at : AreIn i v.state → next (funs_of b) (slots h b w.state) e ≡ Some (slots i b v.state) → text_at i v.state.output ≡ text_at h w.state.output ++ output_by (slots h b w.state) e → text_at i v.state.errors ≡ text_at h w.state.errors ++ errors_by (slots h b w.state) e →
      v.history.list ≡ w.history.list ++ e ∷ [] → (v.ticked ≡ false → ¬ IsTick e) → (v.unread ≡ true → (w.unread ≡ true) × (ReadsTime bounds.clock (slots h b w.state) e → ⊥)) → IsAt bounds b i v
  entered_at there is output errors list plain quiet = record {
    there = there;
    leads = λ script code. subst (λ es. LeadsTo bounds.clock bounds.limits (script_of script) es left) (sym list) (leads_on is output errors script code);
    ticked = λ q t. plain q (ends_by w.history.list e (subst EndsInTick list t));
    unread = λ q script code. subst (λ es. IsUnread bounds.clock (script_of script) es) (sym list) (unread_on (quiet q) script code);
  }
