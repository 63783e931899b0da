use Rattle.std.proofs.Common.{◌<◌, [], ◌∷◌, ◌++◌, false, length, sym, ap, ◌∙◌, subst}
use Rattle.std.specs.List.{AllByRecursion}
use Rattle.std.proofs.lemmas.Option.{slice_get_within}
use Rattle.number_states.specs.declared.waits.flight.Thrown.{Thrown}
use Rattle.number_states.specs.declared.state.NumberThread.{NumberThread}
use Rattle.number_states.specs.Stocks.{IsTerm}
use Rattle.number_states.specs.States.{CellIsWithin}
use Rattle.number_states.proofs.Growth.{is_term_on}
use Rattle.number_states.proofs.beginning.first.Goals as goal

-- src/beginning.rt
pub returns-clause-there : goal.returns-clause-there
returns-clause-there c =
    let g = c.begun.new.self in
    let h = c.text.new.self in
    let th : NumberThread = record { term = c.in_ok-term.term; blocked = false; finished = false } in
    let is_term = is_term_on g h c.text.ensures.grows c.in_ok-term.term c.in_ok-term.ensures.there in
    let within = slice_get_within h.texts c.in_ok-nothing.nothing _ c.in_ok-nothing.ensures.is in
    record {
      threads = subst (AllByRecursion (λ (u : NumberThread). IsTerm h u.term)) (sym (c.push_reserved.ensures.items ∙ ap (λ xs. xs ++ th ∷ []) (c.reserve.ensures.items ∙ c.new-threads.ensures.items))) (is_term, tt);
      cells = subst (AllByRecursion (CellIsWithin (length h.values))) (sym c.new.ensures.items) tt;
      flight = subst (AllByRecursion (λ (f : Thrown). f.exn < length h.exceptions)) (sym c.new-2.ensures.items) tt;
      output = within;
      errors = within;
    }
