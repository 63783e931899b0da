use Rattle.std.proofs.Common.{◌≡◌, None, List, get_or, ◌∙◌, subst, arith}
use Rattle.std.proofs.lemmas.Option.{slice_get-get_or}
use Rattle.hs_rules.specs.declared.entry.Entry.{Entry}
use Rattle.hs_rules.specs.declared.entry.Entry.TheVariants as entry
use Rattle.rules_code.specs.declared.code.CodeBody.{CodeBody}
use Rattle.slot_states.specs.SlotStates.{SlotState}
use Rattle.slot_states.specs.entering.Entering.{next}
use Rattle.local_steps.specs.Machine.{funs_of}
use Rattle.number_states.specs.Stocks.{Stock}
use Rattle.number_states.specs.States.{slots}
use Rattle.number_states.proofs.Growth.{stock_on}
use Rattle.conc_outcomes.proofs.walks_lemmas.Walks.{slots_later, there_later}
use Rattle.conc_outcomes.proofs.walks_lemmas.Tried.{when_none, none_more, none_of_all}
use Rattle.conc_outcomes.proofs.walks.still.is_still.Goals as goal

pub next-requires : goal.next-requires
next-requires c = there_later c.args.numbers.now c.loop-entry.numbers c.args.state.now c.requires c.loop-entry.invariant.grows

pub returns-then-is_some-clause-grows : goal.returns-then-is_some-clause-grows
returns-then-is_some-clause-grows c = stock_on c.args.numbers.now c.loop-entry.numbers c.next.new.numbers c.loop-entry.invariant.grows c.in_ok-next.ensures.grows

pub loop-entry-preserved : goal.loop-entry-preserved
loop-entry-preserved c =
    let old : Stock = c.args.numbers.now in
    let now : Stock = c.loop-entry.numbers in
    let b : CodeBody = c.args.body.now in
    let x : SlotState = slots old b c.args.state.now in
    let items : List Entry = c.as_slice-entry-items.result.now in
    let e : Entry = get_or items c.loop-entry.entry-index (entry.Local 0 0) in
    let before = c.loop-entry.invariant in
    let none : next (funs_of b) (slots now b c.args.state.now) e ≡ None = when_none c.in_ok-next.field-0 _ _ (c.if-is_some.ensures {u = tt}) c.in_ok-next.ensures.is in
    record {
      none = none_more (funs_of b) x items c.loop-entry.entry-index e before.none (slice_get-get_or items c.loop-entry.entry-index (entry.Local 0 0) (omega arith))
          (subst (λ z. next (funs_of b) z e ≡ None) (slots_later b old now c.args.state.now c.requires before.grows) none);
      grows = stock_on old now c.next.new.numbers before.grows c.in_ok-next.ensures.grows;
    }

pub returns-clause-still : goal.returns-clause-still
returns-clause-still c = λ yes.
    let old : Stock = c.args.numbers.now in
    let b : CodeBody = c.args.body.now in
    none_of_all (funs_of b) (slots old b c.args.state.now) c.as_slice-entry-items.result.now c.loop-entry.entry-index
    (c.as_slice-entry-items.ensures.value ∙ c.in_ok-entries.ensures {u = tt} old b) (omega arith) c.loop-entry.invariant.none
