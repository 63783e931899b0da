use Rattle.std.proofs.Common.{MatchBool, sym, subst}
use Rattle.hs_base.specs.declared.clock_choice.ClockChoice.{ClockChoice}
use Rattle.number_states.specs.States.{slots}
use Rattle.search_laws.specs.Going.{ReadsTime}
use Rattle.state_search.proofs.kinds.reads_time.Goals as goal

pub returns-in-Real : goal.returns-in-Real
returns-in-Real c = λ b.
    let x = slots c.args.numbers.now b c.args.state.now in
    subst (λ (clock : ClockChoice). MatchBool c.reads_clock.result (ReadsTime clock x c.args.entry) (ReadsTime clock x c.args.entry → ⊥)) (sym c.in-Real.is) (c.reads_clock.ensures b)
