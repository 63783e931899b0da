use Rattle.std.proofs.Common.{◌≡◌}
use Rattle.hs_base.specs.declared.mask.Mask.TheVariants.{Unmasked}
use Rattle.slot_laws.specs.SlotRules.{locals}
use Rattle.local_steps.specs.Machine.{funs_of}
use Rattle.number_states.specs.Stocks.{HasGrown, IsTerm, term_at}
use Rattle.number_moves.proofs.local.steps.Given as goal

-- the rules that are left lead from where it is to where all lead
abbrev pub invariant-loop-left : goal.invariant-loop-left
invariant-loop-left l = record {
  is : locals (funs_of l.body) Unmasked l.left (term_at l.numbers l.body l.at) ≡ locals (funs_of l.body) Unmasked l.k (term_at l.fn.numbers l.body l.term);
  there : IsTerm l.numbers l.at;
  grown : HasGrown l.fn.numbers l.numbers;
}

abbrev pub decreases-loop-left : goal.decreases-loop-left
decreases-loop-left l = l.left
