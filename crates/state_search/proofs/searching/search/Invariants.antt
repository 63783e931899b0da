use Rattle.state_search.specs.Working.{Going, HasBegun}
use Rattle.state_search.proofs.searching.search.Given as goal

abbrev pub invariant-states : goal.invariant-states
invariant-states l = record {
  going : Going l.bounds l.body l.at l.found;
  begun : HasBegun l.found;
}
