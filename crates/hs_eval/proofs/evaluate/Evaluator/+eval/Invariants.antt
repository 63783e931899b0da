use Rattle.std.proofs.Common.{◌≡◌, ◌+◌, ◌*◌, drop, take}
use Rattle.rules_meaning.specs.Values.{values_of}
use Rattle.rules_code.specs.Slots.{run_all, run_left, trees, trees_in, links_in}
use Rattle.hs_eval.specs.Founds.{out_of}
use Rattle.hs_eval.specs.Evaluation.{slots, with_values}
use Rattle.hs_eval.proofs.evaluate.Evaluator.+eval.Given as goal

abbrev pub decreases-node : goal.decreases-node
decreases-node l = 16 * l.id.0 + 15

abbrev pub decreases-step : goal.decreases-step
decreases-step l = 16 * l.above + 14

abbrev pub decreases-part : goal.decreases-part
decreases-part l = 16 * l.above

abbrev pub decreases-with_one : goal.decreases-with_one
decreases-with_one l = 16 * l.above + 1

abbrev pub decreases-with_two : goal.decreases-with_two
decreases-with_two l = 16 * l.above + 2

abbrev pub decreases-second : goal.decreases-second
decreases-second l = 16 * l.above + 1

abbrev pub decreases-link : goal.decreases-link
decreases-link l = 16 * l.above + 2

abbrev pub decreases-chain : goal.decreases-chain
decreases-chain l = 16 * l.above + 3

abbrev pub decreases-all : goal.decreases-all
decreases-all l = 16 * l.above + 1

abbrev pub decreases-conses : goal.decreases-conses
decreases-conses l = 16 * l.above + 2

abbrev pub decreases-call : goal.decreases-call
decreases-call l = 16 * l.above + 2

abbrev pub decreases-choice : goal.decreases-choice
decreases-choice l = 16 * l.above + 1

abbrev pub decreases-maybe : goal.decreases-maybe
decreases-maybe l = 16 * l.above + 3

abbrev pub decreases-either : goal.decreases-either
decreases-either l = 16 * l.above + 3

abbrev pub decreases-list : goal.decreases-list
decreases-list l = 16 * l.above + 3

abbrev pub decreases-pair : goal.decreases-pair
decreases-pair l = 16 * l.above + 3

abbrev pub decreases-go_on : goal.decreases-go_on
decreases-go_on l = 16 * l.above + 4

abbrev pub decreases-first : goal.decreases-first
decreases-first l = 16 * l.above + 5

abbrev pub invariant-all-each : goal.invariant-all-each
invariant-all-each l = record {
  inner : l.inner ≡ l.fn.inner;
  outs : with_values (values_of l.values) (run_all (trees_in (take l.above (trees l.self.nodes.now)) (drop l.i l.ids)) (slots l.self.outer.now l.fn.inner)) ≡ with_values (values_of l.fn.before) (run_all (trees_in (take l.above (trees l.self.nodes.now)) l.ids) (slots l.self.outer.now l.fn.inner));
}

abbrev pub invariant-chain-links : goal.invariant-chain-links
invariant-chain-links l = record {
  inner : l.inner ≡ l.fn.inner;
  outs : run_left (slots l.self.outer.now l.fn.inner) (out_of l.so_far) (links_in (take l.above (trees l.self.nodes.now)) (drop l.next-index l.links)) ≡ run_left (slots l.self.outer.now l.fn.inner) (out_of l.fn.first) (links_in (take l.above (trees l.self.nodes.now)) l.links);
}
