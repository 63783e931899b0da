use Rattle.std.proofs.Common.{ap, ◌∙◌}
use Rattle.rules_meaning.specs.Values.{values_of}
use Rattle.rules_code.specs.Slots.{run, tree_at}
use Rattle.rules_code.specs.Codes.{body_of}
use Rattle.hs_eval.specs.Founds.{out_of}
use Rattle.hs_eval.proofs.Readings.{means, good, never_stuck}
use Rattle.hs_eval.proofs.meaning.eval.Goals as goal

pub unstuck-requires : goal.unstuck-requires
unstuck-requires c =
    never_stuck (body_of c.args.code.now) c.args.at (values_of c.args.env.now) (out_of c.in_ok-found.found)
    (c.in_ok-found.ensures {u = tt} ∙ ap (λ ns. run (tree_at ns c.args.at) (values_of c.args.env.now)) c.nodes_of.ensures) c.requires

pub returns-clause-value : goal.returns-clause-value
returns-clause-value c =
    means (body_of c.args.code.now) c.args.at (values_of c.args.env.now) _
    (c.unstuck.ensures ∙ (c.in_ok-found.ensures {u = tt} ∙ ap (λ ns. run (tree_at ns c.args.at) (values_of c.args.env.now)) c.nodes_of.ensures))

pub returns-clause-sort : goal.returns-clause-sort
returns-clause-sort c =
    good (body_of c.args.code.now) c.args.at (values_of c.args.env.now) _
    (c.unstuck.ensures ∙ (c.in_ok-found.ensures {u = tt} ∙ ap (λ ns. run (tree_at ns c.args.at) (values_of c.args.env.now)) c.nodes_of.ensures))
