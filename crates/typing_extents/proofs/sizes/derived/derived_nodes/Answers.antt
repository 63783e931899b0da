use Rattle.std.proofs.Common.{rules, arith, ap}
use Rattle.rules_expansion.specs.Expansion.{of_three}
use Rattle.rules_expansion.specs.Sizes.{steps_size}
use Rattle.typing_extents.proofs.sizes_lemmas.Templates.{derived_size}
use Rattle.typing_extents.proofs.sizes.derived.derived_nodes.Goals as goal

pub returns : goal.returns
returns c =
    λ f h. let i = derived_size c.args.form f c.args.subject c.args.first c.args.second c.args.third h in let j = ap (steps_size c.args.subject (of_three c.args.first c.args.second c.args.third)) c.steps-step-items.ensures in search (rules, arith, c.each.invariant, i, j)
