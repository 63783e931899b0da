use Rattle.std.proofs.Common.{◌++◌, sym, ap, ◌∙◌}
use Rattle.std.specs.Option.{option_copied}
use Rattle.term_graph.specs.tables.Keys.{action_key}
use Rattle.term_graph.proofs.tables_lemmas.Keyed.{one_put}
use Rattle.term_graph.proofs.tables.keys.put_action.Goals as goal

-- src/keys.rt
pub loop-slot-preserved : goal.loop-slot-preserved
loop-slot-preserved c =
    one_put c.args.env.now c.loop-slot.slot c.in-Some.value.now c.loop-slot.out.items c.put_value.new.out.items (c.args.out.now.items ++ action_key c.args.at c.args.env.now)
    (sym c.get.ensures ∙ ap option_copied c.in-Some.is) c.loop-slot.invariant (c.in_ok-put_value-in-Some.ensures {u = tt})
