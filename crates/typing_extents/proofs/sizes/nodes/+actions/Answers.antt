use Rattle.std.proofs.Common.{◌∙◌, refl, ap}
use Rattle.rules_expansion.specs.trees.Trees.{ex_of}
use Rattle.rules_expansion.specs.trees.Programs.{act_of, bl_of}
use Rattle.rules_expansion.proofs.trees_lemmas.EquationsOfActions.{act-ModifyMVar, act-Guard, act-Bracket, act-Timeout, act-WithAsync}
use Rattle.rules_expansion.specs.Core.{OfScript}
use Rattle.rules_expansion.specs.Expansion.{on_bound, on_three, on_both, on_named, block_core}
use Rattle.typing_extents.proofs.sizes.nodes.+actions.Goals as goal

pub act_nodes-returns-in-ModifyMVar : goal.act_nodes-returns-in-ModifyMVar
act_nodes-returns-in-ModifyMVar t c =
    rw (ap act_of c.in-ModifyMVar.is ∙ act-ModifyMVar _ _ _ _)
    (c.derived_nodes.ensures (on_bound (OfScript (ex_of c.in-ModifyMVar.e)) c.in-ModifyMVar.field-2.text (block_core (bl_of c.in-ModifyMVar.b)))
    (record { subject = c.ex_nodes-in-ModifyMVar.ensures; first = c.bl_nodes-n.ensures; second = c.bl_nodes-n.ensures; third = c.bl_nodes-n.ensures }))

pub act_nodes-returns-in-Guard : goal.act_nodes-returns-in-Guard
act_nodes-returns-in-Guard t c =
    rw (ap act_of c.in-Guard.is ∙ act-Guard _ _ _ _)
    (c.guard_nodes.ensures (block_core (bl_of c.in-Guard.b)) (block_core (bl_of c.in-Guard.d)) c.bl_nodes-in-Guard.ensures c.bl_nodes-in-Guard-2.ensures)

pub act_nodes-returns-in-Bracket : goal.act_nodes-returns-in-Bracket
act_nodes-returns-in-Bracket t c =
    rw (ap act_of c.in-Bracket.is ∙ act-Bracket _ _ _ _ _)
    (c.derived_nodes-in-Bracket.ensures (on_three (block_core (bl_of c.in-Bracket.b)) c.in-Bracket.field-2.text (block_core (bl_of c.in-Bracket.d)) (block_core (bl_of c.in-Bracket.h)))
    (record { subject = refl; first = c.bl_nodes-in-Bracket.ensures; second = c.bl_nodes-in-Bracket-2.ensures; third = c.bl_nodes-in-Bracket-3.ensures }))

pub act_nodes-returns-in-Timeout : goal.act_nodes-returns-in-Timeout
act_nodes-returns-in-Timeout t c =
    rw (ap act_of c.in-Timeout.is ∙ act-Timeout _ _ _)
    (c.derived_nodes-in-Timeout.ensures (on_both (OfScript (ex_of c.in-Timeout.e)) (block_core (bl_of c.in-Timeout.b)))
    (record { subject = c.ex_nodes-in-Timeout.ensures; first = c.bl_nodes-n-in-Timeout.ensures; second = c.bl_nodes-n-in-Timeout.ensures; third = c.bl_nodes-n-in-Timeout.ensures }))

pub act_nodes-returns-in-WithAsync : goal.act_nodes-returns-in-WithAsync
act_nodes-returns-in-WithAsync t c =
    rw (ap act_of c.in-WithAsync.is ∙ act-WithAsync _ _ _ _)
    (c.derived_nodes-in-WithAsync.ensures (on_named (block_core (bl_of c.in-WithAsync.b)) c.in-WithAsync.field-2.text (block_core (bl_of c.in-WithAsync.d)))
    (record { subject = refl; first = c.bl_nodes-in-WithAsync.ensures; second = c.bl_nodes-n-in-WithAsync.ensures; third = c.bl_nodes-n-in-WithAsync.ensures }))
