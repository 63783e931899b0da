use Rattle.typing_table.proofs.widths.+spend_at.Given as goal

-- a node's parts stand before it
abbrev pub decreases-spend_at : goal.decreases-spend_at
decreases-spend_at l = l.place
