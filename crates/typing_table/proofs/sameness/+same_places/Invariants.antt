use Rattle.typing_table.proofs.sameness.+same_places.Given as goal

-- a node's parts stand before it
abbrev pub decreases-same_places : goal.decreases-same_places
decreases-same_places l = l.m
