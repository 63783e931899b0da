-- Comparisons that may take any number of steps (own).
use Rattle.local_steps.specs.declared.equality.effort.Effort.{Effort}
use Rattle.local_steps.specs.declared.equality.effort.Effort.TheVariants.{Endless, Steps}

abbrev pub IsEndless : Effort → Type 0
IsEndless Endless = Unit {0}
IsEndless (Steps n) = ⊥
