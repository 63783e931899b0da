-- The text of an exception, as `show` gives it and as the line of an uncaught exception ends (own; those of
-- `ThreadKilled`, `UserInterrupt`, `DivideByZero`, `Overflow`, a timeout and `BlockedIndefinitely` are those of `base`).
use Rattle.std.specs.Prelude.{ℕ, List, codes}
use Rattle.hs_base.specs.declared.exn.Exn.{Exn}
use Rattle.hs_base.specs.declared.exn.Exn.TheVariants.{ErrorCall, ThreadKilled, UserInterrupt, DivideByZero, Overflow, Timeout, TextLimit, BlockedIndefinitely}

abbrev pub text_of : Exn → List ℕ
text_of (ErrorCall x) = x
text_of ThreadKilled = codes "thread killed"
text_of UserInterrupt = codes "user interrupt"
text_of DivideByZero = codes "divide by zero"
text_of Overflow = codes "arithmetic overflow"
text_of (Timeout n) = codes "<<timeout>>"
text_of TextLimit = codes "text too long"
text_of BlockedIndefinitely = codes "thread blocked indefinitely in an MVar operation"
