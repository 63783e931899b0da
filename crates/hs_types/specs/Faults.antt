-- What an answer of the checker says of a script.
use Rattle.std.specs.Prelude.{Option, Some, None, ⊤}
use Rattle.hs_base.specs.declared.tree.script.Script.{Script}
use Rattle.rules_expansion.specs.trees.Trees.{ty_of}
use Rattle.rules_typing.specs.Typing.{Fault, twice, unknown, kind, forward, arity, mismatch, scope, wide, large}
use Rattle.rules_typing.specs.TypingScripts.{LacksMain, IsFirstBroken}
use Rattle.typing_parts.specs.Views.{wanted_of}
use Rattle.typing_parts.specs.declared.fault.TypeFault.{TypeFault}
use Rattle.typing_parts.specs.declared.fault.TypeFault.TheVariants as t

-- The named rule is broken and comes before every broken one; for `NoMain` nothing is broken but there is no `main`.
-- Memory may be refused for any script.
abbrev pub Refused : TypeFault → Script → Type 0
Refused (t.Twice p) s = IsFirstBroken s (twice p)
Refused (t.Unknown p) s = IsFirstBroken s (unknown p)
Refused (t.Kind p) s = IsFirstBroken s (kind p)
Refused (t.Forward p) s = IsFirstBroken s (forward p)
Refused (t.Arity p m n) s = IsFirstBroken s (arity p m n)
Refused (t.Mismatch p m u) s = IsFirstBroken s (mismatch p (wanted_of m) (ty_of u))
Refused (t.Scope p) s = IsFirstBroken s (scope p)
Refused (t.Wide p) s = IsFirstBroken s (wide p)
Refused (t.Large p) s = IsFirstBroken s (large p)
Refused t.NoMain s = LacksMain s
Refused t.NoMemory s = ⊤

-- the broken rule that an answer names
abbrev pub told : TypeFault → Option Fault
told (t.Twice p) = Some (twice p)
told (t.Unknown p) = Some (unknown p)
told (t.Kind p) = Some (kind p)
told (t.Forward p) = Some (forward p)
told (t.Arity p m n) = Some (arity p m n)
told (t.Mismatch p m u) = Some (mismatch p (wanted_of m) (ty_of u))
told (t.Scope p) = Some (scope p)
told (t.Wide p) = Some (wide p)
told (t.Large p) = Some (large p)
told t.NoMain = None
told t.NoMemory = None
