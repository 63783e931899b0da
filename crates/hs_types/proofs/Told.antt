-- An answer that names the first broken rule refuses the script.
use Rattle.std.proofs.Common.{◌≡◌, Some, subst, sym}
use Rattle.std.proofs.lemmas.Option.{same_Some}
use Rattle.hs_base.specs.declared.tree.script.Script.{Script}
use Rattle.rules_typing.specs.Typing.{Fault}
use Rattle.rules_typing.specs.TypingScripts.{IsFirstBroken}
use Rattle.typing_parts.specs.declared.fault.TypeFault.{TypeFault}
use Rattle.typing_parts.specs.declared.fault.TypeFault.TheVariants as t
use Rattle.hs_types.specs.Faults.{Refused, told}

by : (s : Script) (x y : Fault) → Some x ≡ Some y → IsFirstBroken s y → IsFirstBroken s x
by s x y e h = subst (IsFirstBroken s) (sym (same_Some x y e)) h

pub refused : (s : Script) (f : TypeFault) (y : Fault) → told f ≡ Some y → IsFirstBroken s y → Refused f s
refused s (t.Twice p) y e h = by s _ y e h
refused s (t.Unknown p) y e h = by s _ y e h
refused s (t.Kind p) y e h = by s _ y e h
refused s (t.Forward p) y e h = by s _ y e h
refused s (t.Arity p m n) y e h = by s _ y e h
refused s (t.Mismatch p m u) y e h = by s _ y e h
refused s (t.Scope p) y e h = by s _ y e h
refused s (t.Wide p) y e h = by s _ y e h
refused s (t.Large p) y e h = by s _ y e h
refused s t.NoMain y e h = cc
refused s t.NoMemory y e h = tt
