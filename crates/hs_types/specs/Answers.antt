-- What the rules say of a script.
use Rattle.std.specs.Prelude.{◌≡◌, Some}
use Rattle.hs_base.specs.declared.tree.script.Script.{Script}
use Rattle.rules_typing.specs.Typing.{Fault}
use Rattle.rules_typing.specs.TypingScripts.{Accepted, LacksMain, IsFirstBroken}
use Rattle.hs_types.specs.Faults.{told}
use Rattle.hs_types.specs.declared.answer.Answer.{Answer}
use Rattle.hs_types.specs.declared.answer.Answer.TheVariants as a

abbrev pub IsAnswer : Answer → Script → Type 0
IsAnswer a.Sound s = Accepted s
IsAnswer a.NoMain s = LacksMain s
IsAnswer (a.Broken f) s = (y : Fault) × (told f ≡ Some y) × IsFirstBroken s y
