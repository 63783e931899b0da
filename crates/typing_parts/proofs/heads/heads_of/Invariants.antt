use Rattle.std.proofs.Common.{◌≡◌, ◌++◌, length, drop, map}
use Rattle.rules_expansion.specs.trees.Programs.{fn_of}
use Rattle.rules_typing.specs.TypingScripts.{sigs_from}
use Rattle.typing_parts.specs.Heads.{HeadsBelow}
use Rattle.typing_parts.specs.Views.{sigs_of}
use Rattle.typing_parts.proofs.heads.heads_of.Given as goal

abbrev pub invariant-defs : goal.invariant-defs
invariant-defs l = HeadsBelow l.sigs (length l.interner.types.nodes) × (sigs_of l.interner.types.nodes l.sigs ++ sigs_from l.i (map fn_of (drop l.i l.ds)) ≡ sigs_from 0 (map fn_of l.ds))
