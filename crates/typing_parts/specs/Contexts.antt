-- The functions as the rules see them.
use Rattle.rules_typing.specs.Typing.{Ctx}
use Rattle.typing_parts.specs.Views.{sigs_of}
use Rattle.typing_parts.specs.declared.funs.Funs.{Funs}

abbrev pub ctx_of : Funs → Ctx
ctx_of f = record { sigs = sigs_of f.types.nodes f.sigs; here = f.here }
