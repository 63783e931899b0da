use Rattle.std.proofs.Common.{◌≡◌, take}
use Rattle.typing_parts.specs.Views.{last_named}
use Rattle.typing_parts.proofs.table.Table.look.Given as goal

abbrev pub invariant-back : goal.invariant-back
invariant-back l = last_named l.items l.x ≡ last_named (take l.i l.items) l.x
