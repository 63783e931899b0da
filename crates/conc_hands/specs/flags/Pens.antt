-- What a clause says of the flags and of a pen.
use Rattle.std.specs.Prelude.{◌≡◌, ℕ, ◌<◌}
use Rattle.rules_code.specs.declared.code.CodeBody.{CodeBody}
use Rattle.conc_hands.specs.declared.flags.view.PenView.{PenView}
use Rattle.conc_hands.specs.declared.flags.pen.Pen.{Pen}
use Rattle.conc_hands.specs.declared.flags.flags.Flags.{Flags}

abbrev pub view_of : Pen → PenView
view_of p = p.seat.me.0

-- the pen is of these flags, and has a share
abbrev pub IsPenOf : Flags → Pen → Type 0
IsPenOf f p = (p.seat.table_id ≡ f.table.shared.table_id) × (0 < (view_of p).shares)

abbrev pub flags_hands : Flags → ℕ
flags_hands f = f.table.shared.key.hands

abbrev pub flags_code : Flags → CodeBody
flags_code f = f.table.shared.key.code.value
