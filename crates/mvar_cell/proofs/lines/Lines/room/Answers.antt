use Rattle.std.proofs.Common.{nat_eq, refl}
use Rattle.std.specs.HashMap.{get}
use Rattle.mvar_cell.proofs.Backing.{befores_agree}
use Rattle.mvar_cell.proofs.Cursors.{marked_agree}
use Rattle.mvar_cell.proofs.lines.Lines.room.Goals as goal

-- room changes no node, no line, no link back and no cursor
pub invariant_of-self-in_err-reserve-2 : goal.invariant_of-self-in_err-reserve-2
invariant_of-self-in_err-reserve-2 c =
    let h = c.self.invariant in
    rw (c.reserve.ensures.items, c.reserve-2.ensures.rest_kept) (record { sound = record { chains = h.sound.chains; fits = h.sound.fits }; backed = h.backed; marked = marked_agree c.self.inside.ends.items c.self.inside.nodes _ (λ j. refl) h.sound h.marked })

pub invariant_of-self-2 : goal.invariant_of-self-2
invariant_of-self-2 c =
    let h = c.self.invariant in
    rw (c.reserve.ensures.items, c.reserve-2.ensures.rest_kept) (record { sound = record { chains = h.sound.chains; fits = h.sound.fits }; backed = λ k d lt. befores_agree (get nat_eq c.self.inside.befores) _ c.self.inside.nodes _ _ c.reserve-3.ensures.entries.2 (h.backed k d lt); marked = marked_agree c.self.inside.ends.items c.self.inside.nodes _ (λ j. refl) h.sound h.marked })
