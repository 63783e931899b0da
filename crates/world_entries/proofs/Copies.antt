-- Copies of one value, added or taken at the end.
use Rattle.std.proofs.Common.{◌≡◌, List, [], ◌∷◌, ◌++◌}
use Rattle.hs_base.specs.declared.value.Value.{Value}
use Rattle.world_entries.specs.Reading.{Are}

pub are_more : (v w : Value) (ws : List Value) → Are v ws → w ≡ v → Are v (ws ++ w ∷ [])
are_more v w [] h e = (e, tt)
are_more v w (x ∷ ws) h e = (h.0, are_more v w ws h.1 e)

pub are_fewer : (v w : Value) (ws : List Value) → Are v (ws ++ w ∷ []) → Are v ws × (w ≡ v)
are_fewer v w [] h = (tt, h.0)
are_fewer v w (x ∷ ws) h = let r = are_fewer v w ws h.1 in ((h.0, r.0), r.1)
