-- Heads whose types stand in a table.
use Rattle.std.specs.Prelude.{ℕ, ◌<◌, List, [], ◌∷◌, ⊤}
use Rattle.typing_parts.specs.declared.entry.Fun.{Fun}

-- the places stand before n
abbrev pub AllBelow : List ℕ → ℕ → Type 0
AllBelow [] n = ⊤
AllBelow (i ∷ is) n = (i < n) × AllBelow is n

-- the places of a head's types stand before n
abbrev pub HeadBelow : Fun → ℕ → Type 0
HeadBelow f n = AllBelow f.params n × (f.result < n)

abbrev pub HeadsBelow : List Fun → ℕ → Type 0
HeadsBelow [] n = ⊤
HeadsBelow (f ∷ fs) n = HeadBelow f n × HeadsBelow fs n
