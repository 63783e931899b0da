-- What one more column does to the spans of a lane (own).
use Rattle.std.specs.Prelude.{ℕ, ◌+◌, ◌==◌, cond, ◌&&◌, List, [], ◌∷◌, Option, Some, None}
use Rattle.lane_picture.specs.declared.film.Look.{Look}
use Rattle.lane_picture.specs.declared.spans.Span.{Span}
use Rattle.lane_picture.specs.Marks.{span, same_look}

-- column n shows this: it belongs to the last span where that ends right before it and shows the same
abbrev pub with_next : ℕ → Look → List Span → List Span
with_next n l [] = span n (n + 1) l ∷ []
with_next n l (s ∷ []) = cond ((n == s.to) && same_look s.look l) (span s.from (n + 1) s.look ∷ []) (s ∷ span n (n + 1) l ∷ [])
with_next n l (s ∷ r ∷ rs) = s ∷ with_next n l (r ∷ rs)

-- column n shows this, if anything
abbrev pub next_look : ℕ → Option Look → List Span → List Span
next_look n None ss = ss
next_look n (Some l) ss = with_next n l ss
