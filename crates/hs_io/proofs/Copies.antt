-- A copy to the front of a buffer, and what is left behind it.
use Rattle.std.proofs.Common.{◌≡◌, ◌≤◌, ◌<◌, ◌-◌, ◌+◌, ◌++◌, ℕ, List, [], min, length, take, drop, sym, ap, ◌∙◌, arith}
use Rattle.std.proofs.lemmas.List.{take-append-drop, drop-drop, drop_all}

-- what was copied of the lent bytes and what is left make what was there
pub front_and_rest : (bytes lent into : List ℕ) (at n : ℕ) → lent ≡ bytes → take n into ≡ take n (drop at lent)
    → drop at bytes ≡ take n into ++ drop (at + n) bytes
front_and_rest bytes lent into at n same copied =
    sym (ap (λ front. front ++ drop (at + n) bytes) (copied ∙ ap (λ bs. take n (drop at bs)) same)
    ∙ ap (λ rest. take n (drop at bytes) ++ rest) (sym (drop-drop n at bytes))
    ∙ take-append-drop n (drop at bytes))

-- where nothing was copied though there was room, nothing is left
pub nothing_left : (bytes lent into : List ℕ) (at most n : ℕ) → lent ≡ bytes → n ≡ min most (min (length into) (length lent - at)) → 1 ≤ most
    → n ≡ 0 → 0 < length into → drop (at + n) bytes ≡ []
nothing_left bytes lent into at most n same count some none room =
    drop_all (at + n) bytes (omega (arith, count, some, none, room, ap (λ bs. length bs) same))
