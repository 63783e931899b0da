-- No key of what waits begins another, and what has one key is equal.
use Rattle.std.proofs.Common.{◌≡◌, ℕ, List, [], ◌∷◌, ◌++◌, Option, Some, None, refl, sym, ap, ap₂, ◌∙◌, append_assoc, arith}
use Rattle.rules_waiting.specs.OneCell.{Want, To_take, To_read, To_put, Place, Cell, cell_of}
use Rattle.number_tables.proofs.value_keys_lemmas.Exact.{exact_wide}
use Rattle.number_states.specs.declared.waits.flight.Thrown.{Thrown}
use Rattle.number_states.specs.declared.waits.sleepers.Asleep.{Asleep}
use Rattle.number_states.specs.waits.Keys.{content_key, want_key, line_key, cell_key, cells_key, flight_key, sleepers_key}

abbrev head : List ℕ → ℕ
head [] = 0
head (x ∷ xs) = x

abbrev tail : List ℕ → List ℕ
tail [] = []
tail (x ∷ xs) = xs

exact_content : (a b : Option ℕ) (r s : List ℕ) → content_key a ++ r ≡ content_key b ++ s → (a ≡ b) × (r ≡ s)
exact_content None None r s e = (refl, ap tail e)
exact_content (Some v) (Some w) r s e = (ap Some (ap (λ xs. head (tail xs)) e), ap (λ xs. tail (tail xs)) e)
exact_content _ _ r s e = let h = ap head e in absurd (omega (arith, h))

exact_want : (a b : Want ℕ) (r s : List ℕ) → want_key a ++ r ≡ want_key b ++ s → (a ≡ b) × (r ≡ s)
exact_want To_take To_take r s e = (refl, ap tail e)
exact_want To_read To_read r s e = (refl, ap tail e)
exact_want (To_put v) (To_put w) r s e = (ap To_put (ap (λ xs. head (tail xs)) e), ap (λ xs. tail (tail xs)) e)
exact_want _ _ r s e = let h = ap head e in absurd (omega (arith, h))

-- no place's key begins with a 0
some_want : (w : Want ℕ) (r : List ℕ) → head (want_key w ++ r) ≡ 0 → ⊥
some_want To_take r e = omega (arith, e)
some_want To_read r e = omega (arith, e)
some_want (To_put v) r e = omega (arith, e)

exact_line : (ps qs : List (Place ℕ)) (r s : List ℕ) → line_key ps ++ r ≡ line_key qs ++ s → (ps ≡ qs) × (r ≡ s)
exact_line [] [] r s e = (refl, ap tail e)
exact_line [] (q ∷ qs) r s e = absurd (some_want q.want ((q.thread ∷ line_key qs) ++ s) (sym (ap head (e ∙ append_assoc (want_key q.want) (q.thread ∷ line_key qs) s))))
exact_line (p ∷ ps) [] r s e = absurd (some_want p.want ((p.thread ∷ line_key ps) ++ r) (ap head (sym (append_assoc (want_key p.want) (p.thread ∷ line_key ps) r) ∙ e)))
exact_line (p ∷ ps) (q ∷ qs) r s e =
    let k = exact_want p.want q.want ((p.thread ∷ line_key ps) ++ r) ((q.thread ∷ line_key qs) ++ s) (sym (append_assoc (want_key p.want) (p.thread ∷ line_key ps) r) ∙ e ∙ append_assoc (want_key q.want) (q.thread ∷ line_key qs) s) in
    let j = exact_line ps qs r s (ap tail k.1) in
    let same : p ≡ q = ap₂ (λ t w. record { thread = t; want = w }) (ap head k.1) k.0 in
    (ap₂ (λ x xs. x ∷ xs) same j.0, j.1)

pub exact_cell : (c d : Cell ℕ) (r s : List ℕ) → cell_key c ++ r ≡ cell_key d ++ s → (c ≡ d) × (r ≡ s)
exact_cell c d r s e =
    let k = exact_content c.content d.content (line_key c.line ++ r) (line_key d.line ++ s) (sym (append_assoc (content_key c.content) (line_key c.line) r) ∙ e ∙ append_assoc (content_key d.content) (line_key d.line) s) in
    let j = exact_line c.line d.line r s k.1 in
    (ap₂ cell_of k.0 j.0, j.1)

pub exact_cells : (cs ds : List (Cell ℕ)) (r s : List ℕ) → cells_key cs ++ r ≡ cells_key ds ++ s → (cs ≡ ds) × (r ≡ s)
exact_cells [] [] r s e = (refl, ap tail e)
exact_cells (c ∷ cs) (d ∷ ds) r s e =
    let k = exact_cell c d (cells_key cs ++ r) (cells_key ds ++ s) (sym (append_assoc (cell_key c) (cells_key cs) r) ∙ ap tail e ∙ append_assoc (cell_key d) (cells_key ds) s) in
    let j = exact_cells cs ds r s k.1 in
    (ap₂ (λ x xs. x ∷ xs) k.0 j.0, j.1)
exact_cells _ _ r s e = let h = ap head e in absurd (omega (arith, h))

pub exact_flight : (xs ys : List Thrown) (r s : List ℕ) → flight_key xs ++ r ≡ flight_key ys ++ s → (xs ≡ ys) × (r ≡ s)
exact_flight [] [] r s e = (refl, ap tail e)
exact_flight (x ∷ xs) (y ∷ ys) r s e =
    let j = exact_flight xs ys r s (ap (λ zs. tail (tail (tail (tail zs)))) e) in
    let thrower : x.thrower ≡ y.thrower = ap (λ zs. head (tail zs)) e in
    let target : x.target ≡ y.target = ap (λ zs. head (tail (tail zs))) e in
    let exn : x.exn ≡ y.exn = ap (λ zs. head (tail (tail (tail zs)))) e in
    let same : x ≡ y = ap₂ (λ t u. record { thrower = t; target = u; exn = x.exn }) thrower target ∙ ap (λ n. record { thrower = y.thrower; target = y.target; exn = n }) exn in
    (ap₂ (λ z zs. z ∷ zs) same j.0, j.1)
exact_flight _ _ r s e = let h = ap head e in absurd (omega (arith, h))

pub exact_sleepers : (xs ys : List Asleep) (r s : List ℕ) → sleepers_key xs ++ r ≡ sleepers_key ys ++ s → (xs ≡ ys) × (r ≡ s)
exact_sleepers [] [] r s e = (refl, ap tail e)
exact_sleepers (x ∷ xs) (y ∷ ys) r s e =
    let k = exact_wide x.due y.due (sleepers_key xs ++ r) (sleepers_key ys ++ s) (ap (λ zs. tail (tail zs)) e) in
    let j = exact_sleepers xs ys r s k.1 in
    let same : x ≡ y = ap₂ (λ t n. record { thread = t; due = n }) (ap (λ zs. head (tail zs)) e) k.0 in
    (ap₂ (λ z zs. z ∷ zs) same j.0, j.1)
exact_sleepers _ _ r s e = let h = ap head e in absurd (omega (arith, h))
