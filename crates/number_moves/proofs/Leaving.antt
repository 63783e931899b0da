-- What a thread waits for no more.
use Rattle.std.proofs.Common.{◌≡◌, ℕ, zero, suc, ◌+◌, ◌<◌, ◌==◌, true, false, cond, List, [], ◌∷◌, ◌++◌, length, get_or, set, take, drop, map, refl, sym, ap, ap₂, ◌∙◌, subst, add-one, arith}
use Rattle.std.specs.List.{AllByRecursion}
use Rattle.rules_meaning.specs.Values.{V}
use Rattle.rules_waiting.specs.OneCell.{Cell, Place, Leave, cell_of, leaves_line}
use Rattle.rules_waiting.specs.Waiting.{without, withdrawn}
use Rattle.slot_states.specs.mapping.Mapped.{map_cell}
use Rattle.slot_states.proofs.mapping_lemmas.Maps.{commutes}
use Rattle.slot_states.specs.SlotStates.{left_lines}
use Rattle.number_states.specs.declared.waits.flight.Thrown.{Thrown}
use Rattle.number_states.specs.waits.Throwing.{without_thrower}
use Rattle.number_states.proofs.waits_lemmas.Without.{flight_without}
use Rattle.number_states.specs.declared.state.NumberState.{NumberState}
use Rattle.number_states.specs.Stocks.{Stock, value_at, exception_at}
use Rattle.number_states.specs.States.{Contents, contents, slots_of, slots, LineIsWithin, CellIsWithin, AllIn, AreIn, Becomes}
use Rattle.number_moves.specs.Lines.{lines_left}
use Rattle.number_changes.proofs.Made.{contents_become}

-- ---- lines

left_one : {A : Type 0} (t : ℕ) (xs : List (Cell A)) (i : ℕ) (d : Cell A) (ys : List (Cell A)) → i < length xs → ys ≡ set xs i (cell_of (get_or xs i d).content (leaves_line t (get_or xs i d).line))
    → take (suc i) ys ++ lines_left t (drop (suc i) ys) ≡ take i xs ++ lines_left t (drop i xs)
left_one t [] i d ys lt e = absurd (omega arith)
left_one t (x ∷ xs) zero d ys lt e = ap (λ zs. take 1 zs ++ lines_left t (drop 1 zs)) e
left_one t (x ∷ xs) (suc i) d ys lt e =
    ap (λ zs. take (suc (suc i)) zs ++ lines_left t (drop (suc (suc i)) zs)) e ∙ ap (λ zs. x ∷ zs) (left_one t xs i d (set xs i (cell_of (get_or xs i d).content (leaves_line t (get_or xs i d).line))) (omega arith) refl)

pub one_left : {A : Type 0} (t : ℕ) (xs : List (Cell A)) (i : ℕ) (d : Cell A) → i < length xs → let ys = set xs i (cell_of (get_or xs i d).content (leaves_line t (get_or xs i d).line)) in
    take (i + 1) ys ++ lines_left t (drop (i + 1) ys) ≡ take i xs ++ lines_left t (drop i xs)
one_left t xs i d lt = rw add-one (left_one t xs i d _ lt refl)

lines_mapped : {A : Type 0} (f : A → V) (t : ℕ) (cs : List (Cell A)) → map (map_cell f) (lines_left t cs) ≡ left_lines t (map (map_cell f) cs)
lines_mapped f t [] = refl
lines_mapped f t (c ∷ cs) = ap₂ (λ d ds. d ∷ ds) (sym (ap (λ a. a.cell) (commutes f (Leave t) c))) (lines_mapped f t cs)

line_within : (count t : ℕ) (ps : List (Place ℕ)) → LineIsWithin count ps → LineIsWithin count (leaves_line t ps)
line_within count t [] h = tt
line_within count t (p ∷ ps) h =
    let rest = line_within count t ps h.1 in
    elim (p.thread == t) as (λ b. LineIsWithin count (cond b (leaves_line t ps) (p ∷ leaves_line t ps))) [ true ↦ rest | false ↦ (h.0, rest) ]

lines_within : (count t : ℕ) (cs : List (Cell ℕ)) → AllByRecursion (CellIsWithin count) cs → AllByRecursion (CellIsWithin count) (lines_left t cs)
lines_within count t [] h = tt
lines_within count t (c ∷ cs) h = (record { content = h.0.content; line = line_within count t c.line h.0.line }, lines_within count t cs h.1)

pub lines_become : (g : Stock) (x y : NumberState) (t : ℕ) (cs : List (Cell ℕ)) → AreIn g x → contents y ≡ (let c = contents x in record c { cells = cs }) → cs ≡ lines_left t x.cells.items
    → Becomes (λ b s. record s { cells = left_lines t s.cells }) g x g y
lines_become g x y t cs all e is =
    let c = contents x in
    let d : Contents = record c { cells = cs } in
    let in_d : AllIn g d = record {
      threads = all.threads;
      cells = subst (AllByRecursion (CellIsWithin (length g.values))) (sym is) (lines_within (length g.values) t x.cells.items all.cells);
      flight = all.flight;
      output = all.output;
      errors = all.errors;
    } in
    contents_become (λ b s. record s { cells = left_lines t s.cells }) g x y d e in_d refl refl
    (λ b. ap (λ ds. let s = slots g b x in record s { cells = ds }) (ap (map (map_cell (value_at g))) is ∙ lines_mapped (value_at g) t x.cells.items))

-- ---- exceptions in flight

all_without : {A : Type 0} (P : A → Type 0) (number : A → ℕ) (t : ℕ) (xs : List A) → AllByRecursion P xs → AllByRecursion P (without number t xs)
all_without P number t [] h = tt
all_without P number t (x ∷ xs) h =
    let rest = all_without P number t xs h.1 in
    elim (number x == t) as (λ b. AllByRecursion P (cond b (without number t xs) (x ∷ without number t xs))) [ true ↦ rest | false ↦ (h.0, rest) ]

pub flight_becomes : (g : Stock) (x y : NumberState) (t : ℕ) (fs : List Thrown) → AreIn g x → contents y ≡ (let c = contents x in record c { flight = fs }) → fs ≡ without_thrower t x.flight.items
    → Becomes (λ b s. record s { flight = withdrawn t s.flight }) g x g y
flight_becomes g x y t fs all e is =
    let c = contents x in
    let d : Contents = record c { flight = fs } in
    let P = λ (f : Thrown). f.exn < length g.exceptions in
    let in_d : AllIn g d = record {
      threads = all.threads;
      cells = all.cells;
      flight = subst (AllByRecursion P) (sym is) (all_without P (λ (f : Thrown). f.thrower) t x.flight.items all.flight);
      output = all.output;
      errors = all.errors;
    } in
    contents_become (λ b s. record s { flight = withdrawn t s.flight }) g x y d e in_d refl refl
    (λ b. ap (λ (z : List Thrown). slots_of g b (record c { flight = z })) is ∙ ap (λ gs. let s = slots g b x in record s { flight = gs }) (flight_without (exception_at g) t x.flight.items))
