-- The rule of the flag words, and what each step tells (own).
use Rattle.std.specs.Prelude.{◌≡◌, ◌≢◌, ◌⊎◌, ℕ, ◌+◌, ◌-◌, ◌%◌, ◌<◌, List, [], ◌∷◌, ◌++◌, length, slice_index}
use mathlib.Core.Option.{some}
use lib.ListN.{get_elem?}
use Rattle.atomic_table.specs.Table.{State, Me, Step}
use Rattle.conc_hands.specs.declared.flags.view.PenView.{PenView}
use Rattle.conc_hands.specs.declared.flags.view.Reading.{Reading}

abbrev pub total : (PenView → ℕ) → List PenView → ℕ
total f [] = 0
total f (v ∷ vs) = f v + total f vs

abbrev pub shares_in : PenView → ℕ
shares_in v = v.shares

-- t stands in the list
abbrev pub Among : {A : Type 0} → A → List A → Type 0
Among t [] = ⊥
Among t (x ∷ xs) = (x ≡ t) ⊎ Among t xs

-- some view has raised t
abbrev pub Raised : List PenView → ℕ → Type 0
Raised views t = (id : ℕ) × (v : PenView) × (get_elem? views id ≡ some v) × Among t v.raised

-- the word at place w holds n: 0, or a ticket of that place which some view has raised
abbrev pub IsFlag : List PenView → ℕ → ℕ → Type 0
IsFlag views w n = n ≢ 0 → (n % 64 ≡ w) × Raised views n

abbrev pub reading : ℕ → ℕ → Reading
reading place found = record { place = place; found = found }

abbrev pub pen_view : ℕ → List ℕ → List Reading → PenView
pen_view shares raised read = record { shares = shares; raised = raised; read = read }

-- each number other than 0 that was read was raised
abbrev pub OnlyRaised : List ℕ → List Reading → Type 0
OnlyRaised raised read = (r : Reading) → Among r read → r.found ≢ 0 → Among r.found raised

-- The rule: it holds between any two steps. The shares of all views add up to the number of hands. A view without a share has raised and read nothing
pub record IsRuled (hands : ℕ) (s : State (Unit {0}) PenView) : Type 0 where
  pub whole : total shares_in s.views ≡ hands
  pub spent : (id : ℕ) (v : PenView) → get_elem? s.views id ≡ some v → v.shares ≡ 0 → v ≡ pen_view 0 [] []
  pub wide : length s.words ≡ 64
  pub flags : (w : ℕ) → w < 64 → IsFlag s.views w (slice_index s.words w)
  pub only : (id : ℕ) (v : PenView) → get_elem? s.views id ≡ some v → (r : Reading) → Among r v.read → r.found ≢ 0 → Raised s.views r.found

-- Raise: the ticket that was stored joins the raised ones
abbrev pub raises : Step (Unit {0}) → Me (Unit {0}) PenView → ℕ → Me (Unit {0}) PenView → Type 0
raises st m r m' = m' ≡ (pen_view m.0.shares (m.0.raised ++ st.first ∷ []) m.0.read, m.1)

-- Read: the word's place and what it held join what was read
abbrev pub reads : Step (Unit {0}) → Me (Unit {0}) PenView → ℕ → Me (Unit {0}) PenView → Type 0
reads st m r m' = m' ≡ (pen_view m.0.shares m.0.raised (m.0.read ++ reading st.word r ∷ []), m.1)

-- Split: one share goes, and the new view has it and empty lists
abbrev pub less_one : PenView → PenView
less_one v = record v { shares = v.shares - 1 }

abbrev pub of_one : PenView → PenView
of_one v = pen_view 1 [] []

-- Join: one view has the shares and lists of both, and the other is spent
abbrev pub both_of : PenView → PenView → PenView
both_of v w = pen_view (v.shares + w.shares) (v.raised ++ w.raised) (v.read ++ w.read)

abbrev pub spent_view : PenView
spent_view = pen_view 0 [] []
