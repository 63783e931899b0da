-- Terms by number (own). Two actions of a code with equal trees have two numbers there, so terms that differ in these alone have
-- two numbers here, though they stand for one term with slots.
use Rattle.std.specs.Prelude.{◌≡◌, ℕ, ◌<◌, List, Option, Some, None, length, slice_get}
use Rattle.rules_code.specs.declared.code.CodeBody.{CodeBody}
use Rattle.slot_laws.specs.SlotRules.{SlotFrame, SlotPart, SlotTerm, at}
use Rattle.local_steps.specs.declared.active.Frame.{Frame}
use Rattle.local_steps.specs.Machine.{active_of, frames_of}
use Rattle.term_graph.specs.declared.tables.term.Term.{Term}
use Rattle.term_graph.specs.tables.Keys.{part_key}
use Rattle.number_tables.specs.Tables.{Grows}

-- stacks and terms, by number
pub record Numbered : Type 0 where
  pub stacks : List (List Frame)
  pub terms : List Term

abbrev pub numbered : List (List Frame) → List Term → Numbered
numbered stacks terms = record { stacks = stacks; terms = terms }

abbrev pub over_stack : CodeBody → SlotPart → Option (List Frame) → Option SlotTerm
over_stack b p None = None
over_stack b p (Some fs) = Some (at p (frames_of b fs))

abbrev pub of_term : CodeBody → List (List Frame) → Option Term → Option SlotTerm
of_term b stacks None = None
of_term b stacks (Some t) = over_stack b (active_of b t.part) (slice_get stacks t.stack)

-- the stacks of terms are there
abbrev pub StandIn : List Term → List (List Frame) → Type 0
StandIn ts stacks = (n : ℕ) (t : Term) → slice_get ts n ≡ Some t → t.stack < length stacks

-- the term with slots that a number stands for
abbrev pub term_in : Numbered → CodeBody → ℕ → Option SlotTerm
term_in g b n = of_term b g.stacks (slice_get g.terms n)

-- the stack of a number stands for these frames
abbrev pub IsStack : Numbered → CodeBody → ℕ → List SlotFrame → Type 0
IsStack g b n ss = (fs : List Frame) × (slice_get g.stacks n ≡ Some fs) × (frames_of b fs ≡ ss)

-- the other has more stacks and more terms behind those of the one
pub record HasGrown (old new : Numbered) : Type 0 where
  pub stacks : Grows old.stacks new.stacks
  pub terms : Grows old.terms new.terms

-- no two stacks have the same frames
abbrev pub StacksApart : Numbered → Type 0
StacksApart g = (i j : ℕ) (fs : List Frame) → slice_get g.stacks i ≡ Some fs → slice_get g.stacks j ≡ Some fs → i ≡ j

-- no two terms have the same stack and parts of one key
abbrev pub TermsApart : Numbered → Type 0
TermsApart g = (i j : ℕ) (s t : Term) → slice_get g.terms i ≡ Some s → slice_get g.terms j ≡ Some t → s.stack ≡ t.stack → part_key s.part ≡ part_key t.part → i ≡ j
