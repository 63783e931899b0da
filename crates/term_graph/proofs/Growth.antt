-- Tables that have grown, and stacks in them.
use Rattle.std.proofs.Common.{◌≡◌, ℕ, ◌<◌, List, [], ◌∷◌, ◌++◌, Option, Some, None, length, slice_get, refl, sym, ap, ◌∙◌, subst, append_assoc}
use Rattle.std.proofs.lemmas.List.{append-nil}
use Rattle.std.proofs.lemmas.Option.{slice_get_within}
use Rattle.rules_code.specs.declared.code.CodeBody.{CodeBody}
use Rattle.slot_laws.specs.SlotRules.{SlotPart, SlotFrame, SlotTerm, at}
use Rattle.local_steps.specs.declared.active.Frame.{Frame}
use Rattle.local_steps.specs.Machine.{active_of, frame_of, frames_of}
use Rattle.number_tables.specs.Tables.{Grows}
use Rattle.term_graph.specs.tables.Numbered.{Numbered, HasGrown, IsStack, term_in, of_term, over_stack}
use Rattle.term_graph.specs.declared.tables.term.Term.{Term}

pub grows_same : {X : Type 0} (xs : List X) → Grows xs xs
grows_same xs = ([], sym (append-nil xs))

pub grows_on : {X : Type 0} (xs ys zs : List X) → Grows xs ys → Grows ys zs → Grows xs zs
grows_on xs ys zs g h = (g.0 ++ h.0, h.1 ∙ ap (λ ws. ws ++ h.0) g.1 ∙ append_assoc xs g.0 h.0)

pub grown_same : (g : Numbered) → HasGrown g g
grown_same g = record { stacks = grows_same g.stacks; terms = grows_same g.terms }

pub grown_on : (f g h : Numbered) → HasGrown f g → HasGrown g h → HasGrown f h
grown_on f g h a b = record { stacks = grows_on f.stacks g.stacks h.stacks a.stacks b.stacks; terms = grows_on f.terms g.terms h.terms a.terms b.terms }

-- a frame inside a stack that stands for these
pub pushed_more : (f g : Numbered) (b : CodeBody) (m n : ℕ) (x : SlotFrame) (ss : List SlotFrame) → IsStack f b m ss
    → ((fs : List Frame) → slice_get f.stacks m ≡ Some fs → IsStack g b n (x ∷ frames_of b fs)) → IsStack g b n (x ∷ ss)
pushed_more f g b m n x ss is more = let k = more is.0 is.1 in (k.0, k.1, k.2 ∙ ap (λ z. x ∷ z) is.2)

-- ---- the term of a number

pub parts_of : (g : Numbered) (b : CodeBody) (t : Term) (n : ℕ) (st : SlotTerm) → slice_get g.terms n ≡ Some t → term_in g b n ≡ Some st
    → (fs : List Frame) × (slice_get g.stacks t.stack ≡ Some fs) × (at (active_of b t.part) (frames_of b fs) ≡ st)
parts_of g b t n st e h = by (slice_get g.stacks t.stack) refl (ap (of_term b g.stacks) (sym e) ∙ h)
  where
    by : (o : Option (List Frame)) → slice_get g.stacks t.stack ≡ o → over_stack b (active_of b t.part) (slice_get g.stacks t.stack) ≡ Some st
        → (fs : List Frame) × (slice_get g.stacks t.stack ≡ Some fs) × (at (active_of b t.part) (frames_of b fs) ≡ st)
    by None q k = absurd (let z : None ≡ Some st = ap (over_stack b (active_of b t.part)) (sym q) ∙ k in cc z)
    by (Some fs) q k = (fs, q, let z : Some (at (active_of b t.part) (frames_of b fs)) ≡ Some st = ap (over_stack b (active_of b t.part)) (sym q) ∙ k in cc z)

-- its stack
pub stack_is : (g : Numbered) (b : CodeBody) (t : Term) (n : ℕ) (st : SlotTerm) → slice_get g.terms n ≡ Some t → term_in g b n ≡ Some st → IsStack g b t.stack st.frames
stack_is g b t n st e h = let k = parts_of g b t n st e h in (k.0, k.1, ap (λ (x : SlotTerm). x.frames) k.2)

-- a part in the stack of a number, where that stands for these frames
pub in_stack : (f g : Numbered) (b : CodeBody) (n m : ℕ) (p : SlotPart) (ss : List SlotFrame) → IsStack f b m ss → ((fs : List Frame) → slice_get f.stacks m ≡ Some fs → term_in g b n ≡ Some (at p (frames_of b fs))) → term_in g b n ≡ Some (at p ss)
in_stack f g b n m p ss is h = h is.0 is.1 ∙ ap (λ z. Some (at p z)) is.2
