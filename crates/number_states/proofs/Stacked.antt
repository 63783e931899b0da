-- Terms of a stock, with their frames.
use Rattle.std.proofs.Common.{◌≡◌, ℕ, suc, ◌<◌, List, [], ◌∷◌, Some, Result, Ok, Err, IfOk, length, slice_get, get_or, refl, sym, ap, ◌∙◌}
use Rattle.std.proofs.lemmas.Option.{slice_get_within, slice_get-get_or}
use Rattle.hs_base.specs.declared.mask.Mask.TheVariants.{Unmasked}
use Rattle.hs_base.specs.declared.exn.Exn.{Exn}
use Rattle.hs_base.specs.declared.value.Value.{Value}
use Rattle.rules_code.specs.declared.code.CodeBody.{CodeBody}
use Rattle.slot_laws.specs.SlotRules.{SlotTerm, at, local}
use Rattle.local_steps.specs.declared.active.Frame.{Frame}
use Rattle.local_steps.specs.Machine.{active_of, frames_of, funs_of}
use Rattle.term_graph.specs.declared.tables.term.Term.{Term}
use Rattle.term_graph.specs.tables.Numbered.{Numbered, term_in, of_term, over_stack}
use Rattle.term_graph.specs.tables.Numbered as terms
use Rattle.term_graph.specs.declared.stepping.LocalStep.{LocalStep}
use Rattle.term_graph.specs.Steps.{Steps}
use Rattle.term_graph.specs.Eager.{is_eager}
use Rattle.term_graph.proofs.Growth.{grows_same, parts_of}
use Rattle.number_states.specs.Stocks.{Stock, stock, HasGrown, IsTerm, term_at, or_bare}

-- two facts of an answer are one
pub both_ok : {X Y : Type 0} (P Q S : X → Type 0) → ((x : X) → P x → Q x → S x) → (r : Result X Y) → IfOk r P → IfOk r Q → IfOk r S
both_ok P Q S k (Ok x) p q = k x p q
both_ok P Q S k (Err y) p q = q

pub grown_terms : (t u : Numbered) (vs : List Value) (es : List Exn) (ts : List (List ℕ)) → terms.HasGrown t u → HasGrown (stock t vs es ts) (stock u vs es ts)
grown_terms t u vs es ts g = record { terms = g; values = grows_same vs; exceptions = grows_same es; texts = grows_same ts }

-- the term of a number is the one that is there
pub term_is : (g : Stock) (b : CodeBody) (n : ℕ) (st : SlotTerm) → term_in g.terms b n ≡ Some st → term_at g b n ≡ st
term_is g b n st e = ap or_bare e

pub term_there : (g : Stock) (b : CodeBody) (n : ℕ) → IsTerm g n → term_in g.terms b n ≡ Some (term_at g b n)
term_there g b n t = let k = t.term b in k.1 ∙ ap (λ st. Some st) (sym (term_is g b n k.0 k.1))

pub stack_at : (g : Stock) (b : CodeBody) (n : ℕ) (t : Term) → slice_get g.terms.terms n ≡ Some t → IsTerm g n
    → (fs : List Frame) × (slice_get g.terms.stacks t.stack ≡ Some fs) × (at (active_of b t.part) (frames_of b fs) ≡ term_at g b n)
stack_at g b n t e is = parts_of g.terms b t n (term_at g b n) e (term_there g b n is)

pub long : (b : CodeBody) (fs : List Frame) → length (frames_of b fs) ≡ length fs
long b [] = refl
long b (f ∷ fs) = ap suc (long b fs)

-- a term that is there with its stack
pub stands_there : (g : Stock) (n : ℕ) (t : Term) → slice_get g.terms.terms n ≡ Some t → t.stack < length g.terms.stacks → IsTerm g n
stands_there g n t e small = record {
  there = slice_get_within g.terms.terms n t e;
  term = λ b. (at (active_of b t.part) (frames_of b (get_or g.terms.stacks t.stack [])), ap (of_term b g.terms.stacks) e ∙ ap (over_stack b (active_of b t.part)) (slice_get-get_or g.terms.stacks t.stack [] small));
}

-- a step of a term
pub stepped : (g : Stock) (b : CodeBody) (st : SlotTerm) (s : LocalStep) → Steps g.terms b st s → (local (funs_of b) Unmasked st.part st.frames ≡ Some (term_at g b s.term)) × (s.eager ≡ is_eager (funs_of b) st)
stepped g b st s h = (h.rule ∙ ap (λ t. Some t) (sym (term_is g b s.term h.next h.is)), h.eager)
