-- What a move makes, by the changes that it is made of.
use Rattle.std.proofs.Common.{◌≡◌, ℕ, [], Option, Some, None, cond, slice_get, sym, ap, ◌∙◌, subst}
use Rattle.std.proofs.lemmas.List.{append-nil}
use Rattle.rules_code.specs.declared.code.CodeBody.{CodeBody}
use Rattle.slot_states.specs.SlotStates.{SlotThread, SlotState}
use Rattle.slot_states.specs.entering.Entering.{on_thread}
use Rattle.number_states.specs.declared.state.NumberThread.{NumberThread}
use Rattle.number_states.specs.declared.state.NumberState.{NumberState}
use Rattle.number_states.specs.Stocks.{Stock, HasGrown, IsTerm, text_at}
use Rattle.number_states.specs.States.{Contents, contents, thread_of, slots_of, slots, AllIn, AreIn, Becomes}
use Rattle.number_states.proofs.Growth.{text_at_on}
use Rattle.number_states.proofs.Changes.{becomes_then, becomes_same, got_mapped, all_at}
use Rattle.number_changes.specs.Moves.{Makes, IsActing}

-- ---- changes

pub contents_become : (f : CodeBody → SlotState → SlotState) (g : Stock) (x y : NumberState) (d : Contents) → contents y ≡ d → AllIn g d → d.output ≡ x.output → d.errors ≡ x.errors
    → ((b : CodeBody) → slots_of g b d ≡ f b (slots g b x)) → Becomes f g x g y
contents_become f g x y d e all out err is = record {
  is = λ b. ap (slots_of g b) e ∙ is b;
  there = subst (AllIn g) (sym e) all;
  output = ap (λ (z : Contents). z.output) e ∙ out;
  errors = ap (λ (z : Contents). z.errors) e ∙ err;
}

-- of a copy
pub of_copy : (f : CodeBody → SlotState → SlotState) (g h : Stock) (x c y : NumberState) → contents c ≡ contents x → Becomes f g c h y → Becomes f g x h y
of_copy f g h x c y e p = record {
  is = λ b. p.is b ∙ ap (λ z. f b (slots_of g b z)) e;
  there = p.there;
  output = p.output ∙ ap (λ (z : Contents). z.output) e;
  errors = p.errors ∙ ap (λ (z : Contents). z.errors) e;
}

-- of a state that was there before the tables grew
pub of_older : (f : CodeBody → SlotState → SlotState) (g h i : Stock) (x y : NumberState) → AreIn g x → HasGrown g h → Becomes f h x i y → Becomes f g x i y
of_older f g h i x y all grown p = becomes_then (λ b s. s) f g h i x x y (becomes_same g h x all grown) p

-- by a function that makes the same
pub becomes_as : (e f : CodeBody → SlotState → SlotState) (g h : Stock) (x y : NumberState) → ((b : CodeBody) → e b (slots g b x) ≡ f b (slots g b x)) → Becomes e g x h y → Becomes f g x h y
becomes_as e f g h x y k p = record {
  is = λ b. p.is b ∙ k b;
  there = p.there;
  output = p.output;
  errors = p.errors;
}

pub copy_in : (g : Stock) (x c : NumberState) → contents c ≡ contents x → AreIn g x → AreIn g c
copy_in g x c e all = subst (AllIn g) (sym e) all

-- ---- what is found

pub makes : (f : CodeBody → SlotState → SlotState) (k : SlotState → Option SlotState) (b : CodeBody) (g h : Stock) (x y : NumberState) → AreIn g x → HasGrown g h → Becomes f g x h y
    → k (slots g b x) ≡ Some (f b (slots g b x)) → Makes k b g x [] [] h y
makes f k b g h x y all grown p e = record {
  is = e ∙ ap (λ s. Some s) (sym (p.is b));
  there = p.there;
  output = ap (text_at h) p.output ∙ text_at_on g h grown x.output all.output ∙ sym (append-nil (text_at g x.output));
  errors = ap (text_at h) p.errors ∙ text_at_on g h grown x.errors all.errors ∙ sym (append-nil (text_at g x.errors));
}

-- ---- a thread that acts

pub on_acting : (g : Stock) (b : CodeBody) (x : NumberState) (t : ℕ) (th : NumberThread) (k : SlotThread → Option SlotState) → IsActing x t th → on_thread (slice_get (slots g b x).threads t) k ≡ k (thread_of g b th)
on_acting g b x t th k a =
    ap (λ o. on_thread o k) (got_mapped (thread_of g b) x.threads.items t th a.is) ∙ ap (λ z. cond z None (k (thread_of g b th))) a.unfinished

pub acting_term : (g : Stock) (x : NumberState) (t : ℕ) (th : NumberThread) → AreIn g x → IsActing x t th → IsTerm g th.term
acting_term g x t th all a = all_at (λ (u : NumberThread). IsTerm g u.term) x.threads.items t th all.threads a.is
