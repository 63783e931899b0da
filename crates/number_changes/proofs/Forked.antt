-- What a fork makes.
use Rattle.std.proofs.Common.{◌≡◌, length, sym, ap, ap₂, ◌∙◌}
use Rattle.std.proofs.lemmas.List.{length-map}
use Rattle.rules_meaning.specs.Values as val
use Rattle.rules_meaning.specs.Values.{V}
use Rattle.rules_code.specs.declared.code.CodeBody.{CodeBody}
use Rattle.slot_laws.specs.SlotRules.{SlotTerm}
use Rattle.slot_states.specs.SlotStates.{SlotState, answer, answered, spawned, forks_to}
use Rattle.number_states.specs.declared.state.NumberState.{NumberState}
use Rattle.number_states.specs.Stocks.{Stock, HasGrown}
use Rattle.number_states.specs.States.{slots, thread_of, AreIn, Becomes}
use Rattle.number_states.proofs.Changes.{becomes_then}
use Rattle.number_changes.proofs.Made.{of_older, becomes_as}
use Rattle.std.proofs.Common.{ℕ}

module _ (g h i : Stock) (x y z : NumberState) (t : ℕ) (v : V) (term st : CodeBody → SlotTerm) where
  pub fork_becomes : AreIn g x → HasGrown g h → v ≡ val.Thread (length x.threads.items) → ((b : CodeBody) → term b ≡ st b) → Becomes (λ b. answer t v) h x i y → Becomes (λ b s. record s { threads = spawned (term b) s.threads }) i y i z
      → Becomes (λ b. forks_to t (st b)) g x i z
  fork_becomes all grown child begins p q =
      becomes_as (λ b s. record s { threads = spawned (term b) (answered t v s.threads) }) (λ b. forks_to t (st b)) g i x z
      (λ b. ap₂ (λ w n. let s : SlotState = slots g b x in record s { threads = spawned w (answered t n s.threads) }) (begins b) (child ∙ ap (λ n. val.Thread n) (sym (length-map x.threads.items (thread_of g b)))))
      (of_older (λ b s. record s { threads = spawned (term b) (answered t v s.threads) }) g h i x z all grown (becomes_then (λ b. answer t v) (λ b s. record s { threads = spawned (term b) s.threads }) h i i x y z p q))
