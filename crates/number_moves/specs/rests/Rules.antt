-- What is known of eager local rules (own).
use Rattle.std.specs.Prelude.{◌≡◌, ℕ, true, List, Option, Some, None, slice_get}
use Rattle.hs_base.specs.declared.mask.Mask.TheVariants.{Unmasked}
use Rattle.rules_code.specs.declared.code.CodeBody.{CodeBody}
use Rattle.slot_laws.specs.SlotRules.{local}
use Rattle.local_steps.specs.Machine.{funs_of}
use Rattle.term_graph.specs.Eager.{is_eager}
use Rattle.number_states.specs.Stocks.{Stock, IsTerm, term_at}
use Rattle.number_moves.specs.declared.rests.rules.Rule.{Rule}
use Rattle.number_moves.specs.declared.rests.rules.Rule.TheVariants.{Unknown, Other, Eager}
use Rattle.number_moves.specs.declared.rests.rules.EagerRules.{EagerRules}

-- past the end of the list nothing is known
abbrev pub or_unknown : Option Rule → Rule
or_unknown None = Unknown
or_unknown (Some r) = r

abbrev pub rule_at : List Rule → ℕ → Rule
rule_at rs n = or_unknown (slice_get rs n)

-- the local rule of the term of a number is eager, and leads to the term of the other
pub record LeadsEagerly (b : CodeBody) (g : Stock) (n to : ℕ) : Type 0 where
  pub there : IsTerm g n
  pub goes : IsTerm g to
  pub leads : local (funs_of b) Unmasked (term_at g b n).part (term_at g b n).frames ≡ Some (term_at g b to)
  pub eager : is_eager (funs_of b) (term_at g b n) ≡ true

-- Where nothing is known nothing is said, and where the rule isn't eager nothing follows from it.
abbrev pub IsRule : CodeBody → Stock → ℕ → Rule → Type 0
IsRule b g n Unknown = Unit {0}
IsRule b g n Other = Unit {0}
IsRule b g n (Eager to) = LeadsEagerly b g n to

-- what is known of the terms of these numbers, by the code, is so
abbrev pub AreRules : CodeBody → Stock → EagerRules → Type 0
AreRules b g r = (n : ℕ) → IsRule b g n (rule_at r.known.items n)
