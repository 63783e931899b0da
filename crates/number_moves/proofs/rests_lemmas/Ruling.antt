-- What is known of eager rules stays so where the tables grow.
use Rattle.std.proofs.Common.{◌≡◌, ℕ, true, Some, sym, ap, ◌∙◌, subst}
use Rattle.hs_base.specs.declared.mask.Mask.TheVariants.{Unmasked}
use Rattle.rules_code.specs.declared.code.CodeBody.{CodeBody}
use Rattle.slot_laws.specs.SlotRules.{SlotTerm, local}
use Rattle.local_steps.specs.Machine.{funs_of}
use Rattle.term_graph.specs.Eager.{is_eager}
use Rattle.number_states.specs.Stocks.{Stock, HasGrown, IsTerm, term_at}
use Rattle.number_states.proofs.Growth.{is_term_on, term_at_on}
use Rattle.number_moves.specs.declared.rests.rules.Rule.{Rule}
use Rattle.number_moves.specs.declared.rests.rules.Rule.TheVariants.{Unknown, Other, Eager}
use Rattle.number_moves.specs.declared.rests.rules.EagerRules.{EagerRules}
use Rattle.number_moves.specs.rests.Rules.{rule_at, LeadsEagerly, IsRule, AreRules}

-- what is found out of the term of a number is said where the tables have grown by it
pub found_eager : (b : CodeBody) (g h : Stock) (n to : ℕ) → HasGrown g h → IsTerm g n → IsTerm h to → local (funs_of b) Unmasked (term_at g b n).part (term_at g b n).frames ≡ Some (term_at h b to) → is_eager (funs_of b) (term_at g b n) ≡ true → LeadsEagerly b h n to
found_eager b g h n to grown there goes leads eager =
    let same = sym (term_at_on g h grown b n there) in
    record {
      there = is_term_on g h grown n there;
      goes = goes;
      leads = subst (λ (st : SlotTerm). local (funs_of b) Unmasked st.part st.frames ≡ Some (term_at h b to)) same leads;
      eager = subst (λ st. is_eager (funs_of b) st ≡ true) same eager;
    }

rule_on : (b : CodeBody) (g h : Stock) (grown : HasGrown g h) (n : ℕ) (rule : Rule) → IsRule b g n rule → IsRule b h n rule
rule_on b g h grown n Unknown r = tt
rule_on b g h grown n Other r = tt
rule_on b g h grown n (Eager to) r = found_eager b g h n to grown r.there (is_term_on g h grown to r.goes) (r.leads ∙ ap Some (sym (term_at_on g h grown b to r.goes))) r.eager

-- what is known is still so
pub rules_on : (b : CodeBody) (g h : Stock) (r : EagerRules) → HasGrown g h → AreRules b g r → AreRules b h r
rules_on b g h r grown known n = rule_on b g h grown n (rule_at r.known.items n) (known n)
