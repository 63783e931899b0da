-- At one position of a spelled script each rule is broken in one way at most; so there is one first broken rule.
use Rattle.std.proofs.Common.{◌≡◌, ◌<◌, ◌≤◌, List, refl, ap, ◌∙◌, arith, ◌⊎◌, inl, inr}
use Rattle.std.specs.Prelude.{Contains}
use Rattle.hs_base.specs.declared.tree.script.Script.{Script}
use Rattle.rules_tokens.specs.declared.token.Token.{Token}
use Rattle.rules_expansion.specs.trees.Programs.{script_of}
use Rattle.rules_grammar.specs.Grammar.{Spells}
use Rattle.rules_typing.specs.Typing.{Fault}
use Rattle.rules_typing.specs.TypingFaults.{place, rank, Precedes}
use Rattle.rules_typing.specs.TypingScripts.{ScriptBreaks, IsFirstBroken}
use Rattle.typing_judge.specs.JudgingScripts.{script_faults}
use Rattle.typing_judge.proofs.Scripts.{script_breaks}
use Rattle.front_laws.specs.typing.Positions.{positions_of, AreInOrder}
use Rattle.front_laws.proofs.typing_lemmas.Counts.{times_contains}
use Rattle.front_laws.proofs.typing_lemmas.Scripts.{script_most, in_tally, once_same}
use Rattle.front_laws.proofs.typing_lemmas.TokenPlaces.{spelled_once}

pub broken_at_node : (s : Script) (f : Fault) → ScriptBreaks (script_of s) f → Contains (positions_of s) (place f)
broken_at_node s f h =
    times_contains (place f) (positions_of s) (omega (arith, script_most (place f) (rank f) (script_of s), in_tally (script_faults (script_of s)) f f refl refl (script_breaks (script_of s) f h)))

pub broken_once : (ts : List Token) (s : Script) (f g : Fault) → AreInOrder ts → Spells s ts → ScriptBreaks (script_of s) f → ScriptBreaks (script_of s) g → place f ≡ place g → rank f ≡ rank g → f ≡ g
broken_once ts s f g o w h i e k =
    once_same (script_faults (script_of s)) f g e k (omega (arith, script_most (place f) (rank f) (script_of s), spelled_once (place f) ts s o w)) (script_breaks (script_of s) f h) (script_breaks (script_of s) g i)

-- two rules of which each comes before the other stand at one position and are of one number
same_place : (f g : Fault) → Precedes f g → Precedes g f → (place f ≡ place g) × (rank f ≡ rank g)
same_place f g (inl h) (inl k) = absurd (omega (arith, h, k))
same_place f g (inl h) (inr k) = absurd (omega (arith, h, k.0))
same_place f g (inr h) (inl k) = absurd (omega (arith, h.0, k))
same_place f g (inr h) (inr k) = by h.1 k.1
  where
    by : ((place f).col < (place g).col) ⊎ (((place f).col ≡ (place g).col) × (rank f ≤ rank g)) → ((place g).col < (place f).col) ⊎ (((place g).col ≡ (place f).col) × (rank g ≤ rank f)) → (place f ≡ place g) × (rank f ≡ rank g)
    by (inl x) (inl y) = absurd (omega (arith, x, y))
    by (inl x) (inr y) = absurd (omega (arith, x, y.0))
    by (inr x) (inl y) = absurd (omega (arith, x.0, y))
    by (inr x) (inr y) = (ap (λ l. record { line = l; col = (place f).col }) h.0 ∙ ap (λ c. record { line = (place g).line; col = c }) x.0, omega (arith, x.1, y.1))

pub one_first : (ts : List Token) (s : Script) (f g : Fault) → AreInOrder ts → Spells s ts → IsFirstBroken s f → IsFirstBroken s g → f ≡ g
one_first ts s f g o w h k = let e = same_place f g (h.1 g k.0) (k.1 f h.0) in broken_once ts s f g o w h.0 k.0 e.0 e.1
