-- Texts that are written piece by piece.
use Rattle.std.proofs.Common.{◌≡◌, ℕ, List, [], ◌∷◌, ◌++◌, OnOk, Result, Ok, Err, refl, sym, ap, ◌∙◌, append_assoc}
use Rattle.std.specs.Prelude.{Bool, false, ◌↔◌, IsTrue, codes}
use Rattle.hs_base.specs.declared.tree.expr.Expr.{Expr}
use Rattle.rules_expansion.specs.trees.Trees.{exs_of}
use Rattle.haskell_module.specs.Expressions.{called}

-- the same piece by another name
pub same_piece : {E : Type 0} (r : Result (Unit {0}) E) (old new piece whole : List ℕ) → OnOk r (new ≡ old ++ piece) → piece ≡ whole → OnOk r (new ≡ old ++ whole)
same_piece (Ok u) old new piece whole e w = e ∙ ap (λ z. old ++ z) w
same_piece (Err u) old new piece whole e w = tt

-- a piece, and the last one behind it
pub behind : {E : Type 0} (r : Result (Unit {0}) E) (old x z a b : List ℕ) → x ≡ old ++ a → OnOk r (z ≡ x ++ b) → OnOk r (z ≡ old ++ (a ++ b))
behind (Ok u) old x z a b e f = f ∙ (ap (λ v. v ++ b) e ∙ append_assoc old a b)
behind (Err u) old x z a b e f = tt

-- one piece more, and two
pub then_one : (old x y a b : List ℕ) → x ≡ old ++ a → y ≡ x ++ b → y ≡ old ++ (a ++ b)
then_one old x y a b e f = f ∙ (ap (λ v. v ++ b) e ∙ append_assoc old a b)

pub then_two : (old x y a b d : List ℕ) → x ≡ old ++ a → y ≡ x ++ (b ++ d) → y ≡ old ++ ((a ++ b) ++ d)
then_two old x y a b d e f = then_one old x y a (b ++ d) e f ∙ ap (λ v. old ++ v) (sym (append_assoc a b d))

-- a call with arguments
pub called_some : (word : List ℕ) (es : List Expr) (b : Bool) (parts : List ℕ) → (IsTrue b ↔ (es ≡ [])) → b ≡ false → codes "(" ++ word ++ parts ++ codes ")" ≡ called word (exs_of es) parts
called_some word [] b parts h f = let t : IsTrue b = h.1 refl in let r : ⊥ = cc in absurd r
called_some word (e ∷ es) b parts h f = refl
