-- Which of two broken rules comes first is told by their positions and ranks alone.
use Rattle.std.proofs.Common.{◌≡◌, [], List, refl, ap, ◌∙◌, ltb}
use Rattle.rules_typing.specs.TypingFaults.{place, rank}
use Rattle.typing_judge.specs.Least.{before, before_at}
use Rattle.typing_table.specs.declared.table.TypeNode.{TypeNode}
use Rattle.typing_parts.specs.Views.{broken_of}
use Rattle.typing_parts.specs.declared.first.Broken.{Broken}
use Rattle.typing_parts.specs.declared.first.Broken.TheVariants as b

place_by : (ms : List TypeNode) (f : Broken) → place (broken_of ms f) ≡ place (broken_of [] f)
place_by ms (b.Twice p) = refl
place_by ms (b.Unknown p) = refl
place_by ms (b.Kind p) = refl
place_by ms (b.Forward p) = refl
place_by ms (b.Arity p m n) = refl
place_by ms (b.Mismatch p m t) = refl
place_by ms (b.Scope p) = refl
place_by ms (b.Wide p) = refl
place_by ms (b.Large p) = refl

rank_by : (ms : List TypeNode) (f : Broken) → rank (broken_of ms f) ≡ rank (broken_of [] f)
rank_by ms (b.Twice p) = refl
rank_by ms (b.Unknown p) = refl
rank_by ms (b.Kind p) = refl
rank_by ms (b.Forward p) = refl
rank_by ms (b.Arity p m n) = refl
rank_by ms (b.Mismatch p m t) = refl
rank_by ms (b.Scope p) = refl
rank_by ms (b.Wide p) = refl
rank_by ms (b.Large p) = refl

pub before_by : (ms : List TypeNode) (f g : Broken) → before (broken_of ms f) (broken_of ms g) ≡ before (broken_of [] f) (broken_of [] g)
before_by ms f g =
    let q = place (broken_of ms g) in
    ap (λ p. before_at p q (ltb (rank (broken_of ms f)) (rank (broken_of ms g)))) (place_by ms f)
    ∙ (ap (λ z. before_at (place (broken_of [] f)) z (ltb (rank (broken_of ms f)) (rank (broken_of ms g)))) (place_by ms g)
    ∙ (ap (λ z. before_at (place (broken_of [] f)) (place (broken_of [] g)) (ltb z (rank (broken_of ms g)))) (rank_by ms f)
    ∙ ap (λ z. before_at (place (broken_of [] f)) (place (broken_of [] g)) (ltb (rank (broken_of [] f)) z)) (rank_by ms g)))
