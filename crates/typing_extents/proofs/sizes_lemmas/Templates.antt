-- The size of a filled template is that of its steps.
use Rattle.std.proofs.Common.{◌≡◌, ℕ, ◌+◌, List, [], ◌∷◌, refl, arith, min}
use Rattle.rules_expansion.specs.declared.template.Derived.{Derived}
use Rattle.rules_expansion.specs.declared.template.Operand.{Operand}
use Rattle.rules_expansion.specs.declared.template.Operand.TheVariants as x
use Rattle.rules_expansion.specs.declared.template.FormBlock.{FormBlock}
use Rattle.rules_expansion.specs.declared.template.FormBlock.TheVariants as part
use Rattle.rules_expansion.specs.declared.template.Step.{Step}
use Rattle.rules_expansion.specs.declared.template.Step.TheVariants as s
use Rattle.rules_expansion.specs.Templates.{Template, hole, give, throw, let_in, bind, then, choose, either, perform, perform_one, perform_two, fork, fork_unmask, catch, mask, mask_hard, restore, Filling, operand, fill, flat, steps, template}
use Rattle.rules_expansion.specs.Expansion.{of_three, derived}
use Rattle.rules_expansion.specs.Sizes.{core_ex_size, core_size, operand_size, step_size, steps_size}
use Rattle.typing_extents.specs.sizes.Counted.{Counted}

operand_is : (f : Filling) (e : Operand) → core_ex_size (operand f e) ≡ operand_size (core_ex_size f.subject) e
operand_is f x.Subject = refl
operand_is f (x.Read y) = refl
operand_is f (x.JustRead y) = refl
operand_is f x.NoValue = refl
operand_is f (x.BelowZero y) = refl
operand_is f (x.IsZero y) = refl
operand_is f (x.SameExn y z) = refl
operand_is f x.Killed = refl
operand_is f x.Nil = refl
operand_is f (x.LeftRead y) = refl
operand_is f (x.RightRead y) = refl
operand_is f (x.RightLeft y) = refl
operand_is f (x.RightRight y) = refl
operand_is f x.RightNil = refl
operand_is f (x.PairRead y z) = refl
operand_is f (x.FirstOf y) = refl
operand_is f (x.SecondOf y) = refl

abbrev filled : Filling → List Step → ℕ
filled f k = steps_size (core_ex_size f.subject) (λ i. core_size (f.block i)) k

-- a template's steps count what the filled template has
pub flat_size : (f : Filling) (t : Template) (k : List Step) → filled f (flat t k) ≡ core_size (fill f t) + filled f k
flat_size f (hole i) k = refl
flat_size f (give e) k = let h = operand_is f e in omega (arith, h)
flat_size f (throw e) k = let h = operand_is f e in omega (arith, h)
flat_size f (let_in y e a) k = let h = operand_is f e in let i = flat_size f a (s.Off ∷ s.Let ∷ k) in omega (arith, h, i)
flat_size f (bind y a c) k = let i = flat_size f a (s.Under y ∷ flat c (s.Off ∷ s.Bind ∷ k)) in let j = flat_size f c (s.Off ∷ s.Bind ∷ k) in omega (arith, i, j)
flat_size f (then a c) k = let i = flat_size f a (flat c (s.Then ∷ k)) in let j = flat_size f c (s.Then ∷ k) in omega (arith, i, j)
flat_size f (choose e a c) k = let h = operand_is f e in let i = flat_size f a (flat c (s.If ∷ k)) in let j = flat_size f c (s.If ∷ k) in omega (arith, h, i, j)
flat_size f (either e y a z c) k =
    let h = operand_is f e in let i = flat_size f a (s.Off ∷ s.Under z ∷ flat c (s.Off ∷ s.CaseEither ∷ k)) in let j = flat_size f c (s.Off ∷ s.CaseEither ∷ k) in omega (arith, h, i, j)
flat_size f (perform q) k = omega arith
flat_size f (perform_one q e) k = let h = operand_is f e in omega (arith, h)
flat_size f (perform_two q e d) k = let h = operand_is f e in let i = operand_is f d in omega (arith, h, i)
flat_size f (fork a) k = let i = flat_size f a (s.Fork ∷ k) in omega (arith, i)
flat_size f (fork_unmask y a) k = let i = flat_size f a (s.Off ∷ s.ForkUnmask ∷ k) in omega (arith, i)
flat_size f (catch a y c) k = let i = flat_size f a (s.Under y ∷ flat c (s.Off ∷ s.Catch ∷ k)) in let j = flat_size f c (s.Off ∷ s.Catch ∷ k) in omega (arith, i, j)
flat_size f (mask y a) k = let i = flat_size f a (s.Off ∷ s.Mask ∷ k) in omega (arith, i)
flat_size f (mask_hard y a) k = let i = flat_size f a (s.Off ∷ s.MaskHard ∷ k) in omega (arith, i)
flat_size f (restore y a) k = let i = flat_size f a (s.Restore y ∷ k) in omega (arith, i)

-- ---- counts of parts up to the greatest, in a sum up to it

operand_capped : (m n : ℕ) → m ≡ min n 1000001 → (e : Operand) → min (operand_size m e) 1000001 ≡ min (operand_size n e) 1000001
operand_capped m n h x.Subject = omega (arith, h)
operand_capped m n h e = refl

part_capped : (f : Filling) (m a c e : ℕ) → Counted f m a c e → (i : FormBlock) → min (of_three a c e i) 1000001 ≡ min (core_size (f.block i)) 1000001
part_capped f m a c e h part.First = omega (arith, h.first)
part_capped f m a c e h part.Second = omega (arith, h.second)
part_capped f m a c e h part.Third = omega (arith, h.third)

step_capped : (f : Filling) (m a c e : ℕ) → Counted f m a c e → (k : Step) → min (step_size m (of_three a c e) k) 1000001 ≡ min (step_size (core_ex_size f.subject) (λ i. core_size (f.block i)) k) 1000001
step_capped f m a c e h (s.Hole i) = part_capped f m a c e h i
step_capped f m a c e h (s.Push d) = operand_capped m (core_ex_size f.subject) h.subject d
step_capped f m a c e h k = refl

steps_capped : (f : Filling) (m a c e : ℕ) → Counted f m a c e → (k : List Step) → min (steps_size m (of_three a c e) k) 1000001 ≡ min (filled f k) 1000001
steps_capped f m a c e h [] = refl
steps_capped f m a c e h (k ∷ ks) = let i = step_capped f m a c e h k in let j = steps_capped f m a c e h ks in omega (arith, i, j)

-- the count of a form's steps is that of what it stands for
pub derived_size : (o : Derived) (f : Filling) (m a c e : ℕ) → Counted f m a c e → min (steps_size m (of_three a c e) (steps o)) 1000001 ≡ min (core_size (derived o f)) 1000001
derived_size o f m a c e h = let i = steps_capped f m a c e h (steps o) in let j = flat_size f (template o) [] in omega (arith, i, j)
