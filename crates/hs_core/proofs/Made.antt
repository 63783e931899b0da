-- The steps of a template make the tree of the template with a form's parts in it.
use Rattle.std.proofs.Common.{◌≡◌, ℕ, List, ◌∷◌, refl, ap, ◌∙◌, sym, cond, false}
use Rattle.rules_expansion.specs.declared.template.Binder.{Binder}
use Rattle.rules_expansion.specs.declared.template.Binder.TheVariants as b
use Rattle.rules_expansion.specs.declared.template.Step.{Step}
use Rattle.rules_expansion.specs.declared.template.Step.TheVariants as p
use Rattle.rules_expansion.specs.Names.{Name}
use Rattle.rules_expansion.specs.Core.{ActionFunction}
use Rattle.rules_expansion.specs.Templates.{Template, hole, give, throw, let_in, bind, then, choose, either, perform, perform_one, perform_two, fork, fork_unmask, catch, mask, mask_hard, restore, Filling, named, operand, fill, flat}
use Rattle.rules_code.specs.Slots.{Sx, Scope, Root}
use Rattle.rules_code.specs.CodeTrees.{Sa, a_let, a_bind, a_then, a_either, a_fork_unmask, a_catch, a_mask, a_mask_hard, is_unread, slotted_core, slotted_core_ex}
use Rattle.hs_nodes.specs.declared.names.ScopedName.{ScopedName}
use Rattle.hs_nodes.specs.Names.{name_of}
use Rattle.hs_core.specs.Making.{Trees, above, bound, run}

pub bound_is : (y : List ℕ) (x : Binder) → name_of (bound y x) ≡ named y x
bound_is y (b.Own h) = refl
bound_is y b.Given = refl

is_read : (y : List ℕ) (x : Binder) → is_unread (named y x) ≡ false
is_read y (b.Own h) = refl
is_read y b.Given = refl

abbrev waiting : List ScopedName → List Sx → List Sa → Trees
waiting ns xs us = record { names = ns; operands = xs; acts = us }

module _ (rs : List Root) (fs : List ActionFunction) (s : Scope) (f : Filling) where
  abbrev made_of : Template → List ScopedName → Sa
  made_of t ns = slotted_core rs fs (above ns s) (fill f t)

  abbrev inner : Template → Name → List ScopedName → Sa
  inner t x ns = slotted_core rs fs (x ∷ above ns s) (fill f t)

  abbrev on : List Step → List ScopedName → List Sx → List Sa → Trees
  on k ns xs us = run rs fs s f k (waiting ns xs us)

  -- a name is that of its entry
  entered : (x : Binder) (t : Template) (ns : List ScopedName) (k : List Step) (xs : List Sx) (us : List Sa) (g : Sa → Sa)
      → on k ns xs (g (made_of t (bound f.given x ∷ ns)) ∷ us) ≡ on k ns xs (g (inner t (named f.given x) ns) ∷ us)
  entered x t ns k xs us g = ap (λ z. on k ns xs (g (inner t z ns) ∷ us)) (bound_is f.given x)

  binds : (x : Binder) (a c : Template) (ns : List ScopedName) → a_bind (made_of a ns) (inner c (named f.given x) ns) ≡ made_of (bind x a c) ns
  binds x a c ns = sym (ap (λ z. cond z (a_then (made_of a ns) (made_of c ns)) (a_bind (made_of a ns) (inner c (named f.given x) ns))) (is_read f.given x))

  pub makes : (t : Template) (k : List Step) (ns : List ScopedName) (xs : List Sx) (us : List Sa) → on (flat t k) ns xs us ≡ on k ns xs (made_of t ns ∷ us)
  makes (hole i) k ns xs us = refl
  makes (give e) k ns xs us = refl
  makes (throw e) k ns xs us = refl
  makes (let_in x e a) k ns xs us =
      makes a (p.Off ∷ p.Let ∷ k) (bound f.given x ∷ ns) (slotted_core_ex rs (above ns s) (operand f e) ∷ xs) us
      ∙ entered x a ns k xs us (a_let (slotted_core_ex rs (above ns s) (operand f e)))
  makes (bind x a c) k ns xs us =
      makes a (p.Under x ∷ flat c (p.Off ∷ p.Bind ∷ k)) ns xs us
      ∙ (makes c (p.Off ∷ p.Bind ∷ k) (bound f.given x ∷ ns) xs (made_of a ns ∷ us)
      ∙ (entered x c ns k xs us (a_bind (made_of a ns)) ∙ ap (λ z. on k ns xs (z ∷ us)) (binds x a c ns)))
  makes (then a c) k ns xs us = makes a (flat c (p.Then ∷ k)) ns xs us ∙ makes c (p.Then ∷ k) ns xs (made_of a ns ∷ us)
  makes (choose e a c) k ns xs us =
      let x = slotted_core_ex rs (above ns s) (operand f e) in
      makes a (flat c (p.If ∷ k)) ns (x ∷ xs) us ∙ makes c (p.If ∷ k) ns (x ∷ xs) (made_of a ns ∷ us)
  makes (either e x a y c) k ns xs us =
      let v = slotted_core_ex rs (above ns s) (operand f e) in
      let left = bound f.given x ∷ ns in
      let right = bound f.given y ∷ ns in
      makes a (p.Off ∷ p.Under y ∷ flat c (p.Off ∷ p.CaseEither ∷ k)) left (v ∷ xs) us
      ∙ (makes c (p.Off ∷ p.CaseEither ∷ k) right (v ∷ xs) (made_of a left ∷ us)
      ∙ (entered x a ns k xs us (λ z. a_either v z (made_of c right)) ∙ entered y c ns k xs us (a_either v (inner a (named f.given x) ns))))
  makes (perform q) k ns xs us = refl
  makes (perform_one q e) k ns xs us = refl
  makes (perform_two q e h) k ns xs us = refl
  makes (fork a) k ns xs us = makes a (p.Fork ∷ k) ns xs us
  makes (fork_unmask x a) k ns xs us = makes a (p.Off ∷ p.ForkUnmask ∷ k) (bound f.given x ∷ ns) xs us ∙ entered x a ns k xs us a_fork_unmask
  makes (catch a x c) k ns xs us =
      makes a (p.Under x ∷ flat c (p.Off ∷ p.Catch ∷ k)) ns xs us
      ∙ (makes c (p.Off ∷ p.Catch ∷ k) (bound f.given x ∷ ns) xs (made_of a ns ∷ us) ∙ entered x c ns k xs us (a_catch (made_of a ns)))
  makes (mask x a) k ns xs us = makes a (p.Off ∷ p.Mask ∷ k) (bound f.given x ∷ ns) xs us ∙ entered x a ns k xs us a_mask
  makes (mask_hard x a) k ns xs us = makes a (p.Off ∷ p.MaskHard ∷ k) (bound f.given x ∷ ns) xs us ∙ entered x a ns k xs us a_mask_hard
  makes (restore x a) k ns xs us = makes a (p.Restore x ∷ k) ns xs us
