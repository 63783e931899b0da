-- An action that is a form of async scopes comes to that form's template with its own parts in it.
use Rattle.std.proofs.Common.{◌≡◌, List, IfSome, Some, refl, sym, subst}
use Rattle.hs_base.specs.declared.pos.Pos.{Pos}
use Rattle.hs_base.specs.declared.tree.forms.UnaryAction.{UnaryAction}
use Rattle.hs_base.specs.declared.tree.forms.UnaryAction.TheVariants as u
use Rattle.hs_base.specs.declared.tree.forms.GuardAction.{GuardAction}
use Rattle.hs_base.specs.declared.tree.forms.GuardAction.TheVariants as g
use Rattle.rules_expansion.specs.declared.template.Derived.{Derived}
use Rattle.rules_expansion.specs.declared.template.Step.{Step}
use Rattle.rules_expansion.specs.Templates.{steps}
use Rattle.rules_expansion.specs.trees.Trees.{Ex}
use Rattle.rules_expansion.specs.trees.Programs as tree
use Rattle.rules_expansion.specs.trees.Programs.{SurfaceAction, Bl}
use Rattle.conc_lib.specs.Scopes.{IsOfForm, Spells, unary_form, guard_form, scope_form}

unary_stands : (w : UnaryAction) (p : Pos) (e : Ex) → IfSome (unary_form w) (λ o. IsOfForm o (tree.unary_act w p e))
unary_stands u.Wait p e = refl
unary_stands u.Cancel p e = refl
unary_stands w p e = tt

guard_stands : (w : GuardAction) (p : Pos) (a c : Bl) → IfSome (guard_form w) (λ o. IsOfForm o (tree.guard w p a c))
guard_stands g.Race p a c = refl
guard_stands g.Concurrently p a c = refl
guard_stands w p a c = tt

scope_stands : (a : SurfaceAction) → IfSome (scope_form a) (λ o. IsOfForm o a)
scope_stands (tree.unary_act w p e) = unary_stands w p e
scope_stands (tree.guard w p a c) = guard_stands w p a c
scope_stands (tree.with_async p a x c) = refl
scope_stands a = tt

-- The steps of the form that it is spell it.
pub form_spells : (a : SurfaceAction) (o : Derived) (row : List Step) → scope_form a ≡ Some o → row ≡ steps o → Spells row a
form_spells a o row e r = record { form = o; is = e; written = r; filled = sym (subst (λ f. IfSome f (λ o. IsOfForm o a)) e (scope_stands a)) }
