-- Which actions are forms of async scopes (own), and what they come to.
use Rattle.std.specs.Prelude.{◌≡◌, List, [], Option, Some, None}
use Rattle.hs_base.specs.declared.tree.forms.UnaryAction.{UnaryAction}
use Rattle.hs_base.specs.declared.tree.forms.UnaryAction.TheVariants as u
use Rattle.hs_base.specs.declared.tree.forms.GuardAction.{GuardAction}
use Rattle.hs_base.specs.declared.tree.forms.GuardAction.TheVariants as g
use Rattle.rules_expansion.specs.trees.Programs as tree
use Rattle.rules_expansion.specs.trees.Programs.{SurfaceAction}
use Rattle.rules_expansion.specs.declared.template.Derived.{Derived}
use Rattle.rules_expansion.specs.declared.template.Derived.TheVariants as d
use Rattle.rules_expansion.specs.declared.template.Step.{Step}
use Rattle.rules_expansion.specs.Core.{OfScript, NoValue}
use Rattle.rules_expansion.specs.Templates.{Filling, template, fill, flat}
use Rattle.rules_expansion.specs.Expansion.{core, block_core, on_subject, on_two, on_named, derived}

abbrev pub unary_form : UnaryAction → Option Derived
unary_form u.Wait = Some d.Wait
unary_form u.Cancel = Some d.Cancel
unary_form _ = None

abbrev pub guard_form : GuardAction → Option Derived
guard_form g.Race = Some d.Race
guard_form g.Concurrently = Some d.Concurrently
guard_form _ = None

-- the form of async scopes that an action is
abbrev pub scope_form : SurfaceAction → Option Derived
scope_form (tree.unary_act w p e) = unary_form w
scope_form (tree.guard w p a c) = guard_form w
scope_form (tree.with_async p a x c) = Some d.WithAsync
scope_form _ = None

-- what an action puts into its template: its expression, or its blocks with the name that it binds
abbrev pub parts_of : SurfaceAction → Filling
parts_of (tree.unary_act w p e) = on_subject (OfScript e)
parts_of (tree.guard w p a c) = on_two (block_core a) (block_core c)
parts_of (tree.with_async p a x c) = on_named (block_core a) x.text (block_core c)
parts_of _ = on_subject NoValue

-- the form's template, with the action's own parts in it, is what the action comes to
abbrev pub IsOfForm : Derived → SurfaceAction → Type 0
IsOfForm o a = core a ≡ derived o (parts_of a)

-- The action is a form of async scopes; these steps are that form's template, written out; and that template, with the action's
-- own parts in it, is what the action comes to.
pub record Spells (row : List Step) (a : SurfaceAction) : Type 0 where
  pub form : Derived
  pub is : scope_form a ≡ Some form
  pub written : row ≡ flat (template form) []
  pub filled : fill (parts_of a) (template form) ≡ core a
