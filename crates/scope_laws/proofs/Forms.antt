-- Each expansion is a fine action.
use Rattle.std.proofs.Common.{◌≡◌, ℕ, List, [], ◌∷◌, Option, Some, None, refl, subst, codes, Bool, true, false, cond, bytes_eq}
use Rattle.hs_base.specs.declared.tree.forms.BareAction.{BareAction}
use Rattle.hs_base.specs.declared.tree.forms.BareAction.TheVariants as z
use Rattle.hs_base.specs.declared.tree.forms.UnaryAction.{UnaryAction}
use Rattle.hs_base.specs.declared.tree.forms.UnaryAction.TheVariants as u
use Rattle.hs_base.specs.declared.tree.forms.BinaryAction.{BinaryAction}
use Rattle.hs_base.specs.declared.tree.forms.BinaryAction.TheVariants as b
use Rattle.hs_base.specs.declared.tree.forms.BlockAction.{BlockAction}
use Rattle.hs_base.specs.declared.tree.forms.BlockAction.TheVariants as k
use Rattle.hs_base.specs.declared.tree.forms.MaskingAction.{MaskingAction}
use Rattle.hs_base.specs.declared.tree.forms.MaskingAction.TheVariants as m
use Rattle.hs_base.specs.declared.tree.forms.GuardAction.{GuardAction}
use Rattle.hs_base.specs.declared.tree.forms.GuardAction.TheVariants as g
use Rattle.rules_expansion.specs.trees.Trees.{Ex}
use Rattle.rules_expansion.specs.trees.Programs as tree
use Rattle.rules_expansion.specs.trees.Programs.{SurfaceAction, Bl, ActArms, Par, Bd, Fn}
use Rattle.rules_expansion.specs.Names.{Name, Written, Added, Unread}
use Rattle.rules_expansion.specs.declared.hidden.Hidden.TheVariants.{Restorer, InTime}
use Rattle.rules_expansion.specs.Core.{OfScript, JustRead, Core, Return, Bind, MaskWith, ActionFunction, action_named}
use Rattle.rules_expansion.specs.declared.template.Derived.TheVariants as form
use Rattle.rules_expansion.specs.Expansion.{derived, on_both, release, bracket_masked, bare_core, unary_core, binary_core, scoped_core, masking_core, guard_core, core, block_core, arms_core, param_names, with_action, actions_of, body_of, main_of}
use Rattle.scope_laws.specs.ScopePhases.{IsCommon, Fine, fine_return, fine_throw, fine_let, fine_cell, fine_bind, fine_if, fine_maybe, fine_either, fine_list, fine_pair, fine_call, fine_primitive, fine_put, fine_put_back, fine_fork, fine_fork_unmask, fine_catch, fine_mask, fine_mask_hard, fine_restore, fine_scope, AllCommon, FineCode}

-- ---- the forms

fine_in_time : {a : Core} → Fine a → Fine (Bind (Added InTime) a (Return (JustRead (Added InTime))))
fine_in_time f = fine_bind tt f (fine_return refl)

-- release $i; A
fine_released : {a : Core} → Fine a → Fine (Bind Unread release a)
fine_released f = fine_bind tt (fine_primitive tt) f

fine_bracket : {a c h : Core} (x : Name) → IsCommon x → Fine a → Fine c → Fine h → Fine (MaskWith (Added Restorer) (bracket_masked a x c h))
fine_bracket x w f g h =
    fine_mask tt
    (fine_bind w f
    (fine_bind tt (fine_primitive tt)
    (fine_bind tt (fine_catch tt (fine_restore h) (fine_released (fine_bind tt g fine_throw)))
    (fine_released (fine_bind tt g (fine_return refl))))))

fine_timeout : {a : Core} (e : Ex) → Fine a → Fine (derived form.Timeout (on_both (OfScript e) a))
fine_timeout e f =
    fine_let tt refl
    (fine_if (fine_in_time f)
    (fine_if (fine_return refl)
    (fine_bind tt (fine_primitive tt)
    (fine_bind tt (fine_primitive tt)
    (fine_catch tt
    (fine_bracket _ tt (fine_fork_unmask tt (fine_restore (fine_bind tt (fine_primitive tt) (fine_primitive tt)))) (fine_mask_hard tt (fine_primitive tt)) (fine_in_time f))
    (fine_if (fine_return refl) fine_throw))))))

fine_bare : (w : BareAction) → Fine (bare_core w)
fine_bare z.ClockMicros = fine_primitive tt
fine_bare _ = fine_primitive tt

fine_unary : (w : UnaryAction) (e : Ex) → Fine (unary_core w (OfScript e))
fine_unary u.Return e = fine_return refl
fine_unary u.Wait e = fine_let tt refl (fine_bind tt (fine_primitive tt) (fine_either tt tt fine_throw (fine_return refl)))
fine_unary u.Cancel e = fine_let tt refl (fine_bind tt (fine_primitive tt) (fine_bind tt (fine_primitive tt) (fine_return refl)))
fine_unary _ e = fine_primitive tt

fine_binary : (w : BinaryAction) (e f : Ex) → Fine (binary_core w (OfScript e) (OfScript f))
fine_binary b.PutMVar e f = fine_put
fine_binary b.TryPutMVar e f = fine_primitive tt
fine_binary b.ThrowTo e f = fine_primitive tt

fine_scoped : (w : BlockAction) {a : Core} → Fine a → Fine (scoped_core w a)
fine_scoped k.ForkIo f = fine_fork f
fine_scoped k.MaskOnly f = fine_mask tt f
fine_scoped k.UninterruptibleMaskOnly f = fine_mask_hard tt f

fine_masking : (w : MaskingAction) (x : List ℕ) {a : Core} → Fine a → Fine (masking_core w (Written x) a)
fine_masking m.ForkIoWithUnmask x f = fine_fork_unmask tt f
fine_masking m.Mask x f = fine_mask tt f
fine_masking m.UninterruptibleMask x f = fine_mask_hard tt f

fine_race : {a c : Core} → Fine a → Fine c → Fine (guard_core g.Race a c)
fine_race f h =
    fine_bind tt (fine_primitive tt)
    (fine_scope tt
    (fine_mask tt (fine_bind tt (fine_catch tt (fine_bind tt (fine_restore f) (fine_return refl)) (fine_return refl)) (fine_bind tt (fine_primitive tt) (fine_return refl))))
    (fine_scope tt
    (fine_mask tt (fine_bind tt (fine_catch tt (fine_bind tt (fine_restore h) (fine_return refl)) (fine_return refl)) (fine_bind tt (fine_primitive tt) (fine_return refl))))
    (fine_bind tt (fine_primitive tt) (fine_either tt tt fine_throw (fine_return refl)))))

fine_concurrently : {a c : Core} → Fine a → Fine c → Fine (guard_core g.Concurrently a c)
fine_concurrently f h =
    fine_bind tt (fine_primitive tt)
    (fine_scope tt
    (fine_mask tt
    (fine_bind tt (fine_catch tt (fine_bind tt (fine_restore f) (fine_return refl)) (fine_return refl))
    (fine_either tt tt (fine_bind tt (fine_primitive tt) fine_throw) (fine_bind tt (fine_primitive tt) (fine_return refl)))))
    (fine_scope tt
    (fine_mask tt
    (fine_bind tt (fine_catch tt (fine_bind tt (fine_restore h) (fine_return refl)) (fine_return refl))
    (fine_either tt tt (fine_bind tt (fine_primitive tt) fine_throw) (fine_bind tt (fine_primitive tt) (fine_return refl)))))
    (fine_bind tt (fine_primitive tt)
    (fine_either tt tt fine_throw
    (fine_bind tt (fine_let tt refl (fine_bind tt (fine_primitive tt) (fine_either tt tt fine_throw (fine_return refl))))
    (fine_bind tt (fine_let tt refl (fine_bind tt (fine_primitive tt) (fine_either tt tt fine_throw (fine_return refl))))
    (fine_return refl)))))))

fine_guard : (w : GuardAction) {a c : Core} → Fine a → Fine c → Fine (guard_core w a c)
fine_guard g.OnException f h = fine_catch tt f (fine_bind tt h fine_throw)
fine_guard g.Finally f h = fine_mask tt (fine_bind tt (fine_catch tt (fine_restore f) (fine_bind tt h fine_throw)) (fine_bind tt h (fine_return refl)))
fine_guard g.Race f h = fine_race f h
fine_guard g.Concurrently f h = fine_concurrently f h

-- ---- actions and blocks

mutual
  pub fine_core : (a : SurfaceAction) → Fine (core a)
  fine_core (tree.bare w p) = fine_bare w
  fine_core (tree.unary_act w p e) = fine_unary w e
  fine_core (tree.binary_act w p e f) = fine_binary w e f
  fine_core (tree.throw_io p t e) = fine_throw
  fine_core (tree.new_empty p t) = fine_primitive tt
  fine_core (tree.call f es) = fine_call
  fine_core (tree.choose_act p e a c) = fine_if (fine_block a) (fine_block c)
  fine_core (tree.case_act p e arms) = fine_arms e arms
  fine_core (tree.modify p e x a) =
      fine_cell (fine_mask tt (fine_bind tt (fine_primitive tt) (fine_bind tt (fine_catch tt (fine_restore (fine_block a)) (fine_bind tt fine_put_back fine_throw)) fine_put_back)))
  fine_core (tree.scoped w p a) = fine_scoped w (fine_block a)
  fine_core (tree.masking w p x a) = fine_masking w x.text (fine_block a)
  fine_core (tree.restore p x a) = fine_restore (fine_block a)
  fine_core (tree.catch p a x c) = fine_catch tt (fine_block a) (fine_block c)
  fine_core (tree.guard w p a c) = fine_guard w (fine_block a) (fine_block c)
  fine_core (tree.bracket p a x c d) = fine_bracket _ tt (fine_block a) (fine_block c) (fine_block d)
  fine_core (tree.timeout p e a) = fine_timeout e (fine_block a)
  fine_core (tree.with_async p a x c) = fine_scope tt (fine_block a) (fine_block c)

  pub fine_block : (a : Bl) → Fine (block_core a)
  fine_block (tree.last a) = fine_core a
  fine_block (tree.then a c) = fine_bind tt (fine_core a) (fine_block c)
  fine_block (tree.bind x a c) = fine_bind tt (fine_core a) (fine_block c)
  fine_block (tree.let_in x e c) = fine_let tt refl (fine_block c)

  pub fine_arms : (e : Ex) (arms : ActArms) → Fine (arms_core (OfScript e) arms)
  fine_arms e (tree.maybe_acts a x c) = fine_maybe tt (fine_block a) (fine_block c)
  fine_arms e (tree.either_acts x a y c) = fine_either tt tt (fine_block a) (fine_block c)
  fine_arms e (tree.list_acts a x y c) = fine_list tt tt (fine_block a) (fine_block c)
  fine_arms e (tree.pair_acts x y a) = fine_pair tt tt (fine_block a)

-- ---- scripts

params_common : (ps : List Par) → AllCommon (param_names ps)
params_common [] = tt
params_common (p ∷ ps) = (tt, params_common ps)

fine_with : (f : List ℕ) (ps : List Par) (d : Bd) (rest : List ActionFunction) → FineCode rest → FineCode (with_action f ps d rest)
fine_with f ps (tree.pure_body w e) rest h = h
fine_with f ps (tree.io_body w a) rest h = ((params_common ps, fine_block a), h)

pub fine_actions : (ds : List Fn) → FineCode (actions_of ds)
fine_actions [] = tt
fine_actions (d ∷ ds) = fine_with d.name.text d.params d.body (actions_of ds) (fine_actions ds)

abbrev pub FineDef : Option ActionFunction → Type 0
FineDef None = Unit {0}
FineDef (Some d) = AllCommon d.params × Fine d.body

cond_def : (b : Bool) (d : ActionFunction) (o : Option ActionFunction) → AllCommon d.params × Fine d.body → FineDef o → FineDef (cond b (Some d) o)
cond_def true d o f g = f
cond_def false d o f g = g

pub def_fine : (f : List ℕ) (ds : List ActionFunction) → FineCode ds → FineDef (action_named f ds)
def_fine f [] h = tt
def_fine f (d ∷ ds) h = cond_def (bytes_eq f d.name) d (action_named f ds) h.0 (def_fine f ds h.1)

fine_body : (o : Option ActionFunction) (main : Core) → FineDef o → body_of o ≡ Some main → Fine main
fine_body None main f e = absurd (cc e)
fine_body (Some d) main f e = let same : d.body ≡ main = cc e in subst Fine same f.1

pub fine_main : (ds : List Fn) (main : Core) → main_of ds ≡ Some main → Fine main
fine_main ds main e = fine_body (action_named (codes "main") (actions_of ds)) main (def_fine (codes "main") (actions_of ds) (fine_actions ds)) e
