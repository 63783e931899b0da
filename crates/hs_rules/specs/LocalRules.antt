-- The local rules: the steps that a thread makes alone.
--
-- *give*, *pass*, *keep*, *leave* and *escape* are the rules of bind, catch and masking scopes in "Asynchronous Exceptions
-- in Haskell". The documentation of `Control.Exception` gives what `mask`, `uninterruptibleMask` and `restore` do to the
-- masking state (*mask*, *mask hard*, *restore*), and that a handler runs masked (*handle*). *return*, *throw*, *let*,
-- *bind*, *choose*, *call*, *stand* and *catch*, on blocks with environments, are this project's own.
use Rattle.std.specs.Prelude.{ℕ, zero, suc, true, false, List, [], ◌∷◌, ◌++◌, Option, Some, None}
use Rattle.hs_base.specs.declared.mask.Mask.{Mask}
use Rattle.hs_base.specs.declared.mask.Mask.TheVariants.{Masked, Uninterruptible}
use Rattle.hs_base.specs.declared.exn.Exn.{Exn}
use Rattle.hs_base.specs.Masks.{join_of}
use Rattle.rules_meaning.specs.Meaning.{values_of_exs}
use Rattle.rules_meaning.specs.Values as v
use Rattle.rules_expansion.specs.Names.{Name}
use Rattle.rules_meaning.specs.Values.{V, Env, with_name, value_at, Outcome, Gives, Throws, Stuck, Outcomes, AllGive, OneThrows, OneStuck}
use Rattle.rules_expansion.specs.Core.{Core, Return, ThrowIo, Let, Bind, If, CaseMaybe, CaseEither, CaseList, CasePair, Call, Perform, Fork, ForkUnmask, Catch, MaskWith, MaskHard, Restore, ActionFunction, action_named}
use Rattle.rules_meaning.specs.CoreMeaning.{Code, value_of_core, values_of_core}
use Rattle.hs_rules.specs.Terms.{Calls, Forks, ForksUnmask, Part, Ret, Throw, Do, Performs, Frame, BindTo, CatchBy, MaskIn, Term, term, mask_at}

-- ---- an expression, and what is done with its value

-- an expression's exception is thrown in its action's place
abbrev pub on_value : Outcome → (V → Option Term) → Option Term
on_value (Gives v) k = k v
on_value (Throws e) k = Some (term (Throw e) [])
on_value Stuck k = None

abbrev pub on_values : Outcomes → (List V → Option Term) → Option Term
on_values (AllGive vs) k = k vs
on_values (OneThrows e) k = Some (term (Throw e) [])
on_values OneStuck k = None

abbrev pub thrown : V → Option Term
thrown (v.Exception e) = Some (term (Throw e) [])
thrown _ = None

-- the arm that a value chooses, with its names
abbrev pub chosen : Core → Core → Env → V → Option Term
chosen a b env (v.Truth true) = Some (term (Do a env) [])
chosen a b env (v.Truth false) = Some (term (Do b env) [])
chosen a b env _ = None

abbrev pub chosen_maybe : Core → Name → Core → Env → V → Option Term
chosen_maybe a x b env v.Nothing = Some (term (Do a env) [])
chosen_maybe a x b env (v.Just u) = Some (term (Do b (with_name x u env)) [])
chosen_maybe a x b env _ = None

abbrev pub chosen_either : Name → Core → Name → Core → Env → V → Option Term
chosen_either x a y b env (v.Left u) = Some (term (Do a (with_name x u env)) [])
chosen_either x a y b env (v.Right u) = Some (term (Do b (with_name y u env)) [])
chosen_either x a y b env _ = None

abbrev pub chosen_list : Core → Name → Name → Core → Env → V → Option Term
chosen_list a x y b env v.Nil = Some (term (Do a env) [])
chosen_list a x y b env (v.Cons u w) = Some (term (Do b (with_name y w (with_name x u env))) [])
chosen_list a x y b env _ = None

abbrev pub chosen_pair : Name → Name → Core → Env → V → Option Term
chosen_pair x y b env (v.Pair u w) = Some (term (Do b (with_name y w (with_name x u env))) [])
chosen_pair x y b env _ = None

-- parameters with their values, as many of the one as of the other; a later parameter hides an earlier one
abbrev pub with_params : List Name → List V → Env → Option Env
with_params [] [] env = Some env
with_params [] (u ∷ us) env = None
with_params (x ∷ xs) [] env = None
with_params (x ∷ xs) (u ∷ us) env = with_params xs us (with_name x u env)

abbrev pub entered : Core → Option Env → Option Term
entered body None = None
entered body (Some env) = Some (term (Do body env) [])

abbrev pub called : Option ActionFunction → List V → Option Term
called None vs = None
called (Some d) vs = entered d.body (with_params d.params vs [])

-- the state that a masking name stands for
abbrev pub restored : Core → Env → Option V → Option Term
restored a env (Some (v.Restore m)) = Some (term (Do a env) (MaskIn m ∷ []))
restored a env _ = None

-- ---- an action's first step, where the masking state is s: return to restore

abbrev pub first_step : Code → Mask → Core → Env → Option Term
-- return: the value of an expression
first_step code s (Return e) env = on_value (value_of_core code.functions env e) (λ u. Some (term (Ret u) []))
-- throw: an exception
first_step code s (ThrowIo e) env = on_value (value_of_core code.functions env e) thrown
-- let: a name of a value
first_step code s (Let x e a) env = on_value (value_of_core code.functions env e) (λ u. Some (term (Do a (with_name x u env)) []))
-- bind: an action, inside a bind to the next
first_step code s (Bind x a b) env = Some (term (Do a env) (BindTo x b env ∷ []))
-- choose: the arm of an `if` or a `case`
first_step code s (If e a b) env = on_value (value_of_core code.functions env e) (chosen a b env)
first_step code s (CaseMaybe e a x b) env = on_value (value_of_core code.functions env e) (chosen_maybe a x b env)
first_step code s (CaseEither e x a y b) env = on_value (value_of_core code.functions env e) (chosen_either x a y b env)
first_step code s (CaseList e a x y b) env = on_value (value_of_core code.functions env e) (chosen_list a x y b env)
first_step code s (CasePair e x y b) env = on_value (value_of_core code.functions env e) (chosen_pair x y b env)
-- call: the body of an action function
first_step code s (Call f es) env = on_values (values_of_exs code.functions env es) (called (action_named f code.actions))
-- stand: at a primitive or a fork
first_step code s (Perform p es) env = on_values (values_of_core code.functions env es) (λ us. Some (term (Performs (Calls p us)) []))
first_step code s (Fork a) env = Some (term (Performs (Forks a env)) [])
first_step code s (ForkUnmask r a) env = Some (term (Performs (ForksUnmask r a env)) [])
-- catch: an action, inside a catch by its handler
first_step code s (Catch a x b) env = Some (term (Do a env) (CatchBy x b env ∷ []))
-- mask: an action, under the later of Masked and s
first_step code s (MaskWith r a) env = Some (term (Do a (with_name r (v.Restore s) env)) (MaskIn (join_of Masked s) ∷ []))
-- mask hard: an action, under Uninterruptible
first_step code s (MaskHard r a) env = Some (term (Do a (with_name r (v.Restore s) env)) (MaskIn Uninterruptible ∷ []))
-- restore: an action, under the state that a name stands for
first_step code s (Restore r a) env = restored a env (value_at r env)

-- ---- a value or an exception, and the context directly round it: give to escape

abbrev pub ret_step : V → List Frame → Option Term
ret_step u [] = None
-- give: a value goes to the action behind a bind
ret_step u (BindTo x b env ∷ fs) = Some (term (Do b (with_name x u env)) fs)
-- keep: a value leaves a catch
ret_step u (CatchBy x b env ∷ fs) = Some (term (Ret u) fs)
-- leave: a value leaves a masking scope
ret_step u (MaskIn m ∷ fs) = Some (term (Ret u) fs)

abbrev pub throw_step : Exn → List Frame → Option Term
throw_step e [] = None
-- pass: an exception passes a bind
throw_step e (BindTo x b env ∷ fs) = Some (term (Throw e) fs)
-- handle: a handler gets the exception, and runs masked
throw_step e (CatchBy x b env ∷ fs) = Some (term (Do b (with_name x (v.Exception e) env)) (MaskIn (join_of Masked (mask_at fs)) ∷ fs))
-- escape: an exception leaves a masking scope
throw_step e (MaskIn m ∷ fs) = Some (term (Throw e) fs)

-- ---- one local rule, and some in turn

-- a term in a context
abbrev pub on_top : List Frame → Option Term → Option Term
on_top fs None = None
on_top fs (Some t) = Some (term t.part (t.frames ++ fs))

-- the term after one local rule, or nothing where none applies
abbrev pub local : Code → Part → List Frame → Option Term
local code (Ret u) fs = ret_step u fs
local code (Throw e) fs = throw_step e fs
local code (Do a env) fs = on_top fs (first_step code (mask_at fs) a env)
local code (Performs p) fs = None

abbrev pub on_term : Option Term → (Term → Option Term) → Option Term
on_term None k = None
on_term (Some t) k = k t

-- the term after this many local rules
abbrev pub locals : Code → ℕ → Term → Option Term
locals code zero t = Some t
locals code (suc k) t = on_term (local code t.part t.frames) (λ u. locals code k u)
