-- The expansion of actions to core actions (own): what each form of a script comes to. Those that stand for others come to
-- their template with their parts in it.
use Rattle.std.specs.Prelude.{ℕ, List, [], ◌∷◌, Option, Some, None, codes}
use Rattle.hs_base.specs.declared.tree.forms.BareAction.{BareAction}
use Rattle.hs_base.specs.declared.tree.forms.BareAction.TheVariants as z
use Rattle.hs_base.specs.declared.tree.forms.UnaryAction.{UnaryAction}
use Rattle.hs_base.specs.declared.tree.forms.UnaryAction.TheVariants as u
use Rattle.hs_base.specs.declared.tree.forms.BinaryAction.{BinaryAction}
use Rattle.hs_base.specs.declared.tree.forms.BinaryAction.TheVariants as b
use Rattle.hs_base.specs.declared.tree.forms.BlockAction.{BlockAction}
use Rattle.hs_base.specs.declared.tree.forms.BlockAction.TheVariants as k
use Rattle.hs_base.specs.declared.tree.forms.MaskingAction.{MaskingAction}
use Rattle.hs_base.specs.declared.tree.forms.MaskingAction.TheVariants as m
use Rattle.hs_base.specs.declared.tree.forms.GuardAction.{GuardAction}
use Rattle.hs_base.specs.declared.tree.forms.GuardAction.TheVariants as g
use Rattle.rules_expansion.specs.trees.Programs as tree
use Rattle.rules_expansion.specs.trees.Programs.{SurfaceAction, Bl, ActArms, Par, Bd, Fn}
use Rattle.rules_expansion.specs.declared.hidden.Hidden.TheVariants.{Restorer, Caught, Instance, BracketResult, BracketFault, ScopeCell, Child, ChildEnding, ScopeResult, Awaited, ActionResult}
use Rattle.rules_expansion.specs.declared.primitive.Primitive.{Primitive}
use Rattle.rules_expansion.specs.declared.primitive.Primitive.TheVariants.{PutStr, PutStrLn, HPutStrLn, NewMVar, NewEmptyMVar, TakeMVar, PutMVar, ReadMVar, TryTakeMVar, TryPutMVar, MyThreadId, GetMaskingState, ClockMicros, ThreadDelay, ThrowTo, Acquired, Release}
use Rattle.rules_expansion.specs.declared.template.Derived.{Derived}
use Rattle.rules_expansion.specs.declared.template.Derived.TheVariants as d
use Rattle.rules_expansion.specs.declared.template.UnaryRow.{UnaryRow}
use Rattle.rules_expansion.specs.declared.template.UnaryRow.TheVariants as unary
use Rattle.rules_expansion.specs.declared.template.BlockRow.{BlockRow}
use Rattle.rules_expansion.specs.declared.template.BlockRow.TheVariants as scoped
use Rattle.rules_expansion.specs.declared.template.FormBlock.{FormBlock}
use Rattle.rules_expansion.specs.declared.template.FormBlock.TheVariants as part
use Rattle.rules_expansion.specs.Names.{Name, Written, Added, Unread}
use Rattle.rules_expansion.specs.Core.{CoreEx, OfScript, Read, NoValue, Killed, Nil, LeftRead, RightRead, PairRead, Core, Return, ThrowIo, Let, Bind, If, CaseMaybe, CaseEither, CaseList, CasePair, Call, Perform, Fork, ForkUnmask, Catch, MaskWith, MaskHard, Restore, ActionFunction, action_named}
use Rattle.rules_expansion.specs.Templates.{Filling, template, fill}

-- ---- forms by their templates

-- three blocks, in the order in which they are written
abbrev pub of_three : {A : Type 0} → A → A → A → FormBlock → A
of_three a c e part.First = a
of_three a c e part.Second = c
of_three a c e part.Third = e

-- What a form puts into its template. A form with fewer than three blocks has its last one in their places, and a form
-- without a name or an expression of its own an empty one: they stand nowhere in its template.
abbrev pub filling : CoreEx → List ℕ → (FormBlock → Core) → Filling
filling e x b = record { subject = e; given = x; block = b }

abbrev pub on_block : Core → Filling
on_block a = filling NoValue [] (λ i. a)

abbrev pub on_two : Core → Core → Filling
on_two a c = filling NoValue [] (of_three a c c)

abbrev pub on_three : Core → List ℕ → Core → Core → Filling
on_three a x c e = filling NoValue x (of_three a c e)

abbrev pub on_bound : CoreEx → List ℕ → Core → Filling
on_bound e x a = filling e x (λ i. a)

abbrev pub on_both : CoreEx → Core → Filling
on_both e a = filling e [] (λ i. a)

-- a form without a block: none stands in its template
abbrev pub on_subject : CoreEx → Filling
on_subject e = filling e [] (λ i. Return NoValue)

abbrev pub on_named : Core → List ℕ → Core → Filling
on_named a x c = filling NoValue x (of_three a c c)

abbrev pub derived : Derived → Filling → Core
derived o f = fill f (template o)

-- ---- the parts of a bracket, of which laws speak:
-- mask $r { x <- A; $i <- acquired; $y <- catch { restore $r C } $e { release $i; B; throwIO $e };
--   release $i; B; return $y }

-- release $i
abbrev pub release : Core
release = Perform Release (Read (Added Instance) ∷ [])

-- B; return $y
abbrev pub bracket_return : Core → Core
bracket_return b = Bind Unread b (Return (Read (Added BracketResult)))

-- release $i; B; return $y
abbrev pub bracket_exit : Core → Core
bracket_exit b = Bind Unread release (bracket_return b)

-- B; throwIO $e
abbrev pub bracket_rethrow : Core → Core
bracket_rethrow b = Bind Unread b (ThrowIo (Read (Added BracketFault)))

-- release $i; B; throwIO $e
abbrev pub bracket_handler : Core → Core
bracket_handler b = Bind Unread release (bracket_rethrow b)

-- catch { restore $r C } $e { release $i; B; throwIO $e }
abbrev pub bracket_guarded : Core → Core → Core
bracket_guarded b c = Catch (Restore (Added Restorer) c) (Added BracketFault) (bracket_handler b)

-- what follows `$i <- acquired`
abbrev pub bracket_acquired : Core → Core → Core
bracket_acquired b c = Bind (Added BracketResult) (bracket_guarded b c) (bracket_exit b)

abbrev pub acquire : Core
acquire = Perform Acquired []

-- what follows `x <- A`
abbrev pub bracket_marked : Core → Core → Core
bracket_marked b c = Bind (Added Instance) acquire (bracket_acquired b c)

-- what is masked
abbrev pub bracket_masked : Core → Name → Core → Core → Core
bracket_masked a x b c = Bind x a (bracket_marked b c)

-- ---- the parts of an async scope, of which laws speak:
-- { $v <- newEmptyMVar; mask $r {
--   $t <- forkIO { $z <- catch { $x <- restore $r A; return (Right $x) } $e { return (Left $e) }; putMVar $v $z };
--   let a = ($t, $v);
--   $y <- catch { restore $r B } $e { STOP; throwIO $e }; STOP; return $y } },
-- where STOP is uninterruptibleMask_ { throwTo $t ThreadKilled; $w <- readMVar $v; return () }

-- $w <- readMVar $v; return ()
abbrev pub scope_await : Core
scope_await = Bind (Added Awaited) (Perform ReadMVar (Read (Added ScopeCell) ∷ [])) (Return Nil)

-- throwTo $t ThreadKilled; $w <- readMVar $v; return ()
abbrev pub scope_kill : Core
scope_kill = Bind Unread (Perform ThrowTo (Read (Added Child) ∷ Killed ∷ [])) scope_await

-- STOP
abbrev pub scope_stop : Core
scope_stop = MaskHard (Added Restorer) scope_kill

-- return $y
abbrev pub scope_return : Core
scope_return = Return (Read (Added ScopeResult))

-- STOP; return $y
abbrev pub scope_exit : Core
scope_exit = Bind Unread scope_stop scope_return

-- throwIO $e
abbrev pub scope_throw : Core
scope_throw = ThrowIo (Read (Added Caught))

-- STOP; throwIO $e
abbrev pub scope_handler : Core
scope_handler = Bind Unread scope_stop scope_throw

-- catch { restore $r B } $e { STOP; throwIO $e }
abbrev pub scope_guarded : Core → Core
scope_guarded b = Catch (Restore (Added Restorer) b) (Added Caught) scope_handler

-- what follows the `let`
abbrev pub scope_run : Core → Core
scope_run b = Bind (Added ScopeResult) (scope_guarded b) scope_exit

-- what follows `$t <-`
abbrev pub scope_named : Name → Core → Core
scope_named x b = Let x (PairRead (Added Child) (Added ScopeCell)) (scope_run b)

-- putMVar $v $z
abbrev pub child_put : Core
child_put = Perform PutMVar (Read (Added ScopeCell) ∷ Read (Added ChildEnding) ∷ [])

-- catch { $x <- restore $r A; return (Right $x) } $e { return (Left $e) }
abbrev pub child_action : Core → Core
child_action a =
    Catch (Bind (Added ActionResult) (Restore (Added Restorer) a) (Return (RightRead (Added ActionResult))))
    (Added Caught) (Return (LeftRead (Added Caught)))

-- the block of the thread of the scope
abbrev pub child_block : Core → Core
child_block a = Bind (Added ChildEnding) (child_action a) child_put

-- what is masked
abbrev pub scope_masked : Core → Name → Core → Core
scope_masked a x b = Bind (Added Child) (Fork (child_block a)) (scope_named x b)

abbrev pub scope : Core → Name → Core → Core
scope a x b = Bind (Added ScopeCell) (Perform NewEmptyMVar []) (MaskWith (Added Restorer) (scope_masked a x b))

-- ---- forms of one shape: what each word comes to

abbrev pub bare_row : BareAction → Primitive
bare_row z.MyThreadId = MyThreadId
bare_row z.ClockMicros = ClockMicros
bare_row z.GetMaskingState = GetMaskingState

abbrev pub unary_row : UnaryAction → UnaryRow
unary_row u.Return = unary.Return
unary_row u.PutStr = unary.Perform PutStr
unary_row u.PutStrLn = unary.Perform PutStrLn
unary_row u.HPutStrLn = unary.Perform HPutStrLn
unary_row u.NewMVar = unary.Perform NewMVar
unary_row u.TakeMVar = unary.Perform TakeMVar
unary_row u.ReadMVar = unary.Perform ReadMVar
unary_row u.TryTakeMVar = unary.Perform TryTakeMVar
unary_row u.KillThread = unary.Kill
unary_row u.ThreadDelay = unary.Perform ThreadDelay
unary_row u.Wait = unary.Derived d.Wait
unary_row u.Cancel = unary.Derived d.Cancel

abbrev pub binary_row : BinaryAction → Primitive
binary_row b.PutMVar = PutMVar
binary_row b.TryPutMVar = TryPutMVar
binary_row b.ThrowTo = ThrowTo

abbrev pub block_row : BlockAction → BlockRow
block_row k.ForkIo = scoped.Fork
block_row k.MaskOnly = scoped.Derived d.MaskOnly
block_row k.UninterruptibleMaskOnly = scoped.Derived d.UninterruptibleMaskOnly

abbrev pub guard_row : GuardAction → Derived
guard_row g.OnException = d.OnException
guard_row g.Finally = d.Finally
guard_row g.Race = d.Race
guard_row g.Concurrently = d.Concurrently

-- ---- a row with its parts

abbrev pub unary_row_core : UnaryRow → CoreEx → Core
unary_row_core unary.Return a = Return a
unary_row_core (unary.Perform p) a = Perform p (a ∷ [])
unary_row_core unary.Kill a = Perform ThrowTo (a ∷ Killed ∷ [])
unary_row_core (unary.Derived o) a = derived o (on_subject a)

abbrev pub block_row_core : BlockRow → Core → Core
block_row_core scoped.Fork a = Fork a
block_row_core (scoped.Derived o) a = derived o (on_block a)

abbrev pub bare_core : BareAction → Core
bare_core w = Perform (bare_row w) []

abbrev pub unary_core : UnaryAction → CoreEx → Core
unary_core w a = unary_row_core (unary_row w) a

abbrev pub binary_core : BinaryAction → CoreEx → CoreEx → Core
binary_core w a c = Perform (binary_row w) (a ∷ c ∷ [])

abbrev pub scoped_core : BlockAction → Core → Core
scoped_core w a = block_row_core (block_row w) a

abbrev pub masking_core : MaskingAction → Name → Core → Core
masking_core m.ForkIoWithUnmask r a = ForkUnmask r a
masking_core m.Mask r a = MaskWith r a
masking_core m.UninterruptibleMask r a = MaskHard r a

abbrev pub guard_core : GuardAction → Core → Core → Core
guard_core w a c = derived (guard_row w) (on_two a c)

-- ---- actions and blocks

abbrev mutual
  pub core : SurfaceAction → Core
  core (tree.bare w p) = bare_core w
  core (tree.unary_act w p e) = unary_core w (OfScript e)
  core (tree.binary_act w p e f) = binary_core w (OfScript e) (OfScript f)
  core (tree.throw_io p t e) = ThrowIo (OfScript e)
  core (tree.new_empty p t) = Perform NewEmptyMVar []
  core (tree.call f es) = Call f.text es
  core (tree.choose_act p e a c) = If (OfScript e) (block_core a) (block_core c)
  core (tree.case_act p e arms) = arms_core (OfScript e) arms
  core (tree.modify p e x a) = derived d.ModifyMVar (on_bound (OfScript e) x.text (block_core a))
  core (tree.scoped w p a) = scoped_core w (block_core a)
  core (tree.masking w p x a) = masking_core w (Written x.text) (block_core a)
  core (tree.restore p x a) = Restore (Written x.text) (block_core a)
  core (tree.catch p a x c) = Catch (block_core a) (Written x.text) (block_core c)
  core (tree.guard w p a c) = guard_core w (block_core a) (block_core c)
  core (tree.bracket p a x c h) = derived d.Bracket (on_three (block_core a) x.text (block_core c) (block_core h))
  core (tree.timeout p e a) = derived d.Timeout (on_both (OfScript e) (block_core a))
  core (tree.with_async p a x c) = derived d.WithAsync (on_named (block_core a) x.text (block_core c))

  -- a block is nested binds and lets
  pub block_core : Bl → Core
  block_core (tree.last a) = core a
  block_core (tree.then a c) = Bind Unread (core a) (block_core c)
  block_core (tree.bind x a c) = Bind (Written x.text) (core a) (block_core c)
  block_core (tree.let_in x e c) = Let (Written x.text) (OfScript e) (block_core c)

  pub arms_core : CoreEx → ActArms → Core
  arms_core e (tree.maybe_acts a x c) = CaseMaybe e (block_core a) (Written x.text) (block_core c)
  arms_core e (tree.either_acts x a y c) = CaseEither e (Written x.text) (block_core a) (Written y.text) (block_core c)
  arms_core e (tree.list_acts a x y c) = CaseList e (block_core a) (Written x.text) (Written y.text) (block_core c)
  arms_core e (tree.pair_acts x y a) = CasePair e (Written x.text) (Written y.text) (block_core a)

-- ---- scripts

abbrev pub param_names : List Par → List Name
param_names [] = []
param_names (p ∷ ps) = Written p.name.text ∷ param_names ps

-- a definition put before these action functions, where it is one
abbrev pub with_action : List ℕ → List Par → Bd → List ActionFunction → List ActionFunction
with_action f ps (tree.pure_body w e) rest = rest
with_action f ps (tree.io_body w a) rest = record { name = f; params = param_names ps; body = block_core a } ∷ rest

-- the action functions of a script, in order
abbrev pub actions_of : List Fn → List ActionFunction
actions_of [] = []
actions_of (d ∷ ds) = with_action d.name.text d.params d.body (actions_of ds)

-- ---- main

abbrev pub body_of : Option ActionFunction → Option Core
body_of None = None
body_of (Some d) = Some d.body

-- the body of `main`
abbrev pub main_of : List Fn → Option Core
main_of ds = body_of (action_named (codes "main") (actions_of ds))
