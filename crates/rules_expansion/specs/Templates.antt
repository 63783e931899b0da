-- Core actions with holes: what the actions that stand for others expand to.
--
-- What the forms do follows `Control.Exception`, `Control.Concurrent.MVar`, `System.Timeout` and `Control.Concurrent.Async`; the
-- texts of their expansions, the helper thread of `timeout` among them, and that a scope is cancelled by ThreadKilled, are this
-- project's own. In the comments a name that an expansion
-- adds is written with a `$`.
use Rattle.std.specs.Prelude.{ℕ, List, [], ◌∷◌}
use Rattle.rules_expansion.specs.declared.hidden.Hidden.TheVariants.{Restorer, Given, Caught, TheCell, Instance, BracketResult, BracketFault, Allowed, InTime, Owner, Expiry, Helper, HelperRestorer, ScopeCell, Child, ChildEnding, ScopeResult, Awaited, Scope, Ended, ActionResult, FirstEnd, SideEnding, WasFirst, FirstSide, SecondSide, FirstResult, SecondResult}
use Rattle.rules_expansion.specs.declared.primitive.Primitive.{Primitive}
use Rattle.rules_expansion.specs.declared.primitive.Primitive.TheVariants as p
use Rattle.rules_expansion.specs.declared.template.Binder.{Binder}
use Rattle.rules_expansion.specs.declared.template.Binder.TheVariants as b
use Rattle.rules_expansion.specs.declared.template.Derived.{Derived}
use Rattle.rules_expansion.specs.declared.template.Derived.TheVariants as d
use Rattle.rules_expansion.specs.declared.template.Operand.{Operand}
use Rattle.rules_expansion.specs.declared.template.Operand.TheVariants as x
use Rattle.rules_expansion.specs.declared.template.FormBlock.{FormBlock}
use Rattle.rules_expansion.specs.declared.template.FormBlock.TheVariants as part
use Rattle.rules_expansion.specs.declared.template.Step.{Step}
use Rattle.rules_expansion.specs.declared.template.Step.TheVariants as s
use Rattle.rules_expansion.specs.Names.{Name, Written, Added, Unread}
use Rattle.rules_expansion.specs.Core as core
use Rattle.rules_expansion.specs.Core.{CoreEx, Core}

pub data Template : Type 0 where
  -- a block of the form
  hole : FormBlock → Template
  -- return e
  give : Operand → Template
  -- throwIO e
  throw : Operand → Template
  -- let x = e; A
  let_in : Binder → Operand → Template → Template
  -- x <- A; B
  bind : Binder → Template → Template → Template
  -- A; B
  then : Template → Template → Template
  -- if e then A else B
  choose : Operand → Template → Template → Template
  -- case e of { Left x -> A; Right y -> B }
  either : Operand → Binder → Template → Binder → Template → Template
  perform : Primitive → Template
  perform_one : Primitive → Operand → Template
  perform_two : Primitive → Operand → Operand → Template
  -- forkIO A
  fork : Template → Template
  -- forkIOWithUnmask r A
  fork_unmask : Binder → Template → Template
  -- catch A x B
  catch : Template → Binder → Template → Template
  -- mask r A
  mask : Binder → Template → Template
  -- uninterruptibleMask r A
  mask_hard : Binder → Template → Template
  -- restore r A
  restore : Binder → Template → Template

-- ---- the table

-- killThread a: throwTo a ThreadKilled
abbrev pub killing : Operand → Template
killing a = perform_two p.ThrowTo a x.Killed

-- mask $r A, uninterruptibleMask $r A, restore $r A
abbrev pub masked : Template → Template
masked a = mask (b.Own Restorer) a

abbrev pub masked_hard : Template → Template
masked_hard a = mask_hard (b.Own Restorer) a

abbrev pub restored : Template → Template
restored a = restore (b.Own Restorer) a

-- catch A $e { B; throwIO $e }
abbrev pub guarding : Template → Template → Template
guarding a c = catch a (b.Own Caught) (then c (throw (x.Read (b.Own Caught))))

-- mask $r { $y <- catch { restore $r A } $e { B; throwIO $e }; B; return $y }
abbrev pub finishing : Template → Template → Template
finishing a c = masked (bind (b.Own Given) (guarding (restored a) c) (then c (give (x.Read (b.Own Given)))))

-- release $i; A
abbrev pub released : Template → Template
released a = then (perform_one p.Release (x.Read (b.Own Instance))) a

-- mask $r { x <- A; $i <- acquired; $y <- catch { restore $r C } $e { release $i; B; throwIO $e };
--   release $i; B; return $y }
abbrev pub bracketing : Template → Binder → Template → Template → Template
bracketing a y c e =
    masked
    (bind y a
    (bind (b.Own Instance) (perform p.Acquired)
    (bind (b.Own BracketResult) (catch (restored e) (b.Own BracketFault) (released (then c (throw (x.Read (b.Own BracketFault))))))
    (released (then c (give (x.Read (b.Own BracketResult))))))))

-- { let $m = a; mask $r { x <- takeMVar $m;
--   $y <- catch { restore $r B } $e { putMVar $m x; throwIO $e }; putMVar $m $y } }
abbrev pub modifying : Template → Template
modifying a =
    let_in (b.Own TheCell) x.Subject
    (masked
    (bind b.Given (perform_one p.TakeMVar (x.Read (b.Own TheCell)))
    (bind (b.Own Given) (guarding (restored a) (perform_two p.PutMVar (x.Read (b.Own TheCell)) (x.Read b.Given)))
    (perform_two p.PutMVar (x.Read (b.Own TheCell)) (x.Read (b.Own Given))))))

-- $v <- B; return (Just $v)
abbrev pub in_time : Template → Template
in_time a = bind (b.Own InTime) a (give (x.JustRead (b.Own InTime)))

-- forkIOWithUnmask $w { restore $w { threadDelay $n; throwTo $t $u } }: it waits, and then throws at the thread of the
-- `timeout`
abbrev pub helper : Template
helper =
    fork_unmask (b.Own HelperRestorer)
    (restore (b.Own HelperRestorer)
    (then (perform_one p.ThreadDelay (x.Read (b.Own Allowed)))
    (perform_two p.ThrowTo (x.Read (b.Own Owner)) (x.Read (b.Own Expiry)))))

-- catch { bracket HELPER $k { uninterruptibleMask_ { killThread $k } } { $v <- B; return (Just $v) } }
--   $e { if $e == $u then { return Nothing } else { throwIO $e } }
abbrev pub timed : Template → Template
timed a =
    catch (bracketing helper (b.Own Helper) (masked_hard (killing (x.Read (b.Own Helper)))) (in_time a)) (b.Own Caught)
    (choose (x.SameExn (b.Own Caught) (b.Own Expiry)) (give x.NoValue) (throw (x.Read (b.Own Caught))))

-- { let $n = a;
--   if $n < 0 then { $v <- B; return (Just $v) } else {
--   if $n == 0 then { return Nothing } else { $t <- myThreadId; $u <- newTimeout; TIMED } } }
abbrev pub timing_out : Template → Template
timing_out a =
    let_in (b.Own Allowed) x.Subject
    (choose (x.BelowZero (b.Own Allowed)) (in_time a)
    (choose (x.IsZero (b.Own Allowed)) (give x.NoValue)
    (bind (b.Own Owner) (perform p.MyThreadId)
    (bind (b.Own Expiry) (perform p.NewTimeout)
    (timed a)))))

-- ---- async scopes

-- { $x <- restore $r A; return (S $x) }, where S is told by the operand
abbrev pub ending_as : Operand → Template → Template
ending_as e a = bind (b.Own ActionResult) (restored a) (give e)

-- catch { $x <- restore $r A; return (S $x) } $e { return (Left $e) }
abbrev pub ended : Operand → Template → Template
ended e a = catch (ending_as e a) (b.Own Caught) (give (x.LeftRead (b.Own Caught)))

-- STOP: uninterruptibleMask_ { throwTo $t ThreadKilled; $w <- readMVar $v; return () }
abbrev pub stopping : Template
stopping =
    masked_hard
    (then (killing (x.Read (b.Own Child)))
    (bind (b.Own Awaited) (perform_one p.ReadMVar (x.Read (b.Own ScopeCell)))
    (give x.Nil)))

-- { $v <- newEmptyMVar; mask $r {
--   $t <- forkIO { $z <- catch { $x <- restore $r A; return (Right $x) } $e { return (Left $e) }; putMVar $v $z };
--   let a = ($t, $v);
--   $y <- catch { restore $r B } $e { STOP; throwIO $e }; STOP; return $y } }
abbrev pub scoping : Template → Binder → Template → Template
scoping a y c =
    bind (b.Own ScopeCell) (perform p.NewEmptyMVar)
    (masked
    (bind (b.Own Child)
    (fork
    (bind (b.Own ChildEnding) (ended (x.RightRead (b.Own ActionResult)) a)
    (perform_two p.PutMVar (x.Read (b.Own ScopeCell)) (x.Read (b.Own ChildEnding)))))
    (let_in y (x.PairRead (b.Own Child) (b.Own ScopeCell))
    (bind (b.Own ScopeResult) (guarding (restored c) stopping)
    (then stopping
    (give (x.Read (b.Own ScopeResult))))))))

-- case $z of { Left $e -> { throwIO $e }; Right $x -> A }
abbrev pub unless_thrown : Binder → Template → Template
unless_thrown y a = either (x.Read (b.Own Ended)) (b.Own Caught) (throw (x.Read (b.Own Caught))) y a

-- { let $a = x; $z <- readMVar (snd $a); case $z of { Left $e -> { throwIO $e }; Right $x -> { return $x } } }
abbrev pub waiting : Operand → Template
waiting e =
    let_in (b.Own Scope) e
    (bind (b.Own Ended) (perform_one p.ReadMVar (x.SecondOf (b.Own Scope)))
    (unless_thrown (b.Own ActionResult) (give (x.Read (b.Own ActionResult)))))

-- { let $a = x; throwTo (fst $a) ThreadKilled; $w <- readMVar (snd $a); return () }
abbrev pub cancelling : Template
cancelling =
    let_in (b.Own Scope) x.Subject
    (then (killing (x.FirstOf (b.Own Scope)))
    (bind (b.Own Awaited) (perform_one p.ReadMVar (x.SecondOf (b.Own Scope)))
    (give x.Nil)))

-- $q <- tryPutMVar $c E; A
abbrev pub offering : Operand → Template → Template
offering e a = bind (b.Own WasFirst) (perform_two p.TryPutMVar (x.Read (b.Own FirstEnd)) e) a

-- N(A, S): { mask $m { $p <- catch { $x <- restore $m A; return (Right (S $x)) } $e { return (Left $e) };
--   $q <- tryPutMVar $c $p; return () } }
abbrev pub racing_side : Operand → Template → Template
racing_side e a = masked (bind (b.Own SideEnding) (ended e a) (offering (x.Read (b.Own SideEnding)) (give x.Nil)))

-- M(A): { mask $m { $p <- catch { $x <- restore $m A; return (Right $x) } $e { return (Left $e) };
--   case $p of { Left $e -> { $q <- tryPutMVar $c (Left $e); throwIO $e };
--     Right $x -> { $q <- tryPutMVar $c (Right ()); return $x } } } }
abbrev pub concurrent_side : Template → Template
concurrent_side a =
    masked
    (bind (b.Own SideEnding) (ended (x.RightRead (b.Own ActionResult)) a)
    (either (x.Read (b.Own SideEnding))
    (b.Own Caught) (offering (x.LeftRead (b.Own Caught)) (throw (x.Read (b.Own Caught))))
    (b.Own ActionResult) (offering x.RightNil (give (x.Read (b.Own ActionResult))))))

-- { $c <- newEmptyMVar; withAsync A $a { withAsync B $b { $z <- takeMVar $c;
--   case $z of { Left $e -> { throwIO $e }; Right y -> C } } } }
abbrev pub both_sides : Template → Template → Binder → Template → Template
both_sides a c y e =
    bind (b.Own FirstEnd) (perform p.NewEmptyMVar)
    (scoping a (b.Own FirstSide)
    (scoping c (b.Own SecondSide)
    (bind (b.Own Ended) (perform_one p.TakeMVar (x.Read (b.Own FirstEnd)))
    (unless_thrown y e))))

-- the sides are N(A, Left) and N(B, Right): the first to end decides
abbrev pub racing : Template → Template → Template
racing a c =
    both_sides
    (racing_side (x.RightLeft (b.Own ActionResult)) a)
    (racing_side (x.RightRight (b.Own ActionResult)) c)
    (b.Own ActionResult) (give (x.Read (b.Own ActionResult)))

-- the sides are M(A) and M(B): where the first to end failed its exception goes on, else $x <- wait $a; $y <- wait $b;
-- return ($x, $y)
abbrev pub running_both : Template → Template → Template
running_both a c =
    both_sides (concurrent_side a) (concurrent_side c)
    (b.Own ActionResult)
    (bind (b.Own FirstResult) (waiting (x.Read (b.Own FirstSide)))
    (bind (b.Own SecondResult) (waiting (x.Read (b.Own SecondSide)))
    (give (x.PairRead (b.Own FirstResult) (b.Own SecondResult)))))

-- ---- the table itself

-- what stands for each action that stands for others
abbrev pub template : Derived → Template
template d.MaskOnly = masked (hole part.First)
template d.UninterruptibleMaskOnly = masked_hard (hole part.First)
template d.OnException = guarding (hole part.First) (hole part.Second)
template d.Finally = finishing (hole part.First) (hole part.Second)
template d.Bracket = bracketing (hole part.First) b.Given (hole part.Second) (hole part.Third)
template d.ModifyMVar = modifying (hole part.First)
template d.Timeout = timing_out (hole part.First)
template d.WithAsync = scoping (hole part.First) b.Given (hole part.Second)
template d.Wait = waiting x.Subject
template d.Cancel = cancelling
template d.Race = racing (hole part.First) (hole part.Second)
template d.Concurrently = running_both (hole part.First) (hole part.Second)

-- ---- filled

-- what a form puts into a template: its expression, the name that it binds and its blocks
pub record Filling : Type 0 where
  pub subject : CoreEx
  pub given : List ℕ
  pub block : FormBlock → Core

abbrev pub named : List ℕ → Binder → Name
named y (b.Own h) = Added h
named y b.Given = Written y

abbrev pub operand : Filling → Operand → CoreEx
operand f x.Subject = f.subject
operand f (x.Read y) = core.Read (named f.given y)
operand f (x.JustRead y) = core.JustRead (named f.given y)
operand f x.NoValue = core.NoValue
operand f (x.BelowZero y) = core.BelowZero (named f.given y)
operand f (x.IsZero y) = core.IsZero (named f.given y)
operand f (x.SameExn y z) = core.SameExn (named f.given y) (named f.given z)
operand f x.Killed = core.Killed
operand f x.Nil = core.Nil
operand f (x.LeftRead y) = core.LeftRead (named f.given y)
operand f (x.RightRead y) = core.RightRead (named f.given y)
operand f (x.RightLeft y) = core.RightLeft (named f.given y)
operand f (x.RightRight y) = core.RightRight (named f.given y)
operand f x.RightNil = core.RightNil
operand f (x.PairRead y z) = core.PairRead (named f.given y) (named f.given z)
operand f (x.FirstOf y) = core.FirstOf (named f.given y)
operand f (x.SecondOf y) = core.SecondOf (named f.given y)

-- the template with these in it
abbrev pub fill : Filling → Template → Core
fill f (hole i) = f.block i
fill f (give e) = core.Return (operand f e)
fill f (throw e) = core.ThrowIo (operand f e)
fill f (let_in y e a) = core.Let (named f.given y) (operand f e) (fill f a)
fill f (bind y a c) = core.Bind (named f.given y) (fill f a) (fill f c)
fill f (then a c) = core.Bind Unread (fill f a) (fill f c)
fill f (choose e a c) = core.If (operand f e) (fill f a) (fill f c)
fill f (either e y a z c) = core.CaseEither (operand f e) (named f.given y) (fill f a) (named f.given z) (fill f c)
fill f (perform q) = core.Perform q []
fill f (perform_one q e) = core.Perform q (operand f e ∷ [])
fill f (perform_two q e h) = core.Perform q (operand f e ∷ operand f h ∷ [])
fill f (fork a) = core.Fork (fill f a)
fill f (fork_unmask y a) = core.ForkUnmask (named f.given y) (fill f a)
fill f (catch a y c) = core.Catch (fill f a) (named f.given y) (fill f c)
fill f (mask y a) = core.MaskWith (named f.given y) (fill f a)
fill f (mask_hard y a) = core.MaskHard (named f.given y) (fill f a)
fill f (restore y a) = core.Restore (named f.given y) (fill f a)

-- ---- flattened

-- the steps that make a template's nodes, and then these
abbrev pub flat : Template → List Step → List Step
flat (hole i) k = s.Hole i ∷ k
flat (give e) k = s.Push e ∷ s.Return ∷ k
flat (throw e) k = s.Push e ∷ s.Throw ∷ k
flat (let_in y e a) k = s.Push e ∷ s.Under y ∷ flat a (s.Off ∷ s.Let ∷ k)
flat (bind y a c) k = flat a (s.Under y ∷ flat c (s.Off ∷ s.Bind ∷ k))
flat (then a c) k = flat a (flat c (s.Then ∷ k))
flat (choose e a c) k = s.Push e ∷ flat a (flat c (s.If ∷ k))
flat (either e y a z c) k = s.Push e ∷ s.Under y ∷ flat a (s.Off ∷ s.Under z ∷ flat c (s.Off ∷ s.CaseEither ∷ k))
flat (perform q) k = s.Perform q ∷ k
flat (perform_one q e) k = s.Push e ∷ s.PerformOne q ∷ k
flat (perform_two q e h) k = s.Push e ∷ s.Push h ∷ s.PerformTwo q ∷ k
flat (fork a) k = flat a (s.Fork ∷ k)
flat (fork_unmask y a) k = s.Under y ∷ flat a (s.Off ∷ s.ForkUnmask ∷ k)
flat (catch a y c) k = flat a (s.Under y ∷ flat c (s.Off ∷ s.Catch ∷ k))
flat (mask y a) k = s.Under y ∷ flat a (s.Off ∷ s.Mask ∷ k)
flat (mask_hard y a) k = s.Under y ∷ flat a (s.Off ∷ s.MaskHard ∷ k)
flat (restore y a) k = flat a (s.Restore y ∷ k)

-- the steps of a form
abbrev pub steps : Derived → List Step
steps o = flat (template o) []
