-- Core actions (own): what every action of a script expands to.
use Rattle.std.specs.Prelude.{ℕ, cond, List, [], ◌∷◌, Option, Some, None, bytes_eq}
use Rattle.rules_expansion.specs.trees.Trees.{Ex, Exs}
use Rattle.rules_expansion.specs.declared.primitive.Primitive.{Primitive}
use Rattle.rules_expansion.specs.Names.{Name}

-- the expressions of core actions: the script's own, and the few that expansions write
pub data CoreEx : Type 0 where
  OfScript : Ex → CoreEx
  -- x
  Read : Name → CoreEx
  -- Just x
  JustRead : Name → CoreEx
  -- Nothing
  NoValue : CoreEx
  -- x < 0
  BelowZero : Name → CoreEx
  -- x == 0
  IsZero : Name → CoreEx
  -- x == y, of exceptions
  SameExn : (x y : Name) → CoreEx
  -- ThreadKilled
  Killed : CoreEx
  -- ()
  Nil : CoreEx
  -- Left x
  LeftRead : Name → CoreEx
  -- Right x
  RightRead : Name → CoreEx
  -- Right (Left x)
  RightLeft : Name → CoreEx
  -- Right (Right x)
  RightRight : Name → CoreEx
  -- Right ()
  RightNil : CoreEx
  -- (x, y)
  PairRead : (x y : Name) → CoreEx
  -- fst x
  FirstOf : Name → CoreEx
  -- snd x
  SecondOf : Name → CoreEx

pub data Core : Type 0 where
  -- return e
  Return : CoreEx → Core
  -- throwIO e
  ThrowIo : CoreEx → Core
  -- let x = e; A
  Let : Name → CoreEx → Core → Core
  -- x <- A; B
  Bind : Name → Core → Core → Core
  -- if e then A else B
  If : CoreEx → Core → Core → Core
  -- case e of { Nothing -> A; Just x -> B }
  CaseMaybe : CoreEx → Core → Name → Core → Core
  -- case e of { Left x -> A; Right y -> B }
  CaseEither : CoreEx → Name → Core → Name → Core → Core
  -- case e of { [] -> A; x : y -> B }
  CaseList : CoreEx → Core → Name → Name → Core → Core
  -- case e of { (x, y) -> A }
  CasePair : CoreEx → Name → Name → Core → Core
  -- f e ..
  Call : List ℕ → Exs → Core
  Perform : Primitive → List CoreEx → Core
  -- forkIO A
  Fork : Core → Core
  -- forkIOWithUnmask r A
  ForkUnmask : Name → Core → Core
  -- catch A x B
  Catch : Core → Name → Core → Core
  -- mask r A
  MaskWith : Name → Core → Core
  -- uninterruptibleMask r A
  MaskHard : Name → Core → Core
  -- restore r A
  Restore : Name → Core → Core

-- an action function: its parameters and its body
pub record ActionFunction : Type 0 where
  pub name : List ℕ
  pub params : List Name
  pub body : Core

-- the first action function of a name
abbrev pub action_named : List ℕ → List ActionFunction → Option ActionFunction
action_named f [] = None
action_named f (d ∷ ds) = cond (bytes_eq f d.name) (Some d) (action_named f ds)
