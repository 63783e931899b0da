-- Terms: what a thread has still to do, as an active part in its context.
--
-- "Asynchronous Exceptions in Haskell" reduces the term under an evaluation context. Here the context is a list of
-- frames, the innermost first. `TermTrees` has the same terms as trees; the two are proved to move alike.
use Rattle.std.specs.Prelude.{List, [], ◌∷◌}
use Rattle.hs_base.specs.declared.mask.Mask.{Mask}
use Rattle.hs_base.specs.declared.mask.Mask.TheVariants.{Unmasked}
use Rattle.hs_base.specs.declared.exn.Exn.{Exn}
use Rattle.rules_expansion.specs.Names.{Name}
use Rattle.rules_meaning.specs.Values.{V, Env}
use Rattle.rules_expansion.specs.Core.{Core}
use Rattle.rules_expansion.specs.declared.primitive.Primitive.{Primitive}

-- what only an Op performs: a primitive with its values, or a fork with its block and environment
pub data Operation : Type 0 where
  Calls : Primitive → List V → Operation
  Forks : Core → Env → Operation
  ForksUnmask : Name → Core → Env → Operation

pub data Part : Type 0 where
  -- the thread has this value
  Ret : V → Part
  -- the thread throws this exception
  Throw : Exn → Part
  -- the thread is to do this action, with these values of its names
  Do : Core → Env → Part
  -- the thread stands at an operation
  Performs : Operation → Part

pub data Frame : Type 0 where
  -- the value goes to this name of this action
  BindTo : Name → Core → Env → Frame
  -- an exception goes to this name of this handler
  CatchBy : Name → Core → Env → Frame
  -- inside, this is the masking state
  MaskIn : Mask → Frame

pub record Term : Type 0 where
  pub part : Part
  -- the innermost first
  pub frames : List Frame

abbrev pub term : Part → List Frame → Term
term p fs = record { part = p; frames = fs }

-- the masking state inside these frames: that of the innermost MaskIn, or Unmasked
abbrev pub mask_at : List Frame → Mask
mask_at [] = Unmasked
mask_at (BindTo x b env ∷ fs) = mask_at fs
mask_at (CatchBy x b env ∷ fs) = mask_at fs
mask_at (MaskIn m ∷ fs) = m
