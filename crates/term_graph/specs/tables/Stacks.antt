-- Frames by number (own): a level is a frame inside a stack that was there before.
use Rattle.std.specs.Prelude.{◌≡◌, ℕ, ◌≤◌, List, [], ◌∷◌, ◌++◌, Some, length, get_or, slice_get}
use Rattle.hs_base.specs.declared.mask.Mask.TheVariants.{Unmasked}
use Rattle.local_steps.specs.declared.active.Frame.{Frame}
use Rattle.local_steps.specs.Frames.{mask_inside}
use Rattle.term_graph.specs.declared.tables.level.Level.{Level}

-- a frame inside the stack of a number
abbrev pub pushed : Level → List (List Frame) → List Frame
pushed l stacks = l.frame ∷ get_or stacks l.outer []

-- these stacks, and behind them one for each of these levels
abbrev pub stacks_after : List (List Frame) → List Level → List (List Frame)
stacks_after stacks [] = stacks
stacks_after stacks (l ∷ ls) = stacks_after (stacks ++ pushed l stacks ∷ []) ls

-- the stack of number 0 has no frames, and each level makes the next one
abbrev pub stacks_of : List Level → List (List Frame)
stacks_of ls = stacks_after ([] ∷ []) ls

-- the stack round a level was there before, and the level knows the masking state inside its own and how many frames that has
pub record IsMeasured (stacks : List (List Frame)) (n : ℕ) (l : Level) : Type 0 where
  pub before : l.outer ≤ n
  pub mask : l.mask ≡ mask_inside Unmasked (pushed l stacks)
  pub depth : l.depth ≡ length (pushed l stacks)

abbrev pub AreMeasured : List Level → Type 0
AreMeasured ls = (n : ℕ) (l : Level) → slice_get ls n ≡ Some l → IsMeasured (stacks_of ls) n l

-- a level makes a stack: it is the level's frame inside a stack that there is, and the level says rightly which masking state is
-- inside it and how many frames it has
pub record Makes (stacks : List (List Frame)) (fs : List Frame) (l : Level) : Type 0 where
  pub outer : List Frame
  pub there : slice_get stacks l.outer ≡ Some outer
  pub is : fs ≡ l.frame ∷ outer
  pub mask : l.mask ≡ mask_inside Unmasked fs
  pub depth : l.depth ≡ length fs
