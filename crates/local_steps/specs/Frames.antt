-- Frames in memory: a list that stands in a masking state (own).
use Rattle.std.specs.Prelude.{◌≡◌, ℕ, ◌+◌, ◌<◌, ◌^◌, List, [], ◌∷◌, drop, length}
use Rattle.hs_base.specs.declared.mask.Mask.{Mask}
use Rattle.local_steps.specs.declared.active.Frame.{Frame}
use Rattle.local_steps.specs.declared.active.Frame.TheVariants as f
use Rattle.local_steps.specs.declared.active.Masking.{Masking}

-- frames, the innermost first, and the masking state that they stand in
pub record Framed : Type 0 where
  pub below : Mask
  pub list : List Frame

abbrev pub framed : Mask → List Frame → Framed
framed s fs = record { below = s; list = fs }

abbrev pub masking : Mask → Mask → Masking
masking inside outside = record { inside = inside; outside = outside }

-- the masking state inside frames that stand in the state s: that of the innermost masking scope, if there is one
abbrev pub mask_inside : Mask → List Frame → Mask
mask_inside s [] = s
mask_inside s (f.Bind i w ∷ fs) = mask_inside s fs
mask_inside s (f.Then i vs ∷ fs) = mask_inside s fs
mask_inside s (f.Catch i w ∷ fs) = mask_inside s fs
mask_inside s (f.Mask m ∷ fs) = m.inside

-- a frame says rightly which masking state is outside of it, where it is s
abbrev pub IsIn : Mask → Frame → Type 0
IsIn s (f.Bind i w) = Unit {0}
IsIn s (f.Then i vs) = Unit {0}
IsIn s (f.Catch i w) = Unit {0}
IsIn s (f.Mask m) = m.outside ≡ s

-- each masking scope says rightly which state is outside of it
abbrev pub IsNested : Mask → List Frame → Type 0
IsNested s [] = Unit {0}
IsNested s (f ∷ fs) = IsIn (mask_inside s fs) f × IsNested s fs

-- a copy of the frame that has so many others inside of it, alone in the masking state outside of it
abbrev pub IsOneFrame : Framed → ℕ → Framed → Type 0
IsOneFrame all inner one =
    (f : Frame) × (drop inner all.list ≡ f ∷ drop (inner + 1) all.list) × (one ≡ framed (mask_inside all.below (drop (inner + 1) all.list)) (f ∷ []))

-- what always holds of frames: the state inside them is known, and they are less than 2^32
pub record AreFrames (below mask : Mask) (list : List Frame) : Type 0 where
  pub nested : IsNested below list
  pub inside : mask ≡ mask_inside below list
  pub few : length list < 2 ^ 32

abbrev pub IsScope : Frame → Type 0
IsScope (f.Bind i w) = ⊥
IsScope (f.Then i vs) = ⊥
IsScope (f.Catch i w) = ⊥
IsScope (f.Mask m) = Unit {0}

-- the innermost frame is a handler
abbrev pub IsHandler : List Frame → Type 0
IsHandler [] = ⊥
IsHandler (f.Bind i w ∷ fs) = ⊥
IsHandler (f.Then i vs ∷ fs) = ⊥
IsHandler (f.Catch i w ∷ fs) = Unit {0}
IsHandler (f.Mask m ∷ fs) = ⊥
