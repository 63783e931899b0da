-- That local rules of a part are local rules of it over all frames with the same masking state (own).
use Rattle.std.specs.Prelude.{◌≡◌, ◌++◌, ◌∷◌, [], ℕ, List, Some}
use Rattle.hs_base.specs.declared.mask.Mask.{Mask}
use Rattle.rules_code.specs.CodeTrees.{SlottedFunction}
use Rattle.rules_meaning.specs.CoreMeaning.{Code}
use Rattle.hs_rules.specs.Terms.{Part, Frame, MaskIn, term, mask_at}
use Rattle.hs_rules.specs.LocalRules as named
use Rattle.slot_laws.specs.SlotRules.{SlotFrame, SlotTerm, at, mask_from, locals}

-- Some local rules of a term with slots, where the masking state below it is that of some frames, are as many of it over those
-- frames: they stay as they are below what the term pushes.
abbrev pub SlicesFitFrames : Type 0
SlicesFitFrames =
    (funs : List SlottedFunction) (s : Mask) (below : List SlotFrame) (k : ℕ) (t u : SlotTerm) →
    locals funs (mask_from s below) k t ≡ Some u →
    locals funs s k (at t.part (t.frames ++ below)) ≡ Some (at u.part (u.frames ++ below))

-- Some local rules of a term with names over the one frame of a masking scope, which they don't leave, are as many of it over
-- all frames with that masking state.
abbrev pub RulesFitFrames : Type 0
RulesFitFrames =
    (code : Code) (m : Mask) (below : List Frame) (k : ℕ) (p q : Part) (ps qs : List Frame) → mask_at below ≡ m →
    named.locals code k (term p (ps ++ MaskIn m ∷ [])) ≡ Some (term q (qs ++ MaskIn m ∷ [])) →
    named.locals code k (term p (ps ++ below)) ≡ Some (term q (qs ++ below))
