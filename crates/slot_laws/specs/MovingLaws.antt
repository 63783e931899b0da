-- That terms with slots move as the terms with names that they stand for (own).
use Rattle.std.specs.Prelude.{◌≡◌, ◌++◌, ◌∷◌, [], ℕ, List, Option, Some}
use Rattle.hs_base.specs.declared.mask.Mask.{Mask}
use Rattle.hs_base.specs.declared.mask.Mask.TheVariants.{Unmasked}
use Rattle.hs_base.specs.declared.tree.script.Script.{Script}
use Rattle.rules_expansion.specs.trees.Trees.{unit}
use Rattle.rules_expansion.specs.trees.Programs.{Fn, script_of}
use Rattle.rules_expansion.specs.Core.{Core}
use Rattle.rules_expansion.specs.Expansion.{main_of}
use Rattle.rules_meaning.specs.Values.{V}
use Rattle.rules_meaning.specs.CoreMeaning.{code_of}
use Rattle.rules_sorts.specs.Sorts.{a_value}
use Rattle.rules_sorts.specs.TypedMeaning.{any_cell}
use Rattle.rules_typing.specs.TypingScripts.{Accepted}
use Rattle.rules_code.specs.CodeTrees.{Sa, code_trees, main_tree}
use Rattle.hs_rules.specs.Terms.{Term}
use Rattle.hs_rules.specs.LocalRules as named
use Rattle.hs_progress.specs.TypedStates.{Store}
use Rattle.slot_laws.specs.SlotRules.{SlotPart, doing, SlotFrame, mask_in, SlotTerm, at, local, locals, mask_from}
use Rattle.slot_laws.specs.Standing.{cells_of, Reads, Stands, BothStand, StepsTo}

-- Where a term with slots stands for a named one, in an accepted script, one local rule leaves terms of which one stands for
-- the other, or neither has a rule.
abbrev pub OneRuleMovesBoth : Type 0
OneRuleMovesBoth =
    (store : Option Store) (s : Script) → Accepted s →
    (st : SlotTerm) (t : Term) → Stands (cells_of store) (script_of s) st t →
    BothStand (cells_of store) (script_of s) (local (code_trees (script_of s)) Unmasked st.part st.frames)
    (named.local (code_of (script_of s)) t.part t.frames)

-- The same after any number of local rules in turn.
abbrev pub SomeRulesMoveBoth : Type 0
SomeRulesMoveBoth =
    (store : Option Store) (s : Script) → Accepted s →
    (k : ℕ) (st : SlotTerm) (t : Term) → Stands (cells_of store) (script_of s) st t →
    BothStand (cells_of store) (script_of s) (locals (code_trees (script_of s)) Unmasked k st)
    (named.locals (code_of (script_of s)) k t)

-- Where the term is to do an action, both have a rule, and what the one leaves stands for what the other leaves.
abbrev pub ActionsHaveARule : Type 0
ActionsHaveARule =
    (store : Option Store) (s : Script) → Accepted s →
    (tree : Sa) (vs : List V) (ss : List SlotFrame) (t : Term) →
    Stands (cells_of store) (script_of s) (at (doing tree vs) ss) t →
    StepsTo (cells_of store) (script_of s) (local (code_trees (script_of s)) Unmasked (doing tree vs) ss)
    (named.local (code_of (script_of s)) t.part t.frames)

-- A slice is some local rules of a part alone, where the masking state below it is that of the frames below. Where that part
-- over those frames stands for a named term, the named term has as many rules, and what the slice ends with, over the same
-- frames, stands for what they leave.
abbrev pub SlicesMoveNames : Type 0
SlicesMoveNames =
    (store : Option Store) (s : Script) → Accepted s →
    (k : ℕ) (start end : SlotPart) (below pushed : List SlotFrame) (t : Term) →
    Stands (cells_of store) (script_of s) (at start below) t →
    locals (code_trees (script_of s)) (mask_from Unmasked below) k (at start []) ≡ Some (at end pushed) →
    (u : Term) × (named.locals (code_of (script_of s)) k t ≡ Some u) ×
    Stands (cells_of store) (script_of s) (at end (pushed ++ below)) u

-- In an accepted script `main` has a body, and its tree in no values stands for it in no environment: it gives a unit.
abbrev pub MainReadsItself : Type 0
MainReadsItself =
    (store : Option Store) (s : Script) → Accepted s →
    (a : Core) × (main_of (script_of s) ≡ Some a) ×
    Reads (cells_of store) (script_of s) (main_tree (script_of s)) [] a [] (a_value unit)

-- Where a term that is to do an action stands for a named one, that action alone in a masking scope of any state stands for a
-- named term, whatever the numbers in its values are of.
abbrev pub ActionsGoInEveryMask : Type 0
ActionsGoInEveryMask =
    (store : Option Store) (ds : List Fn) (m : Mask) (tree : Sa) (vs : List V) (below : List SlotFrame) (t : Term) →
    Stands (cells_of store) ds (at (doing tree vs) below) t →
    (u : Term) × Stands any_cell ds (at (doing tree vs) (mask_in m ∷ [])) u
