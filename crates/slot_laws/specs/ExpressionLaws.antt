-- That what a thread evaluates next may be evaluated, by trees and by the nodes of a code (own).
use Rattle.std.specs.Prelude.{◌≡◌, ℕ, List, Option, Some, slice_get}
use Rattle.hs_base.specs.declared.mask.Mask.TheVariants.{Unmasked}
use Rattle.hs_base.specs.declared.tree.script.Script.{Script}
use Rattle.rules_expansion.specs.trees.Programs.{Fn, script_of}
use Rattle.rules_meaning.specs.Values.{V}
use Rattle.rules_meaning.specs.CoreMeaning.{code_of}
use Rattle.rules_typing.specs.TypingScripts.{Accepted}
use Rattle.rules_code.specs.declared.act.Act.{Act}
use Rattle.rules_code.specs.declared.act.ActId.{ActId}
use Rattle.rules_code.specs.declared.code.CodeBody.{CodeBody}
use Rattle.rules_code.specs.declared.node.ExprId.{ExprId}
use Rattle.rules_code.specs.Slots.{Sx, tree_at}
use Rattle.rules_code.specs.CodeTrees.{Sa, act_tree_at, code_trees}
use Rattle.hs_rules.specs.Terms.{Term}
use Rattle.hs_rules.specs.LocalRules as named
use Rattle.hs_rules.specs.State.{State, Thread}
use Rattle.hs_progress.specs.TypedStates.{Store}
use Rattle.slot_laws.specs.SlotRules.{doing, SlotFrame, SlotTerm, at, locals}
use Rattle.slot_laws.specs.Standing.{cells_of, Stands}
use Rattle.slot_laws.specs.Stacks.{StacksStand}
use Rattle.slot_laws.specs.Expressions.{slots_evaluated, nodes_evaluated, Evaluable}

-- Where a term with slots that is to do an action stands for a named one, each expression that the action's first step
-- evaluates is, in the values of its slots, one that the next rule of the named term evaluates.
abbrev pub SlotsMayBeEvaluated : Type 0
SlotsMayBeEvaluated =
    (store : Option Store) (ds : List Fn) (tree : Sa) (vs : List V) (ss : List SlotFrame) (t : Term) →
    Stands (cells_of store) ds (at (doing tree vs) ss) t →
    (n : ℕ) (e : Sx) → slice_get (slots_evaluated tree) n ≡ Some e →
    Evaluable ds t.part n e vs

-- Where stacks stand for a state of an accepted script, and some local rules of a thread's stack come to an action: as many of
-- the thread's own come to a term, and each expression that the action's first step evaluates is one that the next rule of that
-- term evaluates.
abbrev pub SlotsMayBeEvaluatedInRuns : Type 0
SlotsMayBeEvaluatedInRuns =
    (s : Script) → Accepted s →
    (stacks : ℕ → SlotTerm) (u : State) → StacksStand (script_of s) stacks u →
    (t k : ℕ) (th : Thread) → slice_get u.threads t ≡ Some th →
    (tree : Sa) (vs : List V) (ss : List SlotFrame) →
    locals (code_trees (script_of s)) Unmasked k (stacks t) ≡ Some (at (doing tree vs) ss) →
    (x : Term) × (named.locals (code_of (script_of s)) k th.term ≡ Some x) ×
    ((n : ℕ) (e : Sx) → slice_get (slots_evaluated tree) n ≡ Some e → Evaluable (script_of s) x.part n e vs)

-- Where a term with slots that is to do the action under a number of a code stands for a named one, the tree of each expression
-- that the action's node names is one that the next rule of the named term evaluates.
abbrev pub NodesMayBeEvaluated : Type 0
NodesMayBeEvaluated =
    (store : Option Store) (b : CodeBody) (i : ActId) (k : Act) → slice_get b.acts i.0 ≡ Some k →
    (vs : List V) (ss : List SlotFrame) (t : Term) →
    Stands (cells_of store) (script_of b.of.value) (at (doing (act_tree_at b.nodes b.acts i) vs) ss) t →
    (n : ℕ) (e : ExprId) → slice_get (nodes_evaluated k) n ≡ Some e →
    Evaluable (script_of b.of.value) t.part n (tree_at b.nodes e) vs

-- Where stacks stand for a state of the script of a code, which is accepted, and some local rules of a thread's stack come to
-- the action under a number of that code: as many of the thread's own come to a term, and the tree of each expression that the
-- action's node names is one that the next rule of that term evaluates.
abbrev pub NodesMayBeEvaluatedInRuns : Type 0
NodesMayBeEvaluatedInRuns =
    (b : CodeBody) → Accepted b.of.value →
    (stacks : ℕ → SlotTerm) (u : State) → StacksStand (script_of b.of.value) stacks u →
    (t r : ℕ) (th : Thread) → slice_get u.threads t ≡ Some th →
    (i : ActId) (k : Act) → slice_get b.acts i.0 ≡ Some k →
    (vs : List V) (ss : List SlotFrame) →
    locals (code_trees (script_of b.of.value)) Unmasked r (stacks t) ≡ Some (at (doing (act_tree_at b.nodes b.acts i) vs) ss) →
    (x : Term) × (named.locals (code_of (script_of b.of.value)) r th.term ≡ Some x) ×
    ((n : ℕ) (e : ExprId) → slice_get (nodes_evaluated k) n ≡ Some e →
    Evaluable (script_of b.of.value) x.part n (tree_at b.nodes e) vs)
