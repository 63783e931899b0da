-- That stacks stand for the threads of a state, from the first state on and through each entry (own).
use Rattle.std.specs.Prelude.{◌≡◌, ◌<◌, ◌++◌, ◌∷◌, [], ℕ, List, length, slice_get, Some}
use Rattle.hs_base.specs.declared.mask.Mask.{Mask}
use Rattle.hs_base.specs.declared.mask.Mask.TheVariants.{Unmasked}
use Rattle.hs_base.specs.declared.tree.script.Script.{Script}
use Rattle.hs_base.specs.declared.exn.Exn.TheVariants.{BlockedIndefinitely}
use Rattle.hs_rules.specs.declared.entry.Entry.{Entry}
use Rattle.hs_rules.specs.declared.entry.Entry.TheVariants.{Stranded}
use Rattle.rules_expansion.specs.trees.Programs.{Fn, script_of}
use Rattle.rules_expansion.specs.Names.{Name}
use Rattle.rules_expansion.specs.Core.{Core}
use Rattle.rules_expansion.specs.Expansion.{main_of}
use Rattle.rules_meaning.specs.Values.{V, Env, Restore, with_name}
use Rattle.rules_meaning.specs.Values as val
use Rattle.rules_meaning.specs.CoreMeaning.{code_of}
use Rattle.rules_typing.specs.TypingScripts.{Accepted}
use Rattle.rules_code.specs.CodeTrees.{Sa, code_trees, main_tree}
use Rattle.hs_rules.specs.Terms.{Forks, ForksUnmask, Part, Do, Performs, MaskIn, Term, term}
use Rattle.hs_rules.specs.LocalRules as named
use Rattle.hs_rules.specs.State.{State, Thread, move, answer, spawn, first}
use Rattle.hs_rules.specs.Entries.{next}
use Rattle.hs_rules.specs.Runs.{IsRun}
use Rattle.hs_laws.specs.MaskLaw.{WaitsOpen}
use Rattle.hs_progress.specs.TypedStates.{Store, Follows, Stays}
use Rattle.slot_laws.specs.SlotRules.{forks, forks_unmask, SlotPart, ret, throw, doing, performs, mask_in, SlotTerm, at, locals}
use Rattle.slot_laws.specs.Standing.{StandsIn, EndsAs}
use Rattle.slot_laws.specs.Stacks.{StacksStand, with_stack, Resumed}

-- Where a store follows, by an entry that changes nothing of what goes to the frames of a thread, the stack of that thread
-- stands as before.
abbrev pub StacksStay : Type 0
StacksStay =
    (ds : List Fn) (old : Store) (e : Entry) (s : State) (f : Follows ds old (Stays e) s) (t : ℕ) → t < old.count → Stays e t →
    (st : SlotTerm) (u : Term) → StandsIn ds old t st u →
    StandsIn ds f.store t st u

-- Where the thread's part is a value or an exception then, and its frames are as they were, its stack stands with that value or
-- exception in the place of its part.
abbrev pub StacksAreAnswered : Type 0
StacksAreAnswered =
    (ds : List Fn) (old : Store) (e : Entry) (s : State) (f : Follows ds old (Stays e) s) (t : ℕ) → t < old.count → Stays e t →
    (st : SlotTerm) (u : Term) (x : Part) (p : SlotPart) (th : Thread) → StandsIn ds old t st u →
    slice_get s.threads t ≡ Some th → th.term ≡ term x u.frames → EndsAs x p →
    StandsIn ds f.store t (at p st.frames) (term x u.frames)

-- Where stacks stand for a state of an accepted script, and one of them moves by some local rules, the thread moves by as many,
-- and the stacks stand for the state with its term moved.
abbrev pub LocalsKeepStacks : Type 0
LocalsKeepStacks =
    (script : Script) → Accepted script →
    (stacks : ℕ → SlotTerm) (s : State) (t k : ℕ) (th : Thread) → StacksStand (script_of script) stacks s →
    slice_get s.threads t ≡ Some th →
    (st : SlotTerm) → locals (code_trees (script_of script)) Unmasked k (stacks t) ≡ Some st →
    (u : Term) × (named.locals (code_of (script_of script)) k th.term ≡ Some u) ×
    StacksStand (script_of script) (with_stack t st stacks) (move t u s)

-- Where an entry that is no Local and no fork leaves a state of a run of an accepted script, stacks that stood stand on, with
-- each as it was or with the value or exception that its thread got.
abbrev pub EntriesKeepStacks : Type 0
EntriesKeepStacks =
    (script : Script) → Accepted script →
    (es : List Entry) (s v : State) (e : Entry) → IsRun (script_of script) es s →
    next (code_of (script_of script)) s e ≡ Some v → ((t : ℕ) → Stays e t) → length v.threads ≡ length s.threads →
    (stacks then : ℕ → SlotTerm) → StacksStand (script_of script) stacks s →
    ((t : ℕ) (a b : Thread) → slice_get s.threads t ≡ Some a → slice_get v.threads t ≡ Some b →
    Resumed (stacks t) a.term (then t) b.term) →
    StacksStand (script_of script) then v

-- Where a Stranded leaves a state of a run of an accepted script, stacks that stood stand on, with `BlockedIndefinitely` thrown
-- in the part of each thread that waited at a cell and could be interrupted, and no other changed.
abbrev pub StrandingKeepsStacks : Type 0
StrandingKeepsStacks =
    (script : Script) → Accepted script →
    (es : List Entry) (s v : State) → IsRun (script_of script) es s → next (code_of (script_of script)) s Stranded ≡ Some v →
    (stacks then : ℕ → SlotTerm) → StacksStand (script_of script) stacks s →
    ((t : ℕ) → WaitsOpen s t → then t ≡ at (throw BlockedIndefinitely) (stacks t).frames) →
    ((t : ℕ) → ¬ WaitsOpen s t → then t ≡ stacks t) →
    StacksStand (script_of script) then v

-- thread t has made thread n with this stack, and gets its number
abbrev pub with_child : ℕ → ℕ → SlotTerm → (ℕ → SlotTerm) → ℕ → SlotTerm
with_child t n st stacks = with_stack n st (with_stack t (at (ret (val.Thread n)) (stacks t).frames) stacks)

-- Where a thread is at a fork, stacks that stand stand on with a stack more: the new thread is to do the forked action in a
-- masking scope, and its parent gets its number.
abbrev pub ForksAddAStack : Type 0
ForksAddAStack =
    (ds : List Fn) (stacks : ℕ → SlotTerm) (s : State) → StacksStand ds stacks s →
    (t : ℕ) (th : Thread) → slice_get s.threads t ≡ Some th →
    (m : Mask) (tree : Sa) (vs : List V) (a : Core) (env : Env) → (stacks t).part ≡ performs (forks tree vs) →
    th.term.part ≡ Performs (Forks a env) →
    StacksStand ds (with_child t (length s.threads) (at (doing tree vs) (mask_in m ∷ [])) stacks)
    (spawn (term (Do a env) (MaskIn m ∷ [])) (answer t (val.Thread (length s.threads)) s))

-- The same of `forkIOWithUnmask`: the unmasked state takes the next slot of the forked action, and the name that it binds.
abbrev pub UnmaskingForksAddAStack : Type 0
UnmaskingForksAddAStack =
    (ds : List Fn) (stacks : ℕ → SlotTerm) (s : State) → StacksStand ds stacks s →
    (t : ℕ) (th : Thread) → slice_get s.threads t ≡ Some th →
    (m : Mask) (tree : Sa) (vs : List V) (x : Name) (a : Core) (env : Env) → (stacks t).part ≡ performs (forks_unmask tree vs) →
    th.term.part ≡ Performs (ForksUnmask x a env) →
    StacksStand ds (with_child t (length s.threads) (at (doing tree (vs ++ Restore Unmasked ∷ [])) (mask_in m ∷ [])) stacks)
    (spawn (term (Do a (with_name x (Restore Unmasked) env)) (MaskIn m ∷ [])) (answer t (val.Thread (length s.threads)) s))

-- In the first state of an accepted script, which has a `main`, the stack that is to do the tree of its body stands.
abbrev pub MainHasAStack : Type 0
MainHasAStack =
    (script : Script) → Accepted script →
    (a : Core) × (main_of (script_of script) ≡ Some a) ×
    StacksStand (script_of script) (λ t. at (doing (main_tree (script_of script)) []) []) (first a)
