-- What a gap of a search shows of runs.
use Rattle.std.proofs.Common.{◌≡◌, ◌≤◌, ◌+◌, ℕ, List, ◌++◌, Some, refl, sym, ap, ◌∙◌, subst, arith}
use Rattle.hs_base.specs.declared.clock_choice.ClockChoice.{ClockChoice}
use Rattle.hs_base.specs.declared.clock_choice.ClockChoice.TheVariants.{Real, Virtual}
use Rattle.hs_base.specs.declared.limits.Limits.{Limits}
use Rattle.hs_base.specs.declared.tree.script.Script.{Script}
use Rattle.hs_rules.specs.declared.entry.Entry.{Entry}
use Rattle.hs_rules.specs.declared.entry.LimitKind.{LimitKind}
use Rattle.hs_rules.specs.declared.entry.LimitKind.TheVariants as limit
use Rattle.rules_expansion.specs.trees.Programs.{Fn, script_of}
use Rattle.rules_meaning.specs.CoreMeaning.{code_of}
use Rattle.rules_typing.specs.TypingScripts.{Accepted}
use Rattle.rules_code.specs.CodeTrees.{code_trees}
use Rattle.hs_rules.specs.Entries.{IsLegal}
use Rattle.hs_rules.specs.Endings.{allowed}
use Rattle.outcome_laws.specs.timing.WithoutTime as named
use Rattle.slot_states.specs.SlotStates.{SlotState}
use Rattle.slot_states.specs.Printing.{output_by, errors_by}
use Rattle.slot_states.specs.Resting.{used}
use Rattle.slot_states.proofs.AtRest.{same_used}
use Rattle.slot_states.specs.entering.Entering.{next}
use Rattle.search_laws.specs.time.WithoutTime.{untimed, ReadsClock}
use Rattle.search_laws.specs.Shown.{forget, Shown, IsFirst, Arrives, Uses}
use Rattle.search_laws.specs.Going.{ReadsTime, Leaves, steps_by}
use Rattle.search_laws.proofs.Cited.{entered, reads, reads_named}
use Rattle.search_laws.proofs.Walking.{At, led, is_run, used_forgotten}
use Rattle.search_laws.proofs.Reached.{at_of, first_at}
use Rattle.search_laws.proofs.Reading.{reads_any}

-- ---- a reading of the clock

reads_here : (script : Script) → Accepted script → (limits : Limits) (n : ℕ) (c : Shown) (z : SlotState) (e : Entry) (a : Arrives Real (script_of script) limits n c) → ReadsClock c.slots e → next (code_trees (script_of script)) c.slots e ≡ Some z →
    IsLegal (code_of (script_of script)) a.state e × named.ReadsClock a.state e
reads_here script accepted limits n c z e a r h =
    let x : SlotState = a.stands.exact in
    let q : ReadsClock x e = (reads x e).0 (subst (λ y. ReadsClock y e) (sym a.stands.forgotten) r) in
    let k = reads_any (code_trees (script_of script)) (untimed x) x z e refl (subst (λ y. ReadsClock y e) (sym a.stands.forgotten) r) (subst (λ y. next (code_trees (script_of script)) y e ≡ Some z) (sym a.stands.forgotten) h) in
    let l = entered script accepted x k.0 e k.1 a.entries a.state (is_run Real (script_of script) a.entries a.begin a.state a.begins a.run) a.stands.represents in
    ((l.0, l.1), (reads_named script x a.state a.stands.represents e).0 q)

-- what reads the clock in real timing is legal in each state that is stood for
pub reading_legal : (clock : ClockChoice) (script : Script) → Accepted script → (limits : Limits) (n : ℕ) (c : Shown) (z : SlotState) (e : Entry) (a : Arrives clock (script_of script) limits n c) → ReadsTime clock c.slots e → next (code_trees (script_of script)) c.slots e ≡ Some z →
    (clock ≡ Real) × IsLegal (code_of (script_of script)) a.state e × named.ReadsClock a.state e
reading_legal Real script accepted limits n c z e a r h = let k = reads_here script accepted limits n c z e a r h in (refl, k.0, k.1)
reading_legal Virtual script accepted limits n c z e a r h = absurd r

-- ---- a limit that is exceeded

-- limits within which a state is, and whatever is within the others
abbrev loose : Limits → SlotState → Limits
loose limits x = record {
  threads = limits.threads + used limit.Threads x;
  cells = limits.cells + used limit.Cells x;
  frames = limits.frames + used limit.Frames x;
  output = limits.output + used limit.Output x;
}

loose_allows : (limits : Limits) (x : SlotState) (kind : LimitKind) → (allowed kind limits ≤ allowed kind (loose limits x)) × (used kind x ≤ allowed kind (loose limits x))
loose_allows limits x limit.Threads = (omega arith, omega arith)
loose_allows limits x _ = (omega arith, omega arith)

loosened : (clock : ClockChoice) (ds : List Fn) (limits : Limits) (y : SlotState) (n : ℕ) (x : SlotState) (o r : List ℕ) → At clock ds limits n x o r → At clock ds (loose limits y) n x o r
loosened clock ds limits y n x o r a = record {
  begin = a.begin;
  begins = a.begins;
  entries = a.entries;
  state = a.state;
  run = a.run;
  steps_are = a.steps_are;
  within = λ front back s split after kind over. a.within front back s split after kind (let g = (loose_allows limits y kind).0 in omega arith);
  represents = a.represents;
  output_is = a.output_is;
  errors_is = a.errors_is;
}

uses_of : (clock : ClockChoice) (script : Script) (limits : Limits) (n : ℕ) (x z : SlotState) (o r : List ℕ) → forget clock x ≡ forget clock z → At clock (script_of script) limits n x o r → Uses clock (script_of script) n z
uses_of clock script limits n x z o r e a = record {
  begin = a.begin;
  begins = a.begins;
  entries = a.entries;
  state = a.state;
  run = a.run;
  uses = λ kind. same_used (script_of script) x a.state a.represents kind ∙ (sym (used_forgotten clock kind x) ∙ (ap (used kind) e ∙ used_forgotten clock kind z));
}

-- so do what an entry leaves, whatever the limits
pub left_uses : (clock : ClockChoice) (script : Script) → Accepted script → (limits : Limits) (n : ℕ) (c : Shown) (e : Entry) (z : SlotState) → Leaves clock (code_trees (script_of script)) c.slots e z → Arrives clock (script_of script) limits n c →
    Uses clock (script_of script) (n + steps_by clock e) z
left_uses clock script accepted limits n c e z l a =
    let x : SlotState = a.stands.exact in
    let enters : Leaves clock (code_trees (script_of script)) (forget clock x) e z = subst (λ y. Leaves clock (code_trees (script_of script)) y e z) (sym a.stands.forgotten) l in
    let b = loosened clock (script_of script) limits z n x c.output c.errors (at_of clock script accepted limits n c a) in
    let k = led script accepted (loose limits z) clock n x z c.output c.errors e enters (λ kind. (loose_allows limits z kind).1) b in
    uses_of clock script (loose limits z) (n + steps_by clock e) k.exact z (c.output ++ output_by (forget clock x) e) (c.errors ++ errors_by (forget clock x) e) k.forgotten k.at

-- and the first state
abbrev none_allowed : Limits
none_allowed = record { threads = 0; cells = 0; frames = 0; output = 0 }

pub first_uses : (clock : ClockChoice) (script : Script) → Accepted script → (x : SlotState) → IsFirst (script_of script) x → Uses clock (script_of script) 0 x
first_uses clock script accepted x is =
    uses_of clock script (loose none_allowed x) 0 x x _ _ refl (first_at clock script accepted (loose none_allowed x) x is (λ kind. (loose_allows none_allowed x kind).1))
