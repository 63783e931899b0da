-- A Tick, and some local rules of one thread.
use Rattle.std.proofs.Common.{◌≡◌, ℕ, zero, suc, ◌<◌, ◌≤◌, List, false, Some, refl, sym, ap, ◌∙◌, subst, arith, slice_get}
use Rattle.hs_base.specs.declared.mask.Mask.TheVariants.{Unmasked}
use Rattle.hs_base.specs.declared.tree.script.Script.{Script}
use Rattle.hs_rules.specs.declared.entry.Entry.TheVariants.{Local, Tick}
use Rattle.rules_expansion.specs.trees.Programs.{Fn, script_of}
use Rattle.rules_meaning.specs.CoreMeaning.{Code, code_of}
use Rattle.rules_typing.specs.TypingScripts.{Accepted}
use Rattle.rules_code.specs.CodeTrees.{code_trees}
use Rattle.rules_waiting.specs.Waiting.{is_blocked}
use Rattle.hs_rules.specs.Terms as named
use Rattle.hs_rules.specs.LocalRules as name
use Rattle.hs_rules.specs.State.{Thread, State, move}
use Rattle.hs_rules.specs.Entries.{Leads}
use Rattle.hs_laws.specs.cases.Cases as row
use Rattle.hs_laws.proofs.cases_lemmas.Entering.{entered_is}
use Rattle.hs_laws.proofs.States.{other_thread}
use Rattle.hs_laws.proofs.Growing.{term_length}
use Rattle.slot_laws.specs.SlotRules.{SlotTerm, locals}
use Rattle.slot_laws.specs.Stacks.{with_stack}
use Rattle.slot_laws.proofs.StacksStand.{locals_stand}
use Rattle.slot_states.specs.SlotStates.{SlotThread, SlotState, moving, moved, moves, ticks, SameThread, Agrees, terms, term_at, Represents, Enters, MainGoes}
use Rattle.slot_states.proofs.Following.{at_or, changed_terms, changed_is, changed_other, changed_count, term_is, follow_start, agreeing, entered}
use Rattle.slot_states.proofs.Operating.{parts_same}
use Rattle.slot_states.proofs.Reading.{Named, named_of, stacks_same, main_going}

-- ---- the clock goes on
pub tick_entered : (script : Script) → Accepted script → (x : SlotState) (now : ℕ) → x.clock ≤ now → MainGoes x → Enters script (Tick now) x (ticks now x)
tick_entered script accepted x now le m es s run r =
    let a = r.agrees in
    entered script accepted es s (record s { clock = now }) (Tick now) x (ticks now x) run r
    (entered_is {code = code_of (script_of script)} (row.ticks (main_going (script_of script) x s r m) (subst (λ n. n ≤ now) a.clock le)), tt)
    (λ t. tt) (follow_start (script_of script) x s r)
    (parts_same x s a (ticks now x) (record s { clock = now }) refl refl refl refl refl refl a.instances a.timeouts a.printed)

-- ---- local rules
module _ (ds : List Fn) (x : SlotState) (s : State) (r : Represents ds x s) (t : ℕ) (th : SlotThread) (is : slice_get x.threads t ≡ Some th) (n : Named ds x s r t th) (st : SlotTerm) (u : named.Term) where
  moved_same : (v : ℕ) → SameThread (slice_get (moved t st x.threads) v) (slice_get (move t u s).threads v) (is_blocked v s.blocked)
  moved_same =
      at_or (λ v. SameThread (slice_get (moved t st x.threads) v) (slice_get (move t u s).threads v) (is_blocked v s.blocked)) t
      (rw (changed_is x.threads t (moving st) th is, term_is s.threads t u n.thread n.is) (n.finished, n.blocked))
      (λ v k. rw (changed_other x.threads t v (moving st) k, other_thread s.threads t v (slice_get s.threads t) u k) (r.agrees.threads v))

  moved_agrees : Agrees (moves t st x) (move t u s)
  moved_agrees =
      let a = r.agrees in
      agreeing (moves t st x) (move t u s) (changed_count x.threads t (moving st) ∙ (a.count ∙ sym (term_length t (slice_get s.threads t) u s.threads))) moved_same
      (parts_same x s a (moves t st x) (move t u s) refl refl refl refl refl a.clock a.instances a.timeouts a.printed)

local_leads : (code : Code) (t k : ℕ) (b : Thread) (s : State) (u : named.Term) → 0 < k → row.MainRuns s → row.Unfinished t b s → is_blocked t s.blocked ≡ false → name.locals code k b.term ≡ Some u → Leads code s (Local t k) (move t u s)
local_leads code t zero b s u lt m f free h = absurd (omega (arith, lt))
local_leads code t (suc k) b s u lt m f free h = (entered_is {code = code} (row.local m f free h), tt)

pub local_entered : (script : Script) → Accepted script → (x : SlotState) (t k : ℕ) (th : SlotThread) (st : SlotTerm) → slice_get x.threads t ≡ Some th → th.finished ≡ false → th.blocked ≡ false → 0 < k
    → locals (code_trees (script_of script)) Unmasked k th.term ≡ Some st → MainGoes x → Enters script (Local t k) x (moves t st x)
local_entered script accepted x t k th st is going free lt e m es s run r =
    let ds : List Fn = script_of script in
    let n = named_of ds x s r t th is in
    let there : locals (code_trees ds) Unmasked k (terms x.threads t) ≡ Some st = ap (λ o. locals (code_trees ds) Unmasked k (term_at o)) is ∙ e in
    let l = locals_stand script accepted (terms x.threads) s t k n.thread r.stacks n.is st there in (
      move t l.0 s,
      local_leads (code_of ds) t k n.thread s l.0 lt (main_going ds x s r m) (n.is, sym n.finished ∙ going) (sym n.blocked ∙ free) l.1,
      record {
        stacks = stacks_same ds (with_stack t st (terms x.threads)) (terms (moved t st x.threads)) (move t l.0 s) l.2 (λ v b q. changed_terms x.threads t (moving st) th is v);
        agrees = moved_agrees ds x s r t th is n st l.0;
      },
    )
