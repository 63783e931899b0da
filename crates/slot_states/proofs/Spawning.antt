-- Forks: what they leave is stood for.
use Rattle.std.proofs.Common.{◌≡◌, ◌≢◌, ℕ, ◌+◌, ◌++◌, ◌<◌, ◌==◌, List, [], ◌∷◌, length, Some, refl, sym, ap, ◌∙◌, subst, Bool, true, false, slice_get, ⊎_elim, arith}
use Rattle.std.proofs.lemmas.List.{length-append}
use Rattle.plain_laws.proofs.Lists.{get_last, get_before_last}
use Rattle.hs_base.specs.declared.mask.Mask.{Mask}
use Rattle.hs_base.specs.declared.mask.Mask.TheVariants.{Unmasked}
use Rattle.hs_base.specs.declared.tree.script.Script.{Script}
use Rattle.hs_rules.specs.declared.entry.Entry.{Entry}
use Rattle.hs_rules.specs.declared.entry.Entry.TheVariants.{Op}
use Rattle.rules_expansion.specs.trees.Programs.{Fn, script_of}
use Rattle.rules_meaning.specs.Values as val
use Rattle.rules_meaning.specs.Values.{V, Restore, with_name}
use Rattle.rules_typing.specs.TypingScripts.{Accepted}
use Rattle.rules_code.specs.CodeTrees.{Sa}
use Rattle.rules_waiting.specs.Waiting.{Waiting, is_blocked, leaves}
use Rattle.hs_rules.specs.Terms as named
use Rattle.hs_rules.specs.Terms.{Operation, Forks, ForksUnmask, Ret, Do, MaskIn, term}
use Rattle.hs_rules.specs.State.{Thread, State, thread_with, spawn}
use Rattle.hs_rules.specs.State as state
use Rattle.hs_laws.specs.cases.Cases as row
use Rattle.hs_rules.specs.Runs.{IsRun}
use Rattle.hs_laws.proofs.Lists.{equal_or, cond_true, cond_false, item_below}
use Rattle.hs_laws.proofs.Stranding.{blocked_reason}
use Rattle.hs_laws.proofs.CellSteps.{leaves_absent}
use Rattle.hs_laws.proofs.Expanded.{standing_of}
use Rattle.slot_laws.specs.SlotRules.{ret, forks, forks_unmask, doing, performs, mask_in, mask_from, SlotTerm, at}
use Rattle.slot_laws.specs.Stacks.{StacksStand, with_stack}
use Rattle.slot_laws.proofs.Forking.{forks_stand, forks_unmask_stand}
use Rattle.slot_states.specs.SlotStates.{SlotThread, SlotState, answered, resumed_by, spawned, forks_to, SameThread, terms, term_at, Represents, Enters, StandsAt, MainGoes}
use Rattle.slot_states.proofs.Following.{Follow, changed_terms, changed_count, follow_start, follow_resume, agreeing}
use Rattle.slot_states.proofs.Reading.{AtOp, at_fork, at_fork_unmask, op_leads, stacks_same}
use Rattle.slot_states.proofs.Operating.{parts_same, Goes}

-- ---- stacks
abbrev new_thread : SlotTerm → SlotThread
new_thread st = record { term = st; blocked = false; finished = false }

module _ (ths : List SlotThread) (t : ℕ) (h : SlotThread) (is : slice_get ths t ≡ Some h) (w : V) (st : SlotTerm) where
  forked_terms : (v : ℕ) → terms (spawned st (answered t w ths)) v ≡ with_stack (length ths) st (with_stack t (at (ret w) (terms ths t).frames) (terms ths)) v
  forked_terms v = ⊎_elim new old (equal_or v (length ths))
    where
      long : length (answered t w ths) ≡ length ths
      long = changed_count ths t (resumed_by (ret w))

      new : (v == length ths ≡ true) × (v ≡ length ths) → terms (spawned st (answered t w ths)) v ≡ with_stack (length ths) st (with_stack t (at (ret w) (terms ths t).frames) (terms ths)) v
      new e =
          ap term_at (ap (slice_get (spawned st (answered t w ths))) (e.1 ∙ sym long) ∙ get_last (answered t w ths) (new_thread st))
          ∙ sym (cond_true (v == length ths) st (with_stack t (at (ret w) (terms ths t).frames) (terms ths) v) e.0)

      was : (v : ℕ) → terms (answered t w ths) v ≡ with_stack t (at (ret w) (terms ths t).frames) (terms ths) v
      was v = changed_terms ths t (resumed_by (ret w)) h is v ∙ ap (λ o. with_stack t (at (ret w) (term_at o).frames) (terms ths) v) (sym is)

      old : (v == length ths ≡ false) × (v ≢ length ths) → terms (spawned st (answered t w ths)) v ≡ with_stack (length ths) st (with_stack t (at (ret w) (terms ths t).frames) (terms ths)) v
      old e =
          ap term_at (get_before_last (answered t w ths) (new_thread st) v (λ q. e.1 (q ∙ long)))
          ∙ (was v ∙ sym (cond_false (v == length ths) st (with_stack t (at (ret w) (terms ths t).frames) (terms ths) v) e.0))

-- ---- who is blocked
pub next_is_free : (ds : List Fn) (es : List Entry) (s : State) → IsRun ds es s → is_blocked (length s.threads) s.blocked ≡ false
next_is_free ds es s run = by (is_blocked (length s.threads) s.blocked) refl
  where
    by : (b : Bool) → is_blocked (length s.threads) s.blocked ≡ b → is_blocked (length s.threads) s.blocked ≡ false
    by false e = e
    by true e =
        let r = blocked_reason (length s.threads) s.blocked e in
        let b = (standing_of ds es s run).blocked (length s.threads) r.0 r.1 in
        let below : length s.threads < length s.threads = item_below s.threads (length s.threads) b.thread b.is in
        absurd (omega (arith, below))

spawned_same : (ys : List SlotThread) (us : List Thread) (ws : List (Waiting V)) (new : SlotThread) (th : Thread) → length ys ≡ length us → new.finished ≡ th.finished → new.blocked ≡ is_blocked (length us) ws
    → ((t : ℕ) → SameThread (slice_get ys t) (slice_get us t) (is_blocked t ws))
    → (v : ℕ) → SameThread (slice_get (ys ++ new ∷ []) v) (slice_get (us ++ th ∷ []) v) (is_blocked v ws)
spawned_same ys us ws new th long f b same v =
    ⊎_elim
    (λ e.
    subst (λ z. SameThread (slice_get (ys ++ new ∷ []) z) (slice_get (us ++ th ∷ []) z) (is_blocked z ws)) (sym e.1)
    (subst (λ o. SameThread o (slice_get (us ++ th ∷ []) (length us)) (is_blocked (length us) ws)) (sym (ap (slice_get (ys ++ new ∷ [])) (sym long) ∙ get_last ys new))
    (subst (λ o. SameThread (Some new) o (is_blocked (length us) ws)) (sym (get_last us th)) (f, b))))
    (λ e.
    subst (λ o. SameThread o (slice_get (us ++ th ∷ []) v) (is_blocked v ws)) (sym (get_before_last ys new v (λ q. e.1 (q ∙ long))))
    (subst (λ o. SameThread (slice_get ys v) o (is_blocked v ws)) (sym (get_before_last us th v e.1)) (same v)))
    (equal_or v (length us))

-- ---- one fork
module _ (script : Script) (accepted : Accepted script) (x : SlotState) (t : ℕ) (main : MainGoes x) (es : List Entry) (s : State) (run : IsRun (script_of script) es s) (r : Represents (script_of script) x s)
    (q : Operation) (m : Mask) (a : AtOp s t q m) (h : SlotThread) (is : slice_get x.threads t ≡ Some h) (st : SlotTerm) (u : named.Term) where
  abbrev then : State
  then = spawn u (state.answer t (val.Thread (length s.threads)) s)

  forks_enter : row.Performs t m q s then → StacksStand (script_of script) (with_stack (length s.threads) st (with_stack t (at (ret (val.Thread (length s.threads))) (terms x.threads t).frames) (terms x.threads))) then
      → Goes script accepted x t main es s run r q m a (forks_to t st x)
  forks_enter e w =
      let n : length x.threads ≡ length s.threads = r.agrees.count in
      let f : Follow x.threads s.threads (answered t (val.Thread (length x.threads)) x.threads) (state.answer t (val.Thread (length s.threads)) s).threads (leaves t s.blocked) =
      follow_resume x.threads s.threads x.threads s.threads s.blocked (follow_start (script_of script) x s r) t (ret (val.Thread (length x.threads))) (Ret (val.Thread (length s.threads))) (ap (λ k. ret (val.Thread k)) n) in
      let ys : List SlotThread = answered t (val.Thread (length x.threads)) x.threads in
      let us : List Thread = (state.answer t (val.Thread (length s.threads)) s).threads in
      let free : is_blocked (length us) (leaves t s.blocked) ≡ false = ap (λ k. is_blocked k (leaves t s.blocked)) f.long ∙ (ap (is_blocked (length s.threads)) (leaves_absent t s.blocked a.running.awake) ∙ next_is_free (script_of script) es s run) in
      let p = parts_same x s r.agrees (forks_to t st x) then refl refl (leaves_absent t s.blocked a.running.awake) refl refl r.agrees.clock r.agrees.instances r.agrees.timeouts r.agrees.printed in (
        then,
        op_leads (script_of script) x s r t main q m a then e,
        record {
          stacks = stacks_same (script_of script) (with_stack (length s.threads) st (with_stack t (at (ret (val.Thread (length s.threads))) (terms x.threads t).frames) (terms x.threads))) (terms (forks_to t st x).threads) then w
              (λ v b i. forked_terms x.threads t h is (val.Thread (length x.threads)) st v ∙ ap (λ k. with_stack k st (with_stack t (at (ret (val.Thread k)) (terms x.threads t).frames) (terms x.threads)) v) n);
          agrees =
              agreeing (forks_to t st x) then (length-append ys (new_thread st ∷ []) ∙ (ap (λ k. k + 1) f.count ∙ sym (length-append us (thread_with u ∷ []))))
              (spawned_same ys us (leaves t s.blocked) (new_thread st) (thread_with u) f.count refl (sym free) f.same) p;
        },
      )

pub fork_enters : (script : Script) → Accepted script → (x : SlotState) (t : ℕ) (tree : Sa) (vs : List V) → (h : StandsAt x t (performs (forks tree vs))) → MainGoes x
    → Enters script (Op t) x (forks_to t (at (doing tree vs) (mask_in (mask_from Unmasked h.thread.term.frames) ∷ [])) x)
fork_enters script accepted x t tree vs h main es s run r =
    let m : Mask = mask_from Unmasked h.thread.term.frames in
    let c = at_fork (script_of script) x s r t tree vs h in
    forks_enter script accepted x t main es s run r (Forks c.0 c.1) m c.2 h.thread h.is (at (doing tree vs) (mask_in m ∷ [])) (term (Do c.0 c.1) (MaskIn m ∷ [])) row.forks
    (forks_stand (script_of script) (terms x.threads) s r.stacks t c.2.thread c.2.running.there m tree vs c.0 c.1 (ap (λ o. (term_at o).part) h.is ∙ h.part) c.2.part)

pub fork_unmasked_enters : (script : Script) → Accepted script → (x : SlotState) (t : ℕ) (tree : Sa) (vs : List V) → (h : StandsAt x t (performs (forks_unmask tree vs))) → MainGoes x
    → Enters script (Op t) x (forks_to t (at (doing tree (vs ++ Restore Unmasked ∷ [])) (mask_in (mask_from Unmasked h.thread.term.frames) ∷ [])) x)
fork_unmasked_enters script accepted x t tree vs h main es s run r =
    let m : Mask = mask_from Unmasked h.thread.term.frames in
    let c = at_fork_unmask (script_of script) x s r t tree vs h in
    forks_enter script accepted x t main es s run r (ForksUnmask c.0 c.1 c.2) m c.3 h.thread h.is (at (doing tree (vs ++ Restore Unmasked ∷ [])) (mask_in m ∷ [])) (term (Do c.1 (with_name c.0 (Restore Unmasked) c.2)) (MaskIn m ∷ [])) row.forks_unmasked
    (forks_unmask_stand (script_of script) (terms x.threads) s r.stacks t c.3.thread c.3.running.there m tree vs c.0 c.1 c.2 (ap (λ o. (term_at o).part) h.is ∙ h.part) c.3.part)
