-- Those who wait at a cell and can be interrupted are stranded.
use Rattle.std.proofs.Common.{◌≡◌, ℕ, ◌+◌, ◌==◌, List, [], ◌∷◌, length, Bool, true, false, ◌↔◌, Option, Some, None, refl, sym, ap, ◌∙◌, subst, inl, ⊎_elim, slice_get}
use Rattle.std.specs.Prelude.{Contains}
use Rattle.hs_base.specs.declared.exn.Exn.TheVariants.{BlockedIndefinitely}
use Rattle.hs_base.specs.declared.tree.script.Script.{Script}
use Rattle.hs_rules.specs.declared.entry.Entry.TheVariants.{Stranded}
use Rattle.rules_expansion.specs.trees.Programs.{Fn, script_of}
use Rattle.rules_meaning.specs.Values.{V}
use Rattle.rules_meaning.specs.CoreMeaning.{code_of}
use Rattle.rules_typing.specs.TypingScripts.{Accepted}
use Rattle.rules_waiting.specs.Waiting.{Reason, Waiting, is_blocked, reason_of, at_cell, line_of, sorted_sleepers}
use Rattle.hs_rules.specs.Terms as named
use Rattle.hs_rules.specs.Terms.{Operation, Calls, Ret, Throw, Do, Performs, mask_at}
use Rattle.hs_rules.specs.State.{State, frames_of, resume, resume_all}
use Rattle.hs_rules.specs.Entries.{stranded}
use Rattle.hs_laws.proofs.cases_lemmas.Entering.{waits_so, stranded_so}
use Rattle.hs_laws.proofs.cases_lemmas.Lines.{all_left}
use Rattle.hs_laws.specs.MaskLaw as law
use Rattle.hs_laws.specs.MaskLaw.{AreStranded}
use Rattle.hs_laws.specs.Standing.{Standing}
use Rattle.hs_laws.proofs.Lists.{cond_true, cond_false, equal_or, item_below, ones_changed, StandsIn}
use Rattle.hs_laws.proofs.Growing.{term_length}
use Rattle.hs_laws.proofs.States.{Strands, strands_each, stranded_distinct}
use Rattle.hs_laws.proofs.Stranding.{reason_blocked, are_stranded, among}
use Rattle.hs_laws.proofs.Expanded.{standing_of, strands_of}
use Rattle.hs_progress.specs.TypedStates.{has}
use Rattle.slot_laws.specs.SlotRules.{SlotPart, throw, at}
use Rattle.slot_laws.proofs.StacksStand.{stranded_stand}
use Rattle.slot_states.specs.SlotStates.{SlotThread, SlotState, SameThread, SameCell, resumed_by, resumed, all_resumed, strands, terms, term_at, Agrees, Represents, Enters, MainGoes}
use Rattle.slot_states.specs.Resting.{WaitsOpen, AllRest}
use Rattle.slot_states.proofs.Following.{same_some, changed_is, changed_other, changed_count}
use Rattle.slot_states.proofs.Reading.{same_masks, named_of, slotted_of, blocked_at}
use Rattle.slot_states.proofs.Lines.{want_cell}
use Rattle.slot_states.proofs.CellThreads.{waits_by, waits_want, cell_want}
use Rattle.slot_states.proofs.AtRest.{none_works, nobody_sleeps}
use Rattle.slot_states.proofs.Leaving.{Silent, Awake, cell_waits, flight_stays_all, sleepers_stay_all, rest_all}
use Rattle.slot_states.proofs.Places.{is_among, among_is, stands_among, same_among, contains_stands, stands_contains, some_stands, one_of, leave_same, all_left_cell, all_left_count, all_shown}

-- ---- who waits so, with slots and with names
module _ (ds : List Fn) (x : SlotState) (s : State) (r : Represents ds x s) (stands : Standing s) where
  pub waits_named : (t : ℕ) → WaitsOpen x t → law.WaitsOpen s t
  waits_named t w =
      let n = named_of ds x s r t w.thread w.is in
      let k = blocked_at ds x s r stands t w.thread w.is w.blocked in
      let a = waits_want (has r.stacks.store) ds k.reason k.op w.at k.part k.blocks in
      record {
        thread = n.thread;
        is = n.is;
        reason = k.reason;
        waits = k.waits;
        at = want_cell w.cell k.reason a.0 a.1;
        open_now = λ e. w.open_now (same_masks (has r.stacks.store) ds n.stands.1 ∙ e);
      }

  pub waits_slotted : (t : ℕ) → law.WaitsOpen s t → WaitsOpen x t
  waits_slotted t w =
      let th = slotted_of ds x s r t w.thread w.is in
      let b : th.0.blocked ≡ true = th.3 ∙ reason_blocked t s.blocked w.reason w.waits in
      let k = blocked_at ds x s r stands t th.0 th.1 b in
      let a = cell_want k.reason (ap at_cell (same_some (reason_of t s.blocked) k.reason w.reason k.waits w.waits) ∙ w.at) in
      record {
        thread = th.0;
        is = th.1;
        blocked = b;
        cell = a.0;
        at = waits_by (has r.stacks.store) ds a.0 th.0.term.part k.reason a.1 k.op a.2 k.blocks k.part;
        open_now = λ e. w.open_now (sym (same_masks (has r.stacks.store) ds th.4.1) ∙ e);
      }

-- ---- who is to be stranded
strands_is : (s : State) (t : ℕ) → law.WaitsOpen s t → Strands s t
strands_is s t w = stranded_so s t (record { thread = w.thread; is = w.is; reason = w.reason; waits = w.waits; there = w.at; open_now = w.open_now })

pub open_stands : (s : State) (t : ℕ) → law.WaitsOpen s t → StandsIn t (stranded s)
open_stands s t w = among (length s.threads) t s (item_below s.threads t w.thread w.is) (strands_is s t w)

strands_open : (s : State) (t : ℕ) → Strands s t → law.WaitsOpen s t
strands_open s t h =
    let w = waits_so s t (slice_get s.threads t) (reason_of t s.blocked) refl refl h in
    record { thread = w.thread; is = w.is; reason = w.reason; waits = w.waits; at = w.there; open_now = w.open_now }

-- they throw nothing and don't sleep
strands_quietly : (s : State) (t : ℕ) → Strands s t → Silent (reason_of t s.blocked) × Awake (reason_of t s.blocked)
strands_quietly s t h = let w = strands_open s t h in subst (λ o. Silent o × Awake o) (sym w.waits) (cell_waits w.reason w.at)

pub stands_open : (s : State) (t : ℕ) → StandsIn t (stranded s) → law.WaitsOpen s t
stands_open s t h = strands_open s t (one_of (Strands s) t (stranded s) (strands_each (length s.threads) s) h)

-- ---- some threads with slots get a part
pub resumed_other : (ts : List ℕ) (p : SlotPart) (ths : List SlotThread) (t : ℕ) → is_among t ts ≡ false → slice_get (all_resumed ts p ths) t ≡ slice_get ths t
resumed_other [] p ths t a = refl
resumed_other (u ∷ us) p ths t a =
    ⊎_elim
    (λ e. let z : true ≡ false = sym (cond_true (u == t) true (is_among t us) e.0) ∙ a in absurd (cc z))
    (λ e.
    resumed_other us p (resumed u p ths) t (sym (cond_false (u == t) true (is_among t us) e.0) ∙ a)
    ∙ changed_other ths u t (resumed_by p) (λ q. e.1 (sym q)))
    (equal_or u t)

resumed_one : (ts : List ℕ) (p : SlotPart) (ths : List SlotThread) (t : ℕ) (th : SlotThread) → slice_get ths t ≡ Some th → is_among t ts ≡ true → slice_get (all_resumed ts p ths) t ≡ Some (resumed_by p th)
resumed_one [] p ths t th is a = absurd (cc a)
resumed_one (u ∷ us) p ths t th is a =
    ⊎_elim
    (λ e.
    let own : slice_get (resumed u p ths) t ≡ Some (resumed_by p th) = subst (λ v. slice_get (resumed v p ths) t ≡ Some (resumed_by p th)) (sym e.1) (changed_is ths t (resumed_by p) th is) in
    by own (is_among t us) refl (λ q. resumed_one us p (resumed u p ths) t (resumed_by p th) own q))
    (λ e. resumed_one us p (resumed u p ths) t th (changed_other ths u t (resumed_by p) (λ q. e.1 (sym q)) ∙ is) (sym (cond_false (u == t) true (is_among t us) e.0) ∙ a))
    (equal_or u t)
  where
    by : slice_get (resumed u p ths) t ≡ Some (resumed_by p th) → (b : Bool) → is_among t us ≡ b → (is_among t us ≡ true → slice_get (all_resumed us p (resumed u p ths)) t ≡ Some (resumed_by p th)) → slice_get (all_resumed us p (resumed u p ths)) t ≡ Some (resumed_by p th)
    by own true q again = again q
    by own false q again = resumed_other us p (resumed u p ths) t q ∙ own

resumed_count : (ts : List ℕ) (p : SlotPart) (ths : List SlotThread) → length (all_resumed ts p ths) ≡ length ths
resumed_count [] p ths = refl
resumed_count (t ∷ ts) p ths = resumed_count ts p (resumed t p ths) ∙ changed_count ths t (resumed_by p)

threads_count : (ts : List ℕ) (q : named.Part) (s : State) → length (resume_all ts q s).threads ≡ length s.threads
threads_count [] q s = refl
threads_count (t ∷ ts) q s = threads_count ts q (resume t q s) ∙ term_length t (slice_get s.threads t) (named.term q (frames_of (slice_get s.threads t))) s.threads

-- ---- who is blocked, by the reason
abbrev pub has_reason : Option (Reason V) → Bool
has_reason None = false
has_reason (Some r) = true

pub blocked_by_reason : (t : ℕ) (ws : List (Waiting V)) → is_blocked t ws ≡ has_reason (reason_of t ws)
blocked_by_reason t [] = refl
blocked_by_reason t (w ∷ ws) =
    ⊎_elim
    (λ e. cond_true (w.thread == t) true (is_blocked t ws) e.0 ∙ ap has_reason (sym (cond_true (w.thread == t) (Some w.reason) (reason_of t ws) e.0)))
    (λ e. cond_false (w.thread == t) true (is_blocked t ws) e.0 ∙ (blocked_by_reason t ws ∙ ap has_reason (sym (cond_false (w.thread == t) (Some w.reason) (reason_of t ws) e.0))))
    (equal_or w.thread t)

-- ---- the state after it
module _ (ds : List Fn) (x : SlotState) (s : State) (r : Represents ds x s) (stands : Standing s) (ts : List ℕ) (all : (t : ℕ) → Contains ts t ↔ WaitsOpen x t) where
  abbrev after : State
  after = resume_all (stranded s) (Throw BlockedIndefinitely) s

  hit : (t : ℕ) → is_among t ts ≡ true → law.WaitsOpen s t
  hit t a = waits_named ds x s r stands t ((all t).0 (stands_contains ts t (stands_among t ts a)))

  missed : (t : ℕ) → is_among t ts ≡ false → ¬ law.WaitsOpen s t
  missed t a w = let z : true ≡ false = sym (among_is t ts (contains_stands ts t ((all t).1 (waits_slotted ds x s r stands t w)))) ∙ a in cc z

  same_threads : (t : ℕ) → is_among t ts ≡ is_among t (stranded s)
  same_threads =
      same_among ts (stranded s)
      (λ t h. open_stands s t (hit t (among_is t ts h)))
      (λ t h. contains_stands ts t ((all t).1 (waits_slotted ds x s r stands t (stands_open s t h))))

  abbrev new_threads : List SlotThread
  new_threads = all_resumed ts (throw BlockedIndefinitely) x.threads

  hit_terms : (t : ℕ) → law.WaitsOpen s t → terms new_threads t ≡ at (throw BlockedIndefinitely) (terms x.threads t).frames
  hit_terms t w = by (is_among t ts) refl
    where
      by : (b : Bool) → is_among t ts ≡ b → terms new_threads t ≡ at (throw BlockedIndefinitely) (terms x.threads t).frames
      by false q = absurd (missed t q w)
      by true q =
          let th = slotted_of ds x s r t w.thread w.is in
          ap term_at (resumed_one ts (throw BlockedIndefinitely) x.threads t th.0 th.1 q) ∙ ap (λ o. at (throw BlockedIndefinitely) (term_at o).frames) (sym th.1)

  missed_terms : (t : ℕ) → ¬ law.WaitsOpen s t → terms new_threads t ≡ terms x.threads t
  missed_terms t n = by (is_among t ts) refl
    where
      by : (b : Bool) → is_among t ts ≡ b → terms new_threads t ≡ terms x.threads t
      by true q = absurd (n (hit t q))
      by false q = ap term_at (resumed_other ts (throw BlockedIndefinitely) x.threads t q)

  module _ (g : AreStranded s after) where
    after_same : (t : ℕ) → SameThread (slice_get new_threads t) (slice_get after.threads t) (is_blocked t after.blocked)
    after_same t = by (is_among t ts) refl
      where
        by : (b : Bool) → is_among t ts ≡ b → SameThread (slice_get new_threads t) (slice_get after.threads t) (is_blocked t after.blocked)
        by true q =
            let w = hit t q in
            let th = slotted_of ds x s r t w.thread w.is in
            subst (λ o. SameThread o (slice_get after.threads t) (is_blocked t after.blocked)) (sym (resumed_one ts (throw BlockedIndefinitely) x.threads t th.0 th.1 q))
            (subst (λ o. SameThread (Some (resumed_by (throw BlockedIndefinitely) th.0)) o (is_blocked t after.blocked)) (sym (g.throw t w)) (th.2, sym ((g.removed t).1 w).1))
        by false q =
            let o = g.others t (missed t q) in
            let b : is_blocked t s.blocked ≡ is_blocked t after.blocked = blocked_by_reason t s.blocked ∙ (ap has_reason (sym o.1) ∙ sym (blocked_by_reason t after.blocked)) in
            subst (λ z. SameThread z (slice_get after.threads t) (is_blocked t after.blocked)) (sym (resumed_other ts (throw BlockedIndefinitely) x.threads t q))
            (subst (λ z. SameThread (slice_get x.threads t) z (is_blocked t after.blocked)) (sym o.0) (subst (SameThread (slice_get x.threads t) (slice_get s.threads t)) b (r.agrees.threads t)))

    after_agrees : Agrees (strands ts x) after
    after_agrees =
        let a = r.agrees in
        let rest = rest_all (stranded s) (Throw BlockedIndefinitely) s in
        let once = stands.once in
        let apart = stranded_distinct (length s.threads) s in
        let each = strands_each (length s.threads) s in
        record {
          count = resumed_count ts (throw BlockedIndefinitely) x.threads ∙ (a.count ∙ sym (threads_count (stranded s) (Throw BlockedIndefinitely) s));
          threads = after_same;
          made = all_left_count ts x.cells ∙ (a.made ∙ ap length (sym rest.cells));
          cells = λ m. subst (SameCell m after) (sym (all_left_cell ts m x.cells))
              (all_shown m ts s after (slice_get x.cells m) (ap (λ cs. slice_get cs m) rest.cells)
              (all_left m (stranded s) (Throw BlockedIndefinitely) s ∙ sym (leave_same ts (stranded s) same_threads (line_of m s.blocked))) (a.cells m));
          flight = a.flight ∙ sym (flight_stays_all (stranded s) (Throw BlockedIndefinitely) s once apart (ones_changed (Strands s) (λ t. Silent (reason_of t s.blocked)) (stranded s) (λ t h. (strands_quietly s t h).0) each));
          sleepers = a.sleepers ∙ ap sorted_sleepers (sym (sleepers_stay_all (stranded s) (Throw BlockedIndefinitely) s once apart (ones_changed (Strands s) (λ t. Awake (reason_of t s.blocked)) (stranded s) (λ t h. (strands_quietly s t h).1) each)));
          clock = a.clock ∙ sym rest.clock;
          instances = a.instances ∙ sym rest.instances;
          timeouts = a.timeouts ∙ sym rest.timeouts;
          printed = a.printed ∙ (ap (λ os. length os + length s.errors) (sym rest.output) ∙ ap (λ os. length after.output + length os) (sym rest.errors));
        }

-- ---- the entry
pub strand_entered : (script : Script) → Accepted script → (x : SlotState) (t : ℕ) (ts : List ℕ) → AllRest x → x.sleepers ≡ [] → ((u : ℕ) → Contains (t ∷ ts) u ↔ WaitsOpen x u) → MainGoes x → Enters script Stranded x (strands (t ∷ ts) x)
strand_entered script accepted x t ts quiet asleep all main es s run r =
    let ds : List Fn = script_of script in
    let stands = standing_of ds es s run in
    let m = named_of ds x s r 0 main.main main.is in
    let some = some_stands t (stranded s) (open_stands s t (hit ds x s r stands (t ∷ ts) all t (among_is t (t ∷ ts) (inl refl)))) in
    let u : State = resume_all (stranded s) (Throw BlockedIndefinitely) s in
    let leads = strands_of ds es s run (none_works ds x s r quiet) m.thread m.is (sym m.finished ∙ main.unfinished) (nobody_sleeps ds x s r asleep) some.0 some.1 some.2 in (
      u,
      leads,
      record {
        stacks = stranded_stand script accepted es s u run leads.0 (terms x.threads) (terms (strands (t ∷ ts) x).threads) r.stacks (hit_terms ds x s r stands (t ∷ ts) all) (missed_terms ds x s r stands (t ∷ ts) all);
        agrees = after_agrees ds x s r stands (t ∷ ts) all (are_stranded (code_of ds) s u leads.0);
      },
    )
