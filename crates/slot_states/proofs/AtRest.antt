-- Rest, counts, main's end and the first state, of a state with slots and of the state that it stands for.
use Rattle.std.proofs.Common.{◌≡◌, ℕ, zero, suc, ◌+◌, List, [], ◌∷◌, length, Bool, true, false, cond, not, ◌&&◌, Some, None, refl, sym, ap, ◌∙◌, subst, arith, slice_get}
use Rattle.hs_base.specs.declared.mask.Mask.{Mask}
use Rattle.hs_base.specs.declared.mask.Mask.TheVariants.{Unmasked}
use Rattle.hs_base.specs.declared.exn.Exn.{Exn}
use Rattle.hs_base.specs.declared.tree.script.Script.{Script}
use Rattle.hs_rules.specs.declared.entry.LimitKind.{LimitKind}
use Rattle.hs_rules.specs.declared.entry.LimitKind.TheVariants as limit
use Rattle.rules_expansion.specs.trees.Programs.{Fn, script_of}
use Rattle.rules_meaning.specs.Values.{V}
use Rattle.rules_expansion.specs.Core.{Core}
use Rattle.rules_sorts.specs.TypedMeaning.{any_cell}
use Rattle.rules_typing.specs.TypingScripts.{Accepted}
use Rattle.rules_code.specs.CodeTrees.{Sa, main_tree}
use Rattle.rules_waiting.specs.Waiting.{is_blocked, flight_of, flying_to, sleepers_of, sorted_sleepers, first_awake}
use Rattle.hs_rules.specs.Terms.{Term, mask_at}
use Rattle.hs_rules.specs.State.{Thread, State, first}
use Rattle.hs_rules.specs.Entries.{is_open}
use Rattle.hs_rules.specs.Entries as entries
use Rattle.hs_rules.specs.Runs.{begun, IsRun}
use Rattle.hs_rules.specs.Endings as endings
use Rattle.hs_rules.specs.Endings.{IsDone, IsUncaught, result_of, ended_by, is_ret}
use Rattle.hs_laws.specs.Standing.{NoneWorks}
use Rattle.hs_progress.specs.TypedStates.{has}
use Rattle.slot_laws.specs.SlotRules.{ret, throw, doing, mask_in, mask_from, at}
use Rattle.slot_laws.specs.Standing.{Stands}
use Rattle.slot_laws.proofs.Heads.{action_goes}
use Rattle.slot_laws.proofs.Forking.{main_stands}
use Rattle.slot_states.specs.SlotStates.{SlotThread, SlotState, SameThread, terms, Represents, MainGoes}
use Rattle.slot_states.specs.Resting.{AllRest, is_receptive, used, frames_in}
use Rattle.slot_states.specs.Resting as resting
use Rattle.slot_states.proofs.Asleep.{none_is_due, none_sleep}
use Rattle.slot_states.proofs.Reading.{same_masks, as_many, same_throw, ret_is, throw_is, Named, named_of, slotted_of, part_is, stacks_same}

-- ---- who can receive
pub same_receptive : (s : State) (t : ℕ) (th : SlotThread) (b : Thread) → th.blocked ≡ is_blocked t s.blocked →
    resting.is_throw th.term.part ≡ entries.is_throw b.term.part → mask_from Unmasked th.term.frames ≡ mask_at b.term.frames → is_receptive th ≡ entries.is_receptive t b.term s
same_receptive s t th b e p m =
    ap (λ z. not z && is_open th.blocked (mask_from Unmasked th.term.frames)) p
    ∙ (ap (λ z. not (entries.is_throw b.term.part) && is_open z (mask_from Unmasked th.term.frames)) e
    ∙ ap (λ z. not (entries.is_throw b.term.part) && is_open (is_blocked t s.blocked) z) m)

-- ---- rest
pub nobody_sleeps : (ds : List Fn) (x : SlotState) (s : State) → Represents ds x s → x.sleepers ≡ [] → sleepers_of s.blocked ≡ []
nobody_sleeps ds x s r e = none_sleep (sleepers_of s.blocked) (sym r.agrees.sleepers ∙ e)

module _ (ds : List Fn) (x : SlotState) (s : State) (r : Represents ds x s) where
  -- who can receive hears nothing, as with slots
  pub unheard_so : ((t : ℕ) (th : SlotThread) → slice_get x.threads t ≡ Some th → th.finished ≡ false → is_receptive th ≡ true → flying_to t x.flight ≡ []) → (t : ℕ) (b : Thread) → slice_get s.threads t ≡ Some b → b.finished ≡ false
      → entries.is_receptive t b.term s ≡ true → flying_to t (flight_of s.blocked) ≡ []
  unheard_so none t b is f receptive =
      let th = slotted_of ds x s r t b is in
      let same = same_receptive s t th.0 b th.3 (same_throw (has r.stacks.store) ds th.4.0) (same_masks (has r.stacks.store) ds th.4.1) in
      ap (flying_to t) (sym r.agrees.flight) ∙ none t th.0 th.1 (th.2 ∙ f) (same ∙ receptive)

  -- and nobody is to wake
  pub asleep_so : first_awake x.clock x.sleepers ≡ None → first_awake s.clock (sorted_sleepers (sleepers_of s.blocked)) ≡ None
  asleep_so none = ap (first_awake s.clock) (sym r.agrees.sleepers) ∙ (ap (λ n. first_awake n x.sleepers) (sym r.agrees.clock) ∙ none)

pub none_works : (ds : List Fn) (x : SlotState) (s : State) → Represents ds x s → AllRest x → NoneWorks s
none_works ds x s r a = record {
  blocked = λ t b is f. let th = slotted_of ds x s r t b is in sym th.3 ∙ a.blocked t th.0 th.1 (th.2 ∙ f);
  unheard = unheard_so ds x s r a.unheard;
  asleep = none_is_due s.clock s.blocked (asleep_so ds x s r a.asleep);
}

-- ---- counts
frames_same : (xs : List SlotThread) (ts : List Thread) → length xs ≡ length ts → ((t : ℕ) (a : SlotThread) (b : Thread) → slice_get xs t ≡ Some a → slice_get ts t ≡ Some b → (a.finished ≡ b.finished) × (length a.term.frames ≡ length b.term.frames))
    → endings.frames_in ts ≡ frames_in xs
frames_same [] [] n h = refl
frames_same [] (b ∷ ts) n h = absurd (omega (arith, n))
frames_same (a ∷ xs) [] n h = absurd (omega (arith, n))
frames_same (a ∷ xs) (b ∷ ts) n h =
    let one = h zero a b refl refl in
    let rest = frames_same xs ts (omega (arith, n)) (λ t. h (suc t)) in
    ap (λ z. cond z 0 (length b.term.frames) + endings.frames_in ts) (sym one.0)
    ∙ (ap (λ z. cond a.finished 0 z + endings.frames_in ts) (sym one.1) ∙ ap (λ z. cond a.finished 0 (length a.term.frames) + z) rest)

pub same_used : (ds : List Fn) (x : SlotState) (s : State) → Represents ds x s → (kind : LimitKind) → endings.used kind s ≡ used kind x
same_used ds x s r limit.Threads = sym r.agrees.count
same_used ds x s r limit.Cells = sym r.agrees.made
same_used ds x s r limit.Output = sym r.agrees.printed
same_used ds x s r limit.Frames =
    frames_same x.threads s.threads r.agrees.count
    (λ t a b p q. let n = named_of ds x s r t a p in
    let same : n.thread ≡ b = let z : Some n.thread ≡ Some b = sym n.is ∙ q in cc z in
    (n.finished ∙ ap (λ (z : Thread). z.finished) same, as_many (has r.stacks.store) ds n.stands.1 ∙ ap (λ (z : Thread). length z.term.frames) same))

-- ---- main's end
ends_so : (ds : List Fn) (x : SlotState) (s : State) (r : Represents ds x s) (th : SlotThread) (n : Named ds x s r 0 th) (value : Bool) → th.finished ≡ true → is_ret n.thread.term.part ≡ value → ended_by (result_of (slice_get s.threads 0)) value
ends_so ds x s r th n value f e =
    subst (λ o. ended_by (result_of o) value) (sym n.is) (subst (λ z. ended_by (cond z (Some n.thread.term.part) None) value) (sym (sym n.finished ∙ f)) e)

pub main_done : (ds : List Fn) (x : SlotState) (s : State) → Represents ds x s → (th : SlotThread) → slice_get x.threads 0 ≡ Some th → th.finished ≡ true → (v : V) → th.term.part ≡ ret v → IsDone s
main_done ds x s r th is f v e =
    let n = named_of ds x s r 0 th is in
    ends_so ds x s r th n true f (ap is_ret (ret_is (has r.stacks.store) ds (part_is ds x s r 0 th n e)))

pub main_uncaught : (ds : List Fn) (x : SlotState) (s : State) → Represents ds x s → (th : SlotThread) → slice_get x.threads 0 ≡ Some th → th.finished ≡ true → (e : Exn) → th.term.part ≡ throw e → IsUncaught s
main_uncaught ds x s r th is f e q =
    let n = named_of ds x s r 0 th is in
    ends_so ds x s r th n false f (ap is_ret (throw_is (has r.stacks.store) ds (part_is ds x s r 0 th n q)))

pub main_goes : (ds : List Fn) (x : SlotState) (s : State) → Represents ds x s → MainGoes x → (IsDone s → ⊥) × (IsUncaught s → ⊥)
main_goes ds x s r m = (goes_not true, goes_not false)
  where
    goes_not : (value : Bool) → ended_by (result_of (slice_get s.threads 0)) value → ⊥
    goes_not value h =
        let n = named_of ds x s r 0 m.main m.is in
        let k : ended_by (result_of (Some n.thread)) value = subst (λ o. ended_by (result_of o) value) n.is h in
        subst (λ z. ended_by (cond z (Some n.thread.term.part) None) value) (sym n.finished ∙ m.unfinished) k

-- ---- an action alone
pub goes_alone : (ds : List Fn) (x : SlotState) (s : State) → Represents ds x s → (t : ℕ) (th : SlotThread) → slice_get x.threads t ≡ Some th → (tree : Sa) (vs : List V) → th.term.part ≡ doing tree vs → (m : Mask) → (u : Term) × Stands any_cell ds (at (doing tree vs) (mask_in m ∷ [])) u
goes_alone ds x s r t th is tree vs e m =
    let n = named_of ds x s r t th is in
    action_goes (Some r.stacks.store) ds m tree vs th.term.frames n.thread.term
    (record { sort = r.stacks.store.sorts t; part = part_is ds x s r t th n e; frames = n.stands.1 })

-- ---- the first state
abbrev first_thread : List Fn → SlotThread
first_thread ds = record { term = at (doing (main_tree ds) []) []; blocked = false; finished = false }

abbrev first_slots : List Fn → SlotState
first_slots ds = record { threads = first_thread ds ∷ []; cells = []; flight = []; sleepers = []; clock = 0; next_instance = 0; next_timeout = 0; printed = 0 }

pub first_stands_for : (script : Script) → Accepted script → (s : State) × IsRun (script_of script) [] s × Represents (script_of script) (first_slots (script_of script)) s
first_stands_for script accepted =
    let m = main_stands script accepted in
    let s : State = first m.0 in
    let ds : List Fn = script_of script in (
      s,
      (s, ap begun m.1, refl),
      record {
        stacks = stacks_same ds (λ t. at (doing (main_tree ds) []) []) (terms (first_slots ds).threads) s m.2 (same m.0 ds);
        agrees = record {
          count = refl;
          threads = threads m.0 ds;
          made = refl;
          cells = λ k. refl;
          flight = refl;
          sleepers = refl;
          clock = refl;
          instances = refl;
          timeouts = refl;
          printed = refl;
        };
      },
    )
  where
    same : (a : Core) (ds : List Fn) (t : ℕ) (b : Thread) → slice_get (first a).threads t ≡ Some b → terms (first_slots ds).threads t ≡ at (doing (main_tree ds) []) []
    same a ds zero b e = refl
    same a ds (suc t) b e = absurd (cc e)

    threads : (a : Core) (ds : List Fn) (t : ℕ) → SameThread (slice_get (first_slots ds).threads t) (slice_get (first a).threads t) (is_blocked {V = V} t [])
    threads a ds zero = (refl, refl)
    threads a ds (suc t) = tt
