-- An entry that is no Tick and no Wake goes on in states that are alike, and where it doesn't read the clock it leaves such.
use Rattle.std.proofs.Common.{◌≡◌, ℕ, zero, suc, false, cond, List, [], ◌∷◌, ◌++◌, length, Option, Some, slice_get, refl, sym, ap, ◌∙◌}
use Rattle.std.proofs.lemmas.Bool.{false_from_ne_true}
use Rattle.hs_base.specs.declared.exn.Exn.TheVariants.{BlockedIndefinitely}
use Rattle.hs_rules.specs.declared.entry.Entry.{Entry}
use Rattle.hs_rules.specs.declared.entry.Entry.TheVariants as entry
use Rattle.rules_meaning.specs.Values.{V}
use Rattle.rules_meaning.specs.CoreMeaning.{Code}
use Rattle.rules_waiting.specs.Waiting.{Reason, reason_of, sleepers_of, Sleeping}
use Rattle.hs_rules.specs.Terms.{Operation, Throw, Performs}
use Rattle.hs_rules.specs.State.{Thread, State, resume_all}
use Rattle.hs_rules.specs.Primitives.{due_in}
use Rattle.hs_rules.specs.Entries.{is_stranded, stranded_below, stranded, strand, strand_entry, next}
use Rattle.hs_rules.specs.Entries as entries
use Rattle.hs_rules.specs.Endings.{IsTick}
use Rattle.hs_laws.specs.cases.Cases as row
use Rattle.hs_laws.proofs.cases_lemmas.Entering.{case_of, all_are}
use Rattle.hs_laws.proofs.Lists.{each_any}
use Rattle.hs_laws.proofs.SameCases.{with_rest, put_in, Likeness, ByOne, AtOp, at_any, goes_too}
use Rattle.outcome_laws.specs.timing.WithoutTime.{timeless, part_reads_clock, thread_reads_clock, ReadsClock}
use Rattle.outcome_laws.proofs.timing_lemmas.Passing.{on_running}
use Rattle.outcome_laws.proofs.timing_lemmas.Alike.{Alike, timeless_option, reason_still, asleep_still, awake_still, same_threads, same_blocked, same_line, same_flight, resume_alike, block_alike, sleep_alike, move_alike, spawn_alike, all_alike}

abbrev pub IsWake : Entry → Type 0
IsWake (entry.Wake t) = Unit {0}
IsWake _ = ⊥

abbrev AnyThread : ℕ → Type 0
AnyThread t = Unit {0}

abbrev AnyOperation : Operation → Type 0
AnyOperation op = Unit {0}

-- an operation that doesn't read the clock
abbrev ReadsNone : Operation → Type 0
ReadsNone op = part_reads_clock (Performs op) ≡ false

same_thread : (s r : State) (t : ℕ) (th : Thread) → Alike s r → slice_get s.threads t ≡ Some th → slice_get r.threads t ≡ Some th
same_thread s r t th h e = ap (λ ths. slice_get ths t) (sym (same_threads s r h)) ∙ e

alike : Likeness Alike AnyThread AnyOperation ReadsNone
alike = record {
  same = λ s r h. sym (ap (λ q. with_rest q r) h);
  lines = same_line;
  flights = same_flight;
  blocked = λ s r t m h. same_blocked s r h t;
  waits = λ s r h. each_any s.blocked;
  there = λ s r t th m h. same_thread s r t th h;
  long = λ s r h. ap length (same_threads s r h);
  main = λ s r h m. (m.0, (same_thread s r 0 m.0 h m.1.0, m.1.1));
  rest = λ x s r h. ap (with_rest x) h;
  resumes = λ s r t p m h. resume_alike s r h t p;
  moves = λ s r t x m h. move_alike s r h t x;
  blocks = λ s r t w m h. block_alike s r h t w;
  spawns = λ s r x h. spawn_alike s r h x;
  puts = λ s r t y m h. ap (put_in t y) h;
  sleeps = λ s r t n z m h. sleep_alike s r h t (due_in n s) (due_in n r);
  reads = λ s r z h. absurd (cc z);
  throws = λ s r u e th g h q. (th, same_thread s r u th h q, refl);
}

-- ---- who is to be stranded

stranded_still : (th : Option Thread) (o : Option (Reason V)) → is_stranded th (timeless_option o) ≡ is_stranded th o
stranded_still th (Some (Sleeping due)) = refl
stranded_still th _ = refl

strands_still : (t : ℕ) (s : State) → is_stranded (slice_get s.threads t) (reason_of t (timeless s).blocked) ≡ is_stranded (slice_get s.threads t) (reason_of t s.blocked)
strands_still t s = ap (is_stranded (slice_get s.threads t)) (reason_still t s.blocked) ∙ stranded_still (slice_get s.threads t) (reason_of t s.blocked)

module _ (s r : State) (h : Alike s r) where
  strands_alike : (t : ℕ) → is_stranded (slice_get s.threads t) (reason_of t s.blocked) ≡ is_stranded (slice_get r.threads t) (reason_of t r.blocked)
  strands_alike t =
      sym (strands_still t s) ∙ (ap (λ (q : State). is_stranded (slice_get q.threads t) (reason_of t q.blocked)) h ∙ strands_still t r)

  below_alike : (n : ℕ) → stranded_below n s ≡ stranded_below n r
  below_alike zero = refl
  below_alike (suc t) =
      ap (λ ts. ts ++ cond (is_stranded (slice_get s.threads t) (reason_of t s.blocked)) (t ∷ []) []) (below_alike t)
      ∙ ap (λ b. stranded_below t r ++ cond b (t ∷ []) []) (strands_alike t)

  all_stranded_alike : stranded s ≡ stranded r
  all_stranded_alike = ap (λ (ths : List Thread). stranded_below (length ths) s) (same_threads s r h) ∙ below_alike (length r.threads)

  -- where nobody sleeps in the one, nobody does in the other
  asleep_alike : sleepers_of s.blocked ≡ [] → sleepers_of r.blocked ≡ []
  asleep_alike e = awake_still r.blocked (sym (ap (λ (q : State). sleepers_of q.blocked) h) ∙ asleep_still s.blocked e)

strands_too : (code : Code) (s r : State) {u : State} → Alike s r → row.Enters code s entry.Stranded u → (w : State) × (next code r entry.Stranded ≡ Some w) × Alike u w
strands_too code s r h (row.strands {t} {ts} m e a) = (
  resume_all (t ∷ ts) (Throw BlockedIndefinitely) r,
  on_running (slice_get r.threads 0) m.0 (λ th. entries.entered code r entry.Stranded) (same_thread s r 0 m.0 h m.1.0) m.1.1
      ∙ (ap (λ ss. strand_entry ss r) (asleep_alike s r h e) ∙ ap (λ us. strand us r) (sym (all_stranded_alike s r h) ∙ all_are a)),
  all_alike (t ∷ ts) (Throw BlockedIndefinitely) s r h,
)

-- ---- entries

reads_none : (s : State) (e : Entry) → ¬ ReadsClock s e → AtOp s e ReadsNone
reads_none s (entry.Op t) n = λ th op is p. false_from_ne_true (part_reads_clock (Performs op)) (λ q. n (ap thread_reads_clock is ∙ (ap part_reads_clock p ∙ q)))
reads_none s _ n = tt

module _ (code : Code) (s r : State) (h : Alike s r) where
  own_too : (u : State) (e : Entry) → ByOne AnyThread e → next code s e ≡ Some u → (w : State) × (next code r e ≡ Some w) × (¬ ReadsClock s e → Alike u w)
  own_too u e y n = let k = goes_too alike code e s r u y (at_any AnyOperation (λ op. tt) s e) h n in (k.0, k.1, λ c. k.2 (reads_none s e c))

  pub next_too : (u : State) (e : Entry) → ¬ IsTick e → ¬ IsWake e → next code s e ≡ Some u → (w : State) × (next code r e ≡ Some w) × (¬ ReadsClock s e → Alike u w)
  next_too u (entry.Wake t) a b n = absurd (b tt)
  next_too u (entry.Tick at) a b n = absurd (a tt)
  next_too u entry.Stranded a b n = let k = strands_too code s r h (case_of code s entry.Stranded u n) in (k.0, k.1, λ c. k.2)
  next_too u e a b n = own_too u e tt n
