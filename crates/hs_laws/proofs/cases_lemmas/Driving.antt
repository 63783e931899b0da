-- A scheduler that makes runs: the first thread of an order that can go on does; where none can the clock goes on if
-- somebody sleeps, and else threads are stranded. What it makes is a run, and where it stops the run has ended as a test
-- says.
use Rattle.std.proofs.Common.{◌≡◌, ℕ, zero, suc, ◌+◌, ◌==◌, ◌<◌, ◌≤◌, Bool, true, false, cond, ◌&&◌, List, [], ◌∷◌, length, Option, Some, None, slice_get, refl, sym, ap, ◌∙◌, subst, arith, ◌⊎◌, ⊎_elim}
use Rattle.std.proofs.lemmas.Bool.{and_parts}
use Rattle.hs_rules.specs.declared.entry.Entry.{Entry}
use Rattle.hs_rules.specs.declared.entry.Entry.TheVariants as entry
use Rattle.rules_expansion.specs.trees.Programs.{Fn}
use Rattle.rules_meaning.specs.Values.{V}
use Rattle.rules_meaning.specs.CoreMeaning.{Code, code_of}
use Rattle.rules_waiting.specs.Waiting.{Reason, Sleeping, Waiting, Sleeper, is_blocked, reason_of, with_sleeper, sleepers_of}
use Rattle.hs_rules.specs.Terms.{Part, Term}
use Rattle.hs_rules.specs.LocalRules.{local, locals, on_term}
use Rattle.hs_rules.specs.State.{Thread, State}
use Rattle.hs_rules.specs.Entries.{moved, local_entry, woken, on_thread, next, IsWork, IsIdle, IsTimely, Leads}
use Rattle.hs_rules.specs.Entries as entries
use Rattle.hs_rules.specs.Runs.{Run, IsRun, first_of}
use Rattle.hs_rules.specs.Histories.{steps_of}
use Rattle.hs_rules.specs.Endings.{RunEnding, Done, Uncaught, Deadlock, is_ret, result_of, ended_by, IsQuiet, Ends}

-- ---- whether there is work

abbrev is_none : Option State → Bool
is_none None = true
is_none (Some s) = false

-- whether thread t has no work, if it doesn't sleep
abbrev pub rests : Code → ℕ → State → Bool
rests code t s =
    is_none (next code s (entry.Local t 1)) && (is_none (next code s (entry.Op t)) && (is_none (next code s (entry.Receive t)) && is_none (next code s (entry.Finish t))))

-- whether none of so many threads has
abbrev pub all_rest : Code → ℕ → State → Bool
all_rest code zero s = true
all_rest code (suc t) s = rests code t s && all_rest code t s

abbrev is_empty : List Sleeper → Bool
is_empty [] = true
is_empty (r ∷ rs) = false

-- whether there is no work and nobody sleeps
abbrev pub is_idle : Code → State → Bool
is_idle code s = is_empty (sleepers_of s.blocked) && all_rest code (length s.threads) s

none_is : (o : Option State) → is_none o ≡ true → o ≡ None
none_is None e = refl
none_is (Some s) e = absurd (cc e)

empty_is : (rs : List Sleeper) → is_empty rs ≡ true → rs ≡ []
empty_is [] e = refl
empty_is (r ∷ rs) e = absurd (cc e)

-- what a thread that rests can't do
abbrev Rests : Code → ℕ → State → Type 0
Rests code t s =
    (next code s (entry.Local t 1) ≡ None) × (next code s (entry.Op t) ≡ None) × (next code s (entry.Receive t) ≡ None) × (next code s (entry.Finish t) ≡ None)

rests_so : (code : Code) (t : ℕ) (s : State) → rests code t s ≡ true → Rests code t s
rests_so code t s h =
    let a = and_parts (is_none (next code s (entry.Local t 1))) _ h in
    let b = and_parts (is_none (next code s (entry.Op t))) _ a.1 in
    let c = and_parts (is_none (next code s (entry.Receive t))) _ b.1 in
    (none_is _ a.0, none_is _ b.0, none_is _ c.0, none_is _ c.1)

below : (code : Code) (n t : ℕ) (s : State) → all_rest code n s ≡ true → t < n → Rests code t s
below code zero t s h l = absurd (omega (arith, l))
below code (suc n) t s h l =
    let k = and_parts (rests code n s) (all_rest code n s) h in
    ⊎_elim (λ e. subst (λ m. Rests code m s) e (rests_so code n s k.0)) (λ m. below code n t s k.1 m) (last_or t n l)
  where
    last_or : (t n : ℕ) → t < suc n → (n ≡ t) ⊎ (t < n)
    last_or t n h = grind arith

beyond : (ths : List Thread) (t : ℕ) → length ths ≤ t → slice_get ths t ≡ None
beyond [] t h = refl
beyond (th ∷ ths) zero h = absurd (omega (arith, h))
beyond (th ∷ ths) (suc t) h = beyond ths t (omega (arith, h))

on_main : (o : Option Thread) (x : Option State) → x ≡ None → on_thread o (λ main. x) ≡ None
on_main None x e = refl
on_main (Some th) x e = ap (cond th.finished None) e ∙ both_none th.finished
  where
    both_none : (b : Bool) → ◌≡◌ {A = Option State} (cond b None None) None
    both_none true = refl
    both_none false = refl

none_there : (o : Option Thread) (k : Thread → Option State) → o ≡ None → on_thread o k ≡ None
none_there o k e = ap (λ p. on_thread p k) e

rest_beyond : (code : Code) (t : ℕ) (s : State) → slice_get s.threads t ≡ None → Rests code t s
rest_beyond code t s e = (
  on_main (slice_get s.threads 0) _ (none_there (slice_get s.threads t) _ e),
  on_main (slice_get s.threads 0) _ (none_there (slice_get s.threads t) _ e),
  on_main (slice_get s.threads 0) _ (none_there (slice_get s.threads t) _ e),
  on_main (slice_get s.threads 0) _ (none_there (slice_get s.threads t) _ e),
)

each_rests : (code : Code) (t : ℕ) (s : State) → all_rest code (length s.threads) s ≡ true → Rests code t s
each_rests code t s h = ⊎_elim (λ l. below code (length s.threads) t s h l) (λ l. rest_beyond code t s (beyond s.threads t l)) (split t (length s.threads))
  where
    split : (t n : ℕ) → (t < n) ⊎ (n ≤ t)
    split t n = grind arith

-- where one local rule doesn't apply, no number of them does
no_more : (code : Code) (t k : ℕ) (s : State) (o : Option Term) → moved t s (on_term o (λ u. Some u)) ≡ None → moved t s (on_term o (λ u. locals code k u)) ≡ None
no_more code t k s None e = refl
no_more code t k s (Some u) e = absurd (cc e)

no_locals : (code : Code) (t k : ℕ) (th : Thread) (s : State) → local_entry code t 1 th s ≡ None → local_entry code t k th s ≡ None
no_locals code t zero th s h = refl
no_locals code t (suc k) th s h = by (is_blocked t s.blocked) h
  where
    by : (b : Bool) → cond b None (moved t s (locals code 1 th.term)) ≡ None → cond b None (moved t s (locals code (suc k) th.term)) ≡ None
    by true h = refl
    by false h = no_more code t k s (local code th.term.part th.term.frames) h

-- two ways to go on from a thread of which the second is none where the first is
none_too : (o : Option Thread) (f g : Thread → Option State) → ((th : Thread) → f th ≡ None → g th ≡ None) → on_thread o f ≡ None → on_thread o g ≡ None
none_too None f g h e = refl
none_too (Some th) f g h e = by th.finished e
  where
    by : (b : Bool) → cond b None (f th) ≡ None → cond b None (g th) ≡ None
    by true e = refl
    by false e = h th e

local_rests : (code : Code) (t k : ℕ) (s : State) → next code s (entry.Local t 1) ≡ None → next code s (entry.Local t k) ≡ None
local_rests code t k s h =
    none_too (slice_get s.threads 0) (λ main. entries.entered code s (entry.Local t 1)) (λ main. entries.entered code s (entry.Local t k))
    (λ main e. none_too (slice_get s.threads t) (λ th. local_entry code t 1 th s) (λ th. local_entry code t k th s) (λ th x. no_locals code t k th s x) e) h

wakes_not : (t v : ℕ) (r : Reason V) (s : State) (rs : List Sleeper) → with_sleeper v r rs ≡ [] → (woken t (Some r) s ≡ None) × (rs ≡ [])
wakes_not t v (Sleeping due) s rs h = absurd (cc h)
wakes_not t v _ s rs h = (refl, h)

none_wakes : (t : ℕ) (s : State) (ws : List (Waiting V)) → sleepers_of ws ≡ [] → woken t (reason_of t ws) s ≡ None
none_wakes t s [] h = refl
none_wakes t s (w ∷ ws) h =
    let k = wakes_not t w.thread w.reason s (sleepers_of ws) h in
    by (w.thread == t) k.0 (none_wakes t s ws k.1)
  where
    by : (b : Bool) → woken t (Some w.reason) s ≡ None → woken t (reason_of t ws) s ≡ None → woken t (cond b (Some w.reason) (reason_of t ws)) s ≡ None
    by true x y = x
    by false x y = y

pub idle_so : (code : Code) (s : State) → is_idle code s ≡ true → IsIdle code s
idle_so code s h (entry.Local t k) w = local_rests code t k s (each_rests code t s (and_parts (is_empty (sleepers_of s.blocked)) _ h).1).0
idle_so code s h (entry.Op t) w = (each_rests code t s (and_parts (is_empty (sleepers_of s.blocked)) _ h).1).1
idle_so code s h (entry.Receive t) w = (each_rests code t s (and_parts (is_empty (sleepers_of s.blocked)) _ h).1).2
idle_so code s h (entry.Wake t) w =
    on_main (slice_get s.threads 0) _ (none_wakes t s s.blocked (empty_is (sleepers_of s.blocked) (and_parts (is_empty (sleepers_of s.blocked)) _ h).0))
idle_so code s h (entry.Finish t) w = (each_rests code t s (and_parts (is_empty (sleepers_of s.blocked)) _ h).1).3
idle_so code s h (entry.Tick at) w = absurd w
idle_so code s h entry.Stranded w = absurd w

-- ---- a step

-- an entry and the state that it leaves
abbrev Step : Type 0
Step = Entry × State

abbrev with_entry : Entry → Option State → Option Step
with_entry e None = None
with_entry e (Some u) = Some (e, u)

abbrev or_else : Option Step → Option Step → Option Step
or_else None y = y
or_else (Some x) y = Some x

abbrev tried : Code → State → Entry → Option Step
tried code s e = with_entry e (next code s e)

-- one step of thread t, if it has work
abbrev turn : Code → ℕ → State → Option Step
turn code t s =
    or_else (tried code s (entry.Receive t)) (or_else (tried code s (entry.Wake t)) (or_else (tried code s (entry.Local t 1)) (or_else (tried code s (entry.Op t)) (tried code s (entry.Finish t)))))

-- one step of the first of these threads that has work
abbrev first_turn : Code → List ℕ → State → Option Step
first_turn code [] s = None
first_turn code (t ∷ ts) s = or_else (turn code t s) (first_turn code ts s)

abbrev stranding : Code → Bool → State → Option Step
stranding code false s = None
stranding code true s = tried code s entry.Stranded

abbrev ticking : Code → List Sleeper → State → Option Step
ticking code [] s = None
ticking code (r ∷ rs) s = tried code s (entry.Tick (s.clock + 5))

abbrev step : Code → List ℕ → State → Option Step
step code ts s = or_else (first_turn code ts s) (or_else (ticking code (sleepers_of s.blocked) s) (stranding code (is_idle code s) s))

abbrev Good : Code → State → Option Step → Type 0
Good code s None = Unit {0}
Good code s (Some x) = Leads code s x.0 x.1

good_try : (code : Code) (s : State) (e : Entry) → IsTimely code s e → Good code s (tried code s e)
good_try code s e h = by (next code s e) refl
  where
    by : (o : Option State) → next code s e ≡ o → Good code s (with_entry e o)
    by None q = tt
    by (Some u) q = (q, h)

good_or : (code : Code) (s : State) (x y : Option Step) → Good code s x → Good code s y → Good code s (or_else x y)
good_or code s None y h g = g
good_or code s (Some x) y h g = h

good_turn : (code : Code) (t : ℕ) (s : State) → Good code s (turn code t s)
good_turn code t s =
    good_or code s _ _ (good_try code s (entry.Receive t) tt)
    (good_or code s _ _ (good_try code s (entry.Wake t) tt)
    (good_or code s _ _ (good_try code s (entry.Local t 1) tt)
    (good_or code s _ _ (good_try code s (entry.Op t) tt) (good_try code s (entry.Finish t) tt))))

good_first : (code : Code) (ts : List ℕ) (s : State) → Good code s (first_turn code ts s)
good_first code [] s = tt
good_first code (t ∷ ts) s = good_or code s _ _ (good_turn code t s) (good_first code ts s)

good_tick : (code : Code) (rs : List Sleeper) (s : State) → Good code s (ticking code rs s)
good_tick code [] s = tt
good_tick code (r ∷ rs) s = good_try code s (entry.Tick (s.clock + 5)) tt

good_strand : (code : Code) (b : Bool) (s : State) → is_idle code s ≡ b → Good code s (stranding code b s)
good_strand code false s h = tt
good_strand code true s h = good_try code s entry.Stranded (idle_so code s h)

good_step : (code : Code) (ts : List ℕ) (s : State) → Good code s (step code ts s)
good_step code ts s = good_or code s _ _ (good_first code ts s) (good_or code s _ _ (good_tick code (sleepers_of s.blocked) s) (good_strand code (is_idle code s) s refl))

-- ---- at most so many steps

pub record Log : Type 0 where
  pub entries : List Entry
  pub state : State

abbrev put_first : Entry → Log → Log
put_first e l = record { entries = e ∷ l.entries; state = l.state }

abbrev going_on : State → Option Step → (State → Log) → Log
going_on s None k = record { entries = []; state = s }
going_on s (Some x) k = put_first x.0 (k x.1)

abbrev pub drive : Code → List ℕ → ℕ → State → Log
drive code ts zero s = record { entries = []; state = s }
drive code ts (suc n) s = going_on s (step code ts s) (λ u. drive code ts n u)

abbrev IsGood : Code → State → Log → Type 0
IsGood code s l = Run code s l.entries l.state

goes_on : (code : Code) (s : State) (o : Option Step) (k : State → Log) → Good code s o → ((u : State) → IsGood code u (k u)) → IsGood code s (going_on s o k)
goes_on code s None k g h = refl
goes_on code s (Some x) k g h = (x.1, g, h x.1)

drive_run : (code : Code) (ts : List ℕ) (n : ℕ) (s : State) → IsGood code s (drive code ts n s)
drive_run code ts zero s = refl
drive_run code ts (suc n) s = goes_on code s (step code ts s) (λ u. drive code ts n u) (good_step code ts s) (λ u. drive_run code ts n u)

-- ---- the ending that a state shows

abbrev by_result : Code → State → Option Part → Option RunEnding
by_result code s (Some p) = cond (is_ret p) (Some Done) (Some Uncaught)
by_result code s None = cond (is_idle code s && is_none (next code s entry.Stranded)) (Some Deadlock) None

abbrev pub ending_shown : Code → State → Option RunEnding
ending_shown code s = by_result code s (result_of (slice_get s.threads 0))

quiet_so : (code : Code) (s : State) → is_idle code s ≡ true → next code s entry.Stranded ≡ None → IsQuiet code s
quiet_so code s i n (entry.Local t k) h (u, l) = let z : None ≡ Some u = sym (idle_so code s i (entry.Local t k) tt) ∙ l.0 in cc z
quiet_so code s i n (entry.Op t) h (u, l) = let z : None ≡ Some u = sym (idle_so code s i (entry.Op t) tt) ∙ l.0 in cc z
quiet_so code s i n (entry.Receive t) h (u, l) = let z : None ≡ Some u = sym (idle_so code s i (entry.Receive t) tt) ∙ l.0 in cc z
quiet_so code s i n (entry.Wake t) h (u, l) = let z : None ≡ Some u = sym (idle_so code s i (entry.Wake t) tt) ∙ l.0 in cc z
quiet_so code s i n (entry.Finish t) h (u, l) = let z : None ≡ Some u = sym (idle_so code s i (entry.Finish t) tt) ∙ l.0 in cc z
quiet_so code s i n (entry.Tick at) h (u, l) = h tt
quiet_so code s i n entry.Stranded h (u, l) = let z : None ≡ Some u = sym n ∙ l.0 in cc z

-- that ending, if it is one
abbrev EndsSo : Code → State → ℕ → ℕ → Option RunEnding → Type 0
EndsSo code s steps fuel None = Unit {0}
EndsSo code s steps fuel (Some e) = Ends e code s steps fuel

pub ends_shown : (code : Code) (s : State) (steps fuel : ℕ) → EndsSo code s steps fuel (ending_shown code s)
ends_shown code s steps fuel = by (result_of (slice_get s.threads 0)) refl
  where
    -- what main's result is says whether the run is done
    from : (o : Option Part) (b : Bool) → result_of (slice_get s.threads 0) ≡ o → ended_by (result_of (slice_get s.threads 0)) b → ended_by o b
    from o b q h = subst (λ x. ended_by x b) q h

    to : (o : Option Part) (b : Bool) → result_of (slice_get s.threads 0) ≡ o → ended_by o b → ended_by (result_of (slice_get s.threads 0)) b
    to o b q h = subst (λ x. ended_by x b) (sym q) h

    finished : (p : Part) → result_of (slice_get s.threads 0) ≡ Some p → (b : Bool) → is_ret p ≡ b → EndsSo code s steps fuel (cond b (Some Done) (Some Uncaught))
    finished p q true r = to (Some p) true q r
    finished p q false r = ((λ h. let z : true ≡ false = sym (from (Some p) true q h) ∙ r in cc z), to (Some p) false q r)

    waiting : result_of (slice_get s.threads 0) ≡ None → (b c : Bool) → is_idle code s ≡ b → is_none (next code s entry.Stranded) ≡ c → EndsSo code s steps fuel (cond (b && c) (Some Deadlock) None)
    waiting q true true i n =
        (from None true q, from None false q, (quiet_so code s i (none_is (next code s entry.Stranded) n), empty_is (sleepers_of s.blocked) (and_parts (is_empty (sleepers_of s.blocked)) _ i).0))
    waiting q true false i n = tt
    waiting q false c i n = tt

    by : (o : Option Part) → result_of (slice_get s.threads 0) ≡ o → EndsSo code s steps fuel (by_result code s o)
    by (Some p) q = finished p q (is_ret p) refl
    by None q = waiting q (is_idle code s) (is_none (next code s entry.Stranded)) refl refl

-- ---- a worked run

-- what a run leaves to be seen
pub record Seen : Type 0 where
  pub output : List ℕ
  pub errors : List ℕ
  pub ending : Option RunEnding

abbrev pub seen : Code → State → Seen
seen code s = record { output = s.output; errors = s.errors; ending = ending_shown code s }

abbrev pub drive_from : Code → List ℕ → ℕ → Option State → Option Seen
drive_from code ts n None = None
drive_from code ts n (Some s) = Some (seen code (drive code ts n s).state)

-- what is seen after at most so many steps of a script in this order of threads
abbrev pub driven : List Fn → List ℕ → ℕ → Option Seen
driven ds ts n = drive_from (code_of ds) ts n (first_of ds)

-- a run of the script that has ended so, with these bytes written
pub record Worked (ds : List Fn) (ending : RunEnding) (output errors : List ℕ) : Type 0 where
  pub entries : List Entry
  pub state : State
  pub run : IsRun ds entries state
  pub ends : (fuel : ℕ) → Ends ending (code_of ds) state (steps_of entries) fuel
  pub prints : state.output ≡ output
  pub tells : state.errors ≡ errors

abbrev pub Shows : RunEnding → List ℕ → List ℕ → Option Seen
Shows e out err = Some (record { output = out; errors = err; ending = Some e })

-- what a scheduler's run shows is a worked run
pub worked : (ds : List Fn) (ts : List ℕ) (n : ℕ) (e : RunEnding) (out err : List ℕ) → driven ds ts n ≡ Shows e out err → Worked ds e out err
worked ds ts n e out err h = by (first_of ds) refl h
  where
    same : (x y : Seen) → Some x ≡ Some y → x ≡ y
    same x y h = cc h

    by : (o : Option State) → first_of ds ≡ o → drive_from (code_of ds) ts n o ≡ Shows e out err → Worked ds e out err
    by None q g = absurd (cc g)
    by (Some s) q g =
        let l : Log = drive (code_of ds) ts n s in
        let k = same (seen (code_of ds) l.state) (record { output = out; errors = err; ending = Some e }) g in
        record {
          entries = l.entries;
          state = l.state;
          run = (s, q, drive_run (code_of ds) ts n s);
          ends = λ fuel. subst (EndsSo (code_of ds) l.state (steps_of l.entries) fuel) (ap (λ x. x.ending) k) (ends_shown (code_of ds) l.state (steps_of l.entries) fuel);
          prints = ap (λ x. x.output) k;
          tells = ap (λ x. x.errors) k;
        }
