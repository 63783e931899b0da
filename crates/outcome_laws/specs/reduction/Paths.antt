-- Paths from state to state (own), where they end, and sets of states that no path leaves but for eager steps.
use Rattle.std.specs.Prelude.{◌≡◌, ◌≢◌, ◌+◌, ◌≤◌, ◌<◌, ◌⊎◌, ℕ, suc, Bool, true, false, List, [], ◌∷◌, length, Some, slice_get}
use Rattle.rules_meaning.specs.CoreMeaning.{Code}
use Rattle.rules_waiting.specs.Waiting.{Sleeping, reason_of}
use Rattle.hs_rules.specs.declared.entry.Entry.{Entry}
use Rattle.hs_rules.specs.declared.entry.Entry.TheVariants as entry
use Rattle.hs_rules.specs.State.{Thread, State}
use Rattle.hs_rules.specs.Entries.{Leads}
use Rattle.hs_rules.specs.Endings.{IsDone, IsUncaught, IsDeadlock}
use Rattle.outcome_laws.specs.timing.WithoutTime.{without_ticks}
use Rattle.outcome_laws.specs.reduction.EagerRules.{EagerRule, EagerFinish, EagerStep, EagerSteps}

-- ---- which entries are taken

-- where T is a relation between states and moments: a search takes a Local of one step, a Tick where T holds, and any other
-- entry
abbrev pub IsTaken : (State → ℕ → Type 0) → State → Entry → Type 0
IsTaken T s (entry.Tick at) = T s at
IsTaken T s (entry.Local t k) = k ≡ 1
IsTaken T s (entry.Op t) = Unit {0}
IsTaken T s (entry.Receive t) = Unit {0}
IsTaken T s (entry.Wake t) = Unit {0}
IsTaken T s (entry.Finish t) = Unit {0}
IsTaken T s entry.Stranded = Unit {0}

-- a Tick that is taken before an eager step is taken after it
abbrev pub IsStable : Code → (State → ℕ → Type 0) → Type 0
IsStable code T = (s u : State) → EagerStep code s u → (at : ℕ) → T s at → T u at

-- ---- paths

-- an entry that is counted, or one local rule of a thread that isn't
pub data Move : Type 0 where
  Counted : Entry → Move
  Uncounted : ℕ → Move

abbrev pub entry_of : Move → Entry
entry_of (Counted e) = e
entry_of (Uncounted t) = entry.Local t 1

abbrev pub entries_of : List Move → List Entry
entries_of [] = []
entries_of (m ∷ ms) = entry_of m ∷ entries_of ms

-- the moves lead from the one state to the other, and each of their entries is taken
abbrev pub Path : Code → (State → ℕ → Type 0) → State → List Move → State → Type 0
Path code T s [] z = s ≡ z
Path code T s (v ∷ vs) z = (m : State) × Leads code s (entry_of v) m × IsTaken T s (entry_of v) × Path code T m vs z

-- how many moves are counted
abbrev pub counted : List Move → ℕ
counted [] = 0
counted (Counted e ∷ vs) = suc (counted vs)
counted (Uncounted t ∷ vs) = counted vs

-- how many moves stand before the first that is counted
abbrev pub uncounted_before : List Move → ℕ
uncounted_before [] = 0
uncounted_before (Counted e ∷ vs) = 0
uncounted_before (Uncounted t ∷ vs) = suc (uncounted_before vs)

-- a path is no longer than another: fewer of its moves are counted, or as many, and no more stand before the first
abbrev pub NoLonger : List Move → List Move → Type 0
NoLonger vs ws = (counted vs < counted ws) ⊎ ((counted vs ≡ counted ws) × (uncounted_before vs ≤ uncounted_before ws))

-- ---- where it ends

abbrev pub MainRuns : State → Type 0
MainRuns s = (main : Thread) × (slice_get s.threads 0 ≡ Some main) × (main.finished ≡ false)

-- the main thread has finished, or no entry but a Tick is legal and nobody sleeps
abbrev pub HasEnded : Code → State → Type 0
HasEnded code z = IsDone z ⊎ IsUncaught z ⊎ IsDeadlock code z

-- two states show the same: what was printed, how main stands, and who is blocked
pub record ShowsSame (s u : State) : Type 0 where
  pub main : slice_get s.threads 0 ≡ slice_get u.threads 0
  pub blocked : s.blocked ≡ u.blocked
  pub output : s.output ≡ u.output
  pub errors : s.errors ≡ u.errors

-- one state is the other, or shows the same where main doesn't run any more
abbrev pub EndsLike : State → State → Type 0
EndsLike s u = (s ≡ u) ⊎ (¬ MainRuns s × ShowsSame s u)

-- a path from a state, no longer than these moves, to a state that ends like another
pub record KeptEnding (code : Code) (T : State → ℕ → Type 0) (vs : List Move) (s z : State) : Type 0 where
  pub moves : List Move
  pub state : State
  pub path : Path code T s moves state
  pub no_longer : NoLonger moves vs
  pub ends : EndsLike z state

-- ---- a set of states that is closed

-- the states of which a test holds
abbrev pub InSet : (State → Bool) → State → Type 0
InSet V s = V s ≡ true

-- from each state of V, each entry that is taken leads to a state from which eager steps lead to one in V
abbrev pub IsClosed : Code → (State → ℕ → Type 0) → (State → Type 0) → Type 0
IsClosed code T V = (s : State) → V s → (e : Entry) (u : State) → IsTaken T s e → Leads code s e u → (r : State) × (k : ℕ) × EagerSteps code k u r × V r

-- an ending shows in V: some state there ends like it
abbrev pub HasEndingLike : (State → Type 0) → State → Type 0
HasEndingLike V z = (w : State) × V w × EndsLike z w

-- R is a relation between states and ranks: from each state of a rank, each entry that is taken leads to a state from which eager
-- steps lead to one of a rank that is lower by at least the entries other than Ticks, those of the eager steps too
abbrev pub RanksFall : Code → (State → ℕ → Type 0) → (State → ℕ → Type 0) → Type 0
RanksFall code T R =
    (s : State) (n : ℕ) → R s n → (e : Entry) (u : State) → IsTaken T s e → Leads code s e u →
    (r : State) × (k : ℕ) × (m : ℕ) × EagerSteps code k u r × R r m × (length (without_ticks (e ∷ [])) + (k + m) ≤ n)

-- V is closed, and a rank of its states falls by at least the entries other than Ticks, those of the eager steps too
abbrev pub RankFalls : Code → (State → ℕ → Type 0) → (State → Type 0) → (State → ℕ) → Type 0
RankFalls code T V rank =
    (s : State) → V s → (e : Entry) (u : State) → IsTaken T s e → Leads code s e u →
    (r : State) × (k : ℕ) × EagerSteps code k u r × V r × (length (without_ticks (e ∷ [])) + (k + rank r) ≤ rank s)

-- ---- what eager steps commute with

-- an entry of another thread, or of none
abbrev pub IsOther : ℕ → Entry → Type 0
IsOther t (entry.Local v k) = v ≢ t
IsOther t (entry.Op v) = v ≢ t
IsOther t (entry.Receive v) = v ≢ t
IsOther t (entry.Wake v) = Unit {0}
IsOther t (entry.Finish v) = v ≢ t
IsOther t (entry.Tick at) = Unit {0}
IsOther t entry.Stranded = Unit {0}

-- After an eager local rule of thread t that led to u, an entry that led to m before it leads to a state to which that rule
-- leads from m; or, where main finished meanwhile, to one that shows the same as m.
abbrev pub Commutes : Code → ℕ → State → Entry → State → Type 0
Commutes code t u e m = (w : State) × Leads code u e w × (EagerRule code t m w ⊎ (¬ MainRuns m × ShowsSame m w))

-- local rules of these threads, in order, lead from a state to another
abbrev pub LocalsLead : Code → List ℕ → State → State → Type 0
LocalsLead code [] w m = w ≡ m
LocalsLead code (t ∷ ts) w m = (i : State) × Leads code w (entry.Local t 1) i × LocalsLead code ts i m

-- After an eager local rule of thread t that led to u, an exception that would have led to m before it leads to a state from
-- which local rules lead to m, or to which an eager one leads from m.
abbrev pub CommutesWithReceive : Code → ℕ → State → State → Type 0
CommutesWithReceive code t u m = (w : State) × Leads code u (entry.Receive t) w × (((ts : List ℕ) × LocalsLead code ts w m) ⊎ EagerRule code t m w)

-- After an eager Finish of thread t, which led to u, an entry that led to m before is that Finish itself, or leads to a state
-- to which an eager Finish of t leads from m; or, where main finished meanwhile, to one that shows the same as m.
abbrev pub CommutesWithFinish : Code → ℕ → State → Entry → State → Type 0
CommutesWithFinish code t u e m = (m ≡ u) ⊎ ((w : State) × Leads code u e w × (EagerFinish code t m w ⊎ (¬ MainRuns m × ShowsSame m w)))

-- ---- which entries there are to try

-- an entry of a thread that there is, or a Wake of one that sleeps
abbrev pub NamesThread : State → Entry → Type 0
NamesThread s (entry.Local t k) = t < length s.threads
NamesThread s (entry.Op t) = t < length s.threads
NamesThread s (entry.Receive t) = t < length s.threads
NamesThread s (entry.Wake t) = (due : ℕ) × (reason_of t s.blocked ≡ Some (Sleeping due))
NamesThread s (entry.Finish t) = t < length s.threads
NamesThread s (entry.Tick at) = Unit {0}
NamesThread s entry.Stranded = Unit {0}
