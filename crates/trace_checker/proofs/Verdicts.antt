-- A text has one verdict.
use Rattle.std.proofs.Props.{props}
use Rattle.std.proofs.Math.Logic.{∥∥₁_elim}
use Rattle.std.proofs.Common.{◌≡◌, ◌≢◌, ℕ, ◌<◌, ◌≤◌, List, [], ◌∷◌, ◌++◌, length, Result, Ok, Err, sym, ap, ◌∙◌, subst, arith, append_assoc, inl, inr, ◌⊎◌, ⊎_elim, refl}
use Rattle.std.specs.List.{flat_map, AllByRecursion}
use Rattle.std.proofs.lemmas.Bool.{cases_lt}
use Rattle.std.proofs.lemmas.List.{append-nil}
use Rattle.hs_rules.specs.declared.entry.Entry.{Entry}
use Rattle.hs_rules.specs.Histories.{steps_of}
use Rattle.hs_rules.proofs.Histories.{steps_of_append}
use Rattle.hs_rules.specs.Runs.{IsRun}
use Rattle.hs_rules.specs.State.{State}
use Rattle.hs_laws.proofs.RunParts.{is_after, same_after, run_before}
use Rattle.rules_meaning.specs.CoreMeaning.{Code, code_of}
use Rattle.rules_expansion.specs.trees.Programs.{Fn}
use Rattle.trace_text.specs.spelling.Traces.{Fits, header, line_of, BeginsNoLine, Reads, HasNoHeader}
use Rattle.trace_text.proofs.EntryLines.{one_line}
use Rattle.trace_text.proofs.Readings.{one_reading, none_more}
use Rattle.trace_text.proofs.Faults.{fit_behind}
use Rattle.trace_checker.specs.declared.player.player.Reached.{Reached}
use Rattle.trace_checker.specs.declared.player.player.Reached.TheVariants as reached
use Rattle.trace_checker.specs.player.Playing.{ReachedAs}
use Rattle.trace_checker.specs.declared.verdict.Verified.{Verified}
use Rattle.trace_checker.specs.declared.verdict.RunFault.{RunFault}
use Rattle.trace_checker.specs.declared.verdict.RunFault.TheVariants as fault
use Rattle.trace_checker.specs.Checking.{most_steps, Runs, line_behind, Row, IsVerdict, OneVerdict}
use Rattle.trace_checker.proofs.Parts.{read_before}

-- ---- what ends the check behind these entries, before these bytes

pub record Finds (ds : List Fn) (es : List Entry) (rest : List ℕ) (v : Verified) : Type 0 where
  pub end : rest ≡ []
  pub entries : v.entries ≡ length es
  pub steps : v.steps ≡ steps_of es
  pub state : State
  pub run : IsRun ds es state
  pub reached : ReachedAs v.end (code_of ds) state

pub record NextLine (rest : List ℕ) (e : Entry) : Type 0 where
  pub fits : Fits e
  pub behind : List ℕ
  pub line : rest ≡ line_of e ++ behind

abbrev pub Refuses : List Fn → List Entry → List ℕ → RunFault → Type 0
Refuses ds es rest (fault.Spelling n) = (rest ≢ []) × BeginsNoLine rest × (n ≡ line_behind es)
Refuses ds es rest (fault.Long n) = (e : Entry) × NextLine rest e × (n ≡ line_behind es) × (most_steps < steps_of (es ++ e ∷ []))
Refuses ds es rest (fault.Illegal n) = (e : Entry) × NextLine rest e × (n ≡ line_behind es) × (steps_of (es ++ e ∷ []) ≤ most_steps) × ((u : State) → ¬ IsRun ds (es ++ e ∷ []) u)
Refuses ds es rest fault.NoMemory = ⊥

abbrev pub Stops : List Fn → List Entry → List ℕ → Result Verified RunFault → Type 0
Stops ds es rest (Ok v) = Finds ds es rest v
Stops ds es rest (Err f) = Refuses ds es rest f

pub record Stopped (ds : List Fn) (text : List ℕ) (r : Result Verified RunFault) : Type 0 where
  pub list : List Entry
  pub rest : List ℕ
  pub read : Reads text list rest
  pub runs : Runs ds list
  pub stops : Stops ds list rest r

-- the text has no first line of a trace, or the check ends behind some entries
abbrev pub Seen : List Fn → List ℕ → Result Verified RunFault → Type 0
Seen ds text r = (HasNoHeader text × (r ≡ Err (fault.Spelling 1))) ⊎ Stopped ds text r

seen : (ds : List Fn) (text : List ℕ) (r : Result Verified RunFault) → IsVerdict r → Row ds text r → Seen ds text r
seen ds text (Ok v) is row =
    inr (record {
      list = row.list;
      rest = [];
      read = row.spelled;
      runs = (row.state, row.runs);
      stops = record { end = refl; entries = row.entries; steps = row.steps; state = row.state; run = row.runs.run; reached = row.end };
    })
seen ds text (Err (fault.Spelling n)) is (inl none) = inl (none.0, ap (λ z. Err (fault.Spelling z)) none.1)
seen ds text (Err (fault.Spelling n)) is (inr (es, rest, wrong, runs, line)) =
    inr (record { list = es; rest = rest; read = wrong.read; runs = runs; stops = (wrong.more, wrong.wrong, line) })
seen ds text (Err (fault.Long n)) is (es, e, on, more) =
    let k = read_before text es e on.rest on.read in
    inr (record { list = es; rest = line_of e ++ on.rest; read = k.read; runs = on.runs; stops = (e, record { fits = k.fits; behind = on.rest; line = refl }, on.line, more) })
seen ds text (Err (fault.Illegal n)) is (es, e, on, within, none) =
    let k = read_before text es e on.rest on.read in
    inr (record { list = es; rest = line_of e ++ on.rest; read = k.read; runs = on.runs; stops = (e, record { fits = k.fits; behind = on.rest; line = refl }, on.line, within, none) })
seen ds text (Err fault.NoMemory) is row = absurd is

-- ---- at one place

reached_once : (code : Code) (s : State) (a b : Reached) → ReachedAs a code s → ReachedAs b code s → a ≡ b
reached_once code s reached.Done reached.Done h k = refl
reached_once code s reached.Done reached.Uncaught h k = absurd (k.0 h)
reached_once code s reached.Done reached.Deadlock h k = absurd (k.0 h)
reached_once code s reached.Done reached.Open h k = absurd (k.0 h)
reached_once code s reached.Uncaught reached.Done h k = absurd (h.0 k)
reached_once code s reached.Uncaught reached.Uncaught h k = refl
reached_once code s reached.Uncaught reached.Deadlock h k = absurd (k.1 h.1)
reached_once code s reached.Uncaught reached.Open h k = absurd (k.1 h.1)
reached_once code s reached.Deadlock reached.Done h k = absurd (h.0 k)
reached_once code s reached.Deadlock reached.Uncaught h k = absurd (h.1 k.1)
reached_once code s reached.Deadlock reached.Deadlock h k = refl
reached_once code s reached.Deadlock reached.Open h k = absurd (k.2 h.2)
reached_once code s reached.Open reached.Done h k = absurd (h.0 k)
reached_once code s reached.Open reached.Uncaught h k = absurd (h.1 k.1)
reached_once code s reached.Open reached.Deadlock h k = absurd (h.2 k.2)
reached_once code s reached.Open reached.Open h k = refl

-- no bytes are no line
line_there : (rest : List ℕ) (e : Entry) → rest ≡ [] → NextLine rest e → ⊥
line_there rest e none n =
    let z : e ∷ [] ≡ [] = none_more (e ∷ []) n.behind (sym none ∙ (n.line ∙ ap (λ x. x ++ n.behind) (sym (append-nil (line_of e))))) in
    absurd (cc z)

no_line : (rest : List ℕ) (e : Entry) → BeginsNoLine rest → NextLine rest e → ⊥
no_line rest e none n = none e n.behind n.fits n.line

same_line : (rest : List ℕ) (e f : Entry) → NextLine rest e → NextLine rest f → e ≡ f
same_line rest e f n m = (one_line e f n.behind m.behind n.fits m.fits (sym n.line ∙ m.line)).0

one_finding : (ds : List Fn) (es : List Entry) (rest : List ℕ) (v w : Verified) → Finds ds es rest v → Finds ds es rest w → v ≡ w
one_finding ds es rest v w h k =
    let s : h.state ≡ k.state = same_after ds es h.state k.state h.run (is_after ds es k.state k.run) in
    let end = reached_once (code_of ds) k.state v.end w.end (subst (ReachedAs v.end (code_of ds)) s h.reached) k.reached in
    let entries : v.entries ≡ w.entries = h.entries ∙ sym k.entries in
    let steps : v.steps ≡ w.steps = h.steps ∙ sym k.steps in
    λ i. record { entries = entries i; steps = steps i; end = end i }

-- what is found and what is refused
found_refused : (ds : List Fn) (es : List Entry) (rest : List ℕ) (v : Verified) (f : RunFault) → Finds ds es rest v → Refuses ds es rest f → ⊥
found_refused ds es rest v (fault.Spelling n) h k = k.0 h.end
found_refused ds es rest v (fault.Long n) h (e, next, line, more) = line_there rest e h.end next
found_refused ds es rest v (fault.Illegal n) h (e, next, line, within, none) = line_there rest e h.end next
found_refused ds es rest v fault.NoMemory h k = k

long_illegal : (ds : List Fn) (es : List Entry) (rest : List ℕ) (m n : ℕ) → Refuses ds es rest (fault.Long m) → Refuses ds es rest (fault.Illegal n) → ⊥
long_illegal ds es rest m n (e, next, line, more) (f, other, behind, within, none) =
    let same = same_line rest e f next other in
    let steps : steps_of (es ++ e ∷ []) ≡ steps_of (es ++ f ∷ []) = ap (λ x. steps_of (es ++ x ∷ [])) same in
    omega (arith, steps)

one_refusal : (ds : List Fn) (es : List Entry) (rest : List ℕ) (f g : RunFault) → Refuses ds es rest f → Refuses ds es rest g → f ≡ g
one_refusal ds es rest (fault.Spelling m) (fault.Spelling n) h k = ap (λ z. fault.Spelling z) (h.2 ∙ sym k.2)
one_refusal ds es rest (fault.Spelling m) (fault.Long n) h k = absurd (no_line rest k.0 h.1 k.1)
one_refusal ds es rest (fault.Spelling m) (fault.Illegal n) h k = absurd (no_line rest k.0 h.1 k.1)
one_refusal ds es rest (fault.Long m) (fault.Spelling n) h k = absurd (no_line rest h.0 k.1 h.1)
one_refusal ds es rest (fault.Long m) (fault.Long n) h k = ap (λ z. fault.Long z) (h.2 ∙ sym k.2)
one_refusal ds es rest (fault.Long m) (fault.Illegal n) h k = absurd (long_illegal ds es rest m n h k)
one_refusal ds es rest (fault.Illegal m) (fault.Spelling n) h k = absurd (no_line rest h.0 k.1 h.1)
one_refusal ds es rest (fault.Illegal m) (fault.Long n) h k = absurd (long_illegal ds es rest n m k h)
one_refusal ds es rest (fault.Illegal m) (fault.Illegal n) h k = ap (λ z. fault.Illegal z) (h.2 ∙ sym k.2)
one_refusal ds es rest fault.NoMemory g h k = absurd h
one_refusal ds es rest f fault.NoMemory h k = absurd k

one_stop : (ds : List Fn) (es : List Entry) (rest : List ℕ) (a b : Result Verified RunFault) → Stops ds es rest a → Stops ds es rest b → a ≡ b
one_stop ds es rest (Ok v) (Ok w) h k = ap (λ z. Ok z) (one_finding ds es rest v w h k)
one_stop ds es rest (Ok v) (Err f) h k = absurd (found_refused ds es rest v f h k)
one_stop ds es rest (Err f) (Ok v) h k = absurd (found_refused ds es rest v f k h)
one_stop ds es rest (Err f) (Err g) h k = ap (λ z. Err z) (one_refusal ds es rest f g h k)

-- ---- no run goes on where the check ends

-- the bytes begin with the line of this entry, and such a run goes on by it
pub record Further (ds : List Fn) (es : List Entry) (rest : List ℕ) (o : Entry) : Type 0 where
  pub next : NextLine rest o
  pub within : steps_of (es ++ o ∷ []) ≤ most_steps
  pub state : State
  pub run : IsRun ds (es ++ o ∷ []) state

not_further : (ds : List Fn) (es : List Entry) (rest : List ℕ) (r : Result Verified RunFault) (o : Entry) → Stops ds es rest r → Further ds es rest o → ⊥
not_further ds es rest (Ok v) o h f = line_there rest o h.end f.next
not_further ds es rest (Err (fault.Spelling n)) o h f = no_line rest o h.1 f.next
not_further ds es rest (Err (fault.Long n)) o (e, next, line, more) f =
    let steps : steps_of (es ++ e ∷ []) ≡ steps_of (es ++ o ∷ []) = ap (λ x. steps_of (es ++ x ∷ [])) (same_line rest e o next f.next) in
    let within = f.within in
    omega (arith, steps)
not_further ds es rest (Err (fault.Illegal n)) o (e, next, line, within, none) f =
    none f.state (subst (λ x. IsRun ds (es ++ x ∷ []) f.state) (sym (same_line rest e o next f.next)) f.run)
not_further ds es rest (Err fault.NoMemory) o h f = h

front : (es os : List Entry) (o : Entry) → es ++ o ∷ os ≡ (es ++ o ∷ []) ++ os
front es os o = sym (append_assoc es (o ∷ []) os)

fewer : (es os : List Entry) (o : Entry) → steps_of (es ++ o ∷ []) ≤ steps_of (es ++ o ∷ os)
fewer es os o = let k = ap steps_of (front es os o) ∙ steps_of_append (es ++ o ∷ []) os in omega (arith, k)

further : (ds : List Fn) (es : List Entry) (rest : List ℕ) (o : Entry) (os : List Entry) (after : List ℕ) → AllByRecursion Fits (es ++ o ∷ os) → Runs ds (es ++ o ∷ os) → rest ≡ flat_map line_of (o ∷ os) ++ after → Further ds es rest o
further ds es rest o os after fit runs h =
    let k = run_before ds (es ++ o ∷ []) os runs.0 (subst (λ z. IsRun ds z runs.0) (front es os o) runs.1.run) in
    let most : steps_of (es ++ o ∷ os) ≤ most_steps = runs.1.within in
    let few = fewer es os o in
    record {
      next = record { fits = (fit_behind es (o ∷ os) fit).0; behind = flat_map line_of os ++ after; line = h ∙ append_assoc (line_of o) (flat_map line_of os) after };
      within = omega (arith, most, few);
      state = k.0;
      run = k.1;
    }

-- ---- two ends of the check are one

met_by : (ds : List Fn) (text : List ℕ) (a b : Result Verified RunFault) (h : Stopped ds text a) (k : Stopped ds text b) (os : List Entry) → k.list ≡ h.list ++ os → h.rest ≡ flat_map line_of os ++ k.rest → a ≡ b
met_by ds text a b h k [] more bytes =
    one_stop ds k.list k.rest a b
    (subst (λ z. Stops ds z k.rest a) (sym (more ∙ append-nil h.list)) (subst (λ z. Stops ds h.list z a) bytes h.stops))
    k.stops
met_by ds text a b h k (o ∷ os) more bytes =
    absurd (not_further ds h.list h.rest a o h.stops
    (further ds h.list h.rest o os k.rest (let P : List Entry → Type 0 = AllByRecursion Fits in subst P more k.read.fit) (subst (Runs ds) more k.runs) bytes))

met : (ds : List Fn) (text : List ℕ) (a b : Result Verified RunFault) (h : Stopped ds text a) (k : Stopped ds text b) → length h.list ≤ length k.list → a ≡ b
met ds text a b h k le = let more = one_reading text h.list k.list h.rest k.rest le h.read k.read in met_by ds text a b h k more.others more.entries more.bytes

one_end : (ds : List Fn) (text : List ℕ) (a b : Result Verified RunFault) → Stopped ds text a → Stopped ds text b → a ≡ b
one_end ds text a b h k =
    ⊎_elim (λ (lt : length k.list < length h.list). sym (met ds text b a k h (omega arith))) (λ (le : length h.list ≤ length k.list). met ds text a b h k le) (cases_lt (length k.list) (length h.list))

has_header : (ds : List Fn) (text : List ℕ) (r : Result Verified RunFault) → Stopped ds text r → HasNoHeader text → ⊥
has_header ds text r h none = none (flat_map line_of h.list ++ h.rest) (h.read.spelled ∙ append_assoc header (flat_map line_of h.list) h.rest)

one_seen : (ds : List Fn) (text : List ℕ) (a b : Result Verified RunFault) → Seen ds text a → Seen ds text b → a ≡ b
one_seen ds text a b (inl h) (inl k) = h.1 ∙ sym k.1
one_seen ds text a b (inl h) (inr k) = absurd (has_header ds text b k h.0)
one_seen ds text a b (inr h) (inl k) = absurd (has_header ds text a h k.0)
one_seen ds text a b (inr h) (inr k) = one_end ds text a b h k

pub one_verdict : OneVerdict
one_verdict ds text a b is it h k =
    ∥∥₁_elim h (hlevel props) (λ r. ∥∥₁_elim k (hlevel props) (λ q. one_seen ds text a b (seen ds text a is r) (seen ds text b it q)))
