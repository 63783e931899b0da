-- Words that the program takes are a command within its ranges, or name another clock.
use Rattle.std.proofs.Common.{◌≡◌, ◌∙◌, ◌&&◌, ◌||◌, ◌≤◌, ◌<◌, ◌^◌, ◌⊎◌, inl, inr, not, ℕ, Bool, cond, true, false, List, [], ◌∷◌, Option, Some, None, is_some, refl, sym, ap, subst, codes, arith, true≢false}
use Rattle.std.specs.Prelude.{option_and_then, option_map}
use Rattle.std.specs.Option.{option_map_or, unwrap_or}
use Rattle.std.specs.List.{AllByRecursion, find, list_all}
use Rattle.std.specs.Str.{bytes_eq}
use Rattle.std.proofs.lemmas.Bool.{and_parts}
use Rattle.clap.specs.Facts.{explicit_source, parser_of_value}
use Rattle.clap.specs.Values.{read_as, reading_of}
use Rattle.clap.specs.ValueTests.{accepts}
use Rattle.clap.specs.Walk.{Names, Row, Rule, Text, answers_to, arg_by_id, has_row, nothing_held, rows_after, settled, walk, walk_from, with_default}
use Rattle.clap.specs.Simple.{App, Shape, argument_words, built, built_leaf, entered, filled, inherited, is_simple, label_of, marked_built, names_of, rows_at, subcommand_of, with_index}
use Rattle.clap.specs.Takes.{default_passes, entered_passes, is_given, level_passes, settle_passes, takes, walk_passes}
use Rattle.hs_base.specs.declared.clock_choice.ClockChoice.{ClockChoice}
use Rattle.conc_task.specs.declared.words.command.Command.{Command}
use Rattle.conc_task.specs.declared.words.command.Command.TheVariants.{Run, Check, Bench, Trace, Outcomes, Claims, Haskell, Ask}
use Rattle.conc_task.specs.declared.words.command.Question.TheVariants.{Verify, Report, Picture}
use Rattle.conc_task.specs.words.Program.{bench, capabilities_option, check, claims, clock_option, from_to, fuel_option, haskell, outcomes, picture, program, report, run, runner, states_option, threads_place, trace, verify, witness_option}
use Rattle.conc_task.specs.words.Commands.{ChoosesClock, IsNumbered, IsRefused, IsWithin, clock_of, command_in, command_of, number_of, runner_of, written}
use Rattle.conc_task.proofs.words_lemmas.Numbers.{range_is}
use Rattle.conc_task.proofs.words_lemmas.Entries.{IsGood, TakesOne, default_stays, default_there, entry_passes, level_keeps, no_entry}

-- ---- what a level that passes says

level_asks : (s : Shape) (names : Names) (words : List Text) (has : Bool) → level_passes s names nothing_held words has ≡ true
    → ((not s.subcommand_required || has) ≡ true)
    × (((s.subcommand_negates_reqs && has) || list_all (λ a. not a.required || is_given a.id (rows_after s.rules names words)) s.rules) ≡ true)
level_asks s names words has e =
    let end = (walk s.rules names nothing_held words).held in
    let first = and_parts (walk_passes s names (walk_from nothing_held) words) _ e in
    let second = and_parts (settle_passes s.rules s.args_override_self end) _ first.1 in
    let third = and_parts (list_all default_passes s.rules) _ second.1 in
    let fourth = and_parts _ _ third.1 in
    let fifth = and_parts (not s.subcommand_required || has) _ fourth.1 in
    let sixth = and_parts (list_all (λ a. a.is_free) s.rules) _ fifth.1 in
    (fifth.0, sixth.1)

takes_asks : (a : App) (words : List Text) → takes a words ≡ true → (built a).top.subcommand_required ≡ true
    → let stop = (walk (built a).top.rules (names_of (built a)) nothing_held (argument_words a words)).stopped in
    (entered_passes (built a) stop ≡ true) × (is_some (entered (built a) stop) ≡ true)
takes_asks a words e required =
    let stop = (walk (built a).top.rules (names_of (built a)) nothing_held (argument_words a words)).stopped in
    let parts = and_parts (is_simple a) _ e in
    let inner = and_parts (entered_passes (built a) stop) _ parts.1 in
    let has = is_some (entered (built a) stop) in
    (inner.0, subst (λ b. (not b || has) ≡ true) required (level_asks (built a).top (names_of (built a)) (argument_words a words) has inner.1).0)

-- what the words gave is there
given_there : (id : Text) (rows : List Row) → is_given id rows ≡ true → has_row id rows ≡ true
given_there id [] e = absurd (true≢false (sym e))
given_there id (r ∷ rs) e = go (bytes_eq r.id id) e (given_there id rs)
  where
    go : (b : Bool) → option_map_or (λ (x : Row). explicit_source x.source) (cond b (Some r) (find (λ x. bytes_eq x.id id) rs)) false ≡ true
        → (is_given id rs ≡ true → has_row id rs ≡ true) → (b || has_row id rs) ≡ true
    go true e later = refl
    go false e later = later e

-- an entry that is there has a number in the range of its argument
number_is : (c : List Rule) (id : Text) (a : Rule) (bits low high : ℕ) → arg_by_id c id ≡ Some a → (rows : List Row) → AllByRecursion (IsGood c) rows → has_row id rows ≡ true
    → high < 2 ^ bits → a.parser ≡ Some (from_to low high)
    → (n : ℕ) × (number_of bits id rows ≡ Some n) × (low ≤ n) × (n ≤ high)
number_is c id a bits low high known rows good has fits parser =
    let v = entry_passes c id a known rows good has in
    let n = range_is bits low high a.ignore_case v.0 fits (subst (λ p. accepts a.ignore_case (parser_of_value p) v.0 ≡ true) parser v.1) in
    (n.0, ap (option_and_then (written bits)) (v.2 ∙ ap (λ p. Some (read_as (reading_of (parser_of_value p)) v.0)) parser) ∙ n.1, n.2, n.3)

-- an entry that may be there has a number in the range of its argument, where it is there
numbered : (c : List Rule) (id : Text) (a : Rule) (high : ℕ) → arg_by_id c id ≡ Some a → (rows : List Row) → AllByRecursion (IsGood c) rows → high < 2 ^ 32 → a.parser ≡ Some (from_to 1 high)
    → IsNumbered (number_of 32 id rows)
numbered c id a high known rows good fits parser = go (has_row id rows) refl
  where
    there : (n : ℕ) × (number_of 32 id rows ≡ Some n) × (1 ≤ n) × (n ≤ high) → IsNumbered (number_of 32 id rows)
    there n = subst IsNumbered (sym n.1) (n.2, omega (arith, n.3, fits))

    go : (b : Bool) → has_row id rows ≡ b → IsNumbered (number_of 32 id rows)
    go true has = there (number_is c id a 32 1 high known rows good has fits parser)
    go false has = subst IsNumbered (sym (ap (option_and_then (written 32)) (no_entry id rows has))) tt

-- ---- the subcommands

-- a subcommand, built
abbrev leaf : App → Shape
leaf a = built_leaf (inherited (marked_built program.top) a.top)

abbrev capabilities_rule : Rule
capabilities_rule = filled capabilities_option

abbrev fuel_rule : Rule
fuel_rule = filled fuel_option

abbrev clock_rule : Rule
clock_rule = filled clock_option

abbrev states_rule : Rule
states_rule = filled states_option

abbrev witness_rule : Rule
witness_rule = filled witness_option

abbrev threads_rule : Rule
threads_rule = with_index 1 (filled threads_place)

-- the matches of a subcommand are a command, or name another clock
abbrev Reads : Option (Text × List Row) → Type 0
Reads sub = ((c : Command) × (command_in sub ≡ Some c) × IsWithin c)
    ⊎ ((name : Text) × (rows : List Row) × ChoosesClock name × (sub ≡ Some (name, rows)) × (clock_of rows ≡ None) × (command_in sub ≡ None))

bench_ones : AllByRecursion (TakesOne (leaf bench).rules) (leaf bench).rules
bench_ones = ((refl, omega arith, refl, refl), ((refl, omega arith, refl, refl), ((refl, omega arith, refl, refl), tt)))

outcomes_ones : AllByRecursion (TakesOne (leaf outcomes).rules) (leaf outcomes).rules
outcomes_ones = ((refl, omega arith, refl, refl), ((refl, omega arith, refl, refl), ((refl, omega arith, refl, refl), ((refl, omega arith, refl, refl), tt))))

claims_ones : AllByRecursion (TakesOne (leaf claims).rules) (leaf claims).rules
claims_ones = ((refl, omega arith, refl, refl), ((refl, omega arith, refl, refl), ((refl, omega arith, refl, refl), tt)))

-- a command that runs a script: its name chooses a clock, and its numbers have the ranges of all of them
module _ (name : Text) (make : ℕ → ℕ → ClockChoice → Command) (chooses : ChoosesClock name)
    (is : (rows : List Row) → command_in (Some (name, rows)) ≡ runner_of make rows)
    (ranges : (caps fuel : ℕ) (clock : ClockChoice) → 1 ≤ caps → caps ≤ 16 → 1 ≤ fuel → fuel ≤ 4000000 → IsWithin (make caps fuel clock)) where
  abbrev its : Shape
  its = leaf (runner name)

  ones : AllByRecursion (TakesOne its.rules) its.rules
  ones = ((refl, omega arith, refl, refl), ((refl, omega arith, refl, refl), ((refl, omega arith, refl, refl), tt)))

  go : (rows : List Row) → (n : ℕ) × (number_of 8 (codes "caps") rows ≡ Some n) × (1 ≤ n) × (n ≤ 16)
      → (n : ℕ) × (number_of 32 (codes "fuel") rows ≡ Some n) × (1 ≤ n) × (n ≤ 4000000)
      → (o : Option ClockChoice) → clock_of rows ≡ o → Reads (Some (name, rows))
  go rows caps fuel (Some clock) found = inl (
    make caps.0 fuel.0 clock,
    is rows ∙ (λ i. option_and_then (λ n. option_and_then (λ m. option_map (λ k. make n m k) (found i)) (fuel.1 i)) (caps.1 i)),
    ranges caps.0 fuel.0 clock caps.2 caps.3 fuel.2 fuel.3,
  )
  go rows caps fuel None found = inr (
    name,
    rows,
    chooses,
    refl,
    found,
    is rows ∙ (λ i. option_and_then (λ n. option_and_then (λ m. option_map (λ k. make n m k) (found i)) (fuel.1 i)) (caps.1 i)),
  )

  runner_reads : (words : List Text) → level_passes its [] nothing_held words false ≡ true → Reads (Some (name, rows_after its.rules [] words))
  runner_reads words e =
      let rows = rows_after its.rules [] words in
      let start = (settled its.rules (walk its.rules [] nothing_held words).held).rows in
      let good = level_keeps its ones [] words false e in
      let first = with_default start capabilities_rule in
      let second = with_default first fuel_rule in
      let caps_there : has_row (codes "caps") rows ≡ true =
      default_stays (codes "caps") second clock_rule (default_stays (codes "caps") first fuel_rule (default_there start capabilities_rule (codes "1") [] refl)) in
      let fuel_there : has_row (codes "fuel") rows ≡ true =
      default_stays (codes "fuel") second clock_rule (default_there first fuel_rule (codes "1000000") [] refl) in
      go rows
      (number_is its.rules (codes "caps") capabilities_rule 8 1 16 refl rows good caps_there (omega arith) refl)
      (number_is its.rules (codes "fuel") fuel_rule 32 1 4000000 refl rows good fuel_there (omega arith) refl)
      (clock_of rows) refl

run_reads : (words : List Text) → level_passes (leaf run) [] nothing_held words false ≡ true → Reads (Some (codes "run", rows_after (leaf run).rules [] words))
run_reads = runner_reads (codes "run") Run (inl refl) (λ rows. refl) (λ caps fuel clock a b c d. (a, b, c, d))

trace_reads : (words : List Text) → level_passes (leaf trace) [] nothing_held words false ≡ true → Reads (Some (codes "trace", rows_after (leaf trace).rules [] words))
trace_reads = runner_reads (codes "trace") Trace (inr (inl refl)) (λ rows. refl) (λ caps fuel clock a b c d. (a, b, c, d))

bench_reads : (words : List Text) → level_passes (leaf bench) [] nothing_held words false ≡ true → Reads (Some (codes "bench", rows_after (leaf bench).rules [] words))
bench_reads words e =
    let rows = rows_after (leaf bench).rules [] words in
    let start = (settled (leaf bench).rules (walk (leaf bench).rules [] nothing_held words).held).rows in
    let good = level_keeps (leaf bench) bench_ones [] words false e in
    let threads_there : has_row (codes "threads") rows ≡ true =
    given_there (codes "threads") rows (and_parts (is_given (codes "threads") rows) _ (level_asks (leaf bench) [] words false e).1).0 in
    let first = with_default start threads_rule in
    let second = with_default first capabilities_rule in
    let caps_there : has_row (codes "caps") rows ≡ true =
    default_stays (codes "caps") second fuel_rule (default_there first capabilities_rule (codes "1") [] refl) in
    let fuel_there : has_row (codes "fuel") rows ≡ true = default_there second fuel_rule (codes "1000000") [] refl in
    go rows
    (number_is (leaf bench).rules (codes "threads") threads_rule 32 1 4000 refl rows good threads_there (omega arith) refl)
    (number_is (leaf bench).rules (codes "caps") capabilities_rule 8 1 16 refl rows good caps_there (omega arith) refl)
    (number_is (leaf bench).rules (codes "fuel") fuel_rule 32 1 4000000 refl rows good fuel_there (omega arith) refl)
  where
    go : (rows : List Row) → (n : ℕ) × (number_of 32 (codes "threads") rows ≡ Some n) × (1 ≤ n) × (n ≤ 4000)
        → (n : ℕ) × (number_of 8 (codes "caps") rows ≡ Some n) × (1 ≤ n) × (n ≤ 16)
        → (n : ℕ) × (number_of 32 (codes "fuel") rows ≡ Some n) × (1 ≤ n) × (n ≤ 4000000) → Reads (Some (codes "bench", rows))
    go rows threads caps fuel = inl (
      Bench threads.0 caps.0 fuel.0,
      (λ i. option_and_then (λ t. option_and_then (λ n. option_map (λ m. Bench t n m) (fuel.1 i)) (caps.1 i)) (threads.1 i)),
      (threads.2, threads.3, caps.2, caps.3, fuel.2, fuel.3),
    )

outcomes_reads : (words : List Text) → level_passes (leaf outcomes) [] nothing_held words false ≡ true → Reads (Some (codes "outcomes", rows_after (leaf outcomes).rules [] words))
outcomes_reads words e =
    let rows = rows_after (leaf outcomes).rules [] words in
    let start = (settled (leaf outcomes).rules (walk (leaf outcomes).rules [] nothing_held words).held).rows in
    let good = level_keeps (leaf outcomes) outcomes_ones [] words false e in
    let first = with_default start clock_rule in
    let second = with_default first states_rule in
    let third = with_default second fuel_rule in
    let states_there : has_row (codes "states") rows ≡ true =
    default_stays (codes "states") third witness_rule (default_stays (codes "states") second fuel_rule (default_there first states_rule (codes "1000000") [] refl)) in
    let fuel_there : has_row (codes "fuel") rows ≡ true =
    default_stays (codes "fuel") third witness_rule (default_there second fuel_rule (codes "1000000") [] refl) in
    go rows
    (number_is (leaf outcomes).rules (codes "states") states_rule 32 1 4000000 refl rows good states_there (omega arith) refl)
    (number_is (leaf outcomes).rules (codes "fuel") fuel_rule 32 1 4000000 refl rows good fuel_there (omega arith) refl)
    (numbered (leaf outcomes).rules (codes "witness") witness_rule 4294967295 refl rows good (omega arith) refl)
    (clock_of rows) refl
  where
    go : (rows : List Row) → (n : ℕ) × (number_of 32 (codes "states") rows ≡ Some n) × (1 ≤ n) × (n ≤ 4000000)
        → (n : ℕ) × (number_of 32 (codes "fuel") rows ≡ Some n) × (1 ≤ n) × (n ≤ 4000000) → IsNumbered (number_of 32 (codes "witness") rows)
        → (o : Option ClockChoice) → clock_of rows ≡ o → Reads (Some (codes "outcomes", rows))
    go rows states fuel witness (Some clock) found = inl (
      Outcomes clock states.0 fuel.0 (number_of 32 (codes "witness") rows),
      (λ i. option_and_then (λ k. option_and_then (λ n. option_map (λ m. Outcomes k n m (number_of 32 (codes "witness") rows)) (fuel.1 i)) (states.1 i)) (found i)),
      (states.2, states.3, fuel.2, fuel.3, witness),
    )
    go rows states fuel witness None found = inr (
      codes "outcomes",
      rows,
      inr (inr (inl refl)),
      refl,
      found,
      (λ i. option_and_then (λ k. option_and_then (λ n. option_map (λ m. Outcomes k n m (number_of 32 (codes "witness") rows)) (fuel.1 i)) (states.1 i)) (found i)),
    )

claims_reads : (words : List Text) → level_passes (leaf claims) [] nothing_held words false ≡ true → Reads (Some (codes "claims", rows_after (leaf claims).rules [] words))
claims_reads words e =
    let rows = rows_after (leaf claims).rules [] words in
    let start = (settled (leaf claims).rules (walk (leaf claims).rules [] nothing_held words).held).rows in
    let good = level_keeps (leaf claims) claims_ones [] words false e in
    let first = with_default start clock_rule in
    let second = with_default first states_rule in
    let states_there : has_row (codes "states") rows ≡ true =
    default_stays (codes "states") second fuel_rule (default_there first states_rule (codes "1000000") [] refl) in
    let fuel_there : has_row (codes "fuel") rows ≡ true = default_there second fuel_rule (codes "1000000") [] refl in
    go rows
    (number_is (leaf claims).rules (codes "states") states_rule 32 1 4000000 refl rows good states_there (omega arith) refl)
    (number_is (leaf claims).rules (codes "fuel") fuel_rule 32 1 4000000 refl rows good fuel_there (omega arith) refl)
    (clock_of rows) refl
  where
    go : (rows : List Row) → (n : ℕ) × (number_of 32 (codes "states") rows ≡ Some n) × (1 ≤ n) × (n ≤ 4000000)
        → (n : ℕ) × (number_of 32 (codes "fuel") rows ≡ Some n) × (1 ≤ n) × (n ≤ 4000000)
        → (o : Option ClockChoice) → clock_of rows ≡ o → Reads (Some (codes "claims", rows))
    go rows states fuel (Some clock) found = inl (
      Claims clock states.0 fuel.0,
      (λ i. option_and_then (λ k. option_and_then (λ n. option_map (λ m. Claims k n m) (fuel.1 i)) (states.1 i)) (found i)),
      (states.2, states.3, fuel.2, fuel.3),
    )
    go rows states fuel None found = inr (
      codes "claims",
      rows,
      inr (inr (inr refl)),
      refl,
      found,
      (λ i. option_and_then (λ k. option_and_then (λ n. option_map (λ m. Claims k n m) (fuel.1 i)) (states.1 i)) (found i)),
    )

-- ---- the words

-- the subcommand that a name is
abbrev chosen : (is_run is_check is_bench is_trace is_outcomes is_claims is_haskell is_verify is_report is_picture : Bool) → Option Shape
chosen is_run is_check is_bench is_trace is_outcomes is_claims is_haskell is_verify is_report is_picture =
    cond is_run (Some (leaf run)) (cond is_check (Some (leaf check)) (cond is_bench (Some (leaf bench)) (cond is_trace (Some (leaf trace)) (cond is_outcomes (Some (leaf outcomes))
    (cond is_claims (Some (leaf claims)) (cond is_haskell (Some (leaf haskell)) (cond is_verify (Some (leaf verify)) (cond is_report (Some (leaf report)) (cond is_picture (Some (leaf picture)) None)))))))))

-- whichever subcommand a name is
named_reads : (is_run is_check is_bench is_trace is_outcomes is_claims is_haskell is_verify is_report is_picture : Bool) (words : List Text)
    → option_map_or (λ s. level_passes s [] nothing_held words false) (chosen is_run is_check is_bench is_trace is_outcomes is_claims is_haskell is_verify is_report is_picture) true ≡ true
    → is_some (option_map (λ s. rows_at s words) (chosen is_run is_check is_bench is_trace is_outcomes is_claims is_haskell is_verify is_report is_picture)) ≡ true
    → Reads (option_map (λ s. rows_at s words) (chosen is_run is_check is_bench is_trace is_outcomes is_claims is_haskell is_verify is_report is_picture))
named_reads true is_check is_bench is_trace is_outcomes is_claims is_haskell is_verify is_report is_picture words e there = run_reads words e
named_reads false true is_bench is_trace is_outcomes is_claims is_haskell is_verify is_report is_picture words e there = inl (Check, refl, tt)
named_reads false false true is_trace is_outcomes is_claims is_haskell is_verify is_report is_picture words e there = bench_reads words e
named_reads false false false true is_outcomes is_claims is_haskell is_verify is_report is_picture words e there = trace_reads words e
named_reads false false false false true is_claims is_haskell is_verify is_report is_picture words e there = outcomes_reads words e
named_reads false false false false false true is_haskell is_verify is_report is_picture words e there = claims_reads words e
named_reads false false false false false false true is_verify is_report is_picture words e there = inl (Haskell, refl, tt)
named_reads false false false false false false false true is_report is_picture words e there = inl (Ask Verify, refl, tt)
named_reads false false false false false false false false true is_picture words e there = inl (Ask Report, refl, tt)
named_reads false false false false false false false false false true words e there = inl (Ask Picture, refl, tt)
named_reads false false false false false false false false false false words e there = absurd (true≢false (sym there))

stop_reads : (stop : Option (Text × List Text)) → entered_passes (built program) stop ≡ true → is_some (entered (built program) stop) ≡ true → Reads (entered (built program) stop)
stop_reads None e there = absurd (true≢false (sym there))
stop_reads (Some p) e there =
    named_reads (answers_to p.0 (label_of run.top)) (answers_to p.0 (label_of check.top)) (answers_to p.0 (label_of bench.top)) (answers_to p.0 (label_of trace.top))
    (answers_to p.0 (label_of outcomes.top)) (answers_to p.0 (label_of claims.top)) (answers_to p.0 (label_of haskell.top))
    (answers_to p.0 (label_of verify.top)) (answers_to p.0 (label_of report.top)) (answers_to p.0 (label_of picture.top)) p.1 e there

taken_reads : (words : List Text) → takes program words ≡ true → Reads (subcommand_of program words)
taken_reads words e =
    let asks = takes_asks program words e refl in
    stop_reads (walk (built program).top.rules (names_of (built program)) nothing_held words).stopped asks.0 asks.1

-- a command's numbers lie in their ranges
pub within : (words : List Text) (c : Command) → command_of words ≡ Some c → IsWithin c
within words c e = go (takes program words) refl e
  where
    some_same : (x y : Command) → Some x ≡ Some y → x ≡ y
    some_same x y p = ap (λ o. unwrap_or o x) p

    none_some : None ≡ Some c → ⊥
    none_some p = true≢false (sym (ap is_some p))

    read : Reads (subcommand_of program words) → command_in (subcommand_of program words) ≡ Some c → IsWithin c
    read (inl r) p = subst IsWithin (some_same r.0 c (sym r.1 ∙ p)) r.2
    read (inr r) p = absurd (none_some (sym r.5 ∙ p))

    go : (b : Bool) → takes program words ≡ b → cond b (command_in (subcommand_of program words)) None ≡ Some c → IsWithin c
    go true taken p = read (taken_reads words taken) p
    go false taken p = absurd (none_some p)

-- words that are no command are refused
pub refused : (words : List Text) → command_of words ≡ None → IsRefused words
refused words e = go (takes program words) refl e
  where
    none_some : (c : Command) → None ≡ Some c → ⊥
    none_some c p = true≢false (sym (ap is_some p))

    read : Reads (subcommand_of program words) → command_in (subcommand_of program words) ≡ None → IsRefused words
    read (inl r) p = absurd (none_some r.0 (sym p ∙ r.1))
    read (inr r) p = inr (r.0, r.1, r.2, r.3, r.4)

    go : (b : Bool) → takes program words ≡ b → cond b (command_in (subcommand_of program words)) None ≡ None → IsRefused words
    go true taken p = read (taken_reads words taken) p
    go false taken p = inl taken
