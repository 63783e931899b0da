-- Where no step of a parse has a fault, the command takes the words.
use Rattle.std.proofs.Common.{◌≡◌, ◌==◌, ◌&&◌, ◌||◌, ◌⊎◌, inl, inr, ℕ, Bool, cond, true, false, not, zero, suc, List, [], ◌∷◌, Option, Some, None, is_some, refl, ap, length, drop, nat_lt, codes, arith, true≢false}
use Rattle.std.specs.Prelude.{encode_utf8, nat_le, slice_get}
use Rattle.std.specs.Option.{option_map_or}
use Rattle.std.specs.List.{find, list_all, list_any}
use Rattle.std.specs.Str.{bytes_eq, chars}
use Rattle.std.proofs.lemmas.Bool.{eqb-true, le-leb, ltb-false, and_parts, and_from}
use Rattle.clap.specs.Lexer.{long_of, short_of}
use Rattle.clap.specs.ValueTests.{accepts}
use Rattle.clap.specs.Facts.{parser_of_value, unwrap_or_range}
use Rattle.clap.specs.Walk.{Held, Names, Row, Rule, Step, Text, Waiting, Walk, action_of, answers_to, arg_by_id, arg_by_index, arg_by_long, arg_by_short, attached_value, finished, has_row, is_pending, most_values, next, nothing_held, reacted, settled, subcommand, subcommand_met, takes_several, takes_values, trailing, value, values_or_missing, walk, walk_from, walked, word_met}
use Rattle.clap.specs.Simple.{App, Shape, argument_words, built, entered, is_simple, label_of, names_of}
use Rattle.clap.specs.Takes.{action_passes, bundle_passes, bundle_step_passes, count_passes, default_passes, entered_passes, flag_word_passes, flags_pass, is_given, is_valid, level_passes, long_passes, option_passes, other_passes, positional_passes, react_passes, settle_passes, short_passes, step_passes, takes, turn_passes, use_passes, values_pass, walk_passes, word_passes}
use Rattle.clap.specs.Kinds.{Kinds, or_else, range_kinds, value_kinds, values_kinds}
use Rattle.clap.specs.Faults.{action_fault, bundle_fault, bundle_step_fault, check_fault, count_fault, defaults_fault, entered_fault, fault_of, flag_word_fault, flags_fault, has_free_rules, level_fault, long_fault, option_fault, other_fault, positional_fault, react_fault, repeat_fault, settle_fault, short_fault, step_fault, stray_fault, turn_fault, use_fault, values_fault, walk_fault, word_fault}
use Rattle.clap.specs.declared.builder.action.ArgAction.{ArgAction}
use Rattle.clap.specs.declared.builder.action.ArgAction.TheVariants as action
use Rattle.clap.specs.declared.builder.value_parser.ValueParser.{ValueParser}
use Rattle.clap.specs.declared.error.kind.ErrorKind.{ErrorKind}
use Rattle.conc_task.proofs.words_lemmas.Tests.{found_passes}

-- ---- lists of kinds

abbrev some_kind : Kinds → Bool
some_kind [] = false
some_kind (k ∷ ks) = true

full : (k : ErrorKind) (ks : Kinds) → k ∷ ks ≡ [] → ⊥
full k ks e = true≢false (ap some_kind e)

neither : (a b : Kinds) → or_else a b ≡ [] → (a ≡ []) × (b ≡ [])
neither [] b e = (refl, e)
neither (k ∷ ks) b e = absurd (full k ks e)

unless : (b : Bool) (k : ErrorKind) → cond b [] (k ∷ []) ≡ [] → b ≡ true
unless true k e = refl
unless false k e = absurd (full k [] e)

past : (b : Bool) (k : ErrorKind) (rest : Kinds) → cond b (k ∷ []) rest ≡ [] → (b ≡ false) × (rest ≡ [])
past true k rest e = absurd (full k [] e)
past false k rest e = (refl, e)

-- ---- values

values_ok : (ignore_case : Bool) (parser : ValueParser) (vs : List Text) → values_kinds ignore_case parser vs ≡ [] → list_all (accepts ignore_case parser) vs ≡ true
values_ok ignore_case parser [] e = refl
values_ok ignore_case parser (v ∷ vs) e =
    let parts = neither (value_kinds ignore_case parser v) (values_kinds ignore_case parser vs) e in
    and_from _ _ (unless _ _ parts.0) (values_ok ignore_case parser vs parts.1)

rule_values_ok : (a : Rule) (vs : List Text) → values_fault a vs ≡ [] → values_pass a vs ≡ true
rule_values_ok a vs e = values_ok a.ignore_case (parser_of_value a.parser) vs e

-- ---- one use of an argument

count_ok : (a : Rule) (vs : List Text) (rows : List Row) → count_fault a vs rows ≡ [] → count_passes a vs rows ≡ true
count_ok a [] rows e = unless _ _ e
count_ok a (v ∷ vs) rows e = rule_values_ok a (v ∷ vs) e

repeat_ok : (again has : Bool) (k : ErrorKind) → cond (has && not again) (k ∷ []) [] ≡ [] → (not has || again) ≡ true
repeat_ok true true k e = refl
repeat_ok true false k e = refl
repeat_ok false true k e = absurd (full k [] e)
repeat_ok false false k e = refl

set_ok : (again : Bool) (a : Rule) (vs : List Text) (rows : List Row) → or_else (repeat_fault again a.id rows) (values_fault a vs) ≡ []
    → ((not (has_row a.id rows) || again) && values_pass a vs) ≡ true
set_ok again a vs rows e =
    let parts = neither _ _ e in
    and_from _ _ (repeat_ok again (has_row a.id rows) _ parts.0) (rule_values_ok a vs parts.1)

action_ok : (x : ArgAction) (again : Bool) (a : Rule) (vs : List Text) (rows : List Row) → action_fault x again a vs rows ≡ [] → action_passes x again a vs rows ≡ true
action_ok action.Set again a vs rows e = set_ok again a vs rows e
action_ok action.SetTrue again a vs rows e = set_ok again a vs rows e
action_ok action.SetFalse again a vs rows e = set_ok again a vs rows e
action_ok action.Append again a vs rows e = rule_values_ok a vs e
action_ok action.Count again a vs rows e = count_ok a vs rows e
action_ok action.Help again a vs rows e = absurd (full _ _ e)
action_ok action.HelpShort again a vs rows e = absurd (full _ _ e)
action_ok action.HelpLong again a vs rows e = absurd (full _ _ e)
action_ok action.Version again a vs rows e = absurd (full _ _ e)

-- the tests of a number of values, in turn
range_tests : (none same is few many : Bool) (k l m n : ErrorKind) → cond none (k ∷ []) (cond same (cond is [] (l ∷ [])) (cond few (m ∷ []) (cond many (n ∷ []) []))) ≡ []
    → ((same ≡ true) × (is ≡ true)) ⊎ ((few ≡ false) × (many ≡ false))
range_tests none true is few many k l m n e = inl (refl, unless is l (past none k _ e).1)
range_tests none false is few many k l m n e =
    let left = past few m _ (past none k _ e).1 in
    inr (left.0, (past many n [] left.1).0)

range_ok : (least most n : ℕ) → range_kinds least most n ≡ [] → (nat_le least n ≡ true) × (nat_le n most ≡ true)
range_ok least most n e = elim (range_tests (nat_lt 0 least && n == 0) (least == most) (least == n) (nat_lt n least) (nat_lt most n) _ _ _ _ e) [
  | inl h ↦
      let low = eqb-true least n h.1 in
      let high = eqb-true least most h.0 in
      (le-leb least n (omega arith), le-leb n most (omega arith))
  | inr h ↦ (le-leb least n (ltb-false n least h.0), le-leb n most (ltb-false most n h.1))
]

use_ok : (again : Bool) (a : Rule) (vs : List Text) (rows : List Row) → use_fault again a vs rows ≡ [] → use_passes again a vs rows ≡ true
use_ok again a vs rows e =
    let parts = neither _ _ e in
    let range = range_ok (unwrap_or_range a.range).start_inclusive (most_values a) (length vs) parts.0 in
    and_from _ _ range.0 (and_from _ _ range.1 (action_ok (action_of a) again a (values_or_missing a vs) rows parts.1))

-- ---- the walk

module _ (c : List Rule) (again : Bool) where
  settle_ok : (h : Held) → settle_fault c again h ≡ [] → settle_passes c again h ≡ true
  settle_ok h e = go h.pending e
    where
      by_id : (vs : List Text) (o : Option Rule) → option_map_or (λ a. use_fault again a vs h.rows) o [] ≡ [] → option_map_or (λ a. use_passes again a vs h.rows) o true ≡ true
      by_id vs None e = refl
      by_id vs (Some a) e = use_ok again a vs h.rows e

      go : (p : Option (Text × List Text)) → option_map_or (λ q. option_map_or (λ a. use_fault again a q.1 h.rows) (arg_by_id c q.0) []) p [] ≡ []
          → option_map_or (λ q. option_map_or (λ a. use_passes again a q.1 h.rows) (arg_by_id c q.0) true) p true ≡ true
      go None e = refl
      go (Some q) e = by_id q.1 (arg_by_id c q.0) e

  react_ok : (a : Rule) (vs : List Text) (h : Held) → react_fault c again a vs h ≡ [] → react_passes c again a vs h ≡ true
  react_ok a vs h e =
      let parts = neither _ _ e in
      and_from _ _ (settle_ok h parts.0) (use_ok again a vs (settled c h).rows parts.1)

  option_ok : (a : Rule) (v : Option Text) (h : Held) → option_fault c again a v h ≡ [] → option_passes c again a v h ≡ true
  option_ok a (Some v) h e = react_ok a (v ∷ []) h e
  option_ok a None h e = settle_ok h e

  long_ok : (o : Option Rule) (v : Option Text) (h : Held) → long_fault c again o v h ≡ [] → long_passes c again o v h ≡ true
  long_ok None v h e = absurd (full _ _ e)
  long_ok (Some a) v h e = go (takes_values a) (is_some v) _ e
    where
      go : (takes attached : Bool) (k : ErrorKind) → cond takes (option_fault c again a v h) (cond attached (k ∷ []) (react_fault c again a [] h)) ≡ []
          → cond takes (option_passes c again a v h) (not attached && react_passes c again a [] h) ≡ true
      go true attached k e = option_ok a v h e
      go false true k e = absurd (full _ _ e)
      go false false k e = react_ok a [] h e

  short_ok : (o : Option Rule) (rest : Text) (h : Held) (fault : Held → Kinds) (passes : Held → Bool) → ((g : Held) → fault g ≡ [] → passes g ≡ true)
      → short_fault c again o rest h fault ≡ [] → short_passes c again o rest h passes ≡ true
  short_ok None rest h fault passes ok e = absurd (full _ _ e)
  short_ok (Some a) rest h fault passes ok e = go (takes_values a) e
    where
      go : (takes : Bool) → cond takes (option_fault c again a (attached_value rest) h) (or_else (react_fault c again a [] h) (fault (reacted c a [] h))) ≡ []
          → cond takes (option_passes c again a (attached_value rest) h) (react_passes c again a [] h && passes (reacted c a [] h)) ≡ true
      go true e = option_ok a (attached_value rest) h e
      go false e =
          let parts = neither _ _ e in
          and_from _ _ (react_ok a [] h parts.0) (ok _ parts.1)

  bundle_step_ok : (o : Option ℕ) (flags : Text) (skip : ℕ) (h : Held) (fault : Text → ℕ → Held → Kinds) (passes : Text → ℕ → Held → Bool)
      → ((t : Text) (n : ℕ) (g : Held) → fault t n g ≡ [] → passes t n g ≡ true)
      → bundle_step_fault c again o flags skip h fault ≡ [] → bundle_step_passes c again o flags skip h passes ≡ true
  bundle_step_ok None flags skip h fault passes ok e = refl
  bundle_step_ok (Some x) flags zero h fault passes ok e =
      let rest = drop (length (encode_utf8 x)) flags in
      short_ok (arg_by_short c x) rest h (fault rest 0) (passes rest 0) (ok rest 0) e
  bundle_step_ok (Some x) flags (suc skip) h fault passes ok e = ok (drop (length (encode_utf8 x)) flags) skip h e

  flags_ok : (k : ℕ) (flags : Text) (skip : ℕ) (h : Held) → flags_fault c again k flags skip h ≡ [] → flags_pass c again k flags skip h ≡ true
  unfolding flags_fault flags_pass
  flags_ok zero flags skip h e = refl
  flags_ok (suc k) flags skip h e = bundle_step_ok (slice_get (chars flags) 0) flags skip h (flags_fault c again k) (flags_pass c again k) (flags_ok k) e

  flag_word_ok : (o : Option (Text × Option Text)) (word : Text) (h : Held) → flag_word_fault c again o word h ≡ [] → flag_word_passes c again o word h ≡ true
  flag_word_ok (Some p) word h e = long_ok (arg_by_long c p.0) p.1 h e
  flag_word_ok None word h e = go (short_of word) e
    where
      go : (o : Option Text) → option_map_or (λ flags. bundle_fault c again flags h) o [] ≡ [] → option_map_or (λ flags. bundle_passes c again flags h) o true ≡ true
      go None e = refl
      go (Some flags) e = flags_ok (length flags) flags h.skip (record h { skip = 0 }) e

  positional_ok : (a : Rule) (h : Held) → positional_fault c again a h ≡ [] → positional_passes c again a h ≡ true
  positional_ok a h e = go (is_pending a h.pending && takes_several a) e
    where
      go : (b : Bool) → cond b [] (settle_fault c again h) ≡ [] → (b || settle_passes c again h) ≡ true
      go true e = refl
      go false e = settle_ok h e

module _ (s : Shape) where
  other_ok : (o : Option Text) (word : Text) (h : Held) → other_fault s o word h ≡ [] → other_passes s o word h ≡ true
  other_ok (Some name) word h e = go (bytes_eq name (codes "help")) s.disable_help_subcommand _ _ e
    where
      go : (help disabled : Bool) (k l : ErrorKind) → cond (help && not disabled) (k ∷ l ∷ []) [] ≡ [] → (not help || disabled) ≡ true
      go true true k l e = refl
      go true false k l e = absurd (full _ _ e)
      go false disabled k l e = refl
  other_ok None word h e = go (bytes_eq word (45 ∷ 45 ∷ [])) e
    where
      go : (dashes : Bool) → cond dashes [] (flag_word_fault s.rules s.args_override_self (long_of word) word h) ≡ []
          → (dashes || flag_word_passes s.rules s.args_override_self (long_of word) word h) ≡ true
      go true e = refl
      go false e = flag_word_ok s.rules s.args_override_self (long_of word) word h e

  word_ok : (names : Names) (is_trailing : Bool) (waiting : Waiting) (word : Text) (h : Held) → word_fault s names is_trailing waiting word h ≡ []
      → word_passes s names is_trailing waiting word h ≡ true
  word_ok names true waiting word h e = refl
  word_ok names false waiting word h e = other_ok (subcommand_met names waiting word) word h e

  stray : (leaf : Bool) (k l m : ErrorKind) → cond leaf (k ∷ []) (l ∷ m ∷ []) ≡ [] → ⊥
  stray true k l m e = full _ _ e
  stray false k l m e = full _ _ e

  step_ok : (position : ℕ) (h : Held) (step : Step) → step_fault s position h step ≡ [] → step_passes s position h step ≡ true
  step_ok position h value e = go (arg_by_index s.rules position) e
    where
      go : (o : Option Rule) → option_map_or (λ a. positional_fault s.rules s.args_override_self a h) o (stray_fault s) ≡ []
          → option_map_or (λ a. positional_passes s.rules s.args_override_self a h) o false ≡ true
      go None e = absurd (stray s.is_leaf _ _ _ e)
      go (Some a) e = positional_ok s.rules s.args_override_self a h e
  step_ok position h (next waiting) e = refl
  step_ok position h (trailing p) e = refl
  step_ok position h (subcommand name) e = refl

  turn_ok : (names : Names) (w : Walk) (word : Text) → turn_fault s names w word ≡ [] → turn_passes s names w word ≡ true
  turn_ok names w word e =
      go (is_some w.stopped) (word_met s.rules names w.is_trailing w.waiting w.position word w.held) e
    where
      go : (stopped : Bool) (met : Held × Step) → cond stopped [] (or_else (word_fault s names w.is_trailing w.waiting word w.held) (step_fault s w.position met.0 met.1)) ≡ []
          → (stopped || (word_passes s names w.is_trailing w.waiting word w.held && step_passes s w.position met.0 met.1)) ≡ true
      go true met e = refl
      go false met e =
          let parts = neither (word_fault s names w.is_trailing w.waiting word w.held) (step_fault s w.position met.0 met.1) e in
          and_from _ _ (word_ok names w.is_trailing w.waiting word w.held parts.0) (step_ok w.position met.0 met.1 parts.1)

  walk_ok : (names : Names) (w : Walk) (words : List Text) → walk_fault s names w words ≡ [] → walk_passes s names w words ≡ true
  unfolding walk_fault walk_passes
  walk_ok names w [] e = refl
  walk_ok names w (word ∷ rest) e =
      let parts = neither _ _ e in
      and_from _ _ (turn_ok names w word parts.0) (walk_ok names (walked s.rules names w word) rest parts.1)

-- ---- after the walk

check_tests : (help wanted argument : Bool) (k l m : ErrorKind) → cond help (k ∷ []) (cond wanted (l ∷ []) (cond argument (m ∷ []) [])) ≡ []
    → (help ≡ false) × (wanted ≡ false) × (argument ≡ false)
check_tests help wanted argument k l m e =
    let first = past help k _ e in
    let second = past wanted l _ first.1 in
    (first.0, second.0, (past argument m [] second.1).0)

help_ok : (has wants any : Bool) → (not has && (wants && not any)) ≡ false → (not wants || (has || any)) ≡ true
help_ok has false any e = refl
help_ok true true any e = refl
help_ok false true true e = refl
help_ok false true false e = absurd (true≢false e)

subcommand_ok : (has wants : Bool) → (not has && wants) ≡ false → (not wants || has) ≡ true
subcommand_ok has false e = refl
subcommand_ok true true e = refl
subcommand_ok false true e = absurd (true≢false e)

given_ok : (wants given : Rule → Bool) (xs : List Rule) → list_any (λ a. wants a && not (given a)) xs ≡ false → list_all (λ a. not (wants a) || given a) xs ≡ true
given_ok wants given [] e = refl
given_ok wants given (x ∷ xs) e = go (wants x) (given x) e (given_ok wants given xs)
  where
    go : (a b : Bool) → ((a && not b) || list_any (λ y. wants y && not (given y)) xs) ≡ false
        → (list_any (λ y. wants y && not (given y)) xs ≡ false → list_all (λ y. not (wants y) || given y) xs ≡ true)
        → ((not a || b) && list_all (λ y. not (wants y) || given y) xs) ≡ true
    go true true e later = later e
    go true false e later = absurd (true≢false e)
    go false b e later = later e

required_ok : (negates : Bool) (wants given : Rule → Bool) (xs : List Rule) → (not negates && list_any (λ a. wants a && not (given a)) xs) ≡ false
    → (negates || list_all (λ a. not (wants a) || given a) xs) ≡ true
required_ok true wants given xs e = refl
required_ok false wants given xs e = given_ok wants given xs e

valid_ok : (s : Shape) (rows : List Row) (has : Bool) → has_free_rules s ≡ true → check_fault s rows has ≡ [] → is_valid s rows has ≡ true
valid_ok s rows has free e =
    let tests = check_tests _ _ _ _ _ _ e in
    and_from _ _ (help_ok has s.arg_required_else_help _ tests.0) (and_from _ _ (subcommand_ok has s.subcommand_required tests.1)
    (and_from _ _ free (required_ok (s.subcommand_negates_reqs && has) (λ a. a.required) (λ a. is_given a.id rows) s.rules tests.2)))

abbrev pub has_sound_rules : Shape → Bool
has_sound_rules s = has_free_rules s && list_all default_passes s.rules

level_ok : (s : Shape) (names : Names) (h : Held) (words : List Text) (has : Bool) (below : Kinds) → has_sound_rules s ≡ true
    → level_fault s names h words has below ≡ [] → (below ≡ []) × (level_passes s names h words has ≡ true)
level_ok s names h words has below sound e =
    let rules = and_parts (has_free_rules s) _ sound in
    let first = neither (walk_fault s names (walk_from h) words) _ e in
    let second = neither below _ first.1 in
    let end = (walk s.rules names h words).held in
    let third = neither (settle_fault s.rules s.args_override_self end) _ second.1 in
    let fourth = neither (defaults_fault (settled s.rules end).rows s.rules) _ third.1 in (
      second.0,
      and_from _ _ (walk_ok s names (walk_from h) words first.0) (and_from _ _ (settle_ok s.rules s.args_override_self end third.0)
          (and_from _ _ rules.1 (valid_ok s (finished s.rules end) has rules.0 fourth.1))),
    )

entered_ok : (a : App) (stop : Option (Text × List Text)) → list_all has_sound_rules a.subs ≡ true → entered_fault a stop ≡ [] → entered_passes a stop ≡ true
entered_ok a None sound e = refl
entered_ok a (Some p) sound e = go (find (λ s. answers_to p.0 (label_of s)) a.subs) refl e
  where
    go : (o : Option Shape) → find (λ s. answers_to p.0 (label_of s)) a.subs ≡ o → option_map_or (λ s. level_fault s [] nothing_held p.1 false []) o [] ≡ []
        → option_map_or (λ s. level_passes s [] nothing_held p.1 false) o true ≡ true
    go None is e = refl
    go (Some s) is e = (level_ok s [] nothing_held p.1 false [] (found_passes has_sound_rules _ a.subs s sound is) e).1

-- a simple command whose arguments have no rule on one another, and whose defaults pass
pub takes_ok : (a : App) (words : List Text) → is_simple a ≡ true → has_sound_rules (built a).top ≡ true → list_all has_sound_rules (built a).subs ≡ true
    → fault_of a words ≡ [] → takes a words ≡ true
takes_ok a words simple top subs e =
    let stop = (walk (built a).top.rules (names_of (built a)) nothing_held (argument_words a words)).stopped in
    let level = level_ok (built a).top (names_of (built a)) nothing_held (argument_words a words) (is_some (entered (built a) stop)) (entered_fault (built a) stop) top e in
    and_from _ _ simple (and_from _ _ (entered_ok (built a) stop subs level.0) level.1)
