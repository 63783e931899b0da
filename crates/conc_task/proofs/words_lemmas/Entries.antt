-- The rows that a level of a parse leaves have values that pass, where the level passes.
use Rattle.std.proofs.Common.{◌≡◌, ◌∙◌, ◌&&◌, ◌||◌, ◌≤◌, ◌<◌, ◌++◌, ℕ, Bool, cond, true, false, not, zero, suc, List, [], ◌∷◌, Option, Some, None, is_some, refl, sym, ap, subst, length, drop, arith, fold, true≢false, length-append}
use Rattle.std.specs.Prelude.{encode_utf8, option_and_then, option_map, slice_get}
use Rattle.std.specs.Option.{option_map_or, unwrap_or}
use Rattle.std.specs.List.{AllByRecursion, find}
use Rattle.std.specs.Str.{bytes_eq, chars}
use Rattle.std.proofs.lemmas.Bool.{leb-true, and_parts}
use Rattle.std.proofs.lemmas.List.Folds.{list_all-append}
use Rattle.std.proofs.lemmas.Slice.Eq.{bytes_eq-Decides}
use Rattle.plain_laws.proofs.Lists.{all_append}
use Rattle.clap.specs.Lexer.{long_of, short_of}
use Rattle.clap.specs.Facts.{unwrap_or_range}
use Rattle.clap.specs.Values.{read_as}
use Rattle.clap.specs.Walk.{Held, Names, Outcome, Row, Rule, Step, Text, Waiting, Walk, action_of, after_flag, after_step, arg_by_id, arg_by_index, arg_by_long, arg_by_short, at_row, attached_value, bundle_met, bundle_step, default_rows, done, flag_met, has_row, idle, is_pending, long_met, long_or_other, more_values, next, nothing_held, one_of, option, option_met, option_word, plain, plain_word, positional, pushed, reacted, reading_by, refused, rows_after, settled, short_met, short_or_plain, subcommand, subcommand_met, subcommand_or_other, takes_several, takes_values, to_positional, trailing, used, used_as, used_by_id, value, values_or_missing, waits, walk, walk_from, walked, walked_from, with_default, with_values, without, word_met}
use Rattle.clap.specs.Simple.{Shape}
use Rattle.clap.specs.Takes.{action_passes, bundle_step_passes, flag_word_passes, flags_pass, level_passes, long_passes, option_passes, other_passes, positional_passes, react_passes, settle_passes, short_passes, step_passes, turn_passes, use_passes, value_passes, values_pass, walk_passes, word_passes}
use Rattle.clap.specs.declared.builder.action.ArgAction.TheVariants.{Set}
use Rattle.clap.specs.declared.builder.value_parser.Reading.{Reading}
use Rattle.clap.specs.declared.parser.matches.ValueSource.{ValueSource}
use Rattle.clap.specs.declared.parser.matches.ValueSource.TheVariants.{CommandLine, DefaultValue}

some_same : {X : Type 0} (x y : X) → Some x ≡ Some y → x ≡ y
some_same x y e = ap (λ o. unwrap_or o x) e

none_some : {X : Type 0} (x : X) → None ≡ Some x → ⊥
none_some x e = true≢false (sym (ap is_some e))

-- what a list has throughout its first that passes a test has
pub found_has : {X : Type 0} (P : X → Type 0) (q : X → Bool) (xs : List X) (x : X) → AllByRecursion P xs → find q xs ≡ Some x → P x
found_has P q [] x all found = absurd (none_some x found)
found_has P q (y ∷ ys) x all found = go (q y) found (found_has P q ys x all.1)
  where
    go : (b : Bool) → cond b (Some y) (find q ys) ≡ Some x → (find q ys ≡ Some x → P x) → P x
    go true e later = subst P (some_same y x e) all.0
    go false e later = later e

module _ (c : List Rule) where
  -- a row has a value, its values pass, and they are read as the argument of its id says
  abbrev pub IsGood : Row → Type 0
  IsGood r = (a : Rule) → arg_by_id c r.id ≡ Some a → (values_pass a r.values ≡ true) × (0 < length r.values) × (r.reading ≡ reading_by a)

  -- an argument that takes a value at each use, whose defaults pass, and the first with its id
  abbrev pub TakesOne : Rule → Type 0
  TakesOne a = (action_of a ≡ Set) × (1 ≤ (unwrap_or_range a.range).start_inclusive) × (arg_by_id c a.id ≡ Some a) × (values_pass a a.defaults ≡ true)

  -- ---- rows

  at_keeps : (id : Text) (change : Row → List Row) (missing : List Row) → ((r : Row) → IsGood r → r.id ≡ id → AllByRecursion IsGood (change r))
      → AllByRecursion IsGood missing → (rows : List Row) → AllByRecursion IsGood rows → AllByRecursion IsGood (at_row id change missing rows)
  at_keeps id change missing f m [] good = m
  at_keeps id change missing f m (r ∷ rs) good = go (bytes_eq r.id id) refl (at_keeps id change missing f m rs good.1)
    where
      go : (b : Bool) → bytes_eq r.id id ≡ b → AllByRecursion IsGood (at_row id change missing rs) → AllByRecursion IsGood (cond b (change r ++ rs) (r ∷ at_row id change missing rs))
      go true e later = all_append IsGood (change r) rs (f r good.0 ((bytes_eq-Decides r.id id).0 e)) good.1
      go false e later = (good.0, later)

  without_keeps : (id : Text) (rows : List Row) → AllByRecursion IsGood rows → AllByRecursion IsGood (without id rows)
  without_keeps id rows good = at_keeps id (λ _. []) [] (λ r g e. tt) tt rows good

  with_keeps : (a : Rule) → TakesOne a → (s : ValueSource) (vs : List Text) → values_pass a vs ≡ true → 0 < length vs → (rows : List Row) → AllByRecursion IsGood rows
      → AllByRecursion IsGood (with_values a.id (reading_by a) s vs rows)
  with_keeps a one s vs pass some rows good = at_keeps a.id (more_values s vs) _ more (new, tt) rows good
    where
      is_it : (b : Rule) → arg_by_id c a.id ≡ Some b → b ≡ a
      is_it b found = some_same b a (sym found ∙ one.2)

      new : (b : Rule) → arg_by_id c a.id ≡ Some b → (values_pass b vs ≡ true) × (0 < length vs) × (reading_by a ≡ reading_by b)
      new b found = (subst (λ x. values_pass x vs ≡ true) (sym (is_it b found)) pass, some, ap reading_by (sym (is_it b found)))

      more : (r : Row) → IsGood r → r.id ≡ a.id → AllByRecursion IsGood (more_values s vs r)
      more r g same = (
        λ b found.
            let old = g b found in
            let extra = (new b (ap (arg_by_id c) (sym same) ∙ found)).0 in
            (list_all-append (value_passes b) r.values vs ∙ (λ i. old.0 i && extra i), omega (arith, old.1, length-append r.values vs), old.2),
        tt,
      )

  given : (a : Rule) (vs : List Text) → 1 ≤ length vs → 0 < length (values_or_missing a vs)
  given a [] le = absurd (omega arith)
  given a (v ∷ vs) le = omega arith

  used_keeps : (again : Bool) (a : Rule) → TakesOne a → (vs : List Text) (rows : List Row) → use_passes again a vs rows ≡ true → AllByRecursion IsGood rows
      → AllByRecursion IsGood (used a vs rows)
  used_keeps again a one vs rows e good =
      let parts = and_parts _ _ e in
      let enough : (unwrap_or_range a.range).start_inclusive ≤ length vs = leb-true _ _ parts.0 in
      let some : 1 ≤ length vs = omega (arith, one.1) in
      let action = (and_parts _ _ parts.1).1 in
      let set = and_parts _ _ (subst (λ x. action_passes x again a (values_or_missing a vs) rows ≡ true) one.0 action) in
      subst (λ x. AllByRecursion IsGood (used_as x a.id (reading_by a) (values_or_missing a vs) rows)) (sym one.0)
      (with_keeps a one CommandLine (values_or_missing a vs) set.1 (given a vs some) (without a.id rows) (without_keeps a.id rows good))

  default_keeps : (rows : List Row) (a : Rule) → TakesOne a → AllByRecursion IsGood rows → AllByRecursion IsGood (with_default rows a)
  default_keeps rows a one good = go (has_row a.id rows)
    where
      values : (vs : List Text) → values_pass a vs ≡ true → AllByRecursion IsGood (default_rows a.id (reading_by a) vs rows)
      values [] e = good
      values (v ∷ vs) e = with_keeps a one DefaultValue (v ∷ vs) e (omega arith) rows good

      go : (b : Bool) → AllByRecursion IsGood (cond b rows (default_rows a.id (reading_by a) a.defaults rows))
      go true = good
      go false = values a.defaults one.3

  defaults_keep : (xs : List Rule) (rows : List Row) → AllByRecursion TakesOne xs → AllByRecursion IsGood rows → AllByRecursion IsGood (fold with_default rows xs)
  defaults_keep [] rows ones good = good
  defaults_keep (x ∷ xs) rows ones good = defaults_keep xs (with_default rows x) ones.1 (default_keeps rows x ones.0 good)

  -- ---- the walk

  abbrev Holds : Held → Type 0
  Holds h = AllByRecursion IsGood h.rows

  module _ (ones : AllByRecursion TakesOne c) (again : Bool) where
    settle_keeps : (h : Held) → settle_passes c again h ≡ true → Holds h → Holds (settled c h)
    settle_keeps h e good = go h.pending e
      where
        by_id : (vs : List Text) (o : Option Rule) → ((a : Rule) → o ≡ Some a → TakesOne a) → option_map_or (λ a. use_passes again a vs h.rows) o true ≡ true
            → AllByRecursion IsGood (used_by_id o vs h.rows)
        by_id vs None one e = good
        by_id vs (Some a) one e = used_keeps again a (one a refl) vs h.rows e good

        go : (p : Option (Text × List Text)) → option_map_or (λ q. option_map_or (λ a. use_passes again a q.1 h.rows) (arg_by_id c q.0) true) p true ≡ true
            → AllByRecursion IsGood (settled c (record h { pending = p })).rows
        go None e = good
        go (Some q) e = by_id q.1 (arg_by_id c q.0) (λ a found. found_has TakesOne (λ x. bytes_eq x.id q.0) c a ones found) e

    react_keeps : (a : Rule) → TakesOne a → (vs : List Text) (h : Held) → react_passes c again a vs h ≡ true → Holds h → Holds (reacted c a vs h)
    react_keeps a one vs h e good =
        let parts = and_parts _ _ e in
        used_keeps again a one vs (settled c h).rows parts.1 (settle_keeps h parts.0 good)

    option_keeps : (a : Rule) → TakesOne a → (v : Option Text) (h : Held) → option_passes c again a v h ≡ true → Holds h → Holds (option_met c a v h).0
    option_keeps a one (Some v) h e good = react_keeps a one (v ∷ []) h e good
    option_keeps a one None h e good = settle_keeps h e good

    flag_keeps : (a : Rule) → TakesOne a → (v : Option Text) (h : Held) → (not (is_some v) && react_passes c again a [] h) ≡ true → Holds h → Holds (flag_met c a v h).0
    flag_keeps a one (Some v) h e good = good
    flag_keeps a one None h e good = react_keeps a one [] h e good

    long_keeps : (o : Option Rule) → ((a : Rule) → o ≡ Some a → TakesOne a) → (v : Option Text) (h : Held) → long_passes c again o v h ≡ true → Holds h → Holds (long_met c o v h).0
    long_keeps None one v h e good = good
    long_keeps (Some a) one v h e good = go (takes_values a) e
      where
        go : (b : Bool) → cond b (option_passes c again a v h) (not (is_some v) && react_passes c again a [] h) ≡ true → Holds (cond b (option_met c a v h) (flag_met c a v h)).0
        go true e = option_keeps a (one a refl) v h e good
        go false e = flag_keeps a (one a refl) v h e good

    short_keeps : (o : Option Rule) → ((a : Rule) → o ≡ Some a → TakesOne a) → (rest : Text) (h : Held) (then : Held → Held × Outcome) (passes : Held → Bool)
        → ((g : Held) → passes g ≡ true → Holds g → Holds (then g).0) → short_passes c again o rest h passes ≡ true → Holds h → Holds (short_met c o rest h then).0
    short_keeps None one rest h then passes keeps e good = good
    short_keeps (Some a) one rest h then passes keeps e good = go (takes_values a) e
      where
        go : (b : Bool) → cond b (option_passes c again a (attached_value rest) h) (react_passes c again a [] h && passes (reacted c a [] h)) ≡ true
            → Holds (cond b (option_met c a (attached_value rest) h) (then (reacted c a [] h))).0
        go true e = option_keeps a (one a refl) (attached_value rest) h e good
        go false e =
            let parts = and_parts _ _ e in
            keeps _ parts.1 (react_keeps a (one a refl) [] h parts.0 good)

    bundle_step_keeps : (o : Option ℕ) (flags : Text) (skip : ℕ) (so_far : Outcome) (h : Held) (then : Text → ℕ → Outcome → Held → Held × Outcome) (passes : Text → ℕ → Held → Bool)
        → ((t : Text) (n : ℕ) (x : Outcome) (g : Held) → passes t n g ≡ true → Holds g → Holds (then t n x g).0)
        → bundle_step_passes c again o flags skip h passes ≡ true → Holds h → Holds (bundle_step c o flags skip so_far h then).0
    bundle_step_keeps None flags skip so_far h then passes keeps e good = good
    bundle_step_keeps (Some x) flags zero so_far h then passes keeps e good =
        let rest = drop (length (encode_utf8 x)) flags in
        short_keeps (arg_by_short c x) (λ a found. found_has TakesOne _ c a ones found) rest h (then rest 0 done) (passes rest 0) (keeps rest 0 done) e good
    bundle_step_keeps (Some x) flags (suc skip) so_far h then passes keeps e good = keeps (drop (length (encode_utf8 x)) flags) skip so_far h e good

    bundle_keeps : (k : ℕ) (flags : Text) (skip : ℕ) (so_far : Outcome) (h : Held) → flags_pass c again k flags skip h ≡ true → Holds h → Holds (bundle_met c k flags skip so_far h).0
    unfolding bundle_met flags_pass
    bundle_keeps zero flags skip so_far h e good = good
    bundle_keeps (suc k) flags skip so_far h e good =
        bundle_step_keeps (slice_get (chars flags) 0) flags skip so_far h (bundle_met c k) (flags_pass c again k) (bundle_keeps k) e good

    plain_rows : (waiting : Waiting) (word : Text) (h : Held) → h.rows ≡ (plain_word c waiting word h).0.rows
    plain_rows (option id) word h = go (arg_by_id c id)
      where
        go : (o : Option Rule) → h.rows ≡ (option_word o id word h).0.rows
        go None = refl
        go (Some a) = refl
    plain_rows idle word h = refl
    plain_rows positional word h = refl

    flag_rows : (waiting : Waiting) (word : Text) (h : Held) (x : Outcome) → h.rows ≡ (after_flag c waiting word h x).0.rows
    flag_rows waiting word h done = refl
    flag_rows waiting word h (waits id) = refl
    flag_rows waiting word h plain = plain_rows waiting word h
    flag_rows waiting word h refused = plain_rows waiting word h

    flag_word_keeps : (waiting : Waiting) (o : Option (Text × Option Text)) (word : Text) (h : Held) → flag_word_passes c again o word h ≡ true → Holds h
        → Holds (long_or_other c waiting word o h).0
    flag_word_keeps waiting (Some p) word h e good =
        let met = long_met c (arg_by_long c p.0) p.1 h in
        subst (AllByRecursion IsGood) (flag_rows waiting word met.0 met.1) (long_keeps (arg_by_long c p.0) (λ a found. found_has TakesOne _ c a ones found) p.1 h e good)
    flag_word_keeps waiting None word h e good = go (short_of word) e
      where
        go : (o : Option Text) → option_map_or (λ flags. flags_pass c again (length flags) flags h.skip (record h { skip = 0 })) o true ≡ true → Holds (short_or_plain c waiting word o h).0
        go (Some flags) e =
            let met = bundle_met c (length flags) flags h.skip plain (record h { skip = 0 }) in
            subst (AllByRecursion IsGood) (flag_rows waiting word met.0 met.1) (bundle_keeps (length flags) flags h.skip plain (record h { skip = 0 }) e good)
        go None e = subst (AllByRecursion IsGood) (plain_rows waiting word h) good

module _ (s : Shape) (ones : AllByRecursion (TakesOne s.rules) s.rules) (names : Names) where
  other_keeps : (o : Option Text) (waiting : Waiting) (position : ℕ) (word : Text) (h : Held) → other_passes s o word h ≡ true → Holds s.rules h
      → Holds s.rules (subcommand_or_other s.rules o waiting position word h).0
  other_keeps (Some name) waiting position word h e good = good
  other_keeps None waiting position word h e good = go (bytes_eq word (45 ∷ 45 ∷ [])) e
    where
      go : (dashes : Bool) → (dashes || flag_word_passes s.rules s.args_override_self (long_of word) word h) ≡ true
          → Holds s.rules (cond dashes (h, trailing position) (long_or_other s.rules waiting word (long_of word) h)).0
      go true e = good
      go false e = flag_word_keeps s.rules ones s.args_override_self waiting (long_of word) word h e good

  word_keeps : (is_trailing : Bool) (waiting : Waiting) (position : ℕ) (word : Text) (h : Held) → word_passes s names is_trailing waiting word h ≡ true → Holds s.rules h
      → Holds s.rules (word_met s.rules names is_trailing waiting position word h).0
  word_keeps true waiting position word h e good = good
  word_keeps false waiting position word h e good = other_keeps (subcommand_met names waiting word) waiting position word h e good

  step_keeps : (word : Text) (w : Walk) (h : Held) (step : Step) → step_passes s w.position h step ≡ true → Holds s.rules h → Holds s.rules (after_step s.rules word w h step).held
  step_keeps word w h (next waiting) e good = good
  step_keeps word w h (trailing position) e good = good
  step_keeps word w h (subcommand name) e good = good
  step_keeps word w h value e good = go (arg_by_index s.rules w.position) e
    where
      kept : (a : Rule) (b : Bool) → (b || settle_passes s.rules s.args_override_self h) ≡ true → AllByRecursion (IsGood s.rules) (pushed a.id word (cond b h (settled s.rules h))).rows
      kept a true e = good
      kept a false e = settle_keeps s.rules ones s.args_override_self h e good

      go : (o : Option Rule) → option_map_or (λ a. positional_passes s.rules s.args_override_self a h) o false ≡ true → Holds s.rules (to_positional s.rules o word w h).held
      go None e = good
      go (Some a) e = kept a (is_pending a h.pending && takes_several a) e

  turn_keeps : (w : Walk) (word : Text) → turn_passes s names w word ≡ true → Holds s.rules w.held → Holds s.rules (walked s.rules names w word).held
  unfolding walked
  turn_keeps w word e good = go w.stopped e
    where
      go : (o : Option (Text × List Text)) → (is_some o || (word_passes s names w.is_trailing w.waiting word w.held
          && step_passes s w.position (word_met s.rules names w.is_trailing w.waiting w.position word w.held).0 (word_met s.rules names w.is_trailing w.waiting w.position word w.held).1)) ≡ true
          → Holds s.rules (walked_from s.rules names o w word).held
      go (Some p) e = good
      go None e =
          let parts = and_parts (word_passes s names w.is_trailing w.waiting word w.held) _ e in
          step_keeps word w (word_met s.rules names w.is_trailing w.waiting w.position word w.held).0 (word_met s.rules names w.is_trailing w.waiting w.position word w.held).1 parts.1
          (word_keeps w.is_trailing w.waiting w.position word w.held parts.0 good)

  walk_keeps : (words : List Text) (w : Walk) → walk_passes s names w words ≡ true → Holds s.rules w.held → Holds s.rules (fold (walked s.rules names) w words).held
  unfolding walk_passes
  walk_keeps [] w e good = good
  walk_keeps (word ∷ rest) w e good =
      let parts = and_parts (turn_passes s names w word) _ e in
      walk_keeps rest (walked s.rules names w word) parts.1 (turn_keeps w word parts.0 good)

  -- the rows that a level leaves
  pub level_keeps : (words : List Text) (has : Bool) → level_passes s names nothing_held words has ≡ true → AllByRecursion (IsGood s.rules) (rows_after s.rules names words)
  level_keeps words has e =
      let end = (walk s.rules names nothing_held words).held in
      let parts = and_parts (walk_passes s names (walk_from nothing_held) words) _ e in
      let settle = and_parts (settle_passes s.rules s.args_override_self end) _ parts.1 in
      defaults_keep s.rules s.rules (settled s.rules end).rows ones
      (settle_keeps s.rules ones s.args_override_self end settle.0 (walk_keeps words (walk_from nothing_held) parts.0 tt))

-- ---- entries that are there

stays : (id other : Text) (source : ValueSource) (vs : List Text) (missing rows : List Row) → has_row id rows ≡ true → has_row id (at_row other (more_values source vs) missing rows) ≡ true
stays id other source vs missing [] has = absurd (true≢false (sym has))
stays id other source vs missing (r ∷ rs) has = go (bytes_eq r.id other) (stays id other source vs missing rs)
  where
    later : (own : Bool) → (own || has_row id rs) ≡ true → (has_row id rs ≡ true → has_row id (at_row other (more_values source vs) missing rs) ≡ true)
        → (own || has_row id (at_row other (more_values source vs) missing rs)) ≡ true
    later true e keeps = refl
    later false e keeps = keeps e

    go : (b : Bool) → (has_row id rs ≡ true → has_row id (at_row other (more_values source vs) missing rs) ≡ true)
        → has_row id (cond b (more_values source vs r ++ rs) (r ∷ at_row other (more_values source vs) missing rs)) ≡ true
    go true keeps = has
    go false keeps = later (bytes_eq r.id id) has keeps

-- an entry that is there stays, where an argument gets its default
pub default_stays : (id : Text) (rows : List Row) (a : Rule) → has_row id rows ≡ true → has_row id (with_default rows a) ≡ true
default_stays id rows a has = go (has_row a.id rows)
  where
    values : (vs : List Text) → has_row id (default_rows a.id (reading_by a) vs rows) ≡ true
    values [] = has
    values (v ∷ vs) = stays id a.id DefaultValue (v ∷ vs) _ rows has

    go : (b : Bool) → has_row id (cond b rows (default_rows a.id (reading_by a) a.defaults rows)) ≡ true
    go true = has
    go false = values a.defaults

same_text : (id : Text) → bytes_eq id id ≡ true
same_text id = (bytes_eq-Decides id id).1 refl

added : (id : Text) (how : Reading) (source : ValueSource) (vs : List Text) (rows : List Row) → has_row id (with_values id how source vs rows) ≡ true
added id how source vs [] = rw (same_text id) refl
added id how source vs (r ∷ rs) = go (bytes_eq r.id id) refl (added id how source vs rs)
  where
    or_true : (b : Bool) → (b || true) ≡ true
    or_true true = refl
    or_true false = refl

    go : (b : Bool) → bytes_eq r.id id ≡ b → has_row id (with_values id how source vs rs) ≡ true
        → has_row id (cond b (more_values source vs r ++ rs) (r ∷ with_values id how source vs rs)) ≡ true
    go true e later = rw e refl
    go false e later = ap (λ b. bytes_eq r.id id || b) later ∙ or_true (bytes_eq r.id id)

-- an argument with a default has an entry
pub default_there : (rows : List Row) (a : Rule) (v : Text) (vs : List Text) → a.defaults ≡ v ∷ vs → has_row a.id (with_default rows a) ≡ true
default_there rows a v vs is = go (has_row a.id rows) refl
  where
    go : (b : Bool) → has_row a.id rows ≡ b → has_row a.id (cond b rows (default_rows a.id (reading_by a) a.defaults rows)) ≡ true
    go true e = e
    go false e = ap (λ ds. has_row a.id (default_rows a.id (reading_by a) ds rows)) is ∙ added a.id (reading_by a) DefaultValue (v ∷ vs) rows

-- where no entry is there, there is no value of one
pub no_entry : (id : Text) (rows : List Row) → has_row id rows ≡ false → one_of id rows ≡ None
no_entry id [] has = refl
no_entry id (r ∷ rs) has = go (bytes_eq r.id id) has (no_entry id rs)
  where
    go : (b : Bool) → (b || has_row id rs) ≡ false → (has_row id rs ≡ false → one_of id rs ≡ None)
        → option_and_then (λ (x : Row). option_map (read_as x.reading) (slice_get x.values 0)) (cond b (Some r) (find (λ x. bytes_eq x.id id) rs)) ≡ None
    go true has later = absurd (true≢false has)
    go false has later = later has

-- the first value of a list that passes
first_passes : (a : Rule) (vs : List Text) → values_pass a vs ≡ true → 0 < length vs → (v : Text) × (value_passes a v ≡ true) × (slice_get vs 0 ≡ Some v)
first_passes a [] e lt = absurd (omega arith)
first_passes a (v ∷ vs) e lt = (v, (and_parts _ _ e).0, refl)

-- what an entry that is there has: a value that passes
pub entry_passes : (c : List Rule) (id : Text) (a : Rule) → arg_by_id c id ≡ Some a → (rows : List Row) → AllByRecursion (IsGood c) rows → has_row id rows ≡ true
    → (v : Text) × (value_passes a v ≡ true) × (one_of id rows ≡ Some (read_as (reading_by a) v))
entry_passes c id a known [] good has = absurd (true≢false (sym has))
entry_passes c id a known (r ∷ rs) good has = go (bytes_eq r.id id) refl has (entry_passes c id a known rs good.1)
  where
    read : (v : Text) × (value_passes a v ≡ true) × (slice_get r.values 0 ≡ Some v) → r.reading ≡ reading_by a
        → (v : Text) × (value_passes a v ≡ true) × (option_map (read_as r.reading) (slice_get r.values 0) ≡ Some (read_as (reading_by a) v))
    read f how = (f.0, f.1, ap (option_map (read_as r.reading)) f.2 ∙ ap (λ x. Some (read_as x f.0)) how)

    here : r.id ≡ id → (v : Text) × (value_passes a v ≡ true) × (option_map (read_as r.reading) (slice_get r.values 0) ≡ Some (read_as (reading_by a) v))
    here same =
        let g = good.0 a (ap (arg_by_id c) same ∙ known) in
        read (first_passes a r.values g.0 g.1) g.2

    go : (b : Bool) → bytes_eq r.id id ≡ b → (b || has_row id rs) ≡ true
        → (has_row id rs ≡ true → (v : Text) × (value_passes a v ≡ true) × (one_of id rs ≡ Some (read_as (reading_by a) v)))
        → (v : Text) × (value_passes a v ≡ true) × (option_and_then (λ (x : Row). option_map (read_as x.reading) (slice_get x.values 0)) (cond b (Some r) (find (λ x. bytes_eq x.id id) rs)) ≡ Some (read_as (reading_by a) v))
    go true e h later = here ((bytes_eq-Decides r.id id).0 e)
    go false e h later = later h
