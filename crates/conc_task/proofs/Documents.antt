-- Documents: the script that is in one, and what reading one comes to.
use Rattle.std.proofs.Common.{◌≡◌, ◌≤◌, ◌<◌, ◌+◌, ◌-◌, ◌⊎◌, ◌==◌, ℕ, zero, suc, List, [], length, take, drop, Bool, true, false, refl, sym, ap, subst, ◌∙◌, arith, inl, inr}
use Rattle.std.specs.Prelude.{Option, Some, Result, Ok, Err, MatchResult, slice_index}
use Rattle.std.specs.Io.KnownBytes.{Consumes}
use Rattle.std.specs.Str.{bytes_eq}
use Rattle.std.proofs.lemmas.Bool.{cases_lt}
use Rattle.std.proofs.lemmas.Bool.Decides.{Decides-eqb}
use Rattle.std.proofs.lemmas.List.{length-take, length-drop}
use Rattle.std.proofs.lemmas.Slice.Eq.{bytes_eq-Decides}
use Rattle.std.proofs.Math.Seq.{take-length}
use Rattle.rules_code.specs.Codes.{body_of}
use Rattle.trace_text.specs.spelling.Traces.{IsScriptLine, script_line}
use Rattle.conc_task.specs.declared.words.command.Command.TheVariants.{Ask}
use Rattle.conc_task.specs.declared.words.command.Question.{Question}
use Rattle.hs_compile.specs.declared.refusal.Refusal.{Refusal}
use Rattle.hs_compile.specs.declared.refusal.Refusal.TheVariants.{TooLong}
use Rattle.hs_compile.specs.Verdicts.{IsAccepted, IsRefused}
use Rattle.conc_task.specs.declared.stop.Stop.{Stop}
use Rattle.conc_task.specs.declared.stop.Stop.TheVariants.{Words, Refused, Read, NoScript, Memory}
use Rattle.conc_task.specs.declared.task.Replay.{Replay}
use Rattle.conc_task.specs.Documents.{document_limit, HasNoScript, IsFirstScriptLine, IsParted, IsScriptOf}
use Rattle.conc_task.specs.Inputs.{IsWhole}
use Rattle.conc_task.specs.Stops.{HasNone, IsDenied, IsNoReplay, IsUnread}
use Rattle.conc_task.specs.Tasks.{HasReplay, IsReplay}
use Rattle.conc_task.proofs.Reading.{any_left, cut_through, end_through, few_of, known_left, long_left}

-- ---- the line `script`

length_of_line : length script_line ≡ 7
unfolding script_line
length_of_line = refl

-- it ends within the document
pub line_within : (document : List ℕ) (at : ℕ) → IsScriptLine document at → at + 7 ≤ length document
line_within document at is =
    let seven : length (take 7 (drop at document)) ≡ 7 = ap (λ z. length z) is.line ∙ length_of_line in
    omega (arith, seven, length-take 7 (drop at document), length-drop at document)

both_or_not : {A B : Type 0} → A ⊎ (A → ⊥) → B ⊎ (B → ⊥) → (A × B) ⊎ (A × B → ⊥)
both_or_not (inl a) (inl b) = inl (a, b)
both_or_not (inl a) (inr not_b) = inr (λ both. not_b both.1)
both_or_not (inr not_a) b = inr (λ both. not_a both.0)

either_or_not : {A B : Type 0} → A ⊎ (A → ⊥) → B ⊎ (B → ⊥) → (A ⊎ B) ⊎ (A ⊎ B → ⊥)
either_or_not (inl a) b = inl (inl a)
either_or_not (inr not_a) (inl b) = inl (inr b)
either_or_not (inr not_a) (inr not_b) = inr (λ one. elim one [ inl a ↦ not_a a | inr b ↦ not_b b ])

same_number : (a b : ℕ) → (a ≡ b) ⊎ (a ≡ b → ⊥)
same_number a b = go (a == b) refl
  where
    go : (t : Bool) → (a == b) ≡ t → (a ≡ b) ⊎ (a ≡ b → ⊥)
    go true e = inl ((Decides-eqb a b).0 e)
    go false e = inr (λ same. let yes : (a == b) ≡ true = (Decides-eqb a b).1 same in cc)

same_bytes : (xs ys : List ℕ) → (xs ≡ ys) ⊎ (xs ≡ ys → ⊥)
same_bytes xs ys = go (bytes_eq xs ys) refl
  where
    go : (t : Bool) → bytes_eq xs ys ≡ t → (xs ≡ ys) ⊎ (xs ≡ ys → ⊥)
    go true e = inl ((bytes_eq-Decides xs ys).0 e)
    go false e = inr (λ same. let yes : bytes_eq xs ys ≡ true = (bytes_eq-Decides xs ys).1 same in cc)

-- whether a line that is exactly `script` begins at a place can be looked up
line_or_not : (document : List ℕ) (at : ℕ) → IsScriptLine document at ⊎ (IsScriptLine document at → ⊥)
line_or_not document at =
    elim (both_or_not (either_or_not (same_number at 0) (same_number (slice_index document (at - 1)) 10)) (same_bytes (take 7 (drop at document)) script_line)) [
      | inl both ↦ inl (record { begins = both.0; line = both.1 })
      | inr not ↦ inr (λ is. not (is.begins, is.line))
    ]

abbrev First : List ℕ → Type 0
First document = (at : ℕ) × IsFirstScriptLine document at

-- the first one below a place, if there is one
searched : (document : List ℕ) (n : ℕ) → First document ⊎ ((at : ℕ) → at < n → IsScriptLine document at → ⊥)
searched document zero = inr (λ at below is. absurd (omega arith))
searched document (suc n) = go (searched document n) (line_or_not document n)
  where
    go : First document ⊎ ((at : ℕ) → at < n → IsScriptLine document at → ⊥) → IsScriptLine document n ⊎ (IsScriptLine document n → ⊥)
        → First document ⊎ ((at : ℕ) → at < suc n → IsScriptLine document at → ⊥)
    go (inl found) here = inl found
    go (inr none) (inl line) = inl (
      n,
      record {
        line = line;
        first = λ other is. elim (cases_lt other n) [ inl less ↦ absurd (none other less is) | inr le ↦ le ];
      },
    )
    go (inr none) (inr not) = inr (λ at below is. elim (cases_lt at n) [
      | inl less ↦ none at less is
      | inr le ↦ let same : at ≡ n = omega arith in not (subst (IsScriptLine document) same is)
    ])

pub script_of : (document : List ℕ) → (script : List ℕ) × IsScriptOf document script
script_of document = go (searched document (length document))
  where
    go : First document ⊎ ((at : ℕ) → at < length document → IsScriptLine document at → ⊥) → (script : List ℕ) × IsScriptOf document script
    go (inl found) = (drop (found.0 + 7) document, inl (take found.0 document, record { at = found.0; line = found.1; before = refl; behind = refl }))
    go (inr none) = ([], inr ((λ at is. none at (omega (arith, line_within document at is)) is), refl))

-- ---- what the source had

module _ (question : Question) (fault : Type 0) (before now : Option (List ℕ)) where
  pub document_unread : (e : Stop) → IsUnread document_limit fault before now e → HasNone (Some (Ask question)) fault before now e
  document_unread Read why =
      let (document, left) = any_left before in
      let (bytes, is) = script_of document in
      record { bytes = bytes; input = (document, left, is); stopped = (tt, why.0); through = λ reads. why.1 }
  document_unread Memory why =
      let (document, left) = any_left before in
      let (bytes, is) = script_of document in
      record { bytes = bytes; input = (document, left, is); stopped = tt; through = λ reads. why }
  document_unread (Refused r) why = absurd why
  document_unread Words why = absurd why
  document_unread NoScript why = absurd why

  pub document_had : (taken : List ℕ) (replay : Replay) → Consumes before now taken → IsWhole document_limit taken now → IsReplay taken replay → HasReplay (Some (Ask question)) before now question replay
  document_had taken replay consumed (inl all) is = record {
    asks = refl;
    bytes = is.bytes;
    document = record { document = taken; left = known_left before now taken consumed all.1; short = is.short; parted = is.parted };
    accepted = is.accepted;
    through = end_through document_limit before now taken all.0 consumed all.1;
  }
  document_had taken replay consumed (inr long) is = absurd (omega (arith, is.short, long))

  script_refused : (taken : List ℕ) (r : Refusal) (trace bytes : List ℕ) → Consumes before now taken → IsWhole document_limit taken now → length taken ≤ document_limit → IsParted taken trace bytes → IsRefused r bytes
      → HasNone (Some (Ask question)) fault before now (Refused r)
  script_refused taken r trace bytes consumed (inl all) short parted why =
      let left = known_left before now taken consumed all.1 in
      record {
        bytes = bytes;
        input = (taken, left, inl (trace, parted));
        stopped = (refl, inl (trace, record { document = taken; left = left; short = short; parted = parted }, why));
        through = λ reads. end_through document_limit before now taken all.0 consumed all.1;
      }
  script_refused taken r trace bytes consumed (inr long) short parted why = absurd (omega (arith, short, long))

  document_long : (taken : List ℕ) (r : Refusal) → Consumes before now taken → IsWhole document_limit taken now → r ≡ TooLong → document_limit < length taken → HasNone (Some (Ask question)) fault before now (Refused r)
  document_long taken r consumed (inl all) is long = absurd (omega (arith, all.0, long))
  document_long taken r consumed (inr cut) is long =
      let found = long_left document_limit before now taken cut consumed in
      let (bytes, script) = script_of found.0 in
      record {
        bytes = bytes;
        input = (found.0, found.1, script);
        stopped = (refl, inr (is, record { document = found.0; left = found.1; long = found.2 }));
        through = λ reads. cut_through document_limit before now taken cut consumed;
      }

  document_bare : (taken : List ℕ) → Consumes before now taken → IsWhole document_limit taken now → length taken ≤ document_limit → HasNoScript taken → HasNone (Some (Ask question)) fault before now NoScript
  document_bare taken consumed (inl all) short none =
      let left = known_left before now taken consumed all.1 in
      record {
        bytes = [];
        input = (taken, left, inr (none, refl));
        stopped = ((question, refl), record { document = taken; left = left; short = short; none = none });
        through = λ reads. end_through document_limit before now taken all.0 consumed all.1;
      }
  document_bare taken consumed (inr long) short none = absurd (omega (arith, short, long))

  pub document_none : (taken : List ℕ) (e : Stop) → Consumes before now taken → IsWhole document_limit taken now → IsNoReplay taken e → HasNone (Some (Ask question)) fault before now e
  document_none taken (Refused r) consumed read (inl why) = script_refused taken r why.1 why.2 consumed read why.0 why.3 why.4
  document_none taken (Refused r) consumed read (inr why) = document_long taken r consumed read why.0 why.1
  document_none taken NoScript consumed read why = document_bare taken consumed read why.0 why.1
  document_none taken Memory consumed read why = document_unread Memory (few_of document_limit before now taken consumed read)
  document_none taken Words consumed read why = absurd why
  document_none taken Read consumed read why = absurd why

  -- what is made of the document that was read
  pub replay_had : (answer : Result Replay Stop) (taken : List ℕ) → Consumes before now taken → IsWhole document_limit taken now → MatchResult answer (IsReplay taken) (IsNoReplay taken)
      → MatchResult answer (HasReplay (Some (Ask question)) before now question) (HasNone (Some (Ask question)) fault before now)
  replay_had (Ok replay) taken consumed read is = document_had taken replay consumed read is
  replay_had (Err e) taken consumed read why = document_none taken e consumed read why

-- its script is refused, or there was no memory to see
replay_denied : (document trace bytes : List ℕ) (e : Stop) → length document ≤ document_limit → IsParted document trace bytes → IsDenied bytes e → IsNoReplay document e
replay_denied document trace bytes (Refused r) short parted why = inl (short, trace, bytes, parted, why)
replay_denied document trace bytes Memory short parted why = tt
replay_denied document trace bytes Words short parted why = absurd why
replay_denied document trace bytes Read short parted why = absurd why
replay_denied document trace bytes NoScript short parted why = absurd why

parted_at : (document : List ℕ) (at : ℕ) → IsScriptLine document at → ((other : ℕ) → IsScriptLine document other → at ≤ other) → IsParted document (take at document) (drop (at + 7) document)
parted_at document at line first = record { at = at; line = record { line = line; first = first }; before = refl; behind = refl }

-- what is behind the line, as it is cut out of the document
cut_behind : (document lent : List ℕ) (at script : ℕ) → lent ≡ document → script ≡ at + 7 → take (length lent - script) (drop script lent) ≡ drop (at + 7) document
cut_behind document lent at script same is =
    ap (λ k. take k (drop script lent)) (sym (length-drop script lent)) ∙ take-length (drop script lent) ∙ ap (λ n. drop n lent) is ∙ ap (drop (at + 7)) same

module _ (document searched_in lent : List ℕ) (at script : ℕ) (searched_same : searched_in ≡ document) (same : lent ≡ document) (line : IsScriptLine searched_in at)
    (first : (other : ℕ) → IsScriptLine searched_in other → at ≤ other) (is : script ≡ at + 7) (short : length document ≤ document_limit) where
  parted : IsParted document (take at document) (drop (at + 7) document)
  parted = subst (λ d. IsParted d (take at d) (drop (at + 7) d)) searched_same (parted_at searched_in at line first)

  pub cut_denied : (e : Stop) → IsDenied (take (length lent - script) (drop script lent)) e → IsNoReplay document e
  cut_denied e why = replay_denied document (take at document) (drop (at + 7) document) e short parted (subst (λ b. IsDenied b e) (cut_behind document lent at script same is) why)

  pub cut_replay : (replay : Replay) → replay.trace.items ≡ take at document → IsAccepted (take (length lent - script) (drop script lent)) (body_of replay.code).of.value → IsReplay document replay
  cut_replay replay cut accepted = record {
    short = short;
    bytes = drop (at + 7) document;
    parted = subst (λ t. IsParted document t (drop (at + 7) document)) (sym cut) parted;
    accepted = subst (λ b. IsAccepted b (body_of replay.code).of.value) (cut_behind document lent at script same is) accepted;
  }
