-- A walk that has gone along some lines.
use Rattle.std.proofs.Math.Logic.{∥∥₁_elim, ∥∥₁_map}
use Rattle.std.proofs.Math.Bridge.{le_prop}
use Rattle.std.specs.Prelude.{MatchOption}
use Rattle.std.proofs.Common.{◌≡◌, ◌≢◌, ℕ, ◌+◌, ◌<◌, ◌≤◌, List, [], ◌∷◌, ◌++◌, length, Option, Some, None, Ok, Err, refl, sym, ap, ◌∙◌, subst, arith, length-append, inl, inr}
use Rattle.std.proofs.lemmas.List.{append-nil}
use Rattle.std.specs.declared.snapshot.Snapshot.{Snapshot}
use Rattle.hs_rules.specs.declared.entry.Entry.{Entry}
use Rattle.hs_rules.specs.Histories.{cost_of, steps_of}
use Rattle.hs_rules.proofs.Histories.{steps_of_last}
use Rattle.hs_rules.specs.Runs.{IsRun}
use Rattle.hs_rules.specs.State.{State}
use Rattle.rules_code.specs.declared.code.CodeBody.{CodeBody}
use Rattle.rules_meaning.specs.CoreMeaning.{code_of}
use Rattle.rules_expansion.specs.trees.Programs.{Fn, script_of}
use Rattle.trace_text.specs.spelling.Traces.{Fits, line_of, trace_of, BeginsNoLine, Reads, Spells, HasNoHeader}
use Rattle.trace_text.proofs.EntryLines.{line_parts}
use Rattle.trace_text.proofs.Readings.{reads_on}
use Rattle.trace_checker.specs.declared.player.player.Player.{Player}
use Rattle.trace_checker.specs.declared.player.player.Reached.{Reached}
use Rattle.trace_checker.specs.player.Playing.{script, Played, CanFollow, ReachedAs}
use Rattle.trace_checker.proofs.player_lemmas.Runs.{played_runs}
use Rattle.trace_checker.specs.declared.verdict.RunFault.TheVariants as fault
use Rattle.trace_checker.specs.declared.walk.Walk.{Walk}
use Rattle.trace_checker.specs.Checking.{most_steps, Runs, Judges}
use Rattle.trace_checker.specs.Walking.{Stands, WalkedTo, HasRead}
use Rattle.trace_checker.proofs.Parts.{last_leads, costs_some, last_spelled}

-- ---- the entry costs a step where it is played

plays_some : (q : Player) (es : List Entry) (e : Entry) → Played (es ++ e ∷ []) q → 1 ≤ cost_of e
plays_some q es e played =
    ∥∥₁_elim (played_runs q (es ++ e ∷ []) played) (hlevel le_prop) (λ k. let l = last_leads (script q) es e k.0 k.1 in costs_some (code_of (script q)) l.before e k.0 l.leads.0)

pub costs_one : (p q : Player) (e : Entry) → ((es : List Entry) → Played es p → Played (es ++ e ∷ []) q) → 1 ≤ cost_of e
costs_one p q e plays = ∥∥₁_elim p.live (hlevel le_prop) (λ k. plays_some q k.0 e (plays k.0 ∣ k.1 ∣₁))

-- ---- an entry's line is passed

line_some : (e : Entry) → 1 ≤ length (line_of e)
line_some e = let k = ap length (sym (append-nil (line_of e)) ∙ line_parts e []) in omega (arith, k)

-- a text that was read further has fewer bytes left
pub fewer_bytes : (text rest after : List ℕ) (es : List Entry) (e : Entry) → Reads text es rest → Reads text (es ++ e ∷ []) after → length after < length rest
fewer_bytes text rest after es e old new =
    let same = ap length (sym old.spelled ∙ new.spelled ∙ last_spelled es e after) in
    let first = length-append (trace_of es) rest in
    let then_ = length-append (trace_of es) (line_of e ++ after) in
    let last = length-append (line_of e) after in
    let some = line_some e in
    omega (arith, same, first, then_, last, some)

-- ---- what was read

-- an entry behind these, or none
abbrev pub ReadBehind : CodeBody → List ℕ → List Entry → Walk → Option Entry → Type 0
ReadBehind b text es w o = MatchOption o (Spells text es × WalkedTo b text es w) (λ e. HasRead b text es e w)

pub some_read : (b : CodeBody) (text : List ℕ) (es : List Entry) (w : Walk) (o : Option Entry) (e : Entry) → o ≡ Some e → ReadBehind b text es w o → HasRead b text es e w
some_read b text es w o e is read = subst (ReadBehind b text es w) is read

pub none_read : (b : CodeBody) (text : List ℕ) (es : List Entry) (w : Walk) (o : Option Entry) → ((e : Entry) → o ≡ Some e → ⊥) → ReadBehind b text es w o → Spells text es × WalkedTo b text es w
none_read b text es w None never read = read
none_read b text es w (Some e) never read = absurd (never e refl)

-- ---- where a walk stands

module _ (b : CodeBody) (text : List ℕ) where
  abbrev ds : List Fn
  ds = script_of b.of.value

  pub no_header : HasNoHeader text → Judges ds text (Err (fault.Spelling 1))
  no_header none = ∣ inl (none, omega arith) ∣₁

  module _ (es : List Entry) (w : Walk) where
    -- what it has played is a run
    runs : (read : List Entry) → Stands b text es read w → ∥ Runs ds es ∥₁
    runs read h =
        let steps = h.steps in
        let within = w.within in
        ∥∥₁_map (played_runs w.player es h.played) (λ k. (k.0, record { run = subst (λ (z : CodeBody). IsRun (script_of z.of.value) es k.0) h.of k.1; within = omega (arith, steps, within) }))

    line : (read : List Entry) → Stands b text es read w → w.entries + 2 ≡ length es + 2
    line read h = let entries = h.entries in omega (arith, entries)

    abbrev pub Reaches : Reached → Type 0
    Reaches r = (fs : List Entry) (s : State) → Played fs w.player → IsRun (script w.player) fs s → ReachedAs r (code_of (script w.player)) s

    pub verified : (r : Reached) → WalkedTo b text es w → Spells text es → Reaches r → Judges ds text (Ok (record { entries = w.entries; steps = w.steps; end = r }))
    verified r h spells reaches =
        ∥∥₁_map (played_runs w.player es h.played) (λ k. record {
          list = es;
          state = k.0;
          spelled = spells;
          runs = record {
            run = subst (λ (z : CodeBody). IsRun (script_of z.of.value) es k.0) h.of k.1;
            within = let steps = h.steps in let within = w.within in omega (arith, steps, within);
          };
          entries = h.entries;
          steps = h.steps;
          end = subst (λ (z : CodeBody). ReachedAs r (code_of (script_of z.of.value)) k.0) h.of (reaches es k.0 h.played k.1);
        })

    pub misspelled : WalkedTo b text es w → w.lines.rest ≢ [] → BeginsNoLine w.lines.rest → Judges ds text (Err (fault.Spelling (w.entries + 2)))
    misspelled h more wrong = ∥∥₁_map (runs es h) (λ k. inr (es, w.lines.rest, record { read = h.read; more = more; wrong = wrong }, k, line es h))

    -- behind an entry that was read
    module _ (e : Entry) (h : HasRead b text es e w) where
      abbrev read : List Entry
      read = es ++ e ∷ []

      more_steps : steps_of (es ++ e ∷ []) ≡ w.steps + cost_of e
      more_steps = let last = steps_of_last es e in let steps = h.steps in omega (arith, last, steps)

      pub long : most_steps < w.steps + cost_of e → Judges ds text (Err (fault.Long (w.entries + 2)))
      long over =
          ∥∥₁_map (runs read h) (λ k. (
            es,
            e,
            record { rest = w.lines.rest; read = h.read; runs = k; line = line read h },
            let m = more_steps in omega (arith, m, over),
          ))

      -- no run goes on by an entry that can't follow
      stuck : (CanFollow es e w.player → ⊥) → (u : State) → IsRun ds (es ++ e ∷ []) u → ⊥
      stuck never u run =
          let l = last_leads (script w.player) es e u (subst (λ (z : CodeBody). IsRun (script_of z.of.value) (es ++ e ∷ []) u) (sym h.of) run) in
          never (l.before, l.run, (u, l.leads))

      pub illegal : w.steps + cost_of e ≤ most_steps → (CanFollow es e w.player → ⊥) → Judges ds text (Err (fault.Illegal (w.entries + 2)))
      illegal within never =
          ∥∥₁_map (runs read h) (λ k. (
            es,
            e,
            record { rest = w.lines.rest; read = h.read; runs = k; line = line read h },
            (let m = more_steps in omega (arith, m, within)),
            stuck never,
          ))

      pub gone_on : (q : Walk) → q.lines.rest ≡ w.lines.rest → Played (es ++ e ∷ []) q.player → q.player.of ≡ w.player.of
          → q.entries ≡ w.entries + 1 → q.steps ≡ w.steps + cost_of e → WalkedTo b text (es ++ e ∷ []) q
      gone_on q rest played same entries steps =
          let many = length-append es (e ∷ []) in
          let old = h.entries in
          let m = more_steps in
          record {
            read = subst (λ z. Reads text (es ++ e ∷ []) z) (sym rest) h.read;
            played = played;
            of = ap (λ (z : Snapshot CodeBody). z.value) same ∙ h.of;
            entries = omega (arith, many, old, entries);
            steps = omega (arith, m, steps);
          }

    -- a line more was read
    pub read_further : (e : Entry) (after : List ℕ) → WalkedTo b text es w → Fits e → w.lines.rest ≡ line_of e ++ after → Reads text (es ++ e ∷ []) after
    read_further e after h fits spelled = reads_on text es e after (subst (Reads text es) spelled h.read) fits
