-- The film beside a walk that has gone along some lines.
use Rattle.std.proofs.Math.Logic.{∥∥₁_elim, ∥∥₁_prop, ∥∥₁_map}
use Rattle.std.proofs.Common.{◌≡◌, ℕ, ◌≤◌, ◌<◌, List, [], ◌∷◌, ◌++◌, Bool, Option, Ok, length, refl, sym, ap, ◌∙◌, subst, arith, vec_items}
use Rattle.hs_rules.specs.declared.entry.Entry.{Entry}
use Rattle.hs_rules.specs.Entries.{Leads}
use Rattle.hs_rules.specs.Runs.{IsRun}
use Rattle.hs_rules.specs.State.{State}
use Rattle.hs_laws.proofs.RunParts.{is_after, same_after}
use Rattle.hs_laws.proofs.Expanded.{standing_of}
use Rattle.rules_code.specs.declared.code.CodeBody.{CodeBody}
use Rattle.rules_meaning.specs.CoreMeaning.{code_of}
use Rattle.rules_expansion.specs.trees.Programs.{Fn, script_of}
use Rattle.trace_text.specs.spelling.Traces.{Spells}
use Rattle.slot_states.specs.SlotStates.{Represents}
use Rattle.thread_table.proofs.Table.{slots_count}
use Rattle.world_entries.proofs.CellsOf.{cells_count}
use Rattle.world_entries.specs.declared.world.World.{World}
use Rattle.world_entries.specs.Worlds.{Live, state_of}
use Rattle.trace_text.proofs.Readings.{one_spelling}
use Rattle.trace_checker.specs.declared.verdict.Verified.{Verified}
use Rattle.trace_checker.specs.declared.walk.Walk.{Walk}
use Rattle.trace_checker.specs.Checking.{Judges}
use Rattle.trace_checker.specs.Walking.{Stands, WalkedTo, HasRead}
use Rattle.trace_checker.proofs.Parts.{last_leads}
use Rattle.lane_picture.specs.declared.film.Event.{Event}
use Rattle.lane_picture.specs.declared.film.Event.TheVariants as event
use Rattle.lane_picture.specs.declared.film.Pose.{Pose}
use Rattle.lane_picture.specs.declared.film.Frame.{Frame}
use Rattle.lane_picture.specs.Drawing.{picture}
use Rattle.trace_picture.specs.film.Filming.{poses_of, fulls_of, event_of, frame_with, frame_of, film_of}
use Rattle.trace_picture.proofs.film_lemmas.Films.{film_first, film_more}
use Rattle.trace_picture.specs.declared.filming.Shot.{Shot}
use Rattle.trace_picture.specs.declared.fault.PictureFault.TheVariants as fault
use Rattle.trace_picture.specs.Looking.{poses_at, fulls_at, event_at, frame_at}
use Rattle.trace_picture.specs.Picturing.{most_entries, ending_of, Pictures, Refuses}
use Rattle.trace_picture.specs.Shooting.{Shoots}
use Rattle.trace_picture.proofs.Shown.{poses_shown, fulls_shown, event_shown}

framed : (e f : Event) (ps qs : List (Option Pose)) (cs ds : List Bool) → e ≡ f → ps ≡ qs → cs ≡ ds → ◌≡◌ {A = Frame} (record { event = e; poses = ps; cells = cs }) (record { event = f; poses = qs; cells = ds })
framed e f ps qs cs ds p q r = λ i. record { event = p i; poses = q i; cells = r i }

module _ (ds : List Fn) (b : CodeBody) (w : World) (es : List Entry) (s : State) (run : IsRun ds es s) (r : Represents ds (state_of b w) s) where
  -- a frame of a world is one of the state that it stands for
  frame_shown : (e f : Event) → e ≡ f → frame_at e w ≡ frame_with f s
  frame_shown e f same =
      framed e f (poses_at w 0 w.threads.list.items) (poses_of s) (fulls_at w.cells.cells) (fulls_of s.cells) same
      (poses_shown ds b w s r (standing_of ds es s run)) (fulls_shown ds b w s r)

-- the walk stands behind some entries, and the film is that of these
pub record Films (b : CodeBody) (text : List ℕ) (w : Walk) (film : List Frame) : Type 0 where
  pub list : List Entry
  pub far : WalkedTo b text list w
  pub filmed : ∥ (film ≡ film_of (script_of b.of.value) list) ∥₁

module _ (b : CodeBody) (text : List ℕ) where
  abbrev ds : List Fn
  ds = script_of b.of.value

  live : (es read : List Entry) (w : Walk) → Stands b text es read w → ∥ Live b es w.player.world ∥₁
  live es read w h = subst (λ (z : CodeBody). ∥ Live z es w.player.world ∥₁) h.of h.played

  pub films_begun : (w : Walk) (film : List Frame) → WalkedTo b text [] w → film ≡ frame_at event.Nothing w.player.world ∷ [] → Films b text w film
  films_begun w film begun is = record {
    list = [];
    far = begun;
    filmed =
        ∥∥₁_map (live [] [] w begun) (λ l.
        is ∙ (ap (λ f. f ∷ []) (frame_shown ds b w.player.world [] l.state l.run l.represents event.Nothing event.Nothing refl) ∙ sym (film_first ds l.state l.run)));
  }

  -- an entry was read by the one walk, and played by the other
  module _ (es : List Entry) (film new : List Frame) (e : Entry) (w q : Walk) (read : HasRead b text es e w) (on : WalkedTo b text (es ++ e ∷ []) q) (old : ∥ (film ≡ film_of ds es) ∥₁) (did : Event) where
    pub films_on : did ≡ event_at e w.player.world → new ≡ film ++ frame_at did q.player.world ∷ [] → Films b text q new
    films_on does is = record {
      list = es ++ e ∷ [];
      far = on;
      filmed =
          ∥∥₁_elim (live es (es ++ e ∷ []) w read) ∥∥₁_prop (λ l. ∥∥₁_elim (live (es ++ e ∷ []) (es ++ e ∷ []) q on) ∥∥₁_prop (λ m. ∥∥₁_map old (λ k.
          let last = last_leads ds es e m.state m.run in
          let at = same_after ds es last.before l.state last.run (is_after ds es l.state l.run) in
          let leads : Leads (code_of ds) l.state e m.state = subst (λ x. Leads (code_of ds) x e m.state) at last.leads in
          let shown = frame_shown ds b q.player.world (es ++ e ∷ []) m.state m.run m.represents did (event_of e l.state) (does ∙ event_shown ds b w.player.world l.state l.represents e) in
          is ∙ (ap (λ f. film ++ f ∷ []) shown ∙ (ap (λ z. z ++ frame_of e l.state m.state ∷ []) k ∙ sym (film_more ds es l.state m.state e l.run leads))))));
    }

  pub shot_of : (es : List Entry) (w : Walk) (shot : Shot) → WalkedTo b text es w → Spells text es → ∥ (vec_items shot.film ≡ film_of ds es) ∥₁
      → shot.threads ≡ length w.player.world.threads.list.items → shot.cells ≡ length w.player.world.cells.cells → ∥ Shoots ds text shot ∥₁
  shot_of es w shot h spells filmed threads cells =
      let within = w.within in
      let steps = h.steps in
      ∥∥₁_elim (live es es w h) ∥∥₁_prop (λ l. ∥∥₁_map filmed (λ k. record {
        list = es;
        state = l.state;
        spelled = spells;
        runs = record { run = l.run; within = omega (arith, within, steps) };
        film = k;
        threads = threads ∙ (sym (slots_count b w.player.world.threads.list.items) ∙ l.represents.agrees.count);
        cells = cells ∙ (sym (cells_count w.player.world.cells.cells) ∙ l.represents.agrees.made);
      }))

-- ---- a text that was verified
module _ (ds : List Fn) (text : List ℕ) (v : Verified) where
  pub large : most_entries < v.entries → Judges ds text (Ok v) → Refuses ds text (fault.Large v.entries)
  large many h = ∥∥₁_map h (λ k. record { list = k.list; state = k.state; spelled = k.spelled; runs = k.runs; entries = k.entries; many = many })

  pub pictured : (shot : Shot) (txt : List ℕ) → v.entries ≤ most_entries → Judges ds text (Ok v) → ∥ Shoots ds text shot ∥₁
      → txt ≡ picture (vec_items shot.film) shot.threads shot.cells (ending_of v.end) → ∥ Pictures ds text txt ∥₁
  pictured shot txt few h shoots is =
      ∥∥₁_elim h ∥∥₁_prop (λ k. ∥∥₁_map shoots (λ z.
      let same : z.list ≡ k.list = one_spelling text z.list k.list z.spelled k.spelled in
      let run = subst (λ x. IsRun ds x z.state) same z.runs.run in
      let state : z.state ≡ k.state = same_after ds k.list z.state k.state run (is_after ds k.list k.state k.runs.run) in
      let entries = k.entries in
      record {
        list = k.list;
        state = k.state;
        end = v.end;
        spelled = k.spelled;
        runs = k.runs;
        few = omega (arith, few, entries);
        reached = k.end;
        drawn =
            is
            ∙ (ap (λ f. picture f shot.threads shot.cells (ending_of v.end)) (z.film ∙ ap (film_of ds) same)
            ∙ (ap (λ n. picture (film_of ds k.list) n shot.cells (ending_of v.end)) (z.threads ∙ ap (λ (x : State). length x.threads) state)
            ∙ ap (λ n. picture (film_of ds k.list) (length k.state.threads) n (ending_of v.end)) (z.cells ∙ ap (λ (x : State). length x.cells) state)));
      }))
