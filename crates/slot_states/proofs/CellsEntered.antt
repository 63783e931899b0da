-- The Op of an operation on a cell, and of one that makes a cell.
use Rattle.std.proofs.Common.{◌≡◌, ◌≢◌, ℕ, ◌+◌, ◌<◌, false, List, [], ◌∷◌, ◌++◌, length, slice_get, slice_set, Option, Some, None, refl, sym, ap, ◌∙◌, subst, arith, ⊎_elim, length-append}
use Rattle.plain_laws.proofs.Lists.{get_last, get_before_last}
use Rattle.hs_base.specs.declared.mask.Mask.{Mask}
use Rattle.hs_base.specs.declared.mask.Mask.TheVariants.{Unmasked}
use Rattle.hs_base.specs.declared.tree.script.Script.{Script}
use Rattle.hs_rules.specs.declared.entry.Entry.{Entry}
use Rattle.hs_rules.specs.declared.entry.Entry.TheVariants as entry
use Rattle.rules_expansion.specs.trees.Programs.{Fn, script_of}
use Rattle.rules_typing.specs.TypingScripts.{Accepted}
use Rattle.rules_meaning.specs.Values as val
use Rattle.rules_meaning.specs.Values.{V}
use Rattle.rules_meaning.specs.CoreMeaning.{code_of}
use Rattle.rules_expansion.specs.declared.primitive.Primitive.{Primitive}
use Rattle.rules_expansion.specs.declared.primitive.Primitive.TheVariants.{NewMVar, NewEmptyMVar, TakeMVar, PutMVar, ReadMVar, TryTakeMVar, TryPutMVar}
use Rattle.hs_rules.specs.Terms.{Operation, Calls, Ret}
use Rattle.hs_rules.specs.Primitives.{operated, take, read, put, try_take, try_put}
use Rattle.hs_rules.specs.Entries.{Leads}
use Rattle.hs_laws.specs.cases.Cases as row
use Rattle.hs_laws.proofs.cases_lemmas.Performing.{case_of}
use Rattle.hs_rules.specs.Runs.{IsRun}
use Rattle.hs_rules.specs.State.{Thread, State, answer}
use Rattle.rules_waiting.specs.OneCell.{Cell, Call, Take, Read, Put, Try_take, Try_put, Reply, cell_of, made, call}
use Rattle.rules_waiting.specs.Waiting.{Waiting, leaves, is_blocked, line_of, flight_of, sleepers_of, sorted_sleepers}
use Rattle.hs_laws.specs.CellLaw.{told}
use Rattle.hs_laws.specs.CellLaw as law
use Rattle.hs_laws.proofs.Lists.{equal_or, item_same, item_other, some_item}
use Rattle.hs_laws.proofs.CellSteps.{leaves_absent}
use Rattle.hs_laws.proofs.Expanded.{standing_of}
use Rattle.hs_laws.proofs.Growing.{set_length}
use Rattle.slot_laws.specs.SlotRules.{ret, performs, calls, mask_from}
use Rattle.slot_states.specs.SlotStates as slots
use Rattle.slot_states.specs.SlotStates.{SlotThread, SlotState, told_all, or_unmade, called, makes, SameCell, Represents, Enters, StandsAt, MainGoes}
use Rattle.slot_states.specs.Resting.{WaitsAt, takes, reads, puts}
use Rattle.slot_states.proofs.Following.{Follow, follow_start, follow_resume, follow_block, Parts, parts_of, entered}
use Rattle.slot_states.proofs.Lines.{left_by}
use Rattle.slot_states.proofs.CellReading.{waits_below, try_take_below, try_put_below}
use Rattle.slot_states.proofs.Reading.{AtOp, at_call, op_leads, same_cell}
use Rattle.slot_states.proofs.CellThreads.{no_line}
use Rattle.slot_states.proofs.CellCalls.{HasCell, Goes, waits, answers, goes_quiet, Made, take_made, read_made, put_made, try_take_made, try_put_made}

-- ---- threads follow

pub follow_is : {xs : List SlotThread} {ts : List Thread} {ys zs : List SlotThread} {us vs : List Thread} {ws ws' : List (Waiting V)} → Follow xs ts ys us ws → ys ≡ zs → us ≡ vs → ws ≡ ws' → Follow xs ts zs vs ws'
follow_is {xs} {ts} {ys} {zs} {us} {vs} {ws} {ws'} f a b c = subst (λ z. Follow xs ts z vs ws') a (subst (λ z. Follow xs ts ys z ws') b (subst (λ z. Follow xs ts ys us z) c f))

-- those who are answered
follow_replies : (m : ℕ) (rs : List (Reply V)) (xs : List SlotThread) (ts : List Thread) (ys : List SlotThread) (us : List Thread) (ws : List (Waiting V)) → Follow xs ts ys us ws
    → Follow xs ts (slots.replied m rs ys) (law.replied m rs us) (left_by rs ws)
follow_replies m [] xs ts ys us ws f = f
follow_replies m (r ∷ rs) xs ts ys us ws f =
    let v : V = told m r.answer in
    follow_replies m rs xs ts (slots.answered r.thread v ys) (law.answered r.thread v us) (leaves r.thread ws) (follow_resume xs ts ys us ws f r.thread (ret v) (Ret v) refl)

module _ (ds : List Fn) (x : SlotState) (s : State) (r : Represents ds x s) (t : ℕ) (th : Thread) (is : slice_get s.threads t ≡ Some th) where
  start : Follow x.threads s.threads x.threads s.threads s.blocked
  start = follow_start ds x s r

  follow_goes : (m : ℕ) (u : State) (rs : List (Reply V)) → Goes m t s u rs → Follow x.threads s.threads (told_all t m rs x.threads) u.threads u.blocked
  follow_goes m u rs (waits q a e h b) = follow_is (follow_block x.threads s.threads x.threads s.threads s.blocked start t q th is) (ap (λ z. told_all t m z x.threads) (sym e)) (sym h) (sym b)
  follow_goes m u rs (answers e h b q) = follow_is (follow_replies m rs x.threads s.threads x.threads s.threads s.blocked start) (sym (e x.threads)) (sym h) (sym b)

module _ (ds : List Fn) (x : SlotState) (s : State) (r : Represents ds x s) (t : ℕ) where
  -- the other parts follow where the cell was this one
  parts_go : (m : ℕ) (q : Call V) (c : Cell V) (o : Option State) → slice_get x.cells m ≡ Some c → (d : Made m t s o (call q c)) → (y : SlotState)
      → y ≡ record x { threads = told_all t m (call q c).replies x.threads; cells = slice_set x.cells m (call q c).cell } → Parts y d.after
  parts_go m q c o e d y same = subst (λ z. Parts z d.after) (sym same) (record {
    made = set_length x.cells m (call q c).cell ∙ (r.agrees.made ∙ sym d.kept.1);
    cells = λ k. ⊎_elim (λ n. subst (λ j. SameCell j d.after (slice_get cells' j)) (sym n.1) own) (λ n. other k n.1) (equal_or k m);
    flight = r.agrees.flight ∙ sym (goes_quiet d.goes).0;
    sleepers = r.agrees.sleepers ∙ ap sorted_sleepers (sym (goes_quiet d.goes).1);
    clock = r.agrees.clock ∙ sym (ap (λ (z : State). z.clock) d.kept.0);
    instances = r.agrees.instances ∙ sym (ap (λ (z : State). z.next_instance) d.kept.0);
    timeouts = r.agrees.timeouts ∙ sym (ap (λ (z : State). z.next_timeout) d.kept.0);
    printed = r.agrees.printed ∙ sym (ap (λ (z : State). length z.output + length z.errors) d.kept.0);
  })
    where
      cells' : List (Cell V)
      cells' = slice_set x.cells m (call q c).cell

      own : SameCell m d.after (slice_get cells' m)
      own = subst (SameCell m d.after) (sym (item_same x.cells m c (call q c).cell e)) (record { content = d.follows.content; line = d.follows.line })

      other : (k : ℕ) → k ≢ m → SameCell k d.after (slice_get cells' k)
      other k n = subst (SameCell k d.after) (sym (item_other x.cells m k (call q c).cell n)) (same_cell k s d.after (slice_get x.cells k) (d.still k n).0 (d.still k n).1 (r.agrees.cells k))

-- ---- a call

module _ (script : Script) (accepted : Accepted script) (es : List Entry) (s : State) (run : IsRun (script_of script) es s) (x : SlotState) (r : Represents (script_of script) x s) (goes : MainGoes x) (t m : ℕ) where
  abbrev ds : List Fn
  ds = script_of script

  abbrev EntersBy : SlotState → Type 0
  EntersBy y = (u : State) × Leads (code_of ds) s (entry.Op t) u × Represents ds y u

  -- the operation on its cell, as the rules compute it
  module _ (op : Operation) (q : Call V) (k : Mask) (f : Option (Option V) → Option State) (same : operated t k op s ≡ f (slice_get s.cells m))
      (g : (o : Option V) → HasCell m t s o (line_of m s.blocked) → Made m t s (f (Some o)) (call q (cell_of o (line_of m s.blocked)))) (a : AtOp s t op k) (below : m < length x.cells) where
    call_enters : EntersBy (called t m q x)
    call_enters =
        let c = some_item x.cells m below in
        let shows : SameCell m s (Some c.0) = subst (SameCell m s) c.1 (r.agrees.cells m) in
        let made : Made m t s (f (Some c.0.content)) (call q (cell_of c.0.content (line_of m s.blocked))) = g c.0.content (a.running.awake, shows.content, refl, (standing_of ds es s run).once) in
        let d : Made m t s (operated t k op s) (call q c.0) =
        subst (λ z. Made m t s z (call q c.0)) (sym (same ∙ ap f shows.content)) (subst (λ ps. Made m t s (f (Some c.0.content)) (call q (cell_of c.0.content ps))) shows.line made) in
        let makes : called t m q x ≡ record x { threads = told_all t m (call q c.0).replies x.threads; cells = slice_set x.cells m (call q c.0).cell } =
        ap (λ z. record x { threads = told_all t m (call q (or_unmade z)).replies x.threads; cells = slice_set x.cells m (call q (or_unmade z)).cell }) c.1 in
        entered script accepted es s d.after (entry.Op t) x (called t m q x) run r (op_leads ds x s r t goes op k a d.after (case_of t k op s d.after d.is)) (λ u. tt)
        (subst (λ (z : SlotState). Follow x.threads s.threads z.threads d.after.threads d.after.blocked) (sym makes) (follow_goes ds x s r t a.thread a.running.there m d.after (call q c.0).replies d.goes))
        (parts_go ds x s r t m q c.0 (operated t k op s) c.1 d (called t m q x) makes)

  waits_enters : (c : Primitive) (vs : List V) (h : StandsAt x t (performs (calls c vs))) → WaitsAt m (performs (calls c vs)) → (q : Call V) (f : Option (Option V) → Option State)
      → operated t (mask_from Unmasked h.thread.term.frames) (Calls c vs) s ≡ f (slice_get s.cells m)
      → ((o : Option V) → HasCell m t s o (line_of m s.blocked) → Made m t s (f (Some o)) (call q (cell_of o (line_of m s.blocked)))) → EntersBy (called t m q x)
  waits_enters c vs h w q f same g =
      call_enters (Calls c vs) q (mask_from Unmasked h.thread.term.frames) f same g (at_call ds x s r t c vs h) (waits_below ds x s r t m h.thread h.is (subst (WaitsAt m) (sym h.part) w))

-- ---- a new cell

module _ (script : Script) (accepted : Accepted script) (es : List Entry) (s : State) (run : IsRun (script_of script) es s) (x : SlotState) (r : Represents (script_of script) x s) (goes : MainGoes x) (t : ℕ) where
  -- the state after it
  abbrev with_new : Option V → State
  with_new o = answer t (val.Cell (length s.cells)) (record s { cells = s.cells ++ o ∷ [] })

  new_cells : (o : Option V) → is_blocked t s.blocked ≡ false → (k : ℕ) → SameCell k (with_new o) (slice_get (x.cells ++ made o ∷ []) k)
  new_cells o free k =
      ⊎_elim
      (λ q. subst (λ j. SameCell j (with_new o) (slice_get (x.cells ++ made o ∷ []) j)) (sym q.1) (subst (SameCell (length x.cells) (with_new o)) (sym (get_last x.cells (made o))) (record {
        content = ap (slice_get (s.cells ++ o ∷ [])) r.agrees.made ∙ get_last s.cells o;
        line = line (length x.cells) ∙ no_line (script_of script) x s r (standing_of (script_of script) es s run) (length x.cells) (λ lt. absurd (omega (arith, lt)));
      })))
      (λ q. subst (SameCell k (with_new o)) (sym (get_before_last x.cells (made o) k q.1)) (same_cell k s (with_new o) (slice_get x.cells k) (get_before_last s.cells o k (λ e. q.1 (e ∙ sym r.agrees.made))) (line k) (r.agrees.cells k)))
      (equal_or k (length x.cells))
    where
      line : (j : ℕ) → line_of j (with_new o).blocked ≡ line_of j s.blocked
      line j = ap (line_of j) (leaves_absent t s.blocked free)

  new_enters : (p : Primitive) (vs : List V) (o : Option V) → ((k : Mask) → row.Performs t k (Calls p vs) s (with_new o)) → StandsAt x t (performs (calls p vs))
      → (u : State) × Leads (code_of (script_of script)) s (entry.Op t) u × Represents (script_of script) (makes t o x) u
  new_enters p vs o same h =
      let a = at_call (script_of script) x s r t p vs h in
      let only : leaves t s.blocked ≡ s.blocked = leaves_absent t s.blocked a.running.awake in
      let now : Parts x s = parts_of x s r.agrees in
      entered script accepted es s (with_new o) (entry.Op t) x (makes t o x) run r
      (op_leads (script_of script) x s r t goes (Calls p vs) (mask_from Unmasked h.thread.term.frames) a (with_new o) (same (mask_from Unmasked h.thread.term.frames)))
      (λ u. tt)
      (follow_resume x.threads s.threads x.threads s.threads s.blocked (follow_start (script_of script) x s r) t (ret (val.Cell (length x.cells))) (Ret (val.Cell (length s.cells))) (ap (λ n. ret (val.Cell n)) r.agrees.made))
      (record {
        made = length-append x.cells (made o ∷ []) ∙ (ap (λ n. n + 1) r.agrees.made ∙ sym (length-append s.cells (o ∷ [])));
        cells = new_cells o a.running.awake;
        flight = now.flight ∙ ap flight_of (sym only);
        sleepers = now.sleepers ∙ ap (λ ws. sorted_sleepers (sleepers_of ws)) (sym only);
        clock = now.clock;
        instances = now.instances;
        timeouts = now.timeouts;
        printed = now.printed;
      })

-- ---- the laws

module _ (script : Script) (accepted : Accepted script) (x : SlotState) (t : ℕ) where
  pub take_entered : (m : ℕ) → StandsAt x t (performs (calls TakeMVar (val.Cell m ∷ []))) → MainGoes x → Enters script (entry.Op t) x (called t m (Take t) x)
  take_entered m h g es s run r =
      waits_enters script accepted es s run x r g t m TakeMVar (val.Cell m ∷ []) h takes (Take t) (λ o. take t m o s) refl (λ o. take_made m t s o (line_of m s.blocked))

  pub read_entered : (m : ℕ) → StandsAt x t (performs (calls ReadMVar (val.Cell m ∷ []))) → MainGoes x → Enters script (entry.Op t) x (called t m (Read t) x)
  read_entered m h g es s run r =
      waits_enters script accepted es s run x r g t m ReadMVar (val.Cell m ∷ []) h reads (Read t) (λ o. read t m o s) refl (λ o. read_made m t s o (line_of m s.blocked))

  pub put_entered : (m : ℕ) (v : V) → StandsAt x t (performs (calls PutMVar (val.Cell m ∷ v ∷ []))) → MainGoes x → Enters script (entry.Op t) x (called t m (Put t v) x)
  put_entered m v h g es s run r =
      waits_enters script accepted es s run x r g t m PutMVar (val.Cell m ∷ v ∷ []) h puts (Put t v) (λ o. put t m v o s) refl (λ o. put_made m t s v o (line_of m s.blocked))

  pub try_take_entered : (m : ℕ) → StandsAt x t (performs (calls TryTakeMVar (val.Cell m ∷ []))) → MainGoes x → Enters script (entry.Op t) x (called t m (Try_take t) x)
  try_take_entered m h g es s run r =
      call_enters script accepted es s run x r g t m (Calls TryTakeMVar (val.Cell m ∷ [])) (Try_take t) (mask_from Unmasked h.thread.term.frames) (λ o. try_take t m o s) refl (λ o. try_take_made m t s o (line_of m s.blocked))
      (at_call (script_of script) x s r t TryTakeMVar (val.Cell m ∷ []) h) (try_take_below (script_of script) x s r t m h)

  pub try_put_entered : (m : ℕ) (v : V) → StandsAt x t (performs (calls TryPutMVar (val.Cell m ∷ v ∷ []))) → MainGoes x → Enters script (entry.Op t) x (called t m (Try_put t v) x)
  try_put_entered m v h g es s run r =
      call_enters script accepted es s run x r g t m (Calls TryPutMVar (val.Cell m ∷ v ∷ [])) (Try_put t v) (mask_from Unmasked h.thread.term.frames) (λ o. try_put t m v o s) refl (λ o. try_put_made m t s v o (line_of m s.blocked))
      (at_call (script_of script) x s r t TryPutMVar (val.Cell m ∷ v ∷ []) h) (try_put_below (script_of script) x s r t m v h)

  pub new_entered : (v : V) → StandsAt x t (performs (calls NewMVar (v ∷ []))) → MainGoes x → Enters script (entry.Op t) x (makes t (Some v) x)
  new_entered v h g es s run r = new_enters script accepted es s run x r g t NewMVar (v ∷ []) (Some v) (λ k. row.makes_a_full_cell) h

  pub new_empty_entered : StandsAt x t (performs (calls NewEmptyMVar [])) → MainGoes x → Enters script (entry.Op t) x (makes t None x)
  new_empty_entered h g es s run r = new_enters script accepted es s run x r g t NewEmptyMVar [] None (λ k. row.makes_an_empty_cell) h
