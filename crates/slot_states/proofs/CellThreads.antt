-- Who stands in a line of a cell, and which cells are there.
use Rattle.std.proofs.Common.{◌≡◌, ◌≢◌, ℕ, ◌<◌, ◌==◌, true, false, cond, List, [], ◌∷◌, length, slice_get, Option, Some, None, refl, sym, ap, ◌∙◌, subst, ⊎_elim}
use Rattle.hs_base.specs.declared.tree.script.Script.{Script}
use Rattle.hs_rules.specs.declared.entry.Entry.{Entry}
use Rattle.rules_expansion.specs.trees.Programs.{Fn, script_of}
use Rattle.rules_expansion.specs.trees.Trees.{T}
use Rattle.rules_sorts.specs.Sorts.{Sort}
use Rattle.rules_meaning.specs.Values as val
use Rattle.rules_meaning.specs.Values.{V}
use Rattle.rules_expansion.specs.declared.primitive.Primitive.{Primitive}
use Rattle.rules_expansion.specs.declared.primitive.Primitive.TheVariants.{TakeMVar, PutMVar, ReadMVar}
use Rattle.hs_rules.specs.Terms as named
use Rattle.hs_rules.specs.Terms.{Ret, Throw, Do, Performs, Calls}
use Rattle.hs_rules.specs.State.{State}
use Rattle.hs_rules.specs.Runs.{IsRun}
use Rattle.rules_waiting.specs.OneCell.{Want, To_take, To_read, To_put, Place, Cell, stands_in}
use Rattle.rules_waiting.specs.Waiting.{Reason, Taking, Reading, Putting, Throwing, Sleeping, is_blocked, reason_of, at_cell, want_at, line_of}
use Rattle.hs_laws.specs.Standing.{Standing}
use Rattle.hs_laws.specs.BracketPhases.{Blocks}
use Rattle.hs_laws.proofs.Lists.{cond_true, cond_false, equal_or, some_item}
use Rattle.hs_laws.proofs.Stranding.{reason_blocked}
use Rattle.hs_laws.proofs.CellSteps.{Away, away_line}
use Rattle.hs_laws.proofs.Expanded.{standing_of}
use Rattle.hs_progress.specs.TypedStates.{has}
use Rattle.slot_laws.specs.SlotRules.{SlotPart, performs, calls}
use Rattle.slot_laws.specs.Standing.{PartStands}
use Rattle.slot_states.specs.SlotStates.{SlotThread, SlotState, cell_at, or_unmade, SameCell, Represents}
use Rattle.slot_states.specs.Resting.{NotThrowing, NotAsleep, WaitsAt, takes, reads, puts, InLine, InNoLine}
use Rattle.slot_states.proofs.Following.{same_some}
use Rattle.slot_states.proofs.Reading.{call_is, call_of, named_of, blocked_there, blocked_at, line_stays}
use Rattle.slot_states.proofs.CellReading.{waits_below}
use Rattle.slot_states.proofs.Lines.{own_stands, stands_waits, waits_stands, free_stands, stands_quiet, Quiet, not_throwing, not_asleep, one_left}

-- ---- the operation of who waits at a cell

only_if : {A : Type 0} (a b : ℕ) (x w : A) → cond (a == b) (Some x) None ≡ Some w → a ≡ b
only_if a b x w e = ⊎_elim (λ q. q.1) (λ q. let z : None ≡ Some w = sym (cond_false (a == b) (Some x) None q.0) ∙ e in absurd (cc z)) (equal_or a b)

same_if : {A : Type 0} (a b : ℕ) (x : A) → a ≡ b → cond (a == b) (Some x) None ≡ Some x
same_if a b x e = ⊎_elim (λ q. cond_true (a == b) (Some x) None q.0) (λ q. absurd (q.1 e)) (equal_or a b)

none_if : {A : Type 0} (a b c : ℕ) (x : A) → a ≡ b → c ≢ b → cond (a == c) (Some x) None ≡ None
none_if a b c x e n = ⊎_elim (λ q. absurd (n (sym q.1 ∙ e))) (λ q. cond_false (a == c) (Some x) None q.0) (equal_or a c)

-- who waits at a cell wants something there
pub cell_want : (r : Reason V) → at_cell r ≡ true → (m : ℕ) × (w : Want V) × (want_at m r ≡ Some w)
cell_want (Taking m) e = (m, To_take, same_if m m To_take refl)
cell_want (Reading m) e = (m, To_read, same_if m m To_read refl)
cell_want (Putting m v) e = (m, To_put v, same_if m m (To_put v) refl)
cell_want (Throwing u x) e = absurd (cc e)
cell_want (Sleeping due) e = absurd (cc e)

-- who waits at one cell doesn't wait at another
want_away : (m k : ℕ) (r : Reason V) (w : Want V) → k ≢ m → want_at m r ≡ Some w → want_at k r ≡ None
want_away m k (Taking j) w n e = none_if j m k To_take (only_if j m To_take w e) n
want_away m k (Reading j) w n e = none_if j m k To_read (only_if j m To_read w e) n
want_away m k (Putting j v) w n e = none_if j m k (To_put v) (only_if j m (To_put v) w e) n
want_away m k (Throwing u x) w n e = absurd (cc e)
want_away m k (Sleeping due) w n e = absurd (cc e)

module _ (cells : ℕ → T → Type 0) (ds : List Fn) (m : ℕ) (p : SlotPart) {k : Sort} where
  here : (j : ℕ) (c : Primitive) (vs : ℕ → List V) → PartStands cells ds p (Performs (Calls c (vs j))) k → j ≡ m → WaitsAt m (performs (calls c (vs m))) → WaitsAt m p
  here j c vs h e w = subst (WaitsAt m) (ap (λ i. performs (calls c (vs i))) (sym e) ∙ sym (call_is cells ds h)) w

  -- by why it is blocked, a thread with slots stands at an operation of this cell
  pub waits_by : (r : Reason V) (w : Want V) (op : named.Operation) → want_at m r ≡ Some w → Blocks r op → PartStands cells ds p (Performs op) k → WaitsAt m p
  waits_by (Taking j) w op e b h = here j TakeMVar (λ i. val.Cell i ∷ []) (subst (λ o. PartStands cells ds p (Performs o) k) b h) (only_if j m To_take w e) takes
  waits_by (Reading j) w op e b h = here j ReadMVar (λ i. val.Cell i ∷ []) (subst (λ o. PartStands cells ds p (Performs o) k) b h) (only_if j m To_read w e) reads
  waits_by (Putting j v) w op e b h = here j PutMVar (λ i. val.Cell i ∷ v ∷ []) (subst (λ o. PartStands cells ds p (Performs o) k) b h) (only_if j m (To_put v) w e) puts
  waits_by (Throwing u x) w op e b h = absurd (cc e)
  waits_by (Sleeping due) w op e b h = absurd (cc e)

-- and the other way round
take_reason : (m : ℕ) (r : Reason V) → Blocks r (Calls TakeMVar (val.Cell m ∷ [])) → r ≡ Taking m
take_reason m (Sleeping due) b = let z = b.1 in absurd (cc z)
take_reason m _ b = cc b

read_reason : (m : ℕ) (r : Reason V) → Blocks r (Calls ReadMVar (val.Cell m ∷ [])) → r ≡ Reading m
read_reason m (Sleeping due) b = let z = b.1 in absurd (cc z)
read_reason m _ b = cc b

put_reason : (m : ℕ) (v : V) (r : Reason V) → Blocks r (Calls PutMVar (val.Cell m ∷ v ∷ [])) → r ≡ Putting m v
put_reason m v (Sleeping due) b = let z = b.1 in absurd (cc z)
put_reason m v _ b = cc b

module _ (cells : ℕ → T → Type 0) (ds : List Fn) where
  pub waits_want : {m : ℕ} {p : SlotPart} {k : Sort} (r : Reason V) (op : named.Operation) → WaitsAt m p → PartStands cells ds p (Performs op) k → Blocks r op → (w : Want V) × (want_at m r ≡ Some w)
  waits_want {m} r op takes h b = (To_take, ap (want_at m) (take_reason m r (subst (Blocks r) (call_of cells ds h) b)) ∙ same_if m m To_take refl)
  waits_want {m} r op reads h b = (To_read, ap (want_at m) (read_reason m r (subst (Blocks r) (call_of cells ds h) b)) ∙ same_if m m To_read refl)
  waits_want {m} r op (puts {v}) h b = (To_put v, ap (want_at m) (put_reason m v r (subst (Blocks r) (call_of cells ds h) b)) ∙ same_if m m (To_put v) refl)

-- ---- a state with slots and the state that it stands for

module _ (ds : List Fn) (x : SlotState) (s : State) (r : Represents ds x s) where
  -- a cell's line with slots is the line of the rules, or there is no such cell
  line_or : (P : List (Place V) → Type 0) (m : ℕ) → P [] → P (line_of m s.blocked) → P (cell_at m x.cells).line
  line_or P m none p = by (slice_get x.cells m) (r.agrees.cells m)
    where
      by : (c : Option (Cell V)) → SameCell m s c → P (or_unmade c).line
      by None k = none
      by (Some c) k = subst P k.line p

  pub stands_there : (u m : ℕ) → stands_in u (cell_at m x.cells).line ≡ true → stands_in u (line_of m s.blocked) ≡ true
  stands_there u m h = line_or (λ ps. stands_in u ps ≡ true → stands_in u (line_of m s.blocked) ≡ true) m (λ g. absurd (cc g)) (λ g. g) h

  pub stands_not : (u m : ℕ) → is_blocked u s.blocked ≡ false → stands_in u (cell_at m x.cells).line ≡ false
  stands_not u m b = line_or (λ ps. stands_in u ps ≡ false) m refl (free_stands m u s.blocked b)

  pub line_is : (m : ℕ) → m < length x.cells → (cell_at m x.cells).line ≡ line_of m s.blocked
  line_is m lt = by (some_item x.cells m lt) (r.agrees.cells m)
    where
      by : ((c : Cell V) × (slice_get x.cells m ≡ Some c)) → SameCell m s (slice_get x.cells m) → (cell_at m x.cells).line ≡ line_of m s.blocked
      by c k = let shows : SameCell m s (Some c.0) = subst (SameCell m s) c.1 k in ap (λ o. (or_unmade o).line) c.1 ∙ sym shows.line

  module _ (g : Standing s) where
    -- who stands in a line of the rules
    pub line_thread : (u m : ℕ) → stands_in u (line_of m s.blocked) ≡ true → (f : SlotThread) × (slice_get x.threads u ≡ Some f) × (f.blocked ≡ true) × (f.finished ≡ false) × WaitsAt m f.term.part
    line_thread u m h =
        let w = stands_waits m u s.blocked g.once h in
        let f = blocked_there ds x s r g u (reason_blocked u s.blocked w.reason w.is) in
        let k = blocked_at ds x s r g u f.0 f.1 f.2 in
        let wants : want_at m k.reason ≡ Some w.want = ap (want_at m) (same_some (reason_of u s.blocked) k.reason w.reason k.waits w.is) ∙ w.wants in
        (f.0, f.1, f.2, k.unfinished, waits_by (has r.stacks.store) ds m f.0.term.part k.reason w.want k.op wants k.blocks k.part)

    -- its cell is there
    pub line_below : (u m : ℕ) → stands_in u (line_of m s.blocked) ≡ true → m < length x.cells
    line_below u m h = let f = line_thread u m h in waits_below ds x s r u m f.0 f.1 f.4

    -- nobody waits at a cell that isn't there
    pub no_line : (m : ℕ) → (m < length x.cells → ⊥) → line_of m s.blocked ≡ []
    no_line m n = by (line_of m s.blocked) refl
      where
        by : (ps : List (Place V)) → line_of m s.blocked ≡ ps → ps ≡ []
        by [] e = refl
        by (p ∷ ps) e =
            absurd (n (line_below p.thread m (ap (stands_in p.thread) e ∙ own_stands p ps)))

    pub in_line : (t m : ℕ) (f : SlotThread) → slice_get x.threads t ≡ Some f → f.blocked ≡ true → WaitsAt m f.term.part → InLine t m x
    in_line t m f e b w =
        let k = blocked_at ds x s r g t f e b in
        let wants = waits_want (has r.stacks.store) ds k.reason k.op w k.part k.blocks in
        let below : m < length x.cells = waits_below ds x s r t m f e w in
        let here : stands_in t (line_of m s.blocked) ≡ true = waits_stands m t k.reason wants.0 s.blocked k.waits wants.1 in
        let quiet : Quiet s.blocked t = stands_quiet m t s.blocked g.once here in
        record {
          exists = below;
          stands = ap (stands_in t) (line_is m below) ∙ here;
          only = one_left t m x.cells (λ j d n i.
              line_stays j t s d (subst (SameCell j s) i (r.agrees.cells j)) (away_line j t s.blocked g.once (subst (Away j) (sym k.waits) (want_away m j k.reason wants.0 n wants.1))));
          silent = subst (NotThrowing t) (sym r.agrees.flight) (not_throwing t s.blocked quiet.0);
          awake = subst (NotAsleep t) (sym r.agrees.sleepers) (not_asleep t s.blocked quiet.1);
        }

-- ---- the laws

pub line_is_of_threads : (script : Script) (es : List Entry) (s : State) → IsRun (script_of script) es s → (x : SlotState) → Represents (script_of script) x s → (u m : ℕ) → stands_in u (cell_at m x.cells).line ≡ true
    → (th : SlotThread) × (slice_get x.threads u ≡ Some th) × (th.blocked ≡ true) × (th.finished ≡ false) × WaitsAt m th.term.part
line_is_of_threads script es s run x r u m h = line_thread (script_of script) x s r (standing_of (script_of script) es s run) u m (stands_there (script_of script) x s r u m h)

pub thread_is_in_line : (script : Script) (es : List Entry) (s : State) → IsRun (script_of script) es s → (x : SlotState) → Represents (script_of script) x s → (t m : ℕ) (th : SlotThread)
    → slice_get x.threads t ≡ Some th → th.blocked ≡ true → WaitsAt m th.term.part → InLine t m x
thread_is_in_line script es s run x r = in_line (script_of script) x s r (standing_of (script_of script) es s run)

pub free_is_nowhere : (script : Script) (x : SlotState) (s : State) → Represents (script_of script) x s → (t : ℕ) (th : SlotThread) → slice_get x.threads t ≡ Some th → th.blocked ≡ false → InNoLine t x
free_is_nowhere script x s r t th e b m = let n = named_of (script_of script) x s r t th e in stands_not (script_of script) x s r t m (sym n.blocked ∙ b)
