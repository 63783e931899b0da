-- Reading a thread with slots as a thread of the rules: its part and its frames, for what it waits if it is blocked, and
-- what its entries leave.
use Rattle.std.proofs.Common.{◌≡◌, ℕ, suc, List, [], length, true, false, cond, Option, Some, None, refl, sym, ap, ◌∙◌, subst, slice_get}
use Rattle.hs_base.specs.declared.exn.Exn.{Exn}
use Rattle.hs_base.specs.declared.mask.Mask.{Mask}
use Rattle.hs_base.specs.declared.mask.Mask.TheVariants.{Unmasked}
use Rattle.hs_rules.specs.declared.entry.Entry.{Entry}
use Rattle.hs_rules.specs.declared.entry.Entry.TheVariants.{Op}
use Rattle.rules_expansion.specs.trees.Trees.{T}
use Rattle.rules_expansion.specs.trees.Programs.{Fn}
use Rattle.rules_expansion.specs.Names.{Name}
use Rattle.rules_expansion.specs.Core.{Core}
use Rattle.rules_expansion.specs.declared.primitive.Primitive.{Primitive}
use Rattle.rules_meaning.specs.Values.{V, Env}
use Rattle.rules_meaning.specs.CoreMeaning.{Code, code_of}
use Rattle.rules_sorts.specs.Sorts.{Sort}
use Rattle.rules_code.specs.CodeTrees.{Sa}
use Rattle.rules_waiting.specs.OneCell.{Cell, leaves_line}
use Rattle.rules_waiting.specs.Waiting.{Reason, is_blocked, reason_of, line_of}
use Rattle.hs_rules.specs.Terms as named
use Rattle.hs_rules.specs.Terms.{Operation, Ret, Throw, Do, Performs, Calls, Forks, ForksUnmask, mask_at}
use Rattle.hs_rules.specs.State.{Thread, State}
use Rattle.hs_rules.specs.Entries as entries
use Rattle.hs_rules.specs.Entries.{next, on_thread, Leads}
use Rattle.hs_laws.specs.cases.Cases as row
use Rattle.hs_laws.proofs.cases_lemmas.Entering.{entered_is}
use Rattle.hs_laws.specs.BracketPhases.{Blocks, OpPart}
use Rattle.hs_laws.specs.Standing.{Standing}
use Rattle.hs_laws.proofs.Stranding.{blocked_reason}
use Rattle.hs_progress.specs.TypedStates.{has}
use Rattle.hs_progress.specs.GoingOn.{MainRuns, IsRunning}
use Rattle.slot_laws.specs.SlotRules.{SlotOp, calls, forks, forks_unmask, SlotPart, ret, throw, performs, SlotFrame, SlotTerm, mask_from}
use Rattle.slot_laws.specs.Standing.{calls_stands, forks_stands, forks_unmask_stands, PartStands, ret_stands, throw_stands, op_stands, FramesStand, none_stand, bind_stands, then_stands, catch_stands, mask_stands, StandsIn}
use Rattle.slot_laws.specs.Stacks.{StacksStand}
pub use Rattle.slot_laws.proofs.Steps.{same_masks}
use Rattle.slot_states.specs.SlotStates.{SlotThread, SlotState, SameThread, SameCell, term_at, Represents, StandsAt, MainGoes}
use Rattle.slot_states.specs.Resting as resting
use Rattle.slot_states.proofs.Following.{follow_start, follow_there, same_some}

-- ---- parts and frames
module _ (cells : ℕ → T → Type 0) (ds : List Fn) where
  pub ret_is : {v : V} {q : named.Part} {k : Sort} → PartStands cells ds (ret v) q k → q ≡ Ret v
  ret_is (ret_stands h) = refl

  pub throw_is : {e : Exn} {q : named.Part} {k : Sort} → PartStands cells ds (throw e) q k → q ≡ Throw e
  throw_is throw_stands = refl

  pub calls_are : {c : Primitive} {vs : List V} {q : named.Part} {k : Sort} → PartStands cells ds (performs (calls c vs)) q k → q ≡ Performs (Calls c vs)
  calls_are (op_stands (calls_stands a h)) = refl

  pub call_of : {c : Primitive} {vs : List V} {op : Operation} {k : Sort} → PartStands cells ds (performs (calls c vs)) (Performs op) k → op ≡ Calls c vs
  call_of (op_stands (calls_stands a h)) = refl

  pub forks_are : {tree : Sa} {vs : List V} {q : named.Part} {k : Sort} → PartStands cells ds (performs (forks tree vs)) q k → (a : Core) × (env : Env) × (q ≡ Performs (Forks a env))
  forks_are (op_stands (forks_stands {a} {env} r)) = (a, env, refl)

  pub forks_unmask_are : {tree : Sa} {vs : List V} {q : named.Part} {k : Sort} → PartStands cells ds (performs (forks_unmask tree vs)) q k → (x : Name) × (a : Core) × (env : Env) × (q ≡ Performs (ForksUnmask x a env))
  forks_unmask_are (op_stands (forks_unmask_stands {r} {a} {env} w)) = (r, a, env, refl)

  -- the other way
  pub operation_is : {p : SlotPart} {op : Operation} {k : Sort} → PartStands cells ds p (Performs op) k → (o : SlotOp) × (p ≡ performs o)
  operation_is (op_stands {p} h) = (p, refl)

  pub call_is : {p : SlotPart} {c : Primitive} {vs : List V} {k : Sort} → PartStands cells ds p (Performs (Calls c vs)) k → p ≡ performs (calls c vs)
  call_is (op_stands (calls_stands a h)) = refl

  pub same_throw : {k : Sort} {p : SlotPart} {q : named.Part} → PartStands cells ds p q k → resting.is_throw p ≡ entries.is_throw q
  same_throw (ret_stands h) = refl
  same_throw _ = refl

  pub no_frames : {k : Sort} {fs : List named.Frame} → FramesStand cells ds k [] fs → fs ≡ []
  no_frames none_stand = refl

  pub as_many : {k : Sort} {ss : List SlotFrame} {fs : List named.Frame} → FramesStand cells ds k ss fs → length ss ≡ length fs
  as_many none_stand = refl
  as_many (bind_stands w h) = ap suc (as_many h)
  as_many (then_stands r h) = ap suc (as_many h)
  as_many (catch_stands w h) = ap suc (as_many h)
  as_many (mask_stands h) = ap suc (as_many h)

-- ---- threads

-- thread t of the rules, for which this one with slots stands
pub record Named (ds : List Fn) (x : SlotState) (s : State) (r : Represents ds x s) (t : ℕ) (h : SlotThread) : Type 0 where
  pub thread : Thread
  pub is : slice_get s.threads t ≡ Some thread
  pub finished : h.finished ≡ thread.finished
  pub blocked : h.blocked ≡ is_blocked t s.blocked
  pub stands : StandsIn ds r.stacks.store t h.term thread.term

module _ (ds : List Fn) (x : SlotState) (s : State) (r : Represents ds x s) (t : ℕ) where
  stands_at : (h : SlotThread) (b : Thread) → slice_get x.threads t ≡ Some h → slice_get s.threads t ≡ Some b → StandsIn ds r.stacks.store t h.term b.term
  stands_at h b e is = subst (λ o. StandsIn ds r.stacks.store t (term_at o) b.term) e (r.stacks.stands t b is)

  -- a thread of the rules, where there is one with slots
  pub named_of : (h : SlotThread) → slice_get x.threads t ≡ Some h → Named ds x s r t h
  named_of h e = by (slice_get s.threads t) refl (subst (λ o. SameThread o (slice_get s.threads t) (is_blocked t s.blocked)) e (r.agrees.threads t))
    where
      by : (o : Option Thread) → slice_get s.threads t ≡ o → SameThread (Some h) o (is_blocked t s.blocked) → Named ds x s r t h
      by None q k = absurd k
      by (Some b) q k = record { thread = b; is = q; finished = k.0; blocked = k.1; stands = stands_at h b e q }

  -- a thread with slots, where there is one of the rules
  pub slotted_of : (b : Thread) → slice_get s.threads t ≡ Some b → (h : SlotThread) × (slice_get x.threads t ≡ Some h) × (h.finished ≡ b.finished) × (h.blocked ≡ is_blocked t s.blocked) × StandsIn ds r.stacks.store t h.term b.term
  slotted_of b is = let k = follow_there x.threads s.threads x.threads s.threads s.blocked (follow_start ds x s r) t b is in (k.0, k.1, k.2, k.3, stands_at k.0 b k.1 is)

  -- where its part is this one
  pub part_is : {p : SlotPart} (h : SlotThread) (n : Named ds x s r t h) → h.term.part ≡ p → PartStands (has r.stacks.store) ds p n.thread.term.part (r.stacks.store.sorts t)
  part_is h n e = subst (λ z. PartStands (has r.stacks.store) ds z n.thread.term.part (r.stacks.store.sorts t)) e n.stands.0

-- stacks that are the same for each thread that is there stand as well
pub stacks_same : (ds : List Fn) (old new : ℕ → SlotTerm) (s : State) → StacksStand ds old s → ((t : ℕ) (b : Thread) → slice_get s.threads t ≡ Some b → new t ≡ old t) → StacksStand ds new s
stacks_same ds old new s w same = record {
  store = w.store;
  sound = w.sound;
  stands = λ t b is. subst (λ z. StandsIn ds w.store t z b.term) (sym (same t b is)) (w.stands t b is);
}

-- ---- blocked threads
part_operation : (P : Operation → Type 0) (q : named.Part) → OpPart P q → (op : Operation) × (q ≡ Performs op) × P op
part_operation P (Performs op) h = (op, refl, h)
part_operation P _ h = absurd h

-- thread t, for which this one stands, waits for a reason at an operation
pub record BlockedAt (ds : List Fn) (x : SlotState) (s : State) (r : Represents ds x s) (t : ℕ) (h : SlotThread) : Type 0 where
  pub reason : Reason V
  pub waits : reason_of t s.blocked ≡ Some reason
  pub unfinished : h.finished ≡ false
  pub op : Operation
  pub part : PartStands (has r.stacks.store) ds h.term.part (Performs op) (r.stacks.store.sorts t)
  pub blocks : Blocks reason op

module _ (ds : List Fn) (x : SlotState) (s : State) (r : Represents ds x s) (stands : Standing s) (t : ℕ) where
  -- who waits is there
  pub blocked_there : is_blocked t s.blocked ≡ true → (h : SlotThread) × (slice_get x.threads t ≡ Some h) × (h.blocked ≡ true)
  blocked_there b =
      let w = blocked_reason t s.blocked b in
      let k = stands.blocked t w.0 w.1 in
      let h = slotted_of ds x s r t k.thread k.is in
      (h.0, h.1, h.3 ∙ b)

  pub blocked_at : (h : SlotThread) → slice_get x.threads t ≡ Some h → h.blocked ≡ true → BlockedAt ds x s r t h
  blocked_at h is b =
      let n = named_of ds x s r t h is in
      let w = blocked_reason t s.blocked (sym n.blocked ∙ b) in
      let k = stands.blocked t w.0 w.1 in
      let same : k.thread ≡ n.thread = same_some (slice_get s.threads t) k.thread n.thread k.is n.is in
      let o = part_operation (Blocks w.0) n.thread.term.part (subst (λ (z : Thread). OpPart (Blocks w.0) z.term.part) same k.part) in
      record {
        reason = w.0;
        waits = w.1;
        unfinished = n.finished ∙ (ap (λ (z : Thread). z.finished) (sym same) ∙ k.unfinished);
        op = o.0;
        part = subst (λ z. PartStands (has r.stacks.store) ds h.term.part z (r.stacks.store.sorts t)) o.1 n.stands.0;
        blocks = o.2;
      }

-- ---- entries
pub main_runs : (ds : List Fn) (x : SlotState) (s : State) → Represents ds x s → MainGoes x → MainRuns s
main_runs ds x s r m = let b = named_of ds x s r 0 m.main m.is in record { main = b.thread; there = b.is; unfinished = sym b.finished ∙ m.unfinished }

pub on_thread_is : (o : Option Thread) (k : Thread → Option State) (b : Thread) (r : Option State) → o ≡ Some b → b.finished ≡ false → k b ≡ r → on_thread o k ≡ r
on_thread_is o k b r e f h = ap (λ z. on_thread z k) e ∙ (ap (λ z. cond z None (k b)) f ∙ h)

-- while main hasn't finished an entry leaves what the table of entries says
pub entry_leaves : (ds : List Fn) (x : SlotState) (s u : State) (code : Code) (e : Entry) → Represents ds x s → MainGoes x → entries.entered code s e ≡ Some u → next code s e ≡ Some u
entry_leaves ds x s u code e r m h =
    let b = main_runs ds x s r m in
    on_thread_is (slice_get s.threads 0) (λ th. entries.entered code s e) b.main (Some u) b.there b.unfinished h

pub main_going : (ds : List Fn) (x : SlotState) (s : State) → Represents ds x s → MainGoes x → row.MainRuns s
main_going ds x s r m = let b = main_runs ds x s r m in (b.main, (b.there, b.unfinished))

-- thread t of the rules is there, hasn't finished, isn't blocked, and stands at this operation in this masking state
pub record AtOp (s : State) (t : ℕ) (q : Operation) (m : Mask) : Type 0 where
  pub thread : Thread
  pub running : IsRunning s t thread
  pub part : thread.term.part ≡ Performs q
  pub mask : m ≡ mask_at thread.term.frames

module _ (ds : List Fn) (x : SlotState) (s : State) (r : Represents ds x s) (t : ℕ) where
  module _ {p : SlotPart} (h : StandsAt x t p) where
    running_of : (n : Named ds x s r t h.thread) → IsRunning s t n.thread
    running_of n = record { there = n.is; unfinished = sym n.finished ∙ h.unfinished; awake = sym n.blocked ∙ h.free }

    at_op : (n : Named ds x s r t h.thread) (q : Operation) → n.thread.term.part ≡ Performs q → AtOp s t q (mask_from Unmasked h.thread.term.frames)
    at_op n q e = record { thread = n.thread; running = running_of n; part = e; mask = same_masks (has r.stacks.store) ds n.stands.1 }

  pub at_call : (c : Primitive) (vs : List V) (h : StandsAt x t (performs (calls c vs))) → AtOp s t (Calls c vs) (mask_from Unmasked h.thread.term.frames)
  at_call c vs h = let n = named_of ds x s r t h.thread h.is in at_op h n (Calls c vs) (calls_are (has r.stacks.store) ds (part_is ds x s r t h.thread n h.part))

  pub at_fork : (tree : Sa) (vs : List V) (h : StandsAt x t (performs (forks tree vs))) → (a : Core) × (env : Env) × AtOp s t (Forks a env) (mask_from Unmasked h.thread.term.frames)
  at_fork tree vs h =
      let n = named_of ds x s r t h.thread h.is in
      let c = forks_are (has r.stacks.store) ds (part_is ds x s r t h.thread n h.part) in
      (c.0, c.1, at_op h n (Forks c.0 c.1) c.2)

  pub at_fork_unmask : (tree : Sa) (vs : List V) (h : StandsAt x t (performs (forks_unmask tree vs))) → (y : Name) × (a : Core) × (env : Env) × AtOp s t (ForksUnmask y a env) (mask_from Unmasked h.thread.term.frames)
  at_fork_unmask tree vs h =
      let n = named_of ds x s r t h.thread h.is in
      let c = forks_unmask_are (has r.stacks.store) ds (part_is ds x s r t h.thread n h.part) in
      (c.0, c.1, c.2, at_op h n (ForksUnmask c.0 c.1 c.2) c.3)

  -- its Op does what the operation does
  pub op_leads : MainGoes x → (q : Operation) (m : Mask) → AtOp s t q m → (u : State) → row.Performs t m q s u → Leads (code_of ds) s (Op t) u
  op_leads main q m a u c = (entered_is {code = code_of ds} (row.operation (main_going ds x s r main) (a.running.there, a.running.unfinished) a.running.awake a.part (subst (λ k. row.Performs t k q s u) a.mask c)), tt)

-- ---- cells

-- a cell that a state shows is shown by a state with the same content and line
pub same_cell : (m : ℕ) (s u : State) (o : Option (Cell V)) → slice_get u.cells m ≡ slice_get s.cells m → line_of m u.blocked ≡ line_of m s.blocked → SameCell m s o → SameCell m u o
same_cell m s u None e l h = e ∙ h
same_cell m s u (Some c) e l h = record { content = e ∙ h.content; line = l ∙ h.line }

-- a line that thread t may leave
pub line_stays : (m t : ℕ) (s : State) (c : Cell V) → SameCell m s (Some c) → leaves_line t (line_of m s.blocked) ≡ line_of m s.blocked → leaves_line t c.line ≡ c.line
line_stays m t s c h e = subst (λ l. leaves_line t l ≡ l) h.line e
