-- What is seen of a world is so of the state that it stands for.
use Rattle.std.proofs.Common.{◌≡◌, ℕ, zero, suc, ◌+◌, List, [], ◌∷◌, length, Bool, true, false, cond, Option, Some, None, option_map, slice_get, is_some, refl, sym, ap, ◌∙◌, subst, arith}
use Rattle.hs_base.specs.declared.value.Value.{Value}
use Rattle.hs_base.specs.declared.mask.Mask.{Mask}
use Rattle.hs_base.specs.declared.mask.Mask.TheVariants.{Unmasked}
use Rattle.rules_expansion.specs.trees.Trees.{T}
use Rattle.rules_expansion.specs.trees.Programs.{Fn}
use Rattle.rules_sorts.specs.Sorts.{Sort}
use Rattle.rules_code.specs.declared.code.CodeBody.{CodeBody}
use Rattle.rules_meaning.specs.Values.{V, value_of}
use Rattle.rules_meaning.specs.Values as val
use Rattle.rules_expansion.specs.declared.primitive.Primitive.{Primitive}
use Rattle.rules_expansion.specs.declared.primitive.Primitive.TheVariants.{TakeMVar, PutMVar, ReadMVar, ThreadDelay, ThrowTo}
use Rattle.rules_waiting.specs.OneCell.{Cell}
use Rattle.rules_waiting.specs.Waiting.{Reason, Taking, Reading, Putting, Throwing, Sleeping, is_blocked, reason_of, flying_to, first_thrown}
use Rattle.exn_flight.specs.Asleep.{due_of}
use Rattle.slot_states.specs.mapping.Mapped.{map_some, map_cell}
use Rattle.hs_rules.specs.Terms.{Part, Ret, Throw, Do, Performs, Operation, Calls, Forks, ForksUnmask, mask_at}
use Rattle.hs_rules.specs.State as rules
use Rattle.hs_rules.specs.State.{State}
use Rattle.hs_rules.specs.declared.entry.Entry.{Entry}
use Rattle.hs_rules.specs.declared.entry.Entry.TheVariants as entry
use Rattle.hs_laws.specs.BracketPhases.{Blocks, OpPart}
use Rattle.hs_laws.specs.Standing.{Standing}
use Rattle.hs_laws.proofs.Stranding.{blocked_reason, reason_blocked}
use Rattle.slot_laws.specs.SlotRules.{SlotPart, SlotOp, calls, forks, forks_unmask, ret, throw, doing, performs}
use Rattle.slot_laws.specs.Standing.{PartStands, ret_stands, throw_stands, do_stands, op_stands, calls_stands, forks_stands, forks_unmask_stands, StandsIn}
use Rattle.slot_states.specs.SlotStates.{term_at, SameThread, SameCell, Represents}
use Rattle.slot_states.proofs.Asleep.{due_until}
use Rattle.slot_states.proofs.Reading.{same_masks}
use Rattle.local_steps.specs.Frames.{mask_inside}
use Rattle.local_steps.proofs.Codes.{masks_inside}
use Rattle.frame_stack.specs.declared.control.Control.{Control}
use Rattle.frame_stack.specs.declared.control.Control.TheVariants as c
use Rattle.frame_stack.specs.declared.control.Operation as control
use Rattle.frame_stack.specs.declared.control.Operation.TheVariants as o
use Rattle.frame_stack.specs.Parts.{op_of, part_of}
use Rattle.thread_table.specs.declared.thread.Thread.{Thread}
use Rattle.thread_table.specs.Table.{slot_of}
use Rattle.thread_table.proofs.Table.{slots_at, slots_count}
use Rattle.world_entries.proofs.CellsOf.{cells_count, cells_at}
use Rattle.world_entries.specs.declared.world.World.{World}
use Rattle.world_entries.specs.Worlds.{state_of}
use Rattle.lane_picture.specs.declared.film.Deed.{Deed}
use Rattle.lane_picture.specs.declared.film.Deed.TheVariants as deed
use Rattle.lane_picture.specs.declared.film.Doing.{Doing}
use Rattle.lane_picture.specs.declared.film.Doing.TheVariants as does
use Rattle.lane_picture.specs.declared.film.Event.{Event}
use Rattle.lane_picture.specs.declared.film.Event.TheVariants as event
use Rattle.lane_picture.specs.declared.film.Pose.{Pose}
use Rattle.trace_picture.specs.film.Filming.{doing_for, pose_of, poses_from, poses_of, fulls_of, primitive_deed, operation_event, end_event, by_part, receive_event, event_of}
use Rattle.trace_picture.specs.Looking.{asleep_until, operation_doing, control_doing, thread_doing, pose_at, poses_at, fulls_at, operation_deed, operates, ends, by_control, event_at}

-- ---- what a thread waits for that stands at an operation

abbrev pub first_cell : (ℕ → Doing) → List V → Doing
first_cell f (val.Cell m ∷ vs) = f m
first_cell f _ = does.Running

abbrev pub first_thread : (ℕ → Doing) → List V → Doing
first_thread f (val.Thread u ∷ vs) = f u
first_thread f _ = does.Running

abbrev pub primitive_doing : Option ℕ → Primitive → List V → Doing
primitive_doing due TakeMVar vs = first_cell (λ m. does.Taking m) vs
primitive_doing due ReadMVar vs = first_cell (λ m. does.Reading m) vs
primitive_doing due PutMVar vs = first_cell (λ m. does.Putting m) vs
primitive_doing due ThrowTo vs = first_thread (λ u. does.Throwing u) vs
primitive_doing due ThreadDelay vs = asleep_until due
primitive_doing due _ vs = does.Running

abbrev pub slot_op_doing : Option ℕ → SlotOp → Doing
slot_op_doing due (calls p vs) = primitive_doing due p vs
slot_op_doing due (forks a vs) = does.Running
slot_op_doing due (forks_unmask a vs) = does.Running

abbrev pub slot_doing : Option ℕ → SlotPart → Doing
slot_doing due (performs p) = slot_op_doing due p
slot_doing due (ret v) = does.Running
slot_doing due (throw e) = does.Running
slot_doing due (doing a vs) = does.Running

abbrev pub part_doing : Option ℕ → Part → Doing
part_doing due (Performs (Calls p vs)) = primitive_doing due p vs
part_doing due (Performs (Forks a env)) = does.Running
part_doing due (Performs (ForksUnmask r a env)) = does.Running
part_doing due (Ret v) = does.Running
part_doing due (Throw e) = does.Running
part_doing due (Do a env) = does.Running

operation_same : (b : CodeBody) (due : Option ℕ) (p : control.Operation) → operation_doing due p ≡ slot_op_doing due (op_of b p)
operation_same b due (o.TakeMVar m) = refl
operation_same b due _ = refl

control_same : (b : CodeBody) (due : Option ℕ) (k : Control) → control_doing due k ≡ slot_doing due (part_of b k)
control_same b due (c.Doing i vs) = refl
control_same b due (c.Ret v) = refl
control_same b due (c.Throw e) = refl
control_same b due (c.Op p) = operation_same b due p

part_same : {cells : ℕ → T → Type 0} {ds : List Fn} {p : SlotPart} {q : Part} {k : Sort} → (due : Option ℕ) → PartStands cells ds p q k → slot_doing due p ≡ part_doing due q
part_same due (ret_stands h) = refl
part_same due throw_stands = refl
part_same due (do_stands h) = refl
part_same due (op_stands (calls_stands a h)) = refl
part_same due (op_stands (forks_stands h)) = refl
part_same due (op_stands (forks_unmask_stands h)) = refl

-- who is blocked stands at the operation that blocked it
op_waits : (due : Option ℕ) (r : Reason V) (op : Operation) → Blocks r op → ((at : ℕ) → r ≡ Sleeping at → due ≡ Some at) → part_doing due (Performs op) ≡ doing_for (Some r)
op_waits due (Taking m) op e h = ap (λ x. part_doing due (Performs x)) e
op_waits due (Reading m) op e h = ap (λ x. part_doing due (Performs x)) e
op_waits due (Putting m a) op e h = ap (λ x. part_doing due (Performs x)) e
op_waits due (Throwing u x) op e h = ap (λ z. part_doing due (Performs z)) e
op_waits due (Sleeping at) op e h = ap (λ x. part_doing due (Performs x)) e.1 ∙ ap asleep_until (h at refl)

part_waits : (due : Option ℕ) (r : Reason V) (q : Part) → OpPart (Blocks r) q → ((at : ℕ) → r ≡ Sleeping at → due ≡ Some at) → part_doing due q ≡ doing_for (Some r)
part_waits due r (Performs op) b h = op_waits due r op b h
part_waits due r (Ret v) b h = absurd b
part_waits due r (Throw e) b h = absurd b
part_waits due r (Do a env) b h = absurd b

-- ---- what an operation does

abbrev pub slot_deed : SlotOp → Deed
slot_deed (calls p vs) = primitive_deed p vs
slot_deed (forks a vs) = deed.Forks
slot_deed (forks_unmask a vs) = deed.Forks

abbrev pub slot_operates : ℕ → SlotPart → Event
slot_operates t (performs p) = event.Does t (slot_deed p)
slot_operates t (ret v) = event.Nothing
slot_operates t (throw e) = event.Nothing
slot_operates t (doing a vs) = event.Nothing

abbrev pub slot_ends : ℕ → SlotPart → Event
slot_ends t (performs p) = event.Nothing
slot_ends t (ret v) = event.Returns t
slot_ends t (throw e) = event.Fails t e
slot_ends t (doing a vs) = event.Nothing

deed_same : (b : CodeBody) (p : control.Operation) → operation_deed p ≡ slot_deed (op_of b p)
deed_same b (o.TakeMVar m) = refl
deed_same b _ = refl

operates_same : (b : CodeBody) (t : ℕ) (k : Control) → operates t k ≡ slot_operates t (part_of b k)
operates_same b t (c.Doing i vs) = refl
operates_same b t (c.Ret v) = refl
operates_same b t (c.Throw e) = refl
operates_same b t (c.Op p) = ap (λ d. event.Does t d) (deed_same b p)

ends_same : (b : CodeBody) (t : ℕ) (k : Control) → ends t k ≡ slot_ends t (part_of b k)
ends_same b t (c.Doing i vs) = refl
ends_same b t (c.Ret v) = refl
ends_same b t (c.Throw e) = refl
ends_same b t (c.Op p) = refl

part_operates : {cells : ℕ → T → Type 0} {ds : List Fn} {p : SlotPart} {q : Part} {k : Sort} → (t : ℕ) → PartStands cells ds p q k → slot_operates t p ≡ operation_event t q
part_operates t (ret_stands h) = refl
part_operates t throw_stands = refl
part_operates t (do_stands h) = refl
part_operates t (op_stands (calls_stands a h)) = refl
part_operates t (op_stands (forks_stands h)) = refl
part_operates t (op_stands (forks_unmask_stands h)) = refl

part_ends : {cells : ℕ → T → Type 0} {ds : List Fn} {p : SlotPart} {q : Part} {k : Sort} → (t : ℕ) → PartStands cells ds p q k → slot_ends t p ≡ end_event t q
part_ends t (ret_stands h) = refl
part_ends t throw_stands = refl
part_ends t (do_stands h) = refl
part_ends t (op_stands h) = refl

-- ---- a thread

pose_same : (f g : Bool) (d e : Doing) (m n : Mask) → f ≡ g → d ≡ e → m ≡ n →
    cond {A = Option Pose} f None (Some (record { doing = d; mask = m })) ≡ cond g None (Some (record { doing = e; mask = n }))
pose_same f g d e m n p q r = λ i. cond {A = Option Pose} (p i) None (Some (record { doing = q i; mask = r i }))

module _ (ds : List Fn) (b : CodeBody) (w : World) (s : State) (r : Represents ds (state_of b w) s) where
  module _ (t : ℕ) where
    abbrev Stood : Option Thread → Option rules.Thread → Type 0
    Stood x y = SameThread (option_map (slot_of b) x) y (is_blocked t s.blocked) × ((th : rules.Thread) → y ≡ Some th → StandsIn ds r.stacks.store t (term_at (option_map (slot_of b) x)) th.term)

    stood : Stood (slice_get w.threads.list.items t) (slice_get s.threads t)
    stood =
        let e = slots_at b w.threads.list.items t in
        (subst (λ z. SameThread z (slice_get s.threads t) (is_blocked t s.blocked)) e (r.agrees.threads t), λ th is. subst (λ z. StandsIn ds r.stacks.store t (term_at z) th.term) e (r.stacks.stands t th is))

    stood_at : (f : Thread) (th : rules.Thread) → slice_get w.threads.list.items t ≡ Some f → slice_get s.threads t ≡ Some th → Stood (Some f) (Some th)
    stood_at f th x y = subst (λ z. Stood z (Some th)) x (subst (λ z. Stood (slice_get w.threads.list.items t) z) y stood)

    -- what the sleepers say
    due_here : Standing s → (at : ℕ) → reason_of t s.blocked ≡ Some (Sleeping at) → due_of t w.sleepers.list ≡ Some at
    due_here h at e = ap (due_of t) r.agrees.sleepers ∙ due_until t at s.blocked h.once e

    module _ (h : Standing s) (f : Thread) (th : rules.Thread) (there : slice_get s.threads t ≡ Some th) (k : Stood (Some f) (Some th)) where
      waiting : (q : Reason V) → reason_of t s.blocked ≡ Some q → control_doing (due_of t w.sleepers.list) f.stack.control ≡ doing_for (Some q)
      waiting q e =
          let z = h.blocked t q e in
          let same : z.thread ≡ th = let y : ◌≡◌ {A = Option rules.Thread} (Some z.thread) (Some th) = sym z.is ∙ there in cc y in
          control_same b (due_of t w.sleepers.list) f.stack.control
          ∙ (part_same (due_of t w.sleepers.list) (k.1 th refl).0
          ∙ part_waits (due_of t w.sleepers.list) q th.term.part (subst (λ (x : rules.Thread). OpPart (Blocks q) x.term.part) same z.part) (λ at is. due_here h at (e ∙ ap Some is)))

      doing_by : (reason : Option (Reason V)) → reason_of t s.blocked ≡ reason → (blocked : Bool) → is_blocked t s.blocked ≡ blocked → cond blocked (control_doing (due_of t w.sleepers.list) f.stack.control) does.Running ≡ doing_for reason
      doing_by None e false is = refl
      doing_by None e true is = let z = blocked_reason t s.blocked is in let y : ◌≡◌ {A = Option (Reason V)} None (Some z.0) = sym e ∙ z.1 in absurd (cc y)
      doing_by (Some q) e true is = waiting q e
      doing_by (Some q) e false is = let y : true ≡ false = sym (reason_blocked t s.blocked q e) ∙ is in absurd (cc y)

      doing_shown : thread_doing w t f ≡ doing_for (reason_of t s.blocked)
      doing_shown =
          ap (λ z. cond z (control_doing (due_of t w.sleepers.list) f.stack.control) does.Running) k.0.1
          ∙ doing_by (reason_of t s.blocked) refl (is_blocked t s.blocked) refl

      mask_shown : mask_inside Unmasked f.stack.frames ≡ mask_at th.term.frames
      mask_shown = masks_inside b Unmasked f.stack.frames ∙ same_masks _ ds (k.1 th refl).1

      pose_shown : pose_at w t f ≡ pose_of s t th
      pose_shown = pose_same f.finished th.finished (thread_doing w t f) (doing_for (reason_of t s.blocked)) (mask_inside Unmasked f.stack.frames) (mask_at th.term.frames) k.0.0 doing_shown mask_shown

    operates_by : (x : Option Thread) (y : Option rules.Thread) → Stood x y → by_control (operates t) x ≡ by_part (operation_event t) y
    operates_by None None h = refl
    operates_by None (Some th) h = absurd h.0
    operates_by (Some f) None h = absurd h.0
    operates_by (Some f) (Some th) h = operates_same b t f.stack.control ∙ part_operates t (h.1 th refl).0

    ends_by : (x : Option Thread) (y : Option rules.Thread) → Stood x y → by_control (ends t) x ≡ by_part (end_event t) y
    ends_by None None h = refl
    ends_by None (Some th) h = absurd h.0
    ends_by (Some f) None h = absurd h.0
    ends_by (Some f) (Some th) h = ends_same b t f.stack.control ∙ part_ends t (h.1 th refl).0

  -- ---- all threads
  lists_same : (n : ℕ) (xs : List Thread) (ys : List rules.Thread) → length xs ≡ length ys →
      ((k : ℕ) (x : Thread) (y : rules.Thread) → slice_get xs k ≡ Some x → slice_get ys k ≡ Some y → (m : ℕ) → m ≡ n + k → pose_at w m x ≡ pose_of s m y) →
      poses_at w n xs ≡ poses_from s n ys
  lists_same n [] [] e h = refl
  lists_same n [] (y ∷ ys) e h = absurd (cc e)
  lists_same n (x ∷ xs) [] e h = absurd (cc e)
  lists_same n (x ∷ xs) (y ∷ ys) e h =
      ap (λ z. z ∷ poses_at w (n + 1) xs) (h zero x y refl refl n (omega arith))
      ∙ ap (λ z. pose_of s n y ∷ z) (lists_same (n + 1) xs ys (omega (arith, e)) (λ k a c p q m is. h (suc k) a c p q m (omega (arith, is))))

  pub poses_shown : Standing s → poses_at w 0 w.threads.list.items ≡ poses_of s
  poses_shown h =
      lists_same 0 w.threads.list.items s.threads (sym (slots_count b w.threads.list.items) ∙ r.agrees.count)
      (λ k x y p q m is. let e : m ≡ k = omega (arith, is) in subst (λ z. pose_at w z x ≡ pose_of s z y) (sym e) (pose_shown k h x y q (stood_at k x y p q)))

  -- ---- an entry
  pub event_shown : (e : Entry) → event_at e w ≡ event_of e s
  event_shown (entry.Local t k) = refl
  event_shown (entry.Op t) = operates_by t (slice_get w.threads.list.items t) (slice_get s.threads t) (stood t)
  event_shown (entry.Receive t) = ap (λ fs. receive_event t (first_thrown (flying_to t fs))) r.agrees.flight
  event_shown (entry.Wake t) = refl
  event_shown (entry.Finish t) = ends_by t (slice_get w.threads.list.items t) (slice_get s.threads t) (stood t)
  event_shown (entry.Tick moment) = refl
  event_shown entry.Stranded = refl

-- ---- cells

full_mapped : (x : Option Value) → is_some x ≡ is_some (map_some value_of x)
full_mapped None = refl
full_mapped (Some v) = refl

fulls_same : (xs : List (Cell Value)) (ys : List (Option V)) → length xs ≡ length ys →
    ((k : ℕ) (x : Cell Value) (y : Option V) → slice_get xs k ≡ Some x → slice_get ys k ≡ Some y → y ≡ map_some value_of x.content) →
    fulls_at xs ≡ fulls_of ys
fulls_same [] [] e h = refl
fulls_same [] (y ∷ ys) e h = absurd (cc e)
fulls_same (x ∷ xs) [] e h = absurd (cc e)
fulls_same (x ∷ xs) (y ∷ ys) e h =
    ap (λ z. z ∷ fulls_at xs) (full_mapped x.content ∙ ap is_some (sym (h zero x y refl refl)))
    ∙ ap (λ z. is_some y ∷ z) (fulls_same xs ys (omega (arith, e)) (λ k. h (suc k)))

module _ (ds : List Fn) (b : CodeBody) (w : World) (s : State) (r : Represents ds (state_of b w) s) where
  content_shown : (k : ℕ) (x : Cell Value) (y : Option V) → slice_get w.cells.cells k ≡ Some x → slice_get s.cells k ≡ Some y → y ≡ map_some value_of x.content
  content_shown k x y p q =
      let shown : SameCell k s (option_map (map_cell value_of) (slice_get w.cells.cells k)) = subst (SameCell k s) (cells_at w.cells.cells k) (r.agrees.cells k) in
      let here : SameCell k s (Some (map_cell value_of x)) = subst (λ z. SameCell k s (option_map (map_cell value_of) z)) p shown in
      let both : ◌≡◌ {A = Option (Option V)} (Some y) (Some (map_some value_of x.content)) = sym q ∙ here.content in
      cc both

  pub fulls_shown : fulls_at w.cells.cells ≡ fulls_of s.cells
  fulls_shown = fulls_same w.cells.cells s.cells (sym (cells_count w.cells.cells) ∙ r.agrees.made) content_shown
