-- What one turn of a desk alone comes to: a thread is ready, its slice is accepted, and the history has more steps.
use Rattle.std.specs.Prelude.{Result, Ok, Err, OnOk}
use Rattle.std.specs.Option.{is_some}
use Rattle.std.proofs.Common.{◌≡◌, ◌++◌, [], ◌⊎◌, inl, inr, ◌<◌, ◌≤◌, ℕ, List, Option, Some, None, IsSome, arith, refl, sym, ap, ◌∙◌, subst, slice_get, false, append-nil, append_assoc}
use Rattle.hs_base.specs.declared.no_memory.NoMemory.{NoMemory}
use Rattle.rules_code.specs.declared.code.CodeBody.{CodeBody}
use Rattle.hs_rules.specs.declared.entry.Entry.{Entry}
use Rattle.hs_rules.specs.declared.entry.Entry.TheVariants as entry
use Rattle.hs_rules.specs.Histories.{steps_of}
use Rattle.hs_rules.proofs.Histories.{steps_of_append, steps_of_last}
use Rattle.slot_states.specs.SlotStates.{SlotThread}
use Rattle.slot_states.specs.Resting as rest
use Rattle.slot_states.specs.Resting.{IsDoing}
use Rattle.frame_stack.specs.declared.job.Job.{Job}
use Rattle.frame_stack.specs.declared.sliced.Slice.{Slice}
use Rattle.thread_table.specs.Listing.{Goes}
use Rattle.thread_table.specs.Table.{IsAt}
use Rattle.thread_table.proofs.Slots.{slot_back}
use Rattle.world_entries.specs.declared.world.World.{World}
use Rattle.world_entries.specs.Worlds.{state_of, Starts}
use Rattle.run_course.specs.declared.history.record.Record.{Record}
use Rattle.run_course.specs.history.Records.{Same}
use Rattle.run_course.proofs.history_lemmas.Controls.{part_doing}
use Rattle.run_course.specs.declared.ends.RunEnd.{RunEnd}
use Rattle.run_course.specs.Settled.{Accepted, Begins, IsAtRest, OnlyGoes}
use Rattle.conc_world.specs.declared.tickets.tickets.Tickets.{Tickets}
use Rattle.conc_world.specs.tickets.Jobs.{thread_of}
use Rattle.conc_world.specs.tickets.Out.{ticket_of}
use Rattle.conc_world.specs.Jobs.{left, AllOut, IsJob, NoneOut}

-- ---- a thread that is to do an action has no job out where none is

-- the thread that goes in the state with slots
goer : (b : CodeBody) (w : World) (t : ℕ) → rest.Goes (state_of b w) t → IsAt t Goes w.threads.list.items
goer b w t g =
    let s = slot_back b w.threads.list.items t g.thread g.is in
    record {
      thread = s.0;
      is = s.1;
      holds = (
        ap (λ (z : SlotThread). z.finished) s.2 ∙ g.unfinished,
        ap (λ (z : SlotThread). z.blocked) s.2 ∙ g.free,
        part_doing b s.0.stack.control (subst (λ (z : SlotThread). IsDoing z.term.part) (sym s.2) g.does),
      );
    }

no_ticket : (s : Tickets) → NoneOut s → (t : ℕ) → IsSome (ticket_of s t) → ⊥
no_ticket s none t some = by (ticket_of s t) refl some
  where
    by : (o : Option ℕ) → ticket_of s t ≡ o → IsSome o → ⊥
    by None e h = absurd (cc h)
    by (Some k) e h = let z : None ≡ Some t = sym (ap thread_of (none k)) ∙ (s.mirror k t).1 e in absurd (cc z)

-- at rest without an ending nothing is left but slices
pub only_goes : (ended : Option RunEnd) (r : Record) → IsAtRest ended r → is_some ended ≡ false → OnlyGoes r
only_goes None r rests none = rests.0
only_goes (Some x) r rests none = absurd (cc none)

-- where nothing is left but slices, and no job is out, a thread is ready for one
pub some_is_ready : (old new : Record) (s : Tickets) → OnlyGoes old → Same old new → NoneOut s → AllOut s new → ⊥
some_is_ready old new s rests same none all =
    let some = rests.some in
    let g = subst (λ x. rest.Goes x some.0) (sym (same.world old.of.value)) (some.1 old.of.value) in
    no_ticket s none some.0 (all some.0 (goer old.of.value new.world some.0 g))

-- ---- the slice of a job starts where its thread stands, and is within the fuel

pub job_starts : (s : Slice) (j : Job) (r : Record) → IsJob j r → s.tid ≡ j.tid → s.start ≡ j.start → s.mask ≡ j.mask → Starts s r.world
job_starts s j r is tid start mask = record {
  thread = is.thread;
  is = subst (λ t. slice_get r.world.threads.list.items t ≡ Some is.thread) (sym tid) is.is;
  unfinished = is.goes.0;
  free = is.goes.1;
  control = sym (start ∙ is.start);
  mask = sym (mask ∙ is.mask);
}

pub job_within : (s : Slice) (j : Job) (r : Record) → IsJob j r → s.steps ≤ j.budget → s.steps ≤ left r
job_within s j r is steps =
    let budget = is.budget in
    omega (arith, budget, steps)

-- ---- what became of it

-- what is there after: the history has more steps, or there is an ending
abbrev pub Went : Option RunEnd → Record → Record → Type 0
Went ended old new = IsSome ended ⊎ (steps_of old.history.list < steps_of new.history.list)

has_end : (o : Option RunEnd) (x : RunEnd) → o ≡ Some x → IsSome o
has_end o x e = subst IsSome (sym e) refl

accepted_more : (s : Slice) (ended : Option RunEnd) (old new : Record) → Accepted s ended old new → Went ended old new
accepted_more s ended old new (inl h) =
    let k = ap steps_of h.0.history ∙ steps_of_last old.history.list (entry.Local s.tid s.steps) in
    let some = s.some in
    inr (omega (arith, k, some))
accepted_more s ended old new (inr h) = inl (has_end ended _ h.1)

-- ---- the history begins with the one before

begins_again : (a b c : List Entry) → Begins a b → Begins b c → Begins a c
begins_again a b c x y = (x.0 ++ y.0, y.1 ∙ (ap (λ z. z ++ y.0) x.1 ∙ append_assoc a x.0 y.0))

pub begins_alike : (old new : List Entry) → new ≡ old → Begins old new
begins_alike old new e = ([], e ∙ sym (append-nil old))

-- ---- the calls of a turn, one after the other

pub three_begin : (a b c d : Record) → Begins a.history.list b.history.list → c.history.list ≡ b.history.list → Begins c.history.list d.history.list → Begins a.history.list d.history.list
three_begin a b c d x y z =
    begins_again a.history.list b.history.list d.history.list x
    (begins_again b.history.list c.history.list d.history.list (begins_alike b.history.list c.history.list y) z)

-- no history that begins with another has fewer steps
begins_most : (a b : List Entry) → Begins a b → steps_of a ≤ steps_of b
begins_most a b h =
    let k = ap steps_of h.1 ∙ steps_of_append a h.0 in
    omega (arith, k)

three_more : (a b c d : Record) (ended : Option RunEnd) → Begins a.history.list b.history.list → Same b c → Went ended c d → Went ended a d
three_more a b c d ended x y (inl e) = inl e
three_more a b c d ended x y (inr less) =
    let most = begins_most a.history.list b.history.list x in
    let same = ap steps_of y.history in
    inr (omega (arith, less, most, same))

-- a turn that ends by a slice
pub slice_more : (a b c d : Record) (s : Slice) (ended : Option RunEnd) (result : Result Unit NoMemory) → Begins a.history.list b.history.list → Same b c
    → OnOk result (Accepted s ended c d) → OnOk result (Went ended a d)
slice_more a b c d s ended (Ok u) x y h = three_more a b c d ended x y (accepted_more s ended c d h)
slice_more a b c d s ended (Err e) x y h = h
