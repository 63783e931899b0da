use Rattle.std.proofs.Common.{◌≡◌, Some, None, [], ◌∷◌, refl, sym, ap, ◌∙◌, subst}
use Rattle.hs_base.specs.declared.value.Value.{Value}
use Rattle.hs_base.specs.declared.value.Value.TheVariants as raw
use Rattle.hs_rules.specs.declared.entry.Entry.TheVariants as entry
use Rattle.frame_stack.specs.declared.control.Control.TheVariants as control
use Rattle.frame_stack.specs.declared.control.Operation.TheVariants as operation
use Rattle.rules_waiting.specs.OneCell.{Try_take, Tried_take, Gave, reply_of}
use Rattle.hs_eval.proofs.Cases.{value_of-Unit, value_of-Nothing}
use Rattle.mvar_cell.specs.Calls.{cell_at, IsCall, MayServe}
use Rattle.mvar_cell.proofs.CellLaws.{try_take_empty, is_same_call}
use Rattle.thread_table.specs.Table.{slots_of, changed, with_control}
use Rattle.world_entries.specs.declared.world.World.{World}
use Rattle.world_entries.specs.Worlds.{Makes}
use Rattle.world_entries.proofs.Answering.{told_one, told_two}
use Rattle.world_entries.proofs.Standing.{try_take_cell_is}
use Rattle.world_entries.proofs.CellEntries.{try_take_law, call_makes, putter_is_at, held_is}
use Rattle.world_entries.proofs.world.World.try_take.Goals as goal
use Rattle.world_entries.proofs.world.World.try_take.Goals.{in-Some-putter, in_default-putter}

pub content-requires : goal.content-requires
content-requires c = try_take_cell_is c.args.self.now c.requires.live c.args.t c.args.m c.requires.stands

-- an empty cell: nothing is called
pub returns-in_default-clause-ok : goal.returns-in_default-clause-ok
returns-in_default-clause-ok c =
    let w = c.args.self.now in
    let empty : (cell_at c.args.m w.cells).content ≡ None = sym c.in_default.ensures in
    call_makes w c.answer.new.self w.cells c.args.t c.args.m (Try_take c.args.t) (reply_of c.args.t (Tried_take None) ∷ [])
    (is_same_call (Try_take c.args.t) c.args.m w.cells w.cells (reply_of c.args.t (Tried_take None) ∷ []) (try_take_empty c.args.t (cell_at c.args.m w.cells) empty) refl)
    (λ b. ap (slots_of b) c.answer.ensures.list ∙ told_one b c.args.t c.args.m c.args.t raw.Nothing (Tried_take None) w.threads.list.items value_of-Nothing)
    c.answer.ensures.flight
    (λ b accepted. try_take_law w c.args.t c.args.m c.requires.goes b accepted c.requires.stands)

pub answer-requires-in-Some-putter-clause-there : goal.answer-requires-in-Some-putter-clause-there
answer-requires-in-Some-putter-clause-there c =
    let from : MayServe c.in-Some-try_take._held (Some c.in-Some-putter.putter) (cell_at c.args.m c.args.self.now.cells) = rw c.in-Some-putter.is at c.in-Some-try_take.ensures.from in
    putter_is_at c.args.self.now c.requires.live c.args.t c.args.m c.in-Some-putter.putter (operation.TryTakeMVar c.args.m) c.requires.stands c.in-Some-try_take._held from.0 from.1 c.answer-2.new.self.list.items (with_control (control.Ret c.in_ok-answer.answer)) c.answer-2.ensures.list

pub returns-clause-ok : goal.returns-clause-ok
returns-clause-ok c =
    let w : World = c.args.self.now in
    let held : Value = c.in-Some-try_take._held in
    let took = c.in-Some-try_take.ensures in
    let first = c.answer-2.ensures in
    let old = cell_at c.args.m w.cells in
    elim c.match-putter.branch [
      | in-Some-putter k ↦
          let from : MayServe held (Some k.in-Some-putter.putter) old = rw k.in-Some-putter.is at took.from in
          let call : IsCall (Try_take c.args.t) c.args.m w.cells c.try_take.new.self (reply_of c.args.t (Tried_take (Some held)) ∷ reply_of k.in-Some-putter.putter Gave ∷ []) = rw k.in-Some-putter.is at (took.call c.args.t) in
          let last = k.answer-in-Some-putter.ensures in
          let just = held_is c.in-Some.held.now held c.in_ok-answer.answer old.content c.in-Some.ensures from.1.content c.in_ok-answer.ensures in
          subst (λ s. Makes (entry.Op c.args.t) w s) (sym k.self-is)
          (call_makes w k.answer-in-Some-putter.new.self c.try_take.new.self c.args.t c.args.m (Try_take c.args.t) (reply_of c.args.t (Tried_take (Some held)) ∷ reply_of k.in-Some-putter.putter Gave ∷ []) call
          (λ b.
          ap (slots_of b) (last.list ∙ ap (changed k.in-Some-putter.putter (with_control (control.Ret raw.Unit))) first.list)
          ∙ told_two b c.args.t c.args.m c.args.t k.in-Some-putter.putter c.in_ok-answer.answer raw.Unit (Tried_take (Some held)) Gave w.threads.list.items just value_of-Unit)
          (last.flight ∙ first.flight)
          (λ b accepted. try_take_law w c.args.t c.args.m c.requires.goes b accepted c.requires.stands))
      | in_default-putter k ↦
          let from : MayServe held None old = rw k.in_default-putter.is at took.from in
          let call : IsCall (Try_take c.args.t) c.args.m w.cells c.try_take.new.self (reply_of c.args.t (Tried_take (Some held)) ∷ []) = rw k.in_default-putter.is at (took.call c.args.t) in
          let just = held_is c.in-Some.held.now held c.in_ok-answer.answer old.content c.in-Some.ensures from.content c.in_ok-answer.ensures in
          subst (λ s. Makes (entry.Op c.args.t) w s) (sym k.self-is)
          (call_makes w c.answer-2.new.self c.try_take.new.self c.args.t c.args.m (Try_take c.args.t) (reply_of c.args.t (Tried_take (Some held)) ∷ []) call
          (λ b. ap (slots_of b) first.list ∙ told_one b c.args.t c.args.m c.args.t c.in_ok-answer.answer (Tried_take (Some held)) w.threads.list.items just)
          first.flight
          (λ b accepted. try_take_law w c.args.t c.args.m c.requires.goes b accepted c.requires.stands))
    ]
