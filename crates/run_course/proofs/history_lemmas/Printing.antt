-- What an act prints, by its thread's control.
use Rattle.std.proofs.Common.{◌≡◌, ◌<◌, ◌≤◌, ℕ, List, [], length, get_or, Option, Some, None, option_map, refl, sym, ap, ◌∙◌, subst, slice_get}
use Rattle.std.proofs.lemmas.Option.{slice_get_read, slice_get_past}
use Rattle.rules_code.specs.declared.code.CodeBody.{CodeBody}
use Rattle.slot_states.specs.Growing.{performed, op_of, doer}
use Rattle.slot_states.specs.Printing.{output_of, errors_of, line_by, part_output, part_errors, end_line, output_by, errors_by}
use Rattle.frame_stack.specs.Parts.{part_of}
use Rattle.thread_table.specs.declared.thread.Thread.{Thread}
use Rattle.thread_table.specs.Table.{slot_of}
use Rattle.thread_table.proofs.Table.{slots_at, slots_is}
use Rattle.world_entries.specs.declared.world.World.{World}
use Rattle.world_entries.specs.Worlds.{state_of}
use Rattle.run_course.specs.declared.history.acts.NextEntry.{NextEntry}
use Rattle.run_course.specs.declared.history.acts.NextEntry.TheVariants as act
use Rattle.run_course.specs.declared.history.pieces.PrintedPiece.{PrintedPiece}
use Rattle.run_course.specs.history.Acts.{entry_of}
use Rattle.run_course.specs.history.Pieces.{IsPiece}

-- ---- the thread at a number, as a lookup gives it
pub there : (xs ys : List Thread) (t : ℕ) (th : Thread) → xs ≡ ys → t < length xs → th ≡ get_or xs t th → slice_get ys t ≡ Some th
there xs ys t th e lt is = ap (λ zs. slice_get zs t) (sym e) ∙ slice_get_read xs (length xs) t th refl lt is

pub absent : (xs ys : List Thread) (t : ℕ) → xs ≡ ys → length xs ≤ t → slice_get ys t ≡ None
absent xs ys t e le = ap (λ zs. slice_get zs t) (sym e) ∙ slice_get_past xs t le

-- ---- what it prints
pub same_piece : (p : Option PrintedPiece) (a b c d : List ℕ) → c ≡ a → d ≡ b → IsPiece p a b → IsPiece p c d
same_piece p a b c d x y h = subst (λ z. IsPiece p z d) (sym x) (subst (IsPiece p a) (sym y) h)

module _ (w : World) (a : NextEntry) (t : ℕ) where
  module _ (is : a ≡ act.Op t) where
    pub op_output : (th : Thread) → slice_get w.threads.list.items t ≡ Some th → (b : CodeBody) → output_by (state_of b w) (entry_of a) ≡ output_of (part_of b th.stack.control)
    op_output th e b = ap (λ z. output_by (state_of b w) (entry_of z)) is ∙ ap part_output (slots_is b w.threads.list.items t th e)

    pub op_errors : (th : Thread) → slice_get w.threads.list.items t ≡ Some th → (b : CodeBody) → errors_by (state_of b w) (entry_of a) ≡ errors_of (part_of b th.stack.control)
    op_errors th e b = ap (λ z. errors_by (state_of b w) (entry_of z)) is ∙ ap part_errors (slots_is b w.threads.list.items t th e)

    pub op_nothing : slice_get w.threads.list.items t ≡ None → (b : CodeBody) → (output_by (state_of b w) (entry_of a) ≡ []) × (errors_by (state_of b w) (entry_of a) ≡ [])
    op_nothing e b = (
      ap (λ z. output_by (state_of b w) (entry_of z)) is ∙ ap part_output (slots_at b w.threads.list.items t ∙ ap (option_map (slot_of b)) e),
      ap (λ z. errors_by (state_of b w) (entry_of z)) is ∙ ap part_errors (slots_at b w.threads.list.items t ∙ ap (option_map (slot_of b)) e),
    )

    -- and the operation that it performs
    pub act_op : (th : Thread) → slice_get w.threads.list.items t ≡ Some th → (b : CodeBody) → op_of (doer (state_of b w) (entry_of a)) ≡ performed (part_of b th.stack.control)
    act_op th e b = ap (λ z. op_of (doer (state_of b w) (entry_of z))) is ∙ ap op_of (slots_is b w.threads.list.items t th e)

    pub act_none : slice_get w.threads.list.items t ≡ None → (b : CodeBody) → op_of (doer (state_of b w) (entry_of a)) ≡ None
    act_none e b = ap (λ z. op_of (doer (state_of b w) (entry_of z))) is ∙ ap op_of (slots_at b w.threads.list.items t ∙ ap (option_map (slot_of b)) e)

  module _ (is : a ≡ act.Finish t) where
    pub finish_output : (b : CodeBody) → output_by (state_of b w) (entry_of a) ≡ []
    finish_output b = ap (λ z. output_by (state_of b w) (entry_of z)) is

    pub finish_errors : (th : Thread) → slice_get w.threads.list.items t ≡ Some th → (b : CodeBody) → errors_by (state_of b w) (entry_of a) ≡ line_by t (part_of b th.stack.control)
    finish_errors th e b = ap (λ z. errors_by (state_of b w) (entry_of z)) is ∙ ap (end_line t) (slots_is b w.threads.list.items t th e)

    pub finish_nothing : slice_get w.threads.list.items t ≡ None → (b : CodeBody) → (output_by (state_of b w) (entry_of a) ≡ []) × (errors_by (state_of b w) (entry_of a) ≡ [])
    finish_nothing e b = (finish_output b, ap (λ z. errors_by (state_of b w) (entry_of z)) is ∙ ap (end_line t) (slots_at b w.threads.list.items t ∙ ap (option_map (slot_of b)) e))
