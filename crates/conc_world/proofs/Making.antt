-- The job of a thread that is to do an action.
use Rattle.std.specs.Prelude.{slice_get}
use Rattle.std.proofs.Common.{◌≡◌, ◌∙◌, ℕ, [], Some, ap, get_or, subst, sym}
use Rattle.std.proofs.lemmas.Option.{get_or_from_slice_get}
use Rattle.hs_base.specs.declared.mask.Mask.{Mask}
use Rattle.hs_base.specs.declared.mask.Mask.TheVariants.{Unmasked}
use Rattle.rules_code.specs.declared.code.CodeBody.{CodeBody}
use Rattle.local_steps.specs.Frames.{mask_inside}
use Rattle.frame_stack.specs.declared.control.Control.{Control}
use Rattle.frame_stack.specs.Parts.{part_of}
use Rattle.frame_stack.specs.Slicing.{IsDoing, MayGo}
use Rattle.thread_table.specs.declared.thread.Thread.{Thread}
use Rattle.thread_table.specs.Listing.{Goes}
use Rattle.thread_table.specs.Table.{IsAt}
use Rattle.run_course.specs.declared.history.record.Record.{Record}
use Rattle.run_course.proofs.history_lemmas.Goers.{doing_is, may_go}

-- th is what was read at the number of a thread that is to do an action
module _ (r : Record) (t : ℕ) (goer : IsAt t Goes r.world.threads.list.items) (th : Thread) (read : th ≡ get_or r.world.threads.list.items t th) where
  pub read_is : th ≡ goer.thread
  read_is = read ∙ get_or_from_slice_get r.world.threads.list.items t goer.thread th goer.is

  pub read_at : slice_get r.world.threads.list.items t ≡ Some th
  read_at = goer.is ∙ ap (λ (x : Thread). Some x) (sym read_is)

  pub read_goes : Goes th
  read_goes = subst Goes (sym read_is) goer.holds

  pub read_doing : IsDoing th.stack.control
  read_doing = doing_is th.stack.control read_goes.2

  pub may_do : (b : CodeBody) (m : Mask) (start : Control) → b ≡ r.of.value → m ≡ mask_inside Unmasked th.stack.frames → start ≡ th.stack.control → ∥ MayGo b m (part_of b start) [] ∥₁
  may_do b m start code mask at =
      subst (λ (y : CodeBody). ∥ MayGo y m (part_of y start) [] ∥₁) (sym code)
      (subst (λ (y : Mask). ∥ MayGo r.of.value y (part_of r.of.value start) [] ∥₁) (sym mask)
      (subst (λ (y : Control). ∥ MayGo r.of.value (mask_inside Unmasked th.stack.frames) (part_of r.of.value y) [] ∥₁) (sym at) (may_go r t th read_at read_goes)))
