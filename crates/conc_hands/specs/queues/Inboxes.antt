-- What a clause says of an inbox and its passes.
use Rattle.std.specs.Prelude.{◌≡◌, ℕ, [], ◌∷◌, ◌++◌, Some}
use Rattle.crossbeam_queue.specs.SegTies.{IsSegPassOf}
use Rattle.rules_code.specs.declared.code.CodeBody.{CodeBody}
use Rattle.conc_hands.specs.declared.queues.view.QueueView.{QueueView}
use Rattle.conc_hands.specs.declared.queues.inbox.Inbox.{Inbox}
use Rattle.conc_hands.specs.declared.queues.inbox.InboxPass.{InboxPass}
use Rattle.conc_hands.specs.queues.QueueRule.{view_with}

module _ {S : Type 0} where
  -- the pass is of this inbox
  abbrev pub IsInboxPass : Inbox S → InboxPass S → Type 0
  IsInboxPass i p = IsSegPassOf i.queue p.pass

  abbrev pub inbox_view : InboxPass S → QueueView
  inbox_view p = p.pass.me.view.client

module _ {S : Type 0} (number : S → ℕ) (belongs : S → CodeBody) where
  -- this slice was taken out: it belongs to the code, and its ticket joins the taken ones
  abbrev pub IsTakenOut : QueueView → QueueView → S → Type 0
  IsTakenOut v w x = (Some (belongs x) ≡ v.code) × (w ≡ view_with v.code v.shares v.put (v.taken ++ number x ∷ []))
