-- A put after the readers were answered, at an empty cell and at a full one.
use Rattle.std.proofs.Common.{◌≡◌, ◌≢◌, ℕ, ◌<◌, true, List, [], ◌++◌, length, Option, Some, None, slice_index_or, slice_set, refl, sym, ap, ◌∙◌, subst}
use Rattle.hs_base.specs.declared.value.Value.{Value}
use Rattle.rules_waiting.specs.OneCell.{Cell, Call, Put, Try_put, Reply, made, call, shown, stands_in, readers}
use Rattle.mvar_cell.specs.Mvars.{Mvars}
use Rattle.mvar_cell.specs.Calls.{cell_at, IsCall, IsEmpty}
use Rattle.mvar_cell.specs.Readers.{AreAllReaders}
use Rattle.mvar_cell.proofs.Served.{all_out, put_after, try_put_after}
use Rattle.hs_laws.proofs.Lists.{Ones}
use Rattle.world_entries.specs.Reading.{FullUnread}
use Rattle.world_entries.proofs.Readers.{taker_stands, stood_before_all, left_apart}

same_call : (q : Call Value) (m : ℕ) (old mid new : Mvars) (rs : List (Reply Value)) → mid.cells ≡ old.cells → IsCall q m mid new rs → IsCall q m old new rs
same_call q m old mid new rs e h =
    record {
      answers = ap (λ cs. (call q (slice_index_or cs m (made None))).replies) (sym e) ∙ h.answers;
      cells = h.cells ∙ ap (λ cs. slice_set cs m (call q (slice_index_or cs m (made None))).cell) e;
    }

module _ (m : ℕ) (old mid new : Mvars) (rs : List (Reply Value)) (lt : m < length old.cells) (unread : FullUnread m old) (all : AreAllReaders (readers (cell_at m old).line) m old mid) where
  full_call : (q : Call Value) (v x : Value) → (cell_at m old).content ≡ Some x → IsCall q m mid new rs → IsCall q m old new (shown v (readers (cell_at m old).line) ++ rs)
  full_call q v x e h =
      let none = unread x e in
      let nobody : AreAllReaders [] m old mid = subst (λ ts. AreAllReaders ts m old mid) none all in
      subst (λ ts. IsCall q m old new (shown v ts ++ rs)) (sym none) (same_call q m old mid new rs nobody.1 h)

  put_by : (t : ℕ) (v : Value) (o : Option Value) → (cell_at m old).content ≡ o → IsCall (Put t v) m mid new rs → IsCall (Put t v) m old new (shown v (readers (cell_at m old).line) ++ rs)
  put_by t v None e h = put_after (readers (cell_at m old).line) m t v old mid new rs lt e all h
  put_by t v (Some x) e h = full_call (Put t v) v x e h

  try_put_by : (t : ℕ) (v : Value) (o : Option Value) → (cell_at m old).content ≡ o → IsCall (Try_put t v) m mid new rs → IsCall (Try_put t v) m old new (shown v (readers (cell_at m old).line) ++ rs)
  try_put_by t v None e h = try_put_after (readers (cell_at m old).line) m t v old mid new rs lt e all h
  try_put_by t v (Some x) e h = full_call (Try_put t v) v x e h

  pub put_whole : (t : ℕ) (v : Value) → IsCall (Put t v) m mid new rs → IsCall (Put t v) m old new (shown v (readers (cell_at m old).line) ++ rs)
  put_whole t v h = put_by t v (cell_at m old).content refl h

  pub try_put_whole : (t : ℕ) (v : Value) → IsCall (Try_put t v) m mid new rs → IsCall (Try_put t v) m old new (shown v (readers (cell_at m old).line) ++ rs)
  try_put_whole t v h = try_put_by t v (cell_at m old).content refl h

module _ (m : ℕ) (old mid : Mvars) (lt : m < length old.cells) (all : AreAllReaders (readers (cell_at m old).line) m old mid) where
  -- a cell that is full after its readers left had none
  pub none_read : (x : Value) → FullUnread m old → (cell_at m mid).content ≡ Some x → readers (cell_at m old).line ≡ []
  none_read x unread e =
      unread x (sym (ap (λ (c : Cell Value). c.content) (all_out (readers (cell_at m old).line) m old mid lt all).cell) ∙ e)

  -- whom the put serves stood in the line before, and was no reader
  pub taker_stood : (u : ℕ) → IsEmpty (Some u) (cell_at m mid) → (stands_in u (cell_at m old).line ≡ true) × Ones (λ t. t ≢ u) (readers (cell_at m old).line)
  taker_stood u h =
      let here : stands_in u (cell_at m mid).line ≡ true = taker_stands u (cell_at m mid).line h.taker in
      let left = sym (ap (λ (c : Cell Value). stands_in u c.line) (all_out (readers (cell_at m old).line) m old mid lt all).cell) ∙ here in
      (stood_before_all u (readers (cell_at m old).line) (cell_at m old).line left, left_apart u (readers (cell_at m old).line) (cell_at m old).line left)
