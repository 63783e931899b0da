-- A value that comes to a cell whose readers were taken out before.
use Rattle.std.proofs.Common.{◌≡◌, ℕ, ◌<◌, true, List, [], ◌∷◌, ◌++◌, length, None, ap, sym, ◌∙◌, arith, get_or, set}
use Rattle.std.proofs.lemmas.List.{set-get_or, set-set, length-set, get_or-set_same}
use Rattle.hs_base.specs.declared.value.Value.{Value}
use Rattle.rules_waiting.specs.OneCell.{Cell, Call, Put, Try_put, After, Reply, Gave, Tried_put, cell_of, reply_of, made, call, leaves_line, readers, leave_line, shown, first_take, comes_on, comes_in}
use Rattle.mvar_cell.specs.Mvars.{Mvars}
use Rattle.mvar_cell.specs.Calls.{cell_at, IsCall, NobodyReads}
use Rattle.mvar_cell.specs.Readers.{AreAllReaders}
use Rattle.mvar_cell.proofs.CellLaws.{come_cell, come_replies, put_comes, try_put_comes}

pub record AllOut (ts : List ℕ) (m : ℕ) (old mid : Mvars) : Type 0 where
  pub readers : readers (cell_at m old).line ≡ ts
  pub nobody : NobodyReads m mid
  pub takers : first_take (cell_at m mid).line ≡ first_take (cell_at m old).line
  pub cell : cell_at m mid ≡ cell_of (cell_at m old).content (leave_line ts (cell_at m old).line)
  pub cells : mid.cells ≡ set old.cells m (cell_at m mid)

pub all_out : (ts : List ℕ) (m : ℕ) (old mid : Mvars) → m < length old.cells → AreAllReaders ts m old mid → AllOut ts m old mid
all_out [] m old mid lt h =
    let same : cell_at m mid ≡ cell_at m old = ap (λ (cs : List (Cell Value)). get_or cs m (made None)) h.1 in
    record {
      readers = h.0;
      nobody = ap (λ (c : Cell Value). readers c.line) same ∙ h.0;
      takers = ap (λ (c : Cell Value). first_take c.line) same;
      cell = same;
      cells = h.1 ∙ sym (set-get_or old.cells m (made None)) ∙ ap (set old.cells m) (sym same);
    }
all_out (t ∷ ts) m old mid lt (one, first, rest) =
    let left = leaves_line t (cell_at m old).line in
    let now : Cell Value = cell_of (cell_at m old).content left in
    let cells : one.cells ≡ set old.cells m now = first.leaves.cells in
    let here : cell_at m one ≡ now = ap (λ (cs : List (Cell Value)). get_or cs m (made None)) cells ∙ get_or-set_same old.cells m now (made None) lt in
    let size = ap (λ (cs : List (Cell Value)). length cs) cells ∙ length-set old.cells m now in
    let r = all_out ts m one mid (omega (arith, size, lt)) rest in
    record {
      readers = first.readers ∙ ap (λ us. t ∷ us) r.readers;
      nobody = r.nobody;
      takers = r.takers ∙ first.takers;
      cell = r.cell ∙ ap (λ (c : Cell Value). cell_of c.content (leave_line ts c.line)) here;
      cells = r.cells ∙ ap (λ cs. set cs m (cell_at m mid)) cells ∙ set-set old.cells m now (cell_at m mid);
    }

-- a value that comes: first all readers are answered it
comes_after : (ts : List ℕ) (m : ℕ) (v : Value) (old mid new : Mvars) (q : Call Value) (r : Reply Value) (rs : List (Reply Value)) → AllOut ts m old mid → call q (cell_at m old) ≡ comes_in v (cell_at m old).line r → call q (cell_at m mid) ≡ comes_in v (cell_at m mid).line r → IsCall q m mid new rs
    → IsCall q m old new (shown v ts ++ rs)
comes_after ts m v old mid new q r rs out before after h =
    let ps = (cell_at m old).line in
    let qs = (cell_at m mid).line in
    let f = first_take ps in
    let lines : qs ≡ leave_line ts ps = ap (λ (c : Cell Value). c.line) out.cell in
    let was : call q (cell_at m old) ≡ comes_on v f qs (shown v ts) r =
    before ∙ ap (λ us. comes_on v f (leave_line us ps) (shown v us) r) out.readers ∙ ap (λ us. comes_on v f us (shown v ts) r) (sym lines) in
    let is : call q (cell_at m mid) ≡ comes_on v f qs [] r =
    after ∙ ap (λ us. comes_on v (first_take qs) (leave_line us qs) (shown v us) r) out.nobody ∙ ap (λ g. comes_on v g qs [] r) out.takers in
    let served : (comes_on v f qs [] r).replies ≡ rs = ap (λ (a : After Value). a.replies) (sym is) ∙ h.answers in
    let cells : new.cells ≡ set mid.cells m (comes_on v f qs [] r).cell = h.cells ∙ ap (λ (a : After Value). set mid.cells m a.cell) is in
    record {
      answers = ap (λ (a : After Value). a.replies) was ∙ come_replies v f qs (shown v ts) r ∙ ap (λ us. shown v ts ++ us) served;
      cells = cells ∙ ap (λ cs. set cs m (comes_on v f qs [] r).cell) out.cells ∙ set-set old.cells m (cell_at m mid) (comes_on v f qs [] r).cell ∙ ap (set old.cells m) (come_cell v f qs [] (shown v ts) r r) ∙ ap (λ (a : After Value). set old.cells m a.cell) (sym was);
    }

still_empty : (ts : List ℕ) (m : ℕ) (old mid : Mvars) → AllOut ts m old mid → (cell_at m old).content ≡ None → (cell_at m mid).content ≡ None
still_empty ts m old mid out e = ap (λ (c : Cell Value). c.content) out.cell ∙ e

pub put_after : (ts : List ℕ) (m t : ℕ) (v : Value) (old mid new : Mvars) (rs : List (Reply Value)) → m < length old.cells → (cell_at m old).content ≡ None → AreAllReaders ts m old mid → IsCall (Put t v) m mid new rs → IsCall (Put t v) m old new (shown v ts ++ rs)
put_after ts m t v old mid new rs lt empty all h =
    let out = all_out ts m old mid lt all in
    comes_after ts m v old mid new (Put t v) (reply_of t Gave) rs out (put_comes t (cell_at m old) v empty) (put_comes t (cell_at m mid) v (still_empty ts m old mid out empty)) h

pub try_put_after : (ts : List ℕ) (m t : ℕ) (v : Value) (old mid new : Mvars) (rs : List (Reply Value)) → m < length old.cells → (cell_at m old).content ≡ None → AreAllReaders ts m old mid → IsCall (Try_put t v) m mid new rs → IsCall (Try_put t v) m old new (shown v ts ++ rs)
try_put_after ts m t v old mid new rs lt empty all h =
    let out = all_out ts m old mid lt all in
    comes_after ts m v old mid new (Try_put t v) (reply_of t (Tried_put true)) rs out (try_put_comes t (cell_at m old) v empty) (try_put_comes t (cell_at m mid) v (still_empty ts m old mid out empty)) h
