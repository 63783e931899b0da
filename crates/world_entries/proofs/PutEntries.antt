-- The Op of a thread that puts a value, once all that wait to read were answered it.
use Rattle.std.proofs.Common.{◌≡◌, ◌≢◌, ℕ, ◌<◌, Bool, true, false, List, [], ◌∷◌, ◌++◌, length, Some, slice_get, refl, sym, ap, ◌∙◌, subst, arith}
use Rattle.std.proofs.lemmas.List.{length-set}
use Rattle.hs_base.specs.declared.value.Value.{Value}
use Rattle.hs_rules.specs.declared.entry.Entry.TheVariants as entry
use Rattle.rules_meaning.specs.Values.{value_of}
use Rattle.rules_typing.specs.TypingScripts.{Accepted}
use Rattle.rules_code.specs.declared.code.CodeBody.{CodeBody}
use Rattle.rules_waiting.specs.OneCell.{Cell, Call, Reply, shown, stands_in, readers, leave_line}
use Rattle.slot_states.specs.mapping.Mapped.{map_call, map_replies}
use Rattle.mvar_cell.specs.Mvars.{Mvars}
use Rattle.mvar_cell.specs.Calls.{cell_at, IsCall, IsEmpty, StandsNowhere, NobodyReads}
use Rattle.mvar_cell.specs.Readers.{AreAllReaders}
use Rattle.mvar_cell.proofs.Served.{AllOut, all_out}
use Rattle.hs_laws.proofs.Lists.{Ones}
use Rattle.slot_states.specs.SlotStates.{Enters, told_all, called}
use Rattle.frame_stack.specs.declared.control.Operation.{Operation}
use Rattle.frame_stack.specs.Parts.{IsOp}
use Rattle.thread_table.specs.declared.thread.Thread.{Thread}
use Rattle.thread_table.specs.Table.{slots_of, changed, IsAt}
use Rattle.world_entries.specs.declared.world.World.{World}
use Rattle.world_entries.specs.Worlds.{state_of, IsLive, Makes, SameState, Stands}
use Rattle.world_entries.specs.Reading.{FullUnread, ReadersStand, Rest, all_answered}
use Rattle.world_entries.proofs.Making.{stands_op}
use Rattle.world_entries.proofs.CellsOf.{among_none_at, among_none_set}
use Rattle.world_entries.proofs.Readers.{readers_apart, stood_before_all}
use Rattle.world_entries.proofs.Answering.{Elsewhere, told_readers, answered_apart}
use Rattle.world_entries.proofs.Standing.{line_is_at, line_is_other, free_nowhere}
use Rattle.world_entries.proofs.Putting.{none_read, taker_stood}
use Rattle.world_entries.proofs.CellEntries.{call_made, told_none, at_changed}

-- The readers of cell m were answered v: the old world, the same with copies and room, and the one after.
pub record AllShown (v : Value) (m : ℕ) (old base mid : World) : Type 0 where
  pub exists : m < length old.cells.cells
  pub unread : FullUnread m old.cells
  pub cells : AreAllReaders (readers (cell_at m old.cells).line) m old.cells mid.cells
  pub list : mid.threads.list.items ≡ all_answered v (readers (cell_at m old.cells).line) old.threads.list.items
  pub same : SameState old base
  pub same_cells : base.cells ≡ old.cells
  pub same_list : base.threads.list ≡ old.threads.list
  pub elsewhere : Elsewhere base mid

rest_elsewhere : (a b : World) → Rest a b → Elsewhere a b
rest_elsewhere a b r =
    record {
      flight = ap (λ f. f.list) r.flight;
      sleepers = ap (λ s. s.list) r.sleepers;
      clock = r.clock;
      instances = r.instances;
      timeouts = r.timeouts;
      printed = r.printed;
    }

elsewhere_then : (a b c : World) → Elsewhere a b → Elsewhere b c → Elsewhere a c
elsewhere_then a b c h k =
    record {
      flight = k.flight ∙ h.flight;
      sleepers = k.sleepers ∙ h.sleepers;
      clock = k.clock ∙ h.clock;
      instances = k.instances ∙ h.instances;
      timeouts = k.timeouts ∙ h.timeouts;
      printed = k.printed ∙ h.printed;
    }

-- in the world with copies and room
pub still_exists : (m : ℕ) (old base : World) → m < length old.cells.cells → base.cells ≡ old.cells → m < length base.cells.cells
still_exists m old base lt cells = subst (λ (cs : Mvars). m < length cs.cells) (sym cells) lt

pub readers_still_stand : (m : ℕ) (old base : World) → IsLive old → base.cells ≡ old.cells → base.threads.list ≡ old.threads.list → ReadersStand m base
readers_still_stand m old base live cells list u h =
    let at = line_is_at old live u m (ap (λ (cs : Mvars). stands_in u (cell_at m cs).line) (sym cells) ∙ h) in
    record { thread = at.thread; is = ap (λ l. slice_get l.items u) list ∙ at.is; holds = at.holds }

-- from what the calls say
pub were_shown : {v : Value} {m : ℕ} (old : World) {base mid : World} → m < length old.cells.cells → FullUnread m old.cells → SameState old base → base.cells ≡ old.cells → base.threads.list ≡ old.threads.list
    → AreAllReaders (readers (cell_at m base.cells).line) m base.cells mid.cells × (mid.threads.list.items ≡ all_answered v (readers (cell_at m base.cells).line) base.threads.list.items)
    → Rest base mid → AllShown v m old base mid
were_shown {v} {m} old {base} {mid} lt unread same cells list h r =
    record {
      exists = lt;
      unread = unread;
      cells = subst (λ (cs : Mvars). AreAllReaders (readers (cell_at m cs).line) m cs mid.cells) cells h.0;
      list = h.1 ∙ (ap (λ (cs : Mvars). all_answered v (readers (cell_at m cs).line) base.threads.list.items) cells ∙ ap (λ l. all_answered v (readers (cell_at m old.cells).line) l.items) list);
      same = same;
      same_cells = cells;
      same_list = list;
      elsewhere = rest_elsewhere base mid r;
    }

module _ {v : Value} {m : ℕ} {old base mid : World} (h : AllShown v m old base mid) where
  -- ---- the cells after the readers

  out : AllOut (readers (cell_at m old.cells).line) m old.cells mid.cells
  out = all_out (readers (cell_at m old.cells).line) m old.cells mid.cells h.exists h.cells

  pub mid_exists : m < length mid.cells.cells
  mid_exists = let size = ap length out.cells ∙ length-set old.cells.cells m (cell_at m mid.cells) in let lt = h.exists in omega (arith, size, lt)

  pub mid_unread : NobodyReads m mid.cells
  mid_unread = out.nobody

  module _ (live : IsLive old) (t : ℕ) (q : Operation) (s : Stands old t q) where
    stands_not : stands_in t (cell_at m old.cells).line ≡ false
    stands_not = among_none_at t m old.cells.cells (free_nowhere old live t q s)

    stands_not_mid : (b : Bool) → stands_in t (cell_at m mid.cells).line ≡ b → b ≡ false
    stands_not_mid false e = refl
    stands_not_mid true e =
        let left : stands_in t (leave_line (readers (cell_at m old.cells).line) (cell_at m old.cells).line) ≡ true = sym (ap (λ (c : Cell Value). stands_in t c.line) out.cell) ∙ e in
        let z : true ≡ false = sym (stood_before_all t (readers (cell_at m old.cells).line) (cell_at m old.cells).line left) ∙ stands_not in
        absurd (cc z)

    pub mid_alone : StandsNowhere t mid.cells
    mid_alone =
        subst (λ cs. StandsNowhere t (record mid.cells { cells = cs })) (sym out.cells)
        (among_none_set t m old.cells.cells (cell_at m mid.cells) (free_nowhere old live t q s) (stands_not_mid (stands_in t (cell_at m mid.cells).line) refl))

    -- ---- who is answered then stands at an operation

    apart_at : (u : ℕ) → Ones (λ r. r ≢ u) (readers (cell_at m old.cells).line) → IsAt u (λ (th : Thread). IsOp th.stack.control) old.threads.list.items → IsAt u (λ (th : Thread). IsOp th.stack.control) mid.threads.list.items
    apart_at u apart at =
        record {
          thread = at.thread;
          is = ap (λ ths. slice_get ths u) h.list ∙ (answered_apart v (readers (cell_at m old.cells).line) old.threads.list.items u apart ∙ at.is);
          holds = at.holds;
        }

    pub caller_is_at : IsAt t (λ (th : Thread). IsOp th.stack.control) mid.threads.list.items
    caller_is_at = apart_at t (readers_apart t (cell_at m old.cells).line stands_not) (stands_op old t q s)

    module _ (u : ℕ) (empty : IsEmpty (Some u) (cell_at m mid.cells)) where
      stood : (stands_in u (cell_at m old.cells).line ≡ true) × Ones (λ r. r ≢ u) (readers (cell_at m old.cells).line)
      stood = taker_stood m old.cells mid.cells h.exists h.cells u empty

      pub taker_is_at : IsAt u (λ (th : Thread). IsOp th.stack.control) mid.threads.list.items
      taker_is_at = apart_at u stood.1 (line_is_at old live u m stood.0)

      pub caller_still_at : (ths : List Thread) (f : Thread → Thread) → ths ≡ changed u f mid.threads.list.items → IsAt t (λ (th : Thread). IsOp th.stack.control) ths
      caller_still_at ths f e = at_changed mid.threads.list.items ths u t f e (λ same. line_is_other old live t q s u m stood.0 (sym same)) caller_is_at

  -- ---- the world after the put

  module _ (t : ℕ) (q : Call Value) (new : World) (rest : Elsewhere mid new)
      (law : (b : CodeBody) → Accepted b.of.value → Enters b.of.value (entry.Op t) (state_of b old) (called t m (map_call value_of q) (state_of b old))) where
    whole : (rs : List (Reply Value)) → IsCall q m old.cells new.cells rs → ((b : CodeBody) → slots_of b new.threads.list.items ≡ told_all t m (map_replies value_of rs) (slots_of b old.threads.list.items)) → Makes (entry.Op t) old new
    whole rs call e =
        call_made old base new t m q rs h.same (subst (λ (cs : Mvars). IsCall q m cs new.cells rs) (sym h.same_cells) call)
        (λ b. e b ∙ ap (λ l. told_all t m (map_replies value_of rs) (slots_of b l.items)) (sym h.same_list))
        (elsewhere_then base mid new h.elsewhere rest) law

    -- somebody is answered after the readers
    pub answered_makes : (r : Reply Value) (rs : List (Reply Value)) → IsCall q m old.cells new.cells (shown v (readers (cell_at m old.cells).line) ++ r ∷ rs)
        → ((b : CodeBody) → slots_of b new.threads.list.items ≡ told_all t m (map_replies value_of (r ∷ rs)) (slots_of b mid.threads.list.items)) → Makes (entry.Op t) old new
    answered_makes r rs call e =
        whole (shown v (readers (cell_at m old.cells).line) ++ r ∷ rs) call
        (λ b. e b ∙ (ap (λ ths. told_all t m (map_replies value_of (r ∷ rs)) (slots_of b ths)) h.list ∙ sym (told_readers b t m v (readers (cell_at m old.cells).line) r rs old.threads.list.items)))

    -- the thread waits, at a full cell
    pub waiting_makes : (x : Value) → (cell_at m mid.cells).content ≡ Some x → IsCall q m old.cells new.cells (shown v (readers (cell_at m old.cells).line) ++ [])
        → ((l : Bool) × (new.threads.list.items ≡ changed t (λ (th : Thread). record th { blocked = true; listed = l }) mid.threads.list.items)) → Makes (entry.Op t) old new
    waiting_makes x full call e =
        let none = none_read m old.cells mid.cells h.exists h.cells x h.unread full in
        let still : mid.threads.list.items ≡ old.threads.list.items = h.list ∙ ap (λ ts. all_answered v ts old.threads.list.items) none in
        whole [] (subst (λ ts. IsCall q m old.cells new.cells (shown v ts ++ [])) none call)
        (λ b. told_none b t m mid.threads.list.items new.threads.list.items e ∙ ap (λ ths. told_all t m [] (slots_of b ths)) still)
