-- Threads that a call on a cell answers, and the world after it.
use Rattle.std.proofs.Common.{◌≡◌, ◌≢◌, ℕ, List, [], ◌∷◌, ◌++◌, slice_get, slice_set, refl, sym, ap, ◌∙◌}
use Rattle.hs_base.specs.declared.value.Value.{Value}
use Rattle.rules_meaning.specs.Values.{V, value_of}
use Rattle.rules_code.specs.declared.code.CodeBody.{CodeBody}
use Rattle.rules_waiting.specs.OneCell.{Cell, Call, Reply, Answer, call, reply_of, shown}
use Rattle.slot_states.specs.mapping.Mapped.{map_call, map_replies, map_answer}
use Rattle.mvar_cell.specs.Calls.{IsCall}
use Rattle.hs_laws.specs.CellLaw.{told}
use Rattle.hs_laws.proofs.Lists.{Ones}
use Rattle.slot_states.specs.SlotStates.{SlotThread, cell_at, answered, replied, told_all, called}
use Rattle.frame_stack.specs.declared.control.Control.TheVariants as c
use Rattle.thread_table.specs.declared.thread.Thread.{Thread}
use Rattle.thread_table.specs.Table.{slots_of, changed, with_control}
use Rattle.thread_table.proofs.Table.{changed_other, slots_resumed}
use Rattle.world_entries.specs.declared.world.World.{World}
use Rattle.world_entries.specs.Worlds.{state_of, slot_cells}
use Rattle.world_entries.specs.Reading.{all_answered}
use Rattle.world_entries.proofs.CellsOf.{cells_called, replies_called}

-- ---- threads that are answered

pub one_answered : (b : CodeBody) (ths : List Thread) (t : ℕ) (v : Value) (x : V) → value_of v ≡ x → slots_of b (changed t (with_control (c.Ret v)) ths) ≡ answered t x (slots_of b ths)
one_answered b ths t v x e = slots_resumed b ths t (c.Ret v) ∙ ap (λ y. answered t y (slots_of b ths)) e

pub shown_answered : (b : CodeBody) (m : ℕ) (v : Value) (ts : List ℕ) (ths : List Thread) → slots_of b (all_answered v ts ths) ≡ replied m (map_replies value_of (shown v ts)) (slots_of b ths)
shown_answered b m v [] ths = refl
shown_answered b m v (t ∷ ts) ths =
    shown_answered b m v ts (changed t (with_control (c.Ret v)) ths)
    ∙ ap (replied m (map_replies value_of (shown v ts))) (one_answered b ths t v (value_of v) refl)

-- a thread that is none of them stands where it stood
pub answered_apart : (v : Value) (ts : List ℕ) (ths : List Thread) (u : ℕ) → Ones (λ t. t ≢ u) ts → slice_get (all_answered v ts ths) u ≡ slice_get ths u
answered_apart v [] ths u h = refl
answered_apart v (t ∷ ts) ths u h = answered_apart v ts (changed t (with_control (c.Ret v)) ths) u h.1 ∙ changed_other ths t u (with_control (c.Ret v)) (λ e. h.0 (sym e))

-- ---- answers one after another

pub replies_both : (rs ss : List (Reply Value)) → map_replies value_of (rs ++ ss) ≡ map_replies value_of rs ++ map_replies value_of ss
replies_both [] ss = refl
replies_both (r ∷ rs) ss = ap (λ qs. record { thread = r.thread; answer = map_answer value_of r.answer } ∷ qs) (replies_both rs ss)

pub replied_both : (m : ℕ) (rs ss : List (Reply V)) (ths : List SlotThread) → replied m (rs ++ ss) ths ≡ replied m ss (replied m rs ths)
replied_both m [] ss ths = refl
replied_both m (r ∷ rs) ss ths = replied_both m rs ss (answered r.thread (told m r.answer) ths)

told_some : (t m : ℕ) (rs ss : List (Reply V)) (r : Reply V) (ths : List SlotThread) → told_all t m (rs ++ r ∷ ss) ths ≡ replied m (rs ++ r ∷ ss) ths
told_some t m [] ss r ths = refl
told_some t m (q ∷ rs) ss r ths = refl

-- one is answered, or two
pub told_one : (b : CodeBody) (t m u : ℕ) (w : Value) (a : Answer Value) (ths : List Thread) → value_of w ≡ told m (map_answer value_of a)
    → slots_of b (changed u (with_control (c.Ret w)) ths) ≡ told_all t m (map_replies value_of (reply_of u a ∷ [])) (slots_of b ths)
told_one b t m u w a ths e = one_answered b ths u w (told m (map_answer value_of a)) e

pub told_two : (b : CodeBody) (t m u u' : ℕ) (w w' : Value) (a a' : Answer Value) (ths : List Thread) → value_of w ≡ told m (map_answer value_of a) → value_of w' ≡ told m (map_answer value_of a')
    → slots_of b (changed u' (with_control (c.Ret w')) (changed u (with_control (c.Ret w)) ths)) ≡ told_all t m (map_replies value_of (reply_of u a ∷ reply_of u' a' ∷ [])) (slots_of b ths)
told_two b t m u u' w w' a a' ths e e' =
    one_answered b (changed u (with_control (c.Ret w)) ths) u' w' (told m (map_answer value_of a')) e'
    ∙ ap (answered u' (told m (map_answer value_of a'))) (one_answered b ths u w (told m (map_answer value_of a)) e)

-- readers are shown the value, and then somebody is answered
pub told_readers : (b : CodeBody) (t m : ℕ) (v : Value) (ts : List ℕ) (r : Reply Value) (rs : List (Reply Value)) (ths : List Thread)
    → told_all t m (map_replies value_of (shown v ts ++ r ∷ rs)) (slots_of b ths) ≡ replied m (map_replies value_of (r ∷ rs)) (slots_of b (all_answered v ts ths))
told_readers b t m v ts r rs ths =
    ap (λ qs. told_all t m qs (slots_of b ths)) (replies_both (shown v ts) (r ∷ rs))
    ∙ (told_some t m (map_replies value_of (shown v ts)) (map_replies value_of rs) (record { thread = r.thread; answer = map_answer value_of r.answer }) (slots_of b ths)
    ∙ (replied_both m (map_replies value_of (shown v ts)) (map_replies value_of (r ∷ rs)) (slots_of b ths)
    ∙ ap (replied m (map_replies value_of (r ∷ rs))) (sym (shown_answered b m v ts ths))))

-- ---- the world after it

-- all but the list of threads and the cells is as it was
pub record Elsewhere (old new : World) : Type 0 where
  pub flight : new.threads.flight.list ≡ old.threads.flight.list
  pub sleepers : new.sleepers.list ≡ old.sleepers.list
  pub clock : new.clock ≡ old.clock
  pub instances : new.instances ≡ old.instances
  pub timeouts : new.timeouts ≡ old.timeouts
  pub printed : new.printed ≡ old.printed

pub state_is : (b : CodeBody) (old new : World) (ths : List SlotThread) (cs : List (Cell V)) → slots_of b new.threads.list.items ≡ ths → slot_cells new.cells.cells ≡ cs → Elsewhere old new → state_of b new ≡ record (state_of b old) { threads = ths; cells = cs }
state_is b old new ths cs e f r =
    let flight = r.flight in
    let sleepers = r.sleepers in
    let clock = r.clock in
    let instances = r.instances in
    let timeouts = r.timeouts in
    let printed = r.printed in
    cc (e, f)

pub state_called : (b : CodeBody) (old new : World) (t m : ℕ) (q : Call Value) (rs : List (Reply Value)) → IsCall q m old.cells new.cells rs → slots_of b new.threads.list.items ≡ told_all t m (map_replies value_of rs) (slots_of b old.threads.list.items)
    → Elsewhere old new → state_of b new ≡ called t m (map_call value_of q) (state_of b old)
state_called b old new t m q rs h e r =
    state_is b old new (told_all t m (call (map_call value_of q) (cell_at m (slot_cells old.cells.cells))).replies (slots_of b old.threads.list.items)) (slice_set (slot_cells old.cells.cells) m (call (map_call value_of q) (cell_at m (slot_cells old.cells.cells))).cell)
    (e ∙ sym (ap (λ qs. told_all t m qs (slots_of b old.threads.list.items)) (replies_called q m old.cells new.cells rs h)))
    (cells_called q m old.cells new.cells rs h) r
