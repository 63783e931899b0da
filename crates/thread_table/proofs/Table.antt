-- Threads after one of them changed, and what their list stands for.
use Rattle.std.proofs.Common.{◌≡◌, ◌≢◌, ℕ, zero, suc, List, [], ◌∷◌, ◌++◌, length, Bool, true, false, Option, Some, None, option_map, map, slice_get, slice_set, slice_index_or, refl, sym, ap, ◌∙◌}
use Rattle.std.proofs.lemmas.List.{length-set}
use Rattle.std.proofs.lemmas.Option.{get_or_from_slice_get}
use Rattle.rules_code.specs.declared.code.CodeBody.{CodeBody}
use Rattle.hs_laws.proofs.Lists.{item_same, item_other}
use Rattle.slot_states.specs.SlotStates as slots
use Rattle.slot_states.specs.SlotStates.{SlotThread, resumed, blocked_at, finished_at, moved, spawned}
use Rattle.frame_stack.specs.declared.control.Control.{Control}
use Rattle.frame_stack.specs.Parts.{Stacked, part_of, term_of}
use Rattle.thread_table.specs.declared.thread.Thread.{Thread}
use Rattle.thread_table.specs.Table.{slot_of, slots_of, set_thread, changed, with_control, finishing, with_stack, with_queued, with_listed, new_thread, unqueued, unlisted}

-- ---- writing to a thread that is lent
-- the one that is lent is the one at its number
pub lent_is : (ths : List Thread) (t : ℕ) (th x : Thread) → slice_get ths t ≡ Some th → x ≡ slice_index_or ths t x → x ≡ th
lent_is ths t th x h e = e ∙ get_or_from_slice_get ths t th x h

pub written : (ths : List Thread) (t : ℕ) (f : Thread → Thread) (th y : Thread) → slice_get ths t ≡ Some th → y ≡ f th → slice_set ths t y ≡ changed t f ths
written ths t f th y h e = ap (slice_set ths t) e ∙ sym (ap (λ o. set_thread t f o ths) h)

pub written_through : (ths : List Thread) (t : ℕ) (f : Thread → Thread) (th x y : Thread) → slice_get ths t ≡ Some th → x ≡ slice_index_or ths t x → y ≡ f x → slice_set ths t y ≡ changed t f ths
written_through ths t f th x y h e k = written ths t f th y h (k ∙ ap f (lent_is ths t th x h e))

pub set_twice : (ths : List Thread) (t : ℕ) (y z : Thread) → slice_set (slice_set ths t y) t z ≡ slice_set ths t z
set_twice [] t y z = refl
set_twice (th ∷ ths) zero y z = refl
set_twice (th ∷ ths) (suc t) y z = ap (λ xs. th ∷ xs) (set_twice ths t y z)

-- ---- where threads stand then
pub changed_is : (ths : List Thread) (t : ℕ) (f : Thread → Thread) (th : Thread) → slice_get ths t ≡ Some th → slice_get (changed t f ths) t ≡ Some (f th)
changed_is ths t f th h = ap (λ o. slice_get (set_thread t f o ths) t) h ∙ item_same ths t th (f th) h

other_set : (ths : List Thread) (t u : ℕ) (f : Thread → Thread) (o : Option Thread) → u ≢ t → slice_get (set_thread t f o ths) u ≡ slice_get ths u
other_set ths t u f None n = refl
other_set ths t u f (Some th) n = item_other ths t u (f th) n

pub changed_other : (ths : List Thread) (t u : ℕ) (f : Thread → Thread) → u ≢ t → slice_get (changed t f ths) u ≡ slice_get ths u
changed_other ths t u f n = other_set ths t u f (slice_get ths t) n

set_count : (ths : List Thread) (t : ℕ) (f : Thread → Thread) (o : Option Thread) → length (set_thread t f o ths) ≡ length ths
set_count ths t f None = refl
set_count ths t f (Some th) = length-set ths t (f th)

pub changed_count : (ths : List Thread) (t : ℕ) (f : Thread → Thread) → length (changed t f ths) ≡ length ths
changed_count ths t f = set_count ths t f (slice_get ths t)

-- ---- what the list stands for
pub slots_at : (b : CodeBody) (ths : List Thread) (t : ℕ)
    → slice_get (slots_of b ths) t ≡ option_map (slot_of b) (slice_get ths t)
slots_at b [] t = refl
slots_at b (th ∷ ths) zero = refl
slots_at b (th ∷ ths) (suc t) = slots_at b ths t

pub slots_is : (b : CodeBody) (ths : List Thread) (t : ℕ) (th : Thread) → slice_get ths t ≡ Some th → slice_get (slots_of b ths) t ≡ Some (slot_of b th)
slots_is b ths t th h = slots_at b ths t ∙ ap (option_map (slot_of b)) h

pub slots_count : (b : CodeBody) (ths : List Thread) → length (slots_of b ths) ≡ length ths
slots_count b [] = refl
slots_count b (th ∷ ths) = ap suc (slots_count b ths)

pub slots_more : (b : CodeBody) (ths : List Thread) (th : Thread) → slots_of b (ths ++ th ∷ []) ≡ slots_of b ths ++ slot_of b th ∷ []
slots_more b [] th = refl
slots_more b (x ∷ ths) th = ap (λ xs. slot_of b x ∷ xs) (slots_more b ths th)

slots_set : (b : CodeBody) (ths : List Thread) (t : ℕ) (y : Thread) → slots_of b (slice_set ths t y) ≡ slice_set (slots_of b ths) t (slot_of b y)
slots_set b [] t y = refl
slots_set b (th ∷ ths) zero y = refl
slots_set b (th ∷ ths) (suc t) y = ap (λ xs. slot_of b th ∷ xs) (slots_set b ths t y)

changed_from : (b : CodeBody) (ths : List Thread) (t : ℕ) (f : Thread → Thread) (g : SlotThread → SlotThread) (o : Option Thread) → ((th : Thread) → o ≡ Some th → slot_of b (f th) ≡ g (slot_of b th)) → slots_of b (set_thread t f o ths) ≡ slots.set_thread t g (option_map (slot_of b) o) (slots_of b ths)
changed_from b ths t f g None e = refl
changed_from b ths t f g (Some th) e = slots_set b ths t (f th) ∙ ap (slice_set (slots_of b ths) t) (e th refl)

-- a change of a thread is one of what it stands for
pub slots_changed_at : (b : CodeBody) (ths : List Thread) (t : ℕ) (f : Thread → Thread) (g : SlotThread → SlotThread) → ((th : Thread) → slice_get ths t ≡ Some th → slot_of b (f th) ≡ g (slot_of b th)) → slots_of b (changed t f ths) ≡ slots.changed t g (slots_of b ths)
slots_changed_at b ths t f g e = changed_from b ths t f g (slice_get ths t) e ∙ ap (λ o. slots.set_thread t g o (slots_of b ths)) (sym (slots_at b ths t))

pub slots_changed : (b : CodeBody) (ths : List Thread) (t : ℕ) (f : Thread → Thread) (g : SlotThread → SlotThread) → ((th : Thread) → slot_of b (f th) ≡ g (slot_of b th)) → slots_of b (changed t f ths) ≡ slots.changed t g (slots_of b ths)
slots_changed b ths t f g e = slots_changed_at b ths t f g (λ th h. e th)

-- each change of this table
pub slots_resumed : (b : CodeBody) (ths : List Thread) (t : ℕ) (c : Control) → slots_of b (changed t (with_control c) ths) ≡ resumed t (part_of b c) (slots_of b ths)
slots_resumed b ths t c = slots_changed b ths t (with_control c) (slots.resumed_by (part_of b c)) (λ th. refl)

pub slots_blocked : (b : CodeBody) (ths : List Thread) (t : ℕ) (l : Bool) → slots_of b (changed t (λ th. record th { blocked = true; listed = l }) ths) ≡ blocked_at t (slots_of b ths)
slots_blocked b ths t l = slots_changed b ths t (λ th. record th { blocked = true; listed = l }) slots.blocking (λ th. refl)

pub slots_finished : (b : CodeBody) (ths : List Thread) (t : ℕ) → slots_of b (changed t finishing ths) ≡ finished_at t (slots_of b ths)
slots_finished b ths t = slots_changed b ths t finishing slots.finishing (λ th. refl)

pub slots_moved : (b : CodeBody) (ths : List Thread) (t : ℕ) (k : Stacked) → slots_of b (changed t (with_stack k) ths) ≡ moved t (term_of b k) (slots_of b ths)
slots_moved b ths t k = slots_changed b ths t (with_stack k) (slots.moving (term_of b k)) (λ th. refl)

pub slots_spawned : (b : CodeBody) (ths : List Thread) (k : Stacked) → slots_of b (ths ++ new_thread k ∷ []) ≡ spawned (term_of b k) (slots_of b ths)
slots_spawned b ths k = slots_more b ths (new_thread k)

-- ---- threads but for a flag that slots don't see
-- what f makes of each thread, where one of them became another of which f makes the same
masked_set : (f : Thread → Thread) (ths : List Thread) (t : ℕ) (th y : Thread) → slice_get ths t ≡ Some th → f y ≡ f th → map f (slice_set ths t y) ≡ map f ths
masked_set f [] t th y h e = refl
masked_set f (x ∷ ths) zero th y h e = let q : th ≡ x = cc h in ap (λ z. z ∷ map f ths) (e ∙ ap f q)
masked_set f (x ∷ ths) (suc t) th y h e = ap (λ xs. f x ∷ xs) (masked_set f ths t th y h e)

masked_from : (f g : Thread → Thread) (ths : List Thread) (t : ℕ) (o : Option Thread) → ((th : Thread) → f (g th) ≡ f th) → slice_get ths t ≡ o → map f (set_thread t g o ths) ≡ map f ths
masked_from f g ths t None e h = refl
masked_from f g ths t (Some th) e h = masked_set f ths t th (g th) h (e th)

masked_slots : (b : CodeBody) (f : Thread → Thread) (ths : List Thread) → ((th : Thread) → slot_of b (f th) ≡ slot_of b th) → slots_of b (map f ths) ≡ slots_of b ths
masked_slots b f [] e = refl
masked_slots b f (th ∷ ths) e = ap (λ y. y ∷ slots_of b (map f ths)) (e th) ∙ ap (λ xs. slot_of b th ∷ xs) (masked_slots b f ths e)

masked_alike : (b : CodeBody) (f : Thread → Thread) (ths ths' : List Thread) → ((th : Thread) → slot_of b (f th) ≡ slot_of b th) → map f ths ≡ map f ths' → slots_of b ths ≡ slots_of b ths'
masked_alike b f ths ths' k e = sym (masked_slots b f ths k) ∙ (ap (slots_of b) e ∙ masked_slots b f ths' k)

-- but for whether they are in the list of the ready
pub unqueued_same : (ths : List Thread) (t : ℕ) (q : Bool) → unqueued (changed t (with_queued q) ths) ≡ unqueued ths
unqueued_same ths t q = masked_from (with_queued false) (with_queued q) ths t (slice_get ths t) (λ th. refl) refl

pub slots_unqueued : (b : CodeBody) (ths ths' : List Thread) → unqueued ths ≡ unqueued ths' → slots_of b ths ≡ slots_of b ths'
slots_unqueued b ths ths' e = masked_alike b (with_queued false) ths ths' (λ th. refl) e

-- but for whether they are in the list of those who may be stranded
pub unlisted_same : (ths : List Thread) (t : ℕ) (l : Bool) → unlisted (changed t (with_listed l) ths) ≡ unlisted ths
unlisted_same ths t l = masked_from (with_listed false) (with_listed l) ths t (slice_get ths t) (λ th. refl) refl

pub slots_alike : (b : CodeBody) (ths ths' : List Thread) → unlisted ths ≡ unlisted ths' → slots_of b ths ≡ slots_of b ths'
slots_alike b ths ths' e = masked_alike b (with_listed false) ths ths' (λ th. refl) e

unlisted_at : (ths : List Thread) (t : ℕ) → slice_get (unlisted ths) t ≡ option_map (with_listed false) (slice_get ths t)
unlisted_at [] t = refl
unlisted_at (th ∷ ths) zero = refl
unlisted_at (th ∷ ths) (suc t) = unlisted_at ths t

-- the same thread stands at a number of both, but for that
some_back : (o : Option Thread) (x : Thread) → option_map (with_listed false) o ≡ Some x → (th : Thread) × (o ≡ Some th) × (with_listed false th ≡ x)
some_back None x h = absurd (cc h)
some_back (Some th) x h = (th, refl, cc h)

pub thread_alike : (ths ths' : List Thread) (t : ℕ) (x : Thread) → unlisted ths ≡ unlisted ths' → slice_get ths t ≡ Some x → (th : Thread) × (slice_get ths' t ≡ Some th) × (with_listed false th ≡ with_listed false x)
thread_alike ths ths' t x e h = some_back (slice_get ths' t) (with_listed false x) (sym (unlisted_at ths' t) ∙ (sym (ap (λ l. slice_get l t) e) ∙ (unlisted_at ths t ∙ ap (option_map (with_listed false)) h)))
