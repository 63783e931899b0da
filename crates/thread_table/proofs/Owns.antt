-- What a thread that has something to do is to do.
use Rattle.std.proofs.Common.{◌≡◌, ℕ, List, [], ◌∷◌, length, Bool, true, false, cond, not, ◌&&◌, nat_eq, Option, Some, None, refl, sym, ap, ◌∙◌}
use Rattle.std.specs.Prelude.{◌↔◌, IsTrue}
use Rattle.std.proofs.lemmas.Bool.{eqb-true, eq-eqb, ne_eqb}
use Rattle.rules_waiting.specs.Waiting.{Flying}
use Rattle.local_steps.specs.declared.active.Frame.{Frame}
use Rattle.frame_stack.specs.declared.control.Operation.{Operation}
use Rattle.frame_stack.specs.declared.control.Control.{Control}
use Rattle.frame_stack.specs.declared.control.Control.TheVariants as c
use Rattle.frame_stack.specs.Parts.{MeetsOne}
use Rattle.thread_table.specs.declared.thread.Thread.{Thread}
use Rattle.thread_table.specs.Listing.{is_doing, has_own, wanted}
use Rattle.thread_table.specs.Kinds.{IsEnd}

goes_on : (f r : Bool) → cond f false r ≡ true → f ≡ false
goes_on true r h = absurd (cc h)
goes_on false r h = refl

-- who wants something is there and hasn't finished
pub who_wants : (t : ℕ) (o : Option Thread) (fs : List Flying) → wanted t o fs ≡ true → (th : Thread) × (o ≡ Some th) × (th.finished ≡ false)
who_wants t None fs h = absurd (cc h)
who_wants t (Some th) fs h = (th, refl, goes_on th.finished _ h)

both_not : (a b : Bool) → (not a && not b) ≡ true → (a ≡ false) × (b ≡ false)
both_not false false h = (refl, refl)
both_not false true h = absurd (cc h)
both_not true b h = absurd (cc h)

pub owns : (th : Thread) → has_own th ≡ true → (th.blocked ≡ false) × (is_doing th.stack.control ≡ false)
owns th h = both_not th.blocked (is_doing th.stack.control) h

-- a value or an exception, where it is neither an action nor an operation
pub is_end : (x : Control) → is_doing x ≡ false → ((q : Operation) → x ≡ c.Op q → ⊥) → IsEnd x
is_end (c.Doing i vs) d n = absurd (cc d)
is_end (c.Ret v) d n = tt
is_end (c.Throw e) d n = tt
is_end (c.Op q) d n = n q refl

pub meets : (x : Control) (fs : List Frame) → IsEnd x → (length fs ≡ 0 → ⊥) → MeetsOne x fs
meets (c.Doing i vs) fs e n = e
meets (c.Op q) fs e n = e
meets (c.Ret v) [] e n = n refl
meets (c.Ret v) (f ∷ fs) e n = tt
meets (c.Throw x) [] e n = n refl
meets (c.Throw x) (f ∷ fs) e n = tt

pub no_frames : (fs : List Frame) → length fs ≡ 0 → fs ≡ []
no_frames [] h = refl
no_frames (f ∷ fs) h = absurd (cc h)

-- ---- whether there are frames

some_frames : (f : Frame) (fs : List Frame) (n : ℕ) → n ≡ length (f ∷ fs) → n ≡ 0 → ⊥
some_frames f fs n e q = let z : length (f ∷ fs) ≡ 0 = sym e ∙ q in cc z

pub bare_by_count : (x : Control) (fs : List Frame) (n : ℕ) → n ≡ length fs → IsEnd x → IsTrue (nat_eq n 0) ↔ (IsEnd x × (fs ≡ []))
bare_by_count x [] n e h = (λ t. (h, refl), λ q. eq-eqb n 0 e)
bare_by_count x (f ∷ fs) n e h = (λ t. absurd (some_frames f fs n e (eqb-true n 0 t)), λ q. absurd (let z : f ∷ fs ≡ [] = q.1 in cc z))

none_met : (n : ℕ) → n ≡ 0 → IsTrue (not (nat_eq n 0)) → ⊥
none_met n e t = let z : not (nat_eq n 0) ≡ false = ap not (eq-eqb n 0 e) in let q : true ≡ false = sym t ∙ z in cc q

some_met : (f : Frame) (fs : List Frame) (n : ℕ) → n ≡ length (f ∷ fs) → IsTrue (not (nat_eq n 0))
some_met f fs n e = ap not (ne_eqb n 0 (some_frames f fs n e))

pub meets_by_count : (x : Control) (fs : List Frame) (n : ℕ) → n ≡ length fs → IsEnd x → IsTrue (not (nat_eq n 0)) ↔ MeetsOne x fs
meets_by_count (c.Doing i vs) fs n e h = absurd h
meets_by_count (c.Op q) fs n e h = absurd h
meets_by_count (c.Ret v) [] n e h = (λ t. none_met n e t, λ q. absurd q)
meets_by_count (c.Ret v) (f ∷ fs) n e h = (λ t. tt, λ q. some_met f fs n e)
meets_by_count (c.Throw x) [] n e h = (λ t. none_met n e t, λ q. absurd q)
meets_by_count (c.Throw x) (f ∷ fs) n e h = (λ t. tt, λ q. some_met f fs n e)
