-- What comes out of a cell by one call.
use Rattle.std.proofs.Common.{◌≡◌, ℕ, List, [], ◌∷◌, ◌++◌, length, true, false, Option, Some, None, refl, sym, ap, ◌∙◌}
use Rattle.rules_meaning.specs.Values.{V}
use Rattle.rules_waiting.specs.OneCell as one
use Rattle.rules_waiting.specs.OneCell.{Place, Cell, Call, Take, Read, Put, Try_take, Try_put, Leave, Took, Gave, Tried_take, Tried_put, Reply, reply_of, first_put, first_take, readers, leave_line, shown, comes_on, called, call}
use Rattle.hs_laws.specs.CellLaw.{went_out, outs_by, taken_by}
use Rattle.trace_report.specs.declared.tally.touch.Touch.{Touch}
use Rattle.trace_report.specs.declared.tally.touch.Touch.TheVariants.{Takes, Reads, Puts, TriesToTake, TriesToPut}
use Rattle.trace_report.specs.tally.Reporting.{one_if, is_full}
use Rattle.trace_report.specs.tally.Touching.{serves}
use Rattle.hs_laws.proofs.CellHistories.{went_shown}
use Rattle.hs_laws.proofs.CellRuns.{IsLeave, OnlyLeaves}

-- by this call as many values come out as who touches the cell so can see
abbrev pub Serves : Touch → Call V → Type 0
Serves h q = (c : Cell V) → length (outs_by (q ∷ []) c) ≡ one_if (serves h (is_full (Some c.content)) (is_full (Some (call q c).cell.content)))

moved : (a : V) (t : ℕ) (r : one.Answer V) (o : Option (ℕ × V)) (ps : List (Place V)) → taken_by r ≡ a ∷ [] → length (went_out (one.moves_in o ps (reply_of t r ∷ [])).replies ++ []) ≡ 1
moved a t r None ps e = ap (λ z. length ((z ++ []) ++ [])) e
moved a t r (Some w) ps e = ap (λ z. length ((z ++ []) ++ [])) e

given : (h : Touch) (a : V) (w : Option ℕ) (ps : List (Place V)) (ts : List ℕ) (r : Reply V) → taken_by r.answer ≡ [] → serves h false false ≡ true → serves h false true ≡ false →
    length (went_out (comes_on a w ps (shown a ts) r).replies ++ []) ≡ one_if (serves h false (is_full (Some (comes_on a w ps (shown a ts) r).cell.content)))
given h a None ps ts r e good bad = ap (λ z. length (z ++ [])) (went_shown a ts (r ∷ [])) ∙ (ap (λ z. length ((z ++ []) ++ [])) e ∙ sym (ap one_if bad))
given h a (Some u) ps ts r e good bad = ap (λ z. length (z ++ [])) (went_shown a ts (reply_of u (Took a) ∷ r ∷ [])) ∙ (ap (λ z. length ((a ∷ (z ++ [])) ++ [])) e ∙ sym (ap one_if good))

-- the same by the content
abbrev pub ServesAt : Touch → Call V → Option V → List (Place V) → Type 0
ServesAt h q o ps = length (went_out (called q o ps).replies ++ []) ≡ one_if (serves h (is_full (Some o)) (is_full (Some (called q o ps).cell.content)))

takes_at : (k t : ℕ) (o : Option V) (ps : List (Place V)) → ServesAt (Takes k) (Take t) o ps
takes_at k t None ps = refl
takes_at k t (Some a) ps = moved a t (Took a) (first_put ps) ps refl

reads_at : (k t : ℕ) (o : Option V) (ps : List (Place V)) → ServesAt (Reads k) (Read t) o ps
reads_at k t None ps = refl
reads_at k t (Some a) ps = refl

puts_at : (k t : ℕ) (a : V) (o : Option V) (ps : List (Place V)) → ServesAt (Puts k) (Put t a) o ps
puts_at k t a None ps = given (Puts k) a (first_take ps) (leave_line (readers ps) ps) (readers ps) (reply_of t Gave) refl refl refl
puts_at k t a (Some b) ps = refl

tries_to_take_at : (k t : ℕ) (o : Option V) (ps : List (Place V)) → ServesAt (TriesToTake k) (Try_take t) o ps
tries_to_take_at k t None ps = refl
tries_to_take_at k t (Some a) ps = moved a t (Tried_take (Some a)) (first_put ps) ps refl

tries_to_put_at : (k t : ℕ) (a : V) (o : Option V) (ps : List (Place V)) → ServesAt (TriesToPut k) (Try_put t a) o ps
tries_to_put_at k t a None ps = given (TriesToPut k) a (first_take ps) (leave_line (readers ps) ps) (readers ps) (reply_of t (Tried_put true)) refl refl refl
tries_to_put_at k t a (Some b) ps = refl

pub takes : (k t : ℕ) → Serves (Takes k) (Take t)
takes k t c = takes_at k t c.content c.line

pub reads : (k t : ℕ) → Serves (Reads k) (Read t)
reads k t c = reads_at k t c.content c.line

pub puts : (k t : ℕ) (a : V) → Serves (Puts k) (Put t a)
puts k t a c = puts_at k t a c.content c.line

pub tries_to_take : (k t : ℕ) → Serves (TriesToTake k) (Try_take t)
tries_to_take k t c = tries_to_take_at k t c.content c.line

pub tries_to_put : (k t : ℕ) (a : V) → Serves (TriesToPut k) (Try_put t a)
tries_to_put k t a c = tries_to_put_at k t a c.content c.line

-- ---- calls by which nothing comes out

none_left : (q : Call V) (qs : List (Call V)) (c : Cell V) → IsLeave q → outs_by qs (call q c).cell ≡ [] → outs_by (q ∷ qs) c ≡ []
none_left (Leave t) qs c l e = e
none_left _ qs c l e = absurd l

pub none_out : (qs : List (Call V)) (c : Cell V) → OnlyLeaves qs → outs_by qs c ≡ []
none_out [] c l = refl
none_out (q ∷ qs) c l = none_left q qs c l.0 (none_out qs (call q c).cell l.1)
