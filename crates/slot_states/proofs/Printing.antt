-- Printing, and operations that only answer: what they leave is stood for.
use Rattle.std.proofs.Common.{◌≡◌, ℕ, suc, ◌+◌, ◌++◌, List, [], ◌∷◌, length, refl, ap, pos, min, arith}
use Rattle.std.proofs.lemmas.List.{length-append}
use Rattle.hs_base.specs.declared.mask.Mask.TheVariants.{Unmasked}
use Rattle.hs_base.specs.declared.exn.Exn.TheVariants.{Timeout}
use Rattle.hs_base.specs.declared.tree.script.Script.{Script}
use Rattle.hs_rules.specs.declared.entry.Entry.TheVariants.{Op}
use Rattle.rules_meaning.specs.Values as val
use Rattle.rules_meaning.specs.Values.{V, UnitValue, Int, Text, Exception, Inst}
use Rattle.rules_expansion.specs.declared.primitive.Primitive.TheVariants.{PutStr, PutStrLn, HPutStrLn, MyThreadId, GetMaskingState, ClockMicros, NewTimeout, Acquired, Release}
use Rattle.rules_typing.specs.TypingScripts.{Accepted}
use Rattle.hs_laws.specs.cases.Cases as row
use Rattle.hs_rules.specs.Primitives.{masking_text, line_feed}
use Rattle.hs_rules.specs.State.{AcquiredBy, ReleasedBy}
use Rattle.slot_laws.specs.SlotRules.{performs, calls, mask_from}
use Rattle.slot_states.specs.SlotStates.{SlotState, answer, prints, Enters, StandsAt, MainGoes}
use Rattle.slot_states.proofs.Operating.{answers, answers_alone}

-- ---- lengths
more_text : (n b : ℕ) (os bs : List ℕ) → length bs ≡ b → n ≡ length os → n + b ≡ length (os ++ bs)
more_text n b os bs k h = let l : length (os ++ bs) ≡ length os + length bs = length-append os bs in omega (arith, h, k, l)

more_line : (n : ℕ) (os bs : List ℕ) → n ≡ length os → n + (length bs + 1) ≡ length (os ++ bs ++ line_feed)
more_line n os bs h =
    let l : length (os ++ bs) ≡ length os + length bs = length-append os bs in
    let k : length (os ++ bs ++ line_feed) ≡ length (os ++ bs) + 1 = length-append (os ++ bs) line_feed in
    omega (arith, h, k, l)

out_first : (n b o p e : ℕ) → n ≡ o + e → o + b ≡ p → n + b ≡ p + e
out_first n b o p e h k = omega (arith, h, k)

errors_last : (n b o e f : ℕ) → n ≡ o + e → e + b ≡ f → n + b ≡ o + f
errors_last n b o e f h k = omega (arith, h, k)

-- ---- printing
pub prints_text : (script : Script) → Accepted script → (x : SlotState) (t : ℕ) (b : List ℕ) → StandsAt x t (performs (calls PutStr (Text b ∷ []))) → MainGoes x → Enters script (Op t) x (prints t (length b) x)
prints_text script accepted x t b h main es s run r =
    answers script accepted x t main es s run r PutStr (Text b ∷ []) h UnitValue (s.output ++ b) s.errors s.marks s.next_instance s.next_timeout x.next_instance x.next_timeout (x.printed + length b) row.prints
    r.agrees.instances r.agrees.timeouts (out_first x.printed (length b) (length s.output) (length (s.output ++ b)) (length s.errors) r.agrees.printed (more_text (length s.output) (length b) s.output b refl refl))

pub prints_line : (script : Script) → Accepted script → (x : SlotState) (t : ℕ) (b : List ℕ) → StandsAt x t (performs (calls PutStrLn (Text b ∷ []))) → MainGoes x → Enters script (Op t) x (prints t (length b + 1) x)
prints_line script accepted x t b h main es s run r =
    answers script accepted x t main es s run r PutStrLn (Text b ∷ []) h UnitValue (s.output ++ b ++ line_feed) s.errors s.marks s.next_instance s.next_timeout x.next_instance x.next_timeout (x.printed + (length b + 1)) row.prints_a_line
    r.agrees.instances r.agrees.timeouts (out_first x.printed (length b + 1) (length s.output) (length (s.output ++ b ++ line_feed)) (length s.errors) r.agrees.printed (more_line (length s.output) s.output b refl))

pub prints_error_line : (script : Script) → Accepted script → (x : SlotState) (t : ℕ) (b : List ℕ) → StandsAt x t (performs (calls HPutStrLn (Text b ∷ []))) → MainGoes x → Enters script (Op t) x (prints t (length b + 1) x)
prints_error_line script accepted x t b h main es s run r =
    answers script accepted x t main es s run r HPutStrLn (Text b ∷ []) h UnitValue s.output (s.errors ++ b ++ line_feed) s.marks s.next_instance s.next_timeout x.next_instance x.next_timeout (x.printed + (length b + 1)) row.tells_a_line
    r.agrees.instances r.agrees.timeouts (errors_last x.printed (length b + 1) (length s.output) (length s.errors) (length (s.errors ++ b ++ line_feed)) r.agrees.printed (more_line (length s.errors) s.errors b refl))

-- ---- answers
pub answers_thread : (script : Script) → Accepted script → (x : SlotState) (t : ℕ) → StandsAt x t (performs (calls MyThreadId [])) → MainGoes x → Enters script (Op t) x (answer t (val.Thread t) x)
answers_thread script accepted x t h main es s run r = answers_alone script accepted x t main es s run r MyThreadId [] h (val.Thread t) row.names_itself

pub answers_masking : (script : Script) → Accepted script → (x : SlotState) (t : ℕ) → (h : StandsAt x t (performs (calls GetMaskingState []))) → MainGoes x
    → Enters script (Op t) x (answer t (Text (masking_text (mask_from Unmasked h.thread.term.frames))) x)
answers_masking script accepted x t h main es s run r = answers_alone script accepted x t main es s run r GetMaskingState [] h (Text (masking_text (mask_from Unmasked h.thread.term.frames))) row.names_its_masking

pub answers_clock : (script : Script) → Accepted script → (x : SlotState) (t : ℕ) → StandsAt x t (performs (calls ClockMicros [])) → MainGoes x
    → Enters script (Op t) x (answer t (Int (pos (min x.clock 9223372036854775807))) x)
answers_clock script accepted x t h main es s run r = answers_alone script accepted x t main es s run r ClockMicros [] h (Int (pos (min x.clock 9223372036854775807))) (rw r.agrees.clock row.reads_the_clock)

pub answers_timeout : (script : Script) → Accepted script → (x : SlotState) (t : ℕ) → StandsAt x t (performs (calls NewTimeout [])) → MainGoes x
    → Enters script (Op t) x (record (answer t (Exception (Timeout x.next_timeout)) x) { next_timeout = suc x.next_timeout })
answers_timeout script accepted x t h main es s run r =
    answers script accepted x t main es s run r NewTimeout [] h (Exception (Timeout x.next_timeout)) s.output s.errors s.marks s.next_instance (suc s.next_timeout) x.next_instance (suc x.next_timeout) x.printed
    (rw r.agrees.timeouts row.makes_a_timeout) r.agrees.instances (ap suc r.agrees.timeouts) r.agrees.printed

pub answers_acquired : (script : Script) → Accepted script → (x : SlotState) (t : ℕ) → StandsAt x t (performs (calls Acquired [])) → MainGoes x
    → Enters script (Op t) x (record (answer t (Inst x.next_instance) x) { next_instance = suc x.next_instance })
answers_acquired script accepted x t h main es s run r =
    answers script accepted x t main es s run r Acquired [] h (Inst x.next_instance) s.output s.errors (AcquiredBy s.next_instance t ∷ s.marks) (suc s.next_instance) s.next_timeout (suc x.next_instance) x.next_timeout x.printed
    (rw r.agrees.instances row.acquires) (ap suc r.agrees.instances) r.agrees.timeouts r.agrees.printed

pub answers_release : (script : Script) → Accepted script → (x : SlotState) (t i : ℕ) → StandsAt x t (performs (calls Release (Inst i ∷ []))) → MainGoes x → Enters script (Op t) x (answer t UnitValue x)
answers_release script accepted x t i h main es s run r =
    answers script accepted x t main es s run r Release (Inst i ∷ []) h UnitValue s.output s.errors (ReleasedBy i t ∷ s.marks) s.next_instance s.next_timeout x.next_instance x.next_timeout x.printed
    row.releases r.agrees.instances r.agrees.timeouts r.agrees.printed
