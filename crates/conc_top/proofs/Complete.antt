-- Which answers are left where nothing fails and the words are a command.
use Rattle.std.proofs.Common.{◌≡◌, ◌⊎◌, ◌≤◌, ◌+◌, ℕ, List, drop, length, true, false, refl, sym, ap, subst, ◌∙◌, inl, inr, arith}
use Rattle.std.specs.Prelude.{Option, Some, None, IsSome, Result, Ok, Err}
use Rattle.std.proofs.Math.Logic.{∥∥₁_elim}
use Rattle.std.proofs.Props.{props}
use Rattle.conc_caps.specs.RunEnd.{RunEnd}
use Rattle.conc_caps.specs.RunEnd.TheVariants as end
use Rattle.conc_task.specs.declared.words.command.Command.{Command}
use Rattle.conc_task.specs.declared.words.command.Command.TheVariants.{Run, Check, Bench, Trace, Haskell, Ask}
use Rattle.conc_task.specs.declared.words.command.Command.TheVariants as commands
use Rattle.conc_task.specs.declared.words.command.Question.{Question}
use Rattle.conc_task.specs.declared.words.command.Question.TheVariants.{Verify, Report, Picture}
use Rattle.hs_compile.specs.declared.refusal.Refusal.{Refusal}
use Rattle.hs_compile.specs.Verdicts.{IsRefused}
use Rattle.hs_compile.proofs.Verdicts.{not_both}
use Rattle.hs_compile.specs.declared.refusal.Refusal.TheVariants as refusal
use Rattle.outcome_listing.specs.declared.bounds.Bounds.{Bounds}
use Rattle.trace_report.specs.Verified.{Verified as VerifiedRun}
use Rattle.trace_report.specs.RunFault.{RunFault}
use Rattle.trace_report.specs.RunFault.TheVariants as fault
use Rattle.conc_task.specs.Documents.{document_limit, HasBareDocument, HasDocument, HasLongDocument, HasNoScript, IsLeft, IsParted, IsScriptOf}
use Rattle.conc_task.specs.Commands.{Asks, AsksSomething, IsInput, ReadsSource}
use Rattle.conc_task.specs.Inputs.{IsScript}
use Rattle.conc_task.specs.Stops.{RefusesDocument, RefusesInput}
use Rattle.conc_top.specs.declared.ending.NotRun.{NotRun as NoRun}
use Rattle.conc_top.specs.declared.ending.NotRun.TheVariants as norun
use Rattle.conc_top.specs.declared.ending.Ending.{Ending}
use Rattle.conc_top.specs.declared.ending.Ending.TheVariants.{Ran, Accepted, Words, Refused, Read, Memory, Write, Verified, Reported, Pictured, NotRun, NotDrawn, Outcomes, NoOutcome, Claims, ClaimRefused, NoClaim, Printed}
use Rattle.conc_top.specs.Searches.{JudgesClaims, Searches}
use Rattle.conc_top.specs.Causes.{HasFault, HasIn, HasPicture, HasRunIn, HasTooMany, HasVerdict, IsDue, IsExpected, IsIn, IsJudged, IsNotRun, IsRefusal, IsRunIn, IsVerdict}

-- a source that tells its bytes had one list of them
one_left : (left : Option (List ℕ)) (x y : List ℕ) → IsSome left → IsLeft left x → IsLeft left y → x ≡ y
one_left None x y some h k = let none : false ≡ true = some in absurd (cc none)
one_left (Some known) x y some h k = sym h ∙ k

-- and a document has one script
same_script : (document x y trace other : List ℕ) → IsParted document trace x → IsParted document other y → x ≡ y
same_script document x y trace other h k =
    let at : h.at ≡ k.at = omega (arith, h.line.first k.at k.line.line, k.line.first h.at h.line.line) in
    h.behind ∙ ap (λ n. drop (n + 7) document) at ∙ sym k.behind

one_script : (document x y : List ℕ) → IsScriptOf document x → IsScriptOf document y → x ≡ y
one_script document x y (inl h) (inl k) = same_script document x y h.0 k.0 h.1 k.1
one_script document x y (inl h) (inr k) = absurd (k.0 h.1.at h.1.line.line)
one_script document x y (inr h) (inl k) = absurd (h.0 k.1.at k.1.line.line)
one_script document x y (inr h) (inr k) = h.1 ∙ sym k.1

one_input : (command : Option Command) (left : Option (List ℕ)) (x y : List ℕ) → IsSome command → (ReadsSource command → IsSome left) → IsInput command left x → IsInput command left y → x ≡ y
one_input None left x y good some h k = let none : false ≡ true = good in absurd (cc none)
one_input (Some (Run capabilities fuel clock)) left x y good some h k = one_left left x y (some tt) h k
one_input (Some Check) left x y good some h k = one_left left x y (some tt) h k
one_input (Some (Bench threads capabilities fuel)) left x y good some h k = h ∙ sym k
one_input (Some (Trace capabilities fuel clock)) left x y good some h k = one_left left x y (some tt) h k
one_input (Some (commands.Outcomes clock states fuel witness)) left x y good some h k = one_left left x y (some tt) h k
one_input (Some (commands.Claims clock states fuel)) left x y good some h k = one_left left x y (some tt) h k
one_input (Some Haskell) left x y good some h k = one_left left x y (some tt) h k
one_input (Some (Ask question)) left x y good some h k =
    one_script k.0 x y (subst (λ d. IsScriptOf d x) (one_left left h.0 k.0 (some tt) h.1 k.1) h.2) k.2

no_fault : (r : RunEnd) (write_fault : Type 0) → (write_fault → ⊥) → HasFault r write_fault → r ≡ end.Write → ⊥
no_fault r write_fault none has is = none (subst (λ z. HasFault z write_fault) is has)

-- where the input is an accepted script, it is refused only where it stands in a document that is too long
long_alone : (command : Option Command) (left : Option (List ℕ)) (bytes : List ℕ) (r : Refusal) → IsScript bytes → RefusesInput command left bytes r
    → AsksSomething command × (r ≡ refusal.TooLong) × HasLongDocument left
long_alone None left bytes r script refused = absurd (not_both bytes script.0 r script.1 refused)
long_alone (Some (Run capabilities fuel clock)) left bytes r script refused = absurd (not_both bytes script.0 r script.1 refused)
long_alone (Some Check) left bytes r script refused = absurd (not_both bytes script.0 r script.1 refused)
long_alone (Some (Bench threads capabilities fuel)) left bytes r script refused = absurd (not_both bytes script.0 r script.1 refused)
long_alone (Some (Trace capabilities fuel clock)) left bytes r script refused = absurd (not_both bytes script.0 r script.1 refused)
long_alone (Some (commands.Outcomes clock states fuel witness)) left bytes r script refused = absurd (not_both bytes script.0 r script.1 refused)
long_alone (Some (commands.Claims clock states fuel)) left bytes r script refused = absurd (not_both bytes script.0 r script.1 refused)
long_alone (Some Haskell) left bytes r script refused = absurd (not_both bytes script.0 r script.1 refused)
long_alone (Some (Ask question)) left bytes r script (inl refused) = absurd (not_both bytes script.0 r script.1 refused.2)
long_alone (Some (Ask question)) left bytes r script (inr long) = ((question, refl), long.0, long.1)

expected : (command : Option Command) (left : Option (List ℕ)) (bytes : List ℕ) (read_fault write_fault : Type 0) (e : Ending) → IsSome command → IsScript bytes → (read_fault → ⊥) → (write_fault → ⊥)
    → IsDue command left bytes read_fault write_fault e → IsExpected command left bytes e
expected command left bytes read_fault write_fault (Ran r) good script read write due = (due.0, no_fault r write_fault write due.2)
expected command left bytes read_fault write_fault Accepted good script read write due = due.0
expected command left bytes read_fault write_fault Memory good script read write due = tt
expected command left bytes read_fault write_fault (Refused r) good script read write due = long_alone command left bytes r script due.1
expected command left bytes read_fault write_fault Words good script read write due = let none : false ≡ true = subst IsSome due good in cc none
expected command left bytes read_fault write_fault Read good script read write due = read due.1
expected command left bytes read_fault write_fault Write good script read write due = write due
expected command left bytes read_fault write_fault (Verified v) good script read write due = due
expected command left bytes read_fault write_fault Reported good script read write due = due
expected command left bytes read_fault write_fault Pictured good script read write due = due
expected command left bytes read_fault write_fault (NotDrawn n) good script read write due = due
expected command left bytes read_fault write_fault (Outcomes extent) good script read write due = due
expected command left bytes read_fault write_fault (NoOutcome k) good script read write due = due
expected command left bytes read_fault write_fault (Claims j) good script read write due = due
expected command left bytes read_fault write_fault (ClaimRefused at) good script read write due = due
expected command left bytes read_fault write_fault NoClaim good script read write due = due
expected command left bytes read_fault write_fault Printed good script read write due = due.0
expected command left bytes read_fault write_fault (NotRun why) good script read write due = due

pub is_expected : (command : Option Command) (left : Option (List ℕ)) (read_fault out_fault err_fault : Type 0) (e : Ending)
    → (bytes : List ℕ) × IsInput command left bytes × IsDue command left bytes read_fault (out_fault ⊎ err_fault) e
    → (bytes : List ℕ) → IsSome command → (ReadsSource command → IsSome left) → IsInput command left bytes → IsScript bytes → (read_fault → ⊥) → (out_fault → ⊥) → (err_fault → ⊥) → IsExpected command left bytes e
is_expected command left read_fault out_fault err_fault e (found, input, due) bytes good some is script read out err =
    expected command left bytes read_fault (out_fault ⊎ err_fault) e good script read (λ failed. elim failed [ inl h ↦ out h | inr h ↦ err h ])
    (subst (λ z. IsDue command left z read_fault (out_fault ⊎ err_fault) e) (one_input command left found bytes good some input is) due)

-- ---- where the input is refused

module _ (left : Option (List ℕ)) (bytes : List ℕ) (r : Refusal) (refused : IsRefused r bytes) where
  no_verdict : (answer : Result VerifiedRun RunFault) → HasVerdict left bytes answer → ⊥
  no_verdict answer has = not_both bytes has.2 r has.3 refused

  bare_alone : (why : NoRun) → IsNotRun left bytes why → (why ≡ norun.NoScript) × HasBareDocument left
  bare_alone norun.NoScript has = (refl, has)
  bare_alone (norun.Spelling number) has = absurd (no_verdict (Err (fault.Spelling number)) has)
  bare_alone (norun.Long number) has = absurd (no_verdict (Err (fault.Long number)) has)
  bare_alone (norun.Illegal number) has = absurd (no_verdict (Err (fault.Illegal number)) has)

  is_refused : (command : Option Command) (read_fault write_fault : Type 0) (e : Ending) → IsSome command → (read_fault → ⊥) → (write_fault → ⊥)
      → IsDue command left bytes read_fault write_fault e → IsRefusal command left bytes e
  is_refused command read_fault write_fault (Ran ran) good read write due = not_both bytes due.1.0 r due.1.1 refused
  is_refused command read_fault write_fault Accepted good read write due = not_both bytes due.1.0 r due.1.1 refused
  is_refused command read_fault write_fault Memory good read write due = tt
  is_refused command read_fault write_fault (Refused q) good read write due = due.1
  is_refused command read_fault write_fault Words good read write due = let none : false ≡ true = subst IsSome due good in cc none
  is_refused command read_fault write_fault Read good read write due = read due.1
  is_refused command read_fault write_fault Write good read write due = write due
  is_refused command read_fault write_fault (Verified v) good read write due = no_verdict (Ok v) due.1
  is_refused command read_fault write_fault Reported good read write due = not_both bytes due.1.2 r due.1.3 refused
  is_refused command read_fault write_fault Pictured good read write due = not_both bytes due.1.2 r due.1.3 refused
  is_refused command read_fault write_fault (NotDrawn n) good read write due = not_both bytes due.1.2 r due.1.3 refused
  is_refused command read_fault write_fault (Outcomes extent) good read write due = ∥∥₁_elim due.1.3 (hlevel props) (λ found. not_both bytes found.explored.script r found.explored.accepted refused)
  is_refused command read_fault write_fault (NoOutcome k) good read write due = ∥∥₁_elim due.2 (hlevel props) (λ found. not_both bytes found.1.script r found.1.accepted refused)
  is_refused command read_fault write_fault (Claims j) good read write due = ∥∥₁_elim due.1.2 (hlevel props) (λ found. not_both bytes found.explored.script r found.explored.accepted refused)
  is_refused command read_fault write_fault (ClaimRefused at) good read write due = not_both bytes due.1.0 r due.1.1 refused
  is_refused command read_fault write_fault NoClaim good read write due = not_both bytes due.1.0 r due.1.1 refused
  is_refused command read_fault write_fault Printed good read write due = not_both bytes due.1.0 r due.1.1 refused
  is_refused command read_fault write_fault (NotRun why) good read write due = let (same, bare) = bare_alone why due.1 in (due.0, same, bare)

pub is_refusal : (command : Option Command) (left : Option (List ℕ)) (read_fault out_fault err_fault : Type 0) (e : Ending)
    → (bytes : List ℕ) × IsInput command left bytes × IsDue command left bytes read_fault (out_fault ⊎ err_fault) e
    → (bytes : List ℕ) (r : Refusal) → IsSome command → (ReadsSource command → IsSome left) → IsInput command left bytes → IsRefused r bytes → (read_fault → ⊥) → (out_fault → ⊥) → (err_fault → ⊥)
    → IsRefusal command left bytes e
is_refusal command left read_fault out_fault err_fault e (found, input, due) bytes r good some is refused read out err =
    is_refused left bytes r refused command read_fault (out_fault ⊎ err_fault) e good read (λ failed. elim failed [ inl h ↦ out h | inr h ↦ err h ])
    (subst (λ z. IsDue command left z read_fault (out_fault ⊎ err_fault) e) (one_input command left found bytes good some input is) due)

-- ---- what a document comes to

-- the question that a command asks
abbrev question_in : Option Command → Question
question_in (Some (Ask question)) = question
question_in (Some (Run capabilities fuel clock)) = Verify
question_in (Some Check) = Verify
question_in (Some (Bench threads capabilities fuel)) = Verify
question_in (Some (Trace capabilities fuel clock)) = Verify
question_in (Some (commands.Outcomes clock states fuel witness)) = Verify
question_in (Some (commands.Claims clock states fuel)) = Verify
question_in (Some Haskell) = Verify
question_in None = Verify

module _ (question : Question) (document bytes : List ℕ) where
  asks_this : (other : Question) → Asks (Some (Ask question)) other → question ≡ other
  asks_this other same = ap question_in same

  -- it is not `claims`
  no_claims : JudgesClaims (Some (Ask question)) → ⊥
  no_claims judges = let same : Some (Ask question) ≡ Some (commands.Claims judges.0.clock judges.0.states judges.0.fuel) = judges.1.0 in cc

  -- it is not `outcomes`
  other_command : (bounds : Bounds) (witness : Option ℕ) → Searches (Some (Ask question)) bounds witness → ⊥
  other_command bounds witness searches = let same : Some (Ask question) ≡ Some (commands.Outcomes bounds.clock bounds.states bounds.fuel witness) = searches.0 in cc

  whole : {trace : List ℕ} (has : HasDocument (Some document) trace bytes) → (length document ≤ document_limit) × IsParted document trace bytes
  whole has = (omega (arith, has.short, ap length has.left), subst (λ d. IsParted d _ bytes) (sym has.left) has.parted)

  judged : (answer : Result VerifiedRun RunFault) → HasVerdict (Some document) bytes answer → (length document ≤ document_limit) × (found : List ℕ) × IsJudged document found answer
  judged answer has = let (short, parted) = whole has.1 in (short, bytes, (has.0, parted, has.2, has.3, has.4))

  run_in : HasRunIn (Some document) bytes → (length document ≤ document_limit) × (found : List ℕ) × IsRunIn document found
  run_in has = let (short, parted) = whole has.1 in (short, bytes, (has.0, parted, has.2, has.3, has.4))

  picture_in : HasIn HasPicture (Some document) bytes → (length document ≤ document_limit) × (found : List ℕ) × IsIn HasPicture document found
  picture_in has = let (short, parted) = whole has.1 in (short, bytes, (has.0, parted, has.2, has.3, has.4))

  large_in : (n : ℕ) → HasIn (HasTooMany n) (Some document) bytes → (length document ≤ document_limit) × (found : List ℕ) × IsIn (HasTooMany n) document found
  large_in n has = let (short, parted) = whole has.1 in (short, bytes, (has.0, parted, has.2, has.3, has.4))

  no_run : (why : NoRun) → IsNotRun (Some document) bytes why → IsVerdict question document (NotRun why)
  no_run norun.NoScript has = (omega (arith, has.short, ap length has.left), subst HasNoScript (sym has.left) has.none)
  no_run (norun.Spelling number) has = judged (Err (fault.Spelling number)) has
  no_run (norun.Long number) has = judged (Err (fault.Long number)) has
  no_run (norun.Illegal number) has = judged (Err (fault.Illegal number)) has

  refused_document : (r : Refusal) → RefusesDocument (Some document) bytes r → IsVerdict question document (Refused r)
  refused_document r (inl has) = let (short, parted) = whole has.1 in inl (short, has.0, bytes, parted, has.2)
  refused_document r (inr has) = inr (has.0, omega (arith, has.1.long, ap length has.1.left))

  verdict : (read_fault write_fault : Type 0) (e : Ending) → (read_fault → ⊥) → (write_fault → ⊥) → IsDue (Some (Ask question)) (Some document) bytes read_fault write_fault e → IsVerdict question document e
  verdict read_fault write_fault (Ran ran) read write due = due.0.2
  verdict read_fault write_fault Accepted read write due = let same : Some (Ask question) ≡ Some Check = due.0 in cc
  verdict read_fault write_fault Memory read write due = tt
  verdict read_fault write_fault (Refused q) read write due = refused_document q due.1
  verdict read_fault write_fault Words read write due = let same : Some (Ask question) ≡ None = due in cc
  verdict read_fault write_fault Read read write due = read due.1
  verdict read_fault write_fault Write read write due = write due
  verdict read_fault write_fault (Verified v) read write due = let found = judged (Ok v) due.1 in (asks_this Verify due.0, found.0, found.1, found.2)
  verdict read_fault write_fault Reported read write due = let found = run_in due.1 in (asks_this Report due.0, found.0, found.1, found.2)
  verdict read_fault write_fault Pictured read write due = let found = picture_in due.1 in (asks_this Picture due.0, found.0, found.1, found.2)
  verdict read_fault write_fault (Outcomes extent) read write due = other_command due.1.0 due.1.1 due.1.2
  verdict read_fault write_fault (NoOutcome k) read write due = other_command due.0 (Some k) due.1
  verdict read_fault write_fault (Claims j) read write due = no_claims (due.1.0, due.1.1)
  verdict read_fault write_fault (ClaimRefused at) read write due = no_claims due.0
  verdict read_fault write_fault NoClaim read write due = no_claims due.0
  verdict read_fault write_fault Printed read write due = let same : Some (Ask question) ≡ Some Haskell = due.0 in cc
  verdict read_fault write_fault (NotDrawn n) read write due = let found = large_in n due.1 in (asks_this Picture due.0, found.0, found.1, found.2)
  verdict read_fault write_fault (NotRun why) read write due = no_run why due.1

pub is_verdict : (command : Option Command) (left : Option (List ℕ)) (read_fault out_fault err_fault : Type 0) (e : Ending)
    → (bytes : List ℕ) × IsInput command left bytes × IsDue command left bytes read_fault (out_fault ⊎ err_fault) e
    → (question : Question) (document : List ℕ) → Asks command question → left ≡ Some document → (read_fault → ⊥) → (out_fault → ⊥) → (err_fault → ⊥) → IsVerdict question document e
is_verdict command left read_fault out_fault err_fault e (found, input, due) question document is known read out err =
    verdict question document found read_fault (out_fault ⊎ err_fault) e read (λ failed. elim failed [ inl h ↦ out h | inr h ↦ err h ])
    (subst (λ z. IsDue (Some (Ask question)) z found read_fault (out_fault ⊎ err_fault) e) known (subst (λ c. IsDue c left found read_fault (out_fault ⊎ err_fault) e) is due))
