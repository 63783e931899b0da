-- What is known of the words of a draft.
use Rattle.std.proofs.Common.{◌≡◌, ◌≢◌, List, [], ◌∷◌, ◌++◌, Option, Some, None, refl, sym, ap, ◌∙◌, subst, inl, inr, append-nil, append_assoc}
use Rattle.std.specs.Prelude.{codes, Result, Ok, Err, IfOk, MatchOption}
use Rattle.std.proofs.lemmas.List.Sums.{fold-append}
use Rattle.hs_base.specs.declared.no_memory.NoMemory.{NoMemory}
use Rattle.claim_lines.specs.declared.claim.Part.{Part}
use Rattle.claim_lines.specs.declared.claim.Part.TheVariants as part
use Rattle.claim_lines.specs.declared.claim.Says.{Says}
use Rattle.claim_lines.specs.declared.claim.Says.TheVariants as says
use Rattle.claim_lines.specs.declared.words.Word.{Word}
use Rattle.claim_lines.specs.declared.words.Word.TheVariants.{Letters, Text}
use Rattle.claim_lines.specs.declared.draft.Verb.{Verb}
use Rattle.claim_lines.specs.declared.draft.Verb.TheVariants.{Always, Never, Sometimes}
use Rattle.claim_lines.specs.declared.draft.Stream.{Stream}
use Rattle.claim_lines.specs.declared.draft.Stream.TheVariants as stream
use Rattle.claim_lines.specs.declared.draft.Next.{Next}
use Rattle.claim_lines.specs.declared.draft.Next.TheVariants as next
use Rattle.claim_lines.specs.declared.draft.Step.TheVariants.{Await, Add}
use Rattle.claim_lines.specs.declared.draft.Draft.{Draft}
use Rattle.claim_lines.specs.declared.draft.Draft.TheVariants.{Begin, Condition, Terminates}
use Rattle.claim_lines.specs.Grammar.{part_words, condition_words, IsClaim, BeginsSomeClaim}
use Rattle.claim_lines.specs.Drafts.{verb_word, stream_word, and_word, has_word, parts_and, begun_words, AreRead, HasRead, First, At, goes, state_of, StepsTo}
use Rattle.claim_lines.proofs.Accepting.{step, run, run_and, run_condition, run_claim, IsWhole, begins_none}

-- ---- the words of parts

no_push : (ps : List Part) (p : Part) → ps ++ p ∷ [] ≢ []
no_push [] p e = cc
no_push (q ∷ ps) p e = cc

-- a part behind those that `and` follows
pub condition_push : (ps : List Part) (p : Part) → condition_words (ps ++ p ∷ []) ≡ parts_and ps ++ part_words p
condition_push [] p = refl
condition_push (q ∷ []) p = sym (append_assoc (part_words q) (and_word ∷ []) (part_words p))
condition_push (q ∷ r ∷ ps) p =
    ap (λ z. part_words q ++ and_word ∷ z) (condition_push (r ∷ ps) p) ∙ sym (append_assoc (part_words q) (and_word ∷ parts_and (r ∷ ps)) (part_words p))

pub condition_and : (ps : List Part) → ps ≢ [] → condition_words ps ++ and_word ∷ [] ≡ parts_and ps
condition_and [] h = absurd (h refl)
condition_and (p ∷ []) h = refl
condition_and (p ∷ q ∷ ps) h =
    append_assoc (part_words p) (and_word ∷ condition_words (q ∷ ps)) (and_word ∷ []) ∙ ap (λ z. part_words p ++ and_word ∷ z) (condition_and (q ∷ ps) (λ e. cc))

-- ---- a step

behind : (ws more : List Word) (w : Word) (v : Verb) → ws ≡ verb_word v ∷ more → ws ++ w ∷ [] ≡ verb_word v ∷ (more ++ w ∷ [])
behind ws more w v e = ap (λ z. z ++ w ∷ []) e

open_words : (more : List Word) (ps : List Part) (n : Next) → n ≢ next.And → AreRead more ps n → more ≡ parts_and ps ++ begun_words n
open_words more ps next.Part h e = e ∙ sym (append-nil (parts_and ps))
open_words more ps (next.TextOrHas s) h e = e
open_words more ps (next.Text s) h e = e
open_words more ps next.And h e = absurd (h refl)

read_add : (more : List Word) (ps : List Part) (n : Next) (w : Word) (p : Part) → AreRead more ps n → StepsTo n w (Add p) → AreRead (more ++ w ∷ []) (ps ++ p ∷ []) next.And
read_add more ps n w p r (differs, words) = (
  no_push ps p,
  ap (λ z. z ++ w ∷ []) (open_words more ps n differs r) ∙ (append_assoc (parts_and ps) (begun_words n) (w ∷ []) ∙ (ap (λ z. parts_and ps ++ z) (sym words) ∙ sym (condition_push ps p))),
)

read_await : (more : List Word) (ps : List Part) (n m : Next) (w : Word) → AreRead more ps n → StepsTo n w (Await m) → AreRead (more ++ w ∷ []) ps m
read_await more ps n next.Part w r (e, f) =
    let last : AreRead more ps next.And = subst (AreRead more ps) e r in
    ap (λ z. z ++ w ∷ []) last.1 ∙ (ap (λ z. condition_words ps ++ z ∷ []) f ∙ condition_and ps last.0)
read_await more ps n (next.TextOrHas s) w r (e, f) =
    let last : AreRead more ps next.Part = subst (AreRead more ps) e r in
    ap (λ z. z ++ w ∷ []) last ∙ ap (λ z. parts_and ps ++ z ∷ []) f
read_await more ps n (next.Text s) w r (e, f) =
    let last : AreRead more ps (next.TextOrHas s) = subst (AreRead more ps) e r in
    ap (λ z. z ++ w ∷ []) last ∙ (append_assoc (parts_and ps) (stream_word s ∷ []) (w ∷ []) ∙ ap (λ z. parts_and ps ++ stream_word s ∷ z ∷ []) f)
read_await more ps n next.And w r never = absurd never

pub has_read_add : (words : List Word) (v : Verb) (ps new : List Part) (n : Next) (w : Word) (p : Part) → HasRead words (Condition v ps n) → StepsTo n w (Add p) → new ≡ ps ++ p ∷ []
    → HasRead (words ++ w ∷ []) (Condition v new next.And)
has_read_add words v ps new n w p (more, e, r) s is =
    subst (λ z. HasRead (words ++ w ∷ []) (Condition v z next.And)) (sym is) (more ++ w ∷ [], behind words more w v e, read_add more ps n w p r s)

pub has_read_await : (words : List Word) (v : Verb) (ps : List Part) (n m : Next) (w : Word) → HasRead words (Condition v ps n) → StepsTo n w (Await m) → HasRead (words ++ w ∷ []) (Condition v ps m)
has_read_await words v ps n m w (more, e, r) s = (more ++ w ∷ [], behind words more w v e, read_await more ps n m w r s)

-- ---- how far it has come

run_verb : (v : Verb) (more : List Word) → run (Some First) (verb_word v ∷ more) ≡ run (Some (At next.Part)) more
run_verb Always more = refl
run_verb Never more = refl
run_verb Sometimes more = refl

run_begun : (ps : List Part) (s : Stream) (ws : List Word) → run (Some (At next.Part)) (parts_and ps ++ stream_word s ∷ ws) ≡ run (Some (At (next.TextOrHas s))) ws
run_begun ps stream.Output ws = fold-append step (Some (At next.Part)) (parts_and ps) (stream_word stream.Output ∷ ws) ∙ ap (λ z. run z (stream_word stream.Output ∷ ws)) (run_and ps)
run_begun ps stream.Errors ws = fold-append step (Some (At next.Part)) (parts_and ps) (stream_word stream.Errors ∷ ws) ∙ ap (λ z. run z (stream_word stream.Errors ∷ ws)) (run_and ps)

run_read : (more : List Word) (ps : List Part) (n : Next) → AreRead more ps n → run (Some (At next.Part)) more ≡ Some (At n)
run_read more ps next.Part e = ap (run (Some (At next.Part))) e ∙ run_and ps
run_read more ps (next.TextOrHas s) e = ap (run (Some (At next.Part))) e ∙ run_begun ps s []
run_read more ps (next.Text s) e = ap (run (Some (At next.Part))) e ∙ run_begun ps s (has_word ∷ [])
run_read more ps next.And (some, e) = ap (run (Some (At next.Part))) e ∙ run_condition ps some

pub run_draft : (words : List Word) (d : Draft) → HasRead words d → run (Some First) words ≡ Some (state_of d)
run_draft words Begin e = ap (run (Some First)) e
run_draft words (Condition v ps n) (more, e, r) = ap (run (Some First)) e ∙ (run_verb v more ∙ run_read more ps n r)
run_draft words Terminates e = ap (run (Some First)) e

-- ---- a claim goes on

claim_of : (v : Verb) (ps : List Part) (words : List Word) → ps ≢ [] → words ≡ verb_word v ∷ condition_words ps → (says : Says) × IsClaim words says
claim_of Always ps words some e = (says.Always ps, (some, e))
claim_of Never ps words some e = (says.Never ps, (some, e))
claim_of Sometimes ps words some e = (says.Sometimes ps, (some, e))

-- the words that end the part that has begun, and the part
ended_part : Next → Part
ended_part next.Part = part.Done
ended_part (next.TextOrHas stream.Output) = part.Output []
ended_part (next.TextOrHas stream.Errors) = part.Errors []
ended_part (next.Text stream.Output) = part.OutputHas []
ended_part (next.Text stream.Errors) = part.ErrorsHas []
ended_part next.And = part.Done

last_word : Next → Word
last_word next.Part = Letters (codes "done")
last_word (next.TextOrHas s) = Text []
last_word (next.Text s) = Text []
last_word next.And = Text []

ends_part : (n : Next) → n ≢ next.And → part_words (ended_part n) ≡ begun_words n ++ last_word n ∷ []
unfolding ended_part last_word
ends_part next.Part h = refl
ends_part (next.TextOrHas stream.Output) h = refl
ends_part (next.TextOrHas stream.Errors) h = refl
ends_part (next.Text stream.Output) h = refl
ends_part (next.Text stream.Errors) h = refl
ends_part next.And h = absurd (h refl)

begins_open : (words : List Word) (v : Verb) (ps : List Part) (n : Next) → n ≢ next.And → HasRead words (Condition v ps n) → BeginsSomeClaim words
begins_open words v ps n differs h =
    let (more, e, (some, is)) = has_read_add words v ps (ps ++ ended_part n ∷ []) n (last_word n) (ended_part n) h (differs, ends_part n differs) refl in
    let (says, claim) = claim_of v (ps ++ ended_part n ∷ []) (words ++ last_word n ∷ []) some (e ∙ ap (λ z. verb_word v ∷ z) is) in
    (last_word n ∷ [], says, claim)

pub begins_draft : (words : List Word) (d : Draft) → HasRead words d → BeginsSomeClaim words
begins_draft words Begin e = (Letters (codes "terminates") ∷ [], says.Terminates, ap (λ z. z ++ Letters (codes "terminates") ∷ []) e)
begins_draft words (Condition v ps next.Part) h = begins_open words v ps next.Part (λ e. cc) h
begins_draft words (Condition v ps (next.TextOrHas s)) h = begins_open words v ps (next.TextOrHas s) (λ e. cc) h
begins_draft words (Condition v ps (next.Text s)) h = begins_open words v ps (next.Text s) (λ e. cc) h
begins_draft words (Condition v ps next.And) (more, e, (some, is)) =
    let (says, claim) = claim_of v ps (words ++ []) some (append-nil words ∙ (e ∙ ap (λ z. verb_word v ∷ z) is)) in
    ([], says, claim)
begins_draft words Terminates e = ([], says.Terminates, append-nil words ∙ e)

-- ---- whether it is whole

abbrev pub IsOpen : Draft → Type 0
IsOpen Begin = Unit {0}
IsOpen (Condition v ps next.And) = ⊥
IsOpen (Condition v ps n) = Unit {0}
IsOpen Terminates = ⊥

open_state : (d : Draft) → IsOpen d → IsWhole (Some (state_of d)) → ⊥
open_state Begin h (inl e) = cc
open_state Begin h (inr e) = cc
open_state (Condition v ps next.Part) h (inl e) = cc
open_state (Condition v ps next.Part) h (inr e) = cc
open_state (Condition v ps (next.TextOrHas s)) h (inl e) = cc
open_state (Condition v ps (next.TextOrHas s)) h (inr e) = cc
open_state (Condition v ps (next.Text s)) h (inl e) = cc
open_state (Condition v ps (next.Text s)) h (inr e) = cc
open_state (Condition v ps next.And) h w = absurd h
open_state Terminates h w = absurd h

pub open_is_no_claim : (d : Draft) (words : List Word) (says : Says) → IsOpen d → HasRead words d → ¬ IsClaim words says
open_is_no_claim d words says o h claim = open_state d o (subst IsWhole (run_draft words d h) (run_claim words says claim))

pub open_condition : (v : Verb) (ps : List Part) (n : Next) → n ≢ next.And → IsOpen (Condition v ps n)
open_condition v ps next.Part h = tt
open_condition v ps (next.TextOrHas s) h = tt
open_condition v ps (next.Text s) h = tt
open_condition v ps next.And h = absurd (h refl)

-- ---- what the parts of the code answer

no_more : (r : Option Draft) (words : List Word) (d : Draft) (w : Word) → HasRead words d → MatchOption r (goes (state_of d) w ≡ None) (HasRead (words ++ w ∷ [])) → MatchOption r (¬ BeginsSomeClaim (words ++ w ∷ [])) (HasRead (words ++ w ∷ []))
no_more None words d w h stops = begins_none words w (state_of d) (run_draft words d h) stops
no_more (Some e) words d w h more = more

pub then_right : (answer : Result (Option Draft) NoMemory) (d : Draft) (w : Word) → IfOk answer (λ r. (words : List Word) → HasRead words d → MatchOption r (goes (state_of d) w ≡ None) (HasRead (words ++ w ∷ [])))
    → IfOk answer (λ r. (words : List Word) → HasRead words d → MatchOption r (¬ BeginsSomeClaim (words ++ w ∷ [])) (HasRead (words ++ w ∷ [])))
then_right (Ok r) d w h = λ words read. no_more r words d w read (h words read)
then_right (Err e) d w h = tt

pub first_right : (r : Option Draft) (words : List Word) (w : Word) → words ≡ [] → MatchOption r (goes First w ≡ None) (HasRead (w ∷ [])) → MatchOption r (goes First w ≡ None) (HasRead (words ++ w ∷ []))
first_right None words w e h = h
first_right (Some d) words w e h = subst (λ z. HasRead z d) (sym (ap (λ z. z ++ w ∷ []) e)) h

pub step_right : (answer : Result (Option Draft) NoMemory) (d e : Draft) (w : Word) → d ≡ e → IfOk answer (λ r. (words : List Word) → HasRead words e → MatchOption r (goes (state_of e) w ≡ None) (HasRead (words ++ w ∷ [])))
    → IfOk answer (λ r. (words : List Word) → HasRead words d → MatchOption r (goes (state_of d) w ≡ None) (HasRead (words ++ w ∷ [])))
step_right answer d e w same h = subst (λ z. IfOk answer (λ r. (words : List Word) → HasRead words z → MatchOption r (goes (state_of z) w ≡ None) (HasRead (words ++ w ∷ [])))) (sym same) h

pub has_read_at : (words : List Word) (v : Verb) (ps : List Part) (n m : Next) → n ≡ m → HasRead words (Condition v ps n) → HasRead words (Condition v ps m)
has_read_at words v ps n m e h = subst (λ z. HasRead words (Condition v ps z)) e h
