-- With each word that a claim has, `goes` goes on. So where it stops, no claim begins with the words so far.
use Rattle.std.proofs.Common.{◌≡◌, ◌≢◌, List, [], ◌∷◌, ◌++◌, Option, Some, None, refl, sym, ap, ◌∙◌, ◌⊎◌, inl, inr, append-nil}
use Rattle.std.specs.List.{fold}
use Rattle.std.proofs.lemmas.List.Sums.{fold-append}
use Rattle.claim_lines.specs.declared.claim.Part.{Part}
use Rattle.claim_lines.specs.declared.claim.Part.TheVariants.{Done, Uncaught, Deadlock, Stuck, Output, Errors, OutputHas, ErrorsHas}
use Rattle.claim_lines.specs.declared.claim.Says.{Says}
use Rattle.claim_lines.specs.declared.claim.Says.TheVariants.{Always, Never, Sometimes, Terminates}
use Rattle.claim_lines.specs.declared.words.Word.{Word}
use Rattle.claim_lines.specs.declared.draft.Next.TheVariants as next
use Rattle.claim_lines.specs.Grammar.{part_words, condition_words, IsClaim, BeginsSomeClaim}
use Rattle.claim_lines.specs.Drafts.{State, First, At, End, goes, and_word, parts_and}

abbrev pub step : Option State → Word → Option State
step None word = None
step (Some state) word = goes state word

abbrev pub run : Option State → List Word → Option State
run state words = fold step state words

pub run_none : (words : List Word) → run None words ≡ None
run_none [] = refl
run_none (w ∷ ws) = run_none ws

-- ---- what a claim has

run_part : (p : Part) (ws : List Word) → run (Some (At next.Part)) (part_words p ++ ws) ≡ run (Some (At next.And)) ws
run_part Done ws = refl
run_part Uncaught ws = refl
run_part Deadlock ws = refl
run_part Stuck ws = refl
run_part (Output text) ws = refl
run_part (Errors text) ws = refl
run_part (OutputHas text) ws = refl
run_part (ErrorsHas text) ws = refl

run_last : (p : Part) → run (Some (At next.Part)) (part_words p) ≡ Some (At next.And)
run_last p = ap (run (Some (At next.Part))) (sym (append-nil (part_words p))) ∙ run_part p []

pub run_and : (ps : List Part) → run (Some (At next.Part)) (parts_and ps) ≡ Some (At next.Part)
run_and [] = refl
run_and (p ∷ ps) = run_part p (and_word ∷ parts_and ps) ∙ run_and ps

pub run_condition : (ps : List Part) → ps ≢ [] → run (Some (At next.Part)) (condition_words ps) ≡ Some (At next.And)
run_condition [] h = absurd (h refl)
run_condition (p ∷ []) h = run_last p
run_condition (p ∷ q ∷ ps) h = run_part p (and_word ∷ condition_words (q ∷ ps)) ∙ run_condition (q ∷ ps) (λ e. cc)

-- at the end of a claim nothing more must come
abbrev pub IsWhole : Option State → Type 0
IsWhole state = (state ≡ Some (At next.And)) ⊎ (state ≡ Some End)

pub run_claim : (words : List Word) (says : Says) → IsClaim words says → IsWhole (run (Some First) words)
run_claim words (Always parts) (some, e) = inl (ap (run (Some First)) e ∙ run_condition parts some)
run_claim words (Never parts) (some, e) = inl (ap (run (Some First)) e ∙ run_condition parts some)
run_claim words (Sometimes parts) (some, e) = inl (ap (run (Some First)) e ∙ run_condition parts some)
run_claim words Terminates e = inr (ap (run (Some First)) e)

no_whole : (state : Option State) → state ≡ None → IsWhole state → ⊥
no_whole state e (inl h) = let both : ◌≡◌ {A = Option State} (Some (At next.And)) None = sym h ∙ e in cc
no_whole state e (inr h) = let both : ◌≡◌ {A = Option State} (Some End) None = sym h ∙ e in cc

run_more : (words more : List Word) → run (Some First) words ≡ None → run (Some First) (words ++ more) ≡ None
run_more words more e = fold-append step (Some First) words more ∙ (ap (λ z. run z more) e ∙ run_none more)

-- where it stops no claim begins so
pub begins_none : (words : List Word) (w : Word) (state : State) → run (Some First) words ≡ Some state → goes state w ≡ None → ¬ BeginsSomeClaim (words ++ w ∷ [])
begins_none words w state e h (more, says, claim) =
    let last : run (Some First) (words ++ w ∷ []) ≡ None = fold-append step (Some First) words (w ∷ []) ∙ (ap (λ z. step z w) e ∙ h) in
    no_whole (run (Some First) ((words ++ w ∷ []) ++ more)) (run_more (words ++ w ∷ []) more last) (run_claim ((words ++ w ∷ []) ++ more) says claim)
