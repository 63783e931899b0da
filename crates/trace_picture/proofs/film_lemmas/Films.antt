-- The film of a run with one more entry.
use Rattle.std.proofs.Common.{◌≡◌, ℕ, List, [], ◌∷◌, ◌++◌, Option, Some, None, refl, sym, ap, ◌∙◌, subst}
use Rattle.hs_rules.specs.declared.entry.Entry.{Entry}
use Rattle.rules_expansion.specs.trees.Programs.{Fn}
use Rattle.rules_meaning.specs.CoreMeaning.{Code, code_of}
use Rattle.hs_rules.specs.State.{State}
use Rattle.hs_rules.specs.Entries.{next, Leads}
use Rattle.hs_rules.specs.Runs.{Run, first_of, IsRun}
use Rattle.lane_picture.specs.declared.film.Frame.{Frame}
use Rattle.trace_picture.specs.film.Filming.{frame_of, first_frame, frames_from, film_after, film_of}

frames_next : (code : Code) (s m : State) (x : Entry) (es : List Entry) → next code s x ≡ Some m → frames_from code s (x ∷ es) ≡ frame_of x s m ∷ frames_from code m es
frames_next code s m x es n = ap (λ o. elim o [ None ↦ [] | Some u ↦ frame_of x s u ∷ frames_from code u es ]) n

frames_more : (code : Code) (es : List Entry) (s u v : State) (e : Entry) → Run code s es u → next code u e ≡ Some v → frames_from code s (es ++ e ∷ []) ≡ frames_from code s es ++ frame_of e u v ∷ []
frames_more code [] s u v e r n = frames_next code s v e [] (subst (λ x. next code x e ≡ Some v) (sym r) n) ∙ ap (λ x. frame_of e x v ∷ []) r
frames_more code (x ∷ es) s u v e r n =
    frames_next code s r.0 x (es ++ e ∷ []) r.1.0
    ∙ (ap (λ z. frame_of x s r.0 ∷ z) (frames_more code es r.0 u v e r.2 n)
    ∙ ap (λ z. z ++ frame_of e u v ∷ []) (sym (frames_next code s r.0 x es r.1.0)))

pub film_more : (ds : List Fn) (es : List Entry) (s u : State) (e : Entry) → IsRun ds es s → Leads (code_of ds) s e u → film_of ds (es ++ e ∷ []) ≡ film_of ds es ++ frame_of e s u ∷ []
film_more ds es s u e r l =
    subst (λ o. film_after (code_of ds) o (es ++ e ∷ []) ≡ film_after (code_of ds) o es ++ frame_of e s u ∷ []) (sym r.1)
    (ap (λ z. first_frame r.0 ∷ z) (frames_more (code_of ds) es r.0 s u e r.2 l.0))

pub film_first : (ds : List Fn) (s : State) → IsRun ds [] s → film_of ds [] ≡ first_frame s ∷ []
film_first ds s r = subst (λ o. film_after (code_of ds) o [] ≡ first_frame s ∷ []) (sym r.1) (ap (λ x. first_frame x ∷ []) r.2)
