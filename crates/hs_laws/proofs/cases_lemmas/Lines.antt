-- Lines of cells after answers.
use Rattle.std.proofs.Common.{◌≡◌, ℕ, ◌==◌, List, [], ◌∷◌, Bool, true, false, Option, Some, None, refl, sym, ap, ◌∙◌}
use Rattle.std.proofs.lemmas.Bool.{cond-true, cond-false}
use Rattle.rules_meaning.specs.Values.{V}
use Rattle.rules_waiting.specs.OneCell.{Place, Want, first_put, first_take, leaves_line, leave_line, readers}
use Rattle.rules_waiting.specs.Waiting.{Waiting, is_blocked, leaves, want_at, with_place, line_of}
use Rattle.hs_rules.specs.Terms.{Part, Ret}
use Rattle.hs_rules.specs.State.{State, answer, resume, resume_all}
use Rattle.hs_laws.specs.cases.Cases.{putter, taker, read_there}

pub free_stays : (t : ℕ) (ws : List (Waiting V)) → is_blocked t ws ≡ false → leaves t ws ≡ ws
free_stays t [] h = refl
free_stays t (w ∷ ws) h = by (free_stays t ws) (w.thread == t) refl
  where
    by : (is_blocked t ws ≡ false → leaves t ws ≡ ws) → (b : Bool) → w.thread == t ≡ b → leaves t (w ∷ ws) ≡ w ∷ ws
    by rest true e = let z : true ≡ false = sym (cond-true (w.thread == t) true (is_blocked t ws) e) ∙ h in absurd (cc z)
    by rest false e =
        cond-false (w.thread == t) (leaves t ws) (w ∷ leaves t ws) e
        ∙ ap (λ vs. w ∷ vs) (rest (sym (cond-false (w.thread == t) true (is_blocked t ws) e) ∙ h))

pub left_place : (t v : ℕ) (o : Option (Want V)) (ps : List (Place V)) → v == t ≡ true → leaves_line t ps ≡ leaves_line t (with_place v o ps)
left_place t v None ps e = refl
left_place t v (Some w) ps e = sym (cond-true (v == t) (leaves_line t ps) _ e)

pub kept_place : (t v : ℕ) (o : Option (Want V)) (ps : List (Place V)) → v == t ≡ false → with_place v o (leaves_line t ps) ≡ leaves_line t (with_place v o ps)
kept_place t v None ps e = refl
kept_place t v (Some w) ps e = sym (cond-false (v == t) (leaves_line t ps) _ e)

pub line_left : (k t : ℕ) (ws : List (Waiting V)) → line_of k (leaves t ws) ≡ leaves_line t (line_of k ws)
line_left k t [] = refl
line_left k t (w ∷ ws) = by (line_left k t ws) (w.thread == t) refl
  where
    by : line_of k (leaves t ws) ≡ leaves_line t (line_of k ws) → (b : Bool) → w.thread == t ≡ b → line_of k (leaves t (w ∷ ws)) ≡ leaves_line t (line_of k (w ∷ ws))
    by rest true e = ap (line_of k) (cond-true (w.thread == t) (leaves t ws) (w ∷ leaves t ws) e) ∙ (rest ∙ left_place t w.thread (want_at k w.reason) (line_of k ws) e)
    by rest false e =
        ap (line_of k) (cond-false (w.thread == t) (leaves t ws) (w ∷ leaves t ws) e)
        ∙ (ap (with_place w.thread (want_at k w.reason)) rest ∙ kept_place t w.thread (want_at k w.reason) (line_of k ws) e)

pub all_left : (k : ℕ) (ts : List ℕ) (p : Part) (s : State) → line_of k (resume_all ts p s).blocked ≡ leave_line ts (line_of k s.blocked)
all_left k [] p s = refl
all_left k (t ∷ ts) p s = all_left k ts p (resume t p s) ∙ ap (leave_line ts) (line_left k t s.blocked)

pub read_line : (c k : ℕ) (a : V) (s : State) → line_of k (read_there c a s).blocked ≡ leave_line (readers (line_of c s.blocked)) (line_of k s.blocked)
read_line c k a s = all_left k (readers (line_of c s.blocked)) (Ret a) s

pub same_putter : (t c : ℕ) (a : V) (s : State) → is_blocked t s.blocked ≡ false → putter c (answer t a s) ≡ putter c s
same_putter t c a s h = ap (λ ws. first_put (line_of c ws)) (free_stays t s.blocked h)

pub taker_after : (t c : ℕ) (a b : V) (s : State) → is_blocked t s.blocked ≡ false → taker c (read_there c a (answer t b s)) ≡ first_take (leave_line (readers (line_of c s.blocked)) (line_of c s.blocked))
taker_after t c a b s h =
    ap first_take (read_line c c a (answer t b s))
    ∙ ap (λ ws. first_take (leave_line (readers (line_of c ws)) (line_of c ws))) (free_stays t s.blocked h)
