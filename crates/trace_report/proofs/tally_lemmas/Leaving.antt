-- Lines that only lose threads.
use Rattle.std.proofs.Common.{◌≡◌, ◌≤◌, ℕ, suc, ◌==◌, List, [], ◌∷◌, length, true, false, Option, Some, None, refl, sym, ap, ◌∙◌, subst, arith}
use Rattle.plain_laws.proofs.Booleans.{both_false}
use Rattle.rules_meaning.specs.Values.{V}
use Rattle.rules_waiting.specs.OneCell.{Want, Place, leaves_line, stands_in}
use Rattle.rules_waiting.specs.Waiting.{Waiting, with_place, want_at, leaves, is_blocked, line_of}
use Rattle.hs_rules.specs.Terms.{Part}
use Rattle.hs_rules.specs.State.{State, resume, resume_all}
use Rattle.hs_laws.proofs.Lists.{cond_cases, cond_false}
use Rattle.hs_laws.proofs.CellSteps.{line_leaves}

-- no line is longer than it was, and who stood in none of them still doesn't
pub record Lost (ws us : List (Waiting V)) : Type 0 where
  pub shorter : (m : ℕ) → length (line_of m us) ≤ length (line_of m ws)
  pub absent : (m t : ℕ) → stands_in t (line_of m ws) ≡ false → stands_in t (line_of m us) ≡ false

pub lost_none : (ws : List (Waiting V)) → Lost ws ws
lost_none ws = record { shorter = λ m. omega arith; absent = λ m t h. h }

pub lost_both : (ws us vs : List (Waiting V)) → Lost ws us → Lost us vs → Lost ws vs
lost_both ws us vs a b = record { shorter = λ m. let x = a.shorter m in let y = b.shorter m in omega (arith, x, y); absent = λ m t h. b.absent m t (a.absent m t h) }

shorter_line : (t : ℕ) (ps : List (Place V)) → length (leaves_line t ps) ≤ length ps
shorter_line t [] = omega arith
shorter_line t (p ∷ ps) =
    let k = shorter_line t ps in
    cond_cases (λ z. length z ≤ suc (length ps)) (p.thread == t) (leaves_line t ps) (p ∷ leaves_line t ps) (λ b. omega (arith, k)) (λ b. omega (arith, k))

absent_line : (u t : ℕ) (ps : List (Place V)) → stands_in u ps ≡ false → stands_in u (leaves_line t ps) ≡ false
absent_line u t [] e = refl
absent_line u t (p ∷ ps) e =
    let k = both_false (p.thread == u) (stands_in u ps) e in
    let l = absent_line u t ps k.1 in
    cond_cases (λ z. stands_in u z ≡ false) (p.thread == t) (leaves_line t ps) (p ∷ leaves_line t ps) (λ b. l) (λ b. cond_false (p.thread == u) true (stands_in u (leaves_line t ps)) k.0 ∙ l)

pub lost_one : (t : ℕ) (ws : List (Waiting V)) → Lost ws (leaves t ws)
lost_one t ws = record {
  shorter = λ m. subst (λ z. length z ≤ length (line_of m ws)) (sym (line_leaves m t ws)) (shorter_line t (line_of m ws));
  absent = λ m u h. ap (stands_in u) (line_leaves m t ws) ∙ absent_line u t (line_of m ws) h;
}

pub lost_all : (ts : List ℕ) (p : Part) (s : State) → Lost s.blocked (resume_all ts p s).blocked
lost_all [] p s = lost_none s.blocked
lost_all (t ∷ ts) p s = lost_both s.blocked (leaves t s.blocked) (resume_all ts p (resume t p s)).blocked (lost_one t s.blocked) (lost_all ts p (resume t p s))

-- who isn't blocked stands in no line
pub free_stands : (m t : ℕ) (ws : List (Waiting V)) → is_blocked t ws ≡ false → stands_in t (line_of m ws) ≡ false
free_stands m t [] e = refl
free_stands m t (w ∷ ws) e = let k = both_false (w.thread == t) (is_blocked t ws) e in placed (want_at m w.reason) k.0 (free_stands m t ws k.1)
  where
    placed : (o : Option (Want V)) → w.thread == t ≡ false → stands_in t (line_of m ws) ≡ false → stands_in t (with_place w.thread o (line_of m ws)) ≡ false
    placed None n h = h
    placed (Some a) n h = cond_false (w.thread == t) true (stands_in t (line_of m ws)) n ∙ h
