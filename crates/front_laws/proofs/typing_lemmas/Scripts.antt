-- A script's nodes break each rule at each position no more often than a node stands there.
use Rattle.std.proofs.Common.{◌≡◌, ℕ, ◌+◌, ◌≤◌, ◌&&◌, Bool, true, false, cond, List, [], ◌∷◌, ◌++◌, Option, Some, None, refl, sym, ap, ◌∙◌, subst, arith, inl, inr, eqb, ltb}
use Rattle.std.proofs.lemmas.Bool.{eqb-true, eq-eqb}
use Rattle.hs_base.specs.declared.pos.Pos.{Pos}
use Rattle.hs_base.specs.declared.tree.expr.Name.{Name}
use Rattle.rules_expansion.specs.trees.Trees.{T, Wr}
use Rattle.rules_expansion.specs.trees.Programs.{Par, Bd, pure_body, io_body, Fn}
use Rattle.rules_typing.specs.Typing.{Fault, exactly, twice, mismatch, wide, large, nodes, TypedName, bound, Sig, Ctx, find}
use Rattle.rules_typing.specs.TypingFaults.{place, rank, In}
use Rattle.rules_typing.specs.TypingScripts.{result_of, params_in, wide_faults, room_faults, param_faults, head_faults, twice_by, twice_faults, sigs_from, none_of, Measured, measured_with, unmeasured}
use Rattle.typing_judge.specs.Judging.{same, Found, lost, part}
use Rattle.typing_judge.specs.JudgingScripts.{judge_body, ends, def_found, def_faults, is_large, large_faults, faults_from, script_faults}
use Rattle.front_laws.specs.typing.Positions.{ex_positions, bl_positions, par_positions, body_positions, fn_positions}
use Rattle.front_laws.proofs.typing_lemmas.Counts.{same_pos, same_pos_self, here, times, times-append}
use Rattle.front_laws.proofs.typing_lemmas.Tally.{spot, hit, tally, tally-append, Most, bad_most, part_most, room_most}
use Rattle.front_laws.proofs.typing_lemmas.Expressions.{judge_most}
use Rattle.front_laws.proofs.typing_lemmas.Actions.{bl_most}

module _ (q : Pos) (r : ℕ) where
  -- the body of a definition, without its written result
  abbrev inner_positions : Bd → List Pos
  inner_positions (pure_body w e) = ex_positions e
  inner_positions (io_body w a) = bl_positions a

  body_most : (c : Ctx) (s : List TypedName) (d : Bd) → Most q r (judge_body c s d) (times q (inner_positions d))
  body_most c s (pure_body w e) = judge_most q r c s e
  body_most c s (io_body w a) = bl_most q r c s a

  body_is : (d : Bd) → times q (body_positions d) ≡ here q (result_of d).pos + times q (inner_positions d)
  body_is (pure_body w e) = refl
  body_is (io_body w a) = refl

  -- ---- heads
  wide_most : (w : Wr) → tally q r (wide_faults w) ≤ here q w.pos
  wide_most w = by (ltb 64 (nodes w.ty))
    where
      by : (b : Bool) → tally q r (cond b (wide w.pos ∷ []) []) ≤ here q w.pos
      by true = bad_most q r (wide w.pos) w.pos refl
      by false = omega arith

  params_most : (s : List TypedName) (ps : List Par) → tally q r (param_faults s ps) ≤ times q (par_positions ps)
  params_most s [] = omega arith
  params_most s (p ∷ ps) =
      omega (
        arith,
        tally-append q r (wide_faults p.ty ++ room_faults s p.name) (param_faults (bound p.name p.ty.ty ∷ s) ps),
        tally-append q r (wide_faults p.ty) (room_faults s p.name),
        wide_most p.ty,
        room_most q r s p.name,
        params_most (bound p.name p.ty.ty ∷ s) ps,
      )

  -- ---- rules that are broken at a definition's name: no two of them are one rule
  one_number : (k : ℕ) → cond (eqb 0 k) 1 0 + cond (eqb 5 k) 1 0 + cond (eqb 8 k) 1 0 ≤ 1
  one_number k = elim (eqb 0 k) as (λ a. eqb 0 k ≡ a → cond a 1 0 + cond (eqb 5 k) 1 0 + cond (eqb 8 k) 1 0 ≤ 1) [
    | true ↦ λ w. subst (λ z. 1 + cond (eqb 5 z) 1 0 + cond (eqb 8 z) 1 0 ≤ 1) (eqb-true 0 k w) (omega arith)
    | false ↦ λ w. elim (eqb 5 k) as (λ a. eqb 5 k ≡ a → 0 + cond a 1 0 + cond (eqb 8 k) 1 0 ≤ 1) [
      | true ↦ λ v. subst (λ z. 0 + 1 + cond (eqb 8 z) 1 0 ≤ 1) (eqb-true 5 k v) (omega arith)
      | false ↦ λ v. by (eqb 8 k)
    ] refl
  ] refl
    where
      by : (b : Bool) → 0 + 0 + cond b 1 0 ≤ 1
      by true = omega arith
      by false = omega arith

  at_name : (p : Pos) → spot q r p 0 + spot q r p 5 + spot q r p 8 ≤ here q p
  at_name p = by (same_pos q p)
    where
      by : (b : Bool) → cond (b && eqb 0 r) 1 0 + cond (b && eqb 5 r) 1 0 + cond (b && eqb 8 r) 1 0 ≤ cond b 1 0
      by true = one_number r
      by false = omega arith

  list_most : (b : Bool) (f : Fault) → tally q r (cond b (f ∷ []) []) ≤ hit q r f
  list_most true f = omega arith
  list_most false f = omega arith

  twice_most : (c : Ctx) (x : Name) → tally q r (twice_faults c x) ≤ spot q r x.pos 0
  twice_most c x = by (find c.sigs x.text)
    where
      by : (o : Option Sig) → tally q r (twice_by x c.here o) ≤ spot q r x.pos 0
      by None = omega arith
      by (Some g) = list_most (ltb g.place c.here) (twice x.pos)

  ends_most : (x : Name) (w : Wr) (u : T) → Most q r (ends x w u) (spot q r x.pos 5)
  ends_most x w u = by (same w.ty u)
    where
      by : (b : Bool) → Most q r (cond b (record { faults = []; type = Some u }) (record { faults = mismatch x.pos (exactly w.ty) u ∷ []; type = None })) (spot q r x.pos 5)
      by true = omega arith
      by false = omega arith

  -- ---- definitions
  cond_most : (b : Bool) (x : Found) (n : ℕ) → Most q r x n → Most q r (cond b x lost) n
  cond_most true x n h = h
  cond_most false x n h = omega arith

  found_most : (c : Ctx) (d : Fn) → Most q r (def_found c d) (times q (inner_positions d.body) + spot q r d.name.pos 5)
  found_most c d =
      cond_most (none_of (head_faults d)) (part (judge_body c (params_in [] d.params) d.body) (ends d.name (result_of d.body))) (times q (inner_positions d.body) + spot q r d.name.pos 5)
      (part_most q r (judge_body c (params_in [] d.params) d.body) (ends d.name (result_of d.body)) (times q (inner_positions d.body)) (spot q r d.name.pos 5)
      (body_most c (params_in [] d.params) d.body) (ends_most d.name (result_of d.body)))

  large_most : (c : Ctx) (m : Measured) (d : Fn) → tally q r (large_faults c m d) ≤ spot q r d.name.pos 8
  large_most c m d = by (none_of (def_faults c d)) (is_large c.sigs m d)
    where
      by : (a b : Bool) → tally q r (cond a (cond b (large d.name.pos ∷ []) []) []) ≤ spot q r d.name.pos 8
      by true b = list_most b (large d.name.pos)
      by false b = omega arith

  def_most : (c : Ctx) (m : Measured) (d : Fn) → tally q r (def_faults c d ++ large_faults c m d) ≤ times q (d.name.pos ∷ (par_positions d.params ++ body_positions d.body))
  def_most c m d =
      omega (
        arith,
        tally-append q r (def_faults c d) (large_faults c m d),
        tally-append q r (twice_faults c d.name) (head_faults d ++ (def_found c d).faults),
        tally-append q r (head_faults d) (def_found c d).faults,
        tally-append q r (param_faults [] d.params) (wide_faults (result_of d.body)),
        twice_most c d.name,
        params_most [] d.params,
        wide_most (result_of d.body),
        found_most c d,
        large_most c m d,
        at_name d.name.pos,
        body_is d.body,
        times-append q (par_positions d.params) (body_positions d.body),
      )

  from_most : (sigs : List Sig) (m : Measured) (k : ℕ) (ds : List Fn) → tally q r (faults_from sigs m k ds) ≤ times q (fn_positions ds)
  from_most sigs m k [] = omega arith
  from_most sigs m k (d ∷ ds) =
      let c : Ctx = record { sigs = sigs; here = k } in
      omega (
        arith,
        tally-append q r (def_faults c d ++ large_faults c m d) (faults_from sigs (measured_with sigs m d) (k + 1) ds),
        def_most c m d,
        from_most sigs (measured_with sigs m d) (k + 1) ds,
        times-append q (d.name.pos ∷ (par_positions d.params ++ body_positions d.body)) (fn_positions ds),
      )

  pub script_most : (ds : List Fn) → tally q r (script_faults ds) ≤ times q (fn_positions ds)
  script_most ds = from_most (sigs_from 0 ds) unmeasured 0 ds

-- ---- a rule that is broken once
hit_self : (f : Fault) → hit (place f) (rank f) f ≡ 1
hit_self f = ap (λ b. cond (b && eqb (rank f) (rank f)) 1 0) (same_pos_self (place f)) ∙ ap (λ b. cond b 1 0) (eq-eqb (rank f) (rank f) refl)

hit_same : (f g : Fault) → place f ≡ place g → rank f ≡ rank g → hit (place f) (rank f) g ≡ 1
hit_same f g e k = ap (λ z. hit z (rank f) g) e ∙ (ap (λ z. hit (place g) z g) k ∙ hit_self g)

pub in_tally : (fs : List Fault) (f g : Fault) → place f ≡ place g → rank f ≡ rank g → In fs g → 1 ≤ tally (place f) (rank f) fs
in_tally [] f g e k h = absurd h
in_tally (x ∷ xs) f g e k (inl i) = omega (arith, subst (λ z. hit (place f) (rank f) z ≡ 1) i (hit_same f g e k))
in_tally (x ∷ xs) f g e k (inr h) = omega (arith, in_tally xs f g e k h)

pub once_same : (fs : List Fault) (f g : Fault) → place f ≡ place g → rank f ≡ rank g → tally (place f) (rank f) fs ≤ 1 → In fs f → In fs g → f ≡ g
once_same [] f g e k n h i = absurd h
once_same (x ∷ xs) f g e k n (inl h) (inl i) = h ∙ sym i
once_same (x ∷ xs) f g e k n (inl h) (inr i) = absurd (omega (arith, n, subst (λ z. hit (place f) (rank f) z ≡ 1) h (hit_self f), in_tally xs f g e k i))
once_same (x ∷ xs) f g e k n (inr h) (inl i) = absurd (omega (arith, n, subst (λ z. hit (place f) (rank f) z ≡ 1) i (hit_same f g e k), in_tally xs f f refl refl h))
once_same (x ∷ xs) f g e k n (inr h) (inr i) = once_same xs f g e k (omega (arith, n)) h i
