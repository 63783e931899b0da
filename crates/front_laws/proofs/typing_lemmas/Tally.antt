-- How often a list of broken rules has a rule at a position, and what the ways of judging make of that.
use Rattle.std.proofs.Common.{◌≡◌, ℕ, ◌+◌, ◌≤◌, ◌&&◌, Bool, true, false, cond, List, [], ◌∷◌, ◌++◌, Option, Some, None, refl, subst, arith, eqb, ltb}
use Rattle.hs_base.specs.declared.pos.Pos.{Pos}
use Rattle.hs_base.specs.declared.tree.expr.Name.{Name}
use Rattle.rules_expansion.specs.trees.Trees.{T, Wr}
use Rattle.rules_typing.specs.Typing.{Fault, scope, wide, Need, is, of, refusal, Row, nodes, TypedName, Meant, wrong, takes, is_each}
use Rattle.rules_typing.specs.TypingFaults.{place, rank}
use Rattle.typing_judge.specs.Judging.{met, Found, good, bad, after, with1, with2, with3, with_all, needing, made, own, written, full, unless_full, unless_wrong, scope_faults, Founds, called, part, parts2, parts3, parts_all}
use Rattle.front_laws.proofs.typing_lemmas.Counts.{same_pos, here}

-- what a name means, where a broken rule is at the name
abbrev pub WrongAt : Pos → Meant → Type 0
WrongAt p (wrong f) = place f ≡ p
WrongAt p (takes params t) = Unit {0}

pub wrong_cond : (p : Pos) (b : Bool) (m n : Meant) → WrongAt p m → WrongAt p n → WrongAt p (cond b m n)
wrong_cond p true m n h k = h
wrong_cond p false m n h k = k

-- a rule that may be broken at the name
abbrev pub MaybeAt : Pos → Option Fault → Type 0
MaybeAt p None = Unit {0}
MaybeAt p (Some f) = place f ≡ p

module _ (q : Pos) (r : ℕ) where
  -- 1 for the rule of that number at that position, else 0
  abbrev pub spot : Pos → ℕ → ℕ
  spot p k = cond (same_pos q p && eqb k r) 1 0

  abbrev pub hit : Fault → ℕ
  hit f = spot (place f) (rank f)

  abbrev pub tally : List Fault → ℕ
  tally [] = 0
  tally (f ∷ fs) = hit f + tally fs

  pub tally-append : (fs gs : List Fault) → tally (fs ++ gs) ≡ tally fs + tally gs
  tally-append [] gs = omega arith
  tally-append (f ∷ fs) gs = omega (arith, tally-append fs gs)

  less : (a b : Bool) → cond (a && b) 1 0 ≤ cond a 1 0
  less true true = omega arith
  less true false = omega arith
  less false b = omega arith

  pub spot_here : (p : Pos) (k : ℕ) → spot p k ≤ here q p
  spot_here p k = less (same_pos q p) (eqb k r)

  pub hit_here : (f : Fault) (p : Pos) → place f ≡ p → hit f ≤ here q p
  hit_here f p e = subst (λ z. spot (place f) (rank f) ≤ here q z) e (spot_here (place f) (rank f))

  -- what a tally is at most
  abbrev pub Most : Found → ℕ → Type 0
  Most x n = tally x.faults ≤ n

  pub bad_most : (f : Fault) (p : Pos) → place f ≡ p → Most (bad f) (here q p)
  bad_most f p e = omega (arith, hit_here f p e)

  cond_most : (b : Bool) (x y : Found) (n : ℕ) → Most x n → Most y n → Most (cond b x y) n
  cond_most true x y n h k = h
  cond_most false x y n h k = k

  refusal_place : (p : Pos) (n : Need) → place (refusal p n) ≡ p
  refusal_place p (is a b) = refl
  refusal_place p (of f t) = refl

  pub needing_most : (p : Pos) (ns : List Need) (x : Found) (n : ℕ) → here q p ≤ n → Most x n → Most (needing p ns x) n
  needing_most p [] x n h k = k
  needing_most p (m ∷ ms) x n h k =
      cond_most (met m) (needing p ms x) (bad (refusal p m)) n (needing_most p ms x n h k) (omega (arith, h, bad_most (refusal p m) p (refusal_place p m)))

  pub own_most : (p : Pos) (row : Row) → Most (own p row) (here q p)
  own_most p row =
      needing_most p row.needs (made p row.makes row.type) (here q p) (omega arith)
      (cond_most (row.makes && ltb 64 (nodes row.type)) (bad (wide p)) (good row.type) (here q p) (bad_most (wide p) p refl) (omega arith))

  pub written_most : (w : Wr) → Most (written w) (here q w.pos)
  written_most w = cond_most (ltb 64 (nodes w.ty)) (bad (wide w.pos)) (good w.ty) (here q w.pos) (bad_most (wide w.pos) w.pos refl) (omega arith)

  pub after_most : (fs : List Fault) (x : Found) (m n : ℕ) → tally fs ≤ m → Most x n → Most (after fs x) (m + n)
  after_most fs x m n h k = omega (arith, tally-append fs x.faults, h, k)

  with1_most : (o : Option T) (k : T → Found) (n : ℕ) → ((u : T) → Most (k u) n) → Most (with1 o k) n
  with1_most None k n h = omega arith
  with1_most (Some u) k n h = h u

  with2_most : (o p : Option T) (k : T → T → Found) (n : ℕ) → ((u v : T) → Most (k u v) n) → Most (with2 o p k) n
  with2_most None p k n h = omega arith
  with2_most (Some u) p k n h = with1_most p (k u) n (h u)

  with3_most : (o p s : Option T) (k : T → T → T → Found) (n : ℕ) → ((u v w : T) → Most (k u v w) n) → Most (with3 o p s k) n
  with3_most None p s k n h = omega arith
  with3_most (Some u) p s k n h = with2_most p s (k u) n (h u)

  with_all_most : (o : Option (List T)) (k : List T → Found) (n : ℕ) → ((us : List T) → Most (k us) n) → Most (with_all o k) n
  with_all_most None k n h = omega arith
  with_all_most (Some us) k n h = h us

  -- parts, and what the node adds: over the positions of the parts
  pub part_most : (a : Found) (k : T → Found) (m n : ℕ) → Most a m → ((u : T) → Most (k u) n) → Most (part a k) (m + n)
  part_most a k m n h g = after_most a.faults (with1 a.type k) m n h (with1_most a.type k n g)

  pub parts2_most : (a b : Found) (k : T → T → Found) (l m n : ℕ) → Most a l → Most b m → ((u v : T) → Most (k u v) n) → Most (parts2 a b k) (l + m + n)
  parts2_most a b k l m n h g f =
      after_most (a.faults ++ b.faults) (with2 a.type b.type k) (l + m) n (omega (arith, tally-append a.faults b.faults, h, g)) (with2_most a.type b.type k n f)

  pub parts3_most : (a b d : Found) (k : T → T → T → Found) (i l m n : ℕ) → Most a i → Most b l → Most d m → ((u v w : T) → Most (k u v w) n) → Most (parts3 a b d k) (i + l + m + n)
  parts3_most a b d k i l m n h g j f =
      after_most (a.faults ++ b.faults ++ d.faults) (with3 a.type b.type d.type k) (i + l + m) n
      (omega (arith, tally-append (a.faults ++ b.faults) d.faults, tally-append a.faults b.faults, h, g, j)) (with3_most a.type b.type d.type k n f)

  pub all_most : (a : Founds) (k : List T → Found) (m n : ℕ) → tally a.faults ≤ m → ((us : List T) → Most (k us) n) → Most (parts_all a (λ us. with_all us k)) (m + n)
  all_most a k m n h g = after_most a.faults (with_all a.types k) m n h (with_all_most a.types k n g)

  -- ---- names
  pub room_most : (s : List TypedName) (x : Name) → tally (scope_faults s x) ≤ here q x.pos
  room_most s x = by (full s)
    where
      by : (b : Bool) → tally (cond b (scope x.pos ∷ []) []) ≤ here q x.pos
      by true = bad_most (scope x.pos) x.pos refl
      by false = omega arith

  pub unless_full_most : (s : List TypedName) (x : Name) (a : Found) (n : ℕ) → Most a n → Most (unless_full s x a) (here q x.pos + n)
  unless_full_most s x a n h =
      cond_most (full s) (bad (scope x.pos)) a (here q x.pos + n) (omega (arith, bad_most (scope x.pos) x.pos refl)) (omega (arith, h))

  pub called_most : (p : Pos) (m : Meant) (us : Option (List T)) → WrongAt p m → Most (called p m us) (here q p)
  called_most p (wrong f) us e = bad_most f p e
  called_most p (takes params t) us e = with_all_most us (λ ts. needing p (is_each params ts) (good t)) (here q p) (λ ts. needing_most p (is_each params ts) (good t) (here q p) (omega arith) (omega arith))

  pub call_most : (p : Pos) (m : Meant) (a : Founds) (n : ℕ) → WrongAt p m → tally a.faults ≤ n → Most (parts_all a (called p m)) (n + here q p)
  call_most p m a n e h = after_most a.faults (called p m a.types) n (here q p) h (called_most p m a.types e)

  pub unless_wrong_most : (p : Pos) (o : Option Fault) (x : Found) (n : ℕ) → MaybeAt p o → Most x n → Most (unless_wrong o x) (here q p + n)
  unless_wrong_most p None x n e h = omega (arith, h)
  unless_wrong_most p (Some f) x n e h = omega (arith, h, hit_here f p e)
