-- Stacks by number, as levels are added.
use Rattle.std.proofs.Common.{◌≡◌, ℕ, zero, suc, ◌+◌, ◌-◌, ◌<◌, ◌≤◌, List, [], ◌∷◌, ◌++◌, Option, Some, None, length, get_or, slice_get, refl, sym, ap, ap₂, ◌∙◌, subst, arith, ◌⊎◌, inl, inr, Bor, MatchOption}
use Rattle.std.proofs.lemmas.List.{length_push, length-append, get_or_append_left, append-nil}
use Rattle.std.proofs.lemmas.Option.{slice_get-get_or, get_or_from_slice_get, slice_get_within, slice_get_cases}
use Rattle.hs_base.specs.declared.mask.Mask.TheVariants.{Unmasked}
use Rattle.rules_code.specs.declared.code.CodeBody.{CodeBody}
use Rattle.slot_laws.specs.SlotRules.{at}
use Rattle.local_steps.specs.declared.active.Frame.{Frame}
use Rattle.local_steps.specs.Frames.{mask_inside}
use Rattle.local_steps.specs.Machine.{active_of, frame_of, frames_of}
use Rattle.number_tables.specs.Tables.{Grows}
use Rattle.number_tables.proofs.Indexes.{get_old, get_last, get_among}
use Rattle.term_graph.specs.declared.tables.level.Level.{Level}
use Rattle.std.specs.Option.{option_copied}
use Rattle.term_graph.specs.declared.tables.term.Term.{Term}
use Rattle.term_graph.specs.tables.Keys.{frame_key, part_key}
use Rattle.term_graph.specs.tables.Stacks.{pushed, stacks_after, stacks_of, IsMeasured, AreMeasured, Makes}
use Rattle.term_graph.specs.tables.Numbered.{Numbered, numbered, term_in, of_term, over_stack, IsStack, StandIn, HasGrown}
use Rattle.term_graph.proofs.tables_lemmas.Exact.{exact_part, exact_frame}

after_one : (ss : List (List Frame)) (ls : List Level) (l : Level) → stacks_after ss (ls ++ l ∷ []) ≡ stacks_after ss ls ++ pushed l (stacks_after ss ls) ∷ []
after_one ss [] l = refl
after_one ss (k ∷ ls) l = after_one (ss ++ pushed k ss ∷ []) ls l

after_length : (ss : List (List Frame)) (ls : List Level) → length (stacks_after ss ls) ≡ length ss + length ls
after_length ss [] = omega arith
after_length ss (k ∷ ls) =
    let e = after_length (ss ++ pushed k ss ∷ []) ls in let f = length_push ss (pushed k ss) in omega (arith, e, f)

pub stacks_length : (ls : List Level) → length (stacks_of ls) ≡ length ls + 1
stacks_length ls = let e = after_length ([] ∷ []) ls in omega (arith, e)

after_keeps : (ss : List (List Frame)) (ls : List Level) (n : ℕ) (fs : List Frame) → slice_get ss n ≡ Some fs → slice_get (stacks_after ss ls) n ≡ Some fs
after_keeps ss [] n fs e = e
after_keeps ss (k ∷ ls) n fs e = after_keeps (ss ++ pushed k ss ∷ []) ls n fs (get_old ss (pushed k ss ∷ []) n fs e)

after_same : (ss : List (List Frame)) (ls : List Level) (n : ℕ) → n < length ss → get_or (stacks_after ss ls) n [] ≡ get_or ss n []
after_same ss ls n h = get_or_from_slice_get (stacks_after ss ls) n (get_or ss n []) [] (after_keeps ss ls n (get_or ss n []) (slice_get-get_or ss n [] h))

level_at : (ss : List (List Frame)) (ls : List Level) (n : ℕ) (l : Level) → slice_get ls n ≡ Some l → l.outer < length ss + n → slice_get (stacks_after ss ls) (length ss + n) ≡ Some (pushed l (stacks_after ss ls))
level_at ss [] n l e h = let z : None ≡ Some l = e in absurd (cc z)
level_at ss (k ∷ ls) zero l e h =
    let z : Some k ≡ Some l = e in
    let same : k ≡ l = cc z in
    let there : slice_get (stacks_after (ss ++ pushed k ss ∷ []) ls) (length ss) ≡ Some (pushed k ss) = after_keeps (ss ++ pushed k ss ∷ []) ls (length ss) (pushed k ss) (get_last ss (pushed k ss)) in
    let i : length ss + 0 ≡ length ss = omega arith in
    let low : l.outer < length ss = omega (arith, h) in
    let lower : l.outer < length (ss ++ pushed k ss ∷ []) = let f = length_push ss (pushed k ss) in omega (arith, low, f) in
    let outer : get_or (stacks_after (ss ++ pushed k ss ∷ []) ls) l.outer [] ≡ get_or ss l.outer [] = after_same (ss ++ pushed k ss ∷ []) ls l.outer lower ∙ get_or_append_left ss (pushed k ss ∷ []) [] l.outer low in
    ap (slice_get (stacks_after (ss ++ pushed k ss ∷ []) ls)) i ∙ there ∙ ap (λ (x : Level). Some (pushed x ss)) same ∙ ap (λ gs. Some (l.frame ∷ gs)) (sym outer)
level_at ss (k ∷ ls) (suc n) l e h =
    let f = length_push ss (pushed k ss) in
    let i : length ss + suc n ≡ length (ss ++ pushed k ss ∷ []) + n = omega (arith, f) in
    ap (slice_get (stacks_after (ss ++ pushed k ss ∷ []) ls)) i ∙ level_at (ss ++ pushed k ss ∷ []) ls n l e (omega (arith, h, f))

-- the stack that a level makes
pub stack_of_level : (ls : List Level) (n : ℕ) (l : Level) → slice_get ls n ≡ Some l → l.outer ≤ n → slice_get (stacks_of ls) (n + 1) ≡ Some (pushed l (stacks_of ls))
stack_of_level ls n l e h = ap (slice_get (stacks_of ls)) (let z : n + 1 ≡ 1 + n = omega arith in z) ∙ level_at ([] ∷ []) ls n l e (omega (arith, h))

pub first_stack : (ls : List Level) → slice_get (stacks_of ls) 0 ≡ Some []
first_stack ls = after_keeps ([] ∷ []) ls 0 [] refl

-- ---- one level more

module _ (ls : List Level) (l : Level) where
  abbrev more : List (List Frame)
  more = stacks_of (ls ++ l ∷ [])

  pub stacks_one : stacks_of (ls ++ l ∷ []) ≡ stacks_of ls ++ pushed l (stacks_of ls) ∷ []
  stacks_one = after_one ([] ∷ []) ls l

  same_pushed : (k : Level) → k.outer < length (stacks_of ls) → pushed k (stacks_of (ls ++ l ∷ [])) ≡ pushed k (stacks_of ls)
  same_pushed k h = ap (λ gs. k.frame ∷ gs) (ap (λ (ss : List (List Frame)). get_or ss k.outer []) stacks_one ∙ get_or_append_left (stacks_of ls) (pushed l (stacks_of ls) ∷ []) [] k.outer h)

  kept_measure : (n : ℕ) (k : Level) → n < length ls + 1 → IsMeasured (stacks_of ls) n k → IsMeasured (stacks_of (ls ++ l ∷ [])) n k
  kept_measure n k h m =
      let e = stacks_length ls in
      let f = m.before in
      let same = same_pushed k (omega (arith, e, f, h)) in
      record { before = f; mask = m.mask ∙ ap (mask_inside Unmasked) (sym same); depth = m.depth ∙ ap length (sym same) }

  pub measured_after : AreMeasured ls → IsMeasured (stacks_of ls) (length ls) l → AreMeasured (ls ++ l ∷ [])
  measured_after all one n k e = elim (get_among ls l n k e) [
    | inl old ↦ let h = slice_get_within ls n k old in kept_measure n k (omega (arith, h)) (all n k old)
    | inr last ↦ subst (λ (x : Level). IsMeasured (stacks_of (ls ++ l ∷ [])) n x) last.1 (kept_measure n l (let f = last.0 in omega (arith, f)) (subst (λ i. IsMeasured (stacks_of ls) i l) (sym last.0) one))
  ]

-- what stands in a list with more behind it
pub stays : {X : Type 0} (old new : List X) (n : ℕ) (x : X) → Grows old new → slice_get old n ≡ Some x → slice_get new n ≡ Some x
stays old new n x g e = subst (λ xs. slice_get xs n ≡ Some x) (sym g.1) (get_old old g.0 n x e)

-- ---- the level of a stack

pub makes : (ls : List Level) (n : ℕ) (l : Level) (fs : List Frame) → AreMeasured ls → slice_get ls n ≡ Some l → slice_get (stacks_of ls) (n + 1) ≡ Some fs → Makes (stacks_of ls) fs l
makes ls n l fs all e there =
    let m = all n l e in
    let is : fs ≡ pushed l (stacks_of ls) = let z = stack_of_level ls n l e m.before in cc (z, there) in
    let low : l.outer < length (stacks_of ls) = let a = stacks_length ls in let b = m.before in let c = slice_get_within ls n l e in omega (arith, a, b, c) in
    record {
      outer = get_or (stacks_of ls) l.outer [];
      there = slice_get-get_or (stacks_of ls) l.outer [] low;
      is = is;
      mask = m.mask ∙ ap (mask_inside Unmasked) (sym is);
      depth = m.depth ∙ ap length (sym is);
    }

-- ---- no two stacks have the same frames

module _ (ls : List Level) (all : AreMeasured ls) (apart : (i j : ℕ) (a b : Level) → slice_get ls i ≡ Some a → slice_get ls j ≡ Some b → a.outer ∷ frame_key a.frame ≡ b.outer ∷ frame_key b.frame → i ≡ j) where
  -- a stack with frames is that of a level
  level_of : (n : ℕ) (fs : List Frame) → slice_get (stacks_of ls) (suc n) ≡ Some fs → (l : Level) × (slice_get ls n ≡ Some l) × Makes (stacks_of ls) fs l
  level_of n fs e =
      let h = slice_get_within (stacks_of ls) (suc n) fs e in
      let k = stacks_length ls in
      elim (slice_get_cases ls n).1 [
        | inl some ↦ (some.0, some.2, makes ls n some.0 fs all some.2 (ap (slice_get (stacks_of ls)) (let z : n + 1 ≡ suc n = omega arith in z) ∙ e))
        | inr none ↦ let z = none.0 in absurd (omega (arith, z, h, k))
      ]

  no_frames : (n : ℕ) → slice_get (stacks_of ls) (suc n) ≡ Some [] → ⊥
  no_frames n e = let z = (level_of n [] e).2.is in cc z

  some_frames : (f : Frame) (fs : List Frame) → slice_get (stacks_of ls) 0 ≡ Some (f ∷ fs) → ⊥
  some_frames f fs e = let z = first_stack ls in cc (e, z)

  pub stacks_apart : (fs : List Frame) (i j : ℕ) → slice_get (stacks_of ls) i ≡ Some fs → slice_get (stacks_of ls) j ≡ Some fs → i ≡ j
  stacks_apart [] zero zero d e = refl
  stacks_apart [] zero (suc j) d e = absurd (no_frames j e)
  stacks_apart [] (suc i) j d e = absurd (no_frames i d)
  stacks_apart (f ∷ fs) zero j d e = absurd (some_frames f fs d)
  stacks_apart (f ∷ fs) (suc i) zero d e = absurd (some_frames f fs e)
  stacks_apart (f ∷ fs) (suc i) (suc j) d e =
      let x = level_of i (f ∷ fs) d in
      let y = level_of j (f ∷ fs) e in
      let p = x.2.is in
      let q = y.2.is in
      let u : fs ≡ x.2.outer = cc p in
      let v : fs ≡ y.2.outer = cc q in
      let frames : x.0.frame ≡ y.0.frame = cc (p, q) in
      let outers : x.0.outer ≡ y.0.outer = stacks_apart fs x.0.outer y.0.outer (x.2.there ∙ ap (λ z. Some z) (sym u)) (y.2.there ∙ ap (λ z. Some z) (sym v)) in
      ap suc (apart i j x.0 y.0 x.1 y.1 (ap₂ (λ n g. n ∷ frame_key g) outers frames))

-- ---- a frame that is pushed

pub stacks_grow : (ls ns : List Level) (l : Level) → (ns ≡ ls) ⊎ (ns ≡ ls ++ l ∷ []) → Grows (stacks_of ls) (stacks_of ns)
stacks_grow ls ns l h = elim h [
  | inl same ↦ ([], ap stacks_of same ∙ sym (append-nil (stacks_of ls)))
  | inr more ↦ (pushed l (stacks_of ls) ∷ [], ap stacks_of more ∙ stacks_one ls l)
]

pub measured_now : (ls ns : List Level) (l : Level) → (ns ≡ ls) ⊎ (ns ≡ ls ++ l ∷ []) → AreMeasured ls → IsMeasured (stacks_of ls) (length ls) l → AreMeasured ns
measured_now ls ns l h all one = elim h [
  | inl same ↦ subst AreMeasured (sym same) all
  | inr more ↦ subst AreMeasured (sym more) (measured_after ls l all one)
]

pub is_pushed : (ls ns : List Level) (l one : Level) (n : ℕ) (g : Numbered) → g.stacks ≡ stacks_of ns → AreMeasured ns → Grows (stacks_of ls) (stacks_of ns) → slice_get ns n ≡ Some one
    → one.outer ∷ frame_key one.frame ≡ l.outer ∷ frame_key l.frame → (b : CodeBody) (fs : List Frame) → slice_get (stacks_of ls) l.outer ≡ Some fs → IsStack g b (n + 1) (frame_of b l.frame ∷ frames_of b fs)
is_pushed ls ns l one n g is all grows e same b fs there =
    let outers : one.outer ≡ l.outer = cc same in
    let frames : frame_key one.frame ≡ frame_key l.frame = cc same in
    let outer : get_or (stacks_of ns) one.outer [] ≡ fs = get_or_from_slice_get (stacks_of ns) one.outer fs [] (ap (slice_get (stacks_of ns)) outers ∙ stays (stacks_of ls) (stacks_of ns) l.outer fs grows there) in (
      one.frame ∷ fs,
      ap (λ (ss : List (List Frame)). slice_get ss (n + 1)) is ∙ stack_of_level ns n one e (all n one e).before ∙ ap (λ gs. Some (one.frame ∷ gs)) outer,
      ap (λ x. x ∷ frames_of b fs) (exact_frame one.frame l.frame frames b),
    )

-- ---- the level of a number

pub level_found : (ls : List Level) → AreMeasured ls → (n : ℕ) (fs : List Frame) (o : Option (Bor Level)) → option_copied o ≡ slice_get ls n → slice_get (stacks_of ls) (n + 1) ≡ Some fs → MatchOption o (fs ≡ []) (λ l. Makes (stacks_of ls) fs l.now)
level_found ls all n fs None e there =
    let h = slice_get_within (stacks_of ls) (n + 1) fs there in
    let k = stacks_length ls in
    elim (slice_get_cases ls n).1 [
      | inl some ↦ absurd (let z : None ≡ Some some.0 = e ∙ some.2 in cc z)
      | inr none ↦ let z = none.0 in absurd (omega (arith, z, h, k))
    ]
level_found ls all n fs (Some l) e there = makes ls n l.now fs all (sym e) there

-- ---- terms

pub is_term : (stacks : List (List Frame)) (ts : List Term) (n : ℕ) (one t : Term) → slice_get ts n ≡ Some one → one.stack ∷ part_key one.part ≡ t.stack ∷ part_key t.part → (b : CodeBody) (fs : List Frame) → slice_get stacks t.stack ≡ Some fs
    → term_in (numbered stacks ts) b n ≡ Some (at (active_of b t.part) (frames_of b fs))
is_term stacks ts n one t e same b fs there =
    let outer : one.stack ≡ t.stack = cc same in
    let key : part_key one.part ≡ part_key t.part = cc same in
    ap (of_term b stacks) e ∙ ap₂ (over_stack b) (exact_part one.part t.part key b) (ap (slice_get stacks) outer ∙ there)

pub stand_now : (ts ns : List Term) (t : Term) (stacks : List (List Frame)) → (ns ≡ ts) ⊎ (ns ≡ ts ++ t ∷ []) → StandIn ts stacks → t.stack < length stacks → StandIn ns stacks
stand_now ts ns t stacks h all low n u e = elim h [
  | inl same ↦ all n u (subst (λ xs. slice_get xs n ≡ Some u) same e)
  | inr more ↦ elim (get_among ts t n u (subst (λ xs. slice_get xs n ≡ Some u) more e)) [
    | inl old ↦ all n u old
    | inr last ↦ subst (λ (x : Term). x.stack < length stacks) last.1 low
  ]
]

pub stand_more : (ts : List Term) (old new : List (List Frame)) → Grows old new → StandIn ts old → StandIn ts new
stand_more ts old new g all n t e =
    let h = all n t e in let k = ap length g.1 in let j = length-append old g.0 in omega (arith, h, k, j)

pub terms_grow : (ts ns : List Term) (t : Term) → (ns ≡ ts) ⊎ (ns ≡ ts ++ t ∷ []) → Grows ts ns
terms_grow ts ns t h = elim h [ inl same ↦ ([], same ∙ sym (append-nil ts)) | inr more ↦ (t ∷ [], more) ]

-- ---- what the functions of terms need

pub first_is : (ls : List Level) (stacks : List (List Frame)) → stacks_of ls ≡ stacks → (n : ℕ) (fs : List Frame) → n ≡ 0 → slice_get stacks n ≡ Some fs → fs ≡ []
first_is ls stacks same n fs z e =
    let first : slice_get (stacks_of ls) 0 ≡ Some fs = ap₂ (λ (ss : List (List Frame)) i. slice_get ss i) same (sym z) ∙ e in
    let empty = first_stack ls in cc (first, empty)

pub level_is : (ls : List Level) (stacks : List (List Frame)) → stacks_of ls ≡ stacks → AreMeasured ls → (stack : ℕ) → 0 < stack → (o : Option (Bor Level)) → option_copied o ≡ slice_get ls (stack - 1) → (fs : List Frame) → slice_get stacks stack ≡ Some fs
    → MatchOption o (fs ≡ []) (λ l. Makes stacks fs l.now)
level_is ls stacks same all stack some o is fs e =
    let i : stack ≡ (stack - 1) + 1 = omega (arith, some) in
    let there : slice_get (stacks_of ls) ((stack - 1) + 1) ≡ Some fs = ap₂ (λ (ss : List (List Frame)) n. slice_get ss n) same (sym i) ∙ e in
    subst (λ ss. MatchOption o (fs ≡ []) (λ l. Makes ss fs l.now)) same (level_found ls all (stack - 1) fs o is there)

pub length_now : {X : Type 0} (xs ys : List X) (x : X) → (ys ≡ xs) ⊎ (ys ≡ xs ++ x ∷ []) → length ys ≤ length xs + 1
length_now xs ys x h = elim h [
  | inl same ↦ let e = ap length same in omega (arith, e)
  | inr more ↦ let e = ap length more in let f = length_push xs x in omega (arith, e, f)
]

pub grown_terms : (stacks : List (List Frame)) (ts ns : List Term) → Grows ts ns → HasGrown (numbered stacks ts) (numbered stacks ns)
grown_terms stacks ts ns g = record { stacks = ([], sym (append-nil stacks)); terms = g }

pub grown_stacks : (old new : List (List Frame)) (ts : List Term) → Grows old new → HasGrown (numbered old ts) (numbered new ts)
grown_stacks old new ts g = record { stacks = g; terms = ([], sym (append-nil ts)) }

-- a level that is made for a stack that is there
pub measured_level : (ls : List Level) (now : Numbered) → stacks_of ls ≡ now.stacks → (l : Level) → l.outer < length now.stacks → ((fs : List Frame) → slice_get now.stacks l.outer ≡ Some fs → l.mask ≡ mask_inside Unmasked (l.frame ∷ fs))
    → ((fs : List Frame) → slice_get now.stacks l.outer ≡ Some fs → l.depth ≡ length fs + 1) → IsMeasured (stacks_of ls) (length ls) l
measured_level ls now same l low masks depths =
    let fs : List Frame = get_or now.stacks l.outer [] in
    let there : slice_get now.stacks l.outer ≡ Some fs = slice_get-get_or now.stacks l.outer [] low in
    let is : pushed l (stacks_of ls) ≡ l.frame ∷ fs = ap (λ (ss : List (List Frame)). l.frame ∷ get_or ss l.outer []) same in
    let count = ap length same in
    let many = stacks_length ls in
    let deep = depths fs there in
    record {
      before = omega (arith, low, count, many);
      mask = masks fs there ∙ ap (mask_inside Unmasked) (sym is);
      depth = (let z : l.depth ≡ length (l.frame ∷ fs) = omega (arith, deep) in z) ∙ ap length (sym is);
    }
