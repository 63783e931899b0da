-- What a cell keeps as threads join its line, are served and leave.
use Rattle.std.proofs.Common.{◌≡◌, ◌≢◌, ℕ, suc, ◌+◌, ◌≤◌, ◌==◌, Bool, true, false, cond, is_some, List, [], ◌∷◌, ◌++◌, length, Option, Some, None, refl, ap, sym, subst, ◌∙◌, arith, length-append}
use Rattle.plain_laws.proofs.Booleans.{both_false}
use Rattle.plain_laws.proofs.Numbers.{unequal_back}
use Rattle.hs_base.specs.declared.value.Value.{Value}
use Rattle.rules_waiting.specs.OneCell.{Want, To_take, To_read, To_put, Place, stands_in, leaves_line, readers, first_take, first_put, reads_it, takes_it}
use Rattle.mvar_cell.specs.declared.cells.Stored.{Stored}
use Rattle.mvar_cell.specs.declared.lines.Sought.TheVariants.{Thread, Reader}
use Rattle.mvar_cell.specs.Mvars.{AllWait, IsDistinct, IsCell, puts_it}
use Rattle.mvar_cell.specs.Nodes.{any_sought}
use Rattle.mvar_cell.proofs.CellLaws.{leaves_first}

-- ---- who waits
waits_append : (full : Bool) (ps : List (Place Value)) (p : Place Value) → puts_it p.want ≡ full → AllWait full ps → AllWait full (ps ++ p ∷ [])
waits_append full [] p e h = (e, tt)
waits_append full (q ∷ ps) p e h = (h.0, waits_append full ps p e h.1)

waits_middle : (full : Bool) (front back : List (Place Value)) (p : Place Value) → AllWait full (front ++ p ∷ back) → AllWait full (front ++ back)
waits_middle full [] back p h = h.1
waits_middle full (q ∷ front) back p h = (h.0, waits_middle full front back p h.1)

-- at a full cell nobody waits to read or to take
pub none_reads : (ps : List (Place Value)) → AllWait true ps → readers ps ≡ []
none_reads [] h = refl
none_reads (p ∷ ps) h =
    elim p.want as (λ w. puts_it w ≡ true → cond (reads_it w) (p.thread ∷ readers ps) (readers ps) ≡ []) [
      | To_take ↦ λ e. (let no : ⊥ = cc in absurd no)
      | To_read ↦ λ e. (let no : ⊥ = cc in absurd no)
      | To_put v ↦ λ e. none_reads ps h.1
    ] h.0

-- ---- threads
stands_append : (t : ℕ) (ps : List (Place Value)) (p : Place Value) → stands_in t ps ≡ false → (p.thread == t) ≡ false → stands_in t (ps ++ p ∷ []) ≡ false
stands_append t [] p h e = ap (λ b. cond b true false) e
stands_append t (q ∷ ps) p h e =
    let s = both_false (q.thread == t) (stands_in t ps) h in
    ap (λ b. cond b true (stands_in t (ps ++ p ∷ []))) s.0 ∙ stands_append t ps p s.1 e

distinct_append : (ps : List (Place Value)) (p : Place Value) → stands_in p.thread ps ≡ false → IsDistinct ps → IsDistinct (ps ++ p ∷ [])
distinct_append [] p h d = (refl, tt)
distinct_append (q ∷ ps) p h d =
    let s = both_false (q.thread == p.thread) (stands_in p.thread ps) h in
    (stands_append q.thread ps p d.0 (unequal_back q.thread p.thread s.0), distinct_append ps p s.1 d.1)

absent_middle : (x : ℕ) (front back : List (Place Value)) (p : Place Value) → stands_in x (front ++ p ∷ back) ≡ false → (p.thread == x ≡ false) × (stands_in x (front ++ back) ≡ false)
absent_middle x [] back p h = both_false (p.thread == x) (stands_in x back) h
absent_middle x (q ∷ front) back p h =
    let s = both_false (q.thread == x) (stands_in x (front ++ p ∷ back)) h in
    let r = absent_middle x front back p s.1 in
    (r.0, ap (λ b. cond b true (stands_in x (front ++ back))) s.0 ∙ r.1)

distinct_middle : (front back : List (Place Value)) (p : Place Value) → IsDistinct (front ++ p ∷ back) → IsDistinct (front ++ back)
distinct_middle [] back p d = d.1
distinct_middle (q ∷ front) back p d = ((absent_middle q.thread front back p d.0).1, distinct_middle front back p d.1)

leaves_middle : (front back : List (Place Value)) (p : Place Value) → IsDistinct (front ++ p ∷ back) → leaves_line p.thread (front ++ p ∷ back) ≡ front ++ back
leaves_middle [] back p d = leaves_first p back d.0
leaves_middle (q ∷ front) back p d =
    let other : q.thread == p.thread ≡ false = unequal_back p.thread q.thread (absent_middle q.thread front back p d.0).0 in
    ap (λ b. cond b (leaves_line p.thread (front ++ p ∷ back)) (q ∷ leaves_line p.thread (front ++ p ∷ back))) other ∙ ap (λ qs. q ∷ qs) (leaves_middle front back p d.1)

-- the one place of a thread is left out
pub leaves : (t : ℕ) (line front back : List (Place Value)) (p : Place Value) → line ≡ front ++ p ∷ back → p.thread ≡ t → IsDistinct line → leaves_line t line ≡ front ++ back
leaves t line front back p was same d =
    ap (λ u. leaves_line u line) (sym same) ∙ ap (leaves_line p.thread) was ∙ leaves_middle front back p (subst IsDistinct was d)

pub standing : (t : ℕ) (ps : List (Place Value)) → any_sought (Thread t) ps ≡ stands_in t ps
standing t [] = refl
standing t (p ∷ ps) = ap (cond (p.thread == t) true) (standing t ps)

-- ---- readers
readers_append : (ps qs : List (Place Value)) → readers (ps ++ qs) ≡ readers ps ++ readers qs
readers_append [] qs = refl
readers_append (p ∷ ps) qs =
    elim (reads_it p.want) as (λ b. cond b (p.thread ∷ readers (ps ++ qs)) (readers (ps ++ qs)) ≡ cond b (p.thread ∷ readers ps) (readers ps) ++ readers qs) [
      | true ↦ ap (λ ts. p.thread ∷ ts) (readers_append ps qs)
      | false ↦ readers_append ps qs
    ]

none_in_front : (front : List (Place Value)) → any_sought Reader front ≡ false → readers front ≡ []
none_in_front [] h = refl
none_in_front (p ∷ front) h =
    let s = both_false (reads_it p.want) (any_sought Reader front) h in
    ap (λ b. cond b (p.thread ∷ readers front) (readers front)) s.0 ∙ none_in_front front s.1

pub some_reads : (ps : List (Place Value)) → length (readers ps) ≢ 0 → any_sought Reader ps ≡ true
some_reads [] h = absurd (h refl)
some_reads (p ∷ ps) h =
    elim (reads_it p.want) as (λ b. (length (cond b (p.thread ∷ readers ps) (readers ps)) ≢ 0) → cond b true (any_sought Reader ps) ≡ true) [ true ↦ λ g. refl | false ↦ λ g. some_reads ps g ] h

pub no_length : (ts : List ℕ) → length ts ≡ 0 → ts ≡ []
no_length [] h = refl
no_length (t ∷ ts) h = let no : ⊥ = omega arith in absurd no

reader_takes_not : (w : Want Value) → reads_it w ≡ true → takes_it w ≡ false
reader_takes_not To_take h = let no : ⊥ = cc in absurd no
reader_takes_not To_read h = refl
reader_takes_not (To_put v) h = refl

-- the first reader is left out
pub record ReaderOut (line front back : List (Place Value)) (t : ℕ) : Type 0 where
  pub readers : readers line ≡ t ∷ readers (front ++ back)
  pub takers : first_take (front ++ back) ≡ first_take line

takers_middle : (front back : List (Place Value)) (p : Place Value) → takes_it p.want ≡ false → first_take (front ++ back) ≡ first_take (front ++ p ∷ back)
takers_middle [] back p h = sym (ap (λ b. cond b (Some p.thread) (first_take back)) h)
takers_middle (q ∷ front) back p h = ap (cond (takes_it q.want) (Some q.thread)) (takers_middle front back p h)

pub reader_out : (line front back : List (Place Value)) (p : Place Value) → line ≡ front ++ p ∷ back → any_sought Reader front ≡ false → reads_it p.want ≡ true → ReaderOut line front back p.thread
reader_out line front back p was clear reads =
    let none = none_in_front front clear in
    record {
      readers = ap readers was ∙ readers_append front (p ∷ back) ∙ ap (λ ts. ts ++ readers (p ∷ back)) none ∙ ap (λ b. cond b (p.thread ∷ readers back) (readers back)) reads ∙ ap (λ ts. p.thread ∷ (ts ++ readers back)) (sym none) ∙ ap (λ ts. p.thread ∷ ts) (sym (readers_append front back));
      takers = takers_middle front back p (reader_takes_not p.want reads) ∙ ap first_take (sym was);
    }

readers_middle : (front back : List (Place Value)) (p : Place Value) → length (readers (front ++ p ∷ back)) ≡ cond (reads_it p.want) 1 0 + length (readers (front ++ back))
readers_middle [] back p =
    elim (reads_it p.want) as (λ b. length (cond b (p.thread ∷ readers back) (readers back)) ≡ cond b 1 0 + length (readers back)) [ true ↦ omega arith | false ↦ omega arith ]
readers_middle (q ∷ front) back p =
    let r = readers_middle front back p in
    elim (reads_it q.want) as (λ b. length (cond b (q.thread ∷ readers (front ++ p ∷ back)) (readers (front ++ p ∷ back))) ≡ cond (reads_it p.want) 1 0 + length (cond b (q.thread ∷ readers (front ++ back)) (readers (front ++ back)))) [ true ↦ omega (arith, r) | false ↦ r ]

pub readers_within : (front back : List (Place Value)) (p : Place Value) → reads_it p.want ≡ true → 1 ≤ length (readers (front ++ p ∷ back))
readers_within front back p reads =
    let n = readers_middle front back p in
    let one : ◌≡◌ {A = ℕ} (cond (reads_it p.want) 1 0) 1 = ap (λ (b : Bool). cond b 1 0) reads in
    omega (arith, n, one)

-- ---- cells
-- a thread joins
pub joined : (s : Stored) (line : List (Place Value)) (p : Place Value) (n : ℕ) → IsCell s line → puts_it p.want ≡ is_some s.content → stands_in p.thread line ≡ false → n ≡ s.readers + cond (reads_it p.want) 1 0 → IsCell (record s { readers = n }) (line ++ p ∷ [])
joined s line p n h wants alone counted =
    let one : length (readers (p ∷ [])) ≡ cond (reads_it p.want) 1 0 = elim (reads_it p.want) as (λ b. length (cond b (p.thread ∷ []) []) ≡ cond b 1 0) [ true ↦ refl | false ↦ refl ] in
    let all = ap (λ (ts : List ℕ). length ts) (readers_append line (p ∷ [])) in
    let sum = length-append (readers line) (readers (p ∷ [])) in
    record {
      waits = waits_append (is_some s.content) line p wants h.waits;
      distinct = distinct_append line p alone h.distinct;
      counted = omega (arith, counted, h.counted, all, sum, one);
    }

-- a place leaves
pub left : (s : Stored) (line front back : List (Place Value)) (p : Place Value) (n : ℕ) → IsCell s line → line ≡ front ++ p ∷ back → s.readers ≡ cond (reads_it p.want) 1 0 + n → IsCell (record s { readers = n }) (front ++ back)
left s line front back p n h was counted =
    let here = subst (IsCell s) was h in
    let sum = readers_middle front back p in
    let c = here.counted in
    let d : length (readers (front ++ back)) ≡ n = omega (arith, sum, c, counted) in
    record {
      waits = waits_middle (is_some s.content) front back p here.waits;
      distinct = distinct_middle front back p here.distinct;
      counted = sym d;
    }

-- the line is empty: any content will do
pub alone : (s : Stored) (line : List (Place Value)) (o : Option Value) → IsCell s line → line ≡ [] → IsCell (record s { content = o }) line
alone s line o h e =
    let n : s.readers ≡ 0 = subst (λ ps. s.readers ≡ length (readers ps)) e h.counted in
    subst (λ ps. IsCell (record s { content = o }) ps) (sym e) (record { waits = tt; distinct = tt; counted = n })

-- the first of the line moves in
pub moved : (s : Stored) (line : List (Place Value)) (u : ℕ) (v next : Value) (ps : List (Place Value)) → IsCell s line → s.content ≡ Some v → line ≡ record { thread = u; want = To_put next } ∷ ps → IsCell (record s { content = Some next }) ps
moved s line u v next ps h full e =
    let here = subst (IsCell s) e h in
    let waits : AllWait true ps = subst (λ o. AllWait (is_some o) ps) full here.waits.1 in
    record { waits = waits; distinct = here.distinct.1; counted = here.counted }

-- the first of the line is served, and the cell stays empty
pub taken : (s : Stored) (line : List (Place Value)) (u : ℕ) (ps : List (Place Value)) → IsCell s line → line ≡ record { thread = u; want = To_take } ∷ ps → IsCell s ps
taken s line u ps h e =
    let here = subst (IsCell s) e h in
    record { waits = here.waits.1; distinct = here.distinct.1; counted = here.counted }

-- whoever stands first at a full cell waits to put, and at an empty one doesn't
pub first_waits : (s : Stored) (line : List (Place Value)) (p : Place Value) (ps : List (Place Value)) → IsCell s line → line ≡ p ∷ ps → puts_it p.want ≡ is_some s.content
first_waits s line p ps h e = (subst (IsCell s) e h).waits.0

-- nobody waits at an empty cell but to take
pub none_reads_first : (m u : ℕ) (line ps : List (Place Value)) → readers line ≡ [] → line ≡ record { thread = u; want = To_read } ∷ ps → ⊥
none_reads_first m u line ps none e =
    let h : u ∷ readers ps ≡ [] = ap readers (sym e) ∙ none in
    let no : ⊥ = cc in no

-- at a cell with an empty line nobody waits for anything
pub nobody_first : (line : List (Place Value)) → line ≡ [] → (first_put line ≡ None) × (first_take line ≡ None)
nobody_first line e = (ap first_put e, ap first_take e)

pub some_of : (o : Option Value) → is_some o ≡ true → (w : Value) × (o ≡ Some w)
some_of None h = let no : ⊥ = cc in absurd no
some_of (Some v) h = (v, refl)

pub none_of : (o : Option Value) → is_some o ≡ false → o ≡ None
none_of None h = refl
none_of (Some v) h = let no : ⊥ = cc in absurd no

pub no_other : (o : Option Value) → ((v : Value) → o ≡ Some v → ⊥) → o ≡ None
no_other None h = refl
no_other (Some v) h = absurd (h v refl)

pub reads_short : (ps : List (Place Value)) → length (readers ps) ≤ length ps
reads_short [] = omega arith
reads_short (p ∷ ps) =
    let r = reads_short ps in
    elim (reads_it p.want) as (λ b. length (cond b (p.thread ∷ readers ps) (readers ps)) ≤ suc (length ps)) [ true ↦ omega (arith, r) | false ↦ omega (arith, r) ]
