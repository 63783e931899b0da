-- Contents and lines, seen as one list of cells.
use Rattle.std.proofs.Common.{◌≡◌, ℕ, zero, suc, ◌<◌, false, List, [], ◌∷◌, ◌++◌, length, refl, ap, sym, subst, ◌∙◌, arith, get_or, set, inl, inr, Option, None, below_more, length-append}
use Rattle.std.proofs.lemmas.Bool.{cases_eq}
use Rattle.std.proofs.lemmas.List.{set-get_or, length-set, get_or-set_same, get_or-set_other, get_or_default, get_or_append_left}
use Rattle.std.proofs.Math.Seq.{get_or-append_seam}
use Rattle.plain_laws.proofs.Booleans.{both_false}
use Rattle.hs_base.specs.declared.value.Value.{Value}
use Rattle.rules_waiting.specs.OneCell.{Place, Cell, Call, After, Reply, cell_of, after_of, made, call, stands_in}
use Rattle.mvar_cell.specs.declared.cells.Stored.{Stored}
use Rattle.mvar_cell.specs.Lined.{Lined}
use Rattle.mvar_cell.specs.Mvars.{Mvars, IsCell, AreCells, cells_of, no_content, mvars}
use Rattle.mvar_cell.specs.Calls.{cell_at, IsCall, stands_among}

pub cells-length : (ss : List Stored) (ls : List (List (Place Value))) → length ss ≡ length ls → length (cells_of ss ls) ≡ length ss
cells-length [] ls e = refl
cells-length (s ∷ ss) [] e = let no : ⊥ = omega arith in absurd no
cells-length (s ∷ ss) (l ∷ ls) e = ap suc (cells-length ss ls (omega arith))

cells-at : (ss : List Stored) (ls : List (List (Place Value))) (m : ℕ) → length ss ≡ length ls → get_or (cells_of ss ls) m (made None) ≡ cell_of (get_or ss m no_content).content (get_or ls m [])
cells-at [] [] m e = refl
cells-at [] (l ∷ ls) m e = let no : ⊥ = omega arith in absurd no
cells-at (s ∷ ss) [] m e = let no : ⊥ = omega arith in absurd no
cells-at (s ∷ ss) (l ∷ ls) zero e = refl
cells-at (s ∷ ss) (l ∷ ls) (suc m) e = cells-at ss ls m (omega arith)

cells-set : (ss : List Stored) (ls : List (List (Place Value))) (m : ℕ) (s : Stored) (ps : List (Place Value)) → cells_of (set ss m s) (set ls m ps) ≡ set (cells_of ss ls) m (cell_of s.content ps)
cells-set [] ls m s ps = refl
cells-set (x ∷ ss) [] zero s ps = refl
cells-set (x ∷ ss) [] (suc m) s ps = refl
cells-set (x ∷ ss) (l ∷ ls) zero s ps = refl
cells-set (x ∷ ss) (l ∷ ls) (suc m) s ps = ap (λ cs. cell_of x.content l ∷ cs) (cells-set ss ls m s ps)

pub cells-push : (ss : List Stored) (ls : List (List (Place Value))) (s : Stored) (ps : List (Place Value)) → length ss ≡ length ls → cells_of (ss ++ s ∷ []) (ls ++ ps ∷ []) ≡ cells_of ss ls ++ cell_of s.content ps ∷ []
cells-push [] [] s ps e = refl
cells-push [] (l ∷ ls) s ps e = let no : ⊥ = omega arith in absurd no
cells-push (x ∷ ss) [] s ps e = let no : ⊥ = omega arith in absurd no
cells-push (x ∷ ss) (l ∷ ls) s ps e = ap (λ cs. cell_of x.content l ∷ cs) (cells-push ss ls s ps (omega arith))

-- a cell of those that are seen, with its content and its line
pub record Here (m : ℕ) (old : Mvars) (ss : List Stored) (ls : List (List (Place Value))) : Type 0 where
  pub cells : AreCells ss ls
  pub seen : cells_of ss ls ≡ old.cells
  pub exists : m < length old.cells
  pub stored : m < length ss
  pub lines : m < length ls

module _ (m : ℕ) (old : Mvars) (ss : List Stored) (ls : List (List (Place Value))) (h : AreCells ss ls) (seen : cells_of ss ls ≡ old.cells) where
  pub here : m < length old.cells → Here m old ss ls
  here lt =
      let n = cells-length ss ls h.sizes in
      let e = ap (λ (cs : List (Cell Value)). length cs) seen in
      record { cells = h; seen = seen; exists = lt; stored = omega (arith, n, e, lt); lines = omega (arith, h.sizes, n, e, lt) }

  pub cell_seen : cell_at m old ≡ cell_of (get_or ss m no_content).content (get_or ls m [])
  cell_seen = ap (λ (cs : List (Cell Value)). get_or cs m (made None)) (sym seen) ∙ cells-at ss ls m h.sizes

  -- a call that leaves this content and this line
  pub is_call : (q : Call Value) (new : Mvars) (ss2 : List Stored) (ls2 : List (List (Place Value))) (s : Stored) (ps : List (Place Value)) (rs : List (Reply Value)) → cells_of ss2 ls2 ≡ new.cells → ss2 ≡ set ss m s → ls2 ≡ set ls m ps
      → call q (cell_at m old) ≡ after_of (cell_of s.content ps) rs → IsCall q m old new rs
  is_call q new ss2 ls2 s ps rs left stored lines e =
      record {
        answers = ap (λ (a : After Value). a.replies) e;
        cells = sym left ∙ ap (λ xs. cells_of xs ls2) stored ∙ ap (cells_of (set ss m s)) lines ∙ cells-set ss ls m s ps ∙ ap (λ (cs : List (Cell Value)). set cs m (cell_of s.content ps)) seen ∙ ap (λ (a : After Value). set old.cells m a.cell) (sym e);
      }

  -- a call that leaves this line, and the content as it was
  pub is_call_on_line : (q : Call Value) (new : Mvars) (ls2 : List (List (Place Value))) (ps : List (Place Value)) (rs : List (Reply Value)) → cells_of ss ls2 ≡ new.cells → ls2 ≡ set ls m ps
      → call q (cell_at m old) ≡ after_of (cell_of (get_or ss m no_content).content ps) rs → IsCall q m old new rs
  is_call_on_line q new ls2 ps rs left lines e =
      is_call q new ss ls2 (get_or ss m no_content) ps rs left (sym (set-get_or ss m no_content)) lines e

-- the content of the cell, by what is found there with itself as the default
pub stored_at : {m : ℕ} {old : Mvars} {ss : List Stored} {ls : List (List (Place Value))} → Here m old ss ls → (r : Stored) → r ≡ get_or ss m r → r ≡ get_or ss m no_content
stored_at {m} {old} {ss} i r at = at ∙ get_or_default ss m r no_content i.stored

-- the cell where the object's own fields are known
pub here_in : (m : ℕ) (old : Mvars) (ss : List Stored) (ls : Lined) (cap : ℕ) → AreCells ss ls.lines → mvars ss ls cap ≡ old → m < length old.cells → Here m old ss ls.lines
here_in m old ss ls cap a e lt = here m old ss ls.lines a (ap (λ (x : Mvars). x.cells) e) lt

-- a cell after a call
pub after_call : (q : Call Value) (m : ℕ) (old new : Mvars) (rs : List (Reply Value)) → m < length old.cells → IsCall q m old new rs → cell_at m new ≡ (call q (cell_at m old)).cell
after_call q m old new rs lt h =
    ap (λ (cs : List (Cell Value)). get_or cs m (made None)) h.cells ∙ get_or-set_same old.cells m (call q (cell_at m old)).cell (made None) lt

-- a new cell
pub cells_fresh : (ss : List Stored) (ls : List (List (Place Value))) (o : Option Value) → AreCells ss ls → AreCells (ss ++ record { content = o; readers = 0 } ∷ []) (ls ++ [] ∷ [])
cells_fresh ss ls o h =
    let s : Stored = record { content = o; readers = 0 } in
    let n = length-append ss (s ∷ []) in
    let n2 = length-append ls ([] ∷ []) in
    let e = h.sizes in
    let new : IsCell s [] = record { waits = tt; distinct = tt; counted = refl } in
    let P : ℕ → Type 0 = λ k. IsCell (get_or (ss ++ s ∷ []) k no_content) (get_or (ls ++ [] ∷ []) k []) in
    let below : (k : ℕ) → k < length ls → P k = λ k kt.
    let kt2 : k < length ss = omega (arith, kt, e) in
    subst (λ x. IsCell x (get_or (ls ++ [] ∷ []) k [])) (sym (get_or_append_left ss (s ∷ []) no_content k kt2)) (subst (IsCell (get_or ss k no_content)) (sym (get_or_append_left ls ([] ∷ []) [] k kt)) (h.each k kt)) in
    let here : P (length ls) =
    subst (λ x. IsCell x (get_or (ls ++ [] ∷ []) (length ls) [])) (sym (ap (λ i. get_or (ss ++ s ∷ []) i no_content) (sym e) ∙ get_or-append_seam ss s [] no_content)) (subst (IsCell s) (sym (get_or-append_seam ls [] [] [])) new) in
    record {
      sizes = omega (arith, n, n2, e);
      each = λ k kt. below_more P (length ls) below here k (omega (arith, kt, n2));
    }

-- one cell is written
pub set_cell : (ss : List Stored) (ls : List (List (Place Value))) (m : ℕ) (s : Stored) (line : List (Place Value)) → AreCells ss ls → m < length ss → IsCell s line → AreCells (set ss m s) (set ls m line)
set_cell ss ls m s line h lt here =
    let lines : m < length ls = omega (arith, h.sizes, lt) in
    record {
      sizes = length-set ss m s ∙ h.sizes ∙ sym (length-set ls m line);
      each = λ k kt.
          elim (cases_eq k m) [
            | inl same ↦ subst (λ x. IsCell (get_or (set ss m s) x no_content) (get_or (set ls m line) x [])) (sym same) (subst (IsCell (get_or (set ss m s) m no_content)) (sym (get_or-set_same ls m line [] lines)) (subst (λ x. IsCell x line) (sym (get_or-set_same ss m s no_content lt)) here))
            | inr differs ↦ subst (IsCell (get_or (set ss m s) k no_content)) (sym (get_or-set_other ls m k line [] differs)) (subst (λ x. IsCell x (get_or ls k [])) (sym (get_or-set_other ss m k s no_content differs)) (h.each k (omega (arith, kt, length-set ls m line))))
          ];
    }

-- the line of one cell is written
pub set_line : (ss : List Stored) (ls : List (List (Place Value))) (m : ℕ) (line : List (Place Value)) → AreCells ss ls → m < length ss → IsCell (get_or ss m no_content) line → AreCells ss (set ls m line)
set_line ss ls m line h lt here = subst (λ xs. AreCells xs (set ls m line)) (set-get_or ss m no_content) (set_cell ss ls m (get_or ss m no_content) line h lt here)

-- who stands in no line
pub nowhere_at : (t : ℕ) (cs : List (Cell Value)) (k : ℕ) → stands_among t cs ≡ false → stands_in t (get_or cs k (made None)).line ≡ false
nowhere_at t [] k h = refl
nowhere_at t (c ∷ cs) zero h = (both_false (stands_in t c.line) (stands_among t cs) h).0
nowhere_at t (c ∷ cs) (suc k) h = nowhere_at t cs k (both_false (stands_in t c.line) (stands_among t cs) h).1

-- who stands in no line of a cell stands in no line
pub nowhere : (t : ℕ) (old : Mvars) (ss : List Stored) (ls : List (List (Place Value))) → AreCells ss ls → cells_of ss ls ≡ old.cells → stands_among t old.cells ≡ false → (k : ℕ) → stands_in t (get_or ls k []) ≡ false
nowhere t old ss ls h seen alone k = ap (λ (c : Cell Value). stands_in t c.line) (sym (cell_seen k old ss ls h seen)) ∙ nowhere_at t old.cells k alone
