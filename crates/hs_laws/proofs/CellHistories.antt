-- Over a history: each cell follows its calls, and values come out in the order in which they went in.
use Rattle.std.proofs.Common.{◌≡◌, ℕ, List, [], ◌∷◌, ◌++◌, slice_get, true, Option, Some, None, refl, sym, ap, ◌∙◌, subst, ◌⊎◌, inl, inr, ⊎_elim}
use Rattle.std.proofs.Common.{append-nil, append_assoc}
use Rattle.hs_rules.specs.declared.entry.Entry.{Entry}
use Rattle.rules_expansion.specs.trees.Programs.{Fn}
use Rattle.rules_expansion.specs.Core.{Core}
use Rattle.rules_meaning.specs.Values.{V}
use Rattle.rules_meaning.specs.CoreMeaning.{Code, code_of}
use Rattle.hs_rules.specs.State.{State, first}
use Rattle.hs_rules.specs.Entries.{next}
use Rattle.hs_rules.specs.Runs.{Run, first_of}
use Rattle.rules_waiting.specs.OneCell as one
use Rattle.rules_waiting.specs.OneCell.{Place, Cell, Call, Make, Take, Read, Put, Try_take, Try_put, Leave, Took, Gave, Tried_take, Tried_put, Reply, cell_of, reply_of, first_put, first_take, readers, leave_line, shown, comes_on, comes_in, made, call}
use Rattle.hs_laws.specs.BracketPhases.{FineCode}
use Rattle.hs_laws.specs.CellLaw.{Shows, calls_of, after_calls, AnswersCalls, held, put_in, came_in, taken_by, went_out, ins_by, outs_by, calls_from, calls_after, calls, unmade, alone, IsMake, NoMake, KeptCell}
use Rattle.hs_laws.proofs.States.{Holds, Keeps, next_kept}
use Rattle.hs_laws.proofs.CellRuns.{Present, Done, DoneSome, after_both, next_done}

-- ---- one call
out_moves : (o : Option (ℕ × V)) (ps : List (Place V)) (rs : List (Reply V)) → went_out rs ++ put_in o ≡ went_out (one.moves_in o ps rs).replies ++ held (one.moves_in o ps rs).cell.content
out_moves None ps rs = refl
out_moves (Some w) ps rs = ap (λ z. z ++ w.1 ∷ []) (sym (append-nil (went_out rs)) ∙ sym (went_more rs (reply_of w.0 Gave)))
  where
    went_more : (rs : List (Reply V)) (r : Reply V) → went_out (rs ++ r ∷ []) ≡ went_out rs ++ (taken_by r.answer ++ [])
    went_more [] r = refl
    went_more (x ∷ rs) r = ap (λ z. taken_by x.answer ++ z) (went_more rs r) ∙ sym (append_assoc (taken_by x.answer) (went_out rs) (taken_by r.answer ++ []))

-- who reads takes nothing out
pub went_shown : (a : V) (ts : List ℕ) (rs : List (Reply V)) → went_out (shown a ts ++ rs) ≡ went_out rs
went_shown a [] rs = refl
went_shown a (t ∷ ts) rs = went_shown a ts rs

out_comes_on : (a : V) (w : Option ℕ) (ps : List (Place V)) (ts : List ℕ) (r : Reply V) → taken_by r.answer ≡ [] →
    went_out (comes_on a w ps (shown a ts) r).replies ++ held (comes_on a w ps (shown a ts) r).cell.content ≡ a ∷ []
out_comes_on a None ps ts r e = ap (λ z. z ++ a ∷ []) (went_shown a ts (r ∷ [])) ∙ ap (λ z. (z ++ []) ++ a ∷ []) e
out_comes_on a (Some u) ps ts r e = ap (λ z. z ++ []) (went_shown a ts (reply_of u (Took a) ∷ r ∷ [])) ∙ ap (λ z. (a ∷ (z ++ [])) ++ []) e

out_comes : (a : V) (ps : List (Place V)) (r : Reply V) → taken_by r.answer ≡ [] → went_out (comes_in a ps r).replies ++ held (comes_in a ps r).cell.content ≡ a ∷ []
out_comes a ps r e = out_comes_on a (first_take ps) (leave_line (readers ps) ps) (readers ps) r e

call_order : (q : Call V) (o : Option V) (ps : List (Place V)) → ¬ IsMake q →
    went_out (call q (cell_of o ps)).replies ++ held (call q (cell_of o ps)).cell.content ≡ held o ++ came_in q o ps
call_order (Make t x) o ps n = absurd (n tt)
call_order (Take t) None ps n = refl
call_order (Take t) (Some a) ps n = sym (out_moves (first_put ps) ps (reply_of t (Took a) ∷ []))
call_order (Read t) None ps n = refl
call_order (Read t) (Some a) ps n = refl
call_order (Put t a) None ps n = out_comes a ps (reply_of t Gave) refl
call_order (Put t a) (Some b) ps n = refl
call_order (Try_take t) None ps n = refl
call_order (Try_take t) (Some a) ps n = sym (out_moves (first_put ps) ps (reply_of t (Tried_take (Some a)) ∷ []))
call_order (Try_put t a) None ps n = out_comes a ps (reply_of t (Tried_put true)) refl
call_order (Try_put t a) (Some b) ps n = refl
call_order (Leave t) o ps n = sym (append-nil (held o))

-- ---- calls one after another
by_order : (qs : List (Call V)) (c : Cell V) → NoMake qs → outs_by qs c ++ held (after_calls qs c).content ≡ held c.content ++ ins_by qs c
by_order [] c n = sym (append-nil (held c.content))
by_order (q ∷ qs) c n =
    let d : Cell V = (call q c).cell in
    let out : List V = went_out (call q c).replies in
    let came : List V = came_in q c.content c.line in
    append_assoc out (outs_by qs d) (held (after_calls qs d).content)
    ∙ (ap (λ z. out ++ z) (by_order qs d n.1)
    ∙ (sym (append_assoc out (held d.content) (ins_by qs d))
    ∙ (ap (λ z. z ++ ins_by qs d) (call_order q c.content c.line n.0)
    ∙ append_assoc (held c.content) came (ins_by qs d))))

none_both : (qs rs : List (Call V)) → NoMake qs → NoMake rs → NoMake (qs ++ rs)
none_both [] rs h g = g
none_both (q ∷ qs) rs h g = (h.0, none_both qs rs h.1 g)

-- ---- over a run

-- what these calls have made of cell m in state u
abbrev pub Tracks : ℕ → State → Option (Cell V) → List (Call V) → Type 0
Tracks m u (Some c) qs = Shows m u (after_calls qs c) × NoMake qs
Tracks m u None qs = (Present m u None × (qs ≡ [])) ⊎ ((t : ℕ) × (o : Option V) × (rest : List (Call V)) × (qs ≡ Make t o ∷ rest) × Shows m u (after_calls rest (made o)) × NoMake rest)

pub more_calls : (code : Code) (m : ℕ) (s v : State) (e : Entry) (es : List Entry) → next code s e ≡ Some v → calls_from code m s (e ∷ es) ≡ calls_of m s e ++ calls_from code m v es
more_calls code m s v e es n = ap (λ o. calls_of m s e ++ elim o [ None ↦ [] | Some u ↦ calls_from code m u es ]) n

cells_run : (code : Code) → FineCode code.actions → (m : ℕ) (es : List Entry) (s u : State) (c : Option (Cell V)) → Run code s es u → Holds s → Present m s c → Tracks m u c (calls_from code m s es)
cells_run code fc m [] s u None r g h = inl (subst (λ x. Present m x None) r h, refl)
cells_run code fc m [] s u (Some c) r g h = (subst (λ x. Shows m x c) r h, tt)
cells_run code fc m (e ∷ es) s u (Some c) r g h =
    let v : State = r.0 in
    let qs : List (Call V) = calls_of m s e in
    let d : Done m s (Some c) qs v = subst (DoneSome m s (Some c) qs) r.1.0 (next_done m s (Some c) h g code e) in
    let k : Tracks m u (Some (after_calls qs c)) (calls_from code m v es) = cells_run code fc m es v u (Some (after_calls qs c)) r.2 (subst Keeps r.1.0 (next_kept code fc s e g)) d.0 in
    subst (Tracks m u (Some c)) (sym (more_calls code m s v e es r.1.0))
    (subst (Shows m u) (sym (after_both qs (calls_from code m v es) c)) k.0, none_both qs (calls_from code m v es) d.2 k.1)
cells_run code fc m (e ∷ es) s u None r g h =
    let v : State = r.0 in
    let qs : List (Call V) = calls_of m s e in
    let d : Done m s None qs v = subst (DoneSome m s None qs) r.1.0 (next_done m s None h g code e) in
    let gv : Holds v = subst Keeps r.1.0 (next_kept code fc s e g) in
    subst (Tracks m u None) (sym (more_calls code m s v e es r.1.0))
    (⊎_elim
    (λ x. subst (λ z. Tracks m u None (z ++ calls_from code m v es)) (sym x.1) (cells_run code fc m es v u None r.2 gv x.0))
    (λ x.
    let k : Tracks m u (Some (made x.1)) (calls_from code m v es) = cells_run code fc m es v u (Some (made x.1)) r.2 gv x.3 in
    inr (x.0, x.1, calls_from code m v es, ap (λ z. z ++ calls_from code m v es) x.2, k.0, k.1))
    d)

-- ---- of a script

pub calls_are : (ds : List Fn) (es : List Entry) (m : ℕ) (s : State) → first_of ds ≡ Some s → calls ds es m ≡ calls_from (code_of ds) m s es
calls_are ds es m s e = ap (λ o. calls_after o (code_of ds) m es) e

module _ (ds : List Fn) (es : List Entry) (u : State) (m : ℕ) (k : Tracks m u None (calls ds es m)) where
  pub kept_cell : (c : Option V) → slice_get u.cells m ≡ Some c → KeptCell ds es u m
  kept_cell c some =
      ⊎_elim
      (λ x. let z : ◌≡◌ {A = Option (Option V)} None (Some c) = sym x.0.0 ∙ some in absurd (cc z))
      (λ x.
      let by : Cell V = made x.1 in
      let same : alone ds es m ≡ after_calls x.2 by = ap (λ qs. after_calls qs unmade) x.3 in
      record {
        maker = x.0;
        content = x.1;
        rest = x.2;
        made_first = x.3;
        made_once = x.5;
        shows = subst (Shows m u) (sym same) x.4;
        in_order = subst (λ qs. outs_by qs unmade ++ held (after_calls qs unmade).content ≡ ins_by qs unmade) (sym x.3) (by_order x.2 by x.5);
      })
      k

  pub answers_calls : (code : Code) (e : Entry) (v : State) → Holds u → next code u e ≡ Some v → AnswersCalls m (calls_of m u e) (alone ds es m) u v
  answers_calls code e v g n =
      ⊎_elim
      (λ x.
      let d : Done m u None (calls_of m u e) v = subst (DoneSome m u None (calls_of m u e)) n (next_done m u None x.0 g code e) in
      subst (λ c. AnswersCalls m (calls_of m u e) c u v) (ap (λ qs. after_calls qs unmade) (sym x.1))
      (⊎_elim
      (λ y. subst (λ qs. AnswersCalls m qs unmade u v) (sym y.1) tt)
      (λ y. subst (λ qs. AnswersCalls m qs unmade u v) (sym y.2) (y.4, tt))
      d))
      (λ x.
      let c : Cell V = alone ds es m in
      let h : Shows m u c = subst (Shows m u) (ap (λ qs. after_calls qs unmade) (sym x.3)) x.4 in
      let d : Done m u (Some c) (calls_of m u e) v = subst (DoneSome m u (Some c) (calls_of m u e)) n (next_done m u (Some c) h g code e) in
      d.1)
      k

pub tracks : (ds : List Fn) → FineCode (code_of ds).actions → (es : List Entry) (s u : State) (main : Core) (m : ℕ) → first_of ds ≡ Some s → s ≡ first main → Run (code_of ds) s es u → Holds s → Tracks m u None (calls ds es m)
tracks ds fc es s u main m e f r g =
    subst (Tracks m u None) (sym (calls_are ds es m s e)) (cells_run (code_of ds) fc m es s u None r g (subst (λ x. Present m x None) (sym f) (refl, refl)))
