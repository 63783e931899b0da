-- Laws of the calls of one cell alone.
use Rattle.std.proofs.Common.{◌≡◌, ℕ, ◌==◌, true, false, cond, List, [], ◌∷◌, ◌++◌, Option, Some, None, refl, ap, sym, subst, ◌∙◌, eq-eqb, set}
use Rattle.std.proofs.lemmas.List.{set-get_or}
use Rattle.plain_laws.proofs.Booleans.{both_false}
use Rattle.hs_base.specs.declared.value.Value.{Value}
use Rattle.rules_waiting.specs.OneCell.{To_take, To_read, To_put, Place, Cell, Call, Take, Read, Put, Try_take, Try_put, After, Reply, Took, Saw, Gave, Tried_take, Tried_put, cell_of, after_of, reply_of, made, call, called, joins_line, stands_in, leaves_line, readers, leave_line, shown, first_take, moves_in, comes_on, comes_in}
use Rattle.mvar_cell.specs.Mvars.{Mvars, IsDistinct}
use Rattle.mvar_cell.specs.Calls.{cell_at, IsCall, IsFull, IsEmpty, NobodyReads}

-- ---- leaving

leaves_absent : (t : ℕ) (ps : List (Place Value)) → stands_in t ps ≡ false → leaves_line t ps ≡ ps
leaves_absent t [] h = refl
leaves_absent t (p ∷ ps) h =
    let s = both_false (p.thread == t) (stands_in t ps) h in
    ap (λ b. cond b (leaves_line t ps) (p ∷ leaves_line t ps)) s.0 ∙ ap (λ qs. p ∷ qs) (leaves_absent t ps s.1)

pub leaves_first : (p : Place Value) (ps : List (Place Value)) → stands_in p.thread ps ≡ false → leaves_line p.thread (p ∷ ps) ≡ ps
leaves_first p ps h = ap (λ b. cond b (leaves_line p.thread ps) (p ∷ leaves_line p.thread ps)) (eq-eqb p.thread p.thread refl) ∙ leaves_absent p.thread ps h

-- ---- what a call is at a full cell, and at an empty one
module _ (t : ℕ) (c : Cell Value) where
  take_full : (v : Value) (f : Option (ℕ × Value)) → IsFull v f c → call (Take t) c ≡ moves_in f c.line (reply_of t (Took v) ∷ [])
  take_full v f h = ap (λ o. called (Take t) o c.line) h.content ∙ ap (λ g. moves_in g c.line (reply_of t (Took v) ∷ [])) h.putter

  try_take_full : (v : Value) (f : Option (ℕ × Value)) → IsFull v f c → call (Try_take t) c ≡ moves_in f c.line (reply_of t (Tried_take (Some v)) ∷ [])
  try_take_full v f h = ap (λ o. called (Try_take t) o c.line) h.content ∙ ap (λ g. moves_in g c.line (reply_of t (Tried_take (Some v)) ∷ [])) h.putter

  pub take_empty : c.content ≡ None → call (Take t) c ≡ after_of (cell_of c.content (joins_line t To_take c.line)) []
  take_empty h = ap (λ o. called (Take t) o c.line) h ∙ ap (λ o. after_of (cell_of o (joins_line t To_take c.line)) []) (sym h)

  pub try_take_empty : c.content ≡ None → call (Try_take t) c ≡ after_of c (reply_of t (Tried_take None) ∷ [])
  try_take_empty h = ap (λ o. called (Try_take t) o c.line) h ∙ ap (λ o. after_of (cell_of o c.line) (reply_of t (Tried_take None) ∷ [])) (sym h)

  pub read_empty : c.content ≡ None → call (Read t) c ≡ after_of (cell_of c.content (joins_line t To_read c.line)) []
  read_empty h = ap (λ o. called (Read t) o c.line) h ∙ ap (λ o. after_of (cell_of o (joins_line t To_read c.line)) []) (sym h)

  pub read_full : (v : Value) → c.content ≡ Some v → call (Read t) c ≡ after_of c (reply_of t (Saw v) ∷ [])
  read_full v h = ap (λ o. called (Read t) o c.line) h ∙ ap (λ o. after_of (cell_of o c.line) (reply_of t (Saw v) ∷ [])) (sym h)

  pub put_full : (v w : Value) → c.content ≡ Some w → call (Put t v) c ≡ after_of (cell_of c.content (joins_line t (To_put v) c.line)) []
  put_full v w h = ap (λ o. called (Put t v) o c.line) h ∙ ap (λ o. after_of (cell_of o (joins_line t (To_put v) c.line)) []) (sym h)

  pub try_put_full : (v w : Value) → c.content ≡ Some w → call (Try_put t v) c ≡ after_of c (reply_of t (Tried_put false) ∷ [])
  try_put_full v w h = ap (λ o. called (Try_put t v) o c.line) h ∙ ap (λ o. after_of (cell_of o c.line) (reply_of t (Tried_put false) ∷ [])) (sym h)

  pub put_comes : (v : Value) → c.content ≡ None → call (Put t v) c ≡ comes_in v c.line (reply_of t Gave)
  put_comes v h = ap (λ o. called (Put t v) o c.line) h

  pub try_put_comes : (v : Value) → c.content ≡ None → call (Try_put t v) c ≡ comes_in v c.line (reply_of t (Tried_put true))
  try_put_comes v h = ap (λ o. called (Try_put t v) o c.line) h

-- a value that comes where nobody reads
comes_unread : (v : Value) (f : Option ℕ) (c : Cell Value) (r : Reply Value) → IsEmpty f c → readers c.line ≡ [] → comes_in v c.line r ≡ comes_on v f c.line [] r
comes_unread v f c r h none =
    ap (λ ts. comes_on v (first_take c.line) (leave_line ts c.line) (shown v ts) r) none ∙ ap (λ g. comes_on v g c.line [] r) h.taker

-- ---- the calls that never wait
-- nobody waits to put: the cell is empty then
pub takes_alone : (t : ℕ) (c : Cell Value) (v : Value) → IsFull v None c → call (Try_take t) c ≡ after_of (cell_of None c.line) (reply_of t (Tried_take (Some v)) ∷ [])
takes_alone t c v h = try_take_full t c v None h

-- the first of the line waits to put: its value moves in
pub serves_put : (t u : ℕ) (c : Cell Value) (v next : Value) (ps : List (Place Value)) → IsFull v (Some (u, next)) c → c.line ≡ record { thread = u; want = To_put next } ∷ ps → IsDistinct c.line
    → call (Try_take t) c ≡ after_of (cell_of (Some next) ps) (reply_of t (Tried_take (Some v)) ∷ reply_of u Gave ∷ [])
serves_put t u c v next ps h line d =
    try_take_full t c v (Some (u, next)) h
    ∙ ap (λ qs. after_of (cell_of (Some next) qs) (reply_of t (Tried_take (Some v)) ∷ reply_of u Gave ∷ []))
    (ap (leaves_line u) line ∙ leaves_first (record { thread = u; want = To_put next }) ps (subst IsDistinct line d).0)

-- nobody waits to take: the value stays
pub stays : (t : ℕ) (c : Cell Value) (v : Value) → IsEmpty None c → readers c.line ≡ [] → call (Try_put t v) c ≡ after_of (cell_of (Some v) c.line) (reply_of t (Tried_put true) ∷ [])
stays t c v h none = try_put_comes t c v h.content ∙ comes_unread v None c (reply_of t (Tried_put true)) h none

-- the first of the line waits to take: it gets the value
pub serves_take : (t u : ℕ) (c : Cell Value) (v : Value) (ps : List (Place Value)) → IsEmpty (Some u) c → readers c.line ≡ [] → c.line ≡ record { thread = u; want = To_take } ∷ ps → IsDistinct c.line
    → call (Try_put t v) c ≡ after_of (cell_of c.content ps) (reply_of u (Took v) ∷ reply_of t (Tried_put true) ∷ [])
serves_take t u c v ps h none line d =
    try_put_comes t c v h.content ∙ comes_unread v (Some u) c (reply_of t (Tried_put true)) h none
    ∙ ap (λ qs. after_of (cell_of None qs) (reply_of u (Took v) ∷ reply_of t (Tried_put true) ∷ []))
    (ap (leaves_line u) line ∙ leaves_first (record { thread = u; want = To_take }) ps (subst IsDistinct line d).0)
    ∙ ap (λ o. after_of (cell_of o ps) (reply_of u (Took v) ∷ reply_of t (Tried_put true) ∷ [])) (sym h.content)

-- ---- a call that waits, by one that never does
moved_cell : (f : Option (ℕ × Value)) (ps : List (Place Value)) (rs us : List (Reply Value)) → (moves_in f ps rs).cell ≡ (moves_in f ps us).cell
moved_cell None ps rs us = refl
moved_cell (Some w) ps rs us = refl

pub come_cell : (v : Value) (f : Option ℕ) (ps : List (Place Value)) (rs us : List (Reply Value)) (r u : Reply Value) → (comes_on v f ps rs r).cell ≡ (comes_on v f ps us u).cell
come_cell v None ps rs us r u = refl
come_cell v (Some w) ps rs us r u = refl

pub come_replies : (v : Value) (f : Option ℕ) (ps : List (Place Value)) (rs : List (Reply Value)) (r : Reply Value) → (comes_on v f ps rs r).replies ≡ rs ++ (comes_on v f ps [] r).replies
come_replies v None ps rs r = refl
come_replies v (Some w) ps rs r = refl

pub take_by_try : (t m : ℕ) (old new : Mvars) (v : Value) (f : Option (ℕ × Value)) (rs : List (Reply Value)) → IsFull v f (cell_at m old) → IsCall (Try_take t) m old new rs → IsCall (Take t) m old new (moves_in f (cell_at m old).line (reply_of t (Took v) ∷ [])).replies
take_by_try t m old new v f rs full h =
    let c = cell_at m old in
    let took = take_full t c v f full in
    let tried = try_take_full t c v f full in
    record {
      answers = ap (λ (a : After Value). a.replies) took;
      cells = h.cells ∙ ap (λ (a : After Value). set old.cells m a.cell) tried ∙ ap (set old.cells m) (moved_cell f c.line (reply_of t (Tried_take (Some v)) ∷ []) (reply_of t (Took v) ∷ [])) ∙ ap (λ (a : After Value). set old.cells m a.cell) (sym took);
    }

pub put_by_try : (t m : ℕ) (old new : Mvars) (v : Value) (f : Option ℕ) (rs : List (Reply Value)) → IsEmpty f (cell_at m old) → NobodyReads m old → IsCall (Try_put t v) m old new rs → IsCall (Put t v) m old new (comes_on v f (cell_at m old).line [] (reply_of t Gave)).replies
put_by_try t m old new v f rs empty none h =
    let c = cell_at m old in
    let gave = put_comes t c v empty.content ∙ comes_unread v f c (reply_of t Gave) empty none in
    let tried = try_put_comes t c v empty.content ∙ comes_unread v f c (reply_of t (Tried_put true)) empty none in
    record {
      answers = ap (λ (a : After Value). a.replies) gave;
      cells = h.cells ∙ ap (λ (a : After Value). set old.cells m a.cell) tried ∙ ap (set old.cells m) (come_cell v f c.line [] [] (reply_of t (Tried_put true)) (reply_of t Gave)) ∙ ap (λ (a : After Value). set old.cells m a.cell) (sym gave);
    }

pub put_serves_by_try : (t m u : ℕ) (old new : Mvars) (v w : Value) (rs : List (Reply Value)) → w ≡ v → IsEmpty (Some u) (cell_at m old) → NobodyReads m old → IsCall (Try_put t v) m old new rs → IsCall (Put t v) m old new (reply_of u (Took w) ∷ reply_of t Gave ∷ [])
put_serves_by_try t m u old new v w rs same empty none h =
    subst (λ x. IsCall (Put t v) m old new (reply_of u (Took x) ∷ reply_of t Gave ∷ [])) (sym same) (put_by_try t m old new v (Some u) rs empty none h)

-- a call that leaves its cell as it is leaves all of them
same_cell : (q : Call Value) (m : ℕ) (old new : Mvars) (rs us : List (Reply Value)) → call q (cell_at m old) ≡ after_of (cell_at m old) us → IsCall q m old new rs → new.cells ≡ old.cells
same_cell q m old new rs us e h = h.cells ∙ ap (λ (a : After Value). set old.cells m a.cell) e ∙ set-get_or old.cells m (made None)

pub nothing_taken : (t m : ℕ) (old new : Mvars) (rs : List (Reply Value)) → (cell_at m old).content ≡ None → IsCall (Try_take t) m old new rs → new.cells ≡ old.cells
nothing_taken t m old new rs e h = same_cell (Try_take t) m old new rs _ (try_take_empty t (cell_at m old) e) h

pub nothing_put : (t m : ℕ) (v w : Value) (old new : Mvars) (rs : List (Reply Value)) → (cell_at m old).content ≡ Some w → IsCall (Try_put t v) m old new rs → new.cells ≡ old.cells
nothing_put t m v w old new rs e h = same_cell (Try_put t v) m old new rs _ (try_put_full t (cell_at m old) v w e) h

-- a call that leaves its cell as it is
pub is_same_call : (q : Call Value) (m : ℕ) (old new : Mvars) (rs : List (Reply Value)) → call q (cell_at m old) ≡ after_of (cell_at m old) rs → new.cells ≡ old.cells → IsCall q m old new rs
is_same_call q m old new rs e same =
    record {
      answers = ap (λ (a : After Value). a.replies) e;
      cells = same ∙ sym (set-get_or old.cells m (made None)) ∙ ap (λ (a : After Value). set old.cells m a.cell) (sym e);
    }
