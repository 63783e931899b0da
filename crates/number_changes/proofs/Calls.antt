-- Calls on cells whose values are numbers, and their replies.
use Rattle.std.proofs.Common.{◌≡◌, ℕ, zero, suc, ◌+◌, ◌<◌, ◌≤◌, List, [], ◌∷◌, ◌++◌, Option, Some, None, length, slice_set, get_or, drop, map, refl, sym, ap, ap₂, ◌∙◌, subst, arith, add-one, drop-cons}
use Rattle.std.specs.List.{AllByRecursion}
use Rattle.std.proofs.lemmas.List.{drop_all, map-set, map-append, length-map}
use Rattle.std.proofs.lemmas.Option.{slice_get_within}
use Rattle.rules_meaning.specs.Values.{V}
use Rattle.rules_meaning.specs.Values as val
use Rattle.rules_code.specs.declared.code.CodeBody.{CodeBody}
use Rattle.slot_states.specs.SlotStates.{SlotThread, SlotState, answer, answered, replied, told_all, cell_at, called, makes}
use Rattle.hs_laws.specs.CellLaw.{told}
use Rattle.rules_waiting.specs.OneCell.{Want, To_take, To_read, To_put, Place, Cell, Call, Take, Read, Put, Try_take, Try_put, Answer, Made, Took, Saw, Gave, Tried_take, Tried_put, Reply, cell_of, After, reply_of, made, call}
use Rattle.slot_states.specs.mapping.Mapped.{map_some, map_want, map_line, map_cell, map_call, map_answer, map_replies, map_after}
use Rattle.slot_states.proofs.mapping_lemmas.Maps.{commutes}
use Rattle.number_states.specs.waits.Places.{answers, answer_of}
use Rattle.number_states.specs.declared.waits.places.Reply as places
use Rattle.number_states.specs.declared.state.NumberState.{NumberState}
use Rattle.number_states.specs.Stocks.{Stock, HasGrown, IsValue, or_unit, value_at}
use Rattle.number_states.specs.States.{Contents, contents, slots_of, slots, AllIn, AreIn, IsValueWithin, WantIsWithin, LineIsWithin, CellIsWithin, Becomes}
use Rattle.number_states.proofs.Growth.{slots_of_on, all_in_on, value_at_on}
use Rattle.number_states.proofs.Changes.{got_read, all_set, all_more}
use Rattle.number_changes.specs.declared.calling.CellCall.{CellCall}
use Rattle.number_changes.specs.declared.calling.CellCall.TheVariants as c
use Rattle.number_changes.proofs.Made.{of_older, becomes_as}
use Rattle.number_changes.proofs.Turns.{AreLeft, one_less, none_left}
use Rattle.number_changes.specs.Calling.{call_of, or_unmade, cell_in, CallIsWithin, AnswerIsWithin, AreRepliesWithin}

-- ---- the cell of a number

pub cell_there : (cs : List (Cell ℕ)) (m : ℕ) (one : Cell ℕ) → m < length cs → one ≡ get_or cs m one → cell_in cs m ≡ one
cell_there cs m one small is = ap or_unmade (got_read cs m one small is)

pub cell_missing : (cs : List (Cell ℕ)) (m : ℕ) → length cs ≤ m → cell_in cs m ≡ made None
cell_missing [] m big = refl
cell_missing (x ∷ cs) zero big = absurd (omega arith)
cell_missing (x ∷ cs) (suc m) big = cell_missing cs m (omega arith)

pub set_nowhere : {A : Type 0} (xs : List A) (m : ℕ) (x : A) → length xs ≤ m → slice_set xs m x ≡ xs
set_nowhere [] m x big = refl
set_nowhere (y ∷ xs) zero x big = absurd (omega arith)
set_nowhere (y ∷ xs) (suc m) x big = ap (λ ys. y ∷ ys) (set_nowhere xs m x (omega arith))

-- ---- numbers below a count stay below it: what is done to numbers is done to numbers below the count

module _ (count : ℕ) where
  abbrev Small : Type 0
  Small = (n : ℕ) × (n < count)

  abbrev number : Small → ℕ
  number s = s.0

  small_some : (o : Option ℕ) → IsValueWithin count o → (p : Option Small) × (map_some number p ≡ o)
  small_some None h = (None, refl)
  small_some (Some n) h = (Some (n, h), refl)

  some_small : (p : Option Small) → IsValueWithin count (map_some number p)
  some_small None = tt
  some_small (Some s) = s.1

  small_want : (w : Want ℕ) → WantIsWithin count w → (p : Want Small) × (map_want number p ≡ w)
  small_want To_take h = (To_take, refl)
  small_want To_read h = (To_read, refl)
  small_want (To_put n) h = (To_put (n, h), refl)

  want_small : (p : Want Small) → WantIsWithin count (map_want number p)
  want_small To_take = tt
  want_small To_read = tt
  want_small (To_put s) = s.1

  small_line : (ps : List (Place ℕ)) → LineIsWithin count ps → (qs : List (Place Small)) × (map_line number qs ≡ ps)
  small_line [] h = ([], refl)
  small_line (p ∷ ps) h =
      let w = small_want p.want h.0 in
      let rest = small_line ps h.1 in
      (record { thread = p.thread; want = w.0 } ∷ rest.0, ap₂ (λ v qs. record { thread = p.thread; want = v } ∷ qs) w.1 rest.1)

  line_small : (qs : List (Place Small)) → LineIsWithin count (map_line number qs)
  line_small [] = tt
  line_small (q ∷ qs) = (want_small q.want, line_small qs)

  small_cell : (one : Cell ℕ) → CellIsWithin count one → (d : Cell Small) × (map_cell number d ≡ one)
  small_cell one h =
      let o = small_some one.content h.content in
      let l = small_line one.line h.line in
      (cell_of o.0 l.0, ap₂ cell_of o.1 l.1)

  small_call : (t : ℕ) (q : CellCall) → CallIsWithin count q → (r : Call Small) × (map_call number r ≡ call_of t q)
  small_call t c.Take h = (Take t, refl)
  small_call t c.Read h = (Read t, refl)
  small_call t (c.Put v) h = (Put t (v, h), refl)
  small_call t c.TryTake h = (Try_take t, refl)
  small_call t (c.TryPut v) h = (Try_put t (v, h), refl)

  answer_small : (a : Answer Small) → AnswerIsWithin count (map_answer number a)
  answer_small Made = tt
  answer_small (Took s) = s.1
  answer_small (Saw s) = s.1
  answer_small Gave = tt
  answer_small (Tried_take o) = some_small o
  answer_small (Tried_put b) = tt

  replies_small : (rs : List (Reply Small)) → AreRepliesWithin count (map_replies number rs)
  replies_small [] = tt
  replies_small (r ∷ rs) = (answer_small r.answer, replies_small rs)

  -- a call leaves numbers below the count, and answers such
  pub call_within : (t : ℕ) (q : CellCall) (one : Cell ℕ) → CallIsWithin count q → CellIsWithin count one
      → CellIsWithin count (call (call_of t q) one).cell × AreRepliesWithin count (call (call_of t q) one).replies
  call_within t q one h k =
      let r = small_call t q h in
      let d = small_cell one k in
      let after = call r.0 d.0 in
      let same : map_after number after ≡ call (call_of t q) one = sym (commutes number r.0 d.0) ∙ ap₂ (λ p e. call p e) r.1 d.1 in (
        subst (λ a. CellIsWithin count a.cell) same (record { content = some_small after.cell.content; line = line_small after.cell.line }),
        subst (λ a. AreRepliesWithin count a.replies) same (replies_small after.replies),
      )

-- ---- replies by what they stand for

-- replies as threads learn them
abbrev pub meant : Stock → List places.Reply → List (Reply V)
meant g rs = map_replies (value_at g) (answers rs)

pub meant_on : (g : Stock) (rs : List places.Reply) (i : ℕ) (d : places.Reply) → i < length rs
    → meant g (drop i rs) ≡ reply_of (get_or rs i d).thread (map_answer (value_at g) (answer_of (get_or rs i d).answer)) ∷ meant g (drop (i + 1) rs)
meant_on g rs i d small = ap (meant g) (drop-cons rs i d small ∙ ap (λ n. get_or rs i d ∷ drop n rs) (sym (add-one i)))

pub within_at : (count : ℕ) (rs : List places.Reply) (i : ℕ) (d : places.Reply) → i < length rs → AreRepliesWithin count (answers rs) → AnswerIsWithin count (answer_of (get_or rs i d).answer)
within_at count [] i d small h = absurd (omega arith)
within_at count (r ∷ rs) zero d small h = h.0
within_at count (r ∷ rs) (suc i) d small h = within_at count rs i d (omega arith) h.1

-- the tables grow
pub answer_on : (g h : Stock) → HasGrown g h → (a : Answer ℕ) → AnswerIsWithin (length g.values) a → map_answer (value_at h) a ≡ map_answer (value_at g) a
answer_on g h grown Made w = refl
answer_on g h grown (Took v) w = ap Took (value_at_on g h grown v w)
answer_on g h grown (Saw v) w = ap Saw (value_at_on g h grown v w)
answer_on g h grown Gave w = refl
answer_on g h grown (Tried_take None) w = refl
answer_on g h grown (Tried_take (Some v)) w = ap (λ z. Tried_take (Some z)) (value_at_on g h grown v w)
answer_on g h grown (Tried_put b) w = refl

-- these threads get these replies of cell m
abbrev pub replies_make : ℕ → List (Reply V) → CodeBody → SlotState → SlotState
replies_make m rs b s = record s { threads = replied m rs s.threads }

module _ (m : ℕ) (g : Stock) (x : NumberState) (rs : List places.Reply) (h : Stock) (y : NumberState) where
  -- one more thread has its reply
  pub reply_step : (i : ℕ) (d : places.Reply) (j : Stock) (z : NumberState) (v : V) → AreRepliesWithin (length g.values) (answers rs) → i < length rs → v ≡ told m (map_answer (value_at h) (answer_of (get_or rs i d).answer))
      → AreLeft (replies_make m) (meant g rs) (meant g (drop i rs)) g x h y → Becomes (λ b. answer (get_or rs i d).thread v) h y j z → HasGrown h j → AreLeft (replies_make m) (meant g rs) (meant g (drop (i + 1) rs)) g x j z
  reply_step i d j z v within small e p q grown =
      let r = get_or rs i d in
      let a = map_answer (value_at g) (answer_of r.answer) in
      let learns : v ≡ told m a = e ∙ ap (told m) (answer_on g h p.grown (answer_of r.answer) (within_at (length g.values) rs i d small within)) in
      one_less (replies_make m) (meant g rs) g x (λ b. answer r.thread (told m a)) (meant g (drop i rs)) (meant g (drop (i + 1) rs)) (reply_of r.thread a) h j y z (meant_on g rs i d small) (λ b s. refl) p
      (subst (λ w. Becomes (λ b. answer r.thread w) h y j z) learns q) grown

  pub replies_end : (i : ℕ) → length rs ≤ i → AreLeft (replies_make m) (meant g rs) (meant g (drop i rs)) g x h y → Becomes (replies_make m (meant g rs)) g x h y
  replies_end i big p = none_left (replies_make m) (meant g rs) g x (meant g (drop i rs)) h y (ap (meant g) (drop_all i rs big)) (λ b s. refl) p

-- where somebody is answered the thread is not blocked
pub told_some : (t m : ℕ) (g : Stock) (rs : List places.Reply) (ths : List SlotThread) → (rs ≡ [] → ⊥) → replied m (meant g rs) ths ≡ told_all t m (meant g rs) ths
told_some t m g [] ths n = absurd (n refl)
told_some t m g (r ∷ rs) ths n = refl

-- ---- a state whose cells change

pub in_cells : (count : ℕ) (cs : List (Cell ℕ)) (m : ℕ) → AllByRecursion (CellIsWithin count) cs → CellIsWithin count (cell_in cs m)
in_cells count [] m h = record { content = tt; line = tt }
in_cells count (d ∷ cs) zero h = h.0
in_cells count (d ∷ cs) (suc m) h = in_cells count cs m h.1

cell_mapped : (f : ℕ → V) (cs : List (Cell ℕ)) (m : ℕ) → map_cell f (cell_in cs m) ≡ cell_at m (map (map_cell f) cs)
cell_mapped f [] m = refl
cell_mapped f (d ∷ cs) zero = refl
cell_mapped f (d ∷ cs) (suc m) = cell_mapped f cs m

abbrev pub with_cells : List (Cell ℕ) → Contents → Contents
with_cells cs d = record d { cells = cs }

pub cells_in : (g : Stock) (x : NumberState) (cs : List (Cell ℕ)) → AreIn g x → AllByRecursion (CellIsWithin (length g.values)) cs → AllIn g (with_cells cs (contents x))
cells_in g x cs all h = record { threads = all.threads; cells = h; flight = all.flight; output = all.output; errors = all.errors }

module _ (g : Stock) (x : NumberState) (all : AreIn g x) (t m : ℕ) (q : CellCall) (within : CallIsWithin (length g.values) q) where
  abbrev after : After ℕ
  after = call (call_of t q) (cell_in x.cells.items m)

  abbrev pub called_cells : List (Cell ℕ)
  called_cells = slice_set x.cells.items m after.cell

  pub called_in : AllIn g (with_cells called_cells (contents x))
  called_in =
      let count = length g.values in
      cells_in g x called_cells all (all_set (CellIsWithin count) x.cells.items m after.cell all.cells (call_within count t q (cell_in x.cells.items m) within (in_cells count x.cells.items m all.cells)).0)

  pub called_replies : (rs : List places.Reply) → answers rs ≡ after.replies → AreRepliesWithin (length g.values) (answers rs)
  called_replies rs e =
      let count = length g.values in
      subst (AreRepliesWithin count) (sym e) (call_within count t q (cell_in x.cells.items m) within (in_cells count x.cells.items m all.cells)).1

  pub call_becomes : (u : NumberState) (i : Stock) (y : NumberState) (rs : List places.Reply) → contents u ≡ with_cells called_cells (contents x) → answers rs ≡ after.replies
      → Becomes (λ b s. record s { threads = told_all t m (meant g rs) s.threads }) g u i y → Becomes (λ b. called t m (map_call (value_at g) (call_of t q))) g x i y
  call_becomes u i y rs same given p =
      let f = value_at g in
      let cs = x.cells.items in
      let Q = map_call f (call_of t q) in
      let one = cell_in cs m in
      let there = cell_mapped f cs m in
      let step : map_after f after ≡ call Q (cell_at m (map (map_cell f) cs)) = sym (commutes f (call_of t q) one) ∙ ap (call Q) there in
      let replies : meant g rs ≡ (call Q (cell_at m (map (map_cell f) cs))).replies = ap (map_replies f) given ∙ ap (λ a. a.replies) step in
      let cells : map (map_cell f) called_cells ≡ slice_set (map (map_cell f) cs) m (call Q (cell_at m (map (map_cell f) cs))).cell =
      map-set (map_cell f) cs m after.cell ∙ ap (λ d. slice_set (map (map_cell f) cs) m d) (ap (λ a. a.cell) step) in
      record {
        is = λ b. p.is b ∙ ap (λ d. let s = slots_of g b d in record s { threads = told_all t m (meant g rs) s.threads }) same
            ∙ ap₂ (λ ss ds. let s = slots g b x in record s { threads = told_all t m ss s.threads; cells = ds }) replies cells;
        there = p.there;
        output = p.output ∙ ap (λ (d : Contents). d.output) same;
        errors = p.errors ∙ ap (λ (d : Contents). d.errors) same;
      }

-- ---- a value gets a number

pub value_there : (g : Stock) (n : ℕ) (v : V) → IsValue g n v → n < length g.values
value_there g n v is = slice_get_within g.values n is.0 is.1

pub value_is : (g : Stock) (n : ℕ) (v : V) → IsValue g n v → value_at g n ≡ v
value_is g n v is = ap or_unit is.1 ∙ is.2

-- a call with what the number stands for is one with the value
module _ (g h i : Stock) (x y : NumberState) (t m n : ℕ) (v : V) (q : V → Call V) where
  pub with_value : AreIn g x → HasGrown g h → IsValue h n v → Becomes (λ b. called t m (q (value_at h n))) h x i y → Becomes (λ b. called t m (q v)) g x i y
  with_value all grown is p =
      of_older (λ b. called t m (q v)) g h i x y all grown
      (becomes_as (λ b. called t m (q (value_at h n))) (λ b. called t m (q v)) h i x y (λ b. ap (λ w. called t m (q w) (slots h b x)) (value_is h n v is)) p)

-- ---- a new cell

module _ (g h : Stock) (grown : HasGrown g h) (x : NumberState) (all : AreIn g x) (o : Option ℕ) (within : IsValueWithin (length h.values) o) where
  pub made_in : AllIn h (with_cells (x.cells.items ++ made o ∷ []) (contents x))
  made_in =
      let later = all_in_on g h grown (contents x) all in
      cells_in h x (x.cells.items ++ made o ∷ []) later (all_more (CellIsWithin (length h.values)) x.cells.items (made o) later.cells (record { content = within; line = tt }))

  pub make_becomes : (u : NumberState) (i : Stock) (y : NumberState) (t : ℕ) (v : V) (content : Option V) → contents u ≡ with_cells (x.cells.items ++ made o ∷ []) (contents x) → v ≡ val.Cell (length x.cells.items)
      → map_some (value_at h) o ≡ content → Becomes (λ b. answer t v) h u i y → Becomes (λ b. makes t content) g x i y
  make_becomes u i y t v content same is_cell holds p =
      let f = value_at h in
      let cs = x.cells.items in
      record {
        is = λ b.
            let s = slots g b x in
            p.is b ∙ ap (λ w. answer t w (slots h b u)) is_cell ∙ ap (λ d. answer t (val.Cell (length cs)) (slots_of h b d)) same
            ∙ ap (λ z. answer t (val.Cell (length cs)) (record z { cells = map (map_cell f) (cs ++ made o ∷ []) })) (slots_of_on g h grown b (contents x) all)
            ∙ ap₂ (λ n ds. record s { threads = answered t (val.Cell n) s.threads; cells = ds }) (sym (length-map cs (map_cell (value_at g))))
            (map-append (map_cell f) cs (made o ∷ []) ∙ ap₂ (λ ds c. ds ++ made c ∷ []) (ap (λ z. z.cells) (slots_of_on g h grown b (contents x) all)) holds);
        there = p.there;
        output = p.output ∙ ap (λ (d : Contents). d.output) same;
        errors = p.errors ∙ ap (λ (d : Contents). d.errors) same;
      }
