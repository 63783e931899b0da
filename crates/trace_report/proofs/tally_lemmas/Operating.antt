-- What an operation does to the lines of cells, and what comes out of them by it.
use Rattle.std.proofs.Common.{◌≡◌, ◌≤◌, ℕ, ◌==◌, List, [], ◌∷◌, ◌++◌, length, Bool, true, false, cond, not, ◌&&◌, Option, Some, None, slice_get, slice_set, refl, sym, ap, ◌∙◌, subst, arith, ⊎_elim}
use Rattle.std.proofs.lemmas.List.{append-nil}
use Rattle.std.proofs.Math.Bool.{and-true}
use Rattle.hs_base.specs.declared.mask.Mask.{Mask}
use Rattle.rules_meaning.specs.Values.{V, UnitValue, Truth}
use Rattle.rules_waiting.specs.OneCell.{Want, Place, To_take, To_read, To_put, Cell, Call, Make, Take, Read, Put, Try_take, Try_put, readers, stands_in}
use Rattle.rules_waiting.specs.Waiting.{Reason, Taking, Reading, Putting, Throwing, Sleeping, with_place, want_at, line_of, leaves}
use Rattle.hs_rules.specs.Terms.{Operation, Ret}
use Rattle.hs_rules.specs.State.{State, answer, block}
use Rattle.hs_rules.specs.Primitives.{due_in}
use Rattle.hs_laws.specs.cases.Cases.{Performs, read_there, makes_a_full_cell, makes_an_empty_cell, take_waits, takes_and_empties, takes_and_serves, read_waits, reads, put_waits, puts_and_fills, puts_and_serves, try_take_finds_nothing, try_takes_and_empties, try_takes_and_serves, try_put_finds_a_value, try_puts_and_fills, try_puts_and_serves, sleeps, throw_waits}
use Rattle.hs_laws.specs.CellLaw.{operation_calls, after_calls, outs_by}
use Rattle.hs_laws.proofs.Lists.{cond_false, equal_or, item_same}
use Rattle.hs_laws.proofs.CellSteps.{line_more, all_cells}
use Rattle.trace_report.specs.declared.tally.touch.Touch.{Touch}
use Rattle.trace_report.specs.declared.tally.touch.Touch.TheVariants as touch
use Rattle.trace_report.specs.tally.Reporting.{one_if, is_full}
use Rattle.trace_report.specs.tally.Touching.{touch_of, is_on, waits_there, serves, full_in}
use Rattle.trace_report.proofs.tally_lemmas.Leaving.{Lost, lost_both, lost_one, lost_all}
use Rattle.trace_report.proofs.tally_lemmas.Serving as one
use Rattle.trace_report.proofs.tally_lemmas.Serving.{Serves}

abbrev pub There : Touch → State → State → Type 0
There h s u = (m : ℕ) → is_on m h ≡ true → (a : Option V) × (b : Option V) × (slice_get s.cells m ≡ Some a) × (slice_get u.cells m ≡ Some b)

-- A thread that touches a cell so stands in its line afterwards exactly where it waits there, no other line has become longer, and
-- the cell is there.
pub record Performed (t : ℕ) (h : Touch) (s u : State) : Type 0 where
  pub stands : (m : ℕ) → stands_in t (line_of m u.blocked) ≡ (is_on m h && waits_there h (full_in m s))
  pub shorter : (m : ℕ) → is_on m h ≡ false → length (line_of m u.blocked) ≤ length (line_of m s.blocked)
  pub there : There h s u

-- it stands in no line
abbrev pub Free : ℕ → State → Type 0
Free t s = (m : ℕ) → stands_in t (line_of m s.blocked) ≡ false

-- ---- tests
and_false : (b : Bool) → (b && false) ≡ false
and_false true = refl
and_false false = refl

same_number : (t : ℕ) → (t == t) ≡ true
same_number t = ⊎_elim (λ e. e.0) (λ e. absurd (e.1 refl)) (equal_or t t)

-- what is so at the cell's number
test_on : (k m : ℕ) (s : State) (f : Bool → Bool) (a : Option V) (b : Bool) → slice_get s.cells k ≡ Some a → f (is_full (Some a)) ≡ b → ((k == m) && f (full_in m s)) ≡ ((k == m) && b)
test_on k m s f a b h e =
    ⊎_elim (λ same. ap (λ z. (k == m) && z) (ap (λ z. f (is_full z)) (subst (λ x. slice_get s.cells x ≡ Some a) same.1 h) ∙ e)) (λ other. ap (λ z. z && f (full_in m s)) other.0 ∙ sym (ap (λ z. z && b) other.0)) (equal_or k m)

there_on : (k : ℕ) (s u : State) (a b : Option V) → slice_get s.cells k ≡ Some a → slice_get u.cells k ≡ Some b → (m : ℕ) → (k == m) ≡ true → (a : Option V) × (b : Option V) × (slice_get s.cells m ≡ Some a) × (slice_get u.cells m ≡ Some b)
there_on k s u a b h g m on =
    ⊎_elim (λ same. (a, b, subst (λ x. slice_get s.cells x ≡ Some a) same.1 h, subst (λ x. slice_get u.cells x ≡ Some b) same.1 g))
    (λ other. let z : true ≡ false = sym on ∙ other.0 in absurd (cc z)) (equal_or k m)

-- ---- nobody waits
module _ (t : ℕ) (s : State) (free : Free t s) where
  quiet : (h : Touch) (u : State) → Lost s.blocked u.blocked → ((m : ℕ) → (is_on m h && waits_there h (full_in m s)) ≡ false) → There h s u → Performed t h s u
  quiet h u lost none there = record { stands = λ m. lost.absent m t (free m) ∙ sym (none m); shorter = λ m off. lost.shorter m; there = there }

  calm : (u : State) → Lost s.blocked u.blocked → Performed t touch.Nothing s u
  calm u lost = quiet touch.Nothing u lost (λ m. refl) (λ m on. absurd (cc on))

  -- ---- it waits
  stands_append : (ps qs : List (Place V)) → stands_in t ps ≡ false → stands_in t (ps ++ qs) ≡ stands_in t qs
  stands_append [] qs e = refl
  stands_append (p ∷ ps) qs e = by (p.thread == t) (stands_in t ps) e (stands_append ps qs)
    where
      by : (b x : Bool) → cond b true x ≡ false → (x ≡ false → stands_in t (ps ++ qs) ≡ stands_in t qs) → cond b true (stands_in t (ps ++ qs)) ≡ stands_in t qs
      by true x e k = absurd (cc e)
      by false x e k = k e

  stands_by : (w : Want V) (b : Bool) → stands_in t (with_place t (cond b (Some w) None) []) ≡ b
  stands_by w true = ap (λ b. cond b true false) (same_number t)
  stands_by w false = refl

  waits : (h : Touch) (k : ℕ) (w : Want V) (r : Reason V) → ((m : ℕ) → want_at m r ≡ cond (k == m) (Some w) None) → ((m : ℕ) → is_on m h ≡ (k == m)) → ((m : ℕ) → (is_on m h && waits_there h (full_in m s)) ≡ ((k == m) && true)) → There h s (block t r s) → Performed t h s (block t r s)
  waits h k w r wants on all there = record {
    stands = λ m.
        ap (stands_in t) (line_more m s.blocked (record { thread = t; reason = r }))
        ∙ (stands_append (line_of m s.blocked) (with_place t (want_at m r) []) (free m)
        ∙ (ap (λ o. stands_in t (with_place t o [])) (wants m) ∙ (stands_by w (k == m) ∙ sym (all m ∙ and-true (k == m)))));
    shorter = λ m off.
        let e = ap length (line_more m s.blocked (record { thread = t; reason = r }) ∙ (ap (λ o. line_of m s.blocked ++ with_place t o []) (wants m ∙ cond_false (k == m) (Some w) None (sym (on m) ∙ off)) ∙ append-nil (line_of m s.blocked))) in
        omega (arith, e);
    there = there;
  }

  waits_elsewhere : (r : Reason V) → ((m : ℕ) → want_at m r ≡ None) → Performed t touch.Nothing s (block t r s)
  waits_elsewhere r wants =
      let e : (m : ℕ) → line_of m (block t r s).blocked ≡ line_of m s.blocked = λ m. line_more m s.blocked (record { thread = t; reason = r }) ∙ (ap (λ o. line_of m s.blocked ++ with_place t o []) (wants m) ∙ append-nil (line_of m s.blocked)) in
      record {
        stands = λ m. ap (stands_in t) (e m) ∙ free m;
        shorter = λ m off. let k = ap length (e m) in omega (arith, k);
        there = λ m on. absurd (cc on);
      }

  -- ---- by the operation
  answered : (a : V) → Lost s.blocked (answer t a s).blocked
  answered a = lost_one t s.blocked

  both_answered : (a : V) (w : ℕ) → Lost s.blocked (leaves w (answer t a s).blocked)
  both_answered a w = lost_both s.blocked (leaves t s.blocked) (leaves w (leaves t s.blocked)) (lost_one t s.blocked) (lost_one w (leaves t s.blocked))

  all_read : (c : ℕ) (a b : V) → Lost s.blocked (read_there c a (answer t b s)).blocked
  all_read c a b = lost_both s.blocked (leaves t s.blocked) (read_there c a (answer t b s)).blocked (lost_one t s.blocked) (lost_all (readers (line_of c (answer t b s).blocked)) (Ret a) (answer t b s))

  read_and_served : (c w : ℕ) (a b : V) → Lost s.blocked (leaves w (read_there c a (answer t b s)).blocked)
  read_and_served c w a b = lost_both s.blocked (read_there c a (answer t b s)).blocked (leaves w (read_there c a (answer t b s)).blocked) (all_read c a b) (lost_one w (read_there c a (answer t b s)).blocked)

  read_cells : (c : ℕ) (a b : V) → (read_there c a (answer t b s)).cells ≡ s.cells
  read_cells c a b = all_cells (readers (line_of c (answer t b s).blocked)) (Ret a) (answer t b s)

  still_on : (c m : ℕ) (f : Bool → Bool) (o : Option V) → slice_get s.cells c ≡ Some o → f (is_full (Some o)) ≡ false → ((c == m) && f (full_in m s)) ≡ false
  still_on c m f o e no_wait = test_on c m s f o false e no_wait ∙ and_false (c == m)

  set_there : (c : ℕ) (o b : Option V) (u : State) → slice_get s.cells c ≡ Some o → u.cells ≡ slice_set s.cells c b → (m : ℕ) → (c == m) ≡ true → (a : Option V) × (b : Option V) × (slice_get s.cells m ≡ Some a) × (slice_get u.cells m ≡ Some b)
  set_there c o b u e cells = there_on c s u o b e (ap (λ xs. slice_get xs c) cells ∙ item_same s.cells c o b e)

  kept_there : (c : ℕ) (o : Option V) (u : State) → slice_get s.cells c ≡ Some o → u.cells ≡ s.cells → (m : ℕ) → (c == m) ≡ true → (a : Option V) × (b : Option V) × (slice_get s.cells m ≡ Some a) × (slice_get u.cells m ≡ Some b)
  kept_there c o u e cells = there_on c s u o o e (ap (λ xs. slice_get xs c) cells ∙ e)

pub performs : {t : ℕ} {a : Mask} {p : Operation} {s u : State} → Performs t a p s u → Free t s → Performed t (touch_of p) s u
performs {t} {u} (take_waits {c} {s = r} e) f = waits t r f (touch.Takes c) c To_take (Taking c) (λ m. refl) (λ m. refl) (λ m. test_on c m r not None true e refl) (kept_there t r f c None u e refl)
performs {t} {u} (takes_and_empties {c} {a} {s = r} e w) f = quiet t r f (touch.Takes c) u (answered t r f a) (λ m. still_on t r f c m not (Some a) e refl) (set_there t r f c (Some a) None u e refl)
performs {t} {u} (takes_and_serves {c} {w} {a} {b} {s = r} e x) f = quiet t r f (touch.Takes c) u (both_answered t r f a w) (λ m. still_on t r f c m not (Some a) e refl) (set_there t r f c (Some a) (Some b) u e refl)
performs {t} {u} (read_waits {c} {s = r} e) f = waits t r f (touch.Reads c) c To_read (Reading c) (λ m. refl) (λ m. refl) (λ m. test_on c m r not None true e refl) (kept_there t r f c None u e refl)
performs {t} {u} (reads {c} {a} {s = r} e) f = quiet t r f (touch.Reads c) u (answered t r f a) (λ m. still_on t r f c m not (Some a) e refl) (kept_there t r f c (Some a) u e refl)
performs {t} {u} (put_waits {c} {a} {b} {s = r} e) f = waits t r f (touch.Puts c) c (To_put a) (Putting c a) (λ m. refl) (λ m. refl) (λ m. test_on c m r (λ z. z) (Some b) true e refl) (kept_there t r f c (Some b) u e refl)
performs {t} {u} (puts_and_fills {c} {a} {s = r} e w) f =
    quiet t r f (touch.Puts c) u (all_read t r f c a UnitValue) (λ m. still_on t r f c m (λ z. z) None e refl) (set_there t r f c None (Some a) u e (ap (λ xs. slice_set xs c (Some a)) (read_cells t r f c a UnitValue)))
performs {t} {u} (puts_and_serves {c} {w} {a} {s = r} e x) f = quiet t r f (touch.Puts c) u (read_and_served t r f c w a UnitValue) (λ m. still_on t r f c m (λ z. z) None e refl) (kept_there t r f c None u e (read_cells t r f c a UnitValue))
performs {t} {u} (try_take_finds_nothing {c} {s = r} e) f = quiet t r f (touch.TriesToTake c) u (lost_one t r.blocked) (λ m. and_false (c == m)) (kept_there t r f c None u e refl)
performs {t} {u} (try_takes_and_empties {c} {a} {s = r} e w) f = quiet t r f (touch.TriesToTake c) u (answered t r f a) (λ m. and_false (c == m)) (set_there t r f c (Some a) None u e refl)
performs {t} {u} (try_takes_and_serves {c} {w} {a} {b} {s = r} e x) f = quiet t r f (touch.TriesToTake c) u (both_answered t r f a w) (λ m. and_false (c == m)) (set_there t r f c (Some a) (Some b) u e refl)
performs {t} {u} (try_put_finds_a_value {c} {a} {b} {s = r} e) f = quiet t r f (touch.TriesToPut c) u (lost_one t r.blocked) (λ m. and_false (c == m)) (kept_there t r f c (Some b) u e refl)
performs {t} {u} (try_puts_and_fills {c} {a} {s = r} e w) f =
    quiet t r f (touch.TriesToPut c) u (all_read t r f c a (Truth true)) (λ m. and_false (c == m)) (set_there t r f c None (Some a) u e (ap (λ xs. slice_set xs c (Some a)) (read_cells t r f c a (Truth true))))
performs {t} {u} (try_puts_and_serves {c} {w} {a} {s = r} e x) f = quiet t r f (touch.TriesToPut c) u (read_and_served t r f c w a (Truth true)) (λ m. and_false (c == m)) (kept_there t r f c None u e (read_cells t r f c a (Truth true)))
performs {t} {u} (sleeps {n} {s = r} h) f = waits_elsewhere t r f (Sleeping (due_in n r)) (λ m. refl)
performs {t} {u} (throw_waits {u = w} {e} {s = r} n h x) f = waits_elsewhere t r f (Throwing w e) (λ m. refl)
performs {t} {s} {u} _ f = calm t s f u (lost_one t s.blocked)

-- ---- what comes out

-- where the cell is touched, its contents are those of the states
abbrev pub Sees : ℕ → Touch → List (Call V) → State → State → Cell V → Type 0
Sees m h qs s u c = is_on m h ≡ true → (slice_get s.cells m ≡ Some c.content) × (slice_get u.cells m ≡ Some (after_calls qs c).content)

touched : (m : ℕ) (h : Touch) (q : Call V) (s u : State) (c : Cell V) → Serves h q → (b : Bool) → (b ≡ true → (slice_get s.cells m ≡ Some c.content) × (slice_get u.cells m ≡ Some (after_calls (cond b (q ∷ []) []) c).content)) →
    length (outs_by (cond b (q ∷ []) []) c) ≡ one_if (b && serves h (full_in m s) (full_in m u))
touched m h q s u c k true sees = let e = sees refl in k c ∙ sym (ap (λ z. one_if (serves h (is_full z) (full_in m u))) e.0 ∙ ap (λ z. one_if (serves h (is_full (Some c.content)) (is_full z))) e.1)
touched m h q s u c k false sees = refl

makes_none : (t : ℕ) (o : Option V) (c : Cell V) (b : Bool) → length (outs_by (cond b (Make t o ∷ []) []) c) ≡ 0
makes_none t o c true = refl
makes_none t o c false = refl

pub comes_out : {t : ℕ} {a : Mask} {p : Operation} {s u : State} → Performs t a p s u → (m n : ℕ) (c : Cell V) → Sees m (touch_of p) (operation_calls m n t p) s u c →
    length (outs_by (operation_calls m n t p) c) ≡ one_if (is_on m (touch_of p) && serves (touch_of p) (full_in m s) (full_in m u))
comes_out {t} (makes_a_full_cell {a} {s = r}) m n c sees = makes_none t (Some a) c (n == m)
comes_out {t} (makes_an_empty_cell {s = r}) m n c sees = makes_none t None c (n == m)
comes_out {t} {u} (take_waits {c = k} {s = r} e) m n c sees = touched m (touch.Takes k) (Take t) r u c (one.takes k t) (k == m) sees
comes_out {t} {u} (takes_and_empties {c = k} {s = r} e w) m n c sees = touched m (touch.Takes k) (Take t) r u c (one.takes k t) (k == m) sees
comes_out {t} {u} (takes_and_serves {c = k} {s = r} e w) m n c sees = touched m (touch.Takes k) (Take t) r u c (one.takes k t) (k == m) sees
comes_out {t} {u} (read_waits {c = k} {s = r} e) m n c sees = touched m (touch.Reads k) (Read t) r u c (one.reads k t) (k == m) sees
comes_out {t} {u} (reads {c = k} {s = r} e) m n c sees = touched m (touch.Reads k) (Read t) r u c (one.reads k t) (k == m) sees
comes_out {t} {u} (put_waits {c = k} {a} {s = r} e) m n c sees = touched m (touch.Puts k) (Put t a) r u c (one.puts k t a) (k == m) sees
comes_out {t} {u} (puts_and_fills {c = k} {a} {s = r} e w) m n c sees = touched m (touch.Puts k) (Put t a) r u c (one.puts k t a) (k == m) sees
comes_out {t} {u} (puts_and_serves {c = k} {a} {s = r} e w) m n c sees = touched m (touch.Puts k) (Put t a) r u c (one.puts k t a) (k == m) sees
comes_out {t} {u} (try_take_finds_nothing {c = k} {s = r} e) m n c sees = touched m (touch.TriesToTake k) (Try_take t) r u c (one.tries_to_take k t) (k == m) sees
comes_out {t} {u} (try_takes_and_empties {c = k} {s = r} e w) m n c sees = touched m (touch.TriesToTake k) (Try_take t) r u c (one.tries_to_take k t) (k == m) sees
comes_out {t} {u} (try_takes_and_serves {c = k} {s = r} e w) m n c sees = touched m (touch.TriesToTake k) (Try_take t) r u c (one.tries_to_take k t) (k == m) sees
comes_out {t} {u} (try_put_finds_a_value {c = k} {a} {s = r} e) m n c sees = touched m (touch.TriesToPut k) (Try_put t a) r u c (one.tries_to_put k t a) (k == m) sees
comes_out {t} {u} (try_puts_and_fills {c = k} {a} {s = r} e w) m n c sees = touched m (touch.TriesToPut k) (Try_put t a) r u c (one.tries_to_put k t a) (k == m) sees
comes_out {t} {u} (try_puts_and_serves {c = k} {a} {s = r} e w) m n c sees = touched m (touch.TriesToPut k) (Try_put t a) r u c (one.tries_to_put k t a) (k == m) sees
comes_out _ m n c sees = refl
