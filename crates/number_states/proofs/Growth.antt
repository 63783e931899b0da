-- Tables that have grown: what a number stood for it stands for.
use Rattle.std.proofs.Common.{◌≡◌, ℕ, zero, suc, ◌<◌, List, [], ◌∷◌, ◌++◌, Option, Some, None, length, slice_get, map, refl, sym, ap, ap₂, ◌∙◌, subst, arith}
use Rattle.std.specs.List.{AllByRecursion}
use Rattle.std.proofs.lemmas.List.{map-append}
use Rattle.rules_meaning.specs.Values.{V}
use Rattle.rules_code.specs.declared.code.CodeBody.{CodeBody}
use Rattle.rules_waiting.specs.OneCell.{Want, To_take, To_read, To_put, Place, Cell}
use Rattle.slot_states.specs.mapping.Mapped.{map_some, map_want, map_line, map_cell}
use Rattle.slot_laws.specs.SlotRules.{SlotPart, SlotTerm}
use Rattle.slot_states.specs.SlotStates.{SlotThread}
use Rattle.local_steps.specs.declared.active.Frame.{Frame}
use Rattle.number_tables.specs.Tables.{Grows}
use Rattle.number_tables.proofs.Indexes.{get_old}
use Rattle.number_states.specs.declared.waits.flight.Thrown.{Thrown}
use Rattle.number_states.specs.waits.Throwing.{map_flight}
use Rattle.term_graph.specs.declared.tables.term.Term.{Term}
use Rattle.term_graph.specs.tables.Numbered.{Numbered, term_in, of_term, over_stack}
use Rattle.term_graph.specs.tables.Numbered as terms
use Rattle.local_steps.specs.Machine.{active_of}
use Rattle.term_graph.proofs.Growth.{grows_same, grows_on, grown_same, grown_on}
use Rattle.number_states.specs.declared.state.NumberThread.{NumberThread}
use Rattle.number_states.specs.Stocks.{Stock, HasGrown, or_bare, or_unit, or_killed, or_empty, value_at, exception_at, text_at, term_at, IsTerm}
use Rattle.number_states.specs.States.{Contents, thread_of, slots_of, IsValueWithin, WantIsWithin, LineIsWithin, CellIsWithin, AllIn}

-- ---- lists

pub got_on : {A : Type 0} (xs ys : List A) (n : ℕ) (x : A) → Grows xs ys → slice_get xs n ≡ Some x → slice_get ys n ≡ Some x
got_on xs ys n x g h = subst (λ zs. slice_get zs n ≡ Some x) (sym g.1) (get_old xs g.0 n x h)

there : {A : Type 0} (xs more : List A) (n : ℕ) → n < length xs → slice_get (xs ++ more) n ≡ slice_get xs n
there [] more n h = absurd (omega arith)
there (x ∷ xs) more zero h = refl
there (x ∷ xs) more (suc n) h = there xs more n (omega arith)

pub there_on : {A : Type 0} (xs ys : List A) (n : ℕ) → Grows xs ys → n < length xs → slice_get ys n ≡ slice_get xs n
there_on xs ys n g h = ap (λ zs. slice_get zs n) g.1 ∙ there xs g.0 n h

longer : {A : Type 0} (xs more : List A) (n : ℕ) → n < length xs → n < length (xs ++ more)
longer [] more n h = absurd (omega arith)
longer (x ∷ xs) more zero h = omega arith
longer (x ∷ xs) more (suc n) h = let r = longer xs more n (omega arith) in omega arith

pub within_on : {A : Type 0} (xs ys : List A) (n : ℕ) → Grows xs ys → n < length xs → n < length ys
within_on xs ys n g h = subst (λ zs. n < length zs) (sym g.1) (longer xs g.0 n h)

pub mapped_on : {A B : Type 0} (f : A → B) (xs ys : List A) → Grows xs ys → Grows (map f xs) (map f ys)
mapped_on f xs ys g = (map f g.0, ap (map f) g.1 ∙ map-append f xs g.0)

-- what each has it has
pub each : {A : Type 0} (P Q : A → Type 0) → ((x : A) → P x → Q x) → (xs : List A) → AllByRecursion P xs → AllByRecursion Q xs
each P Q k [] h = tt
each P Q k (x ∷ xs) h = (k x h.0, each P Q k xs h.1)

pub same_map : {A B : Type 0} (P : A → Type 0) (f g : A → B) → ((x : A) → P x → f x ≡ g x) → (xs : List A) → AllByRecursion P xs → map f xs ≡ map g xs
same_map P f g k [] h = refl
same_map P f g k (x ∷ xs) h = ap₂ (λ y ys. y ∷ ys) (k x h.0) (same_map P f g k xs h.1)

-- ---- stocks

pub stock_same : (g : Stock) → HasGrown g g
stock_same g = record {
  terms = grown_same g.terms;
  values = grows_same g.values;
  exceptions = grows_same g.exceptions;
  texts = grows_same g.texts;
}

pub stock_on : (f g h : Stock) → HasGrown f g → HasGrown g h → HasGrown f h
stock_on f g h a b = record {
  terms = grown_on f.terms g.terms h.terms a.terms b.terms;
  values = grows_on f.values g.values h.values a.values b.values;
  exceptions = grows_on f.exceptions g.exceptions h.exceptions a.exceptions b.exceptions;
  texts = grows_on f.texts g.texts h.texts a.texts b.texts;
}

-- ---- terms

stack_from : (b : CodeBody) (p : SlotPart) (ss zs : List (List Frame)) (n : ℕ) (st : SlotTerm) (o : Option (List Frame)) → slice_get ss n ≡ o → Grows ss zs → over_stack b p o ≡ Some st → over_stack b p (slice_get zs n) ≡ Some st
stack_from b p ss zs n st None e g h = absurd (cc h)
stack_from b p ss zs n st (Some fs) e g h = ap (over_stack b p) (got_on ss zs n fs g e) ∙ h

term_from : (b : CodeBody) (ss zs : List (List Frame)) (ts us : List Term) (n : ℕ) (st : SlotTerm) (o : Option Term) → slice_get ts n ≡ o → Grows ss zs → Grows ts us → of_term b ss o ≡ Some st → of_term b zs (slice_get us n) ≡ Some st
term_from b ss zs ts us n st None e g k h = absurd (cc h)
term_from b ss zs ts us n st (Some t) e g k h =
    ap (of_term b zs) (got_on ts us n t k e) ∙ stack_from b (active_of b t.part) ss zs t.stack st (slice_get ss t.stack) refl g h

pub term_on : (g h : Numbered) (b : CodeBody) (n : ℕ) (st : SlotTerm) → terms.HasGrown g h → term_in g b n ≡ Some st → term_in h b n ≡ Some st
term_on g h b n st k e = term_from b g.stacks h.stacks g.terms h.terms n st (slice_get g.terms n) refl k.stacks k.terms e

-- ---- what numbers stand for

module _ (g h : Stock) (grown : HasGrown g h) where
  pub is_term_on : (n : ℕ) → IsTerm g n → IsTerm h n
  is_term_on n t = record {
    there = within_on g.terms.terms h.terms.terms n grown.terms.terms t.there;
    term = λ b. ((t.term b).0, term_on g.terms h.terms b n (t.term b).0 grown.terms (t.term b).1);
  }

  pub term_at_on : (b : CodeBody) (n : ℕ) → IsTerm g n → term_at h b n ≡ term_at g b n
  term_at_on b n t = let e = (t.term b).1 in ap or_bare (term_on g.terms h.terms b n (t.term b).0 grown.terms e) ∙ ap or_bare (sym e)

  pub value_at_on : (n : ℕ) → n < length g.values → value_at h n ≡ value_at g n
  value_at_on n small = ap or_unit (there_on g.values h.values n grown.values small)

  pub exception_at_on : (n : ℕ) → n < length g.exceptions → exception_at h n ≡ exception_at g n
  exception_at_on n small = ap or_killed (there_on g.exceptions h.exceptions n grown.exceptions small)

  pub text_at_on : (n : ℕ) → n < length g.texts → text_at h n ≡ text_at g n
  text_at_on n small = ap or_empty (there_on g.texts h.texts n grown.texts small)

  -- ---- parts of a state

  some_on : (o : Option ℕ) → IsValueWithin (length g.values) o → map_some (value_at h) o ≡ map_some (value_at g) o
  some_on None t = refl
  some_on (Some n) t = ap (λ v. Some v) (value_at_on n t)

  want_on : (w : Want ℕ) → WantIsWithin (length g.values) w → map_want (value_at h) w ≡ map_want (value_at g) w
  want_on To_take t = refl
  want_on To_read t = refl
  want_on (To_put n) t = ap (λ v. To_put v) (value_at_on n t)

  line_on : (ps : List (Place ℕ)) → LineIsWithin (length g.values) ps → map_line (value_at h) ps ≡ map_line (value_at g) ps
  line_on [] t = refl
  line_on (p ∷ ps) t = ap₂ (λ w qs. record { thread = p.thread; want = w } ∷ qs) (want_on p.want t.0) (line_on ps t.1)

  cell_on : (c : Cell ℕ) → CellIsWithin (length g.values) c → map_cell (value_at h) c ≡ map_cell (value_at g) c
  cell_on c t = ap₂ (λ o ps. record { content = o; line = ps }) (some_on c.content t.content) (line_on c.line t.line)

  thread_on : (b : CodeBody) (th : NumberThread) → IsTerm g th.term → thread_of h b th ≡ thread_of g b th
  thread_on b th t = ap (λ st. record { term = st; blocked = th.blocked; finished = th.finished }) (term_at_on b th.term t)

  pub threads_on : (b : CodeBody) (ths : List NumberThread) → AllByRecursion (λ (th : NumberThread). IsTerm g th.term) ths → map (thread_of h b) ths ≡ map (thread_of g b) ths
  threads_on b ths t = same_map (λ (th : NumberThread). IsTerm g th.term) (thread_of h b) (thread_of g b) (thread_on b) ths t

  pub cells_on : (cs : List (Cell ℕ)) → AllByRecursion (CellIsWithin (length g.values)) cs → map (map_cell (value_at h)) cs ≡ map (map_cell (value_at g)) cs
  cells_on cs t = same_map (CellIsWithin (length g.values)) (map_cell (value_at h)) (map_cell (value_at g)) cell_on cs t

  pub flight_on : (fs : List Thrown) → AllByRecursion (λ (f : Thrown). f.exn < length g.exceptions) fs → map_flight (exception_at h) fs ≡ map_flight (exception_at g) fs
  flight_on [] t = refl
  flight_on (f ∷ fs) t = ap₂ (λ e ys. record { thrower = f.thrower; target = f.target; exn = e } ∷ ys) (exception_at_on f.exn t.0) (flight_on fs t.1)

  want_within_on : (w : Want ℕ) → WantIsWithin (length g.values) w → WantIsWithin (length h.values) w
  want_within_on To_take t = tt
  want_within_on To_read t = tt
  want_within_on (To_put n) t = within_on g.values h.values n grown.values t

  line_within_on : (ps : List (Place ℕ)) → LineIsWithin (length g.values) ps → LineIsWithin (length h.values) ps
  line_within_on [] t = tt
  line_within_on (p ∷ ps) t = (want_within_on p.want t.0, line_within_on ps t.1)

  content_within_on : (o : Option ℕ) → IsValueWithin (length g.values) o → IsValueWithin (length h.values) o
  content_within_on None t = tt
  content_within_on (Some n) t = within_on g.values h.values n grown.values t

  pub cell_within_on : (c : Cell ℕ) → CellIsWithin (length g.values) c → CellIsWithin (length h.values) c
  cell_within_on c t = record { content = content_within_on c.content t.content; line = line_within_on c.line t.line }

  pub all_in_on : (x : Contents) → AllIn g x → AllIn h x
  all_in_on x t = record {
    threads = each (λ (th : NumberThread). IsTerm g th.term) (λ (th : NumberThread). IsTerm h th.term) (λ th. is_term_on th.term) x.threads t.threads;
    cells = each (CellIsWithin (length g.values)) (CellIsWithin (length h.values)) cell_within_on x.cells t.cells;
    flight = each (λ (f : Thrown). f.exn < length g.exceptions) (λ (f : Thrown). f.exn < length h.exceptions) (λ f. within_on g.exceptions h.exceptions f.exn grown.exceptions) x.flight t.flight;
    output = within_on g.texts h.texts x.output grown.texts t.output;
    errors = within_on g.texts h.texts x.errors grown.texts t.errors;
  }

  pub slots_of_on : (b : CodeBody) (x : Contents) → AllIn g x → slots_of h b x ≡ slots_of g b x
  slots_of_on b x t =
      ap₂ (λ (z : List SlotThread × List (Cell V)) fs. let y = slots_of g b x in record y { threads = z.0; cells = z.1; flight = fs }) (ap₂ (λ ths cs. (ths, cs)) (threads_on b x.threads t.threads) (cells_on x.cells t.cells)) (flight_on x.flight t.flight)
