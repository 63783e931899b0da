-- Operations that change one thread and no cell: what they leave is stood for.
use Rattle.std.proofs.Common.{append-nil, ◌≡◌, ℕ, ◌+◌, ◌++◌, [], List, length, None, refl, sym, ap, ◌∙◌, subst, slice_get}
use Rattle.hs_base.specs.declared.mask.Mask.{Mask}
use Rattle.hs_base.specs.declared.mask.Mask.TheVariants.{Unmasked}
use Rattle.hs_base.specs.declared.exn.Exn.{Exn}
use Rattle.hs_base.specs.declared.tree.script.Script.{Script}
use Rattle.hs_rules.specs.declared.entry.Entry.{Entry}
use Rattle.hs_rules.specs.declared.entry.Entry.TheVariants.{Op}
use Rattle.rules_expansion.specs.trees.Programs.{script_of}
use Rattle.rules_meaning.specs.Values.{V}
use Rattle.rules_meaning.specs.CoreMeaning.{code_of}
use Rattle.rules_expansion.specs.declared.primitive.Primitive.{Primitive}
use Rattle.rules_typing.specs.TypingScripts.{Accepted}
use Rattle.rules_waiting.specs.Waiting.{Reason, Flying, Sleeper, blocks, want_at, with_place, line_of, flight_of, sleepers_of, sorted_sleepers}
use Rattle.hs_rules.specs.Terms.{Operation, Calls, Part, Ret, Throw}
use Rattle.hs_rules.specs.State.{Mark, State, resume, answer, block}
use Rattle.hs_rules.specs.Entries.{Leads}
use Rattle.hs_laws.specs.cases.Cases as row
use Rattle.hs_rules.specs.Runs.{IsRun}
use Rattle.hs_laws.proofs.CellSteps.{line_more, leaves_absent}
use Rattle.slot_laws.specs.SlotRules.{SlotPart, ret, throw, performs, calls, mask_from}
use Rattle.slot_laws.specs.Standing.{EndsAs}
use Rattle.slot_states.specs.SlotStates as slots
use Rattle.slot_states.specs.SlotStates.{SlotState, SameCell, Agrees, Represents, StandsAt, MainGoes}
use Rattle.slot_states.proofs.Following.{Follow, follow_start, follow_resume, follow_block, Parts, entered}
use Rattle.slot_states.proofs.Reading.{AtOp, at_call, op_leads, same_cell}

-- ---- the other parts

module _ (x : SlotState) (s : State) (a : Agrees x s) where
  pub cells_kept : (u : State) → u.cells ≡ s.cells → ((m : ℕ) → line_of m u.blocked ≡ line_of m s.blocked) → (m : ℕ) → SameCell m u (slice_get x.cells m)
  cells_kept u c l m = same_cell m s u (slice_get x.cells m) (ap (λ cs. slice_get cs m) c) (l m) (a.cells m)

  -- the same are blocked, and only threads, the clock and counts changed
  pub parts_same : (y : SlotState) (u : State) → y.cells ≡ x.cells → u.cells ≡ s.cells → u.blocked ≡ s.blocked → y.flight ≡ x.flight → y.sleepers ≡ x.sleepers
      → y.clock ≡ u.clock → y.next_instance ≡ u.next_instance → y.next_timeout ≡ u.next_timeout → y.printed ≡ length u.output + length u.errors → Parts y u
  parts_same y u yc uc same yf ys clock instances timeouts printed = record {
    made = ap length yc ∙ (a.made ∙ sym (ap length uc));
    cells = λ m. subst (λ cs. SameCell m u (slice_get cs m)) (sym yc) (cells_kept u uc (λ k. ap (line_of k) same) m);
    flight = yf ∙ (a.flight ∙ sym (ap flight_of same));
    sleepers = ys ∙ (a.sleepers ∙ sym (ap (λ ws. sorted_sleepers (sleepers_of ws)) same));
    clock = clock;
    instances = instances;
    timeouts = timeouts;
    printed = printed;
  }

-- ---- one Op
module _ (script : Script) (accepted : Accepted script) (x : SlotState) (t : ℕ) (main : MainGoes x) (es : List Entry) (s : State) (run : IsRun (script_of script) es s) (r : Represents (script_of script) x s)
    (q : Operation) (m : Mask) (a : AtOp s t q m) where
  abbrev pub Goes : SlotState → Type 0
  Goes y = (v : State) × Leads (code_of (script_of script)) s (Op t) v × Represents (script_of script) y v

  pub op_enters : (u : State) (y : SlotState) → row.Performs t m q s u → Follow x.threads s.threads y.threads u.threads u.blocked → Parts y u → Goes y
  op_enters u y c f p = entered script accepted es s u (Op t) x y run r (op_leads (script_of script) x s r t main q m a u c) (λ v. tt) f p

  -- thread t gets a value or an exception, and only counts, marks and what is printed change
  resumes : (p : SlotPart) (w : Part) → EndsAs w p → (o e : List ℕ) (ms : List Mark) (i n j k b : ℕ)
      → row.Performs t m q s (resume t w (record s { next_instance = i; next_timeout = n; marks = ms; output = o; errors = e })) → j ≡ i → k ≡ n → b ≡ length o + length e
      → Goes (record x { threads = slots.resumed t p x.threads; next_instance = j; next_timeout = k; printed = b })
  resumes p w end o e ms i n j k b c instances timeouts printed =
      let u : State = resume t w (record s { next_instance = i; next_timeout = n; marks = ms; output = o; errors = e }) in
      let y : SlotState = record x { threads = slots.resumed t p x.threads; next_instance = j; next_timeout = k; printed = b } in
      op_enters u y c (follow_resume x.threads s.threads x.threads s.threads s.blocked (follow_start (script_of script) x s r) t p w end)
      (parts_same x s r.agrees y u refl refl (leaves_absent t s.blocked a.running.awake) refl refl r.agrees.clock instances timeouts printed)

  -- it waits, at no cell
  waits : (w : Reason V) → row.Performs t m q s (block t w s) → ((k : ℕ) → want_at k w ≡ None) → (fs : List Flying) → fs ≡ flight_of (blocks t w s.blocked) → (ss : List Sleeper)
      → ss ≡ sorted_sleepers (sleepers_of (blocks t w s.blocked))
      → Goes (record x { threads = slots.blocked_at t x.threads; flight = fs; sleepers = ss })
  waits w c apart fs f ss g =
      op_enters (block t w s) (record x { threads = slots.blocked_at t x.threads; flight = fs; sleepers = ss }) c
      (follow_block x.threads s.threads x.threads s.threads s.blocked (follow_start (script_of script) x s r) t w a.thread a.running.there)
      (record {
        made = r.agrees.made;
        cells = cells_kept x s r.agrees (block t w s) refl (λ k. line_more k s.blocked (record { thread = t; reason = w }) ∙ (ap (λ o. line_of k s.blocked ++ with_place t o []) (apart k) ∙ append-nil (line_of k s.blocked)));
        flight = f;
        sleepers = g;
        clock = r.agrees.clock;
        instances = r.agrees.instances;
        timeouts = r.agrees.timeouts;
        printed = r.agrees.printed;
      })

-- ---- the Op of a call
module _ (script : Script) (accepted : Accepted script) (x : SlotState) (t : ℕ) (main : MainGoes x) (es : List Entry) (s : State) (run : IsRun (script_of script) es s) (r : Represents (script_of script) x s)
    (c : Primitive) (vs : List V) (h : StandsAt x t (performs (calls c vs))) where
  abbrev m : Mask
  m = mask_from Unmasked h.thread.term.frames

  a : AtOp s t (Calls c vs) m
  a = at_call (script_of script) x s r t c vs h

  abbrev CallGoes : SlotState → Type 0
  CallGoes y = (v : State) × Leads (code_of (script_of script)) s (Op t) v × Represents (script_of script) y v

  pub call_waits : (w : Reason V) → row.Performs t m (Calls c vs) s (block t w s) → ((k : ℕ) → want_at k w ≡ None) → (fs : List Flying) → fs ≡ flight_of (blocks t w s.blocked) → (ss : List Sleeper)
      → ss ≡ sorted_sleepers (sleepers_of (blocks t w s.blocked))
      → CallGoes (record x { threads = slots.blocked_at t x.threads; flight = fs; sleepers = ss })
  call_waits = waits script accepted x t main es s run r (Calls c vs) m a

  -- it is answered
  pub answers : (v : V) (o e : List ℕ) (ms : List Mark) (i n j k b : ℕ)
      → row.Performs t m (Calls c vs) s (answer t v (record s { next_instance = i; next_timeout = n; marks = ms; output = o; errors = e })) → j ≡ i → k ≡ n → b ≡ length o + length e
      → CallGoes (record x { threads = slots.answered t v x.threads; next_instance = j; next_timeout = k; printed = b })
  answers v = resumes script accepted x t main es s run r (Calls c vs) m a (ret v) (Ret v) refl

  -- and nothing else changes
  pub answers_alone : (v : V) → row.Performs t m (Calls c vs) s (answer t v s) → CallGoes (slots.answer t v x)
  answers_alone v d = answers v s.output s.errors s.marks s.next_instance s.next_timeout x.next_instance x.next_timeout x.printed d r.agrees.instances r.agrees.timeouts r.agrees.printed

  pub throws_alone : (e : Exn) → row.Performs t m (Calls c vs) s (resume t (Throw e) s) → CallGoes (slots.throws t e x)
  throws_alone e d =
      resumes script accepted x t main es s run r (Calls c vs) m a (throw e) (Throw e) refl s.output s.errors s.marks s.next_instance s.next_timeout x.next_instance x.next_timeout x.printed d
      r.agrees.instances r.agrees.timeouts r.agrees.printed
