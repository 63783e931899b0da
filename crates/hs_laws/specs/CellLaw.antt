-- The law of cells (the documentation of `Control.Concurrent.MVar`: first in, first out, single wake-up, an atomic read; said
-- of histories: own): over a history each cell does what the machine of one cell alone does by the history's calls, and
-- values come out in the order in which they went in.
use Rattle.std.specs.Prelude.{◌≡◌, ℕ, ◌==◌, cond, List, [], ◌∷◌, ◌++◌, length, Option, Some, None, slice_get}
use Rattle.hs_rules.specs.declared.entry.Entry.{Entry}
use Rattle.hs_rules.specs.declared.entry.Entry.TheVariants as entry
use Rattle.rules_expansion.specs.trees.Programs.{Fn}
use Rattle.rules_meaning.specs.Values as val
use Rattle.rules_meaning.specs.Values.{V, UnitValue, Truth, Nothing, Just}
use Rattle.rules_expansion.specs.declared.primitive.Primitive.{Primitive}
use Rattle.rules_expansion.specs.declared.primitive.Primitive.TheVariants.{NewMVar, NewEmptyMVar, TakeMVar, ReadMVar, PutMVar, TryTakeMVar, TryPutMVar}
use Rattle.rules_meaning.specs.CoreMeaning.{Code, code_of}
use Rattle.hs_rules.specs.Terms.{Operation, Calls, Part, Ret, Performs, term}
use Rattle.rules_waiting.specs.OneCell.{Want, Place, Cell, Call, Make, Take, Read, Put, Try_take, Try_put, Leave, Answer, Made, Took, Saw, Gave, Tried_take, Tried_put, Reply, first_put, made, call}
use Rattle.rules_waiting.specs.Waiting.{Reason, Waiting, want_at, line_of, reason_of}
use Rattle.hs_rules.specs.State.{Thread, State, with_term, frames_of}
use Rattle.hs_rules.specs.Entries.{stranded, next}
use Rattle.hs_rules.specs.Runs.{first_of, after}

-- ---- a cell within a state

-- a state has this cell at number m
pub record Shows (m : ℕ) (s : State) (c : Cell V) : Type 0 where
  pub content : slice_get s.cells m ≡ Some c.content
  pub line : line_of m s.blocked ≡ c.line

-- the value by which a thread learns an answer of cell m
abbrev pub told : ℕ → Answer V → V
told m Made = val.Cell m
told m (Took a) = a
told m (Saw a) = a
told m Gave = UnitValue
told m (Tried_take None) = Nothing
told m (Tried_take (Some a)) = Just a
told m (Tried_put b) = Truth b

-- thread t is answered
abbrev pub answered : ℕ → V → List Thread → List Thread
answered t a ths = with_term t (slice_get ths t) (term (Ret a) (frames_of (slice_get ths t))) ths

-- threads are answered in order
abbrev pub replied : ℕ → List (Reply V) → List Thread → List Thread
replied m [] ths = ths
replied m (r ∷ rs) ths = replied m rs (answered r.thread (told m r.answer) ths)

-- ---- the calls that an entry makes on cell m, in a state of n cells: an Op that makes the cell or is on it; a Receive of a
-- thread that waits there; and a Stranded, for each thread that waits there and is removed, in order of number

abbrev pub call_if : ℕ → V → Call V → List (Call V)
call_if m (val.Cell k) q = cond (k == m) (q ∷ []) []
call_if m _ q = []

abbrev pub with_none : List V → List (Call V) → List (Call V)
with_none [] qs = qs
with_none (a ∷ vs) qs = []

abbrev pub with_one : List V → (V → List (Call V)) → List (Call V)
with_one [] k = []
with_one (a ∷ vs) k = elim vs [ [] ↦ k a | w ∷ ws ↦ [] ]

abbrev pub with_two : List V → (V → V → List (Call V)) → List (Call V)
with_two [] k = []
with_two (a ∷ vs) k = with_one vs (k a)

abbrev pub primitive_calls : (m n t : ℕ) → Primitive → List V → List (Call V)
primitive_calls m n t NewMVar vs = with_one vs (λ a. cond (n == m) (Make t (Some a) ∷ []) [])
primitive_calls m n t NewEmptyMVar vs = with_none vs (cond (n == m) (Make t None ∷ []) [])
primitive_calls m n t TakeMVar vs = with_one vs (λ a. call_if m a (Take t))
primitive_calls m n t ReadMVar vs = with_one vs (λ a. call_if m a (Read t))
primitive_calls m n t PutMVar vs = with_two vs (λ a b. call_if m a (Put t b))
primitive_calls m n t TryTakeMVar vs = with_one vs (λ a. call_if m a (Try_take t))
primitive_calls m n t TryPutMVar vs = with_two vs (λ a b. call_if m a (Try_put t b))
primitive_calls m n t _ vs = []

abbrev pub operation_calls : (m n t : ℕ) → Operation → List (Call V)
operation_calls m n t (Calls p vs) = primitive_calls m n t p vs
operation_calls m n t _ = []

abbrev pub part_calls : (m n t : ℕ) → Part → List (Call V)
part_calls m n t (Performs op) = operation_calls m n t op
part_calls m n t _ = []

abbrev pub thread_calls : (m n t : ℕ) → Option Thread → List (Call V)
thread_calls m n t None = []
thread_calls m n t (Some th) = part_calls m n t th.term.part

abbrev pub leave_if : ℕ → Option (Want V) → List (Call V)
leave_if t None = []
leave_if t (Some w) = Leave t ∷ []

abbrev pub leave_call : ℕ → ℕ → Option (Reason V) → List (Call V)
leave_call m t None = []
leave_call m t (Some r) = leave_if t (want_at m r)

-- each of these threads that waits at the cell leaves
abbrev pub leave_calls : ℕ → List ℕ → List (Waiting V) → List (Call V)
leave_calls m [] ws = []
leave_calls m (t ∷ ts) ws = leave_call m t (reason_of t ws) ++ leave_calls m ts ws

abbrev pub calls_of : ℕ → State → Entry → List (Call V)
calls_of m s (entry.Op t) = thread_calls m (length s.cells) t (slice_get s.threads t)
calls_of m s (entry.Receive t) = leave_call m t (reason_of t s.blocked)
calls_of m s entry.Stranded = leave_calls m (stranded s) s.blocked
calls_of m s (entry.Local t k) = []
calls_of m s (entry.Wake t) = []
calls_of m s (entry.Finish t) = []
calls_of m s (entry.Tick at) = []

-- ---- what calls do, and whom they answer

abbrev pub after_calls : List (Call V) → Cell V → Cell V
after_calls [] c = c
after_calls (q ∷ qs) c = after_calls qs (call q c).cell

-- The threads after a call are those before with the machine's answers. A Leave says nothing of them: the thrower that its
-- Receive answers, and what a Stranded throws, are no matter of the cell.
abbrev pub IsAnswered : ℕ → Call V → Cell V → State → State → Type 0
IsAnswered m (Leave t) c s u = Unit {0}
IsAnswered m q c s u = u.threads ≡ replied m (call q c).replies s.threads

abbrev pub AnswersCalls : ℕ → List (Call V) → Cell V → State → State → Type 0
AnswersCalls m [] c s u = Unit {0}
AnswersCalls m (q ∷ qs) c s u = IsAnswered m q c s u × AnswersCalls m qs (call q c).cell s u

-- ---- what goes in and comes out

abbrev pub held : Option V → List V
held None = []
held (Some a) = a ∷ []

abbrev pub put_in : Option (ℕ × V) → List V
put_in None = []
put_in (Some w) = w.1 ∷ []

-- the values that a call puts in: at Make, by a put that needn't wait, and where a waiting put moves in
abbrev pub came_in : Call V → Option V → List (Place V) → List V
came_in (Make t o) c ps = held o
came_in (Take t) None ps = []
came_in (Take t) (Some a) ps = put_in (first_put ps)
came_in (Read t) c ps = []
came_in (Put t a) None ps = a ∷ []
came_in (Put t a) (Some b) ps = []
came_in (Try_take t) None ps = []
came_in (Try_take t) (Some a) ps = put_in (first_put ps)
came_in (Try_put t a) None ps = a ∷ []
came_in (Try_put t a) (Some b) ps = []
came_in (Leave t) c ps = []

abbrev pub taken_by : Answer V → List V
taken_by (Took a) = a ∷ []
taken_by (Tried_take (Some a)) = a ∷ []
taken_by _ = []

-- the values that takes are answered
abbrev pub went_out : List (Reply V) → List V
went_out [] = []
went_out (r ∷ rs) = taken_by r.answer ++ went_out rs

abbrev pub ins_by : List (Call V) → Cell V → List V
ins_by [] c = []
ins_by (q ∷ qs) c = came_in q c.content c.line ++ ins_by qs (call q c).cell

abbrev pub outs_by : List (Call V) → Cell V → List V
outs_by [] c = []
outs_by (q ∷ qs) c = went_out (call q c).replies ++ outs_by qs (call q c).cell

-- ---- over a history

-- the calls of entries on cell m, from a state on
abbrev pub calls_from : Code → ℕ → State → List Entry → List (Call V)
calls_from code m s [] = []
calls_from code m s (e ∷ es) = calls_of m s e ++ elim (next code s e) [ None ↦ [] | Some u ↦ calls_from code m u es ]

abbrev pub calls_after : Option State → Code → ℕ → List Entry → List (Call V)
calls_after None code m es = []
calls_after (Some s) code m es = calls_from code m s es

-- the calls of a history of a script on cell m
abbrev pub calls : List Fn → List Entry → ℕ → List (Call V)
calls ds es m = calls_after (first_of ds) (code_of ds) m es

-- Calls begin on an empty cell without a line. The first call on a cell is its Make, which sets both.
abbrev pub unmade : Cell V
unmade = made None

-- the cell alone after the calls of a history; the values that went in; and those that takes were answered
abbrev pub alone : List Fn → List Entry → ℕ → Cell V
alone ds es m = after_calls (calls ds es m) unmade

abbrev pub ins : List Fn → List Entry → ℕ → List V
ins ds es m = ins_by (calls ds es m) unmade

abbrev pub outs : List Fn → List Entry → ℕ → List V
outs ds es m = outs_by (calls ds es m) unmade

-- ---- the law

abbrev pub IsMake : Call V → Type 0
IsMake (Make t o) = Unit {0}
IsMake _ = ⊥

-- no call is a Make
abbrev pub NoMake : List (Call V) → Type 0
NoMake [] = Unit {0}
NoMake (q ∷ qs) = (¬ IsMake q) × NoMake qs

-- After a history that leaves state s, cell m: it was made by the first of its calls and by no other; the state has the cell
-- that is alone after them; and what came out, followed by the content, is what went in.
pub record KeptCell (ds : List Fn) (es : List Entry) (s : State) (m : ℕ) : Type 0 where
  pub maker : ℕ
  pub content : Option V
  pub rest : List (Call V)
  pub made_first : calls ds es m ≡ Make maker content ∷ rest
  pub made_once : NoMake rest
  pub shows : Shows m s (alone ds es m)
  pub in_order : outs ds es m ++ held (alone ds es m).content ≡ ins ds es m

-- At every moment of a history each cell is kept, and each entry answers the threads that the cell alone answers, by the same
-- values.
pub record CellsKept (ds : List Fn) (es : List Entry) : Type 0 where
  pub kept : (front back : List Entry) (s : State) (m : ℕ) (c : Option V) → es ≡ front ++ back → after ds front ≡ Some s → slice_get s.cells m ≡ Some c → KeptCell ds front s m
  pub answers : (front back : List Entry) (e : Entry) (s u : State) (m : ℕ) → es ≡ front ++ e ∷ back → after ds front ≡ Some s → next (code_of ds) s e ≡ Some u →
      AnswersCalls m (calls_of m s e) (alone ds front m) s u
