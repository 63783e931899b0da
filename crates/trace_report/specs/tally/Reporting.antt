-- The report over a history (own): what each thread and each cell did, in numbers, as viewers of event logs such as ThreadScope
-- show it. Each number is counted by itself, over the whole history, from the first state of the script on.
use Rattle.std.specs.Prelude.{ℕ, zero, suc, ◌+◌, ◌==◌, max, Bool, true, false, cond, List, [], ◌∷◌, ◌++◌, length, Option, Some, None, slice_get, codes}
use Rattle.std.specs.Fmt.{decimal}
use Rattle.hs_rules.specs.declared.entry.Entry.{Entry}
use Rattle.hs_rules.specs.declared.entry.Entry.TheVariants.{Local, Op, Receive}
use Rattle.rules_expansion.specs.trees.Programs.{Fn}
use Rattle.rules_meaning.specs.Values.{V}
use Rattle.rules_meaning.specs.CoreMeaning.{Code, code_of}
use Rattle.rules_waiting.specs.OneCell.{stands_in}
use Rattle.rules_waiting.specs.Waiting.{is_blocked, line_of}
use Rattle.hs_rules.specs.Terms.{Part, Ret, Throw, Do, Performs}
use Rattle.hs_rules.specs.State.{Thread, State}
use Rattle.hs_rules.specs.Entries.{next}
use Rattle.hs_rules.specs.Runs.{first_of}
use Rattle.hs_laws.specs.CellLaw.{ins, outs}

-- ---- sums over a history

-- the sum of what each entry adds
abbrev pub total : (Entry → ℕ) → List Entry → ℕ
total f [] = 0
total f (e ∷ es) = f e + total f es

-- the sum of what each entry adds by itself and by the state that it leaves, from a state on
abbrev pub total_from : (Entry → State → ℕ) → Code → State → List Entry → ℕ
total_from f code s [] = 0
total_from f code s (e ∷ es) = elim (next code s e) [ None ↦ 0 | Some u ↦ f e u + total_from f code u es ]

abbrev pub total_after : (Entry → State → ℕ) → Code → Option State → List Entry → ℕ
total_after f code None es = 0
total_after f code (Some s) es = total_from f code s es

-- the same over a history of a script
abbrev pub total_of : (Entry → State → ℕ) → List Fn → List Entry → ℕ
total_of f ds es = total_after f (code_of ds) (first_of ds) es

-- the greatest of what each state has, from this state on
abbrev pub greatest_from : (State → ℕ) → Code → State → List Entry → ℕ
greatest_from f code s [] = f s
greatest_from f code s (e ∷ es) = max (f s) (elim (next code s e) [ None ↦ 0 | Some u ↦ greatest_from f code u es ])

abbrev pub greatest_after : (State → ℕ) → Code → Option State → List Entry → ℕ
greatest_after f code None es = 0
greatest_after f code (Some s) es = greatest_from f code s es

-- the same over a history of a script: after any beginning of it
abbrev pub greatest_of : (State → ℕ) → List Fn → List Entry → ℕ
greatest_of f ds es = greatest_after f (code_of ds) (first_of ds) es

-- ---- of a thread

-- 1 where it is so
abbrev pub one_if : Bool → ℕ
one_if b = cond b 1 0

abbrev pub local_by : ℕ → Entry → ℕ
local_by t (Local k n) = cond (k == t) n 0
local_by t _ = 0

abbrev pub op_by : ℕ → Entry → ℕ
op_by t (Op k) = one_if (k == t)
op_by t _ = 0

abbrev pub receive_by : ℕ → Entry → ℕ
receive_by t (Receive k) = one_if (k == t)
receive_by t _ = 0

-- an operation of the thread that leaves it blocked
abbrev pub wait_by : ℕ → Entry → State → ℕ
wait_by t (Op k) u = cond (k == t) (one_if (is_blocked t u.blocked)) 0
wait_by t _ u = 0

-- the steps that thread t made by itself
abbrev pub local_of : ℕ → List Entry → ℕ
local_of t es = total (local_by t) es

-- its operations
abbrev pub ops_of : ℕ → List Entry → ℕ
ops_of t es = total (op_by t) es

-- the exceptions that it received
abbrev pub receives_of : ℕ → List Entry → ℕ
receives_of t es = total (receive_by t) es

-- how often it began to wait
abbrev pub waits_of : List Fn → ℕ → List Entry → ℕ
waits_of ds t es = total_of (wait_by t) ds es

-- ---- of a cell

-- an operation that leaves its thread in the line of the cell
abbrev pub cell_wait_by : ℕ → Entry → State → ℕ
cell_wait_by m (Op t) u = one_if (stands_in t (line_of m u.blocked))
cell_wait_by m _ u = 0

-- how often a thread began to wait at cell m
abbrev pub cell_waits : List Fn → ℕ → List Entry → ℕ
cell_waits ds m es = total_of (cell_wait_by m) ds es

-- the length of its line
abbrev pub line_length : ℕ → State → ℕ
line_length m s = length (line_of m s.blocked)

-- the greatest length of its line after any beginning of the history
abbrev pub longest : List Fn → ℕ → List Entry → ℕ
longest ds m es = greatest_of (line_length m) ds es

-- ---- the words

abbrev pub ended_word : Part → List ℕ
ended_word (Ret v) = codes "done"
ended_word (Throw e) = codes "failed"
ended_word (Do a env) = codes "running"
ended_word (Performs op) = codes "running"

-- how a thread stands, which is blocked or not
abbrev pub thread_word : Option Thread → Bool → List ℕ
thread_word None blocked = codes "running"
thread_word (Some th) blocked = cond th.finished (ended_word th.term.part) (cond blocked (codes "waiting") (codes "running"))

-- whether a cell is there and holds a value
abbrev pub is_full : Option (Option V) → Bool
is_full None = false
is_full (Some None) = false
is_full (Some (Some a)) = true

abbrev pub cell_word : Bool → List ℕ
cell_word full = cond full (codes "full") (codes "empty")

-- ---- the text

-- the line of a thread with these numbers, in three parts
abbrev pub thread_head : (t local : ℕ) → List ℕ
thread_head t local = codes "thread " ++ decimal t ++ codes ": " ++ decimal local ++ codes " local, "

abbrev pub thread_rest : (ops waits receives : ℕ) → List ℕ
thread_rest ops waits receives = decimal ops ++ codes " ops, " ++ decimal waits ++ codes " waits, " ++ decimal receives ++ codes " receives, "

abbrev pub thread_line : (t local ops waits receives : ℕ) → List ℕ → List ℕ
thread_line t local ops waits receives word = thread_head t local ++ thread_rest ops waits receives ++ word ++ codes "\n"

-- the line of a cell with these numbers, in three parts
abbrev pub cell_head : (m came : ℕ) → List ℕ
cell_head m came = codes "cell " ++ decimal m ++ codes ": " ++ decimal came ++ codes " in, "

abbrev pub cell_rest : (went waits most : ℕ) → List ℕ
cell_rest went waits most = decimal went ++ codes " out, " ++ decimal waits ++ codes " waits, " ++ decimal most ++ codes " longest, "

abbrev pub cell_line : (m came went waits most : ℕ) → List ℕ → List ℕ
cell_line m came went waits most word = cell_head m came ++ cell_rest went waits most ++ word ++ codes "\n"

abbrev pub thread_line_of : List Fn → List Entry → State → ℕ → List ℕ
thread_line_of ds es s t = thread_line t (local_of t es) (ops_of t es) (waits_of ds t es) (receives_of t es) (thread_word (slice_get s.threads t) (is_blocked t s.blocked))

abbrev pub cell_line_of : List Fn → List Entry → State → ℕ → List ℕ
cell_line_of ds es s m = cell_line m (length (ins ds es m)) (length (outs ds es m)) (cell_waits ds m es) (longest ds m es) (cell_word (is_full (slice_get s.cells m)))

-- the lines of so many numbers, in order
abbrev pub lines_below : (ℕ → List ℕ) → ℕ → List ℕ
lines_below f zero = []
lines_below f (suc n) = lines_below f n ++ f n

-- The report over a history that leaves this state: a line for each thread, and then one for each cell.
abbrev pub report_of : List Fn → List Entry → State → List ℕ
report_of ds es s = lines_below (thread_line_of ds es s) (length s.threads) ++ lines_below (cell_line_of ds es s) (length s.cells)
