-- What an entry prints (own): the bytes that it adds to standard output and to standard error.
use Rattle.std.specs.Prelude.{ℕ, List, [], ◌∷◌, ◌++◌, Option, Some, None, slice_get}
use Rattle.hs_rules.specs.declared.entry.Entry.{Entry}
use Rattle.hs_rules.specs.declared.entry.Entry.TheVariants as entry
use Rattle.rules_meaning.specs.Values as val
use Rattle.rules_meaning.specs.Values.{V}
use Rattle.rules_expansion.specs.declared.primitive.Primitive.TheVariants.{PutStr, PutStrLn, HPutStrLn}
use Rattle.hs_rules.specs.Primitives.{line_feed}
use Rattle.hs_rules.specs.Entries.{uncaught_line}
use Rattle.slot_laws.specs.SlotRules.{SlotOp, calls, SlotPart, ret, throw, doing, performs}
use Rattle.slot_states.specs.SlotStates.{SlotThread, SlotState}

-- the text of a call with one text
abbrev pub one_text : List V → List ℕ
one_text (val.Text x ∷ []) = x
one_text _ = []

abbrev pub op_output : SlotOp → List ℕ
op_output (calls PutStr vs) = one_text vs
op_output (calls PutStrLn vs) = one_text vs ++ line_feed
op_output _ = []

abbrev pub op_errors : SlotOp → List ℕ
op_errors (calls HPutStrLn vs) = one_text vs ++ line_feed
op_errors _ = []

abbrev pub output_of : SlotPart → List ℕ
output_of (ret v) = []
output_of (throw e) = []
output_of (doing a vs) = []
output_of (performs p) = op_output p

abbrev pub part_output : Option SlotThread → List ℕ
part_output None = []
part_output (Some th) = output_of th.term.part

abbrev pub errors_of : SlotPart → List ℕ
errors_of (ret v) = []
errors_of (throw e) = []
errors_of (doing a vs) = []
errors_of (performs p) = op_errors p

abbrev pub part_errors : Option SlotThread → List ℕ
part_errors None = []
part_errors (Some th) = errors_of th.term.part

-- the line of a thread that ends by this part
abbrev pub line_by : ℕ → SlotPart → List ℕ
line_by t (ret v) = []
line_by t (throw e) = uncaught_line t e
line_by t (doing a vs) = []
line_by t (performs p) = []

abbrev pub end_line : ℕ → Option SlotThread → List ℕ
end_line t None = []
end_line t (Some th) = line_by t th.term.part

-- what an entry adds to standard output
abbrev pub output_by : SlotState → Entry → List ℕ
output_by x (entry.Op t) = part_output (slice_get x.threads t)
output_by x (entry.Local t k) = []
output_by x (entry.Receive t) = []
output_by x (entry.Wake t) = []
output_by x (entry.Finish t) = []
output_by x (entry.Tick at) = []
output_by x entry.Stranded = []

-- what an entry adds to standard error
abbrev pub errors_by : SlotState → Entry → List ℕ
errors_by x (entry.Op t) = part_errors (slice_get x.threads t)
errors_by x (entry.Finish t) = end_line t (slice_get x.threads t)
errors_by x (entry.Local t k) = []
errors_by x (entry.Receive t) = []
errors_by x (entry.Wake t) = []
errors_by x (entry.Tick at) = []
errors_by x entry.Stranded = []
