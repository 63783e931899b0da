-- What an entry prints, as it is put (own).
use Rattle.std.specs.Prelude.{◌≡◌, ℕ, List, [], Option, Some, None}
use Rattle.run_course.specs.declared.history.pieces.Stream.{Stream}
use Rattle.run_course.specs.declared.history.pieces.Stream.TheVariants.{Output, Errors}
use Rattle.run_course.specs.declared.history.pieces.PrintedPiece.{PrintedPiece}

abbrev pub on_stream : Stream → List ℕ → (output errors : List ℕ) → Type 0
on_stream Output bytes output errors = (output ≡ bytes) × (errors ≡ [])
on_stream Errors bytes output errors = (output ≡ []) × (errors ≡ bytes)

-- all that goes to the two streams
abbrev pub IsPiece : Option PrintedPiece → (output errors : List ℕ) → Type 0
IsPiece None output errors = (output ≡ []) × (errors ≡ [])
IsPiece (Some p) output errors = on_stream p.stream p.bytes.items output errors
