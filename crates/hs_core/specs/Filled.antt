-- What a form puts into its template, beside its blocks.
use Rattle.std.specs.Prelude.{◌≡◌}
use Rattle.std.specs.Option.{option_copied}
use Rattle.rules_expansion.specs.Templates.{Filling}
use Rattle.hs_core.specs.Making.{subject_of}
use Rattle.hs_core.specs.declared.operands.Filled.{Filled}

-- this holds of each filling that has that expression, or `Nothing` where there is none, and that name
abbrev pub FilledWith : Filled → (Filling → Type 0) → Type 0
FilledWith x holds = (f : Filling) → f.subject ≡ subject_of (option_copied x.subject) → f.given ≡ x.given.now → holds f
