-- What a value holds, where it is of the form that is asked for.
use Rattle.std.specs.Prelude.{List, ℕ, Option, Some, None}
use Rattle.hs_base.specs.declared.exn.Exn.{Exn}
use Rattle.hs_base.specs.declared.value.Value.{Value}
use Rattle.hs_base.specs.declared.value.Value.TheVariants as form
use Rattle.hs_base.specs.declared.value.ValueList.{ValueList}

-- the bytes of the text that a value is
abbrev pub text_in : Value → Option (List ℕ)
text_in (form.Text t) = Some t
text_in _ = None

-- the exception that a value is
abbrev pub exn_in : Value → Option Exn
exn_in (form.Exn e) = Some e
exn_in _ = None

-- the list that a value is
abbrev pub list_in : Value → Option ValueList
list_in (form.List vs) = Some vs
list_in _ = None
