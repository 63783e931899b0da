-- Slots of an environment alone.
use Rattle.std.proofs.Common.{◌≡◌, List, [], ap}
use Rattle.std.proofs.lemmas.List.{append-nil}
use Rattle.hs_base.specs.declared.value.Value.{Value}
use Rattle.rules_meaning.specs.Values.{values_of}
use Rattle.hs_eval.specs.Evaluation.{slots}

pub no_more_slots : (vs : List Value) → slots vs [] ≡ values_of vs
no_more_slots vs = ap values_of (append-nil vs)
