-- Two equations of codes are one, so that a ghost field may be one (own).
use Rattle.std.specs.Coded.{Coded-set}
use Rattle.rules_code.specs.contracts.code.CodeBody as body
use Rattle.rules_code.specs.declared.code.CodeBody.{CodeBody}

pub bodies_are_a_set : IsSet CodeBody
bodies_are_a_set = Coded-set body.the_row.coded
