-- What a handle on a code stands for.
use Rattle.std.specs.Arc.{arc_value}
use Rattle.rules_code.specs.declared.code.CodeBody.{CodeBody}
use Rattle.rules_code.specs.declared.code.Code.{Code}

-- Two codes are equal where these are.
abbrev pub body_of : Code → CodeBody
body_of c = arc_value c.body
