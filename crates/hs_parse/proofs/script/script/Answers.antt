use Rattle.std.proofs.Common.{rules}
use Rattle.hs_parse.proofs.Top.{script_ok, script_err}
use Rattle.hs_parse.proofs.script.script.Goals as goal

pub returns-in_err-defs : goal.returns-in_err-defs
returns-in_err-defs c = search (rules, script_err)

pub returns : goal.returns
returns c = search (rules, script_ok)
