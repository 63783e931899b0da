use Rattle.std.proofs.Common.{◌++◌, codes, string_bytes}
use Rattle.rules_expansion.specs.trees.Trees.{exs_of}
use Rattle.haskell_module.specs.Names.{name_text}
use Rattle.haskell_module.specs.Expressions.{called, arguments}
use Rattle.haskell_module.proofs.Written.{same_piece, called_some}
use Rattle.haskell_module.proofs.exprs.+exprs.Goals as goal

pub write_call-returns : goal.write_call-returns
write_call-returns t c =
    let word = name_text c.args.f.now.text in
    let es = c.args.es.now in
    same_piece c.write_some_call.result (string_bytes c.args.text.now) (string_bytes c.write_some_call.new.text) (codes "(" ++ word ++ arguments (exs_of es) ++ codes ")") (called word (exs_of es) (arguments (exs_of es)))
    c.write_some_call.ensures (called_some word es c.is_empty.result (arguments (exs_of es)) c.is_empty.ensures c.if-is_empty.false)
