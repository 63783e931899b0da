use Rattle.std.proofs.Common.{◌++◌, codes, string_bytes, append_assoc, sym, ap}
use Rattle.rules_expansion.specs.trees.Trees.{wr_of}
use Rattle.haskell_module.specs.Types.{type_text}
use Rattle.haskell_module.specs.Forms.{typed}
use Rattle.haskell_module.specs.Actions.{new_empty_text}
use Rattle.haskell_module.proofs.Written.{behind, same_piece}
use Rattle.haskell_module.proofs.actions.write_new_empty.Goals as goal

pub returns : goal.returns
unfolding new_empty_text typed
returns c =
    let r = c.put-2.result in
    let z = string_bytes c.put-2.new.text in
    let type = type_text (wr_of c.args.ty.now).ty in
    let begin = codes "(newEmptyMVar :: IO (MVar " in
    let all =
    behind r (string_bytes c.args.text.now) (string_bytes c.put.new.text) z begin (type ++ codes "))") c.in_ok-put.ensures
    (behind r (string_bytes c.put.new.text) (string_bytes c.write_type.new.text) z type (codes "))") c.in_ok-write_type.ensures c.put-2.ensures) in
    same_piece r (string_bytes c.args.text.now) z _ _ all (ap (λ v. begin ++ v) (sym (append_assoc type (codes ")") (codes ")"))))
