use Rattle.std.proofs.Common.{◌++◌, codes, string_bytes}
use Rattle.rules_expansion.specs.trees.Trees.{ex_of}
use Rattle.rules_expansion.specs.trees.Programs.{bl_of}
use Rattle.haskell_module.specs.Forms.{applied, applied_two, lambda, bound, in_thread}
use Rattle.haskell_module.specs.Expressions.{ex_text}
use Rattle.haskell_module.specs.Actions.{bl_text}
use Rattle.haskell_module.proofs.Written.{behind, then_one, then_two}
use Rattle.haskell_module.proofs.actions.+actions.Goals as goal

pub write_fork_unmasking-returns : goal.write_fork_unmasking-returns
unfolding applied
write_fork_unmasking-returns t c =
    let r = c.put-2.result in
    let z = string_bytes c.put-2.new.text in
    let body = in_thread (lambda c.args.x.now.text ++ bl_text (bl_of c.args.block.now)) in
    behind r (string_bytes c.args.text.now) (string_bytes c.put.new.text) z (codes "(forkIOWithUnmask en ") (body ++ codes ")") c.in_ok-put.ensures
    (behind r (string_bytes c.put.new.text) (string_bytes c.write_unmasking.new.text) z body (codes ")") c.in_ok-write_unmasking.ensures c.put-2.ensures)

pub write_modify-returns : goal.write_modify-returns
unfolding applied_two
write_modify-returns t c =
    let old = string_bytes c.args.text.now in
    let begin = codes "(modifyMVar_ " ++ ex_text (ex_of c.args.e.now) in
    let body = bound c.args.x.now.text (bl_text (bl_of c.args.block.now)) in
    let blank = then_one old (string_bytes c.write_part.new.text) (string_bytes c.put.new.text) begin (codes " ") c.in_ok-write_part.ensures c.in_ok-put.ensures in
    let whole = then_one old (string_bytes c.put.new.text) (string_bytes c.write_bound.new.text) (begin ++ codes " ") body blank c.in_ok-write_bound.ensures in
    behind c.put-2.result old (string_bytes c.write_bound.new.text) (string_bytes c.put-2.new.text) (begin ++ codes " " ++ body) (codes ")") whole c.put-2.ensures

pub write_timeout-returns : goal.write_timeout-returns
unfolding applied_two
write_timeout-returns t c =
    let old = string_bytes c.args.text.now in
    let begin = codes "(timeout en " ++ ex_text (ex_of c.args.e.now) in
    let body = bl_text (bl_of c.args.block.now) in
    let whole = then_two old (string_bytes c.write_part.new.text) (string_bytes c.write_body.new.text) begin (codes " ") body c.in_ok-write_part.ensures c.in_ok-write_body.ensures in
    behind c.put.result old (string_bytes c.write_body.new.text) (string_bytes c.put.new.text) (begin ++ codes " " ++ body) (codes ")") whole c.put.ensures

pub write_with_async-returns : goal.write_with_async-returns
unfolding applied_two
write_with_async-returns t c =
    let old = string_bytes c.args.text.now in
    let begin = codes "(withAsync en " in
    let child = in_thread (bl_text (bl_of c.args.a.now)) in
    let body = bound c.args.x.now.text (bl_text (bl_of c.args.b.now)) in
    let forked = then_one old (string_bytes c.put.new.text) (string_bytes c.write_in_thread.new.text) begin child c.in_ok-put.ensures c.in_ok-write_in_thread.ensures in
    let blank = then_one old (string_bytes c.write_in_thread.new.text) (string_bytes c.put-2.new.text) (begin ++ child) (codes " ") forked c.in_ok-put-2.ensures in
    let whole = then_one old (string_bytes c.put-2.new.text) (string_bytes c.write_bound.new.text) (begin ++ child ++ codes " ") body blank c.in_ok-write_bound.ensures in
    behind c.put-3.result old (string_bytes c.write_bound.new.text) (string_bytes c.put-3.new.text) (begin ++ child ++ codes " " ++ body) (codes ")") whole c.put-3.ensures
