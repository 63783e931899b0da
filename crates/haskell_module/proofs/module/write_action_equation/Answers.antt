use Rattle.std.proofs.Common.{◌++◌, codes, map, string_bytes}
use Rattle.std.specs.List.{flat_map}
use Rattle.rules_expansion.specs.trees.Programs.{bl_of, par_of}
use Rattle.haskell_module.specs.Names.{name_text}
use Rattle.haskell_module.specs.Actions.{bl_text}
use Rattle.haskell_module.specs.Modules.{parameter_head, parameter_end, equation}
use Rattle.haskell_module.proofs.Written.{behind, then_one}
use Rattle.haskell_module.proofs.module.write_action_equation.Goals as goal

pub returns : goal.returns
unfolding equation
returns c =
    let old = string_bytes c.args.text.now in
    let name = name_text c.args.name.now.text in
    let begin = name ++ codes " = (\\ en -> " in
    let heads = flat_map parameter_head (map par_of c.args.parameters.now) in
    let ends = flat_map parameter_end (map par_of c.args.parameters.now) in
    let body = bl_text (bl_of c.args.block.now) in
    let begun = then_one old (string_bytes c.write_name.new.text) (string_bytes c.put.new.text) name (codes " = (\\ en -> ") c.in_ok-write_name.ensures c.in_ok-put.ensures in
    let headed = then_one old (string_bytes c.put.new.text) (string_bytes c.write_parameter_heads.new.text) begin heads begun c.in_ok-write_parameter_heads.ensures in
    let filled = then_one old (string_bytes c.write_parameter_heads.new.text) (string_bytes c.write_block.new.text) (begin ++ heads) body headed c.in_ok-write_block.ensures in
    let ended = then_one old (string_bytes c.write_block.new.text) (string_bytes c.write_parameter_ends.new.text) (begin ++ heads ++ body) ends filled c.in_ok-write_parameter_ends.ensures in
    behind c.put-2.result old (string_bytes c.write_parameter_ends.new.text) (string_bytes c.put-2.new.text) (begin ++ heads ++ body ++ ends) (codes ");\n") ended c.put-2.ensures
