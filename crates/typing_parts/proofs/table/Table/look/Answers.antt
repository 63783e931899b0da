use Rattle.std.proofs.Common.{◌≡◌, ◌-◌, true, false, arith}
use Rattle.std.specs.Str.{bytes_eq}
use Rattle.typing_parts.proofs.Tables.{last_named-step}
use Rattle.typing_parts.proofs.table.Table.look.Goals as goal

pub returns-then-is_name : goal.returns-then-is_name
returns-then-is_name c =
    let e = last_named-step c.as_slice-items.result.now (c.back.i - 1) c.back.i c.index-items-i.result c.args.x.now (omega arith) (omega arith) c.index-items-i.is in
    let k : bytes_eq c.index-items-i.result.text c.args.x.now ≡ true = cc in
    grind (arith, e, k, c.back.invariant)

pub back-preserved : goal.back-preserved
back-preserved c =
    let e = last_named-step c.as_slice-items.result.now (c.back.i - 1) c.back.i c.index-items-i.result c.args.x.now (omega arith) (omega arith) c.index-items-i.is in
    let k : bytes_eq c.index-items-i.result.text c.args.x.now ≡ false = cc in
    grind (arith, e, k, c.back.invariant)
