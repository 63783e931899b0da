use Rattle.std.proofs.Common.{List, length, ap, ◌∙◌, sym, subst, arith}
use Rattle.std.proofs.lemmas.List.{length_push}
use Rattle.hs_base.specs.declared.value.Value.{Value}
use Rattle.world_entries.specs.Reading.{Are}
use Rattle.world_entries.proofs.Copies.{are_more}
use Rattle.world_entries.proofs.reading.copies.Goals as goal

pub loop-preserved : goal.loop-preserved
loop-preserved c =
    let i = c.push_reserved.ensures.items in
    record {
      same = subst (Are c.args.value.now) (sym {A = List Value} i) (are_more c.args.value.now c.in_ok-copy.field-0 c.loop.copies.items c.loop.invariant.same c.in_ok-copy.ensures);
      count = let l = ap length i ∙ length_push c.loop.copies.items c.in_ok-copy.field-0 in let k = c.loop.invariant.count in omega (arith, l, k);
      room = let a = c.push_reserved.ensures.capacity in let b = c.loop.invariant.room in omega (arith, a, b);
    }
