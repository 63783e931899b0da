use Rattle.std.proofs.Common.{◌+◌, ap, length, take, get_or, subst, ◌∙◌, arith}
use Rattle.hs_index.specs.Indexing.{Indexes}
use Rattle.hs_core.proofs.Numbering.{take_more}
use Rattle.hs_core.proofs.defs.index_of.Goals as goal

pub names-preserved : goal.names-preserved
names-preserved c =
    subst (Indexes c.add.new.self)
    (take_more c.args.names.now c.names.name-index (c.names.name-index + 1) c.name-item.result (omega arith) (omega (arith, c.names-test.true, ap length c.as_slice-name-items.ensures)) (c.name-item.is ∙ ap (λ z. get_or z c.names.name-index c.name-item.result) c.as_slice-name-items.ensures))
    (c.in_ok-add.ensures.added (take c.names.name-index c.args.names.now) c.names.invariant)
