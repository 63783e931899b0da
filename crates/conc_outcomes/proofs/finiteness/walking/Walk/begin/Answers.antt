use Rattle.std.proofs.Common.{◌≡◌, replicate, slice_set, sym, subst, map}
use Rattle.conc_outcomes.specs.declared.finiteness.marks.Mark.TheVariants.{New, Open}
use Rattle.state_search.specs.Meaning.{edge_of}
use Rattle.conc_outcomes.specs.finiteness.Walks.{Walks}
use Rattle.conc_outcomes.proofs.finiteness_lemmas.Steps.{begun}
use Rattle.conc_outcomes.proofs.finiteness.walking.Walk.begin.Goals as goal

pub returns : goal.returns
returns c =
    let edges = map edge_of c.args.moves.now in
    let fresh : c.in_ok-marks.marks.items ≡ replicate c.args.count New = c.in_ok-marks.ensures.items_if_clones_equal (λ y h. h) in
    subst (λ ms. Walks edges (slice_set ms 0 (Open 0)) c.new.result.items 0 0) (sym fresh)
    (subst (λ ps. Walks edges (slice_set (replicate c.args.count New) 0 (Open 0)) ps 0 0) (sym c.new.ensures.items) (begun edges c.args.count c.requires.some c.requires.within))
