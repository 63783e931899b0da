-- The walk goes on where the next place isn't a reader's.
use Rattle.std.proofs.Common.{◌≡◌, ◌+◌, Some, false, sym, ap, ◌∙◌, subst}
use Rattle.slab.specs.Slab.{get, ContainsKey}
use Rattle.mvar_cell.specs.declared.lines.Sought.TheVariants.{Reader}
use Rattle.mvar_cell.specs.Nodes.{next_of, place_of, is_sought}
use Rattle.mvar_cell.specs.Cursors.{Searches}
use Rattle.mvar_cell.proofs.Chains.{is_there}
use Rattle.mvar_cell.proofs.Cursors.{search_goes_on, search_on}
use Rattle.mvar_cell.proofs.lines.search.Goals as goal

pub index-requires : goal.index-requires
index-requires c =
    let k = c.requires.chain.0 in
    is_there k _ (search_on c.args.nodes.now c.args.ends c.requires.some c.requires.first c.requires.stands k c.walk._step c.walk.at c.requires.chain.1 c.walk.invariant).0

pub index-requires-in-walk : goal.index-requires-in-walk
index-requires-in-walk c =
    let k = c.requires.chain.0 in
    let there = is_there k _ (search_on c.args.nodes.now c.args.ends c.requires.some c.requires.first c.requires.stands k c.walk._step c.walk.at c.requires.chain.1 c.walk.invariant).1 in
    subst (ContainsKey c.args.nodes.now) (ap next_of c.index.ensures) there

pub walk-preserved : goal.walk-preserved
walk-preserved c =
    let s = c.args.nodes.now in
    let next : next_of (get s c.walk.at) ≡ c.index.result.now.next = ap next_of c.index.ensures in
    let at : get s (next_of (get s c.walk.at)) ≡ Some c.index-in-walk.result.now = ap (get s) next ∙ c.index-in-walk.ensures in
    let other : is_sought Reader (place_of (get s (next_of (get s c.walk.at)))) ≡ false =
    ap (λ o. is_sought Reader (place_of o)) at ∙ sym c.reads.ensures ∙ c.if-reads.false in
    subst (Searches s c.args.ends (c.walk._step + 1)) next (search_goes_on s c.args.ends c.requires.some c.requires.first c.requires.stands c.walk._step c.walk.at c.walk.invariant other)
