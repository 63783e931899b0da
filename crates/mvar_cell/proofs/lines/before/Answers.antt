-- The table has the node before a thread's.
use Rattle.std.proofs.Common.{◌≡◌, nat_eq, true, false, sym, ◌∙◌, subst}
use Rattle.std.specs.HashMap as table
use Rattle.slab.specs.Slab.{get}
use Rattle.mvar_cell.specs.declared.lines.Sought.{Sought}
use Rattle.mvar_cell.specs.Nodes.{place_of, is_sought, any_sought, behind, StandsBefore}
use Rattle.mvar_cell.proofs.Backing.{finds_before, finds_some}
use Rattle.mvar_cell.proofs.lines.before.Goals as goal

pub unreachable-requires : goal.unreachable-requires
unreachable-requires c =
    let s = c.args.nodes.now in
    finds_some (table.get nat_eq c.args.befores.now) s c.args.ends c.in-Thread.thread c.requires.backed
    (subst (λ (k : Sought). is_sought k (place_of (get s c.args.ends.first)) ≡ false) c.in-Thread.is c.requires.first)
    (subst (λ (k : Sought). any_sought k (behind s c.args.ends) ≡ true) c.in-Thread.is c.requires.stands)
    (sym c.before_of.ensures ∙ c.in-None.is)

pub returns-in-Some : goal.returns-in-Some
returns-in-Some c =
    let s = c.args.nodes.now in
    subst (λ (k : Sought). StandsBefore s c.args.ends k c.in-Some.key) (sym c.in-Thread.is)
    (finds_before (table.get nat_eq c.args.befores.now) s c.args.ends c.in-Thread.thread c.in-Some.key c.requires.backed c.requires.some
    (subst (λ (k : Sought). is_sought k (place_of (get s c.args.ends.first)) ≡ false) c.in-Thread.is c.requires.first)
    (subst (λ (k : Sought). any_sought k (behind s c.args.ends) ≡ true) c.in-Thread.is c.requires.stands)
    (sym c.before_of.ensures ∙ c.in-Some.is))
