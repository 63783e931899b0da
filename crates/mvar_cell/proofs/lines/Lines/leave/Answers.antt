-- A place leaves a line: the first as it is served, another from behind the node before it.
use Rattle.std.proofs.Common.{nat_eq, ◌≢◌, [], map, set, sym, ap, ◌∙◌, subst, refl}
use Rattle.std.specs.HashMap.{get, spare}
use Rattle.mvar_cell.specs.Lined.{line_of}
use Rattle.mvar_cell.specs.Nodes.{line_at, ends_after_leaving}
use Rattle.mvar_cell.specs.Cursors.{AreMarked}
use Rattle.mvar_cell.proofs.Writes.{After, within_lines, followed, middle_leaves, leaves_first, served_first}
use Rattle.mvar_cell.proofs.Backing.{stood_behind, leaves_backed}
use Rattle.mvar_cell.proofs.Cursors.{leaves_marked}
use Rattle.mvar_cell.specs.declared.lines.Ends.{Ends}
use Rattle.mvar_cell.specs.Befores.{StoodBehind, IsClosed, AreBacked}
use Rattle.mvar_cell.proofs.lines.Lines.leave.Goals as goal

pub returns-then-is_at-clause-lines : goal.returns-then-is_at-clause-lines
returns-then-is_at-clause-lines c =
    let es = c.self.inside.ends.items in
    let s = c.self.inside.nodes in
    let e = c.index-ends.result.now in
    let lt = within_lines es s c.self.inside.ends.cap (spare c.self.inside.befores) c.args.line c.args.self.now c.self.view_is c.requires.within in
    let served = c.in-Some.ensures {u = tt} in
    record {
      front = [];
      back = line_of c.serve.new.self c.args.line;
      clear = refl;
      found = served_first es s c.self.inside.ends.cap (spare c.self.inside.befores) c.args.line e c.args.self.now c.self.invariant.sound lt c.index-ends.ensures c.self.view_is c.args.sought c.index.result.now c.in-Some.place.0 c.in-Some.place.1 _ c.requires.stands c.index.ensures (sym c.is_at.ensures ∙ c.if-is_at.true) served.served;
      was = served.served;
      now = served.lines;
    }

pub cursor_without-cursor-requires : goal.cursor_without-cursor-requires
cursor_without-cursor-requires c =
    let es = c.self.inside.ends.items in
    let s = c.self.inside.nodes in
    let e = c.index-ends.result.now in
    let lt = within_lines es s c.self.inside.ends.cap (spare c.self.inside.befores) c.args.line c.args.self.now c.self.view_is c.requires.within in
    followed es s c.args.line e c.self.invariant.sound lt c.index-ends.ensures c.args.sought c.before-before.result c.before-before.ensures

pub unlink-gone-requires : goal.unlink-gone-requires
unlink-gone-requires c =
    let es = c.self.inside.ends.items in
    let s = c.self.inside.nodes in
    let e = c.index-ends.result.now in
    let lt = within_lines es s c.self.inside.ends.cap (spare c.self.inside.befores) c.args.line c.args.self.now c.self.view_is c.requires.within in
    followed es s c.args.line e c.self.invariant.sound lt c.index-ends.ensures c.args.sought c.before-before.result c.before-before.ensures

pub close-requires : goal.close-requires
close-requires c =
    let es = c.self.inside.ends.items in
    let s = c.self.inside.nodes in
    let u = c.unlink-gone.new.nodes in
    let e = c.index-ends.result.now in
    let f = get nat_eq c.self.inside.befores in
    let p = c.before-before.result in
    let gone = c.unlink-gone.result.0 in
    let lt = within_lines es s c.self.inside.ends.cap (spare c.self.inside.befores) c.args.line c.args.self.now c.self.view_is c.requires.within in
    subst (λ (x : Ends). x.last ≢ p → StoodBehind f u gone) (sym c.unlink-gone.ensures.ends) (stood_behind f f es s c.args.line e c.self.invariant.sound c.self.invariant.backed lt c.index-ends.ensures u c.args.sought p gone c.before-before.ensures c.unlink-gone.ensures.unlinked)

pub invariant_of-self : goal.invariant_of-self
invariant_of-self c =
    let es = c.self.inside.ends.items in
    let s = c.self.inside.nodes in
    let e = c.index-ends.result.now in
    let lt = within_lines es s c.self.inside.ends.cap (spare c.self.inside.befores) c.args.line c.args.self.now c.self.view_is c.requires.within in
    let left = middle_leaves es s c.args.line e c.self.invariant.sound lt c.index-ends.ensures c.unlink-gone.new.nodes c.cursor_without-cursor.result c.args.sought c.before-before.result c.unlink-gone.result.0 c.before-before.ensures c.unlink-gone.ensures.unlinked c.unlink-gone.ensures.len in
    let f = get nat_eq c.self.inside.befores in
    let g = get nat_eq c.close.new.befores in
    let u = c.unlink-gone.new.nodes in
    let p = c.before-before.result in
    let gone = c.unlink-gone.result.0 in
    let closed = subst (λ (x : Ends). IsClosed f g u gone x.last p) c.unlink-gone.ensures.ends c.close.ensures.closed in
    record {
      sound = (subst (After es s c.unlink-gone.new.nodes c.args.line) (sym c.unlink-gone.ensures.ends) left.after).sound;
      backed = subst (λ (x : Ends). AreBacked g (set es c.args.line x) u) (sym c.unlink-gone.ensures.ends) (leaves_backed f g es s c.args.line e c.self.invariant.sound c.self.invariant.backed lt c.index-ends.ensures u c.args.sought p gone c.before-before.ensures c.unlink-gone.ensures.unlinked c.cursor_without-cursor.result closed);
      marked = subst (λ (x : Ends). AreMarked (set es c.args.line x) u) (sym c.unlink-gone.ensures.ends) (subst (λ o. AreMarked (set es c.args.line (ends_after_leaving s p o e)) u) (sym c.cursor_without-cursor.ensures) (leaves_marked es s c.args.line e c.self.invariant.sound c.self.invariant.marked lt c.index-ends.ensures u c.args.sought p gone c.before-before.ensures c.unlink-gone.ensures.unlinked));
    }

pub returns-clause-lines : goal.returns-clause-lines
returns-clause-lines c =
    let es = c.self.inside.ends.items in
    let s = c.self.inside.nodes in
    let e = c.index-ends.result.now in
    let lt = within_lines es s c.self.inside.ends.cap (spare c.self.inside.befores) c.args.line c.args.self.now c.self.view_is c.requires.within in
    let left = middle_leaves es s c.args.line e c.self.invariant.sound lt c.index-ends.ensures c.unlink-gone.new.nodes c.cursor_without-cursor.result c.args.sought c.before-before.result c.unlink-gone.result.0 c.before-before.ensures c.unlink-gone.ensures.unlinked c.unlink-gone.ensures.len in
    leaves_first es s c.unlink-gone.new.nodes c.self.inside.ends.cap (spare c.self.inside.befores) c.args.line c.before-before.result c.cursor_without-cursor.result e c.args.sought c.unlink-gone.result.0 c.args.self.now _ c.self.invariant.sound lt c.index-ends.ensures c.self.view_is (ap (λ x. map (line_at c.unlink-gone.new.nodes) (set es c.args.line x)) c.unlink-gone.ensures.ends) left
