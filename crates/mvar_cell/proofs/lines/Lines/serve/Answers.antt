-- The first node leaves its line.
use Rattle.std.proofs.Common.{◌≡◌, ◌-◌, suc, arith, nat_eq, set, sym, subst}
use Rattle.std.specs.HashMap.{get, spare}
use Rattle.mvar_cell.proofs.Writes.{first_leaves, within_lines, served_line, After-lines}
use Rattle.mvar_cell.proofs.Backing.{served_next, serves_backed}
use Rattle.mvar_cell.proofs.Cursors.{serves_marked}
use Rattle.mvar_cell.specs.Cursors.{AreMarked}
use Rattle.mvar_cell.proofs.lines.Lines.serve.Goals as goal

pub begin-requires : goal.begin-requires
begin-requires c =
    let lt = within_lines c.self.inside.ends.items c.self.inside.nodes c.self.inside.ends.cap (spare c.self.inside.befores) c.args.line c.args.self.now c.self.view_is c.requires in
    let q : c.index-ends.result.now.len ≡ suc (c.index-ends.result.now.len - 1) = omega (arith, c.if-ends-eq0.false) in
    let f = get nat_eq c.self.inside.befores in
    served_next f f c.self.inside.ends.items c.self.inside.nodes c.args.line c.index-ends.result.now c.self.invariant.sound c.self.invariant.backed lt c.index-ends.ensures c.remove-thread.new.self (c.index-ends.result.now.len - 1) _ q c.remove-thread.ensures.value c.remove-thread.ensures.updates

pub invariant_of-self : goal.invariant_of-self
invariant_of-self c =
    let lt = within_lines c.self.inside.ends.items c.self.inside.nodes c.self.inside.ends.cap (spare c.self.inside.befores) c.args.line c.args.self.now c.self.view_is c.requires in
    let q : c.index-ends.result.now.len ≡ suc (c.index-ends.result.now.len - 1) = omega (arith, c.if-ends-eq0.false) in
    record {
      sound = (first_leaves _ _ _ _ c.self.invariant.sound lt c.index-ends.ensures _ c.moved.result _ _ q c.remove-thread.ensures.value c.remove-thread.ensures.updates c.remove-thread.ensures.len).0.sound;
      backed = serves_backed (get nat_eq c.self.inside.befores) (get nat_eq c.begin.new.befores) c.self.inside.ends.items c.self.inside.nodes c.args.line c.index-ends.result.now c.self.invariant.sound c.self.invariant.backed lt c.index-ends.ensures c.remove-thread.new.self c.moved.result (c.index-ends.result.now.len - 1) _ q c.remove-thread.ensures.value c.remove-thread.ensures.updates c.begin.ensures.first;
      marked = subst (λ o. AreMarked (set c.self.inside.ends.items c.args.line (record { first = c.remove-thread.result.next; last = c.index-ends.result.now.last; len = c.index-ends.result.now.len - 1; cursor = o })) c.remove-thread.new.self) (sym c.moved.ensures) (serves_marked c.self.inside.ends.items c.self.inside.nodes c.args.line c.index-ends.result.now c.self.invariant.sound c.self.invariant.marked lt c.index-ends.ensures c.remove-thread.new.self (c.index-ends.result.now.len - 1) _ q c.remove-thread.ensures.value c.remove-thread.ensures.updates);
    }

pub returns-clause-served : goal.returns-clause-served
returns-clause-served c =
    let lt = within_lines c.self.inside.ends.items c.self.inside.nodes c.self.inside.ends.cap (spare c.self.inside.befores) c.args.line c.args.self.now c.self.view_is c.requires in
    let q : c.index-ends.result.now.len ≡ suc (c.index-ends.result.now.len - 1) = omega (arith, c.if-ends-eq0.false) in
    let leaves = first_leaves _ _ _ _ c.self.invariant.sound lt c.index-ends.ensures _ c.moved.result _ _ q c.remove-thread.ensures.value c.remove-thread.ensures.updates c.remove-thread.ensures.len in
    rw (← c.self.view_is) (served_line c.self.inside.ends.items c.self.inside.nodes c.remove-thread.new.self c.args.line c.index-ends.result.now (record { first = c.remove-thread.result.next; last = c.index-ends.result.now.last; len = c.index-ends.result.now.len - 1; cursor = c.moved.result }) _ lt c.index-ends.ensures leaves.1)

pub returns-clause-lines : goal.returns-clause-lines
returns-clause-lines c =
    let lt = within_lines c.self.inside.ends.items c.self.inside.nodes c.self.inside.ends.cap (spare c.self.inside.befores) c.args.line c.args.self.now c.self.view_is c.requires in
    let q : c.index-ends.result.now.len ≡ suc (c.index-ends.result.now.len - 1) = omega (arith, c.if-ends-eq0.false) in
    let leaves = first_leaves _ _ _ _ c.self.invariant.sound lt c.index-ends.ensures _ c.moved.result _ _ q c.remove-thread.ensures.value c.remove-thread.ensures.updates c.remove-thread.ensures.len in
    rw (← c.self.view_is) (After-lines _ _ _ _ _ lt leaves.0)
