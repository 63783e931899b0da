-- A node is added behind the last of its line.
use Rattle.std.proofs.Common.{◌≡◌, [], ◌∷◌, ◌++◌, ◌-◌, suc, arith, sym, ap, ◌∙◌, subst, IsSome, nat_eq, refl}
use Rattle.std.specs.HashMap.{get, spare}
use Rattle.rules_waiting.specs.OneCell.{stands_in}
use Rattle.mvar_cell.specs.Lined.{Lined, line_of}
use Rattle.mvar_cell.specs.Nodes.{place, places, place_of}
use Rattle.mvar_cell.proofs.Writes.{first_joins, later_joins, last_after, len_within, within_lines, joined_lines, line_length}
use Rattle.mvar_cell.proofs.Backing.{joins_first, joins_later}
use Rattle.mvar_cell.proofs.Cursors.{joins_first_marked, joins_later_marked}
use Rattle.mvar_cell.proofs.lines.Lines.join.Goals as goal

pub invariant_of-self : goal.invariant_of-self
invariant_of-self c =
    let lt = within_lines c.self.inside.ends.items c.self.inside.nodes c.self.inside.ends.cap (spare c.self.inside.befores) c.args.line c.args.self.now c.self.view_is c.requires.within in
    let f = get nat_eq c.self.inside.befores in
    record {
      sound = (first_joins c.self.inside.ends.items c.self.inside.nodes c.insert_reserved-key.new.self c.args.line c.index-ends.result.now c.insert_reserved-key.result _ c.self.invariant.sound lt c.index-ends.ensures c.if-ends-eq0.true c.insert_reserved-key.ensures.was_vacant c.insert_reserved-key.ensures.updates refl c.insert_reserved-key.ensures.len).sound;
      backed = joins_first f c.self.inside.ends.items c.self.inside.nodes c.insert_reserved-key.new.self c.args.line c.insert_reserved-key.result _ c.self.invariant.sound c.self.invariant.backed lt c.insert_reserved-key.ensures.was_vacant c.insert_reserved-key.ensures.updates;
      marked = joins_first_marked c.self.inside.ends.items c.self.inside.nodes c.insert_reserved-key.new.self c.args.line c.insert_reserved-key.result _ c.self.invariant.sound c.self.invariant.marked lt c.insert_reserved-key.ensures.was_vacant c.insert_reserved-key.ensures.updates;
    }

pub link-requires : goal.link-requires
link-requires c =
    let lt = within_lines c.self.inside.ends.items c.self.inside.nodes c.self.inside.ends.cap (spare c.self.inside.befores) c.args.line c.args.self.now c.self.view_is c.requires.within in
    let q : c.index-ends.result.now.len ≡ suc (c.index-ends.result.now.len - 1) = omega (arith, c.if-ends-eq0.false) in
    subst IsSome (sym (last_after c.self.inside.ends.items c.self.inside.nodes c.args.line c.index-ends.result.now c.self.invariant.sound lt c.index-ends.ensures (c.index-ends.result.now.len - 1) c.insert_reserved-key.result c.insert_reserved-key.new.self _ q c.insert_reserved-key.ensures.was_vacant c.insert_reserved-key.ensures.updates).2) refl

pub overflow_add-ends : goal.overflow_add-ends
overflow_add-ends c =
    let lt = within_lines c.self.inside.ends.items c.self.inside.nodes c.self.inside.ends.cap (spare c.self.inside.befores) c.args.line c.args.self.now c.self.view_is c.requires.within in
    let short = len_within c.self.inside.ends.items c.self.inside.nodes c.args.line c.index-ends.result.now c.self.invariant.sound lt in
    let size = ap (λ x. x.len) c.index-ends.ensures in
    omega (arith, short, size, c.len.type_inv, c.len.ensures, c.link.ensures.len, c.insert_reserved-key.ensures.len)

pub invariant_of-self-else-ends-eq0 : goal.invariant_of-self-else-ends-eq0
invariant_of-self-else-ends-eq0 c =
    let lt = within_lines c.self.inside.ends.items c.self.inside.nodes c.self.inside.ends.cap (spare c.self.inside.befores) c.args.line c.args.self.now c.self.view_is c.requires.within in
    let q : c.index-ends.result.now.len ≡ suc (c.index-ends.result.now.len - 1) = omega (arith, c.if-ends-eq0.false) in
    let f = get nat_eq c.self.inside.befores in
    record {
      sound = (later_joins c.self.inside.ends.items c.self.inside.nodes c.args.line c.index-ends.result.now c.self.invariant.sound lt c.index-ends.ensures c.insert_reserved-key.new.self c.link.new.nodes (c.index-ends.result.now.len - 1) c.insert_reserved-key.result _ q c.insert_reserved-key.ensures.was_vacant c.insert_reserved-key.ensures.updates c.link.ensures.linked refl (c.link.ensures.len ∙ c.insert_reserved-key.ensures.len)).after.sound;
      backed = joins_later f (get nat_eq c.put.new.befores) c.self.inside.ends.items c.self.inside.nodes c.args.line c.index-ends.result.now c.self.invariant.sound c.self.invariant.backed lt c.index-ends.ensures c.insert_reserved-key.new.self c.link.new.nodes (c.index-ends.result.now.len - 1) c.insert_reserved-key.result _ q c.insert_reserved-key.ensures.was_vacant c.insert_reserved-key.ensures.updates c.link.ensures.linked refl c.put.ensures.key
          (λ k. ap (λ (x : Lined). stands_in c.args.thread (line_of x k)) c.self.view_is ∙ c.requires.alone k);
      marked = joins_later_marked c.self.inside.ends.items c.self.inside.nodes c.args.line c.index-ends.result.now c.self.invariant.sound c.self.invariant.marked lt c.index-ends.ensures c.insert_reserved-key.new.self c.link.new.nodes (c.index-ends.result.now.len - 1) c.insert_reserved-key.result _ q c.insert_reserved-key.ensures.was_vacant c.insert_reserved-key.ensures.updates c.link.ensures.linked refl;
    }

pub returns-then-ends-eq0-clause-lines : goal.returns-then-ends-eq0-clause-lines
returns-then-ends-eq0-clause-lines c =
    let lt = within_lines c.self.inside.ends.items c.self.inside.nodes c.self.inside.ends.cap (spare c.self.inside.befores) c.args.line c.args.self.now c.self.view_is c.requires.within in
    let joins = first_joins c.self.inside.ends.items c.self.inside.nodes c.insert_reserved-key.new.self c.args.line c.index-ends.result.now c.insert_reserved-key.result _ c.self.invariant.sound lt c.index-ends.ensures c.if-ends-eq0.true c.insert_reserved-key.ensures.was_vacant c.insert_reserved-key.ensures.updates refl c.insert_reserved-key.ensures.len in
    let none = ap (λ n. places c.self.inside.nodes n c.index-ends.result.now.first) c.if-ends-eq0.true in
    rw (← c.self.view_is) (joined_lines _ _ _ _ c.index-ends.result.now _ _ lt c.index-ends.ensures joins (ap (λ o. place_of o ∷ []) c.insert_reserved-key.ensures.updates.changed ∙ ap (λ ps. ps ++ place c.args.thread c.args.want ∷ []) (sym none)))

pub returns-else-ends-eq0-clause-lines : goal.returns-else-ends-eq0-clause-lines
returns-else-ends-eq0-clause-lines c =
    let lt = within_lines c.self.inside.ends.items c.self.inside.nodes c.self.inside.ends.cap (spare c.self.inside.befores) c.args.line c.args.self.now c.self.view_is c.requires.within in
    let q : c.index-ends.result.now.len ≡ suc (c.index-ends.result.now.len - 1) = omega (arith, c.if-ends-eq0.false) in
    let joins = later_joins c.self.inside.ends.items c.self.inside.nodes c.args.line c.index-ends.result.now c.self.invariant.sound lt c.index-ends.ensures c.insert_reserved-key.new.self c.link.new.nodes (c.index-ends.result.now.len - 1) c.insert_reserved-key.result _ q c.insert_reserved-key.ensures.was_vacant c.insert_reserved-key.ensures.updates c.link.ensures.linked refl (c.link.ensures.len ∙ c.insert_reserved-key.ensures.len) in
    rw (← c.self.view_is) (joined_lines _ _ _ _ c.index-ends.result.now _ _ lt c.index-ends.ensures joins.after joins.line)

pub returns-else-ends-eq0-clause-short : goal.returns-else-ends-eq0-clause-short
returns-else-ends-eq0-clause-short c =
    let lt = within_lines c.self.inside.ends.items c.self.inside.nodes c.self.inside.ends.cap (spare c.self.inside.befores) c.args.line c.args.self.now c.self.view_is c.requires.within in
    let short = len_within c.self.inside.ends.items c.self.inside.nodes c.args.line c.index-ends.result.now c.self.invariant.sound lt in
    let size = ap (λ x. x.len) c.index-ends.ensures in
    let long = line_length c.self.inside.ends.items c.self.inside.nodes c.self.inside.ends.cap (spare c.self.inside.befores) c.args.line c.index-ends.result.now c.args.self.now c.self.view_is lt c.index-ends.ensures in
    omega (arith, long, short, size, c.len.type_inv, c.len.ensures, c.link.ensures.len, c.insert_reserved-key.ensures.len)
