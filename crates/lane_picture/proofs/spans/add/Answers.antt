use Rattle.std.proofs.Common.{◌∷◌, [], true, false, append_assoc, ap, sym, ◌∙◌, vec_items, ◌+◌, ◌++◌}
use Rattle.lane_picture.specs.Marks.{span}
use Rattle.lane_picture.proofs.Columns.{extended}
use Rattle.lane_picture.proofs.spans.add.Goals as goal

pub returns-then-joins : goal.returns-then-joins
returns-then-joins c =
    let k = extended c.args.column c.args.look (vec_items c.args.spans.now) (vec_items c.pop.new.self) c.in-Some.last true c.in-Some.ensures.items (sym c.if-joins.true ∙ c.joins.ensures) in
    c.in_ok-push-2.ensures.items ∙ sym k

pub returns : goal.returns
returns c =
    let k = extended c.args.column c.args.look (vec_items c.args.spans.now) (vec_items c.pop.new.self) c.in-Some.last false c.in-Some.ensures.items (sym c.if-joins.false ∙ c.joins.ensures) in
    let next = span c.args.column (c.args.column + 1) c.args.look in
    c.in_ok-push-4.ensures.items ∙ (ap (λ z. z ++ next ∷ []) c.in_ok-push-3.ensures.items ∙ (append_assoc (vec_items c.pop.new.self) (c.in-Some.last ∷ []) (next ∷ []) ∙ sym k))
