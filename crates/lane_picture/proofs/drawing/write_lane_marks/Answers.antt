use Rattle.std.proofs.Common.{◌++◌, append_assoc, ap, sym, ◌∙◌, string_bytes, map, take, get_or}
use Rattle.std.specs.List.{flat_map}
use Rattle.hs_base.specs.declared.mask.Mask.TheVariants.{Unmasked}
use Rattle.lane_picture.specs.declared.film.Doing.TheVariants.{Running}
use Rattle.lane_picture.specs.declared.film.Look.TheVariants as look
use Rattle.lane_picture.specs.declared.spans.Span.{Span}
use Rattle.lane_picture.specs.Marks.{span, span_mark}
use Rattle.lane_picture.specs.Shapes.{spelled}
use Rattle.lane_picture.proofs.Joining.{each_on}
use Rattle.lane_picture.proofs.drawing.write_lane_marks.Goals as goal

pub loop-span-preserved : goal.loop-span-preserved
loop-span-preserved c =
    let f = spelled c.args.grid in
    let g = span_mark c.args.lane in
    let items = c.deref-span-items.result.now in
    let i = c.loop-span.span-index in
    let none : Span = span 0 0 (look.Thread (record { doing = Running; mask = Unmasked })) in
    c.in_ok-write_span.ensures
    ∙ (ap (λ z. z ++ f (g (get_or items i none))) c.loop-span.invariant
    ∙ (append_assoc (string_bytes c.args.text.now) (flat_map f (map g (take i items))) (f (g (get_or items i none)))
    ∙ ap (λ z. string_bytes c.args.text.now ++ z) (sym (each_on f g items i none c.loop-span-test.true))))
