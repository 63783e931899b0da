-- A line has as many places as its chain of nodes is long.
use Rattle.std.proofs.Common.{◌≡◌, ℕ, zero, suc, [], List, length, refl, ap, sym, ◌<◌, ◌∙◌, map, get_or, arith}
use Rattle.std.proofs.lemmas.List.{get_or-map, length-map}
use Rattle.slab.specs.Slab.{Slab, get}
use Rattle.rules_waiting.specs.OneCell.{Place}
use Rattle.hs_base.specs.declared.value.Value.{Value}
use Rattle.mvar_cell.specs.declared.lines.LineNode.{LineNode}
use Rattle.mvar_cell.specs.declared.lines.Ends.{Ends}
use Rattle.mvar_cell.specs.Lined.{Lined}
use Rattle.mvar_cell.specs.Nodes.{places, next_of, line_at}
use Rattle.mvar_cell.proofs.lines.Lines.waiting.Goals as goal

places-length : (s : Slab LineNode) (n i : ℕ) → length (places s n i) ≡ n
places-length s zero i = refl
places-length s (suc n) i = ap suc (places-length s n (next_of (get s i)))

pub returns : goal.returns
returns c =
    let es = c.self.inside.ends.items in
    let s = c.self.inside.nodes in
    let e = c.index.result.now in
    let seen : map (line_at s) es ≡ c.args.self.now.lines = ap (λ (x : Lined). x.lines) c.self.view_is in
    let n = ap (λ (ls : List (List (Place Value))). length ls) seen in
    let within : c.args.line < length es = omega (arith, n, length-map es (line_at s), c.requires) in
    let at = get_or-map (line_at s) es c.args.line e [] within in
    ap (λ (x : Ends). x.len) c.index.ensures
    ∙ sym (places-length s (get_or es c.args.line e).len (get_or es c.args.line e).first)
    ∙ ap (λ (ps : List (Place Value)). length ps) (sym at)
    ∙ ap (λ (ls : List (List (Place Value))). length (get_or ls c.args.line [])) seen
