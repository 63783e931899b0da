use Rattle.std.proofs.Common.{ap, sym, ◌∙◌}
use Rattle.std.specs.Option.{unwrap_or}
use Rattle.hs_index.specs.Indexing.{first_among}
use Rattle.hs_core.proofs.Numbering.{among_is}
use Rattle.hs_core.proofs.defs.Defs.index.Goals as goal

pub returns : goal.returns
returns c =
    let names = c.args.self.now.actions in
    let f = c.args.f.now in
    c.unwrap_or.ensures ∙ (ap (λ k. unwrap_or k c.len-behind.result) (c.first.ensures names c.args.self.now.indexed) ∙ (ap (unwrap_or (first_among names f)) c.len-behind.ensures ∙ sym (among_is names f)))
