use Rattle.std.proofs.Common.{◌≡◌, ◌∙◌, string_bytes, arith}
use Rattle.std.proofs.lemmas.Map.Text.{text_keys}
use Rattle.hs_index.proofs.index.put_first.Goals as goal

-- the key has the name's bytes
pub returns-in-Ok-clause-ok : goal.returns-in-Ok-clause-ok
returns-in-Ok-clause-ok c = λ x.
    let same : string_bytes c.in_ok-name.name ≡ c.args.name.now = c.in_ok-name.ensures.ok ∙ c.as_str.ensures in
    grind (arith, text_keys)
