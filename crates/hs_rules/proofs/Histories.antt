-- Steps of histories.
use Rattle.std.proofs.Common.{◌≡◌, ◌+◌, List, [], ◌∷◌, ◌++◌, sym, ap, ◌∙◌, add_assoc, zero-add, arith}
use Rattle.hs_rules.specs.declared.entry.Entry.{Entry}
use Rattle.hs_rules.specs.Histories.{cost_of, steps_of}

-- the steps of a history that goes on
pub steps_of_append : (es fs : List Entry) → steps_of (es ++ fs) ≡ steps_of es + steps_of fs
steps_of_append [] fs = sym (zero-add (steps_of fs))
steps_of_append (e ∷ es) fs = ap (λ n. cost_of e + n) (steps_of_append es fs) ∙ sym (add_assoc (cost_of e) (steps_of es) (steps_of fs))

-- the steps of a history with one entry more
pub steps_of_last : (es : List Entry) (e : Entry) → steps_of (es ++ e ∷ []) ≡ steps_of es + cost_of e
steps_of_last es e = steps_of_append es (e ∷ []) ∙ ap (λ n. steps_of es + n) (omega arith)
