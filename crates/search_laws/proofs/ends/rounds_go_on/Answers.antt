use Rattle.rules_code.specs.CodeTrees.{code_trees}
use Rattle.rules_expansion.specs.trees.Programs.{script_of}
use Rattle.search_laws.proofs.ends_lemmas.Going.{goes_for_ever}
use Rattle.search_laws.proofs.ends_lemmas.Rounding.{has_work, round_works}
use Rattle.search_laws.proofs.ends.rounds_go_on.Goals as goal

pub returns-clause-works : goal.returns-clause-works
returns-clause-works c = λ script accepted clock limits states edges t at places h. has_work edges at places at h.1 (round_works (code_trees (script_of script)) clock limits states edges t at places h)

pub returns-clause-endless : goal.returns-clause-endless
returns-clause-endless c =
    λ script accepted clock limits states edges t at places h.
    goes_for_ever script accepted limits clock states edges t at places h.1 (round_works (code_trees (script_of script)) clock limits states edges t at places h)
