use Rattle.std.proofs.Common.{arith, ltb, rules}
use Rattle.std.proofs.lemmas.List.Sorted.{IsPartitionPoint-from_clause, IsPartitionedBy-ltb}
use Rattle.state_search.specs.declared.found.Move.{Move}
use Rattle.conc_outcomes.proofs.finiteness_lemmas.Moves.{rise, lower, no_lower, within}
use Rattle.conc_outcomes.proofs.finiteness.walking.first_from.Goals as goal

pub returns-clause-before : goal.returns-clause-before
returns-clause-before c = λ k g is lt.
    let ms = c.args.moves.now in
    let parted = IsPartitionedBy-ltb (λ (m : Move). m.from) ms c.args.state (rise ms c.requires) in
    let point = IsPartitionPoint-from_clause (λ (m : Move). ltb m.from c.args.state) _ _ c.partition_point.ensures.partitioned parted (λ a r q h. search rules) in
    lower ms c.args.state k g (λ d. point.0 k d (omega arith) lt) is

pub returns-clause-behind : goal.returns-clause-behind
returns-clause-behind c = λ k g is le.
    let ms = c.args.moves.now in
    let parted = IsPartitionedBy-ltb (λ (m : Move). m.from) ms c.args.state (rise ms c.requires) in
    let point = IsPartitionPoint-from_clause (λ (m : Move). ltb m.from c.args.state) _ _ c.partition_point.ensures.partitioned parted (λ a r q h. search rules) in
    no_lower ms c.args.state k g (λ d. point.1 k d le (within ms k g is)) is
