use Rattle.std.proofs.Common.{◌≡◌, ℕ, List, ◌+◌, ◌-◌, ◌≤◌, length, take, drop, subst, arith}
use Rattle.plain_laws.proofs.Lists.{slice_from}
use Rattle.hs_lex.specs.declared.literal.Meaning.{Meaning}
use Rattle.hs_lex.specs.declared.literal.Meaning.TheVariants as meaning
use Rattle.hs_lex.specs.Fronts.{IsClosedAt, MeansAll}
use Rattle.hs_lex.proofs.Pieces.{literal_front, wrong_front, wrong_within}
use Rattle.hs_lex.proofs.literal.literal.Goals as goal

closed : (rest : List ℕ) (len : ℕ) → IsClosedAt (take (length rest - 1) (drop 1 rest)) len → IsClosedAt (drop 1 rest) len
closed rest len h = subst (λ z. IsClosedAt z len) (slice_from rest 1) h

means : (rest : List ℕ) (len : ℕ) (m n : Meaning) → MeansAll (take len (take (length rest - 1) (drop 1 rest))) m → m ≡ n → MeansAll (take len (drop 1 rest)) n
means rest len m n h e = subst (MeansAll (take len (drop 1 rest))) e (subst (λ z. MeansAll (take len z) m) (slice_from rest 1) h)

pub overflow_add-result-in-Wrong : goal.overflow_add-result-in-Wrong
overflow_add-result-in-Wrong c =
    let within : c.in-Wrong.at + 1 ≤ length c.args.rest.now =
    wrong_within c.args.rest.now c.in-Some.len c.in-Wrong.at c.requires (closed c.args.rest.now c.in-Some.len c.in-Some.ensures)
    (means c.args.rest.now c.in-Some.len c.in_ok-text.field-0 (meaning.Wrong c.in-Wrong.at) c.in_ok-text.ensures c.in-Wrong.is) in
    omega arith

pub returns-in-Text : goal.returns-in-Text
returns-in-Text c =
    literal_front c.args.rest.now c.in-Some.len c.in-Text.text c.requires (closed c.args.rest.now c.in-Some.len c.in-Some.ensures)
    (means c.args.rest.now c.in-Some.len c.in_ok-text.field-0 (meaning.Text c.in-Text.text) c.in_ok-text.ensures c.in-Text.is)

pub returns-in-Wrong : goal.returns-in-Wrong
returns-in-Wrong c =
    wrong_front c.args.rest.now c.in-Some.len c.in-Wrong.at c.requires (closed c.args.rest.now c.in-Some.len c.in-Some.ensures)
    (means c.args.rest.now c.in-Some.len c.in_ok-text.field-0 (meaning.Wrong c.in-Wrong.at) c.in_ok-text.ensures c.in-Wrong.is)
