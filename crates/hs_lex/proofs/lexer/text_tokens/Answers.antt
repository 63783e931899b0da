use Rattle.std.proofs.Common.{◌≡◌, ℕ, List, [], ◌∷◌, ◌++◌, ◌-◌, ◌<◌, length, take, drop, Result, Err, Some, refl, sym, ap, ◌∙◌, subst, arith}
use Rattle.std.specs.Prelude.{MatchOption, ⊤}
use Rattle.std.specs.Str.{encode_utf8_all}
use Rattle.plain_laws.proofs.Lists.{slice_from}
use Rattle.rules_tokens.specs.Tokens.{Outcome, Faulty, LexesTo}
use Rattle.rules_tokens.specs.declared.token.Tokens.{Tokens}
use Rattle.hs_lex.specs.declared.fault.LexFault.{LexFault}
use Rattle.hs_lex.specs.declared.front.Front.{Front}
use Rattle.hs_lex.specs.declared.front.Front.TheVariants as front
use Rattle.hs_lex.specs.Answers.{said, IsRight}
use Rattle.hs_lex.specs.Fronts.{StandsAt, fault_of}
use Rattle.hs_lex.proofs.Ends.{place_boundary, place_rest}
use Rattle.hs_lex.proofs.Streams.{IsReadTo, read_gap, read_token, read_fault, token_len}
use Rattle.hs_lex.proofs.lexer.text_tokens.Goals as goal

-- what was read from `&chars[n..]`
at_rest : (chars : List ℕ) (n : ℕ) (f g : Front) → StandsAt (take (length chars - n) (drop n chars)) f → f ≡ g → StandsAt (drop n chars) g
at_rest chars n f g h e = subst (StandsAt (drop n chars)) e (subst (λ z. StandsAt z f) (slice_from chars n) h)

fault_right : (text : List ℕ) (answer : Result Tokens LexFault) (o : Outcome) → said answer ≡ Some o → LexesTo text o → IsRight text answer
fault_right text answer o e h = subst (λ z. MatchOption z ⊤ (LexesTo text)) (sym e) h

pub range_from-requires : goal.range_from-requires
range_from-requires c positive = place_boundary c.args.text.now c.args.chars.now c.pieces.place c.utf8.text c.requires.same c.pieces.invariant.0

pub read_front-requires-clause-same : goal.read_front-requires-clause-same
read_front-requires-clause-same c =
    c.range_from.ensures.value ∙ (place_rest c.args.text.now c.args.chars.now c.pieces.place c.requires.same c.pieces.invariant.0 ∙ ap encode_utf8_all (sym (slice_from c.args.chars.now c.pieces.place.at)))

pub pieces-preserved-in-Gap : goal.pieces-preserved-in-Gap
pieces-preserved-in-Gap c = (
  c.past-place.ensures.place,
  subst (λ k. IsReadTo c.args.chars.now k c.pieces.list) (sym c.past-place.ensures.at)
      (read_gap c.args.chars.now c.pieces.place.at c.in-Gap.len c.pieces.list c.pieces.invariant.1 c.pieces.invariant.0.within (at_rest c.args.chars.now c.pieces.place.at c.in_ok-len.field-0 (front.Gap c.in-Gap.len) c.in_ok-len.ensures c.in-Gap.is)),
)

pub pieces-smaller : goal.pieces-smaller
pieces-smaller c =
    let some : 0 < c.in-Token.len = token_len (drop c.pieces.place.at c.args.chars.now) c.in-Token.len c.in-Token.tok (at_rest c.args.chars.now c.pieces.place.at c.in_ok-len.field-0 (front.Token c.in-Token.len c.in-Token.tok) c.in_ok-len.ensures c.in-Token.is) in
    omega (arith, c.past-end.ensures.at, c.pieces-test.true)

pub pieces-preserved : goal.pieces-preserved
pieces-preserved c = (
  c.past-end.ensures.place,
  subst (IsReadTo c.args.chars.now c.past-end.result.at) (ap (λ z. c.pieces.list ++ z ∷ []) (sym c.token.ensures) ∙ sym c.in_ok-add-in-Token.ensures.ok)
      (subst (λ k. IsReadTo c.args.chars.now k (c.pieces.list ++ record { tok = c.in-Token.tok; start = c.pieces.place.byte; end = c.past-end.result.byte; pos = c.pieces.place.pos } ∷ [])) (sym c.past-end.ensures.at)
      (read_token c.args.chars.now c.pieces.place.at c.in-Token.len c.pieces.list c.in-Token.tok c.pieces.place c.past-end.result c.pieces.invariant.1 c.pieces.invariant.0 refl c.past-end.ensures.place c.past-end.ensures.at
      (at_rest c.args.chars.now c.pieces.place.at c.in_ok-len.field-0 (front.Token c.in-Token.len c.in-Token.tok) c.in_ok-len.ensures c.in-Token.is))),
)

pub returns-in-Wrong : goal.returns-in-Wrong
returns-in-Wrong c =
    fault_right c.args.text.now (Err c.fault_at.result) (Faulty (fault_of c.in-Wrong.flaw) c.past.result.pos) c.fault_at.ensures
    (read_fault c.args.text.now c.args.chars.now c.pieces.place.at c.in-Wrong.len c.pieces.list c.in-Wrong.flaw c.past.result c.requires.same c.pieces.invariant.1 c.pieces.invariant.0.within c.past.ensures.place c.past.ensures.at
    (at_rest c.args.chars.now c.pieces.place.at c.in_ok-len.field-0 (front.Wrong c.in-Wrong.flaw c.in-Wrong.len) c.in_ok-len.ensures c.in-Wrong.is))
