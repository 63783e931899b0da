use Rattle.std.proofs.Common.{◌≡◌, ◌≤◌, length, take, drop, ◌-◌, subst, sym, ap, ◌∙◌, arith, length-drop}
use Rattle.std.specs.Prelude.{not}
use Rattle.std.specs.List.{position}
use Rattle.std.specs.Option.{unwrap_or}
use Rattle.plain_laws.proofs.Lists.{slice_from}
use Rattle.rules_tokens.specs.Tokens.{is_line_feed}
use Rattle.hs_lex.proofs.Runs.{IsRun, run_until, run_length}
use Rattle.hs_lex.proofs.Pieces.{comment_front, two_within}
use Rattle.hs_lex.proofs.gaps.comment.Goals as goal

-- how far the line goes
line : (c : goal.After-unwrap_or) → IsRun (λ x. not (is_line_feed x)) (drop 2 c.args.rest.now) c.unwrap_or.result
line c =
    let body = drop 2 c.args.rest.now in
    let same = slice_from c.args.rest.now 2 in
    let found : c.line_end.result ≡ position is_line_feed body = c.line_end.ensures ∙ ap (position is_line_feed) same in
    let len : c.unwrap_or.result ≡ unwrap_or (position is_line_feed body) (length body) =
    c.unwrap_or.ensures ∙ (ap (λ z. unwrap_or z (length (take (length c.args.rest.now - 2) body))) found ∙ ap (λ z. unwrap_or (position is_line_feed body) (length z)) same) in
    subst (IsRun (λ x. not (is_line_feed x)) body) (sym len) (run_until is_line_feed body)

pub overflow_add-result : goal.overflow_add-result
overflow_add-result c =
    let within : c.unwrap_or.result ≤ length (drop 2 c.args.rest.now) = run_length (λ x. not (is_line_feed x)) (drop 2 c.args.rest.now) c.unwrap_or.result (line c) in
    let two : 2 ≤ length c.args.rest.now = two_within c.args.rest.now c.requires in
    omega (arith, length-drop 2 c.args.rest.now)

pub returns : goal.returns
returns c = comment_front c.args.rest.now c.unwrap_or.result c.requires (line c)
