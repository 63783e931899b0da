-- Those who were answered since are those who waited to read.
use Rattle.std.proofs.Common.{◌≡◌, ◌++◌, List, length, drop, ap, ap₂, ◌∙◌, arith}
use Rattle.rules_waiting.specs.OneCell.{leave_line, readers, shown}
use Rattle.number_states.specs.waits.Places.{places, answers, threads_of}
use Rattle.number_states.specs.declared.waits.places.Reply.{Reply}
use Rattle.number_states.proofs.waits_lemmas.Served.{no_shorter, seen}
use Rattle.number_states.proofs.waits.lines.serve_readers.Goals as goal

pub split_at-requires : goal.split_at-requires
split_at-requires c =
    let old = c.args.replies.now in
    let h = no_shorter old.items c.show.new.replies.items _ c.in_ok-show.ensures in
    omega (arith, h, c.len-before.ensures ∙ old.ok.0, ap length c.as_slice-2.ensures.value)

pub returns-clause-line : goal.returns-clause-line
returns-clause-line c =
    let old = c.args.replies.now in
    let line = c.args.line.now.items in
    let size : c.len-before.result ≡ length old.items = c.len-before.ensures ∙ old.ok.0 in
    let shows : answers c.show.new.replies.items ≡ answers old.items ++ shown c.args.value (readers (places line)) =
    c.in_ok-show.ensures ∙ ap (λ ps. answers old.items ++ shown c.args.value (readers (places ps))) c.as_slice.ensures.value in
    let who = ap threads_of (c.split_at.ensures.back ∙ ap₂ (λ n (rs : List Reply). drop n rs) size c.as_slice-2.ensures.value) ∙ seen old.items c.show.new.replies.items c.args.value (readers (places line)) shows in
    c.leave_all.ensures ∙ ap (λ ts. leave_line ts (places line)) who
