-- A line is written in three parts.
use Rattle.std.proofs.Common.{◌≡◌, ℕ, ◌+◌, List, ◌++◌, sym, ap, ◌∙◌, subst, append_assoc, codes}
use Rattle.trace_report.specs.declared.tally.counts.ThreadCounts.{ThreadCounts}
use Rattle.trace_report.specs.declared.tally.counts.CellCounts.{CellCounts}
use Rattle.trace_report.specs.tally.Reporting.{thread_head, thread_rest, thread_line, cell_head, cell_rest, cell_line}

three_parts : (old a b d w x y z : List ℕ) → x ≡ old ++ a → y ≡ x ++ b → z ≡ y ++ (w ++ d) → z ≡ old ++ (((a ++ b) ++ w) ++ d)
three_parts old a b d w x y z e f g =
    g ∙ (ap (λ v. v ++ (w ++ d)) (f ∙ (ap (λ v. v ++ b) e ∙ append_assoc old a b)) ∙ (append_assoc old (a ++ b) (w ++ d) ∙ ap (λ v. old ++ v) (sym (append_assoc (a ++ b) w d))))

pub thread_written : (old x y z : List ℕ) (t : ℕ) (k j : ThreadCounts) (word : List ℕ) → x ≡ old ++ thread_head t k.local → y ≡ x ++ thread_rest k.ops k.waits k.receives → z ≡ y ++ (word ++ codes "\n") → k ≡ j →
    z ≡ old ++ thread_line t j.local j.ops j.waits j.receives word
thread_written old x y z t k j word e f g same =
    subst (λ (v : ThreadCounts). z ≡ old ++ thread_line t v.local v.ops v.waits v.receives word) same (three_parts old (thread_head t k.local) (thread_rest k.ops k.waits k.receives) (codes "\n") word x y z e f g)

pub cell_written : (old x y z : List ℕ) (m full : ℕ) (k j : CellCounts) (word : List ℕ) → x ≡ old ++ cell_head m (k.out + full) → y ≡ x ++ cell_rest k.out k.waits k.longest → z ≡ y ++ (word ++ codes "\n") → k ≡ j →
    z ≡ old ++ cell_line m (j.out + full) j.out j.waits j.longest word
cell_written old x y z m full k j word e f g same =
    subst (λ (v : CellCounts). z ≡ old ++ cell_line m (v.out + full) v.out v.waits v.longest word) same (three_parts old (cell_head m (k.out + full)) (cell_rest k.out k.waits k.longest) (codes "\n") word x y z e f g)
