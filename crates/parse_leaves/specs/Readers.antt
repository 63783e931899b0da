-- What a closure reads that is passed to a parser of what stands around it.
use Rattle.std.specs.Prelude.{ℕ, ◌<◌, length, OnOk, Result}
use Rattle.std.specs.Fn.{Shared}
use denote.Ref.{MutBor}
use Rattle.rules_grammar.specs.GrammarForms.{Rule}
use Rattle.hs_grammar.specs.Parser.{read, enter}
use Rattle.parse_leaves.specs.declared.cursor.Cursor.{Cursor}
use Rattle.parse_leaves.specs.declared.halt.Halt.{Halt}
use Rattle.parse_leaves.specs.Reads.{Reads}

-- Called with fewer than n levels left, f reads what the rule spells, of one token at least.
abbrev pub ReadsBelow : {F A : Type 0} → Shared F (MutBor Cursor × (ℕ × Unit {0})) (Result A Halt × (MutBor Cursor × Unit {0})) → F → Rule A → ℕ → Type 0
ReadsBelow {A = A} calls f p n =
    ((c : MutBor Cursor) (d : ℕ) → d < n → calls.pre f (c, (d, tt)))
    × ((c : MutBor Cursor) (d : ℕ) (r : Result A Halt) (c' : MutBor Cursor) → d < n → calls.post f (c, (d, tt)) (r, (c', tt)) → Reads (read (enter d) p c.now) r c'.now × OnOk r (length c'.now < length c.now))
