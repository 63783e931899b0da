-- When two outcomes of the parser are the same answer (own).
use Rattle.std.specs.Prelude.{◌≡◌}
use Rattle.hs_base.specs.declared.tree.script.Script.{Script}
use Rattle.hs_grammar.specs.Parser.{Out, Done, Stop}

-- the same script, or a stop for the same reason at the same token
abbrev pub SameAnswer : Out Script → Out Script → Type 0
SameAnswer (Done x r) (Done y s) = x ≡ y
SameAnswer (Done x r) (Stop w c) = ⊥
SameAnswer (Stop v b) (Done y s) = ⊥
SameAnswer (Stop v b) (Stop w c) = (v ≡ w) × (b ≡ c)
