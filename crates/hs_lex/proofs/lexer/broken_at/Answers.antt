use Rattle.std.proofs.Common.{◌≡◌, ℕ, List, take, Result, Ok, Err}
use Rattle.std.specs.Prelude.{IfOk}
use Rattle.std.specs.Str.{IsValidUpTo}
use Rattle.hs_base.specs.declared.no_memory.NoMemory.{NoMemory}
use Rattle.hs_base.specs.declared.pos.Pos.{Pos}
use Rattle.rules_tokens.specs.Tokens.{IsTextOf, IsNoText, position_after}
use Rattle.hs_lex.proofs.Ends.{no_text_at}
use Rattle.hs_lex.proofs.lexer.broken_at.Goals as goal

ends : (answer : Result Pos NoMemory) (bytes text : List ℕ) (n : ℕ) → IsValidUpTo bytes n → text ≡ take n bytes → IfOk answer (λ pos. (cs : List ℕ) × IsTextOf text cs × (pos ≡ position_after cs)) → IfOk answer (IsNoText bytes)
ends (Ok pos) bytes text n valid front h = no_text_at bytes text n pos valid front h
ends (Err e) bytes text n valid front h = tt

pub returns : goal.returns
returns c = ends c.end_of.result c.args.bytes.now c.in-Ok.text.now c.args.valid c.requires.valid c.in-Ok.ensures.cases.0 c.end_of.ensures
