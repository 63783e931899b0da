-- Steps behind a part whose rule a proof opens: a repetition, what stands in an opener, and a `;` that may be left out.
use Rattle.std.proofs.Common.{List, [], ◌∷◌, ℕ, Result, Ok, Err}
use Rattle.rules_tokens.specs.declared.token.Token.{Token}
use Rattle.rules_grammar.specs.Grammar as g
use Rattle.rules_grammar.specs.GrammarForms.{Rule, within}
use Rattle.rules_grammar.specs.GrammarKinds as k
use Rattle.rules_grammar.specs.GrammarParts.{TokenKind, OpenerPart}
use Rattle.hs_grammar.specs.Parser.{firsts, may_be_empty, begins, Parser, bind, done, choose, take, loop, another, read_then, read, enter}
use Rattle.parse_leaves.specs.declared.halt.Halt.{Halt}
use Rattle.parse_leaves.specs.Reads.{Reads, many_of}
use Rattle.parse_leaves.proofs.Steps.{call_ok, call_err}

-- a repetition
pub many_ok : {A R : Type 0} (n : ℕ) (p : Rule A) (κ : List A → Parser R) (ts mid new : List Token) (a : List A) (r : Result R Halt) → Reads (many_of n p ts) (Ok a) mid → Reads (κ a mid) r new → Reads (bind (loop (another (firsts p) (read_then (enter n) p done)) ts) (λ x. κ x.0)) r new
unfolding read_then
many_ok n p κ ts mid new a r h i = call_ok (enter n) (g.many p) κ ts mid new a r h i

pub many_err : {A R : Type 0} (n : ℕ) (p : Rule A) (κ : List A → Parser R) (ts mid new : List Token) (e : Halt) → Reads (many_of n p ts) (Err e) mid → Reads (bind (loop (another (firsts p) (read_then (enter n) p done)) ts) (λ x. κ x.0)) (Err e) new
unfolding read_then
many_err n p κ ts mid new e h = call_err (enter n) (g.many p) κ ts mid new e h

-- what stands in an opener, handed on as it is
pub opener_ok : {B R : Type 0} (n : ℕ) (k : TokenKind) (part : OpenerPart B) (κ : B → Parser R) (ts mid new : List Token) (a : B) (r : Result R Halt) → Reads (read (enter n) (within (λ p b. b) k part) ts) (Ok a) mid → Reads (κ a mid) r new → Reads (take k (λ t us. bind (enter n B part t us) κ) ts) r new
unfolding read_then
opener_ok n k part κ ts mid new a r h i = call_ok (enter n) (within (λ p b. b) k part) κ ts mid new a r h i

pub opener_err : {B R : Type 0} (n : ℕ) (k : TokenKind) (part : OpenerPart B) (κ : B → Parser R) (ts mid new : List Token) (e : Halt) → Reads (read (enter n) (within (λ p b. b) k part) ts) (Err e) mid → Reads (take k (λ t us. bind (enter n B part t us) κ) ts) (Err e) new
unfolding read_then
opener_err n k part κ ts mid new e h = call_err (enter n) (within (λ p b. b) k part) κ ts mid new e h

-- a `;` that may be left out
pub semicolon_ok : {R : Type 0} (n : ℕ) (κ : Parser R) (ts mid new : List Token) (a : Unit {0}) (r : Result R Halt) → Reads (read (enter n) g.optional_semicolon ts) (Ok a) mid → Reads (κ mid) r new → Reads (choose (begins (k.semicolon ∷ []) ts) (take k.semicolon (λ t. κ)) κ ts) r new
unfolding firsts may_be_empty read_then
semicolon_ok n κ ts mid new a r h i = call_ok (enter n) g.optional_semicolon (λ u. κ) ts mid new a r h i

pub semicolon_err : {R : Type 0} (n : ℕ) (κ : Parser R) (ts mid new : List Token) (e : Halt) → Reads {A = Unit {0}} (read (enter n) g.optional_semicolon ts) (Err e) mid → Reads (choose (begins (k.semicolon ∷ []) ts) (take k.semicolon (λ t. κ)) κ ts) (Err e) new
unfolding firsts may_be_empty read_then
semicolon_err n κ ts mid new e h = call_err (enter n) g.optional_semicolon (λ u. κ) ts mid new e h

-- the steps of a chain in which such a part stands
pub ruleset part_steps = (many_ok, many_err, opener_ok, opener_err, semicolon_ok, semicolon_err)
