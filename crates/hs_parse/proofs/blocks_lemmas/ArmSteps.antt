-- Steps of the actions that choose: `if`, `case` and its arms.
use Rattle.std.proofs.Common.{◌≡◌, ℕ, List, [], Result, Ok, Err, refl}
use Rattle.hs_base.specs.declared.pos.Pos.{Pos}
use Rattle.hs_base.specs.declared.tree.action.Block.{Block}
use Rattle.hs_base.specs.declared.tree.action.BlockArms.{BlockArms}
use Rattle.hs_base.specs.declared.tree.expr.Expr.{Expr}
use Rattle.rules_tokens.specs.declared.token.Token.{Token}
use Rattle.rules_grammar.specs.Grammar.{rule_of}
use Rattle.rules_grammar.specs.GrammarForms.{Rule, within}
use Rattle.rules_grammar.specs.GrammarParts.{block_if, block_case, block_arms}
use Rattle.hs_grammar.specs.Parser.{Done, Parser, done, take, read, read_then, enter}
use Rattle.parse_leaves.specs.declared.halt.Halt.{Halt}
use Rattle.parse_leaves.specs.Reads.{Reads}
use Rattle.parse_leaves.proofs.Steps.{take_ok, call_ok, call_err, reads_done}
use Rattle.hs_base.specs.declared.tree.action.Action.TheVariants as a
use Rattle.rules_grammar.specs.Grammar as g
use Rattle.rules_grammar.specs.GrammarKinds as k
use Rattle.hs_parse.specs.blocks.Blocks.{branches, arms_behind_of}

-- one part, and another behind it
module _ {A B C : Type 0} (n : ℕ) (p : Rule B) (q : Rule C) (f : B → C → A) where
  abbrev both_of : Parser A
  both_of = read_then (enter n) p (λ b. read_then (enter n) q (λ c. done (f b c)))

  both_ok : (ts mid new : List Token) (b : B) (c : C) (r : Result A Halt) → Reads (read (enter n) p ts) (Ok b) mid → Reads (read (enter n) q mid) (Ok c) new → Reads (Done (f b c) []) r [] → Reads (both_of ts) r new
  both_ok ts mid new b c r h i d = call_ok (enter n) p (λ b. read_then (enter n) q (λ c. done (f b c))) ts mid new b r h (call_ok (enter n) q (λ c. done (f b c)) mid new new c r i (reads_done (f b c) r new d))

  both_err : (ts mid o new : List Token) (b : B) (e : Halt) → Reads (read (enter n) p ts) (Ok b) mid → Reads {A = C} (read (enter n) q mid) (Err e) o → Reads (both_of ts) (Err e) new
  both_err ts mid o new b e h i = call_ok (enter n) p (λ b. read_then (enter n) q (λ c. done (f b c))) ts mid new b (Err e) h (call_err {A = C} (enter n) q (λ c. done (f b c)) mid o new e i)

pub if_all : (n : ℕ) (ts mid new : List Token) (b : Expr) (c : Block × Block) (r : Result (Expr × Block × Block) Halt) → Reads (read (enter n) g.expr ts) (Ok b) mid → Reads (read (enter n) branches mid) (Ok c) new → Reads {A = Expr × Block × Block} (Done (b, c.0, c.1) []) r [] → Reads (read (enter n) (rule_of block_if) ts) r new
unfolding read_then rule_of
if_all n ts mid new b c r h i d = both_ok n g.expr branches (λ b c. (b, c.0, c.1)) ts mid new b c r h i d

pub if_branches : (n : ℕ) (ts mid o new : List Token) (b : Expr) (e : Halt) → Reads (read (enter n) g.expr ts) (Ok b) mid → Reads {A = Block × Block} (read (enter n) branches mid) (Err e) o → Reads {A = Expr × Block × Block} (read (enter n) (rule_of block_if) ts) (Err e) new
unfolding read_then rule_of
if_branches n ts mid o new b e h i = both_err n g.expr branches (λ b c. (b, c.0, c.1)) ts mid o new b e h i

pub if_test : (n : ℕ) (ts mid new : List Token) (e : Halt) → Reads {A = Expr} (read (enter n) g.expr ts) (Err e) mid → Reads {A = Expr × Block × Block} (read (enter n) (rule_of block_if) ts) (Err e) new
unfolding read_then rule_of
if_test n ts mid new e h = call_err {A = Expr} (enter n) g.expr (λ x. read_then (enter n) branches (λ c. done (x, c.0, c.1))) ts mid new e h

pub branches_ok : {R : Type 0} (n : ℕ) (κ : Block → Block → Parser R) (ts mid new : List Token) (a : Block × Block) (r : Result R Halt) → Reads (read (enter n) branches ts) (Ok a) mid → Reads (κ a.0 a.1 mid) r new → Reads (take k.then' (λ t. read_then (enter n) g.block (λ x. take k.else' (λ u. read_then (enter n) g.block (λ y. κ x y)))) ts) r new
unfolding read_then
branches_ok n κ ts mid new a r h j = call_ok (enter n) branches (λ a. κ a.0 a.1) ts mid new a r h j

pub branches_err : {R : Type 0} (n : ℕ) (κ : Block → Block → Parser R) (ts mid new : List Token) (e : Halt) → Reads {A = Block × Block} (read (enter n) branches ts) (Err e) mid → Reads (take k.then' (λ t. read_then (enter n) g.block (λ x. take k.else' (λ u. read_then (enter n) g.block (λ y. κ x y)))) ts) (Err e) new
unfolding read_then
branches_err n κ ts mid new e h = call_err {A = Block × Block} (enter n) branches (λ a. κ a.0 a.1) ts mid new e h

-- ---- behind `case`
abbrev pub block_arms_of : Rule BlockArms
block_arms_of = within (λ p arms. arms) k.open_brace block_arms

pub of_arms : (n : ℕ) (ts mid new : List Token) (p : Pos) (c y : BlockArms) → Reads (take k.of' (λ t. done t.pos) ts) (Ok p) mid → Reads (read (enter n) block_arms_of mid) (Ok c) new → y ≡ c → Reads (read (enter n) arms_behind_of ts) (Ok y) new
unfolding read_then
of_arms n ts mid new p c y h i d = take_ok k.of' (λ p. read_then (enter n) block_arms_of done) ts mid new p (Ok y) h (call_ok (enter n) block_arms_of done mid new new c (Ok y) i (d, refl))

pub case_all : (n : ℕ) (ts mid new : List Token) (b : Expr) (c : BlockArms) (r : Result (Expr × BlockArms) Halt) → Reads (read (enter n) g.expr ts) (Ok b) mid → Reads (read (enter n) arms_behind_of mid) (Ok c) new → Reads {A = Expr × BlockArms} (Done (b, c) []) r [] → Reads (read (enter n) (rule_of block_case) ts) r new
unfolding read_then rule_of
case_all n ts mid new b c r h i d = both_ok n g.expr arms_behind_of (λ b c. (b, c)) ts mid new b c r h i d

pub case_arms : (n : ℕ) (ts mid o new : List Token) (b : Expr) (e : Halt) → Reads (read (enter n) g.expr ts) (Ok b) mid → Reads {A = BlockArms} (read (enter n) arms_behind_of mid) (Err e) o → Reads {A = Expr × BlockArms} (read (enter n) (rule_of block_case) ts) (Err e) new
unfolding read_then rule_of
case_arms n ts mid o new b e h i = both_err n g.expr arms_behind_of (λ b c. (b, c)) ts mid o new b e h i

pub case_subject : (n : ℕ) (ts mid new : List Token) (e : Halt) → Reads {A = Expr} (read (enter n) g.expr ts) (Err e) mid → Reads {A = Expr × BlockArms} (read (enter n) (rule_of block_case) ts) (Err e) new
unfolding read_then rule_of
case_subject n ts mid new e h = call_err {A = Expr} (enter n) g.expr (λ x. read_then (enter n) arms_behind_of (λ c. done (x, c))) ts mid new e h
