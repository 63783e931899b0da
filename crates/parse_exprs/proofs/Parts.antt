-- Steps behind a part whose rule a proof opens: arms, comparisons, and the forms that begin with a word.
use Rattle.std.proofs.Common.{ℕ, List, [], Result, Ok, Err}
use Rattle.hs_base.specs.declared.pos.Pos.{Pos}
use Rattle.hs_base.specs.declared.tree.expr.CompareOp.{CompareOp}
use Rattle.hs_base.specs.declared.tree.expr.Expr.{Expr}
use Rattle.hs_base.specs.declared.tree.expr.Expr.TheVariants as e
use Rattle.hs_base.specs.declared.tree.expr.ExprArms.{ExprArms}
use Rattle.rules_tokens.specs.declared.token.Token.{Token}
use Rattle.rules_grammar.specs.Grammar as g
use Rattle.rules_grammar.specs.Grammar.{rule_of}
use Rattle.rules_grammar.specs.GrammarForms.{within}
use Rattle.rules_grammar.specs.GrammarKinds as k
use Rattle.rules_grammar.specs.GrammarParts.{expr_arms as arms_part, expr_case, expr_if}
use Rattle.hs_grammar.specs.Parser.{Done, bind, done, take, read_then, read, enter}
use Rattle.parse_leaves.specs.declared.halt.Halt.{Halt}
use Rattle.parse_leaves.specs.Reads.{Reads}
use Rattle.parse_leaves.proofs.Steps.{call_ok, call_err, take_ok, take_err, reads_done}
use Rattle.parse_leaves.proofs.Parts.{opener_ok}
use Rattle.parse_exprs.specs.Exprs.{branches, compared}

-- a comparison's end
pub compare_ok : (n : ℕ) (ts new : List Token) (x : Expr) (c : CompareOp × Pos × Expr) (r : Result Expr Halt) → Reads (read (enter n) compared ts) (Ok c) new → Reads (Done (e.Compare x c.0 c.1 c.2) []) r [] → Reads (read_then (enter n) g.compare_end (λ c. done (g.compare_tree x c)) ts) r new
unfolding read_then g.compare_end
compare_ok n ts new x c r h d = call_ok (enter n) compared (λ c. done (e.Compare x c.0 c.1 c.2)) ts new new c r h (reads_done (e.Compare x c.0 c.1 c.2) r new d)

pub compare_err : (n : ℕ) (ts m new : List Token) (x : Expr) (f : Halt) → Reads {A = CompareOp × Pos × Expr} (read (enter n) compared ts) (Err f) m → Reads {A = Expr} (read_then (enter n) g.compare_end (λ c. done (g.compare_tree x c)) ts) (Err f) new
unfolding read_then g.compare_end
compare_err n ts m new x f h = call_err (enter n) compared (λ c. done (e.Compare x c.0 c.1 c.2)) ts m new f h

-- behind `case`
pub case_ok : (n : ℕ) (ts m o new : List Token) (a : Expr) (p : Pos) (s : ExprArms) (r : Result (Expr × ExprArms) Halt) → Reads (read (enter n) g.expr ts) (Ok a) m → Reads (take k.of' (λ t. done t.pos) m) (Ok p) o → Reads (read (enter n) (within (λ p arms. arms) k.open_brace arms_part) o) (Ok s) new → Reads (Done (a, s) []) r [] → Reads (read (enter n) (rule_of expr_case) ts) r new
unfolding read_then rule_of
case_ok n ts m o new a p s r h i j d =
    call_ok (enter n) g.expr (λ a. take k.of' (λ t. take k.open_brace (λ t us. bind (enter n _ arms_part t us) (λ s. done (a, s))))) ts m new a r h
    (take_ok k.of' (λ t. take k.open_brace (λ t us. bind (enter n _ arms_part t us) (λ s. done (a, s)))) m o new p r i
    (opener_ok n k.open_brace arms_part (λ s. done (a, s)) o new new s r j (reads_done (a, s) r new d)))

-- behind `if`
pub if_ok : (n : ℕ) (ts m o new : List Token) (pos p : Pos) (a : Expr) (b : Expr × Expr) (r : Result Expr Halt) → Reads (read (enter n) g.expr ts) (Ok a) m → Reads (take k.then' (λ t. done t.pos) m) (Ok p) o → Reads (read (enter n) branches o) (Ok b) new → Reads (Done (e.If pos a b.0 b.1) []) r [] → Reads (read_then (enter n) (rule_of expr_if) (λ x. done (e.If pos x.0 x.1 x.2)) ts) r new
unfolding read_then rule_of
if_ok n ts m o new pos p a b r h i j f =
    call_ok (enter n) g.expr (λ x. take k.then' (λ t. read_then (enter n) g.expr (λ y. take k.else' (λ t. read_then (enter n) g.expr (λ z. done (e.If pos x y z)))))) ts m new a r h
    (take_ok k.then' (λ t. read_then (enter n) g.expr (λ y. take k.else' (λ t. read_then (enter n) g.expr (λ z. done (e.If pos a y z))))) m o new p r i
    (call_ok (enter n) branches (λ b. done (e.If pos a b.0 b.1)) o new new b r j (reads_done (e.If pos a b.0 b.1) r new f)))

pub if_first : (n : ℕ) (ts m new : List Token) (pos : Pos) (f : Halt) → Reads {A = Expr} (read (enter n) g.expr ts) (Err f) m → Reads {A = Expr} (read_then (enter n) (rule_of expr_if) (λ x. done (e.If pos x.0 x.1 x.2)) ts) (Err f) new
unfolding read_then rule_of
if_first n ts m new pos f h =
    call_err (enter n) g.expr (λ x. take k.then' (λ t. read_then (enter n) g.expr (λ y. take k.else' (λ t. read_then (enter n) g.expr (λ z. done (e.If pos x y z)))))) ts m new f h

pub if_then : (n : ℕ) (ts m o new : List Token) (pos : Pos) (a : Expr) (f : Halt) → Reads (read (enter n) g.expr ts) (Ok a) m → Reads {A = Pos} (take k.then' (λ t. done t.pos) m) (Err f) o → Reads {A = Expr} (read_then (enter n) (rule_of expr_if) (λ x. done (e.If pos x.0 x.1 x.2)) ts) (Err f) new
unfolding read_then rule_of
if_then n ts m o new pos a f h i =
    call_ok (enter n) g.expr (λ x. take k.then' (λ t. read_then (enter n) g.expr (λ y. take k.else' (λ t. read_then (enter n) g.expr (λ z. done (e.If pos x y z)))))) ts m new a (Err f) h
    (take_err k.then' (λ t. read_then (enter n) g.expr (λ y. take k.else' (λ t. read_then (enter n) g.expr (λ z. done (e.If pos a y z))))) m o new f i)

pub if_branches : (n : ℕ) (ts m o l new : List Token) (pos p : Pos) (a : Expr) (f : Halt) → Reads (read (enter n) g.expr ts) (Ok a) m → Reads (take k.then' (λ t. done t.pos) m) (Ok p) o → Reads {A = Expr × Expr} (read (enter n) branches o) (Err f) l → Reads {A = Expr} (read_then (enter n) (rule_of expr_if) (λ x. done (e.If pos x.0 x.1 x.2)) ts) (Err f) new
unfolding read_then rule_of
if_branches n ts m o l new pos p a f h i j =
    call_ok (enter n) g.expr (λ x. take k.then' (λ t. read_then (enter n) g.expr (λ y. take k.else' (λ t. read_then (enter n) g.expr (λ z. done (e.If pos x y z)))))) ts m new a (Err f) h
    (take_ok k.then' (λ t. read_then (enter n) g.expr (λ y. take k.else' (λ t. read_then (enter n) g.expr (λ z. done (e.If pos a y z))))) m o new p (Err f) i
    (call_err (enter n) branches (λ b. done (e.If pos a b.0 b.1)) o l new f j))
