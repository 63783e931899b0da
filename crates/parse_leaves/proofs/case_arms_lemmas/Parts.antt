-- Steps of two arms with a `;` between them, of the arm of a pair, and of arms with what closes their braces.
use Rattle.std.proofs.Common.{ℕ, List, [], Result, Ok, Err, refl}
use Rattle.hs_base.specs.declared.pos.Pos.{Pos}
use Rattle.hs_base.specs.declared.tree.expr.Name.{Name}
use Rattle.rules_tokens.specs.declared.token.Token.{Token}
use Rattle.rules_grammar.specs.Grammar as g
use Rattle.rules_grammar.specs.GrammarForms.{Rule, give, within, ◌⊛◌, ◌◁◌}
use Rattle.rules_grammar.specs.GrammarKinds as k
use Rattle.rules_grammar.specs.GrammarParts.{two_names}
use Rattle.hs_grammar.specs.Parser.{Done, Parser, done, take, read_then, read, enter}
use Rattle.parse_leaves.specs.declared.halt.Halt.{Halt}
use Rattle.parse_leaves.specs.Reads.{Reads}
use Rattle.parse_leaves.proofs.Steps.{call_ok, call_err, take_ok, take_err, reads_done}
use Rattle.parse_leaves.proofs.Parts.{opener_ok}
use Rattle.parse_leaves.specs.case_arms.Arms.{next_arm}

-- two arms
pub apart_ok : {A B R : Type 0} (n : ℕ) (p : Rule A) (q : Rule B) (f : A → B → R) (ts m new : List Token) (a : A) (b : B) (r : Result R Halt) → Reads (read (enter n) p ts) (Ok a) m → Reads (read (enter n) (next_arm q) m) (Ok b) new → Reads (Done (f a b) []) r [] → Reads (read (enter n) (give f ⊛ p ◁ k.semicolon ⊛ q) ts) r new
unfolding read_then
apart_ok n p q f ts m new a b r h i e =
    call_ok (enter n) p (λ a. take k.semicolon (λ t. read_then (enter n) q (λ b. done (f a b)))) ts m new a r h
    (call_ok (enter n) (next_arm q) (λ b. done (f a b)) m new new b r i (reads_done (f a b) r new e))

pub apart_first : {A B R : Type 0} (n : ℕ) (p : Rule A) (q : Rule B) (f : A → B → R) (ts m new : List Token) (e : Halt) → Reads {A = A} (read (enter n) p ts) (Err e) m → Reads {A = R} (read (enter n) (give f ⊛ p ◁ k.semicolon ⊛ q) ts) (Err e) new
unfolding read_then
apart_first n p q f ts m new e h = call_err (enter n) p (λ a. take k.semicolon (λ t. read_then (enter n) q (λ b. done (f a b)))) ts m new e h

pub apart_last : {A B R : Type 0} (n : ℕ) (p : Rule A) (q : Rule B) (f : A → B → R) (ts m o new : List Token) (a : A) (e : Halt) → Reads (read (enter n) p ts) (Ok a) m → Reads {A = B} (read (enter n) (next_arm q) m) (Err e) o → Reads {A = R} (read (enter n) (give f ⊛ p ◁ k.semicolon ⊛ q) ts) (Err e) new
unfolding read_then
apart_last n p q f ts m o new a e h i =
    call_ok (enter n) p (λ a. take k.semicolon (λ t. read_then (enter n) q (λ b. done (f a b)))) ts m new a (Err e) h
    (call_err (enter n) (next_arm q) (λ b. done (f a b)) m o new e i)

-- the arm of a pair
pub pair_symbol : {X R : Type 0} (n : ℕ) (p : Rule X) (arm : Name → Name → X → R) (ts m o new : List Token) (a : Name × Name) (f : Halt) → Reads (read (enter n) (within (λ p names. names) k.open_paren two_names) ts) (Ok a) m → Reads {A = Pos} (take k.arrow (λ t. done t.pos) m) (Err f) o → Reads {A = R} (read (enter n) (g.pair_arm arm p) ts) (Err f) new
unfolding read_then g.pair_arm
pair_symbol n p arm ts m o new a f h i =
    opener_ok n k.open_paren two_names (λ names. take k.arrow (λ t. read_then (enter n) p (λ x. done (arm names.0 names.1 x)))) ts m new a (Err f) h
    (take_err k.arrow (λ t. read_then (enter n) p (λ x. done (arm a.0 a.1 x))) m o new f i)

-- arms, and what closes their braces
module _ {A : Type 0} (n : ℕ) (p : Rule A) where
  abbrev closed : Rule A
  closed = give (λ arms end. arms) ⊛ p ⊛ g.optional_semicolon ◁ k.close_brace

  abbrev behind_arms : A → Parser A
  behind_arms x = read_then (enter n) g.optional_semicolon (λ u. take k.close_brace (λ t. done x))

  closed_is : (ts mid new : List Token) (x : A) (r : Result A Halt) → Reads (read (enter n) p ts) (Ok x) mid → Reads (behind_arms x mid) r new → Reads (read (enter n) closed ts) r new
  unfolding read_then
  closed_is ts mid new x r h i = call_ok (enter n) p behind_arms ts mid new x r h i

  pub closed_arms : (ts mid new : List Token) (e : Halt) → Reads {A = A} (read (enter n) p ts) (Err e) mid → Reads {A = A} (read (enter n) closed ts) (Err e) new
  unfolding read_then
  closed_arms ts mid new e h = call_err {A = A} (enter n) p behind_arms ts mid new e h

  pub closed_semicolon : (ts mid o new : List Token) (x : A) (e : Halt) → Reads (read (enter n) p ts) (Ok x) mid → Reads {A = Unit {0}} (read (enter n) g.optional_semicolon mid) (Err e) o → Reads {A = A} (read (enter n) closed ts) (Err e) new
  closed_semicolon ts mid o new x e h i = closed_is ts mid new x (Err e) h (call_err {A = Unit {0}} (enter n) g.optional_semicolon (λ u. take k.close_brace (λ t. done x)) mid o new e i)

  pub closed_brace : (ts mid o l new : List Token) (x : A) (u : Unit {0}) (e : Halt) → Reads (read (enter n) p ts) (Ok x) mid → Reads (read (enter n) g.optional_semicolon mid) (Ok u) o → Reads {A = Pos} (take k.close_brace (λ t. done t.pos) o) (Err e) l → Reads {A = A} (read (enter n) closed ts) (Err e) new
  closed_brace ts mid o l new x u e h i j = closed_is ts mid new x (Err e) h (call_ok (enter n) g.optional_semicolon (λ u. take k.close_brace (λ t. done x)) mid o new u (Err e) i (take_err k.close_brace (λ p. done x) o l new e j))

  pub closed_ok : (ts mid o new : List Token) (x : A) (u : Unit {0}) (p' : Pos) → Reads (read (enter n) p ts) (Ok x) mid → Reads (read (enter n) g.optional_semicolon mid) (Ok u) o → Reads (take k.close_brace (λ t. done t.pos) o) (Ok p') new → Reads (read (enter n) closed ts) (Ok x) new
  closed_ok ts mid o new x u p' h i j = closed_is ts mid new x (Ok x) h (call_ok (enter n) g.optional_semicolon (λ u. take k.close_brace (λ t. done x)) mid o new u (Ok x) i (take_ok k.close_brace (λ p. done x) o new new p' (Ok x) j (refl, refl)))
