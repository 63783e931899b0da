-- The grammar of scripts (own), one rule for each production; what a script spells; and how far a list of tokens can go.
--   `give f ⊛ p ◁ k ⊛ q`   what p spells, then a token of the kind k, then what q spells; its value is f of those of p and q
--   `alt p q`              p | q
--   `many p`               { p }
--   `optional x p`         [ p ], with x for nothing
--   `one_of rows last`     one of these reserved words, by number; its value is what stands with it, and its position
--   `ended f g k l p`      { p k } p [ k ] l, where what is last gives a right value
--   `within f k part`      an opener of the kind k, and what stands in it up to its end
-- Productions that begin alike are joined, so that one token decides.
use Rattle.std.specs.Prelude.{◌≡◌, ◌<◌, ◌⊎◌, ℕ, zero, suc, ℤ, pos, List, [], ◌∷◌, ◌++◌, Option, Some, None}
use mathlib.Core.Logic.{inl, inr}
use Rattle.hs_base.specs.declared.pos.Pos.{Pos}
use Rattle.hs_base.specs.declared.tree.action.Action.{Action}
use Rattle.hs_base.specs.declared.tree.action.Action.TheVariants as a
use Rattle.hs_base.specs.declared.tree.action.Block.{Block}
use Rattle.hs_base.specs.declared.tree.action.BlockArms.TheVariants as block_arm
use Rattle.hs_base.specs.declared.tree.action.Stmt.{Stmt}
use Rattle.hs_base.specs.declared.tree.action.Stmt.TheVariants as s
use Rattle.hs_base.specs.declared.tree.expr.CompareOp.{CompareOp}
use Rattle.hs_base.specs.declared.tree.expr.CompareOp.TheVariants as compare
use Rattle.hs_base.specs.declared.tree.expr.ConsOp.{ConsOp}
use Rattle.hs_base.specs.declared.tree.expr.ConsOp.TheVariants as cons_op
use Rattle.hs_base.specs.declared.tree.expr.Constant.{Constant}
use Rattle.hs_base.specs.declared.tree.expr.Constant.TheVariants as constant
use Rattle.hs_base.specs.declared.tree.expr.Expr.{Expr}
use Rattle.hs_base.specs.declared.tree.expr.Expr.TheVariants as e
use Rattle.hs_base.specs.declared.tree.expr.ExprArms.TheVariants as expr_arm
use Rattle.hs_base.specs.declared.tree.expr.Link.{Link}
use Rattle.hs_base.specs.declared.tree.expr.ListLink.{ListLink}
use Rattle.hs_base.specs.declared.tree.expr.Name.{Name}
use Rattle.hs_base.specs.declared.tree.expr.SumLink.{SumLink}
use Rattle.hs_base.specs.declared.tree.expr.SumOp.{SumOp}
use Rattle.hs_base.specs.declared.tree.expr.SumOp.TheVariants as sum_op
use Rattle.hs_base.specs.declared.tree.forms.UnaryForm.{UnaryForm}
use Rattle.hs_base.specs.declared.tree.forms.UnaryForm.TheVariants as unary_form
use Rattle.hs_base.specs.declared.tree.forms.EmptyForm.TheVariants as empty_form
use Rattle.hs_base.specs.declared.tree.forms.SideForm.{SideForm}
use Rattle.hs_base.specs.declared.tree.forms.SideForm.TheVariants as side
use Rattle.hs_base.specs.declared.tree.forms.BareAction.{BareAction}
use Rattle.hs_base.specs.declared.tree.forms.BareAction.TheVariants as bare
use Rattle.hs_base.specs.declared.tree.forms.UnaryAction.{UnaryAction}
use Rattle.hs_base.specs.declared.tree.forms.UnaryAction.TheVariants as unary
use Rattle.hs_base.specs.declared.tree.forms.BinaryAction.{BinaryAction}
use Rattle.hs_base.specs.declared.tree.forms.BinaryAction.TheVariants as binary
use Rattle.hs_base.specs.declared.tree.forms.BlockAction.{BlockAction}
use Rattle.hs_base.specs.declared.tree.forms.BlockAction.TheVariants as scoped
use Rattle.hs_base.specs.declared.tree.forms.MaskingAction.{MaskingAction}
use Rattle.hs_base.specs.declared.tree.forms.MaskingAction.TheVariants as masking
use Rattle.hs_base.specs.declared.tree.forms.GuardAction.{GuardAction}
use Rattle.hs_base.specs.declared.tree.forms.GuardAction.TheVariants as guard
use Rattle.hs_base.specs.declared.tree.script.Body.{Body}
use Rattle.hs_base.specs.declared.tree.script.Body.TheVariants as body
use Rattle.hs_base.specs.declared.tree.script.Def.{Def}
use Rattle.hs_base.specs.declared.tree.script.Param.{Param}
use Rattle.hs_base.specs.declared.tree.script.Script.{Script}
use Rattle.hs_base.specs.declared.tree.ty.Ty.{Ty}
use Rattle.hs_base.specs.declared.tree.ty.Ty.TheVariants as ty
use Rattle.hs_base.specs.declared.tree.ty.Written.{Written}
use Rattle.rules_tokens.specs.declared.token.Tok.{Tok}
use Rattle.rules_tokens.specs.declared.token.Tok.TheVariants as tok
use Rattle.rules_tokens.specs.declared.token.Token.{Token}
use Rattle.rules_tokens.specs.declared.word.TheConstants as w
use Rattle.rules_grammar.specs.GrammarForms.{one_of, Rule, give, one, alt, go_on, many as repeat, ended, within, ◌⊛◌, ◌◁◌, at, map, optional, Item, tokens_of, Spelling, Spelled}
use Rattle.rules_grammar.specs.GrammarKinds as k
use Rattle.rules_grammar.specs.GrammarParts.{TokenKind, name as name_kind, int as int_kind, text as text_kind, OpenerPart, type_in_parens, type_in_brackets, param_in_parens, block_in_braces, block_if, block_case, block_arms, let_stmt, no_items, two_names, expr_if, expr_case, expr_arms, expr_let, expr_in_parens, items_in_brackets, items_or_none}

abbrev pub many : {A : Type 0} → Rule A → Rule (List A)
many p = repeat (λ as'. as') p

-- ---- NAME, INT and TEXT
abbrev pub text_of : Tok → List ℕ
text_of (tok.Name x) = x
text_of (tok.Text x) = x
text_of _ = []

abbrev pub number_of : Tok → ℤ
number_of (tok.Int n) = n
number_of _ = pos 0

abbrev pub name : Rule Name
name = one name_kind (λ t. record { text = text_of t.tok; pos = t.pos })

-- ---- type   = "Maybe" atype | "Either" atype atype | "MVar" atype | "Async" atype | atype
-- ---- atype  = "Int" | "Bool" | "Text" | "ThreadId" | "SomeException" | "(" ")" | "(" type ")" | "(" type "," type ")" | "[" type "]"
abbrev pub written : Ty → Pos → Written
written t p = record { ty = t; pos = p }

abbrev pub type_word : TokenKind → Ty → Rule Written
type_word w t = map (written t) (at w)

unfoldable pub atype : Rule Written
atype =
    alt (type_word k.Int ty.Int)
    (alt (type_word k.Bool ty.Bool)
    (alt (type_word k.Text ty.Text)
    (alt (type_word k.ThreadId ty.Thread)
    (alt (type_word k.SomeException ty.Exn)
    (alt (within (λ p t. written t p) k.open_paren type_in_parens)
    (within (λ p t. written t p) k.open_bracket type_in_brackets))))))

unfoldable pub type : Rule Written
type =
    alt (give (λ p t. written (ty.Maybe t.ty) p) ⊛ at k.Maybe ⊛ atype)
    (alt (give (λ p s t. written (ty.Either s.ty t.ty) p) ⊛ at k.Either ⊛ atype ⊛ atype)
    (alt (give (λ p t. written (ty.Cell t.ty) p) ⊛ at k.MVar ⊛ atype)
    (alt (give (λ p t. written (ty.Async t.ty) p) ⊛ at k.Async ⊛ atype)
    atype)))

-- behind the first type of a ( : its end, or the second type of a pair
unfoldable pub type_end : Rule (Ty → Ty)
type_end =
    alt (map (λ p s. s) (at k.close_paren))
    (give (λ t s. ty.Pair s t.ty) ◁ k.comma ⊛ type ◁ k.close_paren)

-- ---- expr   = "if" expr "then" expr "else" expr | "case" expr "of" "{" alts(expr) "}" | "let" NAME "=" expr "in" expr | or
-- ---- or     = and { "||" and }                 and = cmp { "&&" cmp }
-- ---- cmp    = cons [ ( "==" | "/=" | "<" | "<=" | ">" | ">=" ) cons ]
-- ---- cons   = sum { ( ":" | "++" ) sum }       sum = [ "-" ] prod { ( "+" | "-" ) prod }       prod = app { "*" app }
-- ---- atom   = INT | TEXT | "True" | "False" | "ThreadKilled" | "UserInterrupt" | "DivideByZero" | "Overflow"
-- ----        | "(" ")" | "(" expr ")" | "(" expr "," expr ")" | "[" expr { "," expr } "]"
-- ---- arg    = NAME | atom
unfoldable pub constant_word : Rule (Constant × Pos)
constant_word =
    one_of
    ((w.TRUE, constant.True) ∷ (w.FALSE, constant.False) ∷ (w.THREAD_KILLED, constant.ThreadKilled)
    ∷ (w.USER_INTERRUPT, constant.UserInterrupt) ∷ (w.DIVIDE_BY_ZERO, constant.DivideByZero) ∷ []) (w.OVERFLOW, constant.Overflow)

-- an atom that doesn't begin with a [
unfoldable pub plain_atom : Rule Expr
plain_atom =
    alt (one int_kind (λ t. e.Int t.pos (number_of t.tok)))
    (alt (one text_kind (λ t. e.Text t.pos (text_of t.tok)))
    (alt (map (λ c. e.Constant c.1 c.0) constant_word)
    (within (λ p f. f p) k.open_paren expr_in_parens)))

unfoldable pub atom : Rule Expr
atom = alt (within e.List k.open_bracket items_in_brackets) plain_atom

unfoldable pub arg : Rule Expr
arg = alt (map (λ x. e.Call x []) name) atom

-- ---- app    = NAME { arg } | unary arg | side "@" atype "@" atype arg | "[" "]" "@" atype | "Nothing" "@" atype | "div" arg arg | "mod" arg arg | atom
-- ---- unary  = "Just" | "ErrorCall" | "not" | "fst" | "snd" | "show"        side = "Left" | "Right"
unfoldable pub two_args : Rule (Expr × Expr)
two_args = give (λ x y. (x, y)) ⊛ arg ⊛ arg

unfoldable pub unary_word : Rule (UnaryForm × Pos)
unary_word =
    one_of
    ((w.JUST, unary_form.Just) ∷ (w.ERROR_CALL, unary_form.ErrorCall) ∷ (w.NOT, unary_form.Not)
    ∷ (w.FST, unary_form.Fst) ∷ (w.SND, unary_form.Snd) ∷ []) (w.SHOW, unary_form.Show)

unfoldable pub unary_expr : Rule Expr
unary_expr = give (λ w x. e.Unary w.0 w.1 x) ⊛ unary_word ⊛ arg

unfoldable pub side_word : Rule (SideForm × Pos)
side_word = one_of ((w.LEFT, side.Left) ∷ []) (w.RIGHT, side.Right)

unfoldable pub side_types : Rule (SideForm × Pos × Written × Written)
side_types = give (λ w s t. (w.0, w.1, s, t)) ⊛ side_word ◁ k.at_sign ⊛ atype ◁ k.at_sign ⊛ atype

unfoldable pub side_expr : Rule Expr
side_expr = give (λ s x. e.Side s.0 s.1 s.2 s.3 x) ⊛ side_types ⊛ arg

unfoldable pub nothing_form : Rule Expr
nothing_form = give (e.Empty empty_form.Nothing) ⊛ at k.Nothing ◁ k.at_sign ⊛ atype

unfoldable pub div_form : Rule Expr
div_form = give (λ p x. e.Div p x.0 x.1) ⊛ at k.div ⊛ two_args

unfoldable pub mod_form : Rule Expr
mod_form = give (λ p x. e.Mod p x.0 x.1) ⊛ at k.mod' ⊛ two_args

-- a list, or "[" "]" that waits for its type
unfoldable pub list_or_empty : Rule (Pos ⊎ Expr)
list_or_empty = within (λ p xs. elim xs [ inl u ↦ inl p | inr as' ↦ inr (e.List p as') ]) k.open_bracket items_or_none

unfoldable pub call : Rule Expr
call = give e.Call ⊛ name ⊛ many arg

unfoldable pub list_form : Rule Expr
list_form = go_on (e.Empty empty_form.EmptyList) list_or_empty (give (λ t. t) ◁ k.at_sign ⊛ atype)

unfoldable pub app : Rule Expr
app =
    alt call
    (alt unary_expr
    (alt side_expr
    (alt list_form
    (alt nothing_form
    (alt div_form
    (alt mod_form
    plain_atom))))))

-- a first operand alone is no chain
abbrev pub or_tree : Expr → List Link → Expr
or_tree x [] = x
or_tree x (l ∷ ls) = e.Or x (l ∷ ls)

abbrev pub and_tree : Expr → List Link → Expr
and_tree x [] = x
and_tree x (l ∷ ls) = e.And x (l ∷ ls)

abbrev pub cons_tree : Expr → List ListLink → Expr
cons_tree x [] = x
cons_tree x (l ∷ ls) = e.Cons x (l ∷ ls)

abbrev pub sum_tree : Expr → List SumLink → Expr
sum_tree x [] = x
sum_tree x (l ∷ ls) = e.Sum x (l ∷ ls)

abbrev pub product_tree : Expr → List Link → Expr
product_tree x [] = x
product_tree x (l ∷ ls) = e.Product x (l ∷ ls)

abbrev pub compare_tree : Expr → Option (CompareOp × Pos × Expr) → Expr
compare_tree x None = x
compare_tree x (Some c) = e.Compare x c.0 c.1 c.2

-- an operator and what stands behind it
abbrev pub link : TokenKind → Rule Expr → Rule Link
link op p = give (λ at' x. record { pos = at'; operand = x }) ⊛ at op ⊛ p

unfoldable pub product_link : Rule Link
product_link = link k.star app

unfoldable pub product : Rule Expr
product = give product_tree ⊛ app ⊛ many product_link

-- the prefix - takes the first product of its sum
unfoldable pub first_term : Rule Expr
first_term = alt (give (e.Unary unary_form.Negate) ⊛ at k.minus ⊛ product) product

unfoldable pub sum_operator : Rule (SumOp × Pos)
sum_operator = alt (map (λ p. (sum_op.Plus, p)) (at k.plus)) (map (λ p. (sum_op.Minus, p)) (at k.minus))

unfoldable pub sum_link : Rule SumLink
sum_link = give (λ o x. record { op = o.0; pos = o.1; operand = x }) ⊛ sum_operator ⊛ product

unfoldable pub sum : Rule Expr
sum = give sum_tree ⊛ first_term ⊛ many sum_link

unfoldable pub cons_operator : Rule (ConsOp × Pos)
cons_operator = alt (map (λ p. (cons_op.Cons, p)) (at k.colon)) (map (λ p. (cons_op.Append, p)) (at k.plus_plus))

unfoldable pub cons_link : Rule ListLink
cons_link = give (λ o x. record { op = o.0; pos = o.1; operand = x }) ⊛ cons_operator ⊛ sum

unfoldable pub cons : Rule Expr
cons = give cons_tree ⊛ sum ⊛ many cons_link

unfoldable pub compare_operator : Rule (CompareOp × Pos)
compare_operator =
    alt (map (λ p. (compare.Equal, p)) (at k.equal_equal))
    (alt (map (λ p. (compare.Unequal, p)) (at k.slash_equal))
    (alt (map (λ p. (compare.Less, p)) (at k.less))
    (alt (map (λ p. (compare.AtMost, p)) (at k.less_equal))
    (alt (map (λ p. (compare.Greater, p)) (at k.greater))
    (map (λ p. (compare.AtLeast, p)) (at k.greater_equal))))))

unfoldable pub compare_end : Rule (Option (CompareOp × Pos × Expr))
compare_end = give (λ o x. Some (o.0, o.1, x)) ⊛ compare_operator ⊛ cons

unfoldable pub comparison : Rule Expr
comparison = give compare_tree ⊛ cons ⊛ optional None compare_end

unfoldable pub and_link : Rule Link
and_link = link k.and_and comparison

unfoldable pub and : Rule Expr
and = give and_tree ⊛ comparison ⊛ many and_link

unfoldable pub or_link : Rule Link
or_link = link k.or_or and

unfoldable pub or : Rule Expr
or = give or_tree ⊛ and ⊛ many or_link

unfoldable pub expr : Rule Expr
expr =
    alt (within (λ p x. e.If p x.0 x.1 x.2) k.if' expr_if)
    (alt (within (λ p x. e.Case p x.0 x.1) k.case' expr_case)
    (alt (within (λ p x. e.Let p x.0 x.1 x.2) k.let' expr_let)
    or))

-- behind the first expression of a ( : its end, or the second expression of a pair
unfoldable pub expr_end : Rule (Expr → Pos → Expr)
expr_end =
    alt (map (λ q x p. x) (at k.close_paren))
    (give (λ y x p. e.Pair p x y) ◁ k.comma ⊛ expr ◁ k.close_paren)

unfoldable pub next_item : Rule Expr
next_item = give (λ x. x) ◁ k.comma ⊛ expr

-- "[" expr { "," expr } "]", behind its [
unfoldable pub items : Rule (List Expr)
items = give (λ x xs. x ∷ xs) ⊛ expr ⊛ many next_item ◁ k.close_bracket

-- ---- alts(X) = ( "Nothing" "->" X ";" "Just" NAME "->" X | "Left" NAME "->" X ";" "Right" NAME "->" X
-- ----           | "[" "]" "->" X ";" NAME ":" NAME "->" X | "(" NAME "," NAME ")" "->" X ) [ ";" ]
-- `w -> x`, `w NAME -> x`, `[ ] -> x` and `NAME : NAME -> x`
unfoldable pub bare_arm : {X : Type 0} → TokenKind → Rule X → Rule X
bare_arm w x = give (λ y. y) ◁ w ◁ k.arrow ⊛ x

unfoldable pub named_arm : {X : Type 0} → TokenKind → Rule X → Rule (Name × X)
named_arm w x = give (λ y z. (y, z)) ◁ w ⊛ name ◁ k.arrow ⊛ x

unfoldable pub empty_arm : {X : Type 0} → Rule X → Rule X
empty_arm x = give (λ u y. y) ⊛ within (λ p u. u) k.open_bracket no_items ◁ k.arrow ⊛ x

unfoldable pub cons_arm : {X : Type 0} → Rule X → Rule (Name × Name × X)
cons_arm x = give (λ y z w. (y, z, w)) ⊛ name ◁ k.colon ⊛ name ◁ k.arrow ⊛ x

unfoldable pub maybe_arms : {X R : Type 0} → (X → Name → X → R) → Rule X → Rule R
maybe_arms f x = give (λ a b. f a b.0 b.1) ⊛ bare_arm k.Nothing x ◁ k.semicolon ⊛ named_arm k.Just x

unfoldable pub either_arms : {X R : Type 0} → (Name → X → Name → X → R) → Rule X → Rule R
either_arms f x = give (λ a b. f a.0 a.1 b.0 b.1) ⊛ named_arm k.Left x ◁ k.semicolon ⊛ named_arm k.Right x

unfoldable pub list_arms : {X R : Type 0} → (X → Name → Name → X → R) → Rule X → Rule R
list_arms f x = give (λ a b. f a b.0 b.1 b.2) ⊛ empty_arm x ◁ k.semicolon ⊛ cons_arm x

unfoldable pub pair_arm : {X R : Type 0} → (Name → Name → X → R) → Rule X → Rule R
pair_arm f x = give (λ names. f names.0 names.1) ⊛ within (λ p names. names) k.open_paren two_names ◁ k.arrow ⊛ x

abbrev pub arms : {X R : Type 0} → (X → Name → X → R) → (Name → X → Name → X → R) → (X → Name → Name → X → R) → (Name → Name → X → R) → Rule X → Rule R
arms of_maybe of_either of_list of_pair x = alt (maybe_arms of_maybe x) (alt (either_arms of_either x) (alt (list_arms of_list x) (pair_arm of_pair x)))

-- [ ";" ]
abbrev pub optional_semicolon : Rule (Unit {0})
optional_semicolon = optional (tt {0}) (map (λ p. tt {0}) (at k.semicolon))

abbrev pub alts : {X R : Type 0} → (X → Name → X → R) → (Name → X → Name → X → R) → (X → Name → Name → X → R) → (Name → Name → X → R) → Rule X → Rule R
alts of_maybe of_either of_list of_pair x =
    give (λ as' end. as') ⊛ arms of_maybe of_either of_list of_pair x ⊛ optional_semicolon

-- ---- block  = "{" { stmt ";" } action [ ";" ] "}"
-- ---- stmt   = NAME "<-" action | "let" NAME "=" expr | action
unfoldable pub block : Rule Block
block = within (λ p b. b) k.open_brace block_in_braces

-- NAME block, block block, and block NAME block
unfoldable pub named_block : Rule (Name × Block)
named_block = give (λ x b. (x, b)) ⊛ name ⊛ block

unfoldable pub two_blocks : Rule (Block × Block)
two_blocks = give (λ b c. (b, c)) ⊛ block ⊛ block

unfoldable pub guarded_block : Rule (Block × Name × Block)
guarded_block = give (λ b c. (b, c.0, c.1)) ⊛ block ⊛ named_block

-- ---- action: the forms that begin with a reserved word, by their shape
-- ----          bare | unary arg | binary arg arg | "hPutStrLn" "stderr" arg | "throwIO" "@" atype arg | "newEmptyMVar" "@" atype
-- ----          | scoped block | masking NAME block | guard block block | "modifyMVar_" arg NAME block | "restore" NAME block
-- ----          | "catch" block NAME block | "bracket" block NAME block block | "timeout" arg block
-- ----          | "withAsync" block NAME block
-- ---- bare     = "myThreadId" | "clockMicros" | "getMaskingState"
unfoldable pub bare_action_word : Rule (BareAction × Pos)
bare_action_word = one_of ((w.MY_THREAD_ID, bare.MyThreadId) ∷ (w.CLOCK_MICROS, bare.ClockMicros) ∷ []) (w.GET_MASKING_STATE, bare.GetMaskingState)

unfoldable pub bare_action : Rule Action
bare_action = map (λ w. a.Bare w.0 w.1) bare_action_word

-- ---- unary    = "return" | "putStr" | "putStrLn" | "newMVar" | "takeMVar" | "readMVar" | "tryTakeMVar" | "killThread" | "threadDelay"
-- ----          | "wait" | "cancel"
unfoldable pub unary_action_word : Rule (UnaryAction × Pos)
unary_action_word =
    one_of
    ((w.RETURN, unary.Return) ∷ (w.PUT_STR, unary.PutStr) ∷ (w.PUT_STR_LN, unary.PutStrLn) ∷ (w.NEW_MVAR, unary.NewMVar) ∷ (w.TAKE_MVAR, unary.TakeMVar)
    ∷ (w.READ_MVAR, unary.ReadMVar) ∷ (w.TRY_TAKE_MVAR, unary.TryTakeMVar) ∷ (w.KILL_THREAD, unary.KillThread)
    ∷ (w.THREAD_DELAY, unary.ThreadDelay) ∷ (w.WAIT, unary.Wait) ∷ []) (w.CANCEL, unary.Cancel)

unfoldable pub unary_action : Rule Action
unary_action = give (λ w x. a.Unary w.0 w.1 x) ⊛ unary_action_word ⊛ arg

-- ---- binary   = "putMVar" | "tryPutMVar" | "throwTo"
unfoldable pub binary_action_word : Rule (BinaryAction × Pos)
binary_action_word = one_of ((w.PUT_MVAR, binary.PutMVar) ∷ (w.TRY_PUT_MVAR, binary.TryPutMVar) ∷ []) (w.THROW_TO, binary.ThrowTo)

unfoldable pub binary_action : Rule Action
binary_action = give (λ w x. a.Binary w.0 w.1 x.0 x.1) ⊛ binary_action_word ⊛ two_args

unfoldable pub error_line : Rule Action
error_line = give (a.Unary unary.HPutStrLn) ⊛ at k.hPutStrLn ◁ k.stderr ⊛ arg

unfoldable pub throw_form : Rule Action
throw_form = give a.ThrowIo ⊛ at k.throwIO ◁ k.at_sign ⊛ atype ⊛ arg

unfoldable pub new_empty_form : Rule Action
new_empty_form = give a.NewEmptyMVar ⊛ at k.newEmptyMVar ◁ k.at_sign ⊛ atype

-- ---- scoped   = "forkIO" | "mask_" | "uninterruptibleMask_"
unfoldable pub scoped_action_word : Rule (BlockAction × Pos)
scoped_action_word =
    one_of ((w.FORK_IO, scoped.ForkIo) ∷ (w.MASK_BLOCK, scoped.MaskOnly) ∷ []) (w.UNINTERRUPTIBLE_MASK_BLOCK, scoped.UninterruptibleMaskOnly)

unfoldable pub scoped_action : Rule Action
scoped_action = give (λ w b. a.Scoped w.0 w.1 b) ⊛ scoped_action_word ⊛ block

-- ---- masking  = "forkIOWithUnmask" | "mask" | "uninterruptibleMask"
unfoldable pub masking_action_word : Rule (MaskingAction × Pos)
masking_action_word =
    one_of ((w.FORK_IO_WITH_UNMASK, masking.ForkIoWithUnmask) ∷ (w.MASK, masking.Mask) ∷ []) (w.UNINTERRUPTIBLE_MASK, masking.UninterruptibleMask)

unfoldable pub masking_action : Rule Action
masking_action = give (λ w b. a.Masking w.0 w.1 b.0 b.1) ⊛ masking_action_word ⊛ named_block

-- ---- guard    = "onException" | "finally" | "race" | "concurrently"
unfoldable pub guard_action_word : Rule (GuardAction × Pos)
guard_action_word =
    one_of ((w.ON_EXCEPTION, guard.OnException) ∷ (w.FINALLY, guard.Finally) ∷ (w.RACE, guard.Race) ∷ []) (w.CONCURRENTLY, guard.Concurrently)

unfoldable pub guard_action : Rule Action
guard_action = give (λ w b. a.Guard w.0 w.1 b.0 b.1) ⊛ guard_action_word ⊛ two_blocks

unfoldable pub modify_form : Rule Action
modify_form = give (λ p x b. a.ModifyMVar p x b.0 b.1) ⊛ at k.modifyMVar_ ⊛ arg ⊛ named_block

unfoldable pub restore_form : Rule Action
restore_form = give (λ p b. a.Restore p b.0 b.1) ⊛ at k.restore ⊛ named_block

unfoldable pub catch_form : Rule Action
catch_form = give (λ p b. a.Catch p b.0 b.1 b.2) ⊛ at k.catch' ⊛ guarded_block

unfoldable pub bracket_form : Rule Action
bracket_form = give (λ p b c. a.Bracket p b.0 b.1 b.2 c) ⊛ at k.bracket ⊛ guarded_block ⊛ block

unfoldable pub timeout_form : Rule Action
timeout_form = give a.Timeout ⊛ at k.timeout ⊛ arg ⊛ block

unfoldable pub with_async_form : Rule Action
with_async_form = give (λ p b. a.WithAsync p b.0 b.1 b.2) ⊛ at k.withAsync ⊛ guarded_block

-- the forms with no block, and all that begin with a reserved word but `if` and `case`
unfoldable pub plain_action : Rule Action
plain_action =
    alt bare_action
    (alt unary_action
    (alt binary_action
    (alt error_line
    (alt throw_form
    new_empty_form))))

unfoldable pub word_action : Rule Action
word_action =
    alt scoped_action
    (alt masking_action
    (alt guard_action
    (alt modify_form
    (alt restore_form
    (alt catch_form
    (alt bracket_form
    (alt timeout_form
    (alt with_async_form
    plain_action))))))))

unfoldable pub other_action : Rule Action
other_action =
    alt (within (λ p x. a.If p x.0 x.1 x.2) k.if' block_if)
    (alt (within (λ p x. a.Case p x.0 x.1) k.case' block_case)
    word_action)

-- ---- action = NAME { arg } | the others
unfoldable pub action : Rule Action
action = alt (give a.Call ⊛ name ⊛ many arg) other_action

-- behind a name at which a statement begins
unfoldable pub after_name : Rule (Name → Stmt ⊎ Action)
after_name =
    alt (give (λ y x. inl (s.Bind x y)) ◁ k.left_arrow ⊛ action)
    (give (λ as' x. inr (a.Call x as')) ⊛ many arg)

-- a statement that is no action, or an action
unfoldable pub block_item : Rule (Stmt ⊎ Action)
block_item =
    alt (give (λ x f. f x) ⊛ name ⊛ after_name)
    (alt (within (λ p x. inl (s.Let x.0 x.1)) k.let' let_stmt)
    (map inr other_action))

-- ---- script = { def }
-- ---- def    = NAME { "(" NAME "::" type ")" } "::" ( "IO" atype "=" block | type "=" expr ) ";"
unfoldable pub param : Rule Param
param = within (λ p x. x) k.open_paren param_in_parens

unfoldable pub def_body : Rule Body
def_body =
    alt (give body.Action ◁ k.IO ⊛ atype ◁ k.equal ⊛ block)
    (give body.Pure ⊛ type ◁ k.equal ⊛ expr)

unfoldable pub def : Rule Def
def = give (λ x ps b. record { name = x; params = ps; body = b }) ⊛ name ⊛ many param ◁ k.double_colon ⊛ def_body ◁ k.semicolon

unfoldable pub script : Rule Script
script = map (λ ds. record { defs = ds }) (many def)

-- ---- what stands in each opener, behind it
unfoldable pub rule_of : {A : Type 0} → OpenerPart A → Rule A
rule_of type_in_parens = alt (map (λ p. ty.Unit) (at k.close_paren)) (give (λ t f. f t.ty) ⊛ type ⊛ type_end)
rule_of type_in_brackets = give (λ t. ty.List t.ty) ⊛ type ◁ k.close_bracket
rule_of param_in_parens = give (λ x t. record { name = x; ty = t }) ⊛ name ◁ k.double_colon ⊛ type ◁ k.close_paren
rule_of block_in_braces = ended (λ ss x. record { stmts = ss; last = x }) s.Do k.semicolon k.close_brace block_item
rule_of block_if = give (λ c x y. (c, x, y)) ⊛ expr ◁ k.then' ⊛ block ◁ k.else' ⊛ block
rule_of block_case = give (λ x arms. (x, arms)) ⊛ expr ◁ k.of' ⊛ within (λ p arms. arms) k.open_brace block_arms
rule_of block_arms = alts block_arm.OfMaybe block_arm.OfEither block_arm.OfList block_arm.OfPair block ◁ k.close_brace
rule_of let_stmt = give (λ x y. (x, y)) ⊛ name ◁ k.equal ⊛ expr
rule_of no_items = map (λ p. tt {0}) (at k.close_bracket)
rule_of two_names = give (λ x y. (x, y)) ⊛ name ◁ k.comma ⊛ name ◁ k.close_paren
rule_of expr_if = give (λ c x y. (c, x, y)) ⊛ expr ◁ k.then' ⊛ expr ◁ k.else' ⊛ expr
rule_of expr_case = give (λ x arms. (x, arms)) ⊛ expr ◁ k.of' ⊛ within (λ p arms. arms) k.open_brace expr_arms
rule_of expr_arms = alts expr_arm.OfMaybe expr_arm.OfEither expr_arm.OfList expr_arm.OfPair expr ◁ k.close_brace
rule_of expr_let = give (λ x y z. (x, y, z)) ⊛ name ◁ k.equal ⊛ expr ◁ k.in' ⊛ expr
rule_of expr_in_parens = alt (map (λ q p. e.Unit p) (at k.close_paren)) (give (λ x f. f x) ⊛ expr ⊛ expr_end)
rule_of items_in_brackets = items
rule_of items_or_none = alt (map (λ p. inl (tt {0})) (at k.close_bracket)) (map inr items)

-- ---- scripts and lists of tokens

-- What a part spells whose opener stands in j openers, where at most n openers nest, that one counted.
abbrev pub SpelledIn : ℕ → ℕ → (A : Type 0) → OpenerPart A → Spelling A
SpelledIn zero j A part x from to = ⊥
SpelledIn (suc n) j A part x from to = Spelled (SpelledIn n (suc j)) (suc j) (rule_of part) x from to

-- a script with at most n nested openers is spelled by these items
abbrev pub SpelledBy : ℕ → Script → List Item → Type 0
SpelledBy n x items' = Spelled (SpelledIn n 0) 0 script x items' []

-- with at most n nested openers the script is spelled by these tokens
abbrev pub SpellsWithin : ℕ → Script → List Token → Type 0
SpellsWithin n x ts = (items' : List Item) × SpelledBy n x items' × (tokens_of items' ≡ ts)

-- the script is spelled by these tokens
abbrev pub Spells : Script → List Token → Type 0
Spells x ts = (n : ℕ) × SpellsWithin n x ts

-- each opener stands in fewer than m
abbrev pub Below : ℕ → List Item → Type 0
Below m [] = Unit {0}
Below m (i ∷ is) = ((j : ℕ) → i.opener ≡ Some j → j < m) × Below m is

-- Some script's tokens begin so: the tokens are viable.
abbrev pub IsViable : List Token → Type 0
IsViable ts = (x : Script) × (more : List Token) × Spells x (ts ++ more)

-- A script whose tokens begin so has each opener among them in fewer than m.
abbrev pub IsViableBelow : ℕ → List Token → Type 0
IsViableBelow m ts = (n : ℕ) × (x : Script) × (front after : List Item) × SpelledBy n x (front ++ after) × (tokens_of front ≡ ts) × Below m front

-- No script is spelled by the tokens read and those left. The tokens read are viable, with each opener in fewer than m; with
-- the first of those left, if there is one, they are not.
abbrev pub IsUnexpected : ℕ → List Token → List Token → Type 0
IsUnexpected m read left =
    IsViableBelow m read × ((x : Script) → Spells x (read ++ left) → ⊥) × ((t : Token) (ts : List Token) → left ≡ t ∷ ts → IsViable (read ++ t ∷ []) → ⊥)

-- The token behind those read is an opener, the first one that stands in m openers, in a script that goes on from it.
abbrev pub IsTooDeep : ℕ → List Token → Token → Type 0
IsTooDeep m read t =
    (n : ℕ) × (x : Script) × (front after : List Item)
    × SpelledBy n x (front ++ record { token = t; opener = Some m } ∷ after) × (tokens_of front ≡ read) × Below m front
