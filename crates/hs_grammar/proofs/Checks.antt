-- The checks by which one token decides, and that each part can be closed; and that this grammar passes them.
use Rattle.std.proofs.Common.{◌≡◌, Bool, true, false, List, [], ◌∷◌, ◌++◌, refl}
use Rattle.rules_grammar.specs.Grammar as g
use Rattle.rules_grammar.specs.Grammar.{rule_of, script, block_item, other_action}
use Rattle.rules_grammar.specs.GrammarForms.{Rule, give, one, seq, alt, go_on, many, ended, within}
use Rattle.rules_grammar.specs.GrammarKinds as k
use Rattle.rules_grammar.specs.GrammarParts.{TokenKind, name, int, text, OpenerPart, type_in_parens, type_in_brackets, param_in_parens, block_in_braces, block_if, block_case, block_arms, let_stmt, no_items, two_names, expr_if, expr_case, expr_arms, expr_let, expr_in_parens, items_in_brackets, items_or_none}
use Rattle.hs_grammar.specs.Parser.{same_kind, either, both, negated, apart, where', may_be_empty, firsts}
use Rattle.hs_grammar.proofs.KindLists.{contained}

-- what goes on an expression: an argument or an operator
abbrev behind_expr : List TokenKind
behind_expr =
    name ∷ k.open_bracket ∷ int ∷ text ∷ k.True ∷ k.False ∷ k.ThreadKilled ∷ k.UserInterrupt ∷ k.DivideByZero ∷ k.Overflow ∷ k.open_paren
    ∷ k.star ∷ k.plus ∷ k.minus ∷ k.colon ∷ k.plus_plus
    ∷ k.equal_equal ∷ k.slash_equal ∷ k.less ∷ k.less_equal ∷ k.greater ∷ k.greater_equal ∷ k.and_and ∷ k.or_or ∷ []

-- what a part would still take behind what it has read
abbrev pub after_part : {A : Type 0} → OpenerPart A → List TokenKind
after_part type_in_parens = []
after_part type_in_brackets = []
after_part param_in_parens = []
after_part block_in_braces = []
after_part block_if = []
after_part block_case = []
after_part block_arms = []
after_part let_stmt = behind_expr
after_part no_items = []
after_part two_names = []
after_part expr_if = behind_expr
after_part expr_case = []
after_part expr_arms = []
after_part expr_let = behind_expr
after_part expr_in_parens = []
after_part items_in_brackets = []
after_part items_or_none = []

-- what a rule would still take behind what it has read
abbrev pub after : {A : Type 0} → Rule A → List TokenKind
unfolding may_be_empty firsts
after (give x) = []
after (one l f) = []
after (seq f p q) = after q ++ where' (may_be_empty q) (after p)
after (alt p q) = after p ++ (after q ++ where' (may_be_empty q) (firsts p))
after (go_on f p q) = after p ++ after q
after (many f p) = firsts p ++ after p
after (ended f as_item sep close p) = []
after (within f l part) = after_part part

-- one token decides
abbrev pub fine : {A : Type 0} → Rule A → Bool
unfolding may_be_empty firsts
fine (give x) = true
fine (one l f) = true
fine (seq f p q) = both (fine p) (both (fine q) (apart (after p) (firsts q)))
fine (alt p q) = both (fine p) (both (fine q) (both (negated (may_be_empty p)) (apart (firsts p) (firsts q))))
fine (go_on f p q) = both (fine p) (both (fine q) (both (negated (may_be_empty p)) (both (negated (may_be_empty q)) (apart (after p) (firsts q)))))
fine (many f p) = both (fine p) (both (negated (may_be_empty p)) (apart (after p) (firsts p)))
fine (ended f as_item sep close p) =
    both (fine p) (both (negated (may_be_empty p)) (both (apart (after p) (sep ∷ close ∷ [])) (both (apart (close ∷ []) (firsts p)) (negated (same_kind sep close)))))
fine (within f l part) = true

-- no form of a block in it
abbrev pub plain : {A : Type 0} → Rule A → Bool
plain (give x) = true
plain (one l f) = true
plain (seq f p q) = both (plain p) (plain q)
plain (alt p q) = both (plain p) (plain q)
plain (go_on f p q) = both (plain p) (plain q)
plain (many f p) = plain p
plain (ended f as_item sep close p) = false
plain (within f l part) = true

-- it can be closed where the parts of a test can
abbrev pub can_close : {A : Type 0} → ((B : Type 0) → OpenerPart B → Bool) → Rule A → Bool
can_close test (give x) = true
can_close test (one l f) = true
can_close test (seq f p q) = both (can_close test p) (can_close test q)
can_close test (alt p q) = either (can_close test p) (can_close test q)
can_close test (go_on f p q) = both (can_close test p) (can_close test q)
can_close test (many f p) = true
can_close test (ended f as_item sep close p) = false
can_close test (within {B = B} f l part) = test B part

abbrev pub no_part : (B : Type 0) → OpenerPart B → Bool
no_part B part = false

-- parts that can be closed without others, and with those
abbrev pub simple_part : (B : Type 0) → OpenerPart B → Bool
simple_part B type_in_parens = true
simple_part B type_in_brackets = true
simple_part B param_in_parens = true
simple_part B block_in_braces = true
simple_part B block_if = false
simple_part B block_case = false
simple_part B block_arms = false
simple_part B let_stmt = true
simple_part B no_items = true
simple_part B two_names = true
simple_part B expr_if = true
simple_part B expr_case = false
simple_part B expr_arms = true
simple_part B expr_let = true
simple_part B expr_in_parens = true
simple_part B items_in_brackets = true
simple_part B items_or_none = true

abbrev pub near_part : (B : Type 0) → OpenerPart B → Bool
near_part B block_case = false
near_part B type_in_parens = true
near_part B type_in_brackets = true
near_part B param_in_parens = true
near_part B block_in_braces = true
near_part B block_if = true
near_part B block_arms = true
near_part B let_stmt = true
near_part B no_items = true
near_part B two_names = true
near_part B expr_if = true
near_part B expr_case = true
near_part B expr_arms = true
near_part B expr_let = true
near_part B expr_in_parens = true
near_part B items_in_brackets = true
near_part B items_or_none = true

-- ---- this grammar

-- its rules opened
unfoldable pub opened : Type 0
unfolding may_be_empty firsts g.atype g.type g.type_end g.constant_word g.plain_atom g.atom g.arg g.two_args g.unary_word g.unary_expr g.side_word g.side_types g.side_expr g.nothing_form g.div_form g.mod_form g.list_or_empty g.call g.list_form g.app g.product_link g.product g.first_term g.sum_operator g.sum_link g.sum g.cons_operator g.cons_link g.cons g.compare_operator g.compare_end g.comparison g.and_link g.and g.or_link g.or g.expr g.expr_end g.bare_arm g.named_arm g.empty_arm g.cons_arm g.maybe_arms g.either_arms g.list_arms g.pair_arm g.next_item g.items g.block g.named_block g.two_blocks g.guarded_block g.bare_action_word g.bare_action g.unary_action_word g.unary_action g.binary_action_word g.binary_action g.error_line g.throw_form g.new_empty_form g.scoped_action_word g.scoped_action g.masking_action_word g.masking_action g.guard_action_word g.guard_action g.modify_form g.restore_form g.catch_form g.bracket_form g.timeout_form g.with_async_form g.plain_action g.word_action g.other_action g.action g.after_name g.block_item g.param g.def_body g.def g.script g.rule_of
opened = Unit {0}

pub fine_script : fine script ≡ true
unfolding opened
fine_script = refl

pub plain_script : plain script ≡ true
unfolding opened
plain_script = refl

pub plain_item : plain block_item ≡ true
unfolding opened
plain_item = refl

pub close_action : can_close no_part other_action ≡ true
unfolding opened
close_action = refl

pub fine_item : fine block_item ≡ true
unfolding opened
fine_item = refl

pub fine_part : {A : Type 0} (part : OpenerPart A) → fine (rule_of part) ≡ true
unfolding opened
fine_part type_in_parens = refl
fine_part type_in_brackets = refl
fine_part param_in_parens = refl
fine_part block_in_braces = refl
fine_part block_if = refl
fine_part block_case = refl
fine_part block_arms = refl
fine_part let_stmt = refl
fine_part no_items = refl
fine_part two_names = refl
fine_part expr_if = refl
fine_part expr_case = refl
fine_part expr_arms = refl
fine_part expr_let = refl
fine_part expr_in_parens = refl
fine_part items_in_brackets = refl
fine_part items_or_none = refl

pub after_rule : {A : Type 0} (part : OpenerPart A) → contained (after (rule_of part)) (after_part part) ≡ true
unfolding opened
after_rule type_in_parens = refl
after_rule type_in_brackets = refl
after_rule param_in_parens = refl
after_rule block_in_braces = refl
after_rule block_if = refl
after_rule block_case = refl
after_rule block_arms = refl
after_rule let_stmt = refl
after_rule no_items = refl
after_rule two_names = refl
after_rule expr_if = refl
after_rule expr_case = refl
after_rule expr_arms = refl
after_rule expr_let = refl
after_rule expr_in_parens = refl
after_rule items_in_brackets = refl
after_rule items_or_none = refl
