-- The parts that stand in an opener, by the levels of openers.
use Rattle.std.proofs.Common.{◌≡◌, ℕ, zero, suc, ◌+◌, ◌≤◌, Bool, true, false, List, [], ◌++◌, Some, None, refl, ap, inl, inr, arith}
use Rattle.hs_base.specs.declared.tree.action.Stmt.TheVariants as s
use Rattle.rules_tokens.specs.declared.token.Token.{Token}
use Rattle.rules_grammar.specs.GrammarKinds as k
use Rattle.rules_grammar.specs.Grammar.{rule_of, block_item, other_action, SpelledIn}
use Rattle.rules_grammar.specs.GrammarForms.{Rule, give, one, seq, alt, go_on, many, ended, within, Single, Made, OnLeft, Spelled}
use Rattle.rules_grammar.specs.GrammarParts.{OpenerPart, type_in_parens, type_in_brackets, param_in_parens, block_in_braces, block_if, block_case, block_arms, let_stmt, no_items, two_names, expr_if, expr_case, expr_arms, expr_let, expr_in_parens, items_in_brackets, items_or_none}
use Rattle.hs_grammar.specs.Parser.{either, Inner, read, enter}
use Rattle.hs_grammar.proofs.KindLists.{both_true}
use Rattle.hs_grammar.proofs.Spellings.{Parts, PartsAppend, appends, subs, PartsSub}
use Rattle.hs_grammar.proofs.Good.{GoodOut, Closes, closes_made, closes_on_left, closes_then, closes_single, closes_empty, closes_end, PartOut, Ends, good}
use Rattle.hs_grammar.proofs.Checks.{plain, can_close, no_part, simple_part, near_part, opened, plain_item, close_action}

pub parts_append : (n j : ℕ) → PartsAppend (SpelledIn n j)
parts_append zero j B part = λ a w k z h. absurd h
parts_append (suc n) j B part = appends (SpelledIn n (suc j)) (parts_append n (suc j)) (suc j) (rule_of part)

-- more levels spell more
pub parts_sub : (n m j : ℕ) → n ≤ m → PartsSub (SpelledIn n j) (SpelledIn m j)
parts_sub zero m j l B part = λ a w k h. absurd h
parts_sub (suc n) zero j l B part = λ a w k h. absurd (omega arith)
parts_sub (suc n) (suc m) j l B part = subs (SpelledIn n (suc j)) (SpelledIn m (suc j)) (parts_sub n m (suc j) (omega arith)) (suc j) (rule_of part)

-- ---- each part can be closed
module _ (Y : Parts) (ya : PartsAppend Y) (j : ℕ) (test : (B : Type 0) → OpenerPart B → Bool) (closes : (B : Type 0) (part : OpenerPart B) → test B part ≡ true → Closes (Y B part)) where
  either_closes : {A : Type 0} (p q : Rule A) → (can_close test p ≡ true → Closes (Spelled Y j p)) → (can_close test q ≡ true → Closes (Spelled Y j q)) → (b : Bool) → can_close test p ≡ b → either b (can_close test q) ≡ true → Closes (Spelled Y j (alt p q))
  either_closes p q f g true e h = let c = f e in (c.0, c.1, inl c.2)
  either_closes p q f g false e h = let c = g h in (c.0, c.1, inr c.2)

  closed : {A : Type 0} (r : Rule A) → can_close test r ≡ true → Closes (Spelled Y j r)
  closed (give x) h = closes_empty x
  closed (one k f) h = closes_made f (Single None k) (closes_single None k)
  closed (seq f p q) h =
      let w = both_true (can_close test p) (can_close test q) h in
      closes_then 0 (Spelled Y j p) (Spelled Y j p) (λ b. Made (f b) (Spelled Y j q)) (λ b. Made (f b) (Spelled Y j q)) (appends Y ya j p) (appends Y ya j p) (λ a w k h. h)
      (closed p w.0) (λ b. closes_made (f b) (Spelled Y j q) (closed q w.1))
  closed (alt p q) h = either_closes p q (closed p) (closed q) (can_close test p) refl h
  closed (go_on f p q) h =
      let w = both_true (can_close test p) (can_close test q) h in
      closes_then 0 (Spelled Y j p) (Spelled Y j p) (OnLeft (λ b. Made (f b) (Spelled Y j q))) (OnLeft (λ b. Made (f b) (Spelled Y j q))) (appends Y ya j p) (appends Y ya j p) (λ a w k h. h)
      (closed p w.0) (closes_on_left (λ b. Made (f b) (Spelled Y j q)) (λ b. closes_made (f b) (Spelled Y j q) (closed q w.1)))
  closed (many f p) h = (f [], [], ([], refl, refl))
  closed (ended f g sep close p) h = absurd (cc h)
  closed (within {B = B} g k part) h =
      let s = closes_single (Some j) k in let c = closes B part h in
      (g s.0.pos c.0, s.1 ++ c.1, (s.0, c.1, (s.2.0, ap (λ v. v ++ c.1) s.2.1), (c.0, refl, c.2)))

-- a block's last action, and a block
pub item_closes : (Y : Parts) (ya : PartsAppend Y) (j : ℕ) → Closes (λ c. Spelled Y j block_item (inr c))
unfolding block_item
item_closes Y ya j = let d = closed Y ya j no_part (λ B part h. absurd (cc h)) other_action close_action in (d.0, d.1, inr (inr (d.0, [], d.2, (tt, refl, (refl, refl)))))

block_closes : (Y : Parts) (ya : PartsAppend Y) (j : ℕ) → Closes (Spelled Y j (rule_of block_in_braces))
unfolding rule_of
block_closes Y ya j =
    let c = closes_end s.Do k.semicolon k.close_brace 0 (Spelled Y j block_item) (Spelled Y j block_item) (appends Y ya j block_item) (appends Y ya j block_item) (λ a w k h. h) (item_closes Y ya j) in
    (record { stmts = []; last = c.0 }, c.1, ([], c.1, refl, (c.0, refl, c.2)))

simple_closes : (n j : ℕ) (B : Type 0) (part : OpenerPart B) → simple_part B part ≡ true → Closes (SpelledIn (suc n) j B part)
unfolding opened
simple_closes n j B type_in_parens h = closed (SpelledIn n (suc j)) (parts_append n (suc j)) (suc j) no_part (λ B part h. absurd (cc h)) (rule_of type_in_parens) refl
simple_closes n j B type_in_brackets h = closed (SpelledIn n (suc j)) (parts_append n (suc j)) (suc j) no_part (λ B part h. absurd (cc h)) (rule_of type_in_brackets) refl
simple_closes n j B param_in_parens h = closed (SpelledIn n (suc j)) (parts_append n (suc j)) (suc j) no_part (λ B part h. absurd (cc h)) (rule_of param_in_parens) refl
simple_closes n j B block_in_braces h = block_closes (SpelledIn n (suc j)) (parts_append n (suc j)) (suc j)
simple_closes n j B block_if h = absurd (cc h)
simple_closes n j B block_case h = absurd (cc h)
simple_closes n j B block_arms h = absurd (cc h)
simple_closes n j B let_stmt h = closed (SpelledIn n (suc j)) (parts_append n (suc j)) (suc j) no_part (λ B part h. absurd (cc h)) (rule_of let_stmt) refl
simple_closes n j B no_items h = closed (SpelledIn n (suc j)) (parts_append n (suc j)) (suc j) no_part (λ B part h. absurd (cc h)) (rule_of no_items) refl
simple_closes n j B two_names h = closed (SpelledIn n (suc j)) (parts_append n (suc j)) (suc j) no_part (λ B part h. absurd (cc h)) (rule_of two_names) refl
simple_closes n j B expr_if h = closed (SpelledIn n (suc j)) (parts_append n (suc j)) (suc j) no_part (λ B part h. absurd (cc h)) (rule_of expr_if) refl
simple_closes n j B expr_case h = absurd (cc h)
simple_closes n j B expr_arms h = closed (SpelledIn n (suc j)) (parts_append n (suc j)) (suc j) no_part (λ B part h. absurd (cc h)) (rule_of expr_arms) refl
simple_closes n j B expr_let h = closed (SpelledIn n (suc j)) (parts_append n (suc j)) (suc j) no_part (λ B part h. absurd (cc h)) (rule_of expr_let) refl
simple_closes n j B expr_in_parens h = closed (SpelledIn n (suc j)) (parts_append n (suc j)) (suc j) no_part (λ B part h. absurd (cc h)) (rule_of expr_in_parens) refl
simple_closes n j B items_in_brackets h = closed (SpelledIn n (suc j)) (parts_append n (suc j)) (suc j) no_part (λ B part h. absurd (cc h)) (rule_of items_in_brackets) refl
simple_closes n j B items_or_none h = closed (SpelledIn n (suc j)) (parts_append n (suc j)) (suc j) no_part (λ B part h. absurd (cc h)) (rule_of items_or_none) refl

near_closes : (n j : ℕ) (B : Type 0) (part : OpenerPart B) → near_part B part ≡ true → Closes (SpelledIn (suc (suc n)) j B part)
unfolding opened
near_closes n j B type_in_parens h = closed (SpelledIn (suc n) (suc j)) (parts_append (suc n) (suc j)) (suc j) simple_part (simple_closes n (suc j)) (rule_of type_in_parens) refl
near_closes n j B type_in_brackets h = closed (SpelledIn (suc n) (suc j)) (parts_append (suc n) (suc j)) (suc j) simple_part (simple_closes n (suc j)) (rule_of type_in_brackets) refl
near_closes n j B param_in_parens h = closed (SpelledIn (suc n) (suc j)) (parts_append (suc n) (suc j)) (suc j) simple_part (simple_closes n (suc j)) (rule_of param_in_parens) refl
near_closes n j B block_in_braces h = block_closes (SpelledIn (suc n) (suc j)) (parts_append (suc n) (suc j)) (suc j)
near_closes n j B block_if h = closed (SpelledIn (suc n) (suc j)) (parts_append (suc n) (suc j)) (suc j) simple_part (simple_closes n (suc j)) (rule_of block_if) refl
near_closes n j B block_case h = absurd (cc h)
near_closes n j B block_arms h = closed (SpelledIn (suc n) (suc j)) (parts_append (suc n) (suc j)) (suc j) simple_part (simple_closes n (suc j)) (rule_of block_arms) refl
near_closes n j B let_stmt h = closed (SpelledIn (suc n) (suc j)) (parts_append (suc n) (suc j)) (suc j) simple_part (simple_closes n (suc j)) (rule_of let_stmt) refl
near_closes n j B no_items h = closed (SpelledIn (suc n) (suc j)) (parts_append (suc n) (suc j)) (suc j) simple_part (simple_closes n (suc j)) (rule_of no_items) refl
near_closes n j B two_names h = closed (SpelledIn (suc n) (suc j)) (parts_append (suc n) (suc j)) (suc j) simple_part (simple_closes n (suc j)) (rule_of two_names) refl
near_closes n j B expr_if h = closed (SpelledIn (suc n) (suc j)) (parts_append (suc n) (suc j)) (suc j) simple_part (simple_closes n (suc j)) (rule_of expr_if) refl
near_closes n j B expr_case h = closed (SpelledIn (suc n) (suc j)) (parts_append (suc n) (suc j)) (suc j) simple_part (simple_closes n (suc j)) (rule_of expr_case) refl
near_closes n j B expr_arms h = closed (SpelledIn (suc n) (suc j)) (parts_append (suc n) (suc j)) (suc j) simple_part (simple_closes n (suc j)) (rule_of expr_arms) refl
near_closes n j B expr_let h = closed (SpelledIn (suc n) (suc j)) (parts_append (suc n) (suc j)) (suc j) simple_part (simple_closes n (suc j)) (rule_of expr_let) refl
near_closes n j B expr_in_parens h = closed (SpelledIn (suc n) (suc j)) (parts_append (suc n) (suc j)) (suc j) simple_part (simple_closes n (suc j)) (rule_of expr_in_parens) refl
near_closes n j B items_in_brackets h = closed (SpelledIn (suc n) (suc j)) (parts_append (suc n) (suc j)) (suc j) simple_part (simple_closes n (suc j)) (rule_of items_in_brackets) refl
near_closes n j B items_or_none h = closed (SpelledIn (suc n) (suc j)) (parts_append (suc n) (suc j)) (suc j) simple_part (simple_closes n (suc j)) (rule_of items_or_none) refl

pub part_closes : (n j : ℕ) (B : Type 0) (part : OpenerPart B) → Closes (SpelledIn (suc (suc (suc n))) j B part)
unfolding opened
part_closes n j B type_in_parens = closed (SpelledIn (suc (suc n)) (suc j)) (parts_append (suc (suc n)) (suc j)) (suc j) near_part (near_closes n (suc j)) (rule_of type_in_parens) refl
part_closes n j B type_in_brackets = closed (SpelledIn (suc (suc n)) (suc j)) (parts_append (suc (suc n)) (suc j)) (suc j) near_part (near_closes n (suc j)) (rule_of type_in_brackets) refl
part_closes n j B param_in_parens = closed (SpelledIn (suc (suc n)) (suc j)) (parts_append (suc (suc n)) (suc j)) (suc j) near_part (near_closes n (suc j)) (rule_of param_in_parens) refl
part_closes n j B block_in_braces = block_closes (SpelledIn (suc (suc n)) (suc j)) (parts_append (suc (suc n)) (suc j)) (suc j)
part_closes n j B block_if = closed (SpelledIn (suc (suc n)) (suc j)) (parts_append (suc (suc n)) (suc j)) (suc j) near_part (near_closes n (suc j)) (rule_of block_if) refl
part_closes n j B block_case = closed (SpelledIn (suc (suc n)) (suc j)) (parts_append (suc (suc n)) (suc j)) (suc j) near_part (near_closes n (suc j)) (rule_of block_case) refl
part_closes n j B block_arms = closed (SpelledIn (suc (suc n)) (suc j)) (parts_append (suc (suc n)) (suc j)) (suc j) near_part (near_closes n (suc j)) (rule_of block_arms) refl
part_closes n j B let_stmt = closed (SpelledIn (suc (suc n)) (suc j)) (parts_append (suc (suc n)) (suc j)) (suc j) near_part (near_closes n (suc j)) (rule_of let_stmt) refl
part_closes n j B no_items = closed (SpelledIn (suc (suc n)) (suc j)) (parts_append (suc (suc n)) (suc j)) (suc j) near_part (near_closes n (suc j)) (rule_of no_items) refl
part_closes n j B two_names = closed (SpelledIn (suc (suc n)) (suc j)) (parts_append (suc (suc n)) (suc j)) (suc j) near_part (near_closes n (suc j)) (rule_of two_names) refl
part_closes n j B expr_if = closed (SpelledIn (suc (suc n)) (suc j)) (parts_append (suc (suc n)) (suc j)) (suc j) near_part (near_closes n (suc j)) (rule_of expr_if) refl
part_closes n j B expr_case = closed (SpelledIn (suc (suc n)) (suc j)) (parts_append (suc (suc n)) (suc j)) (suc j) near_part (near_closes n (suc j)) (rule_of expr_case) refl
part_closes n j B expr_arms = closed (SpelledIn (suc (suc n)) (suc j)) (parts_append (suc (suc n)) (suc j)) (suc j) near_part (near_closes n (suc j)) (rule_of expr_arms) refl
part_closes n j B expr_let = closed (SpelledIn (suc (suc n)) (suc j)) (parts_append (suc (suc n)) (suc j)) (suc j) near_part (near_closes n (suc j)) (rule_of expr_let) refl
part_closes n j B expr_in_parens = closed (SpelledIn (suc (suc n)) (suc j)) (parts_append (suc (suc n)) (suc j)) (suc j) near_part (near_closes n (suc j)) (rule_of expr_in_parens) refl
part_closes n j B items_in_brackets = closed (SpelledIn (suc (suc n)) (suc j)) (parts_append (suc (suc n)) (suc j)) (suc j) near_part (near_closes n (suc j)) (rule_of items_in_brackets) refl
part_closes n j B items_or_none = closed (SpelledIn (suc (suc n)) (suc j)) (parts_append (suc (suc n)) (suc j)) (suc j) near_part (near_closes n (suc j)) (rule_of items_or_none) refl

-- ---- what is read in an opener
module _ (m j : ℕ) (inner : Inner) (X Y : Parts) (xa : PartsAppend X) (ya : PartsAppend Y) (sub : PartsSub X Y)
    (pg : (B : Type 0) (part : OpenerPart B) (t : Token) (ts : List Token) → PartOut m j (X B part) (Y B part) t ts (inner B part t ts))
    (pc : (B : Type 0) (part : OpenerPart B) → Closes (Y B part)) where
  pub plain_ends : {A : Type 0} (r : Rule A) → plain r ≡ true → Ends m j inner X Y xa ya sub pg pc r
  plain_ends (give x) h = tt
  plain_ends (one l f) h = tt
  plain_ends (seq f p q) h = let w = both_true (plain p) (plain q) h in (plain_ends p w.0, plain_ends q w.1)
  plain_ends (alt p q) h = let w = both_true (plain p) (plain q) h in (plain_ends p w.0, plain_ends q w.1)
  plain_ends (go_on f p q) h = let w = both_true (plain p) (plain q) h in (plain_ends p w.0, plain_ends q w.1)
  plain_ends (many f p) h = plain_ends p h
  plain_ends (ended f g sep close p) h = absurd (cc h)
  plain_ends (within f l part) h = tt

  pub part_ends : {A : Type 0} (part : OpenerPart A) → Ends m j inner X Y xa ya sub pg pc (rule_of part)
  unfolding opened
  part_ends type_in_parens = plain_ends (rule_of type_in_parens) refl
  part_ends type_in_brackets = plain_ends (rule_of type_in_brackets) refl
  part_ends param_in_parens = plain_ends (rule_of param_in_parens) refl
  part_ends block_in_braces = (item_closes Y ya j, plain_ends block_item plain_item)
  part_ends block_if = plain_ends (rule_of block_if) refl
  part_ends block_case = plain_ends (rule_of block_case) refl
  part_ends block_arms = plain_ends (rule_of block_arms) refl
  part_ends let_stmt = plain_ends (rule_of let_stmt) refl
  part_ends no_items = plain_ends (rule_of no_items) refl
  part_ends two_names = plain_ends (rule_of two_names) refl
  part_ends expr_if = plain_ends (rule_of expr_if) refl
  part_ends expr_case = plain_ends (rule_of expr_case) refl
  part_ends expr_arms = plain_ends (rule_of expr_arms) refl
  part_ends expr_let = plain_ends (rule_of expr_let) refl
  part_ends expr_in_parens = plain_ends (rule_of expr_in_parens) refl
  part_ends items_in_brackets = plain_ends (rule_of items_in_brackets) refl
  part_ends items_or_none = plain_ends (rule_of items_or_none) refl

abbrev pub more : ℕ → ℕ
more n = suc (suc (suc n))

pub enter_good : (n j m : ℕ) → j + n ≡ m → (B : Type 0) (part : OpenerPart B) (t : Token) (ts : List Token) → PartOut m j (SpelledIn n j B part) (SpelledIn (more n) j B part) t ts (enter n B part t ts)
unfolding enter
enter_good zero j m e B part t ts = inr (refl, omega arith)
enter_good (suc n) j m e B part t ts = inl (
  omega arith,
  good m (suc j) (enter n) (SpelledIn n (suc j)) (SpelledIn (more n) (suc j)) (parts_append n (suc j)) (parts_append (more n) (suc j)) (parts_sub n (more n) (suc j) (omega arith)) (enter_good n (suc j) m (omega arith)) (part_closes n (suc j)) (rule_of part)
      (part_ends m (suc j) (enter n) (SpelledIn n (suc j)) (SpelledIn (more n) (suc j)) (parts_append n (suc j)) (parts_append (more n) (suc j)) (parts_sub n (more n) (suc j) (omega arith)) (enter_good n (suc j) m (omega arith)) (part_closes n (suc j)) part) ts,
)

-- a rule at the top, with n levels
pub rule_good : {A : Type 0} (n : ℕ) (r : Rule A) → plain r ≡ true → (ts : List Token) → GoodOut n (Spelled (SpelledIn n 0) 0 r) (Spelled (SpelledIn (more n) 0) 0 r) ts (read (enter n) r ts)
rule_good n r h =
    good n 0 (enter n) (SpelledIn n 0) (SpelledIn (more n) 0) (parts_append n 0) (parts_append (more n) 0) (parts_sub n (more n) 0 (omega arith)) (enter_good n 0 n (omega arith)) (part_closes n 0) r
    (plain_ends n 0 (enter n) (SpelledIn n 0) (SpelledIn (more n) 0) (parts_append n 0) (parts_append (more n) 0) (parts_sub n (more n) 0 (omega arith)) (enter_good n 0 n (omega arith)) (part_closes n 0) r h)
