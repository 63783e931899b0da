-- What the parser's outcome means.
use Rattle.std.proofs.Common.{◌≡◌, ℕ, zero, suc, ◌+◌, ◌<◌, ◌≤◌, max, true, false, List, [], ◌∷◌, ◌++◌, length, refl, sym, ap, ◌∙◌, subst, ◌⊎◌, inl, inr, arith, length-append, append_assoc, append-nil}
use Rattle.hs_base.specs.declared.tree.script.Script.{Script}
use Rattle.rules_tokens.specs.declared.token.Token.{Token}
use Rattle.rules_grammar.specs.Grammar.{rule_of, script, block_item, SpelledIn, SpelledBy, SpellsWithin, Spells, Below, IsViable, IsViableBelow}
use Rattle.rules_grammar.specs.GrammarForms.{Rule, give, one, seq, alt, go_on, many, ended, within, Item, tokens_of, Spelled}
use Rattle.rules_grammar.specs.GrammarParts.{TokenKind, OpenerPart, type_in_parens, type_in_brackets, param_in_parens, block_in_braces, block_if, block_case, block_arms, let_stmt, no_items, two_names, expr_if, expr_case, expr_arms, expr_let, expr_in_parens, items_in_brackets, items_or_none}
use Rattle.hs_grammar.specs.Parser.{both, negated, apart, may_be_empty, firsts, begins, Why, unexpected, too_deep, Out, Done, Stop, Parser, bind, done, on_left, loop, another, item_step, Inner, read_then, read, enter, at_end, whole, Means}
use Rattle.hs_grammar.proofs.KindLists.{both_true, negated_true, clash, not_begins_contained}
use Rattle.hs_grammar.proofs.Checks.{after_part, after, fine, plain, opened, fine_part, after_rule, fine_script, plain_script, plain_item, fine_item}
use Rattle.hs_grammar.proofs.Spellings.{subs}
use Rattle.hs_grammar.proofs.Good.{GoodOut, PartOut, Halt}
use Rattle.hs_grammar.proofs.Reading.{read_seq, read_go_on}
use Rattle.hs_grammar.proofs.Starts.{Starts, starts, parts_shrink}
use Rattle.hs_grammar.proofs.Loops.{Takes, another_takes, item_takes}
use Rattle.hs_grammar.proofs.Levels.{parts_append, parts_sub, part_closes, plain_ends, part_ends, more, enter_good, rule_good}
use Rattle.hs_grammar.proofs.Complete.{complete, tokens_length}
use Rattle.hs_grammar.proofs.Agree.{Rel, bad, with_end, InOut, Within, within_bind, within_done, within_another, within_behind, SameHead, Agree, agree_bind, agree_done, agree_choose, agree_take, agree_loop, agree_another, agree_item, agree_bad, deep_agrees}

-- ---- what is spelled is read, at every level
pub enter_complete : (n j : ℕ) (B : Type 0) (part : OpenerPart B) (t : Token) (b : B) (w k : List Item) → SpelledIn n j B part b w k → begins (after_part part) (tokens_of k) ≡ false → enter n B part t (tokens_of w) ≡ Done b (tokens_of k)
unfolding enter
enter_complete zero j B part t b w k h g = absurd h
enter_complete (suc n) j B part t b w k h g =
    complete (suc j + n) (suc j) (enter n) (SpelledIn n (suc j)) (SpelledIn (more n) (suc j)) (parts_append n (suc j)) (parts_append (more n) (suc j)) (parts_sub n (more n) (suc j) (omega arith)) (enter_good n (suc j) (suc j + n) refl) (part_closes n (suc j)) (parts_shrink n (suc j)) (enter_complete n (suc j)) (rule_of part)
    (part_ends (suc j + n) (suc j) (enter n) (SpelledIn n (suc j)) (SpelledIn (more n) (suc j)) (parts_append n (suc j)) (parts_append (more n) (suc j)) (parts_sub n (more n) (suc j) (omega arith)) (enter_good n (suc j) (suc j + n) refl) (part_closes n (suc j)) part)
    (fine_part part) b w k h (not_begins_contained (after (rule_of part)) (after_part part) (tokens_of k) (after_rule part) g)

pub rule_complete : {A : Type 0} (n : ℕ) (r : Rule A) → plain r ≡ true → fine r ≡ true → (a : A) (w k : List Item) → Spelled (SpelledIn n 0) 0 r a w k → begins (after r) (tokens_of k) ≡ false → read (enter n) r (tokens_of w) ≡ Done a (tokens_of k)
rule_complete n r pl f a w k h g =
    complete n 0 (enter n) (SpelledIn n 0) (SpelledIn (more n) 0) (parts_append n 0) (parts_append (more n) 0) (parts_sub n (more n) 0 (omega arith)) (enter_good n 0 n (omega arith)) (part_closes n 0) (parts_shrink n 0) (enter_complete n 0) r
    (plain_ends n 0 (enter n) (SpelledIn n 0) (SpelledIn (more n) 0) (parts_append n 0) (parts_append (more n) 0) (parts_sub n (more n) 0 (omega arith)) (enter_good n 0 n (omega arith)) (part_closes n 0) r pl) f a w k h g

pub whole_complete : (n : ℕ) (x : Script) (items : List Item) → SpelledBy n x items → whole n (tokens_of items) ≡ Done x []
unfolding whole
whole_complete n x items h = ap (λ o. bind o at_end) (rule_complete n script plain_script fine_script x items [] h refl)

-- ---- it stays in the input, and takes a token
within_out : {A : Type 0} (n : ℕ) (S C : A → List Item → List Item → Type 0) (ts : List Token) (o : Out A) → GoodOut n S C ts o → InOut o ts
within_out n S C ts (Done a r) g = (tokens_of g.0, g.1)
within_out n S C ts (Stop unexpected b) g = (tokens_of g.0, g.3)
within_out n S C ts (Stop too_deep b) g = tt

within_rule : {A : Type 0} (n : ℕ) (r : Rule A) → plain r ≡ true → Within (read (enter n) r)
within_rule n r h ts = within_out n (Spelled (SpelledIn n 0) 0 r) (Spelled (SpelledIn (more n) 0) 0 r) ts (read (enter n) r ts) (rule_good n r h ts)

within_enter : (n : ℕ) (B : Type 0) (part : OpenerPart B) (t : Token) → Within (enter n B part t)
within_enter n B part t ts = by (enter_good n 0 n (omega arith) B part t ts)
  where
    by : PartOut n 0 (SpelledIn n 0 B part) (SpelledIn (more n) 0 B part) t ts (enter n B part t ts) → InOut (enter n B part t ts) ts
    by (inl h) = within_out n (SpelledIn n 0 B part) (SpelledIn (more n) 0 B part) ts (enter n B part t ts) h.1
    by (inr h) = subst (λ o. InOut o ts) (sym h.0) tt

pub takes_rule : {A : Type 0} (n : ℕ) (r : Rule A) → plain r ≡ true → fine r ≡ true → may_be_empty r ≡ false → Takes (read (enter n) r)
takes_rule {A} n r pl f e ts a q h = by (subst (GoodOut n (Spelled (SpelledIn n 0) 0 r) (Spelled (SpelledIn (more n) 0) 0 r) ts) h (rule_good n r pl ts))
  where
    by : GoodOut n (Spelled (SpelledIn n 0) 0 r) (Spelled (SpelledIn (more n) 0) 0 r) ts (Done a q) → length q < length ts
    by g = go (starts (SpelledIn n 0) (parts_shrink n 0) 0 r f a g.0 [] g.2)
      where
        go : Starts (SpelledIn n 0) (parts_shrink n 0) 0 (may_be_empty r) (firsts r) g.0 [] → length q < length ts
        go (inl s) = clash (may_be_empty r) s.0 e
        go (inr s) = omega (arith, s.1, ap length g.1, length-append (tokens_of g.0) q, tokens_length g.0)

-- ---- it looks at one token ahead
module _ (X Y : List Token) (same : SameHead X Y) where
  module _ (n m : ℕ) (inner : (B : Type 0) (part : OpenerPart B) (t : Token) → Agree X Y same (enter n B part t) (enter m B part t)) where
    within_second : {A B C : Type 0} (f : B → C → A) (q : Rule C) → plain q ≡ true → (b : B) → Within (λ r. bind (read (enter n) q r) (λ c. done (f b c)))
    within_second f q h b = within_bind (read (enter n) q) (λ c. done (f b c)) (within_rule n q h) (λ c. within_done (f b c))

    agree_second : {A B C : Type 0} (f : B → C → A) (q : Rule C) → Agree X Y same (read (enter n) q) (read (enter m) q) → (b : B) → Agree X Y same (λ r. bind (read (enter n) q r) (λ c. done (f b c))) (λ r. bind (read (enter m) q r) (λ c. done (f b c)))
    agree_second f q ag b = agree_bind X Y same (read (enter n) q) (read (enter m) q) (λ c. done (f b c)) (λ c. done (f b c)) ag (λ c. within_done (f b c)) (λ c. agree_done X Y same (f b c))

    agree_rule : {A : Type 0} (r : Rule A) → plain r ≡ true → fine r ≡ true → Agree X Y same (read (enter n) r) (read (enter m) r)
    unfolding read_then firsts may_be_empty
    agree_rule (give x) pl f = agree_done X Y same x
    agree_rule (one l c) pl f = agree_take X Y same l (λ t. done (c t)) (λ t. done (c t)) (λ t. within_done (c t)) (λ t. agree_done X Y same (c t))
    agree_rule (seq c p q) pl f = λ pre o h.
        let pls = both_true (plain p) (plain q) pl in
        let fp = both_true (fine p) (both (fine q) (apart (after p) (firsts q))) f in
        let fq = both_true (fine q) (apart (after p) (firsts q)) fp.1 in
        read_seq (enter m) c p q (pre ++ Y)
        ∙ agree_bind X Y same (read (enter n) p) (read (enter m) p) (λ b r. bind (read (enter n) q r) (λ d. done (c b d))) (λ b r. bind (read (enter m) q r) (λ d. done (c b d))) (agree_rule p pls.0 fp.0) (within_second c q pls.1) (agree_second c q (agree_rule q pls.1 fq.0))
        pre o (sym (read_seq (enter n) c p q (pre ++ X)) ∙ h)
    agree_rule (alt p q) pl f =
        let pls = both_true (plain p) (plain q) pl in
        let fp = both_true (fine p) (both (fine q) (both (negated (may_be_empty p)) (apart (firsts p) (firsts q)))) f in
        let fq = both_true (fine q) (both (negated (may_be_empty p)) (apart (firsts p) (firsts q))) fp.1 in
        agree_choose X Y same (firsts p) (read (enter n) p) (read (enter n) q) (read (enter m) p) (read (enter m) q) (agree_rule p pls.0 fp.0) (agree_rule q pls.1 fq.0)
    agree_rule {A} (go_on {B = B} c p q) pl f = λ pre o h.
        let pls = both_true (plain p) (plain q) pl in
        let fp = both_true (fine p) (both (fine q) (both (negated (may_be_empty p)) (both (negated (may_be_empty q)) (apart (after p) (firsts q))))) f in
        let fq = both_true (fine q) (both (negated (may_be_empty p)) (both (negated (may_be_empty q)) (apart (after p) (firsts q)))) fp.1 in
        let w : (x : B ⊎ A) → Within (on_left (λ b r. bind (read (enter n) q r) (λ d. done (c b d))) done x) = elim [ inl b ↦ within_second c q pls.1 b | inr a ↦ within_done a ] in
        let ag : (x : B ⊎ A) → Agree X Y same (on_left (λ b r. bind (read (enter n) q r) (λ d. done (c b d))) done x) (on_left (λ b r. bind (read (enter m) q r) (λ d. done (c b d))) done x) = elim [ inl b ↦ agree_second c q (agree_rule q pls.1 fq.0) b | inr a ↦ agree_done X Y same a ] in
        read_go_on (enter m) c p q (pre ++ Y)
        ∙ agree_bind X Y same (read (enter n) p) (read (enter m) p) (on_left (λ b r. bind (read (enter n) q r) (λ d. done (c b d))) done) (on_left (λ b r. bind (read (enter m) q r) (λ d. done (c b d))) done) (agree_rule p pls.0 fp.0) w ag
        pre o (sym (read_go_on (enter n) c p q (pre ++ X)) ∙ h)
    agree_rule (many c p) pl f =
        let fp = both_true (fine p) (both (negated (may_be_empty p)) (apart (after p) (firsts p))) f in
        let e = negated_true (may_be_empty p) (both_true (negated (may_be_empty p)) (apart (after p) (firsts p)) fp.1).0 in
        agree_bind X Y same (loop (another (firsts p) (read (enter n) p))) (loop (another (firsts p) (read (enter m) p))) (λ x. done (c x.0)) (λ x. done (c x.0))
        (agree_loop X Y same (another (firsts p) (read (enter n) p)) (another (firsts p) (read (enter m) p)) (another_takes (firsts p) (read (enter n) p) (takes_rule n p pl fp.0 e)) (another_takes (firsts p) (read (enter m) p) (takes_rule m p pl fp.0 e))
        (within_another (firsts p) (read (enter n) p) (within_rule n p pl)) (agree_another X Y same (firsts p) (read (enter n) p) (read (enter m) p) (agree_rule p pl fp.0)))
        (λ x. within_done (c x.0)) (λ x. agree_done X Y same (c x.0))
    agree_rule (ended c g sep close p) pl f = absurd (cc pl)
    agree_rule (within {B = B} c l part) pl f =
        agree_take X Y same l (λ t us. bind (enter n B part t us) (λ b. done (c t.pos b))) (λ t us. bind (enter m B part t us) (λ b. done (c t.pos b)))
        (λ t. within_bind (enter n B part t) (λ b. done (c t.pos b)) (within_enter n B part t) (λ b. within_done (c t.pos b)))
        (λ t. agree_bind X Y same (enter n B part t) (enter m B part t) (λ b. done (c t.pos b)) (λ b. done (c t.pos b)) (inner B part t) (λ b. within_done (c t.pos b)) (λ b. agree_done X Y same (c t.pos b)))

    -- a block
    agree_ended : {A B C : Type 0} (c : List B → C → A) (g : C → B) (sep close : TokenKind) (p : Rule (B ⊎ C)) → plain p ≡ true → fine p ≡ true → may_be_empty p ≡ false → Agree X Y same (read (enter n) (ended c g sep close p)) (read (enter m) (ended c g sep close p))
    unfolding read_then
    agree_ended c g sep close p pl f e =
        agree_bind X Y same (loop (item_step g sep close (read (enter n) p))) (loop (item_step g sep close (read (enter m) p))) (λ x. done (c x.0 x.1)) (λ x. done (c x.0 x.1))
        (agree_loop X Y same (item_step g sep close (read (enter n) p)) (item_step g sep close (read (enter m) p)) (item_takes g sep close (read (enter n) p) (takes_rule n p pl f e)) (item_takes g sep close (read (enter m) p) (takes_rule m p pl f e))
        (within_bind (read (enter n) p) (Rattle.hs_grammar.specs.Parser.behind_item g sep close) (within_rule n p pl) (within_behind g sep close)) (agree_item X Y same g sep close (read (enter n) p) (read (enter m) p) (agree_rule p pl f)))
        (λ x. within_done (c x.0 x.1)) (λ x. agree_done X Y same (c x.0 x.1))

    agree_part : {A : Type 0} (part : OpenerPart A)
        → Agree X Y same (read (enter n) (rule_of part)) (read (enter m) (rule_of part))
    unfolding opened
    agree_part type_in_parens = agree_rule (rule_of type_in_parens) refl (fine_part type_in_parens)
    agree_part type_in_brackets = agree_rule (rule_of type_in_brackets) refl (fine_part type_in_brackets)
    agree_part param_in_parens = agree_rule (rule_of param_in_parens) refl (fine_part param_in_parens)
    agree_part block_in_braces = agree_ended _ _ _ _ block_item plain_item fine_item refl
    agree_part block_if = agree_rule (rule_of block_if) refl (fine_part block_if)
    agree_part block_case = agree_rule (rule_of block_case) refl (fine_part block_case)
    agree_part block_arms = agree_rule (rule_of block_arms) refl (fine_part block_arms)
    agree_part let_stmt = agree_rule (rule_of let_stmt) refl (fine_part let_stmt)
    agree_part no_items = agree_rule (rule_of no_items) refl (fine_part no_items)
    agree_part two_names = agree_rule (rule_of two_names) refl (fine_part two_names)
    agree_part expr_if = agree_rule (rule_of expr_if) refl (fine_part expr_if)
    agree_part expr_case = agree_rule (rule_of expr_case) refl (fine_part expr_case)
    agree_part expr_arms = agree_rule (rule_of expr_arms) refl (fine_part expr_arms)
    agree_part expr_let = agree_rule (rule_of expr_let) refl (fine_part expr_let)
    agree_part expr_in_parens = agree_rule (rule_of expr_in_parens) refl (fine_part expr_in_parens)
    agree_part items_in_brackets = agree_rule (rule_of items_in_brackets) refl (fine_part items_in_brackets)
    agree_part items_or_none = agree_rule (rule_of items_or_none) refl (fine_part items_or_none)

  agree_enter : (n m : ℕ) → n ≤ m → (B : Type 0) (part : OpenerPart B) (t : Token) → Agree X Y same (enter n B part t) (enter m B part t)
  unfolding enter
  agree_enter zero m l B part t = λ pre o h. absurd (deep_agrees X Y same (t ∷ (pre ++ X)) o h)
  agree_enter (suc n) zero l B part t = λ pre o h. absurd (omega arith)
  agree_enter (suc n) (suc m) l B part t = agree_part n m (agree_enter n m (omega arith)) part

  end_front : (a : Script) (x y : List Token) → X ≡ x → Y ≡ y → SameHead x y → (o : Rel Script) → at_end a x ≡ with_end o X → at_end a y ≡ with_end o Y
  end_front a [] [] ex ey s o h = ap (Done a) (sym ey) ∙ agree_done X Y same a [] o (ap (Done a) ex ∙ h)
  end_front a [] (u ∷ y) ex ey s o h = absurd s
  end_front a (t ∷ x) [] ex ey s o h = absurd s
  end_front a (t ∷ x) (u ∷ y) ex ey s o h = ap (Stop unexpected) (sym ey) ∙ agree_bad X Y same [] o (ap (Stop unexpected) ex ∙ h)

  agree_end : (a : Script) → Agree X Y same (at_end a) (at_end a)
  agree_end a [] o h = end_front a X Y refl refl same o h
  agree_end a (u ∷ us) o h = agree_bad X Y same (u ∷ us) o h

  pub agree_whole : (n m : ℕ) → n ≤ m → Agree X Y same (whole n) (whole m)
  unfolding whole
  agree_whole n m l = agree_bind X Y same (read (enter n) script) (read (enter m) script) at_end at_end (agree_rule n m (agree_enter n m l) script plain_script fine_script) within_end agree_end
    where
      within_end : (a : Script) → Within (at_end a)
      within_end a [] = ([], refl)
      within_end a (t ∷ ts) = ([], refl)

-- ---- scripts
more_levels : (n m : ℕ) (x : Script) (items : List Item) → n ≤ m → SpelledBy n x items → SpelledBy m x items
more_levels n m x items l h = subs (SpelledIn n 0) (SpelledIn m 0) (parts_sub n m 0 l) 0 script x items [] h

spelled_whole : (n m : ℕ) (x : Script) (ts : List Token) → n ≤ m → SpellsWithin n x ts → whole m ts ≡ Done x []
spelled_whole n m x ts l h = ap (whole m) (sym h.2) ∙ whole_complete m x h.0 (more_levels n m x h.0 l h.1)

-- at most one script is spelled by the tokens
pub one_script : (x y : Script) (ts : List Token) → Spells x ts → Spells y ts → x ≡ y
one_script x y ts s t =
    let m = max s.0 t.0 in
    let e : Done x [] ≡ Done y [] = sym (spelled_whole s.0 m x ts (omega arith) s.1) ∙ spelled_whole t.0 m y ts (omega arith) t.1 in
    cc e

-- no script's tokens begin with what was read and the bad token
not_further : (n : ℕ) (front : List Token) (t : Token) (x : List Token) → whole n (front ++ t ∷ x) ≡ Stop unexpected (t ∷ x) → IsViable (front ++ t ∷ []) → ⊥
not_further n front t x h v =
    let s = v.2 in
    let m = max n s.0 in
    let again : whole m (front ++ t ∷ v.1) ≡ Stop unexpected (t ∷ v.1) = agree_whole (t ∷ x) (t ∷ v.1) refl n m (omega arith) front (bad []) h in
    let good = spelled_whole s.0 m v.0 ((front ++ t ∷ []) ++ v.1) (omega arith) s.1 in
    let e : Done v.0 [] ≡ Stop unexpected (t ∷ v.1) = sym good ∙ (ap (whole m) (append_assoc front (t ∷ []) v.1) ∙ again) in
    cc e

not_whole : (n : ℕ) (ts : List Token) → whole n ts ≡ Stop unexpected [] → (y : Script) → Spells y ts → ⊥
not_whole n ts h y s =
    let m = max n s.0 in
    let again : whole m (ts ++ []) ≡ Stop unexpected [] = agree_whole [] [] tt n m (omega arith) ts (bad []) (ap (whole n) (append-nil ts) ∙ h) in
    let good = spelled_whole s.0 m y ts (omega arith) s.1 in
    let e : Done y [] ≡ Stop unexpected [] = sym good ∙ (ap (whole m) (sym (append-nil ts)) ∙ again) in
    cc e

-- ---- what an outcome means
module _ (n : ℕ) (ts : List Token) where
  none_spelled : (b front : List Token) → front ++ b ≡ ts → whole n ts ≡ Stop unexpected b → (x : Script) → Spells x (front ++ b) → ⊥
  none_spelled [] front e h x s = not_whole n (front ++ []) (ap (whole n) e ∙ h) x s
  none_spelled (t ∷ b) front e h x s = not_further n front t b (ap (whole n) e ∙ h) (x, b, (s.0, (s.1.0, s.1.1, s.1.2 ∙ sym (append_assoc front (t ∷ []) b))))

  unexpected_at : (b front : List Token) → front ++ b ≡ ts → whole n ts ≡ Stop unexpected b → IsViableBelow n front → Means n ts (Stop unexpected b)
  unexpected_at b front e h v =
      (front, e, (v, none_spelled b front e h, λ t x q. not_further n front t x (ap (λ z. whole n (front ++ z)) (sym q) ∙ (ap (whole n) e ∙ (h ∙ ap (Stop unexpected) q)))))

  at_the_end : (x : Script) (r : List Token) (w : List Item) → tokens_of w ++ r ≡ ts → SpelledBy n x w → Below n w → whole n ts ≡ at_end x r → Means n ts (at_end x r)
  at_the_end x [] w e s l h = (w, s, sym (append-nil (tokens_of w)) ∙ e)
  at_the_end x (t ∷ r) w e s l h = unexpected_at (t ∷ r) (tokens_of w) e h (n, x, w, [], subst (SpelledBy n x) (sym (append-nil w)) s, refl, l)

  too_deep_at : (x : Script) (b : List Token) (w items : List Item) → tokens_of w ++ b ≡ ts → SpelledBy (more n) x (w ++ items) → Below n w → Halt too_deep n items b → whole n ts ≡ Stop too_deep b → Means n ts (Stop too_deep b)
  too_deep_at x b w [] e s l halt h = absurd halt
  too_deep_at x b w (o ∷ items) e s l halt h = (
    tokens_of w,
    o.token,
    halt.0,
    halt.1,
    e,
    (more n, x, w, items, subst (λ z. SpelledBy (more n) x (w ++ record { token = o.token; opener = z } ∷ items)) halt.2 s, refl, l),
    λ y q. let z : Done y [] ≡ Stop too_deep b = sym (spelled_whole n n y ts (omega arith) q) ∙ h in cc z,
  )

  pub means : (o : Out Script) → whole n ts ≡ o → Means n ts o
  unfolding whole
  means o h = subst (Means n ts) h (by (read (enter n) script ts) refl (rule_good n script plain_script ts))
    where
      by : (q : Out Script) → read (enter n) script ts ≡ q → GoodOut n (Spelled (SpelledIn n 0) 0 script) (Spelled (SpelledIn (more n) 0) 0 script) ts q → Means n ts (whole n ts)
      by (Done x r) e g = subst (Means n ts) (sym (ap (λ z. bind z at_end) e)) (at_the_end x r g.0 g.1 g.2 g.3 (ap (λ z. bind z at_end) e))
      by (Stop unexpected b) e g = subst (Means n ts) (sym (ap (λ z. bind z at_end) e)) (unexpected_at b (tokens_of g.0) g.3 (ap (λ z. bind z at_end) e) (more n, g.2, g.0, g.1, g.4, refl, g.5))
      by (Stop too_deep b) e g = subst (Means n ts) (sym (ap (λ z. bind z at_end) e)) (too_deep_at g.2 b g.0 g.1 g.3 g.4 g.5 g.6 (ap (λ z. bind z at_end) e))
