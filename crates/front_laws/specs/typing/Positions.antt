-- The positions of the nodes of a script (own), each node once, as the rules see the script; lists of tokens in order; and
-- which tokens are always a node's.
--
-- A node stands at its first word or token, a call at its name, and each operator at itself. A name that is bound stands at
-- itself, and a written type at its first token. What has no position but those of its parts isn't listed: a definition,
-- a statement, an arm, an operand in parentheses, and a `let`, which stands at the name that it binds: no rule can be
-- broken at the word.
use Rattle.std.specs.Prelude.{◌≡◌, ℕ, ◌<◌, ◌==◌, Bool, true, not, ◌⊎◌, List, [], ◌∷◌, ◌++◌, AllPairs}
use Rattle.std.specs.List.{list_any}
use Rattle.hs_base.specs.declared.pos.Pos.{Pos}
use Rattle.hs_base.specs.declared.tree.script.Script.{Script}
use Rattle.rules_tokens.specs.declared.token.Token.{Token}
use Rattle.rules_tokens.specs.declared.symbol.TheConstants as s
use Rattle.rules_tokens.specs.declared.word.TheConstants as w
use Rattle.rules_grammar.specs.GrammarParts as g
use Rattle.rules_grammar.specs.GrammarParts.{TokenKind}
use Rattle.rules_expansion.specs.trees.Trees.{Ex, lit, name, unary, binary, chain, conses, choose, items, empty, side, given, case, Exs, none, more, Links, end, link, Arms, maybe_arms, either_arms, list_arms, pair_arms}
use Rattle.rules_expansion.specs.trees.Programs.{SurfaceAction, bare, unary_act, binary_act, throw_io, new_empty, call, choose_act, case_act, modify, scoped, masking, restore, catch, guard, bracket, timeout, with_async, Bl, last, then, bind, let_in, ActArms, maybe_acts, either_acts, list_acts, pair_acts, Par, Bd, pure_body, io_body, Fn, script_of}

-- ---- expressions

abbrev mutual
  pub ex_positions : Ex → List Pos
  ex_positions (lit p l) = p ∷ []
  ex_positions (name x es) = x.pos ∷ exs_positions es
  ex_positions (unary o p a) = p ∷ ex_positions a
  ex_positions (binary o p a e) = p ∷ (ex_positions a ++ ex_positions e)
  ex_positions (chain a ks) = ex_positions a ++ link_positions ks
  ex_positions (conses a ks) = ex_positions a ++ link_positions ks
  ex_positions (choose p e a g) = p ∷ (ex_positions e ++ (ex_positions a ++ ex_positions g))
  ex_positions (items p es) = p ∷ exs_positions es
  ex_positions (empty o p w) = p ∷ w.pos ∷ []
  ex_positions (side o p w r a) = p ∷ w.pos ∷ r.pos ∷ ex_positions a
  ex_positions (given x a e) = x.pos ∷ (ex_positions a ++ ex_positions e)
  ex_positions (case p e arms) = p ∷ (ex_positions e ++ arm_positions arms)

  pub exs_positions : Exs → List Pos
  exs_positions none = []
  exs_positions (more e es) = ex_positions e ++ exs_positions es

  -- each operator, and what stands behind it
  pub link_positions : Links → List Pos
  link_positions end = []
  link_positions (link o p e ks) = p ∷ (ex_positions e ++ link_positions ks)

  pub arm_positions : Arms → List Pos
  arm_positions (maybe_arms a x e) = ex_positions a ++ x.pos ∷ ex_positions e
  arm_positions (either_arms x a y e) = (x.pos ∷ ex_positions a) ++ y.pos ∷ ex_positions e
  arm_positions (list_arms a x y e) = ex_positions a ++ x.pos ∷ y.pos ∷ ex_positions e
  arm_positions (pair_arms x y a) = x.pos ∷ y.pos ∷ ex_positions a

-- ---- actions and blocks

abbrev mutual
  pub act_positions : SurfaceAction → List Pos
  act_positions (bare o p) = p ∷ []
  act_positions (unary_act o p a) = p ∷ ex_positions a
  act_positions (binary_act o p a e) = p ∷ (ex_positions a ++ ex_positions e)
  act_positions (throw_io p w a) = p ∷ w.pos ∷ ex_positions a
  act_positions (new_empty p w) = p ∷ w.pos ∷ []
  act_positions (call x es) = x.pos ∷ exs_positions es
  act_positions (choose_act p e a g) = p ∷ (ex_positions e ++ (bl_positions a ++ bl_positions g))
  act_positions (case_act p e arms) = p ∷ (ex_positions e ++ act_arm_positions arms)
  act_positions (modify p a x g) = p ∷ (ex_positions a ++ x.pos ∷ bl_positions g)
  act_positions (scoped o p a) = p ∷ bl_positions a
  act_positions (masking o p x a) = p ∷ x.pos ∷ bl_positions a
  act_positions (restore p x a) = p ∷ x.pos ∷ bl_positions a
  act_positions (catch p a x g) = p ∷ (bl_positions a ++ x.pos ∷ bl_positions g)
  act_positions (guard o p a g) = p ∷ (bl_positions a ++ bl_positions g)
  act_positions (bracket p a x g h) = p ∷ (bl_positions a ++ x.pos ∷ (bl_positions g ++ bl_positions h))
  act_positions (timeout p e a) = p ∷ (ex_positions e ++ bl_positions a)
  act_positions (with_async p a x g) = p ∷ (bl_positions a ++ x.pos ∷ bl_positions g)

  pub bl_positions : Bl → List Pos
  bl_positions (last a) = act_positions a
  bl_positions (then a g) = act_positions a ++ bl_positions g
  bl_positions (bind x a g) = x.pos ∷ (act_positions a ++ bl_positions g)
  bl_positions (let_in x e g) = x.pos ∷ (ex_positions e ++ bl_positions g)

  pub act_arm_positions : ActArms → List Pos
  act_arm_positions (maybe_acts a x e) = bl_positions a ++ x.pos ∷ bl_positions e
  act_arm_positions (either_acts x a y e) = (x.pos ∷ bl_positions a) ++ y.pos ∷ bl_positions e
  act_arm_positions (list_acts a x y e) = bl_positions a ++ x.pos ∷ y.pos ∷ bl_positions e
  act_arm_positions (pair_acts x y a) = x.pos ∷ y.pos ∷ bl_positions a

-- ---- scripts

abbrev pub par_positions : List Par → List Pos
par_positions [] = []
par_positions (p ∷ ps) = p.name.pos ∷ p.ty.pos ∷ par_positions ps

-- the written result, and the body
abbrev pub body_positions : Bd → List Pos
body_positions (pure_body w e) = w.pos ∷ ex_positions e
body_positions (io_body w a) = w.pos ∷ bl_positions a

abbrev pub fn_positions : List Fn → List Pos
fn_positions [] = []
fn_positions (d ∷ ds) = (d.name.pos ∷ (par_positions d.params ++ body_positions d.body)) ++ fn_positions ds

abbrev pub positions_of : Script → List Pos
positions_of s = fn_positions (script_of s)

-- ---- tokens

-- on an earlier line, or in an earlier column of one line
abbrev pub StandsBefore : Pos → Pos → Type 0
StandsBefore p q = (p.line < q.line) ⊎ ((p.line ≡ q.line) × (p.col < q.col))

-- each token stands before all later ones
abbrev pub AreInOrder : List Token → Type 0
AreInOrder ts = AllPairs (λ t u. StandsBefore t.pos u.pos) ts

-- ---- kinds of tokens

abbrev pub among : List ℕ → ℕ → Bool
among ns n = list_any (λ m. m == n) ns

-- the words that may stand in a script without a node: those of types and of patterns, `let`, and those behind the first of
-- a form
abbrev pub words_aside : List ℕ
words_aside =
    w.INT ∷ w.BOOL ∷ w.TEXT ∷ w.THREAD_ID ∷ w.SOME_EXCEPTION ∷ w.MAYBE ∷ w.EITHER ∷ w.MVAR ∷ w.ASYNC ∷ w.IO
    ∷ w.NOTHING ∷ w.JUST ∷ w.LEFT ∷ w.RIGHT
    ∷ w.THEN ∷ w.ELSE ∷ w.OF ∷ w.LET ∷ w.IN ∷ w.STDERR ∷ []

-- the symbols that may: `:`, which patterns have too, brackets, and what stands between the parts of a form
abbrev pub symbols_aside : List ℕ
symbols_aside =
    s.COLON ∷ s.OPEN_PAREN ∷ s.CLOSE_PAREN ∷ s.OPEN_BRACKET ∷ s.CLOSE_BRACKET ∷ s.OPEN_BRACE ∷ s.CLOSE_BRACE
    ∷ s.DOUBLE_COLON ∷ s.ARROW ∷ s.LEFT_ARROW ∷ s.EQUAL ∷ s.SEMICOLON ∷ s.COMMA ∷ s.AT ∷ []

-- a token of this kind is a node's wherever it stands in a script; a word that begins with a capital stands in none
abbrev pub has_node : TokenKind → Bool
has_node g.name = true
has_node g.upper = true
has_node g.int = true
has_node g.text = true
has_node (g.word n) = not (among words_aside n)
has_node (g.symbol n) = not (among symbols_aside n)
