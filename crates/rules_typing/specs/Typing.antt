-- The typing rules of expressions (own; the types of the forms follow the signatures of `base`).
--
-- A row of the tables says what a form needs of the types of its parts, from the left to the right, and which type it
-- has. A node is judged where all its parts have types; the first need that isn't met breaks Mismatch at the node. A
-- node that breaks a rule has no type, so the nodes round it aren't judged.
use Rattle.std.specs.Prelude.{◌≡◌, ℕ, ◌+◌, ◌<◌, ◌≤◌, ◌==◌, ◌⊎◌, List, [], ◌∷◌, map, length, Bool, true, false, cond, Option, Some, None, ltb}
use Rattle.std.specs.Str.{bytes_eq}
use Rattle.hs_base.specs.declared.pos.Pos.{Pos}
use Rattle.hs_base.specs.declared.tree.expr.Name.{Name}
use Rattle.hs_base.specs.declared.tree.forms.UnaryForm.{UnaryForm}
use Rattle.hs_base.specs.declared.tree.forms.UnaryForm.TheVariants as u
use Rattle.hs_base.specs.declared.tree.forms.BinaryForm.{BinaryForm}
use Rattle.hs_base.specs.declared.tree.forms.BinaryForm.TheVariants as b
use Rattle.hs_base.specs.declared.tree.forms.EmptyForm.{EmptyForm}
use Rattle.hs_base.specs.declared.tree.forms.EmptyForm.TheVariants as n
use Rattle.hs_base.specs.declared.tree.forms.SideForm.{SideForm}
use Rattle.hs_base.specs.declared.tree.forms.SideForm.TheVariants as d
use Rattle.rules_expansion.specs.trees.Trees.{T, unit, int, bool, text, thread, exn, pair, maybe, either, list, cell, async, Wr, Lit, number, letters, truth, nothing_more, exception, Ex, lit, name, unary, binary, chain, conses, choose, items, empty, side, given, case, Exs, none, more, Links, end, link, Arms, maybe_arms, either_arms, list_arms, pair_arms}

-- ---- broken rules

-- the forms of types that a row may ask for; the last three are the types that can be compared, ordered and shown
pub data Form : Type 0 where
  a_maybe : Form
  an_either : Form
  a_list : Form
  a_pair : Form
  a_cell : Form
  an_async : Form
  equal : Form
  order : Form
  shown : Form

-- what a row wanted: this type, or a type of this form
pub data Wanted : Type 0 where
  exactly : T → Wanted
  of_form : Form → Wanted

-- a broken rule, where it is broken; a Mismatch has what was wanted and found, an Arity the two counts of arguments
pub data Fault : Type 0 where
  twice : Pos → Fault
  unknown : Pos → Fault
  kind : Pos → Fault
  forward : Pos → Fault
  arity : Pos → ℕ → ℕ → Fault
  mismatch : Pos → Wanted → T → Fault
  scope : Pos → Fault
  wide : Pos → Fault
  large : Pos → Fault

-- ---- types

-- the nodes of a type
abbrev pub nodes : T → ℕ
nodes unit = 1
nodes int = 1
nodes bool = 1
nodes text = 1
nodes thread = 1
nodes exn = 1
nodes (pair a b) = 1 + nodes a + nodes b
nodes (maybe a) = 1 + nodes a
nodes (either a b) = 1 + nodes a + nodes b
nodes (list a) = 1 + nodes a
nodes (cell a) = 1 + nodes a
nodes (async a) = 1 + nodes a

-- the types of a form
abbrev pub Has : Form → T → Type 0
Has a_maybe t = (a : T) × (t ≡ maybe a)
Has an_either t = (a b : T) × (t ≡ either a b)
Has a_list t = (a : T) × (t ≡ list a)
Has a_pair t = (a b : T) × (t ≡ pair a b)
Has a_cell t = (a : T) × (t ≡ cell a)
Has an_async t = (a : T) × (t ≡ async a)
Has equal t = (t ≡ int) ⊎ (t ≡ bool) ⊎ (t ≡ text) ⊎ (t ≡ thread) ⊎ (t ≡ exn)
Has order t = (t ≡ int) ⊎ (t ≡ text)
Has shown t = (t ≡ int) ⊎ (t ≡ bool) ⊎ (t ≡ thread) ⊎ (t ≡ exn)

-- the parts of a type of a form
abbrev pub first_of : T → T
first_of (pair a b) = a
first_of (either a b) = a
first_of _ = unit

abbrev pub second_of : T → T
second_of (pair a b) = b
second_of (either a b) = b
second_of _ = unit

abbrev pub inner_of : T → T
inner_of (maybe a) = a
inner_of (list a) = a
inner_of (cell a) = a
inner_of (async a) = a
inner_of _ = unit

-- ---- rows

-- what a row asks of a part: this type of that one, or that it is of this form
pub data Need : Type 0 where
  is : T → T → Need
  of : Form → T → Need

abbrev pub Met : Need → Type 0
Met (is want got) = want ≡ got
Met (of form got) = Has form got

abbrev pub refusal : Pos → Need → Fault
refusal p (is want got) = mismatch p (exactly want) got
refusal p (of form got) = mismatch p (of_form form) got

-- a row for parts of known types: the needs, the type, and whether the form makes it
pub record Row : Type 0 where
  pub needs : List Need
  pub type : T
  pub makes : Bool

abbrev pub gives : List Need → T → Row
gives ns t = record { needs = ns; type = t; makes = false }

abbrev pub makes : List Need → T → Row
makes ns t = record { needs = ns; type = t; makes = true }

abbrev pub AllMet : List Need → Type 0
AllMet [] = Unit {0}
AllMet (n ∷ ns) = Met n × AllMet ns

abbrev pub FirstUnmet : Pos → List Need → Fault → Type 0
FirstUnmet p [] f = ⊥
FirstUnmet p (n ∷ ns) f = ((Met n → ⊥) × (f ≡ refusal p n)) ⊎ (Met n × FirstUnmet p ns f)

-- the type, unless the form makes one of more than 64 nodes
abbrev pub Makes : Bool → T → T → Type 0
Makes m made t = (m ≡ true → nodes made ≤ 64) × (t ≡ made)

abbrev pub TooWide : Pos → Bool → T → Fault → Type 0
TooWide p m made f = (m ≡ true) × (64 < nodes made) × (f ≡ wide p)

-- a node with that row has type t, or breaks rule f
abbrev pub Gives : Row → T → Type 0
Gives r t = AllMet r.needs × Makes r.makes r.type t

abbrev pub Breaks : Pos → Row → Fault → Type 0
Breaks p r f = FirstUnmet p r.needs f ⊎ (AllMet r.needs × TooWide p r.makes r.type f)

-- ---- the table of expressions

abbrev pub type_of_lit : Lit → T
type_of_lit (number m) = int
type_of_lit (letters x) = text
type_of_lit (truth b) = bool
type_of_lit nothing_more = unit
type_of_lit (exception e) = exn

abbrev pub row_unary : UnaryForm → T → Row
row_unary u.Just a = makes [] (maybe a)
row_unary u.ErrorCall a = gives (is text a ∷ []) exn
row_unary u.Not a = gives (is bool a ∷ []) bool
row_unary u.Fst a = gives (of a_pair a ∷ []) (first_of a)
row_unary u.Snd a = gives (of a_pair a ∷ []) (second_of a)
row_unary u.Show a = gives (of shown a ∷ []) text
row_unary u.Negate a = gives (is int a ∷ []) int

abbrev pub row_binary : BinaryForm → T → T → Row
row_binary b.Pair a c = makes [] (pair a c)
row_binary b.Div a c = gives (is int a ∷ is int c ∷ []) int
row_binary b.Mod a c = gives (is int a ∷ is int c ∷ []) int
row_binary b.Equal a c = gives (of equal a ∷ is a c ∷ []) bool
row_binary b.Unequal a c = gives (of equal a ∷ is a c ∷ []) bool
row_binary b.Less a c = gives (of order a ∷ is a c ∷ []) bool
row_binary b.AtMost a c = gives (of order a ∷ is a c ∷ []) bool
row_binary b.Greater a c = gives (of order a ∷ is a c ∷ []) bool
row_binary b.AtLeast a c = gives (of order a ∷ is a c ∷ []) bool
row_binary b.Or a c = gives (is bool a ∷ is bool c ∷ []) bool
row_binary b.And a c = gives (is bool a ∷ is bool c ∷ []) bool
row_binary b.Plus a c = gives (is int a ∷ is int c ∷ []) int
row_binary b.Minus a c = gives (is int a ∷ is int c ∷ []) int
row_binary b.Times a c = gives (is int a ∷ is int c ∷ []) int
row_binary b.Cons a c = gives (is (list a) c ∷ []) (list a)
row_binary b.Append a c = gives (is text a ∷ is text c ∷ []) text

abbrev pub row_empty : EmptyForm → T → Row
row_empty n.Nothing t = makes [] (maybe t)
row_empty n.EmptyList t = makes [] (list t)

-- Left @t @v a and Right @t @v a
abbrev pub row_side : SideForm → T → T → T → Row
row_side d.Left t v a = makes (is t a ∷ []) (either t v)
row_side d.Right t v a = makes (is v a ∷ []) (either t v)

abbrev pub row_choose : T → T → T → Row
row_choose c a e = gives (is bool c ∷ is a e ∷ []) a

abbrev pub row_items : List T → Row
row_items [] = makes [] (list unit)
row_items (t ∷ ts) = makes (map (is t) ts) (list t)

-- two arms of a `case`, or a block and its handler
abbrev pub row_arms : T → T → Row
row_arms a e = gives (is a e ∷ []) a

-- the form that the alternatives of a `case` ask for
abbrev pub form_of_arms : Arms → Form
form_of_arms (maybe_arms a x e) = a_maybe
form_of_arms (either_arms x a y e) = an_either
form_of_arms (list_arms a x y e) = a_list
form_of_arms (pair_arms x y a) = a_pair

-- a written type stands for itself where it has at most 64 nodes
abbrev pub IsWritten : Wr → T → Type 0
IsWritten w t = (nodes w.ty ≤ 64) × (t ≡ w.ty)

abbrev pub WrittenBreaks : Wr → Fault → Type 0
WrittenBreaks w f = (64 < nodes w.ty) × (f ≡ wide w.pos)

-- ---- scopes and functions

-- what a name of a scope is: a value of a type, or a masking name, which only `restore` takes
pub data Sort : Type 0 where
  value : T → Sort
  masking_name : Sort

pub record TypedName : Type 0 where
  pub spelling : List ℕ
  pub sort : Sort

abbrev pub bound : Name → T → TypedName
bound x t = record { spelling = x.text; sort = value t }

abbrev pub masked : Name → TypedName
masked x = record { spelling = x.text; sort = masking_name }

-- what calls know of a definition: its name, whether it is an action function, its parameters' types, its result, and
-- how many definitions stand before it
pub record Sig : Type 0 where
  pub spelling : List ℕ
  pub acts : Bool
  pub params : List T
  pub result : T
  pub place : ℕ

-- all definitions, and the place of the one that is judged
pub record Ctx : Type 0 where
  pub sigs : List Sig
  pub here : ℕ

-- the last name of a scope hides earlier equal ones
abbrev pub look : List TypedName → List ℕ → Option Sort
look [] x = None
look (b ∷ s) x = cond (bytes_eq b.spelling x) (Some b.sort) (look s x)

-- of two definitions of one name the first is meant
abbrev pub find : List Sig → List ℕ → Option Sig
find [] x = None
find (g ∷ gs) x = cond (bytes_eq g.spelling x) (Some g) (find gs x)

-- what a name with that many arguments means: a broken rule, or parameters and a result
pub data Meant : Type 0 where
  wrong : Fault → Meant
  takes : List T → T → Meant

-- a count of arguments as it is shown, in 32 bits
abbrev pub shown_count : ℕ → ℕ
shown_count n = cond (ltb n 4294967295) n 4294967295

abbrev pub meant_args : Pos → ℕ → List T → T → Meant
meant_args p n params result = cond (length params == n) (takes params result) (wrong (arity p (shown_count (length params)) (shown_count n)))

-- a name in an expression: Unknown, Kind, Forward and Arity in this order. A value of the scope takes no arguments.
abbrev pub meant_sig : Ctx → Pos → ℕ → Option Sig → Meant
meant_sig c p n None = wrong (unknown p)
meant_sig c p n (Some g) = cond g.acts (wrong (kind p)) (cond (ltb g.place c.here) (meant_args p n g.params g.result) (wrong (forward p)))

abbrev pub meant_sort : Ctx → Name → ℕ → Option Sort → Meant
meant_sort c x n None = meant_sig c x.pos n (find c.sigs x.text)
meant_sort c x n (Some masking_name) = wrong (kind x.pos)
meant_sort c x n (Some (value t)) = meant_args x.pos n [] t

abbrev pub meant : Ctx → List TypedName → Name → ℕ → Meant
meant c s x n = meant_sort c x n (look s x.text)

-- a name in an action: an action function, wherever it is defined
abbrev pub meant_act_sig : Pos → ℕ → Option Sig → Meant
meant_act_sig p n None = wrong (unknown p)
meant_act_sig p n (Some g) = cond g.acts (meant_args p n g.params g.result) (wrong (kind p))

abbrev pub meant_act_sort : Ctx → Name → ℕ → Option Sort → Meant
meant_act_sort c x n None = meant_act_sig x.pos n (find c.sigs x.text)
meant_act_sort c x n (Some sort) = wrong (kind x.pos)

abbrev pub meant_act : Ctx → List TypedName → Name → ℕ → Meant
meant_act c s x n = meant_act_sort c x n (look s x.text)

-- a name after `restore` is to be a masking name: the rule that it breaks, if any
abbrev pub unmask_sig : Pos → Option Sig → Option Fault
unmask_sig p None = Some (unknown p)
unmask_sig p (Some g) = Some (kind p)

abbrev pub unmask_sort : Ctx → Name → Option Sort → Option Fault
unmask_sort c x None = unmask_sig x.pos (find c.sigs x.text)
unmask_sort c x (Some masking_name) = None
unmask_sort c x (Some (value t)) = Some (kind x.pos)

abbrev pub no_mask : Ctx → List TypedName → Name → Option Fault
no_mask c s x = unmask_sort c x (look s x.text)

-- each argument is of its parameter's type
abbrev pub is_each : List T → List T → List Need
is_each (t ∷ ts) (u ∷ us) = is t u ∷ is_each ts us
is_each _ _ = []

-- a call: what the name means, and the arguments of its parameters' types
abbrev pub Calls : Meant → List T → T → Type 0
Calls m us t = (params : List T) × (m ≡ takes params t) × AllMet (is_each params us)

abbrev pub BreaksCall : Pos → Meant → List T → Fault → Type 0
BreaksCall p m us f = (params : List T) × (t : T) × (m ≡ takes params t) × FirstUnmet p (is_each params us) f

-- the scope takes one more name, or it has 64; hidden names and masking names count
abbrev pub NotFull : List TypedName → Type 0
NotFull s = length s < 64

abbrev pub NoRoom : List TypedName → Name → Fault → Type 0
NoRoom s x f = (64 ≤ length s) × (f ≡ scope x.pos)

abbrev pub count : Exs → ℕ
count none = 0
count (more e es) = 1 + count es

-- ---- the type of an expression, in a scope

-- Links: H are the types of what stands before them. A chain groups from the left: what stands before a link and the
-- link's operand are its parts. `:` and `++` group from the right: the parts of a link are the operand before it and all
-- that follows.
abbrev mutual
  pub HasType : Ctx → List TypedName → Ex → T → Type 0
  HasType c s (lit p l) t = t ≡ type_of_lit l
  HasType c s (name x es) t = (us : List T) × HaveTypes c s es us × Calls (meant c s x (count es)) us t
  HasType c s (unary o p a) t = (u : T) × HasType c s a u × Gives (row_unary o u) t
  HasType c s (binary o p a e) t = (u v : T) × HasType c s a u × HasType c s e v × Gives (row_binary o u v) t
  HasType c s (chain a ks) t = LinksHave c s (HasType c s a) ks t
  HasType c s (conses a ks) t = ConsesHave c s (HasType c s a) ks t
  HasType c s (choose p e a g) t = (u v z : T) × HasType c s e u × HasType c s a v × HasType c s g z × Gives (row_choose u v z) t
  HasType c s (items p es) t = (us : List T) × HaveTypes c s es us × Gives (row_items us) t
  HasType c s (empty o p w) t = (u : T) × IsWritten w u × Gives (row_empty o u) t
  HasType c s (side o p w r a) t = (u v z : T) × IsWritten w u × IsWritten r v × HasType c s a z × Gives (row_side o u v z) t
  HasType c s (given x a e) t = (u : T) × HasType c s a u × NotFull s × HasType c (bound x u ∷ s) e t
  HasType c s (case p e arms) t = (u : T) × HasType c s e u × (Has (form_of_arms arms) u × ArmsHave c s p u arms t)

  pub HaveTypes : Ctx → List TypedName → Exs → List T → Type 0
  HaveTypes c s none us = us ≡ []
  HaveTypes c s (more e es) us = (u : T) × (vs : List T) × HasType c s e u × HaveTypes c s es vs × (us ≡ u ∷ vs)

  pub LinksHave : Ctx → List TypedName → (T → Type 0) → Links → T → Type 0
  LinksHave c s H end t = H t
  LinksHave c s H (link o p e ks) t = LinksHave c s (λ w. (u v : T) × H u × HasType c s e v × Gives (row_binary o u v) w) ks t

  pub ConsesHave : Ctx → List TypedName → (T → Type 0) → Links → T → Type 0
  ConsesHave c s H end t = H t
  ConsesHave c s H (link o p e ks) t = (u v : T) × H u × ConsesHave c s (HasType c s e) ks v × Gives (row_binary o u v) t

  pub ArmsHave : Ctx → List TypedName → Pos → T → Arms → T → Type 0
  ArmsHave c s p u (maybe_arms a x e) t = (v z : T) × HasType c s a v × (NotFull s × HasType c (bound x (inner_of u) ∷ s) e z) × Gives (row_arms v z) t
  ArmsHave c s p u (either_arms x a y e) t = (v z : T) × (NotFull s × HasType c (bound x (first_of u) ∷ s) a v) × (NotFull s × HasType c (bound y (second_of u) ∷ s) e z) × Gives (row_arms v z) t
  ArmsHave c s p u (list_arms a x y e) t = (v z : T) × HasType c s a v × (NotFull s × (NotFull (bound x (inner_of u) ∷ s) × HasType c (bound y u ∷ bound x (inner_of u) ∷ s) e z)) × Gives (row_arms v z) t
  ArmsHave c s p u (pair_arms x y a) t = NotFull s × (NotFull (bound x (first_of u) ∷ s) × HasType c (bound y (second_of u) ∷ bound x (first_of u) ∷ s) a t)

-- ---- the rules that an expression breaks: those of its parts, and its own where its parts have types

abbrev mutual
  pub BreaksIn : Ctx → List TypedName → Ex → Fault → Type 0
  BreaksIn c s (lit p l) f = ⊥
  BreaksIn c s (name x es) f = BreaksAny c s es f ⊎ ((meant c s x (count es) ≡ wrong f) ⊎ ((us : List T) × HaveTypes c s es us × BreaksCall x.pos (meant c s x (count es)) us f))
  BreaksIn c s (unary o p a) f = BreaksIn c s a f ⊎ ((u : T) × HasType c s a u × Breaks p (row_unary o u) f)
  BreaksIn c s (binary o p a e) f = (BreaksIn c s a f ⊎ BreaksIn c s e f) ⊎ ((u v : T) × HasType c s a u × HasType c s e v × Breaks p (row_binary o u v) f)
  BreaksIn c s (chain a ks) f = BreaksIn c s a f ⊎ LinksBreak c s (HasType c s a) ks f
  BreaksIn c s (conses a ks) f = BreaksIn c s a f ⊎ ConsesBreak c s (HasType c s a) ks f
  BreaksIn c s (choose p e a g) f = (BreaksIn c s e f ⊎ BreaksIn c s a f ⊎ BreaksIn c s g f) ⊎ ((u v z : T) × HasType c s e u × HasType c s a v × HasType c s g z × Breaks p (row_choose u v z) f)
  BreaksIn c s (items p es) f = BreaksAny c s es f ⊎ ((us : List T) × HaveTypes c s es us × Breaks p (row_items us) f)
  BreaksIn c s (empty o p w) f = WrittenBreaks w f ⊎ ((u : T) × IsWritten w u × Breaks p (row_empty o u) f)
  BreaksIn c s (side o p w r a) f = (WrittenBreaks w f ⊎ WrittenBreaks r f ⊎ BreaksIn c s a f) ⊎ ((u v z : T) × IsWritten w u × IsWritten r v × HasType c s a z × Breaks p (row_side o u v z) f)
  BreaksIn c s (given x a e) f = NoRoom s x f ⊎ (BreaksIn c s a f ⊎ ((u : T) × HasType c s a u × NotFull s × BreaksIn c (bound x u ∷ s) e f))
  BreaksIn c s (case p e arms) f = BreaksIn c s e f ⊎ ((u : T) × HasType c s e u × (FirstUnmet p (of (form_of_arms arms) u ∷ []) f ⊎ (Has (form_of_arms arms) u × ArmsBreak c s p u arms f)))

  pub BreaksAny : Ctx → List TypedName → Exs → Fault → Type 0
  BreaksAny c s none f = ⊥
  BreaksAny c s (more e es) f = BreaksIn c s e f ⊎ BreaksAny c s es f

  pub LinksBreak : Ctx → List TypedName → (T → Type 0) → Links → Fault → Type 0
  LinksBreak c s H end f = ⊥
  LinksBreak c s H (link o p e ks) f = (BreaksIn c s e f ⊎ ((u v : T) × H u × HasType c s e v × Breaks p (row_binary o u v) f))
      ⊎ LinksBreak c s (λ w. (u v : T) × H u × HasType c s e v × Gives (row_binary o u v) w) ks f

  pub ConsesBreak : Ctx → List TypedName → (T → Type 0) → Links → Fault → Type 0
  ConsesBreak c s H end f = ⊥
  ConsesBreak c s H (link o p e ks) f = (BreaksIn c s e f ⊎ ConsesBreak c s (HasType c s e) ks f)
      ⊎ ((u v : T) × H u × ConsesHave c s (HasType c s e) ks v × Breaks p (row_binary o u v) f)

  pub ArmsBreak : Ctx → List TypedName → Pos → T → Arms → Fault → Type 0
  ArmsBreak c s p u (maybe_arms a x e) f = (BreaksIn c s a f ⊎ (NoRoom s x f ⊎ (NotFull s × BreaksIn c (bound x (inner_of u) ∷ s) e f)))
      ⊎ ((v z : T) × HasType c s a v × (NotFull s × HasType c (bound x (inner_of u) ∷ s) e z) × Breaks p (row_arms v z) f)
  ArmsBreak c s p u (either_arms x a y e) f = ((NoRoom s x f ⊎ (NotFull s × BreaksIn c (bound x (first_of u) ∷ s) a f)) ⊎ (NoRoom s y f ⊎ (NotFull s × BreaksIn c (bound y (second_of u) ∷ s) e f)))
      ⊎ ((v z : T) × (NotFull s × HasType c (bound x (first_of u) ∷ s) a v) × (NotFull s × HasType c (bound y (second_of u) ∷ s) e z) × Breaks p (row_arms v z) f)
  ArmsBreak c s p u (list_arms a x y e) f = (BreaksIn c s a f ⊎ (NoRoom s x f ⊎ (NotFull s × (NoRoom (bound x (inner_of u) ∷ s) y f ⊎ (NotFull (bound x (inner_of u) ∷ s) × BreaksIn c (bound y u ∷ bound x (inner_of u) ∷ s) e f)))))
      ⊎ ((v z : T) × HasType c s a v × (NotFull s × (NotFull (bound x (inner_of u) ∷ s) × HasType c (bound y u ∷ bound x (inner_of u) ∷ s) e z)) × Breaks p (row_arms v z) f)
  ArmsBreak c s p u (pair_arms x y a) f = NoRoom s x f ⊎ (NotFull s × (NoRoom (bound x (first_of u) ∷ s) y f ⊎ (NotFull (bound x (first_of u) ∷ s) × BreaksIn c (bound y (second_of u) ∷ bound x (first_of u) ∷ s) a f)))
