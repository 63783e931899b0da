-- Heads whose types stand in a table that grows.
use Rattle.std.proofs.Common.{◌≡◌, Bool, ◌+◌, List, [], ◌∷◌, ◌++◌, ℕ, suc, ◌<◌, ◌≤◌, get_or, length, drop, map, refl, ap, ◌∙◌, sym, arith, subst, append_assoc}
use Rattle.std.proofs.Math.Seq.{drop-cons}
use Rattle.hs_base.specs.declared.tree.script.Param.{Param}
use Rattle.hs_base.specs.declared.tree.script.Def.{Def}
use Rattle.hs_base.specs.declared.tree.ty.Written.{Written}
use Rattle.rules_expansion.specs.trees.Trees.{T, ty_of, wr_of}
use Rattle.rules_expansion.specs.trees.Programs.{par_of, bd_of, fn_of}
use Rattle.rules_typing.specs.Typing.{Sig}
use Rattle.rules_typing.specs.TypingScripts.{acts, result_of, param_types, sigs_from, sig_of_fn}
use Rattle.typing_table.specs.declared.table.TypeNode.{TypeNode}
use Rattle.typing_table.specs.Meaning.{Grows, known}
use Rattle.typing_table.proofs.Tables.{grows_length, grows_more, known-grows}
use Rattle.typing_parts.specs.Heads.{AllBelow, HeadBelow, HeadsBelow}
use Rattle.typing_parts.specs.Views.{place_types, sig_of, sigs_of}
use Rattle.typing_parts.specs.declared.entry.Fun.{Fun}

-- ---- places of a table that grew

below_more : (is : List ℕ) (m n : ℕ) → m ≤ n → AllBelow is m → AllBelow is n
below_more [] m n h b = b
below_more (i ∷ is) m n h b = (let l : i < m = b.0 in omega (arith, l, h), below_more is m n h b.1)

below_push : (is : List ℕ) (i n : ℕ) → AllBelow is n → i < n → AllBelow (is ++ i ∷ []) n
below_push [] i n b h = (h, tt)
below_push (x ∷ is) i n b h = (b.0, below_push is i n b.1 h)

types_push : (ms : List TypeNode) (is : List ℕ) (i : ℕ) → place_types ms (is ++ i ∷ []) ≡ place_types ms is ++ known ms i ∷ []
types_push ms [] i = refl
types_push ms (x ∷ is) i = ap (λ z. known ms x ∷ z) (types_push ms is i)

types_grow : (old new : List TypeNode) (is : List ℕ) → Grows old new → AllBelow is (length old) → place_types new is ≡ place_types old is
types_grow old new [] g b = refl
types_grow old new (i ∷ is) g b = ap (λ z. z ∷ place_types new is) (known-grows old new i g b.0) ∙ ap (λ z. known old i ∷ z) (types_grow old new is g b.1)

-- one more parameter
pub places_step : (old one two : List TypeNode) (ps : List Param) (i : ℕ) (p : Param) (ts us : List ℕ) (place : ℕ)
    → i < length ps → p ≡ get_or ps i p → us ≡ ts ++ place ∷ []
    → Grows one two × (place < length two) × (known two place ≡ ty_of p.ty.ty)
    → Grows old one × AllBelow ts (length one) × (place_types one ts ++ param_types (map par_of (drop i ps)) ≡ param_types (map par_of ps))
    → Grows old two × AllBelow us (length two) × (place_types two us ++ param_types (map par_of (drop (i + 1) ps)) ≡ param_types (map par_of ps))
places_step old one two ps i p ts us place lt is eu n h =
    let k : drop i ps ≡ p ∷ drop (i + 1) ps = drop-cons ps i p lt ∙ (ap (λ z. z ∷ drop (suc i) ps) (sym is) ∙ ap (λ j. p ∷ drop j ps) (let z : suc i ≡ i + 1 = omega arith in z)) in
    let r = param_types (map par_of (drop (i + 1) ps)) in
    let b : AllBelow (ts ++ place ∷ []) (length two) = below_push ts place (length two) (below_more ts (length one) (length two) (grows_length one two n.0) h.1) n.1 in (
      grows_more old one two h.0 n.0,
      subst (λ z. AllBelow z (length two)) (sym eu) b,
      ap (λ z. place_types two z ++ r) eu ∙ (ap (λ z. z ++ r) (types_push two ts place) ∙ (append_assoc (place_types two ts) (known two place ∷ []) r
          ∙ (ap (λ z. place_types two ts ++ z ∷ r) n.2 ∙ (ap (λ z. z ++ ty_of p.ty.ty ∷ r) (types_grow one two ts n.0 h.1) ∙ (ap (λ z. place_types one ts ++ param_types (map par_of z)) (sym k) ∙ h.2))))),
    )

-- ---- heads

-- the head of a definition whose types stand in the table
pub head_step : (old one two : List TypeNode) (k : ℕ) (d : Def) (params : List ℕ) (result : ℕ) (text : List ℕ) (io : Bool) (w : Written)
    → text ≡ d.name.text → io ≡ acts (bd_of d.body) → wr_of w ≡ result_of (bd_of d.body)
    → Grows old one × AllBelow params (length one) × (place_types one params ≡ param_types (map par_of d.params))
    → Grows one two × (result < length two) × (known two result ≡ ty_of w.ty)
    → Grows old two × HeadBelow (record { text = text; acts = io; params = params; result = result; place = k }) (length two)
    × (sig_of two (record { text = text; acts = io; params = params; result = result; place = k }) ≡ sig_of_fn k (fn_of d))
head_step old one two k d params result text io w et ea ew h n =
    let made : List ℕ → Bool → List T → T → Sig = λ x a ts t. record { spelling = x; acts = a; params = ts; result = t; place = k } in
    let ts : place_types two params ≡ param_types (map par_of d.params) = types_grow one two params n.0 h.1 ∙ h.2 in
    let t : known two result ≡ (result_of (bd_of d.body)).ty = n.2 ∙ ap (λ z. z.ty) ew in (
      grows_more old one two h.0 n.0,
      (below_more params (length one) (length two) (grows_length one two n.0) h.1, n.1),
      ap (λ z. made z io (place_types two params) (known two result)) et ∙ (ap (λ z. made d.name.text z (place_types two params) (known two result)) ea
          ∙ (ap (λ z. made d.name.text (acts (bd_of d.body)) z (known two result)) ts ∙ ap (made d.name.text (acts (bd_of d.body)) (param_types (map par_of d.params))) t)),
    )

head_more : (f : Fun) (m n : ℕ) → m ≤ n → HeadBelow f m → HeadBelow f n
head_more f m n h b = (below_more f.params m n h b.0, let l : f.result < m = b.1 in omega (arith, l, h))

heads_more : (fs : List Fun) (m n : ℕ) → m ≤ n → HeadsBelow fs m → HeadsBelow fs n
heads_more [] m n h b = b
heads_more (f ∷ fs) m n h b = (head_more f m n h b.0, heads_more fs m n h b.1)

heads_push : (fs : List Fun) (f : Fun) (n : ℕ) → HeadsBelow fs n → HeadBelow f n → HeadsBelow (fs ++ f ∷ []) n
heads_push [] f n b h = (h, tt)
heads_push (x ∷ fs) f n b h = (b.0, heads_push fs f n b.1 h)

sig_grows : (old new : List TypeNode) (f : Fun) → Grows old new → HeadBelow f (length old) → sig_of new f ≡ sig_of old f
sig_grows old new f g b =
    let made : List T → T → Sig = λ ts t. record { spelling = f.text; acts = f.acts; params = ts; result = t; place = f.place } in
    ap (λ ts. made ts (known new f.result)) (types_grow old new f.params g b.0) ∙ ap (made (place_types old f.params)) (known-grows old new f.result g b.1)

sigs_grow : (old new : List TypeNode) (fs : List Fun) → Grows old new → HeadsBelow fs (length old)
    → sigs_of new fs ≡ sigs_of old fs
sigs_grow old new [] g b = refl
sigs_grow old new (f ∷ fs) g b = ap (λ z. z ∷ sigs_of new fs) (sig_grows old new f g b.0) ∙ ap (λ z. sig_of old f ∷ z) (sigs_grow old new fs g b.1)

sigs_of-push : (ms : List TypeNode) (fs : List Fun) (f : Fun) → sigs_of ms (fs ++ f ∷ []) ≡ sigs_of ms fs ++ sig_of ms f ∷ []
sigs_of-push ms [] f = refl
sigs_of-push ms (x ∷ fs) f = ap (λ z. sig_of ms x ∷ z) (sigs_of-push ms fs f)

-- one more definition
pub heads_step : (one two : List TypeNode) (ds : List Def) (i : ℕ) (d : Def) (fs us : List Fun) (f : Fun)
    → i < length ds → d ≡ get_or ds i d → us ≡ fs ++ f ∷ []
    → Grows one two × HeadBelow f (length two) × (sig_of two f ≡ sig_of_fn i (fn_of d))
    → HeadsBelow fs (length one) × (sigs_of one fs ++ sigs_from i (map fn_of (drop i ds)) ≡ sigs_from 0 (map fn_of ds))
    → HeadsBelow us (length two) × (sigs_of two us ++ sigs_from (i + 1) (map fn_of (drop (i + 1) ds)) ≡ sigs_from 0 (map fn_of ds))
heads_step one two ds i d fs us f lt is eu n h =
    let k : drop i ds ≡ d ∷ drop (i + 1) ds = drop-cons ds i d lt ∙ (ap (λ z. z ∷ drop (suc i) ds) (sym is) ∙ ap (λ j. d ∷ drop j ds) (let z : suc i ≡ i + 1 = omega arith in z)) in
    let r = sigs_from (i + 1) (map fn_of (drop (i + 1) ds)) in
    let b : HeadsBelow (fs ++ f ∷ []) (length two) = heads_push fs f (length two) (heads_more fs (length one) (length two) (grows_length one two n.0) h.0) n.1 in (
      subst (λ z. HeadsBelow z (length two)) (sym eu) b,
      ap (λ z. sigs_of two z ++ r) eu ∙ (ap (λ z. z ++ r) (sigs_of-push two fs f) ∙ (append_assoc (sigs_of two fs) (sig_of two f ∷ []) r
          ∙ (ap (λ z. sigs_of two fs ++ z ∷ r) n.2 ∙ (ap (λ z. z ++ sig_of_fn i (fn_of d) ∷ r) (sigs_grow one two fs n.0 h.0) ∙ (ap (λ z. sigs_of one fs ++ sigs_from i (map fn_of z)) (sym k) ∙ h.1))))),
    )
