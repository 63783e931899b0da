-- The rules on terms with frames are the rules on trees.
use Rattle.std.proofs.Common.{◌≡◌, ℕ, zero, suc, List, [], ◌∷◌, ◌++◌, Option, Some, None, refl, sym, ap, ◌∙◌, append-nil}
use Rattle.hs_base.specs.declared.mask.Mask.{Mask}
use Rattle.hs_base.specs.declared.mask.Mask.TheVariants.{Unmasked, Masked}
use Rattle.hs_base.specs.declared.exn.Exn.{Exn}
use Rattle.hs_base.specs.Masks.{join_of}
use Rattle.rules_expansion.specs.Names.{Name}
use Rattle.rules_meaning.specs.Values.{V, Exception, Env, with_name}
use Rattle.rules_expansion.specs.Core.{Core}
use Rattle.rules_meaning.specs.CoreMeaning.{Code}
use Rattle.hs_rules.specs.Terms.{Part, Ret, Throw, Do, Performs, Frame, BindTo, CatchBy, MaskIn, Term, term, mask_at}
use Rattle.hs_rules.specs.LocalRules.{first_step, ret_step, throw_step, on_top, on_term, local, locals}
use Rattle.hs_laws.specs.TermTrees.{Tree, TreeRet, TreeThrow, TreeDo, TreeOp, TreeBind, TreeCatch, TreeMask, leaf, around, tree_of, active, mask_within, mask_of, replace, map_tree, tree_step, tree_local, on_tree, tree_locals}

-- the state inside frames that stand in state s
abbrev mask_from : List Frame → Mask → Mask
mask_from [] s = s
mask_from (BindTo x b env ∷ fs) s = mask_from fs s
mask_from (CatchBy x b env ∷ fs) s = mask_from fs s
mask_from (MaskIn m ∷ fs) s = m

mask_from_open : (fs : List Frame) → mask_from fs Unmasked ≡ mask_at fs
mask_from_open [] = refl
mask_from_open (BindTo x b env ∷ fs) = mask_from_open fs
mask_from_open (CatchBy x b env ∷ fs) = mask_from_open fs
mask_from_open (MaskIn m ∷ fs) = refl

-- a tree that is no result
abbrev GoesOn : Tree → Type 0
GoesOn (TreeRet v) = ⊥
GoesOn (TreeThrow e) = ⊥
GoesOn _ = Unit {0}

map_map : {A : Type 0} (f : A → Tree) (g : Tree → Tree) (o : Option A) → map_tree g (map_tree f o) ≡ map_tree (λ a. g (f a)) o
map_map f g None = refl
map_map f g (Some a) = refl

in_bind : (code : Code) (t : Tree) (x : Name) (b : Core) (env : Env) (s : Mask) → GoesOn t → tree_step code (TreeBind t x b env) s ≡ map_tree (λ u. TreeBind u x b env) (tree_step code t s)
in_bind code (TreeRet v) x b env s g = absurd g
in_bind code (TreeThrow e) x b env s g = absurd g
in_bind code _ x b env s g = refl

in_catch : (code : Code) (t : Tree) (x : Name) (b : Core) (env : Env) (s : Mask) → GoesOn t → tree_step code (TreeCatch t x b env) s ≡ map_tree (λ u. TreeCatch u x b env) (tree_step code t s)
in_catch code (TreeRet v) x b env s g = absurd g
in_catch code (TreeThrow e) x b env s g = absurd g
in_catch code _ x b env s g = refl

in_mask : (code : Code) (t : Tree) (m s : Mask) → GoesOn t → tree_step code (TreeMask m t) s ≡ map_tree (TreeMask m) (tree_step code t m)
in_mask code (TreeRet v) m s g = absurd g
in_mask code (TreeThrow e) m s g = absurd g
in_mask code _ m s g = refl

-- a step inside a context
inside : (code : Code) (fs : List Frame) (t : Tree) (s : Mask) → GoesOn t → tree_step code (around fs t) s ≡ map_tree (around fs) (tree_step code t (mask_from fs s))
inside code [] t s g = same (tree_step code t s)
  where
    same : (o : Option Tree) → o ≡ map_tree (λ u. u) o
    same None = refl
    same (Some u) = refl
inside code (BindTo x b env ∷ fs) t s g =
    inside code fs (TreeBind t x b env) s tt
    ∙ (ap (map_tree (around fs)) (in_bind code t x b env (mask_from fs s) g) ∙ map_map (λ u. TreeBind u x b env) (around fs) (tree_step code t (mask_from fs s)))
inside code (CatchBy x b env ∷ fs) t s g =
    inside code fs (TreeCatch t x b env) s tt
    ∙ (ap (map_tree (around fs)) (in_catch code t x b env (mask_from fs s) g) ∙ map_map (λ u. TreeCatch u x b env) (around fs) (tree_step code t (mask_from fs s)))
inside code (MaskIn m ∷ fs) t s g =
    inside code fs (TreeMask m t) s tt
    ∙ (ap (map_tree (around fs)) (in_mask code t m (mask_from fs s) g) ∙ map_map (TreeMask m) (around fs) (tree_step code t m))

around_append : (fs gs : List Frame) (t : Tree) → around (fs ++ gs) t ≡ around gs (around fs t)
around_append [] gs t = refl
around_append (BindTo x b env ∷ fs) gs t = around_append fs gs (TreeBind t x b env)
around_append (CatchBy x b env ∷ fs) gs t = around_append fs gs (TreeCatch t x b env)
around_append (MaskIn s ∷ fs) gs t = around_append fs gs (TreeMask s t)

on_top_tree : (fs : List Frame) (o : Option Term) → map_tree tree_of (on_top fs o) ≡ map_tree (around fs) (map_tree tree_of o)
on_top_tree fs None = refl
on_top_tree fs (Some t) = ap Some (around_append t.frames fs (leaf t.part))

-- give to escape, round a value and an exception, in a context
ret_tree : (code : Code) (v : V) (fs : List Frame) → tree_step code (around fs (TreeRet v)) Unmasked ≡ map_tree tree_of (ret_step v fs)
ret_tree code v [] = refl
ret_tree code v (BindTo x b env ∷ fs) = inside code fs (TreeBind (TreeRet v) x b env) Unmasked tt
ret_tree code v (CatchBy x b env ∷ fs) = inside code fs (TreeCatch (TreeRet v) x b env) Unmasked tt
ret_tree code v (MaskIn s ∷ fs) = inside code fs (TreeMask s (TreeRet v)) Unmasked tt

throw_tree : (code : Code) (e : Exn) (fs : List Frame) → tree_step code (around fs (TreeThrow e)) Unmasked ≡ map_tree tree_of (throw_step e fs)
throw_tree code e [] = refl
throw_tree code e (BindTo x b env ∷ fs) = inside code fs (TreeBind (TreeThrow e) x b env) Unmasked tt
throw_tree code e (CatchBy x b env ∷ fs) =
    inside code fs (TreeCatch (TreeThrow e) x b env) Unmasked tt ∙ ap (λ s. Some (around fs (TreeMask (join_of Masked s) (TreeDo b (with_name x (Exception e) env))))) (mask_from_open fs)
throw_tree code e (MaskIn s ∷ fs) = inside code fs (TreeMask s (TreeThrow e)) Unmasked tt

-- ---- one local rule, and some in turn
pub same_rule : (code : Code) (t : Term) → tree_local code (tree_of t) ≡ map_tree tree_of (local code t.part t.frames)
same_rule code t = at t.part t.frames
  where
    at : (p : Part) (fs : List Frame) → tree_step code (around fs (leaf p)) Unmasked ≡ map_tree tree_of (local code p fs)
    at (Ret v) fs = ret_tree code v fs
    at (Throw e) fs = throw_tree code e fs
    at (Do a env) fs =
        inside code fs (TreeDo a env) Unmasked tt
        ∙ (ap (λ s. map_tree (around fs) (map_tree tree_of (first_step code s a env))) (mask_from_open fs) ∙ sym (on_top_tree fs (first_step code (mask_at fs) a env)))
    at (Performs op) fs = inside code fs (TreeOp op) Unmasked tt

on_same : (code : Code) (k : ℕ) (o : Option Term) → ((u : Term) → tree_locals code k (tree_of u) ≡ map_tree tree_of (locals code k u))
    → on_tree (map_tree tree_of o) (λ u. tree_locals code k u) ≡ map_tree tree_of (on_term o (λ u. locals code k u))
on_same code k None same = refl
on_same code k (Some u) same = same u

pub same_rules : (code : Code) (k : ℕ) (t : Term) → tree_locals code k (tree_of t) ≡ map_tree tree_of (locals code k t)
same_rules code zero t = refl
same_rules code (suc k) t =
    ap (λ o. on_tree o (λ u. tree_locals code k u)) (same_rule code t) ∙ on_same code k (local code t.part t.frames) (λ u. same_rules code k u)

-- ---- the active part, its masking state, and what stands in its place
active_around : (fs : List Frame) (t : Tree) → active (around fs t) ≡ active t
active_around [] t = refl
active_around (BindTo x b env ∷ fs) t = active_around fs (TreeBind t x b env)
active_around (CatchBy x b env ∷ fs) t = active_around fs (TreeCatch t x b env)
active_around (MaskIn s ∷ fs) t = active_around fs (TreeMask s t)

active_leaf : (p : Part) → active (leaf p) ≡ p
active_leaf (Ret v) = refl
active_leaf _ = refl

pub same_part : (t : Term) → active (tree_of t) ≡ t.part
same_part t = active_around t.frames (leaf t.part) ∙ active_leaf t.part

mask_around : (fs : List Frame) (t : Tree) (s : Mask) → mask_within s (around fs t) ≡ mask_within (mask_from fs s) t
mask_around [] t s = refl
mask_around (BindTo x b env ∷ fs) t s = mask_around fs (TreeBind t x b env) s
mask_around (CatchBy x b env ∷ fs) t s = mask_around fs (TreeCatch t x b env) s
mask_around (MaskIn m ∷ fs) t s = mask_around fs (TreeMask m t) s

mask_leaf : (p : Part) (s : Mask) → mask_within s (leaf p) ≡ s
mask_leaf (Ret v) s = refl
mask_leaf _ s = refl

pub same_mask : (t : Term) → mask_of (tree_of t) ≡ mask_at t.frames
same_mask t = mask_around t.frames (leaf t.part) Unmasked ∙ (mask_leaf t.part (mask_from t.frames Unmasked) ∙ mask_from_open t.frames)

replace_around : (fs : List Frame) (t u : Tree) → replace (around fs t) u ≡ around fs (replace t u)
replace_around [] t u = refl
replace_around (BindTo x b env ∷ fs) t u = replace_around fs (TreeBind t x b env) u
replace_around (CatchBy x b env ∷ fs) t u = replace_around fs (TreeCatch t x b env) u
replace_around (MaskIn s ∷ fs) t u = replace_around fs (TreeMask s t) u

replace_leaf : (p : Part) (u : Tree) → replace (leaf p) u ≡ u
replace_leaf (Ret v) u = refl
replace_leaf _ u = refl

pub same_place : (t : Term) (p : Part) → replace (tree_of t) (leaf p) ≡ tree_of (term p t.frames)
same_place t p = replace_around t.frames (leaf t.part) (leaf p) ∙ ap (around t.frames) (replace_leaf t.part (leaf p))

-- ---- each tree is stood for, by one term
-- the frames of a tree, on top of these
abbrev frames_onto : List Frame → Tree → List Frame
frames_onto fs (TreeRet v) = fs
frames_onto fs (TreeThrow e) = fs
frames_onto fs (TreeDo a env) = fs
frames_onto fs (TreeOp op) = fs
frames_onto fs (TreeBind t x b env) = frames_onto (BindTo x b env ∷ fs) t
frames_onto fs (TreeCatch t x b env) = frames_onto (CatchBy x b env ∷ fs) t
frames_onto fs (TreeMask m t) = frames_onto (MaskIn m ∷ fs) t

abbrev term_of : Tree → Term
term_of t = term (active t) (frames_onto [] t)

back : (fs : List Frame) (t : Tree) → around (frames_onto fs t) (leaf (active t)) ≡ around fs t
back fs (TreeBind t x b env) = back (BindTo x b env ∷ fs) t
back fs (TreeCatch t x b env) = back (CatchBy x b env ∷ fs) t
back fs (TreeMask m t) = back (MaskIn m ∷ fs) t
back fs _ = refl

pub each_tree : (t : Tree) → (u : Term) × (tree_of u ≡ t)
each_tree t = (term_of t, back [] t)

frames_around : (fs gs : List Frame) (t : Tree) → frames_onto gs (around fs t) ≡ frames_onto (fs ++ gs) t
frames_around [] gs t = refl
frames_around (BindTo x b env ∷ fs) gs t = frames_around fs gs (TreeBind t x b env)
frames_around (CatchBy x b env ∷ fs) gs t = frames_around fs gs (TreeCatch t x b env)
frames_around (MaskIn m ∷ fs) gs t = frames_around fs gs (TreeMask m t)

frames_leaf : (p : Part) (fs : List Frame) → frames_onto fs (leaf p) ≡ fs
frames_leaf (Ret v) fs = refl
frames_leaf _ fs = refl

same_frames : (t : Term) → frames_onto [] (tree_of t) ≡ t.frames
same_frames t = frames_around t.frames [] (leaf t.part) ∙ (frames_leaf t.part (t.frames ++ []) ∙ append-nil t.frames)

read_back : (t : Term) → term_of (tree_of t) ≡ t
read_back t = ap (λ p. term p (frames_onto [] (tree_of t))) (same_part t) ∙ ap (λ fs. term t.part fs) (same_frames t)

pub one_term : (t u : Term) → tree_of t ≡ tree_of u → t ≡ u
one_term t u e = sym (read_back t) ∙ (ap term_of e ∙ read_back u)
