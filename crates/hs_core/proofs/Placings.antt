-- The definitions of a script one after another.
use Rattle.std.specs.Prelude.{slice_get, bytes_eq, codes}
use Rattle.std.proofs.Common.{◌≡◌, ℕ, suc, ◌+◌, ◌<◌, List, [], ◌∷◌, ◌++◌, map, length, take, get_or, Bool, true, false, cond, Option, Some, None, refl, ap, ◌∙◌, sym, subst, arith, append_assoc}
use Rattle.std.proofs.lemmas.List.{append-nil}
use Rattle.std.proofs.Math.Seq.{take-suc}
use Rattle.plain_laws.proofs.Lists.{bytes_eq_sym}
use Rattle.hs_base.specs.declared.tree.script.Param.{Param}
use Rattle.hs_base.specs.declared.tree.script.Def.{Def}
use Rattle.hs_base.specs.declared.tree.script.Script.{Script}
use Rattle.rules_code.specs.declared.node.Node.{Node}
use Rattle.rules_code.specs.declared.node.ExprId.{ExprId}
use Rattle.rules_code.specs.declared.act.Act.{Act}
use Rattle.rules_code.specs.declared.act.ActId.{ActId}
use Rattle.rules_code.specs.declared.code.Fun.{Fun}
use Rattle.rules_expansion.specs.trees.Trees.{Ex, Wr}
use Rattle.rules_expansion.specs.trees.Programs.{Fn, Par, Bd, pure_body, io_body, Bl, fn_of, par_of, script_of}
use Rattle.rules_meaning.specs.Meaning.{texts_of}
use Rattle.rules_expansion.specs.Core.{ActionFunction, action_named}
use Rattle.rules_expansion.specs.Expansion.{block_core, param_names, with_action, actions_of}
use Rattle.rules_expansion.specs.Expansion.{body_of}
use Rattle.rules_expansion.specs.Names.{Written}
use Rattle.rules_code.specs.Slots.{Scope, Root, slotted, scope_onto, root_with, roots_onto, roots_of}
use Rattle.rules_code.specs.CodeTrees.{Sa, place_among, slotted_core, scope_of_names, SlottedFunction, slotted_function, slotted_functions, act_tree_at, functions_at, code_trees, tree_or_bad, main_tree, StandsFor}
use Rattle.rules_typing.specs.TypingScripts.{Accepted, main_by, sigs_from, param_types, result_of, acts}
use Rattle.rules_typing.specs.Typing.{Sig, find}
use Rattle.hs_nodes.specs.declared.emitter.Emitter.{Emitter}
use Rattle.hs_nodes.specs.declared.places.Place.{Place}
use Rattle.hs_nodes.specs.declared.names.ScopedName.{ScopedName}
use Rattle.hs_nodes.specs.Names.{scope_after, scope_of}
use Rattle.hs_nodes.specs.Standing.{Stands, Known}
use Rattle.hs_nodes.specs.Emitting.{nodes_of, Emitted}
use Rattle.hs_nodes.proofs.Emitted.{known_more, at_end, emitted}
use Rattle.hs_core.specs.declared.defs.Defs.{Defs}
use Rattle.hs_core.specs.declared.emitter.ActEmitter.{ActEmitter}
use Rattle.hs_core.specs.Numbering.{names_of, index_among}
use Rattle.hs_core.specs.Defining.{Knows, roots, functions}
use Rattle.hs_core.specs.Emits.{Grows, DoneIn, Emits}
use Rattle.hs_core.specs.Opening.{block_tree}
use Rattle.hs_core.specs.Placing.{written, Places, FunsStand, Functions, main_id, PureBody}
use Rattle.hs_core.proofs.ActArena.{grows_same, grows_by, grows_on, done_on, knows_on}
use Rattle.hs_core.proofs.Steps.{index_is}

-- ---- parameters

pub written_is : (ps : List Param) (s : Scope) → scope_after s (written ps) ≡ scope_onto s (texts_of (map par_of ps))
written_is [] s = refl
written_is (p ∷ ps) s = written_is ps (Written p.name.text ∷ s)

pub written_names : (ps : List Param) (s : Scope) → scope_after s (written ps) ≡ scope_of_names s (param_names (map par_of ps))
written_names [] s = refl
written_names (p ∷ ps) s = written_names ps (Written p.name.text ∷ s)

pub texts_length : (ps : List Param) → length (texts_of (map par_of ps)) ≡ length ps
texts_length [] = refl
texts_length (p ∷ ps) = let h = texts_length ps in omega (arith, h)

pub names_length : (ps : List Param) → length (param_names (map par_of ps)) ≡ length ps
names_length [] = refl
names_length (p ∷ ps) = let h = names_length ps in omega (arith, h)

-- ---- pure functions

known_snoc : (ns : List Node) (ps : List Place) (bs : List Root) (p : Place) (b : Root) → Known ns ps bs → p.text ≡ b.text → p.params ≡ b.params → Stands ns p.node b.tree → Known ns (ps ++ p ∷ []) (bs ++ b ∷ [])
known_snoc ns [] [] p b h e f g = (e, f, g, tt)
known_snoc ns [] (c ∷ bs) p b h e f g = absurd h
known_snoc ns (r ∷ ps) [] p b h e f g = absurd h
known_snoc ns (r ∷ ps) (c ∷ bs) p b h e f g = (h.0, h.1, h.2, known_snoc ns ps bs p b h.3 e f g)

roots_snoc : (rs : List Root) (fs : List Fn) (f : Fn) → roots_onto rs (fs ++ f ∷ []) ≡ root_with (roots_onto rs fs) f f.body
roots_snoc rs [] f = refl
roots_snoc rs (g ∷ fs) f = roots_snoc (root_with rs g g.body) fs f

-- ---- action functions

fun_snoc : (e : ActEmitter) (fs : List Fun) (gs : List SlottedFunction) (f : Fun) (g : SlottedFunction) → FunsStand e fs gs → f.params ≡ g.params → DoneIn e f.body g.body → FunsStand e (fs ++ f ∷ []) (gs ++ g ∷ [])
fun_snoc e [] [] f g h p d = (p, d, tt)
fun_snoc e [] (x ∷ gs) f g h p d = absurd h
fun_snoc e (x ∷ fs) [] f g h p d = absurd h
fun_snoc e (x ∷ fs) (y ∷ gs) f g h p d = (h.0, h.1, fun_snoc e fs gs f g h.2 p d)

pub funs_on : (a b : ActEmitter) (fs : List Fun) (gs : List SlottedFunction) → Grows Node a.emitter.nodes b.emitter.nodes → Grows Act a.acts b.acts → FunsStand a fs gs → FunsStand b fs gs
funs_on a b [] [] g w h = tt
funs_on a b [] (y ∷ gs) g w h = absurd h
funs_on a b (x ∷ fs) [] g w h = absurd h
funs_on a b (x ∷ fs) (y ∷ gs) g w h = (h.0, done_on g w h.1, funs_on a b fs gs g w h.2)

with_more : (f : List ℕ) (ps : List Par) (b : Bd) (ls bs : List ActionFunction) → with_action f ps b (ls ++ bs) ≡ with_action f ps b ls ++ bs
with_more f ps (pure_body w e) ls bs = refl
with_more f ps (io_body w a) ls bs = refl

actions_more : (fs gs : List Fn) → actions_of (fs ++ gs) ≡ actions_of fs ++ actions_of gs
actions_more [] gs = refl
actions_more (f ∷ fs) gs = ap (with_action f.name.text f.params f.body) (actions_more fs gs) ∙ with_more f.name.text f.params f.body (actions_of fs) (actions_of gs)

slotted_more : (rs : List Root) (cs ls bs : List ActionFunction) → slotted_functions rs cs (ls ++ bs) ≡ slotted_functions rs cs ls ++ slotted_functions rs cs bs
slotted_more rs cs [] bs = refl
slotted_more rs cs (a ∷ ls) bs = ap (λ z. slotted_function rs cs a ∷ z) (slotted_more rs cs ls bs)

pub functions_step : {d : Defs} {a b e : ActEmitter} {fs gs hs : List Fun} (xs : List Fn) (f : Fn) → Functions d a b fs gs xs → Functions d b e gs hs (f ∷ []) → Functions d a e fs hs (xs ++ f ∷ [])
functions_step {d = c} {e = n} {hs = after} xs f h g = record {
  nodes = grows_on h.nodes g.nodes;
  acts = grows_on h.acts g.acts;
  scope = g.scope ∙ h.scope;
  stand = (λ z k s w. let r = g.stand (z ++ slotted_functions (roots c) (functions c) (actions_of xs)) (knows_on h.nodes k) (h.scope ∙ s) (h.stand z k s w) in
      subst (FunsStand n after) (append_assoc z (slotted_functions (roots c) (functions c) (actions_of xs)) (slotted_functions (roots c) (functions c) (actions_of (f ∷ [])))
      ∙ ap (λ y. z ++ y) (sym (ap (slotted_functions (roots c) (functions c)) (actions_more xs (f ∷ [])) ∙ slotted_more (roots c) (functions c) (actions_of xs) (actions_of (f ∷ []))))) r);
}

pub functions_none : {d : Defs} {a : ActEmitter} {fs : List Fun} → Functions d a a fs fs []
functions_none {a = e} {fs = gs} = record {
  nodes = grows_same refl;
  acts = grows_same refl;
  scope = refl;
  stand = λ z k s w. subst (FunsStand e gs) (sym (let y : z ++ [] ≡ z = append-nil z in y)) w;
}

-- ---- what the whole stands for

at_once : (e : ActEmitter) (i : ActId) (t : Sa) → DoneIn e i t → act_tree_at e.emitter.nodes e.acts i ≡ t
at_once e i t h = ap (λ z. act_tree_at z e.acts i) (sym (let y : e.emitter.nodes ++ [] ≡ e.emitter.nodes = append-nil e.emitter.nodes in y)) ∙ h.is []

funs_at : (e : ActEmitter) (fs : List Fun) (gs : List SlottedFunction) → FunsStand e fs gs → functions_at e.emitter.nodes e.acts fs ≡ gs
funs_at e [] [] h = refl
funs_at e [] (g ∷ gs) h = absurd h
funs_at e (f ∷ fs) [] h = absurd h
funs_at e (f ∷ fs) (g ∷ gs) h =
    let p : f.params ≡ g.params = h.0 in
    let b : act_tree_at e.emitter.nodes e.acts f.body ≡ g.body = at_once e f.body g.body h.1 in
    let r = funs_at e fs gs h.2 in
    ap (λ z. record { params = z; body = act_tree_at e.emitter.nodes e.acts f.body } ∷ functions_at e.emitter.nodes e.acts fs) p
    ∙ (ap (λ z. record { params = g.params; body = z } ∷ functions_at e.emitter.nodes e.acts fs) b ∙ ap (λ z. g ∷ z) r)

-- ---- main

-- an action function of that name, without parameters
abbrev Found : List ℕ → List ActionFunction → Type 0
Found n ls = (a : ActionFunction) × (action_named n ls ≡ Some a) × (a.params ≡ [])

found_by : (n f : List ℕ) (ps : List Par) (b : Bd) (ls : List ActionFunction) (o : Option Sig) (t : Bool) (k : ℕ) → t ≡ bytes_eq n f
    → main_by (cond t (Some (record { spelling = f; acts = acts b; params = param_types ps; result = (result_of b).ty; place = k })) o) ≡ true
    → (main_by o ≡ true → Found n ls) → Found n (with_action f ps b ls)
found_by n f ps (pure_body w e) ls o true k q h r = let z : false ≡ true = h in cc
found_by n f ps (pure_body w e) ls o false k q h r = r h
found_by n f [] (io_body w a) ls o true k q h r = (record { name = f; params = []; body = block_core a }, ap (λ z. cond z (Some (record { name = f; params = []; body = block_core a })) (action_named n ls)) (sym q), refl)
found_by n f (p ∷ ps) (io_body w a) ls o true k q h r = let z : false ≡ true = h in cc
found_by n f ps (io_body w a) ls o false k q h r =
    let z = r h in (z.0, ap (λ y. cond y (Some (record { name = f; params = param_names ps; body = block_core a })) (action_named n ls)) (sym q) ∙ z.1, z.2)

main_found : (n : List ℕ) (ds : List Fn) (k : ℕ) → main_by (find (sigs_from k ds) n) ≡ true → Found n (actions_of ds)
main_found n [] k h = let z : false ≡ true = h in cc
main_found n (d ∷ ds) k h = found_by n d.name.text d.params d.body (actions_of ds) (find (sigs_from (k + 1) ds) n) (bytes_eq d.name.text n) k (bytes_eq_sym d.name.text n) h (main_found n ds (k + 1))

-- the function at the place of a name
abbrev At : ActEmitter → List Root → List ActionFunction → List ℕ → List ActionFunction → Option Fun → Type 0
At e rs fs n ls None = action_named n ls ≡ None
At e rs fs n ls (Some f) = (a : ActionFunction) × (action_named n ls ≡ Some a) × DoneIn e f.body (slotted_core rs fs (scope_of_names [] a.params) a.body)

at_later : (e : ActEmitter) (rs : List Root) (fs : List ActionFunction) (n : List ℕ) (a : ActionFunction) (ls : List ActionFunction) (o : Option Fun) → false ≡ bytes_eq n a.name → At e rs fs n ls o → At e rs fs n (a ∷ ls) o
at_later e rs fs n a ls None q h = ap (λ z. cond z (Some a) (action_named n ls)) (sym q) ∙ h
at_later e rs fs n a ls (Some f) q h = (h.0, ap (λ z. cond z (Some a) (action_named n ls)) (sym q) ∙ h.1, h.2)

at_first : (e : ActEmitter) (rs : List Root) (fs : List ActionFunction) (n : List ℕ) (x : Fun) (xs : List Fun) (a : ActionFunction) (ls : List ActionFunction) (t : Bool) → t ≡ bytes_eq n a.name
    → DoneIn e x.body (slotted_core rs fs (scope_of_names [] a.params) a.body) → At e rs fs n ls (slice_get xs (place_among ls n))
    → At e rs fs n (a ∷ ls) (slice_get (x ∷ xs) (cond t 0 (1 + place_among ls n)))
at_first e rs fs n x xs a ls true q d h = (a, ap (λ z. cond z (Some a) (action_named n ls)) (sym q), d)
at_first e rs fs n x xs a ls false q d h =
    subst (λ i. At e rs fs n (a ∷ ls) (slice_get (x ∷ xs) i)) (let z : suc (place_among ls n) ≡ 1 + place_among ls n = omega arith in z) (at_later e rs fs n a ls (slice_get xs (place_among ls n)) q h)

at_place : (e : ActEmitter) (rs : List Root) (fs : List ActionFunction) (n : List ℕ) (xs : List Fun) (ls : List ActionFunction) → FunsStand e xs (slotted_functions rs fs ls) → At e rs fs n ls (slice_get xs (place_among ls n))
at_place e rs fs n [] [] h = refl
at_place e rs fs n [] (a ∷ ls) h = absurd h
at_place e rs fs n (x ∷ xs) [] h = absurd h
at_place e rs fs n (x ∷ xs) (a ∷ ls) h = at_first e rs fs n x xs a ls (bytes_eq n a.name) refl h.1 (at_place e rs fs n xs ls h.2)

main_tree_of : (e : ActEmitter) (script : List Fn) (o : Option Fun) → Found (codes "main") (actions_of script) → At e (roots_of script) (actions_of script) (codes "main") (actions_of script) o
    → act_tree_at e.emitter.nodes e.acts (main_id o (length e.acts)) ≡ main_tree script
main_tree_of e script None g h = let z : None ≡ Some g.0 = sym h ∙ g.1 in cc
main_tree_of e script (Some f) g h =
    let same : g.0 ≡ h.0 = (let z : Some g.0 ≡ Some h.0 = sym g.1 ∙ h.1 in cc) in
    let none : h.0.params ≡ [] = ap (λ z. z.params) (sym same) ∙ g.2 in
    at_once e f.body (slotted_core (roots_of script) (actions_of script) (scope_of_names [] h.0.params) h.0.body) h.2
    ∙ (ap (λ z. slotted_core (roots_of script) (actions_of script) (scope_of_names [] z) h.0.body) none ∙ sym (ap (λ z. tree_or_bad script (body_of z)) h.1))

-- the nodes, the functions and the body of `main` stand for the script
pub all_stand : (d : Defs) (old new : ActEmitter) (funs : List Fun) (main : ActId) (script : Script) → Accepted script → d.of.value ≡ script → Knows old.emitter.nodes d → old.emitter.scope ≡ []
    → Functions d old new [] funs (script_of script) → main ≡ main_id (slice_get funs (index_among d.actions (codes "main"))) (length new.acts)
    → StandsFor new.emitter.nodes new.acts funs main script
all_stand d old new funs main script ok eq k s f m =
    let stand : FunsStand new funs (slotted_functions (roots d) (functions d) (actions_of (script_of script))) = f.stand [] k s tt in
    let stand' : FunsStand new funs (code_trees (script_of script)) = subst (λ z. FunsStand new funs (slotted_functions (roots_of (script_of z)) (actions_of (script_of z)) (actions_of (script_of script)))) eq stand in
    let ls = actions_of (script_of script) in
    let place : index_among d.actions (codes "main") ≡ place_among ls (codes "main") = ap (λ z. index_among z (codes "main")) k.names ∙ (index_is (functions d) (codes "main") ∙ ap (λ z. place_among (actions_of (script_of z)) (codes "main")) eq) in
    record {
      accepted = ok;
      functions = funs_at new funs (code_trees (script_of script)) stand';
      main_is = ap (act_tree_at new.emitter.nodes new.acts) (m ∙ ap (λ z. main_id (slice_get funs z) (length new.acts)) place)
          ∙ main_tree_of new (script_of script) (slice_get funs (place_among ls (codes "main"))) (main_found (codes "main") (script_of script) 0 ok.1) (at_place new (roots_of (script_of script)) ls (codes "main") funs ls stand');
    }

-- what the places and the names make known of a script
pub knows_all : (ns : List Node) (d : Defs) (ps : List Place) (script : Script) → Known ns ps (roots_of (script_of script)) → d.places.all ≡ ps → d.actions ≡ names_of (actions_of (script_of script)) → d.of.value ≡ script → Knows ns d
knows_all ns d ps script k p a o = record {
  places = subst (λ z. Known ns z (roots d)) (sym p) (subst (λ z. Known ns ps (roots_of (script_of z))) (sym o) k);
  names = a ∙ ap (λ z. names_of (actions_of (script_of z))) (sym o);
}

-- ---- the steps of the functions

pub place_pure : (old new : Emitter) (before after : List Place) (f : Fn) (e : Ex) (w : Wr) (p : Place) → f.body ≡ pure_body w e → Grows Node old.nodes new.nodes → new.scope ≡ old.scope
    → ((bs : List Root) → Known old.nodes before bs → old.scope ≡ [] → Stands new.nodes p.node (slotted bs (scope_onto [] (texts_of f.params)) e))
    → p.text ≡ f.name.text → p.params ≡ length (texts_of f.params) → after ≡ before ++ p ∷ [] → Places old new before after f
place_pure old new before after f e w p eq g s h t n a = record {
  scope = s;
  known = (λ bs c k. subst (λ z. Known new.nodes after (root_with bs f z)) (sym eq)
      (subst (λ z. Known new.nodes z (bs ++ record { text = f.name.text; params = length (texts_of f.params); tree = slotted bs (scope_onto [] (texts_of f.params)) e } ∷ [])) (sym a)
      (known_snoc new.nodes before bs p (record { text = f.name.text; params = length (texts_of f.params); tree = slotted bs (scope_onto [] (texts_of f.params)) e })
      (subst (λ z. Known z before bs) (sym g.is) (known_more old.nodes g.more before bs k)) t n (h bs k c))));
}

pub place_none : (old : Emitter) (before : List Place) (f : Fn) (a : Bl) (w : Wr) → f.body ≡ io_body w a → Places old old before before f
place_none old before f a w eq = record { scope = refl; known = λ bs c k. subst (λ z. Known old.nodes before (root_with bs f z)) (sym eq) k }

pub places_step : (old mid new : Emitter) (ps qs : List Place) (fs : List Fn) (f : Fn) → (mid.scope ≡ []) → Known mid.nodes ps (roots_of fs) → Places mid new ps qs f → Known new.nodes qs (roots_of (fs ++ f ∷ [])) × (new.scope ≡ [])
places_step old mid new ps qs fs f s k g = (subst (Known new.nodes qs) (sym (roots_snoc [] fs f)) (g.known (roots_of fs) s k), g.scope ∙ s)

pub function_made : {d : Defs} {a b : ActEmitter} (fs gs : List Fun) (f : Fn) (ps : List Param) (bl : Bl) (w : Wr) (x : Fun) → f.params ≡ map par_of ps → f.body ≡ io_body w bl
    → Emits (Knows a.emitter.nodes d) a b x.body (λ s. block_tree d (scope_after s (written ps)) bl) → x.params ≡ length ps → gs ≡ fs ++ x ∷ [] → Functions d a b fs gs (f ∷ [])
function_made {d = c} {a = old} {b = new} fs gs f ps bl w x pe be h n g = record {
  nodes = h.nodes;
  acts = h.acts;
  scope = h.scope;
  stand = (λ z k s e.
      let tree = slotted_core (roots c) (functions c) (scope_of_names [] (param_names (map par_of ps))) (block_core bl) in
      let done : DoneIn new x.body tree = subst (λ y. DoneIn new x.body (slotted_core (roots c) (functions c) y (block_core bl))) (ap (λ y. scope_after (scope_of y) (written ps)) s ∙ written_names ps []) (h.is k) in
      let r = fun_snoc new fs z x (record { params = length (param_names (map par_of ps)); body = tree }) (funs_on old new fs z h.nodes h.acts e) (n ∙ sym (names_length ps)) done in
      subst (λ y. FunsStand new y (z ++ slotted_functions (roots c) (functions c) (actions_of (f ∷ [])))) (sym g)
      (subst (λ y. FunsStand new (fs ++ x ∷ []) (z ++ slotted_functions (roots c) (functions c) (with_action f.name.text f.params y []))) (sym be)
      (subst (λ y. FunsStand new (fs ++ x ∷ []) (z ++ slotted_functions (roots c) (functions c) (with_action f.name.text y (io_body w bl) []))) (sym pe) r)));
}

pub function_none : {d : Defs} {a : ActEmitter} (fs : List Fun) (f : Fn) (e : Ex) (w : Wr) → f.body ≡ pure_body w e → Functions d a a fs fs (f ∷ [])
function_none {d = c} {a = old} fs f e w eq = record {
  nodes = grows_same refl;
  acts = grows_same refl;
  scope = refl;
  stand = λ z k s h. subst (λ y. FunsStand old fs (z ++ slotted_functions (roots c) (functions c) (with_action f.name.text f.params y []))) (sym eq) (subst (FunsStand old fs) (sym (let y : z ++ [] ≡ z = append-nil z in y)) h);
}

-- ---- the loops

map_append : (xs ys : List Def) → map fn_of (xs ++ ys) ≡ map fn_of xs ++ map fn_of ys
map_append [] ys = refl
map_append (x ∷ xs) ys = ap (λ z. fn_of x ∷ z) (map_append xs ys)

pub one_more : (ds : List Def) (i : ℕ) (d : Def) → d ≡ get_or ds i d → i < length ds → map fn_of (take (i + 1) ds) ≡ map fn_of (take i ds) ++ fn_of d ∷ []
one_more ds i d is l =
    let z : take (i + 1) ds ≡ take i ds ++ d ∷ [] = ap (λ j. take j ds) (let y : i + 1 ≡ suc i = omega arith in y) ∙ (take-suc ds i d l ∙ ap (λ y. take i ds ++ y ∷ []) (sym is)) in
    ap (map fn_of) z ∙ map_append (take i ds) (d ∷ [])

pub body_is : (places : List Place) (old mid : Emitter) (wide narrow : List ScopedName) (id : ExprId) (ps : List Param) (e : Ex) (n : ℕ) → wide ≡ old.scope ++ written ps
    → Emitted (record { nodes = old.nodes; scope = wide }) mid id (nodes_of places (scope_of wide) (length old.nodes) e) → n ≡ length old.scope
    → ((xs ys : List ScopedName) → mid.scope ≡ xs ++ ys → length xs ≡ n → narrow ≡ xs) → PureBody places old (record { nodes = mid.nodes; scope = narrow }) id ps e
body_is places old mid wide narrow id ps e n eq h is f =
    let ns = nodes_of places (scope_of wide) (length old.nodes) e in
    record {
      nodes = grows_by ns h.nodes;
      scope = f old.scope (written ps) (h.scope ∙ eq) (sym is);
      is = (λ bs k s.
          let scope : scope_of wide ≡ scope_onto [] (texts_of (map par_of ps)) = ap scope_of (eq ∙ ap (λ z. z ++ written ps) s) ∙ written_is ps [] in
          subst (λ z. Stands mid.nodes id (slotted bs z e)) scope
          (subst (λ z. Stands z id (slotted bs (scope_of wide) e)) (sym h.nodes)
          (subst (λ z. Stands (old.nodes ++ ns) z (slotted bs (scope_of wide) e)) (sym h.last)
          (at_end old.nodes ns (slotted bs (scope_of wide) e) (length old.nodes) refl (emitted places bs (scope_of wide) old.nodes (length old.nodes) refl k e)))));
    }
