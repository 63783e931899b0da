-- `main` can begin, in no values.
use Rattle.std.proofs.Common.{◌≡◌, ℕ, List, [], ◌∷◌, true, Option, Some, None, refl, sym, ap, subst}
use Rattle.std.specs.Prelude.{◌&&◌, codes}
use Rattle.std.proofs.lemmas.Bool.{and_parts}
use Rattle.hs_base.specs.declared.tree.script.Script.{Script}
use Rattle.rules_expansion.specs.trees.Trees.{T, unit}
use Rattle.rules_expansion.specs.trees.Programs.{script_of}
use Rattle.rules_expansion.specs.Names.{Name}
use Rattle.rules_sorts.specs.Sorts.{a_value, SortedName}
use Rattle.rules_typing.specs.Typing as typing
use Rattle.rules_typing.specs.Typing.{Sig}
use Rattle.rules_typing.specs.TypingScripts.{Accepted, sigs_from, is_unit, is_none, main_by}
use Rattle.rules_expansion.specs.Core.{Core, ActionFunction}
use Rattle.rules_expansion.specs.Expansion.{main_of, body_of}
use Rattle.rules_code.specs.CodeTrees.{main_tree, tree_or_bad}
use Rattle.hs_soundness.proofs.Growing.{fits_none}
use Rattle.hs_progress.specs.CoreTyping.{Does, Takes, takes_none, takes_one}
use Rattle.hs_base.specs.declared.mask.Mask.{Mask}
use Rattle.rules_expansion.specs.trees.Programs.{Fn}
use Rattle.rules_meaning.specs.Values.{V, Env}
use Rattle.rules_sorts.specs.Sorts.{Sort}
use Rattle.rules_sorts.specs.TypedMeaning.{any_cell}
use Rattle.rules_code.specs.CodeTrees.{Sa}
use Rattle.hs_rules.specs.Terms as named
use Rattle.hs_soundness.proofs.Growing.{fits_any}
use Rattle.hs_progress.specs.TypedStates.{Store}
use Rattle.slot_laws.specs.SlotRules.{doing, SlotFrame, mask_in, at}
use Rattle.slot_laws.specs.Standing.{cells_of, Reads, PartStands, do_stands, none_stand, mask_stands, Stands}
use Rattle.hs_progress.specs.TypedStates.{ctx_of, KeepsHead}
use Rattle.hs_progress.proofs.Heads.{heads_kept, no_types, unit_is}

-- a function without parameters, in no values
reads_of : (s : Script) (sig : Sig) (d : ActionFunction) (ps : List Name) → d.params ≡ ps → sig.params ≡ [] → KeepsHead (script_of s) sig d → (cells : ℕ → T → Type 0) → Reads cells (script_of s) (tree_or_bad (script_of s) (Some d.body)) [] d.body [] (a_value sig.result)
reads_of s sig d ps e n h cells = by h.takes h.does (h.scope) n
  where
    by : {ps : List Name} {ts : List T} {g : List SortedName} → Takes [] ps ts g → Does (ctx_of (script_of s) h.here) g d.body (a_value sig.result) → (w : List SortedName) → ts ≡ []
        → Reads cells (script_of s) (tree_or_bad (script_of s) (Some d.body)) [] d.body [] (a_value sig.result)
    by takes_none p w e = record { here = h.here; scope = []; is = refl; does = p; fits = fits_none cells }
    by (takes_one {t} {ts} x) p w e = absurd (let z : t ∷ ts ≡ [] = e in cc z)

-- the body of `main` stands for itself, and gives a unit
pub main_reads : (s : Script) → Accepted s → (a : Core) × (main_of (script_of s) ≡ Some a) × ((cells : ℕ → T → Type 0) → Reads cells (script_of s) (main_tree (script_of s)) [] a [] (a_value unit))
main_reads s a = by (typing.find (sigs_from 0 (script_of s)) (codes "main")) refl a.1
  where
    by : (o : Option Sig) → typing.find (sigs_from 0 (script_of s)) (codes "main") ≡ o → main_by o ≡ true
        → (a : Core) × (main_of (script_of s) ≡ Some a) × ((cells : ℕ → T → Type 0) → Reads cells (script_of s) (main_tree (script_of s)) [] a [] (a_value unit))
    by None e h = absurd (cc h)
    by (Some sig) e h =
        let q = and_parts sig.acts (is_none sig.params && is_unit sig.result) h in
        let r = and_parts (is_none sig.params) (is_unit sig.result) q.1 in
        let f = heads_kept s a (codes "main") sig e q.0 in
        let m : main_of (script_of s) ≡ Some f.0.body = ap body_of f.1 in (
          f.0.body,
          m,
          λ cells. subst (λ z. Reads cells (script_of s) (tree_or_bad (script_of s) z) [] f.0.body [] (a_value unit)) (sym m)
              (subst (λ z. Reads cells (script_of s) (tree_or_bad (script_of s) (Some f.0.body)) [] f.0.body [] (a_value z)) (unit_is sig.result r.1) (reads_of s sig f.0 f.0.params refl (no_types sig.params r.0) f.2 cells)),
        )

-- ---- alone in a masking scope

pub main_goes : (s : Script) → Accepted s → (m : Mask) → (t : named.Term) × Stands any_cell (script_of s) (at (doing (main_tree (script_of s)) []) (mask_in m ∷ [])) t
main_goes s a m =
    let r = main_reads s a in (
      named.term (named.Do r.0 []) (named.MaskIn m ∷ []),
      record { sort = a_value unit; part = do_stands (r.2 any_cell); frames = mask_stands none_stand },
    )

read_part : (cells : ℕ → T → Type 0) (ds : List Fn) {q : named.Part} {k : Sort} (tree : Sa) (vs : List V) → PartStands cells ds (doing tree vs) q k → (a : Core) × (env : Env) × Reads cells ds tree vs a env k
read_part cells ds tree vs (do_stands {a} {env} r) = (a, env, r)

pub action_goes : (store : Option Store) (ds : List Fn) (m : Mask) (tree : Sa) (vs : List V) (below : List SlotFrame) (t : named.Term) → Stands (cells_of store) ds (at (doing tree vs) below) t
    → (u : named.Term) × Stands any_cell ds (at (doing tree vs) (mask_in m ∷ [])) u
action_goes store ds m tree vs below t h =
    let w = read_part (cells_of store) ds tree vs h.part in
    let r = w.2 in (
      named.term (named.Do w.0 w.1) (named.MaskIn m ∷ []),
      record {
        sort = h.sort;
        part = do_stands (record { here = r.here; scope = r.scope; is = r.is; does = r.does; fits = fits_any (cells_of store) r.scope w.1 vs r.fits });
        frames = mask_stands none_stand;
      },
    )
