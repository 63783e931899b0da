-- Local rules over the frames of a stack, by rules over a few frames of one's own.
use Rattle.std.proofs.Common.{◌≡◌, ℕ, zero, suc, ◌<◌, List, [], ◌++◌, Option, Some, None, refl, ap, ◌∙◌, sym, arith}
use Rattle.std.proofs.Math.Logic.{∥∥₁_elim}
use Rattle.hs_base.specs.declared.mask.Mask.{Mask}
use Rattle.hs_base.specs.declared.mask.Mask.TheVariants.{Unmasked}
use Rattle.rules_expansion.specs.trees.Programs.{script_of}
use Rattle.rules_meaning.specs.CoreMeaning.{code_of}
use Rattle.rules_sorts.specs.TypedMeaning.{any_cell}
use Rattle.rules_code.specs.declared.code.CodeBody.{CodeBody}
use Rattle.rules_code.specs.CodeTrees.{SlottedFunction, StandsFor, code_trees}
use Rattle.hs_rules.specs.Terms.{Term}
use Rattle.hs_rules.specs.LocalRules as rules
use Rattle.hs_progress.proofs.Heads.{heads_kept}
use Rattle.slot_laws.specs.SlotRules.{SlotPart, ret, throw, doing, performs, SlotFrame, SlotTerm, at, local, on_term, locals}
use Rattle.slot_laws.specs.Standing.{Stands}
use Rattle.slot_laws.proofs.SlotFraming.{framed_one, stuck_more}
use Rattle.slot_laws.proofs.Simulation.{same_rules, moved}
use Rattle.local_steps.specs.declared.active.Active.{Active}
use Rattle.local_steps.specs.declared.active.Frame.{Frame}
use Rattle.local_steps.specs.Frames.{mask_inside}
use Rattle.local_steps.specs.Machine.{active_of, frames_of, funs_of}
use Rattle.local_steps.proofs.Codes.{masks_inside}
use Rattle.frame_stack.specs.Parts.{Stacked, term_of}
use Rattle.frame_stack.specs.Slicing.{Fits}
use Rattle.frame_stack.specs.Advancing.{MayAdvance, IsBare}
use Rattle.frame_stack.proofs.Progress.{no_frames, ret_none, throw_none, part_fits, fits_prop}
use Rattle.frame_stack.proofs.Terms.{frames_joined}

-- ---- where no rule applies

on_none : (o : Option SlotTerm) (f g : SlotTerm → Option SlotTerm) (u : SlotTerm) → on_term o f ≡ Some u → ((v : SlotTerm) → f v ≡ Some u → g v ≡ None) → on_term o g ≡ None
on_none None f g u e h = refl
on_none (Some v) f g u e h = h v e

stuck_now : (o : Option SlotTerm) (f : SlotTerm → Option SlotTerm) → o ≡ None → on_term o f ≡ None
stuck_now o f e = ap (λ z. on_term z f) e

-- where some rules lead to a term that has none, more of them can't be done
pub stuck_after : (funs : List SlottedFunction) (s : Mask) (i k : ℕ) (t u : SlotTerm) → i < k → locals funs s i t ≡ Some u → local funs s u.part u.frames ≡ None → locals funs s k t ≡ None
stuck_after funs s i zero t u h e n = absurd (omega arith)
stuck_after funs s zero (suc k) t u h e n =
    let z : t ≡ u = cc in
    stuck_now (local funs s t.part t.frames) (λ v. locals funs s k v) (ap (λ (x : SlotTerm). local funs s x.part x.frames) z ∙ n)
stuck_after funs s (suc i) (suc k) t u h e n =
    on_none (local funs s t.part t.frames) (λ v. locals funs s i v) (λ v. locals funs s k v) u e (λ v d. stuck_after funs s i k v u (omega arith) d n)

-- ---- over other frames

-- a rule over frames of one's own is one over the others too
pub rule_over : (b : CodeBody) (s below : Mask) (p q : SlotPart) (own new rest : List Frame) → below ≡ mask_inside s rest → local (funs_of b) below p (frames_of b own) ≡ Some (at q (frames_of b new))
    → local (funs_of b) s p (frames_of b (own ++ rest)) ≡ Some (at q (frames_of b (new ++ rest)))
rule_over b s below p q own new rest is e =
    ap (local (funs_of b) s p) (frames_joined b own rest)
    ∙ (framed_one (funs_of b) s (frames_of b rest) p (frames_of b own) (at q (frames_of b new)) (ap (λ m. local (funs_of b) m p (frames_of b own)) (sym (is ∙ masks_inside b s rest)) ∙ e)
    ∙ ap (λ z. Some (at q z)) (sym (frames_joined b new rest)))

-- and where there is none, there is none over the others, but for a value or an exception with no frame of its own
pub none_over : (b : CodeBody) (s below : Mask) (p : SlotPart) (own rest : List Frame) → below ≡ mask_inside s rest → (IsBare p own → ⊥) → local (funs_of b) below p (frames_of b own) ≡ None
    → local (funs_of b) s p (frames_of b (own ++ rest)) ≡ None
none_over b s below (doing a vs) own rest is n e =
    ap (local (funs_of b) s (doing a vs)) (frames_joined b own rest)
    ∙ stuck_more (funs_of b) s (frames_of b rest) a vs (frames_of b own) (ap (λ m. local (funs_of b) m (doing a vs) (frames_of b own)) (sym (is ∙ masks_inside b s rest)) ∙ e)
none_over b s below (ret v) own rest is n e = absurd (n (no_frames b own (ret_none v (frames_of b own) e)))
none_over b s below (throw x) own rest is n e = absurd (n (no_frames b own (throw_none below x (frames_of b own) e)))
none_over b s below (performs o) own rest is n e = refl

-- a value or an exception in no frame at all has no rule
pub bare_stuck : (b : CodeBody) (s : Mask) (p : SlotPart) (own all : List Frame) → IsBare p own → all ≡ [] → local (funs_of b) s p (frames_of b all) ≡ None
bare_stuck b s (doing a vs) own all h e = absurd h
bare_stuck b s (ret v) own all h e = ap (λ z. local (funs_of b) s (ret v) (frames_of b z)) e
bare_stuck b s (throw x) own all h e = ap (λ z. local (funs_of b) s (throw x) (frames_of b z)) e
bare_stuck b s (performs o) own all h e = absurd h

pub bare_own : (p : SlotPart) (own : List Frame) → IsBare p own → own ≡ []
bare_own (doing a vs) own h = absurd h
bare_own (ret v) own h = h
bare_own (throw x) own h = h
bare_own (performs o) own h = absurd h

-- ---- the end

-- where a stack stands for a term with names, a primitive that local rules lead to has values of its types
one_end : (b : CodeBody) → StandsFor b.nodes b.acts b.funs b.main b.of.value → (k : ℕ) (s : Stacked) (p : Active) (fs : List SlotFrame) (t : Term) → Stands any_cell (script_of b.of.value) (term_of b s) t
    → locals (funs_of b) Unmasked k (term_of b s) ≡ Some (at (active_of b p) fs) → Fits p
one_end b stands k s p fs t h e =
    let heads = heads_kept b.of.value stands.accepted in
    let w = moved any_cell b.of.value stands.accepted heads (locals (code_trees (script_of b.of.value)) Unmasked k (term_of b s)) (rules.locals (code_of (script_of b.of.value)) k t) (at (active_of b p) fs)
    (ap (λ z. locals z Unmasked k (term_of b s)) (sym stands.functions) ∙ e)
    (same_rules any_cell b.of.value stands.accepted heads k (term_of b s) t h) in
    part_fits b p w.2.part

pub end_fits : (b : CodeBody) (k : ℕ) (s : Stacked) (p : Active) (fs : List SlotFrame) → MayAdvance b s → locals (funs_of b) Unmasked k (term_of b s) ≡ Some (at (active_of b p) fs) → Fits p
end_fits b k s p fs may e = ∥∥₁_elim b.stands (fits_prop p) (λ z. ∥∥₁_elim may (fits_prop p) (λ w. one_end b z k s p fs w.0 w.1 e))
