-- A local rule over few frames, as one over the whole stack; and whether it is eager.
use Rattle.std.proofs.Common.{◌≡◌, ℕ, slice_get, Bool, true, false, not, ◌&&◌, ◌||◌, List, [], ◌∷◌, ◌++◌, Option, Some, None, refl, sym, ap, ap₂, ◌∙◌, subst}
use Rattle.std.proofs.lemmas.List.{append-nil}
use Rattle.std.specs.Prelude.{MatchBool}
use Rattle.hs_base.specs.declared.mask.Mask.{Mask}
use Rattle.std.proofs.Math.Bool.{or-false}
use Rattle.hs_base.specs.declared.mask.Mask.TheVariants.{Unmasked}
use Rattle.rules_code.specs.declared.code.CodeBody.{CodeBody}
use Rattle.rules_code.specs.CodeTrees.{SlottedFunction}
use Rattle.slot_laws.specs.SlotRules.{SlotPart, ret, throw, doing, performs, SlotFrame, bind_to, then_to, catch_by, mask_in, SlotTerm, at, mask_from, first_step, on_top, local}
use Rattle.slot_laws.proofs.SlotFraming.{framed_one, stuck_more}
use Rattle.local_steps.specs.declared.active.Active.{Active}
use Rattle.local_steps.specs.declared.active.Frame.{Frame}
use Rattle.local_steps.specs.Frames.{mask_inside}
use Rattle.local_steps.specs.Machine.{active_of, frame_of, frames_of, funs_of}
use Rattle.local_steps.proofs.Codes.{masks_inside}
use Rattle.term_graph.specs.tables.Numbered.{Numbered, term_in}
use Rattle.term_graph.specs.declared.begun.Begun.{Begun}
use Rattle.term_graph.specs.declared.stepping.Moved.{Moved}
use Rattle.term_graph.specs.Eager.{is_unmasked, is_throw, passes, passes_all, receives_nothing, leaving_is_eager, step_is_eager, is_eager}
use Rattle.term_graph.specs.Steps.{IsDoing, NeedsFrame, Begins, Lands, Moves, leaves_eagerly, eager_at_once, adds_eagerly}

-- ---- no rule

module _ (funs : List SlottedFunction) (gs : List SlotFrame) where
  none_over : (p : SlotPart) (own : List SlotFrame) → (NeedsFrame p → own ≡ [] → ⊥) → local funs (mask_from Unmasked gs) p own ≡ None → local funs Unmasked p (own ++ gs) ≡ None
  none_over (doing a vs) own some e = stuck_more funs Unmasked gs a vs own e
  none_over (performs o) own some e = refl
  none_over (ret v) [] some e = absurd (some tt refl)
  none_over (ret v) (bind_to a vs ∷ own) some e = absurd (cc e)
  none_over (ret v) (then_to a vs ∷ own) some e = absurd (cc e)
  none_over (ret v) (catch_by a vs ∷ own) some e = absurd (cc e)
  none_over (ret v) (mask_in m ∷ own) some e = absurd (cc e)
  none_over (throw x) [] some e = absurd (some tt refl)
  none_over (throw x) (bind_to a vs ∷ own) some e = absurd (cc e)
  none_over (throw x) (then_to a vs ∷ own) some e = absurd (cc e)
  none_over (throw x) (catch_by a vs ∷ own) some e = absurd (cc e)
  none_over (throw x) (mask_in m ∷ own) some e = absurd (cc e)

-- ---- what an action adds

added : (o : Option SlotTerm) (q : SlotPart) (news : List SlotFrame) → on_top [] o ≡ Some (at q news) → step_is_eager o ≡ (not (is_throw q) && passes_all news)
added None q news e = absurd (let z : None ≡ Some (at q news) = e in cc z)
added (Some x) q news e =
    let z : Some (at x.part (x.frames ++ [])) ≡ Some (at q news) = e in
    let same : at x.part (x.frames ++ []) ≡ at q news = cc z in
    ap (λ fs. not (is_throw x.part) && passes_all fs) (sym (append-nil x.frames)) ∙ ap (λ (t : SlotTerm). not (is_throw t.part) && passes_all t.frames) same

adds_one : (funs : List SlottedFunction) (gs : List SlotFrame) (p q : SlotPart) (own news : List SlotFrame) (adds : Bool) → (IsDoing p → own ≡ []) → local funs (mask_from Unmasked gs) p own ≡ Some (at q news)
    → adds ≡ (not (is_throw q) && passes_all news) → IsDoing p → adds ≡ adds_eagerly funs p (own ++ gs)
adds_one funs gs (doing a vs) q own news adds none e is tt =
    let bare : own ≡ [] = none tt in
    let first : on_top [] (first_step funs (mask_from Unmasked gs) a vs) ≡ Some (at q news) = subst (λ z. local funs (mask_from Unmasked gs) (doing a vs) z ≡ Some (at q news)) bare e in
    is ∙ sym (added (first_step funs (mask_from Unmasked gs) a vs) q news first) ∙ ap (λ z. step_is_eager (first_step funs (mask_from Unmasked (z ++ gs)) a vs)) (sym bare)
adds_one funs gs (ret v) q own news adds none e is d = absurd d
adds_one funs gs (throw x) q own news adds none e is d = absurd d
adds_one funs gs (performs o) q own news adds none e is d = absurd d

-- ---- a part that was begun

module _ (old new : Numbered) (b : CodeBody) (p : SlotPart) (fs : List SlotFrame) (begun : Begun) (h : Begins old b p fs begun) where
  -- the rule alone, in the masking state of the frames below
  alone_is : local (funs_of b) begun.frames.below (active_of b begun.part) (frames_of b begun.frames.list) ≡ local (funs_of b) (mask_from Unmasked (frames_of b h.outer)) p (frames_of b begun.frames.list)
  alone_is = ap₂ (λ m x. local (funs_of b) m x (frames_of b begun.frames.list)) (h.below ∙ masks_inside b Unmasked h.outer) h.part

  pub stuck_on : local (funs_of b) begun.frames.below (active_of b begun.part) (frames_of b begun.frames.list) ≡ None → local (funs_of b) Unmasked p fs ≡ None
  stuck_on e = subst (λ z. local (funs_of b) Unmasked p z ≡ None) h.frames (none_over (funs_of b) (frames_of b h.outer) p (frames_of b begun.frames.list) h.some (sym alone_is ∙ e))

  pub moves_on : (next : Active) (news : List Frame) (m : Moved) → Some (at (active_of b next) (frames_of b news)) ≡ local (funs_of b) begun.frames.below (active_of b begun.part) (frames_of b begun.frames.list)
      → term_in new b m.term ≡ Some (at (active_of b next) (frames_of b news ++ frames_of b h.outer)) → m.adds ≡ (not (is_throw (active_of b next)) && passes_all (frames_of b news)) → Moves new b p fs m
  moves_on next news m e there adds =
      let alone : local (funs_of b) (mask_from Unmasked (frames_of b h.outer)) p (frames_of b begun.frames.list) ≡ Some (at (active_of b next) (frames_of b news)) = sym (e ∙ alone_is) in
      record {
        next = at (active_of b next) (frames_of b news ++ frames_of b h.outer);
        is = there;
        rule = subst (λ z. local (funs_of b) Unmasked p z ≡ Some (at (active_of b next) (frames_of b news ++ frames_of b h.outer))) h.frames
            (framed_one (funs_of b) Unmasked (frames_of b h.outer) p (frames_of b begun.frames.list) (at (active_of b next) (frames_of b news)) alone);
        adds = λ d. subst (λ z. m.adds ≡ adds_eagerly (funs_of b) p z) h.frames
            (adds_one (funs_of b) (frames_of b h.outer) p (active_of b next) (frames_of b begun.frames.list) (frames_of b news) m.adds h.none alone adds d);
      }

  pub lands_on : (next : Active) (news : List Frame) (m : Moved) → Some (at (active_of b next) (frames_of b news)) ≡ local (funs_of b) begun.frames.below (active_of b begun.part) (frames_of b begun.frames.list)
      → ((gs : List Frame) → slice_get old.stacks begun.outer ≡ Some gs → Lands new b (active_of b next) (frames_of b news) (frames_of b gs) m) → Moves new b p fs m
  lands_on next news m e lands = let l = lands h.outer h.there in moves_on next news m e l.is l.adds

-- ---- whether it is eager

pub whole : (funs : List SlottedFunction) (p : SlotPart) (fs : List SlotFrame) (at_once does adds : Bool) → at_once ≡ eager_at_once p fs → MatchBool does (IsDoing p) (IsDoing p → ⊥)
    → (IsDoing p → adds ≡ adds_eagerly funs p fs) → (at_once || (does && adds)) ≡ is_eager funs (at p fs)
whole funs (ret v) fs at_once true adds e d h = absurd d
whole funs (ret v) fs at_once false adds e d h = or-false at_once ∙ e
whole funs (throw x) fs at_once true adds e d h = absurd d
whole funs (throw x) fs at_once false adds e d h = or-false at_once ∙ e
whole funs (performs o) fs at_once true adds e d h = absurd d
whole funs (performs o) fs at_once false adds e d h = or-false at_once ∙ e
whole funs (doing a vs) fs at_once true adds e d h = ap₂ (λ x y. x || y) (e ∙ or-false (receives_nothing (doing a vs) fs)) (h tt)
whole funs (doing a vs) fs at_once false adds e d h = absurd (d tt)

-- ---- a part that is begun

not_both : (p : SlotPart) → IsDoing p → NeedsFrame p → ⊥
not_both (doing a vs) d n = n
not_both (ret v) d n = d
not_both (throw x) d n = d
not_both (performs o) d n = d

-- in its innermost frame
pub begun_in : (g : Numbered) (b : CodeBody) (p : SlotPart) (fs outer : List Frame) (frame : Frame) (begun : Begun) → active_of b begun.part ≡ p → NeedsFrame p → slice_get g.stacks begun.outer ≡ Some outer → fs ≡ frame ∷ outer
    → begun.frames.below ≡ mask_inside Unmasked outer → frames_of b begun.frames.list ≡ frame_of b frame ∷ [] → Begins g b p (frames_of b fs) begun
begun_in g b p fs outer frame begun part needs there is below list = record {
  part = part;
  outer = outer;
  there = there;
  below = below;
  frames = ap (λ z. z ++ frames_of b outer) list ∙ ap (frames_of b) (sym is);
  none = λ d. absurd (not_both p d needs);
  some = λ n e. absurd (let z : [] ≡ frame_of b frame ∷ [] = sym e ∙ list in cc z);
}

-- an action, in no frame
pub begun_bare : (g : Numbered) (b : CodeBody) (p : SlotPart) (fs : List Frame) (begun : Begun) → active_of b begun.part ≡ p → IsDoing p → slice_get g.stacks begun.outer ≡ Some fs
    → begun.frames.below ≡ mask_inside Unmasked fs → begun.frames.list ≡ [] → Begins g b p (frames_of b fs) begun
begun_bare g b p fs begun part does there below list = record {
  part = part;
  outer = fs;
  there = there;
  below = below;
  frames = ap (λ (z : List Frame). frames_of b z ++ frames_of b fs) list;
  none = λ d. ap (frames_of b) list;
  some = λ n e. absurd (not_both p does n);
}

-- ---- whether a value leaves eagerly

pub leaving_none : (b : CodeBody) (fs : List Frame) → fs ≡ [] → false ≡ leaving_is_eager (frames_of b fs)
leaving_none b fs e = ap (λ z. leaving_is_eager (frames_of b z)) (sym e)

pub leaving_some : (b : CodeBody) (fs outer : List Frame) (frame : Frame) (p u : Bool) → fs ≡ frame ∷ outer → p ≡ passes (frame_of b frame) → u ≡ is_unmasked (mask_inside Unmasked outer) → (p && u) ≡ leaving_is_eager (frames_of b fs)
leaving_some b fs outer frame p u is e h =
    ap₂ (λ x y. x && y) e (h ∙ ap is_unmasked (masks_inside b Unmasked outer)) ∙ ap (λ z. leaving_is_eager (frames_of b z)) (sym is)

pub at_once_is : (b : CodeBody) (p : SlotPart) (fs : List Frame) (t u l : Bool) → t ≡ is_throw p → u ≡ is_unmasked (mask_inside Unmasked fs) → l ≡ leaves_eagerly p (frames_of b fs) → ((t || not u) || l) ≡ eager_at_once p (frames_of b fs)
at_once_is b p fs t u l e h g = ap₂ (λ x y. x || y) (ap₂ (λ x y. x || not y) e (h ∙ ap is_unmasked (masks_inside b Unmasked fs))) g
