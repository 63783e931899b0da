-- What has one key stands for the same in every code.
use Rattle.std.proofs.Common.{◌≡◌, ℕ, List, [], ◌∷◌, ◌++◌, refl, sym, ap, ap₂, ◌∙◌, arith}
use Rattle.std.proofs.lemmas.List.{append-nil, same_from_push}
use Rattle.hs_base.specs.declared.value.Value.{Value}
use Rattle.hs_base.specs.declared.value.Value.TheVariants as value
use Rattle.rules_meaning.specs.Values.{V, value_of, values_of}
use Rattle.rules_expansion.specs.declared.primitive.Primitive.{Primitive}
use Rattle.rules_expansion.specs.contracts.primitive.Primitive as p
use denote.Enum.Bare.{tag_one}
use Rattle.rules_code.specs.declared.act.ActId.{ActId}
use Rattle.rules_code.specs.declared.code.CodeBody.{CodeBody}
use Rattle.slot_laws.specs.SlotRules.{ret, throw, doing, performs, calls, forks, forks_unmask, bind_to, then_to, catch_by, mask_in}
use Rattle.slot_laws.proofs.ActNodes.{values_push}
use Rattle.local_steps.specs.declared.active.Active.{Active}
use Rattle.local_steps.specs.declared.active.Active.TheVariants as a
use Rattle.local_steps.specs.declared.active.Frame.{Frame}
use Rattle.local_steps.specs.declared.active.Frame.TheVariants as f
use Rattle.local_steps.specs.Machine.{act_of, active_of, frame_of}
use Rattle.number_tables.specs.value_keys.Keys.{exn_key, value_key, values_key}
use Rattle.number_tables.proofs.value_keys_lemmas.Exact.{exact_wide, exact_mask, exact_exn, exact_value, exact_values}
use Rattle.term_graph.specs.tables.Keys.{primitive_number, action_key, waiting_key, part_key, frame_key}

abbrev first_of : List ℕ → ℕ
first_of [] = 0
first_of (x ∷ xs) = x

abbrev rest_of : List ℕ → List ℕ
rest_of [] = []
rest_of (x ∷ xs) = xs

-- ---- primitives

exact_primitive : (q r : Primitive) → primitive_number q ≡ primitive_number r → q ≡ r
exact_primitive q r e = tag_one p.the_type tt q r e

-- ---- values, alone

pub whole_value : (v w : V) → value_key v ≡ value_key w → v ≡ w
whole_value v w e = (exact_value v w [] [] (append-nil (value_key v) ∙ e ∙ sym (append-nil (value_key w)))).0

whole_values : (vs ws : List V) → values_key vs ≡ values_key ws → vs ≡ ws
whole_values vs ws e = (exact_values vs ws [] [] (append-nil (values_key vs) ∙ e ∙ sym (append-nil (values_key ws)))).0

-- ---- actions

abbrev numbered_act : ℕ → ActId
numbered_act n = record { 0 = n }

record SameAction (i j : ActId) (us ws : List V) : Type 0 where
  action : i ≡ j
  values : us ≡ ws

exact_action : (i j : ActId) (vs ws : List Value) → action_key i vs ≡ action_key j ws → SameAction i j (values_of vs) (values_of ws)
exact_action i j vs ws e =
    let k = exact_wide i.0 j.0 (values_key (values_of vs)) (values_key (values_of ws)) e in
    record { action = ap numbered_act k.0; values = whole_values (values_of vs) (values_of ws) k.1 }

exact_waiting : (i j : ActId) (vs ws : List Value) → waiting_key i vs ≡ waiting_key j ws → SameAction i j (values_of vs) (values_of ws)
exact_waiting i j vs ws e =
    let k = exact_action i j (vs ++ value.Unit ∷ []) (ws ++ value.Unit ∷ []) e in
    record { action = k.action; values = (same_from_push (values_of vs) (values_of ws) (value_of value.Unit) (value_of value.Unit) (sym (values_push vs value.Unit) ∙ k.values ∙ values_push ws value.Unit)).0 }

-- ---- parts and frames

pub exact_part : (x y : Active) → part_key x ≡ part_key y → (b : CodeBody) → active_of b x ≡ active_of b y
exact_part (a.Doing i vs) (a.Doing j ws) e b = let k = exact_action i j vs ws (ap rest_of e) in ap₂ (λ n us. doing (act_of b n) us) k.action k.values
exact_part (a.Ret v) (a.Ret w) e b = ap ret (whole_value (value_of v) (value_of w) (ap rest_of e))
exact_part (a.Throw d) (a.Throw x) e b = ap throw (exact_exn d x [] [] (append-nil (exn_key d) ∙ ap rest_of e ∙ sym (append-nil (exn_key x)))).0
exact_part (a.Asks q vs) (a.Asks r ws) e b =
    let same = exact_primitive q r (ap (λ xs. first_of (rest_of xs)) e) in
    let values = whole_values (values_of vs) (values_of ws) (ap (λ xs. rest_of (rest_of xs)) e) in
    ap₂ (λ z us. performs (calls z us)) same values
exact_part (a.Forks i vs) (a.Forks j ws) e b = let k = exact_action i j vs ws (ap rest_of e) in ap₂ (λ n us. performs (forks (act_of b n) us)) k.action k.values
exact_part (a.ForksUnmask i vs) (a.ForksUnmask j ws) e b = let k = exact_action i j vs ws (ap rest_of e) in ap₂ (λ n us. performs (forks_unmask (act_of b n) us)) k.action k.values
exact_part _ _ e b = let k = ap first_of e in absurd (omega (arith, k))

pub exact_frame : (x y : Frame) → frame_key x ≡ frame_key y → (b : CodeBody) → frame_of b x ≡ frame_of b y
exact_frame (f.Bind i vs) (f.Bind j ws) e b = let k = exact_waiting i j vs ws (ap rest_of e) in ap₂ (λ n us. bind_to (act_of b n) us) k.action k.values
exact_frame (f.Then i vs) (f.Then j ws) e b = let k = exact_action i j vs ws (ap rest_of e) in ap₂ (λ n us. then_to (act_of b n) us) k.action k.values
exact_frame (f.Catch i vs) (f.Catch j ws) e b = let k = exact_waiting i j vs ws (ap rest_of e) in ap₂ (λ n us. catch_by (act_of b n) us) k.action k.values
exact_frame (f.Mask m) (f.Mask n) e b = ap mask_in (exact_mask m.inside n.inside (ap (λ xs. first_of (rest_of xs)) e))
exact_frame _ _ e b = let k = ap first_of e in absurd (omega (arith, k))
