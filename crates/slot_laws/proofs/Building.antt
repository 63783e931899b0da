-- For each typed term there is a term with slots that stands for it.
use Rattle.std.proofs.Common.{◌≡◌, ℕ, ◌==◌, List, [], ◌∷◌, ◌++◌, length, Bool, true, false, cond, Option, Some, None, refl, sym, ap, ◌∙◌, subst, arith, slice_get, length-append, eqb-true}
use Rattle.std.proofs.lemmas.Slice.Eq.{bytes_eq-Decides}
use Rattle.plain_laws.proofs.Lists.{get_last}
use Rattle.hs_base.specs.declared.tree.script.Script.{Script}
use Rattle.hs_rules.specs.declared.entry.Entry.{Entry}
use Rattle.rules_expansion.specs.trees.Trees.{T}
use Rattle.rules_expansion.specs.trees.Programs.{Fn, script_of}
use Rattle.rules_expansion.specs.Names.{Name, Written, Added, hidden_number, same_name, Unread}
use Rattle.rules_expansion.specs.declared.hidden.Hidden.{Hidden}
use Rattle.rules_expansion.specs.Core.{Core}
use Rattle.rules_meaning.specs.Values.{V, UnitValue, Env, value_at}
use Rattle.rules_sorts.specs.Sorts.{Sort, SortedName, sort_at}
use Rattle.rules_typing.specs.TypingScripts.{Accepted}
use Rattle.rules_code.specs.Slots.{slot_of}
use Rattle.rules_code.specs.CodeTrees.{a_bad}
use Rattle.rules_code.specs.Matching.{Seen}
use Rattle.hs_rules.specs.Terms as named
use Rattle.hs_rules.specs.State.{Thread, State}
use Rattle.hs_rules.specs.Runs.{IsRun}
use Rattle.hs_laws.proofs.Lists.{item_append}
use Rattle.hs_soundness.specs.CoreSorts.{names_of, FitsAt, FitsScope, SlotsFit}
use Rattle.hs_progress.specs.TypedStates as typed
use Rattle.hs_progress.specs.TypedStates.{Runs, OpTyped, calls_typed, forks_typed, forks_unmask_typed, PartTyped, ret_typed, throw_typed, do_typed, op_typed, FramesTyped, no_frames, bind_typed, then_typed, catch_typed, mask_typed, ThreadTyped, has, TypedState}
use Rattle.hs_progress.specs.CoreTyping.{with_bound}
use Rattle.hs_progress.proofs.Entries.{runs_are_typed}
use Rattle.slot_laws.specs.SlotRules as slot
use Rattle.slot_laws.specs.SlotRules.{SlotOp, SlotPart, SlotFrame, SlotTerm, at}
use Rattle.slot_laws.specs.Standing.{tree_of, Reads, Awaits, OpStands, calls_stands, forks_stands, forks_unmask_stands, PartStands, ret_stands, throw_stands, do_stands, op_stands, FramesStand, none_stand, bind_stands, then_stands, catch_stands, mask_stands}
use Rattle.slot_laws.specs.Stacks.{StacksStand}
pub use Rattle.plain_laws.proofs.Lists.{get_last as last_item}

-- ---- an environment finds the same by names that are the same

same_both : {A : Type 0} (t u : Bool) (x y z : A) → t ≡ u → y ≡ z → cond t x y ≡ cond u x z
same_both t u x y z e f = ap (λ b. cond b x y) e ∙ ap (cond u x) f

hidden_same : (h k : Hidden) → hidden_number h ≡ hidden_number k → (n : Name) → same_name (Added h) n ≡ same_name (Added k) n
hidden_same h k e (Written x) = refl
hidden_same h k e (Added z) = ap (λ m. m == hidden_number z) e
hidden_same h k e Unread = refl

hidden_finds : (h k : Hidden) → hidden_number h ≡ hidden_number k → (env : Env) → value_at (Added h) env ≡ value_at (Added k) env
hidden_finds h k e [] = refl
hidden_finds h k e (b ∷ bs) =
    same_both (same_name (Added h) b.name) (same_name (Added k) b.name) (Some b.value) (value_at (Added h) bs) (value_at (Added k) bs) (hidden_same h k e b.name) (hidden_finds h k e bs)

finds_same : (x y : Name) → same_name x y ≡ true → (env : Env) → value_at x env ≡ value_at y env
finds_same (Written x) (Written y) e env = ap (λ z. value_at (Written z) env) ((bytes_eq-Decides x y).0 e)
finds_same Unread Unread e env = refl
finds_same (Added h) (Added k) e env = hidden_finds h k (eqb-true (hidden_number h) (hidden_number k) e) env
finds_same _ _ e env = absurd (cc e)

-- ---- values of slots

-- a name that is hidden by a newer one, or that has no value, has a slot all the same
abbrev value_or : Option V → V
value_or None = UnitValue
value_or (Some v) = v

module _ (env : Env) where
  abbrev slots_in : List SortedName → List V
  slots_in [] = []
  slots_in (c ∷ g) = slots_in g ++ value_or (value_at c.name env) ∷ []

  slots_count : (g : List SortedName) → length (slots_in g) ≡ length (names_of g)
  slots_count [] = refl
  slots_count (c ∷ g) = let l = length-append (slots_in g) (value_or (value_at c.name env) ∷ []) in let h = slots_count g in omega (arith, l, h)

  -- a name has a sort in a scope where it has a slot, which holds its value
  abbrev Agree : Option Sort → Option ℕ → Option V → List V → Type 0
  Agree None None w vs = Unit {0}
  Agree None (Some n) w vs = ⊥
  Agree (Some k) None w vs = ⊥
  Agree (Some k) (Some n) None vs = Unit {0}
  Agree (Some k) (Some n) (Some v) vs = slice_get vs n ≡ Some v

  agree_more : (o : Option Sort) (n : Option ℕ) (w : Option V) (vs us : List V) → Agree o n w vs → Agree o n w (vs ++ us)
  agree_more None None w vs us h = h
  agree_more (Some k) (Some n) (Some v) vs us h = item_append vs us n v h
  agree_more _ _ _ vs us h = h

  agree_end : (k : Sort) (n : ℕ) (w r : Option V) (vs : List V) → length vs ≡ n → r ≡ w → Agree (Some k) (Some n) w (vs ++ value_or r ∷ [])
  agree_end k n None r vs l e = tt
  agree_end k n (Some v) r vs l e = ap (slice_get (vs ++ value_or r ∷ [])) (sym l) ∙ (get_last vs (value_or r) ∙ ap (λ z. Some (value_or z)) e)

  agree_bound : (t : Bool) (k : Sort) (n : ℕ) (o : Option Sort) (m : Option ℕ) (w r : Option V) (vs : List V) → length vs ≡ n → (t ≡ true → r ≡ w) → Agree o m w vs → Agree (cond t (Some k) o) (cond t (Some n) m) w (vs ++ value_or r ∷ [])
  agree_bound true k n o m w r vs l e h = agree_end k n w r vs l (e refl)
  agree_bound false k n o m w r vs l e h = agree_more o m w vs (value_or r ∷ []) h

  all_agree : (g : List SortedName) (y : Name) → Agree (sort_at y g) (slot_of (names_of g) y) (value_at y env) (slots_in g)
  all_agree [] y = tt
  all_agree (c ∷ g) y =
      agree_bound (same_name y c.name) c.sort (length (names_of g)) (sort_at y g) (slot_of (names_of g) y) (value_at y env) (value_at c.name env) (slots_in g) (slots_count g)
      (λ e. sym (finds_same y c.name e env)) (all_agree g y)

  module _ (cells : ℕ → T → Type 0) where
    seen_agree : (y : Name) (o : Option Sort) (n : Option ℕ) (w : Option V) (vs : List V) → FitsAt cells y o w → Agree o n w vs → Seen n w vs
    seen_agree y None None None vs f h = tt
    seen_agree y None None (Some v) vs f h = f
    seen_agree y None (Some n) w vs f h = absurd h
    seen_agree y (Some k) None w vs f h = absurd h
    seen_agree y (Some k) (Some n) None vs f h = f
    seen_agree y (Some k) (Some n) (Some v) vs f h = h

    slots_fit : (g : List SortedName) → FitsScope cells g env → SlotsFit cells g env (slots_in g)
    slots_fit g f = record {
      slots = record { size = slots_count g; seen = λ y u. seen_agree y (sort_at y g) (slot_of (names_of g) y) (value_at y env) (slots_in g) (f y) (all_agree g y) };
      sorts = f;
    }

-- ---- terms

module _ (cells : ℕ → T → Type 0) (ds : List Fn) where
  read_for : {a : Core} {env : Env} {k : Sort} → (r : Runs cells ds a env k) → Reads cells ds (tree_of ds r.scope a) (slots_in env r.scope) a env k
  read_for {env} r = record { here = r.here; scope = r.scope; is = refl; does = r.does; fits = slots_fit env cells r.scope r.fits }

  awaits_for : {x : Name} {j : Sort} {a : Core} {env : Env} {k : Sort} → (w : typed.Awaits cells ds x j a env k) → Awaits cells ds x j (tree_of ds (with_bound x j w.scope) a) (slots_in env w.scope) a env k
  awaits_for {env} w = record { here = w.here; scope = w.scope; binds = w.binds; is = refl; does = w.does; fits = slots_fit env cells w.scope w.fits }

  op_for : {op : named.Operation} {k : Sort} → OpTyped cells ds op k → (p : SlotOp) × OpStands cells ds p op k
  op_for (calls_typed {p} {vs} q h) = (slot.calls p vs, calls_stands q h)
  op_for (forks_typed r) = (slot.forks _ _, forks_stands (read_for r))
  op_for (forks_unmask_typed w) = (slot.forks_unmask _ _, forks_unmask_stands (awaits_for w))

  part_for : {q : named.Part} {k : Sort} → PartTyped cells ds q k → (p : SlotPart) × PartStands cells ds p q k
  part_for (ret_typed {v} h) = (slot.ret v, ret_stands h)
  part_for (throw_typed {e}) = (slot.throw e, throw_stands)
  part_for (do_typed r) = (slot.doing _ _, do_stands (read_for r))
  part_for (op_typed h) = let o = op_for h in (slot.performs o.0, op_stands o.1)

  frames_for : {k : Sort} {fs : List named.Frame} → FramesTyped cells ds k fs → (ss : List SlotFrame) × FramesStand cells ds k ss fs
  frames_for no_frames = ([], none_stand)
  frames_for (bind_typed w b) = let r = frames_for b in (slot.bind_to _ _ ∷ r.0, bind_stands (awaits_for w) r.1)
  frames_for (then_typed w b) = let r = frames_for b in (slot.then_to _ _ ∷ r.0, then_stands (read_for w) r.1)
  frames_for (catch_typed w b) = let r = frames_for b in (slot.catch_by _ _ ∷ r.0, catch_stands (awaits_for w) r.1)
  frames_for (mask_typed {m} b) = let r = frames_for b in (slot.mask_in m ∷ r.0, mask_stands r.1)

  abbrev stack_for : (k : Sort) (o : Option Thread) → ThreadTyped cells ds k o → SlotTerm
  stack_for k None h = at (slot.doing a_bad []) []
  stack_for k (Some th) h = at (part_for h.0).0 (frames_for h.1).0

  stack_stands : (k : Sort) (o : Option Thread) (h : ThreadTyped cells ds k o) (th : Thread) → o ≡ Some th → PartStands cells ds (stack_for k o h).part th.term.part k × FramesStand cells ds k (stack_for k o h).frames th.term.frames
  stack_stands k None h th e = let z : None ≡ Some th = e in absurd (cc z)
  stack_stands k (Some b) h th e =
      let z : b ≡ th = cc e in
      subst (λ (x : Thread). PartStands cells ds (stack_for k (Some b) h).part x.term.part k × FramesStand cells ds k (stack_for k (Some b) h).frames x.term.frames) z ((part_for h.0).1, (frames_for h.1).1)

pub runs_have_stacks : (script : Script) → Accepted script → (es : List Entry) (u : State) → IsRun (script_of script) es u → (stacks : ℕ → SlotTerm) × StacksStand (script_of script) stacks u
runs_have_stacks script accepted es u r =
    let d = runs_are_typed script accepted es u r in (
      (λ t. stack_for (has d.store) (script_of script) (d.store.sorts t) (slice_get u.threads t) (d.sound.threads t)),
      record {
        store = d.store;
        sound = d.sound;
        stands = λ t th is. stack_stands (has d.store) (script_of script) (d.store.sorts t) (slice_get u.threads t) (d.sound.threads t) th is;
      },
    )
