-- The states of a search are those of runs.
use Rattle.std.proofs.Common.{◌≡◌, ◌≤◌, ◌<◌, ◌+◌, ℕ, zero, suc, List, [], ◌∷◌, ◌++◌, length, Option, Some, None, slice_get, refl, sym, ap, ◌∙◌, subst, arith}
use Rattle.std.proofs.lemmas.Option.{same_Some}
use Rattle.hs_base.specs.declared.clock_choice.ClockChoice.{ClockChoice}
use Rattle.hs_base.specs.declared.clock_choice.ClockChoice.TheVariants.{Real, Virtual}
use Rattle.hs_base.specs.declared.limits.Limits.{Limits}
use Rattle.hs_base.specs.declared.tree.script.Script.{Script}
use Rattle.hs_rules.specs.declared.entry.Entry.{Entry}
use Rattle.hs_rules.specs.declared.entry.LimitKind.TheVariants as limit
use Rattle.rules_expansion.specs.trees.Programs.{Fn, script_of}
use Rattle.rules_typing.specs.TypingScripts.{Accepted}
use Rattle.rules_code.specs.CodeTrees.{SlottedFunction, code_trees}
use Rattle.hs_rules.specs.Endings.{IsWithin}
use Rattle.hs_laws.proofs.HowItEnds.{within_begins}
use Rattle.hs_laws.proofs.RunParts.{same_after}
use Rattle.slot_states.specs.SlotStates.{SlotState, moves}
use Rattle.slot_states.specs.Printing.{output_by, errors_by}
use Rattle.slot_states.specs.Resting.{used}
use Rattle.slot_states.proofs.Printed.{nothing_yet, run_prints}
use Rattle.search_laws.specs.time.WithoutTime.{untimed}
use Rattle.search_laws.proofs.rests_lemmas.Untimed.{timed_move}
use Rattle.search_laws.specs.Shown.{forget, Shown, FitsIn, IsFirst, Arrives}
use Rattle.search_laws.specs.Going.{EagerEntries, steps_by, Leaves, Takes}
use Rattle.search_laws.specs.Found.{Source, ComesFirst, ComesBy, ComesOf, Comes, IsBefore, HaveSources}
use Rattle.search_laws.proofs.Walking.{At, within_by, rest_on, led, at_same}

-- ---- eager local rules in exact time

real_rests : (funs : List SlottedFunction) (most : ℕ) (ls : List Entry) (x y : SlotState) → EagerEntries funs most ls (untimed x) y → (z : SlotState) × EagerEntries funs most ls x z × (untimed z ≡ y)
unfolding timed_move
real_rests funs most [] x y h = (x, refl, h)
real_rests funs most (e ∷ es) x y (m, move, is, few, h) =
    let here : SlotState = moves move.number move.term x in
    let k = real_rests funs most es here y (subst (λ z. EagerEntries funs most es z y) move.moved h) in
    (k.0, (here, timed_move funs x m move, is, subst (λ z. used limit.Frames z ≤ most) move.moved few, k.1), k.2)

-- what a chain of eager local rules comes to, the chain from the state itself comes to, but for what is forgotten
pub exact_rests : (clock : ClockChoice) (funs : List SlottedFunction) (most : ℕ) (ls : List Entry) (x y : SlotState) → EagerEntries funs most ls (forget clock x) y → (z : SlotState) × EagerEntries funs most ls x z × (forget clock z ≡ y)
exact_rests Real funs most ls x y h = real_rests funs most ls x y h
exact_rests Virtual funs most ls x y h = (y, h, refl)

-- ---- arrivals

module _ (clock : ClockChoice) (script : Script) (accepted : Accepted script) (limits : Limits) where
  abbrev ds : List Fn
  ds = script_of script

  abbrev funs : List SlottedFunction
  funs = code_trees ds

  pub at_of : (n : ℕ) (c : Shown) → (a : Arrives clock ds limits n c) → At clock ds limits n a.stands.exact c.output c.errors
  at_of n c a = record {
    begin = a.begin;
    begins = a.begins;
    entries = a.entries;
    state = a.state;
    run = a.run;
    steps_are = a.steps_are;
    within = a.within;
    represents = a.stands.represents;
    output_is = a.stands.output;
    errors_is = a.stands.errors;
  }

  arrives_of : (n : ℕ) (x : SlotState) (c : Shown) → forget clock x ≡ c.slots → At clock ds limits n x c.output c.errors → Arrives clock ds limits n c
  arrives_of n x c e a = record {
    begin = a.begin;
    begins = a.begins;
    entries = a.entries;
    state = a.state;
    run = a.run;
    steps_are = a.steps_are;
    within = a.within;
    stands = record { exact = x; represents = a.represents; forgotten = e; output = a.output_is; errors = a.errors_is };
  }

  -- and then eager local rules
  rested : (ls : List Entry) (n : ℕ) (x : SlotState) (o r : List ℕ) (d : Shown) → EagerEntries funs limits.frames ls (forget clock x) d.slots → o ≡ d.output → r ≡ d.errors → At clock ds limits n x o r → Arrives clock ds limits (n + length ls) d
  rested ls n x o r d h e f a =
      let k = exact_rests clock funs limits.frames ls x d.slots h in
      let b = rest_on clock script accepted limits ls n x k.0 o r k.1 a in
      arrives_of (n + length ls) k.0 d k.2 (at_same clock script accepted limits (n + length ls) (n + length ls) k.0 o d.output r d.errors refl e f b)

  takes_on : (n : ℕ) (c d : Shown) (e : Entry) (ls : List Entry) → Takes clock funs limits c e ls d → Arrives clock ds limits n c → Arrives clock ds limits ((n + steps_by clock e) + length ls) d
  takes_on n c d e ls t a =
      let x : SlotState = a.stands.exact in
      let enters : Leaves clock funs (forget clock x) e t.left = subst (λ z. Leaves clock funs z e t.left) (sym a.stands.forgotten) t.enters in
      let l = led script accepted limits clock n x t.left c.output c.errors e enters t.within (at_of n c a) in
      rested ls (n + steps_by clock e) l.exact (c.output ++ output_by (forget clock x) e) (c.errors ++ errors_by (forget clock x) e) d
      (subst (λ z. EagerEntries funs limits.frames ls z d.slots) (sym l.forgotten) t.rests)
      (ap (λ z. c.output ++ output_by z e) a.stands.forgotten ∙ sym t.output)
      (ap (λ z. c.errors ++ errors_by z e) a.stands.forgotten ∙ sym t.errors)
      l.at

  module _ (first : SlotState) (is : IsFirst ds first) where
    -- before any entry
    pub first_at : FitsIn limits first → At clock ds limits 0 first [] []
    first_at fits =
        let run = is.1 in
        let p = run_prints ds [] is.0 run in
        let q = nothing_yet ds in
        record {
          begin = run.0;
          begins = run.1;
          entries = [];
          state = is.0;
          run = run.2;
          steps_are = refl;
          within = within_begins limits ds (λ s a. subst (λ z. IsWithin limits z) (same_after ds [] is.0 s run a) (within_by script limits first is.0 is.2 fits));
          represents = is.2;
          output_is = sym p.0 ∙ q.0;
          errors_is = sym p.1 ∙ q.1;
        }

    first_on : (o : Source) (d : Shown) → ComesFirst clock funs limits first o d → Arrives clock ds limits o.steps d
    first_on o d h =
        subst (λ n. Arrives clock ds limits n d) (omega (arith, h.steps))
        (rested o.locals 0 first [] [] d h.rests (sym h.output) (sym h.errors) (first_at h.within))

    module _ (states : List Shown) (sources : List Source) (have : HaveSources clock funs limits first states sources) where
      abbrev Arrived : ℕ → Type 0
      Arrived i = (c : Shown) (o : Source) → slice_get states i ≡ Some c → slice_get sources i ≡ Some o → Arrives clock ds limits o.steps c

      by_on : (e : Entry) (o : Source) (d : Shown) → Arrived o.parent → ComesBy clock funs limits states sources e o d → Arrives clock ds limits o.steps d
      by_on e o d before h =
          let a = takes_on h.source.steps h.parent d e o.locals h.takes (before h.parent h.source h.is h.its) in
          subst (λ n. Arrives clock ds limits n d) (omega (arith, h.steps)) a

      of_on : (q : Option Entry) (o : Source) (d : Shown) → ((e : Entry) → q ≡ Some e → Arrived o.parent) → ComesOf clock funs limits first states sources q o d → Arrives clock ds limits o.steps d
      of_on None o d before h = first_on o d h
      of_on (Some e) o d before h = by_on e o d (before e refl) h

      parent_below : (q : Option Entry) (p i n : ℕ) (e : Entry) → IsBefore q p i → i < suc n → q ≡ Some e → p < n
      parent_below None p i n e b lt is = absurd (cc is)
      parent_below (Some f) p i n e b lt is = omega arith

      all_arrive : (n i : ℕ) → i < n → Arrived i
      all_arrive zero i lt c o at its = absurd (omega arith)
      all_arrive (suc n) i lt c o at its =
          let h = have i c at in
          let same : h.source ≡ o = same_Some h.source o (sym h.is ∙ its) in
          subst (λ (z : Source). Arrives clock ds limits z.steps c) same
          (of_on h.source.entry h.source c (λ e is. all_arrive n h.source.parent (parent_below h.source.entry h.source.parent i n e h.before lt is)) h.comes)

      pub arrived : (i : ℕ) → Arrived i
      arrived i = all_arrive (suc i) i (omega arith)

      pub comes_arrive : (o : Source) (d : Shown) → Comes clock funs limits first states sources o d → Arrives clock ds limits o.steps d
      comes_arrive o d h = of_on o.entry o d (λ e is. arrived o.parent) h
