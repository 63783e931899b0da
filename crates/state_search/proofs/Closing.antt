-- Where the search has gone on from each state, nothing was left out.
use Rattle.std.proofs.Common.{◌≡◌, ◌≤◌, ◌<◌, ℕ, length, Option, Some, None, slice_get, sym, ap, ◌∙◌, subst, arith, length-append}
use Rattle.std.proofs.lemmas.List.{length-map}
use Rattle.hs_rules.specs.declared.entry.Entry.{Entry}
use Rattle.rules_code.specs.declared.code.CodeBody.{CodeBody}
use Rattle.outcome_listing.specs.declared.bounds.Bounds.{Bounds}
use Rattle.local_steps.specs.Machine.{funs_of}
use Rattle.search_laws.specs.Shown.{Shown}
use Rattle.search_laws.specs.Found.{Source, IsBefore, ComesFirst, ComesOf}
use Rattle.search_laws.proofs.Candidates.{there_below}
use Rattle.state_search.specs.declared.found.Found.{Found}
use Rattle.state_search.specs.Meaning.{shown, states_of, sources_of, begun}
use Rattle.state_search.specs.Searching.{IsClosed}
use Rattle.state_search.specs.Working.{Going, Extends, HasBegun}
use Rattle.state_search.proofs.Promised.{there_at}

-- what was found before is there
pub begun_on : (b : CodeBody) (f h : Found) → HasBegun f → Extends b f h → HasBegun h
begun_on b f h first e none =
    let some = first (e.gap none) in
    let old = length-map f.states (shown f.numbers b) in
    let new = length-map h.states (shown h.numbers b) in
    let more = ap length e.states.1 ∙ length-append (states_of b f) e.states.0 in
    omega (arith, some, old, new, more)

module _ (bounds : Bounds) (b : CodeBody) (n : ℕ) (f : Found) (going : Going bounds b n f) (last : length f.states ≤ n) where
  below : (i : ℕ) (c : Shown) → slice_get (states_of b f) i ≡ Some c → i < n
  below i c at = let w = there_below (states_of b f) i c at in let e = length-map f.states (shown f.numbers b) in omega (arith, w, e)

  -- the first state came of no other
  first_comes : (e : Option Entry) (o : Source) (d : Shown) → IsBefore e o.parent 0 → ComesOf bounds.clock (funs_of b) bounds.limits (begun b) (states_of b f) (sources_of f) e o d → ComesFirst bounds.clock (funs_of b) bounds.limits (begun b) o d
  first_comes None o d before comes = comes
  first_comes (Some e) o d before comes = absurd (omega (arith, before))

  pub closed : f.gap ≡ None → HasBegun f → IsClosed bounds b f
  closed none begins =
      let first = there_at (states_of b f) 0 (subst (λ m. 0 < m) (sym (length-map f.states (shown f.numbers b))) (begins none)) in
      let its = going.searched.sources 0 first.0 first.1 in
      record {
        gone = record {
          begin = first.0;
          is = first.1;
          source = its.source;
          comes = first_comes its.source.entry its.source first.0 its.before its.comes;
          each = λ i c at. going.gone none i c (below i c at) at;
        };
        ends = λ i c k at bt. going.looked i c k (below i c at) at bt;
      }
