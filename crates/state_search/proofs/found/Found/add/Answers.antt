use Rattle.std.proofs.Common.{◌≡◌, ◌∷◌, ◌++◌, [], refl, sym, ap, ◌∙◌, subst, arith}
use Rattle.rules_code.specs.declared.code.CodeBody.{CodeBody}
use Rattle.state_search.specs.declared.found.Found.{Found}
use Rattle.state_search.specs.Meaning.{shown}
use Rattle.state_search.specs.Working.{Going, Extends, IsKeptAt}
use Rattle.state_search.proofs.Keeping.{kept_known, number_known, number_new, added, Adds, kept_new, kept_there, kept_extends}
use Rattle.state_search.proofs.Trying.{extends_same}
use Rattle.state_search.proofs.found.Found.add.Goals as goal

-- src/going.rt
pub returns-then-number-count : goal.returns-then-number-count
returns-then-number-count c =
    let f = c.args.self.now in
    let x = c.args.state in
    let h : Found = record f { states = c.number.new.self } in
    let number = c.in_ok-number.ensures in
    let below = c.if-number-count.true in
    let known = number_known f.states c.number.new.self c.in_ok-number.number x number.is number.adds (omega (arith, c.len-count.ensures, below)) number.stays in
    let same : h ≡ f = ap (λ s. record f { states = s }) known.0 in
    record {
      going = λ b n within going comes. subst (Going c.args.bounds.now b n) (sym same) going;
      kept = λ b. subst (λ z. IsKeptAt b z c.in_ok-number.number (shown f.numbers b x)) (sym same) (kept_known b f x c.in_ok-number.number known.1);
      extends = λ b. subst (Extends b f) (sym same) (extends_same b f);
      numbers = refl;
      moves = refl;
    }

pub returns : goal.returns
returns c =
    let f = c.args.self.now in
    let x = c.args.state in
    let h : Found = record f { states = c.number.new.self; origins = c.push_reserved.new.self; kinds = c.push_reserved-2.new.self } in
    let number = c.in_ok-number.ensures in
    let above = c.if-number-count.false in
    let none = number_new f.states c.number.new.self c.in_ok-number.number x number.is (omega (arith, c.len-count.ensures, above)) number.stays in
    let new = added f.states h.states c.in_ok-number.number x none number.is number.adds in
    let origins = c.in_ok-reserve.ensures.items in
    let kinds = c.in_ok-reserve-2.ensures.items in
    let adds : (b : CodeBody) → Adds c.args.bounds.now b f h x c.args.by = λ b. record {
      kind = c.ended-kind.result;
      numbers = refl;
      states = new.0;
      origins = c.push_reserved.ensures.items ∙ ap (λ xs. xs ++ c.args.by ∷ []) origins;
      kinds = c.push_reserved-2.ensures.items ∙ ap (λ xs. xs ++ c.ended-kind.result ∷ []) kinds;
      rules = refl;
      moves = refl;
      gap = refl;
      there = c.requires.there;
      ended = c.ended-kind.ensures b;
      none = none;
      short = c.requires.may.0;
      few = c.requires.may.1;
    } in
    record {
      going = λ b n within going comes. kept_new c.args.bounds.now b n f h x c.args.by (adds b) within going comes;
      kept = λ b. kept_there c.args.bounds.now b f h x c.args.by (adds b) c.in_ok-number.number new.1;
      extends = λ b. kept_extends c.args.bounds.now b f h x c.args.by (adds b);
      numbers = refl;
      moves = refl;
    }
