-- Chains: what is put together step by step is the same as in one pass over the operands.
use Rattle.std.proofs.Common.{◌≡◌, List, [], ◌∷◌, ◌++◌, Option, Some, None, refl, ap, ◌∙◌, sym, append_assoc}
use Rattle.std.proofs.lemmas.List.{append-nil}
use Rattle.hs_base.specs.declared.pos.Pos.{Pos}
use Rattle.hs_base.specs.declared.tree.forms.BinaryForm.{BinaryForm}
use Rattle.rules_expansion.specs.trees.Trees.{T, Links, end, link}
use Rattle.rules_typing.specs.Typing.{Ctx, TypedName, row_binary}
use Rattle.typing_judge.specs.Judging.{Found, after, with2, own, parts2, typed, folded, judge, judge_links, operand_faults, operand_types}

abbrev row : BinaryForm → Pos → T → T → Found
row o p u v = own p (row_binary o u v)

-- the faults of what stands before come first
pub links_after : (c : Ctx) (s : List TypedName) (ks : Links) (x : Found) → judge_links c s x ks ≡ after x.faults (judge_links c s (typed x.type) ks)
links_after c s end x = ap (λ z. record { faults = z; type = x.type }) (sym (append-nil x.faults))
links_after c s (link o p e ks) x =
    let a = judge c s e in
    let y : Found = parts2 x a (row o p) in
    let z : Found = parts2 (typed x.type) a (row o p) in
    let r : Found = judge_links c s (typed y.type) ks in
    links_after c s ks y ∙ (ap (λ fs. record { faults = fs; type = r.type }) (ap (λ fs. fs ++ r.faults) (append_assoc x.faults a.faults (with2 x.type a.type (row o p)).faults) ∙ append_assoc x.faults z.faults r.faults) ∙ ap (after x.faults) (sym (links_after c s ks z)))

-- `:` and `++` put together from the right
abbrev pub judge_conses : Ctx → List TypedName → Found → Links → Found
judge_conses c s x end = x
judge_conses c s x (link o p e ks) = parts2 x (judge_conses c s (judge c s e) ks) (λ u v. own p (row_binary o u v))

pub conses_after : (c : Ctx) (s : List TypedName) (ks : Links) (x : Found) → judge_conses c s x ks ≡ after x.faults (judge_conses c s (typed x.type) ks)
conses_after c s end x = ap (λ z. record { faults = z; type = x.type }) (sym (append-nil x.faults))
conses_after c s (link o p e ks) x =
    let r : Found = judge_conses c s (judge c s e) ks in
    let b : Found = with2 x.type r.type (row o p) in
    ap (λ fs. record { faults = fs; type = b.type }) (append_assoc x.faults r.faults b.faults)

pub conses_are : (c : Ctx) (s : List TypedName) (ks : Links) (x : Option T) → judge_conses c s (typed x) ks ≡ after (operand_faults c s ks) (folded (x ∷ operand_types c s ks) ks)
conses_are c s end x = refl
conses_are c s (link o p e ks) x =
    let a = judge c s e in
    let f : Found = folded (a.type ∷ operand_types c s ks) ks in
    let r : judge_conses c s a ks ≡ after a.faults (after (operand_faults c s ks) f) = conses_after c s ks a ∙ ap (after a.faults) (conses_are c s ks a.type) in
    let b : Found = with2 x f.type (row o p) in
    ap (λ z. after z.faults (with2 x z.type (row o p))) r
    ∙ ap (λ fs. record { faults = fs; type = b.type }) (ap (λ z. z ++ b.faults) (sym (append_assoc a.faults (operand_faults c s ks) f.faults)) ∙ append_assoc (a.faults ++ operand_faults c s ks) f.faults b.faults)
