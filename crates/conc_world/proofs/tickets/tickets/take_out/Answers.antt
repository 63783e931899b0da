-- The closure passes all tickets but one.
use Rattle.std.proofs.Common.{◌≡◌, ◌==◌, not, nat_eq, rules, ap, ◌∙◌, subst, sym}
use Rattle.std.specs.List.{IsDistinct}
use Rattle.std.specs.Set.{is_member}
use Rattle.std.proofs.lemmas.Fn.{filter_same}
use Rattle.conc_world.proofs.tickets_lemmas.Marks.{without, IsDistinct-filter, taken_out, others_stay}
use Rattle.conc_world.proofs.tickets.tickets.take_out.Goals as goal

left : (c : goal.After-retain) → c.retain.new.self.items ≡ without c.args.ticket c.args.tickets.now.items
left c = filter_same _ (λ k. not (k == c.args.ticket)) _ (λ x b f' t. search rules) _ _ c.retain.ensures.filtered

pub returns-clause-taken : goal.returns-clause-taken
returns-clause-taken c = ap (λ ks. is_member nat_eq ks c.args.ticket) (left c) ∙ taken_out c.args.ticket c.args.tickets.now.items

pub returns-clause-others : goal.returns-clause-others
returns-clause-others c = λ k ne. ap (λ ks. is_member nat_eq ks k) (left c) ∙ others_stay c.args.ticket c.args.tickets.now.items k ne

pub returns-clause-once : goal.returns-clause-once
returns-clause-once c = λ once. subst (IsDistinct nat_eq) (sym (left c)) (IsDistinct-filter (λ k. not (k == c.args.ticket)) c.args.tickets.now.items once)
