use Rattle.std.proofs.Common.{◌≡◌, ◌≢◌, ℕ, ◌+◌, ◌<◌, ◌≤◌, [], ◌∷◌, ◌++◌, length, length-set, Some, None, slice_get, sym, ap, ◌∙◌, subst, refl, ⊎_elim, arith}
use Rattle.std.proofs.lemmas.Option.{slice_get_read}
use Rattle.conc_hands.specs.queues.Deques.{deque_view, pass_view}
use Rattle.conc_hands.proofs.Tickets.{share_other, same_rights, stole}
use Rattle.conc_hands.proofs.Places.{got_after}
use Rattle.conc_hands.proofs.ends.steal_at.Goals as goal

pub steal-requires : goal.steal-requires
steal-requires g c = let h = c.requires.end in let ts = c.args.doors.now.items in let ps = c.args.end.now.passes.items in
    let few : c.args.from < length ps = (let a = c.requires.from.0 in let b = h.1.all in omega arith) in
    let t = c.index.result.now in let p = c.index_mut.result.now in
    let is_t : slice_get ts c.args.from ≡ Some t = slice_get_read ts (length ts) c.args.from t refl c.requires.from.0 c.index.ensures in
    let is_p : slice_get ps c.args.from ≡ Some p = slice_get_read ps (length ps) c.args.from p refl few c.index_mut.ensures.value in
    let one = h.1.pass_shares c.args.from p is_p ∙ share_other c.args.end.now.number c.args.from c.requires.from.1 in
    (h.0.passes_of c.args.from p is_p t is_t, omega (arith, one))

pub returns-clause-job : goal.returns-clause-job
returns-clause-job g c = let h = c.requires.end in let ps = c.args.end.now.passes.items in
    let few : c.args.from < length ps = (let a = c.requires.from.0 in let b = h.1.all in omega arith) in
    let p = c.index_mut.result.now in
    let is_p : slice_get ps c.args.from ≡ Some p = slice_get_read ps (length ps) c.args.from p refl few c.index_mut.ensures.value in
    let one = h.1.pass_shares c.args.from p is_p ∙ share_other c.args.end.now.number c.args.from c.requires.from.1 in
    stole g.J.Ticketed.number g.J.Ticketed.belongs c.steal.result (deque_view c.args.end.now.deque).taken ps c.args.from p c.steal.new.pass is_p _ ((h.0.clean c.args.from p is_p).1 (omega (arith, one))) c.steal.ensures.job

pub returns-clause-end : goal.returns-clause-end
returns-clause-end g c = let h = c.requires.end in let ts = c.args.doors.now.items in let ps = c.args.end.now.passes.items in
    let few : c.args.from < length ps = (let a = c.requires.from.0 in let b = h.1.all in omega arith) in
    let t = c.index.result.now in let p = c.index_mut.result.now in let q = c.steal.new.pass in
    let is_t : slice_get ts c.args.from ≡ Some t = slice_get_read ts (length ts) c.args.from t refl c.requires.from.0 c.index.ensures in
    let is_p : slice_get ps c.args.from ≡ Some p = slice_get_read ps (length ps) c.args.from p refl few c.index_mut.ensures.value in
    let one = h.1.pass_shares c.args.from p is_p ∙ share_other c.args.end.now.number c.args.from c.requires.from.1 in
    let clean = h.0.clean c.args.from p is_p in
    let rights = same_rights g.J.Ticketed.number g.J.Ticketed.belongs c.steal.result (pass_view p) (pass_view q) c.steal.ensures.job in (
      record {
        place = h.0.place;
        own = h.0.own;
        few = subst (λ (n : ℕ). n ≤ length ts) (sym (length-set ps c.args.from q)) h.0.few;
        passes_of = λ k x e u eu. ⊎_elim
            (λ y. let tu : t ≡ u = cc (is_t, eu, y.0) in rw (← tu, ← y.1) c.steal.ensures.pass)
            (λ y. h.0.passes_of k x y.1 u eu) (got_after ps c.args.from k q x e);
        clean = λ k x e. ⊎_elim
            (λ y. rw (← y.1) (rights.0 ∙ clean.0, (λ _. rights.2 ∙ clean.1 (omega (arith, one))), (λ none_left. absurd (let s = rights.1 in omega (arith, one)))))
            (λ y. h.0.clean k x y.1) (got_after ps c.args.from k q x e);
      },
      record {
        all = length-set ps c.args.from q ∙ h.1.all;
        own_shares = h.1.own_shares;
        pass_shares = λ k x e. ⊎_elim
            (λ y. rw (← y.1, y.0) (rights.1 ∙ h.1.pass_shares c.args.from p is_p))
            (λ y. h.1.pass_shares k x y.1) (got_after ps c.args.from k q x e);
      },
    )
