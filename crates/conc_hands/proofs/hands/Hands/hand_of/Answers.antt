use Rattle.std.proofs.Common.{rules, ◌≡◌, ◌+◌, ◌<◌, ◌≤◌, ℕ, Some, [], sym, ap, ◌∙◌, subst, refl, arith}
use Rattle.conc_hands.specs.declared.flags.view.PenView.{PenView}
use Rattle.conc_hands.specs.declared.queues.view.QueueView.{QueueView}
use Rattle.conc_hands.proofs.Deals.{end_made}
use Rattle.conc_hands.proofs.hands.Hands.hand_of.Goals as goal

pub returns-clause-hand : goal.returns-clause-hand
returns-clause-hand g c = let r = c.requires in let some : 0 < 1 = omega arith in
    let m = end_made c.args.self.now.doors.items _ _ record { number = c.args.number; deque = c.args.deque; passes = c.args.passes } (let a = r.place.0 in omega arith) r.place.1 r.place.0 r.place.2 r.jobs.0 r.jobs.1 in record {
      doors = r.place.2;
      end = m.0;
      dealt = m.1;
      jobs_code = m.2;
      post = r.post.0;
      post_shares = r.post.1.3;
      slices_code = r.post.1.0;
      pen = r.pen.0;
      one_share = ap (λ (v : PenView). v.shares) r.pen.1;
    }

pub returns-clause-fresh : goal.returns-clause-fresh
returns-clause-fresh g c = let r = c.requires in
    let m = end_made c.args.self.now.doors.items _ _ record { number = c.args.number; deque = c.args.deque; passes = c.args.passes } (let a = r.place.0 in omega arith) r.place.1 r.place.0 r.place.2 r.jobs.0 r.jobs.1 in (
      refl,
      (
        r.jobs.0.1,
        ap (λ (v : QueueView). v.put) r.jobs.0.0,
        m.3,
        r.post.1.1,
        r.post.1.2,
        ap (λ (v : PenView). v.raised) r.pen.1,
        ap (λ (v : PenView). v.read) r.pen.1,
      ),
    )
