use Rattle.std.proofs.Common.{rules, ◌≡◌, ℕ, ◌<◌, ◌≤◌, List, length, length-set, map, set, slice_get, Some, sym, ap, ◌∙◌, subst, refl, arith}
use Rattle.std.proofs.lemmas.Option.{slice_get_read}
use Rattle.conc_hands.specs.queues.Deques.{pass_view}
use Rattle.conc_hands.specs.declared.hand.Hand.{Hand}
use Rattle.conc_hands.specs.declared.hand.JobsEnd.{JobsEnd}
use Rattle.conc_hands.specs.Gathering.{ends_in, number_at, IsSpentAt, IsConserved, AreEnds}
use Rattle.conc_hands.proofs.Places.{mapped_set, got_mapped}
use Rattle.conc_hands.proofs.Gathers.{TookIn, may_take_in, moved_ends, moved_conserved, moved_spent}
use Rattle.conc_hands.proofs.Totals.{number_here}
use Rattle.conc_hands.proofs.gather.gather_pass.Goals as goal

pub index-requires-2 : goal.index-requires-2
index-requires-2 g c =
    let xs = c.args.hands.now.items in let es = ends_in xs in let doors = c.args.doors.now.items in let o = c.index.result.now in let place = o.jobs.number in
    let own_at : slice_get xs c.args.owner ≡ Some o = slice_get_read xs (length xs) c.args.owner o refl c.requires.places.0 c.index.ensures in
    let own_in = got_mapped (λ (x : Hand _ _). x.jobs) xs c.args.owner o own_at in
    let small : place < length doors = (c.requires.ends c.args.owner o.jobs own_in).0.place in
    search rules

pub swap_pass-pass-requires : goal.swap_pass-pass-requires
swap_pass-pass-requires g c =
    let xs = c.args.hands.now.items in let es = ends_in xs in let doors = c.args.doors.now.items in let o = c.index.result.now in let place = o.jobs.number in
    let own_at : slice_get xs c.args.owner ≡ Some o = slice_get_read xs (length xs) c.args.owner o refl c.requires.places.0 c.index.ensures in
    let own_in = got_mapped (λ (x : Hand _ _). x.jobs) xs c.args.owner o own_at in
    let small : place < length doors = (c.requires.ends c.args.owner o.jobs own_in).0.place in
    let x = c.index_mut.result.now in
    let at_at : slice_get xs c.args.at ≡ Some x = slice_get_read xs (length xs) c.args.at x refl c.requires.places.1 c.index_mut.ensures.value in
    let at_in = got_mapped (λ (x : Hand _ _). x.jobs) xs c.args.at x at_at in
    subst (λ n. place < n) (sym (c.requires.ends c.args.at x.jobs at_in).1) small

pub absorb-requires : goal.absorb-requires
absorb-requires g c =
    let xs = c.args.hands.now.items in let es = ends_in xs in let doors = c.args.doors.now.items in let o = c.index.result.now in let place = o.jobs.number in
    let own_at : slice_get xs c.args.owner ≡ Some o = slice_get_read xs (length xs) c.args.owner o refl c.requires.places.0 c.index.ensures in
    let own_in = got_mapped (λ (x : Hand _ _). x.jobs) xs c.args.owner o own_at in
    let small : place < length doors = (c.requires.ends c.args.owner o.jobs own_in).0.place in
    let x = c.index_mut.result.now in
    let at_at : slice_get xs c.args.at ≡ Some x = slice_get_read xs (length xs) c.args.at x refl c.requires.places.1 c.index_mut.ensures.value in
    let at_in = got_mapped (λ (x : Hand _ _). x.jobs) xs c.args.at x at_at in
    let door = c.index-2.result.now in
    let door_at : slice_get doors place ≡ Some door = slice_get_read doors (length doors) place door refl small c.index-2.ensures in
    let f = c.swap_pass-pass.new.end in
    let ys = set xs c.args.at record { jobs = f; post = x.post; pen = x.pen } in
    let z = c.index_mut-2.result.now in
    let z_at : slice_get ys c.args.owner ≡ Some z = slice_get_read ys (length ys) c.args.owner z refl (subst (λ n. c.args.owner < n) (sym (length-set xs c.args.at _)) c.requires.places.0) c.index_mut-2.ensures.value in
    let ends_ys : ends_in ys ≡ set es c.args.at f = mapped_set (λ (x : Hand _ _). x.jobs) xs c.args.at record { jobs = f; post = x.post; pen = x.pen } in
    let z_in : slice_get (set es c.args.at f) c.args.owner ≡ Some z.jobs = subst (λ l. slice_get l c.args.owner ≡ Some z.jobs) ends_ys (got_mapped (λ (x : Hand _ _). x.jobs) ys c.args.owner z z_at) in
    let own_number : number_at es c.args.owner ≡ place = sym (number_here (λ (e : JobsEnd _). e.number) es c.args.owner o.jobs own_in) in
    may_take_in doors es c.args.at c.args.owner x.jobs f z.jobs c.swap_pass-pass.result door place c.requires.ends at_in c.swap_pass-pass.ensures.pass door_at c.swap_pass-pass.ensures.left z_in own_number

pub returns-clause-ends : goal.returns-clause-ends
returns-clause-ends g c =
    let xs = c.args.hands.now.items in let es = ends_in xs in let doors = c.args.doors.now.items in let o = c.index.result.now in let place = o.jobs.number in
    let own_at : slice_get xs c.args.owner ≡ Some o = slice_get_read xs (length xs) c.args.owner o refl c.requires.places.0 c.index.ensures in
    let own_in = got_mapped (λ (x : Hand _ _). x.jobs) xs c.args.owner o own_at in
    let small : place < length doors = (c.requires.ends c.args.owner o.jobs own_in).0.place in
    let x = c.index_mut.result.now in
    let at_at : slice_get xs c.args.at ≡ Some x = slice_get_read xs (length xs) c.args.at x refl c.requires.places.1 c.index_mut.ensures.value in
    let at_in = got_mapped (λ (x : Hand _ _). x.jobs) xs c.args.at x at_at in
    let door = c.index-2.result.now in
    let door_at : slice_get doors place ≡ Some door = slice_get_read doors (length doors) place door refl small c.index-2.ensures in
    let f = c.swap_pass-pass.new.end in
    let ys = set xs c.args.at record { jobs = f; post = x.post; pen = x.pen } in
    let z = c.index_mut-2.result.now in
    let z_at : slice_get ys c.args.owner ≡ Some z = slice_get_read ys (length ys) c.args.owner z refl (subst (λ n. c.args.owner < n) (sym (length-set xs c.args.at _)) c.requires.places.0) c.index_mut-2.ensures.value in
    let ends_ys : ends_in ys ≡ set es c.args.at f = mapped_set (λ (x : Hand _ _). x.jobs) xs c.args.at record { jobs = f; post = x.post; pen = x.pen } in
    let z_in : slice_get (set es c.args.at f) c.args.owner ≡ Some z.jobs = subst (λ l. slice_get l c.args.owner ≡ Some z.jobs) ends_ys (got_mapped (λ (x : Hand _ _). x.jobs) ys c.args.owner z z_at) in
    let own_number : number_at es c.args.owner ≡ place = sym (number_here (λ (e : JobsEnd _). e.number) es c.args.owner o.jobs own_in) in
    let w : JobsEnd _ = record { number = z.jobs.number; deque = c.absorb.new.self; passes = z.jobs.passes } in
    let took : TookIn (pass_view c.swap_pass-pass.result) z.jobs w = (refl, c.absorb.ensures.same.0, refl, c.absorb.ensures.view) in
    let ends_zs : ends_in (set ys c.args.owner record { jobs = w; post = z.post; pen = z.pen }) ≡ set (set es c.args.at f) c.args.owner w =
    mapped_set (λ (x : Hand _ _). x.jobs) ys c.args.owner record { jobs = w; post = z.post; pen = z.pen } ∙ ap (λ l. set l c.args.owner w) ends_ys in
    subst (AreEnds doors) (sym ends_zs) (moved_ends doors es c.args.at c.args.owner x.jobs f z.jobs c.swap_pass-pass.result door place c.requires.ends at_in c.swap_pass-pass.ensures.pass door_at c.swap_pass-pass.ensures.left z_in own_number w took)

pub returns-clause-conserved : goal.returns-clause-conserved
returns-clause-conserved g c =
    let xs = c.args.hands.now.items in let es = ends_in xs in let doors = c.args.doors.now.items in let o = c.index.result.now in let place = o.jobs.number in
    let own_at : slice_get xs c.args.owner ≡ Some o = slice_get_read xs (length xs) c.args.owner o refl c.requires.places.0 c.index.ensures in
    let own_in = got_mapped (λ (x : Hand _ _). x.jobs) xs c.args.owner o own_at in
    let small : place < length doors = (c.requires.ends c.args.owner o.jobs own_in).0.place in
    let x = c.index_mut.result.now in
    let at_at : slice_get xs c.args.at ≡ Some x = slice_get_read xs (length xs) c.args.at x refl c.requires.places.1 c.index_mut.ensures.value in
    let at_in = got_mapped (λ (x : Hand _ _). x.jobs) xs c.args.at x at_at in
    let door = c.index-2.result.now in
    let door_at : slice_get doors place ≡ Some door = slice_get_read doors (length doors) place door refl small c.index-2.ensures in
    let f = c.swap_pass-pass.new.end in
    let ys = set xs c.args.at record { jobs = f; post = x.post; pen = x.pen } in
    let z = c.index_mut-2.result.now in
    let z_at : slice_get ys c.args.owner ≡ Some z = slice_get_read ys (length ys) c.args.owner z refl (subst (λ n. c.args.owner < n) (sym (length-set xs c.args.at _)) c.requires.places.0) c.index_mut-2.ensures.value in
    let ends_ys : ends_in ys ≡ set es c.args.at f = mapped_set (λ (x : Hand _ _). x.jobs) xs c.args.at record { jobs = f; post = x.post; pen = x.pen } in
    let z_in : slice_get (set es c.args.at f) c.args.owner ≡ Some z.jobs = subst (λ l. slice_get l c.args.owner ≡ Some z.jobs) ends_ys (got_mapped (λ (x : Hand _ _). x.jobs) ys c.args.owner z z_at) in
    let own_number : number_at es c.args.owner ≡ place = sym (number_here (λ (e : JobsEnd _). e.number) es c.args.owner o.jobs own_in) in
    let w : JobsEnd _ = record { number = z.jobs.number; deque = c.absorb.new.self; passes = z.jobs.passes } in
    let took : TookIn (pass_view c.swap_pass-pass.result) z.jobs w = (refl, c.absorb.ensures.same.0, refl, c.absorb.ensures.view) in
    let ends_zs : ends_in (set ys c.args.owner record { jobs = w; post = z.post; pen = z.pen }) ≡ set (set es c.args.at f) c.args.owner w =
    mapped_set (λ (x : Hand _ _). x.jobs) ys c.args.owner record { jobs = w; post = z.post; pen = z.pen } ∙ ap (λ l. set l c.args.owner w) ends_ys in
    subst (IsConserved es) (sym ends_zs) (moved_conserved doors es c.args.at c.args.owner x.jobs f z.jobs c.swap_pass-pass.result door place c.requires.ends at_in c.swap_pass-pass.ensures.pass door_at c.swap_pass-pass.ensures.left z_in own_number w took)

pub returns-clause-spent : goal.returns-clause-spent
returns-clause-spent g c =
    let xs = c.args.hands.now.items in let es = ends_in xs in let doors = c.args.doors.now.items in let o = c.index.result.now in let place = o.jobs.number in
    let own_at : slice_get xs c.args.owner ≡ Some o = slice_get_read xs (length xs) c.args.owner o refl c.requires.places.0 c.index.ensures in
    let own_in = got_mapped (λ (x : Hand _ _). x.jobs) xs c.args.owner o own_at in
    let small : place < length doors = (c.requires.ends c.args.owner o.jobs own_in).0.place in
    let x = c.index_mut.result.now in
    let at_at : slice_get xs c.args.at ≡ Some x = slice_get_read xs (length xs) c.args.at x refl c.requires.places.1 c.index_mut.ensures.value in
    let at_in = got_mapped (λ (x : Hand _ _). x.jobs) xs c.args.at x at_at in
    let door = c.index-2.result.now in
    let door_at : slice_get doors place ≡ Some door = slice_get_read doors (length doors) place door refl small c.index-2.ensures in
    let f = c.swap_pass-pass.new.end in
    let ys = set xs c.args.at record { jobs = f; post = x.post; pen = x.pen } in
    let z = c.index_mut-2.result.now in
    let z_at : slice_get ys c.args.owner ≡ Some z = slice_get_read ys (length ys) c.args.owner z refl (subst (λ n. c.args.owner < n) (sym (length-set xs c.args.at _)) c.requires.places.0) c.index_mut-2.ensures.value in
    let ends_ys : ends_in ys ≡ set es c.args.at f = mapped_set (λ (x : Hand _ _). x.jobs) xs c.args.at record { jobs = f; post = x.post; pen = x.pen } in
    let z_in : slice_get (set es c.args.at f) c.args.owner ≡ Some z.jobs = subst (λ l. slice_get l c.args.owner ≡ Some z.jobs) ends_ys (got_mapped (λ (x : Hand _ _). x.jobs) ys c.args.owner z z_at) in
    let own_number : number_at es c.args.owner ≡ place = sym (number_here (λ (e : JobsEnd _). e.number) es c.args.owner o.jobs own_in) in
    let w : JobsEnd _ = record { number = z.jobs.number; deque = c.absorb.new.self; passes = z.jobs.passes } in
    let took : TookIn (pass_view c.swap_pass-pass.result) z.jobs w = (refl, c.absorb.ensures.same.0, refl, c.absorb.ensures.view) in
    let ends_zs : ends_in (set ys c.args.owner record { jobs = w; post = z.post; pen = z.pen }) ≡ set (set es c.args.at f) c.args.owner w =
    mapped_set (λ (x : Hand _ _). x.jobs) ys c.args.owner record { jobs = w; post = z.post; pen = z.pen } ∙ ap (λ l. set l c.args.owner w) ends_ys in
    subst (λ (l : List (JobsEnd _) × ℕ). IsSpentAt l.0 c.args.at l.1) (λ i. (sym ends_zs i, sym own_number i)) (moved_spent doors es c.args.at c.args.owner x.jobs f z.jobs c.swap_pass-pass.result door place c.requires.ends at_in c.swap_pass-pass.ensures.pass door_at c.swap_pass-pass.ensures.left z_in own_number w took)
