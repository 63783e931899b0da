-- The machine of one cell does the same to what values stand for.
use Rattle.std.proofs.Common.{◌≡◌, ℕ, ◌==◌, Bool, true, false, cond, List, [], ◌∷◌, ◌++◌, Option, Some, None, refl, ap, sym, ◌∙◌}
use Rattle.rules_waiting.specs.OneCell.{Want, To_take, To_read, To_put, Place, Cell, Call, Make, Take, Read, Put, Try_take, Try_put, Leave, Answer, Took, Saw, Gave, Tried_take, Tried_put, Reply, cell_of, reply_of, after_of, leaves_line, joins_line, put_of, takes_it, reads_it, first_put, first_take, readers, leave_line, shown, moves_in, comes_on, called, call}
use Rattle.slot_states.specs.mapping.Mapped.{map_some, map_want, map_line, map_cell, map_call, map_answer, map_replies, map_after}

-- a choice by a test is the choice of what stands there
choice : {A B : Type 0} (g : A → B) (b : Bool) (x y : A) → cond b (g x) (g y) ≡ g (cond b x y)
choice g true x y = refl
choice g false x y = refl

module _ {V W : Type 0} (f : V → W) where
  abbrev map_put : Option (ℕ × V) → Option (ℕ × W)
  map_put None = None
  map_put (Some w) = Some (w.0, f w.1)

  leaves_mapped : (t : ℕ) (ps : List (Place V)) → leaves_line t (map_line f ps) ≡ map_line f (leaves_line t ps)
  leaves_mapped t [] = refl
  leaves_mapped t (p ∷ ps) =
      let here : Place W = record { thread = p.thread; want = map_want f p.want } in
      ap (λ ls. cond (p.thread == t) ls (here ∷ ls)) (leaves_mapped t ps) ∙ choice (map_line f) (p.thread == t) (leaves_line t ps) (p ∷ leaves_line t ps)

  leave_mapped : (ts : List ℕ) (ps : List (Place V)) → leave_line ts (map_line f ps) ≡ map_line f (leave_line ts ps)
  leave_mapped [] ps = refl
  leave_mapped (t ∷ ts) ps = ap (λ ls. leave_line ts ls) (leaves_mapped t ps) ∙ leave_mapped ts (leaves_line t ps)

  line_append : (ps qs : List (Place V)) → map_line f (ps ++ qs) ≡ map_line f ps ++ map_line f qs
  line_append [] qs = refl
  line_append (p ∷ ps) qs = ap (λ ls. record { thread = p.thread; want = map_want f p.want } ∷ ls) (line_append ps qs)

  replies_append : (rs ss : List (Reply V)) → map_replies f (rs ++ ss) ≡ map_replies f rs ++ map_replies f ss
  replies_append [] ss = refl
  replies_append (r ∷ rs) ss = ap (λ ls. record { thread = r.thread; answer = map_answer f r.answer } ∷ ls) (replies_append rs ss)

  shown_mapped : (v : V) (ts : List ℕ) → shown (f v) ts ≡ map_replies f (shown v ts)
  shown_mapped v [] = refl
  shown_mapped v (t ∷ ts) = ap (λ rs. reply_of t (Saw (f v)) ∷ rs) (shown_mapped v ts)

  put_case : (t : ℕ) (w : Want V) (ps : List (Place V)) → first_put (map_line f ps) ≡ map_put (first_put ps)
      → elim (put_of (map_want f w)) [ None ↦ first_put (map_line f ps) | Some v ↦ Some (t, v) ] ≡ map_put (elim (put_of w) [ None ↦ first_put ps | Some v ↦ Some (t, v) ])
  put_case t To_take ps h = h
  put_case t To_read ps h = h
  put_case t (To_put v) ps h = refl

  put_mapped : (ps : List (Place V)) → first_put (map_line f ps) ≡ map_put (first_put ps)
  put_mapped [] = refl
  put_mapped (p ∷ ps) = put_case p.thread p.want ps (put_mapped ps)

  takes_mapped : (w : Want V) → takes_it (map_want f w) ≡ takes_it w
  takes_mapped To_take = refl
  takes_mapped To_read = refl
  takes_mapped (To_put v) = refl

  take_mapped : (ps : List (Place V)) → first_take (map_line f ps) ≡ first_take ps
  take_mapped [] = refl
  take_mapped (p ∷ ps) =
      ap (λ b. cond b (Some p.thread) (first_take (map_line f ps))) (takes_mapped p.want)
      ∙ ap (λ o. cond (takes_it p.want) (Some p.thread) o) (take_mapped ps)

  reads_mapped : (w : Want V) → reads_it (map_want f w) ≡ reads_it w
  reads_mapped To_take = refl
  reads_mapped To_read = refl
  reads_mapped (To_put v) = refl

  readers_mapped : (ps : List (Place V)) → readers (map_line f ps) ≡ readers ps
  readers_mapped [] = refl
  readers_mapped (p ∷ ps) =
      ap (λ b. cond b (p.thread ∷ readers (map_line f ps)) (readers (map_line f ps))) (reads_mapped p.want)
      ∙ ap (λ ts. cond (reads_it p.want) (p.thread ∷ ts) ts) (readers_mapped ps)

  -- ---- the parts of a call

  moved_in : (o : Option (ℕ × V)) (ps : List (Place V)) (rs : List (Reply V)) → moves_in (map_put o) (map_line f ps) (map_replies f rs) ≡ map_after f (moves_in o ps rs)
  moved_in None ps rs = refl
  moved_in (Some w) ps rs =
      ap (λ ls. after_of (cell_of (Some (f w.1)) ls) (map_replies f rs ++ reply_of w.0 Gave ∷ [])) (leaves_mapped w.0 ps)
      ∙ ap (λ ls. after_of (cell_of (Some (f w.1)) (map_line f (leaves_line w.0 ps))) ls) (sym (replies_append rs (reply_of w.0 Gave ∷ [])))

  came_on : (v : V) (o : Option ℕ) (ps : List (Place V)) (rs : List (Reply V)) (t : ℕ) (a : Answer V)
      → comes_on (f v) o (map_line f ps) (map_replies f rs) (reply_of t (map_answer f a)) ≡ map_after f (comes_on v o ps rs (reply_of t a))
  came_on v None ps rs t a = ap (λ ls. after_of (cell_of (Some (f v)) (map_line f ps)) ls) (sym (replies_append rs (reply_of t a ∷ [])))
  came_on v (Some u) ps rs t a =
      ap (λ ls. after_of (cell_of None ls) (map_replies f rs ++ reply_of u (Took (f v)) ∷ reply_of t (map_answer f a) ∷ [])) (leaves_mapped u ps)
      ∙ ap (λ ls. after_of (cell_of None (map_line f (leaves_line u ps))) ls) (sym (replies_append rs (reply_of u (Took v) ∷ reply_of t a ∷ [])))

  came_in : (v : V) (ps : List (Place V)) (t : ℕ) (a : Answer V)
      → comes_on (f v) (first_take (map_line f ps)) (leave_line (readers (map_line f ps)) (map_line f ps)) (shown (f v) (readers (map_line f ps))) (reply_of t (map_answer f a))
      ≡ map_after f (comes_on v (first_take ps) (leave_line (readers ps) ps) (shown v (readers ps)) (reply_of t a))
  came_in v ps t a =
      ap (λ o. comes_on (f v) o (leave_line (readers (map_line f ps)) (map_line f ps)) (shown (f v) (readers (map_line f ps))) (reply_of t (map_answer f a))) (take_mapped ps)
      ∙ (ap (λ ts. comes_on (f v) (first_take ps) (leave_line ts (map_line f ps)) (shown (f v) ts) (reply_of t (map_answer f a))) (readers_mapped ps)
      ∙ (ap (λ ls. comes_on (f v) (first_take ps) ls (shown (f v) (readers ps)) (reply_of t (map_answer f a))) (leave_mapped (readers ps) ps)
      ∙ (ap (λ rs. comes_on (f v) (first_take ps) (map_line f (leave_line (readers ps) ps)) rs (reply_of t (map_answer f a))) (shown_mapped v (readers ps))
      ∙ came_on v (first_take ps) (leave_line (readers ps) ps) (shown v (readers ps)) t a)))

  joined : (o : Option V) (t : ℕ) (w : Want V) (ps : List (Place V)) → after_of (cell_of (map_some f o) (joins_line t (map_want f w) (map_line f ps))) [] ≡ map_after f (after_of (cell_of o (joins_line t w ps)) [])
  joined o t w ps = ap (λ ls. after_of (cell_of (map_some f o) ls) []) (sym (line_append ps (record { thread = t; want = w } ∷ [])))

  called_mapped : (q : Call V) (o : Option V) (ps : List (Place V)) → called (map_call f q) (map_some f o) (map_line f ps) ≡ map_after f (called q o ps)
  called_mapped (Make t o) c ps = refl
  called_mapped (Take t) None ps = joined None t To_take ps
  called_mapped (Take t) (Some v) ps = ap (λ o. moves_in o (map_line f ps) (reply_of t (Took (f v)) ∷ [])) (put_mapped ps) ∙ moved_in (first_put ps) ps (reply_of t (Took v) ∷ [])
  called_mapped (Read t) None ps = joined None t To_read ps
  called_mapped (Read t) (Some v) ps = refl
  called_mapped (Put t v) (Some w) ps = joined (Some w) t (To_put v) ps
  called_mapped (Put t v) None ps = came_in v ps t Gave
  called_mapped (Try_take t) None ps = refl
  called_mapped (Try_take t) (Some v) ps = ap (λ o. moves_in o (map_line f ps) (reply_of t (Tried_take (Some (f v))) ∷ [])) (put_mapped ps) ∙ moved_in (first_put ps) ps (reply_of t (Tried_take (Some v)) ∷ [])
  called_mapped (Try_put t v) (Some w) ps = refl
  called_mapped (Try_put t v) None ps = came_in v ps t (Tried_put true)
  called_mapped (Leave t) c ps = ap (λ ls. after_of (cell_of (map_some f c) ls) []) (leaves_mapped t ps)

  pub commutes : (q : Call V) (c : Cell V) → call (map_call f q) (map_cell f c) ≡ map_after f (call q c)
  commutes q c = called_mapped q c.content c.line
