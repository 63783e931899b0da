-- What each change of a content and a line is a call of.
use Rattle.std.proofs.Common.{◌≡◌, ◌≢◌, ℕ, ◌+◌, ◌≤◌, true, false, cond, is_some, List, [], ◌∷◌, ◌++◌, length, Option, Some, None, refl, ap, sym, subst, ◌∙◌, arith, get_or, set}
use Rattle.std.proofs.lemmas.List.{set-get_or, set-set}
use Rattle.hs_base.specs.declared.value.Value.{Value}
use Rattle.rules_waiting.specs.OneCell.{To_take, To_put, Place, Cell, Call, Try_take, Try_put, Leave, Took, Gave, Tried_take, Tried_put, cell_of, after_of, reply_of, call, readers, stands_in, leaves_line, first_put, first_take, reads_it}
use Rattle.mvar_cell.specs.declared.cells.Stored.{Stored}
use Rattle.mvar_cell.specs.declared.lines.Sought.TheVariants.{Thread, Reader}
use Rattle.mvar_cell.specs.Nodes.{any_sought}
use Rattle.mvar_cell.specs.Mvars.{AllWait, Mvars, IsCell, AreCells, cells_of, no_content, puts_it}
use Rattle.mvar_cell.specs.Calls.{cell_at, IsCall, IsFull, IsEmpty, NobodyReads, StandsNowhere, tried_take_replies}
use Rattle.mvar_cell.specs.Readers.{FirstReads}
use Rattle.mvar_cell.proofs.CellLaws.{try_take_empty, takes_alone, serves_put, stays, serves_take}
use Rattle.mvar_cell.proofs.Seen.{Here, cell_seen, is_call, is_call_on_line, set_cell, nowhere_at, after_call}
use Rattle.mvar_cell.proofs.Keeping.{joined, left, leaves, standing, reader_out, some_reads, no_length, readers_within, moved, first_waits, none_reads}

module _ {m : ℕ} {old : Mvars} {ss : List Stored} {ls : List (List (Place Value))} (i : Here m old ss ls) where
  pub is_cell : IsCell (get_or ss m no_content) (get_or ls m [])
  is_cell = i.cells.each m i.lines

  pub seen_line : (cell_at m old).line ≡ get_or ls m []
  seen_line = ap (λ (c : Cell Value). c.line) (cell_seen m old ss ls i.cells i.seen)

  pub content_is : (o : Option Value) → (get_or ss m no_content).content ≡ o → (cell_at m old).content ≡ o
  content_is o e = ap (λ (c : Cell Value). c.content) (cell_seen m old ss ls i.cells i.seen) ∙ e

  pub readers_are : (get_or ss m no_content).readers ≡ length (readers (cell_at m old).line)
  readers_are = is_cell.counted ∙ ap (λ ps. length (readers ps)) (sym seen_line)

  pub full_unread : (v : Value) → (cell_at m old).content ≡ Some v → (get_or ss m no_content).readers ≡ 0
  full_unread v e =
      let full : (get_or ss m no_content).content ≡ Some v = sym (ap (λ (c : Cell Value). c.content) (cell_seen m old ss ls i.cells i.seen)) ∙ e in
      is_cell.counted ∙ ap length (none_reads (get_or ls m []) (subst (λ o. AllWait (is_some o) (get_or ls m [])) full is_cell.waits))

  pub is_full : (v : Value) (f : Option (ℕ × Value)) → (get_or ss m no_content).content ≡ Some v → first_put (get_or ls m []) ≡ f → IsFull v f (cell_at m old)
  is_full v f e q = record { content = content_is (Some v) e; putter = ap first_put seen_line ∙ q }

  pub is_empty : (f : Option ℕ) → (get_or ss m no_content).content ≡ None → first_take (get_or ls m []) ≡ f → IsEmpty f (cell_at m old)
  is_empty f e q = record { content = content_is None e; taker = ap first_take seen_line ∙ q }

  pub distinct_line : (IsCell (get_or ss m no_content) (cell_at m old).line)
  distinct_line = subst (IsCell (get_or ss m no_content)) (sym seen_line) is_cell

  -- ---- takes that never wait
  pub takes_nothing : (new : Mvars) (s : Stored) (t : ℕ) (r : Option (Value × Option ℕ)) → r ≡ None → (get_or ss m no_content).content ≡ None → s.content ≡ None → cells_of (set ss m s) ls ≡ new.cells → IsCall (Try_take t) m old new (tried_take_replies t r)
  takes_nothing new s t r is e none left =
      let rs = tried_take_replies t r in
      is_call m old ss ls i.cells i.seen (Try_take t) new (set ss m s) ls s (get_or ls m []) rs left refl (sym (set-get_or ls m []))
      (try_take_empty t (cell_at m old) (content_is None e) ∙ ap (λ x. after_of (cell_at m old) (tried_take_replies t x)) (sym is) ∙ ap (λ o. after_of (cell_of o (cell_at m old).line) rs) (content_is None e ∙ sym none) ∙ ap (λ ps. after_of (cell_of s.content ps) rs) seen_line)

  pub takes_last : (new : Mvars) (s : Stored) (ls2 : List (List (Place Value))) (v : Value) (t : ℕ) → (get_or ss m no_content).content ≡ Some v → s.content ≡ None → get_or ls m [] ≡ [] → ls2 ≡ ls → cells_of (set ss m s) ls2 ≡ new.cells
      → IsCall (Try_take t) m old new (reply_of t (Tried_take (Some v)) ∷ [])
  takes_last new s ls2 v t e none alone same left =
      is_call m old ss ls i.cells i.seen (Try_take t) new (set ss m s) ls2 s (get_or ls m []) (reply_of t (Tried_take (Some v)) ∷ []) left refl (same ∙ sym (set-get_or ls m []))
      (takes_alone t (cell_at m old) v (is_full v None e (ap first_put alone)) ∙ ap (λ o. after_of (cell_of o (cell_at m old).line) (reply_of t (Tried_take (Some v)) ∷ [])) (sym none) ∙ ap (λ ps. after_of (cell_of s.content ps) (reply_of t (Tried_take (Some v)) ∷ [])) seen_line)

  pub takes_and_serves : (new : Mvars) (ss2 : List Stored) (s : Stored) (ls2 : List (List (Place Value))) (rest : List (Place Value)) (v next : Value) (u t : ℕ) → (get_or ss m no_content).content ≡ Some v → s.content ≡ Some next → get_or ls m [] ≡ record { thread = u; want = To_put next } ∷ rest → ls2 ≡ set ls m rest → ss2 ≡ set ss m s
      → cells_of ss2 ls2 ≡ new.cells → IsCall (Try_take t) m old new (reply_of t (Tried_take (Some v)) ∷ reply_of u Gave ∷ [])
  takes_and_serves new ss2 s ls2 rest v next u t e moved line lines stored left =
      is_call m old ss ls i.cells i.seen (Try_take t) new ss2 ls2 s rest (reply_of t (Tried_take (Some v)) ∷ reply_of u Gave ∷ []) left stored lines
      (serves_put t u (cell_at m old) v next rest (is_full v (Some (u, next)) e (ap first_put line)) (seen_line ∙ line) distinct_line.distinct ∙ ap (λ o. after_of (cell_of o rest) (reply_of t (Tried_take (Some v)) ∷ reply_of u Gave ∷ [])) (sym moved))

  -- the first put of the line moves in
  pub cells_move : (s s2 : Stored) (ls2 : List (List (Place Value))) (rest : List (Place Value)) (v next : Value) (u : ℕ) → (get_or ss m no_content).content ≡ Some v → s2.content ≡ Some next → s2.readers ≡ (get_or ss m no_content).readers → get_or ls m [] ≡ record { thread = u; want = To_put next } ∷ rest → ls2 ≡ set ls m rest
      → AreCells (set (set ss m s) m s2) ls2
  cells_move s s2 ls2 rest v next u full now count line lines =
      let is : record (get_or ss m no_content) { content = Some next } ≡ s2 =
      ap (λ n. let x : Stored = record { content = Some next; readers = n } in x) (sym count) ∙ ap (λ o. let x : Stored = record { content = o; readers = s2.readers } in x) (sym now) in
      let cell : IsCell s2 rest = subst (λ x. IsCell x rest) is (moved (get_or ss m no_content) (get_or ls m []) u v next rest is_cell full line) in
      subst (λ xs. AreCells xs ls2) (sym (set-set ss m s s2)) (subst (AreCells (set ss m s2)) (sym lines) (set_cell ss ls m s2 rest i.cells i.stored cell))

  -- nobody waits to put to an empty cell
  pub none_first_puts : (u : ℕ) (v : Value) (rest : List (Place Value)) → (get_or ss m no_content).content ≡ None → get_or ls m [] ≡ record { thread = u; want = To_put v } ∷ rest → ⊥
  none_first_puts u v rest e line =
      let w : true ≡ is_some (get_or ss m no_content).content = first_waits (get_or ss m no_content) (get_or ls m []) (record { thread = u; want = To_put v }) rest is_cell line in
      let f : is_some (get_or ss m no_content).content ≡ false = ap (λ (o : Option Value). is_some o) e in
      let no : ⊥ = cc in no

  -- ---- puts that never wait
  pub puts_last : (new : Mvars) (s : Stored) (ls2 : List (List (Place Value))) (v : Value) (t : ℕ) → (get_or ss m no_content).content ≡ None → s.content ≡ Some v → NobodyReads m old → get_or ls m [] ≡ [] → ls2 ≡ ls → cells_of (set ss m s) ls2 ≡ new.cells
      → IsCall (Try_put t v) m old new (reply_of t (Tried_put true) ∷ [])
  puts_last new s ls2 v t e some none alone same left =
      is_call m old ss ls i.cells i.seen (Try_put t v) new (set ss m s) ls2 s (get_or ls m []) (reply_of t (Tried_put true) ∷ []) left refl (same ∙ sym (set-get_or ls m []))
      (stays t (cell_at m old) v (is_empty None e (ap first_take alone)) none ∙ ap (λ o. after_of (cell_of o (cell_at m old).line) (reply_of t (Tried_put true) ∷ [])) (sym some) ∙ ap (λ ps. after_of (cell_of s.content ps) (reply_of t (Tried_put true) ∷ [])) seen_line)

  pub puts_and_serves : (new : Mvars) (ls2 : List (List (Place Value))) (rest : List (Place Value)) (v : Value) (u t : ℕ) → (get_or ss m no_content).content ≡ None → NobodyReads m old → get_or ls m [] ≡ record { thread = u; want = To_take } ∷ rest → ls2 ≡ set ls m rest → cells_of ss ls2 ≡ new.cells
      → IsCall (Try_put t v) m old new (reply_of u (Took v) ∷ reply_of t (Tried_put true) ∷ [])
  puts_and_serves new ls2 rest v u t e none line lines left =
      is_call_on_line m old ss ls i.cells i.seen (Try_put t v) new ls2 rest (reply_of u (Took v) ∷ reply_of t (Tried_put true) ∷ []) left lines
      (serves_take t u (cell_at m old) v rest (is_empty (Some u) e (ap first_take line)) none (seen_line ∙ line) distinct_line.distinct ∙ ap (λ o. after_of (cell_of o rest) (reply_of u (Took v) ∷ reply_of t (Tried_put true) ∷ [])) (content_is None e ∙ sym e))

  -- ---- a thread joins
  pub joins : (q : Call Value) (new : Mvars) (ss2 : List Stored) (s : Stored) (ls2 : List (List (Place Value))) (p : Place Value) → call q (cell_at m old) ≡ after_of (cell_of (cell_at m old).content ((cell_at m old).line ++ p ∷ [])) [] → s.content ≡ (get_or ss m no_content).content → ls2 ≡ set ls m (get_or ls m [] ++ p ∷ []) → ss2 ≡ set ss m s
      → cells_of ss2 ls2 ≡ new.cells → IsCall q m old new []
  joins q new ss2 s ls2 p e same lines stored left =
      is_call m old ss ls i.cells i.seen q new ss2 ls2 s (get_or ls m [] ++ p ∷ []) [] left stored lines
      (e ∙ ap (λ o. after_of (cell_of o ((cell_at m old).line ++ p ∷ [])) []) (content_is (get_or ss m no_content).content refl ∙ sym same) ∙ ap (λ ps. after_of (cell_of s.content (ps ++ p ∷ [])) []) seen_line)

  pub alone_at : (t : ℕ) → StandsNowhere t old → stands_in t (get_or ls m []) ≡ false
  alone_at t e = ap (stands_in t) (sym seen_line) ∙ nowhere_at t old.cells m e

  pub cells_join : (s : Stored) (ss2 : List Stored) (ls2 : List (List (Place Value))) (p : Place Value) → puts_it p.want ≡ is_some (get_or ss m no_content).content → StandsNowhere p.thread old → s.content ≡ (get_or ss m no_content).content → s.readers ≡ (get_or ss m no_content).readers + cond (reads_it p.want) 1 0 → ls2 ≡ set ls m (get_or ls m [] ++ p ∷ []) → ss2 ≡ set ss m s
      → AreCells ss2 ls2
  cells_join s ss2 ls2 p wants alone same count lines stored =
      let is : record (get_or ss m no_content) { readers = s.readers } ≡ s = ap (λ o. let x : Stored = record { content = o; readers = s.readers } in x) (sym same) in
      let cell : IsCell s (get_or ls m [] ++ p ∷ []) = subst (λ x. IsCell x (get_or ls m [] ++ p ∷ [])) is (joined (get_or ss m no_content) (get_or ls m []) p s.readers is_cell wants (alone_at p.thread alone) count) in
      subst (λ xs. AreCells xs ls2) (sym stored) (subst (AreCells (set ss m s)) (sym lines) (set_cell ss ls m s (get_or ls m [] ++ p ∷ []) i.cells i.stored cell))

  -- ---- a thread leaves
  pub cell_leaves : (new : Mvars) (ss2 : List Stored) (s : Stored) (ls2 : List (List (Place Value))) (t : ℕ) (front back : List (Place Value)) (p : Place Value) → get_or ls m [] ≡ front ++ p ∷ back → p.thread ≡ t → s.content ≡ (get_or ss m no_content).content → ls2 ≡ set ls m (front ++ back) → ss2 ≡ set ss m s
      → cells_of ss2 ls2 ≡ new.cells → IsCall (Leave t) m old new []
  cell_leaves new ss2 s ls2 t front back p was thread same lines stored left =
      let gone : leaves_line t (cell_at m old).line ≡ front ++ back = leaves t (cell_at m old).line front back p (seen_line ∙ was) thread distinct_line.distinct in
      is_call m old ss ls i.cells i.seen (Leave t) new ss2 ls2 s (front ++ back) [] left stored lines
      (ap (λ o. after_of (cell_of o (leaves_line t (cell_at m old).line)) []) (content_is (get_or ss m no_content).content refl ∙ sym same) ∙ ap (λ ps. after_of (cell_of s.content ps) []) gone)

  pub cells_leave : (s : Stored) (ss2 : List Stored) (ls2 : List (List (Place Value))) (front back : List (Place Value)) (p : Place Value) → get_or ls m [] ≡ front ++ p ∷ back → s.content ≡ (get_or ss m no_content).content → (get_or ss m no_content).readers ≡ cond (reads_it p.want) 1 0 + s.readers → ls2 ≡ set ls m (front ++ back) → ss2 ≡ set ss m s
      → AreCells ss2 ls2
  cells_leave s ss2 ls2 front back p was same count lines stored =
      let is : record (get_or ss m no_content) { readers = s.readers } ≡ s = ap (λ o. let x : Stored = record { content = o; readers = s.readers } in x) (sym same) in
      let cell : IsCell s (front ++ back) = subst (λ x. IsCell x (front ++ back)) is (left (get_or ss m no_content) (get_or ls m []) front back p s.readers is_cell was count) in
      subst (λ xs. AreCells xs ls2) (sym stored) (subst (AreCells (set ss m s)) (sym lines) (set_cell ss ls m s (front ++ back) i.cells i.stored cell))

  -- a line in which somebody reads is counted so
  pub counted_one : (front back : List (Place Value)) (p : Place Value) → get_or ls m [] ≡ front ++ p ∷ back → reads_it p.want ≡ true → 1 ≤ (get_or ss m no_content).readers
  counted_one front back p was reads =
      let n = readers_within front back p reads in
      let c = subst (IsCell (get_or ss m no_content)) was is_cell in
      omega (arith, n, c.counted)

  pub stands_here : (t : ℕ) → stands_in t (cell_at m old).line ≡ true → any_sought (Thread t) (get_or ls m []) ≡ true
  stands_here t e = standing t (get_or ls m []) ∙ ap (stands_in t) (sym seen_line) ∙ e

  pub nobody_reads : (get_or ss m no_content).readers ≡ 0 → NobodyReads m old
  nobody_reads e = ap readers seen_line ∙ no_length (readers (get_or ls m [])) (sym is_cell.counted ∙ e)

  pub somebody_reads : (get_or ss m no_content).readers ≢ 0 → any_sought Reader (get_or ls m []) ≡ true
  somebody_reads e = some_reads (get_or ls m []) (λ z. e (is_cell.counted ∙ z))

  pub reader_leaves : (new : Mvars) (t : ℕ) (front back : List (Place Value)) (p : Place Value) → get_or ls m [] ≡ front ++ p ∷ back → any_sought Reader front ≡ false → reads_it p.want ≡ true → p.thread ≡ t → IsCall (Leave t) m old new [] → FirstReads t m old new
  reader_leaves new t front back p was clear reads thread call =
      let out = reader_out (cell_at m old).line front back p (seen_line ∙ was) clear reads in
      let line : (cell_at m new).line ≡ front ++ back =
      ap (λ (c : Cell Value). c.line) (after_call (Leave t) m old new [] i.exists call) ∙ leaves t (cell_at m old).line front back p (seen_line ∙ was) thread distinct_line.distinct in
      record {
        readers = out.readers ∙ ap (λ u. u ∷ readers (front ++ back)) thread ∙ ap (λ ps. t ∷ readers ps) (sym line);
        takers = ap first_take line ∙ out.takers;
        leaves = call;
      }
