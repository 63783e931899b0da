-- Which object of hands it is (own).
use Rattle.std.specs.Prelude.{ℕ, List, map}
use Rattle.std.specs.declared.alloc.Global.{Global}
use Rattle.atomic_blocks.specs.Lent.{RowsId}
use Rattle.atomic_table.specs.Seated.{TableId}
use Rattle.crossbeam_queue.specs.SegTies.{SegId}
use Rattle.rules_code.specs.declared.code.CodeBody.{CodeBody}
use Rattle.conc_hands.specs.queues.Deques.{door_id}
use Rattle.conc_hands.specs.declared.hands.Hands.{Hands}
use Rattle.conc_hands.specs.Hands.{hands_code, hands_count}

-- its deques, its inbox and its flags, how many hands there are, and the code of all items
pub record ObjectId : Type 0 where
  pub deques : List (RowsId × Global)
  pub inbox : SegId Global
  pub flags : TableId
  pub count : ℕ
  pub code : CodeBody

abbrev pub object_of : {J S : Type 0} → Hands J S → ObjectId
object_of h = record { deques = map door_id h.doors.items; inbox = h.inbox.queue; flags = h.flags.table.shared.table_id; count = hands_count h; code = hands_code h }
