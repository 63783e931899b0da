-- The entry of an act, and which controls are values (own).
use Rattle.std.specs.Prelude.{Bool, true, false}
use Rattle.frame_stack.specs.declared.control.Control.{Control}
use Rattle.frame_stack.specs.declared.control.Control.TheVariants as control
use Rattle.hs_rules.specs.declared.entry.Entry.{Entry}
use Rattle.hs_rules.specs.declared.entry.Entry.TheVariants as entry
use Rattle.run_course.specs.declared.history.acts.NextEntry.{NextEntry}
use Rattle.run_course.specs.declared.history.acts.NextEntry.TheVariants as act

abbrev pub entry_of : NextEntry → Entry
entry_of (act.Op t) = entry.Op t
entry_of (act.Finish t) = entry.Finish t
entry_of (act.Local t) = entry.Local t 1
entry_of (act.Receive t) = entry.Receive t
entry_of (act.Wake t) = entry.Wake t
entry_of act.Strand = entry.Stranded

abbrev pub is_value : Control → Bool
is_value (control.Doing i vs) = false
is_value (control.Ret v) = true
is_value (control.Throw e) = false
is_value (control.Op p) = false
