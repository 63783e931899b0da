-- The sentence that each mark stands for (own).
use Rattle.std.specs.Prelude.{ℕ, true, false, List, [], ◌++◌, length, codes}
use Rattle.std.specs.Fmt.{decimal}
use Rattle.hs_base.specs.declared.exn.Exn.{Exn}
use Rattle.hs_base.specs.declared.exn.Exn.TheVariants as exn
use Rattle.hs_base.specs.declared.mask.Mask.{Mask}
use Rattle.hs_base.specs.declared.mask.Mask.TheVariants.{Unmasked, Masked, Uninterruptible}
use Rattle.lane_picture.specs.declared.film.Doing.{Doing}
use Rattle.lane_picture.specs.declared.film.Doing.TheVariants.{Running, Taking, Reading, Putting, Throwing, Sleeping}
use Rattle.lane_picture.specs.declared.film.Deed.{Deed}
use Rattle.lane_picture.specs.declared.film.Deed.TheVariants as deed
use Rattle.lane_picture.specs.declared.film.Event.{Event}
use Rattle.lane_picture.specs.declared.film.Event.TheVariants as event
use Rattle.lane_picture.specs.declared.film.Frame.{Frame}
use Rattle.lane_picture.specs.declared.film.Look.{Look}
use Rattle.lane_picture.specs.declared.film.Look.TheVariants as look
use Rattle.lane_picture.specs.declared.film.Lane.{Lane}
use Rattle.lane_picture.specs.declared.film.Lane.TheVariants as lane
use Rattle.lane_picture.specs.Marks.{doing_in}

abbrev pub lane_name : Lane → List ℕ
lane_name (lane.Thread t) = codes "thread " ++ decimal t
lane_name (lane.Cell m) = codes "cell " ++ decimal m
lane_name lane.Clock = codes "the clock"

-- an exception by its constructor
abbrev pub exn_name : Exn → List ℕ
exn_name (exn.ErrorCall x) = codes "ErrorCall " ++ x
exn_name exn.ThreadKilled = codes "ThreadKilled"
exn_name exn.UserInterrupt = codes "UserInterrupt"
exn_name exn.DivideByZero = codes "DivideByZero"
exn_name exn.Overflow = codes "Overflow"
exn_name (exn.Timeout n) = codes "Timeout"
exn_name exn.TextLimit = codes "TextLimit"
exn_name exn.BlockedIndefinitely = codes "BlockedIndefinitely"

-- ---- what a lane shows

abbrev pub doing_words : Doing → List ℕ
doing_words Running = codes "runs"
doing_words (Taking m) = codes "waits to take from cell " ++ decimal m
doing_words (Reading m) = codes "waits to read cell " ++ decimal m
doing_words (Putting m) = codes "waits to put to cell " ++ decimal m
doing_words (Throwing t) = codes "waits until thread " ++ decimal t ++ codes " has received its exception"
doing_words (Sleeping due) = codes "sleeps until " ++ decimal due ++ codes " microseconds"

abbrev pub mask_words : Mask → List ℕ
mask_words Unmasked = []
mask_words Masked = codes ", masked"
mask_words Uninterruptible = codes ", masked uninterruptibly"

abbrev pub look_words : Look → List ℕ
look_words (look.Thread p) = doing_words p.doing ++ mask_words p.mask
look_words (look.Cell true) = codes "is full"
look_words (look.Cell false) = codes "is empty"

abbrev pub stays_words : Lane → (from : ℕ) → Look → List ℕ
stays_words l n k = lane_name l ++ codes " " ++ look_words k ++ codes ", from entry " ++ decimal n ++ codes " on"

-- ---- what an entry does

-- by what there was before
abbrev pub deed_words : Frame → Deed → List ℕ
deed_words a (deed.Prints x) = codes "prints " ++ x
deed_words a (deed.Reports x) = codes "prints on error output " ++ x
deed_words a deed.MakesCell = codes "makes cell " ++ decimal (length a.cells)
deed_words a (deed.Takes m) = codes "takes from cell " ++ decimal m
deed_words a (deed.Reads m) = codes "reads cell " ++ decimal m
deed_words a (deed.Puts m) = codes "puts to cell " ++ decimal m
deed_words a (deed.TriesToTake m) = codes "tries to take from cell " ++ decimal m
deed_words a (deed.TriesToPut m) = codes "tries to put to cell " ++ decimal m
deed_words a deed.Forks = codes "forks thread " ++ decimal (length a.poses)
deed_words a (deed.Throws t e) = codes "throws " ++ exn_name e ++ codes " at thread " ++ decimal t
deed_words a deed.Delays = codes "asks for a delay"
deed_words a deed.Acquires = codes "has acquired what its bracket guards"
deed_words a deed.Releases = codes "releases what its bracket guards"
deed_words a deed.Asks = codes "asks for its number, its mask, the time or a timeout"

abbrev pub waits_words : Doing → List ℕ
waits_words Running = []
waits_words _ = codes ", and waits"

-- the event that led from frame a to frame b
abbrev pub event_words : Frame → Frame → Event → List ℕ
event_words a b event.Nothing = []
event_words a b (event.Steps t k) = codes "thread " ++ decimal t ++ codes " makes local steps: " ++ decimal k
event_words a b (event.Does t d) = codes "thread " ++ decimal t ++ codes " " ++ deed_words a d ++ waits_words (doing_in b t)
event_words a b (event.Receives t u e) = codes "thread " ++ decimal t ++ codes " receives " ++ exn_name e ++ codes " from thread " ++ decimal u ++ codes " while it " ++ doing_words (doing_in a t)
event_words a b (event.Wakes t) = codes "thread " ++ decimal t ++ codes " wakes"
event_words a b (event.Returns t) = codes "thread " ++ decimal t ++ codes " has finished by a value"
event_words a b (event.Fails t e) = codes "thread " ++ decimal t ++ codes " has finished by " ++ exn_name e
event_words a b (event.Ticks at) = codes "the clock is at " ++ decimal at ++ codes " microseconds"
event_words a b event.Strands = []

unfoldable pub entry_words : (n : ℕ) → List ℕ
entry_words n = codes "entry " ++ decimal n ++ codes ": "

abbrev pub happens_words : (n : ℕ) → Frame → Frame → List ℕ
happens_words n a b = entry_words n ++ event_words a b b.event

abbrev pub answers_words : (n m k : ℕ) → List ℕ
answers_words n m k = entry_words n ++ (codes "cell " ++ decimal m ++ codes " answers thread " ++ decimal k)

abbrev pub strands_words : (n k m : ℕ) → List ℕ
strands_words n k m = entry_words n ++ (codes "thread " ++ decimal k ++ codes " gets BlockedIndefinitely at cell " ++ decimal m)
