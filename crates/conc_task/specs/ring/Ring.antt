-- The text of the ring (own). A number starts at 0 and goes round n threads. Each adds its place, 0 to n - 1, and hands it on,
-- and the sum is shown. Each definition of the script stands on a line, and each line ends with a line feed.
use Rattle.std.specs.Prelude.{ℕ, ◌+◌, ◌<◌, ◌≤◌, List, ◌++◌, codes, length}
use Rattle.std.specs.List.{flat_map, range_with_len}
use Rattle.std.specs.Fmt.{decimal}

-- what the thread at a place does: it takes the number, adds its place and hands it on
unfoldable pub worker_line : ℕ → List ℕ
worker_line place = codes "w" ++ decimal place ++ codes " (a :: MVar Int) (b :: MVar Int) :: IO () = { x <- takeMVar a; putMVar b (x + " ++ decimal place ++ codes ") };\n"

-- how the thread at a place is started, and then the next one
unfoldable pub starter_line : ℕ → ℕ → List ℕ
starter_line place next = codes "s" ++ decimal place ++ codes " (a :: MVar Int) (z :: MVar Int) :: IO () = { b <- newEmptyMVar @Int; _ <- forkIO { w" ++ decimal place ++ codes " a b }; s" ++ decimal next ++ codes " b z };\n"

-- the two lines of a place
abbrev pub place_lines : ℕ → List ℕ
place_lines place = worker_line place ++ starter_line place (place + 1)

-- after the last place the number is handed to the main thread
unfoldable pub last_starter_line : ℕ → List ℕ
last_starter_line n = codes "s" ++ decimal n ++ codes " (a :: MVar Int) (z :: MVar Int) :: IO () = { x <- takeMVar a; putMVar z x };\n"

-- the main thread starts the ring with 0, and shows what comes back
unfoldable pub main_line : List ℕ
main_line = codes "main :: IO () = { a <- newMVar 0; z <- newEmptyMVar @Int; s0 a z; r <- takeMVar z; putStrLn (show r) };\n"

-- the two lines of each place from 0 to n - 1, in that order
unfoldable pub lines_of_places : ℕ → List ℕ
lines_of_places n = flat_map place_lines (range_with_len 0 n)

-- the ring of n threads
abbrev pub ring_text : ℕ → List ℕ
ring_text n = lines_of_places n ++ last_starter_line n ++ main_line

-- a ring of at most 4,000 threads has fewer bytes than the limit of a script
abbrev pub RingsAreShort : Type 0
RingsAreShort = (n : ℕ) → n ≤ 4000 → length (ring_text n) < 1048576
