-- Lists of what is seen, one more.
use Rattle.std.proofs.Common.{◌≡◌, ◌<◌, ℕ, ◌+◌, List, [], ◌∷◌, ◌++◌, length, take, get_or, is_some, refl, ap, ◌∙◌, arith}
use Rattle.std.proofs.lemmas.List.{take_more, length-take-le}
use Rattle.hs_base.specs.declared.value.Value.{Value}
use Rattle.rules_waiting.specs.OneCell.{Cell}
use Rattle.thread_table.specs.declared.thread.Thread.{Thread}
use Rattle.world_entries.specs.declared.world.World.{World}
use Rattle.trace_picture.specs.Looking.{pose_at, poses_at, fulls_at}

poses_more : (w : World) (n : ℕ) (xs : List Thread) (x : Thread) → poses_at w n (xs ++ x ∷ []) ≡ poses_at w n xs ++ pose_at w (n + length xs) x ∷ []
poses_more w n [] x = ap (λ m. pose_at w m x ∷ []) (omega arith)
poses_more w n (y ∷ ys) x =
    ap (λ z. pose_at w n y ∷ z) (poses_more w (n + 1) ys x ∙ ap (λ m. poses_at w (n + 1) ys ++ pose_at w m x ∷ []) (omega arith))

pub poses_on : (w : World) (xs : List Thread) (i : ℕ) (d : Thread) → i < length xs → poses_at w 0 (take (i + 1) xs) ≡ poses_at w 0 (take i xs) ++ pose_at w i (get_or xs i d) ∷ []
poses_on w xs i d h =
    let n = length-take-le i xs (omega (arith, h)) in
    ap (poses_at w 0) (take_more xs i d h)
    ∙ (poses_more w 0 (take i xs) (get_or xs i d)
    ∙ ap (λ m. poses_at w 0 (take i xs) ++ pose_at w m (get_or xs i d) ∷ []) (omega (arith, n)))

fulls_more : (xs : List (Cell Value)) (x : Cell Value) → fulls_at (xs ++ x ∷ []) ≡ fulls_at xs ++ is_some x.content ∷ []
fulls_more [] x = refl
fulls_more (y ∷ ys) x = ap (λ z. is_some y.content ∷ z) (fulls_more ys x)

pub fulls_on : (xs : List (Cell Value)) (i : ℕ) (d : Cell Value) → i < length xs → fulls_at (take (i + 1) xs) ≡ fulls_at (take i xs) ++ is_some (get_or xs i d).content ∷ []
fulls_on xs i d h = ap fulls_at (take_more xs i d h) ∙ fulls_more (take i xs) (get_or xs i d)
