-- What a bench picks at a crash is an image that a crash may leave.
use Rattle.std.proofs.Common.{◌≡◌, ℕ, ◌-◌, ◌<◌, ◌/◌, ◌%◌, Bool, true, false, cond, eqb, [], ◌∷◌, length, All, ◌∙◌, arith}
use Rattle.std.proofs.Math.Nat.{mod-lt}
use Rattle.std.proofs.lemmas.List.{length-map}
use Rattle.std.proofs.lemmas.List.Elements.{All-head, All-tail, Contains-get_or}
use Rattle.f2_disk.specs.Contents.{Contents, IsImage, latest, last_of}
use Rattle.f2_disk.specs.Pick.{picked, crash_image, crashed}
use Rattle.f2_disk.proofs.ChooseLaws.{length-picked}

-- the newest contents are an image
pub latest_image : (lists : Contents) → All (λ list. 0 < length list) lists → IsImage lists (latest lists)
latest_image [] held = tt
latest_image (list ∷ lists) held =
    let some : 0 < length list = All-head (λ l. 0 < length l) list lists held in
    (Contains-get_or list (length list - 1) [] (omega arith), latest_image lists (All-tail (λ l. 0 < length l) list lists held))

-- the contents that a pick numbers are an image
pub picked_image : (pick : ℕ) (lists : Contents) → All (λ list. 0 < length list) lists → IsImage lists (picked pick lists)
picked_image pick [] held = tt
picked_image pick (list ∷ lists) held =
    let some : 0 < length list = All-head (λ l. 0 < length l) list lists held in (
      Contains-get_or list (pick % length list) [] (mod-lt pick some),
      picked_image (pick / length list) lists (All-tail (λ l. 0 < length l) list lists held),
    )

-- what a crash leaves is an image
pub crash_is_image : (pick : ℕ) (lists : Contents) → All (λ list. 0 < length list) lists → IsImage lists (crash_image pick lists)
crash_is_image pick lists held = either (eqb pick 18446744073709551615)
  where
    either : (all : Bool) → IsImage lists (cond all (latest lists) (picked pick lists))
    either true = latest_image lists held
    either false = picked_image pick lists held

-- a crash leaves as many blocks
pub length-crashed : (pick : ℕ) (lists : Contents) → length (crashed pick lists) ≡ length lists
length-crashed pick lists =
    length-map (crash_image pick lists) (λ content. content ∷ []) ∙ either (eqb pick 18446744073709551615)
  where
    either : (all : Bool) → length (cond all (latest lists) (picked pick lists)) ≡ length lists
    either true = length-map lists last_of
    either false = length-picked pick lists
