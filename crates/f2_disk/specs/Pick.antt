-- Which image a crash leaves on a bench, by a number.
use Rattle.std.specs.Prelude.{ℕ, ◌/◌, ◌%◌, ◌-◌, ◌^◌, ◌==◌, List, [], ◌∷◌, length, if◌then◌else◌, slice_index_or}
use Rattle.f2_disk.specs.Contents.{Contents, latest, alone}

-- The pick as a number whose digits, least first, number the contents that are kept, oldest first. The digit of a
-- block with m contents has the base m, so a block with one content takes nothing of the pick.
abbrev pub picked : ℕ → Contents → List (List ℕ)
picked pick [] = []
picked pick (list ∷ lists) = slice_index_or list (pick % length list) [] ∷ picked (pick / length list) lists

-- the image that a crash leaves: the newest contents for the greatest pick, else those that it numbers
abbrev pub crash_image : ℕ → Contents → List (List ℕ)
crash_image pick lists = if pick == 2 ^ 64 - 1 then latest lists else picked pick lists

-- what a disk holds after a crash with this pick
abbrev pub crashed : ℕ → Contents → Contents
crashed pick lists = alone (crash_image pick lists)
