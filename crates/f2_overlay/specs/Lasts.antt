-- Which blocks of a node log count: the last marked block of each file, and the blocks up to it.
use Rattle.std.specs.Prelude.{◌≡◌, ℕ, zero, suc, ◌==◌, ◌&&◌, if◌then◌else◌, List, length, Option, Some, None}
use Rattle.std.specs.Ordering.{nat_cmp}
use Rattle.std.specs.FinMap as map
use Rattle.f2_format.specs.Footer.{footer_ino}
use Rattle.f2_image.specs.Chains.{Logged, block_in, is_marked}

-- the last place before another one at which a file is marked
abbrev pub last_mark_before : List Logged → ℕ → ℕ → Option ℕ
last_mark_before log zero ino = None
last_mark_before log (suc place) ino = if is_marked (block_in log place) && (footer_ino (block_in log place) == ino) then Some place else last_mark_before log place ino

-- the last place of a log at which each file is marked
abbrev pub AreLastMarks : List Logged → map.FinMap nat_cmp ℕ → Type 0
AreLastMarks log lasts = (ino : ℕ) → map.get lasts ino ≡ last_mark_before log (length log) ino
