-- What a pass knows, as its holder sees it.
use Rattle.std.specs.Prelude.{◌≡◌, ℕ, ◌-◌, ◌≤◌, List, length, max, Option, Some, if◌then◌else◌, nat_lt}
use mathlib.Core.List.{IsPrefix}
use Rattle.atomic_table.specs.Seated.{TableId}
use Rattle.f2_seat_lock.specs.Map.{part_of, with_part, without, only, together}

-- Which lock it is, and how many seats it has
pub record LockId : Type 0 where
  pub table : TableId
  pub seats : ℕ

-- A pass: its lock and seat, how many seats it can still split off, the parts that it answers for,
-- the log that it has seen, and the greatest number of marks that `durable` told it
pub record Known (P E : Type 0) : Type 0 where
  pub lock : LockId
  pub seat : ℕ
  pub left : ℕ
  pub parts : List (Option P)
  pub seen : List E
  pub told : ℕ

module _ {E : Type 0} where
  -- the longer of two logs
  abbrev pub longer : List E → List E → List E
  longer xs ys = if nat_lt (length xs) (length ys) then ys else xs

module _ {P E : Type 0} where
  -- the number of the next seat that the pass splits off
  abbrev pub next_seat : Known P E → ℕ
  next_seat k = k.lock.seats - k.left

  -- a new pass for the next seat, which has its part and has seen what the splitting pass has
  abbrev pub split_off : Known P E → Known P E
  split_off k = record k { seat = next_seat k; left = 0; parts = only k.parts (next_seat k) }

  -- the pass after the next seat was split off
  abbrev pub split_rest : Known P E → Known P E
  split_rest k = record k { left = k.left - 1; parts = without k.parts (next_seat k) }

  -- the pass after another was joined into it
  abbrev pub joined : Known P E → Known P E → Known P E
  joined k other = record k { parts = together k.parts other.parts; seen = longer k.seen other.seen; told = max k.told other.told }

  -- the pass after a job left this part and this log
  abbrev pub after_hold : Known P E → P → List E → Known P E
  after_hold k part log = record k { parts = with_part k.parts k.seat part; seen = log }

  -- the pass after it was told a number of marks
  abbrev pub after_told : Known P E → ℕ → Known P E
  after_told k n = record k { told = n }

  -- One hold: the job found the seat's part as the pass had left it, in a log that begins with what the pass had seen
  -- and has as many marks as it was told of. It made its step, and the pass has what the job left.
  pub record Holds (marks : List E → ℕ) (step : P → List E → P → List E → Type 0) (before later : Known P E) : Type 0 where
    pub found : P
    pub log : List E
    pub left : P
    pub new_log : List E
    pub own : part_of before.parts before.seat ≡ Some found
    pub begins : IsPrefix before.seen log
    pub marked : before.told ≤ marks log
    pub stepped : step found log left new_log
    pub grown : IsPrefix log new_log
    pub after : later ≡ after_hold before left new_log
