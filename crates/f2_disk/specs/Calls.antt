-- Streams in memory, which fail at calls that are named by their numbers.
use Rattle.std.specs.Prelude.{ℕ, ◌==◌, Bool, List, if◌then◌else◌}
use Rattle.std.specs.List.{list_any}
use Rattle.f2_disk.specs.Faults.{one_more}

-- how many calls were made, which of them are to fail, counted from 1, and how many failed
pub record Calls : Type 0 where
  pub made : ℕ
  pub fails : List ℕ
  pub faults : ℕ

-- the next call is named among those that are to fail
abbrev pub is_named : Calls → Bool
is_named calls = list_any (λ call. call == one_more calls.made) calls.fails

-- after one call more, which failed or not
abbrev pub after_call : Bool → Calls → Calls
after_call failed calls = record {
  made = one_more calls.made;
  fails = calls.fails;
  faults = if failed then one_more calls.faults else calls.faults;
}

-- a source in memory: the bytes that are left, and its calls
pub record SourceState : Type 0 where
  pub left : List ℕ
  pub calls : Calls

-- a sink in memory: what was written, for how many bytes in all it has room, and its calls
pub record SinkState : Type 0 where
  pub bytes : List ℕ
  pub room : ℕ
  pub calls : Calls
