use Rattle.std.proofs.Common.{◌≡◌, ◌+◌, ◌<◌, ◌≤◌, ◌^◌, length}
use Rattle.std.specs.Option.{option_copied}
use Rattle.std.specs.FinMap as map
use Rattle.f2_format.specs.Packing.{nothing_packed, place_after_all}
use Rattle.f2_files.specs.Packed.{and_come, but_gone, number_of}
use Rattle.f2_files.proofs.Placed.{names_from}
use Rattle.f2_files.proofs.bindings.Bindings.blocks_after.Given as goal

-- the names that are left are packed behind those so far as all of them are
abbrev pub invariant-loop-name : goal.invariant-loop-name
invariant-loop-name l = record {
  whole : place_after_all l.reach (and_come (option_copied l.coming) (but_gone (option_copied l.gone) (names_from (λ k. k.items) l.name-iterator)))
      ≡ place_after_all nothing_packed (and_come (option_copied l.come) (but_gone (option_copied l.gone) (map.keys l.fn.self)));
  few : l.reach.0 + number_of l.coming + length l.name-iterator ≤ map.len l.fn.self + 1;
  slots : l.reach.1 < 2 ^ 62;
  fits : map.len l.fn.self < 2 ^ 63;
}
