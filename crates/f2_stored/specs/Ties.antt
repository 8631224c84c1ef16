-- How the live tree of a running volume goes together with the node log: what recovery would read is what the volume knows.
use Rattle.std.specs.Prelude.{◌≡◌, ℕ, false, length, Some}
use Rattle.std.specs.FinMap as map
use Rattle.std.specs.FinSet as set
use Rattle.f2_format.specs.Offsets.{direct_of, direct_slot}
use Rattle.f2_model.specs.State.{State}
use Rattle.f2_model.specs.declared.rows.Row.{Row}
use Rattle.f2_model.specs.declared.rows.Kind.TheVariants.{Regular}
use Rattle.f2_image.specs.Nodes.{node, word_of}
use Rattle.f2_image.specs.Chains.{last_before, or_below, base_direct}
use Rattle.f2_stored.specs.Layout.{Layout, chained}
use Rattle.f2_stored.specs.Places.{Places, page_at}

-- the address of a page as recovery would read it in a direct node of its file, were the file marked next: in the last block of that node in
-- the log, else in the base's
abbrev pub told_address : Layout → ℕ → ℕ → ℕ → ℕ
told_address layout ino offset page =
    word_of (or_below (last_before (chained layout) (length (chained layout)) ino offset) (base_direct layout.base.image layout.base.ckpt (node layout.base.image layout.base.ckpt ino) page)) (direct_slot page)

-- it is the page's place, for each file that lost no direct node since the base and each of its direct nodes that isn't dirty
pub record LogTellsLive (layout : Layout) (state : State) (places : Places) : Type 0 where
  pub told : (ino page offset : ℕ) (row : Row) → map.get state.live ino ≡ Some row → row.kind ≡ Regular → set.contains state.shrunk ino ≡ false → direct_of page ≡ Some offset
      → set.contains state.dirty_nodes (ino, offset) ≡ false → told_address layout ino offset page ≡ page_at places ino page
