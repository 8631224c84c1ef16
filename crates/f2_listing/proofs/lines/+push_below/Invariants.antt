use Rattle.std.proofs.Common.{◌≡◌, ◌++◌, ◌-◌, Some}
use Rattle.std.specs.List.{flat_map}
use Rattle.std.specs.FinMap as map
use Rattle.f2_found.specs.Found.{IsFound}
use Rattle.f2_image.specs.Images.{Image}
use Rattle.f2_model.specs.Tree.{Rows}
use Rattle.f2_model.specs.declared.rows.Row.{Row}
use Rattle.f2_recover.specs.Told.{Tells, OnlyReads}
use Rattle.f2_script.specs.Trees.{lines_below}
use Rattle.f2_listing.proofs.DentLines.{dent_lines}
use Rattle.f2_listing.proofs.lines.+push_below.Given as goal

abbrev pub decreases-push_below : goal.decreases-push_below
decreases-push_below g l = l.levels

abbrev pub invariant-loop-dent : goal.invariant-loop-dent
invariant-loop-dent g l = record {
  reads : OnlyReads (g.D.Disk.contents l.fn.disk) (g.D.Disk.meter l.fn.disk) (g.D.Disk.contents l.disk) (g.D.Disk.meter l.disk);
  text : (image : Image) (rows : Rows) (row : Row) → Tells (g.D.Disk.contents l.fn.disk) image → IsFound image rows l.tree → map.get rows l.ino ≡ Some row
      → l.text.items ++ flat_map (dent_lines (l.levels - 1) rows l.path) l.dent-iterator.rest.items ≡ l.fn.text.items ++ lines_below l.levels rows l.path row;
}
