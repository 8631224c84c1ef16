use Rattle.std.proofs.Common.{◌≡◌, ◌∙◌, ap, arith}
use Rattle.f2_image.specs.Images.{block_at}
use Rattle.f2_disk.proofs.UsingLaws.{reads_then}
use Rattle.f2_plain_read.proofs.Telling.{tells_on}
use Rattle.f2_plain_read.proofs.Tables.{entries_more, table_of}
use Rattle.f2_plain_read.proofs.table.read_table.Goals as goal

pub loop-number-preserved : goal.loop-number-preserved
loop-number-preserved g c = record {
  reads = reads_then _ _ _ _ _ c.loop-number.invariant.reads c.in_ok-read_block.ensures.reads;
  size = omega (arith, c.in_ok-add_entries.ensures.size, c.loop-number.invariant.size);
  table = λ image t. entries_more c.args.geometry.now c.args.second image _ c.loop-number.number c.deref.result.now c.loop-number.table.items c.add_entries.new.table.items
      (c.loop-number.invariant.table image t)
      (c.deref.ensures ∙ c.in_ok-read_block.ensures.content image (tells_on _ _ image c.loop-number.invariant.reads.kept t) ∙ ap (block_at image) c.nat_at.ensures.value)
      c.in_ok-add_entries.ensures;
}

pub returns-clause-table : goal.returns-clause-table
returns-clause-table g c image t =
    let all : c.args.geometry.now.nat ≡ c.loop-number.number = omega (arith, c.nat-number-end.ensures.value) in
    table_of c.args.geometry.now c.args.second image _ _ _ c.loop-number.table.items (c.loop-number.invariant.table image t) all
