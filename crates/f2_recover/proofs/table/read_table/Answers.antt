use Rattle.std.proofs.Common.{◌∙◌, ap, arith}
use Rattle.f2_format.specs.Geometry.{nat_address}
use Rattle.f2_image.specs.Images.{block_at}
use Rattle.f2_recover.proofs.Telling.{reads_then, tells_on}
use Rattle.f2_recover.proofs.AddressTables.{table_more, table_read}
use Rattle.f2_recover.proofs.table.read_table.Goals as goal

pub loop-block-preserved : goal.loop-block-preserved
loop-block-preserved g c =
    let before = c.loop-block.invariant in
    record {
      reads = reads_then _ _ _ _ _ _ before.reads c.in_ok-read_block.ensures.reads;
      size = omega (arith, c.in_ok-add_entries.ensures.size, before.size);
      table = λ image ckpt tells is. table_more image ckpt c.args.g.now c.args.bitmap.now c.args.journal.now is c.loop-block.block _ _ _ (before.table image ckpt tells is)
          (c.in_ok-read_block.ensures.content image (tells_on _ _ image before.reads.kept tells) ∙ ap (block_at image) (c.nat_at.ensures.value ∙ ap (nat_address c.args.g.now c.loop-block.block) c.get.ensures)) c.in_ok-add_entries.ensures;
    }

pub returns-clause-table : goal.returns-clause-table
returns-clause-table g c image ckpt tells is =
    table_read image ckpt c.args.g.now c.args.bitmap.now c.args.journal.now is _ c.loop-block.block _ tells (c.loop-block.invariant.table image ckpt tells is) (omega (arith, c.nat-block-end.ensures.value))
