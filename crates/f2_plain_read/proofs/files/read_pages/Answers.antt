use Rattle.std.proofs.Common.{◌∙◌, ap, arith}
use Rattle.std.specs.Ordering.{nat_cmp}
use Rattle.std.specs.FinMap as map
use Rattle.f2_disk.proofs.UsingLaws.{reads_none}
use Rattle.f2_plain_read.proofs.Telling.{reads_to, reads_as, tells_on}
use Rattle.f2_plain_read.proofs.Pages.{page_more, page_skipped, past_more, past_same}
use Rattle.f2_plain_read.proofs.files.read_pages.Goals as goal
use Rattle.f2_plain_read.proofs.files.read_pages.Goals.{then-at-ne0+in_ok-read_block+in_ok-put, else-at-ne0}

pub loop-page-init : goal.loop-page-init
loop-page-init g c = record {
  reads = reads_none _ _ _;
  within = λ image t page below. absurd (omega arith);
  past = λ page above. ap (λ pages. map.get pages page) c.new-pages.ensures ∙ map.get-empty nat_cmp page;
}

pub loop-page-preserved : goal.loop-page-preserved
loop-page-preserved g c =
    let place = c.args.place.now in
    let page = c.loop-page.page in
    let before = c.loop-page.invariant in
    elim c.if-at-ne0.branch [
      | then-at-ne0+in_ok-read_block+in_ok-put w ↦
          record {
            reads = reads_to g.D.Disk.contents g.D.Disk.meter c.args.disk.now c.loop-page.disk w.read_block.new.disk c.if-at-ne0.disk w.disk-is before.reads w.in_ok-read_block.ensures.reads;
            within = λ image t. page_more image place c.loop-page.pages c.if-at-ne0.pages page w.deref.result.now (w.pages-is ∙ w.in_ok-put.ensures.ok) (before.within image t) w.if-at-ne0.true
                (w.deref.ensures ∙ w.in_ok-read_block.ensures.content image (tells_on _ _ image before.reads.kept t));
            past = past_more c.loop-page.pages c.if-at-ne0.pages page w.deref.result.now (w.pages-is ∙ w.in_ok-put.ensures.ok) before.past;
          }
      | else-at-ne0 w ↦
          record {
            reads = reads_as g.D.Disk.contents g.D.Disk.meter c.args.disk.now c.loop-page.disk c.if-at-ne0.disk w.disk-is before.reads;
            within = λ image t. page_skipped image place c.loop-page.pages c.if-at-ne0.pages page w.pages-is (before.within image t) before.past w.if-at-ne0.false;
            past = past_same c.loop-page.pages c.if-at-ne0.pages page w.pages-is before.past;
          }
    ]
