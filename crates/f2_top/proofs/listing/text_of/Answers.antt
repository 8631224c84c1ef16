use Rattle.std.proofs.Common.{sym, ap, ◌∙◌, Err}
use Rattle.f2_top.proofs.MakingLemmas.{on_ok, told_flushed, failed_later}
use Rattle.f2_top.proofs.ListingLemmas.{tells_flushed, tells_still, shows_tree, fault_told}
use Rattle.f2_top.proofs.listing.text_of.Goals as goal

pub returns-in-Err-clause-refused : goal.returns-in-Err-clause-refused
returns-in-Err-clause-refused g c =
    let flush = on_ok c.flush.result (sym c.is_err.ensures.value ∙ c.if-is_err.false) c.flush.ensures.flushed in
    fault_told (g.D.Disk.contents c.args.disk.now) (g.D.Disk.meter c.args.disk.now) (g.D.Disk.meter c.recover_image.new.disk) c.in-Err.fault c.status_of.result
    c.status_of.ensures.bad c.status_of.ensures.read c.status_of.ensures.memory
    (λ image tells. c.in-Err.ensures.fault image (tells_flushed _ _ image flush tells))
    (λ is. failed_later (g.D.Disk.meter c.args.disk.now) (g.D.Disk.meter c.flush.new.self) (g.D.Disk.meter c.recover_image.new.disk) c.flush.ensures.within.later (c.in-Err.ensures.cause (ap Err is)))

pub returns-in-Err-clause-kept : goal.returns-in-Err-clause-kept
returns-in-Err-clause-kept g c =
    let flush = on_ok c.flush.result (sym c.is_err.ensures.value ∙ c.if-is_err.false) c.flush.ensures.flushed in
    told_flushed _ _ (c.recover_image.ensures.reads.kept ∙ flush)

pub returns-in-Ok-tree_text-clause-listed : goal.returns-in-Ok-tree_text-clause-listed
returns-in-Ok-tree_text-clause-listed g c =
    let flush = on_ok c.flush.result (sym c.is_err.ensures.value ∙ c.if-is_err.false) c.flush.ensures.flushed in
    λ image tells.
    let told = tells_flushed (g.D.Disk.contents c.args.disk.now) (g.D.Disk.contents c.flush.new.self) image flush tells in
    let still = tells_still (g.D.Disk.contents c.flush.new.self) (g.D.Disk.contents c.recover_image.new.disk) image c.recover_image.ensures.reads.kept told in
    shows_tree image c.in-Ok.recovered _ (c.in-Ok.ensures.recovered image told) (λ rows found. c.in-Ok-tree_text.ensures.text image rows still found)

pub returns-in-Ok-tree_text-clause-kept : goal.returns-in-Ok-tree_text-clause-kept
returns-in-Ok-tree_text-clause-kept g c =
    let flush = on_ok c.flush.result (sym c.is_err.ensures.value ∙ c.if-is_err.false) c.flush.ensures.flushed in
    told_flushed _ _ (c.tree_text.ensures.reads.kept ∙ c.recover_image.ensures.reads.kept ∙ flush)

pub returns-in-Err-Read-clause-kept : goal.returns-in-Err-Read-clause-kept
returns-in-Err-Read-clause-kept g c =
    let flush = on_ok c.flush.result (sym c.is_err.ensures.value ∙ c.if-is_err.false) c.flush.ensures.flushed in
    told_flushed _ _ (c.tree_text.ensures.reads.kept ∙ c.recover_image.ensures.reads.kept ∙ flush)

pub returns-clause-kept : goal.returns-clause-kept
returns-clause-kept g c =
    let flush = on_ok c.flush.result (sym c.is_err.ensures.value ∙ c.if-is_err.false) c.flush.ensures.flushed in
    told_flushed _ _ (c.tree_text.ensures.reads.kept ∙ c.recover_image.ensures.reads.kept ∙ flush)
