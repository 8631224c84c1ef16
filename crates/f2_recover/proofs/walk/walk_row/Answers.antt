use Rattle.std.proofs.Common.{[], refl, sym}
use Rattle.f2_recover.proofs.Telling.{fault_holds, read_on}
use Rattle.f2_recover.proofs.RowSteps.{row_reached, row_below, row_blocks, with_names, is_directory}
use Rattle.f2_recover.proofs.WalkedDirectories.{walked_none, walked_done}
use Rattle.f2_recover.proofs.walk.walk_row.Goals as goal

pub returns-in_err-dents-clause-fault : goal.returns-in_err-dents-clause-fault
returns-in_err-dents-clause-fault g c =
    let directory = is_directory c.in-Some.row.now.file.kind c.if-eq.ensures in
    let there = c.in-Some.ensures in
    fault_holds _ _ _ c.from_residual.ensures.1
    (λ image ckpt done read fresh is.
    c.in_err-dents.ensures.fault image ckpt c.args.ino read.tells read.has read.geom_is (row_reached image ckpt done c.args.walk.now c.args.ino c.in-Some.row.now there is)
    (row_blocks image ckpt done c.args.walk.now c.args.ino c.in-Some.row.now there is _ c.deref.ensures.value directory))

pub returns-in_err-names-clause-fault : goal.returns-in_err-names-clause-fault
returns-in_err-names-clause-fault g c =
    let directory = is_directory c.in-Some.row.now.file.kind c.if-eq.ensures in
    let there = c.in-Some.ensures in
    fault_holds _ _ _ c.from_residual-in_err-names.ensures.1
    (λ image ckpt done read fresh is.
    let blocks = row_blocks image ckpt done c.args.walk.now c.args.ino c.in-Some.row.now there is _ c.deref.ensures.value directory in
    let dents = c.in_ok-dents.ensures.dents image ckpt c.args.ino read.tells blocks in
    c.in_err-names.ensures.fault image ckpt done dents.0 (read_on _ _ _ _ _ image ckpt c.in_ok-dents.ensures.reads.kept refl read) fresh dents.1
    (row_below image ckpt done c.args.walk.now c.args.ino c.in-Some.row.now there is) (walked_none image ckpt done 0 c.args.ino [] dents.0 c.args.walk.now is))

pub returns-clause-walked : goal.returns-clause-walked
returns-clause-walked g c image ckpt done read fresh is has =
    let directory = is_directory c.in-Some.row.now.file.kind c.if-eq.ensures in
    let there = c.in-Some.ensures in
    let blocks = row_blocks image ckpt done c.args.walk.now c.args.ino c.in-Some.row.now there is _ c.deref.ensures.value directory in
    let dents = c.in_ok-dents.ensures.dents image ckpt c.args.ino read.tells blocks in
    let took = c.in_ok-names.ensures.walked image ckpt done dents.0 (read_on _ _ _ _ _ image ckpt c.in_ok-dents.ensures.reads.kept refl read) fresh dents.1
    (row_below image ckpt done c.args.walk.now c.args.ino c.in-Some.row.now there is) (walked_none image ckpt done 0 c.args.ino [] dents.0 c.args.walk.now is) in
    with_names image ckpt _ c.take_dents.new.walk _ _ c.in_ok-put.ensures.ok
    (walked_done image ckpt done c.args.ino dents.0 c.in_ok-dents.dents.items dents.1 fresh c.take_dents.new.walk c.in_ok-names.names took.0 took.1
    (record { row = c.in-Some.row.now; there = c.in_ok-names.ensures.longer.rows c.args.ino c.in-Some.row.now (sym there); is = directory }))
