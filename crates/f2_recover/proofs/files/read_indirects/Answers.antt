use Rattle.std.proofs.Common.{◌∙◌, arith}
use Rattle.f2_recover.proofs.Ups.{inode_names, inode_second, inode_double}
use Rattle.f2_recover.proofs.Offsets.{first_indirect_is, second_indirect_is}
use Rattle.f2_recover.proofs.Telling.{fault_holds, read_on}
use Rattle.f2_recover.proofs.Seen.{top_child}
use Rattle.f2_recover.proofs.files.read_indirects.Goals as goal

pub read_indirect-requires-clause-indirect : goal.read_indirect-requires-clause-indirect
read_indirect-requires-clause-indirect g c = first_indirect_is

pub read_indirect-requires-2-clause-indirect : goal.read_indirect-requires-2-clause-indirect
read_indirect-requires-2-clause-indirect g c = second_indirect_is

pub returns-in_err-read_indirect-clause-fault : goal.returns-in_err-read_indirect-clause-fault
returns-in_err-read_indirect-clause-fault g c =
    fault_holds _ _ _ c.from_residual.ensures.1
    (λ image ckpt inos root read own last seen.
    c.in_err-read_indirect.ensures.fault image ckpt inos root read (top_child image ckpt c.args.ino 2 3 _ root own (omega arith) (inode_names 2 (omega arith)) last.first) own seen)

pub returns-in_err-read_indirect-2-clause-fault : goal.returns-in_err-read_indirect-2-clause-fault
returns-in_err-read_indirect-2-clause-fault g c =
    let one = c.in_ok-read_indirect.ensures in
    fault_holds _ _ _ c.from_residual-in_err-read_indirect-2.ensures.1
    (λ image ckpt inos root read own last seen.
    c.in_err-read_indirect-2.ensures.fault image ckpt inos root (read_on _ _ _ _ _ image ckpt one.reads.kept one.geom read) (top_child image ckpt c.args.ino 3 1022 _ root own (omega arith) inode_second last.second) own
    (one.seen image ckpt inos root read (top_child image ckpt c.args.ino 2 3 _ root own (omega arith) (inode_names 2 (omega arith)) last.first) own seen))

pub returns-in_err-read_double-clause-fault : goal.returns-in_err-read_double-clause-fault
returns-in_err-read_double-clause-fault g c =
    let one = c.in_ok-read_indirect.ensures in
    let two = c.in_ok-read_indirect-2.ensures in
    fault_holds _ _ _ c.from_residual-in_err-read_double.ensures.1
    (λ image ckpt inos root read own last seen.
    c.in_err-read_double.ensures.fault image ckpt inos root (read_on _ _ _ _ _ image ckpt (two.reads.kept ∙ one.reads.kept) (two.geom ∙ one.geom) read)
    (top_child image ckpt c.args.ino 4 2041 _ root own (omega arith) inode_double last.double) own
    (two.seen image ckpt inos root (read_on _ _ _ _ _ image ckpt one.reads.kept one.geom read) (top_child image ckpt c.args.ino 3 1022 _ root own (omega arith) inode_second last.second) own
    (one.seen image ckpt inos root read (top_child image ckpt c.args.ino 2 3 _ root own (omega arith) (inode_names 2 (omega arith)) last.first) own seen)))

pub returns-clause-seen : goal.returns-clause-seen
returns-clause-seen g c image ckpt inos root read own last seen =
    let one = c.in_ok-read_indirect.ensures in
    let two = c.in_ok-read_indirect-2.ensures in
    c.in_ok-read_double.ensures.seen image ckpt inos root (read_on _ _ _ _ _ image ckpt (two.reads.kept ∙ one.reads.kept) (two.geom ∙ one.geom) read)
    (top_child image ckpt c.args.ino 4 2041 _ root own (omega arith) inode_double last.double) own
    (two.seen image ckpt inos root (read_on _ _ _ _ _ image ckpt one.reads.kept one.geom read) (top_child image ckpt c.args.ino 3 1022 _ root own (omega arith) inode_second last.second) own
    (one.seen image ckpt inos root read (top_child image ckpt c.args.ino 2 3 _ root own (omega arith) (inode_names 2 (omega arith)) last.first) own seen))
