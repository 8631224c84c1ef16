use Rattle.std.proofs.Common.{◌≡◌, ◌∙◌, List, ℕ, slice_index_or, ap, arith}
use Rattle.f2_format.specs.Inode.{inode_of}
use Rattle.f2_recover.proofs.Ups.{inode_names}
use Rattle.f2_recover.proofs.Telling.{fault_holds, read_on}
use Rattle.f2_recover.proofs.Seen.{top_child}
use Rattle.f2_recover.proofs.files.read_below.Goals as goal

at : (nids : List ℕ) (root : List ℕ) (slot : ℕ) → nids ≡ (inode_of root).nids → slice_index_or nids slot 0 ≡ slice_index_or (inode_of root).nids slot 0
at nids root slot same = ap (λ (xs : List ℕ). slice_index_or xs slot 0) same

pub returns-in_err-read_direct-clause-fault : goal.returns-in_err-read_direct-clause-fault
returns-in_err-read_direct-clause-fault g c =
    fault_holds _ _ _ c.from_residual.ensures.1
    (λ image ckpt inos root read own same seen.
    c.in_err-read_direct.ensures.fault image ckpt inos root read (top_child image ckpt c.args.ino 0 1 _ root own (omega arith) (inode_names 0 (omega arith)) (at c.args.nids.now root 0 same)) own seen)

pub returns-in_err-read_direct-2-clause-fault : goal.returns-in_err-read_direct-2-clause-fault
returns-in_err-read_direct-2-clause-fault g c =
    let one = c.in_ok-read_direct.ensures in
    fault_holds _ _ _ c.from_residual-in_err-read_direct-2.ensures.1
    (λ image ckpt inos root read own same seen.
    c.in_err-read_direct-2.ensures.fault image ckpt inos root (read_on _ _ _ _ _ image ckpt one.reads.kept one.geom read) (top_child image ckpt c.args.ino 1 2 _ root own (omega arith) (inode_names 1 (omega arith)) (at c.args.nids.now root 1 same)) own
    (one.seen image ckpt inos root read (top_child image ckpt c.args.ino 0 1 _ root own (omega arith) (inode_names 0 (omega arith)) (at c.args.nids.now root 0 same)) own seen))

pub returns-in_err-read_indirects-clause-fault : goal.returns-in_err-read_indirects-clause-fault
returns-in_err-read_indirects-clause-fault g c =
    let one = c.in_ok-read_direct.ensures in
    let two = c.in_ok-read_direct-2.ensures in
    fault_holds _ _ _ c.from_residual-in_err-read_indirects.ensures.1
    (λ image ckpt inos root read own same seen.
    c.in_err-read_indirects.ensures.fault image ckpt inos root (read_on _ _ _ _ _ image ckpt (two.reads.kept ∙ one.reads.kept) (two.geom ∙ one.geom) read) own
    (record { first = at c.args.nids.now root 2 same; second = at c.args.nids.now root 3 same; double = at c.args.nids.now root 4 same })
    (two.seen image ckpt inos root (read_on _ _ _ _ _ image ckpt one.reads.kept one.geom read) (top_child image ckpt c.args.ino 1 2 _ root own (omega arith) (inode_names 1 (omega arith)) (at c.args.nids.now root 1 same)) own
    (one.seen image ckpt inos root read (top_child image ckpt c.args.ino 0 1 _ root own (omega arith) (inode_names 0 (omega arith)) (at c.args.nids.now root 0 same)) own seen)))

pub returns-clause-seen : goal.returns-clause-seen
returns-clause-seen g c image ckpt inos root read own same seen =
    let one = c.in_ok-read_direct.ensures in
    let two = c.in_ok-read_direct-2.ensures in
    c.in_ok-read_indirects.ensures.seen image ckpt inos root (read_on _ _ _ _ _ image ckpt (two.reads.kept ∙ one.reads.kept) (two.geom ∙ one.geom) read) own
    (record { first = at c.args.nids.now root 2 same; second = at c.args.nids.now root 3 same; double = at c.args.nids.now root 4 same })
    (two.seen image ckpt inos root (read_on _ _ _ _ _ image ckpt one.reads.kept one.geom read) (top_child image ckpt c.args.ino 1 2 _ root own (omega arith) (inode_names 1 (omega arith)) (at c.args.nids.now root 1 same)) own
    (one.seen image ckpt inos root read (top_child image ckpt c.args.ino 0 1 _ root own (omega arith) (inode_names 0 (omega arith)) (at c.args.nids.now root 0 same)) own seen))
