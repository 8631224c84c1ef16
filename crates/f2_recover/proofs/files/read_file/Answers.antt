use Rattle.std.proofs.Common.{◌∙◌, sym, ap, subst}
use Rattle.f2_image.specs.Reached.{inode}
use Rattle.f2_recover.specs.Faults.{IsRightFault}
use Rattle.f2_recover.proofs.Telling.{fault_holds, read_on}
use Rattle.f2_recover.proofs.Inodes.{ours, file_of, inode_odd, seen_none}
use Rattle.f2_recover.proofs.files.read_file.Goals as goal

pub returns-in_err-read_node-clause-fault : goal.returns-in_err-read_node-clause-fault
returns-in_err-read_node-clause-fault g c =
    fault_holds _ _ _ c.from_residual.ensures.1
    (λ image ckpt inos read reached are.
    c.in_err-read_node.ensures.fault image ckpt inos 0 read (inode c.args.ino reached) (seen_none image ckpt inos c.args.ino c.args.zones.now (record { nids = c.new.result; addresses = c.new-2.result; pages = c.new-3.result; list = c.new-4.result }) are c.new.ensures c.new-2.ensures (ap (λ x. x.pages) c.new-3.ensures) c.new-4.ensures.items))

pub returns-in_err-inode-clause-fault : goal.returns-in_err-inode-clause-fault
returns-in_err-inode-clause-fault g c =
    fault_holds _ _ _ c.from_residual-in_err-inode.ensures.1
    (λ image ckpt inos read reached are.
    subst (IsRightFault image ckpt) (sym c.in_err-inode.ensures.fault)
    (inode_odd image ckpt c.args.ino _ _ read.has reached (c.in_ok-read_node.ensures.there image ckpt read) (c.address_of.ensures _ _ image ckpt read) c.in_err-inode.ensures.odd))

pub returns-in_err-add_first_pages-clause-fault : goal.returns-in_err-add_first_pages-clause-fault
returns-in_err-add_first_pages-clause-fault g c =
    let node = c.in_ok-read_node.ensures in
    let is = ours _ _ c.in_ok-inode.ensures.inode in
    fault_holds _ _ _ c.from_residual-in_err-add_first_pages.ensures.1
    (λ image ckpt inos read reached are.
    c.in_err-add_first_pages.ensures.fault image ckpt inos c.args.ino 1 _ (read.geom_is ∙ sym node.geom) read.has (file_of image ckpt c.args.ino _ _ reached (node.there image ckpt read) is) is.addresses
    (node.seen image ckpt inos 0 read (inode c.args.ino reached) (seen_none image ckpt inos c.args.ino c.args.zones.now (record { nids = c.new.result; addresses = c.new-2.result; pages = c.new-3.result; list = c.new-4.result }) are c.new.ensures c.new-2.ensures (ap (λ x. x.pages) c.new-3.ensures) c.new-4.ensures.items)))

pub returns-in_err-read_below-clause-fault : goal.returns-in_err-read_below-clause-fault
returns-in_err-read_below-clause-fault g c =
    let node = c.in_ok-read_node.ensures in
    let first = c.in_ok-add_first_pages.ensures in
    let is = ours _ _ c.in_ok-inode.ensures.inode in
    fault_holds _ _ _ c.from_residual-in_err-read_below.ensures.1
    (λ image ckpt inos read reached are.
    let own = file_of image ckpt c.args.ino _ _ reached (node.there image ckpt read) is in
    c.in_err-read_below.ensures.fault image ckpt inos _ (read_on _ _ _ _ _ image ckpt node.reads.kept (first.geom ∙ node.geom) read) own is.nids
    (first.seen image ckpt inos c.args.ino 1 _ (read.geom_is ∙ sym node.geom) own is.addresses
    (node.seen image ckpt inos 0 read (inode c.args.ino reached) (seen_none image ckpt inos c.args.ino c.args.zones.now (record { nids = c.new.result; addresses = c.new-2.result; pages = c.new-3.result; list = c.new-4.result }) are c.new.ensures c.new-2.ensures (ap (λ x. x.pages) c.new-3.ensures) c.new-4.ensures.items))))

pub returns-clause-file : goal.returns-clause-file
returns-clause-file g c image ckpt inos read reached are =
    let node = c.in_ok-read_node.ensures in
    let first = c.in_ok-add_first_pages.ensures in
    let is = ours _ _ c.in_ok-inode.ensures.inode in
    let own = file_of image ckpt c.args.ino _ _ reached (node.there image ckpt read) is in
    record {
      reached = reached;
      inode = c.read_node.new.block;
      is = record { there = node.there image ckpt read; is_kind = is.kind };
      own = is.own;
      size = is.size;
      seen =
          c.in_ok-read_below.ensures.seen image ckpt inos _ (read_on _ _ _ _ _ image ckpt node.reads.kept (first.geom ∙ node.geom) read) own is.nids
          (first.seen image ckpt inos c.args.ino 1 _ (read.geom_is ∙ sym node.geom) own is.addresses
          (node.seen image ckpt inos 0 read (inode c.args.ino reached) (seen_none image ckpt inos c.args.ino c.args.zones.now (record { nids = c.new.result; addresses = c.new-2.result; pages = c.new-3.result; list = c.new-4.result }) are c.new.ensures c.new-2.ensures (ap (λ x. x.pages) c.new-3.ensures) c.new-4.ensures.items)));
    }
