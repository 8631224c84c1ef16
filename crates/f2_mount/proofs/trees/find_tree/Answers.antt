use Rattle.f2_recover.proofs.Telling.{fault_holds}
use Rattle.f2_mount.proofs.Fitting.{has_tree, has_fault}
use Rattle.f2_mount.proofs.trees.find_tree.Goals as goal

pub returns-in_err-check_room-clause-fault : goal.returns-in_err-check_room-clause-fault
returns-in_err-check_room-clause-fault c =
    fault_holds _ _ _ c.from_residual-in_err-check_room.ensures.1
    (λ image ckpt is same right.
    has_fault image ckpt c.args.g.now same c.args.walk.now c.args.rolls.now right c.in_ok-tree.tree
    (λ base marks is_base are_marks. c.in_ok-tree.ensures.found image ckpt base marks same right.right.base right.right.nids right.right.marks right.right.pages right.rolls is_base are_marks) _
    (λ rows found. c.in_err-check_room.ensures.fault image rows found))

pub returns-clause-tree : goal.returns-clause-tree
returns-clause-tree c image ckpt is same right =
    has_tree image ckpt c.args.g.now same c.args.walk.now c.args.rolls.now right c.in_ok-tree.tree
    (λ base marks is_base are_marks. c.in_ok-tree.ensures.found image ckpt base marks same right.right.base right.right.nids right.right.marks right.right.pages right.rolls is_base are_marks) is
    (λ rows found. c.in_ok-check_room.ensures.fits image rows found)
