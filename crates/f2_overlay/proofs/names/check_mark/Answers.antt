use Rattle.std.proofs.Common.{◌∙◌, ap, sym, subst}
use Rattle.f2_footer.specs.Footer.{footer_of}
use Rattle.f2_footer.specs.declared.Footer.{Footer}
use Rattle.f2_image.specs.Bases.{IsReached}
use Rattle.f2_image.specs.Chains.{Logged}
use Rattle.f2_image.specs.Faults as faults
use Rattle.f2_recover.specs.Faults.{IsRightFault}
use Rattle.f2_recover.proofs.Telling.{fault_holds}
use Rattle.f2_overlay.proofs.RightMarks.{right_known, right_brought}
use Rattle.f2_overlay.proofs.MarkInodes.{named_as, brings_name}
use Rattle.f2_overlay.proofs.names.check_mark.Goals as goal

pub returns-in_err-inode-clause-fault : goal.returns-in_err-inode-clause-fault
returns-in_err-inode-clause-fault c =
    fault_holds _ _ _ c.from_residual.ensures.1 (λ image ckpt place base at right.
    subst (IsRightFault image ckpt) (sym c.in_err-inode.ensures.fault) (faults.in_log place c.args.logged.now.block at.marked at.at_is c.in_err-inode.ensures.odd))

pub returns-in_err-check_file-clause-fault : goal.returns-in_err-check_file-clause-fault
returns-in_err-check_file-clause-fault c =
    let says = named_as c.args.logged.now.block c.in_ok-inode.inode c.in_ok-inode.ensures.inode in
    let footer = c.read-footer.ensures ∙ ap footer_of (c.deref.ensures ∙ ap (λ (l : Logged). l.block) c.logged.view_is) in
    fault_holds _ _ _ c.from_residual-in_err-check_file.ensures.1
    (λ image ckpt place base at right. c.in_err-check_file.ensures.fault image ckpt place c.args.logged.now.block base at.marked footer says.kind)

pub returns-in_err-check_name-clause-fault : goal.returns-in_err-check_name-clause-fault
returns-in_err-check_name-clause-fault c =
    let says = named_as c.args.logged.now.block c.in_ok-inode.inode c.in_ok-inode.ensures.inode in
    let footer = c.read-footer.ensures ∙ ap footer_of (c.deref.ensures ∙ ap (λ (l : Logged). l.block) c.logged.view_is) in
    fault_holds _ _ _ c.from_residual-in_err-check_name.ensures.1 (λ image ckpt place base at right.
    let fresh = c.in_ok-check_file.ensures.fresh c.if-branch.true image ckpt base in
    c.in_err-check_name.ensures.fault image ckpt place base
    (brings_name image ckpt place c.args.logged.now.block c.in_ok-name.name c.read-footer.result c.in_ok-inode.inode at.marked footer says fresh c.in_ok-name.ensures))

pub returns-in_err-bring-clause-fault : goal.returns-in_err-bring-clause-fault
returns-in_err-bring-clause-fault c =
    let says = named_as c.args.logged.now.block c.in_ok-inode.inode c.in_ok-inode.ensures.inode in
    let footer = c.read-footer.ensures ∙ ap footer_of (c.deref.ensures ∙ ap (λ (l : Logged). l.block) c.logged.view_is) in
    fault_holds _ _ _ c.from_residual-in_err-bring.ensures.1 (λ image ckpt place base at right.
    let fresh = c.in_ok-check_file.ensures.fresh c.if-branch.true image ckpt base in
    c.in_err-bring.ensures.fault image ckpt place base.has right
    (brings_name image ckpt place c.args.logged.now.block c.in_ok-name.name c.read-footer.result c.in_ok-inode.inode at.marked footer says fresh c.in_ok-name.ensures))

pub returns-in_ok-bring-clause-right : goal.returns-in_ok-bring-clause-right
returns-in_ok-bring-clause-right c image ckpt place base at right =
    let block = c.args.logged.now.block in
    let says = named_as block c.in_ok-inode.inode c.in_ok-inode.ensures.inode in
    let footer = c.read-footer.ensures ∙ ap footer_of (c.deref.ensures ∙ ap (λ (l : Logged). l.block) c.logged.view_is) in
    let fresh = c.in_ok-check_file.ensures.fresh c.if-branch.true image ckpt base in
    right_brought image ckpt place c.args.brought.now right block at.marked (c.in_ok-check_file.ensures.right image ckpt block base footer says.kind) c.bring.new.self c.read-footer.result.ino c.in_ok-inode.inode.pino c.in_ok-name.name
    (brings_name image ckpt place block c.in_ok-name.name c.read-footer.result c.in_ok-inode.inode at.marked footer says fresh c.in_ok-name.ensures) (c.in_ok-check_name.ensures.fit image ckpt base) c.in_ok-bring.ensures.brought

pub returns-else-branch-clause-right : goal.returns-else-branch-clause-right
returns-else-branch-clause-right c image ckpt place base at right =
    let block = c.args.logged.now.block in
    let says = named_as block c.in_ok-inode.inode c.in_ok-inode.ensures.inode in
    let footer = c.read-footer.ensures ∙ ap footer_of (c.deref.ensures ∙ ap (λ (l : Logged). l.block) c.logged.view_is) in
    right_known image ckpt place c.args.brought.now right block at.marked (c.in_ok-check_file.ensures.right image ckpt block base footer says.kind)
    (subst (IsReached image ckpt) (ap (λ (f : Footer). f.ino) footer) (c.in_ok-check_file.ensures.old c.if-branch.false image ckpt base))
