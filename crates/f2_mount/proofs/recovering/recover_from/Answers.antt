use Rattle.std.proofs.Common.{List, length, sym, ap, ◌∙◌, arith}
use Rattle.f2_image.specs.Chains.{Logged, IsMark, chain, marked_places}
use Rattle.f2_overlay_laws.proofs.LastMarks.{same_length}
use Rattle.f2_recover.proofs.Telling.{fault_holds, reads_then, tells_on}
use Rattle.f2_mount.proofs.Standing.{ckpt_of, version_of, ground_of}
use Rattle.f2_mount.proofs.recovering.recover_from.Goals as goal

pub returns-in_err-walk-clause-fault : goal.returns-in_err-walk-clause-fault
returns-in_err-walk-clause-fault g c =
    fault_holds _ _ _ c.from_residual.ensures.1 (λ image ckpt tells is of. c.in_err-walk.ensures.fault image ckpt tells (ckpt_of c.args.start.now ckpt of))

pub returns-in_err-log-clause-fault : goal.returns-in_err-log-clause-fault
returns-in_err-log-clause-fault g c =
    fault_holds _ _ _ c.from_residual-in_err-log.ensures.1
    (λ image ckpt tells is of. c.in_err-log.ensures.fault image ckpt (tells_on _ _ image c.in_ok-walk.ensures.reads.kept tells) of)

pub returns-in_err-rolls-clause-fault : goal.returns-in_err-rolls-clause-fault
returns-in_err-rolls-clause-fault g c =
    fault_holds _ _ _ c.from_residual-in_err-rolls.ensures.1
    (λ image ckpt tells is of.
    let read = tells_on _ _ image c.in_ok-walk.ensures.reads.kept tells in
    let base = c.in_ok-walk.ensures.base image ckpt tells (ckpt_of c.args.start.now ckpt of) in
    let log = c.blocks-2.ensures ∙ c.in_ok-log.ensures.chain image ckpt read of in
    let ground = ground_of _ c.args.start.now image ckpt c.in_ok-walk.walk _ (tells_on _ _ image c.in_ok-log.ensures.reads.kept read) of base log in
    c.in_err-rolls.ensures.fault image ckpt ground (c.in_ok-log.ensures.sound image ckpt read of))

pub returns-in_err-find_tree-clause-fault : goal.returns-in_err-find_tree-clause-fault
returns-in_err-find_tree-clause-fault g c =
    fault_holds _ _ _ c.from_residual-in_err-find_tree.ensures.1
    (λ image ckpt tells is of.
    let read = tells_on _ _ image c.in_ok-walk.ensures.reads.kept tells in
    let base = c.in_ok-walk.ensures.base image ckpt tells (ckpt_of c.args.start.now ckpt of) in
    let log = c.blocks-2.ensures ∙ c.in_ok-log.ensures.chain image ckpt read of in
    let ground = ground_of _ c.args.start.now image ckpt c.in_ok-walk.walk _ (tells_on _ _ image c.in_ok-log.ensures.reads.kept read) of base log in
    let rolled = c.in_ok-rolls.ensures.rolled image ckpt ground (c.in_ok-log.ensures.sound image ckpt read of) in
    c.in_err-find_tree.ensures.fault image ckpt is of.geom_is rolled)

pub returns-in_err-find_tree-clause-reads : goal.returns-in_err-find_tree-clause-reads
returns-in_err-find_tree-clause-reads g c = reads_then _ _ _ _ _ _ (reads_then _ _ _ _ _ _ c.in_ok-walk.ensures.reads c.in_ok-log.ensures.reads) c.in_ok-rolls.ensures.reads

pub returns-clause-reads : goal.returns-clause-reads
returns-clause-reads g c = reads_then _ _ _ _ _ _ (reads_then _ _ _ _ _ _ c.in_ok-walk.ensures.reads c.in_ok-log.ensures.reads) c.in_ok-rolls.ensures.reads

pub returns-clause-recovered : goal.returns-clause-recovered
returns-clause-recovered g c image ckpt tells is of =
    let read = tells_on _ _ image c.in_ok-walk.ensures.reads.kept tells in
    let base = c.in_ok-walk.ensures.base image ckpt tells (ckpt_of c.args.start.now ckpt of) in
    let chained = c.in_ok-log.ensures.chain image ckpt read of in
    let log = c.blocks-2.ensures ∙ chained in
    let ground = ground_of _ c.args.start.now image ckpt c.in_ok-walk.walk _ (tells_on _ _ image c.in_ok-log.ensures.reads.kept read) of base log in
    let rolled = c.in_ok-rolls.ensures.rolled image ckpt ground (c.in_ok-log.ensures.sound image ckpt read of) in
    let found = c.in_ok-find_tree.ensures.tree image ckpt is of.geom_is rolled in
    let marks = same_length (IsMark image ckpt found.0 (chain image ckpt)) (marked_places (chain image ckpt)) found.1.0 found.1.1.means.are_marks in
    let version = version_of c.args.start.now ckpt of in
    record {
      ckpt = ckpt;
      base = found.0;
      marks = found.1.0;
      is = found.1.1;
      counted = c.count_marks.ensures ∙ ap (λ (l : List Logged). length (marked_places l)) (c.blocks-3.ensures ∙ chained) ∙ sym marks;
      version = version;
      early = omega arith;
    }
