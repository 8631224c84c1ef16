use Rattle.std.proofs.Common.{refl, ap, ◌∙◌}
use Rattle.f2_image.specs.Chains.{Logged}
use Rattle.f2_overlay.specs.declared.marks.Rolling.{Rolling}
use Rattle.f2_overlay.proofs.RollBlock.{footer_at, no_mark_of_node, no_mark_of_inode, mark_of_inode, noted_behind, passed_behind, rolled_over}
use Rattle.f2_overlay.proofs.marks.roll_block.Goals as goal

pub returns-then-footer-ne0-clause-rolled : goal.returns-then-footer-ne0-clause-rolled
returns-then-footer-ne0-clause-rolled g c image ckpt ground before =
    let at = footer_at c.args.log.now c.args.place c.index-log-place.result _ _ c.requires.within c.index-log-place.is (c.deref.ensures ∙ ap (λ (x : Logged). x.block) c.logged.view_is) c.read-footer.ensures in
    let new : Rolling = record { rolls = c.args.rolling.now.rolls; pending = c.note.new.self; owners = c.args.rolling.now.owners } in
    rolled_over _ c.args.g.now image ckpt c.args.walk.now c.args.log.now ground c.args.place (no_mark_of_node c.args.log.now c.args.place c.read-footer.result at c.if-footer-ne0.true) c.args.rolling.now new refl refl
    (noted_behind c.args.log.now c.args.place c.read-footer.result at _ _ c.if-footer-ne0.true c.in_ok-note.ensures c.requires.pending) before

pub returns-then-footer-ne0-clause-pending : goal.returns-then-footer-ne0-clause-pending
returns-then-footer-ne0-clause-pending g c =
    let at = footer_at c.args.log.now c.args.place c.index-log-place.result _ _ c.requires.within c.index-log-place.is (c.deref.ensures ∙ ap (λ (x : Logged). x.block) c.logged.view_is) c.read-footer.ensures in
    noted_behind c.args.log.now c.args.place c.read-footer.result at _ _ c.if-footer-ne0.true c.in_ok-note.ensures c.requires.pending

pub roll_mark-requires-clause-marked : goal.roll_mark-requires-clause-marked
roll_mark-requires-clause-marked g c =
    let at = footer_at c.args.log.now c.args.place c.index-log-place.result _ _ c.requires.within c.index-log-place.is (c.deref.ensures ∙ ap (λ (x : Logged). x.block) c.logged.view_is) c.read-footer.ensures in
    mark_of_inode c.args.log.now c.args.place c.read-footer.result at c.if-footer-ne0.false c.if-footer.true

pub returns-clause-rolled : goal.returns-clause-rolled
returns-clause-rolled g c image ckpt ground before =
    let at = footer_at c.args.log.now c.args.place c.index-log-place.result _ _ c.requires.within c.index-log-place.is (c.deref.ensures ∙ ap (λ (x : Logged). x.block) c.logged.view_is) c.read-footer.ensures in
    rolled_over _ c.args.g.now image ckpt c.args.walk.now c.args.log.now ground c.args.place (no_mark_of_inode c.args.log.now c.args.place c.read-footer.result at c.if-footer.false) c.args.rolling.now c.args.rolling.now refl refl
    (passed_behind c.args.log.now c.args.place c.read-footer.result at _ c.if-footer-ne0.false c.if-footer.false c.requires.pending) before

pub returns-clause-pending : goal.returns-clause-pending
returns-clause-pending g c =
    let at = footer_at c.args.log.now c.args.place c.index-log-place.result _ _ c.requires.within c.index-log-place.is (c.deref.ensures ∙ ap (λ (x : Logged). x.block) c.logged.view_is) c.read-footer.ensures in
    passed_behind c.args.log.now c.args.place c.read-footer.result at _ c.if-footer-ne0.false c.if-footer.false c.requires.pending
