use Rattle.std.proofs.Common.{◌∙◌, ◌<◌, sym, refl, arith}
use Rattle.f2_recover.proofs.Telling.{fault_holds}
use Rattle.f2_recover.proofs.Seen.{seen_at, first_page}
use Rattle.f2_recover.proofs.files.add_first_pages.Goals as goal

pub loop-page-init : goal.loop-page-init
loop-page-init c = record { geom = refl; seen = λ image ckpt inos ino offset inode sizes file same seen. seen }

pub returns-in_err-add_page-clause-fault : goal.returns-in_err-add_page-clause-fault
returns-in_err-add_page-clause-fault c =
    let before = c.loop-page.invariant in
    let small : c.loop-page.page < 923 = c.loop-page-test.true in
    fault_holds _ _ _ c.from_residual.ensures.1
    (λ image ckpt inos ino offset inode sizes has file same seen.
    c.in_err-add_page.ensures.fault image ckpt inos ino offset (sizes ∙ sym before.geom) has (first_page image ckpt ino inode c.args.addresses.now c.loop-page.page file same small)
    (before.seen image ckpt inos ino offset inode sizes file same seen))

pub loop-page-preserved : goal.loop-page-preserved
loop-page-preserved c =
    let before = c.loop-page.invariant in
    let small : c.loop-page.page < 923 = c.loop-page-test.true in
    record {
      geom = c.in_ok-add_page.ensures.geom ∙ before.geom;
      seen = λ image ckpt inos ino offset inode sizes file same seen.
          c.in_ok-add_page.ensures.seen image ckpt inos ino offset (sizes ∙ sym before.geom) (first_page image ckpt ino inode c.args.addresses.now c.loop-page.page file same small)
          (before.seen image ckpt inos ino offset inode sizes file same seen);
    }

pub returns-clause-seen : goal.returns-clause-seen
returns-clause-seen c image ckpt inos ino offset inode sizes file same seen =
    seen_at image ckpt inos ino _ _ _ _ _ _ refl (omega (arith, c.loop-page-test.false)) (c.loop-page.invariant.seen image ckpt inos ino offset inode sizes file same seen)
