use Rattle.std.proofs.Common.{◌∙◌, inl, ap, refl, ◌+◌, arith}
use Rattle.f2_format.specs.Geometry.{is_in_data}
use Rattle.f2_image.specs.Faults as faults
use Rattle.f2_recover.proofs.Claims.{page_claims, page_shared}
use Rattle.f2_recover.proofs.Parts.{part_page}
use Rattle.f2_recover.proofs.Seen.{seen_past, base_page, only_page, no_page, at_least}
use Rattle.f2_recover.proofs.pages.add_page.Goals as goal

pub returns-then-at-eq0-clause-seen : goal.returns-then-at-eq0-clause-seen
returns-then-at-eq0-clause-seen c image ckpt inos ino offset sizes is seen =
    seen_past image ckpt inos ino offset c.args.page offset (c.args.page + 1) c.args.zones.now c.args.file.now seen (omega arith) (omega arith)
    (λ q nid least most _. omega (arith, least, most))
    (λ q at least most base. no_page image ckpt ino q c.args.at (at_least image ckpt ino c.args.page q c.args.at is least most) c.if-at-eq0.true at base)

pub returns-in_ok-push-in-Ok-clause-seen : goal.returns-in_ok-push-in-Ok-clause-seen
returns-in_ok-push-in-Ok-clause-seen c image ckpt inos ino offset sizes is seen =
    let base = base_page image ckpt ino c.args.page c.args.at is c.requires c.if-at-eq0.false in
    let only = only_page image ckpt ino c.args.page c.args.at is in
    record {
      are = page_claims image ckpt inos ino offset c.args.page c.args.zones.now seen.are c.args.at _ base (ap (λ e. is_in_data e c.args.at) sizes ∙ c.in-Ok.ensures.inside) c.in-Ok.ensures.free only c.in-Ok.ensures.taken;
      part = part_page image ckpt ino offset c.args.page c.args.file.now seen.part c.args.at _ base only refl refl (ap (λ x. x.pages) c.in_ok-set-in-Ok.ensures.ok) c.in_ok-push-in-Ok.ensures.items;
    }

pub returns-in-Err-Outside-clause-fault : goal.returns-in-Err-Outside-clause-fault
returns-in-Err-Outside-clause-fault c image ckpt inos ino offset sizes has is seen =
    faults.page has ino c.args.page (inl (base_page image ckpt ino c.args.page c.args.at is c.requires c.if-at-eq0.false)) (ap (λ e. is_in_data e c.args.at) sizes ∙ (rw c.in-Err-Outside.field-0-is at c.in-Err-Outside.ensures.unfit))

pub returns-in-Err-Used-clause-fault : goal.returns-in-Err-Used-clause-fault
returns-in-Err-Used-clause-fault c image ckpt inos ino offset sizes has is seen =
    let unfit = rw c.in-Err-Used.field-0-is at c.in-Err-Used.ensures.unfit in
    (has, page_shared image ckpt inos ino offset c.args.page c.args.zones.now seen.are c.args.at (base_page image ckpt ino c.args.page c.args.at is c.requires c.if-at-eq0.false) unfit.1)
