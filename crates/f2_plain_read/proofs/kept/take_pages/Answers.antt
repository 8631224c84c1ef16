use Rattle.std.proofs.Common.{◌+◌, ◌<◌, length, ◌∙◌, ap, sym, subst, refl, arith}
use Rattle.f2_bitset.specs.Numbers.{Numbers}
use Rattle.f2_plain_read.specs.Keeping.{AreTaken}
use Rattle.f2_plain_read.proofs.Taking.{Taken, new_zero, taken_zero, new_more, taken_more}
use Rattle.f2_plain_read.proofs.kept.take_pages.Goals as goal
use Rattle.f2_plain_read.proofs.kept.take_pages.Goals.{else-at-ne0-via-then-at-ne0+else-not-take_page, else-at-ne0-via-else-at-ne0}

pub loop-at-preserved : goal.loop-at-preserved
loop-at-preserved c =
    let geom = c.args.geometry.now in
    let addresses = c.args.addresses.now in
    let i = c.loop-at.at-index in
    let old = c.args.pages.now.members in
    let now = c.loop-at.pages.members in
    let before = c.loop-at.invariant in
    let short : i < length addresses = omega arith in
    elim c.else-at-ne0.branch [
      | else-at-ne0-via-then-at-ne0+else-not-take_page w ↦
          let pages_are = w.pages-is ∙ w.if-not-take_page.ensures.taken in
          let free = w.if-not-take_page.ensures.free.0 refl in
          record {
            zone = (ap (λ (n : Numbers). n.first) pages_are ∙ before.zone.0, ap (λ (n : Numbers). n.count) pages_are ∙ before.zone.1);
            new = new_more geom old now addresses i w.if-at-ne0.true free before.taken before.new;
            taken = subst (λ (t : Taken). AreTaken old t addresses (i + 1)) (sym (ap (λ (n : Numbers). n.members) pages_are)) (taken_more geom old now addresses i w.if-at-ne0.true free before.taken short);
          }
      | else-at-ne0-via-else-at-ne0 w ↦
          record {
            zone = (ap (λ (n : Numbers). n.first) w.pages-is ∙ before.zone.0, ap (λ (n : Numbers). n.count) w.pages-is ∙ before.zone.1);
            new = new_zero geom old now addresses i w.if-at-ne0.false before.new;
            taken = subst (λ (t : Taken). AreTaken old t addresses (i + 1)) (sym (ap (λ (n : Numbers). n.members) w.pages-is)) (taken_zero geom old now addresses i w.if-at-ne0.false short before.taken);
          }
    ]
