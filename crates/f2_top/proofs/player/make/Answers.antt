use Rattle.std.proofs.Common.{◌≡◌, false, is_err, sym, ap, ◌∙◌}
use Rattle.std.specs.Prelude.{Option, IsSome, is_some}
use Rattle.f2_disk.specs.Contents.{Contents}
use Rattle.f2_top.proofs.CoreLemmas.{StaysCalm-anew}
use Rattle.f2_top.proofs.PlayLemmas.{OnOk-of}
use Rattle.f2_top.proofs.player.make.Goals as goal

pub returns-in-Ok : goal.returns-in-Ok
returns-in-Ok g c =
    let started : is_err c.start.result ≡ false = sym c.is_err.ensures.value ∙ c.if-is_err.false in
    let readied : is_err c.ready.result ≡ false = sym c.is_err-else-is_err.ensures.value ∙ c.if-is_err-2.false in
    let blank : IsSome (g.B.Disk.contents c.ready.new.self) = ap (λ (t : Option Contents). is_some t) (c.ready.ensures.kept ∙ OnOk-of _ c.start.result started c.start.ensures.blank) in
    record {
      made = c.in-Ok.ensures.made blank;
      tells = c.in-Ok.ensures.told blank;
      calm = StaysCalm-anew _ _ _ _ _ _ _ (OnOk-of _ c.start.result started c.start.ensures.calm) c.ready.ensures.same (OnOk-of _ c.ready.result readied c.ready.ensures.room)
          c.making_writes.ensures c.in-Ok.ensures.within;
    }
