use Rattle.std.proofs.Common.{◌≡◌, ◌^◌, ◌<◌, length, arith, ap, ◌∙◌}
use Rattle.std.proofs.lemmas.List.{length-replicate}
use Rattle.std.proofs.lemmas.List.Elements.{All-same, All-replicate}
use Rattle.f2_disk.specs.Contents.{IsBlock, zeros}
use Rattle.f2_disk.proofs.ContentsLaws.{zeros_block}
use Rattle.f2_disk.proofs.mem_disk.MemDisk.new.Goals as goal

pub invariant_of-result : goal.invariant_of-result
invariant_of-result c =
    let size : length c.loop.all.items ≡ c.loop.counter = ap length c.loop.invariant ∙ length-replicate c.loop.counter zeros in
    let small : length c.loop.all.items < 2 ^ 32 = omega arith in
    (small, All-same IsBlock _ _ c.loop.invariant (All-replicate IsBlock c.loop.counter zeros zeros_block))
