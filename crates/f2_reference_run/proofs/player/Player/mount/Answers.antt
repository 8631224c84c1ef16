use Rattle.std.proofs.Common.{◌∙◌}
use Rattle.f2_reference_run.proofs.Playing.{if_ok, says_found, says_already}
use Rattle.f2_reference_run.proofs.player.Player.mount.Goals as goal

pub returns-in_ok-finish-in-Some : goal.returns-in_ok-finish-in-Some
returns-in_ok-finish-in-Some c =
    let comes = rw c.in-Some.is at c.in_ok-rows.ensures in
    if_ok _ _ c.found_text.result
    (λ text said. says_found c.in-Some.rows _ c.begin_mount.new.self c.finish.new.self _ text.items comes c.in_ok-finish-in-Some.ensures c.unsettle.ensures said)
    c.found_text.ensures

pub returns-in-None : goal.returns-in-None
returns-in-None c =
    let comes = rw c.in-None.is at c.in_ok-rows.ensures in
    if_ok _ _ c.from_slice.result (λ text said. says_already c.args.self.now c.begin_mount.new.self text.items comes (said ∙ c.mounted_text.ensures)) c.from_slice.ensures.items
