use Rattle.std.proofs.Common.{rules, refl}
use Rattle.f2_format.specs.Geometry.{IsGeometry}
use Rattle.f2_core.proofs.Made.{made_state, made_held}
use Rattle.f2_core.proofs.machine.Core.made.Goals as goal

pub returns-clause-made : goal.returns-clause-made
returns-clause-made g c = λ tells.
    let told = g.D.Disk.contents c.mkfs.new.disk in
    let stored = c.in_default.field-0 in
    let geometry : IsGeometry c.args.geometry = search rules in
    let held = made_held c.args.geometry (g.D.Disk.contents c.args.disk) told stored tells c.in_default.ensures.made c.in_default.ensures.geometry in
    record {
      sizes = refl;
      closed = refl;
      state = made_state c.args.geometry told c.new.result stored geometry c.new.ensures c.in_default.ensures.version held;
    }
