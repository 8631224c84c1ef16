use Rattle.std.proofs.Common.{◌∙◌, ap}
use Rattle.std.specs.FinMap as map
use Rattle.f2_model.specs.declared.rows.Kind.TheVariants.{Regular}
use Rattle.f2_model.proofs.MapViews.{seen-insert}
use Rattle.f2_overlay.proofs.brought.Brought.put_first.Goals as goal

pub returns : goal.returns
returns c =
    seen-insert _ _ c.self.view_is _ c.args.directory c.put.new.self c.in_ok-insert.ensures.updates.0
    ∙ ap (map.insert c.args.self.now c.args.directory) (c.in_ok-put.ensures.ok ∙ ap (λ names. map.insert names c.args.name (c.args.ino, Regular)) c.new-names.ensures)
