use Rattle.std.proofs.Common.{◌≡◌, ◌∙◌, false, ap, refl, Some, None, Option, is_some, true≢false}
use Rattle.std.specs.Option.{unwrap_or}
use Rattle.std.specs.FinMap as map
use Rattle.f2_dir.specs.Entries.{Entries}
use Rattle.f2_model.proofs.MapViews.{seen-insert}
use Rattle.f2_since.proofs.parted.Parted.put_first.Goals as goal

none_there : (o : Option Entries) → is_some o ≡ false → None ≡ o
none_there None h = refl
none_there (Some x) h = absurd (true≢false h)

pub returns-clause-ok : goal.returns-clause-ok
returns-clause-ok c =
    let parted = c.args.self.now in
    let at = c.args.directory in
    seen-insert _ _ c.self.view_is _ at c.put.new.self c.in_ok-insert.ensures.updates.0
    ∙ ap (map.insert parted at) (c.in_ok-put.ensures.ok ∙ ap (λ (names : Entries). map.insert names c.args.name (c.args.ino, c.args.kind)) c.new-names.ensures)
    ∙ ap (λ o. map.insert parted at (map.insert (unwrap_or o map.empty) c.args.name (c.args.ino, c.args.kind))) (none_there (map.get parted at) c.requires)
