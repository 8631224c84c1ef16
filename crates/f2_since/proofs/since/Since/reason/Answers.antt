use Rattle.std.proofs.Common.{◌≡◌, ◌∙◌, sym, ap}
use Rattle.std.specs.FinMap as map
use Rattle.std.proofs.lemmas.Result.{IfOk-weaker}
use Rattle.f2_since.proofs.Holding.{shape_of}
use Rattle.f2_since.proofs.since.Since.reason.Goals as goal

pub returns-in-Regular : goal.returns-in-Regular
returns-in-Regular c =
    IfOk-weaker c.reason_of_file.result _ _ (λ reason told state row known is runs live.
    let there = sym c.in-Some.ensures in
    let alike = shape_of c.args.files.now state c.args.ino c.in-Some.shape.now known there row live in
    let own : c.in-Some.shape.now.ino ≡ c.args.ino = alike.ino ∙ runs.live.keyed c.args.ino row live in
    told state row known is runs (ap (map.get c.args.files.now.shapes) own ∙ there) (ap (map.get state.live) own ∙ live) (sym alike.kind ∙ c.in-Regular.is)) c.reason_of_file.ensures
