use Rattle.std.proofs.Common.{◌≡◌, ◌∙◌, refl, sym, ap, Ok, Err}
use Rattle.std.specs.List.{filter}
use Rattle.std.specs.FinMap as map
use Rattle.f2_model.specs.Step.{first_key, freezes, freezing_walked}
use Rattle.f2_model.specs.Tree.{walk}
use Rattle.f2_reference.proofs.begins.freezing_at.Goals as goal
use Rattle.f2_reference.proofs.begins.freezing_at.Goals.{in-Ok, in-Err}

pub returns : goal.returns
returns c =
    let live = c.live.ensures in
    let path = c.as_slice.ensures in
    elim c.match-walk.branch [
      | in-Ok w ↦
          let walks = w.in-Ok.ensures in
          let walked : walk c.args.plain.now.state.live c.args.path.now ≡ Ok w.in-Ok.row.now = cc in
          w.result-is ∙ w.freezing.ensures ∙ ap (λ flights. first_key (filter (λ one. freezes w.in-Ok.row.now.ino one.1) (map.entries flights))) w.flights.ensures ∙ ap (freezing_walked c.args.plain.now.state) (sym walked)
      | in-Err w ↦
          let walks = w.in-Err.ensures in
          let walked : walk c.args.plain.now.state.live c.args.path.now ≡ Err w.in-Err.field-0 = cc in
          w.result-is ∙ ap (freezing_walked c.args.plain.now.state) (sym walked)
    ]
