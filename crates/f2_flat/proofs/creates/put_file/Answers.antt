use Rattle.std.proofs.Common.{◌≡◌, ap, ◌∙◌}
use Rattle.std.specs.FinMap as map
use Rattle.f2_model.specs.Tree.{ROOT}
use Rattle.f2_model.specs.Call.{new_row}
use Rattle.f2_model.specs.declared.rows.Row.{Row}
use Rattle.f2_model.specs.declared.rows.Kind.TheVariants.{Regular}
use Rattle.f2_flat.specs.Steps.{with_file}
use Rattle.f2_flat.proofs.Trees.{put_taken}
use Rattle.f2_flat.proofs.creates.put_file.Goals as goal

pub returns-in-Err-clause-kept : goal.returns-in-Err-clause-kept
returns-in-Err-clause-kept c =
    let tree = c.args.tree.now in
    let put : c.put.new.self ≡ with_file tree c.args.ino c.args.name = c.in_ok-put.ensures.ok ∙ ap (λ (row : Row). map.insert tree row.ino row) c.new_file.ensures in
    c.remove.ensures.tree ∙ ap (λ t. map.remove t c.args.ino) put ∙ put_taken tree c.args.ino (new_row Regular c.args.ino ROOT c.args.name) c.requires.free
