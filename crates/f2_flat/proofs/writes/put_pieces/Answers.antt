use Rattle.std.proofs.Common.{◌≡◌, ap, sym, ◌∙◌}
use Rattle.f2_model.specs.declared.rows.Row.{Row}
use Rattle.f2_laws.proofs.Walks.{some_same}
use Rattle.f2_flat.proofs.Backs.{back_ok, back_err}
use Rattle.f2_flat.proofs.writes.put_pieces.Goals as goal

pub returns-clause-ok : goal.returns-clause-ok
returns-clause-ok c =
    let tree = c.args.tree.now in
    let out = c.in-Ok.ensures.ok in
    let takes = c.requires.1 in
    λ row there.
    let same : c.requires.0 ≡ row = some_same (sym takes.there ∙ there) in
    back_ok tree c.replace.new.self c.replace-in-Ok.new.self c.args.ino c.stub.result c.in-Ok.row row c.put_into-done.new.row c.replace-in-Ok.result
    (record { own = c.stub.ensures; there = there; keyed = ap (λ (r : Row). r.ino) (sym same) ∙ takes.own; taken = out.0; left = out.1 })
    (record { ok = c.replace-in-Ok.ensures.ok; err = c.replace-in-Ok.ensures.err })
    c.args.pieces.now c.put_into-done.result c.put_into-done.ensures.ok

pub returns-clause-err : goal.returns-clause-err
returns-clause-err c =
    let tree = c.args.tree.now in
    let out = c.in-Ok.ensures.ok in
    let takes = c.requires.1 in
    back_err tree c.replace.new.self c.replace-in-Ok.new.self c.args.ino c.stub.result c.in-Ok.row c.requires.0 c.put_into-done.new.row c.replace-in-Ok.result
    (record { own = c.stub.ensures; there = takes.there; keyed = takes.own; taken = out.0; left = out.1 })
    (record { ok = c.replace-in-Ok.ensures.ok; err = c.replace-in-Ok.ensures.err })
    c.put_into-done.result c.put_into-done.ensures.err
