use Rattle.std.proofs.Common.{rules, ◌↔◌, ◌≤◌, IsTrue, arith, subst}
use Rattle.std.specs.Prelude.{All}
use Rattle.std.specs.FinMap as map
use Rattle.f2_format.specs.Geometry.{node_third}
use Rattle.f2_flat.specs.Kept.{IsFlatRow}
use Rattle.f2_flat.proofs.FlatTrees.{flat_rows}
use Rattle.f2_flat.proofs.rows.is_flat.Goals as goal

pub returns-then-rows-cn-clause-flat : goal.returns-then-rows-cn-clause-flat
returns-then-rows-cn-clause-flat c =
    let all : IsTrue c.all.result ↔ All (IsFlatRow c.len-rows.result) (map.values c.args.tree.now) = search rules in
    let fits : map.len c.args.tree.now ≤ node_third c.args.geometry.now = omega arith in
    let flat = flat_rows c.args.geometry.now c.cn.ensures.sound c.args.tree.now c.requires fits in
    let same : IsTrue c.all.result ↔ All (IsFlatRow (map.len c.args.tree.now)) (map.values c.args.tree.now) = subst (λ n. IsTrue c.all.result ↔ All (IsFlatRow n) (map.values c.args.tree.now)) c.len-rows.ensures.len all in
    (λ t. flat.0 (same.0 t), λ is. same.1 (flat.1 is))
