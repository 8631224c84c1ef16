use Rattle.std.proofs.Common.{◌≡◌, Some, None, Err, rules, ◌∙◌}
use Rattle.f2_model.specs.Tree.{ROOT, child, walk}
use Rattle.f2_model.specs.declared.rows.Kind.TheVariants.{Directory}
use Rattle.f2_model.specs.declared.replies.Reply.TheVariants.{NoEnt}
use Rattle.f2_flat.proofs.Leading.{walked_on, child_row}
use Rattle.f2_flat.proofs.walks.walk.Goals as goal

pub loop-name-preserved : goal.loop-name-preserved
loop-name-preserved c =
    let tree = c.args.tree.now in
    let row = c.loop-name.row.now in
    let kind : row.kind ≡ Directory = search rules in
    let found : child tree ROOT c.name-item.result ≡ Some c.in_ok-row-2.row.now = search rules in
    record {
      leads = c.loop-name.invariant.leads ∙ walked_on tree c.requires.files c.args.path.now c.loop-name.name-index row c.name-item.result _ c.loop-name-test.true c.name-item.is c.loop-name.invariant.there kind found;
      there = child_row tree c.requires.files c.name-item.result c.in_ok-row-2.row.now found;
    }

pub returns-in_err-row-2 : goal.returns-in_err-row-2
returns-in_err-row-2 c =
    let tree = c.args.tree.now in
    let row = c.loop-name.row.now in
    let kind : row.kind ≡ Directory = search rules in
    let found : child tree ROOT c.name-item.result ≡ None = search rules in
    let leads = c.loop-name.invariant.leads ∙ walked_on tree c.requires.files c.args.path.now c.loop-name.name-index row c.name-item.result _ c.loop-name-test.true c.name-item.is c.loop-name.invariant.there kind found in
    let end : walk tree c.args.path.now ≡ Err NoEnt = leads in
    search rules
