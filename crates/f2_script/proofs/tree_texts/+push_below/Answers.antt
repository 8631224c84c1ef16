use Rattle.std.proofs.Common.{◌≡◌, ◌<◌, ◌++◌, ◌∙◌, ap, rules, arith, map as map_list}
use Rattle.f2_model.specs.declared.rows.Kind.TheVariants.{Directory}
use Rattle.f2_script.proofs.TreeLines.{lines_in, lines-found, text-after}
use Rattle.f2_script.proofs.tree_texts.+push_below.Goals as goal

pub loop-child-init : goal.loop-child-init
loop-child-init t c =
    let some : 0 < c.args.levels = omega arith in
    let kind : c.args.row.now.kind ≡ Directory = search rules in
    let below = lines_in c.args.levels c.args.tree.now c.args.path.now in
    let items = c.into_iter-child-iterator.ensures.into_iter_gives ∙ c.values-child-items.ensures.rest in
    let found = lines-found c.args.levels _ _ _ c.in_ok-children.children.entries some kind c.in_ok-children.ensures in
    ap (λ rows. c.push_row.new.text.items ++ below (map_list (λ row. row.now) rows)) items
    ∙ text-after c.args.text.now.items _ _ _ _ c.in_ok-push_row.ensures found
