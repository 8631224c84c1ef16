use Rattle.std.proofs.Common.{◌∙◌, ap, sym, subst, rules}
use Rattle.std.specs.FinMap as map
use Rattle.f2_laid.specs.Laid.{IsStorable, root_row}
use Rattle.f2_model.specs.Content.{PageMap}
use Rattle.f2_model.specs.Tree.{ROOT, Rows}
use Rattle.f2_model.specs.declared.rows.Row.{Row}
use Rattle.f2_plain_plan.proofs.SmallTrees.{file_row, one_page, two_storable}
use Rattle.f2_program_tests.proofs.plain_plan.two.Goals as goal

pub returns : goal.returns
returns c geom geometry =
    let bytes = c.args.block.now in
    let put = λ (tree : Rows) (row : Row). map.insert tree row.ino row in
    let alone = c.in_ok-put-2.ensures.ok ∙ ap (put c.new-tree.result) c.root.ensures ∙ ap (λ (tree : Rows). map.insert tree ROOT root_row) c.new-tree.ensures in
    let pages = c.in_ok-put.ensures.ok ∙ ap (λ (pages : PageMap). map.insert pages 0 bytes) c.new-pages.ensures in
    let b = c.in_ok-file.ensures ∙ ap (file_row 4 98 4096) pages in
    let a = c.in_ok-file-2.ensures ∙ ap (file_row 5 97 0) c.new.ensures in
    let first = c.in_ok-put-3.ensures.ok ∙ ap (put c.put-2.new.self) b ∙ ap (λ (tree : Rows). put tree (file_row 4 98 4096 (one_page bytes))) alone in
    let both = c.in_ok-put-4.ensures.ok ∙ ap (put c.put-3.new.self) a ∙ ap (λ (tree : Rows). put tree (file_row 5 97 0 map.empty)) first in
    subst (λ (tree : Rows). IsStorable geom tree) (sym both) (two_storable geom geometry bytes (search rules))
