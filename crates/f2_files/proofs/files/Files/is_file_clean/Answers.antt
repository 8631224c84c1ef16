use Rattle.std.proofs.Common.{◌==◌, ◌&&◌, sym, ap, ◌∙◌}
use Rattle.std.specs.Option.{is_none}
use Rattle.f2_model.specs.Fallback.{pairs_of}
use Rattle.f2_model.specs.Rising.{rising}
use Rattle.f2_files.proofs.Counting.{none_least, turned}
use Rattle.f2_files.proofs.files.Files.is_file_clean.Goals as goal

pub returns-then-is_none : goal.returns-then-is_none
returns-then-is_none c =
    let ino = c.args.ino in
    let known = c.args.self.now in
    let pages = turned _ _ c.is_none.ensures ∙ ap (λ o. is_none o) c.least_dirty_page.ensures ∙ none_least ino (rising known.dirty_pages) in
    let nodes = turned _ _ c.is_none-then-is_none.ensures ∙ ap (λ o. is_none o) c.least_dirty_node.ensures ∙ none_least ino (rising known.dirty_nodes) in
    nodes ∙ ap (λ b. b && (pairs_of ino known.dirty_nodes == 0)) (sym c.if-is_none.true ∙ pages)

pub returns-else-is_none : goal.returns-else-is_none
returns-else-is_none c =
    let ino = c.args.ino in
    let known = c.args.self.now in
    let pages = turned _ _ c.is_none.ensures ∙ ap (λ o. is_none o) c.least_dirty_page.ensures ∙ none_least ino (rising known.dirty_pages) in
    c.if-is_none.false ∙ ap (λ b. b && (pairs_of ino known.dirty_nodes == 0)) (sym c.if-is_none.false ∙ pages)
