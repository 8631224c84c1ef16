use Rattle.std.proofs.Common.{◌++◌, refl, ap, ◌∙◌}
use Rattle.f2_state.proofs.PartBytes.{part_bytes}
use Rattle.f2_state.proofs.volume.Volume.read_part.Goals as goal

pub returns-clause-content : goal.returns-clause-content
returns-clause-content g c = λ from row stands quiet there file.
    c.in_ok-append.ensures
    ∙ ap (λ bytes. c.args.bytes.now ++ bytes)
    (part_bytes row.pages c.args.page c.args.from c.args.to _ c.max.result c.min.result c.read_page.new.into (rw c.from-first.ensures refl) c.max.ensures c.min.ensures c.requires.before c.requires.behind
    (c.in_ok-read_page.ensures.content from row stands quiet there file))
