use Rattle.std.proofs.Common.{Vec, Global, ◌∙◌, ap, sym, map}
use Rattle.f2_dentry_block.specs.Dents.{dentry_of}
use Rattle.f2_dentry_block.specs.declared.dents.Dent.{Dent}
use Rattle.f2_plain_read.proofs.Pages.{names_more, names_same}
use Rattle.f2_plain_read.proofs.dentries.dents_of.Goals as goal
use Rattle.f2_plain_read.proofs.dentries.dents_of.Goals.{in-Some+in_ok-add_dents, in_default}

pub loop-page-preserved : goal.loop-page-preserved
loop-page-preserved c blocks are =
    let pages = c.args.pages.now in
    let page = c.loop-page.page in
    elim c.match-get.branch [
      | in-Some+in_ok-add_dents w ↦
          ap (λ (v : Vec Dent Global). map dentry_of v.items) w.dents-is
          ∙ names_more pages blocks page are c.loop-page-test.true w.in-Some.block.now (map dentry_of c.loop-page.dents.items) _ (sym w.in-Some.ensures) (c.loop-page.invariant blocks are) w.in_ok-add_dents.ensures.dents
      | in_default w ↦
          ap (λ (v : Vec Dent Global). map dentry_of v.items) w.dents-is ∙ c.loop-page.invariant blocks are ∙ names_same pages blocks page are c.loop-page-test.true (sym w.in_default.ensures)
    ]
