use Rattle.f2_plain_plan.specs.Contents.{content_at}
use Rattle.f2_plain_plan.specs.Pages.{AddsPages}
use Rattle.f2_plain_plan.proofs.pages.add_pages.Given as goal

abbrev pub invariant-loop-page : goal.invariant-loop-page
invariant-loop-page l = AddsPages (content_at l.contents) l.page l.initial.taken l.taken l.initial.blocks.items l.blocks.items l.addresses
