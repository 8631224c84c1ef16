use Rattle.std.proofs.Common.{◌≡◌, ◌∙◌, ℕ, get_or, inl, inr, sym, ap, arith, replicate}
use Rattle.std.specs.Option.{option_copied}
use Rattle.std.proofs.lemmas.Bool.{cases_lt}
use Rattle.std.proofs.lemmas.List.{get_or-replicate, get_or_past, length-replicate}
use Rattle.f2_format.specs.Offsets.{inode_pages}
use Rattle.f2_plain_plan.specs.Contents.{content_at}
use Rattle.f2_plain_plan.proofs.PageSteps.{no_page, not_there, put_there, page_counts}
use Rattle.f2_plain_plan.proofs.pages.add_pages.Goals as goal
use Rattle.f2_plain_plan.proofs.pages.add_pages.Goals.{in-Some+in_ok-addresses, in_default}

zero_address : (n page : ℕ) → get_or {A = ℕ} (replicate n 0) page 0 ≡ 0
zero_address n page = elim (cases_lt page n) [ inl h ↦ get_or-replicate n page 0 0 h | inr h ↦ get_or_past (replicate n 0) page 0 (let e = length-replicate {A = ℕ} n 0 in omega (arith, e)) ]

pub loop-page-init : goal.loop-page-init
loop-page-init c = no_page (content_at c.args.contents.now) c.args.taken.now c.args.blocks.now.items _ (length-replicate {A = ℕ} inode_pages 0) (zero_address inode_pages)

pub add_block-requires : goal.add_block-requires
add_block-requires c =
    let there = sym c.get.ensures ∙ ap option_copied c.in-Some.is in
    let more = page_counts (content_at c.args.contents.now) c.loop-page.page inode_pages c.in-Some.content.now there c.loop-page-test.true in
    let len = c.loop-page.invariant.len in
    let count = c.loop-page.invariant.count in
    let room = c.requires.room in
    omega (arith, more, len, count, room)

pub loop-page-preserved : goal.loop-page-preserved
loop-page-preserved c =
    let contents = content_at c.args.contents.now in
    elim c.match-get.branch [
      | in-Some+in_ok-addresses w ↦
          rw (w.taken-is, w.blocks-is, w.addresses-is)
          (put_there contents c.args.taken.now c.args.blocks.now.items c.loop-page.page c.loop-page.taken c.loop-page.blocks.items c.loop-page.addresses c.loop-page.invariant
          w.in-Some.content.now (sym c.get.ensures ∙ ap option_copied w.in-Some.is) c.loop-page-test.true c.requires.first _ _ _ w.in_ok-addresses.ensures)
      | in_default w ↦
          rw (w.taken-is, w.blocks-is, w.addresses-is)
          (not_there contents c.args.taken.now c.args.blocks.now.items c.loop-page.page c.loop-page.taken c.loop-page.blocks.items c.loop-page.addresses c.loop-page.invariant
          (sym c.get.ensures ∙ ap option_copied w.in_default.is))
    ]
