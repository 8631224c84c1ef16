use Rattle.std.proofs.Common.{◌≡◌, ◌<◌, true, false, List, get_or, refl, sym, subst, ◌∙◌, arith}
use Rattle.std.proofs.lemmas.List.Elements.{All-push}
use Rattle.f2_recover.specs.Seeing.{no_page}
use Rattle.f2_recover.specs.declared.nodes.PageAt.{PageAt}
use Rattle.f2_found.specs.Pages.{IsNext}
use Rattle.f2_found.specs.Places.{AreBelow}
use Rattle.f2_found.proofs.Orders.{next_in_order, one_more}
use Rattle.f2_found.proofs.copying.copied_pages.Goals as goal
use Rattle.f2_found.proofs.copying.copied_pages.Goals.{then-is_next+then-listed-blocks+in_ok-push, else-is_next, else-is_next-via-then-is_next+else-listed-blocks, else-is_next-via-else-is_next}

not_both : true ≡ false → ⊥
not_both e = cc

pub loop-listed-preserved : goal.loop-listed-preserved
loop-listed-preserved c =
    let list = c.args.list.now in
    let blocks = c.args.blocks in
    let k = c.loop-listed.listed-index in
    let listed : PageAt = get_or list k no_page in
    let small = c.loop-listed-test.true in
    let old = c.loop-listed.pages in
    let front = c.loop-listed.invariant.pages in
    elim c.if-is_next.branch [
      | then-is_next+then-listed-blocks+in_ok-push w ↦
          let put = w.pages-is ∙ w.in_ok-push.ensures.ok in
          record {
            pages = λ order below. one_more list k listed no_page old c.if-is_next.pages small refl (front order below) put;
            within = subst (AreBelow blocks) (sym put) (All-push (λ (x : PageAt). x.at < blocks) old listed c.loop-listed.invariant.within w.if-listed-blocks.true);
          }
      | else-is_next w ↦ record {
        pages = λ order below. elim w.else-is_next.branch [
          | else-is_next-via-then-is_next+else-listed-blocks v ↦ (let here = below k no_page small in let there = v.if-listed-blocks.false in absurd (omega (arith, here, there)))
          | else-is_next-via-else-is_next v ↦
              let next = next_in_order list order k listed no_page small refl in
              absurd (not_both (sym (c.is_next.ensures.passed (subst (λ (xs : List PageAt). IsNext xs listed.page) (sym (front order below)) next)) ∙ v.if-is_next.false))
        ];
        within = subst (AreBelow blocks) (sym w.pages-is) c.loop-listed.invariant.within;
      }
    ]
