use Rattle.std.proofs.Common.{◌∙◌, ◌≤◌, ◌++◌, List, [], ◌∷◌, take, length, sym, subst, ap, arith}
use Rattle.std.specs.Borrow.{Bor}
use Rattle.std.specs.Prelude.{Contains}
use Rattle.std.specs.List.{sum_by}
use Rattle.std.specs.FinMap as map
use Rattle.std.proofs.lemmas.List.{length-map, length-take-le, take_all, take_more}
use Rattle.std.proofs.lemmas.List.Elements.{Contains-get_or}
use Rattle.std.proofs.lemmas.List.Sums.{sum_by_more_le}
use Rattle.f2_model.specs.Count.{data_of_row}
use Rattle.f2_model.specs.declared.rows.Row.{Row}
use Rattle.f2_plain_plan.specs.Contents.{content_at}
use Rattle.f2_plain_plan.specs.Directories.{rows_at}
use Rattle.f2_plain_plan.proofs.Dentries.{are_fitting}
use Rattle.f2_plain_plan.proofs.DraftEnds.{all_placed, row_fresh, rows_few}
use Rattle.f2_plain_plan.proofs.DraftSteps.{SoFar, no_row, row_placed}
use Rattle.f2_plain_plan.proofs.Items.{item_low, item_is}
use Rattle.f2_plain_plan.proofs.Values.{row_at}
use Rattle.f2_plain_plan.proofs.drafts.drafted.Goals as goal

pub loop-row-init : goal.loop-row-init
loop-row-init c = no_row c.args.tree.now c.in_ok-draft.draft c.in_ok-draft.ensures.places c.in_ok-draft.ensures.blocks

pub contents_of-requires : goal.contents_of-requires
contents_of-requires c = are_fitting c.args.geometry.now c.args.tree.now c.requires.storable c.in_ok-directories.directories c.in_ok-directories.ensures c.row-item.result.now.ino

pub add_row-requires-clause-nodes : goal.add_row-requires-clause-nodes
add_row-requires-clause-nodes c =
    let f = λ (row : Bor Row). row.now in
    let rows = rows_at c.deref-row-items.result.now in
    let low = item_low f c.deref-row-items.result.now c.loop-row.row-index c.loop-row-test.true in
    let all = ap length (ap rows_at c.deref-row-items.ensures.value ∙ c.in_ok-rows.ensures) in
    let front = length-take-le c.loop-row.row-index rows (omega (arith, low)) in
    let len = c.loop-row.invariant.nodes_len in
    let count = c.loop-row.invariant.nodes_grow.count ∙ c.in_ok-draft.ensures.nodes.zone.count in
    let few = c.in_ok-draft.ensures.nodes.few in
    let fewer = rows_few c.args.tree.now in
    let most = c.requires.storable.nodes in
    omega (arith, low, all, front, len, count, few, fewer, most)

pub add_row-requires-clause-pages : goal.add_row-requires-clause-pages
add_row-requires-clause-pages c =
    let f = λ (row : Bor Row). row.now in
    let row = c.row-item.result.now in
    let rows = rows_at c.deref-row-items.result.now in
    let low = item_low f c.deref-row-items.result.now c.loop-row.row-index c.loop-row-test.true in
    let is = item_is f c.deref-row-items.result.now c.loop-row.row-index c.row-item.result c.loop-row-test.true c.row-item.is in
    let all = ap rows_at c.deref-row-items.ensures.value ∙ c.in_ok-rows.ensures in
    let there = row_at c.args.tree.now row c.requires.storable.good.keyed (subst (λ (l : List Row). Contains l row) all (subst (Contains rows) is (Contains-get_or rows c.loop-row.row-index row low))) in
    let content = c.in_ok-contents.ensures c.args.geometry.now c.args.tree.now c.requires.storable c.in_ok-directories.ensures there in
    let g = data_of_row (map.values c.args.tree.now) in
    let more = sum_by_more_le g rows c.loop-row.row-index row low in
    let here = ap g is in
    let whole = ap (sum_by g) all in
    let count = content.count in
    let blocks = c.loop-row.invariant.blocks_len in
    let len = c.loop-row.invariant.pages_len in
    let zone = c.loop-row.invariant.pages_grow.count ∙ c.in_ok-draft.ensures.pages.zone.count in
    let few = c.in_ok-draft.ensures.pages.few in
    let most = c.requires.storable.blocks in
    omega (arith, more, here, whole, count, blocks, len, zone, few, most)

pub loop-row-preserved : goal.loop-row-preserved
loop-row-preserved c =
    let f = λ (row : Bor Row). row.now in
    let row = c.row-item.result.now in
    let rows = rows_at c.deref-row-items.result.now in
    let low = item_low f c.deref-row-items.result.now c.loop-row.row-index c.loop-row-test.true in
    let is = item_is f c.deref-row-items.result.now c.loop-row.row-index c.row-item.result c.loop-row-test.true c.row-item.is in
    let all = ap rows_at c.deref-row-items.ensures.value ∙ c.in_ok-rows.ensures in
    let there = row_at c.args.tree.now row c.requires.storable.good.keyed (subst (λ (l : List Row). Contains l row) all (subst (Contains rows) is (Contains-get_or rows c.loop-row.row-index row low))) in
    let content = c.in_ok-contents.ensures c.args.geometry.now c.args.tree.now c.requires.storable c.in_ok-directories.ensures there in
    let fresh = row_fresh c.args.geometry.now c.args.tree.now c.in_ok-draft.draft c.loop-row.draft rows c.loop-row.row-index row c.requires.storable all low is c.loop-row.invariant in
    let more = take_more rows c.loop-row.row-index row low ∙ ap (λ (row : Row). take c.loop-row.row-index rows ++ row ∷ []) is in
    subst (λ (l : List Row). SoFar c.args.tree.now c.in_ok-draft.draft l c.add_row.new.self) (sym more)
    (row_placed c.args.tree.now c.in_ok-draft.draft (take c.loop-row.row-index rows) c.loop-row.draft c.loop-row.invariant row (content_at c.in_ok-contents.contents) content fresh c.add_row.new.self c.in_ok-add_row.ensures)

pub returns : goal.returns
returns c =
    let past : length (rows_at c.deref-row-items.result.now) ≤ c.loop-row.row-index = subst (λ n. n ≤ c.loop-row.row-index) (sym (length-map c.deref-row-items.result.now (λ (row : Bor Row). row.now))) c.loop-row-test.false in
    let all = take_all c.loop-row.row-index (rows_at c.deref-row-items.result.now) past ∙ ap rows_at c.deref-row-items.ensures.value ∙ c.in_ok-rows.ensures in
    all_placed c.args.geometry.now c.args.tree.now c.args.old.now c.in_ok-draft.draft c.loop-row.draft c.requires.storable c.in_ok-draft.ensures.nodes c.in_ok-draft.ensures.pages
    (subst (λ (l : List Row). SoFar c.args.tree.now c.in_ok-draft.draft l c.loop-row.draft) all c.loop-row.invariant)
