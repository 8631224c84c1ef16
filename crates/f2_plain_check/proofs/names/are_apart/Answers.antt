use Rattle.std.proofs.Common.{◌≡◌, ◌+◌, true, false, drop, List, [], ◌∷◌, refl, subst, sym, ap, ◌∙◌}
use Rattle.std.proofs.lemmas.List.{at_drop_all}
use Rattle.std.specs.BTreeSet.{contains}
use Rattle.std.specs.FinMap as map
use Rattle.f2_model.specs.declared.rows.Row.{Row}
use Rattle.f2_reference_calls.specs.Given.{rows_at}
use Rattle.f2_plain_check.proofs.Apart.{AreNew, apart_if_new}
use Rattle.f2_plain_check.proofs.Left.{next_row}
use Rattle.f2_plain_check.proofs.Seen.{AreLeft, named_cmp, none_seen, root_passed, name_passed, name_taken, turned}
use Rattle.f2_plain_check.proofs.names.are_apart.Goals as goal
use Rattle.f2_plain_check.proofs.names.are_apart.Goals.{else-row-ne-ROOT-via-then-row-ne-ROOT+in_ok-insert+else-not-branch, else-row-ne-ROOT-via-else-row-ne-ROOT}

pub loop-row-init : goal.loop-row-init
loop-row-init c = none_seen c.new-seen.result (rows_at c.deref-row-items.result.now) c.new-seen.ensures.empty

pub loop-row-preserved : goal.loop-row-preserved
loop-row-preserved c =
    let rows = c.deref-row-items.result.now in
    let seen = c.loop-row.seen in
    let i = c.loop-row.row-index in
    let row = c.row-item.result in
    let left = rows_at (drop (i + 1) rows) in
    let now : AreLeft seen (row.now ∷ left) (rows_at rows) =
    subst (λ (l : List Row). AreLeft seen l (rows_at rows)) (next_row rows i row c.loop-row-test.true c.row-item.is) c.loop-row.invariant in
    elim c.else-row-ne-ROOT.branch [
      | else-row-ne-ROOT-via-then-row-ne-ROOT+in_ok-insert+else-not-branch w ↦
          let none : contains named_cmp seen (row.now.parent, w.as_slice.result) ≡ false = turned _ (sym w.in_ok-insert.ensures.added ∙ w.if-not-branch.false) in
          subst (λ seen. AreLeft seen left (rows_at rows)) (sym w.seen-is)
          (name_passed seen row.now left (rows_at rows) now w.as_slice.result w.as_slice.ensures w.if-row-ne-ROOT.true w.insert.new.self none w.in_ok-insert.ensures.updates.0)
      | else-row-ne-ROOT-via-else-row-ne-ROOT w ↦ subst (λ seen. AreLeft seen left (rows_at rows)) (sym w.seen-is) (root_passed seen row.now left (rows_at rows) now w.if-row-ne-ROOT.false)
    ]

pub returns : goal.returns
returns c =
    let rows = c.deref-row-items.result.now in
    let all : rows_at rows ≡ map.values c.args.tree.now = ap rows_at c.deref-row-items.ensures.value ∙ c.in_ok-rows.ensures in
    let none : rows_at (drop c.loop-row.row-index rows) ≡ [] = at_drop_all rows_at rows c.loop-row.row-index c.loop-row-test.false in
    let new = c.loop-row.invariant.decide.0 (subst (AreNew c.loop-row.invariant.before) (sym none) tt) in
    (λ t. (apart_if_new c.args.tree.now c.requires).0 (subst (AreNew []) all new), λ apart. refl)

pub returns-then-not-branch : goal.returns-then-not-branch
returns-then-not-branch c =
    let rows = c.deref-row-items.result.now in
    let seen = c.loop-row.seen in
    let row = c.row-item.result in
    let i = c.loop-row.row-index in
    let left = rows_at (drop (i + 1) rows) in
    let all : rows_at rows ≡ map.values c.args.tree.now = ap rows_at c.deref-row-items.ensures.value ∙ c.in_ok-rows.ensures in
    let now : AreLeft seen (row.now ∷ left) (rows_at rows) =
    subst (λ (l : List Row). AreLeft seen l (rows_at rows)) (next_row rows i row c.loop-row-test.true c.row-item.is) c.loop-row.invariant in
    let there : contains named_cmp seen (row.now.parent, c.as_slice.result) ≡ true = turned _ (sym c.in_ok-insert.ensures.added ∙ c.if-not-branch.true) in (
      λ t. absurd (let no : false ≡ true = t in cc),
      λ apart. absurd (name_taken seen row.now left (rows_at rows) now c.as_slice.result c.as_slice.ensures c.if-row-ne-ROOT.true there (subst (AreNew []) (sym all) ((apart_if_new c.args.tree.now c.requires).1 apart))),
    )
