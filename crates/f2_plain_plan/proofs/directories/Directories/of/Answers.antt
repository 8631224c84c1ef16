use Rattle.std.proofs.Common.{◌≤◌, ◌∙◌, ◌++◌, List, [], ◌∷◌, take, length, sym, subst, ap}
use Rattle.std.specs.Borrow.{Bor}
use Rattle.std.proofs.lemmas.List.{length-map, take_all, take_more}
use Rattle.f2_model.specs.declared.rows.Row.{Row}
use Rattle.f2_plain_plan.specs.Directories.{AllNames, AreNamesOf, rows_at}
use Rattle.f2_plain_plan.proofs.Bindings.{no_names, root_more, row_more}
use Rattle.f2_plain_plan.proofs.Items.{item_low, item_is}
use Rattle.f2_plain_plan.proofs.directories.Directories.of.Goals as goal
use Rattle.f2_plain_plan.proofs.directories.Directories.of.Goals.{then-row-ne-ROOT+in_ok-bind, else-row-ne-ROOT}

pub loop-row-init : goal.loop-row-init
loop-row-init c = subst (AreNamesOf []) (sym c.new-directories.ensures) no_names

pub loop-row-preserved : goal.loop-row-preserved
loop-row-preserved c =
    let f = λ (row : Bor Row). row.now in
    let rows = rows_at c.deref-row-items.result.now in
    let low = item_low f c.deref-row-items.result.now c.loop-row.row-index c.loop-row-test.true in
    let is = item_is f c.deref-row-items.result.now c.loop-row.row-index c.row-item.result c.loop-row-test.true c.row-item.is in
    let more = take_more rows c.loop-row.row-index c.row-item.result.now low ∙ ap (λ (row : Row). take c.loop-row.row-index rows ++ row ∷ []) is in
    subst (λ (l : List Row). AreNamesOf l c.if-row-ne-ROOT.directories) (sym more)
    (elim c.if-row-ne-ROOT.branch [
      | then-row-ne-ROOT+in_ok-bind w ↦ subst (λ (names : AllNames). AreNamesOf (take c.loop-row.row-index rows ++ c.row-item.result.now ∷ []) names) (sym (w.directories-is ∙ w.in_ok-bind.ensures))
          (row_more c.loop-row.directories c.row-item.result.now (take c.loop-row.row-index rows) c.loop-row.invariant w.if-row-ne-ROOT.true)
      | else-row-ne-ROOT w ↦ subst (λ (names : AllNames). AreNamesOf (take c.loop-row.row-index rows ++ c.row-item.result.now ∷ []) names) (sym w.directories-is)
          (root_more c.loop-row.directories c.row-item.result.now (take c.loop-row.row-index rows) c.loop-row.invariant w.if-row-ne-ROOT.false)
    ])

pub returns : goal.returns
returns c =
    let past : length (rows_at c.deref-row-items.result.now) ≤ c.loop-row.row-index = subst (λ n. n ≤ c.loop-row.row-index) (sym (length-map c.deref-row-items.result.now (λ (row : Bor Row). row.now))) c.loop-row-test.false in
    subst (λ (l : List Row). AreNamesOf l c.loop-row.directories)
    (take_all c.loop-row.row-index (rows_at c.deref-row-items.result.now) past ∙ ap rows_at c.deref-row-items.ensures.value ∙ c.in_ok-rows.ensures) c.loop-row.invariant
