use Rattle.std.proofs.Common.{◌+◌, drop, if◌then◌else◌, refl, sym, ap, ◌∙◌}
use Rattle.std.specs.FinMap as map
use Rattle.f2_model.specs.Tree.{names_under}
use Rattle.f2_reference_calls.specs.Given.{rows_at}
use Rattle.f2_reference_calls.proofs.Listed.{with_names, names_at, no_names, next_row, one_name_more}
use Rattle.f2_reference_calls.proofs.listings.sorted_names.Goals as goal
use Rattle.f2_reference_calls.proofs.listings.sorted_names.Goals.{then-is_in+in_ok-insert, else-is_in}

pub loop-row-init : goal.loop-row-init
loop-row-init c = (map.empty, ap names_at c.new-names.ensures.empty ∙ no_names, refl)

pub loop-row-preserved : goal.loop-row-preserved
loop-row-preserved c =
    let m = c.loop-row.invariant.0 in
    let rows = c.args.rows.now in
    let i = c.loop-row.row-index in
    let row = c.row-item.result in
    let left = names_under (rows_at (drop (i + 1) rows)) c.args.directory in
    let next = sym (next_row m rows i row c.args.directory c.loop-row-test.true c.row-item.is) ∙ c.loop-row.invariant.2 in
    elim c.if-is_in.branch [
      | then-is_in+in_ok-insert w ↦ (
        map.insert m row.now.name (tt {0}),
        ap (λ names. names_at names.keys) w.names-is ∙ ap names_at w.in_ok-insert.ensures.keys
            ∙ one_name_more c.loop-row.names.keys m w.as_slice.result c.loop-row.invariant.1
            ∙ ap (λ name. map.keys (map.insert m name (tt {0}))) w.as_slice.ensures,
        ap (λ b. with_names (if b then map.insert m row.now.name (tt {0}) else m) left) (sym w.if-is_in.true ∙ c.is_in.ensures) ∙ next,
      )
      | else-is_in w ↦ (
        m,
        ap (λ names. names_at names.keys) w.names-is ∙ c.loop-row.invariant.1,
        ap (λ b. with_names (if b then map.insert m row.now.name (tt {0}) else m) left) (sym w.if-is_in.false ∙ c.is_in.ensures) ∙ next,
      )
    ]
