use Rattle.std.proofs.Common.{◌≡◌, ℕ, ◌+◌, ◌≤◌, ◌∙◌, sym, ap, arith, subst, refl}
use Rattle.std.specs.Ordering.{nat_cmp}
use Rattle.std.specs.FinMap as map
use Rattle.f2_plain_read.specs.Building.{up_to}
use Rattle.f2_plain_read.proofs.Telling.{fault_came}
use Rattle.f2_plain_read.proofs.Building.{none_next, up_to-past}
use Rattle.f2_plain_read.proofs.Naming.{named, named_next, not_there, all_named, left_from}
use Rattle.f2_plain_read.proofs.built.name_rows.Goals as goal
use Rattle.f2_plain_read.proofs.built.name_rows.Goals.{in-Some+in_ok-name_row+in_ok-put, in_default}

pub loop-ino-init : goal.loop-ino-init
loop-ino-init c = record {
  named = λ geom tree stood storable limit_is is q. ap (λ rows. map.get rows q) c.new-tree.ensures ∙ map.get-empty nat_cmp q ∙ sym (up_to-past tree tree 0 0 q (omega arith));
  rows = λ q h. refl;
  names = λ q h. refl;
}

pub loop-ino-preserved : goal.loop-ino-preserved
loop-ino-preserved c =
    let ino = c.loop-ino.ino in
    let before = c.loop-ino.invariant in
    let rows_left = λ (q : ℕ) (h : ino + 1 ≤ q). ap (λ rows. map.get rows q) c.remove.ensures.tree ∙ left_from c.args.built.rows c.loop-ino.rows ino before.rows q h in
    elim c.match-remove.branch [
      | in-Some+in_ok-name_row+in_ok-put w ↦
          record {
            named = λ geom tree stood storable limit_is is q.
                let has = named geom tree stood storable c.args.limit limit_is c.args.built is ino c.loop-ino-test.true w.in-Some.row (w.in-Some.ensures.removed ∙ before.rows ino (omega arith)) w.take.result (w.take.ensures.taken ∙ before.names ino (omega arith)) in
                ap (λ rows. map.get rows q) (w.tree-is ∙ w.in_ok-put.ensures.ok)
                ∙ named_next geom tree stood storable c.args.limit limit_is c.args.built is ino w.in-Some.row w.take.result has c.loop-ino.tree w.in_ok-name_row.field-0 (w.in_ok-name_row.ensures.named has.whole has.by) (before.named geom tree stood storable limit_is is) q;
            rows = rows_left;
            names = λ q h. ap (λ names. map.get names q) (w.names-is ∙ w.take.ensures.left) ∙ left_from c.args.built.names c.loop-ino.names ino before.names q h;
          }
      | in_default w ↦
          record {
            named = λ geom tree stood storable limit_is is q.
                ap (λ rows. map.get rows q) w.tree-is ∙ before.named geom tree stood storable limit_is is q
                ∙ none_next tree tree ino (not_there geom tree stood storable c.args.limit limit_is c.args.built is ino c.loop-ino-test.true (w.in_default.ensures.removed ∙ before.rows ino (omega arith))) q;
            rows = rows_left;
            names = λ q h. ap (λ names. map.get names q) w.names-is ∙ before.names q (omega arith);
          }
    ]

pub returns-in_err-name_row-clause-bad : goal.returns-in_err-name_row-clause-bad
returns-in_err-name_row-clause-bad c bad geom tree stood storable limit_is is =
    let ino = c.loop-ino.ino in
    let has = named geom tree stood storable c.args.limit limit_is c.args.built is ino c.loop-ino-test.true c.in-Some.row (c.in-Some.ensures.removed ∙ c.loop-ino.invariant.rows ino (omega arith)) c.take.result (c.take.ensures.taken ∙ c.loop-ino.invariant.names ino (omega arith)) in
    c.in_err-name_row.ensures.bad (fault_came _ _ _ c.from_residual.ensures.1 bad) has.whole has.by

pub returns-clause-tree : goal.returns-clause-tree
returns-clause-tree c geom tree stood storable limit_is is =
    let all : c.loop-ino.ino ≡ c.args.limit = omega arith in
    all_named geom tree stood storable c.args.limit limit_is c.args.built is c.loop-ino.tree
    (subst (λ (n : ℕ). (q : ℕ) → map.get c.loop-ino.tree q ≡ up_to n tree q) all (c.loop-ino.invariant.named geom tree stood storable limit_is is))
