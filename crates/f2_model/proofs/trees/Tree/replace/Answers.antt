use Rattle.std.proofs.Common.{◌≡◌, ◌∙◌, ap, sym, is_some, refl, Some, None, Result, Ok, Err, IfOk, IfErr}
use Rattle.std.specs.FinMap as map
use Rattle.f2_model.specs.Tree.{Rows}
use Rattle.f2_model.specs.declared.rows.Row.{Row}
use Rattle.f2_model.proofs.MapViews.{lookup-seen, seen-insert}
use Rattle.f2_model.proofs.trees.Tree.replace.Goals as goal
use Rattle.f2_model.proofs.trees.Tree.replace.Goals.{in-Some, in-None}

taken_out : (r : Result Row Row) (row was : Row) (old new : Rows) → r ≡ Ok was → map.get old row.ino ≡ Some was → new ≡ map.insert old row.ino row
    → IfOk r (λ found. (map.get old row.ino ≡ Some found) × (new ≡ map.insert old row.ino row))
taken_out r row was old new is there put = rw is (there, put)

given_back : (r : Result Row Row) (row : Row) (old new : Rows) → r ≡ Err row → map.get old row.ino ≡ None → new ≡ old
    → IfErr r (λ back. (back ≡ row) × (map.get old row.ino ≡ None) × (new ≡ old))
given_back r row old new is none same = rw is (refl, none, same)

pub returns-clause-ok : goal.returns-clause-ok
returns-clause-ok c = elim c.match-get_mut.branch [
  | in-Some w ↦ (
      let there = ap is_some (sym w.in-Some.ensures.value) in
      let was = lookup-seen _ _ c.self.view_is c.args.row.ino in
      let old = ap Some w.replace.ensures.value ∙ w.in-Some.ensures.value ∙ was in
      let new = seen-insert _ _ c.self.view_is _ c.args.row.ino w.replace.new.dest ((c.get_mut.follows.holds w.replace.new.dest).3 there).0 in
      taken_out _ c.args.row _ c.args.self.now _ w.result-is (sym old) (rw w.self-inside-is (new ∙ ap (map.insert c.args.self.now c.args.row.ino) w.replace.ensures.after)))
  | in-None w ↦ (rw w.result-is tt)
]

pub returns-clause-err : goal.returns-clause-err
returns-clause-err c = elim c.match-get_mut.branch [
  | in-Some w ↦ (rw w.result-is tt)
  | in-None w ↦ (
      let was = lookup-seen _ _ c.self.view_is c.args.row.ino in
      let same = ap (λ m. map.from_entries m.entries) c.get_mut.follows.holds-at-none ∙ c.self.view_is in
      given_back _ c.args.row c.args.self.now _ w.result-is (sym was ∙ sym w.in-None.ensures.value) (rw w.self-inside-is same))
]
