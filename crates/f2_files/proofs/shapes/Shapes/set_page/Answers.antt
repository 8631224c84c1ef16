use Rattle.std.proofs.Common.{◌≡◌, ℕ, ◌∙◌, ap, sym, Some, is_some}
use Rattle.std.specs.Ordering.{nat_cmp}
use Rattle.std.specs.FinMap as map
use Rattle.f2_laws.proofs.Walks.{some_same, some_none}
use Rattle.f2_model.proofs.MapViews.{lookup-seen, seen-insert}
use Rattle.f2_files.specs.Shape.{address_in}
use Rattle.f2_files.specs.declared.shapes.Shape.{Shape}
use Rattle.f2_files.proofs.Changes.{put_same}
use Rattle.f2_files.proofs.Results.{ok_map, err_map}
use Rattle.f2_files.proofs.shapes.Shapes.set_page.Goals as goal
use Rattle.f2_files.proofs.shapes.Shapes.set_page.Goals.{in-Some, in-None}

pub returns-clause-there : goal.returns-clause-there
returns-clause-there c = elim c.match-get_mut.branch [
  | in-Some w ↦ (
      let there = ap is_some (sym w.in-Some.ensures.value) in
      let now : Shape = w.in-Some.row.now in
      let new : Shape = record now { pages = w.set.new.self } in
      let put = seen-insert _ _ c.self.view_is _ c.args.ino new ((c.get_mut.follows.holds new).3 there).0 in
      rw (w.result-is, w.self-inside-is) (ok_map w.set.result (λ e row is.
      (let same : now ≡ row = some_same (w.in-Some.ensures.value ∙ lookup-seen _ _ c.self.view_is c.args.ino ∙ is) in
      put ∙ ap (λ (p : map.FinMap nat_cmp ℕ). map.insert c.args.self.now c.args.ino (record now { pages = p })) e
      ∙ ap (λ (r : Shape). map.insert c.args.self.now c.args.ino (record r { pages = map.insert r.pages c.args.page c.args.at })) same)) w.set.ensures.ok))
  | in-None w ↦ (rw w.result-is (λ row is. absurd (some_none (sym is ∙ sym (lookup-seen _ _ c.self.view_is c.args.ino) ∙ sym w.in-None.ensures.value))))
]

pub returns-clause-missing : goal.returns-clause-missing
returns-clause-missing c = elim c.match-get_mut.branch [
  | in-Some w ↦ (λ none. absurd (some_none (w.in-Some.ensures.value ∙ lookup-seen _ _ c.self.view_is c.args.ino ∙ none)))
  | in-None w ↦ (λ none. rw w.self-inside-is (ap (λ m. map.from_entries m.entries) c.get_mut.follows.holds-at-none ∙ c.self.view_is))
]

pub returns-clause-err : goal.returns-clause-err
returns-clause-err c = elim c.match-get_mut.branch [
  | in-Some w ↦ (
      let there = ap is_some (sym w.in-Some.ensures.value) in
      let now : Shape = w.in-Some.row.now in
      let new : Shape = record now { pages = w.set.new.self } in
      let was : Some now ≡ map.get c.args.self.now c.args.ino = w.in-Some.ensures.value ∙ lookup-seen _ _ c.self.view_is c.args.ino in
      let put = seen-insert _ _ c.self.view_is _ c.args.ino new ((c.get_mut.follows.holds new).3 there).0 in
      rw (w.result-is, w.self-inside-is) (err_map w.set.result (λ e. put
      ∙ ap (λ (p : map.FinMap nat_cmp ℕ). map.insert c.args.self.now c.args.ino (record now { pages = p })) e
      ∙ put_same c.args.self.now c.args.ino now (sym was)) w.set.ensures.err))
  | in-None w ↦ (rw w.result-is tt)
]

pub returns-clause-only_new : goal.returns-clause-only_new
returns-clause-only_new c = elim c.match-get_mut.branch [
  | in-Some w ↦ (
      let now : Shape = w.in-Some.row.now in
      let was : Some now ≡ map.get c.args.self.now c.args.ino = w.in-Some.ensures.value ∙ lookup-seen _ _ c.self.view_is c.args.ino in
      rw w.result-is (err_map w.set.result (λ none. ap (address_in c.args.page) (sym was) ∙ none) w.set.ensures.only_new))
  | in-None w ↦ (rw w.result-is tt)
]
