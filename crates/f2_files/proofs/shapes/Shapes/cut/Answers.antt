use Rattle.std.proofs.Common.{◌≡◌, ◌∙◌, ℕ, ap, sym, is_some}
use Rattle.std.specs.Ordering.{nat_cmp}
use Rattle.std.specs.FinMap as map
use Rattle.f2_laws.proofs.Walks.{some_same, some_none}
use Rattle.f2_model.proofs.MapViews.{lookup-seen, seen-insert}
use Rattle.f2_files.specs.Shape.{without_all_pages}
use Rattle.f2_files.specs.declared.shapes.Shape.{Shape}
use Rattle.f2_files.proofs.shapes.Shapes.cut.Goals as goal
use Rattle.f2_files.proofs.shapes.Shapes.cut.Goals.{in-Some, in_default}

pub returns-clause-there : goal.returns-clause-there
returns-clause-there c = elim c.match-get_mut.branch [
  | in-Some w ↦ (λ row is.
      let there = ap is_some (sym w.in-Some.ensures.value) in
      let now : Shape = w.in-Some.row.now in
      let same : now ≡ row = some_same (w.in-Some.ensures.value ∙ lookup-seen _ _ c.self.view_is c.args.ino ∙ is) in
      let new : Shape = record now { size = c.args.size; pages = w.remove_all.new.self } in
      let put = seen-insert _ _ c.self.view_is _ c.args.ino new ((c.get_mut.follows.holds new).3 there).0 in
      rw w.self-inside-is (put
      ∙ ap (λ (p : map.FinMap nat_cmp ℕ). map.insert c.args.self.now c.args.ino (record now { size = c.args.size; pages = p })) w.remove_all.ensures
      ∙ ap (λ (r : Shape). map.insert c.args.self.now c.args.ino (record r { size = c.args.size; pages = without_all_pages r.pages c.args.pages.now })) same))
  | in_default w ↦ (λ row is. absurd (some_none (sym is ∙ sym (lookup-seen _ _ c.self.view_is c.args.ino) ∙ sym w.in_default.ensures.value)))
]

pub returns-clause-missing : goal.returns-clause-missing
returns-clause-missing c = elim c.match-get_mut.branch [
  | in-Some w ↦ (λ none. absurd (some_none (w.in-Some.ensures.value ∙ lookup-seen _ _ c.self.view_is c.args.ino ∙ none)))
  | in_default w ↦ (λ none. rw w.self-inside-is (ap (λ m. map.from_entries m.entries) c.get_mut.follows.holds-at-none ∙ c.self.view_is))
]
