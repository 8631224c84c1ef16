use Rattle.std.proofs.Common.{◌≡◌, ◌∙◌, ℕ, List, ap, sym, Some, is_some}
use Rattle.std.specs.FinMap as map
use Rattle.f2_laws.proofs.Walks.{some_same, some_none}
use Rattle.f2_model.proofs.MapViews.{lookup-seen, seen-insert}
use Rattle.f2_files.specs.declared.shapes.Shape.{Shape}
use Rattle.f2_files.proofs.shapes.Shapes.move_to.Goals as goal
use Rattle.f2_files.proofs.shapes.Shapes.move_to.Goals.{in-Some, in-None}

pub returns-clause-there : goal.returns-clause-there
returns-clause-there c = elim c.match-get_mut.branch [
  | in-Some w ↦ (λ row is.
      let there = ap is_some (sym w.in-Some.ensures.value) in
      let now : Shape = w.in-Some.row.now in
      let same : now ≡ row = some_same (w.in-Some.ensures.value ∙ lookup-seen _ _ c.self.view_is c.args.ino ∙ is) in
      let new : Shape = record now { parent = w.replace-parent.new.dest; name = w.replace-name.new.dest } in
      let put = seen-insert _ _ c.self.view_is _ c.args.ino new ((c.get_mut.follows.holds new).3 there).0 in
      rw w.self-inside-is (put
      ∙ ap (λ (p : ℕ). map.insert c.args.self.now c.args.ino (record now { parent = p; name = w.replace-name.new.dest })) w.replace-parent.ensures.after
      ∙ ap (λ (n : List ℕ). map.insert c.args.self.now c.args.ino (record now { parent = c.args.parent; name = n })) w.replace-name.ensures.after
      ∙ ap (λ (r : Shape). map.insert c.args.self.now c.args.ino (record r { parent = c.args.parent; name = c.args.name })) same))
  | in-None w ↦ (λ row is. absurd (some_none (sym is ∙ sym (lookup-seen _ _ c.self.view_is c.args.ino) ∙ sym w.in-None.ensures.value)))
]

pub returns-clause-was : goal.returns-clause-was
returns-clause-was c = elim c.match-get_mut.branch [
  | in-Some w ↦ (λ row is.
      let now : Shape = w.in-Some.row.now in
      let same : now ≡ row = some_same (w.in-Some.ensures.value ∙ lookup-seen _ _ c.self.view_is c.args.ino ∙ is) in
      w.result-is ∙ ap (λ (p : ℕ). Some (p, w.replace-name.result)) w.replace-parent.ensures.value ∙ ap (λ (n : List ℕ). Some (now.parent, n)) w.replace-name.ensures.value ∙ ap (λ (r : Shape). Some (r.parent, r.name)) same)
  | in-None w ↦ (λ row is. absurd (some_none (sym is ∙ sym (lookup-seen _ _ c.self.view_is c.args.ino) ∙ sym w.in-None.ensures.value)))
]

pub returns-clause-missing : goal.returns-clause-missing
returns-clause-missing c = elim c.match-get_mut.branch [
  | in-Some w ↦ (λ none. absurd (some_none (w.in-Some.ensures.value ∙ lookup-seen _ _ c.self.view_is c.args.ino ∙ none)))
  | in-None w ↦ (λ none. rw w.self-inside-is (ap (λ m. map.from_entries m.entries) c.get_mut.follows.holds-at-none ∙ c.self.view_is))
]
