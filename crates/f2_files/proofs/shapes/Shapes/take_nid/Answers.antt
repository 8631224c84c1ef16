use Rattle.std.proofs.Common.{◌≡◌, ◌∙◌, ℕ, ap, sym, is_some}
use Rattle.std.specs.Ordering.{nat_cmp}
use Rattle.std.specs.FinMap as map
use Rattle.f2_laws.proofs.Walks.{some_same, some_none}
use Rattle.f2_model.proofs.MapViews.{lookup-seen, seen-insert}
use Rattle.f2_files.specs.Shape.{nid_in}
use Rattle.f2_files.specs.declared.shapes.Shape.{Shape}
use Rattle.f2_files.proofs.shapes.Shapes.take_nid.Goals as goal
use Rattle.f2_files.proofs.shapes.Shapes.take_nid.Goals.{in-Some, in-None}

pub returns-clause-taken : goal.returns-clause-taken
returns-clause-taken c = elim c.match-get_mut.branch [
  | in-Some w ↦ (rw w.result-is (w.take.ensures.taken ∙ ap (nid_in c.args.offset) (w.in-Some.ensures.value ∙ lookup-seen _ _ c.self.view_is c.args.ino)))
  | in-None w ↦ (rw w.result-is (ap (nid_in c.args.offset) (w.in-None.ensures.value ∙ lookup-seen _ _ c.self.view_is c.args.ino)))
]

pub returns-clause-there : goal.returns-clause-there
returns-clause-there c = elim c.match-get_mut.branch [
  | in-Some w ↦ (λ row is.
      let there = ap is_some (sym w.in-Some.ensures.value) in
      let now : Shape = w.in-Some.row.now in
      let same : now ≡ row = some_same (w.in-Some.ensures.value ∙ lookup-seen _ _ c.self.view_is c.args.ino ∙ is) in
      let new : Shape = record now { nids = w.take.new.self } in
      let put = seen-insert _ _ c.self.view_is _ c.args.ino new ((c.get_mut.follows.holds new).3 there).0 in
      rw w.self-inside-is (put
      ∙ ap (λ (p : map.FinMap nat_cmp ℕ). map.insert c.args.self.now c.args.ino (record now { nids = p })) w.take.ensures.left
      ∙ ap (λ (r : Shape). map.insert c.args.self.now c.args.ino (record r { nids = map.remove r.nids c.args.offset })) same))
  | in-None w ↦ (λ row is. absurd (some_none (sym is ∙ sym (lookup-seen _ _ c.self.view_is c.args.ino) ∙ sym w.in-None.ensures.value)))
]

pub returns-clause-missing : goal.returns-clause-missing
returns-clause-missing c = elim c.match-get_mut.branch [
  | in-Some w ↦ (λ none. absurd (some_none (w.in-Some.ensures.value ∙ lookup-seen _ _ c.self.view_is c.args.ino ∙ none)))
  | in-None w ↦ (λ none. rw w.self-inside-is (ap (λ m. map.from_entries m.entries) c.get_mut.follows.holds-at-none ∙ c.self.view_is))
]
