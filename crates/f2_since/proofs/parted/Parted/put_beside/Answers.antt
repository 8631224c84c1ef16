use Rattle.std.proofs.Common.{◌≡◌, ◌∙◌, ap, sym, Some, None, is_some, true≢false}
use Rattle.std.specs.Option.{unwrap_or}
use Rattle.std.specs.FinMap as map
use Rattle.f2_model.proofs.MapViews.{lookup-seen, seen-insert}
use Rattle.f2_files.proofs.Changes.{put_same}
use Rattle.f2_files.proofs.Results.{ok_map, err_map}
use Rattle.f2_since.proofs.parted.Parted.put_beside.Goals as goal
use Rattle.f2_since.proofs.parted.Parted.put_beside.Goals.{in-Some, in-None}

pub returns-clause-ok : goal.returns-clause-ok
returns-clause-ok c = elim c.match-get_mut.branch [
  | in-Some w ↦ (
      let dirs = c.args.self.now in
      let at = c.args.directory in
      let there = ap is_some (sym w.in-Some.ensures.value) in
      let was : Some w.in-Some.names.now ≡ map.get dirs at = w.in-Some.ensures.value ∙ lookup-seen _ _ c.self.view_is at in
      let put = seen-insert _ _ c.self.view_is _ at w.put.new.self ((c.get_mut.follows.holds w.put.new.self).3 there).0 in
      rw (w.result-is, w.self-inside-is) (ok_map w.put.result (λ e. put ∙ ap (map.insert dirs at) e ∙ ap (λ o. map.insert dirs at (map.insert (unwrap_or o map.empty) c.args.name (c.args.ino, c.args.kind))) was) w.put.ensures.ok))
  | in-None w ↦ (rw w.result-is tt)
]

pub returns-clause-err : goal.returns-clause-err
returns-clause-err c = elim c.match-get_mut.branch [
  | in-Some w ↦ (
      let dirs = c.args.self.now in
      let at = c.args.directory in
      let there = ap is_some (sym w.in-Some.ensures.value) in
      let was : Some w.in-Some.names.now ≡ map.get dirs at = w.in-Some.ensures.value ∙ lookup-seen _ _ c.self.view_is at in
      let put = seen-insert _ _ c.self.view_is _ at w.put.new.self ((c.get_mut.follows.holds w.put.new.self).3 there).0 in
      rw (w.result-is, w.self-inside-is) (err_map w.put.result (λ e. put ∙ ap (map.insert dirs at) e ∙ put_same dirs at w.in-Some.names.now (sym was)) w.put.ensures.err))
  | in-None w ↦ (
      let none : None ≡ map.get c.args.self.now c.args.directory = w.in-None.ensures.value ∙ lookup-seen _ _ c.self.view_is c.args.directory in
      absurd (true≢false (sym c.requires ∙ ap is_some (sym none))))
]
