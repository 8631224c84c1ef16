use Rattle.std.proofs.Common.{◌≡◌, ◌∙◌, ap, sym, Some, None, is_some}
use Rattle.std.specs.FinMap as map
use Rattle.f2_model.proofs.MapViews.{lookup-seen, seen-insert}
use Rattle.f2_since.specs.Parting.{without_among}
use Rattle.f2_since.proofs.parted.Parted.take.Goals as goal
use Rattle.f2_since.proofs.parted.Parted.take.Goals.{in-Some, in_default}

pub returns : goal.returns
returns c = elim c.match-get_mut.branch [
  | in-Some w ↦ (
      let dirs = c.args.self.now in
      let at = c.args.directory in
      let there = ap is_some (sym w.in-Some.ensures.value) in
      let was : Some w.in-Some.names.now ≡ map.get dirs at = w.in-Some.ensures.value ∙ lookup-seen _ _ c.self.view_is at in
      let put = seen-insert _ _ c.self.view_is _ at w.take.new.self ((c.get_mut.follows.holds w.take.new.self).3 there).0 in
      rw w.self-inside-is (put ∙ ap (map.insert dirs at) w.take.ensures.left ∙ ap (without_among dirs at c.args.name.now) was))
  | in_default w ↦ (
      let none : None ≡ map.get c.args.self.now c.args.directory = w.in_default.ensures.value ∙ lookup-seen _ _ c.self.view_is c.args.directory in
      rw w.self-inside-is (ap (λ m. map.from_entries m.entries) c.get_mut.follows.holds-at-none ∙ c.self.view_is ∙ ap (without_among c.args.self.now c.args.directory c.args.name.now) none))
]
