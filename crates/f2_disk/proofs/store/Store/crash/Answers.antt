use Rattle.std.proofs.Common.{◌≡◌, ap, ◌∙◌, arith}
use Rattle.std.specs.Vec.{with_items}
use Rattle.std.proofs.lemmas.List.{with_items_is}
use Rattle.f2_disk.specs.Pick.{crashed}
use Rattle.f2_disk.specs.Store.{Stored, lists_of}
use Rattle.f2_disk.proofs.ChooseLaws.{crashed_chosen, crashed_newest}
use Rattle.f2_disk.proofs.StoreLaws.{length-lists_of, whole_lists}
use Rattle.f2_disk.proofs.store.Store.crash.Goals as goal
use Rattle.f2_disk.proofs.store.Store.crash.Goals.{then-pick-ne-NEWEST, else-pick-ne-NEWEST}

pub returns-clause-crashed : goal.returns-clause-crashed
returns-clause-crashed c = elim c.if-pick-ne-NEWEST.branch [
  | then-pick-ne-NEWEST w ↦
      let newest = w.choose.new.newest in
      let items : (with_items c.self.inside.newest newest).items ≡ newest =
      with_items_is c.self.inside.newest newest (omega (arith, w.choose.auto.newest, w.deref_mut.ensures.len)) in
      let chosen = rw (w.deref_mut.ensures.value, w.deref_mut-then-pick-ne-NEWEST.ensures.value) at w.choose.ensures.chosen in
      let lists = crashed_chosen c.args.pick (lists_of c.self.inside.newest.items c.self.inside.older.items) newest
      w.if-pick-ne-NEWEST.true chosen in
      rw (c.clear.ensures.items, w.self-inside-is, items)
      (λ i. record { lists = (lists ∙ ap (λ (s : Stored). crashed c.args.pick s.lists) c.self.view_is) i; spare = (c.self.view_is i).spare })
  | else-pick-ne-NEWEST w ↦
      let lists = crashed_newest c.args.pick c.self.inside.newest.items c.self.inside.older.items w.if-pick-ne-NEWEST.false in
      rw (c.clear.ensures.items, w.self-inside-is)
      (λ i. record { lists = (lists ∙ ap (λ (s : Stored). crashed c.args.pick s.lists) c.self.view_is) i; spare = (c.self.view_is i).spare })
]

pub returns-clause-whole : goal.returns-clause-whole
returns-clause-whole c =
    rw (← c.self.view_is, length-lists_of) (whole_lists c.self.inside.newest.items c.self.inside.older.items c.self.invariant.0)
