use Rattle.std.proofs.Common.{◌≡◌, true, None, Some, ap, ◌∙◌, arith}
use Rattle.std.specs.FinMap as map
use Rattle.std.specs.Vec.{vec_capacity}
use Rattle.f2_index.specs.Slots.{place_of, nodes_of}
use Rattle.f2_index.proofs.Slots.{absent-slots, length-le-kept, AreKept-added, nodes_of-insert, len-new}
use Rattle.f2_index.proofs.nodes.NodeTable.insert.Goals as goal

pub overflow_sub-len : goal.overflow_sub-len
overflow_sub-len c = omega (arith, length-le-kept c.self.inside.slots c.self.inside.dirty.items _ c.self.invariant, c.len.ensures.len, c.len-place.ensures, c.self.inside.dirty.ok)

pub push_reserved-requires : goal.push_reserved-requires
push_reserved-requires c = omega (arith, length-le-kept c.self.inside.slots c.self.inside.dirty.items _ c.self.invariant, c.len.ensures.len, c.len-place.ensures, c.self.inside.dirty.ok, c.in_ok-reserve.ensures.ok, c.in_ok-reserve.ensures.len)

pub invariant_of-self-2 : goal.invariant_of-self-2
invariant_of-self-2 c =
    let slots = c.self.inside.slots in
    let absent : map.get slots c.args.offset ≡ None = absent-slots slots c.args.offset (ap (λ m. map.get m c.args.offset) c.self.view_is ∙ c.requires) in
    let long = len-new slots c.args.offset (record { pages = 1; place = Some c.len-place.result }) absent in
    rw (c.in_ok-insert.ensures.ok, c.push_reserved.ensures.items, c.in_ok-reserve.ensures.items)
    (AreKept-added slots c.self.inside.dirty.items _ c.self.invariant c.args.offset 1 c.len-place.result (vec_capacity c.push_reserved.new.self) (ap place_of absent)
    (omega (arith, c.len-place.ensures, c.self.inside.dirty.ok))
    (omega (arith, long, length-le-kept slots c.self.inside.dirty.items _ c.self.invariant, c.len.ensures.len, c.len-place.ensures, c.self.inside.dirty.ok, c.in_ok-reserve.ensures.ok, c.in_ok-reserve.ensures.len, c.push_reserved.ensures.capacity)))

pub returns-clause-ok : goal.returns-clause-ok
returns-clause-ok c =
    ap nodes_of c.in_ok-insert.ensures.ok ∙ nodes_of-insert c.self.inside.slots c.args.offset _
    ∙ ap (λ m. map.insert m c.args.offset (record { pages = 1; dirty = true })) c.self.view_is
