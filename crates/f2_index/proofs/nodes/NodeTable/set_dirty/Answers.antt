use Rattle.std.proofs.Common.{true, Some, is_some, ap, sym, ◌∙◌, arith}
use Rattle.std.specs.FinMap as map
use Rattle.std.specs.Vec.{vec_capacity}
use Rattle.f2_index.specs.Slots.{place_of, nodes_of}
use Rattle.f2_index.proofs.Tables.{none_unless}
use Rattle.f2_index.proofs.Slots.{there-slots, length-lt-kept, len-put, AreKept-added, AreKept-pages, nodes_of-insert}
use Rattle.f2_index.proofs.nodes.NodeTable.set_dirty.Goals as goal

pub unwrap-slot-requires : goal.unwrap-slot-requires
unwrap-slot-requires c =
    ap is_some c.get.ensures ∙ there-slots c.self.inside.slots c.args.offset (ap (λ m. is_some (map.get m c.args.offset)) c.self.view_is ∙ c.requires)

pub invariant_of-self : goal.invariant_of-self
invariant_of-self c =
    rw c.replace.ensures
    (AreKept-pages c.self.inside.slots c.self.inside.dirty.items _ c.self.invariant c.args.offset c.args.pages c.unwrap-slot.result (sym c.get.ensures ∙ c.unwrap-slot.ensures))

pub returns-then-is_some : goal.returns-then-is_some
returns-then-is_some c =
    ap nodes_of c.replace.ensures ∙ nodes_of-insert c.self.inside.slots c.args.offset _
    ∙ ap (λ b. map.insert (nodes_of c.self.inside.slots) c.args.offset (record { pages = c.args.pages; dirty = b })) (sym c.is_some.ensures ∙ c.if-is_some.true)
    ∙ ap (λ m. map.insert m c.args.offset (record { pages = c.args.pages; dirty = true })) c.self.view_is

pub push_reserved-requires : goal.push_reserved-requires
push_reserved-requires c =
    let at = sym c.get.ensures ∙ c.unwrap-slot.ensures in
    let none = none_unless c.unwrap-slot.result.place (sym c.is_some.ensures ∙ c.if-is_some.false) in
    omega (arith, c.self.inside.dirty.ok, length-lt-kept c.self.inside.slots c.self.inside.dirty.items _ c.self.invariant c.args.offset (ap is_some at) (ap place_of at ∙ none))

pub invariant_of-self-2 : goal.invariant_of-self-2
invariant_of-self-2 c =
    let slots = c.self.inside.slots in
    let at = sym c.get.ensures ∙ c.unwrap-slot.ensures in
    let none = none_unless c.unwrap-slot.result.place (sym c.is_some.ensures ∙ c.if-is_some.false) in
    let long = len-put slots c.args.offset (record { pages = c.args.pages; place = Some c.len-place.result }) (ap is_some at) in
    rw (c.replace-2.ensures, c.push_reserved.ensures.items)
    (AreKept-added slots c.self.inside.dirty.items _ c.self.invariant c.args.offset c.args.pages c.len-place.result (vec_capacity c.push_reserved.new.self) (ap place_of at ∙ none)
    (omega (arith, c.len-place.ensures, c.self.inside.dirty.ok))
    (omega (arith, long, c.self.invariant.room, c.push_reserved.ensures.capacity)))

pub returns : goal.returns
returns c =
    ap nodes_of c.replace-2.ensures ∙ nodes_of-insert c.self.inside.slots c.args.offset _
    ∙ ap (λ m. map.insert m c.args.offset (record { pages = c.args.pages; dirty = true })) c.self.view_is
