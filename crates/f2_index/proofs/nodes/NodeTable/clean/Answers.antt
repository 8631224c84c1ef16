use Rattle.std.proofs.Common.{◌≡◌, None, is_some, ◌-◌, length, slice_index, ap, sym, ◌∙◌, arith}
use Rattle.std.specs.FinMap as map
use Rattle.std.specs.Vec.{vec_len}
use Rattle.f2_index.specs.Slots.{place_of, nodes_of}
use Rattle.f2_index.specs.Nodes.{cleaned}
use Rattle.f2_index.proofs.Listed.{end-read}
use Rattle.f2_index.proofs.Slots.{cleaned-absent, cleaned-clean, there-end, there_still, AreKept-cleaned, nodes_of-cleaned}
use Rattle.f2_index.proofs.nodes.NodeTable.clean.Goals as goal

pub returns-in_default : goal.returns-in_default
returns-in_default c =
    sym (ap (λ m. cleaned m c.args.offset) (sym c.self.view_is) ∙ cleaned-absent c.self.inside.slots c.args.offset (sym c.get.ensures ∙ c.in_default.is) ∙ c.self.view_is)

pub returns-in_default-place : goal.returns-in_default-place
returns-in_default-place c =
    sym (ap (λ m. cleaned m c.args.offset) (sym c.self.view_is) ∙ cleaned-clean c.self.inside.slots c.args.offset c.in-Some.slot (sym c.get.ensures ∙ c.in-Some.is) c.in_default-place.is ∙ c.self.view_is)

pub overflow_sub-len : goal.overflow_sub-len
overflow_sub-len c =
    let at = sym c.get.ensures ∙ c.in-Some.is in
    let here = c.self.invariant.are_listed.placed c.args.offset c.in-Some-place.place (ap place_of at ∙ c.in-Some-place.is) in
    omega (arith, here.0, c.self.inside.dirty.ok, c.len.ensures)

pub index-last-requires : goal.index-last-requires
index-last-requires c =
    let at = sym c.get.ensures ∙ c.in-Some.is in
    let here = c.self.invariant.are_listed.placed c.args.offset c.in-Some-place.place (ap place_of at ∙ c.in-Some-place.is) in
    omega (arith, here.0, c.self.inside.dirty.ok, c.len.ensures)

pub unwrap-moved-requires : goal.unwrap-moved-requires
unwrap-moved-requires c =
    let offsets = c.self.inside.dirty.items in
    let at = sym c.get.ensures ∙ c.in-Some.is in
    let here = c.self.invariant.are_listed.placed c.args.offset c.in-Some-place.place (ap place_of at ∙ c.in-Some-place.is) in
    let long : c.len.result ≡ length offsets = omega (arith, c.len.ensures, c.self.inside.dirty.ok) in
    let ends = end-read offsets c.len.result c.index-last.result.now long (omega (arith, here.0, long)) c.index-last.ensures in
    ap is_some c.get-2.ensures ∙ there-end c.self.inside.slots offsets _ c.self.invariant c.index-last.result.now (omega (arith, here.0)) ends

pub swap_remove-requires : goal.swap_remove-requires
swap_remove-requires c =
    let at = sym c.get.ensures ∙ c.in-Some.is in
    let here = c.self.invariant.are_listed.placed c.args.offset c.in-Some-place.place (ap place_of at ∙ c.in-Some-place.is) in
    omega (arith, here.0, c.self.inside.dirty.ok)

pub replace-requires-2 : goal.replace-requires-2
replace-requires-2 c =
    let offsets = c.self.inside.dirty.items in
    let at = sym c.get.ensures ∙ c.in-Some.is in
    let here = c.self.invariant.are_listed.placed c.args.offset c.in-Some-place.place (ap place_of at ∙ c.in-Some-place.is) in
    let long : c.len.result ≡ length offsets = omega (arith, c.len.ensures, c.self.inside.dirty.ok) in
    let ends = end-read offsets c.len.result c.index-last.result.now long (omega (arith, here.0, long)) c.index-last.ensures in
    ap (λ m. is_some (map.get m c.args.offset)) c.replace.ensures
    ∙ there_still c.self.inside.slots offsets _ c.self.invariant c.args.offset c.in-Some-place.place c.index-last.result.now c.in-Some.slot c.unwrap-moved.result
    at c.in-Some-place.is ends (sym c.get-2.ensures ∙ c.unwrap-moved.ensures)

pub invariant_of-self : goal.invariant_of-self
invariant_of-self c =
    let offsets = c.self.inside.dirty.items in
    let at = sym c.get.ensures ∙ c.in-Some.is in
    let here = c.self.invariant.are_listed.placed c.args.offset c.in-Some-place.place (ap place_of at ∙ c.in-Some-place.is) in
    let long : c.len.result ≡ length offsets = omega (arith, c.len.ensures, c.self.inside.dirty.ok) in
    let ends = end-read offsets c.len.result c.index-last.result.now long (omega (arith, here.0, long)) c.index-last.ensures in
    let same : vec_len c.self.inside.dirty ≡ length offsets = omega (arith, c.self.inside.dirty.ok) in
    rw (c.replace-2.ensures, c.replace.ensures, c.swap_remove.ensures.capacity)
    (AreKept-cleaned c.self.inside.slots offsets _ c.self.invariant c.args.offset c.in-Some-place.place c.index-last.result.now c.in-Some.slot c.unwrap-moved.result
    at c.in-Some-place.is ends (sym c.get-2.ensures ∙ c.unwrap-moved.ensures) c.swap_remove.new.self.items
    (omega (arith, c.swap_remove.ensures.len, c.swap_remove.new.self.ok, same))
    (λ before. c.swap_remove.ensures.by_index.0 0 (omega arith) ∙ ap (λ n. slice_index offsets (n - 1)) same)
    (λ k apart before. c.swap_remove.ensures.by_index.1 k 0 apart (omega arith)))

pub returns : goal.returns
returns c =
    let offsets = c.self.inside.dirty.items in
    let at = sym c.get.ensures ∙ c.in-Some.is in
    let here = c.self.invariant.are_listed.placed c.args.offset c.in-Some-place.place (ap place_of at ∙ c.in-Some-place.is) in
    let long : c.len.result ≡ length offsets = omega (arith, c.len.ensures, c.self.inside.dirty.ok) in
    let ends = end-read offsets c.len.result c.index-last.result.now long (omega (arith, here.0, long)) c.index-last.ensures in
    ap nodes_of c.replace-2.ensures
    ∙ ap (λ m. nodes_of (map.insert m c.args.offset (record { pages = c.in-Some.slot.pages; place = None }))) c.replace.ensures
    ∙ nodes_of-cleaned c.self.inside.slots offsets _ c.self.invariant c.args.offset c.in-Some-place.place c.index-last.result.now c.in-Some.slot c.unwrap-moved.result
    at c.in-Some-place.is ends (sym c.get-2.ensures ∙ c.unwrap-moved.ensures)
    ∙ ap (λ m. cleaned m c.args.offset) c.self.view_is
