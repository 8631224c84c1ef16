use Rattle.std.proofs.Common.{◌≡◌, ◌∙◌, ◌*◌, ◌≤◌, length, sym, subst, ap, arith, All, IsTrue, true}
use Rattle.std.specs.Borrow.{Bor}
use Rattle.std.specs.FinMap as map
use Rattle.std.specs.FinMap.{len-entries}
use Rattle.std.specs.FinSet as set
use Rattle.std.specs.FinSet.{len-empty}
use Rattle.std.specs.Ordering.{nat_cmp}
use Rattle.std.proofs.lemmas.List.{length-map}
use Rattle.f2_bitset.specs.Numbers.{Numbers}
use Rattle.f2_format.specs.Geometry.{is_in_node}
use Rattle.f2_laid.specs.declared.places.Place.{Place}
use Rattle.f2_plain_plan.specs.Zones.{places_at}
use Rattle.f2_plain_plan.proofs.Items.{all_taken, item_low, place_has, place_is}
use Rattle.f2_plain_plan.proofs.Values.{each_value, value_each}
use Rattle.f2_plain_plan.proofs.ZoneRanges.{node_inside}
use Rattle.f2_plain_plan.proofs.ZoneSteps.{node_more}
use Rattle.f2_plain_plan.proofs.zones.nodes_of.Goals as goal

pub insert-requires : goal.insert-requires
insert-requires c =
    let is = ap places_at c.deref-place-items.ensures.value ∙ c.in_ok-all.ensures in
    let P : Place → Type 0 = λ place. IsTrue (is_in_node c.args.geometry.now place.at) in
    let all = subst (All P) (sym is) (each_value P c.args.places.now c.requires.placed.nodes) in
    let first = c.loop-place.invariant.first ∙ ap (λ (n : Numbers). n.first) c.in_ok-nodes.ensures ∙ c.node_first.ensures.value in
    let count = c.loop-place.invariant.count ∙ ap (λ (n : Numbers). n.count) c.in_ok-nodes.ensures ∙ ap (λ n. 3 * n) c.cn.ensures.value in
    node_inside c.args.geometry.now c.loop-place.nodes _ (record { first = first; count = count })
    (place_has P (λ (place : Bor Place). place.now) c.deref-place-items.result.now c.loop-place.place-index _ c.loop-place-test.true all)

pub loop-place-preserved : goal.loop-place-preserved
loop-place-preserved c =
    let f = λ (place : Bor Place). place.now in
    rw c.insert.ensures
    (node_more (places_at c.deref-place-items.result.now) c.loop-place.place-index c.in_ok-nodes.nodes c.loop-place.nodes _
    (item_low f c.deref-place-items.result.now c.loop-place.place-index c.loop-place-test.true)
    (place_is f c.deref-place-items.result.now c.loop-place.place-index _ c.loop-place-test.true) c.loop-place.invariant)

pub returns : goal.returns
returns c =
    let is = ap places_at c.deref-place-items.ensures.value ∙ c.in_ok-all.ensures in
    let P : Place → Type 0 = λ place. set.contains c.loop-place.nodes.members place.at ≡ true in
    let end = c.loop-place.auto.place-index-end in
    let long : length c.deref-place-items.result.now ≡ map.len c.args.places.now = sym (length-map c.deref-place-items.result.now (λ (place : Bor Place). place.now)) ∙ ap length is ∙ length-map (map.entries c.args.places.now) (λ e. e.1) ∙ sym (len-entries c.args.places.now) in
    let none : set.len c.in_ok-nodes.nodes.members ≡ 0 = ap (λ (n : Numbers). set.len n.members) c.in_ok-nodes.ensures ∙ len-empty nat_cmp in
    let few = c.loop-place.invariant.few in
    let files = c.requires.files in
    let stop = c.loop-place-test.false in
    let past : length (places_at c.deref-place-items.result.now) ≤ c.loop-place.place-index = let e = length-map c.deref-place-items.result.now (λ (place : Bor Place). place.now) in omega (arith, e, stop) in
    record {
      geometry = c.node_first.ensures.sound;
      zone = record {
        first = c.loop-place.invariant.first ∙ ap (λ (n : Numbers). n.first) c.in_ok-nodes.ensures ∙ c.node_first.ensures.value;
        count = c.loop-place.invariant.count ∙ ap (λ (n : Numbers). n.count) c.in_ok-nodes.ensures ∙ ap (λ n. 3 * n) c.cn.ensures.value;
      };
      few = omega (arith, long, none, few, files, end);
      all = value_each P c.args.places.now (subst (All P) is (all_taken P (places_at c.deref-place-items.result.now) c.loop-place.place-index past c.loop-place.invariant.has));
    }
