use Rattle.std.proofs.Common.{◌≡◌, ◌≢◌, ◌∙◌, ℕ, ◌*◌, ◌≤◌, length, sym, subst, ap, arith, All, IsTrue, true}
use Rattle.std.specs.Borrow.{Bor}
use Rattle.std.specs.List.{sum_by}
use Rattle.std.specs.FinSet as set
use Rattle.std.specs.FinSet.{len-empty}
use Rattle.std.specs.Ordering.{nat_cmp}
use Rattle.std.proofs.lemmas.List.{length-map}
use Rattle.std.proofs.lemmas.List.Sums.{sum_by-take-le}
use Rattle.f2_bitset.specs.Numbers.{Numbers}
use Rattle.f2_format.specs.Geometry.{is_in_data}
use Rattle.f2_laid.specs.Laid.{page_at, pages_of_place}
use Rattle.f2_laid.specs.declared.places.Place.{Place}
use Rattle.f2_plain_plan.specs.Zones.{places_at}
use Rattle.f2_plain_plan.proofs.Items.{all_taken, item_low, place_has, place_is}
use Rattle.f2_plain_plan.proofs.Values.{each_value, value_each}
use Rattle.f2_plain_plan.proofs.ZoneRanges.{data_inside}
use Rattle.f2_plain_plan.proofs.ZoneSteps.{file_more}
use Rattle.f2_plain_plan.proofs.zones.pages_of.Goals as goal

pub insert_pages-requires : goal.insert_pages-requires
insert_pages-requires c page there =
    let is = ap places_at c.deref-place-items.ensures.value ∙ c.in_ok-all.ensures in
    let P : Place → Type 0 = λ place. page_at place page ≢ 0 → IsTrue (is_in_data c.args.geometry.now (page_at place page)) in
    let all = subst (All P) (sym is) (each_value P c.args.places.now (λ ino place g. c.requires.placed.pages ino page place g)) in
    let first = c.loop-place.invariant.first ∙ ap (λ (n : Numbers). n.first) c.in_ok-pages.ensures ∙ c.data_first.ensures.value in
    let count = c.loop-place.invariant.count ∙ ap (λ (n : Numbers). n.count) c.in_ok-pages.ensures ∙ ap (λ n. 3 * n) c.cd.ensures.value in
    data_inside c.args.geometry.now c.loop-place.pages _ (record { first = first; count = count })
    (place_has P (λ (place : Bor Place). place.now) c.deref-place-items.result.now c.loop-place.place-index _ c.loop-place-test.true all there)

pub loop-place-preserved : goal.loop-place-preserved
loop-place-preserved c =
    let f = λ (place : Bor Place). place.now in
    file_more (places_at c.deref-place-items.result.now) c.loop-place.place-index c.in_ok-pages.pages c.loop-place.pages c.insert_pages.new.pages _
    (item_low f c.deref-place-items.result.now c.loop-place.place-index c.loop-place-test.true)
    (place_is f c.deref-place-items.result.now c.loop-place.place-index _ c.loop-place-test.true) c.loop-place.invariant c.insert_pages.ensures

pub returns : goal.returns
returns c =
    let is = ap places_at c.deref-place-items.ensures.value ∙ c.in_ok-all.ensures in
    let P : Place → Type 0 = λ place. (page : ℕ) → page_at place page ≢ 0 → set.contains c.loop-place.pages.members (page_at place page) ≡ true in
    let none : set.len c.in_ok-pages.pages.members ≡ 0 = ap (λ (n : Numbers). set.len n.members) c.in_ok-pages.ensures ∙ len-empty nat_cmp in
    let few = c.loop-place.invariant.few in
    let most = sum_by-take-le pages_of_place (places_at c.deref-place-items.result.now) c.loop-place.place-index in
    let whole = ap (sum_by pages_of_place) is in
    let pages = c.requires.pages in
    let stop = c.loop-place-test.false in
    let past : length (places_at c.deref-place-items.result.now) ≤ c.loop-place.place-index = let e = length-map c.deref-place-items.result.now (λ (place : Bor Place). place.now) in omega (arith, e, stop) in
    record {
      geometry = c.data_first.ensures.sound;
      zone = record {
        first = c.loop-place.invariant.first ∙ ap (λ (n : Numbers). n.first) c.in_ok-pages.ensures ∙ c.data_first.ensures.value;
        count = c.loop-place.invariant.count ∙ ap (λ (n : Numbers). n.count) c.in_ok-pages.ensures ∙ ap (λ n. 3 * n) c.cd.ensures.value;
      };
      few = omega (arith, none, few, most, whole, pages);
      all = λ ino page place g there. value_each P c.args.places.now (subst (All P) is (all_taken P (places_at c.deref-place-items.result.now) c.loop-place.place-index past c.loop-place.invariant.has)) ino place g page there;
    }
