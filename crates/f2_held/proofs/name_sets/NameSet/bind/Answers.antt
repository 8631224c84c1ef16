use Rattle.std.proofs.Common.{◌≤◌, ◌^◌, ◌∙◌, ap, sym, subst}
use Rattle.std.specs.FinMap as map
use Rattle.f2_format.specs.Packing.{place_reached}
use Rattle.f2_held.specs.Taken.{names_from, and_name}
use Rattle.f2_held.specs.Sums.{with_at, IsPlaceFor, IsNameSet}
use Rattle.f2_held.proofs.NameLemmas.{seen_already, IsNameSet-with}
use Rattle.f2_held.proofs.name_sets.NameSet.bind.Goals as goal

pub returns-in_default-clause-ok : goal.returns-in_default-clause-ok
returns-in_default-clause-ok c =
    let there = ap (λ names. map.contains_key names c.args.name.now) (sym c.self.view_is) ∙ ap (λ list. map.contains_key (names_from list) c.args.name.now) (sym c.deref.ensures.value) ∙ c.in_default.ensures.there in
    sym (seen_already c.args.name.now c.args.self.now there)

pub invariant_of-self-2 : goal.invariant_of-self-2
invariant_of-self-2 c =
    let names = c.self.inside.names.items in
    let place = subst (λ list. IsPlaceFor c.args.name.now list c.in-Some.at) c.deref.ensures.value c.in-Some.ensures.place in
    let reached = c.reach_with-reach.ensures.place ∙ ap (λ list. place_reached (with_at list c.in-Some.at c.args.name.now)) c.deref-2.ensures.value in
    let items = c.in_ok-insert.ensures.items ∙ ap (with_at names c.in-Some.at) c.in_ok-name.ensures in
    let few = subst (λ reach. reach.0 ≤ 2 ^ 29) c.reach.view_is c.if-reach-gt-MOST_BLOCKS.false in
    subst (λ list. IsNameSet list c.reach_with-reach.result) (sym items) (IsNameSet-with names c.self.inside.reach c.reach_with-reach.result c.args.name.now c.in-Some.at c.self.invariant place c.requires reached few c.reach_with-reach.ensures.slots)

pub returns-clause-ok : goal.returns-clause-ok
returns-clause-ok c =
    let names = c.self.inside.names.items in
    let place = subst (λ list. IsPlaceFor c.args.name.now list c.in-Some.at) c.deref.ensures.value c.in-Some.ensures.place in
    let items = c.in_ok-insert.ensures.items ∙ ap (with_at names c.in-Some.at) c.in_ok-name.ensures in
    ap names_from items ∙ place.seen ∙ ap (λ set. and_name set c.args.name.now) c.self.view_is
