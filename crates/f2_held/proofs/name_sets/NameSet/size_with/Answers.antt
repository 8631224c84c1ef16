use Rattle.std.proofs.Common.{◌∙◌, ap, sym, subst}
use Rattle.std.specs.FinMap as map
use Rattle.f2_held.specs.Taken.{names_from, and_name, of_names}
use Rattle.f2_held.specs.Sums.{of_blocks, with_at, IsPlaceFor}
use Rattle.f2_format.specs.Packing.{place_reached}
use Rattle.f2_held.proofs.NameLemmas.{seen_already, size_with_is}
use Rattle.f2_held.proofs.name_sets.NameSet.size_with.Goals as goal

pub returns-in_default-clause-size : goal.returns-in_default-clause-size
returns-in_default-clause-size c =
    let there = ap (λ names. map.contains_key names c.args.name.now) (sym c.self.view_is) ∙ ap (λ list. map.contains_key (names_from list) c.args.name.now) (sym c.deref.ensures.value) ∙ c.in_default.ensures.there in
    c.size.ensures.size ∙ ap of_names (sym (seen_already c.args.name.now c.args.self.now there))

pub returns-clause-size : goal.returns-clause-size
returns-clause-size c =
    let place = subst (λ list. IsPlaceFor c.args.name.now list c.in-Some.at) c.deref.ensures.value c.in-Some.ensures.place in
    let reached = c.reach_with-reach.ensures.place ∙ ap (λ list. place_reached (with_at list c.in-Some.at c.args.name.now)) c.deref-2.ensures.value in
    c.size_of.ensures.size
    ∙ ap (λ reach. of_blocks reach.0) c.reach.view_is
    ∙ size_with_is c.self.inside.names.items c.self.inside.reach c.reach_with-reach.result c.args.name.now c.in-Some.at c.self.invariant place c.requires reached
    ∙ ap (λ names. of_names (and_name names c.args.name.now)) c.self.view_is
