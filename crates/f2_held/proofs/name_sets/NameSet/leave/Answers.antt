use Rattle.std.proofs.Common.{◌∙◌, ap, sym, subst}
use Rattle.std.specs.FinMap as map
use Rattle.std.specs.List.{remove}
use Rattle.f2_format.specs.Packing.{place_reached}
use Rattle.f2_held.specs.Taken.{names_from, without_name}
use Rattle.f2_held.specs.Sums.{IsPlaceOf, IsNameSet}
use Rattle.f2_held.proofs.NameLemmas.{absent_already, IsNameSet-without}
use Rattle.f2_held.proofs.name_sets.NameSet.leave.Goals as goal

pub returns-in_default : goal.returns-in_default
returns-in_default c =
    let absent = ap (λ names. map.contains_key names c.args.name.now) (sym c.self.view_is) ∙ ap (λ list. map.contains_key (names_from list) c.args.name.now) (sym c.deref.ensures.value) ∙ c.in_default.ensures.absent in
    sym (absent_already c.args.name.now c.args.self.now absent)

pub invariant_of-self : goal.invariant_of-self
invariant_of-self c =
    let names = c.self.inside.names.items in
    let place = subst (λ list. IsPlaceOf c.args.name.now list c.in-Some.at) c.deref.ensures.value c.in-Some.ensures.place in
    let reached = c.reach_without-self-inside.ensures.place ∙ ap (λ list. place_reached (remove list c.in-Some.at)) c.deref-2.ensures.value in
    subst (λ list. IsNameSet list c.reach_without-self-inside.result) (sym c.remove.ensures.items) (IsNameSet-without c.args.name.now names c.self.inside.reach c.reach_without-self-inside.result c.in-Some.at c.self.invariant place reached c.reach_without-self-inside.ensures.slots)

pub returns : goal.returns
returns c =
    let names = c.self.inside.names.items in
    let place = subst (λ list. IsPlaceOf c.args.name.now list c.in-Some.at) c.deref.ensures.value c.in-Some.ensures.place in
    ap names_from c.remove.ensures.items ∙ place.seen ∙ ap (λ set. without_name set c.args.name.now) c.self.view_is
