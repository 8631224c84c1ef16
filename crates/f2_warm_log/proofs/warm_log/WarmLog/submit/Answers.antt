use Rattle.std.proofs.Common.{true, refl, ap, ◌∙◌, arith, slice_set}
use Rattle.std.proofs.lemmas.List.{length-set}
use Rattle.std.proofs.lemmas.Option.{get_or_from_slice_get}
use Rattle.f2_warm_log.specs.declared.positions.Position.{Position}
use Rattle.f2_warm_log.specs.Log.{NodeLog, with_submitted}
use Rattle.f2_warm_log.proofs.Chained.{IsChained-set, IsSubmittedBelow-set}
use Rattle.f2_warm_log.proofs.warm_log.WarmLog.submit.Goals as goal

pub lowest_open-self-inside-requires-clause-below : goal.lowest_open-self-inside-requires-clause-below
lowest_open-self-inside-requires-clause-below g c =
    rw c.deref.ensures.value (IsSubmittedBelow-set c.self.inside.positions.items c.args.slot.position _ c.self.inside.gap refl c.self.invariant.lowest.below)

pub invariant_of-self : goal.invariant_of-self
invariant_of-self g c =
    let is = c.self.invariant in
    let items = c.self.inside.positions.items in
    let k = c.args.slot.position in
    let found = rw (← c.self.view_is) at c.requires.is_open in
    let there = c.index_mut.ensures.value ∙ get_or_from_slice_get items k _ c.index_mut.result.now found in
    record {
      is_log = record {
        chained = IsChained-set items k c.self.inside.next _ _ found (ap (λ (p : Position). p.at) there) (ap (λ (p : Position). p.next) there) is.is_log.chained;
        within = omega (arith, is.is_log.within, length-set {A = Position});
        fits = is.is_log.fits;
      };
      lowest = rw (← c.deref.ensures.value) c.lowest_open-self-inside.ensures;
      places_enough = is.places_enough;
    }

pub returns-clause-submitted : goal.returns-clause-submitted
returns-clause-submitted g c =
    let items = c.self.inside.positions.items in
    let k = c.args.slot.position in
    let found = rw (← c.self.view_is) at c.requires.is_open in
    let there = c.index_mut.ensures.value ∙ get_or_from_slice_get items k _ c.index_mut.result.now found in
    let log_with : Position → NodeLog = λ p.
    record { version = c.self.inside.version; positions = slice_set items k (record { at = p.at; next = p.next; submitted = true }); next = c.self.inside.next; room = c.self.inside.room } in
    ap log_with there ∙ ap (λ (log : NodeLog). with_submitted log c.args.slot) c.self.view_is
