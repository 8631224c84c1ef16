use Rattle.std.proofs.Common.{◌∙◌, refl, sym, ap, subst}
use Rattle.std.specs.FinMap as map
use Rattle.f2_model.specs.Fallback.{greater_of}
use Rattle.f2_held.specs.Taken.{of_files}
use Rattle.f2_held.specs.Sums.{IsSmall, IsSmallSum, IsSizes}
use Rattle.f2_held.proofs.MapSums.{sizes_le, sizes_sum, sizes_put, IsSizes-put, greater_small}
use Rattle.f2_held.proofs.sizes.Sizes.sum_with.Goals as goal

pub exchanged-requires-clause-nodes : goal.exchanged-requires-clause-nodes
exchanged-requires-clause-nodes c =
    (sizes_le _ c.self.inside.sum (subst (λ m. IsSizes m c.self.inside.sum) c.self.view_is c.self.invariant) c.args.ino c.stood-stood.result c.stood-stood.ensures.stood).0

pub exchanged-requires-clause-pages : goal.exchanged-requires-clause-pages
exchanged-requires-clause-pages c =
    (sizes_le _ c.self.inside.sum (subst (λ m. IsSizes m c.self.inside.sum) c.self.view_is c.self.invariant) c.args.ino c.stood-stood.result c.stood-stood.ensures.stood).1

pub exchanged-requires-clause-sum : goal.exchanged-requires-clause-sum
exchanged-requires-clause-sum c =
    sizes_sum _ c.self.inside.sum (subst (λ m. IsSizes m c.self.inside.sum) c.self.view_is c.self.invariant) c.args.ino c.stood-stood.result c.stood-stood.ensures.stood

pub returns-clause-sum : goal.returns-clause-sum
returns-clause-sum c =
    let before = subst (λ m. IsSizes m c.self.inside.sum) c.self.view_is c.self.invariant in
    c.exchanged.ensures
    ∙ sizes_put _ c.self.inside.sum before c.args.ino c.stood-stood.result c.stood-stood.ensures.stood c.greater.result
    ∙ ap (λ v. of_files (map.insert c.args.self.now c.args.ino v)) (c.greater.ensures ∙ ap (λ stood. greater_of stood c.args.size) c.stood-stood.ensures.stood)

pub returns-clause-small : goal.returns-clause-small
returns-clause-small c =
    let before = subst (λ m. IsSizes m c.self.inside.sum) c.self.view_is c.self.invariant in
    let small = subst IsSmall (sym c.greater.ensures) (greater_small c.stood-stood.result c.args.size c.stood-stood.ensures.small c.requires) in
    let after = IsSizes-put _ c.self.inside.sum before c.args.ino c.stood-stood.result c.stood-stood.ensures.stood c.greater.result c.ranges.ino.fits small in
    subst IsSmallSum (sym c.exchanged.ensures) (sizes_sum _ _ after c.args.ino _ refl)
