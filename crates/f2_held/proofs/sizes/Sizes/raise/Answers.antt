use Rattle.std.proofs.Common.{◌∙◌, sym, ap, subst}
use Rattle.std.specs.FinMap as map
use Rattle.f2_model.specs.Fallback.{greater_of}
use Rattle.f2_model.proofs.MapViews.{seen-insert}
use Rattle.f2_held.specs.Sums.{IsSmall, IsSizes}
use Rattle.f2_held.proofs.MapSums.{sizes_le, sizes_sum, IsSizes-put, greater_small}
use Rattle.f2_held.proofs.sizes.Sizes.raise.Goals as goal

pub exchanged-self-inside-requires-clause-nodes : goal.exchanged-self-inside-requires-clause-nodes
exchanged-self-inside-requires-clause-nodes c =
    (sizes_le _ c.self.inside.sum (subst (λ m. IsSizes m c.self.inside.sum) c.self.view_is c.self.invariant) c.args.ino c.stood-stood.result c.stood-stood.ensures.stood).0

pub exchanged-self-inside-requires-clause-pages : goal.exchanged-self-inside-requires-clause-pages
exchanged-self-inside-requires-clause-pages c =
    (sizes_le _ c.self.inside.sum (subst (λ m. IsSizes m c.self.inside.sum) c.self.view_is c.self.invariant) c.args.ino c.stood-stood.result c.stood-stood.ensures.stood).1

pub exchanged-self-inside-requires-clause-sum : goal.exchanged-self-inside-requires-clause-sum
exchanged-self-inside-requires-clause-sum c =
    sizes_sum _ c.self.inside.sum (subst (λ m. IsSizes m c.self.inside.sum) c.self.view_is c.self.invariant) c.args.ino c.stood-stood.result c.stood-stood.ensures.stood

pub invariant_of-self-2 : goal.invariant_of-self-2
invariant_of-self-2 c =
    let before = subst (λ m. IsSizes m c.self.inside.sum) c.self.view_is c.self.invariant in
    let raised = c.greater-raised.result in
    let small = subst IsSmall (sym c.greater-raised.ensures) (greater_small c.stood-stood.result c.args.size c.stood-stood.ensures.small c.requires) in
    let seen = seen-insert _ _ c.self.view_is _ c.args.ino raised c.in_ok-insert.ensures.updates.0 in
    subst (λ m. IsSizes m c.exchanged-self-inside.result) (sym seen)
    (subst (IsSizes _) (sym c.exchanged-self-inside.ensures) (IsSizes-put _ c.self.inside.sum before c.args.ino c.stood-stood.result c.stood-stood.ensures.stood raised c.ranges.ino.fits small))

pub returns-clause-ok : goal.returns-clause-ok
returns-clause-ok c =
    seen-insert _ _ c.self.view_is _ c.args.ino c.greater-raised.result c.in_ok-insert.ensures.updates.0
    ∙ ap (map.insert c.args.self.now c.args.ino) (c.greater-raised.ensures ∙ ap (λ stood. greater_of stood c.args.size) c.stood-stood.ensures.stood)
