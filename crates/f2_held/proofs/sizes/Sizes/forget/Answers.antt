use Rattle.std.proofs.Common.{◌∙◌, sym, ap, subst}
use Rattle.std.specs.Option.{unwrap_or}
use Rattle.f2_model.specs.Fallback.{nothing}
use Rattle.f2_model.proofs.MapViews.{lookup-seen, seen-remove}
use Rattle.f2_held.specs.Sums.{IsSizes}
use Rattle.f2_held.proofs.MapSums.{sizes_le, sizes_sum, IsSizes-out}
use Rattle.f2_held.proofs.sizes.Sizes.forget.Goals as goal

pub exchanged-self-inside-requires-clause-nodes : goal.exchanged-self-inside-requires-clause-nodes
exchanged-self-inside-requires-clause-nodes c =
    let stood = c.unwrap_or-stood.ensures ∙ ap (λ o. unwrap_or o nothing) (c.remove.ensures.value ∙ lookup-seen _ _ c.self.view_is c.args.ino) in
    (sizes_le _ c.self.inside.sum (subst (λ m. IsSizes m c.self.inside.sum) c.self.view_is c.self.invariant) c.args.ino c.unwrap_or-stood.result stood).0

pub exchanged-self-inside-requires-clause-pages : goal.exchanged-self-inside-requires-clause-pages
exchanged-self-inside-requires-clause-pages c =
    let stood = c.unwrap_or-stood.ensures ∙ ap (λ o. unwrap_or o nothing) (c.remove.ensures.value ∙ lookup-seen _ _ c.self.view_is c.args.ino) in
    (sizes_le _ c.self.inside.sum (subst (λ m. IsSizes m c.self.inside.sum) c.self.view_is c.self.invariant) c.args.ino c.unwrap_or-stood.result stood).1

pub exchanged-self-inside-requires-clause-sum : goal.exchanged-self-inside-requires-clause-sum
exchanged-self-inside-requires-clause-sum c =
    let stood = c.unwrap_or-stood.ensures ∙ ap (λ o. unwrap_or o nothing) (c.remove.ensures.value ∙ lookup-seen _ _ c.self.view_is c.args.ino) in
    sizes_sum _ c.self.inside.sum (subst (λ m. IsSizes m c.self.inside.sum) c.self.view_is c.self.invariant) c.args.ino c.unwrap_or-stood.result stood

pub invariant_of-self : goal.invariant_of-self
invariant_of-self c =
    let before = subst (λ m. IsSizes m c.self.inside.sum) c.self.view_is c.self.invariant in
    let stood = c.unwrap_or-stood.ensures ∙ ap (λ o. unwrap_or o nothing) (c.remove.ensures.value ∙ lookup-seen _ _ c.self.view_is c.args.ino) in
    let out = IsSizes-out _ c.self.inside.sum before c.args.ino c.unwrap_or-stood.result stood in
    subst (λ m. IsSizes m c.exchanged-self-inside.result) (sym (seen-remove _ _ c.self.view_is _ c.args.ino c.remove.ensures.updates.0)) (subst (IsSizes _) (sym c.exchanged-self-inside.ensures) out)

pub returns : goal.returns
returns c = seen-remove _ _ c.self.view_is _ c.args.ino c.remove.ensures.updates.0
