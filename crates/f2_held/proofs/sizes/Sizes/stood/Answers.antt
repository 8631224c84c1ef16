use Rattle.std.proofs.Common.{◌∙◌, sym, ap, subst}
use Rattle.std.specs.Option.{unwrap_or}
use Rattle.f2_model.specs.Fallback.{nothing}
use Rattle.f2_model.proofs.MapViews.{lookup-seen}
use Rattle.f2_held.specs.Taken.{size_of}
use Rattle.f2_held.specs.Sums.{IsSmall}
use Rattle.f2_held.proofs.MapSums.{size_small}
use Rattle.f2_held.proofs.sizes.Sizes.stood.Goals as goal

pub returns-clause-stood : goal.returns-clause-stood
returns-clause-stood c = c.unwrap_or.ensures ∙ ap (λ o. unwrap_or o nothing) (c.copied.ensures ∙ c.get.ensures.value ∙ lookup-seen _ _ c.self.view_is c.args.ino)

pub returns-clause-small : goal.returns-clause-small
returns-clause-small c =
    let stood = c.unwrap_or.ensures ∙ ap (λ o. unwrap_or o nothing) (c.copied.ensures ∙ c.get.ensures.value ∙ lookup-seen _ _ c.self.view_is c.args.ino) in
    subst IsSmall (sym stood) (subst (λ m. IsSmall (size_of m c.args.ino)) c.self.view_is (size_small _ c.self.invariant.small c.args.ino))
