use Rattle.std.proofs.Common.{◌∙◌, ap}
use Rattle.std.specs.Option.{option_map}
use Rattle.f2_model.proofs.MapViews.{lookup-seen}
use Rattle.f2_since.specs.Counted.{holder_among}
use Rattle.f2_since.proofs.parted.Parted.holder.Goals as goal

pub returns-in_err-names : goal.returns-in_err-names
returns-in_err-names c = c.from_residual.ensures ∙ ap (holder_among c.args.name.now) (c.in_err-names.ensures.value ∙ lookup-seen _ _ c.self.view_is c.args.directory)

pub returns-in_err-place : goal.returns-in_err-place
returns-in_err-place c = c.from_residual-in_err-place.ensures ∙ ap (option_map (λ place. place.0)) c.in_err-place.ensures ∙ ap (holder_among c.args.name.now) (c.in_ok-names.ensures.value ∙ lookup-seen _ _ c.self.view_is c.args.directory)

pub returns : goal.returns
returns c = ap (option_map (λ place. place.0)) c.in_ok-place.ensures ∙ ap (holder_among c.args.name.now) (c.in_ok-names.ensures.value ∙ lookup-seen _ _ c.self.view_is c.args.directory)
