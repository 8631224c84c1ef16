use Rattle.std.proofs.Common.{◌∙◌, ℕ, ap}
use Rattle.std.specs.Option.{option_map}
use Rattle.f2_model.specs.declared.rows.Kind.{Kind}
use Rattle.f2_model.proofs.MapViews.{lookup-seen}
use Rattle.f2_overlay.proofs.Bringing.{of_names}
use Rattle.f2_overlay.proofs.brought.Brought.get.Goals as goal

pub returns-in_err-names : goal.returns-in_err-names
returns-in_err-names c =
    c.from_residual.ensures ∙ ap (λ names. of_names names c.args.name.now) (c.in_err-names.ensures.value ∙ lookup-seen _ _ c.self.view_is c.args.directory)

pub returns-in_err-ino : goal.returns-in_err-ino
returns-in_err-ino c =
    c.from_residual-in_err-ino.ensures
    ∙ ap (option_map (λ (place : ℕ × Kind). place.0)) c.in_err-ino.ensures
    ∙ ap (λ names. of_names names c.args.name.now) (c.in_ok-names.ensures.value ∙ lookup-seen _ _ c.self.view_is c.args.directory)

pub returns : goal.returns
returns c =
    ap (option_map (λ (place : ℕ × Kind). place.0)) c.in_ok-ino.ensures
    ∙ ap (λ names. of_names names c.args.name.now) (c.in_ok-names.ensures.value ∙ lookup-seen _ _ c.self.view_is c.args.directory)
