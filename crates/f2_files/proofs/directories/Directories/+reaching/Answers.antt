use Rattle.std.proofs.Common.{◌≡◌, ◌≢◌, ℕ, zero, suc, ◌-◌, ap, refl, arith, ◌∙◌}
use Rattle.std.specs.FinMap as map
use Rattle.f2_model.proofs.MapViews.{lookup-seen}
use Rattle.f2_files.specs.Led.{Dirs, any_below, reaches}
use Rattle.f2_files.proofs.directories.Directories.+reaching.Goals as goal

reaches_on : (dirs : Dirs) (steps directory : ℕ) → steps ≢ 0 → any_below (reaches dirs (steps - 1)) (map.get dirs directory) ≡ reaches dirs steps directory
reaches_on dirs zero directory some = absurd (some refl)
reaches_on dirs (suc steps) directory some = let less : suc steps - 1 ≡ steps = omega arith in ap (λ n. any_below (reaches dirs n) (map.get dirs directory)) less

pub reaches-returns-in-Some : goal.reaches-returns-in-Some
reaches-returns-in-Some t c =
    c.any_reaches.ensures ∙ ap (any_below (reaches c.args.self.now (c.args.steps - 1))) (c.in-Some.ensures.value ∙ lookup-seen _ _ c.self.view_is c.args.directory) ∙ reaches_on c.args.self.now c.args.steps c.args.directory (omega arith)

pub reaches-returns-in-None : goal.reaches-returns-in-None
reaches-returns-in-None t c =
    ap (any_below (reaches c.args.self.now (c.args.steps - 1))) (c.in-None.ensures.value ∙ lookup-seen _ _ c.self.view_is c.args.directory) ∙ reaches_on c.args.self.now c.args.steps c.args.directory (omega arith)
