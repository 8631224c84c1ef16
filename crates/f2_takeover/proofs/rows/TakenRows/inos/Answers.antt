use Rattle.std.proofs.Common.{ℕ, List, ◌≡◌, IfOk, subst, rules}
use Rattle.f2_model.proofs.MapViews.{keys_of-seen}
use Rattle.f2_takeover.proofs.rows.TakenRows.inos.Goals as goal

pub returns : goal.returns
returns c = subst (λ (ks : List ℕ). IfOk c.collect.result (λ inos. inos.items ≡ ks)) (keys_of-seen _ _ c.self.view_is c.keys.ensures.ordered) (search rules)
