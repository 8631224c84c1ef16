use Rattle.std.proofs.Common.{◌≡◌, ◌∙◌, None, sym}
use Rattle.std.specs.Prelude.{Result, OnErr, Ok, Err}
use Rattle.std.specs.FinMap as map
use Rattle.f2_model.proofs.MapViews.{lookup-seen, seen-insert}
use Rattle.f2_overlay.proofs.addresses.Addresses.set.Goals as goal

on_err : {A E : Type 0} (r : Result A E) (P : Type 0) → P → OnErr r P
on_err (Ok a) P p = tt
on_err (Err e) P p = p

pub returns-in_err-insert-clause-only_new : goal.returns-in_err-insert-clause-only_new
returns-in_err-insert-clause-only_new c = on_err _ (map.get c.args.self.now c.args.page ≡ None) (sym (lookup-seen _ _ c.self.view_is c.args.page) ∙ c.in_err-insert.ensures.absent)

pub returns-clause-ok : goal.returns-clause-ok
returns-clause-ok c = seen-insert _ _ c.self.view_is _ c.args.page c.args.at c.in_ok-insert.ensures.updates.0
