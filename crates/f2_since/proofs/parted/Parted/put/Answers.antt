use Rattle.std.proofs.Common.{◌∙◌, sym, ap, is_some}
use Rattle.f2_model.proofs.MapViews.{lookup-seen}
use Rattle.f2_since.proofs.parted.Parted.put.Goals as goal

pub put_beside-requires : goal.put_beside-requires
put_beside-requires c = sym (c.contains_key.ensures ∙ ap is_some (lookup-seen _ _ c.self.view_is c.args.directory)) ∙ c.if-contains_key.true

pub put_first-requires : goal.put_first-requires
put_first-requires c = sym (c.contains_key.ensures ∙ ap is_some (lookup-seen _ _ c.self.view_is c.args.directory)) ∙ c.if-contains_key.false
