use Rattle.std.proofs.Common.{ap, ◌∙◌}
use Rattle.f2_play.specs.Lines.{tree_shown}
use Rattle.f2_top.proofs.CoreLemmas.{PlaysOn-tree}
use Rattle.f2_top.proofs.PlayLemmas.{IfOk-map}
use Rattle.f2_top.proofs.player.play_tree.Goals as goal

pub returns-in-Some : goal.returns-in-Some
returns-in-Some g c =
    IfOk-map _ _ c.tree_text.result (λ v h. PlaysOn-tree _ c.args.core.now v.items (h ∙ ap tree_shown c.in-Some.ensures)) c.tree_text.ensures

pub returns-in-None : goal.returns-in-None
returns-in-None g c =
    IfOk-map _ _ c.from_slice.result (λ v h. PlaysOn-tree _ c.args.core.now v.items (h ∙ ap tree_shown c.in-None.ensures)) c.from_slice.ensures.items
