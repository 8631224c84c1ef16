use Rattle.std.proofs.Common.{sym, subst, List, ℕ, IfOk}
use Rattle.f2_script.specs.declared.script.Line.{Line}
use Rattle.f2_script.specs.declared.script.Line.TheVariants.{Skipped}
use Rattle.f2_reference_run.specs.Chosen.{PlaysOn}
use Rattle.f2_reference_run.proofs.Playing.{if_ok, plays_said, plays_skipped, plays_tree}
use Rattle.f2_reference_run.proofs.player.Player.play.Goals as goal

pub returns-in-Skipped : goal.returns-in-Skipped
returns-in-Skipped c =
    subst (λ (line : Line). PlaysOn c.args.self.now line c.new.result.items c.args.self.now) (sym c.in-Skipped.is)
    (subst (λ (text : List ℕ). PlaysOn c.args.self.now Skipped text c.args.self.now) (sym c.new.ensures.items) (plays_skipped c.args.self.now))

pub returns-in-Tree : goal.returns-in-Tree
returns-in-Tree c =
    subst (λ (line : Line). IfOk c.tree.result (λ printed. PlaysOn c.args.self.now line printed.items c.args.self.now)) (sym c.in-Tree.is)
    (if_ok _ _ c.tree.result (λ printed is. plays_tree c.args.self.now printed.items is) c.tree.ensures)

pub returns-in_ok-push-in_default : goal.returns-in_ok-push-in_default
returns-in_ok-push-in_default c =
    plays_said c.args.self.now c.say.new.self c.args.line c.in_ok-text-in_default.text.items _ c.in_ok-text-in_default.ensures c.in_ok-push-in_default.ensures.items
