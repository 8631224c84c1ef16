use Rattle.std.proofs.Common.{◌≡◌, [], ◌∷◌, Some, true, false, is_some, sym, ap, ◌∙◌, subst, arith}
use Rattle.f2_model.specs.declared.replies.Step.TheVariants as step
use Rattle.f2_model.specs.declared.histories.Entry.TheVariants as entry
use Rattle.f2_model.specs.Tree.{Rows}
use Rattle.f2_reference_state.specs.Seen.{Seen, told}
use Rattle.f2_reference.specs.Going.{GoesTo}
use Rattle.f2_reference.proofs.GoSteps.{is_some-copied, done-GoesTo, block-GoesTo, tail-GoesTo}
use Rattle.f2_reference.proofs.goes.go_check.Goals as goal

pub returns-then-is_some-clause-ok : goal.returns-then-is_some-clause-ok
returns-then-is_some-clause-ok c =
    let there : is_some c.args.plain.now.state.pending ≡ true = sym (ap is_some c.pending.ensures) ∙ is_some-copied _ ∙ sym c.is_some.ensures ∙ c.if-is_some.true in
    subst (λ r. GoesTo c.args.plain.now c.completes.new.self c.args.seat (step.Replied r)) (sym c.reply_of_plan.ensures)
    (done-GoesTo c.args.plain.now c.completes.new.self c.args.seat c.args.plan c.requires.flight c.requires.unshut there c.in_ok-completes.ensures.ok)

pub returns-then-blocks-gt0-clause-ok : goal.returns-then-blocks-gt0-clause-ok
returns-then-blocks-gt0-clause-ok c =
    let none : is_some c.args.plain.now.state.pending ≡ false = sym (ap is_some c.pending.ensures) ∙ is_some-copied _ ∙ sym c.is_some.ensures ∙ c.if-is_some.false in
    block-GoesTo c.args.plain.now c.wrote_block.new.self c.args.seat c.args.plan c.requires.flight c.requires.unshut none (omega (arith, c.blocks-2.ensures, c.if-blocks-gt0.true)) c.wrote_block.ensures

pub returns-clause-ok : goal.returns-clause-ok
returns-clause-ok c =
    let old = c.args.plain.now in
    let none : is_some old.state.pending ≡ false = sym (ap is_some c.pending.ensures) ∙ is_some-copied _ ∙ sym c.is_some.ensures ∙ c.if-is_some.false in
    let same : c.in_ok-tree-2.tree ≡ old.state.live = c.in_ok-tree-2.ensures ∙ c.live-2.ensures in
    tail-GoesTo old c.wrote_tail.new.self c.args.seat c.args.plan c.requires.flight c.requires.unshut none (omega (arith, c.blocks-2.ensures, c.if-blocks-gt0.false))
    (c.in_ok-wrote_tail.ensures.ok ∙ ap {A = Rows} {B = Seen} (λ tree. told old (entry.CpTail c.args.seat ∷ []) [] (record old.state { pending = Some tree })) same)
