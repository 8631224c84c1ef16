use Rattle.std.proofs.Common.{◌≡◌, ◌∙◌, ◌++◌, List, ℕ, sym, ap, subst}
use Rattle.std.specs.Prelude.{None}
use Rattle.std.specs.Vec.Iter.{into_iter_items}
use Rattle.f2_script.specs.declared.script.Line.{Line}
use Rattle.f2_spans.specs.Spans.{MOST_SIZE}
use Rattle.f2_play.specs.Scripts.{PlaysFirst}
use Rattle.f2_reference_run.specs.Chosen.{IsScriptChosen}
use Rattle.f2_reference_run.proofs.Running.{Progress, progress_start, progress_step, progress_some, progress_end, progress_stops, on_success, on_failure, none_left}
use Rattle.f2_reference_run.proofs.scripts.run_lines.Goals as goal

pub loop-line-init : goal.loop-line-init
loop-line-init c =
    let all = c.args.lines.items in
    subst (λ (left : List Line). Progress all left None c.new-text.result.items) (sym c.into_iter-lines.ensures.rest)
    (subst (λ (text : List ℕ). Progress all all None text) (sym c.new-text.ensures.items) (progress_start all c.requires))

pub returns-in-Err : goal.returns-in-Err
returns-in-Err c = progress_stops c.in-Err.status _ _ _ c.in-Some.line _ _ c.in-Some.ensures.items c.loop-line.invariant c.in-Err.ensures

pub loop-line-preserved : goal.loop-line-preserved
loop-line-preserved c =
    let added = on_success _ _ _ _ (sym c.is_err.ensures.value ∙ c.if-is_err.false) c.extend_from_slice.ensures.items in
    let text : c.extend_from_slice.new.self.items ≡ c.loop-line.text.items ++ c.in-Ok.played.1.items = added ∙ ap (λ more. c.loop-line.text.items ++ more) c.as_slice.ensures.value in
    subst (λ (t : List ℕ). Progress c.args.lines.items (into_iter_items c.next.new.self) c.in-Ok.played.0 t) (sym text)
    (progress_step _ _ _ c.in-Some.line _ _ _ _ c.in-Some.ensures.items c.loop-line.invariant c.in-Ok.ensures)

pub returns-then-is_err : goal.returns-then-is_err
returns-then-is_err c =
    let same = on_failure _ _ _ _ (sym c.is_err.ensures.value ∙ c.if-is_err.true) c.extend_from_slice.ensures.items in
    subst (λ (t : List ℕ). PlaysFirst MOST_SIZE IsScriptChosen c.args.lines.items t) (sym same) (progress_some _ _ _ _ c.loop-line.invariant)

pub returns : goal.returns
returns c = progress_end _ _ _ _ (none_left _ (sym c.loop-line.lines.rest.ok.0 ∙ c.in_default.ensures.cases.0)) c.loop-line.invariant
