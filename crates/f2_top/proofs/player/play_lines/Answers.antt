use Rattle.std.proofs.Common.{arith, refl, sym, subst, ℕ, List, ◌∙◌}
use Rattle.std.specs.Io.KnownBytes.{Appends}
use Rattle.f2_top.specs.Streams.{PutsSome}
use Rattle.f2_top.proofs.PutLemmas.{Puts-err, Puts-ok}
use Rattle.f2_top.proofs.CoreLemmas.{counts-on}
use Rattle.f2_top.proofs.PlayLemmas.{Runs-start, Runs-step, Runs-some, Runs-end, Runs-fails, All-tail, none-left}
use Rattle.f2_top.proofs.player.play_lines.Goals as goal

pub loop-line-init : goal.loop-line-init
loop-line-init g c = record {
  runs = λ counts. Runs-start _ c.args.core _ _;
  geometry = refl;
  playable = c.requires.playable;
  calm = record { calm = c.requires.calm; same_faults = refl };
  later = omega arith;
}

pub returns-in_default-play_line-clause-ends : goal.returns-in_default-play_line-clause-ends
returns-in_default-play_line-clause-ends g c = λ counts. Runs-some _ _ _ _ _ _ _ _ (c.loop-line.invariant.runs counts)

pub returns-then-is_err-clause-ends : goal.returns-then-is_err-clause-ends
returns-then-is_err-clause-ends g c =
    let i = c.loop-line.invariant in
    λ counts.
    Runs-fails _ _ _ _ _ _ _ _ _ _ _ _ _ _ c.in-Some.ensures.items i.geometry (c.in-Ok.ensures.played (counts-on _ _ i.calm counts))
    (subst (λ (t : List ℕ). PutsSome (g.K.Sink.written c.loop-line.sink) (g.K.Sink.written c.put.new.sink) t) c.as_slice.ensures.value
    (Puts-err _ _ _ _ (sym c.is_err.ensures.value ∙ c.if-is_err.true) c.put.ensures.bytes))
    (i.runs counts)

pub loop-line-preserved : goal.loop-line-preserved
loop-line-preserved g c =
    let i = c.loop-line.invariant in
    record {
      runs = λ counts.
          Runs-step _ _ _ _ _ _ _ _ _ _ _ _ _ _ c.in-Some.ensures.items i.geometry (c.in-Ok.ensures.played (counts-on _ _ i.calm counts))
          (subst (λ (t : List ℕ). Appends (g.K.Sink.written c.loop-line.sink) (g.K.Sink.written c.put.new.sink) t) c.as_slice.ensures.value
          (Puts-ok _ _ _ _ (sym c.is_err.ensures.value ∙ c.if-is_err.false) c.put.ensures.bytes))
          (i.runs counts);
      geometry = c.play_line.ensures.geometry ∙ i.geometry;
      playable = All-tail _ _ _ _ c.in-Some.ensures.items i.playable;
      calm = record { calm = c.play_line.ensures.calm.calm; same_faults = c.play_line.ensures.calm.same_faults ∙ i.calm.same_faults };
      later = omega (arith, i.later, c.put.ensures.cause.later);
    }

pub returns-clause-ends : goal.returns-clause-ends
returns-clause-ends g c = λ counts.
    rw c.into_disk-2.ensures
    (Runs-end _ _ _ _ _ _ _ _ (none-left _ (sym c.loop-line.lines.rest.ok.0 ∙ c.in_default.ensures.cases.0)) (c.loop-line.invariant.runs counts))
