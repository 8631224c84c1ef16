use Rattle.std.proofs.Common.{◌+◌, ◌-◌, ◌++◌, ◌∷◌, [], map, ap, sym, ◌∙◌, append_assoc}
use Rattle.std.specs.Prelude.{slice_index}
use Rattle.std.specs.List.{range_with_len}
use Rattle.f2_spans.proofs.Ranges.{range_step}
use Rattle.f2_state.proofs.reading.append.Goals as goal

pub loop-at-preserved : goal.loop-at-preserved
loop-at-preserved c =
    let told = slice_index c.args.block.now in
    let at = c.loop-at.at in
    let to = c.args.to in
    let rest = map told (range_with_len (at + 1) (to - (at + 1))) in
    ap (λ bytes. bytes ++ rest) c.in_ok-push.ensures.ok
    ∙ append_assoc c.loop-at.bytes (told at ∷ []) rest
    ∙ sym (ap (λ places. c.loop-at.bytes ++ map told places) (range_step at to c.loop-at-test.true))
    ∙ c.loop-at.invariant
