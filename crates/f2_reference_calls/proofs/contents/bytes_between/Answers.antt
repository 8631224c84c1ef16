use Rattle.std.proofs.Common.{◌+◌, ◌-◌, ◌++◌, ◌∷◌, [], map, ap, sym, ◌∙◌, append_assoc}
use Rattle.std.specs.List.{range_with_len}
use Rattle.f2_model.specs.Content.{byte_at}
use Rattle.f2_spans.proofs.Ranges.{range_step}
use Rattle.f2_reference_calls.proofs.contents.bytes_between.Goals as goal

pub loop-offset-preserved : goal.loop-offset-preserved
loop-offset-preserved c =
    let told = byte_at c.args.pages.now in
    let offset = c.loop-offset.offset in
    let to = c.args.to in
    let rest = map told (range_with_len (offset + 1) (to - (offset + 1))) in
    ap (λ bytes. bytes ++ rest) c.in_ok-push.ensures.ok
    ∙ append_assoc c.loop-offset.bytes (c.byte_at.result ∷ []) rest
    ∙ ap (λ byte. c.loop-offset.bytes ++ byte ∷ rest) c.byte_at.ensures
    ∙ sym (ap (λ offsets. c.loop-offset.bytes ++ map told offsets) (range_step offset to c.loop-offset-test.true))
    ∙ c.loop-offset.invariant
