use Rattle.std.proofs.Common.{ℕ, ◌∙◌, [], ◌∷◌, ◌++◌, ap, sym, map, arith}
use Rattle.std.specs.List.{range_with_len}
use Rattle.std.proofs.lemmas.List.FromFn.{map-range_with_len_more}
use Rattle.f2_format.specs.Journal.{journal_entry}
use Rattle.f2_recover.proofs.journals.nids_of.Goals as goal

pub loop-place-preserved : goal.loop-place-preserved
loop-place-preserved c =
    c.in_ok-push.ensures.items
    ∙ (λ i. c.loop-place.invariant i ++ c.get32.ensures i ∷ [])
    ∙ sym (map-range_with_len_more (λ place. (journal_entry c.args.summary.now place).0) 0 c.loop-place.place c.loop-place.place (omega arith))

pub returns : goal.returns
returns c = c.loop-place.invariant ∙ ap (λ (n : ℕ). map (λ place. (journal_entry c.args.summary.now place).0) (range_with_len 0 n)) (omega (arith, c.get16-place-end.ensures))
