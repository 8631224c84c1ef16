use Rattle.std.proofs.Common.{◌≡◌, ℕ, ◌∙◌, List, [], ◌∷◌, ◌++◌, length, ap, sym, arith}
use Rattle.std.proofs.lemmas.List.FromFn.{length-map-range_with_len, map-range_with_len_more}
use Rattle.f2_format.specs.Journal.{journal_count, journal_entry}
use Rattle.f2_nat_cache.proofs.Journals.{entries-fit, nids-read}
use Rattle.f2_nat_cache.proofs.journal.nids_of.Goals as goal

pub get32-requires : goal.get32-requires
get32-requires c =
    let fit = entries-fit c.write.new.b c.args.journal.now c.write.ensures.written c.write.array_long in
    let count = c.get16-place-end.ensures ∙ c.write.ensures.count in
    omega (arith, fit, count)

pub push-requires : goal.push-requires
push-requires c =
    let fit = entries-fit c.write.new.b c.args.journal.now c.write.ensures.written c.write.array_long in
    let count = c.get16-place-end.ensures ∙ c.write.ensures.count in
    let long = ap (λ (xs : List ℕ). length xs) c.loop-place.invariant ∙ length-map-range_with_len (λ place. (journal_entry c.write.new.b place).0) 0 c.loop-place.place in
    omega (arith, fit, count, long)

pub loop-place-preserved : goal.loop-place-preserved
loop-place-preserved c =
    c.push.ensures.items
    ∙ (λ i. c.loop-place.invariant i ++ c.get32.ensures i ∷ [])
    ∙ sym (map-range_with_len_more (λ place. (journal_entry c.write.new.b place).0) 0 c.loop-place.place c.loop-place.place (omega arith))

pub returns : goal.returns
returns c =
    let whole : c.loop-place.place ≡ journal_count c.write.new.b = omega (arith, c.get16-place-end.ensures) in
    c.loop-place.invariant ∙ nids-read c.write.new.b c.args.journal.now c.loop-place.place c.write.ensures.reads_back whole
