use Rattle.std.proofs.Common.{ℕ, List, [], ◌∷◌, ◌++◌, map, sym, ap, ◌∙◌, arith}
use Rattle.std.specs.List.{range_with_len}
use Rattle.std.proofs.lemmas.List.{map-append}
use Rattle.std.proofs.lemmas.List.FromFn.{map-range_with_len_more}
use Rattle.f2_format.specs.Nat.{NodePlace}
use Rattle.f2_format.specs.Journal.{journal_entry}
use Rattle.f2_nat_journal.specs.Item.{pair_of, journal_list}
use Rattle.f2_nat_journal.proofs.Journal.read.Goals as goal

pub loop-place-preserved : goal.loop-place-preserved
loop-place-preserved c =
    let items = c.loop-place.items.items in
    let place = c.loop-place.place in
    let entries = map (journal_entry c.args.b.now) (range_with_len 0 place) in
    let count = c.push.ensures.len in
    let before = c.loop-place.invariant.0 in (
      omega arith,
      ap journal_list c.push.ensures.items
          ∙ map-append pair_of items (c.read_item.result ∷ [])
          ∙ ap (λ (j : List (ℕ × NodePlace)). j ++ pair_of c.read_item.result ∷ []) c.loop-place.invariant.1
          ∙ ap (λ (e : ℕ × NodePlace). entries ++ e ∷ []) c.read_item.ensures
          ∙ sym (map-range_with_len_more (journal_entry c.args.b.now) 0 place place (omega arith)),
    )
