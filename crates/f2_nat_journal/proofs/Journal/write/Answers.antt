use Rattle.std.proofs.Common.{◌≡◌, below_more, subst, ℕ, ◌+◌, ◌*◌, List, length, take, get_or, sym, ap, ◌∙◌, arith}
use Rattle.std.specs.List.{flat_map}
use Rattle.std.proofs.lemmas.List.{take_all, length-map}
use Rattle.f2_format.specs.Bytes.{number_at, number_bytes, with_bytes, zeros}
use Rattle.f2_format.specs.Journal.{JournalList, journal_entry_bytes, journal_of}
use Rattle.f2_format.proofs.BytesLemmas.{number_at-with_bytes_before}
use Rattle.f2_nat_journal.specs.declared.Item.{Item}
use Rattle.f2_nat_journal.specs.Item.{pair_of, journal_list}
use Rattle.f2_nat_journal.specs.Round.{IsJournal}
use Rattle.f2_nat_journal.proofs.EntryReads.{IsEntry-each, journal_of-summary_block}
use Rattle.f2_nat_journal.proofs.ItemBytes.{with_bytes-nothing, with_bytes-more}
use Rattle.f2_nat_journal.proofs.Journal.write.Goals as goal

pub loop-place-init : goal.loop-place-init
loop-place-init c = (sym (with_bytes-nothing c.put16.new.b 3586), λ k h. absurd (omega arith))

pub loop-place-preserved : goal.loop-place-preserved
loop-place-preserved c =
    let items = c.as_slice-items.result.now in
    let place = c.loop-place.place in
    let blank : Item = record { nid = 0; entry = record { ino = 0; addr = 0 } } in
    let fits = c.as_slice-items.ensures.fits in
    let long = c.put16.array_long in (
      c.write_item.ensures.written
          ∙ ap (λ (b : List ℕ). with_bytes b (3586 + 13 * place) (journal_entry_bytes (pair_of (get_or items place blank)))) c.loop-place.invariant.0
          ∙ with_bytes-more c.put16.new.b items place blank c.loop-place-test.true (omega arith),
      below_more _ _ c.loop-place.invariant.1 c.write_item.ensures.fits,
    )

pub returns-clause-written : goal.returns-clause-written
unfolding zeros
returns-clause-written c =
    let items = c.as_slice-items.result.now in
    let same = ap journal_list c.as_slice-items.ensures.value ∙ c.self.view_is in
    let whole = ap journal_list (take_all c.loop-place.place items c.loop-place-test.false) ∙ same in
    let count : length items ≡ length c.args.self.now = sym (length-map items pair_of) ∙ ap length same in
    c.loop-place.invariant.0
    ∙ ap (λ (j : JournalList). with_bytes c.put16.new.b 3586 (flat_map journal_entry_bytes j)) whole
    ∙ ap (λ (b : List ℕ). with_bytes b 3586 (flat_map journal_entry_bytes c.args.self.now))
    (c.put16.ensures.written ∙ ap (λ (n : ℕ). with_bytes (zeros 4096) 3584 (number_bytes 2 n)) count)

pub returns-clause-count : goal.returns-clause-count
returns-clause-count c =
    let items = c.as_slice-items.result.now in
    let same = ap journal_list c.as_slice-items.ensures.value ∙ c.self.view_is in
    let long = c.put16.array_long in
    let bytes = flat_map journal_entry_bytes (journal_list (take c.loop-place.place items)) in
    ap (λ (b : List ℕ). number_at 2 b 3584) c.loop-place.invariant.0
    ∙ number_at-with_bytes_before 2 c.put16.new.b 3586 bytes 3584 (omega arith) (omega arith)
    ∙ c.put16.ensures.reads_back
    ∙ sym (length-map items pair_of)
    ∙ ap length same

pub returns-clause-reads_back : goal.returns-clause-reads_back
returns-clause-reads_back c =
    let items = c.as_slice-items.result.now in
    let same = ap journal_list c.as_slice-items.ensures.value ∙ c.self.view_is in
    let sound : IsJournal (journal_list items) =
    record {
      count = omega (arith, length-map items pair_of);
      entries = IsEntry-each items (λ k h. c.loop-place.invariant.1 k (omega arith));
    } in
    ap journal_of (returns-clause-written c)
    ∙ journal_of-summary_block c.args.self.now (subst IsJournal same sound)
