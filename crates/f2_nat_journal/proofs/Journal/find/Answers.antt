use Rattle.std.proofs.Common.{◌≡◌, eqb, Some, None, List, get_or, sym, ap, ◌∙◌}
use Rattle.std.specs.Prelude.{option_map}
use Rattle.std.specs.List.{position}
use Rattle.f2_format.specs.Journal.{JournalList, journal_find}
use Rattle.f2_nat_block.specs.NatEntry.{entry_of, place_of}
use Rattle.f2_nat_journal.specs.declared.Item.{Item}
use Rattle.f2_nat_journal.proofs.ItemLists.{find_found, find_missing}
use Rattle.f2_nat_journal.proofs.Journal.find.Goals as goal

pub returns-in-Some : goal.returns-in-Some
returns-in-Some c =
    let items = c.self.inside.items.items in
    let blank : Item = record { nid = 0; entry = record { ino = 0; addr = 0 } } in
    let found : position (λ (i : Item). eqb i.nid c.args.nid) items ≡ Some c.in-Some.place =
    sym (c.in-Some.ensures ∙ ap (λ (xs : List Item). position (λ (i : Item). eqb i.nid c.args.nid) xs) c.as_slice-items.ensures.value) in
    let first : journal_find c.args.self.now c.args.nid ≡ Some (place_of (get_or items c.in-Some.place blank).entry) =
    ap (λ (j : JournalList). journal_find j c.args.nid) (sym c.self.view_is) ∙ find_found items c.args.nid c.in-Some.place blank found in
    ap (λ (xs : List Item). Some (get_or xs c.in-Some.place blank).entry) c.as_slice-items.ensures.value ∙ ap (option_map entry_of) (sym first)

pub returns-in-None : goal.returns-in-None
returns-in-None c =
    let items = c.self.inside.items.items in
    let blank : Item = record { nid = 0; entry = record { ino = 0; addr = 0 } } in
    let none : position (λ (i : Item). eqb i.nid c.args.nid) items ≡ None =
    sym (c.in-None.ensures ∙ ap (λ (xs : List Item). position (λ (i : Item). eqb i.nid c.args.nid) xs) c.as_slice-items.ensures.value) in
    ap (option_map entry_of) (sym (ap (λ (j : JournalList). journal_find j c.args.nid) (sym c.self.view_is) ∙ find_missing items c.args.nid blank none))
