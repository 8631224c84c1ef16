use Rattle.std.proofs.Common.{◌≡◌, true, false, eqb, Some, None, List, length, get_or, refl, sym, ap, ◌∙◌}
use Rattle.std.specs.List.{position}
use Rattle.std.proofs.lemmas.Bool.{eqb-true}
use Rattle.std.proofs.lemmas.List.{length-map}
use Rattle.f2_format.specs.Journal.{JournalList, journal_find, journal_with}
use Rattle.f2_nat_block.specs.NatEntry.{place_of}
use Rattle.f2_nat_journal.specs.declared.Item.{Item}
use Rattle.f2_nat_journal.specs.Item.{pair_of, journal_list}
use Rattle.f2_nat_journal.proofs.ItemLists.{find_found, find_missing, with_found, with_missing, refill-set}
use Rattle.f2_nat_journal.proofs.Journal.put.Goals as goal

pub returns-in-Some-clause-ok : goal.returns-in-Some-clause-ok
returns-in-Some-clause-ok c =
    let items = c.self.inside.items.items in
    let item : Item = record { nid = c.args.nid; entry = c.args.e } in
    let found : position (λ (i : Item). eqb i.nid c.args.nid) items ≡ Some c.in-Some.place =
    sym (c.in-Some.ensures ∙ ap (λ (xs : List Item). position (λ (i : Item). eqb i.nid c.args.nid) xs) c.as_slice.ensures.value) in
    ap journal_list (refill-set items c.as_mut_slice.result.now c.in-Some.place item c.as_mut_slice.ensures.value)
    ∙ sym (with_found items item c.in-Some.place found)
    ∙ ap (λ (j : JournalList). journal_with j c.args.nid (place_of c.args.e)) c.self.view_is

pub returns-in-Some-clause-full : goal.returns-in-Some-clause-full
returns-in-Some-clause-full c =
    let items = c.self.inside.items.items in
    let item : Item = record { nid = c.args.nid; entry = c.args.e } in
    let found : position (λ (i : Item). eqb i.nid c.args.nid) items ≡ Some c.in-Some.place =
    sym (c.in-Some.ensures ∙ ap (λ (xs : List Item). position (λ (i : Item). eqb i.nid c.args.nid) xs) c.as_slice.ensures.value) in
    let first : journal_find c.args.self.now c.args.nid ≡ Some (place_of (get_or items c.in-Some.place item).entry) =
    ap (λ (j : JournalList). journal_find j c.args.nid) (sym c.self.view_is) ∙ find_found items c.args.nid c.in-Some.place item found in
    ((λ (e : false ≡ true). cc), (λ h. let clash = sym first ∙ h.0 in cc))

pub returns-in-None-clause-full : goal.returns-in-None-clause-full
returns-in-None-clause-full c =
    let items = c.self.inside.items.items in
    let item : Item = record { nid = c.args.nid; entry = c.args.e } in
    let none : position (λ (i : Item). eqb i.nid c.args.nid) items ≡ None =
    sym (c.in-None.ensures ∙ ap (λ (xs : List Item). position (λ (i : Item). eqb i.nid c.args.nid) xs) c.as_slice.ensures.value) in
    let missing : journal_find c.args.self.now c.args.nid ≡ None =
    ap (λ (j : JournalList). journal_find j c.args.nid) (sym c.self.view_is) ∙ find_missing items c.args.nid item none in
    let count : length c.args.self.now ≡ length items = ap length (sym c.self.view_is) ∙ length-map items pair_of in
    let full : eqb (length items) 38 ≡ true = sym c.is_full.ensures.value ∙ c.if-is_full.true in
    ((λ _. (missing, count ∙ eqb-true (length items) 38 full)), (λ _. refl))

pub returns-in-None-2-clause-ok : goal.returns-in-None-2-clause-ok
returns-in-None-2-clause-ok c =
    let items = c.self.inside.items.items in
    let item : Item = record { nid = c.args.nid; entry = c.args.e } in
    let none : position (λ (i : Item). eqb i.nid c.args.nid) items ≡ None =
    sym (c.in-None-2.ensures ∙ ap (λ (xs : List Item). position (λ (i : Item). eqb i.nid c.args.nid) xs) c.as_slice.ensures.value) in
    ap journal_list c.push.ensures.items
    ∙ sym (with_missing items item none)
    ∙ ap (λ (j : JournalList). journal_with j c.args.nid (place_of c.args.e)) c.self.view_is
