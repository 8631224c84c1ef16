use Rattle.std.proofs.Common.{◌≡◌, ℕ, ◌+◌, ◌*◌, ◌<◌, ◌∙◌, List, [], ◌∷◌, ◌++◌, length, take, get_or, Some, None, ap, sym, arith}
use Rattle.std.proofs.lemmas.List.{get_or-map, length-map, take_all}
use Rattle.f2_format.specs.Nat.{NodePlace}
use Rattle.f2_format.specs.Journal.{JournalList, journal_find}
use Rattle.f2_nat_block.specs.declared.entries.NatEntry.{NatEntry}
use Rattle.f2_nat_block.specs.NatEntry.{entry_of, place_of}
use Rattle.f2_nat_cache.specs.Entries.{Entries, nids_of}
use Rattle.f2_nat_cache.specs.Plan.{latest_of, renewed, merged_below}
use Rattle.f2_nat_cache.specs.Table.{pending}
use Rattle.f2_nat_cache.proofs.Merged.{merged-skip, merged-all, merged-none, merged-longer, none_counted, renewed-more, renewed-absent, renewed-pending}
use Rattle.f2_nat_cache.proofs.pending.merged.Goals as goal
use Rattle.f2_nat_cache.proofs.pending.merged.Goals.{in-Some, in_default, then-count-gt0, else-count-gt0}

-- an entry that stands where there is none
blank : ℕ × NodePlace
blank = (0, (0, 0))

-- the nid at a place is that of the journal's entry there
nid_is : (nids : List ℕ) (journal : JournalList) (i : ℕ) → nids ≡ nids_of journal → i < length nids → (get_or nids i 0 ≡ (get_or journal i blank).0) × (i < length journal)
unfolding blank
nid_is nids journal i is h =
    let long = ap (λ (ns : List ℕ). length ns) is in
    (let within : i < length journal = omega (arith, long, length-map journal (λ (e : ℕ × NodePlace). e.0), h) in
    (ap (λ (ns : List ℕ). get_or ns i 0) is ∙ get_or-map (λ (e : ℕ × NodePlace). e.0) journal i (0, (0, 0)) 0 within, within))

-- the latest place of an entry
latest_is : (dirty : Entries) (journal : JournalList) (entry : ℕ × NodePlace) (e : NatEntry) → Some e ≡ Some (entry_of (latest_of dirty entry)) → place_of e ≡ latest_of dirty entry
latest_is dirty journal entry e same = let one : e ≡ entry_of (latest_of dirty entry) = cc in ap place_of one

pub append-requires-clause-absent : goal.append-requires-clause-absent
append-requires-clause-absent c =
    let at = nid_is c.nids-nid-items.result.now c.args.journal.now c.loop-nid.nid-index c.nids-nid-items.ensures.nids c.loop-nid-test.true in
    ap (λ (j : JournalList). journal_find j (get_or c.nids-nid-items.result.now c.loop-nid.nid-index 0)) c.loop-nid.invariant
    ∙ ap (journal_find (renewed c.args.dirty.now.entries (take c.loop-nid.nid-index c.args.journal.now))) at.0
    ∙ renewed-absent c.args.dirty.now.entries c.args.journal.now c.loop-nid.nid-index blank at.1 c.nids-nid-items.ensures.once

pub loop-block-init : goal.loop-block-init
loop-block-init c =
    let long = ap (λ (ns : List ℕ). length ns) c.nids-nid-items.ensures.nids in
    let all = take_all c.loop-nid.nid-index c.args.journal.now (omega (arith, c.loop-nid-test.false, long, length-map c.args.journal.now (λ (e : ℕ × NodePlace). e.0))) in
    c.loop-nid.invariant ∙ ap (renewed c.args.dirty.now.entries) all ∙ sym (merged-none c.args.dirty.now.entries c.args.journal.now)

pub append_new-requires-clause-room : goal.append_new-requires-clause-room
append_new-requires-clause-room c =
    let all = ap (λ (j : JournalList). length j) (merged-all c.args.dirty.now.entries c.args.journal.now (455 * c.args.blocks) c.requires.within) in
    omega (arith, all, c.requires.room, merged-longer c.args.dirty.now.entries c.args.journal.now (455 * c.loop-block.block + 455) (455 * c.args.blocks) (omega arith))

pub loop-block-preserved : goal.loop-block-preserved
loop-block-preserved c =
    let b = c.loop-block.block in
    let below = merged_below c.args.dirty.now.entries c.args.journal.now in
    let next : 455 * b + 455 ≡ 455 * (b + 1) = omega arith in
    elim c.if-count-gt0.branch [
      | then-count-gt0 w ↦ w.merged-is ∙ w.append_new.ensures ∙ ap below next
      | else-count-gt0 w ↦
          let none : c.count.result ≡ 0 = omega (arith, w.if-count-gt0.false) in
          w.merged-is ∙ c.loop-block.invariant
          ∙ sym (merged-skip c.args.dirty.now.entries c.args.journal.now (455 * b) 455 (λ q low high. none_counted c.args.dirty.now.entries b q (sym c.count.ensures ∙ none) (omega arith)))
          ∙ ap below next
    ]

pub returns : goal.returns
returns c =
    let whole : c.loop-block.block ≡ c.args.blocks = omega arith in
    c.loop-block.invariant ∙ ap (λ b. merged_below c.args.dirty.now.entries c.args.journal.now (455 * b)) whole
    ∙ merged-all c.args.dirty.now.entries c.args.journal.now (455 * c.args.blocks) c.requires.within

pub loop-nid-preserved : goal.loop-nid-preserved
loop-nid-preserved c =
    let i = c.loop-nid.nid-index in
    let dirty = c.args.dirty.now.entries in
    let journal = c.args.journal.now in
    let nid = get_or c.nids-nid-items.result.now i 0 in
    let at = nid_is c.nids-nid-items.result.now journal i c.nids-nid-items.ensures.nids c.loop-nid-test.true in
    let entry = get_or journal i blank in
    let stands = ap (pending dirty journal) at.0 ∙ renewed-pending dirty journal i blank at.1 c.nids-nid-items.ensures.once in
    elim c.match-pending.branch [
      | in-Some w ↦
          let place = latest_is dirty journal entry w.in-Some.e (w.in-Some.ensures ∙ stands) in
          w.merged-is ∙ w.append.ensures ∙ ap (λ (j : JournalList). j ++ (nid, place_of w.in-Some.e) ∷ []) c.loop-nid.invariant
          ∙ (λ k. renewed dirty (take i journal) ++ (at.0 k, place k) ∷ [])
          ∙ sym (renewed-more dirty journal i blank at.1)
      | in_default w ↦ let wrong : None ≡ Some (entry_of (latest_of dirty entry)) = w.in_default.ensures ∙ stands in cc
    ]
