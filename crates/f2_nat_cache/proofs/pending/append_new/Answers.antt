use Rattle.std.proofs.Common.{◌≡◌, ◌+◌, ◌*◌, ◌∙◌, length, ap, sym, arith, length-append, [], ◌∷◌, ◌++◌}
use Rattle.f2_format.specs.Journal.{JournalList, journal_find}
use Rattle.f2_nat_block.specs.NatEntry.{place_of}
use Rattle.f2_nat_cache.specs.Plan.{merged_below}
use Rattle.f2_nat_cache.proofs.Merged.{merged-next, merged-same, merged-longer, merged-absent}
use Rattle.f2_nat_cache.proofs.pending.append_new.Goals as goal
use Rattle.f2_nat_cache.proofs.pending.append_new.Goals.{in-Some, in_default}

pub append-requires-clause-absent : goal.append-requires-clause-absent
append-requires-clause-absent c =
    let n = 455 * c.args.block + c.loop-place.place in
    ap (λ (j : JournalList). journal_find j n) c.loop-place.invariant
    ∙ merged-absent c.args.dirty.now.entries c.args.journal.now n c.in-Some.e c.in-Some.ensures

pub append-requires-clause-room : goal.append-requires-clause-room
append-requires-clause-room c =
    let n = 455 * c.args.block + c.loop-place.place in
    let here = ap (λ (j : JournalList). length j) c.loop-place.invariant in
    let next = ap (λ (j : JournalList). length j) (merged-next c.args.dirty.now.entries c.args.journal.now n c.in-Some.e c.in-Some.ensures) in
    let one = length-append (merged_below c.args.dirty.now.entries c.args.journal.now n) ((n, place_of c.in-Some.e) ∷ []) in
    omega (arith, here, next, one, merged-longer c.args.dirty.now.entries c.args.journal.now (n + 1) (455 * c.args.block + 455) (omega arith), c.requires.room)

pub loop-place-preserved : goal.loop-place-preserved
loop-place-preserved c =
    let n = 455 * c.args.block + c.loop-place.place in
    let after = ap (merged_below c.args.dirty.now.entries c.args.journal.now) (let e : n + 1 ≡ 455 * c.args.block + (c.loop-place.place + 1) = omega arith in e) in
    elim c.match-fresh.branch [
      | in-Some w ↦
          w.into-is ∙ w.append.ensures ∙ ap (λ (j : JournalList). j ++ (n, place_of w.in-Some.e) ∷ []) c.loop-place.invariant
          ∙ sym (merged-next c.args.dirty.now.entries c.args.journal.now n w.in-Some.e w.in-Some.ensures) ∙ after
      | in_default w ↦ w.into-is ∙ c.loop-place.invariant ∙ sym (merged-same c.args.dirty.now.entries c.args.journal.now n w.in_default.ensures) ∙ after
    ]
