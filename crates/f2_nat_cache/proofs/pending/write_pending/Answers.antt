use Rattle.std.proofs.Common.{◌≢◌, ℕ, ◌<◌, List, Option, ap, sym, ◌∙◌, arith}
use Rattle.std.specs.Option.{unwrap_or}
use borrow.Author.Count.{below_more}
use Rattle.f2_format.specs.Nat.{nat_entry, with_nat_entry}
use Rattle.f2_nat_block.specs.declared.entries.NatEntry.{NatEntry}
use Rattle.f2_nat_block.specs.NatEntry.{entry_of, place_of}
use Rattle.f2_nat_cache.specs.Table.{nid_at, with_entry, with_pending_below}
use Rattle.f2_nat_cache.proofs.Writes.{with_pending-none, with_pending-more}
use Rattle.f2_nat_cache.proofs.pending.write_pending.Goals as goal
use Rattle.f2_nat_cache.proofs.pending.write_pending.Goals.{in-Some, in_default}

pub loop-place-init : goal.loop-place-init
loop-place-init c =
    record {
      content = sym (with_pending-none c.args.dirty.now.entries c.args.journal.now c.args.block c.args.into.now);
      entries = λ place h. absurd (omega arith);
      rest = λ place h k. λ _. nat_entry c.args.into.now place;
    }

pub loop-place-preserved : goal.loop-place-preserved
loop-place-preserved c =
    let at = c.loop-place.place in
    let before = c.loop-place.invariant in
    let below = with_pending_below c.args.dirty.now.entries c.args.journal.now c.args.block c.args.into.now at in
    let more = with_pending-more c.args.dirty.now.entries c.args.journal.now c.args.block c.args.into.now at in
    let nid = nid_at c.args.block at in
    let old = entry_of (nat_entry c.args.into.now at) in
    elim c.match-pending.branch [
      | in-Some w ↦
          let others = λ (p : ℕ) (h : p < 455) (apart : p ≢ at). ap (λ (b : List ℕ). nat_entry b p) w.into-is ∙ w.set.ensures.others p h apart in
          record {
            content =
                w.into-is ∙ w.set.ensures.written ∙ ap (λ (b : List ℕ). with_nat_entry b at (place_of w.in-Some.e)) before.content
                ∙ ap (with_entry below at) w.in-Some.ensures ∙ sym more;
            entries = below_more _ at
                (λ p h. ap entry_of (others p (omega arith) (omega arith)) ∙ before.entries p h)
                (ap (λ (b : List ℕ). entry_of (nat_entry b at)) w.into-is ∙ ap entry_of w.set.ensures.reads_back ∙ ap (λ (o : Option NatEntry). unwrap_or o old) w.in-Some.ensures);
            rest = λ p h k. others p k (omega arith) ∙ before.rest p (omega arith) k;
          }
      | in_default w ↦
          record {
            content = w.into-is ∙ before.content ∙ ap (with_entry below at) w.in_default.ensures ∙ sym more;
            entries = below_more _ at
                (λ p h. ap (λ (b : List ℕ). entry_of (nat_entry b p)) w.into-is ∙ before.entries p h)
                (ap (λ (b : List ℕ). entry_of (nat_entry b at)) w.into-is ∙ ap entry_of (before.rest at (omega arith) (omega arith)) ∙ ap (λ (o : Option NatEntry). unwrap_or o old) w.in_default.ensures);
            rest = λ p h k. ap (λ (b : List ℕ). nat_entry b p) w.into-is ∙ before.rest p (omega arith) k;
          }
    ]
