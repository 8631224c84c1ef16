use Rattle.std.proofs.Common.{max, ap, subst, sym, ◌∙◌, arith}
use Rattle.f2_nat_cache.specs.Entries.{Entries, DirtyTable, AreCounts}
use Rattle.f2_nat_cache.proofs.Parts.{same_dirty}
use Rattle.f2_nat_cache.proofs.Tables.{view-same}
use Rattle.f2_nat_cache.proofs.dirty.DirtyEntries.room.Goals as goal

pub invariant_of-self-2 : goal.invariant_of-self-2
invariant_of-self-2 c =
    let same = view-same c.self.inside.entries.entries c.reserve.new.self.entries c.in_ok-reserve.ensures.entries.2 in
    record {
      right = subst (λ (m : Entries). AreCounts m c.self.inside.counts.items) (sym same) c.self.invariant.right;
      places_enough = omega (arith, c.max-self-inside.ensures, c.in_ok-reserve.ensures.ok, c.in_ok-reserve.ensures.spare, c.self.invariant.places_enough);
    }

pub returns-clause-ok : goal.returns-clause-ok
returns-clause-ok c =
    same_dirty
    (ap (λ (t : DirtyTable). t.nat) c.self.view_is)
    (view-same c.self.inside.entries.entries c.reserve.new.self.entries c.in_ok-reserve.ensures.entries.2 ∙ ap (λ (t : DirtyTable). t.entries) c.self.view_is)
    (c.max-self-inside.ensures ∙ ap (λ (t : DirtyTable). max t.spare c.args.n) c.self.view_is)
