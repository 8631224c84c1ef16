use Rattle.std.proofs.Common.{◌∙◌, ℕ, List, ap, get_or, subst, sym, arith}
use Rattle.f2_nat_cache.specs.Entries.{AreCounts}
use Rattle.f2_nat_cache.proofs.Tables.{view}
use Rattle.f2_nat_cache.proofs.Counts.{AreCounts-empty}
use Rattle.f2_nat_cache.proofs.Lists.{get_or-zeros}
use Rattle.f2_nat_cache.proofs.dirty.DirtyEntries.new.Goals as goal

pub invariant_of-result : goal.invariant_of-result
invariant_of-result c =
    let zeros = c.in_ok-vec.ensures.items_if_clones_equal (λ y h. h) in
    record {
      right = subst (λ es. AreCounts (view es) c.in_ok-vec.field-0.items) (sym c.new.ensures.empty)
          (AreCounts-empty c.in_ok-vec.field-0.items (λ block. ap (λ (xs : List ℕ). get_or xs block 0) zeros ∙ get_or-zeros c.args.nat block));
      places_enough = omega arith;
    }
