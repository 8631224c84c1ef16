use Rattle.std.proofs.Common.{◌≡◌, ℕ, List, ◌++◌, length, replicate, take, drop, ap, get_or, subst, sym, ◌∙◌, arith}
use Rattle.std.proofs.Math.Seq.{take-append_seam}
use Rattle.std.proofs.lemmas.List.{length-replicate}
use Rattle.f2_nat_cache.specs.Entries.{AreCounts}
use Rattle.f2_nat_cache.proofs.Tables.{view}
use Rattle.f2_nat_cache.proofs.Counts.{AreCounts-empty}
use Rattle.f2_nat_cache.proofs.Lists.{get_or-zeros}
use Rattle.f2_nat_cache.proofs.dirty.DirtyEntries.clear.Goals as goal

-- the counts once their slice was filled with zeros
filled : (items fill : List ℕ) (len : ℕ) → fill ≡ replicate (length items) 0 → len ≡ length items → take len (fill ++ drop (length fill) items) ≡ replicate (length items) 0
filled items fill len is whole =
    let long : len ≡ length fill = omega (arith, whole, ap (λ (xs : List ℕ). length xs) is, length-replicate {A = ℕ} (length items) 0) in
    ap (λ n. take n (fill ++ drop (length fill) items)) long ∙ take-append_seam fill (drop (length fill) items) ∙ is

pub invariant_of-self : goal.invariant_of-self
invariant_of-self c =
    let items = c.self.inside.counts.items in
    let zeros = c.fill.ensures.after (λ y h. h) ∙ ap (λ (xs : List ℕ). replicate (length xs) 0) c.as_mut_slice.ensures.value in
    let counts = filled items c.fill.new.self c.self.inside.counts.len zeros (let e : c.self.inside.counts.len ≡ length items = omega arith in e) in
    record {
      right = subst (λ es. AreCounts (view es) (take c.self.inside.counts.len (c.fill.new.self ++ drop (length c.fill.new.self) items))) (sym c.clear.ensures.empty)
          (AreCounts-empty (take c.self.inside.counts.len (c.fill.new.self ++ drop (length c.fill.new.self) items)) (λ block. ap (λ (xs : List ℕ). get_or xs block 0) counts ∙ get_or-zeros (length items) block));
      places_enough = omega (arith, c.clear.ensures.capacity, c.self.invariant.places_enough);
    }
