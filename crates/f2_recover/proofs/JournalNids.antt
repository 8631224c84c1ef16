-- The nids of a journal, and how often each stands in it.
use Rattle.std.proofs.Common.{◌≡◌, ◌⊎◌, inl, inr, ℕ, zero, suc, ◌+◌, ◌<◌, ◌≤◌, ◌==◌, Bool, true, false, cond, List, [], ◌∷◌, length, map, get_or, eq-eqb, refl, sym, ap, ◌∙◌, subst, arith}
use Rattle.std.specs.Prelude.{Contains}
use Rattle.std.specs.List.{count_by, range_with_len}
use Rattle.std.proofs.lemmas.Bool.{eqb-true}
use Rattle.std.proofs.lemmas.List.{get_or_default}
use Rattle.std.proofs.lemmas.List.Sums.{sum_by-cons}
use Rattle.f2_format.specs.Geometry.{ImageGeometry, nid_limit}
use Rattle.f2_format.specs.Journal.{journal_of, journal_count, journal_entry}
use Rattle.f2_format.specs.Nat.{NodePlace}
use Rattle.f2_image.specs.Packs.{Checkpoint, journal}
use Rattle.f2_image.specs.Faults.{IsBadEntry}
use Rattle.f2_image.specs.Faults as faults

counts : (block : List ℕ) (nid : ℕ) (places : List ℕ) → count_by (λ entry. entry.0 == nid) (map (journal_entry block) places) ≡ count_by (λ one. one == nid) (map (λ place. (journal_entry block place).0) places)
counts block nid [] = refl
counts block nid (place ∷ places) =
    sum_by-cons (λ (entry : ℕ × NodePlace). cond (entry.0 == nid) 1 0) (journal_entry block place) (map (journal_entry block) places)
    ∙ ap (λ n. cond ((journal_entry block place).0 == nid) 1 0 + n) (counts block nid places)
    ∙ sym (sum_by-cons (λ (one : ℕ). cond (one == nid) 1 0) (journal_entry block place).0 (map (λ p. (journal_entry block p).0) places))

-- a nid that is counted is there
pub counted_there : (nids : List ℕ) (nid : ℕ) → 1 ≤ count_by (λ one. one == nid) nids → Contains nids nid
counted_there [] nid some = absurd (omega (arith, some))
counted_there (one ∷ nids) nid some = by (one == nid) refl (counted_there nids nid) (subst (λ n. 1 ≤ n) (sum_by-cons (λ (x : ℕ). cond (x == nid) 1 0) one nids) some)
  where
    by : (b : Bool) → (one == nid) ≡ b → (1 ≤ count_by (λ x. x == nid) nids → Contains nids nid) → 1 ≤ cond (one == nid) 1 0 + count_by (λ x. x == nid) nids → Contains (one ∷ nids) nid
    by true is deeper some = (0, omega arith, eqb-true one nid is)
    by false is deeper some =
        let less : 1 ≤ cond false 1 0 + count_by (λ x. x == nid) nids = subst (λ b. 1 ≤ cond b 1 0 + count_by (λ x. x == nid) nids) is some in
        let rest = deeper (omega (arith, less)) in
        let small = rest.1 in
        (suc rest.0, omega (arith, small), rest.2)

-- a nid that is there is counted
pub there_counted : (nids : List ℕ) (k : ℕ) → k < length nids → 1 ≤ count_by (λ one. one == get_or nids k 0) nids
there_counted [] k small = absurd (omega (arith, small))
there_counted (one ∷ nids) zero small =
    subst (λ n. 1 ≤ n) (sym (sum_by-cons (λ (x : ℕ). cond (x == one) 1 0) one nids)) (subst (λ b. 1 ≤ cond b 1 0 + count_by (λ x. x == one) nids) (sym (eq-eqb one one refl)) (omega arith))
there_counted (one ∷ nids) (suc k) small =
    let rest = there_counted nids k (omega (arith, small)) in
    subst (λ n. 1 ≤ n) (sym (sum_by-cons (λ (x : ℕ). cond (x == get_or nids k 0) 1 0) one nids)) (omega (arith, rest))

module _ (ckpt : Checkpoint) (geom : ImageGeometry) (block nids : List ℕ) (sizes : ckpt.geom ≡ geom) (summary : ckpt.summary ≡ block) (are : nids ≡ map (λ place. (journal_entry block place).0) (range_with_len 0 (journal_count block))) where
  count_is : (nid : ℕ) → count_by (λ entry. entry.0 == nid) (journal ckpt) ≡ count_by (λ one. one == nid) nids
  count_is nid =
      ap (λ (b : List ℕ). count_by (λ entry. entry.0 == nid) (journal_of b)) summary ∙ counts block nid (range_with_len 0 (journal_count block)) ∙ ap (count_by (λ one. one == nid)) (sym are)

  pub twice_bad : (nid : ℕ) → 2 ≤ count_by (λ one. one == nid) nids → IsBadEntry ckpt nid
  twice_bad nid more = faults.twice (subst (λ n. 2 ≤ n) (sym (count_is nid)) more)

  pub past_bad : (nid : ℕ) → 1 ≤ count_by (λ one. one == nid) nids → nid_limit geom ≤ nid → IsBadEntry ckpt nid
  past_bad nid some past = faults.past (subst (λ n. 1 ≤ n) (sym (count_is nid)) some) (subst (λ (e : ImageGeometry). nid_limit e ≤ nid) (sym sizes) past)

  pub none_bad : ((k : ℕ) → k < length nids → (get_or nids k 0 < nid_limit geom) × (count_by (λ one. one == get_or nids k 0) nids ≤ 1)) → (nid : ℕ) → IsBadEntry ckpt nid → ⊥
  none_bad each nid (faults.twice more) =
      let many = subst (λ n. 2 ≤ n) (count_is nid) more in
      let there = counted_there nids nid (omega (arith, many)) in
      let at : get_or nids there.0 0 ≡ nid = get_or_default nids there.0 0 nid there.1 ∙ there.2 in
      let once = subst (λ n. count_by (λ one. one == n) nids ≤ 1) at (each there.0 there.1).1 in
      omega (arith, many, once)
  none_bad each nid (faults.past some past) =
      let there = counted_there nids nid (subst (λ n. 1 ≤ n) (count_is nid) some) in
      let at : get_or nids there.0 0 ≡ nid = get_or_default nids there.0 0 nid there.1 ∙ there.2 in
      let low = subst (λ n. n < nid_limit geom) at (each there.0 there.1).0 in
      let high = subst (λ (e : ImageGeometry). nid_limit e ≤ nid) sizes past in
      omega (arith, low, high)

  pub entry_bad : (nid : ℕ) → (2 ≤ count_by (λ one. one == nid) nids) ⊎ ((1 ≤ count_by (λ one. one == nid) nids) × (nid_limit geom ≤ nid)) → IsBadEntry ckpt nid
  entry_bad nid (inl more) = twice_bad nid more
  entry_bad nid (inr past) = past_bad nid past.0 past.1
