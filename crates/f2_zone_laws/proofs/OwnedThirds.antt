-- What base and marks own fits two thirds of the zone of data blocks.
use Rattle.std.proofs.Common.{◌≡◌, ◌≢◌, ◌⊎◌, inl, inr, ℕ, zero, suc, ◌-◌, ◌≤◌, true, cond, List, [], ◌∷◌, length, is_some, refl, sym, ap, ◌∙◌, arith, eq-eqb, true≢false}
use Rattle.std.specs.Prelude.{Some, None}
use Rattle.std.specs.Ordering.{nat_cmp}
use Rattle.std.specs.Cmp.{nat_cmp_total, unsigned_tied}
use Rattle.std.specs.FinMap as map
use Rattle.std.specs.FinMap.{FinMap}
use Rattle.std.specs.FinSet as set
use Rattle.std.proofs.lemmas.Bool.{cases_eq, ne_eqb}
use Rattle.f2_bitset.proofs.Members.{contains-remove_other}
use Rattle.f2_zone_laws.specs.Owned.{IsSomePage, OwnersFit}
use Rattle.f2_zone_laws.proofs.Counts.{Numbers}

-- a set that has a member isn't empty
some_long : (s : Numbers) (k : ℕ) → set.contains s k ≡ true → set.len s ≢ 0
some_long s k there none = true≢false (sym there ∙ ap (λ t. set.contains t k) (set.empty_of_len s none) ∙ set.contains-empty nat_cmp k)

module _ {X : Type 0} where
  -- a map is no longer than a set that has its keys
  keys_fit : (count : ℕ) (m : FinMap nat_cmp X) (s : Numbers) → map.len m ≡ count → ((k : ℕ) (x : X) → map.get m k ≡ Some x → set.contains s k ≡ true) → count ≤ set.len s
  keys_fit zero m s long each = omega arith
  keys_fit (suc count) m s long each = by_entries (keys_fit count) (map.entries m) refl
    where
      by_entries : ((m : FinMap nat_cmp X) (s : Numbers) → map.len m ≡ count → ((k : ℕ) (x : X) → map.get m k ≡ Some x → set.contains s k ≡ true) → count ≤ set.len s) → (es : List (ℕ × X)) → map.entries m ≡ es → suc count ≤ set.len s
      by_entries fewer [] is = absurd (omega (arith, long, map.len-entries m ∙ ap length is))
      by_entries fewer (e ∷ es) is =
          let first : map.get m e.0 ≡ Some e.1 = map.get-entries m e.0 ∙ ap (map.find nat_cmp e.0) is ∙ ap (λ b. cond b (Some e.1) (map.find nat_cmp e.0 es)) (unsigned_tied e.0 e.0 ∙ eq-eqb e.0 e.0 refl) in
          let there : set.contains s e.0 ≡ true = each e.0 e.1 first in
          let shorter : map.len (map.remove m e.0) ≡ map.len m - 1 = map.len-remove nat_cmp_total m e.0 ∙ ap (λ b. cond b (map.len m - 1) (map.len m)) (ap is_some first) in
          let less : set.len (set.remove s e.0) ≡ set.len s - 1 = set.len-remove nat_cmp_total s e.0 ∙ ap (λ b. cond b (set.len s - 1) (set.len s)) there in
          let rest : count ≤ set.len (set.remove s e.0) = fewer (map.remove m e.0) (set.remove s e.0) (omega (arith, shorter, long)) (λ k x found. left k x found (cases_eq k e.0)) in
          omega (arith, rest, less, some_long s e.0 there)
        where
          left : (k : ℕ) (x : X) → map.get (map.remove m e.0) k ≡ Some x → (k ≡ e.0) ⊎ (k ≢ e.0) → set.contains (set.remove s e.0) k ≡ true
          left k x found (inl same) =
              let gone : map.get (map.remove m e.0) e.0 ≡ None = map.get-remove nat_cmp_total m e.0 e.0 ∙ ap (λ b. cond b None (map.get m e.0)) (unsigned_tied e.0 e.0 ∙ eq-eqb e.0 e.0 refl) in
              let is : Some x ≡ None = sym found ∙ ap (map.get (map.remove m e.0)) same ∙ gone in
              absurd (cc)
          left k x found (inr other) =
              contains-remove_other s e.0 k other
              ∙ each k x (sym (map.get-remove nat_cmp_total m e.0 k ∙ ap (λ b. cond b None (map.get m k)) (unsigned_tied k e.0 ∙ ne_eqb k e.0 other)) ∙ found)

pub owners_fit : OwnersFit
owners_fit layout places space now covers shared idle few are =
    let fits : map.len now ≤ set.len space.used = keys_fit (map.len now) now space.used refl (λ at owner found. used at owner (are at owner found)) in
    let counted = shared.counted in
    let log = shared.drawn_third in
    let third = covers.third in
    omega (arith, fits, counted, log, idle, few, third)
  where
    used : (at : ℕ) (owner : ℕ × ℕ) → (map.get layout.owners at ≡ Some owner) ⊎ IsSomePage places at → set.contains space.used at ≡ true
    used at owner (inl old) = covers.owners at owner old
    used at owner (inr page) = covers.live page.ino page.page at page.there page.some
