-- Pages with the address of one of them put.
use Rattle.std.proofs.Common.{◌≡◌, ◌≢◌, ◌⊎◌, inl, inr, ℕ, ◌+◌, ◌<◌, ◌≤◌, List, refl, sym, ap, subst, ◌∙◌, arith}
use Rattle.std.specs.Prelude.{Some, slice_index}
use Rattle.std.specs.Option.{unwrap_or}
use Rattle.std.specs.FinMap as map
use Rattle.std.proofs.lemmas.Bool.{cases_lt}
use Rattle.f2_format.specs.Offsets.{page_limit}
use Rattle.f2_overlay.specs.Owning.{Owned, Pages, IsMore, AreOwn}
use Rattle.f2_overlay.specs.Putting.{address_of, IsPut, ArePutTo}
use Rattle.f2_overlay.proofs.Maps.{get_put, get_put-other, put_cases, get_taken, get_taken-other, taken_cases}

module _ (page at : ℕ) (old new : Pages) where
  pub put_none : at ≡ 0 → new ≡ map.remove old page → IsPut page at old new
  put_none zero left = record {
    here = ap (λ (m : Pages). address_of m page) left ∙ ap (λ o. unwrap_or o 0) (get_taken old page) ∙ sym zero;
    others = λ other different. ap (λ (m : Pages). map.get m other) left ∙ get_taken-other old page other different;
  }

  pub put_one : new ≡ map.insert old page at → IsPut page at old new
  put_one put = record {
    here = ap (λ (m : Pages). address_of m page) put ∙ ap (λ o. unwrap_or o 0) (get_put old page at);
    others = λ other different. ap (λ (m : Pages). map.get m other) put ∙ get_put-other old page at other different;
  }

  pub own_left : (ino : ℕ) (owned : Owned) → new ≡ map.remove old page → AreOwn ino old owned → AreOwn ino new owned
  own_left ino owned left own = record {
    within = λ other q there. own.within other q (was other q there);
    some = λ other q there. own.some other q (was other q there);
    own = λ other q there. own.own other q (was other q there);
  }
    where
      was : (other q : ℕ) → map.get new other ≡ Some q → map.get old other ≡ Some q
      was other q there = (taken_cases old page other q (ap (λ (m : Pages). map.get m other) (sym left) ∙ there)).1

  module _ (ino : ℕ) (owned more : Owned) (put : new ≡ map.insert old page at) (grown : IsMore owned more) (here : map.get more at ≡ Some (record { ino = ino; page = page })) (within : page < page_limit) (some : at ≢ 0) where
    abbrev Part : ℕ → ℕ → Type 0
    Part other q = ((other ≡ page) × (at ≡ q)) ⊎ ((other ≢ page) × (map.get old other ≡ Some q))

    part : (other q : ℕ) → map.get new other ≡ Some q → Part other q
    part other q there = put_cases old page at other q (ap (λ (m : Pages). map.get m other) (sym put) ∙ there)

    pub own_put : AreOwn ino old owned → AreOwn ino new more
    own_put own = record {
      within = λ other q there. by_within other q (part other q there);
      some = λ other q there. by_some other q (part other q there);
      own = λ other q there. by_own other q (part other q there);
    }
      where
        by_within : (other q : ℕ) → Part other q → other < page_limit
        by_within other q (inl e) = subst (λ n. n < page_limit) (sym e.0) within
        by_within other q (inr was) = own.within other q was.1

        by_some : (other q : ℕ) → Part other q → q ≢ 0
        by_some other q (inl e) = λ zero. some (e.1 ∙ zero)
        by_some other q (inr was) = own.some other q was.1

        by_own : (other q : ℕ) → Part other q → map.get more q ≡ Some (record { ino = ino; page = other })
        by_own other q (inl e) = ap (map.get more) (sym e.1) ∙ here ∙ ap (λ n. Some (record { ino = ino; page = n })) (sym e.0)
        by_own other q (inr was) = grown q (record { ino = ino; page = other }) (own.own other q was.1)

-- addresses that were put, and one more
pub put_to_none : (first : ℕ) (addresses : List ℕ) (old : Pages) → ArePutTo first addresses 0 old old
put_to_none first addresses old = record { put = λ slot small. absurd (omega (arith, small)); before = λ page low. refl; after = λ page high. refl }

pub put_to_more : (first : ℕ) (addresses : List ℕ) (count : ℕ) (old mid new : Pages) → ArePutTo first addresses count old mid → IsPut (first + count) (slice_index addresses count) mid new → ArePutTo first addresses (count + 1) old new
put_to_more first addresses count old mid new to one = record {
  put = λ slot small. put slot small (cases_lt slot count);
  before = λ page low. one.others page (λ same. omega (arith, same, low)) ∙ to.before page low;
  after = λ page high. one.others page (λ same. omega (arith, same, high)) ∙ to.after page (omega (arith, high));
}
  where
    put : (slot : ℕ) → slot < count + 1 → (slot < count) ⊎ (count ≤ slot) → address_of new (first + slot) ≡ slice_index addresses slot
    put slot small (inl low) = ap (λ o. unwrap_or o 0) (one.others (first + slot) (λ same. omega (arith, same, low))) ∙ to.put slot low
    put slot small (inr high) =
        let same : count ≡ slot = omega (arith, high, small) in
        subst (λ n. address_of new (first + n) ≡ slice_index addresses n) same one.here
