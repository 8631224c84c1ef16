-- Addresses that pages have, and one more.
use Rattle.std.proofs.Common.{◌≡◌, ◌≢◌, ◌⊎◌, inl, inr, ℕ, ◌+◌, ◌<◌, ◌≤◌, true, IsTrue, List, sym, ap, subst, ◌∙◌, arith}
use Rattle.std.specs.Prelude.{Some, None, slice_index_or}
use Rattle.std.specs.Ordering.{nat_cmp}
use Rattle.std.specs.FinMap as map
use Rattle.std.specs.FinMap.{get-empty}
use Rattle.std.proofs.lemmas.Bool.{cases_eq, cases_lt}
use Rattle.f2_format.specs.Geometry.{ImageGeometry, is_in_data}
use Rattle.f2_image.specs.Images.{Image}
use Rattle.f2_image.specs.Packs.{Checkpoint}
use Rattle.f2_image.specs.Reached.{IsPage}
use Rattle.f2_recover.specs.Seeing.{no_page}
use Rattle.f2_recover.specs.declared.nodes.PageAt.{PageAt}
use Rattle.f2_overlay.specs.Owning.{Owned, IsMore, AreRight, HasListed}
use Rattle.f2_overlay.specs.declared.owners.Owner.{Owner}
use Rattle.f2_overlay.proofs.Maps.{not_none, get_put, get_put-other, put_cases}

pub more_same : (old : Owned) → IsMore old old
more_same old at owner there = there

pub more_then : (a b c : Owned) → IsMore a b → IsMore b c → IsMore a c
more_then a b c first second at owner there = second at owner (first at owner there)

module _ (old new : Owned) (at : ℕ) (owner : Owner) (alone : (other : Owner) → map.get old at ≡ Some other → other ≡ owner) (put : new ≡ map.insert old at owner) where
  pub here_one : map.get new at ≡ Some owner
  here_one = ap (λ (m : Owned). map.get m at) put ∙ get_put old at owner

  pub more_one : IsMore old new
  more_one q other there = by (cases_eq q at)
    where
      by : (q ≡ at) ⊎ (q ≢ at) → map.get new q ≡ Some other
      by (inl e) = ap (map.get new) e ∙ here_one ∙ ap Some (sym (alone other (ap (map.get old) (sym e) ∙ there)))
      by (inr different) = ap (λ (m : Owned). map.get m q) put ∙ get_put-other old at owner q different ∙ there

  abbrev Is : ℕ → Owner → Type 0
  Is q other = ((q ≡ at) × (owner ≡ other)) ⊎ ((q ≢ at) × (map.get old q ≡ Some other))

  pub right_one : (geom : ImageGeometry) (image : Image) (ckpt : Checkpoint) → is_in_data geom at ≡ true → ckpt.geom ≡ geom → IsPage image ckpt owner.ino owner.page at → AreRight image ckpt old → AreRight image ckpt new
  right_one geom image ckpt inside sizes is right = record {
    only = λ q other there. only q other (put_cases old at owner q other (ap (λ (m : Owned). map.get m q) (sym put) ∙ there));
    zones = λ q other there. zones q other (put_cases old at owner q other (ap (λ (m : Owned). map.get m q) (sym put) ∙ there));
  }
    where
      only : (q : ℕ) (other : Owner) → Is q other → IsPage image ckpt other.ino other.page q
      only q other (inl e) = subst (λ (o : Owner). IsPage image ckpt o.ino o.page q) e.1 (subst (λ n. IsPage image ckpt owner.ino owner.page n) (sym e.0) is)
      only q other (inr was) = right.only q other was.1

      zones : (q : ℕ) (other : Owner) → Is q other → IsTrue (is_in_data ckpt.geom q)
      zones q other (inl e) = subst (λ n. IsTrue (is_in_data ckpt.geom n)) (sym e.0) (ap (λ (x : ImageGeometry). is_in_data x at) sizes ∙ inside)
      zones q other (inr was) = right.zones q other was.1

-- a listed page more
pub listed_more : (ino : ℕ) (list : List PageAt) (count : ℕ) (old new : Owned) → IsMore old new → HasListed ino list count old
    → map.get new (slice_index_or list count no_page).at ≡ Some (record { ino = ino; page = (slice_index_or list count no_page).page }) → HasListed ino list (count + 1) new
listed_more ino list count old new more listed here k small = by (cases_lt k count)
  where
    by : (k < count) ⊎ (count ≤ k) → map.get new (slice_index_or list k no_page).at ≡ Some (record { ino = ino; page = (slice_index_or list k no_page).page })
    by (inl low) = more (slice_index_or list k no_page).at (record { ino = ino; page = (slice_index_or list k no_page).page }) (listed k low)
    by (inr high) =
        let same : count ≡ k = omega (arith, high, small) in
        subst (λ n. map.get new (slice_index_or list n no_page).at ≡ Some (record { ino = ino; page = (slice_index_or list n no_page).page })) same here

-- no address has a page
pub right_none : (image : Image) (ckpt : Checkpoint) (owned : Owned) → owned ≡ map.empty → AreRight image ckpt owned
right_none image ckpt owned empty = record {
  only = λ at owner there. absurd (not_none owner (sym (none at) ∙ there));
  zones = λ at owner there. absurd (not_none owner (sym (none at) ∙ there));
}
  where
    none : (at : ℕ) → map.get owned at ≡ None
    none at = ap (λ (m : Owned). map.get m at) empty ∙ get-empty nat_cmp at
