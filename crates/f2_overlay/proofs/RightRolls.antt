-- What is right of the pages of marks once the whole log was walked.
use Rattle.std.proofs.Common.{◌≡◌, inl, inr, ℕ, ◌*◌, ◌<◌, ◌≤◌, List, [], ◌∷◌, length, sym, ap, ◌∙◌, arith}
use Rattle.std.specs.Prelude.{Some}
use Rattle.std.specs.List.{AllByRecursion}
use Rattle.std.specs.FinMap as map
use Rattle.f2_format.specs.Geometry.{data_third}
use Rattle.f2_image.specs.Images.{Image}
use Rattle.f2_image.specs.Packs.{Checkpoint}
use Rattle.f2_image.specs.Chains.{chain}
use Rattle.f2_image.specs.Reached.{IsMarkedPage, IsPage}
use Rattle.f2_image.specs.Faults.{IsSomeBlock, IsTooFull}
use Rattle.f2_image.specs.Faults as faults
use Rattle.f2_recover.specs.declared.walk.Walk.{Walk}
use Rattle.f2_overlay.specs.Rolling.{IsRolledTo}
use Rattle.f2_overlay.specs.Rolls.{HasRightPages}
use Rattle.f2_overlay.specs.declared.marks.Rolling.{Rolling}
use Rattle.f2_overlay.specs.declared.owners.Owner.{Owner}
use Rattle.f2_overlay.proofs.Maps.{one_some}
use Rattle.f2_overlay.proofs.KeyCounts.{HasValue, no_more, keys_of}

module _ (image : Image) (ckpt : Checkpoint) (walk : Walk) (rolling : Rolling) (rolled : IsRolledTo image ckpt walk (length (chain image ckpt)) rolling) where
  abbrev Has : ℕ → ℕ → ℕ → Type 0
  Has ino page at = map.get rolling.owners at ≡ Some (record { ino = ino; page = page })

  -- each page of base and marks has its address
  of_mark : (ino page at : ℕ) → IsMarkedPage image ckpt ino page at → Has ino page at
  of_mark ino page at is =
      let found = rolled.owners.marks is.place page is.inode is.marked.within is.marked is.within (λ zero. is.there (sym is.address ∙ zero)) in
      ap (map.get rolling.owners) (sym is.address) ∙ found ∙ ap (λ n. Some (record { ino = n; page = page })) is.own

  owner : (ino page at : ℕ) → IsPage image ckpt ino page at → Has ino page at
  owner ino page at (inl is) = rolled.owners.base ino page at is
  owner ino page at (inr is) = of_mark ino page at is

  owners_of : (list : List ℕ) → AllByRecursion (IsSomeBlock image ckpt) list → AllByRecursion (HasValue rolling.owners) list
  owners_of [] all = tt
  owners_of (at ∷ list) all = ((record { ino = all.0.0; page = all.0.1 }, owner all.0.0 all.0.1 at all.0.2), owners_of list all.1)

  same_owner : (ino page other more at : ℕ) → Has ino page at → Has other more at → (ino ≡ other) × (page ≡ more)
  same_owner ino page other more at a b =
      let one : Owner = record { ino = ino; page = page } in
      let two : Owner = record { ino = other; page = more } in
      let same : one ≡ two = one_some one two (sym a ∙ b) in
      (ap (λ (o : Owner). o.ino) same, ap (λ (o : Owner). o.page) same)

  pub right_pages : map.len rolling.owners ≤ 2 * data_third ckpt.geom → HasRightPages image ckpt
  right_pages few = record {
    zones = λ ino page at is. rolled.owners.right.zones at (record { ino = ino; page = page }) (of_mark ino page at is);
    apart = λ ino page other more at is too. same_owner ino page other more at (owner ino page at is) (owner other more at too);
    ends = λ place page block at within some. rolled.ends place at.within page block at within some;
    few = λ more. let most = no_more rolling.owners more.some more.differ (owners_of more.some more.all) in let over = more.more in omega (arith, few, most, over);
  }

  -- each address is one of base or marks
  blocks_of : (list : List ℕ) → AllByRecursion (HasValue rolling.owners) list → AllByRecursion (IsSomeBlock image ckpt) list
  blocks_of [] all = tt
  blocks_of (at ∷ list) all = ((all.0.0.ino, all.0.0.page, rolled.owners.right.only at all.0.0 all.0.1), blocks_of list all.1)

  pub too_many : (limit : ℕ) → limit ≡ 2 * data_third ckpt.geom → limit < map.len rolling.owners → IsTooFull image ckpt limit
  too_many limit is more =
      let keys = keys_of (map.len rolling.owners) rolling.owners (omega arith) in
      faults.all_blocks is (record { some = keys.list; differ = keys.differ; all = blocks_of keys.list keys.all; more = omega (arith, more, keys.long) })
