-- Whether an ino stands so many names below the root can be decided.
use Rattle.std.proofs.Common.{◌≡◌, ℕ, zero, suc, ◌+◌, ◌<◌, refl, sym, subst, add-one}
use native.Mathlib.Decide.{ℕ_discrete}
use Rattle.f2_format.specs.Offsets.{page_limit}
use Rattle.f2_format.specs.Packing.{SLOTS_A_BLOCK}
use Rattle.f2_format.specs.Geometry.{nid_limit}
use Rattle.f2_format.specs.Dentry.{Dentry}
use Rattle.f2_model.specs.Tree.{ROOT}
use Rattle.f2_image.specs.Images.{Image}
use Rattle.f2_image.specs.Packs.{Checkpoint}
use Rattle.f2_image.specs.Bases.{HasDentryAt, IsReached}
use Rattle.f2_image.specs.Bases as bases
use Rattle.f2_image.specs.Faults.{IsBelow}
use Rattle.f2_image.specs.Faults as faults
use Rattle.f2_image.proofs.Limited.{some_below}
use Rattle.f2_image.proofs.Dentries.{node_in_table, is_dentry, same_dentry}

-- a dentry of one of some directories names an ino
pub record IsUnder (image : Image) (ckpt : Checkpoint) (Up : ℕ → Type 0) (ino : ℕ) : Type 0 where
  pub directory : ℕ
  pub up : Up directory
  pub page : ℕ
  pub slot : ℕ
  pub dentry : Dentry
  pub has : HasDentryAt image ckpt directory page slot dentry
  pub names : dentry.ino ≡ ino

-- an ino stands that many names below the root
abbrev pub IsDown : Image → Checkpoint → ℕ → ℕ → Type 0
IsDown image ckpt zero ino = ino ≡ ROOT
IsDown image ckpt (suc depth) ino = IsUnder image ckpt (IsDown image ckpt depth) ino

module _ (image : Image) (ckpt : Checkpoint) where
  -- a slot names an ino
  abbrev IsNamedBy : ℕ → ℕ → ℕ → ℕ → Type 0
  IsNamedBy ino directory page slot = (dentry : Dentry) × HasDentryAt image ckpt directory page slot dentry × (dentry.ino ≡ ino)

  is_named_by : (ino directory page slot : ℕ) → Dec (IsNamedBy ino directory page slot)
  is_named_by ino directory page slot = by_dentry (is_dentry image ckpt directory page slot)
    where
      by_ino : (dentry : Dentry) → HasDentryAt image ckpt directory page slot dentry → Dec (dentry.ino ≡ ino) → Dec (IsNamedBy ino directory page slot)
      by_ino dentry has (yes is) = yes (dentry, has, is)
      by_ino dentry has (no other) = no (λ found. other (subst (λ (d : Dentry). d.ino ≡ ino) (same_dentry image ckpt directory page slot found.0 dentry found.1 has) found.2))

      by_dentry : Dec ((dentry : Dentry) × HasDentryAt image ckpt directory page slot dentry) → Dec (IsNamedBy ino directory page slot)
      by_dentry (yes found) = by_ino found.0 found.1 (ℕ_discrete found.0.ino ino)
      by_dentry (no none) = no (λ found. none (found.0, found.1))

  abbrev IsNamedIn : ℕ → ℕ → ℕ → Type 0
  IsNamedIn ino directory page = (slot : ℕ) × (slot < SLOTS_A_BLOCK) × IsNamedBy ino directory page slot

  abbrev IsNamedUnder : (ℕ → Type 0) → ℕ → ℕ → Type 0
  IsNamedUnder Up ino directory = Up directory × ((page : ℕ) × (page < page_limit) × IsNamedIn ino directory page)

  is_named_under : (Up : ℕ → Type 0) → ((k : ℕ) → Dec (Up k)) → (ino directory : ℕ) → Dec (IsNamedUnder Up ino directory)
  is_named_under Up decide ino directory =
      both (decide directory) (some_below (IsNamedIn ino directory) (λ page. some_below (IsNamedBy ino directory page) (is_named_by ino directory page) SLOTS_A_BLOCK) page_limit)
    where
      both : Dec (Up directory) → Dec ((page : ℕ) × (page < page_limit) × IsNamedIn ino directory page) → Dec (IsNamedUnder Up ino directory)
      both (no none) named = no (λ found. none found.0)
      both (yes up) (no none) = no (λ found. none found.1)
      both (yes up) (yes named) = yes (up, named)

  is_under : (Up : ℕ → Type 0) → ((k : ℕ) → Dec (Up k)) → (ino : ℕ) → Dec (IsUnder image ckpt Up ino)
  is_under Up decide ino = by_search (some_below (IsNamedUnder Up ino) (is_named_under Up decide ino) (nid_limit ckpt.geom))
    where
      by_search : Dec ((directory : ℕ) × (directory < nid_limit ckpt.geom) × IsNamedUnder Up ino directory) → Dec (IsUnder image ckpt Up ino)
      by_search (yes found) =
          let in_page = found.2.1 in
          let in_slot = in_page.2 in
          let named = in_slot.2 in
          yes (record { directory = found.0; up = found.2.0; page = in_page.0; slot = in_slot.0; dentry = named.0; has = named.1; names = named.2 })
      by_search (no none) =
          no (λ under. none (
            under.directory,
            node_in_table image ckpt under.directory under.has.block.inode under.has.block.is.there,
            (under.up, (under.page, under.has.block.within, (under.slot, under.has.within, (under.dentry, under.has, under.names)))),
          ))

  pub is_down : (depth ino : ℕ) → Dec (IsDown image ckpt depth ino)
  is_down zero ino = ℕ_discrete ino ROOT
  is_down (suc depth) ino = is_under (IsDown image ckpt depth) (is_down depth) ino

  -- the same with the definition's words
  pub down_of : (depth ino : ℕ) → IsBelow image ckpt depth ino → IsDown image ckpt depth ino
  down_of _ _ faults.root = refl
  down_of _ _ (faults.deeper depth directory dentry up has) =
      let under : IsDown image ckpt (suc depth) dentry.ino = record { directory = directory; up = down_of depth directory up; page = has.0; slot = has.1; dentry = dentry; has = has.2; names = refl } in
      subst (λ d. IsDown image ckpt d dentry.ino) (sym (add-one depth)) under

  pub below_of : (depth ino : ℕ) → IsDown image ckpt depth ino → IsBelow image ckpt depth ino
  below_of zero ino is = subst (IsBelow image ckpt 0) (sym is) faults.root
  below_of (suc depth) ino under =
      subst (IsBelow image ckpt (suc depth)) under.names
      (subst (λ d. IsBelow image ckpt d under.dentry.ino) (add-one depth)
      (faults.deeper depth under.directory under.dentry (below_of depth under.directory under.up) (under.page, under.slot, under.has)))

  pub reached_of : (depth ino : ℕ) → IsBelow image ckpt depth ino → IsReached image ckpt ino
  reached_of _ _ faults.root = bases.root
  reached_of _ _ (faults.deeper depth directory dentry up has) = bases.below directory dentry (reached_of depth directory up) has

  pub some_depth : (ino : ℕ) → IsReached image ckpt ino → (depth : ℕ) × IsBelow image ckpt depth ino
  some_depth _ bases.root = (0, faults.root)
  some_depth _ (bases.below directory dentry up has) = let above = some_depth directory up in (above.0 + 1, faults.deeper above.0 directory dentry above.1 has)
