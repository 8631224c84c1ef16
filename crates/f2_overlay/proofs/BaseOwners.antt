-- The pages of the base with their addresses, file by file.
use Rattle.std.proofs.Common.{◌≡◌, ◌⊎◌, inl, inr, ℕ, ◌+◌, ◌<◌, ◌≤◌, List, length, sym, subst, ◌∙◌, arith}
use Rattle.std.specs.Prelude.{Some, None, slice_index_or}
use Rattle.std.specs.FinMap as map
use Rattle.std.proofs.lemmas.Bool.{cases_lt}
use Rattle.std.proofs.lemmas.List.{get_or_default}
use Rattle.f2_image.specs.Images.{Image}
use Rattle.f2_image.specs.Packs.{Checkpoint}
use Rattle.f2_image.specs.Reached.{IsBasePage}
use Rattle.f2_format.specs.Geometry.{ImageGeometry, nid_limit}
use Rattle.f2_recover.specs.Seeing.{no_page}
use Rattle.f2_recover.specs.Walking.{IsBaseRead}
use Rattle.f2_recover.specs.declared.nodes.PageAt.{PageAt}
use Rattle.f2_recover.specs.declared.rows.BaseRow.{BaseRow}
use Rattle.f2_recover.specs.declared.walk.Walk.{Walk}
use Rattle.f2_overlay.specs.Owning.{Owned, IsMore, AreRight, HasListed, AreListed, AreBaseTo}
use Rattle.f2_overlay.proofs.Maps.{not_none}
use Rattle.f2_overlay.proofs.Based.{nid_within, reached_row, page_of_row, list_of_row, listed_of_base}

module _ (image : Image) (ckpt : Checkpoint) (walk : Walk) (base : IsBaseRead image ckpt walk) where
  abbrev Has : Owned → ℕ → ℕ → ℕ → Type 0
  Has owned ino page at = map.get owned at ≡ Some (record { ino = ino; page = page })

  -- files with inos below one more: those below, and one
  next : (ino : ℕ) (owned : Owned) → AreRight image ckpt owned → ((other page at : ℕ) → other < ino → IsBasePage image ckpt other page at → Has owned other page at)
      → ((page at : ℕ) → IsBasePage image ckpt ino page at → Has owned ino page at) → AreBaseTo image ckpt (ino + 1) owned
  next ino owned right below own = record { right = right; all = λ other page at small is. by other page at small is (cases_lt other ino) }
    where
      by : (other page at : ℕ) → other < ino + 1 → IsBasePage image ckpt other page at → (other < ino) ⊎ (ino ≤ other) → Has owned other page at
      by other page at small is (inl low) = below other page at low is
      by other page at small is (inr high) =
          let same : ino ≡ other = omega (arith, high, small) in
          subst (λ n. Has owned n page at) same (own page at (subst (λ n. IsBasePage image ckpt n page at) (sym same) is))

  -- a listed page has its address
  at_of_listed : (ino page at : ℕ) (list : List PageAt) (owned : Owned) (k : ℕ) → HasListed ino list (length list) owned → k < length list → slice_index_or list k no_page ≡ record { page = page; at = at } → Has owned ino page at
  at_of_listed ino page at list owned k listed small is = subst (λ (x : PageAt). Has owned ino x.page x.at) is (listed k small)

  pub base_with : (ino : ℕ) (row : BaseRow) (list : List PageAt) (old new : Owned) → map.get walk.rows ino ≡ Some row → list ≡ row.file.nodes.list.items → IsMore old new → HasListed ino list (length list) new
      → (AreListed image ckpt ino list → AreRight image ckpt old → AreRight image ckpt new) → AreBaseTo image ckpt ino old → AreBaseTo image ckpt (ino + 1) new
  base_with ino row list old new there is more listed right before =
      next ino new (right (subst (AreListed image ckpt ino) (sym is) (listed_of_base image ckpt walk base ino row there)) before.right)
      (λ other page at low of_base. more at (record { ino = other; page = page }) (before.all other page at low of_base))
      own
    where
      own : (page at : ℕ) → IsBasePage image ckpt ino page at → Has new ino page at
      own page at of_base =
          let has = (list_of_row image ckpt walk base ino row there).all page at (page_of_row image ckpt walk base ino row there page at of_base) in
          at_of_listed ino page at row.file.nodes.list.items new has.0 (subst (λ (xs : List PageAt). HasListed ino xs (length xs) new) is listed) has.1
          (get_or_default row.file.nodes.list.items has.0 no_page (record { page = page; at = at }) has.1 ∙ has.2)

  pub base_without : (ino : ℕ) (old new : Owned) → map.get walk.rows ino ≡ None → new ≡ old → AreBaseTo image ckpt ino old → AreBaseTo image ckpt (ino + 1) new
  base_without ino old new none same before =
      subst (AreBaseTo image ckpt (ino + 1)) (sym same)
      (next ino old before.right before.all (λ page at of_base. let has = reached_row image ckpt walk base ino of_base.reached in absurd (not_none has.row (sym none ∙ has.there))))

  pub fault_lists : (ino : ℕ) (row : BaseRow) (list : List PageAt) → map.get walk.rows ino ≡ Some row → list ≡ row.file.nodes.list.items → AreListed image ckpt ino list
  fault_lists ino row list there is = subst (AreListed image ckpt ino) (sym is) (listed_of_base image ckpt walk base ino row there)

  -- no file has an ino past the table
  pub base_all : (geom : ImageGeometry) (owned : Owned) → ckpt.geom ≡ geom → AreBaseTo image ckpt (nid_limit geom) owned → (ino page at : ℕ) → IsBasePage image ckpt ino page at → Has owned ino page at
  base_all geom owned sizes to ino page at is = to.all ino page at (subst (λ (e : ImageGeometry). ino < nid_limit e) sizes (nid_within image ckpt ino is.inode is.is.there)) is
