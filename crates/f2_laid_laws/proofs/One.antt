-- An image has one tree that is laid out, and what its checkpoint tells is one.
use Rattle.std.proofs.Common.{◌≡◌, ℕ, refl, sym, ap, ◌∙◌, arith}
use Rattle.std.specs.Prelude.{Option, Some, None}
use Rattle.std.specs.Cmp.{nat_cmp_total}
use Rattle.std.specs.FinMap as map
use Rattle.std.specs.FinMap.{nat_cmp-IsAntisymmetric}
use Rattle.std.proofs.lemmas.Option.{none-some}
use Rattle.f2_format.specs.Geometry.{ImageGeometry}
use Rattle.f2_format.specs.Inode.{inode_of}
use Rattle.f2_model.specs.Tree.{Rows}
use Rattle.f2_pack.specs.declared.packs.Side as pack
use Rattle.f2_pack.specs.declared.packs.Side.TheVariants as pack_side
use Rattle.f2_image.specs.Images.{Image, block_at}
use Rattle.f2_image.specs.Packs.{Checkpoint}
use Rattle.f2_image.proofs.OneBase.{same_some, one_base}
use Rattle.f2_laid.specs.Laid.{side_of}
use Rattle.f2_laid.specs.declared.places.Place.{Place}
use Rattle.f2_laid.specs.declared.stored.Stored.{Stored}
use Rattle.f2_laid_laws.proofs.Base.{IsStored, geometry, home_of, is_base}

-- a side has one name
one_side : (a b : pack.Side) → side_of a ≡ side_of b → a ≡ b
one_side pack_side.A pack_side.A e = refl
one_side pack_side.B pack_side.B e = refl
one_side pack_side.A pack_side.B e = absurd (cc)
one_side pack_side.B pack_side.A e = absurd (cc)

-- two trees that are laid out in one image with one checkpoint
module _ (image : Image) (ckpt : Checkpoint) (a b : Rows) (stored other : Stored) (is_a : IsStored image ckpt a stored) (is_b : IsStored image ckpt b other) where
  pub one_tree : a ≡ b
  one_tree = one_base image ckpt a b (is_base image ckpt a stored is_a) (is_base image ckpt b other is_b)

  -- a row of both stands at one place
  one_place : (ino : ℕ) (x y : Place) → map.get stored.places ino ≡ Some x → map.get other.places ino ≡ Some y → x ≡ y
  one_place ino x y at_x at_y =
      let in_a = is_a.laid.only ino x at_x in
      let in_b = is_b.laid.only ino y at_y in
      let home_a = home_of image ckpt a stored is_a ino in_a.0 in_a.1 in
      let home_b = home_of image ckpt b other is_b ino in_b.0 in_b.1 in
      let place_x : home_a.place ≡ x = same_some home_a.place x (sym home_a.there ∙ at_x) in
      let place_y : home_b.place ≡ y = same_some home_b.place y (sym home_b.there ∙ at_y) in
      let at : home_a.place.at ≡ home_b.place.at = sym home_a.address ∙ home_b.address in
      let addresses : home_a.place.addresses ≡ home_b.place.addresses = sym home_a.inode.addresses ∙ ap (λ n. (inode_of (block_at image n)).addresses) at ∙ home_b.inode.addresses in
      let places : home_a.place ≡ home_b.place = λ i. record { at = at i; addresses = addresses i } in
      sym place_x ∙ places ∙ place_y

  one_map : stored.places ≡ other.places
  one_map = map.same_map nat_cmp_total nat_cmp-IsAntisymmetric stored.places other.places (λ ino. each ino (map.get stored.places ino) (map.get other.places ino) refl refl)
    where
      each : (ino : ℕ) (x y : Option Place) → map.get stored.places ino ≡ x → map.get other.places ino ≡ y → map.get stored.places ino ≡ map.get other.places ino
      each ino None None p q = p ∙ sym q
      each ino (Some x) (Some y) p q = p ∙ ap Some (one_place ino x y p q) ∙ sym q
      each ino (Some x) None p q =
          let row = is_a.laid.only ino x p in
          let home = home_of image ckpt b other is_b ino row.0 (sym (ap (λ tree. map.get tree ino) one_tree) ∙ row.1) in
          absurd (none-some home.place (sym q ∙ home.there))
      each ino None (Some y) p q =
          let row = is_b.laid.only ino y q in
          let home = home_of image ckpt a stored is_a ino row.0 (ap (λ tree. map.get tree ino) one_tree ∙ row.1) in
          absurd (none-some home.place (sym p ∙ home.there))

  one_copy : stored.second ≡ other.second
  one_copy =
      let some = (geometry image ckpt a stored is_a).least_nat in
      let first = ap (λ (geom : ImageGeometry). geom.nat) is_a.laid.geom in
      let then = ap (λ (geom : ImageGeometry). geom.nat) is_b.laid.geom in
      sym (is_a.laid.copies 0 (omega arith)) ∙ is_b.laid.copies 0 (omega arith)

  pub one_stored : stored ≡ other
  one_stored =
      let sizes : stored.geometry ≡ other.geometry = sym is_a.laid.geom ∙ is_b.laid.geom in
      let sides : stored.side ≡ other.side = one_side stored.side other.side (sym is_a.laid.side ∙ is_b.laid.side) in
      let versions : stored.version ≡ other.version = sym is_a.laid.version ∙ is_b.laid.version in
      λ i. record { geometry = sizes i; side = sides i; version = versions i; second = one_copy i; places = one_map i }
