-- The nodes on the way to a page of the base are the base's.
use Rattle.std.proofs.Common.{◌≢◌, ℕ, Contains, IsSome, subst}
use Rattle.std.specs.FinMap as map
use Rattle.f2_format.specs.Offsets.{nodes_of_page}
use Rattle.f2_model.specs.Tree.{Rows}
use Rattle.f2_image.specs.Images.{Image}
use Rattle.f2_image.specs.Packs.{Checkpoint}
use Rattle.f2_stored.specs.Places.{Places}
use Rattle.f2_stored.specs.Trees.{IsTreeAt}
use Rattle.f2_place_laws.proofs.Options.{the_one}
use Rattle.f2_place_laws.proofs.Uppers.{upper_of, one_upper}
use Rattle.f2_mount_laws.proofs.WayKinds.{holds_on_way}

module _ (image : Image) (ckpt : Checkpoint) (base : Rows) (old : Places) (stands : IsTreeAt image ckpt base old) where
  upper_in_base : (ino lower : ℕ) → lower ≢ 0 → IsSome (map.get old.nodes (ino, lower)) → IsSome (map.get old.nodes (ino, upper_of lower))
  upper_in_base ino lower other there =
      let at = the_one (map.get old.nodes (ino, lower)) there in
      let above = (stands.laid.nodes ino lower at.0 at.1).above other in
      subst (λ u. IsSome (map.get old.nodes (ino, u))) (one_upper above.upper above.slot lower above.small above.names) above.there

  pub way_in_base : (ino page offset : ℕ) → IsSome (map.get old.pages (ino, page)) → Contains (nodes_of_page page) offset → IsSome (map.get old.nodes (ino, offset))
  way_in_base ino page offset there way =
      let at = the_one (map.get old.pages (ino, page)) there in
      holds_on_way page offset (λ o. IsSome (map.get old.nodes (ino, o))) (upper_in_base ino) way (λ d direct. (stands.laid.pages ino page at.0 at.1).direct d direct)
