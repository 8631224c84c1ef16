-- No more nodes and pages are read off a sound image than it grants.
use Rattle.std.proofs.Common.{◌≢◌, ℕ, ◌≤◌, refl, sym, subst, arith}
use Rattle.std.specs.FinMap as map
use Rattle.std.specs.FinMap.{entries}
use Rattle.f2_format.specs.Offsets.{page_limit}
use Rattle.f2_format.specs.Geometry.{node_third, data_third}
use Rattle.f2_model.specs.Tree.{Rows}
use Rattle.f2_image.specs.Images.{Image}
use Rattle.f2_image.specs.Packs.{Checkpoint}
use Rattle.f2_image.specs.Bases.{IsBase}
use Rattle.f2_image.specs.Faults as faults
use Rattle.f2_image.specs.Faults.{IsSound, IsSomeNode, IsBaseBlock, IsTooFull, TooFull, VersionEnd}
use Rattle.f2_stored.specs.Places.{NodeAt}
use Rattle.f2_place_laws.proofs.ChosenPlaces.{nodes_read, pages_read}
use Rattle.f2_place_laws.proofs.Decided.{NotFalse, not_false, all_not_false, at_most}
use Rattle.f2_place_laws.proofs.FlatLists.{from_map}
use Rattle.f2_place_laws.proofs.FoundEntries.{differing_keys, differing_values, entry_got}
use Rattle.f2_place_laws.proofs.Keys.{length-keys, length-values}
use Rattle.f2_place_laws.proofs.Lists.{IsIn, each_in}
use Rattle.f2_place_laws.proofs.ReadNodes.{known_read}
use Rattle.f2_place_laws.proofs.ReadPages.{base_page, pages_apart}
use Rattle.f2_place_laws.proofs.SoundNodes.{table}

module _ (image : Image) (ckpt : Checkpoint) (sound : IsSound image ckpt) (base : Rows) (is : IsBase image ckpt base) where
  not_full : (limit : ℕ) → IsTooFull image ckpt limit → ⊥
  not_full limit full = sound TooFull limit not_end (table image ckpt sound, full)
    where
      not_end : TooFull ≢ VersionEnd
      not_end same = cc

  -- each node that is read is one of the base
  some_node : (at : ℕ × ℕ) → IsIn at (map.keys (nodes_read image ckpt)) → NotFalse (IsSomeNode image ckpt at)
  some_node at listed =
      let found = from_map (λ (e : (ℕ × ℕ) × NodeAt). e.0) at (entries (nodes_read image ckpt)) listed in
      let e = found.0 in
      subst (λ (of : ℕ × ℕ). NotFalse (IsSomeNode image ckpt of)) (sym found.2)
      (not_false (known_read image ckpt sound e.0.0 e.0.1 e.1 (entry_got (nodes_read image ckpt) e found.1)) (λ is_node. (e.1.nid, is_node)))

  pub few_nodes : map.len (nodes_read image ckpt) ≤ node_third ckpt.geom
  few_nodes =
      at_most (map.len (nodes_read image ckpt)) (node_third ckpt.geom) (λ more.
      let keys = map.keys (nodes_read image ckpt) in
      let long = length-keys (nodes_read image ckpt) in
      all_not_false (IsSomeNode image ckpt) keys (each_in (λ at. NotFalse (IsSomeNode image ckpt at)) keys some_node)
      (λ all. not_full (node_third ckpt.geom) (faults.base_nodes refl (record { some = keys; differ = differing_keys (nodes_read image ckpt); all = all; more = omega (arith, long, more) }))))

  -- each page that is read is a block of the base
  some_block : (at : ℕ) → IsIn at (map.values (pages_read image ckpt base page_limit)) → IsBaseBlock image ckpt at
  some_block at listed =
      let found = from_map (λ (e : (ℕ × ℕ) × ℕ). e.1) at (entries (pages_read image ckpt base page_limit)) listed in
      let e = found.0 in
      subst (IsBaseBlock image ckpt) (sym found.2) (e.0.0, e.0.1, base_page image ckpt sound base is e.0.0 e.0.1 e.1 (entry_got (pages_read image ckpt base page_limit) e found.1))

  pub few_pages : map.len (pages_read image ckpt base page_limit) ≤ data_third ckpt.geom
  few_pages =
      at_most (map.len (pages_read image ckpt base page_limit)) (data_third ckpt.geom) (λ more.
      let pages = pages_read image ckpt base page_limit in
      let long = length-values pages in
      not_full (data_third ckpt.geom) (faults.base_blocks refl (record {
        some = map.values pages;
        differ = differing_values pages (pages_apart image ckpt sound base is);
        all = each_in (IsBaseBlock image ckpt) (map.values pages) some_block;
        more = omega (arith, long, more);
      })))
