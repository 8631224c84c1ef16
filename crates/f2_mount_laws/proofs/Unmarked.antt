-- The tree of an image with no marks is taken over as it stands.
use Rattle.std.proofs.Common.{◌≡◌, ◌≢◌, inl, inr, ℕ, suc, true, List, [], ◌∷◌, length, Contains, IsSome, is_some, refl, sym, ap, ◌∙◌, subst, arith, nat_cmp, true≢false}
use Rattle.std.specs.List.{AllByRecursion, AllZip}
use Rattle.std.specs.FinMap as map
use Rattle.std.specs.FinSet as set
use Rattle.std.proofs.lemmas.Option.{none-some}
use Rattle.f2_format.specs.Geometry.{node_third, data_third}
use Rattle.f2_format.specs.Offsets.{page_limit, nodes_of_page}
use Rattle.f2_model.specs.Tree.{Rows}
use Rattle.f2_model.specs.State.{pair_cmp}
use Rattle.f2_image.specs.Images.{Image}
use Rattle.f2_image.specs.Packs.{Checkpoint}
use Rattle.f2_image.specs.Nodes.{page_address}
use Rattle.f2_image.specs.Chains.{chain, marked_places, IsMark}
use Rattle.f2_image.specs.Reached.{IsNode, IsBasePage, AllDiffer, HasMore}
use Rattle.f2_image.specs.Reached as reached
use Rattle.f2_image.specs.Faults.{IsSomeNode, IsBaseBlock}
use Rattle.f2_image.specs.Faults as faults
use Rattle.f2_image.specs.Meanings.{MeansAt}
use Rattle.f2_image.proofs.OneBase.{same_some}
use Rattle.f2_image_laws.proofs.BaseRows.{row_of}
use Rattle.f2_image_laws.proofs.Sound.{none_full}
use Rattle.f2_stored.specs.Places.{Places}
use Rattle.f2_stored.specs.Trees.{IsTreeAt}
use Rattle.f2_stored_laws.proofs.LogParts.{place_marked}
use Rattle.f2_place_laws.proofs.ChosenPlaces.{page_given}
use Rattle.f2_place_laws.proofs.Lists.{IsIn, all_of, each_in, one_in}
use Rattle.f2_place_laws.proofs.Options.{the_one}
use Rattle.f2_place_laws.proofs.ReadPages.{places, inode_is}
use Rattle.f2_place_laws.proofs.ReadTree.{base_stands}
use Rattle.f2_place_laws.proofs.SoundNodes.{block_of}
use Rattle.f2_mount_laws.specs.Taken.{IsLastMark}
use Rattle.f2_mount_laws.specs.Existing.{nothing_relaid, MayBeRelaid, HasRoomFor, IsTreePage, kept, marked, laid, IsSomeTreePage, IsTreeNode, inode, on_way, UnmarkedTreesAreTakenOver}
use Rattle.f2_mount_laws.proofs.Old.{is_node}
use Rattle.f2_mount_laws.proofs.Exists.{taken_over}
use Rattle.f2_mount_laws.proofs.TakenPages.{one_owner}
use Rattle.f2_mount_laws.proofs.OldWays.{way_in_base}

-- a list that goes with none has no member
none_with : {X Y : Type 0} (R : X → Y → Type 0) (xs : List X) → AllZip R xs [] → (x : X) → ¬ (Contains xs x)
none_with R [] zip x (k, small, is) = omega (arith, small)
none_with R (y ∷ xs) zip x has = zip

module _ (image : Image) (ckpt : Checkpoint) (base : Rows) (means : MeansAt image ckpt base []) where
  no_mark : (ino place : ℕ) → ¬ (IsLastMark image ckpt ino place)
  no_mark ino place last =
      none_with (IsMark image ckpt base (chain image ckpt)) (marked_places (chain image ckpt)) means.are_marks place
      (place_marked (chain image ckpt) place last.marked.within last.marked.marked)

  abbrev old : Places
  old = places image ckpt means.sound base means.is_base

  stands : IsTreeAt image ckpt base old
  stands = base_stands image ckpt means.sound base means.is_base

  -- a page of the base stands at its place
  page_there : (ino page at : ℕ) → IsBasePage image ckpt ino page at → IsSome (map.get old.pages (ino, page))
  page_there ino page at is =
      let row = row_of image ckpt means.sound base means.is_base ino is.reached in
      let same : is.inode ≡ block_of image ckpt ino = same_some is.inode (block_of image ckpt ino) (sym is.is.there ∙ (inode_is image ckpt means.sound base means.is_base ino row.0 row.1).there) in
      let address : page_address image ckpt (block_of image ckpt ino) page ≡ at = ap (λ b. page_address image ckpt b page) (sym same) ∙ is.address in
      ap is_some (page_given image ckpt base page_limit ino page (ap is_some row.1) is.within (λ none. is.there (sym address ∙ none)))

  node_by : (ino page address offset : ℕ) → IsTreePage image ckpt nothing_relaid ino page address → Contains (nodes_of_page page) offset → IsSomeNode image ckpt (ino, offset)
  node_by ino page address offset (marked place last within is some) way = absurd (no_mark ino place last)
  node_by ino page address offset (laid there) way = absurd (none-some address (sym (map.get-empty pair_cmp (ino, page)) ∙ there))
  node_by ino page address offset (kept out unmarked is) way =
      let n = the_one (map.get old.nodes (ino, offset)) (way_in_base image ckpt base old stands ino page offset (page_there ino page address is) way) in
      (n.0.nid, is_node image ckpt base means.is_base old stands ino offset n.0 n.1)

  some_node : (at : ℕ × ℕ) → IsTreeNode image ckpt base nothing_relaid at → IsSomeNode image ckpt at
  some_node at (on_way page address is way) = node_by at.0 page address at.1 is way
  some_node at (inode first row) =
      let its_row = the_one (map.get base at.0) row in
      (at.0, subst (λ o. IsNode image ckpt at.0 o at.0) (sym first) (reached.inode at.0 (means.is_base.rows at.0 its_row.0 its_row.1).reached))

  -- pages that differ have addresses that do
  base_page_of : (k : ℕ × ℕ) → IsSomeTreePage image ckpt nothing_relaid k → (at : ℕ) × IsBasePage image ckpt k.0 k.1 at
  base_page_of k (at, kept out unmarked is) = (at, is)
  base_page_of k (at, marked place last within is some) = absurd (no_mark k.0 place last)
  base_page_of k (at, laid there) = absurd (none-some at (sym (map.get-empty pair_cmp k) ∙ there))

  record Blocks (keys : List (ℕ × ℕ)) : Type 0 where
    some : List ℕ
    long : length some ≡ length keys
    differ : AllDiffer some
    all : AllByRecursion (IsBaseBlock image ckpt) some
    from : (at : ℕ) → IsIn at some → (k : ℕ × ℕ) × (IsIn k keys × IsBasePage image ckpt k.0 k.1 at)

  one_more : (k : ℕ × ℕ) (keys : List (ℕ × ℕ)) (at : ℕ) → IsBasePage image ckpt k.0 k.1 at → AllByRecursion (λ j. k ≢ j) keys → Blocks keys → Blocks (k ∷ keys)
  one_more k keys at is others rest = record {
    some = at ∷ rest.some;
    long = ap suc rest.long;
    differ = (each_in (λ y. at ≢ y) rest.some (λ y there same. (let of = rest.from y there in one_in (λ j. k ≢ j) keys of.0 others of.1.0 (one_owner image ckpt means.sound k of.0 at (inl is) (inl (subst (IsBasePage image ckpt of.0.0 of.0.1) (sym same) of.1.1))))), rest.differ);
    all = ((k.0, k.1, is), rest.all);
    from = from_more;
  }
    where
      from_more : (y : ℕ) → IsIn y (at ∷ rest.some) → (j : ℕ × ℕ) × (IsIn j (k ∷ keys) × IsBasePage image ckpt j.0 j.1 y)
      from_more y (inl same) = (k, (inl refl, subst (IsBasePage image ckpt k.0 k.1) (sym same) is))
      from_more y (inr there) = let of = rest.from y there in (of.0, (inr of.1.0, of.1.1))

  blocks_of : (keys : List (ℕ × ℕ)) → AllDiffer keys → AllByRecursion (IsSomeTreePage image ckpt nothing_relaid) keys → Blocks keys
  blocks_of [] differ all = record { some = []; long = refl; differ = tt; all = tt; from = λ at there. absurd there }
  blocks_of (k ∷ keys) differ all = let page = base_page_of k all.0 in one_more k keys page.0 page.1 differ.0 (blocks_of keys differ.1 all.1)

  not_relaid : (ino : ℕ) → set.contains {R = nat_cmp} set.empty ino ≡ true → ⊥
  not_relaid ino anew = true≢false (sym anew ∙ set.contains-empty nat_cmp ino)

  may : MayBeRelaid base base nothing_relaid
  may = record {
    kinds = λ ino anew. absurd (not_relaid ino anew);
    named = λ ino row there absent. absurd (none-some row (sym absent ∙ there));
    pages = λ ino page at there. absurd (none-some at (sym (map.get-empty pair_cmp (ino, page)) ∙ there));
    names = λ ino anew. absurd (not_relaid ino anew);
    blocks = λ ino page anew there. absurd (not_relaid ino anew);
  }

  few_blocks : ¬ (HasMore (ℕ × ℕ) (IsSomeTreePage image ckpt nothing_relaid) (data_third ckpt.geom))
  few_blocks more =
      let blocks = blocks_of more.some more.differ more.all in
      let long = blocks.long in
      let past = more.more in
      none_full image ckpt means.sound (data_third ckpt.geom) (faults.base_blocks refl (record { some = blocks.some; differ = blocks.differ; all = blocks.all; more = omega (arith, long, past) }))

  has_room : HasRoomFor image ckpt base nothing_relaid
  has_room = record {
    nodes = λ more. none_full image ckpt means.sound (node_third ckpt.geom) (faults.base_nodes refl (record {
      some = more.some;
      differ = more.differ;
      all = all_of (IsTreeNode image ckpt base nothing_relaid) (IsSomeNode image ckpt) some_node more.some more.all;
      more = more.more;
    }));
    pages = few_blocks;
  }

pub unmarked_taken_over : UnmarkedTreesAreTakenOver
unmarked_taken_over image ckpt base means = taken_over image ckpt base [] nothing_relaid means (may image ckpt base means) (has_room image ckpt base means)
