-- A mark of a log over the base of its image.
use Rattle.std.proofs.Common.{◌≡◌, ◌≢◌, ◌⊎◌, inl, inr, ℕ, ◌+◌, ◌<◌, true, List, length, refl, sym, ap, subst, ◌∙◌, arith}
use Rattle.std.specs.Prelude.{Option, Some, None, Ok, slice_index_or}
use Rattle.std.specs.FinMap as map
use Rattle.std.proofs.lemmas.Bool.{cases_eq}
use Rattle.f2_disk.specs.Contents.{Contents}
use Rattle.f2_format.specs.Footer.{footer_ino}
use Rattle.f2_format.specs.Geometry.{ImageGeometry}
use Rattle.f2_format.specs.Inode.{inode_of}
use Rattle.f2_node_block.specs.Inodes.{checked_inode}
use Rattle.f2_node_block.specs.declared.inodes.Inode.{Inode}
use Rattle.f2_image.specs.Images.{Image}
use Rattle.f2_image.specs.Packs.{Checkpoint}
use Rattle.f2_image.specs.Nodes.{node}
use Rattle.f2_image.specs.Chains.{Logged, chain, no_block, block_in, is_marked}
use Rattle.f2_image.specs.Reached.{IsMarkedAt}
use Rattle.f2_image.specs.Faults.{IsPastSize, IsForeign, IsBadInode}
use Rattle.f2_image.specs.Faults as faults
use Rattle.f2_recover.specs.declared.walk.Walk.{Walk}
use Rattle.f2_overlay.specs.Pending.{Places, place_of, newest_before, AreWithin, IsLeft, ArePending}
use Rattle.f2_overlay.specs.Owning.{Owned, Pages, IsMore, AreRight, AreOwn, ArePagesFrom}
use Rattle.f2_overlay.specs.Taking.{Nodes, node_in, AreNodesAt, AreNodesTaken}
use Rattle.f2_overlay.specs.Putting.{ArePut, AreNodesPut, AreNodePages}
use Rattle.f2_overlay.specs.Rolling.{IsGround, StartAs, StartNodesAs, AreMarked, IsNamedAs, IsRolledTo}
use Rattle.f2_overlay.specs.declared.rolls.Roll.{Roll}
use Rattle.f2_overlay.specs.declared.marks.Rolling.{Rolling}
use Rattle.f2_overlay.proofs.Maps.{not_none}
use Rattle.f2_overlay.proofs.Newer.{newest_some}
use Rattle.f2_overlay.proofs.StartPages.{IsStart, start_is}
use Rattle.f2_overlay.proofs.MarkedFile.{inode_pages_are, node_pages_are, marked_pages}
use Rattle.f2_overlay.proofs.ReadInodes.{IsInodeOf, inode_read, named_of}
use Rattle.f2_overlay.proofs.TakenNodes.{nodes_at}
use Rattle.f2_overlay.proofs.Rolled.{rolled_marked}

-- the newest blocks of a file stand in the log
pub newest_within : (log : List Logged) (place ino : ℕ) (newest : Places) (pending : map.FinMap _ Places) → place < length log → ArePending log place pending → ((offset : ℕ) → map.get newest offset ≡ place_of pending ino offset) → AreWithin log newest
newest_within log place ino newest pending within are taken offset q there = by (cases_eq offset 0)
  where
    by : (offset ≡ 0) ⊎ (offset ≢ 0) → q < length log
    by (inl top) = absurd (not_none q (sym (are.inodes ino) ∙ ap (place_of pending ino) (sym top) ∙ sym (taken offset) ∙ there))
    by (inr some) = let low = newest_some log place ino offset q (sym (are.nodes ino offset some) ∙ sym (taken offset) ∙ there) in omega (arith, low.0, within)

module _ (held : Option Contents) (geom : ImageGeometry) (image : Image) (ckpt : Checkpoint) (walk : Walk) (log : List Logged) (ground : IsGround held geom image ckpt walk log) (place ino : ℕ) (within : place < length log) (marked : is_marked (block_in log place) ≡ true) (own : footer_ino (block_in log place) ≡ ino) where
  -- it is one of the chain
  pub at : IsMarkedAt image ckpt place (block_in (chain image ckpt) place)
  at = record { within = subst (λ (l : List Logged). place < length l) ground.chain_is within; stands = refl; marked = ap (λ (l : List Logged). is_marked (block_in l place)) (sym ground.chain_is) ∙ marked }

  own_at : footer_ino (block_in (chain image ckpt) place) ≡ ino
  own_at = ap (λ (l : List Logged). footer_ino (block_in l place)) (sym ground.chain_is) ∙ own

  -- its inode is none of ours
  pub bad_inode : (logged : Logged) → logged ≡ slice_index_or log place logged → logged ≡ slice_index_or log place no_block → IsForeign logged.block → IsBadInode image ckpt logged.at
  bad_inode logged is same odd =
      let here : logged ≡ slice_index_or (chain image ckpt) place no_block = same ∙ ap (λ (l : List Logged). slice_index_or l place no_block) ground.chain_is in
      faults.in_log place (block_in (chain image ckpt) place) at (sym (ap (λ (x : Logged). x.at) here)) (subst (λ (x : Logged). IsForeign x.block) here odd)

  module _ (rolling : Rolling) (before : IsRolledTo image ckpt walk place rolling) (inode : Inode) (block : List ℕ) (block_is : block ≡ block_in log place) (read : checked_inode (inode_of block) ≡ Ok inode)
      (newest : Places) (taken : (offset : ℕ) → map.get newest offset ≡ place_of rolling.pending ino offset) where
    inode_is : IsInodeOf (block_in (chain image ckpt) place) inode
    inode_is = subst (λ (b : List ℕ). IsInodeOf b inode) (block_is ∙ ap (λ (l : List Logged). block_in l place) ground.chain_is) (inode_read block inode read)

    newest_is : (offset : ℕ) → offset ≢ 0 → map.get newest offset ≡ newest_before (chain image ckpt) place ino offset
    newest_is offset some = taken offset ∙ before.pending.nodes ino offset some

    -- what the mark tells are pages
    pub from_inode : ArePagesFrom image ckpt ino 0 inode.addr
    from_inode = inode_pages_are image ckpt place ino at own_at inode.addr inode_is.addresses

    pub from_nodes : AreNodePages image ckpt ino log newest
    from_nodes = subst (λ (l : List Logged). AreNodePages image ckpt ino l newest) (sym ground.chain_is) (node_pages_are image ckpt place ino at own_at inode.addr inode_is.addresses newest newest_is)

    module _ (unreached : map.get walk.rows ino ≡ None → node image ckpt ino ≡ None) (begun mid all : Pages) (starts : StartAs (map.get rolling.rolls ino) (map.get walk.rows ino) begun) (put : ArePut 0 inode.addr begun mid) (nodes : AreNodesPut log newest map.empty mid all) where
      start : IsStart image ckpt walk place ino rolling.owners begun
      start = start_is image ckpt walk place ino rolling.owners ground.base unreached at own_at before.owners rolling.rolls begun before.rolls starts

      -- the pages are its own, as they were when it began
      module _ (owned : Owned) (keep : AreOwn ino begun rolling.owners → AreOwn ino all owned) where
        are_own : AreOwn ino all owned
        are_own = keep start.own

        pages_are : AreMarked image ckpt place all
        pages_are =
            marked_pages image ckpt place ino at own_at inode.addr inode_is.addresses newest newest_is walk rolling.owners owned begun mid all start put
            (subst (λ (l : List Logged). AreNodesPut l newest map.empty mid all) ground.chain_is nodes) are_own

        -- what follows of a mark with these pages
        pub at_end : (Then : Type 0)
            → ((marked_block : List ℕ) → IsMarkedAt image ckpt place marked_block → footer_ino marked_block ≡ ino → inode.size ≡ (inode_of marked_block).size → AreMarked image ckpt place all → Then) → Then
        at_end Then then = then (block_in (chain image ckpt) place) at own_at inode_is.size pages_are

        -- the mark was put
        module _ (roll : Roll) (new : Rolling) (size : roll.size ≡ inode.size) (pages : roll.pages ≡ all) (named : IsNamedAs inode (map.get walk.rows ino) roll.parent roll.name) (owned_is : new.owners ≡ owned) (left : IsLeft rolling.pending new.pending ino)
            (others : (other : ℕ) → other ≢ ino → map.get new.rolls other ≡ map.get rolling.rolls other) (here : map.get new.rolls ino ≡ Some roll) (more : IsMore rolling.owners owned) (right : AreRight image ckpt owned)
            (ends : (page q : ℕ) → map.get all page ≡ Some q → ¬ (IsPastSize image inode.size page q)) (first taken_nodes : Nodes) (begins : StartNodesAs (map.get rolling.rolls ino) first) (direct : AreNodesTaken log newest map.empty first taken_nodes)
            (put_nodes : roll.nodes ≡ map.insert taken_nodes 0 (node_in log place)) where
          nodes_are : AreNodesAt image ckpt place ino roll.nodes
          nodes_are =
              nodes_at image ckpt walk place ino at own_at rolling.rolls before.rolls newest newest_is first taken_nodes begins (subst (λ (l : List Logged). AreNodesTaken l newest map.empty first taken_nodes) ground.chain_is direct) roll.nodes
              (put_nodes ∙ ap (λ (l : List Logged). map.insert taken_nodes 0 (node_in l place)) ground.chain_is)

          pub rolled : IsRolledTo image ckpt walk (place + 1) new
          rolled =
              rolled_marked image ckpt walk place rolling new before ino at own_at left others roll here (size ∙ inode_is.size) (named_of (block_in (chain image ckpt) place) inode (map.get walk.rows ino) roll inode_is named)
              (subst (λ (m : Pages). AreMarked image ckpt place m) (sym pages) pages_are) nodes_are (subst (IsMore rolling.owners) (sym owned_is) more) (subst (AreRight image ckpt) (sym owned_is) right)
              (subst (λ (m : Pages). AreOwn ino m new.owners) (sym pages) (subst (AreOwn ino all) (sym owned_is) are_own))
              (λ page q there. subst (λ n. IsPastSize image n page q → ⊥) (sym size) (ends page q (ap (λ (m : Pages). map.get m page) (sym pages) ∙ there)))
