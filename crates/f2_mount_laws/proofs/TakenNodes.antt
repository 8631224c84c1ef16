-- The nodes that are taken over: each is the base's, a block of the node log, or a new one.
use Rattle.std.proofs.Common.{◌≡◌, ◌≢◌, ◌⊎◌, inl, inr, ℕ, ◌<◌, ◌≤◌, ◌==◌, IsTrue, List, length, IsSome, is_some, refl, sym, ap, ◌∙◌, subst, arith, true≢false}
use Rattle.std.specs.Prelude.{Some}
use Rattle.std.specs.FinMap as map
use Rattle.std.proofs.lemmas.Bool.{and_parts}
use native.Mathlib.Decide.{dec_lt}
use Rattle.f2_format.specs.Geometry.{nid_limit, is_in_node}
use Rattle.f2_format.specs.Footer.{footer_nid, footer_ino, footer_offset, has_fsync_mark}
use Rattle.f2_model.specs.Tree.{Rows, ROOT}
use Rattle.f2_model.specs.State.{Mark}
use Rattle.f2_image.specs.Images.{Image, block_at}
use Rattle.f2_image.specs.Packs.{Checkpoint}
use Rattle.f2_image.specs.Chains.{chain, block_in}
use Rattle.f2_image.specs.Reached.{IsDirect, IsTaken}
use Rattle.f2_image.specs.Reached as reached
use Rattle.f2_image.specs.Faults.{IsSound, HasNid}
use Rattle.f2_image.specs.Faults as faults
use Rattle.f2_image.specs.Meanings.{MeansAt}
use Rattle.f2_image_laws.specs.Chained.{address_of}
use Rattle.f2_image_laws.proofs.Numbers.{same_of, not_less}
use Rattle.f2_image_laws.proofs.Sound.{no_bad_nat}
use Rattle.f2_stored.specs.Places.{NodeAt}
use Rattle.f2_stored.specs.Trees.{Unwritten}
use Rattle.f2_place_laws.proofs.Decided.{not_other}
use Rattle.f2_mount_laws.specs.Taken.{IsLastMark, IsLastBlock, IsNewNid, StaysOrComes, stays, comes, IsMarkedNode, inode, logged, based, indirect, IsTakenNode, kept, marked, laid, IsTakenOver}
use Rattle.f2_stored.specs.Places.{Places}
use Rattle.f2_mount_laws.proofs.Logs.{of_node, block_is, zone_is}
use Rattle.f2_mount_laws.proofs.Old.{is_node}

module _ (image : Image) (ckpt : Checkpoint) (sound : IsSound image ckpt) where
  -- the block of a mark is an inode, with its ino as nid
  pub mark_offset : (ino place : ℕ) → IsLastMark image ckpt ino place → footer_offset (block_in (chain image ckpt) place) ≡ 0
  mark_offset ino place last =
      let block = block_in (chain image ckpt) place in
      same_of (footer_offset block) 0 (and_parts (footer_offset block == 0) (has_fsync_mark block) last.marked.marked).0

  pub mark_nid : (ino place : ℕ) → IsLastMark image ckpt ino place → footer_nid (block_in (chain image ckpt) place) ≡ ino
  mark_nid ino place last =
      let block = block_in (chain image ckpt) place in
      not_other (footer_nid block) (footer_ino block) (λ differ. no_bad_nat image ckpt sound (footer_nid block) (faults.no_ino place block (reached.marked last.marked) refl (mark_offset ino place last) differ)) ∙ last.own

module _ (image : Image) (ckpt : Checkpoint) (base : Rows) (marks : List Mark) (tree : Rows) (places : Places) (unwritten : Unwritten)
    (means : MeansAt image ckpt base marks) (is : IsTakenOver image ckpt base marks tree places unwritten) where
  -- a node is a block of the node log that recovery takes
  pub record IsLogged (ino offset : ℕ) (n : NodeAt) : Type 0 where
    pub place : ℕ
    pub within : place < length (chain image ckpt)
    pub taken : IsTaken image ckpt place (block_in (chain image ckpt) place)
    pub ino_is : footer_ino (block_in (chain image ckpt) place) ≡ ino
    pub offset_is : footer_offset (block_in (chain image ckpt) place) ≡ offset
    pub nid_is : n.nid ≡ footer_nid (block_in (chain image ckpt) place)
    pub at_is : n.at ≡ address_of (chain image ckpt) place

  pub data NodeIs (ino offset : ℕ) (n : NodeAt) : Type 0 where
    in_base : map.get is.old.nodes (ino, offset) ≡ Some n → NodeIs ino offset n
    in_log : IsLogged ino offset n → NodeIs ino offset n
    new : offset ≢ 0 → n.at ≡ 0 → IsNewNid image ckpt is.old n.nid → NodeIs ino offset n

  -- a direct node of the log counts for the mark after it
  pub direct_logged : (ino offset place at : ℕ) (n : NodeAt) → IsLastMark image ckpt ino place → IsDirect offset → IsLastBlock (chain image ckpt) place ino offset at
      → n.nid ≡ footer_nid (block_in (chain image ckpt) at) → n.at ≡ address_of (chain image ckpt) at → IsLogged ino offset n
  direct_logged ino offset place at n last direct block nid at_is =
      let own = of_node (block_in (chain image ckpt) at) ino offset block.own in
      let before = block.before in
      let limit = last.marked.within in
      record {
        place = at;
        within = omega (arith, before, limit);
        taken = reached.direct
            (record { stands = refl; mark = place; inode = block_in (chain image ckpt) place; later = before; marked = last.marked; same = last.own ∙ sym own.0 })
            (subst IsDirect (sym own.1) direct);
        ino_is = own.0;
        offset_is = own.1;
        nid_is = nid;
        at_is = at_is;
      }

  marked_is : (ino offset place : ℕ) (n : NodeAt) → IsLastMark image ckpt ino place → IsMarkedNode image ckpt is.old place ino offset n → NodeIs ino offset n
  marked_is ino offset place n last (inode zero nid at) = in_log (record {
    place = place;
    within = last.marked.within;
    taken = reached.marked last.marked;
    ino_is = last.own;
    offset_is = mark_offset image ckpt means.sound ino place last ∙ sym zero;
    nid_is = nid ∙ sym (mark_nid image ckpt means.sound ino place last);
    at_is = at;
  })
  marked_is ino offset place n last (logged at direct block nid at_is) = in_log (direct_logged ino offset place at n last direct block nid at_is)
  marked_is ino offset place n last (based direct none there) = in_base there
  marked_is ino offset place n last (indirect other none (stays there)) = in_base there
  marked_is ino offset place n last (indirect other none (comes absent nowhere own)) = new other nowhere own

  -- a directory of the base has its inode
  laid_is : (ino offset : ℕ) (n : NodeAt) → (row : IsSome (map.get is.old.nodes (ino, 0))) → StaysOrComes image ckpt is.old ino offset n → NodeIs ino offset n
  laid_is ino offset n root (stays there) = in_base there
  laid_is ino offset n root (comes absent nowhere own) = new (λ zero. true≢false (sym root ∙ ap (λ o. is_some (map.get is.old.nodes (ino, o))) (sym zero) ∙ ap is_some absent)) nowhere own

  pub taken_is : (ino offset : ℕ) (n : NodeAt) → IsTakenNode image ckpt is.old is.anew ino offset n → NodeIs ino offset n
  taken_is ino offset n (kept unmarked same there) = in_base there
  taken_is ino offset n (marked place last own) = marked_is ino offset place n last own
  taken_is ino offset n (laid anew own) = let row = is.directories ino anew in laid_is ino offset n (is.stands.laid.inodes ino row.0 row.1) own

  pub node_is : (ino offset : ℕ) (n : NodeAt) → map.get places.nodes (ino, offset) ≡ Some n → NodeIs ino offset n
  node_is ino offset n there = taken_is ino offset n (is.nodes ino offset n there)

  -- the block where a node stands is its own
  pub record HasBlockAt (ino offset : ℕ) (n : NodeAt) : Type 0 where
    pub in_zone : IsTrue (is_in_node ckpt.geom n.at)
    pub nid : footer_nid (block_at image n.at) ≡ n.nid
    pub ino_is : footer_ino (block_at image n.at) ≡ ino
    pub offset_is : footer_offset (block_at image n.at) ≡ offset

  logged_block : (ino offset : ℕ) (n : NodeAt) (log : IsLogged ino offset n) → block_in (chain image ckpt) log.place ≡ block_at image n.at
  logged_block ino offset n log = block_is image ckpt log.place log.within ∙ ap (block_at image) (sym log.at_is)

  pub base_block : (ino offset : ℕ) (n : NodeAt) → map.get is.old.nodes (ino, offset) ≡ Some n → HasBlockAt ino offset n
  base_block ino offset n there =
      let here = is.stands.nodes ino offset n there in
      record { in_zone = here.in_zone; nid = here.own.footer_nid; ino_is = here.own.footer_ino; offset_is = here.own.footer_offset }

  pub log_block : (ino offset : ℕ) (n : NodeAt) → IsLogged ino offset n → HasBlockAt ino offset n
  log_block ino offset n log =
      let same = sym (logged_block ino offset n log) in
      record {
        in_zone = subst (λ at. IsTrue (is_in_node ckpt.geom at)) (sym log.at_is) (zone_is image ckpt means.checkpoint means.sound log.place log.within);
        nid = ap footer_nid same ∙ sym log.nid_is;
        ino_is = ap footer_ino same ∙ log.ino_is;
        offset_is = ap footer_offset same ∙ log.offset_is;
      }

  block_own : (ino offset : ℕ) (n : NodeAt) → n.at ≢ 0 → NodeIs ino offset n → HasBlockAt ino offset n
  block_own ino offset n some (in_base there) = base_block ino offset n there
  block_own ino offset n some (in_log log) = log_block ino offset n log
  block_own ino offset n some (new other nowhere own) = absurd (some nowhere)

  -- a nid that isn't new is known of the node
  base_nid : (ino offset : ℕ) (n : NodeAt) → map.get is.old.nodes (ino, offset) ≡ Some n → HasNid image ckpt ino offset n.nid
  base_nid ino offset n there = faults.in_base (is_node image ckpt base means.is_base is.old is.stands ino offset n there)

  log_nid : (ino offset : ℕ) (n : NodeAt) → IsLogged ino offset n → HasNid image ckpt ino offset n.nid
  log_nid ino offset n log = faults.in_log log.place (block_in (chain image ckpt) log.place) log.taken log.ino_is log.offset_is (sym log.nid_is)

  -- and no other node has the nid of a block of the log
  log_apart : (ino offset : ℕ) (n : NodeAt) → IsLogged ino offset n → (file other : ℕ) → HasNid image ckpt file other n.nid → (ino ≡ file) × (offset ≡ other)
  log_apart ino offset n log file other has =
      let block = block_in (chain image ckpt) log.place in
      let differs : ((footer_ino block ≢ file) ⊎ (footer_offset block ≢ other)) → ⊥ = λ differ.
      no_bad_nat image ckpt means.sound n.nid (faults.taken log.place block file other log.taken (sym log.nid_is) has differ)
      in (sym log.ino_is ∙ not_other (footer_ino block) file (λ d. differs (inl d)), sym log.offset_is ∙ not_other (footer_offset block) other (λ d. differs (inr d)))

  same_pair : (one other : ℕ × ℕ) → (one.0 ≡ other.0) × (one.1 ≡ other.1) → one ≡ other
  same_pair one other both = λ i. (both.0 i, both.1 i)

  nids_by : (one other : ℕ × ℕ) (a b : NodeAt) → map.get places.nodes one ≡ Some a → map.get places.nodes other ≡ Some b → a.nid ≡ b.nid → NodeIs one.0 one.1 a → NodeIs other.0 other.1 b → one ≡ other
  nids_by one other a b there too same (new apart nowhere own) q = is.new_apart one other a b there too own same
  nids_by one other a b there too same p (new apart nowhere own) = sym (is.new_apart other one b a too there own (sym same))
  nids_by one other a b there too same (in_base p) (in_base q) = is.stands.laid.nids_apart one other a b p q same
  nids_by one other a b there too same (in_log p) (in_base q) =
      same_pair one other (log_apart one.0 one.1 a p other.0 other.1 (subst (HasNid image ckpt other.0 other.1) (sym same) (base_nid other.0 other.1 b q)))
  nids_by one other a b there too same (in_log p) (in_log q) =
      same_pair one other (log_apart one.0 one.1 a p other.0 other.1 (subst (HasNid image ckpt other.0 other.1) (sym same) (log_nid other.0 other.1 b q)))
  nids_by one other a b there too same (in_base p) (in_log q) =
      sym (same_pair other one (log_apart other.0 other.1 b q one.0 one.1 (subst (HasNid image ckpt one.0 one.1) same (base_nid one.0 one.1 a p))))

  pub nids_apart : (one other : ℕ × ℕ) (a b : NodeAt) → map.get places.nodes one ≡ Some a → map.get places.nodes other ≡ Some b → a.nid ≡ b.nid → one ≡ other
  nids_apart one other a b there too same = nids_by one other a b there too same (node_is one.0 one.1 a there) (node_is other.0 other.1 b too)

  pub nodes_apart : (one other : ℕ × ℕ) (a b : NodeAt) → map.get places.nodes one ≡ Some a → map.get places.nodes other ≡ Some b → a.at ≢ 0 → a.at ≡ b.at → one ≡ other
  nodes_apart one other a b there too some same =
      let p = block_own one.0 one.1 a some (node_is one.0 one.1 a there) in
      let q = block_own other.0 other.1 b (λ none. some (same ∙ none)) (node_is other.0 other.1 b too) in
      same_pair one other (sym p.ino_is ∙ ap (λ at. footer_ino (block_at image at)) same ∙ q.ino_is, sym p.offset_is ∙ ap (λ at. footer_offset (block_at image at)) same ∙ q.offset_is)

  -- a nid that a node may have
  log_high : (ino offset : ℕ) (n : NodeAt) → IsLogged ino offset n → 4 ≤ n.nid
  log_high ino offset n log = not_less n.nid 4 (λ small. no_bad_nat image ckpt means.sound n.nid (faults.no_nid log.place (block_in (chain image ckpt) log.place) log.taken (sym log.nid_is) (inl small)))

  log_within : (ino offset : ℕ) (n : NodeAt) → IsLogged ino offset n → n.nid < nid_limit ckpt.geom
  log_within ino offset n log = by_order (dec_lt n.nid (nid_limit ckpt.geom))
    where
      by_order : Dec (n.nid < nid_limit ckpt.geom) → n.nid < nid_limit ckpt.geom
      by_order (yes small) = small
      by_order (no past) = absurd (no_bad_nat image ckpt means.sound n.nid (faults.no_nid log.place (block_in (chain image ckpt) log.place) log.taken (sym log.nid_is) (inr (not_less n.nid (nid_limit ckpt.geom) past))))

  pub least : (ino offset : ℕ) (n : NodeAt) → NodeIs ino offset n → (4 ≤ n.nid) ⊎ ((ino ≡ ROOT) × (offset ≡ 0))
  least ino offset n (in_base there) = (is.stands.laid.nodes ino offset n there).least
  least ino offset n (in_log log) = inl (log_high ino offset n log)
  least ino offset n (new other nowhere own) = inl own.least

  pub most : (ino offset : ℕ) (n : NodeAt) → NodeIs ino offset n → n.nid < nid_limit ckpt.geom
  most ino offset n (in_base there) = (is.stands.laid.nodes ino offset n there).most
  most ino offset n (in_log log) = log_within ino offset n log
  most ino offset n (new other nowhere own) = own.most

  pub inode_nid : (ino offset : ℕ) (n : NodeAt) → NodeIs ino offset n → offset ≡ 0 → n.nid ≡ ino
  inode_nid ino offset n (in_base there) zero = (is.stands.laid.nodes ino offset n there).inode zero
  inode_nid ino offset n (in_log log) zero =
      let block = block_in (chain image ckpt) log.place in
      log.nid_is
      ∙ not_other (footer_nid block) (footer_ino block) (λ differ. no_bad_nat image ckpt means.sound (footer_nid block) (faults.no_ino log.place block log.taken refl (log.offset_is ∙ zero) differ)) ∙ log.ino_is
  inode_nid ino offset n (new other nowhere own) zero = absurd (other zero)
