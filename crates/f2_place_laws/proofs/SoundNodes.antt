-- The nodes of a sound image: what the table and the footers tell of them.
use Rattle.std.proofs.Common.{◌≡◌, ◌≢◌, inl, inr, ℕ, ◌<◌, ◌==◌, nat_le, ◌||◌, Bool, true, false, cond, List, refl, sym, ap, ◌∙◌, subst, arith}
use Rattle.std.specs.Prelude.{Some}
use Rattle.std.proofs.lemmas.Bool.Decides.{nat_tests}
use native.Mathlib.Decide.{dec_lt}
use Rattle.f2_format.specs.Geometry.{is_in_node, nid_limit}
use Rattle.f2_format.specs.Footer.{footer_nid, footer_ino, footer_offset}
use Rattle.f2_format.specs.Journal.{journal_count, MOST_JOURNAL_ENTRIES}
use Rattle.f2_model.specs.Tree.{ROOT}
use Rattle.f2_image.specs.Images.{Image, block_at}
use Rattle.f2_image.specs.Packs.{Checkpoint}
use Rattle.f2_image.specs.Nodes.{node, node_address, place_of_nid, block_there}
use Rattle.f2_image.specs.Reached.{IsNode}
use Rattle.f2_image.specs.Faults as faults
use Rattle.f2_image.specs.Faults.{HasTable, IsBadEntry, IsSound, Journal, BadNat, VersionEnd}
use Rattle.f2_place_laws.proofs.Decided.{NotFalse, not_other}
use Rattle.f2_place_laws.proofs.Stood.{in_node_some, block_is_there}

-- an address that the table tells is that of a nid of the table
pub in_table : (nid limit at : ℕ) → cond ((nid == 0) || nat_le limit nid) 0 at ≢ 0 → (nid ≢ 0) × (nid < limit) × (cond ((nid == 0) || nat_le limit nid) 0 at ≡ at)
in_table nid limit at some = by_tests (nid == 0) (nat_le limit nid) refl refl some
  where
    not_zero : (n : ℕ) → (n == 0) ≡ false → n ≢ 0
    not_zero n e = grind (arith, nat_tests, e)

    below : (n m : ℕ) → nat_le m n ≡ false → n < m
    below n m e = grind (arith, nat_tests, e)

    by_tests : (a b : Bool) → (nid == 0) ≡ a → nat_le limit nid ≡ b → cond (a || b) 0 at ≢ 0 → (nid ≢ 0) × (nid < limit) × (cond (a || b) 0 at ≡ at)
    by_tests true b x y none = absurd (none refl)
    by_tests false true x y none = absurd (none refl)
    by_tests false false x y none = (not_zero nid x, below nid limit y, refl)

module _ (image : Image) (ckpt : Checkpoint) where
  -- the address of a nid by the table, the block there, and the node that the block's footer tells
  abbrev pub place : ℕ → ℕ
  place nid = (place_of_nid image ckpt nid).1

  abbrev pub block_of : ℕ → List ℕ
  block_of nid = block_at image (place nid)

  abbrev pub key : ℕ → ℕ × ℕ
  key nid = (footer_ino (block_of nid), footer_offset (block_of nid))

  -- a nid of the table that has an address
  pub record IsGiven (nid : ℕ) : Type 0 where
    pub within : nid < nid_limit ckpt.geom
    pub some : place nid ≢ 0

  -- what is right of a node of the base
  pub record IsRight (ino offset nid : ℕ) : Type 0 where
    pub given : IsGiven nid
    pub not_zero : nid ≢ 0
    pub address : node_address image ckpt nid ≡ place nid
    pub in_zone : is_in_node ckpt.geom (place nid) ≡ true
    pub there : node image ckpt nid ≡ Some (block_of nid)
    pub nid_is : footer_nid (block_of nid) ≡ nid
    pub ino_is : footer_ino (block_of nid) ≡ ino
    pub offset_is : footer_offset (block_of nid) ≡ offset
    pub least : nid < 4 → (ino ≡ ROOT) × (offset ≡ 0)

  module _ (sound : IsSound image ckpt) where
    pub table : HasTable ckpt
    table = by_order (dec_lt MOST_JOURNAL_ENTRIES (journal_count ckpt.summary))
      where
        not_end : Journal ≢ VersionEnd
        not_end same = cc

        by_order : Dec (MOST_JOURNAL_ENTRIES < journal_count ckpt.summary) → HasTable ckpt
        by_order (yes many) = absurd (sound Journal (journal_count ckpt.summary) not_end (many, refl))
        by_order (no few) = omega (arith, few)

    right_nat : (nid : ℕ) → faults.IsBadNat image ckpt nid → ⊥
    right_nat nid bad = sound BadNat nid not_end (table, bad)
      where
        not_end : BadNat ≢ VersionEnd
        not_end same = cc

    pub right_entry : (nid : ℕ) → ¬ (IsBadEntry ckpt nid)
    right_entry nid bad = right_nat nid (faults.entry bad)

    -- a nid that has an address is one of a node
    some_node : (nid : ℕ) → IsGiven nid → ((ino offset : ℕ) → ¬ (IsNode image ckpt ino offset nid)) → ⊥
    some_node nid given none = right_nat nid (faults.unreached given.within given.some none)

    module _ (ino offset nid : ℕ) (is_node : IsNode image ckpt ino offset nid) where
      zone : is_in_node ckpt.geom (node_address image ckpt nid) ≡ true
      zone = by_test (is_in_node ckpt.geom (node_address image ckpt nid)) refl
        where
          by_test : (b : Bool) → is_in_node ckpt.geom (node_address image ckpt nid) ≡ b → b ≡ true
          by_test true is = refl
          by_test false is = absurd (right_nat nid (faults.nowhere ino offset is_node is))

      known_address : (nid ≢ 0) × (nid < nid_limit ckpt.geom) × (node_address image ckpt nid ≡ place nid)
      known_address = in_table nid (nid_limit ckpt.geom) (place nid) (in_node_some ckpt.geom (node_address image ckpt nid) zone)

      zone_of_place : is_in_node ckpt.geom (place nid) ≡ true
      zone_of_place = ap (is_in_node ckpt.geom) (sym known_address.2) ∙ zone

      its_block : node image ckpt nid ≡ Some (block_of nid)
      its_block = ap (block_there image) known_address.2 ∙ block_is_there image (place nid) (in_node_some ckpt.geom (place nid) zone_of_place)

      misplaced : faults.IsMisplaced (block_of nid) ino offset nid → ⊥
      misplaced bad = right_nat nid (faults.misplaced ino offset (block_of nid) is_node its_block bad)

      pub right : IsRight ino offset nid
      right = record {
        given = record { within = known_address.1; some = in_node_some ckpt.geom (place nid) zone_of_place };
        not_zero = known_address.0;
        address = known_address.2;
        in_zone = zone_of_place;
        there = its_block;
        nid_is = not_other (footer_nid (block_of nid)) nid (λ other. misplaced (inl other));
        ino_is = not_other (footer_ino (block_of nid)) ino (λ other. misplaced (inr (inl other)));
        offset_is = not_other (footer_offset (block_of nid)) offset (λ other. misplaced (inr (inr other)));
        least = λ small. (not_other ino ROOT (λ other. right_nat nid (faults.too_low ino offset is_node small (inl other))), not_other offset 0 (λ other. right_nat nid (faults.too_low ino offset is_node small (inr other))));
      }

    -- a nid that has an address is that of the node that its block tells
    pub known : (nid : ℕ) → IsGiven nid → NotFalse (IsNode image ckpt (key nid).0 (key nid).1 nid)
    known nid given none = some_node nid given (λ ino offset is_node.
        let facts = right ino offset nid is_node in
        none (subst (λ o. IsNode image ckpt (key nid).0 o nid) (sym facts.offset_is) (subst (λ i. IsNode image ckpt i offset nid) (sym facts.ino_is) is_node)))
