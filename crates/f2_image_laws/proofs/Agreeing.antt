-- Images that agree on what a sound one depends on have the same nodes.
use Rattle.std.proofs.Common.{◌≡◌, ◌≢◌, ℕ, ◌<◌, ◌≤◌, ◌==◌, ◌||◌, nat_le, Bool, true, false, cond, List, refl, sym, ap, ◌∙◌, arith}
use Rattle.std.specs.Prelude.{Some, None, nat_eq}
use Rattle.std.specs.Option.{unwrap_or}
use Rattle.std.specs.Cmp.Lexicographic.{pointwise, same_text, other_text}
use native.Mathlib.Decide.{dec_lt}
use Rattle.f2_format.specs.Geometry.{nat_address, nid_limit}
use Rattle.f2_format.specs.Nat.{nat_entry, nat_block_of, nat_place_of, is_second_copy}
use Rattle.f2_format.specs.Journal.{journal_find, journal_count, MOST_JOURNAL_ENTRIES}
use Rattle.f2_image.specs.Images.{Image, block_at}
use Rattle.f2_image.specs.Packs.{Checkpoint, journal}
use Rattle.f2_image.specs.Nodes.{place_of_nid, node_address, block_there, node}
use Rattle.f2_image.specs.Chains.{chain}
use Rattle.f2_image.specs.Faults.{IsSound, HasTable, Journal, BadNat, VersionEnd}
use Rattle.f2_image.specs.Faults as faults
use Rattle.f2_image_laws.specs.Depending.{DependsOn}
use Rattle.f2_image_laws.specs.Depending as depending
use Rattle.f2_image_laws.proofs.SameNodes.{HasSameNodes}
use Rattle.f2_image_laws.proofs.Numbers.{differ_of, not_less}

-- lists of numbers are the same or differ
same_or_not : (xs ys : List ℕ) → Dec (xs ≡ ys)
same_or_not xs ys = by_test (pointwise nat_eq xs ys) refl
  where
    by_test : (b : Bool) → b ≡ pointwise nat_eq xs ys → Dec (xs ≡ ys)
    by_test true e = yes (same_text xs ys e)
    by_test false e = no (other_text xs ys e)

-- past the table there is no address
past_table : (limit nid place : ℕ) → ¬ (nid < limit) → cond ((nid == 0) || nat_le limit nid) 0 place ≡ 0
past_table limit nid place past = ap (λ b. cond ((nid == 0) || b) 0 place) (test limit nid (omega (arith, past))) ∙ either (nid == 0)
  where
    test : (m n : ℕ) → m ≤ n → nat_le m n ≡ true
    test m n le = grind (arith, le)

    either : (b : Bool) → cond (b || true) 0 place ≡ 0
    either true = refl
    either false = refl

-- an address comes from the table
from_table : (limit nid place : ℕ) → cond ((nid == 0) || nat_le limit nid) 0 place ≢ 0 → (nid < limit) × (place ≢ 0)
from_table limit nid place there = (by_order (dec_lt nid limit), λ none. there (of_zero ((nid == 0) || nat_le limit nid) place none))
  where
    by_order : Dec (nid < limit) → nid < limit
    by_order (yes small) = small
    by_order (no past) = absurd (there (past_table limit nid place past))

    of_zero : (b : Bool) (place : ℕ) → place ≡ 0 → cond b 0 place ≡ 0
    of_zero true place none = refl
    of_zero false place none = none

-- the table of a sound image can be read
pub sound_table : (image : Image) (ckpt : Checkpoint) → IsSound image ckpt → HasTable ckpt
sound_table image ckpt sound = by_order (dec_lt MOST_JOURNAL_ENTRIES (journal_count ckpt.summary))
  where
    not_end : Journal ≢ VersionEnd
    not_end same = cc

    by_order : Dec (MOST_JOURNAL_ENTRIES < journal_count ckpt.summary) → HasTable ckpt
    by_order (yes many) = absurd (sound Journal (journal_count ckpt.summary) not_end (many, refl))
    by_order (no few) = not_less MOST_JOURNAL_ENTRIES (journal_count ckpt.summary) few

pub bad_nat : BadNat ≢ VersionEnd
bad_nat e = cc

pub block_there-same : (a b : Image) (at : ℕ) → (at ≢ 0 → block_at b at ≡ block_at a at) → block_there b at ≡ block_there a at
block_there-same a b at same = by_zero (at == 0) refl
  where
    by_zero : (b' : Bool) → (at == 0) ≡ b' → cond b' None (Some (block_at b at)) ≡ cond b' None (Some (block_at a at))
    by_zero true e = refl
    by_zero false e = ap Some (same (differ_of at 0 e))

module _ (image other : Image) (ckpt : Checkpoint) (sound : IsSound image ckpt) (agree : (at : ℕ) → DependsOn image ckpt at → block_at other at ≡ block_at image at) where
  same_place : (nid : ℕ) → nid < nid_limit ckpt.geom → place_of_nid other ckpt nid ≡ place_of_nid image ckpt nid
  unfolding place_of_nid
  same_place nid small =
      ap (λ block. unwrap_or (journal_find (journal ckpt) nid) (nat_entry block (nat_place_of nid))) (agree (nat_address ckpt.geom (nat_block_of nid) (is_second_copy ckpt.head.bitmap (nat_block_of nid))) (depending.table nid small refl))

  same_address : (nid : ℕ) → node_address other ckpt nid ≡ node_address image ckpt nid
  same_address nid = by_order (dec_lt nid (nid_limit ckpt.geom))
    where
      by_order : Dec (nid < nid_limit ckpt.geom) → node_address other ckpt nid ≡ node_address image ckpt nid
      by_order (yes small) = ap (λ place. cond ((nid == 0) || nat_le (nid_limit ckpt.geom) nid) 0 place.1) (same_place nid small)
      by_order (no past) = past_table (nid_limit ckpt.geom) nid (place_of_nid other ckpt nid).1 past ∙ sym (past_table (nid_limit ckpt.geom) nid (place_of_nid image ckpt nid).1 past)

  -- an address in the table of a sound image is that of a node of the base
  same_at_address : (nid : ℕ) → node_address image ckpt nid ≢ 0 → block_at other (node_address image ckpt nid) ≡ block_at image (node_address image ckpt nid)
  same_at_address nid there = by_test (same_or_not (block_at other (node_address image ckpt nid)) (block_at image (node_address image ckpt nid)))
    where
      by_test : Dec (block_at other (node_address image ckpt nid) ≡ block_at image (node_address image ckpt nid)) → block_at other (node_address image ckpt nid) ≡ block_at image (node_address image ckpt nid)
      by_test (yes same) = same
      by_test (no differ) =
          let place = from_table (nid_limit ckpt.geom) nid (place_of_nid image ckpt nid).1 there in
          absurd (sound BadNat nid bad_nat (
            sound_table image ckpt sound,
            faults.unreached place.0 place.1 (λ ino offset is. differ (agree (node_address image ckpt nid) (depending.node ino offset nid is refl))),
          ))

  same_node : (nid : ℕ) → node other ckpt nid ≡ node image ckpt nid
  same_node nid = ap (block_there other) (same_address nid) ∙ block_there-same image other (node_address image ckpt nid) (same_at_address nid)

  pub same_nodes : chain other ckpt ≡ chain image ckpt → HasSameNodes image other ckpt
  same_nodes log = record { places = same_place; addresses = same_address; nodes = same_node; log = log }
