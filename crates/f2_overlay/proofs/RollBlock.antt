-- A block of a log, whatever it is.
use Rattle.std.proofs.Common.{◌≡◌, ◌≢◌, ℕ, ◌+◌, ◌<◌, ◌==◌, ◌&&◌, Bool, true, false, List, length, refl, sym, ap, subst, ◌∙◌, eq-eqb}
use Rattle.std.specs.Prelude.{Option, slice_index_or}
use Rattle.std.specs.FinMap as map
use Rattle.std.proofs.lemmas.Bool.{ne_eqb}
use Rattle.f2_disk.specs.Contents.{Contents}
use Rattle.f2_footer.specs.Footer.{footer_of}
use Rattle.f2_footer.specs.declared.Footer.{Footer}
use Rattle.f2_format.specs.Footer.{footer_ino, footer_offset, has_fsync_mark}
use Rattle.f2_format.specs.Geometry.{ImageGeometry, nid_limit}
use Rattle.f2_image.specs.Images.{Image}
use Rattle.f2_image.specs.Packs.{Checkpoint}
use Rattle.f2_image.specs.Chains.{Logged, block_in, is_marked}
use Rattle.f2_recover.specs.declared.walk.Walk.{Walk}
use Rattle.f2_overlay.specs.Pending.{AllPlaces, IsNoted, ArePending}
use Rattle.f2_overlay.specs.Rolling.{IsGround, IsRolledTo}
use Rattle.f2_overlay.specs.declared.marks.Rolling.{Rolling}
use Rattle.f2_overlay.proofs.PutNodes.{block_at_place}
use Rattle.f2_overlay.proofs.Newer.{pending_passed, pending_noted}
use Rattle.f2_overlay.proofs.Rolled.{rolled_none, rolled_unmarked}
use Rattle.f2_overlay.proofs.BaseOwners.{base_all}
use Rattle.f2_recover.proofs.Telling.{tells_on}
use Rattle.f2_overlay.specs.Owning.{AreBaseTo}

-- the footer of the block at a place
pub record IsFooterAt (log : List Logged) (place : ℕ) (footer : Footer) : Type 0 where
  pub ino : footer_ino (block_in log place) ≡ footer.ino
  pub offset : footer_offset (block_in log place) ≡ footer.offset
  pub fsync : has_fsync_mark (block_in log place) ≡ footer.fsync

pub footer_at : (log : List Logged) (place : ℕ) (logged : Logged) (block : List ℕ) (footer : Footer) → place < length log → logged ≡ slice_index_or log place logged → block ≡ logged.block → footer ≡ footer_of block → IsFooterAt log place footer
footer_at log place logged block footer within is same read =
    let whole : footer ≡ footer_of (block_in log place) = read ∙ ap footer_of (same ∙ block_at_place log place logged within is) in
    record { ino = sym (ap (λ (f : Footer). f.ino) whole); offset = sym (ap (λ (f : Footer). f.offset) whole); fsync = sym (ap (λ (f : Footer). f.fsync) whole) }

and_false : (a b : Bool) → b ≡ false → (a && b) ≡ false
and_false true b e = e
and_false false b e = refl

module _ (log : List Logged) (place : ℕ) (footer : Footer) (is : IsFooterAt log place footer) where
  pub no_mark_of_node : footer.offset ≢ 0 → is_marked (block_in log place) ≡ false
  no_mark_of_node some = ap (λ b. b && has_fsync_mark (block_in log place)) (ne_eqb (footer_offset (block_in log place)) 0 (λ top. some (sym is.offset ∙ top)))

  pub no_mark_of_inode : footer.fsync ≡ false → is_marked (block_in log place) ≡ false
  no_mark_of_inode none = and_false (footer_offset (block_in log place) == 0) (has_fsync_mark (block_in log place)) (is.fsync ∙ none)

  pub mark_of_inode : footer.offset ≡ 0 → footer.fsync ≡ true → is_marked (block_in log place) ≡ true
  mark_of_inode top some = ap (λ b. b && has_fsync_mark (block_in log place)) (eq-eqb (footer_offset (block_in log place)) 0 (is.offset ∙ top)) ∙ is.fsync ∙ some

  -- the newest blocks behind it
  pub noted_behind : (old new : AllPlaces) → footer.offset ≢ 0 → IsNoted old new footer.ino footer.offset place → ArePending log place old → ArePending log (place + 1) new
  noted_behind old new some noted are = pending_noted log place (no_mark_of_node some) footer.ino footer.offset is.ino is.offset some old new noted are

  pub passed_behind : (all : AllPlaces) → footer.offset ≡ 0 → footer.fsync ≡ false → ArePending log place all → ArePending log (place + 1) all
  passed_behind all top none are = pending_passed log place (no_mark_of_inode none) all (is.offset ∙ top) are

-- all else stays at a block without a mark
pub rolled_over : (held : Option Contents) (geom : ImageGeometry) (image : Image) (ckpt : Checkpoint) (walk : Walk) (log : List Logged) → IsGround held geom image ckpt walk log → (place : ℕ) → is_marked (block_in log place) ≡ false → (old new : Rolling)
    → new.rolls ≡ old.rolls → new.owners ≡ old.owners → ArePending log (place + 1) new.pending → IsRolledTo image ckpt walk place old → IsRolledTo image ckpt walk (place + 1) new
rolled_over held geom image ckpt walk log ground place unmarked old new rolls owners pending before =
    rolled_unmarked image ckpt walk place old new before (ap (λ (l : List Logged). is_marked (block_in l place)) (sym ground.chain_is) ∙ unmarked) rolls owners
    (subst (λ (l : List Logged). ArePending l (place + 1) new.pending) ground.chain_is pending)

-- a disk that still tells the image
pub ground_on : (held now : Option Contents) (geom : ImageGeometry) (image : Image) (ckpt : Checkpoint) (walk : Walk) (log : List Logged) → now ≡ held → IsGround held geom image ckpt walk log → IsGround now geom image ckpt walk log
ground_on held now geom image ckpt walk log same ground = record { tells = tells_on held now image same ground.tells; geom_is = ground.geom_is; base = ground.base; chain_is = ground.chain_is }

-- the log before its first block
pub rolled_first : (held : Option Contents) (geom : ImageGeometry) (image : Image) (ckpt : Checkpoint) (walk : Walk) (log : List Logged) → IsGround held geom image ckpt walk log → (rolling : Rolling) → rolling.rolls ≡ map.empty → rolling.pending ≡ map.empty
    → AreBaseTo image ckpt (nid_limit geom) rolling.owners → IsRolledTo image ckpt walk 0 rolling
rolled_first held geom image ckpt walk log ground rolling rolls pending owners =
    rolled_none image ckpt walk rolling rolls pending owners.right (λ ino page at is. base_all image ckpt walk ground.base geom rolling.owners ground.geom_is owners ino page at is)
