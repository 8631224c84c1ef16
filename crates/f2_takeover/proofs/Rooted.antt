-- The rows that are taken over hang together.
use Rattle.std.proofs.Common.{◌≡◌, ◌≢◌, ◌⊎◌, inl, inr, ℕ, ◌+◌, ◌≤◌, length, refl, sym, ap, ◌∙◌, subst, arith}
use Rattle.std.specs.Prelude.{List, [], take, Option, Some, None}
use Rattle.std.specs.FinMap as map
use Rattle.f2_model.specs.Tree.{ROOT, MOST_DEPTH, most_depth}
use Rattle.f2_model.specs.declared.rows.Kind.TheVariants.{Directory}
use Rattle.std.proofs.lemmas.Bool.{cases_eq}
use Rattle.f2_format.specs.Footer.{footer_ino}
use Rattle.f2_format.specs.Inode.{inode_of}
use Rattle.f2_image.specs.Images.{Image}
use Rattle.f2_image.specs.Packs.{Checkpoint}
use Rattle.f2_image.specs.Chains.{chain, block_in}
use Rattle.f2_image.specs.Faults.{IsBelow, BringsName, IsDirectoryOf, root, deeper}
use Rattle.f2_image.specs.Reached.{IsMarkedAt}
use Rattle.f2_image.proofs.Depths.{reached_of}
use Rattle.f2_overlay.specs.Lasts.{last_mark_before}
use Rattle.f2_overlay.specs.Names.{HasRightMarks}
use Rattle.f2_overlay.specs.Rolls.{IsRollAt, IsRollNamed, IsRoll, AreRolls}
use Rattle.f2_overlay.specs.declared.rolls.Roll.{Roll}
use Rattle.f2_overlay.proofs.LastPlaces.{last_is}
use Rattle.f2_overlay.proofs.Maps.{not_none, one_some}
use Rattle.f2_recover.specs.Walking.{IsBoundBy, IsPassed, IsWalked, IsBaseRead}
use Rattle.f2_recover.specs.declared.rows.BaseRow.{BaseRow}
use Rattle.f2_recover.specs.declared.walk.Walk.{Walk}
use Rattle.f2_recover.proofs.Walked.{one_kind, row_of}
use Rattle.f2_recover_laws.proofs.Stands.{not_root, one_dentry}
use Rattle.f2_takeover.specs.Orders.{Taken, HasRow, IsRooted}
use Rattle.f2_takeover.specs.Rows.{Rolls, IsDepthOf, IsOfRoll, IsTakenOver, AreRowsOf}
use Rattle.f2_takeover.specs.declared.rows.TakenRow.{TakenRow}

module _ (image : Image) (ckpt : Checkpoint) (walk : Walk) (is : IsWalked image ckpt walk) where
  -- an ino stands at one depth
  one_depth : (a b ino other : ℕ) → ino ≡ other → IsBelow image ckpt a ino → IsBelow image ckpt b other → a ≡ b
  one_depth _ _ _ _ same root root = refl
  one_depth _ _ _ _ same root (deeper depth directory dentry up has) = absurd (not_root image ckpt walk is directory has.0 has.1 dentry (reached_of image ckpt depth directory up) has.2 (sym same))
  one_depth _ _ _ _ same (deeper depth directory dentry up has) root = absurd (not_root image ckpt walk is directory has.0 has.1 dentry (reached_of image ckpt depth directory up) has.2 same)
  one_depth _ _ _ _ same (deeper depth directory dentry up has) (deeper other above entry down there) =
      let one = one_dentry image ckpt walk is directory has.0 has.1 above there.0 there.1 dentry entry (reached_of image ckpt depth directory up) (reached_of image ckpt other above down) has.2 there.2 same in
      ap (λ n. n + 1) (one_depth depth other directory above one.0 up down)

module _ (image : Image) (ckpt : Checkpoint) (walk : Walk) (read : IsBaseRead image ckpt walk) where
  -- a directory of the base, as a row
  record IsAbove (ino : ℕ) : Type 0 where
    row : BaseRow
    there : map.get walk.rows ino ≡ Some row
    kind : row.file.kind ≡ Directory

  -- a row of the base but the root stands one name below a directory of it
  record IsUnder (row : BaseRow) : Type 0 where
    above : IsAbove row.parent
    deeper_by : row.depth ≡ above.row.depth + 1

  base_under : (ino : ℕ) (row : BaseRow) → map.get walk.rows ino ≡ Some row → ino ≢ ROOT → IsUnder row
  base_under ino row there other = by (read.walked.to.bound ino row there other) (read.walked.to.bound ino row there other).passed
    where
      by : (bound : IsBoundBy image ckpt read.walked.done 0 [] 0 ino row) → IsPassed read.walked.done 0 [] 0 row.parent bound.page bound.slot → IsUnder row
      by bound (inr late) = let low = late.1.1.0 in absurd (omega (arith, low))
      by bound (inl done) =
          let has = (read.walked.to.walked row.parent done).row in
          let above = read.walked.to.rows row.parent has.row has.there in
          let own = read.walked.to.rows ino row there in
          record {
            above = record { row = has.row; there = has.there; kind = has.is };
            deeper_by = one_depth image ckpt walk read.walked row.depth (has.row.depth + 1) ino bound.dentry.ino (sym bound.own) own.below
                (deeper has.row.depth row.parent bound.dentry above.below (bound.page, bound.slot, bound.has));
          }

  -- a directory of the image is a row of the base
  directory_row : (ino : ℕ) → IsDirectoryOf image ckpt ino → IsAbove ino
  directory_row ino directory =
      let has = row_of image ckpt walk read.walked ino directory.0 in
      record { row = has.row; there = has.there; kind = one_kind image ckpt ino has.row.file.kind Directory has.is.file.inode directory.1.0 has.is.file.is directory.1.1 }

  directory_depth : (ino : ℕ) (above : IsAbove ino) → above.row.depth ≤ MOST_DEPTH
  directory_depth ino above = subst (λ k. above.row.depth ≤ most_depth k) above.kind (read.deep ino above.row above.there)

  row_directory : (ino : ℕ) (above : IsAbove ino) → IsDirectoryOf image ckpt ino
  row_directory ino above =
      let file = (read.walked.to.rows ino above.row above.there).file in
      (file.reached, (file.inode, record { there = file.is.there; is_kind = file.is.is_kind ∙ ap Some above.kind }))

  module _ (rolls : Rolls) (right : HasRightMarks image ckpt) (are : AreRolls image ckpt walk rolls) where
    abbrev block : ℕ → List ℕ
    block place = block_in (chain image ckpt) place

    -- a file that was marked, with its last mark
    record IsMarkedFile (ino : ℕ) (roll : Roll) : Type 0 where
      place : ℕ
      marked : IsMarkedAt image ckpt place (block place)
      own : footer_ino (block place) ≡ ino
      at : IsRollAt image ckpt walk place ino roll

    marked_file : (ino : ℕ) (roll : Roll) → map.get rolls ino ≡ Some roll → IsMarkedFile ino roll
    marked_file ino roll there = by (last_mark_before (chain image ckpt) (length (chain image ckpt)) ino) refl (subst (λ (o : Option Roll). IsRoll image ckpt walk ino (last_mark_before (chain image ckpt) (length (chain image ckpt)) ino) o) there (are ino))
      where
        by : (o : Option ℕ) → last_mark_before (chain image ckpt) (length (chain image ckpt)) ino ≡ o → IsRoll image ckpt walk ino o (Some roll) → IsMarkedFile ino roll
        by None e is = absurd is
        by (Some place) e is =
            let found = last_is (chain image ckpt) ino (length (chain image ckpt)) place e in
            record { place = place; marked = record { within = found.0; stands = refl; marked = found.1.marked }; own = found.1.own; at = is }

    -- no directory was marked
    no_directory : (ino : ℕ) (roll : Roll) → map.get rolls ino ≡ Some roll → IsAbove ino → ⊥
    no_directory ino roll there above =
        let file = marked_file ino roll there in
        (right.marks file.place (block file.place) file.marked).file (subst (IsDirectoryOf image ckpt) (sym file.own) (row_directory ino above))

    module _ (rows : Taken) (all : AreRowsOf rolls walk.rows rows) where
      -- a directory of the base is taken over as it is
      directory_taken : (ino : ℕ) (above : IsAbove ino) → HasRow rows ino (λ row. (row.kind ≡ Directory) × (row.depth ≡ above.row.depth))
      directory_taken ino above = by (map.get rolls ino) refl (map.get walk.rows ino) refl (map.get rows ino) refl (all ino)
        where
          by : (roll : Option Roll) → map.get rolls ino ≡ roll → (base : Option BaseRow) → map.get walk.rows ino ≡ base → (row : Option TakenRow) → map.get rows ino ≡ row → IsTakenOver rolls walk.rows ino roll base row
              → HasRow rows ino (λ row. (row.kind ≡ Directory) × (row.depth ≡ above.row.depth))
          by (Some roll) e base f row g is = absurd (no_directory ino roll e above)
          by None e None f row g is = absurd (not_none above.row (sym f ∙ above.there))
          by None e (Some old) f None g is = absurd is
          by None e (Some old) f (Some row) g is =
              let same : old ≡ above.row = one_some old above.row (sym f ∙ above.there) in
              record { row = row; there = g; is = (is.0.kind ∙ ap (λ (b : BaseRow). b.file.kind) same ∙ above.kind, is.0.depth ∙ ap (λ (b : BaseRow). b.depth) same) }

      -- a row stands one name below a directory of the base
      record Stands (parent depth : ℕ) : Type 0 where
        above : IsAbove parent
        deeper_by : depth ≡ above.row.depth + 1

      as_base : (row : TakenRow) (old : BaseRow) → row.parent ≡ old.parent → row.depth ≡ old.depth → IsUnder old → Stands row.parent row.depth
      as_base row old parent depth under = subst (λ n. Stands n row.depth) (sym parent) (record { above = under.above; deeper_by = depth ∙ under.deeper_by })

      as_new : (ino : ℕ) (roll : Roll) (row : TakenRow) → map.get rolls ino ≡ Some roll → map.get walk.rows ino ≡ None → IsOfRoll roll None (map.get walk.rows roll.parent) row → Stands row.parent row.depth
      as_new ino roll row e f is =
          let file = marked_file ino roll e in
          let inode = inode_of (block file.place) in
          let named = subst (IsRollNamed (block file.place) roll) f file.at.named in
          let brings : BringsName image ckpt file.place ino inode.parent (take inode.name_length inode.name) = record {
            block = block file.place;
            marked = file.marked;
            own = file.own;
            fresh = λ reached. not_none (row_of image ckpt walk read.walked ino reached).row (sym f ∙ (row_of image ckpt walk read.walked ino reached).there);
            under = refl;
            named = refl;
          } in
          let above = directory_row inode.parent (right.names file.place ino inode.parent (take inode.name_length inode.name) brings).under in
          let found : map.get walk.rows roll.parent ≡ Some above.row = ap (map.get walk.rows) named.0 ∙ above.there in
          let depth : row.depth ≡ above.row.depth + 1 = subst (λ o. IsDepthOf None o row.depth) found is.depth (directory_depth inode.parent above) in
          subst (λ n. Stands n row.depth) (sym (is.parent ∙ named.0)) (record { above = above; deeper_by = depth })

      stands : (ino : ℕ) (row : TakenRow) → map.get rows ino ≡ Some row → ino ≢ ROOT → Stands row.parent row.depth
      stands ino row there other = by (map.get rolls ino) refl (map.get walk.rows ino) refl (subst (IsTakenOver rolls walk.rows ino (map.get rolls ino) (map.get walk.rows ino)) there (all ino))
        where
          by : (roll : Option Roll) → map.get rolls ino ≡ roll → (base : Option BaseRow) → map.get walk.rows ino ≡ base → IsTakenOver rolls walk.rows ino roll base (Some row) → Stands row.parent row.depth
          by (Some roll) e (Some old) f is =
              let named = subst (IsRollNamed (block (marked_file ino roll e).place) roll) f (marked_file ino roll e).at.named in
              as_base row old (is.parent ∙ named.0) is.depth (base_under ino old f other)
          by (Some roll) e None f is = as_new ino roll row e f is
          by None e (Some old) f is = as_base row old is.0.parent is.0.depth (base_under ino old f other)
          by None e None f is = absurd is

      top : HasRow rows ROOT (λ row. (row.kind ≡ Directory) × (row.depth ≡ 0))
      top =
          let first = read.walked.to.root in
          let above : IsAbove ROOT = record { row = first.row; there = first.there; kind = first.is.kind } in
          let has = directory_taken ROOT above in
          let depth : first.row.depth ≡ 0 = one_depth image ckpt walk read.walked first.row.depth 0 ROOT ROOT refl (read.walked.to.rows ROOT first.row first.there).below root in
          record { row = has.row; there = has.there; is = (has.is.0, has.is.1 ∙ depth) }

      pub rooted : IsRooted rows
      rooted = record {
        root = top;
        under = λ ino row there other.
            let at = stands ino row there other in
            let has = directory_taken row.parent at.above in
            record { row = has.row; there = has.there; is = (has.is.0, at.deeper_by ∙ ap (λ n. n + 1) (sym has.is.1)) };
        deep = λ ino row there. deep ino row there (cases_eq ino ROOT);
      }
        where
          deep : (ino : ℕ) (row : TakenRow) → map.get rows ino ≡ Some row → (ino ≡ ROOT) ⊎ (ino ≢ ROOT) → row.depth ≤ MOST_DEPTH + 1
          deep ino row there (inl same) =
              let depth : row.depth ≡ 0 = ap (λ (r : TakenRow). r.depth) (one_some row top.row (sym there ∙ ap (map.get rows) same ∙ top.there)) ∙ top.is.1 in
              omega (arith, depth)
          deep ino row there (inr other) =
              let at = stands ino row there other in
              let small = directory_depth row.parent at.above in
              let depth = at.deeper_by in
              omega (arith, small, depth)
