-- The names that were made are those of the tree's directories.
use Rattle.std.proofs.Common.{◌≡◌, ◌≢◌, ◌⊎◌, inl, inr, ℕ, true, List, refl, sym, ap, ◌∙◌, subst, arith, is_some}
use Rattle.std.specs.Prelude.{Option, Some, None}
use Rattle.std.specs.FinMap as map
use Rattle.std.specs.FinSet as set
use Rattle.f2_dentry_block.specs.Dents.{type_of}
use Rattle.f2_dir.specs.Entries.{Entries}
use Rattle.f2_format.specs.Dentry.{Dentry}
use Rattle.f2_format.specs.Geometry.{nid_limit}
use Rattle.f2_model.specs.Tree.{Rows, ROOT}
use Rattle.f2_model.specs.State.{Mark}
use Rattle.f2_model.specs.declared.rows.Row.{Row}
use Rattle.f2_model.specs.declared.rows.Kind.{Kind}
use Rattle.f2_model.specs.declared.rows.Kind.TheVariants.{Regular, Directory}
use Rattle.f2_image.specs.Images.{Image}
use Rattle.f2_image.specs.Packs.{Checkpoint}
use Rattle.f2_image.specs.Bases.{HasDentryAt, IsInode}
use Rattle.f2_image.specs.Chains.{chain, block_in}
use Rattle.f2_image.specs.Faults.{BringsName, IsDirectoryOf}
use Rattle.f2_overlay.specs.Rolls.{IsRollNamed}
use Rattle.f2_overlay.specs.declared.rolls.Roll.{Roll}
use Rattle.f2_overlay.proofs.Based.{reached_row, row_of}
use Rattle.f2_overlay_laws.specs.Rolled.{IsRollLike, AreAlikeRolled}
use Rattle.f2_recover.specs.Walking.{AreNamesOf}
use Rattle.f2_recover.specs.declared.rows.BaseRow.{BaseRow}
use Rattle.f2_recover.specs.declared.walk.Walk.{Walk}
use Rattle.f2_recover_laws.proofs.Stands.{stands_by}
use Rattle.f2_found.specs.Found.{StandsUnder, AreNamesIn, AreKnownIn}
use Rattle.f2_found.specs.Made.{Rolls}
use Rattle.f2_found.specs.Named.{Names, IsNew, AreApart, IsBrought, AreNamedTo, AreAllNamedTo}
use Rattle.f2_found.proofs.Maps.{not_none, one_some}
use Rattle.f2_found.proofs.Trees.{IsTree, tree, alike, roll_from, roll_within, row_within}

not_both : Directory ≡ Regular → ⊥
not_both e = cc

-- a type tells its kind
one_type : (a b : Kind) → type_of a ≡ type_of b → a ≡ b
one_type Regular Regular e = refl
one_type Directory Directory e = refl
one_type Regular Directory e = absurd (omega (arith, e))
one_type Directory Regular e = absurd (omega (arith, e))

-- a name's place by other words
same_place : (entries : Entries) (name told : List ℕ) (place ino : ℕ) (kind other : Kind) → name ≡ told → map.get entries told ≡ Some (place, kind) → place ≡ ino → kind ≡ other → map.get entries name ≡ Some (ino, other)
same_place entries name told place ino kind other same there own is = ap (map.get entries) same ∙ there ∙ ap (λ n. Some (n, kind)) own ∙ ap (λ (k : Kind). Some (ino, k)) is

regular_else : (kind : Kind) → ¬ (kind ≡ Directory) → kind ≡ Regular
regular_else Regular other = refl
regular_else Directory other = absurd (other refl)

module _ (image : Image) (ckpt : Checkpoint) (walk : Walk) (rolls : Rolls) (base : Rows) (marks : List Mark) (is : IsTree image ckpt walk rolls base marks) where
  abbrev whole : Rows
  whole = tree image ckpt walk rolls base marks is

  -- the name that a new file's mark brings
  record IsBringing (ino : ℕ) (roll : Roll) : Type 0 where
    place : ℕ
    brings : BringsName image ckpt place ino roll.parent roll.name

  bringing : (ino : ℕ) (roll : Roll) → IsNew rolls walk.rows ino roll → IsBringing ino roll
  bringing ino roll new =
      let from = roll_from image ckpt walk rolls base marks is ino roll new.there in
      let block = block_in (chain image ckpt) from.place in
      let named = subst (IsRollNamed block roll) new.no_row from.at.named in
      record {
        place = from.place;
        brings = record {
          block = block;
          marked = from.marked_at;
          own = from.own;
          fresh = λ reached. let has = reached_row image ckpt walk is.read ino reached in not_none has.row (sym new.no_row ∙ has.there);
          under = sym named.0;
          named = sym named.1;
        };
      }

  -- a directory whose names are known was walked
  walked_of : (directory : ℕ) (entries : Entries) → map.get walk.names directory ≡ Some entries → AreNamesOf image ckpt directory entries
  walked_of directory entries there =
      let done : set.contains is.read.walked.done directory ≡ true = sym (is.read.walked.to.others directory) ∙ ap (λ (o : Option Entries). is_some o) there in
      let walked = is.read.walked.to.walked directory done in
      subst (AreNamesOf image ckpt directory) (one_some walked.names entries (sym walked.known ∙ there)) walked.are

  pub apart : AreApart rolls walk.rows walk.names
  apart = record {
    free = λ ino roll entries new there. free ino roll entries new there (map.get entries roll.name) refl;
    alone = λ ino other a b new also up same.
        let one = bringing ino a new in
        let two = bringing other b also in
        sym ((is.right.names one.place ino a.parent a.name one.brings).alone two.place other
        (subst (λ d. BringsName image ckpt two.place other d a.name) (sym up) (subst (BringsName image ckpt two.place other b.parent) (sym same) two.brings)));
  }
    where
      free : (ino : ℕ) (roll : Roll) (entries : Entries) → IsNew rolls walk.rows ino roll → map.get walk.names roll.parent ≡ Some entries → (o : Option (ℕ × Kind)) → map.get entries roll.name ≡ o → map.get entries roll.name ≡ None
      free ino roll entries new there None e = e
      free ino roll entries new there (Some place) e =
          let one = bringing ino roll new in
          let has = (walked_of roll.parent entries there).only roll.name place.0 place.1 e in
          absurd ((is.right.names one.place ino roll.parent roll.name one.brings).free (record { name = roll.name; ino = place.0; type = type_of place.1 }) has refl)

  -- a row of the base keeps its place in the tree
  record IsKept (ino : ℕ) (old : BaseRow) : Type 0 where
    row : Row
    there : map.get whole ino ≡ Some row
    parent : row.parent ≡ old.parent
    named : row.name ≡ old.name
    kind : row.kind ≡ old.file.kind

  -- a file of the base that was marked is no directory there
  marked_file : (ino : ℕ) (roll : Roll) (old : BaseRow) → map.get rolls ino ≡ Some roll → map.get walk.rows ino ≡ Some old → old.file.kind ≡ Regular
  marked_file ino roll old there row =
      let from = roll_from image ckpt walk rolls base marks is ino roll there in
      let block = block_in (chain image ckpt) from.place in
      let file = (row_of image ckpt walk is.read ino old row).file in
      let mark = is.right.marks from.place block from.marked_at in
      regular_else old.file.kind (λ directory.
      mark.file (subst (IsDirectoryOf image ckpt) (sym from.own) (file.reached, (file.inode, subst (λ k. IsInode image ckpt ino k file.inode) directory file.is))))

  kept : (ino : ℕ) (old : BaseRow) → map.get walk.rows ino ≡ Some old → IsKept ino old
  kept ino old there = by (map.get whole ino) (map.get rolls ino) refl refl (subst (AreAlikeRolled image (map.get whole ino) (map.get rolls ino)) there (alike image ckpt walk rolls base marks is ino))
    where
      by : (row : Option Row) (roll : Option Roll) → map.get whole ino ≡ row → map.get rolls ino ≡ roll → AreAlikeRolled image row roll (Some old) → IsKept ino old
      by None None t r like = absurd like
      by None (Some roll) t r like = absurd like
      by (Some row) None t r like = record { row = row; there = t; parent = like.parent; named = like.named; kind = like.kind }
      by (Some row) (Some roll) t r like =
          let from = roll_from image ckpt walk rolls base marks is ino roll r in
          let named = subst (IsRollNamed (block_in (chain image ckpt) from.place) roll) there from.at.named in
          record { row = row; there = t; parent = like.parent ∙ named.0; named = like.named ∙ named.1; kind = like.kind ∙ sym (marked_file ino roll old r there) }

  -- a new file stands in the tree where its mark says
  record IsAdded (ino : ℕ) (roll : Roll) : Type 0 where
    row : Row
    there : map.get whole ino ≡ Some row
    like : IsRollLike image row roll

  added : (ino : ℕ) (roll : Roll) → map.get rolls ino ≡ Some roll → IsAdded ino roll
  added ino roll there = by (map.get whole ino) refl (subst (λ o. AreAlikeRolled image (map.get whole ino) o (map.get walk.rows ino)) there (alike image ckpt walk rolls base marks is ino))
    where
      by : (row : Option Row) → map.get whole ino ≡ row → AreAlikeRolled image row (Some roll) (map.get walk.rows ino) → IsAdded ino roll
      by None t like = absurd like
      by (Some row) t like = record { row = row; there = t; like = like }

  -- a row of the tree that the base hasn't is that of a new file
  record IsNewRow (ino : ℕ) (row : Row) : Type 0 where
    roll : Roll
    new : IsNew rolls walk.rows ino roll
    like : IsRollLike image row roll

  new_row : (ino : ℕ) (row : Row) → map.get whole ino ≡ Some row → map.get walk.rows ino ≡ None → IsNewRow ino row
  new_row ino row there none = by (map.get rolls ino) refl (subst (λ o. AreAlikeRolled image o (map.get rolls ino) None) there (subst (AreAlikeRolled image (map.get whole ino) (map.get rolls ino)) none (alike image ckpt walk rolls base marks is ino)))
    where
      by : (roll : Option Roll) → map.get rolls ino ≡ roll → AreAlikeRolled image (Some row) roll None → IsNewRow ino row
      by None r like = absurd like
      by (Some roll) r like = record { roll = roll; new = record { there = r; no_row = none }; like = like }

  -- a directory of the tree is one of the base
  pub record IsOldDirectory (directory : ℕ) : Type 0 where
    old : BaseRow
    there : map.get walk.rows directory ≡ Some old
    kind : old.file.kind ≡ Directory

  old_directory : (directory : ℕ) (row : Row) → map.get whole directory ≡ Some row → row.kind ≡ Directory → IsOldDirectory directory
  old_directory directory row there kind = by (map.get walk.rows directory) refl
    where
      by : (old : Option BaseRow) → map.get walk.rows directory ≡ old → IsOldDirectory directory
      by None b = absurd (not_both (sym kind ∙ (new_row directory row there b).like.kind))
      by (Some old) b =
          let one = kept directory old b in
          let same : one.row ≡ row = one_some one.row row (sym one.there ∙ there) in
          record { old = old; there = b; kind = sym one.kind ∙ ap (λ (r : Row). r.kind) same ∙ kind }

  module _ (directory : ℕ) (old : IsOldDirectory directory) (entries names : Entries) (are : AreNamesOf image ckpt directory entries) (to : AreNamedTo rolls walk.rows (nid_limit ckpt.geom) directory entries names) where
    -- a name of the base
    name_of_base : (name : List ℕ) (ino : ℕ) (kind : Kind) → map.get entries name ≡ Some (ino, kind) → StandsUnder whole directory name ino kind
    name_of_base name ino kind has =
        let dentry : Dentry = record { name = name; ino = ino; type = type_of kind } in
        let at = are.only name ino kind has in
        let reached = (row_of image ckpt walk is.read directory old.old old.there).file.reached in
        let row = stands_by image ckpt walk is.read.walked directory at.0 at.1 dentry reached at.2 in
        let one = kept ino row.row row.there in
        let least = row.is.least in
        record {
          row = one.row;
          there = one.there;
          other = λ root. omega (arith, root, least);
          parent = one.parent ∙ row.is.parent;
          named = one.named ∙ row.is.named;
          kind_is = one.kind ∙ sym (one_type kind row.row.file.kind row.is.typed);
        }

    -- a name of a new file
    name_of_mark : (name : List ℕ) (ino : ℕ) (kind : Kind) → IsBrought rolls walk.rows directory name ino kind → StandsUnder whole directory name ino kind
    name_of_mark name ino kind brought =
        let one = added ino brought.roll brought.new.there in
        let root = is.read.walked.to.root in
        record {
          row = one.row;
          there = one.there;
          other = λ same. not_none root.row (sym brought.new.no_row ∙ ap (map.get walk.rows) same ∙ root.there);
          parent = one.like.parent ∙ brought.parent;
          named = one.like.named ∙ brought.named;
          kind_is = one.like.kind ∙ sym brought.kind_is;
        }

    only : (name : List ℕ) (ino : ℕ) (kind : Kind) → map.get names name ≡ Some (ino, kind) → StandsUnder whole directory name ino kind
    only name ino kind has = by (to.only name ino kind has)
      where
        by : (map.get entries name ≡ Some (ino, kind)) ⊎ IsBrought rolls walk.rows directory name ino kind → StandsUnder whole directory name ino kind
        by (inl in_base) = name_of_base name ino kind in_base
        by (inr brought) = name_of_mark name ino kind brought

    all : (ino : ℕ) (row : Row) → map.get whole ino ≡ Some row → ino ≢ ROOT → row.parent ≡ directory → map.get names row.name ≡ Some (ino, row.kind)
    all ino row there other up = by (map.get walk.rows ino) refl
      where
        by : (own : Option BaseRow) → map.get walk.rows ino ≡ own → map.get names row.name ≡ Some (ino, row.kind)
        by None b =
            let one = new_row ino row there b in
            ap (map.get names) one.like.named ∙ to.added ino one.roll (roll_within image ckpt walk rolls base marks is ino one.roll one.new.there) one.new (sym one.like.parent ∙ up) ∙ ap (λ (k : Kind). Some (ino, k)) (sym one.like.kind)
        by (Some own) b =
            let one = kept ino own b in
            let same : one.row ≡ row = one_some one.row row (sym one.there ∙ there) in
            let bound = is.read.walked.to.bound ino own b other in
            let parent : own.parent ≡ directory = sym one.parent ∙ ap (λ (r : Row). r.parent) same ∙ up in
            let has = are.all bound.dentry (bound.page, bound.slot, subst (λ d. HasDentryAt image ckpt d bound.page bound.slot bound.dentry) parent bound.has) in
            let name : row.name ≡ bound.dentry.name = sym (ap (λ (r : Row). r.name) same) ∙ one.named ∙ bound.stands.named in
            let kind : has.0 ≡ row.kind = one_type has.0 own.file.kind (sym has.1.1 ∙ bound.stands.typed) ∙ sym one.kind ∙ ap (λ (r : Row). r.kind) same in
            to.kept row.name (ino, row.kind) (same_place entries row.name bound.dentry.name bound.dentry.ino ino has.0 row.kind name has.1.0 bound.own kind)

    pub names_in : AreNamesIn whole directory names
    names_in = record { only = only; all = all }

  module _ (names : Names) (to : AreAllNamedTo rolls walk.rows walk.names (nid_limit ckpt.geom) (nid_limit ckpt.geom) names) where
    pub names_found : (ino : ℕ) (row : Row) → map.get whole ino ≡ Some row → row.kind ≡ Directory → AreKnownIn whole ino (map.get names ino)
    names_found ino row there kind =
        let old = old_directory ino row there kind in
        let walked = is.read.walked.to.walked ino (is.read.walked.all ino old.old old.there old.kind) in
        let has = to ino walked.names (row_within image ckpt walk rolls base marks is ino old.old old.there) walked.known in
        subst (AreKnownIn whole ino) (sym has.there) (names_in ino old walked.names has.entries walked.are has.are)
