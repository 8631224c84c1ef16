-- The base of a sound image is a good tree.
use Rattle.std.proofs.Common.{◌≡◌, ◌≢◌, ◌⊎◌, inl, inr, ℕ, suc, ◌<◌, ◌≤◌, Bool, true, false, IsTrue, All, refl, sym, ap, ◌∙◌, subst, add-one, arith}
use Rattle.std.specs.Prelude.{Some}
use Rattle.std.specs.FinMap as map
use Rattle.std.proofs.lemmas.Option.{same_Some}
use native.Mathlib.Decide.{ℕ_discrete, dec_lt}
use Rattle.f2_format.specs.Inode.{SIZE_LIMIT}
use Rattle.f2_format.specs.Dentry.{Dentry}
use Rattle.f2_disk.specs.Contents.{IsBlock}
use Rattle.f2_model.specs.Names.{is_good_name}
use Rattle.f2_model.specs.Tree.{Rows, ROOT, IsAtDepth, most_depth, IsRoot, IsGoodTree}
use Rattle.f2_model.specs.declared.rows.Row.{Row}
use Rattle.f2_model.specs.declared.rows.Kind.{Kind}
use Rattle.f2_model.specs.declared.rows.Kind.TheVariants.{Regular, Directory}
use Rattle.f2_image.specs.Images.{Image, IsSized}
use Rattle.f2_image.specs.Packs.{Checkpoint}
use Rattle.f2_image.specs.Bases.{IsInode, HasDentryAt, HasDentry, IsReached, IsNameOf, IsBase}
use Rattle.f2_image.specs.Faults.{IsSound, IsBelow}
use Rattle.f2_image.specs.Faults as faults
use Rattle.f2_image.proofs.Dentries.{same_dentry}
use Rattle.f2_image.proofs.Depths.{some_depth}
use Rattle.f2_image.proofs.OneName.{names_once}
use Rattle.f2_image_laws.proofs.Names.{row_has_name}
use Rattle.f2_image_laws.proofs.AlikeTrees.{below_is_reached}
use Rattle.f2_image_laws.proofs.Sound.{no_bad_tree}
use Rattle.f2_image_laws.proofs.BaseRows.{dentry_above, directory_row, base_pages}
use Rattle.f2_image_laws.proofs.Numbers.{not_less}

module _ (image : Image) (ckpt : Checkpoint) (sound : IsSound image ckpt) (base : Rows) (is_base : IsBase image ckpt base) where
  name_of : (ino : ℕ) (row : Row) → map.get base ino ≡ Some row → ino ≢ ROOT → IsNameOf image ckpt ino row.parent row.name
  name_of = row_has_name image ckpt base is_base

  -- the root
  root_kind : is_base.root.row.kind ≡ Directory
  root_kind = by_kind is_base.root.row.kind refl
    where
      by_kind : (kind : Kind) → is_base.root.row.kind ≡ kind → is_base.root.row.kind ≡ Directory
      by_kind Directory e = e
      by_kind Regular e =
          let at = is_base.rows ROOT is_base.root.row is_base.root.there in
          absurd (no_bad_tree image ckpt sound ROOT (faults.root_file at.inode (subst (λ kind. IsInode image ckpt ROOT kind at.inode) e at.is) refl))

  is_root : IsRoot is_base.root.row
  is_root = record { ino = (is_base.rows ROOT is_base.root.row is_base.root.there).own; kind = root_kind; parent = is_base.root.parent; name = is_base.root.named }

  -- each row stands in a directory
  parent_of : (ino : ℕ) (row : Row) → map.get base ino ≡ Some row → Dec (ino ≡ ROOT) → (up : Row) × (map.get base row.parent ≡ Some up) × (up.kind ≡ Directory)
  parent_of ino row there (yes e) =
      let root = is_base.root in
      let same : root.row ≡ row = same_Some root.row row (sym root.there ∙ ap (map.get base) (sym e) ∙ there) in
      (root.row, ap (map.get base) (ap (λ (r : Row). r.parent) (sym same) ∙ root.parent) ∙ root.there, root_kind)
  parent_of ino row there (no other) = of_dentry (name_of ino row there other)
    where
      of_dentry : IsNameOf image ckpt ino row.parent row.name → (up : Row) × (map.get base row.parent ≡ Some up) × (up.kind ≡ Directory)
      of_dentry name = let has = name.has.2 in directory_row image ckpt sound base is_base row.parent (name.reached, (has.block.inode, has.block.is))

  -- under a good name
  good_name : (ino : ℕ) (row : Row) → map.get base ino ≡ Some row → ino ≢ ROOT → IsTrue (is_good_name row.name)
  good_name ino row there other = by_test (is_good_name row.name) refl
    where
      by_test : (b : Bool) → is_good_name row.name ≡ b → is_good_name row.name ≡ true
      by_test true e = e
      by_test false e =
          let name = name_of ino row there other in
          absurd (no_bad_tree image ckpt sound ino (faults.bad_name row.parent name.dentry name.reached name.has (ap is_good_name name.named ∙ e) name.own))

  -- of its own
  same_ino : (i j directory : ℕ) (a b : Dentry) → IsReached image ckpt directory → HasDentry image ckpt directory a → HasDentry image ckpt directory b → a.name ≡ b.name → a.ino ≡ i → b.ino ≡ j → i ≡ j
  same_ino i j directory a b up (page, slot, p) (more, place, q) named is_a is_b = by_place (ℕ_discrete page more) (ℕ_discrete slot place)
    where
      differ : (page ≢ more) ⊎ (slot ≢ place) → ⊥
      differ apart = no_bad_tree image ckpt sound i (faults.same_name directory page slot more place a b up p q apart named is_a)

      by_place : Dec (page ≡ more) → Dec (slot ≡ place) → i ≡ j
      by_place (no apart) s = absurd (differ (inl apart))
      by_place (yes e) (no apart) = absurd (differ (inr apart))
      by_place (yes e) (yes f) =
          let moved : HasDentryAt image ckpt directory more place a = subst (λ k. HasDentryAt image ckpt directory more k a) f (subst (λ k. HasDentryAt image ckpt directory k slot a) e p) in
          sym is_a ∙ ap (λ (d : Dentry). d.ino) (same_dentry image ckpt directory more place a b moved q) ∙ is_b

  apart : (i j : ℕ) (a b : Row) → map.get base i ≡ Some a → map.get base j ≡ Some b → i ≢ ROOT → j ≢ ROOT → a.parent ≡ b.parent → a.name ≡ b.name → i ≡ j
  apart i j a b p q other_i other_j parents names =
      let n = name_of i a p other_i in
      let m = name_of j b q other_j in
      same_ino i j a.parent n.dentry m.dentry n.reached n.has (subst (λ d. HasDentry image ckpt d m.dentry) (sym parents) m.has) (n.named ∙ names ∙ sym m.named) n.own m.own

  -- and not too deep
  at_depth : (depth ino : ℕ) → IsBelow image ckpt depth ino → IsAtDepth base depth ino
  at_depth _ _ faults.root = refl
  at_depth _ _ (faults.deeper depth directory dentry up has) =
      let reach = below_is_reached image ckpt depth directory up in
      let at = names_once image ckpt base is_base directory dentry reach has in
      let above : IsAtDepth base depth at.row.parent = subst (IsAtDepth base depth) (sym at.parent) (at_depth depth directory up) in
      let whole : IsAtDepth base (suc depth) dentry.ino = ((λ root. not_root dentry.ino (dentry_above image ckpt sound base is_base directory dentry reach has) root), (at.row, at.there, above)) in
      subst (λ d. IsAtDepth base d dentry.ino) (sym (add-one depth)) whole
    where
      not_root : (n : ℕ) → 4 ≤ n → n ≡ 3 → ⊥
      not_root n large e = omega (arith, large, e)

  reached : (ino : ℕ) (row : Row) → map.get base ino ≡ Some row → (depth : ℕ) × (depth ≤ most_depth row.kind) × IsAtDepth base depth ino
  reached ino row there = (below.0, by_order (dec_lt (most_depth row.kind) below.0), at_depth below.0 ino below.1)
    where
      below : (depth : ℕ) × IsBelow image ckpt depth ino
      below = some_depth image ckpt ino (is_base.rows ino row there).reached

      by_order : Dec (most_depth row.kind < below.0) → below.0 ≤ most_depth row.kind
      by_order (yes deep) = let at = is_base.rows ino row there in absurd (no_bad_tree image ckpt sound ino (faults.too_deep below.0 row.kind at.inode below.1 at.is deep))
      by_order (no fine) = not_less (most_depth row.kind) below.0 fine

  pub good_base : All IsBlock image → IsSized image ckpt.geom → IsGoodTree SIZE_LIMIT base
  good_base blocks sized = record {
    root = (is_base.root.row, is_base.root.there, is_root);
    keyed = λ ino row there. (is_base.rows ino row there).own;
    parents = λ ino row there. parent_of ino row there (ℕ_discrete ino ROOT);
    names = good_name;
    apart = apart;
    reached = reached;
    pages = base_pages image ckpt sound base is_base blocks sized;
  }
