-- The rows that the dentries of a base that was walked name.
use Rattle.std.proofs.Common.{◌≡◌, ◌≢◌, ℕ, sym, ap, ◌∙◌, subst, arith}
use Rattle.std.specs.FinMap as map
use Rattle.std.proofs.lemmas.Option.{same_Some}
use Rattle.f2_format.specs.Dentry.{Dentry}
use Rattle.f2_model.specs.Tree.{ROOT}
use Rattle.f2_image.specs.Images.{Image}
use Rattle.f2_image.specs.Packs.{Checkpoint}
use Rattle.f2_image.specs.Bases.{IsReached, HasDentryAt}
use Rattle.f2_recover.specs.Walking.{HasRow, StandsBy, IsWalked}
use Rattle.f2_recover.specs.declared.rows.BaseRow.{BaseRow}
use Rattle.f2_recover.specs.declared.walk.Walk.{Walk}
use Rattle.f2_recover.proofs.Walked.{is_passed}

module _ (image : Image) (ckpt : Checkpoint) (walk : Walk) (is : IsWalked image ckpt walk) where
  module _ (directory page slot : ℕ) (dentry : Dentry) (reached : IsReached image ckpt directory) (at : HasDentryAt image ckpt directory page slot dentry) where
    -- a dentry names a row that stands by it
    pub stands_by : HasRow walk.rows dentry.ino (λ row. StandsBy row directory dentry)
    stands_by = is.to.found directory page slot dentry at (is_passed image ckpt walk is directory page slot dentry reached at)

    -- and not the root
    pub not_root : dentry.ino ≢ ROOT
    not_root same = let least = stands_by.is.least in omega (arith, least, same)

  -- in a directory a name stands once
  pub one_name : (directory page slot more place : ℕ) (a b : Dentry) → IsReached image ckpt directory → HasDentryAt image ckpt directory page slot a → HasDentryAt image ckpt directory more place b → a.name ≡ b.name → (page ≡ more) × (slot ≡ place)
  one_name directory page slot more place a b reached p q =
      is.to.once directory page slot more place a b p q (is_passed image ckpt walk is directory page slot a reached p) (is_passed image ckpt walk is directory more place b reached q)

  -- one dentry names an ino
  pub one_dentry : (directory page slot other more place : ℕ) (a b : Dentry) → IsReached image ckpt directory → IsReached image ckpt other → HasDentryAt image ckpt directory page slot a → HasDentryAt image ckpt other more place b
      → a.ino ≡ b.ino → (directory ≡ other) × (page ≡ more) × (slot ≡ place)
  one_dentry directory page slot other more place a b up above p q same =
      let first = stands_by directory page slot a up p in
      let second = stands_by other more place b above q in
      let row : first.row ≡ second.row = same_Some first.row second.row (sym first.there ∙ ap (map.get walk.rows) same ∙ second.there) in
      let directories : directory ≡ other = sym first.is.parent ∙ ap (λ (r : BaseRow). r.parent) row ∙ second.is.parent in
      let names : a.name ≡ b.name = sym first.is.named ∙ ap (λ (r : BaseRow). r.name) row ∙ second.is.named in
      let places = one_name directory page slot more place a b up p (subst (λ d. HasDentryAt image ckpt d more place b) (sym directories) q) names in
      (directories, places.0, places.1)
