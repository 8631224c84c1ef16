-- An image that is laid out plainly has no node log, and so no marks.
use Rattle.std.proofs.Common.{◌≡◌, ◌≢◌, inl, inr, ℕ, zero, suc, ◌+◌, ◌*◌, ◌%◌, ◌^◌, ◌<◌, ◌≤◌, ◌==◌, Bool, true, false, cond, List, [], ◌∷◌, length, refl, sym, ap, ◌∙◌, subst, arith}
use Rattle.std.specs.List.{AllZip}
use Rattle.std.proofs.lemmas.Bool.{ne_eqb}
use Rattle.f2_format.specs.Geometry.{is_in_node}
use Rattle.f2_format.specs.Footer.{footer_version, footer_next}
use Rattle.f2_format.specs.Pack.{HeadFields, is_newer_format, recovery_version_of, written_seal}
use Rattle.f2_model.specs.Tree.{Rows}
use Rattle.f2_image.specs.Images.{Image, block_at}
use Rattle.f2_image.specs.Packs.{Checkpoint, recovery_version}
use Rattle.f2_image.specs.Chains.{Logged, chain_from, chain, marked_places, IsMark, AreMarks}
use Rattle.f2_image.specs.Reached.{IsMarkedAt, IsTaken, marked, direct, IsPage, IsBasePage}
use Rattle.f2_laid.specs.declared.stored.Stored.{Stored}
use Rattle.f2_laid_laws.proofs.Base.{IsStored}

nothing_twice : (b : Bool) → cond {A = List Logged} b [] [] ≡ []
nothing_twice true = refl
nothing_twice false = refl

-- a block of another version begins no chain
none_from : (image : Image) (version most at : ℕ) → footer_version (block_at image at) ≢ version → chain_from image version most at ≡ []
none_from image version zero at other = refl
none_from image version (suc most) at other =
    ap (λ b. cond (at == 0) [] (cond b (record { at = at; block = block_at image at } ∷ chain_from image version most (footer_next (block_at image at))) [])) (ne_eqb (footer_version (block_at image at)) version other)
    ∙ nothing_twice (at == 0)

-- a version in the lower half and a seal in the upper one are never 0
some_recovery : (version seal : ℕ) → 1 ≤ version → version < 2 ^ 32 → 0 ≢ (version + 2 ^ 32 * seal) % 2 ^ 64
some_recovery version seal some low same = absurd (omega (arith, some, low, same))

recovery_there : (head : HeadFields) → 1 ≤ head.version → head.version < 2 ^ 32 → is_newer_format head ≡ true → 0 ≢ recovery_version_of head
recovery_there head some low newer same =
    some_recovery head.version (written_seal head) some low (same ∙ ap (λ b. cond b ((head.version + 2 ^ 32 * written_seal head) % 2 ^ 64) head.version) newer)

module _ (image : Image) (ckpt : Checkpoint) (tree : Rows) (stored : Stored) (is : IsStored image ckpt tree stored) where
  pub version_some : 1 ≤ ckpt.head.version
  version_some = subst (λ head. 1 ≤ head.version) (sym is.laid.checkpoint.head) is.laid.checkpoint.newest.valid.version

  start_inside : is_in_node ckpt.geom ckpt.head.log_start ≡ true
  start_inside = subst (λ head. is_in_node ckpt.geom head.log_start ≡ true) (sym is.laid.checkpoint.head) is.laid.checkpoint.newest.valid.log_start

  pub no_chain : chain image ckpt ≡ []
  unfolding chain
  no_chain =
      let unlogged = is.laid.unlogged ckpt.head.log_start start_inside in
      none_from image (recovery_version ckpt) _ ckpt.head.log_start (λ same. recovery_there ckpt.head version_some is.laid.low is.laid.newer (sym unlogged ∙ same))

  pub none_within : (place : ℕ) → place < length (chain image ckpt) → ⊥
  none_within place within = let none : length (chain image ckpt) ≡ 0 = ap (λ (log : List Logged). length log) no_chain in omega arith

  pub none_marked : (place : ℕ) (block : List ℕ) → IsMarkedAt image ckpt place block → ⊥
  none_marked place block is_marked = none_within place is_marked.within

  pub none_taken : (place : ℕ) (block : List ℕ) → IsTaken image ckpt place block → ⊥
  none_taken place block (marked is_marked) = none_marked place block is_marked
  none_taken place block (direct counted is_direct) = none_marked counted.mark counted.inode counted.marked

  pub of_base : (ino page at : ℕ) → IsPage image ckpt ino page at → IsBasePage image ckpt ino page at
  of_base ino page at (inl base) = base
  of_base ino page at (inr is_marked) = absurd (none_marked is_marked.place is_marked.inode is_marked.marked)

  pub no_marks : (base : Rows) → AreMarks image ckpt base []
  no_marks base = subst (λ log. AllZip (IsMark image ckpt base log) (marked_places log) []) (sym no_chain) tt
