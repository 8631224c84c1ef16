-- The chain of an image of a disk is a first part of the positions of its log.
use Rattle.std.proofs.Common.{◌≡◌, ◌≢◌, ◌⊎◌, inl, inr, ℕ, zero, suc, ◌<◌, ◌≤◌, ◌==◌, Bool, true, false, cond, List, [], ◌∷◌, length, take, All, refl, sym, ap, ◌∙◌, subst, arith}
use Rattle.std.specs.List.{AllByRecursion, Contains}
use Rattle.std.proofs.lemmas.List.Elements.{All-contains}
use Rattle.f2_format.specs.Footer.{footer_version, footer_next}
use Rattle.f2_disk.specs.Contents.{Contents, list_at, IsImage}
use Rattle.f2_image.specs.Images.{Image, block_at}
use Rattle.f2_image.specs.Chains.{Logged, chain_from}
use Rattle.f2_image_laws.specs.Chained.{Follow, contents_at, HoldsOrOther, HoldsNone, HoldsAlone, IsLogOf, address_of, IsFirstPart}
use Rattle.f2_image_laws.proofs.Numbers.{same_of, differ_of, test_same, test_differs}

-- an image has at each address one of the contents there
member : (lists : Contents) (image : Image) → IsImage lists image → (at : ℕ) → Contains (contents_at lists at) (block_at image at)
member [] [] is at = (0, omega arith, refl)
member [] (block ∷ image) is at = absurd is
member (list ∷ lists) [] is at = absurd is
member (list ∷ lists) (block ∷ image) is zero = is.0
member (list ∷ lists) (block ∷ image) is (suc at) = member lists image is.1 at

-- the one content of a list
only_one : (content block : List ℕ) → Contains (content ∷ []) block → block ≡ content
only_one content block (zero, within, is) = sym is
only_one content block (suc k, within, is) = absurd (omega (arith, within))

-- within the disk the contents at an address are its list
pub contents_are_list : (lists : Contents) (at : ℕ) → at < length lists → contents_at lists at ≡ list_at lists at
contents_are_list [] at small = absurd (omega (arith, small))
contents_are_list (list ∷ lists) zero small = refl
contents_are_list (list ∷ lists) (suc at) small = contents_are_list lists at (omega (arith, small))

module _ (lists : Contents) (image : Image) (is : IsImage lists image) (version : ℕ) where
  holds : (P : List ℕ → Type 0) (at : ℕ) → All P (contents_at lists at) → P (block_at image at)
  holds P at all = All-contains P (contents_at lists at) (block_at image at) all (member lists image is at)

  holds_none : (at : ℕ) → HoldsNone lists version at → footer_version (block_at image at) ≢ version
  holds_none at none = holds (λ content. footer_version content ≢ version) at none

  holds_alone : (one : Logged) → HoldsAlone lists version one → block_at image one.at ≡ one.block
  holds_alone one alone = only_one one.block (block_at image one.at) (subst (λ list. Contains list (block_at image one.at)) alone.0 (member lists image is one.at))

  -- a chain ends at 0, and where no block of the version stands
  ended : (most at : ℕ) → (at ≢ 0 → footer_version (block_at image at) ≢ version) → chain_from image version most at ≡ []
  ended zero at other = refl
  ended (suc most) at other = by_zero (at == 0) refl
    where
      more : List Logged
      more = record { at = at; block = block_at image at } ∷ chain_from image version most (footer_next (block_at image at))

      by_zero : (b : Bool) → (at == 0) ≡ b → cond b [] (cond (footer_version (block_at image at) == version) more []) ≡ []
      by_zero true e = refl
      by_zero false e = ap (λ b. cond b more []) (test_differs (footer_version (block_at image at)) version (other (differ_of at 0 e)))

  -- and else it goes on
  goes_on : (most at : ℕ) → at ≢ 0 → footer_version (block_at image at) ≡ version
      → chain_from image version (suc most) at ≡ record { at = at; block = block_at image at } ∷ chain_from image version most (footer_next (block_at image at))
  goes_on most at there same =
      let more : List Logged = record { at = at; block = block_at image at } ∷ chain_from image version most (footer_next (block_at image at)) in
      ap (λ b. cond b [] (cond (footer_version (block_at image at) == version) more [])) (test_differs at 0 there) ∙ ap (λ b. cond b more []) (test_same (footer_version (block_at image at)) version same)

  -- no position is in a chain that ends at once
  ends_at_once : (start most : ℕ) (positions : List Logged) → chain_from image version most start ≡ []
      → ((kept : ℕ) → kept ≤ length positions → AllByRecursion (HoldsAlone lists version) (take kept positions) → kept ≤ 0) → IsFirstPart lists version positions (chain_from image version most start)
  ends_at_once start most positions ends alone = record {
    count = 0;
    within = omega arith;
    is = ends ∙ none_taken positions;
    alone = alone;
    none = λ place small lacks. omega arith;
  }
    where
      none_taken : (positions : List Logged) → [] ≡ take 0 positions
      none_taken [] = refl
      none_taken (one ∷ rest) = refl

  -- one position more
  one_more : (start most : ℕ) (one : Logged) (rest : List Logged) → one.at ≡ start → start ≢ 0 → HoldsOrOther lists version one
      → IsFirstPart lists version rest (chain_from image version most (footer_next one.block))
      → IsFirstPart lists version (one ∷ rest) (chain_from image version (suc most) start)
  one_more start most one rest at there held later = by_version (footer_version (block_at image start) == version) refl
    where
      block : List ℕ
      block = block_at image start

      at_start : block ≡ block_at image one.at
      at_start = ap (block_at image) (sym at)

      by_version : (b : Bool) → (footer_version block == version) ≡ b → IsFirstPart lists version (one ∷ rest) (chain_from image version (suc most) start)
      by_version false e = ends_at_once start (suc most) (one ∷ rest) (ended (suc most) start (λ at_all. other)) alone
        where
          other : footer_version block ≢ version
          other = differ_of (footer_version block) version e

          alone : (kept : ℕ) → kept ≤ length (one ∷ rest) → AllByRecursion (HoldsAlone lists version) (take kept (one ∷ rest)) → kept ≤ 0
          alone zero few all = omega arith
          alone (suc kept) few all = absurd (other (ap footer_version (at_start ∙ holds_alone one all.0) ∙ all.0.1))
      by_version true e = record {
        count = suc later.count;
        within = let small = later.within in omega (arith, small);
        is = goes_on most start there same ∙ (λ i. (record { at = sym at i; block = is_block i }) ∷ chain_from image version most (footer_next (is_block i))) ∙ ap (λ chain. one ∷ chain) later.is;
        alone = alone;
        none = none;
      }
        where
          same : footer_version block ≡ version
          same = same_of (footer_version block) version e

          is_block : block ≡ one.block
          is_block = at_start ∙ by_case (holds (λ content. (content ≡ one.block) ⊎ (footer_version content ≢ version)) one.at held)
            where
              by_case : (block_at image one.at ≡ one.block) ⊎ (footer_version (block_at image one.at) ≢ version) → block_at image one.at ≡ one.block
              by_case (inl is) = is
              by_case (inr other) = absurd (other (ap footer_version (sym at_start) ∙ same))

          alone : (kept : ℕ) → kept ≤ length (one ∷ rest) → AllByRecursion (HoldsAlone lists version) (take kept (one ∷ rest)) → kept ≤ suc later.count
          alone zero few all = omega arith
          alone (suc kept) few all = let small = later.alone kept (omega (arith, few)) all.1 in omega (arith, small)

          none : (place : ℕ) → place < length (one ∷ rest) → HoldsNone lists version (address_of (one ∷ rest) place) → suc later.count ≤ place
          none zero small lacks = absurd (holds_none one.at lacks (ap footer_version (sym at_start) ∙ same))
          none (suc place) small lacks = let before = later.none place (omega (arith, small)) lacks in omega (arith, before)

  first_part : (next start most : ℕ) (positions : List Logged) → Follow start positions next → AllByRecursion (HoldsOrOther lists version) positions → (next ≢ 0 → HoldsNone lists version next)
      → length positions ≤ most → IsFirstPart lists version positions (chain_from image version most start)
  first_part next start most [] follow held free fits =
      ends_at_once start most [] (ended most start (λ there. holds_none start (subst (HoldsNone lists version) (sym follow) (free (λ e. there (follow ∙ e)))))) (λ kept few all. few)
  first_part next start zero (one ∷ rest) follow held free fits = absurd (omega (arith, fits))
  first_part next start (suc most) (one ∷ rest) follow held free fits =
      one_more start most one rest follow.0 follow.1 held.0 (first_part next (footer_next one.block) most rest follow.2 held.1 free (omega (arith, fits)))

  pub chain_is_first_part : (start next most : ℕ) (positions : List Logged) → IsLogOf lists version start next positions → length positions ≤ most → IsFirstPart lists version positions (chain_from image version most start)
  chain_is_first_part start next most positions log fits = first_part next start most positions log.follow log.held log.free fits
