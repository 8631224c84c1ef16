-- What stands in the parts of a list, part by part and place by place.
use Rattle.std.proofs.Common.{◌≡◌, ◌⊎◌, inl, inr, ℕ, zero, suc, List, [], ◌∷◌, ◌++◌, map, refl, sym, ap, ◌∙◌, subst}
use Rattle.std.specs.Prelude.{Some}
use Rattle.std.specs.List.{flat_map, slice_get}
use Rattle.std.proofs.lemmas.List.{map-append}
use Rattle.f2_image.specs.Reached.{AllDiffer}
use Rattle.f2_block_laws.proofs.Members.{IsIn, in_left, in_right, in_either, in_map, in_list, place_of, of_all}
use Rattle.f2_block_laws.proofs.Differ.{differ_front, differ_back, differ_across}

-- where the keys of all members differ, two of one key stand at one place
same_place : {X K : Type 0} (key : X → K) (xs : List X) → AllDiffer (map key xs) → (i j : ℕ) (a b : X) → slice_get xs i ≡ Some a → slice_get xs j ≡ Some b → key a ≡ key b → i ≡ j
same_place key [] differ i j a b at_a at_b same = absurd (cc)
same_place key (x ∷ xs) differ zero zero a b at_a at_b same = refl
same_place key (x ∷ xs) differ zero (suc j) a b at_a at_b same =
    let first : x ≡ a = cc in
    absurd (of_all (λ k. ¬ (key x ≡ k)) (key b) (map key xs) differ.0 (in_map key b xs (in_list xs j b at_b)) (ap key first ∙ same))
same_place key (x ∷ xs) differ (suc i) zero a b at_a at_b same =
    let first : x ≡ b = cc in
    absurd (of_all (λ k. ¬ (key x ≡ k)) (key a) (map key xs) differ.0 (in_map key a xs (in_list xs i a at_a)) (ap key first ∙ sym same))
same_place key (x ∷ xs) differ (suc i) (suc j) a b at_a at_b same = ap (λ n. suc n) (same_place key xs differ.1 i j a b at_a at_b same)

-- a thing stands at a place of what is made of one of some blocks
pub record IsAt {B X : Type 0} (made : B → List X) (blocks : List B) (page place : ℕ) (x : X) : Type 0 where
  pub block : B
  pub there : slice_get blocks page ≡ Some block
  pub is : slice_get (made block) place ≡ Some x

module _ {B X : Type 0} (made : B → List X) where
  behind : (b : B) (blocks : List B) (page place : ℕ) (x : X) → IsAt made (b ∷ blocks) (suc page) place x → IsAt made blocks page place x
  behind b blocks page place x at = record { block = at.block; there = at.there; is = at.is }

  first : (b : B) (blocks : List B) (place : ℕ) (x : X) → IsAt made (b ∷ blocks) 0 place x → slice_get (made b) place ≡ Some x
  first b blocks place x at =
      let there = at.there in
      let same : at.block ≡ b = cc in
      ap (λ c. slice_get (made c) place) (sym same) ∙ at.is

  pub in_blocks : (blocks : List B) (page place : ℕ) (x : X) → IsAt made blocks page place x → IsIn x (flat_map made blocks)
  in_blocks [] page place x at = let none = at.there in absurd (cc)
  in_blocks (b ∷ blocks) zero place x at = in_left x (made b) (flat_map made blocks) (in_list (made b) place x (first b blocks place x at))
  in_blocks (b ∷ blocks) (suc page) place x at = in_right x (made b) (flat_map made blocks) (in_blocks blocks page place x (behind b blocks page place x at))

  -- and where it stands
  pub record StandsSomewhere (blocks : List B) (x : X) : Type 0 where
    pub page : ℕ
    pub place : ℕ
    pub at : IsAt made blocks page place x

  pub from_blocks : (blocks : List B) (x : X) → IsIn x (flat_map made blocks) → StandsSomewhere blocks x
  from_blocks [] x there = absurd there
  from_blocks (b ∷ blocks) x there = by_block (from_blocks blocks x) (in_either x (made b) (flat_map made blocks) there)
    where
      by_block : (IsIn x (flat_map made blocks) → StandsSomewhere blocks x) → IsIn x (made b) ⊎ IsIn x (flat_map made blocks) → StandsSomewhere (b ∷ blocks) x
      by_block rest (inl here) = let found = place_of x (made b) here in record { page = 0; place = found.0; at = record { block = b; there = refl; is = found.1 } }
      by_block rest (inr later) = let more = rest later in record { page = suc more.page; place = more.place; at = record { block = more.at.block; there = more.at.there; is = more.at.is } }

  module _ {K : Type 0} (key : X → K) where
    first_in : (b : B) (blocks : List B) (place : ℕ) (x : X) → IsAt made (b ∷ blocks) 0 place x → IsIn (key x) (map key (made b))
    first_in b blocks place x at = in_map key x (made b) (in_list (made b) place x (first b blocks place x at))

    -- where the keys of all members differ, two of one key stand at one place
    pub one_place : (blocks : List B) → AllDiffer (map key (flat_map made blocks)) → (page place more other : ℕ) (a b : X) → IsAt made blocks page place a → IsAt made blocks more other b → key a ≡ key b → (page ≡ more) × (place ≡ other)
    one_place [] differ page place more other a b at_a at_b same = let none = at_a.there in absurd (cc)
    one_place (block ∷ blocks) differ page place more other a b at_a at_b same =
        by_pages page more at_a at_b (subst AllDiffer (map-append key (made block) (flat_map made blocks)) differ) (λ apart. one_place blocks apart)
      where
        by_pages : (page more : ℕ) → IsAt made (block ∷ blocks) page place a → IsAt made (block ∷ blocks) more other b → AllDiffer (map key (made block) ++ map key (flat_map made blocks))
            → (AllDiffer (map key (flat_map made blocks)) → (page place more other : ℕ) (a b : X) → IsAt made blocks page place a → IsAt made blocks more other b → key a ≡ key b → (page ≡ more) × (place ≡ other))
            → (page ≡ more) × (place ≡ other)
        by_pages zero zero p q apart rest =
            (refl, same_place key (made block) (differ_front (map key (made block)) _ apart) place other a b (first block blocks place a p) (first block blocks other b q) same)
        by_pages zero (suc more) p q apart rest =
            absurd (differ_across (map key (made block)) (map key (flat_map made blocks)) apart (key a) (key b) (first_in block blocks place a p)
            (in_map key b (flat_map made blocks) (in_blocks blocks more other b (behind block blocks more other b q))) same)
        by_pages (suc page) zero p q apart rest =
            absurd (differ_across (map key (made block)) (map key (flat_map made blocks)) apart (key b) (key a) (first_in block blocks other b q)
            (in_map key a (flat_map made blocks) (in_blocks blocks page place a (behind block blocks page place a p))) (sym same))
        by_pages (suc page) (suc more) p q apart rest =
            let one = rest (differ_back (map key (made block)) _ apart) page place more other a b (behind block blocks page place a p) (behind block blocks more other b q) same in
            (ap (λ n. suc n) one.0, one.1)
