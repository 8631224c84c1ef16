-- The dentries of the blocks of a directory, place by place.
use Rattle.std.proofs.Common.{◌≡◌, ◌⊎◌, inl, inr, ℕ, zero, suc, ◌<◌, true, List, [], ◌∷◌, ◌++◌, map, refl, sym, ap, ◌∙◌, subst, arith}
use Rattle.std.specs.Prelude.{Some}
use Rattle.std.specs.List.{filter, flat_map, range_with_len, slice_get}
use Rattle.std.proofs.lemmas.List.{map-append}
use Rattle.f2_format.specs.Packing.{SLOTS_A_BLOCK}
use Rattle.f2_format.specs.Dentry.{Dentry, all_slots, begins_name, dentries_of, dentry_at}
use Rattle.f2_image.specs.Reached.{AllDiffer}
use Rattle.f2_laid_laws.proofs.Members.{IsIn, in_left, in_right, in_either, in_map, from_map, in_filter, from_filter, in_range, from_range}
use Rattle.f2_laid_laws.proofs.Differ.{differ_front, differ_back, differ_across, same_member}

-- a name begins in a slot of one of these blocks
pub record IsAt (blocks : List (List ℕ)) (page slot : ℕ) (dentry : Dentry) : Type 0 where
  pub block : List ℕ
  pub there : slice_get blocks page ≡ Some block
  pub within : slot < SLOTS_A_BLOCK
  pub begins : begins_name block slot ≡ true
  pub is : dentry_at block slot ≡ dentry

-- the slots of a block are a range
slots_are : (n : ℕ) → n ≡ SLOTS_A_BLOCK → all_slots ≡ range_with_len 0 n
unfolding all_slots
slots_are n e = ap (range_with_len 0) (sym e)

slot_in : (n slot : ℕ) → n ≡ SLOTS_A_BLOCK → slot < n → IsIn slot all_slots
slot_in n slot e within = subst (IsIn slot) (sym (slots_are n e)) (in_range 0 n slot (omega arith) (omega arith))

slot_within : (n slot : ℕ) → n ≡ SLOTS_A_BLOCK → IsIn slot all_slots → slot < n
slot_within n slot e there =
    let bounds = from_range 0 n slot (subst (IsIn slot) (slots_are n e) there) in
    omega (arith, bounds.1)

-- a dentry of one block
in_block : (block : List ℕ) (slot : ℕ) → slot < SLOTS_A_BLOCK → begins_name block slot ≡ true → IsIn (dentry_at block slot) (dentries_of block)
in_block block slot within begins = in_map (dentry_at block) slot (filter (begins_name block) all_slots) (in_filter (begins_name block) slot all_slots begins (slot_in SLOTS_A_BLOCK slot refl within))

-- a dentry of the blocks
pub in_blocks : (blocks : List (List ℕ)) (page slot : ℕ) (dentry : Dentry) → IsAt blocks page slot dentry → IsIn dentry (flat_map dentries_of blocks)
in_blocks [] page slot dentry at = let none = at.there in absurd (cc)
in_blocks (b ∷ blocks) zero slot dentry at =
    let there = at.there in
    let same : b ≡ at.block = cc in
    let here : IsIn dentry (dentries_of at.block) = subst (λ d. IsIn d (dentries_of at.block)) at.is (in_block at.block slot at.within at.begins) in
    in_left dentry (dentries_of b) (flat_map dentries_of blocks) (subst (λ bytes. IsIn dentry (dentries_of bytes)) (sym same) here)
in_blocks (b ∷ blocks) (suc page) slot dentry at =
    in_right dentry (dentries_of b) (flat_map dentries_of blocks) (in_blocks blocks page slot dentry (record { block = at.block; there = at.there; within = at.within; begins = at.begins; is = at.is }))

-- and where it stands
pub record StandsSomewhere (blocks : List (List ℕ)) (dentry : Dentry) : Type 0 where
  pub page : ℕ
  pub slot : ℕ
  pub at : IsAt blocks page slot dentry

pub from_blocks : (blocks : List (List ℕ)) (dentry : Dentry) → IsIn dentry (flat_map dentries_of blocks) → StandsSomewhere blocks dentry
from_blocks [] dentry there = absurd there
from_blocks (b ∷ blocks) dentry there = by_block (from_blocks blocks dentry) (in_either dentry (dentries_of b) (flat_map dentries_of blocks) there)
  where
    by_block : (IsIn dentry (flat_map dentries_of blocks) → StandsSomewhere blocks dentry) → IsIn dentry (dentries_of b) ⊎ IsIn dentry (flat_map dentries_of blocks) → StandsSomewhere (b ∷ blocks) dentry
    by_block rest (inl here) =
        let begun = from_map (dentry_at b) dentry (filter (begins_name b) all_slots) here in
        let kept = from_filter (begins_name b) begun.0 all_slots begun.1 in
        record { page = 0; slot = begun.0; at = record { block = b; there = refl; within = slot_within SLOTS_A_BLOCK begun.0 refl kept.1; begins = kept.0; is = begun.2 } }
    by_block rest (inr later) =
        let more = rest later in
        record { page = suc more.page; slot = more.slot; at = record { block = more.at.block; there = more.at.there; within = more.at.within; begins = more.at.begins; is = more.at.is } }

-- what a map makes of a map of a list
map_twice : {X Y Z : Type 0} (f : X → Y) (g : Y → Z) (xs : List X) → map g (map f xs) ≡ map (λ x. g (f x)) xs
map_twice f g [] = refl
map_twice f g (x ∷ xs) = ap (λ rest. g (f x) ∷ rest) (map_twice f g xs)

module _ {K : Type 0} (key : Dentry → K) where
  -- two slots of one block
  same_slot : (block : List ℕ) → AllDiffer (map key (dentries_of block)) → (slot place : ℕ) → slot < SLOTS_A_BLOCK → place < SLOTS_A_BLOCK → begins_name block slot ≡ true → begins_name block place ≡ true
      → key (dentry_at block slot) ≡ key (dentry_at block place) → slot ≡ place
  same_slot block differ slot place slot_below place_below slot_begins place_begins same =
      let begun = filter (begins_name block) all_slots in
      same_member (λ s. key (dentry_at block s)) begun (subst AllDiffer (map_twice (dentry_at block) key begun) differ) slot place
      (in_filter (begins_name block) slot all_slots slot_begins (slot_in SLOTS_A_BLOCK slot refl slot_below))
      (in_filter (begins_name block) place all_slots place_begins (slot_in SLOTS_A_BLOCK place refl place_below)) same

  -- a dentry of one of the blocks behind the first
  behind : (b : List ℕ) (blocks : List (List ℕ)) (page slot : ℕ) (dentry : Dentry) → IsAt (b ∷ blocks) (suc page) slot dentry → IsAt blocks page slot dentry
  behind b blocks page slot dentry at = record { block = at.block; there = at.there; within = at.within; begins = at.begins; is = at.is }

  -- one of the first block
  first : (b : List ℕ) (blocks : List (List ℕ)) (slot : ℕ) (dentry : Dentry) → IsAt (b ∷ blocks) 0 slot dentry → (begins_name b slot ≡ true) × (dentry_at b slot ≡ dentry)
  first b blocks slot dentry at =
      let there = at.there in
      let same : at.block ≡ b = cc in
      (ap (λ bytes. begins_name bytes slot) (sym same) ∙ at.begins, ap (λ bytes. dentry_at bytes slot) (sym same) ∙ at.is)

  first_in : (b : List ℕ) (blocks : List (List ℕ)) (slot : ℕ) (dentry : Dentry) → IsAt (b ∷ blocks) 0 slot dentry → IsIn (key dentry) (map key (dentries_of b))
  first_in b blocks slot dentry at =
      let here = first b blocks slot dentry at in
      in_map key dentry (dentries_of b) (subst (λ d. IsIn d (dentries_of b)) here.1 (in_block b slot at.within here.0))

  -- where the keys of all dentries differ, two of one key stand at one place
  pub one_place : (blocks : List (List ℕ)) → AllDiffer (map key (flat_map dentries_of blocks)) → (page slot more place : ℕ) (a b : Dentry) → IsAt blocks page slot a → IsAt blocks more place b → key a ≡ key b → (page ≡ more) × (slot ≡ place)
  one_place [] differ page slot more place a b at_a at_b same = let none = at_a.there in absurd (cc)
  one_place (block ∷ blocks) differ page slot more place a b at_a at_b same =
      by_pages page more at_a at_b (subst AllDiffer (map-append key (dentries_of block) (flat_map dentries_of blocks)) differ) (λ apart. one_place blocks apart)
    where
      by_pages : (page more : ℕ) → IsAt (block ∷ blocks) page slot a → IsAt (block ∷ blocks) more place b → AllDiffer (map key (dentries_of block) ++ map key (flat_map dentries_of blocks))
          → (AllDiffer (map key (flat_map dentries_of blocks)) → (page slot more place : ℕ) (a b : Dentry) → IsAt blocks page slot a → IsAt blocks more place b → key a ≡ key b → (page ≡ more) × (slot ≡ place))
          → (page ≡ more) × (slot ≡ place)
      by_pages zero zero p q apart rest =
          let here = first block blocks slot a p in
          let there = first block blocks place b q in
          (refl, same_slot block (differ_front (map key (dentries_of block)) _ apart) slot place p.within q.within here.0 there.0 (ap key here.1 ∙ same ∙ sym (ap key there.1)))
      by_pages zero (suc more) p q apart rest =
          absurd (differ_across (map key (dentries_of block)) (map key (flat_map dentries_of blocks)) apart (key a) (key b) (first_in block blocks slot a p)
          (in_map key b (flat_map dentries_of blocks) (in_blocks blocks more place b (behind block blocks more place b q))) same)
      by_pages (suc page) zero p q apart rest =
          absurd (differ_across (map key (dentries_of block)) (map key (flat_map dentries_of blocks)) apart (key b) (key a) (first_in block blocks place b q)
          (in_map key a (flat_map dentries_of blocks) (in_blocks blocks page slot a (behind block blocks page slot a p))) (sym same))
      by_pages (suc page) (suc more) p q apart rest =
          let one = rest (differ_back (map key (dentries_of block)) _ apart) page slot more place a b (behind block blocks page slot a p) (behind block blocks more place b q) same in
          (ap (λ n. suc n) one.0, one.1)
