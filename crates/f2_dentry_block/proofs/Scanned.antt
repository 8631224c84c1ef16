-- A block whose first slots were read, slot after slot.
use Rattle.std.proofs.Common.{◌≡◌, ℕ, suc, ◌+◌, ◌-◌, ◌/◌, ◌<◌, ◌≤◌, Bool, true, false, leb, eqb, not, ◌&&◌, ◌||◌, List, [], ◌∷◌, ◌++◌, Some, None, length, drop, map, sym, ap, ◌∙◌, arith, inl, inr, refl, length-drop}
use Rattle.std.specs.List.{list_all, range_with_len, filter}
use Rattle.std.proofs.lemmas.Bool.{cases_lt, and_parts, cond-true, leb-true}
use Rattle.std.proofs.lemmas.Bool.Decides.{nat_tests}
use Rattle.std.proofs.lemmas.List.{map-append, append-nil, length-take-le}
use Rattle.std.proofs.lemmas.List.Elements.{filter-append}
use Rattle.f2_format.specs.Dentry.{Dentry, all_slots, begins_name, covered_to, dentries_of, dentry_at, dentry_fault, dentry_name_length, dentry_slots, dentry_type, is_good_dentry, is_slot_used, name_start}
use Rattle.f2_dentry_block.specs.Dents.{IsFaultOf, IsWrongAt}
use Rattle.f2_dentry_block.specs.declared.dents.UnpackFault.{UnpackFault}
use Rattle.f2_dentry_block.specs.declared.dents.UnpackFault.TheVariants.{Dent as wrong_dent, Memory}
use Rattle.f2_dentry_block.proofs.Filled.{covered-begins, covered-no_name, covered-start}
use Rattle.f2_dentry_block.proofs.Ranges.{filter-none, find-first, find-none, range-split}

-- the slots before this one were read: how far their names reach, the dentries that begin in them, and no fault
pub record IsScanned (block : List ℕ) (slot covered : ℕ) (dentries : List Dentry) : Type 0 where
  pub reach : covered ≡ covered_to block slot
  pub listed : dentries ≡ map (dentry_at block) (filter (begins_name block) (range_with_len 0 slot))
  pub sound : (k : ℕ) → k < slot → (begins_name block k && not (is_good_dentry block k)) ≡ false

pub IsScanned-start : (block : List ℕ) → IsScanned block 0 0 []
IsScanned-start block = record { reach = sym (covered-start block); listed = refl; sound = λ k h. absurd (omega arith) }

-- the dentries that begin before the next slot
listed-more : (block : List ℕ) (slot : ℕ) → map (dentry_at block) (filter (begins_name block) (range_with_len 0 (slot + 1)))
    ≡ map (dentry_at block) (filter (begins_name block) (range_with_len 0 slot)) ++ map (dentry_at block) (filter (begins_name block) ((0 + slot) ∷ []))
listed-more block slot =
    ap (λ (ks : List ℕ). map (dentry_at block) (filter (begins_name block) ks)) (range-split 0 slot 1)
    ∙ ap (map (dentry_at block)) (filter-append (begins_name block) (range_with_len 0 slot) ((0 + slot) ∷ []))
    ∙ map-append (dentry_at block) (filter (begins_name block) (range_with_len 0 slot)) (filter (begins_name block) ((0 + slot) ∷ []))

-- no name begins in the slot
pub IsScanned-skip : (block : List ℕ) (slot covered : ℕ) (dentries : List Dentry) → IsScanned block slot covered dentries → begins_name block slot ≡ false
    → IsScanned block (slot + 1) covered dentries
IsScanned-skip block slot covered dentries scanned none =
    let next : slot + 1 ≡ suc slot = omega arith in
    let nothing : filter (begins_name block) ((0 + slot) ∷ []) ≡ [] =
    filter-none (begins_name block) (0 + slot) 1 (λ k low high. let same : k ≡ slot = omega arith in ap (begins_name block) same ∙ none) in
    record {
      reach = scanned.reach ∙ sym (ap (covered_to block) next ∙ covered-no_name block slot none);
      listed =
          scanned.listed
          ∙ sym (listed-more block slot
          ∙ ap (λ (ks : List ℕ). map (dentry_at block) (filter (begins_name block) (range_with_len 0 slot)) ++ map (dentry_at block) ks) nothing
          ∙ append-nil (map (dentry_at block) (filter (begins_name block) (range_with_len 0 slot))));
      sound = λ k h. elim (cases_lt k slot) [
        | inl before ↦ scanned.sound k before
        | inr here ↦
            let same : k ≡ slot = omega arith in
            ap (λ (j : ℕ). begins_name block j && not (is_good_dentry block j)) same
            ∙ ap (λ (b : Bool). b && not (is_good_dentry block slot)) none
      ];
    }

-- a right name has the bytes that its entry tells
length-name : (block : List ℕ) (slot : ℕ) → length block ≡ 4096 → is_good_dentry block slot ≡ true → length (dentry_at block slot).name ≡ dentry_name_length block slot
length-name block slot long good =
    let len = dentry_name_length block slot in
    let all = list_all (is_slot_used block) (range_with_len slot (dentry_slots block slot)) in
    let known = eqb (dentry_type block slot) 1 || eqb (dentry_type block slot) 2 in
    let a = and_parts (leb 1 len && leb len 255 && leb (slot + dentry_slots block slot) 214 && all) known good in
    let b = and_parts (leb 1 len && leb len 255 && leb (slot + dentry_slots block slot) 214) all a.0 in
    let c = and_parts (leb 1 len && leb len 255) (leb (slot + dentry_slots block slot) 214) b.0 in
    let room : slot + dentry_slots block slot ≤ 214 = leb-true (slot + dentry_slots block slot) 214 c.1 in
    let from = name_start slot in
    let count : from + len - from ≡ len = omega arith in
    length-take-le (from + len - from) (drop from block) (omega (arith, length-drop from block)) ∙ count

-- a right name begins in the slot
pub IsScanned-take : (block : List ℕ) (slot covered : ℕ) (dentries : List Dentry) (dentry : Dentry) → length block ≡ 4096 → IsScanned block slot covered dentries
    → begins_name block slot ≡ true → is_good_dentry block slot ≡ true → dentry ≡ dentry_at block slot
    → IsScanned block (slot + 1) (slot + (length dentry.name + 7) / 8) (dentries ++ dentry ∷ [])
IsScanned-take block slot covered dentries dentry long scanned begins good is =
    let next : slot + 1 ≡ suc slot = omega arith in
    let start : 0 + slot ≡ slot = omega arith in
    let one : filter (begins_name block) ((0 + slot) ∷ []) ≡ (0 + slot) ∷ [] =
    cond-true (begins_name block (0 + slot)) ((0 + slot) ∷ []) [] (ap (begins_name block) start ∙ begins) in
    let size : length dentry.name ≡ dentry_name_length block slot = ap (λ (d : Dentry). length d.name) is ∙ length-name block slot long good in
    record {
      reach =
          ap (λ (n : ℕ). slot + (n + 7) / 8) size
          ∙ sym (ap (covered_to block) next ∙ covered-begins block slot begins);
      listed =
          ap (λ (ds : List Dentry). ds ++ dentry ∷ []) scanned.listed
          ∙ ap (λ (d : Dentry). map (dentry_at block) (filter (begins_name block) (range_with_len 0 slot)) ++ d ∷ []) (is ∙ sym (ap (dentry_at block) start))
          ∙ sym (listed-more block slot
          ∙ ap (λ (ks : List ℕ). map (dentry_at block) (filter (begins_name block) (range_with_len 0 slot)) ++ map (dentry_at block) ks) one);
      sound = λ k h. elim (cases_lt k slot) [
        | inl before ↦ scanned.sound k before
        | inr here ↦
            let same : k ≡ slot = omega arith in
            ap (λ (j : ℕ). begins_name block j && not (is_good_dentry block j)) same
            ∙ ap (λ (b : Bool). b && not (is_good_dentry block slot)) begins
            ∙ ap not good
      ];
    }

-- in which slot a name begins, by how far the names before it reach
pub begins-used : (block : List ℕ) (slot covered : ℕ) (dentries : List Dentry) → IsScanned block slot covered dentries → covered ≤ slot → is_slot_used block slot ≡ true
    → begins_name block slot ≡ true
begins-used block slot covered dentries scanned past used =
    let reach = scanned.reach in
    let test : leb (covered_to block slot) slot ≡ true = grind (arith, nat_tests) in
    ap (λ (b : Bool). b && leb (covered_to block slot) slot) used ∙ test

pub begins-unused : (block : List ℕ) (slot : ℕ) → is_slot_used block slot ≡ false → begins_name block slot ≡ false
begins-unused block slot unused = ap (λ (b : Bool). b && leb (covered_to block slot) slot) unused

pub begins-covered : (block : List ℕ) (slot covered : ℕ) (dentries : List Dentry) → IsScanned block slot covered dentries → slot < covered → begins_name block slot ≡ false
begins-covered block slot covered dentries scanned within =
    let reach = scanned.reach in
    let test : leb (covered_to block slot) slot ≡ false = grind (arith, nat_tests) in
    ap (λ (b : Bool). is_slot_used block slot && b) test ∙ and-false (is_slot_used block slot)
  where
    and-false : (b : Bool) → (b && false) ≡ false
    and-false true = refl
    and-false false = refl

-- all slots were read
pub dentries_of-scanned : (block : List ℕ) (slot covered : ℕ) (dentries : List Dentry) → slot ≡ 214 → IsScanned block slot covered dentries → dentries ≡ dentries_of block
unfolding all_slots
dentries_of-scanned block slot covered dentries end scanned =
    scanned.listed ∙ ap (λ (n : ℕ). map (dentry_at block) (filter (begins_name block) (range_with_len 0 n))) end

pub dentry_fault-scanned : (block : List ℕ) (slot covered : ℕ) (dentries : List Dentry) → slot ≡ 214 → IsScanned block slot covered dentries → dentry_fault block ≡ None
unfolding all_slots
dentry_fault-scanned block slot covered dentries end scanned =
    find-none (λ (k : ℕ). begins_name block k && not (is_good_dentry block k)) 0 214 (λ k low high. scanned.sound k (omega arith))

-- a wrong name begins in the slot
pub IsFaultOf-scanned : (block : List ℕ) (slot covered : ℕ) (dentries : List Dentry) (fault : UnpackFault) → slot < 214 → IsScanned block slot covered dentries
    → begins_name block slot ≡ true → IsWrongAt block slot fault → IsFaultOf block fault
unfolding all_slots
IsFaultOf-scanned block slot covered dentries (wrong_dent told) within scanned begins wrong =
    let here : (begins_name block slot && not (is_good_dentry block slot)) ≡ true =
    ap (λ (b : Bool). b && not (is_good_dentry block slot)) begins ∙ ap not wrong.1 in
    find-first (λ (k : ℕ). begins_name block k && not (is_good_dentry block k)) 0 214 slot (omega arith) within here (λ k low high. scanned.sound k high)
    ∙ ap Some (sym wrong.0)
IsFaultOf-scanned block slot covered dentries Memory within scanned begins wrong = tt
