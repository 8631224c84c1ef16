-- A block that has dentries without a gap, and such a block once one more was put behind them.
use Rattle.std.proofs.Common.{◌≡◌, ℕ, zero, suc, ◌+◌, ◌-◌, ◌/◌, ◌%◌, ◌<◌, ◌≤◌, Bool, true, false, leb, eqb, not, ◌&&◌, ◌||◌, List, [], ◌∷◌, ◌++◌, None, length, get_or, slice_range, map, refl, sym, ap, ◌∙◌, arith, inl, inr, subst}
use Rattle.std.specs.Int.{bit_at}
use Rattle.std.specs.List.{list_all, range_with_len, filter}
use Rattle.std.proofs.lemmas.Bool.{cases_Bool, cases_lt, and_parts, cond-true, cond-false, leb-true}
use Rattle.std.proofs.lemmas.Bool.Decides.{nat_tests}
use Rattle.std.proofs.lemmas.List.{map-append, append-nil, length-replicate, get_or-replicate, get_or_past}
use Rattle.std.proofs.lemmas.List.Elements.{filter-append}
use Rattle.std.proofs.lemmas.Nat.Bits.{bit_at-zero}
use Rattle.f2_format.specs.Bytes.{zeros, number_at}
use Rattle.f2_format.specs.Dentry.{Dentry, all_slots, begins_name, covered_to, dentries_of, dentry_at, dentry_fault, dentry_slots, dentry_type, entry_start, is_good_dentry, is_slot_used, name_start, with_dentry}
use Rattle.f2_format.specs.Packing.{slots_of_name}
use Rattle.f2_dentry_block.specs.Packed.{IsFitting}
use Rattle.f2_dentry_block.proofs.Added.{IsAdded, IsAdded-with_dentry, begins-same, covered-same, dentry_at-same, good-same}
use Rattle.f2_dentry_block.proofs.Ranges.{filter-none, find-none, kept-same, list_all-true, range-split}

-- the slots before `end` are used and no others, they have these dentries, and each of them is right
pub record IsFilled (block : List ℕ) (end : ℕ) (dentries : List Dentry) : Type 0 where
  pub long : length block ≡ 4096
  pub used : (k : ℕ) → k < end → is_slot_used block k ≡ true
  pub unused : (k : ℕ) → end ≤ k → k < 214 → is_slot_used block k ≡ false
  pub covered : covered_to block end ≤ end
  pub good : (k : ℕ) → k < end → begins_name block k ≡ true → is_good_dentry block k ≡ true
  pub listed : map (dentry_at block) (filter (begins_name block) (range_with_len 0 end)) ≡ dentries

-- how far names reach, past a slot in which one begins and past one in which none does
pub covered-begins : (block : List ℕ) (k : ℕ) → begins_name block k ≡ true → covered_to block (suc k) ≡ k + dentry_slots block k
unfolding covered_to
covered-begins block k begins = cond-true (begins_name block k) (k + dentry_slots block k) (covered_to block k) begins

pub covered-no_name : (block : List ℕ) (k : ℕ) → begins_name block k ≡ false → covered_to block (suc k) ≡ covered_to block k
unfolding covered_to
covered-no_name block k none = cond-false (begins_name block k) (k + dentry_slots block k) (covered_to block k) none

pub covered-start : (block : List ℕ) → covered_to block 0 ≡ 0
unfolding covered_to
covered-start block = refl

-- names reach no less far past a further slot
covered-rises : (block : List ℕ) (k n : ℕ) → covered_to block k ≤ covered_to block (k + n)
covered-rises block k zero = let same : k + zero ≡ k = omega arith in subst (λ (j : ℕ). covered_to block k ≤ covered_to block j) (sym same) (omega arith)
covered-rises block k (suc n) =
    let next : k + suc n ≡ suc (k + n) = omega arith in
    let before = covered-rises block k n in
    let step : covered_to block (k + n) ≤ covered_to block (suc (k + n)) = elim (cases_Bool (begins_name block (k + n))) [
      | inl begins ↦
          let is = covered-begins block (k + n) begins in
          let both = and_parts (is_slot_used block (k + n)) (leb (covered_to block (k + n)) (k + n)) begins in
          let at = leb-true (covered_to block (k + n)) (k + n) both.1 in
          omega arith
      | inr none ↦ let is = covered-no_name block (k + n) none in omega arith
    ] in
    subst (λ (j : ℕ). covered_to block k ≤ covered_to block j) (sym next) (omega arith)

-- a name of a filled block ends in its filled part
ends-within : (block : List ℕ) (end k : ℕ) (dentries : List Dentry) → IsFilled block end dentries → k < end → begins_name block k ≡ true → k + dentry_slots block k ≤ end
ends-within block end k dentries filled before begins =
    let is = covered-begins block k begins in
    let covered = filled.covered in
    let at : suc k + (end - suc k) ≡ end = omega arith in
    let rises = subst (λ (j : ℕ). covered_to block (suc k) ≤ covered_to block j) at (covered-rises block (suc k) (end - suc k)) in
    omega arith

-- no slot of a blank block is used
unused-zeros : (n k : ℕ) → is_slot_used (zeros n) k ≡ false
unfolding zeros
unused-zeros n k =
    let byte : get_or (zeros n) (k / 8) 0 ≡ 0 = elim (cases_lt (k / 8) n) [
      | inl within ↦ get_or-replicate n (k / 8) 0 0 within
      | inr past ↦ get_or_past (zeros n) (k / 8) 0 (omega (arith, length-replicate {A = ℕ} n 0))
    ] in
    ap (λ (x : ℕ). eqb (bit_at x (k % 8)) 1) byte ∙ ap (λ (b : ℕ). eqb b 1) (bit_at-zero (k % 8))

pub length-zeros : (n : ℕ) → length (zeros n) ≡ n
unfolding zeros
length-zeros n = length-replicate n 0

-- a blank block has no dentry
pub IsFilled-zeros : IsFilled (zeros 4096) 0 []
IsFilled-zeros = record {
  long = length-zeros 4096;
  used = λ k before. absurd (omega arith);
  unused = λ k past small. unused-zeros 4096 k;
  covered = let start = covered-start (zeros 4096) in omega arith;
  good = λ k before begins. absurd (omega arith);
  listed = refl;
}

-- behind the slot in which the new dentry begins, names reach to its end
covered-past : (new : List ℕ) (slot n m : ℕ) → covered_to new (suc slot) ≡ slot + n → suc slot + m ≤ slot + n → covered_to new (suc slot + m) ≡ slot + n
covered-past new slot n zero at within = let same : suc slot + zero ≡ suc slot = omega arith in ap (covered_to new) same ∙ at
covered-past new slot n (suc m) at within =
    let next : suc slot + suc m ≡ suc (suc slot + m) = omega arith in
    let before = covered-past new slot n m at (omega arith) in
    let far : leb (covered_to new (suc slot + m)) (suc slot + m) ≡ false = grind (arith, nat_tests) in
    let none : begins_name new (suc slot + m) ≡ false = elim (cases_Bool (is_slot_used new (suc slot + m))) [
      | inl used ↦ ap (λ (b : Bool). b && leb (covered_to new (suc slot + m)) (suc slot + m)) used ∙ far
      | inr unused ↦ ap (λ (b : Bool). b && leb (covered_to new (suc slot + m)) (suc slot + m)) unused
    ] in
    ap (covered_to new) next ∙ covered-no_name new (suc slot + m) none ∙ before

-- what the slots of the new dentry have
pub record HasNew (new : List ℕ) (slot n : ℕ) (dentry : Dentry) : Type 0 where
  pub begins : begins_name new slot ≡ true
  pub none : (k : ℕ) → slot < k → k < slot + n → begins_name new k ≡ false
  pub covered : covered_to new (slot + n) ≡ slot + n
  pub good : is_good_dentry new slot ≡ true
  pub is : dentry_at new slot ≡ dentry

has-new : (old new : List ℕ) (slot n : ℕ) (dentry : Dentry) (dentries : List Dentry) → IsFilled old slot dentries → IsAdded old new slot n dentry → IsFitting dentry
    → n ≡ slots_of_name dentry.name → slot + n ≤ 214 → HasNew new slot n dentry
has-new old new slot n dentry dentries filled added fitting count fits =
    let some = fitting.name.some in
    let most = fitting.name.most in
    let size = added.length_field in
    let len = length dentry.name in
    let slots : dentry_slots new slot ≡ n = ap (λ (l : ℕ). (l + 7) / 8) size ∙ sym count in
    let was = filled.covered in
    let same = covered-same old new slot n slot dentry added (omega arith) in
    let here : leb (covered_to new slot) slot ≡ true = grind (arith, nat_tests) in
    let used = added.used_in slot (omega arith) (omega arith) in
    let begins : begins_name new slot ≡ true = ap (λ (b : Bool). b && leb (covered_to new slot) slot) used ∙ here in
    let at : covered_to new (suc slot) ≡ slot + n = covered-begins new slot begins ∙ ap (λ (m : ℕ). slot + m) slots in
    let past : (k : ℕ) → slot < k → k ≤ slot + n → covered_to new k ≡ slot + n = λ k low high.
    let place : k ≡ suc slot + (k - suc slot) = omega arith in
    ap (covered_to new) place ∙ covered-past new slot n (k - suc slot) at (omega arith) in
    let bits : list_all (is_slot_used new) (range_with_len slot n) ≡ true = list_all-true (is_slot_used new) slot n (λ k low high. added.used_in k low high) in
    let test : ℕ → ℕ → Bool → ℕ → Bool = λ l m all type. leb 1 l && leb l 255 && leb (slot + m) 214 && all && (eqb type 1 || eqb type 2) in
    let low : leb 1 len ≡ true = grind (arith, nat_tests) in
    let high : leb len 255 ≡ true = grind (arith, nat_tests) in
    let room : leb (slot + n) 214 ≡ true = grind (arith, nat_tests) in
    let known : (eqb dentry.type 1 || eqb dentry.type 2) ≡ true = elim fitting.type [
      | inl regular ↦ ap (λ (t : ℕ). eqb t 1 || eqb t 2) regular
      | inr directory ↦ ap (λ (t : ℕ). eqb t 1 || eqb t 2) directory
    ] in
    let entry : List ℕ → ℕ → ℕ → Dentry = λ name ino type. record { name = name; ino = ino; type = type } in
    record {
      begins = begins;
      none = λ k low high.
          let reach = past k low (omega arith) in
          let far : leb (covered_to new k) k ≡ false = grind (arith, nat_tests) in
          ap (λ (b : Bool). b && leb (covered_to new k) k) (added.used_in k (omega arith) high) ∙ far;
      covered = past (slot + n) (omega arith) (omega arith);
      good =
          ap (λ (l : ℕ). test l (dentry_slots new slot) (list_all (is_slot_used new) (range_with_len slot (dentry_slots new slot))) (dentry_type new slot)) size
          ∙ ap (λ (m : ℕ). test len m (list_all (is_slot_used new) (range_with_len slot m)) (dentry_type new slot)) slots
          ∙ ap (λ (all : Bool). test len n all (dentry_type new slot)) bits
          ∙ ap (test len n true) added.type
          ∙ ap (λ (b : Bool). b && leb len 255 && leb (slot + n) 214 && true && (eqb dentry.type 1 || eqb dentry.type 2)) low
          ∙ ap (λ (b : Bool). b && leb (slot + n) 214 && true && (eqb dentry.type 1 || eqb dentry.type 2)) high
          ∙ ap (λ (b : Bool). b && true && (eqb dentry.type 1 || eqb dentry.type 2)) room
          ∙ known;
      is =
          ap (λ (l : ℕ). entry (slice_range new (name_start slot) (name_start slot + l)) (number_at 4 new (entry_start slot + 4)) (dentry_type new slot)) size
          ∙ ap (λ (name : List ℕ). entry name (number_at 4 new (entry_start slot + 4)) (dentry_type new slot)) added.name_bytes
          ∙ ap (λ (i : ℕ). entry dentry.name i (dentry_type new slot)) added.ino
          ∙ ap (entry dentry.name dentry.ino) added.type;
    }

-- a filled block with one dentry more
IsFilled-added : (old new : List ℕ) (slot n : ℕ) (dentry : Dentry) (dentries : List Dentry) → IsFilled old slot dentries → IsAdded old new slot n dentry → IsFitting dentry
    → n ≡ slots_of_name dentry.name → slot + n ≤ 214 → IsFilled new (slot + n) (dentries ++ dentry ∷ [])
IsFilled-added old new slot n dentry dentries filled added fitting count fits =
    let has = has-new old new slot n dentry dentries filled added fitting count fits in
    let some = fitting.name.some in
    let begins : (k : ℕ) → k < slot → begins_name new k ≡ begins_name old k = λ k h. begins-same old new slot n k dentry added h in
    let within : (k : ℕ) → k < slot → begins_name old k ≡ true → k + dentry_slots old k ≤ slot = λ k h b. ends-within old slot k dentries filled h b in
    let front : map (dentry_at new) (filter (begins_name new) (range_with_len 0 slot)) ≡ dentries =
    kept-same (begins_name new) (begins_name old) (dentry_at new) (dentry_at old) 0 slot
    (λ k low high. begins k (omega arith))
    (λ k low high b. dentry_at-same old new slot n k dentry added (omega arith) (within k (omega arith) b))
    ∙ filled.listed in
    let more : n ≡ suc (n - 1) = omega arith in
    let rest = range_with_len (0 + slot + 1) (n - 1) in
    let ranges : range_with_len 0 (slot + n) ≡ range_with_len 0 slot ++ (0 + slot) ∷ rest =
    range-split 0 slot n ∙ ap (λ (m : ℕ). range_with_len 0 slot ++ range_with_len (0 + slot) m) more in
    let start : 0 + slot ≡ slot = omega arith in
    let nothing : filter (begins_name new) rest ≡ [] = filter-none (begins_name new) (0 + slot + 1) (n - 1) (λ k low high. has.none k (omega arith) (omega arith)) in
    let here : begins_name new (0 + slot) ≡ true = ap (begins_name new) start ∙ has.begins in
    let back : filter (begins_name new) ((0 + slot) ∷ rest) ≡ (0 + slot) ∷ [] =
    cond-true (begins_name new (0 + slot)) ((0 + slot) ∷ filter (begins_name new) rest) (filter (begins_name new) rest) here
    ∙ ap (λ (ks : List ℕ). (0 + slot) ∷ ks) nothing in
    record {
      long = added.long;
      used = λ k before. elim (cases_lt k slot) [
        | inl front ↦ added.used_before k front ∙ filled.used k front
        | inr behind ↦ added.used_in k behind before
      ];
      unused = λ k past small. added.used_past k past small ∙ filled.unused k (omega arith) small;
      covered = let reach = has.covered in omega arith;
      good = λ k before b. elim (cases_lt k slot) [
        | inl front ↦
            let was : begins_name old k ≡ true = sym (begins k front) ∙ b in
            good-same old new slot n k dentry added front (within k front was) ∙ filled.good k front was
        | inr behind ↦ elim (cases_lt slot k) [
          | inl past ↦ let clash : true ≡ false = sym b ∙ has.none k past before in cc
          | inr at ↦ let same : k ≡ slot = omega arith in ap (is_good_dentry new) same ∙ has.good
        ]
      ];
      listed =
          ap (λ (ks : List ℕ). map (dentry_at new) (filter (begins_name new) ks)) ranges
          ∙ ap (map (dentry_at new)) (filter-append (begins_name new) (range_with_len 0 slot) ((0 + slot) ∷ rest))
          ∙ map-append (dentry_at new) (filter (begins_name new) (range_with_len 0 slot)) (filter (begins_name new) ((0 + slot) ∷ rest))
          ∙ ap (λ (ds : List Dentry). ds ++ map (dentry_at new) (filter (begins_name new) ((0 + slot) ∷ rest))) front
          ∙ ap (λ (ks : List ℕ). dentries ++ map (dentry_at new) ks) back
          ∙ ap (λ (k : ℕ). dentries ++ dentry_at new k ∷ []) start
          ∙ ap (λ (d : Dentry). dentries ++ d ∷ []) has.is;
    }

pub IsFilled-more : (block : List ℕ) (slot : ℕ) (dentry : Dentry) (dentries : List Dentry) → IsFilled block slot dentries → IsFitting dentry → slot + slots_of_name dentry.name ≤ 214
    → IsFilled (with_dentry block slot dentry) (slot + slots_of_name dentry.name) (dentries ++ dentry ∷ [])
IsFilled-more block slot dentry dentries filled fitting fits =
    let added = IsAdded-with_dentry block slot dentry filled.long fits fitting.name.some fitting.name.most fitting.ino in
    IsFilled-added block (with_dentry block slot dentry) slot (slots_of_name dentry.name) dentry dentries filled added fitting refl fits

-- a filled block has its dentries, and no fault
pub dentries_of-filled : (block : List ℕ) (end : ℕ) (dentries : List Dentry) → IsFilled block end dentries → end ≤ 214 → dentries_of block ≡ dentries
unfolding all_slots
dentries_of-filled block end dentries filled fits =
    let all : 214 ≡ end + (214 - end) = omega arith in
    let ranges : range_with_len 0 214 ≡ range_with_len 0 end ++ range_with_len (0 + end) (214 - end) = ap (range_with_len 0) all ∙ range-split 0 end (214 - end) in
    let nothing : filter (begins_name block) (range_with_len (0 + end) (214 - end)) ≡ [] = filter-none (begins_name block) (0 + end) (214 - end)
    (λ k low high. ap (λ (b : Bool). b && leb (covered_to block k) k) (filled.unused k (omega arith) (omega arith))) in
    ap (λ (ks : List ℕ). map (dentry_at block) (filter (begins_name block) ks)) ranges
    ∙ ap (map (dentry_at block)) (filter-append (begins_name block) (range_with_len 0 end) (range_with_len (0 + end) (214 - end))
    ∙ ap (λ (ks : List ℕ). filter (begins_name block) (range_with_len 0 end) ++ ks) nothing
    ∙ append-nil (filter (begins_name block) (range_with_len 0 end)))
    ∙ filled.listed

pub dentry_fault-filled : (block : List ℕ) (end : ℕ) (dentries : List Dentry) → IsFilled block end dentries → end ≤ 214 → dentry_fault block ≡ None
unfolding all_slots
dentry_fault-filled block end dentries filled fits =
    find-none (λ (slot : ℕ). begins_name block slot && not (is_good_dentry block slot)) 0 214
    (λ k low high. elim (cases_lt k end) [
      | inl within ↦ elim (cases_Bool (begins_name block k)) [
        | inl begins ↦
            ap (λ (b : Bool). b && not (is_good_dentry block k)) begins
            ∙ ap not (filled.good k within begins)
        | inr none ↦ ap (λ (b : Bool). b && not (is_good_dentry block k)) none
      ]
      | inr past ↦ ap (λ (b : Bool). b && leb (covered_to block k) k && not (is_good_dentry block k)) (filled.unused k past (omega arith))
    ])
