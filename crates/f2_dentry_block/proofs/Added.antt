-- What a block reads as once a dentry was put into it, before the dentry's slots and in them.
use Rattle.std.proofs.Common.{◌≡◌, ℕ, zero, suc, ◌+◌, ◌*◌, ◌/◌, ◌%◌, ◌^◌, ◌<◌, ◌≤◌, Bool, true, cond, leb, eqb, ◌&&◌, ◌||◌, List, length, get_or, slice_range, refl, ap, ◌∙◌, arith, inl, inr}
use Rattle.std.specs.Int.{bit_at}
use Rattle.std.specs.List.{list_all, range_with_len}
use Rattle.f2_format.specs.Bytes.{number_at}
use Rattle.f2_format.specs.Dentry.{Dentry, begins_name, covered_to, dentry_at, dentry_name_length, dentry_slots, dentry_type, entry_start, is_good_dentry, is_slot_used, name_start, with_dentry, with_slots_used}
use Rattle.f2_format.specs.Packing.{slots_of_name}
use Rattle.f2_format.proofs.BytesLemmas.{number_at-same, slice_range-same}
use Rattle.f2_dentry_block.proofs.Fields.{HasEntry, HasEntry-with_entry, with_entry}
use Rattle.f2_dentry_block.proofs.Ranges.{list_all-same}
use Rattle.f2_dentry_block.proofs.SlotBits.{get_or-with_slots_used, is_slot_used-inside, is_slot_used-outside, length-with_slots_used}

-- a dentry was put into the n slots from this one on: what stands before it is as it was
pub record IsAdded (old new : List ℕ) (slot n : ℕ) (dentry : Dentry) : Type 0 where
  pub old_long : length old ≡ 4096
  pub long : length new ≡ 4096
  pub used_before : (k : ℕ) → k < slot → is_slot_used new k ≡ is_slot_used old k
  pub used_in : (k : ℕ) → slot ≤ k → k < slot + n → is_slot_used new k ≡ true
  pub used_past : (k : ℕ) → slot + n ≤ k → k < 214 → is_slot_used new k ≡ is_slot_used old k
  pub entries : (k : ℕ) → 27 ≤ k → k < 34 + 11 * slot → get_or new k 0 ≡ get_or old k 0
  pub names : (k : ℕ) → 2384 ≤ k → k < 2384 + 8 * slot → get_or new k 0 ≡ get_or old k 0
  pub ino : number_at 4 new (entry_start slot + 4) ≡ dentry.ino
  pub length_field : dentry_name_length new slot ≡ length dentry.name
  pub type : dentry_type new slot ≡ dentry.type
  pub name_bytes : slice_range new (name_start slot) (name_start slot + length dentry.name) ≡ dentry.name

-- bits before the entries are those that the slots were given
used-from : (mid new : List ℕ) (entry name k : ℕ) (dentry : Dentry) → HasEntry mid new entry name dentry → 30 ≤ entry → k < 214 → is_slot_used new k ≡ is_slot_used mid k
used-from mid new entry name k dentry has far small =
    ap (λ (byte : ℕ). eqb (bit_at byte (k % 8)) 1) (has.before (k / 8) (omega arith))

pub IsAdded-with_dentry : (block : List ℕ) (slot : ℕ) (dentry : Dentry) → length block ≡ 4096 → slot + slots_of_name dentry.name ≤ 214 → 1 ≤ length dentry.name
    → length dentry.name ≤ 255 → dentry.ino < 2 ^ 32 → IsAdded block (with_dentry block slot dentry) slot (slots_of_name dentry.name) dentry
IsAdded-with_dentry block slot dentry block_long fits some most ino_fits =
    let n = slots_of_name dentry.name in
    let mid = with_slots_used block slot n in
    let mid_long = length-with_slots_used block slot n in
    let new = with_entry mid (30 + 11 * slot) (2384 + 8 * slot) dentry in
    let has : HasEntry mid new (30 + 11 * slot) (2384 + 8 * slot) dentry =
    HasEntry-with_entry mid (30 + 11 * slot) (2384 + 8 * slot) dentry (omega arith) (omega arith) ino_fits (omega arith) in
    let new_long = has.long in
    let bits : (k : ℕ) → k < 214 → is_slot_used new k ≡ is_slot_used mid k =
    λ k small. used-from mid new (30 + 11 * slot) (2384 + 8 * slot) k dentry has (omega arith) small in
    record {
      old_long = block_long;
      long = omega arith;
      used_before = λ k before. bits k (omega arith) ∙ is_slot_used-outside block slot n k (omega arith) (inl before);
      used_in = λ k low high. bits k (omega arith) ∙ is_slot_used-inside block slot n k (omega arith) low high;
      used_past = λ k past small. bits k small ∙ is_slot_used-outside block slot n k (omega arith) (inr past);
      entries = λ k low high. has.before k (omega arith) ∙ get_or-with_slots_used block slot n k (omega arith);
      names = λ k low high. has.between k (omega arith) high ∙ get_or-with_slots_used block slot n k (omega arith);
      ino = has.ino;
      length_field = has.length_field;
      type = has.type;
      name_bytes = has.name_bytes;
    }

-- an entry before the dentry tells the same length
pub name_length-same : (old new : List ℕ) (slot n k : ℕ) (dentry : Dentry) → IsAdded old new slot n dentry → k < slot
    → dentry_name_length new k ≡ dentry_name_length old k
name_length-same old new slot n k dentry added before =
    number_at-same 2 new old (entry_start k + 8) (entry_start k + 8) (λ i h. added.entries (entry_start k + 8 + i) (omega arith) (omega arith))

-- and the same type
pub type-same : (old new : List ℕ) (slot n k : ℕ) (dentry : Dentry) → IsAdded old new slot n dentry → k < slot → dentry_type new k ≡ dentry_type old k
type-same old new slot n k dentry added before = added.entries (entry_start k + 10) (omega arith) (omega arith)

-- names that begin before the dentry reach as far as they did
pub covered-same : (old new : List ℕ) (slot n k : ℕ) (dentry : Dentry) → IsAdded old new slot n dentry → k ≤ slot → covered_to new k ≡ covered_to old k
unfolding covered_to
covered-same old new slot n zero dentry added before = refl
covered-same old new slot n (suc k) dentry added before =
    let used = added.used_before k (omega arith) in
    let same = covered-same old new slot n k dentry added (omega arith) in
    let size = name_length-same old new slot n k dentry added (omega arith) in
    ap (λ (b : Bool). cond (b && leb (covered_to new k) k) (k + dentry_slots new k) (covered_to new k)) used
    ∙ ap (λ (c : ℕ). cond (is_slot_used old k && leb c k) (k + dentry_slots new k) c) same
    ∙ ap (λ (len : ℕ). cond (is_slot_used old k && leb (covered_to old k) k) (k + (len + 7) / 8) (covered_to old k)) size

-- the same names begin before the dentry
pub begins-same : (old new : List ℕ) (slot n k : ℕ) (dentry : Dentry) → IsAdded old new slot n dentry → k < slot → begins_name new k ≡ begins_name old k
begins-same old new slot n k dentry added before =
    ap (λ (b : Bool). b && leb (covered_to new k) k) (added.used_before k before)
    ∙ ap (λ (c : ℕ). is_slot_used old k && leb c k) (covered-same old new slot n k dentry added (omega arith))

-- a name that ends before the dentry is as good as it was
pub good-same : (old new : List ℕ) (slot n k : ℕ) (dentry : Dentry) → IsAdded old new slot n dentry → k < slot → k + dentry_slots old k ≤ slot
    → is_good_dentry new k ≡ is_good_dentry old k
good-same old new slot n k dentry added before within =
    let size = name_length-same old new slot n k dentry added before in
    let bits = list_all-same (is_slot_used new) (is_slot_used old) k (dentry_slots old k) (λ j low high. added.used_before j (omega arith)) in
    let type = type-same old new slot n k dentry added before in
    let test : ℕ → Bool → ℕ → Bool = λ len all type. leb 1 len && leb len 255 && leb (k + (len + 7) / 8) 214 && all && (eqb type 1 || eqb type 2) in
    ap (λ (len : ℕ). test len (list_all (is_slot_used new) (range_with_len k ((len + 7) / 8))) (dentry_type new k)) size
    ∙ ap (λ (all : Bool). test (dentry_name_length old k) all (dentry_type new k)) bits
    ∙ ap (test (dentry_name_length old k) (list_all (is_slot_used old) (range_with_len k (dentry_slots old k)))) type

-- and it is the same name
pub dentry_at-same : (old new : List ℕ) (slot n k : ℕ) (dentry : Dentry) → IsAdded old new slot n dentry → k < slot → k + dentry_slots old k ≤ slot
    → dentry_at new k ≡ dentry_at old k
dentry_at-same old new slot n k dentry added before within =
    let size = name_length-same old new slot n k dentry added before in
    let len = dentry_name_length old k in
    let type = type-same old new slot n k dentry added before in
    let ino = number_at-same 4 new old (entry_start k + 4) (entry_start k + 4) (λ i h. added.entries (entry_start k + 4 + i) (omega arith) (omega arith)) in
    let old_long = added.old_long in
    let long = added.long in
    let name = slice_range-same new old (name_start k) (name_start k + len) (omega arith) (λ j low high. added.names j (omega arith) (omega arith)) in
    let entry : List ℕ → ℕ → ℕ → Dentry = λ name ino type. record { name = name; ino = ino; type = type } in
    ap (λ (l : ℕ). entry (slice_range new (name_start k) (name_start k + l)) (number_at 4 new (entry_start k + 4)) (dentry_type new k)) size
    ∙ ap (λ (bytes : List ℕ). entry bytes (number_at 4 new (entry_start k + 4)) (dentry_type new k)) name
    ∙ ap (λ (i : ℕ). entry (slice_range old (name_start k) (name_start k + len)) i (dentry_type new k)) ino
    ∙ ap (entry (slice_range old (name_start k) (name_start k + len)) (number_at 4 old (entry_start k + 4))) type
