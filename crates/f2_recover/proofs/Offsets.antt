-- Direct nodes by their numbers, and the pages whose addresses stand in them.
use Rattle.std.proofs.Common.{◌≡◌, ℕ, ◌+◌, ◌-◌, ◌*◌, ◌/◌, ◌%◌, ◌<◌, ◌≤◌, Some, ap, ◌∙◌, arith}
use Rattle.f2_format.specs.Offsets.{page_limit, direct_limit, direct_of, direct_number, direct_slot, nth_direct}
use Rattle.f2_recover.specs.Seeing.{IsIndirect}
use Rattle.f2_recover.proofs.Ups.{first_names, second_names, low_names}
use Rattle.f2_recover.proofs.Ways.{direct_of-number, direct_in_first, direct_in_second, direct_in_double}

-- the pages of a direct node
pub page_of : (number slot : ℕ) → number < direct_limit → slot < 1018 → 923 + 1018 * number + slot < page_limit
page_of number slot within small = omega (arith, within, small)

pub direct_at : (number slot : ℕ) → number < direct_limit → slot < 1018 → direct_of (923 + 1018 * number + slot) ≡ Some (nth_direct number)
direct_at number slot within small =
    let is : direct_number (923 + 1018 * number + slot) ≡ number = omega (arith, small) in
    direct_of-number (923 + 1018 * number + slot) (omega arith) (page_of number slot within small) ∙ ap (λ n. Some (nth_direct n)) is

pub slot_at : (number slot : ℕ) → slot < 1018 → direct_slot (923 + 1018 * number + slot) ≡ slot
slot_at number slot small = omega (arith, small)

-- a page within some direct nodes is one of theirs
pub record IsIn (page first count : ℕ) : Type 0 where
  pub number : ℕ
  pub least : first ≤ number
  pub most : number < first + count
  pub direct : direct_of page ≡ Some (nth_direct number)

pub is_in : (page first count : ℕ) → first + count ≤ direct_limit → 923 + 1018 * first ≤ page → page < 923 + 1018 * (first + count) → IsIn page first count
is_in page first count within least most = record {
  number = direct_number page;
  least = omega (arith, least);
  most = omega (arith, most, least);
  direct = direct_of-number page (omega (arith, least)) (omega (arith, most, within));
}

-- the indirect nodes, and the numbers of the direct nodes behind them
pub first_indirect_is : IsIndirect 3 2
first_indirect_is = record {
  some = λ z. omega arith;
  small = omega arith;
  within = omega arith;
  names = λ slot small. first_names slot;
  direct = λ slot small. direct_in_first (2 + slot) (omega arith) (omega (arith, small)) ∙ omega arith;
}

pub second_indirect_is : IsIndirect 1022 1020
second_indirect_is = record {
  some = λ z. omega arith;
  small = omega arith;
  within = omega arith;
  names = λ slot small. second_names slot;
  direct = λ slot small. direct_in_second (1020 + slot) (omega arith) (omega (arith, small)) ∙ omega arith;
}

pub low_indirect_is : (x : ℕ) → x < 1018 → IsIndirect (2042 + x * 1019) (2038 + x * 1018)
low_indirect_is x within = record {
  some = λ z. omega arith;
  small = omega (arith, within);
  within = omega (arith, within);
  names = λ slot small. low_names x slot within;
  direct = λ slot small. direct_in_double (2038 + x * 1018 + slot) (omega arith) ∙ low_direct slot small;
}
  where
    low_direct : (slot : ℕ) → slot < 1018 → 2042 + (2038 + x * 1018 + slot - 2038) / 1018 * 1019 + 1 + (2038 + x * 1018 + slot - 2038) % 1018 ≡ 2042 + x * 1019 + 1 + slot
    low_direct slot small =
        let whole : (2038 + x * 1018 + slot - 2038) / 1018 ≡ x = omega (arith, small) in
        let rest : (2038 + x * 1018 + slot - 2038) % 1018 ≡ slot = omega (arith, small) in
        omega (arith, whole, rest)
