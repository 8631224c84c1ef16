-- The addresses of files are put among others, one file after another.
use Rattle.std.proofs.Common.{◌≡◌, ◌≢◌, inl, inr, ℕ, ◌+◌, ◌<◌, ◌≤◌, ◌==◌, not, Bool, true, false, cond, List, length, take, get_or, sym, ap, subst, ◌∙◌, arith, All}
use Rattle.std.specs.List.{count_by, sum_by}
use Rattle.std.specs.FinSet as set
use Rattle.std.specs.FinSet.{len-insert}
use Rattle.std.specs.Cmp.{nat_cmp_total}
use Rattle.std.proofs.lemmas.Bool.{cases_eq}
use Rattle.std.proofs.lemmas.List.Elements.{All-more, All-weaker}
use Rattle.std.proofs.lemmas.List.Sums.{count_by_more_yes, count_by_more_no, sum_by_more}
use Rattle.f2_bitset.specs.Numbers.{Numbers}
use Rattle.f2_bitset.proofs.Members.{contains-insert_same, contains-insert_other}
use Rattle.f2_laid.specs.Laid.{page_at, pages_of_place}
use Rattle.f2_laid.specs.declared.places.Place.{Place}
use Rattle.f2_plain_plan.specs.Pages.{with_member}
use Rattle.f2_plain_plan.specs.Zones.{InsertsPages}

-- one number more
pub len-with_member : (numbers : Numbers) (one : ℕ) → set.len (with_member numbers one).members ≤ set.len numbers.members + 1
len-with_member numbers one = go (set.contains numbers.members one) (len-insert nat_cmp_total numbers.members one)
  where
    go : (b : Bool) → set.len (set.insert numbers.members one) ≡ cond b (set.len numbers.members) (set.len numbers.members + 1) → set.len (set.insert numbers.members one) ≤ set.len numbers.members + 1
    go true e = omega (arith, e)
    go false e = omega (arith, e)

pub len-with_member_new : (numbers : Numbers) (one : ℕ) → set.contains numbers.members one ≡ false → set.len (with_member numbers one).members ≡ set.len numbers.members + 1
len-with_member_new numbers one new = len-insert nat_cmp_total numbers.members one ∙ ap (λ b. cond b (set.len numbers.members) (set.len numbers.members + 1)) new

pub still-with_member : (numbers : Numbers) (one at : ℕ) → set.contains numbers.members at ≡ true → set.contains (with_member numbers one).members at ≡ true
still-with_member numbers one at h = elim (cases_eq at one) [
  | inl e ↦ subst (λ p. set.contains (with_member numbers one).members p ≡ true) (sym e) (contains-insert_same numbers.members one)
  | inr ne ↦ contains-insert_other numbers.members one at ne ∙ h
]

-- the inodes of the first files are among the numbers
pub record NodesSoFar (places : List Place) (end : ℕ) (numbers after : Numbers) : Type 0 where
  pub first : after.first ≡ numbers.first
  pub count : after.count ≡ numbers.count
  pub few : set.len after.members ≤ set.len numbers.members + end
  pub has : All (λ (place : Place). set.contains after.members place.at ≡ true) (take end places)

pub node_more : (places : List Place) (end : ℕ) (numbers after : Numbers) (place : Place) → end < length places → get_or places end place ≡ place → NodesSoFar places end numbers after
    → NodesSoFar places (end + 1) numbers (with_member after place.at)
node_more places end numbers after place low is so_far =
    record {
      first = so_far.first;
      count = so_far.count;
      few = let h = len-with_member after place.at in let f = so_far.few in omega (arith, h, f);
      has = All-more (λ (other : Place). set.contains (with_member after place.at).members other.at ≡ true) places end place low
          (All-weaker (λ (other : Place). set.contains after.members other.at ≡ true) (λ (other : Place). set.contains (with_member after place.at).members other.at ≡ true) (λ other h. still-with_member after place.at other.at h) (take end places) so_far.has)
          (subst (λ (other : Place). set.contains (with_member after place.at).members other.at ≡ true) (sym is) (contains-insert_same after.members place.at));
    }

-- whether there is a block
abbrev pub is_there : ℕ → Bool
is_there at = not (at == 0)

pub is_there-true : (at : ℕ) → at ≢ 0 → is_there at ≡ true
is_there-true at ne = grind arith

pub is_there-false : (at : ℕ) → at ≡ 0 → is_there at ≡ false
is_there-false at e = ap is_there e

-- the first pages of a file are among the numbers
pub record InsertsSoFar (place : Place) (end : ℕ) (numbers after : Numbers) : Type 0 where
  pub first : after.first ≡ numbers.first
  pub count : after.count ≡ numbers.count
  pub few : set.len after.members ≤ set.len numbers.members + count_by is_there (take end place.addresses)
  pub kept : (at : ℕ) → set.contains numbers.members at ≡ true → set.contains after.members at ≡ true
  pub has : (page : ℕ) → page < end → page_at place page ≢ 0 → set.contains after.members (page_at place page) ≡ true

pub page_more : (place : Place) (end : ℕ) (numbers after : Numbers) → end < length place.addresses → page_at place end ≢ 0 → InsertsSoFar place end numbers after
    → InsertsSoFar place (end + 1) numbers (with_member after (page_at place end))
page_more place end numbers after low ne so_far =
    record {
      first = so_far.first;
      count = so_far.count;
      few = let h = len-with_member after (page_at place end) in let f = so_far.few in let g = count_by_more_yes is_there place.addresses end 0 low (is_there-true (page_at place end) ne) in omega (arith, h, f, g);
      kept = λ at h. still-with_member after (page_at place end) at (so_far.kept at h);
      has = λ page h there. elim (cases_eq page end) [
        | inl e ↦ subst (λ p. set.contains (with_member after (page_at place end)).members (page_at place p) ≡ true) (sym e) (contains-insert_same after.members (page_at place end))
        | inr other ↦ still-with_member after (page_at place end) (page_at place page) (so_far.has page (omega arith) there)
      ];
    }

pub page_none : (place : Place) (end : ℕ) (numbers after : Numbers) → end < length place.addresses → page_at place end ≡ 0 → InsertsSoFar place end numbers after
    → InsertsSoFar place (end + 1) numbers after
page_none place end numbers after low e so_far =
    record {
      first = so_far.first;
      count = so_far.count;
      few = let f = so_far.few in let g = count_by_more_no is_there place.addresses end 0 low (is_there-false (page_at place end) e) in omega (arith, f, g);
      kept = so_far.kept;
      has = λ page h there. elim (cases_eq page end) [
        | inl same ↦ absurd (there (ap (page_at place) same ∙ e))
        | inr other ↦ so_far.has page (omega arith) there
      ];
    }

-- the pages of the first files are among the numbers
pub record PagesSoFar (places : List Place) (end : ℕ) (numbers after : Numbers) : Type 0 where
  pub first : after.first ≡ numbers.first
  pub count : after.count ≡ numbers.count
  pub few : set.len after.members ≤ set.len numbers.members + sum_by pages_of_place (take end places)
  pub has : All (λ (place : Place). (page : ℕ) → page_at place page ≢ 0 → set.contains after.members (page_at place page) ≡ true) (take end places)

pub file_more : (places : List Place) (end : ℕ) (numbers after later : Numbers) (place : Place) → end < length places → get_or places end place ≡ place → PagesSoFar places end numbers after
    → InsertsPages place after later → PagesSoFar places (end + 1) numbers later
file_more places end numbers after later place low is so_far inserts =
    record {
      first = inserts.first ∙ so_far.first;
      count = inserts.count ∙ so_far.count;
      few = let h = inserts.few in let f = so_far.few in let g = sum_by_more pages_of_place places end place low ∙ ap (λ p. sum_by pages_of_place (take end places) + pages_of_place p) is in omega (arith, h, f, g);
      has = All-more P places end place low
          (All-weaker (λ (other : Place). (page : ℕ) → page_at other page ≢ 0 → set.contains after.members (page_at other page) ≡ true) P (λ other h page there. inserts.kept (page_at other page) (h page there)) (take end places) so_far.has)
          (subst P (sym is) inserts.has);
    }
  where
    P : Place → Type 0
    P other = (page : ℕ) → page_at other page ≢ 0 → set.contains later.members (page_at other page) ≡ true
