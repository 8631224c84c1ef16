-- The names that rows have in a directory.
use Rattle.std.proofs.Common.{◌≡◌, ◌≢◌, ◌⊎◌, inl, inr, ℕ, ◌≤◌, ◌==◌, nat_le, ◌&&◌, ◌++◌, Bool, true, false, cond, not, List, [], ◌∷◌, length, IsTrue, refl, sym, ap, ◌∙◌, subst, arith}
use Rattle.std.specs.Prelude.{if◌then◌else◌}
use Rattle.std.specs.List.{filter, flat_map, list_all, sum_by}
use Rattle.std.specs.Ordering.{nat_cmp, eq_by_cmp, is_eq}
use Rattle.std.specs.Cmp.{Equal-is, tied_itself}
use Rattle.std.specs.Cmp.Lexicographic.{slice_cmp, nat_list_cmp_total}
use Rattle.std.specs.FinMap.{nat_cmp-IsAntisymmetric, slice_cmp-IsAntisymmetric}
use Rattle.std.specs.FinSet as set
use Rattle.std.proofs.lemmas.Bool.{leb-true}
use Rattle.std.proofs.lemmas.List.{length-map}
use Rattle.std.proofs.lemmas.List.Sums.{sum_by-cons}
use Rattle.f2_format.specs.Packing.{slots_of_name}
use Rattle.f2_model.specs.Rising.{rising}
use Rattle.f2_model.specs.Tree.{ROOT, names_of, names_under}
use Rattle.f2_model.specs.Names.{is_good_name, is_name_byte, is_dots}
use Rattle.f2_model.specs.declared.rows.Row.{Row}
use Rattle.f2_model.proofs.RisingLemmas.{rises, contains-rising}
use Rattle.f2_laws.proofs.Passed.{both_true}
use Rattle.f2_laid_laws.proofs.Members.{IsIn, in_either, from_map, from_filter, from_any, in_any}
use Rattle.f2_laid_laws.proofs.Differ.{rising_differ, no_more}
use Rattle.f2_plain_check.specs.Blocks.{HasNameLength}
use Rattle.f2_flat.specs.Kept.{slots_of_row}
use Rattle.f2_flat.proofs.Sums.{sum_mapped, sum_filtered, sum_few}
use Rattle.f2_flat.proofs.Values.{each_in}

few_filter : {X : Type 0} (p : X → Bool) (xs : List X) → length (filter p xs) ≤ length xs
few_filter p [] = omega arith
few_filter p (x ∷ xs) = by_test (p x) (few_filter p xs)
  where
    by_test : (b : Bool) → length (filter p xs) ≤ length xs → length (cond b (x ∷ filter p xs) (filter p xs)) ≤ length (x ∷ xs)
    by_test true rest = omega (arith, rest)
    by_test false rest = omega (arith, rest)

names_few : (rows : List Row) → length (flat_map names_of rows) ≤ length rows
names_few [] = omega arith
names_few (row ∷ rows) = by_root (row.ino == ROOT) (names_few rows)
  where
    by_root : (b : Bool) → length (flat_map names_of rows) ≤ length rows → length ((if b then [] else ((row.parent, row.name) ∷ [])) ++ flat_map names_of rows) ≤ length (row ∷ rows)
    by_root true rest = omega (arith, rest)
    by_root false rest = omega (arith, rest)

pub under_few : (rows : List Row) (directory : ℕ) → length (names_under rows directory) ≤ length rows
under_few rows directory =
    let kept = filter (λ (at : ℕ × List ℕ). at.0 == directory) (flat_map names_of rows) in
    let same : length (names_under rows directory) ≡ length kept = length-map kept (λ (at : ℕ × List ℕ). at.1) in
    let fewer : length kept ≤ length (flat_map names_of rows) = few_filter _ _ in
    omega (arith, same, fewer, names_few rows)

-- the slots of a name in a directory
slots_at : ℕ × List ℕ → ℕ
slots_at at = slots_of_name at.1

names_slots : (rows : List Row) → sum_by slots_at (flat_map names_of rows) ≤ sum_by slots_of_row rows
unfolding slots_at
names_slots [] = omega arith
names_slots (row ∷ rows) = by_root (row.ino == ROOT) (names_slots rows)
  where
    by_root : (b : Bool) → sum_by slots_at (flat_map names_of rows) ≤ sum_by slots_of_row rows → sum_by slots_at ((if b then [] else ((row.parent, row.name) ∷ [])) ++ flat_map names_of rows) ≤ sum_by slots_of_row (row ∷ rows)
    by_root true rest = let sum = sum_by-cons slots_of_row row rows in omega (arith, rest, sum)
    by_root false rest =
        let sum = sum_by-cons slots_of_row row rows in
        let more = sum_by-cons slots_at (row.parent, row.name) (flat_map names_of rows) in
        omega (arith, rest, sum, more)

pub under_slots : (rows : List Row) (directory : ℕ) → sum_by slots_of_name (names_under rows directory) ≤ sum_by slots_of_row rows
unfolding slots_at
under_slots rows directory =
    let kept = filter (λ (at : ℕ × List ℕ). at.0 == directory) (flat_map names_of rows) in
    let same : sum_by slots_of_name (names_under rows directory) ≡ sum_by slots_at kept = sum_mapped (λ (at : ℕ × List ℕ). at.1) slots_of_name kept in
    let fewer : sum_by slots_at kept ≤ sum_by slots_at (flat_map names_of rows) = sum_filtered _ slots_at (flat_map names_of rows) in
    omega (arith, same, fewer, names_slots rows)

-- a name is that of a row which isn't the root
named_by : (rows : List Row) (at : ℕ × List ℕ) → IsIn at (flat_map names_of rows) → (row : Row) × IsIn row rows × (row.ino ≢ ROOT) × (at.1 ≡ row.name)
named_by [] at there = absurd there
named_by (row ∷ rows) at there = by_part (named_by rows at) (in_either at (names_of row) (flat_map names_of rows) there)
  where
    own : (b : Bool) → (row.ino == ROOT) ≡ b → IsIn at (if b then [] else ((row.parent, row.name) ∷ [])) → (one : Row) × IsIn one (row ∷ rows) × (one.ino ≢ ROOT) × (at.1 ≡ one.name)
    own true is here = absurd here
    own false is (inl same) = (row, inl refl, (let other : row.ino ≢ ROOT = λ e. grind (arith, is, e) in other), ap (λ (a : ℕ × List ℕ). a.1) same)
    own false is (inr none) = absurd none

    by_part : (IsIn at (flat_map names_of rows) → (one : Row) × IsIn one rows × (one.ino ≢ ROOT) × (at.1 ≡ one.name)) → IsIn at (names_of row) ⊎ IsIn at (flat_map names_of rows) → (one : Row) × IsIn one (row ∷ rows) × (one.ino ≢ ROOT) × (at.1 ≡ one.name)
    by_part rest (inl here) = own (row.ino == ROOT) refl here
    by_part more (inr later) = let rest = more later in (rest.0, inr rest.1, rest.2, rest.3)

pub under_by : (rows : List Row) (directory : ℕ) (name : List ℕ) → IsIn name (names_under rows directory) → (row : Row) × IsIn row rows × (row.ino ≢ ROOT) × (name ≡ row.name)
under_by rows directory name there =
    let from = from_map (λ (at : ℕ × List ℕ). at.1) name (filter (λ (at : ℕ × List ℕ). at.0 == directory) (flat_map names_of rows)) there in
    let kept = from_filter (λ (at : ℕ × List ℕ). at.0 == directory) from.0 (flat_map names_of rows) from.1 in
    let by = named_by rows from.0 kept.1 in
    (by.0, by.1, by.2, sym from.2 ∙ by.3)

-- the names in their order are among the names
pub from_rising : (names : List (List ℕ)) (name : List ℕ) → IsIn name (rising (set.from_list {R = slice_cmp nat_cmp} names)) → IsIn name names
from_rising names name there =
    let members = set.from_list {R = slice_cmp nat_cmp} names in
    let tied : eq_by_cmp (slice_cmp nat_cmp) name name ≡ true = ap is_eq (tied_itself nat_list_cmp_total name) in
    let contained : set.contains members name ≡ true = contains-rising nat_list_cmp_total members name ∙ in_any (eq_by_cmp (slice_cmp nat_cmp) name) name (rising members) tied there in
    let found = from_any (eq_by_cmp (slice_cmp nat_cmp) name) names (sym (set.contains-from_list nat_list_cmp_total names name) ∙ contained) in
    let same : name ≡ found.0 = slice_cmp-IsAntisymmetric nat_cmp-IsAntisymmetric name found.0 ((Equal-is (slice_cmp nat_cmp name found.0)).0 found.2) in
    subst (λ n. IsIn n names) (sym same) found.1

-- they are no more than the names, and take no more slots
pub rising_few : (names : List (List ℕ)) → length (rising (set.from_list {R = slice_cmp nat_cmp} names)) ≤ length names
rising_few names =
    let members = set.from_list {R = slice_cmp nat_cmp} names in
    no_more (rising members) names (rising_differ nat_list_cmp_total (rising members) (rises members)) (each_in (λ name. IsIn name names) (rising members) (from_rising names))

pub rising_slots : (names : List (List ℕ)) → sum_by slots_of_name (rising (set.from_list {R = slice_cmp nat_cmp} names)) ≤ sum_by slots_of_name names
rising_slots names =
    let members = set.from_list {R = slice_cmp nat_cmp} names in
    sum_few slots_of_name (rising members) names (rising_differ nat_list_cmp_total (rising members) (rises members)) (each_in (λ name. IsIn name names) (rising members) (from_rising names))

pub name_length : (name : List ℕ) → IsTrue (is_good_name name) → HasNameLength name
name_length name good =
    let parts = both_true (nat_le 1 (length name) && nat_le (length name) 255 && list_all is_name_byte name) (not (is_dots name)) good in
    let front = both_true (nat_le 1 (length name) && nat_le (length name) 255) (list_all is_name_byte name) parts.0 in
    let sizes = both_true (nat_le 1 (length name)) (nat_le (length name) 255) front.0 in
    (leb-true 1 (length name) sizes.0, leb-true (length name) 255 sizes.1)
