-- What is found of a set beyond a part of it, and what pages need beyond others.
use Rattle.std.specs.Prelude.{◌≡◌, ℕ, ◌+◌, ◌≤◌, ◌⊎◌, Bool, true, not, ◌&&◌, ◌||◌, ◌==◌, nat_lt, if◌then◌else◌, List}
use Rattle.std.specs.List.{filter, list_any}
use Rattle.std.specs.Ordering.{nat_cmp, eq_by_cmp}
use Rattle.std.specs.FinMap as map
use Rattle.std.specs.FinSet as set
use Rattle.f2_files.specs.Cuts.{Addressed}
use Rattle.f2_model.specs.Fallback.{Both, sum_of}
use Rattle.f2_model.specs.declared.rows.Row.{Row}
use Rattle.f2_held.specs.Recovered.{size_of_file}

abbrev pub Numbers : Type 0
Numbers = set.FinSet nat_cmp

-- whether a number is one of a list
abbrev pub is_one : ℕ → List ℕ → Bool
is_one n xs = list_any (eq_by_cmp nat_cmp n) xs

-- all members of a set are those of a part of it and those that were found, and none of those is in the part
pub record IsBeyond (part found all : Numbers) : Type 0 where
  pub members : (n : ℕ) → set.contains all n ≡ (set.contains part n || set.contains found n)
  pub count : set.len all ≡ set.len part + set.len found

-- pages before and after a page that are nearest to it among some, and 0 where there are none
pub record IsNear (pages : List ℕ) (page before after : ℕ) : Type 0 where
  pub before_in : (before ≡ 0) ⊎ (is_one before pages ≡ true)
  pub after_in : (after ≡ 0) ⊎ (is_one after pages ≡ true)
  pub sides : (other : ℕ) → is_one other pages ≡ true → ((other ≤ before) × (before ≤ page)) ⊎ ((page ≤ after) × (after ≤ other))

-- a node that is found is noted, unless it is none or stands on one of two ways
abbrev pub noted : Numbers → ℕ → ℕ → ℕ → Numbers
noted found node before after = if not (node == 0) && not (node == before) && not (node == after) then set.insert found node else found

-- the pages before a number, and those from it on
abbrev pub pages_below : Addressed → ℕ → List ℕ
pages_below pages end = filter (λ page. nat_lt page end) (map.keys pages)

abbrev pub pages_from : Addressed → ℕ → List ℕ
pages_from pages end = filter (λ page. not (nat_lt page end)) (map.keys pages)

-- one file's row takes this much more than another's
abbrev pub IsMore : Row → Row → Both → Type 0
IsMore more less size = size_of_file more ≡ sum_of (size_of_file less) size

-- the set of the numbers of a list
abbrev pub listed : List ℕ → Numbers
listed xs = set.from_list {R = nat_cmp} xs
