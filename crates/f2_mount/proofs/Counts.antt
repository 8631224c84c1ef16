-- How many of the first so many blocks of a node log are marked.
use Rattle.std.proofs.Common.{◌≡◌, ℕ, ◌+◌, ◌<◌, ◌≤◌, true, false, List, length, take, get_or, sym, ap, ◌∙◌, arith}
use Rattle.std.specs.List.{count_by, range_with_len}
use Rattle.std.proofs.lemmas.List.{length-take-le, take_all}
use Rattle.std.proofs.lemmas.List.FromFn.{get_or-range_with_len, length-range_with_len}
use Rattle.std.proofs.lemmas.List.Sums.{count_by-le-length, count_by_more_yes, count_by_more_no, length-filter}
use Rattle.f2_image.specs.Chains.{Logged, block_in, is_marked, marked_places}

module _ (log : List Logged) where
  abbrev pub marked_to : ℕ → ℕ
  marked_to place = count_by (λ p. is_marked (block_in log p)) (take place (range_with_len 0 (length log)))

  in_range : (place : ℕ) → place < length log → place < length (range_with_len 0 (length log))
  in_range place within = omega (arith, within, length-range_with_len 0 (length log))

  stands_there : (place : ℕ) → place < length log → get_or (range_with_len 0 (length log)) place 0 ≡ place
  stands_there place within = omega (arith, get_or-range_with_len 0 (length log) place 0 within)

  pub one_more : (place : ℕ) → place < length log → is_marked (block_in log place) ≡ true → marked_to (place + 1) ≡ marked_to place + 1
  one_more place within is =
      count_by_more_yes (λ p. is_marked (block_in log p)) (range_with_len 0 (length log)) place 0 (in_range place within) (ap (λ p. is_marked (block_in log p)) (stands_there place within) ∙ is)

  pub no_more : (place : ℕ) → place < length log → is_marked (block_in log place) ≡ false → marked_to (place + 1) ≡ marked_to place
  no_more place within isnt =
      count_by_more_no (λ p. is_marked (block_in log p)) (range_with_len 0 (length log)) place 0 (in_range place within) (ap (λ p. is_marked (block_in log p)) (stands_there place within) ∙ isnt)

  -- they aren't more than the blocks
  pub few : (place : ℕ) → place ≤ length log → marked_to place ≤ place
  few place within =
      let long : place ≤ length (range_with_len 0 (length log)) = omega (arith, within, length-range_with_len 0 (length log)) in
      omega (arith, count_by-le-length (λ p. is_marked (block_in log p)) (take place (range_with_len 0 (length log))), length-take-le place (range_with_len 0 (length log)) long)

  -- in the end they are all marked blocks
  pub all : (place : ℕ) → length log ≤ place → marked_to place ≡ length (marked_places log)
  all place whole =
      let long : length (range_with_len 0 (length log)) ≤ place = omega (arith, whole, length-range_with_len 0 (length log)) in
      ap (count_by (λ p. is_marked (block_in log p))) (take_all place (range_with_len 0 (length log)) long)
      ∙ sym (length-filter (λ p. is_marked (block_in log p)) (range_with_len 0 (length log)))
