-- Rows are listed depth by depth.
use Rattle.std.proofs.Common.{◌≡◌, ◌≢◌, ◌⊎◌, inl, inr, ℕ, ◌+◌, ◌<◌, ◌≤◌, List, [], ◌∷◌, ◌++◌, length, refl, sym, ap, ◌∙◌, subst, arith}
use Rattle.std.specs.Prelude.{Some, IsSome, slice_index_or}
use Rattle.std.specs.FinMap as map
use Rattle.std.proofs.lemmas.Bool.{cases_lt}
use Rattle.std.proofs.lemmas.List.{get_or_append_left, length-append}
use Rattle.std.proofs.Math.Seq.{get_or-append_seam}
use Rattle.f2_model.specs.Tree.{ROOT}
use Rattle.f2_overlay.proofs.Maps.{one_some}
use Rattle.f2_takeover.specs.Orders.{Taken, HasRow, IsRooted, IsAmongFirst, AreApart, IsInOrder, AreInos, IsListed, AreListedTo}
use Rattle.f2_takeover.specs.declared.rows.TakenRow.{TakenRow}

module _ (rows : Taken) (inos : List ℕ) where
  -- one of two rows of an ino is the other
  same_row : (ino other : ℕ) (a b : TakenRow) → ino ≡ other → map.get rows ino ≡ Some a → map.get rows other ≡ Some b → a ≡ b
  same_row ino other a b same at there = one_some a b (sym at ∙ ap (map.get rows) same ∙ there)

  pub listed_none : (order : List ℕ) → order ≡ [] → AreListedTo rows inos 0 0 order
  listed_none order empty = record {
    there = λ k low. absurd (none k low);
    all = λ ino row there is. absurd (unlisted row ino is);
    apart = λ j k low small same. absurd (none j low);
    rising = λ j k a b up low at there. absurd (none k low);
  }
    where
      none : (k : ℕ) → k < length order → ⊥
      none k low = let small : k < 0 = subst (λ (o : List ℕ). k < length o) empty low in omega (arith, small)

      unlisted : (row : TakenRow) (ino : ℕ) → IsListed inos 0 0 ino row → ⊥
      unlisted row ino (inl less) = omega (arith, less)
      unlisted row ino (inr is) = let low = is.1.1.0 in omega (arith, low)

  module _ (depth count : ℕ) (old new : List ℕ) (to : AreListedTo rows inos depth count old) where
    more : (ino : ℕ) (row : TakenRow) → IsListed inos depth count ino row → IsListed inos depth (count + 1) ino row
    more ino row (inl less) = inl less
    more ino row (inr is) = let low = is.1.1.0 in inr (is.0, (is.1.0, (omega (arith, low), is.1.1.1)))

    -- of what is listed with one ino more, that ino is new
    less : (ino : ℕ) (row : TakenRow) → IsListed inos depth (count + 1) ino row → IsListed inos depth count ino row ⊎ ((row.depth ≡ depth) × (slice_index_or inos count 0 ≡ ino))
    less ino row (inl low) = inl (inl low)
    less ino row (inr is) = by (cases_lt is.1.0 count)
      where
        by : (is.1.0 < count) ⊎ (count ≤ is.1.0) → IsListed inos depth count ino row ⊎ ((row.depth ≡ depth) × (slice_index_or inos count 0 ≡ ino))
        by (inl low) = inl (inr (is.0, (is.1.0, (low, is.1.1.1))))
        by (inr high) =
            let within = is.1.1.0 in
            let last : count ≡ is.1.0 = omega (arith, high, within) in
            inr (is.0, ap (λ n. slice_index_or inos n 0) last ∙ is.1.1.1)

    -- the next ino isn't listed
    pub listed_passed : ((row : TakenRow) → map.get rows (slice_index_or inos count 0) ≡ Some row → row.depth ≡ depth → ⊥) → new ≡ old → AreListedTo rows inos depth (count + 1) new
    listed_passed other same = subst (AreListedTo rows inos depth (count + 1)) (sym same) (record {
      there = λ k low. let has = to.there k low in record { row = has.row; there = has.there; is = more (slice_index_or old k 0) has.row has.is };
      all = λ ino row there is. all ino row there (less ino row is);
      apart = to.apart;
      rising = to.rising;
    })
      where
        all : (ino : ℕ) (row : TakenRow) → map.get rows ino ≡ Some row → IsListed inos depth count ino row ⊎ ((row.depth ≡ depth) × (slice_index_or inos count 0 ≡ ino)) → IsAmongFirst old (length old) ino
        all ino row there (inl was) = to.all ino row there was
        all ino row there (inr is) = absurd (other row (ap (map.get rows) is.1 ∙ there) is.0)

    -- the next ino is listed
    module _ (apart : AreApart inos) (within : count < length inos) (row : TakenRow) (there : map.get rows (slice_index_or inos count 0) ≡ Some row) (is : row.depth ≡ depth) (put : new ≡ old ++ (slice_index_or inos count 0 ∷ [])) where
      abbrev ino : ℕ
      ino = slice_index_or inos count 0

      abbrev at : ℕ → ℕ
      at k = slice_index_or new k 0

      longer : length new ≡ length old + 1
      longer = ap length put ∙ length-append old (ino ∷ [])

      kept : (k : ℕ) → k < length old → at k ≡ slice_index_or old k 0
      kept k low = ap (λ (o : List ℕ). slice_index_or o k 0) put ∙ get_or_append_left old (ino ∷ []) 0 k low

      last : (k : ℕ) → length old ≡ k → at k ≡ ino
      last k end = ap (λ (o : List ℕ). slice_index_or o k 0) put ∙ ap (slice_index_or (old ++ (ino ∷ [])) k) refl ∙ subst (λ n. slice_index_or (old ++ (ino ∷ [])) n 0 ≡ ino) end (get_or-append_seam old ino [] 0)

      -- a place is an old one or the last one
      places : (k : ℕ) → k < length new → (k < length old) ⊎ (length old ≡ k)
      places k low = by (cases_lt k (length old))
        where
          by : (k < length old) ⊎ (length old ≤ k) → (k < length old) ⊎ (length old ≡ k)
          by (inl small) = inl small
          by (inr high) = let small : k < length old + 1 = subst (λ n. k < n) longer low in inr (omega (arith, high, small))

      -- no old place has the ino
      fresh : (k : ℕ) → k < length old → slice_index_or old k 0 ≡ ino → ⊥
      fresh k low same = by (to.there k low)
        where
          by_case : (other : TakenRow) → other ≡ row → IsListed inos depth count (slice_index_or old k 0) other → ⊥
          by_case other one (inl small) = let deep : other.depth ≡ depth = ap (λ (r : TakenRow). r.depth) one ∙ is in omega (arith, small, deep)
          by_case other one (inr found) =
              let small = found.1.1.0 in
              let equal : found.1.0 ≡ count = apart found.1.0 count (omega (arith, small, within)) within (found.1.1.1 ∙ same) in
              omega (arith, small, equal)

          by : HasRow rows (slice_index_or old k 0) (IsListed inos depth count (slice_index_or old k 0)) → ⊥
          by has = by_case has.row (same_row (slice_index_or old k 0) ino has.row row same has.there there) has.is

      pub listed_pushed : AreListedTo rows inos depth (count + 1) new
      listed_pushed = record {
        there = λ k low. found k (places k low);
        all = λ other told at is. all other told at (less other told is);
        apart = λ j k low small same. differ j k (places j low) (places k small) same;
        rising = λ j k a b up low at below. rising j k a b up (places k low) at below;
      }
        where
          found : (k : ℕ) → (k < length old) ⊎ (length old ≡ k) → HasRow rows (at k) (IsListed inos depth (count + 1) (at k))
          found k (inl low) =
              let has = to.there k low in
              subst (λ n. HasRow rows n (IsListed inos depth (count + 1) n)) (sym (kept k low)) (record { row = has.row; there = has.there; is = more (slice_index_or old k 0) has.row has.is })
          found k (inr end) =
              subst (λ n. HasRow rows n (IsListed inos depth (count + 1) n)) (sym (last k end)) (record { row = row; there = there; is = inr (is, (count, (omega arith, refl))) })

          all : (other : ℕ) (told : TakenRow) → map.get rows other ≡ Some told → IsListed inos depth count other told ⊎ ((told.depth ≡ depth) × (ino ≡ other)) → IsAmongFirst new (length new) other
          all other told there (inl was) =
              let place = to.all other told there was in
              let low = place.1.0 in
              (place.0, (subst (λ n. place.0 < n) (sym longer) (omega (arith, low)), kept place.0 place.1.0 ∙ place.1.1))
          all other told there (inr own) = (length old, (subst (λ n. length old < n) (sym longer) (omega arith), last (length old) refl ∙ own.1))

          differ : (j k : ℕ) → (j < length old) ⊎ (length old ≡ j) → (k < length old) ⊎ (length old ≡ k) → at j ≡ at k → j ≡ k
          differ j k (inl low) (inl small) same = to.apart j k low small (sym (kept j low) ∙ same ∙ kept k small)
          differ j k (inl low) (inr end) same = absurd (fresh j low (sym (kept j low) ∙ same ∙ last k end))
          differ j k (inr end) (inl small) same = absurd (fresh k small (sym (kept k small) ∙ sym same ∙ last j end))
          differ j k (inr end) (inr top) same = sym end ∙ top

          rising : (j k : ℕ) (a b : TakenRow) → j ≤ k → (k < length old) ⊎ (length old ≡ k) → map.get rows (at j) ≡ Some a → map.get rows (at k) ≡ Some b → a.depth ≤ b.depth
          rising j k a b up (inl low) first second =
              let before : j < length old = omega (arith, up, low) in
              to.rising j k a b up low (ap (map.get rows) (sym (kept j before)) ∙ first) (ap (map.get rows) (sym (kept k low)) ∙ second)
          rising j k a b up (inr end) first second =
              let deep : b.depth ≡ depth = ap (λ (r : TakenRow). r.depth) (same_row (at k) ino b row (last k end) second there) ∙ is in
              by deep (cases_lt j (length old))
            where
              shallow : (other : TakenRow) (n : ℕ) → IsListed inos depth count n other → other.depth ≤ depth
              shallow other n (inl small) = omega (arith, small)
              shallow other n (inr is) = let deep = is.0 in omega (arith, deep)

              by : b.depth ≡ depth → (j < length old) ⊎ (length old ≤ j) → a.depth ≤ b.depth
              by deep (inl low) =
                  let has = to.there j low in
                  let one : has.row ≡ a = same_row (slice_index_or old j 0) (at j) has.row a (sym (kept j low)) has.there first in
                  let small : a.depth ≤ depth = subst (λ (r : TakenRow). r.depth ≤ depth) one (shallow has.row (slice_index_or old j 0) has.is) in
                  omega (arith, small, deep)
              by deep (inr high) =
                  let here : length old ≡ j = omega (arith, high, up, end) in
                  let one : a.depth ≡ depth = ap (λ (r : TakenRow). r.depth) (same_row (at j) ino a row (last j here) first there) ∙ is in
                  omega (arith, one, deep)

  -- a depth is done
  pub level_done : (depth count : ℕ) (order : List ℕ) → AreInos rows inos → length inos ≤ count → AreListedTo rows inos depth count order → AreListedTo rows inos (depth + 1) 0 order
  level_done depth count order are past to = record {
    there = λ k low. let has = to.there k low in record { row = has.row; there = has.there; is = inl (shallow has.row (slice_index_or order k 0) has.is) };
    all = λ ino row there is. to.all ino row there (listed ino row there is);
    apart = to.apart;
    rising = to.rising;
  }
    where
      shallow : (row : TakenRow) (ino : ℕ) → IsListed inos depth count ino row → row.depth < depth + 1
      shallow row ino (inl small) = omega (arith, small)
      shallow row ino (inr is) = let deep = is.0 in omega (arith, deep)

      listed : (ino : ℕ) (row : TakenRow) → map.get rows ino ≡ Some row → IsListed inos (depth + 1) 0 ino row → IsListed inos depth count ino row
      listed ino row there (inl small) = by (cases_lt row.depth depth)
        where
          by : (row.depth < depth) ⊎ (depth ≤ row.depth) → IsListed inos depth count ino row
          by (inl less) = inl less
          by (inr high) = let at = are.all ino row there in let low = at.1.0 in inr (omega (arith, small, high), (at.0, (omega (arith, low, past), at.1.1)))
      listed ino row there (inr is) = let low = is.1.1.0 in absurd (omega (arith, low))

  -- all depths are done
  pub listed_in_order : (depth : ℕ) (order : List ℕ) → 17 ≤ depth → AreListedTo rows inos depth 0 order → IsRooted rows → IsInOrder rows order
  listed_in_order depth order deep to rooted = record {
    there = λ k low. let has = to.there k low in subst (λ o. IsSome o) (sym has.there) refl;
    all = λ ino row there. all ino row there;
    apart = to.apart;
    after = after;
  }
    where
      all : (ino : ℕ) (row : TakenRow) → map.get rows ino ≡ Some row → IsAmongFirst order (length order) ino
      all ino row there = let most = rooted.deep ino row there in to.all ino row there (inl (omega (arith, most, deep)))

      after : (k : ℕ) (row : TakenRow) → k < length order → map.get rows (slice_index_or order k 0) ≡ Some row → slice_index_or order k 0 ≢ ROOT → IsAmongFirst order k row.parent
      after k row low there other =
          let up = rooted.under (slice_index_or order k 0) row there other in
          let at = all row.parent up.row up.there in
          (at.0, (by at.0 at.1.0 up.row (ap (map.get rows) at.1.1 ∙ up.there) up.is.1 (cases_lt at.0 k), at.1.1))
        where
          by : (j : ℕ) → j < length order → (above : TakenRow) → map.get rows (slice_index_or order j 0) ≡ Some above → row.depth ≡ above.depth + 1 → (j < k) ⊎ (k ≤ j) → j < k
          by j within above found below (inl less) = less
          by j within above found below (inr high) = let small : row.depth ≤ above.depth = to.rising k j row above high within there found in absurd (omega (arith, small, below))
