-- The newest blocks of the nodes of files since their marks, place by place of a log.
use Rattle.std.proofs.Common.{◌≡◌, ◌≢◌, ◌⊎◌, inl, inr, ℕ, zero, suc, ◌+◌, ◌<◌, ◌==◌, ◌&&◌, Bool, true, false, cond, List, refl, sym, ap, ◌∙◌, add-one, eq-eqb, arith}
use Rattle.std.specs.Prelude.{Option, Some, None, option_and_then}
use Rattle.std.specs.Option.{option_map}
use Rattle.std.specs.Ordering.{nat_cmp}
use Rattle.std.specs.FinMap as map
use Rattle.std.specs.FinMap.{get-empty}
use Rattle.std.proofs.lemmas.Bool.{cases_eq, ne_eqb, eqb-true, and_parts}
use Rattle.f2_format.specs.Footer.{footer_ino, footer_offset, has_fsync_mark}
use Rattle.f2_image.specs.Chains.{Logged, block_in, is_marked, is_node_of, last_before}
use Rattle.f2_overlay.specs.Lasts.{last_mark_before}
use Rattle.f2_overlay.specs.Taking.{last_node_before}
use Rattle.f2_overlay.specs.Pending.{Places, AllPlaces, newest_before, place_of, IsNoted, IsLeft, ArePending}
use Rattle.f2_overlay.proofs.Maps.{not_none, one_some}

bool_cases : (b : Bool) → (b ≡ true) ⊎ (b ≡ false)
bool_cases true = inl refl
bool_cases false = inr refl

and_false : (a b : Bool) → b ≡ false → (a && b) ≡ false
and_false true b e = e
and_false false b e = refl

false_and : (a b : Bool) → a ≡ false → (a && b) ≡ false
false_and true b e = absurd (cc)
false_and false b e = refl

module _ (log : List Logged) where
  -- a mark of a file stands at a place
  abbrev pub marks : ℕ → ℕ → Bool
  marks place ino = is_marked (block_in log place) && (footer_ino (block_in log place) == ino)

  abbrev node_at : ℕ → ℕ → ℕ → Bool
  node_at place ino offset = is_node_of (block_in log place) ino offset

  module _ (place ino offset : ℕ) where
    newest_at : (a b : Bool) → marks place ino ≡ a → node_at place ino offset ≡ b → newest_before log (suc place) ino offset ≡ cond a None (cond b (Some place) (newest_before log place ino offset))
    newest_at a b e f = ap (λ x. cond x None (cond (node_at place ino offset) (Some place) (newest_before log place ino offset))) e ∙ ap (λ x. cond a None (cond x (Some place) (newest_before log place ino offset))) f

    last_at : (b : Bool) → node_at place ino offset ≡ b → last_node_before log (suc place) ino offset ≡ cond b (Some place) (last_node_before log place ino offset)
    last_at b f = ap (λ x. cond x (Some place) (last_node_before log place ino offset)) f

  -- the last block is the one at the last place
  pub last_block : (place ino offset : ℕ) → last_before log place ino offset ≡ option_map (block_in log) (last_node_before log place ino offset)
  last_block zero ino offset = refl
  last_block (suc place) ino offset =
      ap (λ o. cond (node_at place ino offset) (Some (block_in log place)) o) (last_block place ino offset) ∙ chosen (node_at place ino offset) (last_node_before log place ino offset)
    where
      chosen : (b : Bool) (o : Option ℕ) → cond b (Some (block_in log place)) (option_map (block_in log) o) ≡ option_map (block_in log) (cond b (Some place) o)
      chosen true o = refl
      chosen false o = refl

  mark_at : (place ino : ℕ) (a : Bool) → marks place ino ≡ a → last_mark_before log (suc place) ino ≡ cond a (Some place) (last_mark_before log place ino)
  mark_at place ino a e = ap (λ x. cond x (Some place) (last_mark_before log place ino)) e

  -- where there is a newest block, it is the last one
  pub newest_node_some : (place ino offset q : ℕ) → newest_before log place ino offset ≡ Some q → (q < place) × (last_node_before log place ino offset ≡ Some q)
  newest_node_some zero ino offset q is = absurd (not_none q is)
  newest_node_some (suc place) ino offset q is = by (newest_node_some place ino offset q) (bool_cases (marks place ino)) (bool_cases (node_at place ino offset))
    where
      by : (newest_before log place ino offset ≡ Some q → (q < place) × (last_node_before log place ino offset ≡ Some q)) → (marks place ino ≡ true) ⊎ (marks place ino ≡ false) → (node_at place ino offset ≡ true) ⊎ (node_at place ino offset ≡ false) → (q < suc place) × (last_node_before log (suc place) ino offset ≡ Some q)
      by earlier (inl e) f = absurd (not_none q (sym (ap (λ x. cond x None (cond (node_at place ino offset) (Some place) (newest_before log place ino offset))) e) ∙ is))
      by earlier (inr e) (inl f) =
          let same : place ≡ q = one_some place q (sym (newest_at place ino offset false true e f) ∙ is) in
          (omega (arith, same), last_at place ino offset true f ∙ ap Some same)
      by earlier (inr e) (inr f) =
          let before = earlier (sym (newest_at place ino offset false false e f) ∙ is) in
          (omega (arith, before.0), last_at place ino offset false f ∙ before.1)

  pub newest_some : (place ino offset q : ℕ) → newest_before log place ino offset ≡ Some q → (q < place) × (last_before log place ino offset ≡ Some (block_in log q))
  newest_some place ino offset q is =
      let found = newest_node_some place ino offset q is in (found.0, last_block place ino offset ∙ ap (λ o. option_map (block_in log) o) found.1)

  -- where there is none, the last one stands before the last mark
  pub newest_node_none : (place ino offset : ℕ) → newest_before log place ino offset ≡ None → last_mark_before log place ino ≡ None → last_node_before log place ino offset ≡ None
  newest_node_none zero ino offset none unmarked = refl
  newest_node_none (suc place) ino offset none unmarked = by (newest_node_none place ino offset) (bool_cases (marks place ino)) (bool_cases (node_at place ino offset))
    where
      by : (newest_before log place ino offset ≡ None → last_mark_before log place ino ≡ None → last_node_before log place ino offset ≡ None) → (marks place ino ≡ true) ⊎ (marks place ino ≡ false) → (node_at place ino offset ≡ true) ⊎ (node_at place ino offset ≡ false) → last_node_before log (suc place) ino offset ≡ None
      by earlier (inl e) f = absurd (not_none place (sym unmarked ∙ mark_at place ino true e))
      by earlier (inr e) (inl f) = absurd (not_none place (sym none ∙ newest_at place ino offset false true e f))
      by earlier (inr e) (inr f) = last_at place ino offset false f ∙ earlier (sym (newest_at place ino offset false false e f) ∙ none) (sym (mark_at place ino false e) ∙ unmarked)

  pub newest_none : (place ino offset : ℕ) → newest_before log place ino offset ≡ None → last_mark_before log place ino ≡ None → last_before log place ino offset ≡ None
  newest_none place ino offset none unmarked = last_block place ino offset ∙ ap (λ o. option_map (block_in log) o) (newest_node_none place ino offset none unmarked)

  pub newest_node_marked : (place ino offset mark : ℕ) → newest_before log place ino offset ≡ None → last_mark_before log place ino ≡ Some mark → last_node_before log place ino offset ≡ last_node_before log (suc mark) ino offset
  newest_node_marked zero ino offset mark none marked = absurd (not_none mark marked)
  newest_node_marked (suc place) ino offset mark none marked = by (newest_node_marked place ino offset mark) (bool_cases (marks place ino)) (bool_cases (node_at place ino offset))
    where
      by : (newest_before log place ino offset ≡ None → last_mark_before log place ino ≡ Some mark → last_node_before log place ino offset ≡ last_node_before log (suc mark) ino offset) → (marks place ino ≡ true) ⊎ (marks place ino ≡ false) → (node_at place ino offset ≡ true) ⊎ (node_at place ino offset ≡ false) → last_node_before log (suc place) ino offset ≡ last_node_before log (suc mark) ino offset
      by earlier (inl e) f = ap (λ n. last_node_before log (suc n) ino offset) (one_some place mark (sym (mark_at place ino true e) ∙ marked))
      by earlier (inr e) (inl f) = absurd (not_none place (sym none ∙ newest_at place ino offset false true e f))
      by earlier (inr e) (inr f) = last_at place ino offset false f ∙ earlier (sym (newest_at place ino offset false false e f) ∙ none) (sym (mark_at place ino false e) ∙ marked)

  pub newest_marked : (place ino offset mark : ℕ) → newest_before log place ino offset ≡ None → last_mark_before log place ino ≡ Some mark → last_before log place ino offset ≡ last_before log (suc mark) ino offset
  newest_marked place ino offset mark none marked =
      last_block place ino offset ∙ ap (λ o. option_map (block_in log) o) (newest_node_marked place ino offset mark none marked) ∙ sym (last_block (suc mark) ino offset)

  -- a mark stands before the place, and is one
  pub last_mark_is : (place ino mark : ℕ) → last_mark_before log place ino ≡ Some mark → (mark < place) × (is_marked (block_in log mark) ≡ true) × (footer_ino (block_in log mark) ≡ ino)
  last_mark_is zero ino mark is = absurd (not_none mark is)
  last_mark_is (suc place) ino mark is = by (last_mark_is place ino mark) (bool_cases (marks place ino))
    where
      by : (last_mark_before log place ino ≡ Some mark → (mark < place) × (is_marked (block_in log mark) ≡ true) × (footer_ino (block_in log mark) ≡ ino)) → (marks place ino ≡ true) ⊎ (marks place ino ≡ false) → (mark < suc place) × (is_marked (block_in log mark) ≡ true) × (footer_ino (block_in log mark) ≡ ino)
      by earlier (inl e) =
          let same : place ≡ mark = one_some place mark (sym (mark_at place ino true e) ∙ is) in
          let both = and_parts (is_marked (block_in log place)) (footer_ino (block_in log place) == ino) e in
          (omega (arith, same), ap (λ n. is_marked (block_in log n)) (sym same) ∙ both.0, ap (λ n. footer_ino (block_in log n)) (sym same) ∙ eqb-true (footer_ino (block_in log place)) ino both.1)
      by earlier (inr e) = let before = earlier (sym (mark_at place ino false e) ∙ is) in (omega (arith, before.0), before.1, before.2)

  module _ (place : ℕ) where
    block : List ℕ
    block = block_in log place

    -- at the place of a mark
    module _ (ino : ℕ) (marked : is_marked (block_in log place) ≡ true) (own : footer_ino (block_in log place) ≡ ino) where
      here : marks place ino ≡ true
      here = ap (λ b. b && (footer_ino (block_in log place) == ino)) marked ∙ eq-eqb (footer_ino (block_in log place)) ino own

      elsewhere : (other : ℕ) → other ≢ ino → marks place other ≡ false
      elsewhere other different = and_false (is_marked (block_in log place)) (footer_ino (block_in log place) == other) (ne_eqb (footer_ino (block_in log place)) other (λ same. different (sym same ∙ own)))

      pub no_offset : footer_offset (block_in log place) ≡ 0
      no_offset = eqb-true (footer_offset (block_in log place)) 0 (and_parts (footer_offset (block_in log place) == 0) (has_fsync_mark (block_in log place)) marked).0

      no_node : (other offset : ℕ) → offset ≢ 0 → node_at place other offset ≡ false
      no_node other offset some = and_false (footer_ino (block_in log place) == other) (footer_offset (block_in log place) == offset) (ne_eqb (footer_offset (block_in log place)) offset (λ same. some (sym same ∙ no_offset)))

      pub mark_here : last_mark_before log (place + 1) ino ≡ Some place
      mark_here = ap (λ n. last_mark_before log n ino) (add-one place) ∙ mark_at place ino true here

      pub mark_elsewhere : (other : ℕ) → other ≢ ino → last_mark_before log (place + 1) other ≡ last_mark_before log place other
      mark_elsewhere other different = ap (λ n. last_mark_before log n other) (add-one place) ∙ mark_at place other false (elsewhere other different)

      pub last_node_stays : (other offset : ℕ) → offset ≢ 0 → last_node_before log (place + 1) other offset ≡ last_node_before log place other offset
      last_node_stays other offset some = ap (λ n. last_node_before log n other offset) (add-one place) ∙ last_at place other offset false (no_node other offset some)

      pub last_stays : (other offset : ℕ) → offset ≢ 0 → last_before log (place + 1) other offset ≡ last_before log place other offset
      last_stays other offset some =
          last_block (place + 1) other offset ∙ ap (λ o. option_map (block_in log) o) (last_node_stays other offset some) ∙ sym (last_block place other offset)

      pub pending_marked : (old new : AllPlaces) → IsLeft old new ino → ArePending log place old → ArePending log (place + 1) new
      pending_marked old new left are = record { nodes = λ other offset some. by other offset some (cases_eq other ino); inodes = λ other. top other (cases_eq other ino) }
        where
          top : (other : ℕ) → (other ≡ ino) ⊎ (other ≢ ino) → place_of new other 0 ≡ None
          top other (inl same) = ap (λ n. place_of new n 0) same ∙ left.none 0
          top other (inr different) = left.files other 0 different ∙ are.inodes other

          by : (other offset : ℕ) → offset ≢ 0 → (other ≡ ino) ⊎ (other ≢ ino) → place_of new other offset ≡ newest_before log (place + 1) other offset
          by other offset some (inl same) =
              ap (λ n. place_of new n offset) same ∙ left.none offset ∙ sym (newest_at place ino offset true false here (no_node ino offset some))
              ∙ ap (λ n. newest_before log n ino offset) (sym (add-one place)) ∙ ap (λ n. newest_before log (place + 1) n offset) (sym same)
          by other offset some (inr different) =
              left.files other offset different ∙ are.nodes other offset some ∙ sym (newest_at place other offset false false (elsewhere other different) (no_node other offset some))
              ∙ ap (λ n. newest_before log n other offset) (sym (add-one place))

    -- at the place of another block
    module _ (unmarked : is_marked (block_in log place) ≡ false) where
      nowhere : (ino : ℕ) → marks place ino ≡ false
      nowhere ino = false_and (is_marked (block_in log place)) (footer_ino (block_in log place) == ino) unmarked

      pub mark_nowhere : (ino : ℕ) → last_mark_before log (place + 1) ino ≡ last_mark_before log place ino
      mark_nowhere ino = ap (λ n. last_mark_before log n ino) (add-one place) ∙ mark_at place ino false (nowhere ino)

      -- of an inode
      pub pending_passed : (all : AllPlaces) → footer_offset (block_in log place) ≡ 0 → ArePending log place all → ArePending log (place + 1) all
      pending_passed all top are = record { nodes = nodes; inodes = are.inodes }
        where
          nodes : (ino offset : ℕ) → offset ≢ 0 → place_of all ino offset ≡ newest_before log (place + 1) ino offset
          nodes ino offset some =
              are.nodes ino offset some
              ∙ sym (newest_at place ino offset false false (nowhere ino)
              (and_false (footer_ino (block_in log place) == ino) (footer_offset (block_in log place) == offset) (ne_eqb (footer_offset (block_in log place)) offset (λ same. some (sym same ∙ top)))))
              ∙ ap (λ n. newest_before log n ino offset) (sym (add-one place))

      -- of a node
      module _ (own at : ℕ) (own_is : footer_ino (block_in log place) ≡ own) (at_is : footer_offset (block_in log place) ≡ at) (some_at : at ≢ 0) (old new : AllPlaces) (noted : IsNoted old new own at place) (are : ArePending log place old) where
        node_is : (ino offset : ℕ) → (ino ≡ own) ⊎ (ino ≢ own) → (offset ≡ at) ⊎ (offset ≢ at) → offset ≢ 0 → place_of new ino offset ≡ newest_before log (suc place) ino offset
        node_is ino offset (inl same) (inl same_at) some =
            ap (λ n. place_of new n offset) same ∙ ap (place_of new own) same_at ∙ noted.here
            ∙ sym (newest_at place ino offset false true (nowhere ino)
            (ap (λ b. b && (footer_offset (block_in log place) == offset)) (eq-eqb (footer_ino (block_in log place)) ino (own_is ∙ sym same)) ∙ eq-eqb (footer_offset (block_in log place)) offset (at_is ∙ sym same_at)))
        node_is ino offset (inl same) (inr different) some =
            ap (λ n. place_of new n offset) same ∙ noted.nodes offset different ∙ ap (λ n. place_of old n offset) (sym same) ∙ are.nodes ino offset some
            ∙ sym (newest_at place ino offset false false (nowhere ino)
            (and_false (footer_ino (block_in log place) == ino) (footer_offset (block_in log place) == offset) (ne_eqb (footer_offset (block_in log place)) offset (λ e. different (sym e ∙ at_is)))))
        node_is ino offset (inr different) any some =
            noted.files ino offset different ∙ are.nodes ino offset some
            ∙ sym (newest_at place ino offset false false (nowhere ino)
            (false_and (footer_ino (block_in log place) == ino) (footer_offset (block_in log place) == offset) (ne_eqb (footer_ino (block_in log place)) ino (λ e. different (sym e ∙ own_is)))))

        pub pending_noted : ArePending log (place + 1) new
        pending_noted = record {
          nodes = λ ino offset some. node_is ino offset (cases_eq ino own) (cases_eq offset at) some ∙ ap (λ n. newest_before log n ino offset) (sym (add-one place));
          inodes = λ ino. top ino (cases_eq ino own);
        }
          where
            top : (ino : ℕ) → (ino ≡ own) ⊎ (ino ≢ own) → place_of new ino 0 ≡ None
            top ino (inl same) = ap (λ n. place_of new n 0) same ∙ noted.nodes 0 (λ e. some_at (sym e)) ∙ are.inodes own
            top ino (inr different) = noted.files ino 0 different ∙ are.inodes ino

  -- no block was passed
  pub pending_none : (all : AllPlaces) → all ≡ map.empty → ArePending log 0 all
  pending_none all empty = record { nodes = λ ino offset some. nothing ino offset; inodes = λ ino. nothing ino 0 }
    where
      nothing : (ino offset : ℕ) → place_of all ino offset ≡ None
      nothing ino offset = ap (λ (m : AllPlaces). place_of m ino offset) empty ∙ ap (λ o. option_and_then (λ (places : Places). map.get places offset) o) (get-empty nat_cmp ino)
