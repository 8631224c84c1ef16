-- The names of a directory, packed one after another, and the nodes of the blocks that they fill.
use Rattle.std.proofs.Common.{◌≡◌, ℕ, zero, suc, ◌+◌, ◌≤◌, List, [], ◌∷◌, ◌++◌, length, drop, min, refl, sym, ap, ◌∙◌, inl, inr, arith}
use Rattle.std.specs.Prelude.{map as map_list}
use Rattle.std.specs.List.{flat_map, range_with_len}
use Rattle.std.specs.Ordering.{nat_cmp}
use Rattle.std.specs.FinSet as set
use Rattle.std.specs.FinMap as map
use Rattle.std.proofs.lemmas.Simd.{map-map}
use Rattle.std.proofs.lemmas.List.{at_drop_all}
use Rattle.std.proofs.lemmas.Bool.{cases_lt}
use Rattle.std.proofs.lemmas.Bool.Decides.{nat_tests}
use Rattle.f2_dir.specs.Entries.{Entries, dents_of}
use Rattle.f2_format.specs.Offsets.{page_limit, direct_of, nodes_of_page, nodes_over, node_count}
use Rattle.f2_format.specs.Packing.{Reach, place_after_all, blocks_of_names}

-- the names of a list
abbrev pub names_of : {D : Type 0} → List D → (D → List ℕ) → List (List ℕ)
names_of dents name = map_list name dents

-- the names of a directory are its keys
pub dents_names : (entries : Entries) → names_of (dents_of entries) (λ dent. dent.name) ≡ map.keys entries
dents_names entries = map-map _ _ (map.entries entries)

-- where no name is left, so many blocks were begun as all names fill
pub all_packed : {D : Type 0} (name : D → List ℕ) (reach : Reach) (dents : List D) (i : ℕ) → length dents ≤ i →
    blocks_of_names (names_of dents name) ≡ (place_after_all reach (names_of (drop i dents) name)).0 → reach.0 ≡ blocks_of_names (names_of dents name)
all_packed name reach dents i past whole = sym (whole ∙ at_drop_all (λ left. (place_after_all reach (names_of left name)).0) dents i past)

-- a page that no file can have needs no node
no_node : (page : ℕ) → page_limit ≤ page → nodes_of_page page ≡ []
unfolding direct_of
no_node page past = grind (arith, nat_tests)

-- pages past a length that need no node may be left out
past_length : (a n m : ℕ) → ((page : ℕ) → a + m ≤ page → nodes_of_page page ≡ []) → m ≤ n → flat_map nodes_of_page (range_with_len a n) ≡ flat_map nodes_of_page (range_with_len a m)
past_length a zero zero none le = refl
past_length a zero (suc m) none le = absurd (omega arith)
past_length a (suc n) zero none le =
    ap (λ nodes. nodes ++ flat_map nodes_of_page (range_with_len (a + 1) n)) (none a (omega arith))
    ∙ past_length (a + 1) n zero (λ page past. none page (omega arith)) (omega arith)
past_length a (suc n) (suc m) none le =
    ap (λ nodes. nodes_of_page a ++ nodes) (past_length (a + 1) n m (λ page past. none page (omega arith)) (omega arith))

-- the first so many pages need no more nodes than those of them that a file can have
pub within_limit : (n m : ℕ) → m ≡ min n page_limit → node_count (range_with_len 0 m) ≡ node_count (range_with_len 0 n)
unfolding nodes_over
within_limit n m is = elim (cases_lt n page_limit) [
  | inl below ↦ let same : m ≡ n = omega arith in ap (λ k. node_count (range_with_len 0 k)) same
  | inr above ↦
      let whole : m ≡ page_limit = omega arith in
      sym (ap (λ nodes. set.len (set.from_list {R = nat_cmp} (0 ∷ nodes))) (past_length 0 n m (λ page past. no_node page (omega arith)) (omega arith)))
]
