-- The blocks of a directory once one more dentry was packed behind the others.
use Rattle.std.proofs.Common.{min, ◌^◌, ◌≡◌, ◌≢◌, ℕ, zero, suc, ◌+◌, ◌-◌, ◌<◌, ◌≤◌, Bool, true, false, cond, leb, eqb, List, [], ◌∷◌, ◌++◌, length, get_or, set, map, refl, sym, ap, ◌∙◌, arith, inl, inr, subst}
use Rattle.std.specs.List.{range_with_len, filter, zip}
use Rattle.std.proofs.lemmas.Bool.{cases_eq, cond-true, cond-false}
use Rattle.std.proofs.lemmas.Bool.Decides.{nat_tests}
use Rattle.std.proofs.lemmas.List.{map-append, length-map, length-set, length_push, append-nil, ext_get_or, get_or-set_same, get_or-set_other}
use Rattle.std.proofs.lemmas.List.Elements.{filter-append}
use Rattle.std.proofs.lemmas.List.FromFn.{length-map-range_with_len, get_or-map-range_with_len, map-range_with_len_more}
use Rattle.f2_format.specs.Bytes.{zeros}
use Rattle.f2_format.specs.Dentry.{Dentry, dentry_block, with_dentries, with_dentry}
use Rattle.f2_format.specs.Packing.{Reach, blocks_of_names, nothing_packed, place_after, place_after_all, place_ending, place_reached, places_after, places_of, slots_of_name}
use Rattle.f2_dentry_block.specs.Packed.{HasNameLength, names_of, packed_blocks, placed_in}

-- one name more takes its place behind all others
place_after_all-push : (reach : Reach) (names : List (List ℕ)) (name : List ℕ) → place_after_all reach (names ++ name ∷ []) ≡ place_after (place_after_all reach names) name
place_after_all-push reach [] name = refl
place_after_all-push reach (x ∷ names) name = place_after_all-push (place_after reach x) names name

places_after-push : (reach : Reach) (names : List (List ℕ)) (name : List ℕ)
    → places_after reach (names ++ name ∷ []) ≡ places_after reach names ++ place_ending (place_after (place_after_all reach names) name) name ∷ []
places_after-push reach [] name = refl
places_after-push reach (x ∷ names) name =
    ap (λ (places : List (ℕ × ℕ)). place_ending (place_after reach x) x ∷ places) (places_after-push (place_after reach x) names name)

-- each name has a place
length-places_after : (reach : Reach) (names : List (List ℕ)) → length (places_after reach names) ≡ length names
length-places_after reach [] = refl
length-places_after reach (x ∷ names) = ap suc (length-places_after (place_after reach x) names)

-- one pair more
zip-push : {A B : Type 0} (xs : List A) (ys : List B) (x : A) (y : B) → length xs ≡ length ys → zip (xs ++ x ∷ []) (ys ++ y ∷ []) ≡ zip xs ys ++ (x, y) ∷ []
zip-push [] [] x y same = refl
zip-push [] (b ∷ ys) x y same = cc
zip-push (a ∷ xs) [] x y same = cc
zip-push {A} {B} (a ∷ xs) (b ∷ ys) x y same = ap (λ (ps : List (A × B)). (a, b) ∷ ps) (zip-push xs ys x y (omega arith))

-- a name where it fits, and where it does not
place_after-fits : (reach : Reach) (name : List ℕ) → reach.1 + slots_of_name name ≤ 214 → place_after reach name ≡ (reach.0, reach.1 + slots_of_name name)
place_after-fits reach name fits =
    let test : leb (reach.1 + slots_of_name name) 214 ≡ true = grind (arith, nat_tests) in
    cond-true (leb (reach.1 + slots_of_name name) 214) (reach.0, reach.1 + slots_of_name name) (reach.0 + 1, slots_of_name name) test

place_after-next : (reach : Reach) (name : List ℕ) → 214 < reach.1 + slots_of_name name → place_after reach name ≡ (reach.0 + 1, slots_of_name name)
place_after-next reach name full =
    let test : leb (reach.1 + slots_of_name name) 214 ≡ false = grind (arith, nat_tests) in
    cond-false (leb (reach.1 + slots_of_name name) 214) (reach.0, reach.1 + slots_of_name name) (reach.0 + 1, slots_of_name name) test

-- how far a directory reaches with one dentry more
pub reach-push : (dentries : List Dentry) (dentry : Dentry) → place_reached (names_of (dentries ++ dentry ∷ [])) ≡ place_after (place_reached (names_of dentries)) dentry.name
reach-push dentries dentry =
    ap place_reached (map-append (λ (d : Dentry). d.name) dentries (dentry ∷ []))
    ∙ place_after_all-push nothing_packed (names_of dentries) dentry.name

-- a dentry with its place
abbrev Placed : Type 0
Placed = (ℕ × ℕ) × Dentry

-- the dentries of a block with one dentry more: those that it had, and the new one where its place is in the block
placed_in-push : (block : ℕ) (dentries : List Dentry) (dentry : Dentry) (place : ℕ × ℕ) → place_ending (place_after (place_reached (names_of dentries)) dentry.name) dentry.name ≡ place
    → placed_in block (dentries ++ dentry ∷ []) ≡ placed_in block dentries ++ cond (eqb place.0 block) ((place.1, dentry) ∷ []) []
placed_in-push block dentries dentry place is =
    let names = names_of dentries in
    let test : Placed → Bool = λ placed. eqb placed.0.0 block in
    let slot : Placed → ℕ × Dentry = λ placed. (placed.0.1, placed.1) in
    let count : length (places_of names) ≡ length dentries = length-places_after nothing_packed names ∙ length-map dentries (λ (d : Dentry). d.name) in
    let one : map slot (filter test ((place, dentry) ∷ [])) ≡ cond (eqb place.0 block) ((place.1, dentry) ∷ []) [] =
    map-cond (eqb place.0 block) slot (place, dentry) in
    ap (λ (ns : List (List ℕ)). map slot (filter test (zip (places_of ns) (dentries ++ dentry ∷ [])))) (map-append (λ (d : Dentry). d.name) dentries (dentry ∷ []))
    ∙ ap (λ (ps : List (ℕ × ℕ)). map slot (filter test (zip ps (dentries ++ dentry ∷ []))))
    (places_after-push nothing_packed names dentry.name ∙ ap (λ (p : ℕ × ℕ). places_of names ++ p ∷ []) is)
    ∙ ap (λ (ps : List Placed). map slot (filter test ps)) (zip-push (places_of names) dentries place dentry count)
    ∙ ap (map slot) (filter-append test (zip (places_of names) dentries) ((place, dentry) ∷ []))
    ∙ map-append slot (filter test (zip (places_of names) dentries)) (filter test ((place, dentry) ∷ []))
    ∙ ap (λ (ps : List (ℕ × Dentry)). placed_in block dentries ++ ps) one
  where
    map-cond : (b : Bool) (f : Placed → ℕ × Dentry) (p : Placed) → map f (cond b (p ∷ []) []) ≡ cond b (f p ∷ []) []
    map-cond true f p = refl
    map-cond false f p = refl

pub placed_in-here : (block slot : ℕ) (dentries : List Dentry) (dentry : Dentry) → place_ending (place_after (place_reached (names_of dentries)) dentry.name) dentry.name ≡ (block, slot)
    → placed_in block (dentries ++ dentry ∷ []) ≡ placed_in block dentries ++ (slot, dentry) ∷ []
placed_in-here block slot dentries dentry is =
    let test : eqb block block ≡ true = grind (arith, nat_tests) in
    placed_in-push block dentries dentry (block, slot) is
    ∙ ap (λ (ps : List (ℕ × Dentry)). placed_in block dentries ++ ps) (cond-true (eqb block block) ((slot, dentry) ∷ []) [] test)

pub placed_in-elsewhere : (block other slot : ℕ) (dentries : List Dentry) (dentry : Dentry) → place_ending (place_after (place_reached (names_of dentries)) dentry.name) dentry.name ≡ (other, slot)
    → other ≢ block → placed_in block (dentries ++ dentry ∷ []) ≡ placed_in block dentries
placed_in-elsewhere block other slot dentries dentry is apart =
    let test : eqb other block ≡ false = grind (arith, nat_tests) in
    placed_in-push block dentries dentry (other, slot) is
    ∙ ap (λ (ps : List (ℕ × Dentry)). placed_in block dentries ++ ps) (cond-false (eqb other block) ((slot, dentry) ∷ []) [] test)
    ∙ append-nil (placed_in block dentries)

-- a block with one dentry more
with_dentries-push : (block : List ℕ) (placed : List (ℕ × Dentry)) (slot : ℕ) (dentry : Dentry) → with_dentries block (placed ++ (slot, dentry) ∷ []) ≡ with_dentry (with_dentries block placed) slot dentry
with_dentries-push block [] slot dentry = refl
with_dentries-push block (p ∷ placed) slot dentry = with_dentries-push (with_dentry block p.0 p.1) placed slot dentry

-- a directory that was packed so far: the blocks begun, the slots taken of the last, and nothing in later blocks
pub record IsPackedTo (dentries : List Dentry) (count taken : ℕ) : Type 0 where
  pub reach : place_reached (names_of dentries) ≡ (count, taken)
  pub first : count ≡ 0 → taken ≡ 214
  pub room : taken ≤ 214
  pub later : (block : ℕ) → count ≤ block → placed_in block dentries ≡ []

pub IsPackedTo-nothing : IsPackedTo [] 0 214
IsPackedTo-nothing = record { reach = refl; first = λ _. refl; room = omega arith; later = λ block h. refl }

-- where a name ends that fits, and one that doesn't
ends-fits : (dentries : List Dentry) (count taken : ℕ) (dentry : Dentry) → IsPackedTo dentries count taken → taken + slots_of_name dentry.name ≤ 214
    → place_after (place_reached (names_of dentries)) dentry.name ≡ (count, taken + slots_of_name dentry.name)
ends-fits dentries count taken dentry packed fits =
    ap (λ (r : Reach). place_after r dentry.name) packed.reach ∙ place_after-fits (count, taken) dentry.name fits

ends-next : (dentries : List Dentry) (count taken : ℕ) (dentry : Dentry) → IsPackedTo dentries count taken → 214 < taken + slots_of_name dentry.name
    → place_after (place_reached (names_of dentries)) dentry.name ≡ (count + 1, slots_of_name dentry.name)
ends-next dentries count taken dentry packed full =
    ap (λ (r : Reach). place_after r dentry.name) packed.reach ∙ place_after-next (count, taken) dentry.name full

-- a place of these two numbers
abbrev place-of : ℕ → ℕ → ℕ × ℕ
place-of block slot = (block, slot)

-- places of equal numbers
place-is : (a b c d : ℕ) → a ≡ c → b ≡ d → place-of a b ≡ place-of c d
place-is a b c d p q = ap (λ (x : ℕ). place-of x b) p ∙ ap (place-of c) q

place-fits : (dentries : List Dentry) (count taken : ℕ) (dentry : Dentry) → IsPackedTo dentries count taken → taken + slots_of_name dentry.name ≤ 214
    → place_ending (place_after (place_reached (names_of dentries)) dentry.name) dentry.name ≡ (count - 1, taken)
place-fits dentries count taken dentry packed fits =
    ap (λ (r : Reach). place_ending r dentry.name) (ends-fits dentries count taken dentry packed fits)
    ∙ place-is (count - 1) (taken + slots_of_name dentry.name - slots_of_name dentry.name) (count - 1) taken refl (omega arith)

place-next : (dentries : List Dentry) (count taken : ℕ) (dentry : Dentry) → IsPackedTo dentries count taken → 214 < taken + slots_of_name dentry.name
    → place_ending (place_after (place_reached (names_of dentries)) dentry.name) dentry.name ≡ (count, 0)
place-next dentries count taken dentry packed full =
    ap (λ (r : Reach). place_ending r dentry.name) (ends-next dentries count taken dentry packed full)
    ∙ place-is (count + 1 - 1) (slots_of_name dentry.name - slots_of_name dentry.name) count 0 (omega arith) (omega arith)

-- a block is begun where a name fits into the last one
pub begun : (dentries : List Dentry) (count taken : ℕ) (dentry : Dentry) → IsPackedTo dentries count taken → HasNameLength dentry.name → taken + slots_of_name dentry.name ≤ 214
    → 1 ≤ count
begun dentries zero taken dentry packed long fits = let full = packed.first refl in let some = long.some in absurd (omega arith)
begun dentries (suc count) taken dentry packed long fits = omega arith

pub IsPackedTo-fits : (dentries : List Dentry) (count taken : ℕ) (dentry : Dentry) → IsPackedTo dentries count taken → HasNameLength dentry.name → taken + slots_of_name dentry.name ≤ 214
    → IsPackedTo (dentries ++ dentry ∷ []) count (taken + slots_of_name dentry.name)
IsPackedTo-fits dentries count taken dentry packed long fits =
    let some = begun dentries count taken dentry packed long fits in
    let place = place-fits dentries count taken dentry packed fits in
    record {
      reach = reach-push dentries dentry ∙ ends-fits dentries count taken dentry packed fits;
      first = λ none. absurd (omega arith);
      room = fits;
      later = λ block h. placed_in-elsewhere block (count - 1) taken dentries dentry place (omega arith) ∙ packed.later block h;
    }

pub IsPackedTo-next : (dentries : List Dentry) (count taken : ℕ) (dentry : Dentry) → IsPackedTo dentries count taken → HasNameLength dentry.name → 214 < taken + slots_of_name dentry.name
    → IsPackedTo (dentries ++ dentry ∷ []) (count + 1) (slots_of_name dentry.name)
IsPackedTo-next dentries count taken dentry packed long full =
    let most = long.most in
    let place = place-next dentries count taken dentry packed full in
    record {
      reach = reach-push dentries dentry ∙ ends-next dentries count taken dentry packed full;
      first = λ none. absurd (omega arith);
      room = omega arith;
      later = λ block h. placed_in-elsewhere block count 0 dentries dentry place (omega arith) ∙ packed.later block (omega arith);
    }

-- the blocks of a directory so far
shown : List Dentry → ℕ → List ℕ
shown dentries block = dentry_block (placed_in block dentries)

blocks-are : (dentries : List Dentry) (count : ℕ) → blocks_of_names (names_of dentries) ≡ count → packed_blocks dentries ≡ map (shown dentries) (range_with_len 0 count)
unfolding shown
blocks-are dentries count is = ap (λ (n : ℕ). map (shown dentries) (range_with_len 0 n)) is

pub length-packed_blocks : (dentries : List Dentry) → length (packed_blocks dentries) ≡ blocks_of_names (names_of dentries)
length-packed_blocks dentries = length-map-range_with_len (λ (block : ℕ). dentry_block (placed_in block dentries)) 0 (blocks_of_names (names_of dentries))

-- a name that fits changes the last block alone
pub packed_blocks-fits : (dentries : List Dentry) (count taken : ℕ) (dentry : Dentry) → IsPackedTo dentries count taken → HasNameLength dentry.name → taken + slots_of_name dentry.name ≤ 214
    → packed_blocks (dentries ++ dentry ∷ []) ≡ set (packed_blocks dentries) (count - 1) (with_dentry (get_or (packed_blocks dentries) (count - 1) []) taken dentry)
unfolding shown
packed_blocks-fits dentries count taken dentry packed long fits =
    let all = dentries ++ dentry ∷ [] in
    let some = begun dentries count taken dentry packed long fits in
    let place = place-fits dentries count taken dentry packed fits in
    let after = IsPackedTo-fits dentries count taken dentry packed long fits in
    let new = map (shown all) (range_with_len 0 count) in
    let old = map (shown dentries) (range_with_len 0 count) in
    let new_is : packed_blocks all ≡ new = blocks-are all count (ap (λ (r : Reach). r.0) after.reach) in
    let old_is : packed_blocks dentries ≡ old = blocks-are dentries count (ap (λ (r : Reach). r.0) packed.reach) in
    let new_long = length-map-range_with_len (shown all) 0 count in
    let old_long = length-map-range_with_len (shown dentries) 0 count in
    let last = with_dentry (get_or old (count - 1) []) taken dentry in
    let set_long = length-set old (count - 1) last in
    let same : new ≡ set old (count - 1) last = ext_get_or [] new (set old (count - 1) last) (omega arith) (λ k h.
    get_or-map-range_with_len (shown all) 0 count k k [] (omega arith) (omega arith)
    ∙ elim (cases_eq k (count - 1)) [
      | inl here ↦
          ap (shown all) here
          ∙ ap dentry_block (placed_in-here (count - 1) taken dentries dentry place)
          ∙ with_dentries-push (zeros 4096) (placed_in (count - 1) dentries) taken dentry
          ∙ ap (λ (b : List ℕ). with_dentry b taken dentry) (sym (get_or-map-range_with_len (shown dentries) 0 count (count - 1) (count - 1) [] (omega arith) (omega arith)))
          ∙ sym (get_or-set_same old (count - 1) last [] (omega arith))
          ∙ ap (λ (i : ℕ). get_or (set old (count - 1) last) i []) (sym here)
      | inr other ↦
          let apart : count - 1 ≢ k = omega arith in
          ap dentry_block (placed_in-elsewhere k (count - 1) taken dentries dentry place apart)
          ∙ sym (get_or-map-range_with_len (shown dentries) 0 count k k [] (omega arith) (omega arith))
          ∙ sym (get_or-set_other old (count - 1) k last [] other)
    ]) in
    new_is ∙ same ∙ ap (λ (bs : List (List ℕ)). set bs (count - 1) (with_dentry (get_or bs (count - 1) []) taken dentry)) (sym old_is)

-- a name that doesn't fit begins a block
pub packed_blocks-next : (dentries : List Dentry) (count taken : ℕ) (dentry : Dentry) → IsPackedTo dentries count taken → HasNameLength dentry.name → 214 < taken + slots_of_name dentry.name
    → packed_blocks (dentries ++ dentry ∷ []) ≡ packed_blocks dentries ++ with_dentry (zeros 4096) 0 dentry ∷ []
unfolding shown
packed_blocks-next dentries count taken dentry packed long full =
    let all = dentries ++ dentry ∷ [] in
    let place = place-next dentries count taken dentry packed full in
    let after = IsPackedTo-next dentries count taken dentry packed long full in
    let new = map (shown all) (range_with_len 0 count) in
    let old = map (shown dentries) (range_with_len 0 count) in
    let new_is : packed_blocks all ≡ map (shown all) (range_with_len 0 (count + 1)) = blocks-are all (count + 1) (ap (λ (r : Reach). r.0) after.reach) in
    let old_is : packed_blocks dentries ≡ old = blocks-are dentries count (ap (λ (r : Reach). r.0) packed.reach) in
    let new_long = length-map-range_with_len (shown all) 0 count in
    let old_long = length-map-range_with_len (shown dentries) 0 count in
    let front : new ≡ old = ext_get_or [] new old (omega arith) (λ k h.
    let apart : count ≢ k = omega arith in
    get_or-map-range_with_len (shown all) 0 count k k [] (omega arith) (omega arith)
    ∙ ap dentry_block (placed_in-elsewhere k count 0 dentries dentry place apart)
    ∙ sym (get_or-map-range_with_len (shown dentries) 0 count k k [] (omega arith) (omega arith))) in
    let back : shown all count ≡ with_dentry (zeros 4096) 0 dentry =
    ap dentry_block (placed_in-here count 0 dentries dentry place ∙ ap (λ (ps : List (ℕ × Dentry)). ps ++ (0, dentry) ∷ []) (packed.later count (omega arith))) in
    new_is
    ∙ map-range_with_len_more (shown all) 0 count count (omega arith)
    ∙ ap (λ (bs : List (List ℕ)). bs ++ shown all count ∷ []) (front ∙ sym old_is)
    ∙ ap (λ (b : List ℕ). packed_blocks dentries ++ b ∷ []) back

-- the blocks of a directory that was packed so far were counted, up to the most that the count can tell
pub record IsCounted (dentries : List Dentry) (blocks taken : ℕ) : Type 0 where
  pub count : ℕ
  pub packed : IsPackedTo dentries count taken
  pub counted : blocks ≡ min count (2 ^ 32 - 1)

pub IsCounted-nothing : IsCounted [] 0 214
IsCounted-nothing = record { count = 0; packed = IsPackedTo-nothing; counted = omega arith }

pub IsCounted-fits : (dentries : List Dentry) (blocks taken : ℕ) (dentry : Dentry) → IsCounted dentries blocks taken → HasNameLength dentry.name → taken + slots_of_name dentry.name ≤ 214
    → IsCounted (dentries ++ dentry ∷ []) blocks (taken + slots_of_name dentry.name)
IsCounted-fits dentries blocks taken dentry counted long fits = record {
  count = counted.count;
  packed = IsPackedTo-fits dentries counted.count taken dentry counted.packed long fits;
  counted = counted.counted;
}

pub IsCounted-next : (dentries : List Dentry) (blocks taken : ℕ) (dentry : Dentry) (more : ℕ) → IsCounted dentries blocks taken → HasNameLength dentry.name → 214 < taken + slots_of_name dentry.name
    → more ≡ min (blocks + 1) (2 ^ 32 - 1) → IsCounted (dentries ++ dentry ∷ []) more (slots_of_name dentry.name)
IsCounted-next dentries blocks taken dentry more counted long full is = record {
  count = counted.count + 1;
  packed = IsPackedTo-next dentries counted.count taken dentry counted.packed long full;
  counted = let was = counted.counted in omega arith;
}

pub blocks_of_names-counted : (dentries : List Dentry) (blocks taken : ℕ) → IsCounted dentries blocks taken → blocks ≡ min (blocks_of_names (names_of dentries)) (2 ^ 32 - 1)
blocks_of_names-counted dentries blocks taken counted =
    counted.counted ∙ ap (λ (n : ℕ). min n (2 ^ 32 - 1)) (sym (ap (λ (r : Reach). r.0) counted.packed.reach))

-- the blocks of a directory that was packed so far
pub record IsPacked (dentries : List Dentry) (blocks : List (List ℕ)) (taken : ℕ) : Type 0 where
  pub packed : IsPackedTo dentries (length blocks) taken
  pub are : blocks ≡ packed_blocks dentries

pub IsPacked-nothing : IsPacked [] [] 214
IsPacked-nothing = record { packed = IsPackedTo-nothing; are = refl }

pub IsPacked-fits : (dentries : List Dentry) (blocks : List (List ℕ)) (taken : ℕ) (dentry : Dentry) (block : List ℕ) → IsPacked dentries blocks taken → HasNameLength dentry.name
    → taken + slots_of_name dentry.name ≤ 214 → block ≡ with_dentry (get_or blocks (length blocks - 1) []) taken dentry
    → IsPacked (dentries ++ dentry ∷ []) (set blocks (length blocks - 1) block) (taken + slots_of_name dentry.name)
IsPacked-fits dentries blocks taken dentry block packed long fits is =
    let last = length blocks - 1 in
    let count = length-set blocks last block in
    record {
      packed = subst (λ (n : ℕ). IsPackedTo (dentries ++ dentry ∷ []) n (taken + slots_of_name dentry.name)) (sym count)
          (IsPackedTo-fits dentries (length blocks) taken dentry packed.packed long fits);
      are =
          ap (set blocks last) is
          ∙ ap (λ (bs : List (List ℕ)). set bs last (with_dentry (get_or bs last []) taken dentry)) packed.are
          ∙ sym (packed_blocks-fits dentries (length blocks) taken dentry packed.packed long fits);
    }

pub IsPacked-next : (dentries : List Dentry) (blocks : List (List ℕ)) (taken : ℕ) (dentry : Dentry) (block : List ℕ) → IsPacked dentries blocks taken → HasNameLength dentry.name
    → 214 < taken + slots_of_name dentry.name → block ≡ with_dentry (zeros 4096) 0 dentry
    → IsPacked (dentries ++ dentry ∷ []) (blocks ++ block ∷ []) (slots_of_name dentry.name)
IsPacked-next dentries blocks taken dentry block packed long full is = record {
  packed = subst (λ (n : ℕ). IsPackedTo (dentries ++ dentry ∷ []) n (slots_of_name dentry.name)) (sym (length_push blocks block))
      (IsPackedTo-next dentries (length blocks) taken dentry packed.packed long full);
  are =
      ap (λ (b : List ℕ). blocks ++ b ∷ []) is
      ∙ ap (λ (bs : List (List ℕ)). bs ++ with_dentry (zeros 4096) 0 dentry ∷ []) packed.are
      ∙ sym (packed_blocks-next dentries (length blocks) taken dentry packed.packed long full);
}
