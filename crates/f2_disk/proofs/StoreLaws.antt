-- Laws of what the fields of a store stand for.
use Rattle.std.proofs.Common.{◌≡◌, ◌≢◌, ℕ, zero, suc, ◌+◌, ◌-◌, ◌<◌, ◌≤◌, Bool, true, false, eqb, eq-eqb, List, [], ◌∷◌, ◌++◌, length, get_or, set, take, drop, map, filter, replicate, All, None, refl, sym, ap, ◌∙◌, ⊎_elim, arith}
use Rattle.std.specs.List.{range_with_len, insert}
use Rattle.std.proofs.lemmas.Bool.{ne_eqb, cases_eq}
use Rattle.std.proofs.lemmas.List.{append-nil, map-append, get_or_push, length_push, length-set, same_lists, get_or-set_same, get_or-set_other, get_or-replicate, take-append-drop, length-replicate, get_or-drop, length-drop, get_or_read, get_or-map, length-map}
use Rattle.std.proofs.lemmas.List.Elements.{All-map, All-append, All-cons, All-nil, All-filter, All-set, All-replicate, All-drop, All-take, filter-append}
use Rattle.std.proofs.lemmas.List.FromFn.{length-map-range_with_len, get_or-map-range_with_len}
use Rattle.std.proofs.lemmas.List.Sorted.{IsNonDecreasingBy-insert}
use Rattle.f2_disk.specs.Contents.{IsBlock, IsWhole, alone, flushed, blank, zeros, last_of}
use Rattle.f2_disk.specs.declared.store.Older.{Older}
use Rattle.f2_disk.specs.Store.{Kept, content_of, older_at, list_of, lists_of, IsOrderly}
use Rattle.f2_disk.proofs.ContentsLaws.{zeros_block}

-- one list per block
pub length-lists_of : (newest : List Kept) (older : List Older) → length (lists_of newest older) ≡ length newest
length-lists_of newest older = length-map-range_with_len (list_of newest older) 0 (length newest)

-- the list of a block
pub get_or-lists_of : (newest : List Kept) (older : List Older) (at : ℕ) (d : List (List ℕ)) → at < length newest
    → get_or (lists_of newest older) at d ≡ list_of newest older at
get_or-lists_of newest older at d within = get_or-map-range_with_len (list_of newest older) 0 (length newest) at at d within (omega arith)

-- the last of a list
pub last_of-push : (list : List (List ℕ)) (content : List ℕ) → last_of (list ++ content ∷ []) ≡ content
last_of-push list content =
    let size : length list ≡ length (list ++ content ∷ []) - 1 = omega (arith, length_push list content) in
    get_or_push list content [] (length (list ++ content ∷ []) - 1) size

-- what is kept of any address is a block
newest_block : (newest : List Kept) (at : ℕ) → All (λ kept. IsBlock (content_of kept)) newest → IsBlock (content_of (get_or newest at None))
newest_block [] at blocks = zeros_block
newest_block (kept ∷ newest) zero blocks = blocks 0 None (omega arith)
newest_block (kept ∷ newest) (suc at) blocks = newest_block newest at (λ k d h. blocks (suc k) d (omega arith))

list_blocks : (newest : List Kept) (older : List Older) (at : ℕ) → IsOrderly newest older → All IsBlock (list_of newest older at)
list_blocks newest older at orderly =
    All-append IsBlock (older_at at older) _
    (All-map IsBlock (λ (entry : Older). content_of entry.content) _
    (All-filter (λ (entry : Older). eqb entry.at at) (λ (entry : Older). IsBlock (content_of entry.content)) older orderly.older_blocks))
    (All-cons IsBlock _ [] (newest_block newest at orderly.newest_blocks) (All-nil IsBlock))

-- what a store stands for is whole
pub whole_lists : (newest : List Kept) (older : List Older) → IsOrderly newest older → IsWhole (length newest) (lists_of newest older)
whole_lists newest older orderly =
    let ks = range_with_len 0 (length newest) in
    record {
      size = length-lists_of newest older;
      held = All-map (λ list. 0 < length list) (list_of newest older) ks
          (λ k d h. omega (arith, length_push (older_at (get_or ks k d) older) (content_of (get_or newest (get_or ks k d) None))));
      contents = All-map (All IsBlock) (list_of newest older) ks (λ k d h. list_blocks newest older (get_or ks k d) orderly);
    }

flushed_over : (newest : List Kept) (older : List Older) (ks : List ℕ) → map (list_of newest []) ks ≡ flushed (map (list_of newest older) ks)
flushed_over newest older [] = refl
flushed_over newest older (k ∷ ks) =
    let last : content_of (get_or newest k None) ≡ last_of (list_of newest older k) = sym (last_of-push (older_at k older) _) in
    λ i. (last i ∷ []) ∷ flushed_over newest older ks i

-- without older contents each block has its newest alone
pub lists_of-flushed : (newest : List Kept) (older : List Older) → lists_of newest [] ≡ flushed (lists_of newest older)
lists_of-flushed newest older = flushed_over newest older (range_with_len 0 (length newest))

-- what is orderly stays so without older contents
pub orderly_flushed : (newest : List Kept) (older : List Older) → IsOrderly newest older → IsOrderly newest []
orderly_flushed newest older orderly = record {
  small = orderly.small;
  rising = λ i j d h within. absurd (omega arith);
  within = All-nil (λ (entry : Older). entry.at < length newest);
  newest_blocks = orderly.newest_blocks;
  older_blocks = All-nil (λ (entry : Older). IsBlock (content_of entry.content));
}

-- blocks of which nothing is kept are zeros
pub lists_of-blank : (n : ℕ) → lists_of (replicate n None) [] ≡ blank n
lists_of-blank n =
    let none : List Kept = replicate n None in
    let size : length none ≡ n = length-replicate {A = Kept} n None in
    same_lists _ _ (length-lists_of none [] ∙ size ∙ sym (length-replicate n (zeros ∷ [])))
    (λ k d h.
    let within : k < length none = omega (arith, length-lists_of none []) in
    let here : get_or none k None ≡ None = get_or-replicate {A = Kept} n k None None (omega arith) in
    get_or-lists_of none [] k d within ∙ ap (λ kept. content_of kept ∷ []) here ∙ sym (get_or-replicate n k (zeros ∷ []) d (omega arith)))

pub orderly_blank : (n : ℕ) → n < 4294967296 → IsOrderly (replicate n None) []
orderly_blank n small = record {
  small = omega (arith, length-replicate {A = Kept} n None);
  rising = λ i j d h within. absurd (omega arith);
  within = All-nil (λ (entry : Older). entry.at < length (replicate n None));
  newest_blocks = All-replicate (λ (kept : Kept). IsBlock (content_of kept)) n None zeros_block;
  older_blocks = All-nil (λ (entry : Older). IsBlock (content_of entry.content));
}

-- nothing passes a test that each element fails
pub filter_nothing : {X : Type 0} (p : X → Bool) (xs : List X) → All (λ x. p x ≡ false) xs → filter p xs ≡ []
filter_nothing p [] fails = refl
filter_nothing p (x ∷ xs) fails =
    rw (fails 0 x (omega arith)) (filter_nothing p xs (λ k d h. fails (suc k) d (omega arith)))

-- all passes a test that each element passes
pub filter_everything : {X : Type 0} (p : X → Bool) (xs : List X) → All (λ x. p x ≡ true) xs → filter p xs ≡ xs
filter_everything p [] passes = refl
filter_everything p (x ∷ xs) passes =
    rw (passes 0 x (omega arith)) (ap (λ rest. x ∷ rest) (filter_everything p xs (λ k d h. passes (suc k) d (omega arith))))

pub older_at-append : (at : ℕ) (xs ys : List Older) → older_at at (xs ++ ys) ≡ older_at at xs ++ older_at at ys
older_at-append at xs ys =
    ap (map (λ (entry : Older). content_of entry.content)) (filter-append (λ (entry : Older). eqb entry.at at) xs ys)
    ∙ map-append (λ (entry : Older). content_of entry.content) _ _

-- no older content stands where all are of later addresses
older_at-above : (at : ℕ) (xs : List Older) → All (λ entry. at < entry.at) xs → older_at at xs ≡ []
older_at-above at xs above =
    ap (map (λ (entry : Older). content_of entry.content))
    (filter_nothing (λ (entry : Older). eqb entry.at at) xs (λ k d h. ne_eqb _ _ (λ same. absurd (omega (arith, above k d h, same)))))

older_at-insert_other : (k place : ℕ) (older : List Older) (entry : Older) → (entry.at ≡ k → ⊥)
    → older_at k (insert older place entry) ≡ older_at k older
older_at-insert_other k place older entry other =
    let skip : older_at k (entry ∷ drop place older) ≡ older_at k (drop place older) = rw (ne_eqb entry.at k other) refl in
    older_at-append k (take place older) (entry ∷ drop place older)
    ∙ ap (λ rest. older_at k (take place older) ++ rest) skip
    ∙ sym (older_at-append k (take place older) (drop place older))
    ∙ ap (older_at k) (take-append-drop place older)

older_at-insert_same : (place : ℕ) (older : List Older) (entry : Older) → All (λ later. entry.at < later.at) (drop place older)
    → older_at entry.at (insert older place entry) ≡ older_at entry.at older ++ content_of entry.content ∷ []
older_at-insert_same place older entry above =
    let none : older_at entry.at (drop place older) ≡ [] = older_at-above entry.at (drop place older) above in
    let here : older_at entry.at (entry ∷ drop place older) ≡ content_of entry.content ∷ [] =
    rw (eq-eqb entry.at entry.at refl) (ap (λ rest. content_of entry.content ∷ rest) none) in
    let front : older_at entry.at (take place older) ≡ older_at entry.at older =
    sym (append-nil _) ∙ ap (λ rest. older_at entry.at (take place older) ++ rest) (sym none)
    ∙ sym (older_at-append entry.at (take place older) (drop place older)) ∙ ap (older_at entry.at) (take-append-drop place older) in
    older_at-append entry.at (take place older) (entry ∷ drop place older) ∙ (λ i. front i ++ here i)

-- what stands from a place on, seen from there
later_drop : (older : List Older) (place at : ℕ) → ((k : ℕ) (d : Older) → place ≤ k → k < length older → at < (get_or older k d).at)
    → All (λ later. at < later.at) (drop place older)
later_drop older place at after k d h =
    rw (get_or-drop place older k d) (after (place + k) d (omega arith) (omega (arith, length-drop place older)))

-- a write appends to the list of its block, and changes no other
pub lists_of-put : (newest : List Kept) (older : List Older) (at place : ℕ) (old kept : Kept) → at < length newest
    → old ≡ get_or newest at None
    → ((k : ℕ) (d : Older) → place ≤ k → k < length older → at < (get_or older k d).at)
    → lists_of (set newest at kept) (insert older place (record { at = at; content = old }))
    ≡ set (lists_of newest older) at (get_or (lists_of newest older) at [] ++ content_of kept ∷ [])
lists_of-put newest older at place old kept within was after =
    let entry : Older = record { at = at; content = old } in
    let newest' : List Kept = set newest at kept in
    let older' : List Older = insert older place entry in
    let size : length newest' ≡ length newest = length-set newest at kept in
    let all : length (lists_of newest older) ≡ length newest = length-lists_of newest older in
    let all' : length (lists_of newest' older') ≡ length newest' = length-lists_of newest' older' in
    let list : List (List ℕ) = get_or (lists_of newest older) at [] ++ content_of kept ∷ [] in
    let same : length (lists_of newest' older') ≡ length (set (lists_of newest older) at list) =
    omega (arith, length-set (lists_of newest older) at list) in
    same_lists _ _ same
    (λ k d h.
    let inside : k < length newest = omega arith in
    let inside' : k < length newest' = omega arith in
    get_or-lists_of newest' older' k d inside' ∙
    ⊎_elim
    (λ here.
    let older_same : older_at at older' ≡ older_at at older ++ content_of old ∷ [] =
    older_at-insert_same place older entry (later_drop older place at after) in
    let new : get_or newest' at None ≡ kept = get_or-set_same newest at kept None within in
    let before : get_or (lists_of newest older) at [] ≡ older_at at older ++ content_of old ∷ [] =
    get_or-lists_of newest older at [] within ∙ ap (λ content. older_at at older ++ content_of content ∷ []) (sym was) in
    let put : get_or (set (lists_of newest older) at list) at d ≡ list =
    get_or-set_same (lists_of newest older) at list d (omega arith) in
    ap (list_of newest' older') (sym here)
    ∙ (λ i. older_same i ++ content_of (new i) ∷ [])
    ∙ ap (λ front. front ++ content_of kept ∷ []) (sym before)
    ∙ sym put ∙ ap (λ j. get_or (set (lists_of newest older) at list) j d) here)
    (λ other.
    let apart : k ≢ at = λ eq. other (sym eq) in
    let older_same : older_at k older' ≡ older_at k older = older_at-insert_other k place older entry other in
    let new : get_or newest' k None ≡ get_or newest k None = get_or-set_other newest at k kept None apart in
    (λ i. older_same i ++ content_of (new i) ∷ [])
    ∙ sym (get_or-lists_of newest older k d inside)
    ∙ sym (get_or-set_other (lists_of newest older) at k list d apart))
    (cases_eq at k))

-- what is orderly stays so after a write
pub orderly_put : (newest : List Kept) (older : List Older) (at place : ℕ) (old kept : Kept) → IsOrderly newest older
    → at < length newest → old ≡ get_or newest at None → IsBlock (content_of kept) → place ≤ length older
    → ((k : ℕ) (d : Older) → k < place → (get_or older k d).at ≤ at)
    → ((k : ℕ) (d : Older) → place ≤ k → k < length older → at < (get_or older k d).at)
    → IsOrderly (set newest at kept) (insert older place (record { at = at; content = old }))
orderly_put newest older at place old kept orderly within was is_block inside before after =
    let entry : Older = record { at = at; content = old } in
    let size : length (set newest at kept) ≡ length newest = length-set newest at kept in
    let old_block : IsBlock (content_of old) = rw was (newest_block newest at orderly.newest_blocks) in
    record {
      small = omega (arith, orderly.small);
      rising = IsNonDecreasingBy-insert (λ (e : Older). e.at) older place entry orderly.rising inside before
          (λ k d low high. omega (arith, after k d low high));
      within = rw size (All-append (λ (e : Older). e.at < length newest) (take place older) (entry ∷ drop place older)
          (All-take (λ (e : Older). e.at < length newest) place older orderly.within)
          (All-cons (λ (e : Older). e.at < length newest) entry (drop place older) within
          (All-drop (λ (e : Older). e.at < length newest) place older orderly.within)));
      newest_blocks = All-set (λ (content : Kept). IsBlock (content_of content)) newest at kept is_block orderly.newest_blocks;
      older_blocks = All-append (λ (e : Older). IsBlock (content_of e.content)) (take place older) (entry ∷ drop place older)
          (All-take (λ (e : Older). IsBlock (content_of e.content)) place older orderly.older_blocks)
          (All-cons (λ (e : Older). IsBlock (content_of e.content)) entry (drop place older) old_block
          (All-drop (λ (e : Older). IsBlock (content_of e.content)) place older orderly.older_blocks));
    }

-- the newest content is what a read gives
pub last_of-lists_of : (newest : List Kept) (older : List Older) (at : ℕ) (kept : Kept) → at < length newest → kept ≡ get_or newest at kept
    → content_of kept ≡ last_of (get_or (lists_of newest older) at [])
last_of-lists_of newest older at kept within is =
    let here : kept ≡ get_or newest at None = get_or_read newest at kept within is None in
    ap content_of here
    ∙ sym (last_of-push (older_at at older) (content_of (get_or newest at None)))
    ∙ ap last_of (sym (get_or-lists_of newest older at [] within))

-- with nothing older, each block has its newest content alone
pub lists_of-alone : (newest : List Kept) → lists_of newest [] ≡ alone (map content_of newest)
lists_of-alone newest =
    let size : length (lists_of newest []) ≡ length newest = length-lists_of newest [] in
    let contents : length (map content_of newest) ≡ length newest = length-map newest content_of in
    same_lists _ _ (size ∙ sym contents ∙ sym (length-map (map content_of newest) (λ content. content ∷ [])))
    (λ k d h.
    let within : k < length newest = omega arith in
    get_or-lists_of newest [] k d within
    ∙ ap (λ content. content ∷ []) (sym (get_or-map content_of newest k None [] within))
    ∙ sym (get_or-map (λ content. content ∷ []) (map content_of newest) k [] d (omega arith)))

-- newest contents alone are orderly
pub orderly_newest : (newest : List Kept) → length newest < 4294967296 → All (λ kept. IsBlock (content_of kept)) newest → IsOrderly newest []
orderly_newest newest small blocks = record {
  small = small;
  rising = λ i j d h within. absurd (omega arith);
  within = All-nil (λ (entry : Older). entry.at < length newest);
  newest_blocks = blocks;
  older_blocks = All-nil (λ (entry : Older). IsBlock (content_of entry.content));
}
