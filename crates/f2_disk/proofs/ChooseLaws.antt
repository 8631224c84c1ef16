-- How the contents that a pick numbers become the newest, block by block.
use Rattle.std.proofs.Common.{◌≡◌, ℕ, zero, suc, ◌+◌, ◌-◌, ◌<◌, ◌≤◌, ◌/◌, ◌%◌, true, false, eqb, List, [], ◌∷◌, ◌++◌, length, get_or, set, take, drop, map, All, None, refl, sym, ap, ◌∙◌, subst, ⊎_elim, arith, add-zero}
use Rattle.std.specs.List.Sorted.{IsNonDecreasingBy}
use Rattle.std.proofs.Math.Nat.{div-one, mod-one, mod-lt}
use Rattle.std.proofs.lemmas.Bool.{ne_eqb, eq-eqb, cases_lt, cases_eq}
use Rattle.std.proofs.lemmas.List.{append-nil, get_or-map, get_or_append_left, get_or_push, length_push, length-map, length-take-le, get_or-take, get_or-drop, length-drop, take-append-drop, same_lists, get_or-set_same, get_or-set_other, length-set}
use Rattle.std.proofs.lemmas.List.Elements.{All-set}
use Rattle.f2_disk.proofs.ContentsLaws.{zeros_block}
use Rattle.f2_disk.specs.Contents.{Contents, IsBlock, alone}
use Rattle.f2_disk.specs.Pick.{picked, crashed}
use Rattle.f2_disk.specs.declared.store.Older.{Older}
use Rattle.f2_disk.specs.Store.{Kept, content_of, older_at, lists_of, IsOrderly}
use Rattle.f2_disk.proofs.StoreLaws.{length-lists_of, get_or-lists_of, filter_nothing, filter_everything, older_at-append, lists_of-alone, lists_of-flushed}

-- what is left of a pick at a block
pub rest_at : ℕ → Contents → ℕ → ℕ
rest_at pick [] k = pick
rest_at pick (list ∷ lists) zero = pick
rest_at pick (list ∷ lists) (suc k) = rest_at (pick / length list) lists k

-- the content that a pick numbers at a block
abbrev pub chosen_at : ℕ → Contents → ℕ → List ℕ
chosen_at pick lists k = get_or (get_or lists k []) (rest_at pick lists k % length (get_or lists k [])) []

pub length-picked : (pick : ℕ) (lists : Contents) → length (picked pick lists) ≡ length lists
length-picked pick [] = refl
length-picked pick (list ∷ lists) = ap suc (length-picked (pick / length list) lists)

pub get_or-picked : (pick : ℕ) (lists : Contents) (k : ℕ) (d : List ℕ) → k < length lists → get_or (picked pick lists) k d ≡ chosen_at pick lists k
unfolding rest_at
get_or-picked pick [] k d within = absurd (omega arith)
get_or-picked pick (list ∷ lists) zero d within = refl
get_or-picked pick (list ∷ lists) (suc k) d within = get_or-picked (pick / length list) lists k d (omega arith)

rest_none : (pick : ℕ) (lists : Contents) → rest_at pick lists zero ≡ pick
unfolding rest_at
rest_none pick [] = refl
rest_none pick (list ∷ lists) = refl

rest_more : (pick : ℕ) (lists : Contents) (k : ℕ) → k < length lists
    → rest_at pick lists (suc k) ≡ rest_at pick lists k / length (get_or lists k [])
unfolding rest_at
rest_more pick [] k within = absurd (omega arith)
rest_more pick (list ∷ lists) zero within = rest_none (pick / length list) lists
rest_more pick (list ∷ lists) (suc k) within = rest_more (pick / length list) lists k (omega arith)

-- blocks with one content take nothing of a pick
rest_gap : (pick : ℕ) (lists : Contents) (from n : ℕ) → from + n ≤ length lists
    → ((k : ℕ) → from ≤ k → k < from + n → length (get_or lists k []) ≡ 1) → rest_at pick lists (from + n) ≡ rest_at pick lists from
rest_gap pick lists from zero within single = ap (rest_at pick lists) (add-zero from)
rest_gap pick lists from (suc n) within single =
    let next : from + suc n ≡ suc (from + n) = omega arith in
    let one : length (get_or lists (from + n) []) ≡ 1 = single (from + n) (omega arith) (omega arith) in
    ap (rest_at pick lists) next
    ∙ rest_more pick lists (from + n) (omega arith)
    ∙ ap (λ m. rest_at pick lists (from + n) / m) one
    ∙ div-one (rest_at pick lists (from + n))
    ∙ rest_gap pick lists from n (omega arith) (λ k low high. single k low (omega arith))

-- a block of which nothing older is kept
older_at-none : (at : ℕ) (older : List Older) → ((k : ℕ) (d : Older) → k < length older → (get_or older k d).at ≡ at → ⊥) → older_at at older ≡ []
older_at-none at older none =
    ap (map (λ (entry : Older). content_of entry.content))
    (filter_nothing (λ (entry : Older). eqb entry.at at) older (λ k d h. ne_eqb _ _ (none k d h)))

older_at-every : (at : ℕ) (older : List Older) → ((k : ℕ) (d : Older) → k < length older → (get_or older k d).at ≡ at)
    → older_at at older ≡ map (λ entry. content_of entry.content) older
older_at-every at older every =
    ap (map (λ (entry : Older). content_of entry.content))
    (filter_everything (λ (entry : Older). eqb entry.at at) older (λ k d h. eq-eqb _ _ (every k d h)))

-- the older contents of a block are a run of those that are kept
older_at-run : (at next count : ℕ) (older : List Older) → next + count ≤ length older
    → ((k : ℕ) (d : Older) → k < next → (get_or older k d).at ≡ at → ⊥)
    → ((k : ℕ) (d : Older) → next ≤ k → k < next + count → (get_or older k d).at ≡ at)
    → ((k : ℕ) (d : Older) → next + count ≤ k → k < length older → (get_or older k d).at ≡ at → ⊥)
    → older_at at older ≡ map (λ entry. content_of entry.content) (take count (drop next older))
older_at-run at next count older within before same after =
    let later = drop next older in
    let size : length later ≡ length older - next = length-drop next older in
    let front : older_at at (take next older) ≡ [] =
    older_at-none at (take next older) (λ k d h.
    let short : length (take next older) ≡ next = length-take-le next older (omega arith) in
    rw (get_or-take next older k d (omega arith)) (before k d (omega arith))) in
    let middle : older_at at (take count later) ≡ map (λ entry. content_of entry.content) (take count later) =
    older_at-every at (take count later) (λ k d h.
    let short : length (take count later) ≡ count = length-take-le count later (omega arith) in
    rw (get_or-take count later k d (omega arith), get_or-drop next older k d) (same (next + k) d (omega arith) (omega arith))) in
    let back : older_at at (drop count later) ≡ [] =
    older_at-none at (drop count later) (λ k d h.
    let short : length (drop count later) ≡ length later - count = length-drop count later in
    rw (get_or-drop count later k d, get_or-drop next older (count + k) d) (after (next + (count + k)) d (omega arith) (omega arith))) in
    ap (older_at at) (sym (take-append-drop next older))
    ∙ older_at-append at (take next older) later
    ∙ ap (λ xs. xs ++ older_at at later) front
    ∙ ap (older_at at) (sym (take-append-drop count later))
    ∙ older_at-append at (take count later) (drop count later)
    ∙ ap (λ xs. older_at at (take count later) ++ xs) back
    ∙ append-nil (older_at at (take count later))
    ∙ middle

-- from a place on, this many older contents belong to the block of the first, and later ones to later blocks
pub record IsRun (older : List Older) (from count : ℕ) : Type 0 where
  pub some : 0 < count
  pub bound : from + count ≤ length older
  pub same : (k : ℕ) (d : Older) → from ≤ k → k < from + count → (get_or older k d).at ≡ (get_or older from d).at
  pub later : (k : ℕ) (d : Older) → from + count ≤ k → k < length older → (get_or older from d).at < (get_or older k d).at

-- a run ends where the addresses go past that of its first
pub run_of : (older : List Older) (from place at : ℕ) → IsNonDecreasingBy (λ (entry : Older). entry.at) older → from < length older
    → ((d : Older) → (get_or older from d).at ≡ at) → place ≤ length older
    → ((k : ℕ) (d : Older) → k < place → (get_or older k d).at ≤ at)
    → ((k : ℕ) (d : Older) → place ≤ k → k < length older → at < (get_or older k d).at)
    → (from < place) × IsRun older from (place - from)
run_of older from place at rising inside first bound below above =
    let entry : Older = record { at = at; content = None } in
    let past : from < place =
    ⊎_elim (λ ahead. ahead) (λ behind. absurd (omega (arith, above from entry behind inside, first entry))) (cases_lt from place) in (
      past,
      record {
        some = omega arith;
        bound = omega arith;
        same = λ k d low high. omega (arith, below k d (omega arith), rising from k d low (omega arith), first d);
        later = λ k d low high. omega (arith, above k d (omega arith) high, first d);
      },
    )

-- Up to this address each block has the content that the pick numbers as its newest, and from there on all is as before.
pub record IsChosen (pick : ℕ) (newest0 : List Kept) (older0 : List Older) (done next rest : ℕ) (newest : List Kept) (older : List Older) : Type 0 where
  pub blocks : length newest ≡ length newest0
  pub size : length older ≡ length older0
  pub rising : IsNonDecreasingBy (λ (entry : Older). entry.at) older
  pub behind : (k : ℕ) (d : Older) → next ≤ k → get_or older k d ≡ get_or older0 k d
  pub inside : next ≤ length older0
  pub passed : (k : ℕ) (d : Older) → k < next → (get_or older0 k d).at < done
  pub ahead : (k : ℕ) (d : Older) → next ≤ k → k < length older0 → done ≤ (get_or older0 k d).at
  pub within : done ≤ length newest0
  pub rest_is : rest ≡ rest_at pick (lists_of newest0 older0) done
  pub chosen : (k : ℕ) → k < done → content_of (get_or newest k None) ≡ chosen_at pick (lists_of newest0 older0) k
  pub same : (k : ℕ) → done ≤ k → get_or newest k None ≡ get_or newest0 k None
  pub newest_blocks : All (λ kept. IsBlock (content_of kept)) newest
  pub older_blocks : All (λ entry. IsBlock (content_of entry.content)) older

-- at the beginning
pub chosen_none : (pick : ℕ) (newest : List Kept) (older : List Older) → IsOrderly newest older
    → IsChosen pick newest older 0 0 pick newest older
chosen_none pick newest older orderly = record {
  blocks = refl;
  size = refl;
  rising = orderly.rising;
  behind = λ k d h. refl;
  inside = omega arith;
  passed = λ k d h. absurd (omega arith);
  ahead = λ k d low high. omega arith;
  within = omega arith;
  rest_is = sym (rest_none pick (lists_of newest older));
  chosen = λ k h. absurd (omega arith);
  same = λ k h. refl;
  newest_blocks = orderly.newest_blocks;
  older_blocks = orderly.older_blocks;
}

-- a block with nothing older has one content
single_list : (newest : List Kept) (older : List Older) (k : ℕ) → k < length newest
    → ((i : ℕ) (d : Older) → i < length older → (get_or older i d).at ≡ k → ⊥)
    → get_or (lists_of newest older) k [] ≡ content_of (get_or newest k None) ∷ []
single_list newest older k within none =
    get_or-lists_of newest older k [] within ∙ ap (λ front. front ++ content_of (get_or newest k None) ∷ []) (older_at-none k older none)

-- and that is the one that a pick numbers
single_chosen : (pick : ℕ) (newest : List Kept) (older : List Older) (k : ℕ) → k < length newest
    → ((i : ℕ) (d : Older) → i < length older → (get_or older i d).at ≡ k → ⊥)
    → content_of (get_or newest k None) ≡ chosen_at pick (lists_of newest older) k
single_chosen pick newest older k within none =
    let lists = lists_of newest older in
    let content = content_of (get_or newest k None) in
    let one : get_or lists k [] ≡ content ∷ [] = single_list newest older k within none in
    let first : rest_at pick lists k % 1 ≡ 0 = mod-one (rest_at pick lists k) in
    ap (λ i. get_or (content ∷ []) i []) (sym first)
    ∙ ap (λ list. get_or list (rest_at pick lists k % length list) []) (sym one)

-- at the end
pub chosen_all : (pick : ℕ) (newest0 : List Kept) (older0 : List Older) (done next rest : ℕ) (newest : List Kept) (older : List Older)
    → IsChosen pick newest0 older0 done next rest newest older → length older0 ≤ next
    → map content_of newest ≡ picked pick (lists_of newest0 older0)
chosen_all pick newest0 older0 done next rest newest older chosen over =
    let lists = lists_of newest0 older0 in
    let size : length (map content_of newest) ≡ length (picked pick lists) =
    length-map newest content_of ∙ chosen.blocks ∙ sym (length-lists_of newest0 older0) ∙ sym (length-picked pick lists) in
    let all : length (map content_of newest) ≡ length newest = length-map newest content_of in
    same_lists _ _ size (λ k d h.
    let inside : k < length newest0 = omega (arith, chosen.blocks) in
    get_or-map content_of newest k None d (omega arith)
    ∙ ⊎_elim (λ before. chosen.chosen k before)
    (λ after. ap content_of (chosen.same k after)
    ∙ single_chosen pick newest0 older0 k inside (λ i e low at. absurd (omega (arith, chosen.passed i e (omega arith), at))))
    (cases_lt k done)
    ∙ sym (get_or-picked pick lists k d (omega (arith, length-lists_of newest0 older0))))

-- the older contents of a run
abbrev pub run_contents : List Older → ℕ → ℕ → List (List ℕ)
run_contents older next count = map (λ entry. content_of entry.content) (take count (drop next older))

pub length-run_contents : (older : List Older) (next count : ℕ) → next + count ≤ length older → length (run_contents older next count) ≡ count
length-run_contents older next count within =
    length-map (take count (drop next older)) (λ (entry : Older). content_of entry.content)
    ∙ length-take-le count (drop next older) (omega (arith, length-drop next older))

pub get_or-run_contents : (older : List Older) (next count k : ℕ) (d : Older) → next + count ≤ length older → k < count
    → get_or (run_contents older next count) k [] ≡ content_of (get_or older (next + k) d).content
get_or-run_contents older next count k d within inside =
    let size : length (take count (drop next older)) ≡ count =
    length-take-le count (drop next older) (omega (arith, length-drop next older)) in
    get_or-map (λ (entry : Older). content_of entry.content) (take count (drop next older)) k d [] (omega arith)
    ∙ ap (λ (entry : Older). content_of entry.content) (get_or-take count (drop next older) k d inside ∙ get_or-drop next older k d)

-- one run more
pub chosen_more : (pick : ℕ) (newest0 : List Kept) (older0 : List Older) (done next rest : ℕ) (newest : List Kept) (older : List Older)
    → IsOrderly newest0 older0 → IsChosen pick newest0 older0 done next rest newest older
    → (count at : ℕ) → IsRun older next count → ((d : Older) → (get_or older next d).at ≡ at)
    → (newest' : List Kept) (older' : List Older) → length newest' ≡ length newest → length older' ≡ length older
    → IsNonDecreasingBy (λ (entry : Older). entry.at) older'
    → ((k : ℕ) (d : Older) → next + count ≤ k → get_or older' k d ≡ get_or older k d)
    → ((k : ℕ) → (k ≡ at → ⊥) → get_or newest' k None ≡ get_or newest k None)
    → content_of (get_or newest' at None)
    ≡ get_or (run_contents older0 next count ++ content_of (get_or newest0 at None) ∷ []) (rest % (count + 1)) []
    → All (λ kept. IsBlock (content_of kept)) newest' → All (λ entry. IsBlock (content_of entry.content)) older'
    → IsChosen pick newest0 older0 (at + 1) (next + count) (rest / (count + 1)) newest' older'
chosen_more pick newest0 older0 done next rest newest older orderly chosen count at run first newest' older' size_n size_o rising stays others head new_blocks old_blocks =
    let entry : Older = record { at = at; content = None } in
    let lists = lists_of newest0 older0 in
    let size0 : length older ≡ length older0 = chosen.size in
    let bound : next + count ≤ length older0 = omega (arith, run.bound) in
    let some : 0 < count = run.some in
    let first0 : (d : Older) → (get_or older0 next d).at ≡ at =
    λ d. ap (λ (e : Older). e.at) (sym (chosen.behind next d (omega arith))) ∙ first d in
    let same0 : (k : ℕ) (d : Older) → next ≤ k → k < next + count → (get_or older0 k d).at ≡ at =
    λ k d low high. ap (λ (e : Older). e.at) (sym (chosen.behind k d low)) ∙ run.same k d low high ∙ first d in
    let later0 : (k : ℕ) (d : Older) → next + count ≤ k → k < length older0 → at < (get_or older0 k d).at =
    λ k d low high.
    let there : get_or older k d ≡ get_or older0 k d = chosen.behind k d (omega arith) in
    omega (arith, run.later k d low (omega arith), ap (λ (e : Older). e.at) there, first d) in
    let reached : done ≤ at = omega (arith, chosen.ahead next entry (omega arith) (omega arith), first0 entry) in
    let inside : at < length newest0 = omega (arith, orderly.within next entry (omega arith), first0 entry) in
    let none : (k : ℕ) → done ≤ k → k < at → (i : ℕ) (d : Older) → i < length older0 → (get_or older0 i d).at ≡ k → ⊥ =
    λ k low high i d h is. ⊎_elim
    (λ before. absurd (omega (arith, chosen.passed i d before, is)))
    (λ after. absurd (omega (arith, orderly.rising next i d after h, first0 d, is)))
    (cases_lt i next) in
    let here : get_or lists at [] ≡ run_contents older0 next count ++ content_of (get_or newest0 at None) ∷ [] =
    get_or-lists_of newest0 older0 at [] inside
    ∙ ap (λ front. front ++ content_of (get_or newest0 at None) ∷ [])
    (older_at-run at next count older0 bound
    (λ k d low is. absurd (omega (arith, chosen.passed k d low, is)))
    same0
    (λ k d low high is. absurd (omega (arith, later0 k d low high, is)))) in
    let contents : length (get_or lists at []) ≡ count + 1 =
    ap length here ∙ length_push (run_contents older0 next count) _ ∙ ap (λ n. n + 1) (length-run_contents older0 next count bound) in
    let all : length lists ≡ length newest0 = length-lists_of newest0 older0 in
    let there : rest_at pick lists at ≡ rest =
    ap (rest_at pick lists) (let sum : at ≡ done + (at - done) = omega arith in sum)
    ∙ rest_gap pick lists done (at - done) (omega arith)
    (λ k low high. ap length (single_list newest0 older0 k (omega arith) (none k low (omega arith))))
    ∙ sym chosen.rest_is in
    record {
      blocks = size_n ∙ chosen.blocks;
      size = size_o ∙ chosen.size;
      rising = rising;
      behind = λ k d low. stays k d low ∙ chosen.behind k d (omega arith);
      inside = bound;
      passed = λ k d low. ⊎_elim
          (λ before. omega (arith, chosen.passed k d before))
          (λ after. omega (arith, same0 k d after low))
          (cases_lt k next);
      ahead = λ k d low high. omega (arith, later0 k d low high);
      within = omega arith;
      rest_is = (λ i. sym there i / sym contents i)
          ∙ sym (rest_more pick lists at (omega arith)) ∙ ap (rest_at pick lists) (let next_at : suc at ≡ at + 1 = omega arith in next_at);
      chosen = λ k low. ⊎_elim
          (λ before. ap content_of (others k (λ is. absurd (omega arith))) ∙ chosen.chosen k before)
          (λ after. ⊎_elim
          (λ below. ap content_of (others k (λ is. absurd (omega arith)) ∙ chosen.same k after)
          ∙ single_chosen pick newest0 older0 k (omega arith) (none k after below))
          (λ above.
          let is : at ≡ k = omega arith in
          let digit : rest % (count + 1) ≡ rest_at pick lists at % length (get_or lists at []) = λ i. sym there i % sym contents i in
          let found : content_of (get_or newest' at None) ≡ chosen_at pick lists at =
          head ∙ (λ i. get_or (sym here i) (digit i) []) in
          subst (λ (j : ℕ). content_of (get_or newest' j None) ≡ chosen_at pick lists j) is found)
          (cases_lt k at))
          (cases_lt k done);
      same = λ k low. others k (λ is. absurd (omega arith)) ∙ chosen.same k (omega arith);
      newest_blocks = new_blocks;
      older_blocks = old_blocks;
    }

-- one run more, where the newest content of its block is the one that is numbered
pub chosen_newest : (pick : ℕ) (newest0 : List Kept) (older0 : List Older) (done next rest : ℕ) (newest : List Kept) (older : List Older)
    → IsOrderly newest0 older0 → IsChosen pick newest0 older0 done next rest newest older
    → (count at : ℕ) → IsRun older next count → ((d : Older) → (get_or older next d).at ≡ at)
    → count ≤ rest % (count + 1)
    → IsChosen pick newest0 older0 (at + 1) (next + count) (rest / (count + 1)) newest older
chosen_newest pick newest0 older0 done next rest newest older orderly chosen count at run first last =
    let entry : Older = record { at = at; content = None } in
    let bound : next + count ≤ length older0 = omega (arith, run.bound, chosen.size) in
    let some : 0 < count = run.some in
    let there : get_or older next entry ≡ get_or older0 next entry = chosen.behind next entry (omega arith) in
    let reached : done ≤ at =
    omega (arith, chosen.ahead next entry (omega arith) (omega arith), first entry, ap (λ (e : Older). e.at) there) in
    let digit : rest % (count + 1) ≡ count = omega (arith, last, mod-lt rest {m = count + 1} (omega arith)) in
    chosen_more pick newest0 older0 done next rest newest older orderly chosen count at run first newest older refl refl chosen.rising
    (λ k d h. refl) (λ k h. refl)
    (ap content_of (chosen.same at reached)
    ∙ sym (get_or_push (run_contents older0 next count) (content_of (get_or newest0 at None)) [] (rest % (count + 1))
    (length-run_contents older0 next count bound ∙ sym digit)))
    chosen.newest_blocks chosen.older_blocks

-- one run more, where an older content of its block is numbered, and taken
pub chosen_older : (pick : ℕ) (newest0 : List Kept) (older0 : List Older) (done next rest : ℕ) (newest : List Kept) (older : List Older)
    → IsOrderly newest0 older0 → IsChosen pick newest0 older0 done next rest newest older
    → (count at : ℕ) → IsRun older next count → ((d : Older) → (get_or older next d).at ≡ at)
    → rest % (count + 1) < count
    → (content : Kept) (e : Older) → content ≡ (get_or older (next + rest % (count + 1)) e).content
    → (left : Older) → left.at ≡ at → left.content ≡ None
    → IsChosen pick newest0 older0 (at + 1) (next + count) (rest / (count + 1)) (set newest at content) (set older (next + rest % (count + 1)) left)
chosen_older pick newest0 older0 done next rest newest older orderly chosen count at run first inside content e is left here gone =
    let kept = rest % (count + 1) in
    let m = next + kept in
    let bound : next + count ≤ length older = run.bound in
    let bound0 : next + count ≤ length older0 = omega (arith, chosen.size) in
    let in_older : m < length older = omega arith in
    let at_m : (d : Older) → (get_or older m d).at ≡ at = λ d. run.same m d (omega arith) (omega arith) ∙ first d in
    let there : get_or older m e ≡ get_or older0 m e = chosen.behind m e (omega arith) in
    let in_newest : at < length newest =
    let then : get_or older next e ≡ get_or older0 next e = chosen.behind next e (omega arith) in
    omega (arith, orderly.within next e (omega arith), ap (λ (x : Older). x.at) then, first e, chosen.blocks) in
    let at_same : (i : ℕ) (d : Older) → (get_or (set older m left) i d).at ≡ (get_or older i d).at =
    λ i d. ⊎_elim
    (λ eq. subst (λ (j : ℕ). (get_or (set older m left) j d).at ≡ (get_or older j d).at) eq
    (ap (λ (x : Older). x.at) (get_or-set_same older m left d in_older) ∙ here ∙ sym (at_m d)))
    (λ ne. ap (λ (x : Older). x.at) (get_or-set_other older m i left d (λ eq. ne (sym eq))))
    (cases_eq m i) in
    let size_o : length (set older m left) ≡ length older = length-set older m left in
    let is_block : IsBlock (content_of content) = rw is (chosen.older_blocks m e in_older) in
    let left_block : IsBlock (content_of left.content) = rw gone zeros_block in
    chosen_more pick newest0 older0 done next rest newest older orderly chosen count at run first (set newest at content) (set older m left)
    (length-set newest at content) size_o
    (λ i j d low high. omega (arith, at_same i d, at_same j d, chosen.rising i j d low (omega arith)))
    (λ k d low. get_or-set_other older m k left d (λ eq. absurd (omega arith)))
    (λ k ne. get_or-set_other newest at k content None ne)
    (ap content_of (get_or-set_same newest at content None in_newest)
    ∙ ap content_of (is ∙ ap (λ (x : Older). x.content) there)
    ∙ sym (get_or-run_contents older0 next count kept e bound0 inside)
    ∙ sym (get_or_append_left (run_contents older0 next count) (content_of (get_or newest0 at None) ∷ []) [] kept
    (omega (arith, length-run_contents older0 next count bound0))))
    (All-set (λ (x : Kept). IsBlock (content_of x)) newest at content is_block chosen.newest_blocks)
    (All-set (λ (x : Older). IsBlock (content_of x.content)) older m left left_block chosen.older_blocks)

-- what a crash leaves where the pick numbers contents
pub crashed_chosen : (pick : ℕ) (lists : Contents) (newest : List Kept) → (pick ≡ 18446744073709551615 → ⊥)
    → map content_of newest ≡ picked pick lists → lists_of newest [] ≡ crashed pick lists
crashed_chosen pick lists newest other chosen =
    let no : eqb pick 18446744073709551615 ≡ false = ne_eqb pick 18446744073709551615 other in
    lists_of-alone newest ∙ ap alone (chosen ∙ rw no refl)

-- what a crash leaves where it keeps the newest
pub crashed_newest : (pick : ℕ) (newest : List Kept) (older : List Older) → pick ≡ 18446744073709551615
    → lists_of newest [] ≡ crashed pick (lists_of newest older)
crashed_newest pick newest older is =
    let yes : eqb pick 18446744073709551615 ≡ true = eq-eqb pick 18446744073709551615 is in
    lists_of-flushed newest older ∙ ap alone (rw yes refl)
