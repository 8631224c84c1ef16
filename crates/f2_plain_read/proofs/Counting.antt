-- A tree that is laid out has its places kept: it takes as many nodes and pages as are counted of it.
use Rattle.std.proofs.Common.{◌≡◌, ◌≢◌, ℕ, zero, suc, ◌+◌, ◌<◌, ◌≤◌, ◌==◌, Bool, true, false, cond, ◌&&◌, List, [], ◌∷◌, map as map_list, length, take, get_or, refl, sym, ap, subst, ◌∙◌, arith, inl, inr, eq-eqb, add-one}
use Rattle.std.specs.Prelude.{T, Option, Some, None, ◌⊎◌, not, if◌then◌else◌}
use Rattle.std.specs.List.{count_by, sum_by, slice_get, flat_map}
use Rattle.std.specs.Option.{option_map}
use Rattle.std.specs.Ordering.{nat_cmp, is_lt, is_eq}
use Rattle.std.specs.Cmp.{nat_cmp_total}
use Rattle.std.specs.FinMap as map
use Rattle.std.specs.FinMap.{nat_cmp-IsAntisymmetric, entries, entries_sorted, get-entries, len-entries, find, is_sorted}
use Rattle.std.specs.FinMap.Entries.{below_all, same_entries}
use Rattle.std.specs.FinSet as set
use Rattle.std.proofs.lemmas.Bool.{ne_eqb}
use Rattle.std.proofs.lemmas.List.{take_all, length-map}
use Rattle.std.proofs.lemmas.List.Sums.{sum_by-cons, count_by_more_no, count_by_more_yes}
use Rattle.f2_dentry_block.specs.Packed.{packed_blocks}
use Rattle.f2_dentry_block.proofs.PackedBlocks.{length-packed_blocks}
use Rattle.f2_format.specs.Geometry.{ImageGeometry}
use Rattle.f2_format.specs.Offsets.{inode_pages, nodes_over, nodes_of_page, node_count}
use Rattle.f2_format.specs.Packing.{blocks_of_names}
use Rattle.f2_image.specs.Images.{Image, block_at}
use Rattle.f2_image.specs.Nodes.{block_there}
use Rattle.f2_laid.specs.Laid.{IsKept, IsPlaced, page_in, pages_of_place, HoldsContent, file, directory}
use Rattle.f2_laid.specs.declared.places.Place.{Place}
use Rattle.f2_laid.specs.declared.stored.Stored.{Stored}
use Rattle.f2_laws.proofs.Places.{same_or_other}
use Rattle.f2_model.specs.Content.{PageMap}
use Rattle.f2_model.specs.Count.{nodes_of_row, data_of_row, data_of_kind, dentry_blocks, page_numbers}
use Rattle.f2_model.specs.Tree.{Rows}
use Rattle.f2_model.specs.declared.rows.Row.{Row}
use Rattle.f2_model.specs.declared.rows.Kind.{Kind}
use Rattle.f2_model.specs.declared.rows.Kind.TheVariants.{Regular, Directory}
use Rattle.f2_plain_read.specs.Reads.{IsLaidOut}
use Rattle.f2_plain_read.proofs.Keeping.{below, below-get, below-same, below-all, len-next, same}
use Rattle.f2_plain_read.proofs.Building.{up_to-past}
use Rattle.f2_plain_read.proofs.Pages.{there_is, none_is}
use Rattle.f2_plain_read.proofs.Taking.{not_both}
use Rattle.f2_plain_read.proofs.Standing.{one_some, some_none}

-- values, with f of each
module _ {X : Type 0} (f : X → ℕ) where
  abbrev shown : List (ℕ × X) → List (ℕ × ℕ)
  shown es = map_list (λ e. (e.0, f e.1)) es

  find_shown : (q : ℕ) (es : List (ℕ × X)) → find nat_cmp q (shown es) ≡ option_map f (find nat_cmp q es)
  find_shown q [] = refl
  find_shown q (e ∷ es) = by_tie (is_eq (nat_cmp q e.0)) (find_shown q es)
    where
      by_tie : (b : Bool) → find nat_cmp q (shown es) ≡ option_map f (find nat_cmp q es) → cond b (Some (f e.1)) (find nat_cmp q (shown es)) ≡ option_map f (cond b (Some e.1) (find nat_cmp q es))
      by_tie true rest = refl
      by_tie false rest = rest

  below_shown : (q : ℕ) (es : List (ℕ × X)) → below_all nat_cmp q (shown es) ≡ below_all nat_cmp q es
  below_shown q [] = refl
  below_shown q (e ∷ es) = ap (λ (b : Bool). is_lt (nat_cmp q e.0) && b) (below_shown q es)

  sorted_shown : (es : List (ℕ × X)) → is_sorted nat_cmp (shown es) ≡ is_sorted nat_cmp es
  sorted_shown [] = refl
  sorted_shown (e ∷ es) = ap (λ (b : Bool). b && is_sorted nat_cmp (shown es)) (below_shown e.0 es) ∙ ap (λ (b : Bool). below_all nat_cmp e.0 es && b) (sorted_shown es)

  sum_shown : (es : List (ℕ × X)) → sum_by f (map_list (λ e. e.1) es) ≡ sum_by (λ (e : ℕ × ℕ). e.1) (shown es)
  sum_shown [] = refl
  sum_shown (e ∷ es) = sum_by-cons f e.1 (map_list (λ e. e.1) es) ∙ ap (λ (n : ℕ). f e.1 + n) (sum_shown es) ∙ sym (sum_by-cons (λ (e : ℕ × ℕ). e.1) (e.0, f e.1) (shown es))

  sum_of : (m : map.FinMap nat_cmp X) → sum_by f (map.values m) ≡ sum_by (λ (e : ℕ × ℕ). e.1) (shown (entries m))
  sum_of m = sum_shown (entries m)

-- sums over maps that tell the same at each key
same_sum : {X Y : Type 0} (f : X → ℕ) (g : Y → ℕ) (a : map.FinMap nat_cmp X) (b : map.FinMap nat_cmp Y) → ((q : ℕ) → option_map f (map.get a q) ≡ option_map g (map.get b q))
    → sum_by f (map.values a) ≡ sum_by g (map.values b)
same_sum f g a b each =
    let alike = same_entries nat_cmp nat_cmp_total nat_cmp-IsAntisymmetric (shown f (entries a)) (shown g (entries b))
    (subst T (sym (sorted_shown f (entries a))) (entries_sorted a)) (subst T (sym (sorted_shown g (entries b))) (entries_sorted b))
    (λ q. find_shown f q (entries a) ∙ ap (option_map f) (sym (get-entries a q)) ∙ each q ∙ ap (option_map g) (get-entries b q) ∙ sym (find_shown g q (entries b))) in
    sum_of f a ∙ ap (sum_by (λ (e : ℕ × ℕ). e.1)) alike ∙ sym (sum_of g b)

-- a sum of ones, and a sum of more
sum_ones : {X : Type 0} (xs : List X) → sum_by (λ x. 1) xs ≡ length xs
sum_ones [] = refl
sum_ones (x ∷ xs) = omega (arith, sum_by-cons (λ x. 1) x xs, sum_ones xs)

sum_more : {X : Type 0} (f : X → ℕ) → ((x : X) → 1 ≤ f x) → (xs : List X) → length xs ≤ sum_by f xs
sum_more f some [] = omega arith
sum_more f some (x ∷ xs) = omega (arith, sum_by-cons f x xs, sum_more f some xs, some x)

-- a file has a node
some_node : (pages : List ℕ) → 1 ≤ node_count pages
unfolding nodes_over
some_node pages = by_len (node_count pages) refl
  where
    by_len : (n : ℕ) → node_count pages ≡ n → 1 ≤ n
    by_len zero e = absurd (not_both (set.contains-from_list nat_cmp_total (0 ∷ flat_map nodes_of_page pages) 0) (ap (λ (t : set.FinSet nat_cmp). set.contains t 0) (set.empty_of_len (nodes_over pages) e) ∙ set.contains-empty nat_cmp 0))
    by_len (suc n) e = omega arith

abbrev is_there : ℕ → Bool
is_there at = not (at == 0)

-- the pages of a regular file are the addresses that are there
module _ (image : Image) (addresses : List ℕ) (pages : PageMap) (each : (page : ℕ) → page < length addresses → block_there image (get_or addresses page 0) ≡ map.get pages page) where
  count_next : (i : ℕ) → i < length addresses → map.len (below pages i) ≡ count_by is_there (take i addresses) → map.len (below pages (i + 1)) ≡ count_by is_there (take (i + 1) addresses)
  count_next i short before = by_address (same_or_other (get_or addresses i 0) 0)
    where
      by_address : (get_or addresses i 0 ≡ 0) ⊎ (get_or addresses i 0 ≢ 0) → map.len (below pages (i + 1)) ≡ count_by is_there (take (i + 1) addresses)
      by_address (inl zero_at) =
          ap map.len (below-same pages i (sym (each i short) ∙ none_is image (get_or addresses i 0) zero_at)) ∙ before
          ∙ sym (count_by_more_no is_there addresses i 0 short (ap not (eq-eqb (get_or addresses i 0) 0 zero_at)))
      by_address (inr other) =
          len-next pages i (block_at image (get_or addresses i 0)) (sym (each i short) ∙ there_is image (get_or addresses i 0) other) ∙ ap (λ (n : ℕ). n + 1) before
          ∙ sym (count_by_more_yes is_there addresses i 0 short (ap not (ne_eqb (get_or addresses i 0) 0 other)))

  count_to : (i : ℕ) → i ≤ length addresses → map.len (below pages i) ≡ count_by is_there (take i addresses)
  count_to zero short = ap map.len (same pages (below pages 0) map.empty (λ q. below-get pages 0 q ∙ up_to-past pages pages 0 0 q (omega arith) ∙ sym (map.get-empty nat_cmp q))) ∙ map.len-empty nat_cmp (List ℕ)
  count_to (suc i) short =
      subst (λ (k : ℕ). map.len (below pages k) ≡ count_by is_there (take k addresses)) (add-one i) (count_next i (omega arith) (count_to i (omega arith)))

  count_file : ((page : ℕ) (bytes : List ℕ) → map.get pages page ≡ Some bytes → page < length addresses) → count_by is_there addresses ≡ map.len pages
  count_file short =
      ap (count_by is_there) (sym (take_all (length addresses) addresses (omega arith))) ∙ sym (count_to (length addresses) (omega arith))
      ∙ ap map.len (below-all pages (length addresses) (λ page there. by_page page (map.get pages page) refl there))
    where
      by_page : (page : ℕ) (o : Option (List ℕ)) → map.get pages page ≡ o → map.get pages page ≢ None → page < length addresses
      by_page page None e there = absurd (there e)
      by_page page (Some bytes) e there = short page bytes e

-- the blocks of a directory are the addresses that are there
at_none : (image : Image) (at : ℕ) → block_there image at ≡ None → at ≡ 0
at_none image at e = by_address (same_or_other at 0)
  where
    by_address : (at ≡ 0) ⊎ (at ≢ 0) → at ≡ 0
    by_address (inl zero_at) = zero_at
    by_address (inr other) = absurd (some_none (block_at image at) (sym (there_is image at other) ∙ e))

at_some : (image : Image) (at : ℕ) (block : List ℕ) → block_there image at ≡ Some block → at ≢ 0
at_some image at block e zero_at = some_none block (sym e ∙ none_is image at zero_at)

count_one : (at : ℕ) (rest : List ℕ) (b : Bool) → is_there at ≡ b → count_by is_there (at ∷ rest) ≡ (if b then 1 else 0) + count_by is_there rest
count_one at rest b e = sum_by-cons (λ x. cond (is_there x) 1 0) at rest ∙ ap (λ (c : Bool). cond c 1 0 + count_by is_there rest) e

count_blocks : (image : Image) (addresses : List ℕ) (blocks : List (List ℕ)) → length blocks ≤ length addresses → ((page : ℕ) → page < length addresses → block_there image (get_or addresses page 0) ≡ slice_get blocks page)
    → count_by is_there addresses ≡ length blocks
count_blocks image [] [] few each = refl
count_blocks image [] (b ∷ blocks) few each = absurd (omega (arith, few))
count_blocks image (a ∷ addresses) [] few each =
    count_one a addresses false (ap not (eq-eqb a 0 (at_none image a (each 0 (omega arith)))))
    ∙ omega (arith, count_blocks image addresses [] (omega arith) (λ page short. each (suc page) (omega (arith, short))))
count_blocks image (a ∷ addresses) (b ∷ blocks) few each =
    count_one a addresses true (ap not (ne_eqb a 0 (at_some image a b (each 0 (omega arith)))))
    ∙ omega (arith, count_blocks image addresses blocks (omega (arith, few)) (λ page short. each (suc page) (omega (arith, short))))

module _ (image : Image) (tree : Rows) (stored : Stored) (out : IsLaidOut image tree stored) where
  -- a file and its place
  row_count : (ino : ℕ) (place : Place) (row : Row) → map.get stored.places ino ≡ Some place → map.get tree ino ≡ Some row → pages_of_place place ≡ data_of_row (map.values tree) row
  row_count ino place row there has =
      let found = out.laid.1.rows ino row has in
      let own : row.ino ≡ ino = out.storable.good.keyed ino row has in
      let same_place : found.place ≡ place = one_some found.place place (sym found.there ∙ ap (map.get stored.places) own ∙ there) in
      by_content own (subst (λ (p : Place). HoldsContent tree row (page_in image p)) same_place found.content)
    where
      whole : length place.addresses ≡ inode_pages
      whole = out.laid.1.placed.whole ino place there

      kind_data : (kind : Kind) → row.kind ≡ kind → data_of_row (map.values tree) row ≡ data_of_kind kind (map.values tree) row
      kind_data kind e = ap (λ (k : Kind). data_of_kind k (map.values tree) row) e

      by_content : row.ino ≡ ino → HoldsContent tree row (page_in image place) → pages_of_place place ≡ data_of_row (map.values tree) row
      by_content own (file kind held) =
          count_file image place.addresses row.pages (λ page short. held page (omega (arith, short, whole)))
          (λ page bytes e. let low = out.storable.short_files ino page row bytes has e in omega (arith, low, whole))
          ∙ sym (kind_data Regular kind)
      by_content own (directory dentries kind are held) =
          let counted : length (packed_blocks dentries) ≡ data_of_kind Directory (map.values tree) row = length-packed_blocks dentries ∙ ap blocks_of_names are.names in
          let here : data_of_kind Directory (map.values tree) row ≤ inode_pages = subst (λ (n : ℕ). dentry_blocks (map.values tree) n ≤ inode_pages) (sym own) (out.storable.short_directories ino row has kind) in
          count_blocks image place.addresses (packed_blocks dentries) (omega (arith, counted, here, whole)) (λ page short. held page (omega (arith, short, whole)))
          ∙ counted ∙ sym (kind_data Directory kind)

  -- what is told at each ino
  each_same : (f : Place → ℕ) (g : Row → ℕ) → ((ino : ℕ) (place : Place) (row : Row) → map.get stored.places ino ≡ Some place → map.get tree ino ≡ Some row → f place ≡ g row)
      → (q : ℕ) → option_map f (map.get stored.places q) ≡ option_map g (map.get tree q)
  each_same f g agree q = by_place (map.get stored.places q) refl (map.get tree q) refl
    where
      by_place : (o : Option Place) → map.get stored.places q ≡ o → (r : Option Row) → map.get tree q ≡ r → option_map f (map.get stored.places q) ≡ option_map g (map.get tree q)
      by_place (Some place) e (Some row) h = ap (option_map f) e ∙ ap (λ (n : ℕ). Some n) (agree q place row e h) ∙ sym (ap (option_map g) h)
      by_place None e None h = ap (option_map f) e ∙ sym (ap (option_map g) h)
      by_place (Some place) e None h = let has = out.laid.1.only q place e in absurd (some_none has.0 (sym has.1 ∙ h))
      by_place None e (Some row) h =
          let found = out.laid.1.rows q row h in
          absurd (some_none found.place (sym found.there ∙ ap (map.get stored.places) (out.storable.good.keyed q row h) ∙ e))

  pub laid_kept : IsKept stored.geometry stored.places
  laid_kept =
      let rows = map.values tree in
      let ones = same_sum (λ (p : Place). 1) (λ (r : Row). 1) stored.places tree (each_same (λ p. 1) (λ r. 1) (λ ino place row there has. refl)) in
      let few = sum_more (nodes_of_row rows) (λ row. some_node (page_numbers row.kind rows row)) rows in
      let pages = same_sum pages_of_place (data_of_row rows) stored.places tree (each_same pages_of_place (data_of_row rows) row_count) in
      record {
        placed = subst (λ (x : ImageGeometry). IsPlaced x stored.places) out.laid.1.geom out.laid.1.placed;
        files = omega (arith, len_is stored.places, sum_ones (map.values stored.places), ones, sum_ones rows, few, out.storable.nodes);
        pages = omega (arith, pages, out.storable.blocks);
      }
    where
      len_is : {X : Type 0} (m : map.FinMap nat_cmp X) → map.len m ≡ length (map.values m)
      len_is m = len-entries m ∙ sym (length-map (entries m) (λ e. e.1))
