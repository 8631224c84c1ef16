-- How many blocks the first checkpoint of an image writes.
use Rattle.std.proofs.Common.{◌≡◌, ◌≢◌, inl, inr, ℕ, ◌+◌, ◌<◌, ◌≤◌, ◌==◌, false, List, [], ◌∷◌, length, sym, ap, ◌∙◌, subst, arith}
use Rattle.std.specs.Prelude.{Option, Some, None, Contains, map as map_list}
use Rattle.std.specs.List.{AllByRecursion, IsDistinct, range_with_len, slice_get}
use Rattle.std.specs.Cmp.{nat_eq_equiv}
use Rattle.std.specs.FinMap as map
use Rattle.std.proofs.lemmas.Bool.{cases_lt, ne_eqb}
use Rattle.std.proofs.lemmas.Bool.Decides.{Decides-eqb}
use Rattle.std.proofs.lemmas.List.{length-map, get_or_past, nil_from_length}
use Rattle.std.proofs.lemmas.List.Elements.{All-map, All-contains, Contains-get_or}
use Rattle.std.proofs.lemmas.List.FromFn.{length-map-range_with_len, get_or-map-range_with_len}
use Rattle.std.proofs.lemmas.Map.Made.{is_member-Decides, length-le_from_is_member}
use Rattle.f2_format.specs.Dentry.{Dentry}
use Rattle.f2_format.specs.Geometry.{nat_address}
use Rattle.f2_format.specs.Offsets.{inode_pages}
use Rattle.f2_model.specs.Tree.{ROOT}
use Rattle.f2_model.specs.declared.rows.Row.{Row}
use Rattle.f2_dentry_block.specs.Packed.{packed_blocks}
use Rattle.f2_image.specs.Packs.{head_address, summary_address}
use Rattle.f2_image.specs.Reached.{AllDiffer}
use Rattle.f2_laid.specs.Laid.{page_at, side_of, root_row, root_alone, HoldsContent, file, directory}
use Rattle.f2_laid.specs.Planned.{WritesPage, WritesRow, IsWriteOf, inode, page, table, summary, head, IsPlanOf}
use Rattle.f2_laid.specs.declared.places.Place.{Place}
use Rattle.f2_laid.specs.declared.planned.Planned.{Planned}
use Rattle.f2_laid.specs.declared.stored.Stored.{Stored}
use Rattle.f2_plain_save.proofs.Root.{there, only, root_names}
use Rattle.f2_plain_save.proofs.Written.{addresses, in_first, in_rest}

-- addresses that differ are distinct by their test
distinct : (xs : List ℕ) → AllDiffer xs → IsDistinct (λ x y. x == y) xs
unfolding IsDistinct
distinct [] differ = tt
distinct (x ∷ xs) differ = (each xs differ.0, distinct xs differ.1)
  where
    each : (ys : List ℕ) → AllByRecursion (λ y. x ≢ y) ys → AllByRecursion (λ y. (x == y) ≡ false) ys
    each [] apart = tt
    each (y ∷ ys) apart = (ne_eqb x y apart.0, each ys apart.1)

-- numbers that differ and are all in a list are no more than it has
no_more : (xs ys : List ℕ) → AllDiffer xs → ((q : ℕ) → Contains xs q → Contains ys q) → length xs ≤ length ys
no_more xs ys differ inside =
    length-le_from_is_member nat_eq_equiv xs ys (distinct xs differ)
    (λ q found. (is_member-Decides Decides-eqb ys q).1 (inside q ((is_member-Decides Decides-eqb xs q).0 found)))

-- where the parts of such a list stand
second : (a b : ℕ) (xs : List ℕ) → Contains (a ∷ (b ∷ xs)) b
second a b xs = in_rest a (b ∷ xs) b (in_first b xs)

third : (a b c : ℕ) (xs : List ℕ) → Contains (a ∷ (b ∷ (c ∷ xs))) c
third a b c xs = in_rest a (b ∷ (c ∷ xs)) c (second b c xs)

behind : (a b c : ℕ) (xs : List ℕ) (q : ℕ) → Contains xs q → Contains (a ∷ (b ∷ (c ∷ xs))) q
behind a b c xs q found = in_rest a (b ∷ (c ∷ xs)) q (in_rest b (c ∷ xs) q (in_rest c xs q found))

-- a directory without names has no pages
no_content : (contents : ℕ → Option (List ℕ)) (number : ℕ) → number < inode_pages → HoldsContent root_alone root_row contents → contents number ≡ None
no_content contents number less (file kind pages) = absurd (cc)
no_content contents number less (directory dentries kind are pages) =
    pages number less ∙ ap (λ (ds : List Dentry). slice_get (packed_blocks ds) number) (nil_from_length dentries none)
  where
    none : length dentries ≡ 0
    none = sym (length-map dentries (λ (d : Dentry). d.name)) ∙ ap length (are.names ∙ root_names)

module _ (next : Stored) (plan : List Planned) (tail : List ℕ) (is : IsPlanOf root_alone map.empty next plan tail) where
  root : WritesRow plan root_alone root_row next.places
  root = is.rows ROOT root_row there

  -- the root's place is the one place
  root_place : (ino : ℕ) (place : Place) → map.get next.places ino ≡ Some place → root.place ≡ place
  root_place ino place held = one_some (sym root.there ∙ (ap (map.get next.places) (sym (only ino row.0 row.1).0) ∙ held))
    where
      row : (row : Row) × (map.get root_alone ino ≡ Some row)
      row = is.only ino place held

      one_some : {a b : Place} → Some a ≡ Some b → a ≡ b
      one_some e = cc

  no_page : (number : ℕ) → page_at root.place number ≡ 0
  no_page number = elim (cases_lt number inode_pages) [ inl less ↦ by_content _ (no_content root.contents number less root.content) (root.pages number less) | inr past ↦ outside past ]
    where
      by_content : (content : Option (List ℕ)) → content ≡ None → WritesPage plan (page_at root.place number) content → page_at root.place number ≡ 0
      by_content None e writes = writes
      by_content (Some bytes) e writes = absurd (cc)

      outside : inode_pages ≤ number → page_at root.place number ≡ 0
      outside past = get_or_past root.place.addresses number 0 (subst (λ n. n ≤ number) (sym (is.placed.whole ROOT root.place root.there)) past)

  -- where such a plan writes: the root's inode, the head and the summary of the pack, and the table
  copy : List ℕ
  copy = map_list (λ block. nat_address next.geometry block next.second) (range_with_len 0 next.geometry.nat)

  in_copy : (at block : ℕ) → block < next.geometry.nat → at ≡ nat_address next.geometry block next.second → Contains copy at
  unfolding copy
  in_copy at block less here =
      subst (Contains copy) (get_or-map-range_with_len (λ b. nat_address next.geometry b next.second) 0 next.geometry.nat block block 0 less (omega arith) ∙ sym here)
      (Contains-get_or copy block 0 (omega (arith, less, length-map-range_with_len (λ b. nat_address next.geometry b next.second) 0 next.geometry.nat)))

  spots : List ℕ
  spots = root.place.at ∷ (head_address (side_of next.side) ∷ (summary_address (side_of next.side) ∷ copy))

  on_spot : (at : ℕ) → IsWriteOf next at → Contains spots at
  unfolding spots
  on_spot at (inode ino place held here) =
      subst (Contains spots) (ap (λ (p : Place). p.at) (root_place ino place held) ∙ sym here)
      (in_first root.place.at (head_address (side_of next.side) ∷ (summary_address (side_of next.side) ∷ copy)))
  on_spot at (page ino number place held some here) = absurd (some (ap (λ (p : Place). page_at p number) (sym (root_place ino place held)) ∙ no_page number))
  on_spot at (table block less here) = behind root.place.at (head_address (side_of next.side)) (summary_address (side_of next.side)) copy at (in_copy at block less here)
  on_spot at (summary here) = subst (Contains spots) (sym here) (third root.place.at (head_address (side_of next.side)) (summary_address (side_of next.side)) copy)
  on_spot at (head here) = subst (Contains spots) (sym here) (second root.place.at (head_address (side_of next.side)) (summary_address (side_of next.side) ∷ copy))

  pub first_few : length plan ≤ next.geometry.nat + 3
  unfolding spots copy
  first_few =
      let few : length (addresses plan) ≤ length spots =
      no_more (addresses plan) spots is.once (λ q found. on_spot q (All-contains (IsWriteOf next) (addresses plan) q (All-map (IsWriteOf next) (λ (one : Planned). one.at) plan is.within) found)) in
      omega (arith, few, length-map plan (λ (one : Planned). one.at), length-map-range_with_len (λ b. nat_address next.geometry b next.second) 0 next.geometry.nat)
