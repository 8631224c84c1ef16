-- The places of files, taken one after another.
use Rattle.std.proofs.Common.{◌≡◌, ◌≢◌, ℕ, ◌+◌, ◌<◌, ◌≤◌, ◌==◌, true, cond, List, [], ◌∷◌, map as map_list, length, take, refl, sym, ap, ◌∙◌, arith, inl, inr}
use Rattle.std.specs.Prelude.{Option, Some, None, ◌⊎◌, not, nat_lt, is_some, IsTrue}
use Rattle.std.specs.List.{count_by, sum_by}
use Rattle.std.specs.Option.{option_map, unwrap_or}
use Rattle.std.specs.Ordering.{nat_cmp}
use Rattle.std.specs.Cmp.{nat_cmp_total}
use Rattle.std.specs.FinMap as map
use Rattle.std.specs.FinMap.{nat_cmp-IsAntisymmetric}
use Rattle.std.specs.FinSet as set
use Rattle.std.proofs.lemmas.Bool.{cases_lt}
use Rattle.std.proofs.lemmas.List.{take_all, get_or_past}
use Rattle.f2_format.specs.Geometry.{ImageGeometry, node_third, data_third, is_in_node, is_in_data}
use Rattle.f2_format.specs.Offsets.{inode_pages}
use Rattle.f2_held.proofs.MapSums.{total_put}
use Rattle.f2_laid.specs.Laid.{PlaceMap, IsKept, page_at, pages_of_place}
use Rattle.f2_laid.specs.declared.places.Place.{Place}
use Rattle.f2_laws.proofs.Places.{same_or_other}
use Rattle.f2_plain_read.specs.Building.{AreBelow, up_to}
use Rattle.f2_plain_read.specs.Keeping.{IsFreeNode, AreNew, IsAmong, AreTaken, places_below, AreKeptBelow}
use Rattle.f2_plain_read.proofs.Building.{put_next, none_next, up_to-past, up_to-in}
use Rattle.f2_plain_read.proofs.Standing.{one_some, some_none}
use Rattle.f2_plain_read.proofs.Taking.{Taken, not_both, not_true, here, stays, one_of, one_more}

module _ {X : Type 0} (whole : map.FinMap nat_cmp X) where
  -- what a map has below a number
  abbrev pub below : ℕ → map.FinMap nat_cmp X
  below limit = map.retain_keys whole (λ ino. nat_lt ino limit)

  pub below-get : (limit q : ℕ) → map.get (below limit) q ≡ up_to limit whole q
  below-get limit q = map.get-retain_keys whole (λ ino. nat_lt ino limit) q (λ x tied. ap (λ ino. nat_lt ino limit) (sym (nat_cmp-IsAntisymmetric q x tied)))

  pub same : (a b : map.FinMap nat_cmp X) → ((q : ℕ) → map.get a q ≡ map.get b q) → a ≡ b
  same a b each = map.same_map nat_cmp_total nat_cmp-IsAntisymmetric a b each

  below-next : (ino : ℕ) (x : X) → map.get whole ino ≡ Some x → below (ino + 1) ≡ map.insert (below ino) ino x
  below-next ino x there = same _ _ (λ q. below-get (ino + 1) q ∙ sym (put_next whole (below ino) ino x there (below-get ino) q))

  pub below-same : (ino : ℕ) → map.get whole ino ≡ None → below (ino + 1) ≡ below ino
  below-same ino none = same _ _ (λ q. below-get (ino + 1) q ∙ sym (none_next whole whole ino none q) ∙ sym (below-get ino q))

  pub below-all : (limit : ℕ) → ((ino : ℕ) → map.get whole ino ≢ None → ino < limit) → below limit ≡ whole
  below-all limit all = same _ _ (λ q. below-get limit q ∙ by_place q (cases_lt q limit))
    where
      by_found : (q : ℕ) → limit ≤ q → (o : Option X) → map.get whole q ≡ o → None ≡ map.get whole q
      by_found q high None e = sym e
      by_found q high (Some x) e = absurd (let low = all q (λ none. some_none x (sym e ∙ none)) in omega (arith, low, high))

      by_place : (q : ℕ) → (q < limit) ⊎ (limit ≤ q) → up_to limit whole q ≡ map.get whole q
      by_place q (inl low) = up_to-in whole whole 0 limit q low
      by_place q (inr high) = up_to-past whole whole 0 limit q high ∙ by_found q high (map.get whole q) refl

  not_yet : (ino : ℕ) → map.get (below ino) ino ≡ None
  not_yet ino = below-get ino ino ∙ up_to-past whole whole 0 ino ino (omega arith)

  pub len-next : (ino : ℕ) (x : X) → map.get whole ino ≡ Some x → map.len (below (ino + 1)) ≡ map.len (below ino) + 1
  len-next ino x there =
      ap map.len (below-next ino x there) ∙ map.len-insert nat_cmp_total (below ino) ino x
      ∙ ap (λ (o : Option X). cond (is_some o) (map.len (below ino)) (map.len (below ino) + 1)) (not_yet ino)

  sum-next : (count : X → ℕ) (ino : ℕ) (x : X) → map.get whole ino ≡ Some x → sum_by count (map.values (below (ino + 1))) ≡ sum_by count (map.values (below ino)) + count x
  sum-next count ino x there =
      let put = total_put count (below ino) ino x in
      let none : unwrap_or (option_map count (map.get (below ino) ino)) 0 ≡ 0 = ap (λ (o : Option X). unwrap_or (option_map count o) 0) (not_yet ino) in
      ap (λ (m : map.FinMap nat_cmp X). sum_by count (map.values m)) (below-next ino x there) ∙ omega (arith, put, none)

module _ (geom : ImageGeometry) (places : PlaceMap) (ino : ℕ) (nodes pages : Taken) (before : AreKeptBelow geom places ino nodes pages) where
  -- an ino without a place
  module _ (none : map.get places ino ≡ None) where
    lower : (q : ℕ) (place : Place) → q < ino + 1 → map.get places q ≡ Some place → q < ino
    lower q place low there = by_ino (same_or_other q ino)
      where
        by_ino : (q ≡ ino) ⊎ (q ≢ ino) → q < ino
        by_ino (inl e) = absurd (some_none place (sym there ∙ ap (map.get places) e ∙ none))
        by_ino (inr other) = omega arith

    pub kept_none : AreKeptBelow geom places (ino + 1) nodes pages
    kept_none =
        record {
          whole = λ q place low there. before.whole q place (lower q place low there) there;
          node_in = λ q place low there. before.node_in q place (lower q place low there) there;
          node_taken = λ q place low there. before.node_taken q place (lower q place low there) there;
          node_of = λ at h. let f = before.node_of at h in (f.0, (f.1.0, (omega (arith, f.1.1.0), f.1.1.1, f.1.1.2)));
          nodes_apart = λ q other a b low also there too e. before.nodes_apart q other a b (lower q a low there) (lower other b also too) there too e;
          page_in = λ q page place low there. before.page_in q page place (lower q place low there) there;
          page_taken = λ q page place low there. before.page_taken q page place (lower q place low there) there;
          page_of = λ at h. let f = before.page_of at h in (f.0, (f.1.0, (f.1.1.0, (omega (arith, f.1.1.1.0), f.1.1.1.1, f.1.1.1.2, f.1.1.1.3))));
          pages_apart = λ q page other more a b low also there too. before.pages_apart q page other more a b (lower q a low there) (lower other b also too) there too;
          files = before.files ∙ ap map.len (sym (below-same places ino none));
          page_count = before.page_count ∙ ap (λ (m : PlaceMap). sum_by pages_of_place (map.values m)) (sym (below-same places ino none));
        }

  module _ (place : Place) (there : map.get places ino ≡ Some place) where
    -- where the places are kept, the addresses of this one are free
    pub free_node : IsKept geom places → IsFreeNode geom nodes place.at
    free_node kept = record { inside = kept.placed.nodes ino place there; free = not_true (set.contains nodes place.at) taken_before }
      where
        taken_before : set.contains nodes place.at ≡ true → ⊥
        taken_before h =
            let f = before.node_of place.at h in
            let e : f.0 ≡ ino = kept.placed.nodes_apart f.0 ino f.1.0 place f.1.1.1 there f.1.1.2 in
            omega (arith, f.1.1.0, e)

    pub new_pages : IsKept geom places → AreNew geom pages place.addresses inode_pages
    new_pages kept =
        record {
          inside = λ page low other. kept.placed.pages ino page place there other;
          fresh = λ page low other. not_true (set.contains pages (page_at place page)) (taken_before page);
          apart = λ page more low also other e. (kept.placed.pages_apart ino page ino more place place there there other e).1;
        }
      where
        taken_before : (page : ℕ) → set.contains pages (page_at place page) ≡ true → ⊥
        taken_before page h =
            let f = before.page_of (page_at place page) h in
            let e = kept.placed.pages_apart f.0 f.1.0 ino page f.1.1.0 place f.1.1.1.1 there (λ none. f.1.1.1.3 (sym f.1.1.1.2 ∙ none)) f.1.1.1.2 in
            omega (arith, f.1.1.1.0, e.0)

    -- one place more
    module _ (all : length place.addresses ≡ inode_pages) (free : IsFreeNode geom nodes place.at) (more : Taken) (new : AreNew geom pages place.addresses inode_pages) (taken : AreTaken pages more place.addresses inode_pages) where
      abbrev Which : ℕ → Place → Type 0
      Which q p = (q < ino) ⊎ ((q ≡ ino) × (p ≡ place))

      which : (q : ℕ) (p : Place) → q < ino + 1 → map.get places q ≡ Some p → Which q p
      which q p low has = by_ino (same_or_other q ino)
        where
          by_ino : (q ≡ ino) ⊎ (q ≢ ino) → Which q p
          by_ino (inl e) = inr (e, one_some p place (sym has ∙ ap (map.get places) e ∙ there))
          by_ino (inr other) = inl (omega arith)

      short : (page : ℕ) → page_at place page ≢ 0 → page < inode_pages
      short page other = by_place (cases_lt page inode_pages)
        where
          by_place : (page < inode_pages) ⊎ (inode_pages ≤ page) → page < inode_pages
          by_place (inl low) = low
          by_place (inr high) = absurd (other (get_or_past place.addresses page 0 (omega (arith, all, high))))

      abbrev nodes_now : Taken
      nodes_now = set.insert nodes place.at

      whole : (q : ℕ) (p : Place) → map.get places q ≡ Some p → Which q p → length p.addresses ≡ inode_pages
      whole q p has (inl low) = before.whole q p low has
      whole q p has (inr e) = ap (λ (r : Place). length r.addresses) e.1 ∙ all

      node_in : (q : ℕ) (p : Place) → map.get places q ≡ Some p → Which q p → IsTrue (is_in_node geom p.at)
      node_in q p has (inl low) = before.node_in q p low has
      node_in q p has (inr e) = ap (λ (r : Place). is_in_node geom r.at) e.1 ∙ free.inside

      node_taken : (q : ℕ) (p : Place) → map.get places q ≡ Some p → Which q p → set.contains nodes_now p.at ≡ true
      node_taken q p has (inl low) = stays nodes place.at p.at (before.node_taken q p low has)
      node_taken q p has (inr e) = ap (λ (r : Place). set.contains nodes_now r.at) e.1 ∙ here nodes place.at

      node_of : (at : ℕ) → (at ≡ place.at) ⊎ (set.contains nodes at ≡ true) → (q : ℕ) × ((p : Place) × ((q < ino + 1) × (map.get places q ≡ Some p) × (p.at ≡ at)))
      node_of at (inl e) = (ino, (place, (omega arith, there, sym e)))
      node_of at (inr h) = let f = before.node_of at h in (f.0, (f.1.0, (omega (arith, f.1.1.0), f.1.1.1, f.1.1.2)))

      node_fresh : (q : ℕ) (p : Place) → q < ino → map.get places q ≡ Some p → p.at ≡ place.at → ⊥
      node_fresh q p low has e = not_both (sym (ap (set.contains nodes) e) ∙ before.node_taken q p low has) free.free

      nodes_apart : (q other : ℕ) (a b : Place) → map.get places q ≡ Some a → map.get places other ≡ Some b → a.at ≡ b.at → Which q a → Which other b → q ≡ other
      nodes_apart q other a b has too e (inl low) (inl also) = before.nodes_apart q other a b low also has too e
      nodes_apart q other a b has too e (inl low) (inr f) = absurd (node_fresh q a low has (e ∙ ap (λ (r : Place). r.at) f.1))
      nodes_apart q other a b has too e (inr f) (inl also) = absurd (node_fresh other b also too (sym e ∙ ap (λ (r : Place). r.at) f.1))
      nodes_apart q other a b has too e (inr f) (inr g) = f.0 ∙ sym g.0

      page_in : (q page : ℕ) (p : Place) → map.get places q ≡ Some p → page_at p page ≢ 0 → Which q p → IsTrue (is_in_data geom (page_at p page))
      page_in q page p has other (inl low) = before.page_in q page p low has other
      page_in q page p has other (inr e) =
          let here_other : page_at place page ≢ 0 = λ none. other (ap (λ (r : Place). page_at r page) e.1 ∙ none) in
          ap (λ (r : Place). is_in_data geom (page_at r page)) e.1 ∙ new.inside page (short page here_other) here_other

      page_taken : (q page : ℕ) (p : Place) → map.get places q ≡ Some p → page_at p page ≢ 0 → Which q p → set.contains more (page_at p page) ≡ true
      page_taken q page p has other (inl low) = taken.kept (page_at p page) (before.page_taken q page p low has other)
      page_taken q page p has other (inr e) =
          let here_other : page_at place page ≢ 0 = λ none. other (ap (λ (r : Place). page_at r page) e.1 ∙ none) in
          ap (λ (r : Place). set.contains more (page_at r page)) e.1 ∙ taken.added (page_at place page) (page, (short page here_other, refl, here_other))

      page_of : (at : ℕ) → (set.contains pages at ≡ true) ⊎ IsAmong place.addresses inode_pages at
          → (q : ℕ) × ((page : ℕ) × ((p : Place) × ((q < ino + 1) × (map.get places q ≡ Some p) × (page_at p page ≡ at) × (at ≢ 0))))
      page_of at (inl h) = let f = before.page_of at h in (f.0, (f.1.0, (f.1.1.0, (omega (arith, f.1.1.1.0), f.1.1.1.1, f.1.1.1.2, f.1.1.1.3))))
      page_of at (inr f) = (ino, (f.0, (place, (omega arith, there, f.1.1, f.1.2))))

      page_fresh : (q page own : ℕ) (p : Place) → q < ino → map.get places q ≡ Some p → page_at p page ≢ 0 → page_at p page ≡ page_at place own → ⊥
      page_fresh q page own p low has other e =
          let here_other : page_at place own ≢ 0 = λ none. other (e ∙ none) in
          not_both (sym (ap (set.contains pages) e) ∙ before.page_taken q page p low has other) (new.fresh own (short own here_other) here_other)

      pages_apart : (q page other own : ℕ) (a b : Place) → map.get places q ≡ Some a → map.get places other ≡ Some b → page_at a page ≢ 0 → page_at a page ≡ page_at b own → Which q a → Which other b → (q ≡ other) × (page ≡ own)
      pages_apart q page other own a b has too there_is e (inl low) (inl also) = before.pages_apart q page other own a b low also has too there_is e
      pages_apart q page other own a b has too there_is e (inl low) (inr f) = absurd (page_fresh q page own a low has there_is (e ∙ ap (λ (r : Place). page_at r own) f.1))
      pages_apart q page other own a b has too there_is e (inr f) (inl also) = absurd (page_fresh other own page b also too (λ none. there_is (e ∙ none)) (sym e ∙ ap (λ (r : Place). page_at r page) f.1))
      pages_apart q page other own a b has too there_is e (inr f) (inr g) =
          let same_at : page_at place page ≡ page_at place own = sym (ap (λ (r : Place). page_at r page) f.1) ∙ e ∙ ap (λ (r : Place). page_at r own) g.1 in
          let here_other : page_at place page ≢ 0 = λ none. there_is (ap (λ (r : Place). page_at r page) f.1 ∙ none) in
          (f.0 ∙ sym g.0, new.apart page own (short page here_other) (short own (λ none. here_other (same_at ∙ none))) here_other same_at)

      pub kept_next : AreKeptBelow geom places (ino + 1) nodes_now more
      kept_next =
          record {
            whole = λ q p low has. whole q p has (which q p low has);
            node_in = λ q p low has. node_in q p has (which q p low has);
            node_taken = λ q p low has. node_taken q p has (which q p low has);
            node_of = λ at h. node_of at (one_of nodes place.at at h);
            nodes_apart = λ q other a b low also has too e. nodes_apart q other a b has too e (which q a low has) (which other b also too);
            page_in = λ q page p low has other. page_in q page p has other (which q p low has);
            page_taken = λ q page p low has other. page_taken q page p has other (which q p low has);
            page_of = λ at h. page_of at (taken.members at h);
            pages_apart = λ q page other own a b low also has too there_is e. pages_apart q page other own a b has too there_is e (which q a low has) (which other b also too);
            files = one_more nodes place.at free.free ∙ ap (λ (n : ℕ). n + 1) before.files ∙ sym (len-next places ino place there);
            page_count =
                taken.count_is ∙ ap (λ (n : ℕ). n + count_by (λ at. not (at == 0)) (take inode_pages place.addresses)) before.page_count
                ∙ ap (λ (xs : List ℕ). sum_by pages_of_place (map.values (places_below places ino)) + count_by (λ at. not (at == 0)) xs) (take_all inode_pages place.addresses (omega (arith, all)))
                ∙ sym (sum-next places pages_of_place ino place there);
          }

pub kept_nothing : (geom : ImageGeometry) (places : PlaceMap) (nodes pages : Taken) → nodes ≡ set.empty → pages ≡ set.empty → AreKeptBelow geom places 0 nodes pages
kept_nothing geom places nodes pages no_nodes no_pages =
    record {
      whole = λ q p low has. absurd (omega arith);
      node_in = λ q p low has. absurd (omega arith);
      node_taken = λ q p low has. absurd (omega arith);
      node_of = λ at h. absurd (none nodes no_nodes at h);
      nodes_apart = λ q other a b low also has too e. absurd (omega arith);
      page_in = λ q page p low has other. absurd (omega arith);
      page_taken = λ q page p low has other. absurd (omega arith);
      page_of = λ at h. absurd (none pages no_pages at h);
      pages_apart = λ q page other own a b low also has too there_is e. absurd (omega arith);
      files = ap set.len no_nodes ∙ set.len-empty nat_cmp ∙ sym (ap map.len none_below ∙ map.len-empty nat_cmp Place);
      page_count = ap set.len no_pages ∙ set.len-empty nat_cmp ∙ sym (ap (λ (m : PlaceMap). sum_by pages_of_place (map.values m)) none_below ∙ no_sum);
    }
  where
    none : (taken : Taken) → taken ≡ set.empty → (at : ℕ) → set.contains taken at ≡ true → ⊥
    none taken e at h = not_both h (ap (λ (t : Taken). set.contains t at) e ∙ set.contains-empty nat_cmp at)

    none_below : places_below places 0 ≡ map.empty
    none_below = same places (places_below places 0) map.empty (λ q. below-get places 0 q ∙ up_to-past places places 0 0 q (omega arith) ∙ sym (map.get-empty nat_cmp q))

    no_sum : sum_by pages_of_place (map.values (map.empty {X = Place} {R = nat_cmp})) ≡ 0
    no_sum = of_none (map.entries (map.empty {X = Place} {R = nat_cmp})) (sym (map.len-entries (map.empty {X = Place} {R = nat_cmp})) ∙ map.len-empty nat_cmp Place)
      where
        of_none : (es : List (ℕ × Place)) → length es ≡ 0 → sum_by pages_of_place (map_list (λ e. e.1) es) ≡ 0
        of_none [] e = refl
        of_none (x ∷ es) e = absurd (omega (arith, e))

-- all places are kept
pub kept_all : (geom : ImageGeometry) (places : PlaceMap) (limit : ℕ) (nodes pages : Taken) → AreBelow limit places → AreKeptBelow geom places limit nodes pages → set.len nodes ≤ node_third geom → set.len pages ≤ data_third geom
    → IsKept geom places
kept_all geom places limit nodes pages below_limit are few_nodes few_pages =
    record {
      placed = record {
        whole = λ q place there. are.whole q place (low q place there) there;
        nodes = λ q place there. are.node_in q place (low q place there) there;
        nodes_apart = λ q other a b there too. are.nodes_apart q other a b (low q a there) (low other b too) there too;
        pages = λ q page place there. are.page_in q page place (low q place there) there;
        pages_apart = λ q page other more a b there too. are.pages_apart q page other more a b (low q a there) (low other b too) there too;
      };
      files = omega (arith, are.files, ap map.len (below-all places limit below_limit), few_nodes);
      pages = omega (arith, are.page_count, ap (λ (m : PlaceMap). sum_by pages_of_place (map.values m)) (below-all places limit below_limit), few_pages);
    }
  where
    low : (q : ℕ) (place : Place) → map.get places q ≡ Some place → q < limit
    low q place there = below_limit q (λ none. some_none place (sym there ∙ none))

pub few_enough : (geom : ImageGeometry) (places : PlaceMap) (limit : ℕ) (nodes pages : Taken) → AreBelow limit places → AreKeptBelow geom places limit nodes pages → IsKept geom places
    → (set.len nodes ≤ node_third geom) × (set.len pages ≤ data_third geom)
few_enough geom places limit nodes pages below_limit are kept = (
  omega (arith, are.files, ap map.len (below-all places limit below_limit), kept.files),
  omega (arith, are.page_count, ap (λ (m : PlaceMap). sum_by pages_of_place (map.values m)) (below-all places limit below_limit), kept.pages),
)
