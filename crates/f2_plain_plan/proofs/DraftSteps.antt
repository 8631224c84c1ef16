-- Files are given their places one after another.
use Rattle.std.proofs.Common.{◌≡◌, ◌≢◌, ◌⊎◌, inl, inr, ℕ, ◌+◌, ◌<◌, ◌≤◌, Bool, true, false, cond, List, [], ◌∷◌, ◌++◌, map as map_list, length, refl, sym, ap, subst, ◌∙◌, arith, Some, None, Option, All}
use Rattle.std.specs.Prelude.{is_some, Contains}
use Rattle.std.specs.List.{AllByRecursion, sum_by}
use Rattle.std.specs.Option.{option_map, unwrap_or}
use Rattle.std.specs.Ordering.{nat_cmp, eq_by_cmp}
use Rattle.std.specs.Cmp.{nat_cmp_total}
use Rattle.std.specs.FinMap as map
use Rattle.std.specs.FinMap.{get-insert, get-empty, len-insert, len-empty}
use Rattle.std.specs.FinSet as set
use Rattle.std.proofs.lemmas.Bool.{cases_eq, true≢false}
use Rattle.std.proofs.lemmas.List.{map-append, length-append}
use Rattle.std.proofs.lemmas.List.Elements.{All-nil, All-push, All-append, All-weaker, All-map, recursion_from_All, Contains-push, Contains-append_left}
use Rattle.std.proofs.lemmas.List.Sums.{sum_by_push}
use Rattle.f2_bitset.specs.Numbers.{Numbers}
use Rattle.f2_bitset.proofs.Members.{contains-insert_same}
use Rattle.f2_format.specs.Offsets.{inode_pages}
use Rattle.f2_held.proofs.Lists.{tied-same, tied-true}
use Rattle.f2_held.proofs.MapSums.{total_put}
use Rattle.f2_image.specs.Reached.{AllDiffer}
use Rattle.f2_laid.specs.Laid.{PlaceMap, page_at, pages_of_place}
use Rattle.f2_laid.specs.Planned.{WritesPage}
use Rattle.f2_laid.specs.declared.places.Place.{Place}
use Rattle.f2_laid.specs.declared.planned.Planned.{Planned}
use Rattle.f2_model.specs.Count.{data_of_row}
use Rattle.f2_model.specs.Tree.{Rows}
use Rattle.f2_model.specs.declared.rows.Row.{Row}
use Rattle.f2_plain_plan.specs.Contents.{IsContentOf, pages_before}
use Rattle.f2_plain_plan.specs.Drafts.{AddsRow, IsPageOf, WritesPages}
use Rattle.f2_plain_plan.specs.Pages.{IsAmong, IsTaken}
use Rattle.f2_plain_plan.specs.declared.drafts.Draft.{Draft}
use Rattle.f2_plain_plan.proofs.Differ.{differ-append}
use Rattle.f2_plain_plan.proofs.PageSteps.{page-append, page-append_right}
use Rattle.f2_plain_plan.proofs.PlacePages.{pages_counted}
use Rattle.f2_plain_plan.proofs.ZoneSteps.{still-with_member, len-with_member_new}

-- the addresses that a zone had and those that were taken since
pub record Grows (before after : Numbers) : Type 0 where
  pub first : after.first ≡ before.first
  pub count : after.count ≡ before.count
  pub kept : (at : ℕ) → set.contains before.members at ≡ true → set.contains after.members at ≡ true

grown : (a b c : Numbers) → Grows a b → Grows b c → Grows a c
grown a b c f g = record { first = g.first ∙ f.first; count = g.count ∙ f.count; kept = λ at h. g.kept at (f.kept at h) }

-- what was free stays free the further back one looks
taken_since : (a b c : Numbers) (at : ℕ) → Grows a b → IsTaken b c at → IsTaken a c at
taken_since a b c at grows taken =
    record {
      zone = (subst (λ n. n ≤ at) grows.first taken.zone.0, subst (λ n. at < n + a.count) grows.first (subst (λ n. at < b.first + n) grows.count taken.zone.1));
      free = go (set.contains a.members at) refl;
      now = taken.now;
    }
  where
    go : (there : Bool) → set.contains a.members at ≡ there → set.contains a.members at ≡ false
    go true h = absurd (true≢false (sym (grows.kept at h) ∙ taken.free))
    go false h = h

still_taken : (a b c : Numbers) (at : ℕ) → Grows b c → IsTaken a b at → IsTaken a c at
still_taken a b c at grows taken = record { zone = taken.zone; free = taken.free; now = grows.kept at taken.now }

-- the first files have their places
pub record SoFar (tree : Rows) (before : Draft) (done : List Row) (draft : Draft) : Type 0 where
  pub nodes_grow : Grows before.nodes draft.nodes
  pub pages_grow : Grows before.pages draft.pages
  pub nodes_len : set.len draft.nodes.members ≡ set.len before.nodes.members + length done
  pub pages_len : set.len draft.pages.members ≡ set.len before.pages.members + length draft.blocks.items
  pub blocks_len : length draft.blocks.items ≡ sum_by (data_of_row (map.values tree)) done
  pub files : map.len draft.places ≡ length done
  pub pages_sum : sum_by pages_of_place (map.values draft.places) ≡ length draft.blocks.items
  pub whole : (ino : ℕ) (place : Place) → map.get draft.places ino ≡ Some place → length place.addresses ≡ inode_pages
  pub nodes : (ino : ℕ) (place : Place) → map.get draft.places ino ≡ Some place → IsTaken before.nodes draft.nodes place.at
  pub nodes_apart : (ino other : ℕ) (a b : Place) → map.get draft.places ino ≡ Some a → map.get draft.places other ≡ Some b → a.at ≡ b.at → ino ≡ other
  pub pages : (ino page : ℕ) (place : Place) → map.get draft.places ino ≡ Some place → page_at place page ≢ 0 → IsTaken before.pages draft.pages (page_at place page)
  pub pages_apart : (ino page other more : ℕ) (a b : Place) → map.get draft.places ino ≡ Some a → map.get draft.places other ≡ Some b → page_at a page ≢ 0 → page_at a page ≡ page_at b more
      → (ino ≡ other) × (page ≡ more)
  pub rows : All (λ row. WritesPages draft.blocks.items tree row draft.places) done
  pub only : (ino : ℕ) (place : Place) → map.get draft.places ino ≡ Some place → (row : Row) × Contains done row × (row.ino ≡ ino)
  pub within : All (IsPageOf draft.places) draft.blocks.items
  pub once : AllDiffer (map_list (λ (one : Planned). one.at) draft.blocks.items)

no_some : {X : Type 0} (x : X) → None ≡ Some x → ⊥
no_some x e = cc

same_some : {X : Type 0} (x y : X) → Some x ≡ Some y → x ≡ y
same_some x y e = cc

module _ (tree : Rows) (before : Draft) where
  -- no file has a place yet
  pub no_row : before.places ≡ map.empty → before.blocks.items ≡ [] → SoFar tree before [] before
  no_row empty none =
      let nothing = λ (ino : ℕ) (place : Place) (h : map.get before.places ino ≡ Some place). no_some place (sym (get-empty nat_cmp ino) ∙ ap (λ (m : PlaceMap). map.get m ino) (sym empty) ∙ h) in
      record {
        nodes_grow = record { first = refl; count = refl; kept = λ at h. h };
        pages_grow = record { first = refl; count = refl; kept = λ at h. h };
        nodes_len = omega arith;
        pages_len = let e = ap length none in omega (arith, e);
        blocks_len = ap length none;
        files = ap map.len empty ∙ len-empty nat_cmp Place;
        pages_sum = ap (λ (m : PlaceMap). sum_by pages_of_place (map.values m)) empty ∙ ap (sum_by pages_of_place) no_values ∙ sym (ap length none);
        whole = λ ino place h. absurd (nothing ino place h);
        nodes = λ ino place h. absurd (nothing ino place h);
        nodes_apart = λ ino other a b h. absurd (nothing ino a h);
        pages = λ ino page place h. absurd (nothing ino place h);
        pages_apart = λ ino page other more a b h. absurd (nothing ino a h);
        rows = All-nil (λ row. WritesPages before.blocks.items tree row before.places);
        only = λ ino place h. absurd (nothing ino place h);
        within = subst (All (IsPageOf before.places)) (sym none) (All-nil (IsPageOf before.places));
        once = subst (λ (l : List Planned). AllDiffer (map_list (λ (one : Planned). one.at) l)) (sym none) tt;
      }
    where
      no_length : {A : Type 0} (xs : List A) → length xs ≡ 0 → xs ≡ []
      no_length [] e = refl
      no_length (x ∷ xs) e = absurd (omega arith)

      no_values : map.values (map.empty {X = Place} {R = nat_cmp}) ≡ []
      no_values = ap (map_list (λ e. e.1)) (no_length (map.entries (map.empty {X = Place} {R = nat_cmp})) (sym (map.len-entries map.empty) ∙ len-empty nat_cmp Place))

  module _ (done : List Row) (draft : Draft) (so_far : SoFar tree before done draft) (row : Row) (contents : ℕ → Option (List ℕ)) (content : IsContentOf tree row contents) (fresh : map.get draft.places row.ino ≡ None)
      (after : Draft) (adds : AddsRow row.ino contents draft after) where
    get_here : map.get after.places row.ino ≡ Some adds.place
    get_here = ap (λ (m : PlaceMap). map.get m row.ino) adds.places ∙ get-insert nat_cmp_total draft.places row.ino adds.place row.ino ∙ ap (λ b. cond b (Some adds.place) (map.get draft.places row.ino)) (tied-same row.ino)

    get_other : (ino : ℕ) → ino ≢ row.ino → map.get after.places ino ≡ map.get draft.places ino
    get_other ino ne = ap (λ (m : PlaceMap). map.get m ino) adds.places ∙ get-insert nat_cmp_total draft.places row.ino adds.place ino ∙ ap (λ b. cond b (Some adds.place) (map.get draft.places ino)) (apart (eq_by_cmp nat_cmp ino row.ino) refl)
      where
        apart : (b : Bool) → eq_by_cmp nat_cmp ino row.ino ≡ b → eq_by_cmp nat_cmp ino row.ino ≡ false
        apart true t = absurd (ne (tied-true ino row.ino t))
        apart false t = t

    -- a file that had a place has it still
    was : (ino : ℕ) (place : Place) → map.get draft.places ino ≡ Some place → map.get after.places ino ≡ Some place
    was ino place h = get_other ino (λ e. no_some place (sym fresh ∙ ap (map.get draft.places) (sym e) ∙ h)) ∙ h

    -- a file with a place is this one, or had it before
    which : (ino : ℕ) (place : Place) → map.get after.places ino ≡ Some place → ((ino ≡ row.ino) × (place ≡ adds.place)) ⊎ (map.get draft.places ino ≡ Some place)
    which ino place h = elim (cases_eq ino row.ino) [
      | inl e ↦ inl (e, same_some place adds.place (sym h ∙ ap (map.get after.places) e ∙ get_here))
      | inr ne ↦ inr (sym (get_other ino ne) ∙ h)
    ]

    nodes_step : Grows draft.nodes after.nodes
    nodes_step = record {
      first = ap (λ (n : Numbers). n.first) adds.now;
      count = ap (λ (n : Numbers). n.count) adds.now;
      kept = λ at h. subst (λ (n : Numbers). set.contains n.members at ≡ true) (sym adds.now) (still-with_member draft.nodes adds.place.at at h);
    }

    pages_step : Grows draft.pages after.pages
    pages_step = record { first = adds.pages.first; count = adds.pages.count; kept = adds.pages.kept }

    node_taken : IsTaken draft.nodes after.nodes adds.place.at
    node_taken = record {
      zone = adds.free.in_range;
      free = adds.free.missing;
      now = subst (λ (n : Numbers). set.contains n.members adds.place.at ≡ true) (sym adds.now) (contains-insert_same draft.nodes.members adds.place.at);
    }

    -- an address that was free isn't one that was taken
    apart_from : (a b c : Numbers) (free taken : ℕ) → IsTaken b c free → IsTaken a b taken → free ≢ taken
    apart_from a b c free taken f t e = true≢false (sym t.now ∙ ap (set.contains b.members) (sym e) ∙ f.free)

    nodes_later : (ino : ℕ) (place : Place) → map.get after.places ino ≡ Some place → IsTaken before.nodes after.nodes place.at
    nodes_later ino place h = elim (which ino place h) [
      | inl here ↦ subst (λ (p : Place). IsTaken before.nodes after.nodes p.at) (sym here.1) (taken_since before.nodes draft.nodes after.nodes adds.place.at so_far.nodes_grow node_taken)
      | inr old ↦ still_taken before.nodes draft.nodes after.nodes place.at nodes_step (so_far.nodes ino place old)
    ]

    node_apart : (ino : ℕ) (a b : Place) → a ≡ adds.place → map.get draft.places ino ≡ Some b → a.at ≢ b.at
    node_apart ino a b here old e = apart_from before.nodes draft.nodes after.nodes adds.place.at b.at node_taken (so_far.nodes ino b old) (ap (λ (p : Place). p.at) (sym here) ∙ e)

    nodes_apart_later : (ino other : ℕ) (a b : Place) → map.get after.places ino ≡ Some a → map.get after.places other ≡ Some b → a.at ≡ b.at → ino ≡ other
    nodes_apart_later ino other a b h k e = elim (which ino a h) [
      | inl here ↦ elim (which other b k) [
        | inl there ↦ here.0 ∙ sym there.0
        | inr old ↦ absurd (node_apart other a b here.1 old e)
      ]
      | inr old ↦ elim (which other b k) [
        | inl there ↦ absurd (node_apart ino b a there.1 old (sym e))
        | inr older ↦ so_far.nodes_apart ino other a b old older e
      ]
    ]

    pages_later : (ino page : ℕ) (place : Place) → map.get after.places ino ≡ Some place → page_at place page ≢ 0 → IsTaken before.pages after.pages (page_at place page)
    pages_later ino page place h ne = elim (which ino place h) [
      | inl here ↦ subst (λ (p : Place). IsTaken before.pages after.pages (page_at p page)) (sym here.1)
          (taken_since before.pages draft.pages after.pages (page_at adds.place page) so_far.pages_grow (adds.pages.fresh page (subst (λ (p : Place). page_at p page ≢ 0) here.1 ne)))
      | inr old ↦ still_taken before.pages draft.pages after.pages (page_at place page) pages_step (so_far.pages ino page place old ne)
    ]

    page_apart : (ino page more : ℕ) (a b : Place) → a ≡ adds.place → map.get draft.places ino ≡ Some b → page_at a page ≢ 0 → page_at a page ≢ page_at b more
    page_apart ino page more a b here old ne e =
        apart_from before.pages draft.pages after.pages (page_at a page) (page_at b more)
        (subst (λ (p : Place). IsTaken draft.pages after.pages (page_at p page)) (sym here) (adds.pages.fresh page (subst (λ (p : Place). page_at p page ≢ 0) here ne)))
        (so_far.pages ino more b old (λ z. ne (e ∙ z))) e

    pages_apart_later : (ino page other more : ℕ) (a b : Place) → map.get after.places ino ≡ Some a → map.get after.places other ≡ Some b → page_at a page ≢ 0 → page_at a page ≡ page_at b more → (ino ≡ other) × (page ≡ more)
    pages_apart_later ino page other more a b h k ne e = elim (which ino a h) [
      | inl here ↦ elim (which other b k) [
        | inl there ↦ (here.0 ∙ sym there.0, adds.pages.apart page more (subst (λ (p : Place). page_at p page ≢ 0) here.1 ne) (ap (λ (p : Place). page_at p page) (sym here.1) ∙ e ∙ ap (λ (p : Place). page_at p more) there.1))
        | inr old ↦ absurd (page_apart other page more a b here.1 old ne e)
      ]
      | inr old ↦ elim (which other b k) [
        | inl there ↦ absurd (page_apart ino more page b a there.1 old (λ z. ne (e ∙ z)) (sym e))
        | inr older ↦ so_far.pages_apart ino page other more a b old older ne e
      ]
    ]

    row_later : (other : Row) → WritesPages draft.blocks.items tree other draft.places → WritesPages after.blocks.items tree other after.places
    row_later other w = record {
      place = w.place;
      there = was other.ino w.place w.there;
      contents = w.contents;
      content = w.content;
      pages = λ page low. subst (λ (l : List Planned). WritesPage l (page_at w.place page) (w.contents page)) (sym adds.pages.added) (page-append draft.blocks.items adds.pages.more (page_at w.place page) (w.contents page) (w.pages page low));
    }

    row_here : WritesPages after.blocks.items tree row after.places
    row_here = record {
      place = adds.place;
      there = get_here;
      contents = contents;
      content = content.holds;
      pages = λ page low. subst (λ (l : List Planned). WritesPage l (page_at adds.place page) (contents page)) (sym adds.pages.added) (page-append_right draft.blocks.items adds.pages.more (page_at adds.place page) (contents page) (adds.pages.pages page low));
    }

    page_later : (one : Planned) → IsPageOf draft.places one → IsPageOf after.places one
    page_later one (ino, page, place, there, ne, is) = (ino, page, place, was ino place there, ne, is)

    page_here : (one : Planned) → IsAmong adds.place.addresses one → IsPageOf after.places one
    page_here one (page, ne, is) = (row.ino, page, adds.place, get_here, ne, is)

    was_taken : (one : Planned) → IsPageOf draft.places one → set.contains draft.pages.members one.at ≡ true
    was_taken one (ino, page, place, there, ne, is) = subst (λ at. set.contains draft.pages.members at ≡ true) (sym is) (so_far.pages ino page place there ne).now

    was_free : (one : Planned) → IsAmong adds.place.addresses one → set.contains draft.pages.members one.at ≡ false
    was_free one (page, ne, is) = subst (λ at. set.contains draft.pages.members at ≡ false) (sym is) (adds.pages.fresh page ne).free

    differs : (old : Planned) → IsPageOf draft.places old → AllByRecursion (λ at. old.at ≢ at) (map_list (λ (one : Planned). one.at) adds.pages.more)
    differs old is =
        recursion_from_All (λ at. old.at ≢ at) (map_list (λ (one : Planned). one.at) adds.pages.more)
        (All-map (λ at. old.at ≢ at) (λ (one : Planned). one.at) adds.pages.more
        (All-weaker (IsAmong adds.place.addresses) (λ (one : Planned). old.at ≢ one.at) (λ one among e. true≢false (sym (was_taken old is) ∙ ap (set.contains draft.pages.members) e ∙ was_free one among)) adds.pages.more adds.pages.within))

    once_later : AllDiffer (map_list (λ (one : Planned). one.at) after.blocks.items)
    once_later =
        let P : ℕ → Type 0 = λ at. AllByRecursion (λ other. at ≢ other) (map_list (λ (one : Planned). one.at) adds.pages.more) in
        subst AllDiffer (sym (ap (map_list (λ (one : Planned). one.at)) adds.pages.added ∙ map-append (λ (one : Planned). one.at) draft.blocks.items adds.pages.more))
        (differ-append (map_list (λ (one : Planned). one.at) draft.blocks.items) (map_list (λ (one : Planned). one.at) adds.pages.more) so_far.once adds.pages.once
        (recursion_from_All P (map_list (λ (one : Planned). one.at) draft.blocks.items) (All-map P (λ (one : Planned). one.at) draft.blocks.items (All-weaker (IsPageOf draft.places) (λ (one : Planned). P one.at) differs draft.blocks.items so_far.within))))

    more_blocks : length after.blocks.items ≡ length draft.blocks.items + pages_before contents inode_pages
    more_blocks = ap length adds.pages.added ∙ length-append draft.blocks.items adds.pages.more ∙ ap (λ n. length draft.blocks.items + n) adds.pages.many

    one_row : length (done ++ row ∷ []) ≡ length done + 1
    one_row = length-append done (row ∷ [])

    sum_later : sum_by pages_of_place (map.values after.places) ≡ length after.blocks.items
    sum_later =
        let put = total_put pages_of_place draft.places row.ino adds.place in
        let none : unwrap_or (option_map pages_of_place (map.get draft.places row.ino)) 0 ≡ 0 = ap (λ o. unwrap_or (option_map pages_of_place o) 0) fresh in
        let is = ap (λ (m : PlaceMap). sum_by pages_of_place (map.values m)) adds.places in
        let old = so_far.pages_sum in
        let more = more_blocks in
        let counted = pages_counted adds.place contents adds.pages.more adds.pages.whole adds.pages.pages in
        omega (arith, put, none, is, old, more, counted)

    -- one file more has its place
    pub row_placed : SoFar tree before (done ++ row ∷ []) after
    row_placed =
        record {
          nodes_grow = grown before.nodes draft.nodes after.nodes so_far.nodes_grow nodes_step;
          pages_grow = grown before.pages draft.pages after.pages so_far.pages_grow pages_step;
          nodes_len = let e = ap (λ (n : Numbers). set.len n.members) adds.now ∙ len-with_member_new draft.nodes adds.place.at adds.free.missing in let f = so_far.nodes_len in let g = one_row in omega (arith, e, f, g);
          pages_len = let e = adds.pages.len in let f = so_far.pages_len in let g = more_blocks in omega (arith, e, f, g);
          blocks_len = more_blocks ∙ ap (λ n. n + pages_before contents inode_pages) so_far.blocks_len ∙ ap (λ n. sum_by (data_of_row (map.values tree)) done + n) content.count ∙ sym (sum_by_push (data_of_row (map.values tree)) done row);
          files = ap map.len adds.places ∙ len-insert nat_cmp_total draft.places row.ino adds.place ∙ ap (λ o. cond (is_some o) (map.len draft.places) (map.len draft.places + 1)) fresh ∙ ap (λ n. n + 1) so_far.files ∙ sym one_row;
          pages_sum = sum_later;
          whole = λ ino place h. elim (which ino place h) [
            | inl here ↦ ap (λ (p : Place). length p.addresses) here.1 ∙ adds.pages.whole
            | inr old ↦ so_far.whole ino place old
          ];
          nodes = nodes_later;
          nodes_apart = nodes_apart_later;
          pages = pages_later;
          pages_apart = pages_apart_later;
          rows = All-push (λ other. WritesPages after.blocks.items tree other after.places) done row (All-weaker (λ other. WritesPages draft.blocks.items tree other draft.places) (λ other. WritesPages after.blocks.items tree other after.places) row_later done so_far.rows) row_here;
          only = λ ino place h. elim (which ino place h) [
            | inl here ↦ (row, Contains-push done row, sym here.0)
            | inr old ↦ let one = so_far.only ino place old in (one.0, Contains-append_left done (row ∷ []) one.0 one.1, one.2)
          ];
          within = subst (All (IsPageOf after.places)) (sym adds.pages.added)
              (All-append (IsPageOf after.places) draft.blocks.items adds.pages.more (All-weaker (IsPageOf draft.places) (IsPageOf after.places) page_later draft.blocks.items so_far.within)
              (All-weaker (IsAmong adds.place.addresses) (IsPageOf after.places) page_here adds.pages.more adds.pages.within));
          once = once_later;
        }
