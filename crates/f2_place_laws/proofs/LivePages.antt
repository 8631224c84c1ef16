-- A live tree after a page was written to a new place, where each row has the ino of its key.
use Rattle.std.proofs.Common.{◌≡◌, ◌≢◌, ◌⊎◌, inl, inr, ℕ, ◌<◌, ◌≤◌, false, List, length, IsTrue, IsSome, is_some, refl, sym, ap, ◌∙◌, subst, arith}
use Rattle.std.specs.Prelude.{Some, None}
use Rattle.std.specs.Option.{unwrap_or}
use Rattle.std.specs.FinMap as map
use Rattle.std.specs.FinSet as set
use Rattle.std.proofs.lemmas.Bool.Decides.{nat_tests}
use Rattle.f2_format.specs.Offsets.{inode_pages, direct_of}
use Rattle.f2_format.specs.Geometry.{ImageGeometry, data_third, is_in_data}
use Rattle.f2_disk.specs.Contents.{Contents, IsWritten, last_of}
use Rattle.f2_model.specs.Tree.{Rows}
use Rattle.f2_model.specs.declared.rows.Row.{Row}
use Rattle.f2_image.proofs.OneBase.{same_some}
use Rattle.f2_image_laws.specs.Chained.{contents_at}
use Rattle.f2_stored.specs.Places.{NodeAt, Places, page_at, IsNamedAbove, IsPagePlaced, IsPageBlock, HasNames, HasPlaces}
use Rattle.f2_stored.specs.Trees.{IsNodeHere, IsPageHere, Unwritten, IsLiveAt}
use Rattle.f2_place_laws.specs.Living.{teller_of, with_page, page_written}
use Rattle.f2_stored.specs.Kept.{IsElsewhere}
use Rattle.f2_place_laws.proofs.Alike.{node_here_alike, page_here_alike, page_block_alike}
use Rattle.f2_place_laws.proofs.Options.{the_one}
use Rattle.f2_place_laws.proofs.Pairs.{pair, same_or_other, put_here, put_other, still_there, was_there, as_many, not_put, not_left}
use Rattle.f2_place_laws.proofs.WrittenBlocks.{written_here, written_other}

-- the node that tells the address of a page
in_direct : (page offset : ℕ) → direct_of page ≡ Some offset → teller_of page ≡ offset
in_direct page offset is = rw is

inode_has : (page : ℕ) → page < inode_pages → direct_of page ≡ None
unfolding direct_of
inode_has page small = grind (arith, nat_tests)

in_inode : (page : ℕ) → page < inode_pages → teller_of page ≡ 0
in_inode page small = let none : direct_of page ≡ None = inode_has page small in rw none

module _ (geom : ImageGeometry) (tree : Rows) (places : Places) (ino page at : ℕ) (was : IsSome (map.get places.pages (ino, page))) where
  abbrev pub new_places : Places
  new_places = with_page places ino page at

  abbrev the_page : ℕ × ℕ
  the_page = (ino, page)

  -- an address of the new places is the new one or an old one
  data IsOf (of : ℕ × ℕ) (a : ℕ) : Type 0 where
    own : of ≡ the_page → a ≡ at → IsOf of a
    elder : of ≢ the_page → map.get places.pages of ≡ Some a → IsOf of a

  found : (of : ℕ × ℕ) (a : ℕ) → map.get new_places.pages of ≡ Some a → IsOf of a
  found of a there = by_case (same_or_other of (ino, page))
    where
      by_case : (of ≡ the_page) ⊎ (of ≢ the_page) → IsOf of a
      by_case (inl same) = own same (same_some a at (sym there ∙ ap (map.get new_places.pages) same ∙ put_here places.pages (ino, page) at))
      by_case (inr other) = elder other (sym (put_other places.pages (ino, page) at of other) ∙ there)

  still : (of : ℕ × ℕ) → IsSome (map.get places.pages of) → IsSome (map.get new_places.pages of)
  still of there = still_there places.pages (ino, page) at of there

  before : (of : ℕ × ℕ) → IsSome (map.get new_places.pages of) → IsSome (map.get places.pages of)
  before of there = was_there places.pages (ino, page) at was of there

  -- each other page has the address that it had
  same_address : (file p : ℕ) → pair file p ≢ the_page → page_at new_places file p ≡ page_at places file p
  same_address file p other = ap (λ o. unwrap_or o 0) (put_other places.pages (ino, page) at (file, p) other)

  module _ (laid : HasPlaces geom tree places) (free : IsElsewhere places at) where
    page_placed : (file p a : ℕ) → map.get new_places.pages (file, p) ≡ Some a → IsPagePlaced tree new_places file p
    page_placed file p a there =
        let elder_at = the_one (map.get places.pages (file, p)) (before (file, p) (ap is_some there)) in
        let placed = laid.pages file p elder_at.0 elder_at.1 in
        record { row = placed.row; within = placed.within; direct = placed.direct }

    pages_apart : (one other : ℕ × ℕ) (a : ℕ) → IsOf one a → IsOf other a → a ≢ 0 → one ≡ other
    pages_apart one other a (own one_is a_is) (own other_is also) some = one_is ∙ sym other_is
    pages_apart one other a (own one_is a_is) (elder apart there) some = absurd (free.pages other.0 other.1 a there a_is)
    pages_apart one other a (elder apart there) (own other_is a_is) some = absurd (free.pages one.0 one.1 a there a_is)
    pages_apart one other a (elder apart there) (elder apart_too there_too) some = laid.pages_apart one other a there there_too some

    names_there : (directory : ℕ) → HasNames tree places directory → HasNames tree new_places directory
    names_there directory names = record {
      bound = λ p place dentry stands. names.bound p place dentry (record { page_there = before (directory, p) stands.page_there; is = stands.is });
      all = λ file row there other under.
          let has = names.all file row there other under in
          (has.0, has.1, (has.2.0, record { page_there = still (directory, has.0) has.2.1.page_there; is = has.2.1.is }, has.2.2));
      once = λ p place more next a b at_a at_b same.
          names.once p place more next a b (record { page_there = before (directory, p) at_a.page_there; is = at_a.is }) (record { page_there = before (directory, more) at_b.page_there; is = at_b.is }) same;
    }

    few : map.len new_places.pages ≤ data_third geom
    few = let many = as_many places.pages (ino, page) at was in let room = laid.few_pages in omega (arith, many, room)

    named_above : (file low : ℕ) → IsNamedAbove places file low → IsNamedAbove new_places file low
    named_above file low above = record { upper = above.upper; slot = above.slot; small = above.small; names = above.names; there = above.there }

    laid_anew : HasPlaces geom tree new_places
    laid_anew = record {
      nodes = λ file low n there.
          let placed = laid.nodes file low n there in
          record { row = placed.row; least = placed.least; most = placed.most; inode = placed.inode; above = λ other. named_above file low (placed.above other) };
      nids_apart = laid.nids_apart;
      nodes_apart = laid.nodes_apart;
      pages = page_placed;
      pages_apart = λ one other a there_a there_b some. pages_apart one other a (found one a there_a) (found other a there_b) some;
      inodes = laid.inodes;
      names = λ file row there kind. names_there file (laid.names file row there kind);
      few_nodes = laid.few_nodes;
      few_pages = few;
    }

  -- a node that doesn't tell the page's address tells what it told
  module _ (keyed : (file : ℕ) (row : Row) → map.get tree file ≡ Some row → row.ino ≡ file) where
    not_the_page : (file low p : ℕ) → pair file low ≢ pair ino (teller_of page) → teller_of p ≡ low → pair file p ≢ the_page
    not_the_page file low p other tells same =
        let file_is : file ≡ ino = ap (λ (of : ℕ × ℕ). of.0) same in
        let page_is : p ≡ page = ap (λ (of : ℕ × ℕ). of.1) same in
        let low_is : low ≡ teller_of page = sym tells ∙ ap teller_of page_is in
        other (λ i. (file_is i, low_is i))

    node_alike : (file low : ℕ) (n : NodeAt) (block : List ℕ) → pair file low ≢ pair ino (teller_of page) → IsNodeHere geom tree places file low n block → IsNodeHere geom tree new_places file low n block
    node_alike file low n block other here =
        node_here_alike places new_places geom tree file low n block (λ under. refl) (λ p direct. same_address file p (not_the_page file low p other (in_direct p low direct)))
        (λ first row is p small.
        let own = keyed file row is in
        subst (λ ino. page_at new_places ino p ≡ page_at places ino p) (sym own) (same_address file p (not_the_page file low p other (in_inode p small ∙ sym first)))) here

    -- the page stands at its new place, and what doesn't tell its address where it stood
    module _ (lists new : Contents) (unwritten : Unwritten) (row : Row) (content : List ℕ) (live : IsLiveAt lists geom tree places unwritten) (of_tree : map.get tree ino ≡ Some row) (free : IsElsewhere places at)
        (within : at < length lists) (in_zone : IsTrue (is_in_data geom at)) (block : IsPageBlock places row page content) (written : IsWritten at content lists new) where
      node_stands : (file low : ℕ) (n : NodeAt) → map.get places.nodes (file, low) ≡ Some n → set.contains (page_written unwritten ino page).nodes (file, low) ≡ false → IsNodeHere geom tree new_places file low n (last_of (contents_at new n.at))
      node_stands file low n there out =
          let parts = not_put unwritten.nodes (ino, teller_of page) (file, low) out in
          let reads = ap last_of (written_other lists new at content written n.at (free.nodes file low n there)) in
          node_alike file low n (last_of (contents_at new n.at)) parts.0 (subst (IsNodeHere geom tree places file low n) (sym reads) (live.nodes file low n there parts.1))

      own_page : IsPageHere geom tree new_places ino page at (last_of (contents_at new at))
      own_page =
          subst (IsPageHere geom tree new_places ino page at) (sym (written_here lists new at content within written)) (record {
            in_zone = in_zone;
            own = λ other there.
                let same : row ≡ other = same_some row other (sym of_tree ∙ there) in
                page_block_alike places new_places other page content refl (subst (λ (r : Row). IsPageBlock places r page content) same block);
          })

      page_stands : (file p a : ℕ) → IsOf (file, p) a → set.contains (page_written unwritten ino page).pages (file, p) ≡ false → IsPageHere geom tree new_places file p a (last_of (contents_at new a))
      page_stands file p a (own same is) out =
          subst (λ (of : ℕ × ℕ). IsPageHere geom tree new_places of.0 of.1 a (last_of (contents_at new a))) (sym same) (subst (λ a. IsPageHere geom tree new_places ino page a (last_of (contents_at new a))) (sym is) own_page)
      page_stands file p a (elder other there) out =
          let reads = ap last_of (written_other lists new at content written a (free.pages file p a there)) in
          page_here_alike places new_places geom tree file p a (last_of (contents_at new a)) (λ r. refl)
          (subst (IsPageHere geom tree places file p a) (sym reads) (live.pages file p a there (not_left unwritten.pages (ino, page) (file, p) other out)))

      pub live_with_page : IsLiveAt new geom tree new_places (page_written unwritten ino page)
      live_with_page = record {
        laid = laid_anew live.laid free;
        nodes = node_stands;
        pages = λ file p a there out. page_stands file p a (found (file, p) a there) out;
        rows = λ file r there kind p has. still (r.ino, p) (live.rows file r there kind p has);
      }

-- the law of written pages for such trees
pub keyed_pages_stand : (lists new : Contents) (geom : ImageGeometry) (tree : Rows) (places : Places) (unwritten : Unwritten) (ino page at : ℕ) (row : Row) (content : List ℕ)
    → ((file : ℕ) (other : Row) → map.get tree file ≡ Some other → other.ino ≡ file)
    → IsLiveAt lists geom tree places unwritten → map.get tree ino ≡ Some row → IsSome (map.get places.pages (ino, page)) → IsElsewhere places at → at < length lists → IsTrue (is_in_data geom at)
    → IsPageBlock places row page content → IsWritten at content lists new → IsLiveAt new geom tree (with_page places ino page at) (page_written unwritten ino page)
keyed_pages_stand lists new geom tree places unwritten ino page at row content keyed live of_tree was free within in_zone block written =
    live_with_page geom tree places ino page at was keyed lists new unwritten row content live of_tree free within in_zone block written
