-- What a running volume keeps besides, once the next position was drawn for a node of the live tree.
use Rattle.std.proofs.Common.{◌≡◌, ◌≢◌, ◌⊎◌, inl, inr, ℕ, ◌+◌, ◌<◌, true, List, [], ◌∷◌, ◌++◌, length, slice_index_or, sym, ap, ◌∙◌, subst, arith}
use Rattle.std.specs.Prelude.{Some}
use Rattle.std.specs.FinMap as map
use Rattle.std.specs.FinSet as set
use Rattle.std.proofs.lemmas.Bool.{cases_eq}
use Rattle.std.proofs.lemmas.List.{length_push, get_or_append_left, get_or_push}
use Rattle.f2_format.specs.Footer.{footer_nid, footer_ino, footer_offset}
use Rattle.f2_disk.specs.Contents.{Contents}
use Rattle.f2_model.specs.State.{State}
use Rattle.f2_image.specs.Chains.{Logged, no_block, block_in}
use Rattle.f2_stored.specs.Places.{NodeAt, Places}
use Rattle.f2_stored.specs.Trees.{Unwritten}
use Rattle.f2_stored.specs.Layout.{Owners, Layout, chained}
use Rattle.f2_stored.specs.Numbers.{IsNumbered, MayCount}
use Rattle.f2_stored.specs.Changes.{with_drawn}
use Rattle.f2_stored.specs.Kept.{IsBlockFor}
use Rattle.f2_stored.specs.Whole.{IsOwnNid, IsKeptWhole}
use Rattle.f2_change_laws.specs.Drawing.{MayBeDrawn}
use Rattle.f2_change_laws.proofs.Pairs.{got, gets_still}
use Rattle.f2_event_laws.specs.WholeNodes.{MayComeNext}
use Rattle.f2_event_laws.proofs.Ahead.{same_key}
use Rattle.f2_event_laws.proofs.DrawnSlots.{chain_more}
use Rattle.f2_event_laws.proofs.Sets.{file_put, file_still}

module _ (lists : Contents) (layout : Layout) (state : State) (places : Places) (unwritten : Unwritten) (block : List ℕ) (owners : Owners) (whole : IsKeptWhole lists layout state places unwritten)
    (may : MayComeNext layout state places block) (drawn : MayBeDrawn layout block) (ino offset : ℕ) (is : IsBlockFor state places ino offset block) where
  abbrev layout_now : Layout
  layout_now = with_drawn layout block owners

  abbrev one : Logged
  one = record { at = layout.next; block = block }

  abbrev key : ℕ × ℕ
  key = (footer_ino block, footer_offset block)

  key_is : key ≡ (ino, offset)
  key_is = same_key lists layout state places unwritten block whole may ino offset is

  -- each node of the live tree still has a nid of its own
  pub drawn_nids : (file low : ℕ) (n : NodeAt) → map.get places.nodes (file, low) ≡ Some n → IsOwnNid layout_now file low n.nid
  drawn_nids file low n there = record {
    known = λ other found. known other (got layout.nids key (footer_nid block) (file, low) other found);
    own = λ other found. own other (got layout.nids key (footer_nid block) other n.nid found);
  }
    where
      was : IsOwnNid layout file low n.nid
      was = whole.nids file low n there

      same_node : (a b : NodeAt) → Some a ≡ Some b → a ≡ b
      same_node a b e = cc

      known : (other : ℕ) → (((file, low) ≡ key) × (other ≡ footer_nid block)) ⊎ (map.get layout.nids (file, low) ≡ Some other) → other ≡ n.nid
      known other (inl new) =
          let nodes : n ≡ is.node = same_node n is.node (sym there ∙ ap (map.get places.nodes) (new.0 ∙ key_is) ∙ is.there) in
          new.1 ∙ is.own.footer_nid ∙ sym (ap (λ (m : NodeAt). m.nid) nodes)
      known other (inr old) = was.known other old

      own : (other : ℕ × ℕ) → ((other ≡ key) × (n.nid ≡ footer_nid block)) ⊎ (map.get layout.nids other ≡ Some n.nid) → other ≡ (file, low)
      own other (inl new) = new.0 ∙ key_is ∙ whole.kept.live.laid.nids_apart (ino, offset) (file, low) is.node n is.there there (sym is.own.footer_nid ∙ sym new.1)
      own other (inr old) = was.own other old

  long : length (chained layout ++ record { at = layout.next; block = block } ∷ []) ≡ length (chained layout) + 1
  long = length_push (chained layout) (record { at = layout.next; block = block })

  -- the files of the log are known
  pub drawn_logged : (place : ℕ) → place < length (chained layout_now) → set.contains (set.insert state.logged ino) (footer_ino (block_in (chained layout_now) place)) ≡ true
  drawn_logged = subst (λ (c : List Logged). (place : ℕ) → place < length c → set.contains (set.insert state.logged ino) (footer_ino (block_in c place)) ≡ true) (sym (chain_more layout block owners)) (λ place small. by_place place small (cases_eq place (length (chained layout))))
    where
      by_place : (place : ℕ) → place < length (chained layout ++ one ∷ []) → (place ≡ length (chained layout)) ⊎ (place ≢ length (chained layout)) → set.contains (set.insert state.logged ino) (footer_ino (block_in (chained layout ++ one ∷ []) place)) ≡ true
      by_place place small (inl last) =
          ap (λ (l : Logged). set.contains (set.insert state.logged ino) (footer_ino l.block)) (get_or_push (chained layout) one no_block place (sym last))
          ∙ ap (set.contains (set.insert state.logged ino)) is.own.footer_ino ∙ file_put state.logged ino
      by_place place small (inr other) =
          let inside : place < length (chained layout) = omega (arith, small, other, long) in
          ap (λ (l : Logged). set.contains (set.insert state.logged ino) (footer_ino l.block)) (get_or_append_left (chained layout) (one ∷ []) no_block place inside)
          ∙ file_still state.logged ino (footer_ino (block_in (chained layout) place)) (whole.logged place inside)

  numbered : (l : Logged) → IsNumbered layout l → IsNumbered layout_now l
  numbered l was = record {
    nid = gets_still layout.nids key (footer_nid block) drawn.known (footer_ino l.block, footer_offset l.block) (footer_nid l.block) was.nid;
    least = was.least;
    most = was.most;
    inode = was.inode;
    shape = was.shape;
  }

  fresh : IsNumbered layout_now one
  fresh = record { nid = drawn.numbered.nid; least = drawn.numbered.least; most = drawn.numbered.most; inode = drawn.numbered.inode; shape = drawn.numbered.shape }

  -- and all that it has of a file may count
  pub drawn_counts : (file : ℕ) → MayCount layout file → MayCount layout_now file
  drawn_counts file counts =
      subst (λ (c : List Logged). (place : ℕ) → place < length c → footer_ino (block_in c place) ≡ file → IsNumbered layout_now (slice_index_or c place no_block)) (sym (chain_more layout block owners))
      (λ place small same. by_place place small same (cases_eq place (length (chained layout))))
    where
      by_place : (place : ℕ) → place < length (chained layout ++ one ∷ []) → footer_ino (block_in (chained layout ++ one ∷ []) place) ≡ file → (place ≡ length (chained layout)) ⊎ (place ≢ length (chained layout))
          → IsNumbered layout_now (slice_index_or (chained layout ++ one ∷ []) place no_block)
      by_place place small same (inl last) = subst (IsNumbered layout_now) (sym (get_or_push (chained layout) one no_block place (sym last))) fresh
      by_place place small same (inr other) =
          let inside : place < length (chained layout) = omega (arith, small, other, long) in
          let here : slice_index_or (chained layout ++ one ∷ []) place no_block ≡ slice_index_or (chained layout) place no_block = get_or_append_left (chained layout) (one ∷ []) no_block place inside in
          subst (IsNumbered layout_now) (sym here) (numbered (slice_index_or (chained layout) place no_block) (counts place inside (ap (λ (l : Logged). footer_ino l.block) (sym here) ∙ same)))
