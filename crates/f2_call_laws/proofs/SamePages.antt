-- What a call leaves of the places of pages and nodes.
use Rattle.std.proofs.Common.{◌≡◌, ◌≢◌, ◌⊎◌, inl, inr, ℕ, Bool, true, false, IsSome, is_some, refl, sym, ap, ◌∙◌, subst, true≢false}
use Rattle.std.specs.Prelude.{Option, Some, None}
use Rattle.std.specs.Option.{unwrap_or}
use Rattle.std.specs.FinMap as map
use Rattle.std.specs.FinSet as set
use Rattle.f2_disk.specs.Contents.{Contents, last_of}
use Rattle.f2_model.specs.State.{State}
use Rattle.f2_model.specs.declared.rows.Row.{Row}
use Rattle.f2_model.specs.declared.rows.Kind.TheVariants.{Regular}
use Rattle.f2_image_laws.specs.Chained.{contents_at}
use Rattle.f2_place_laws.proofs.Options.{the_one}
use Rattle.f2_place_laws.proofs.PageKinds.{regular_page}
use Rattle.f2_stored.specs.Places.{NodeAt, Places, page_at}
use Rattle.f2_stored.specs.Trees.{Unwritten}
use Rattle.f2_stored.specs.Layout.{Layout}
use Rattle.f2_stored.specs.Kept.{IsElsewhere}
use Rattle.f2_stored.specs.Whole.{IsKeptWhole}
use Rattle.f2_call_laws.specs.Calls.{IsNewNode, ArePlacesAfter}

module _ (lists : Contents) (layout : Layout) (state after : State) (places now : Places) (unwritten left : Unwritten) (whole : IsKeptWhole lists layout state places unwritten)
    (follows : ArePlacesAfter layout state after places now unwritten left) where
  -- a page of a file that has a place is one that its row has
  page_had : (ino page at : ℕ) (row : Row) → map.get state.live ino ≡ Some row → row.kind ≡ Regular → map.get places.pages (ino, page) ≡ Some at → IsSome (map.get row.pages page)
  page_had ino page at row there regular placed = by_test (set.contains state.dirty_pages (ino, page)) refl
    where
      by_test : (b : Bool) → set.contains state.dirty_pages (ino, page) ≡ b → IsSome (map.get row.pages page)
      by_test true dirty =
          let own = whole.dirty ino page dirty in
          let is : own.row ≡ row = (let e : Some own.row ≡ Some row = sym own.there ∙ there in cc) in
          subst (λ (r : Row). IsSome (map.get r.pages page)) is own.has
      by_test false clean =
          let here = whole.kept.live.pages ino page at placed (whole.kept.tied.pages ino page row there regular ∙ clean) in
          ap is_some (regular_page places row page (last_of (contents_at lists at)) regular (here.own row there))

  -- a page that isn't dirty after the call stands where it stood, if it is there
  pub page_stood : (ino page at : ℕ) (row : Row) → map.get after.live ino ≡ Some row → row.kind ≡ Regular → set.contains after.dirty_pages (ino, page) ≡ false → map.get now.pages (ino, page) ≡ Some at → map.get places.pages (ino, page) ≡ Some at
  page_stood ino page at row there regular clean placed = (follows.others.pages ino page at placed (follows.dirty ino page row there regular ∙ clean)).stood

  -- a page that a file keeps has its address, where it isn't dirty after the call
  pub same_page : (ino page : ℕ) (before row : Row) → map.get state.live ino ≡ Some before → before.kind ≡ Regular → map.get after.live ino ≡ Some row → row.kind ≡ Regular → row.ino ≡ ino
      → (IsSome (map.get before.pages page) → IsSome (map.get row.pages page)) → set.contains after.dirty_pages (ino, page) ≡ false → page_at now ino page ≡ page_at places ino page
  same_page ino page before row was regular there kind keyed stays clean = by_now (map.get now.pages (ino, page)) refl
    where
      gone : (o : Option ℕ) → map.get now.pages (ino, page) ≡ None → map.get places.pages (ino, page) ≡ o → page_at places ino page ≡ 0
      gone None absent e = ap (λ (o : Option ℕ). unwrap_or o 0) e
      gone (Some at) absent e =
          let placed = follows.rows ino row there kind page (stays (page_had ino page at before was regular e)) in
          absurd (true≢false (sym placed ∙ ap (λ i. is_some (map.get now.pages (i, page))) keyed ∙ ap is_some absent))

      by_now : (o : Option ℕ) → map.get now.pages (ino, page) ≡ o → page_at now ino page ≡ page_at places ino page
      by_now None e = ap (λ (o : Option ℕ). unwrap_or o 0) e ∙ sym (gone (map.get places.pages (ino, page)) e refl)
      by_now (Some at) e = ap (λ (o : Option ℕ). unwrap_or o 0) (e ∙ sym (page_stood ino page at row there kind clean e))

  -- a new file's pages have none
  pub no_page : (ino page : ℕ) (row : Row) → map.get state.live ino ≡ None → map.get after.live ino ≡ Some row → row.kind ≡ Regular → set.contains after.dirty_pages (ino, page) ≡ false → page_at now ino page ≡ 0
  no_page ino page row none there kind clean = by_now (map.get now.pages (ino, page)) refl
    where
      by_now : (o : Option ℕ) → map.get now.pages (ino, page) ≡ o → page_at now ino page ≡ 0
      by_now None e = ap (λ (o : Option ℕ). unwrap_or o 0) e
      by_now (Some at) e =
          let old = whole.kept.live.laid.pages ino page at (page_stood ino page at row there kind clean e) in
          absurd (true≢false (sym old.row ∙ ap is_some none))

  -- what stood elsewhere than the tree still does
  pub elsewhere_still : (at : ℕ) → at ≢ 0 → IsElsewhere places at → IsElsewhere now at
  elsewhere_still at some free = record {
    nodes = λ ino offset node there. by_node ino offset node (follows.nodes ino offset node there);
    pages = λ ino page other there. by_page ino page other (follows.pages ino page other there);
  }
    where
      by_node : (ino offset : ℕ) (node : NodeAt) → (map.get places.nodes (ino, offset) ≡ Some node) ⊎ IsNewNode layout places now ino offset node → node.at ≢ at
      by_node ino offset node (inl was) = free.nodes ino offset node was
      by_node ino offset node (inr new) = λ same. some (sym same ∙ new.nowhere)

      by_page : (ino page other : ℕ) → (map.get places.pages (ino, page) ≡ Some other) ⊎ ((map.get places.pages (ino, page) ≡ None) × (other ≡ 0)) → other ≢ at
      by_page ino page other (inl was) = free.pages ino page other was
      by_page ino page other (inr new) = λ same. some (sym same ∙ new.1)

  -- the nid of a new row's inode is the row's own
  pub own_number : (ino : ℕ) (row : Row) → map.get state.live ino ≡ None → map.get after.live ino ≡ Some row → (other : ℕ × ℕ) → map.get layout.nids other ≡ Some ino → other ≡ (ino, 0)
  own_number ino row none there other known =
      let node = the_one (map.get now.nodes (ino, 0)) (follows.inodes ino row there) in
      by_node node.0 (follows.nodes ino 0 node.0 node.1)
    where
      by_node : (node : NodeAt) → (map.get places.nodes (ino, 0) ≡ Some node) ⊎ IsNewNode layout places now ino 0 node → other ≡ (ino, 0)
      by_node node (inl was) = absurd (true≢false (sym (whole.kept.live.laid.nodes ino 0 node was).row ∙ ap is_some none))
      by_node node (inr new) = new.own.own other (known ∙ ap Some (sym (new.inode refl)))
