-- What isn't to be written of a tree that is taken over stands in the image.
use Rattle.std.proofs.Common.{◌≡◌, ℕ, ◌<◌, Bool, true, false, ◌==◌, cond, inl, inr, List, IsSome, is_some, refl, sym, ap, ◌∙◌, subst, true≢false, arith}
use Rattle.std.specs.Prelude.{Option, Some, None, []}
use Rattle.std.specs.Option.{unwrap_or}
use Rattle.std.specs.FinMap as map
use Rattle.std.specs.FinSet as set
use Rattle.std.proofs.lemmas.Option.{same_Some}
use Rattle.f2_format.specs.Offsets.{direct_of, direct_slot}
use Rattle.f2_format.specs.Inode.{node_word}
use Rattle.f2_model.specs.Tree.{Rows}
use Rattle.f2_model.specs.State.{Mark}
use Rattle.f2_model.specs.declared.rows.Row.{Row}
use Rattle.f2_model.specs.declared.rows.Kind.{Kind}
use Rattle.f2_model.specs.declared.rows.Kind.TheVariants.{Regular, Directory}
use Rattle.f2_image.specs.Images.{Image, block_at}
use Rattle.f2_image.specs.Packs.{Checkpoint}
use Rattle.f2_image.specs.Nodes.{block_there}
use Rattle.f2_image.specs.Chains.{chain, block_in, marked_address, IsMark}
use Rattle.f2_image.specs.Reached.{IsDirect, IsPage, offset_below, nids_of_node}
use Rattle.f2_image.specs.Meanings.{MeansAt}
use Rattle.f2_image_laws.specs.Chained.{address_of}
use Rattle.f2_image_laws.proofs.Pages.{kinds_differ}
use Rattle.f2_stored.specs.Places.{NodeAt, Places, nid_of, nid_at, page_at, dentries_at, IsInodeOf, IsPageBlock, HasItsPages}
use Rattle.f2_stored.specs.Trees.{IsNodeHere, IsPageHere, Unwritten}
use Rattle.f2_place_laws.proofs.Options.{the_one}
use Rattle.f2_place_laws.proofs.PageKinds.{regular_page, directory_page, of_regular, of_directory}
use Rattle.f2_place_laws.proofs.Stood.{block_is_there}
use Rattle.f2_mount_laws.specs.Taken.{IsLastMark, IsUnmarked, IsLastBlock, IsMarkedNode, IsTakenNode, IsToWrite, some_address, IsTakenOver}
use Rattle.f2_mount_laws.specs.Taken as taken
use Rattle.f2_mount_laws.proofs.Logs.{last_is, block_is}
use Rattle.f2_mount_laws.proofs.Needs.{no_direct_inode, names_none}
use Rattle.f2_mount_laws.proofs.Old.{direct_page, base_page}
use Rattle.f2_mount_laws.proofs.Origins.{Origin, of_base, of_mark}
use Rattle.f2_mount_laws.proofs.TakenNodes as nodes
use Rattle.f2_mount_laws.proofs.TakenNodes.{HasBlockAt}
use Rattle.f2_mount_laws.proofs.TakenPages.{from, mark_regular, marked_at, kept_at, address_some, marked_page, page_in_zone}
use Rattle.f2_mount_laws.proofs.Words.{word_logged, word_based}

module _ (image : Image) (ckpt : Checkpoint) (base : Rows) (marks : List Mark) (tree : Rows) (places : Places) (unwritten : Unwritten)
    (means : MeansAt image ckpt base marks) (is : IsTakenOver image ckpt base marks tree places unwritten) where
  abbrev old : Places
  old = is.old

  abbrev ToWrite : ℕ → ℕ → Type 0
  ToWrite ino offset = IsToWrite image ckpt is.old is.anew places ino offset

  -- what isn't to be written isn't any of what is
  not_left : (ino offset : ℕ) (n : NodeAt) → map.get places.nodes (ino, offset) ≡ Some n → set.contains unwritten.nodes (ino, offset) ≡ false → ¬ (ToWrite ino offset)
  not_left ino offset n there out own = true≢false (sym (is.left_nodes ino offset n there own) ∙ out)

  -- a row that no mark changed
  module _ (ino : ℕ) (unmarked : IsUnmarked image ckpt ino) (out : set.contains is.anew ino ≡ false) where
    same_node : (low : ℕ) (m : NodeAt) → IsTakenNode image ckpt is.old is.anew ino low m → map.get is.old.nodes (ino, low) ≡ Some m
    same_node low m (taken.kept u o there) = there
    same_node low m (taken.marked place last own) = absurd (unmarked place (block_in (chain image ckpt) place) last.marked last.own)
    same_node low m (taken.laid anew own) = absurd (true≢false (sym anew ∙ out))

    same_nid : (offset slot low : ℕ) → slot < nids_of_node offset → offset_below offset slot ≡ Some low → ¬ (ToWrite ino offset) → nid_at is.old ino low ≡ nid_at places ino low
    same_nid offset slot low small under keep = by_node (map.get places.nodes (ino, low)) refl (map.get is.old.nodes (ino, low)) refl
      where
        by_node : (o : Option NodeAt) → map.get places.nodes (ino, low) ≡ o → (p : Option NodeAt) → map.get is.old.nodes (ino, low) ≡ p → nid_at is.old ino low ≡ nid_at places ino low
        by_node (Some m) e p f = ap nid_of (same_node low m (is.nodes ino low m e)) ∙ sym (ap nid_of e)
        by_node None e None f = ap nid_of f ∙ sym (ap nid_of e)
        by_node None e (Some m) f = absurd (keep (taken.thinned (record { offset = low; there = ap is_some f; gone = e }) (λ direct. names_none offset slot low direct small under)))

    same_page : (page : ℕ) → page_at is.old ino page ≡ page_at places ino page
    same_page page = sym (kept_at image ckpt base marks tree places unwritten means is ino page unmarked out)

    -- its row is the base's
    row_by : (row : Row) → map.get tree ino ≡ Some row → Origin image ckpt base ino tree → map.get base ino ≡ Some row
    row_by row there (of_base free same) = sym same ∙ there
    row_by row there (of_mark place mark last at own its) = absurd (unmarked place (block_in (chain image ckpt) place) last.marked last.own)

    row_of : (row : Row) → map.get tree ino ≡ Some row → map.get base ino ≡ Some row
    row_of row there = row_by row there (from image ckpt base marks tree places unwritten means is ino)

    same_inode : (row : Row) (block : List ℕ) → map.get base ino ≡ Some row → IsInodeOf is.old row block → IsInodeOf places row block
    same_inode row block based own = record {
      kind = own.kind;
      own = own.own;
      size = own.size;
      addresses = λ page small.
          own.addresses page small ∙ ap (λ i. page_at is.old i page) (means.is_base.rows ino row based).own ∙ same_page page ∙ ap (λ i. page_at places i page) (sym (means.is_base.rows ino row based).own);
    }

    kept_here : (offset : ℕ) (n : NodeAt) → map.get is.old.nodes (ino, offset) ≡ Some n → ¬ (ToWrite ino offset) → IsNodeHere ckpt.geom tree places ino offset n (block_at image n.at)
    kept_here offset n there keep =
        let here = is.stands.nodes ino offset n there in
        record {
          in_zone = here.in_zone;
          own = record {
            footer_nid = here.own.footer_nid;
            footer_ino = here.own.footer_ino;
            footer_offset = here.own.footer_offset;
            lower = λ slot low small under. here.own.lower slot low small under ∙ same_nid offset slot low small under keep;
            pages = λ page direct. here.own.pages page direct ∙ same_page page;
          };
          inode = λ first row of_tree. let based = row_of row of_tree in same_inode row (block_at image n.at) based (here.inode first row based);
        }

  -- a direct node of a marked file
  module _ (ino offset place : ℕ) (n : NodeAt) (last : IsLastMark image ckpt ino place) (direct : IsDirect offset) (own : HasBlockAt image ckpt base marks tree places unwritten means is ino offset n)
      (word : (page : ℕ) → direct_of page ≡ Some offset → node_word (block_at image n.at) (direct_slot page) ≡ marked_address image ckpt (chain image ckpt) place page) where
    direct_here : IsNodeHere ckpt.geom tree places ino offset n (block_at image n.at)
    direct_here = record {
      in_zone = own.in_zone;
      own = record {
        footer_nid = own.nid;
        footer_ino = own.ino_is;
        footer_offset = own.offset_is;
        lower = λ slot low small under. absurd (names_none offset slot low direct small under);
        pages = λ page has. word page has ∙ sym (marked_at image ckpt base marks tree places unwritten means is ino place page last (direct_page page offset has).1);
      };
      inode = λ first row there. absurd (no_direct_inode offset first direct);
    }

  -- where the log has it
  logged_word : (ino offset place at : ℕ) (n : NodeAt) → IsLastMark image ckpt ino place → IsLastBlock (chain image ckpt) place ino offset at → n.at ≡ address_of (chain image ckpt) at
      → (page : ℕ) → direct_of page ≡ Some offset → node_word (block_at image n.at) (direct_slot page) ≡ marked_address image ckpt (chain image ckpt) place page
  logged_word ino offset place at n last block at_is page has =
      let before = block.before in
      let limit = last.marked.within in
      let same : block_in (chain image ckpt) at ≡ block_at image n.at = block_is image ckpt at (omega (arith, before, limit)) ∙ ap (block_at image) (sym at_is) in
      ap (λ b. node_word b (direct_slot page)) (sym same) ∙ word_logged image ckpt (chain image ckpt) place ino page offset last.own has (block_in (chain image ckpt) at) (last_is (chain image ckpt) place ino offset at block)

  marked_here : (ino offset place : ℕ) (n : NodeAt) → IsLastMark image ckpt ino place → ¬ (ToWrite ino offset) → IsMarkedNode image ckpt is.old place ino offset n
      → IsNodeHere ckpt.geom tree places ino offset n (block_at image n.at)
  marked_here ino offset place n last keep (taken.inode first nid at) = absurd (keep (taken.marked place last (no_direct_inode offset first)))
  marked_here ino offset place n last keep (taken.indirect other none own) = absurd (keep (taken.marked place last none))
  marked_here ino offset place n last keep (taken.based direct none there) =
      let row = the_one (map.get base ino) (is.stands.laid.nodes ino offset n there).row in
      direct_here ino offset place n last direct (nodes.base_block image ckpt base marks tree places unwritten means is ino offset n there)
      (λ page has. word_based image ckpt (chain image ckpt) place ino page offset last.own has base means.is_base is.old is.stands row.0 row.1 n none there)
  marked_here ino offset place n last keep (taken.logged at direct block nid at_is) =
      direct_here ino offset place n last direct
      (nodes.log_block image ckpt base marks tree places unwritten means is ino offset n (nodes.direct_logged image ckpt base marks tree places unwritten means is ino offset place at n last direct block nid at_is))
      (logged_word ino offset place at n last block at_is)

  here_by : (ino offset : ℕ) (n : NodeAt) → ¬ (ToWrite ino offset) → IsTakenNode image ckpt is.old is.anew ino offset n → IsNodeHere ckpt.geom tree places ino offset n (block_at image n.at)
  here_by ino offset n keep (taken.kept unmarked out there) = kept_here ino unmarked out offset n there keep
  here_by ino offset n keep (taken.marked place last own) = marked_here ino offset place n last keep own
  here_by ino offset n keep (taken.laid anew own) = absurd (keep (taken.laid anew))

  pub node_here : (ino offset : ℕ) (n : NodeAt) → map.get places.nodes (ino, offset) ≡ Some n → set.contains unwritten.nodes (ino, offset) ≡ false → IsNodeHere ckpt.geom tree places ino offset n (block_at image n.at)
  node_here ino offset n there out = here_by ino offset n (not_left ino offset n there out) (is.nodes ino offset n there)

  -- a page that isn't to be written stands there
  pub record IsPageTaken (ino page at : ℕ) : Type 0 where
    pub read : IsPage image ckpt ino page at
    pub here : IsPageHere ckpt.geom tree places ino page at (block_at image at)

  page_kept : (ino page at : ℕ) → map.get places.pages (ino, page) ≡ Some at → (unmarked : IsUnmarked image ckpt ino) → (out : set.contains is.anew ino ≡ false) → IsPageTaken ino page at
  page_kept ino page at there unmarked out = record {
    read = inl (base_page image ckpt base means.is_base is.old is.stands ino page at of_old);
    here = record { in_zone = here.in_zone; own = λ row of_tree. let based = row_of ino unmarked out row of_tree in by_kind row based (here.own row based) row.kind refl };
  }
    where
      of_old : map.get is.old.pages (ino, page) ≡ Some at
      of_old = sym (is.kept_pages ino page unmarked out) ∙ there

      here : IsPageHere ckpt.geom base is.old ino page at (block_at image at)
      here = is.stands.pages ino page at of_old

      names_same : (row : Row) → map.get base ino ≡ Some row → dentries_at is.old row.ino page ≡ dentries_at places row.ino page
      names_same row based =
          let own = (means.is_base.rows ino row based).own in
          ap (λ i. dentries_at is.old i page) own ∙ sym (ap (λ o. unwrap_or o []) (is.kept_names ino page unmarked out)) ∙ ap (λ i. dentries_at places i page) (sym own)

      by_kind : (row : Row) → map.get base ino ≡ Some row → IsPageBlock is.old row page (block_at image at) → (kind : Kind) → row.kind ≡ kind → IsPageBlock places row page (block_at image at)
      by_kind row based own Regular e = of_regular places row page (block_at image at) e (regular_page is.old row page (block_at image at) e own)
      by_kind row based own Directory e =
          let its = directory_page is.old row page (block_at image at) e own in
          of_directory places row page (block_at image at) e (its.0, its.1 ∙ names_same row based)

  page_marked : (ino page at place : ℕ) (mark : Mark) → map.get places.pages (ino, page) ≡ Some at → IsLastMark image ckpt ino place → IsMark image ckpt base (chain image ckpt) place mark → map.get tree ino ≡ Some mark.row → IsPageTaken ino page at
  page_marked ino page at place mark there last is_mark its =
      let within = (is.rows ino page at there).1 in
      let address = address_some at (marked_address image ckpt (chain image ckpt) place page) (sym (is.marked_pages ino place page last within) ∙ there) in
      let read : IsPage image ckpt ino page at = inr (marked_page image ckpt base marks tree places unwritten means is ino place page at last within address.0 address.1) in
      let bytes : map.get mark.row.pages page ≡ Some (block_at image at) = is_mark.pages.blocks page within ∙ ap (block_there image) address.0 ∙ block_is_there image at address.1 in
      let own : IsPageBlock places mark.row page (block_at image at) = of_regular places mark.row page (block_at image at) (mark_regular image ckpt base marks tree places unwritten means is ino place mark last is_mark) bytes in
      record {
        read = read;
        here = record {
          in_zone = page_in_zone image ckpt base marks tree places unwritten means is ino page at read;
          own = λ row of_tree. subst (λ (r : Row). IsPageBlock places r page (block_at image at)) (same_Some mark.row row (sym its ∙ of_tree)) own;
        };
      }

  page_by : (ino page at : ℕ) → map.get places.pages (ino, page) ≡ Some at → set.contains is.anew ino ≡ false → Origin image ckpt base ino tree → IsPageTaken ino page at
  page_by ino page at there out (of_base unmarked same) = page_kept ino page at there unmarked out
  page_by ino page at there out (of_mark place mark last is_mark own its) = page_marked ino page at place mark there last is_mark its

  pub page_here : (ino page at : ℕ) → map.get places.pages (ino, page) ≡ Some at → set.contains unwritten.pages (ino, page) ≡ false → IsPageTaken ino page at
  page_here ino page at there out = by_anew (set.contains is.anew ino) refl
    where
      by_anew : (b : Bool) → set.contains is.anew ino ≡ b → IsPageTaken ino page at
      by_anew true e = absurd (true≢false (sym (is.left_pages ino page at there e) ∙ out))
      by_anew false e = page_by ino page at there e (from image ckpt base marks tree places unwritten means is ino)

  -- and a file has no others
  own_pages : (row : Row) (ino page : ℕ) → IsSome (map.get row.pages page) → row.ino ≡ ino → IsSome (map.get places.pages (ino, page)) → IsSome (map.get places.pages (row.ino, page))
  own_pages row ino page has own there = ap (λ i. is_some (map.get places.pages (i, page))) own ∙ there

  -- a file isn't laid out anew
  file_out : (ino : ℕ) (row : Row) → map.get base ino ≡ Some row → row.kind ≡ Regular → set.contains is.anew ino ≡ false
  file_out ino row there kind = by_anew (set.contains is.anew ino) refl
    where
      by_anew : (b : Bool) → set.contains is.anew ino ≡ b → b ≡ false
      by_anew false e = refl
      by_anew true e = let found = is.directories ino e in absurd (kinds_differ (sym kind ∙ ap (λ (r : Row). r.kind) (same_Some row found.0 (sym there ∙ found.1)) ∙ found.2))

  -- a page of a mark has an address
  mark_page : (ino place : ℕ) (mark : Mark) → IsLastMark image ckpt ino place → IsMark image ckpt base (chain image ckpt) place mark → (page : ℕ) → ((bytes : List ℕ) × (map.get mark.row.pages page ≡ Some bytes))
      → IsSome (map.get places.pages (ino, page))
  mark_page ino place mark last is_mark page (bytes, there) =
      let within = is_mark.pages.within page bytes there in
      ap is_some (is.marked_pages ino place page last within) ∙ as_block (marked_address image ckpt (chain image ckpt) place page) (ap is_some (sym (is_mark.pages.blocks page within) ∙ there))
    where
      by_test : (address : ℕ) (b : Bool) → (address == 0) ≡ b → is_some (cond b None (Some (block_at image address))) ≡ true → is_some (cond b None (Some address)) ≡ true
      by_test address true e some = absurd (true≢false (sym some))
      by_test address false e some = refl

      as_block : (address : ℕ) → is_some (block_there image address) ≡ true → is_some (some_address address) ≡ true
      as_block address some = by_test address (address == 0) refl some

  rows_by : (ino : ℕ) (row : Row) → map.get tree ino ≡ Some row → Origin image ckpt base ino tree → HasItsPages places row
  rows_by ino row there (of_base unmarked same) kind page has =
      let of_base_row = sym same ∙ there in
      let own = (means.is_base.rows ino row of_base_row).own in
      let before = is.stands.rows ino row of_base_row kind page has in
      own_pages row ino page has own (ap is_some (is.kept_pages ino page unmarked (file_out ino row of_base_row kind)) ∙ ap (λ i. is_some (map.get is.old.pages (i, page))) (sym own) ∙ before)
  rows_by ino row there (of_mark place mark last is_mark own its) kind page has =
      let same = same_Some mark.row row (sym its ∙ there) in
      own_pages row ino page has (ap (λ (r : Row). r.ino) (sym same) ∙ is_mark.row_ino ∙ own)
      (mark_page ino place mark last is_mark page (the_one (map.get mark.row.pages page) (ap (λ (r : Row). is_some (map.get r.pages page)) same ∙ has)))

  pub rows_have : (ino : ℕ) (row : Row) → map.get tree ino ≡ Some row → HasItsPages places row
  rows_have ino row there = rows_by ino row there (from image ckpt base marks tree places unwritten means is ino)
