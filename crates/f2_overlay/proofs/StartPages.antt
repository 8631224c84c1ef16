-- The pages with which a mark of a file begins are its own, and stand where the mark has them but for those that it tells anew.
use Rattle.std.proofs.Common.{◌≡◌, ◌≢◌, ◌⊎◌, inl, inr, ℕ, ◌<◌, ◌≤◌, true, List, refl, sym, ap, subst, ◌∙◌, arith}
use Rattle.std.specs.Prelude.{Option, Some, None}
use Rattle.std.specs.Option.{unwrap_or}
use Rattle.std.specs.Ordering.{nat_cmp}
use Rattle.std.specs.FinMap as map
use Rattle.std.specs.FinMap.{get-empty}
use Rattle.std.proofs.lemmas.Bool.{cases_eq}
use Rattle.f2_format.specs.Footer.{footer_ino}
use Rattle.f2_format.specs.Offsets.{inode_pages, page_limit, direct_of}
use Rattle.f2_image.specs.Images.{Image}
use Rattle.f2_image.specs.Packs.{Checkpoint}
use Rattle.f2_image.specs.Nodes.{node, page_address}
use Rattle.f2_image.specs.Chains.{Logged, chain, block_in, is_marked, marked_address}
use Rattle.f2_image.specs.Reached.{IsBasePage, IsMarkedAt}
use Rattle.f2_recover.specs.Walking.{IsBaseRead}
use Rattle.f2_recover.specs.declared.rows.BaseRow.{BaseRow}
use Rattle.f2_recover.specs.declared.walk.Walk.{Walk}
use Rattle.f2_overlay.specs.Lasts.{last_mark_before}
use Rattle.f2_overlay.specs.Pending.{newest_before}
use Rattle.f2_overlay.specs.Owning.{Owned, Pages, AreOwn}
use Rattle.f2_overlay.specs.Putting.{address_of}
use Rattle.f2_overlay.specs.Rolling.{StartAs, AreOwnersTo}
use Rattle.f2_overlay.specs.Rolls.{IsRoll, IsRollAt, AreRollsTo}
use Rattle.f2_overlay.specs.declared.rolls.Roll.{Roll}
use Rattle.f2_overlay.proofs.Maps.{not_none, one_some}
use Rattle.f2_overlay.proofs.Based.{row_of, page_of_base, page_of_row, list_of_row}
use Rattle.f2_overlay.proofs.Newer.{last_mark_is}
use Rattle.f2_overlay.proofs.MarkPages.{in_marked, in_row, in_none}

module _ (image : Image) (ckpt : Checkpoint) (walk : Walk) (place ino : ℕ) (owned : Owned) where
  -- the pages are the file's own, and those of direct nodes that weren't logged since the mark before stand where the mark has them
  pub record IsStart (pages : Pages) : Type 0 where
    pub own : AreOwn ino pages owned
    pub high : (page offset : ℕ) → inode_pages ≤ page → page < page_limit → direct_of page ≡ Some offset → newest_before (chain image ckpt) place ino offset ≡ None
        → address_of pages page ≡ marked_address image ckpt (chain image ckpt) place page

  module _ (base : IsBaseRead image ckpt walk) (unreached : map.get walk.rows ino ≡ None → node image ckpt ino ≡ None) (is : IsMarkedAt image ckpt place (block_in (chain image ckpt) place)) (own : footer_ino (block_in (chain image ckpt) place) ≡ ino)
      (owners : AreOwnersTo image ckpt place owned) where
    log : List Logged
    log = chain image ckpt

    marked : is_marked (block_in (chain image ckpt) place) ≡ true
    marked = is.marked

    -- of a mark before
    module _ (mark : ℕ) (roll : Roll) (last : last_mark_before (chain image ckpt) place ino ≡ Some mark) (at : IsRollAt image ckpt walk mark ino roll) where
      mark_is : (mark < place) × (is_marked (block_in (chain image ckpt) mark) ≡ true) × (footer_ino (block_in (chain image ckpt) mark) ≡ ino)
      mark_is = last_mark_is (chain image ckpt) place ino mark last

      marked_at : IsMarkedAt image ckpt mark (block_in (chain image ckpt) mark)
      marked_at = record { within = let low = mark_is.0 in omega (arith, low, is.within); stands = refl; marked = mark_is.1 }

      address : (page q : ℕ) → map.get roll.pages page ≡ Some q → marked_address image ckpt (chain image ckpt) mark page ≡ q
      address page q there = sym (at.pages page (at.within page q there)) ∙ ap (λ o. unwrap_or o 0) there

      owner : (page q : ℕ) → map.get roll.pages page ≡ Some q → map.get owned q ≡ Some (record { ino = ino; page = page })
      owner page q there =
          let where_is = address page q there in
          ap (map.get owned) (sym where_is)
          ∙ owners.marks mark page (block_in (chain image ckpt) mark) mark_is.0 marked_at (at.within page q there) (λ zero. at.there page q there (sym where_is ∙ zero))
          ∙ ap (λ n. Some (record { ino = n; page = page })) mark_is.2

      of_roll : IsStart roll.pages
      of_roll = record {
        own = record { within = at.within; some = at.there; own = owner };
        high = λ page offset above within direct none. at.pages page within ∙ sym (in_marked image ckpt (chain image ckpt) place ino marked own page offset mark above direct none last);
      }

    -- of the base
    module _ (row : BaseRow) (there : map.get walk.rows ino ≡ Some row) (pages : Pages) (same : (page : ℕ) → map.get pages page ≡ map.get row.file.nodes.pages.pages page) (unmarked : last_mark_before (chain image ckpt) place ino ≡ None) where
      of_base : (page at : ℕ) → map.get pages page ≡ Some at → IsBasePage image ckpt ino page at
      of_base page at has = page_of_base image ckpt walk base ino row there page at (sym (same page) ∙ has)

      inode : List ℕ
      inode = (row_of image ckpt walk base ino row there).file.inode

      node_is : node image ckpt ino ≡ Some inode
      unfolding inode
      node_is = (row_of image ckpt walk base ino row there).file.is.there

      address_at : (page at : ℕ) → IsBasePage image ckpt ino page at → page_address image ckpt inode page ≡ at
      address_at page at page_is = ap (λ (x : List ℕ). page_address image ckpt x page) (one_some inode page_is.inode (sym node_is ∙ page_is.is.there)) ∙ page_is.address

      base_page : (page : ℕ) → page < page_limit → page_address image ckpt inode page ≢ 0 → IsBasePage image ckpt ino page (page_address image ckpt inode page)
      unfolding inode
      base_page page within some =
          let file = (row_of image ckpt walk base ino row there).file in
          record { reached = file.reached; kind = row.file.kind; inode = file.inode; is = file.is; within = within; address = refl; there = some }

      address_base : (page : ℕ) → page < page_limit → address_of pages page ≡ page_address image ckpt inode page
      address_base page within = by (map.get pages page) refl (cases_eq (page_address image ckpt inode page) 0)
        where
          by : (o : Option ℕ) → map.get pages page ≡ o → (page_address image ckpt inode page ≡ 0) ⊎ (page_address image ckpt inode page ≢ 0) → address_of pages page ≡ page_address image ckpt inode page
          by (Some at) e h = ap (λ x. unwrap_or x 0) e ∙ sym (address_at page at (of_base page at e))
          by None e (inl zero) = ap (λ x. unwrap_or x 0) e ∙ sym zero
          by None e (inr some) = absurd (not_none _ (sym e ∙ same page ∙ page_of_row image ckpt walk base ino row there page _ (base_page page within some)))

      of_row : IsStart pages
      of_row = record {
        own = record {
          within = λ page at has. (of_base page at has).within;
          some = λ page at has. (of_base page at has).there;
          own = λ page at has. owners.base ino page at (of_base page at has);
        };
        high = λ page offset above within direct none. address_base page within ∙ sym (in_row image ckpt (chain image ckpt) place ino marked own page offset inode above direct none unmarked node_is);
      }

    -- of nothing
    of_none : (pages : Pages) → pages ≡ map.empty → map.get walk.rows ino ≡ None → last_mark_before (chain image ckpt) place ino ≡ None → IsStart pages
    of_none pages empty none unmarked = record {
      own = record {
        within = λ page at has. absurd (not_none at (sym (nothing page) ∙ has));
        some = λ page at has. absurd (not_none at (sym (nothing page) ∙ has));
        own = λ page at has. absurd (not_none at (sym (nothing page) ∙ has));
      };
      high = λ page offset above within direct new. ap (λ o. unwrap_or o 0) (nothing page) ∙ sym (in_none image ckpt (chain image ckpt) place ino marked own page offset above direct new unmarked (unreached none));
    }
      where
        nothing : (page : ℕ) → map.get pages page ≡ None
        nothing page = ap (λ (m : Pages). map.get m page) empty ∙ get-empty nat_cmp page

    -- by the roll and the row that are there
    by_row : (row : Option BaseRow) → map.get walk.rows ino ≡ row → (pages : Pages) → StartAs None row pages → last_mark_before (chain image ckpt) place ino ≡ None → IsStart pages
    by_row (Some row) there pages start unmarked = of_row row there pages (start page_limit (list_of_row image ckpt walk base ino row there)) unmarked
    by_row None none pages start unmarked = of_none pages start none unmarked

    by_roll : (mark : Option ℕ) → last_mark_before (chain image ckpt) place ino ≡ mark → (roll : Option Roll) → IsRoll image ckpt walk ino mark roll → (pages : Pages) → StartAs roll (map.get walk.rows ino) pages → IsStart pages
    by_roll (Some mark) last (Some roll) at pages start = subst (λ (m : Pages). IsStart m) (sym start) (of_roll mark roll last at)
    by_roll None last None at pages start = by_row (map.get walk.rows ino) refl pages start last
    by_roll (Some mark) last None at pages start = absurd at
    by_roll None last (Some roll) at pages start = absurd at

    pub start_is : (rolls : map.FinMap nat_cmp Roll) (pages : Pages) → AreRollsTo image ckpt walk place rolls → StartAs (map.get rolls ino) (map.get walk.rows ino) pages → IsStart pages
    start_is rolls pages are start = by_roll (last_mark_before (chain image ckpt) place ino) refl (map.get rolls ino) (are ino) pages start
