-- The pages of a regular file of the tree are the blocks at the addresses that are known of it.
use Rattle.std.proofs.Common.{◌≡◌, ◌≢◌, ◌⊎◌, inl, inr, ℕ, ◌<◌, ◌≤◌, cond, List, refl, sym, ap, ◌∙◌, arith}
use Rattle.std.specs.Prelude.{Option, Some, None}
use Rattle.std.specs.Option.{option_map}
use Rattle.std.specs.FinMap as map
use Rattle.std.proofs.lemmas.Bool.{cases_eq, cases_lt, ne_eqb}
use Rattle.std.proofs.lemmas.Option.{none-some, same_Some}
use Rattle.f2_format.specs.Offsets.{page_limit}
use Rattle.f2_model.specs.Content.{PageMap}
use Rattle.f2_model.specs.declared.rows.Kind.{Kind}
use Rattle.f2_image.specs.Images.{Image, block_at}
use Rattle.f2_image.specs.Packs.{Checkpoint}
use Rattle.f2_image.specs.Nodes.{block_there, page_address}
use Rattle.f2_image.specs.Bases.{IsInode, IsReached, ArePages}
use Rattle.f2_recover.specs.Seeing.{IsPart, node_limit}
use Rattle.f2_recover.specs.declared.nodes.FileNodes.{FileNodes}

some_there : (image : Image) (at : ℕ) → at ≢ 0 → block_there image at ≡ Some (block_at image at)
some_there image at some = ap (λ b. cond b None (Some (block_at image at))) (ne_eqb at 0 some)

module _ (image : Image) (ckpt : Checkpoint) (ino : ℕ) (kind : Kind) (inode : List ℕ) (reached : IsReached image ckpt ino) (own : IsInode image ckpt ino kind inode) (pages : PageMap) (are : ArePages image ckpt inode pages)
    (within : (page : ℕ) (bytes : List ℕ) → map.get pages page ≡ Some bytes → page < page_limit) (file : FileNodes) (part : IsPart image ckpt ino node_limit page_limit file) where
  some_page : (page at : ℕ) → map.get file.pages.pages page ≡ Some at → map.get pages page ≡ Some (block_at image at)
  some_page page at there =
      let base = part.pages page at there in
      let same : inode ≡ base.is.inode = same_Some inode base.is.inode (sym own.there ∙ base.is.is.there) in
      are page base.within ∙ ap (block_there image) (ap (λ n. page_address image ckpt n page) same ∙ base.is.address) ∙ some_there image at base.is.there

  no_page_within : (page : ℕ) → map.get file.pages.pages page ≡ None → page < page_limit → map.get pages page ≡ None
  no_page_within page none small = are page small ∙ by (cases_eq (page_address image ckpt inode page) 0)
    where
      by : (page_address image ckpt inode page ≡ 0) ⊎ (page_address image ckpt inode page ≢ 0) → block_there image (page_address image ckpt inode page) ≡ None
      by (inl zero) = ap (block_there image) zero
      by (inr some) =
          let known = part.all_pages page (page_address image ckpt inode page) (record { reached = reached; kind = kind; inode = inode; is = own; within = small; address = refl; there = some }) small in
          absurd (none-some (page_address image ckpt inode page) (sym none ∙ known))

  no_page_past : (page : ℕ) → page_limit ≤ page → map.get pages page ≡ None
  no_page_past page past = by (map.get pages page) refl
    where
      by : (o : Option (List ℕ)) → map.get pages page ≡ o → o ≡ None
      by None e = refl
      by (Some bytes) e = let small = within page bytes e in absurd (omega (arith, small, past))

  pub pages_known : (page : ℕ) → map.get pages page ≡ option_map (block_at image) (map.get file.pages.pages page)
  pages_known page = by (map.get file.pages.pages page) refl
    where
      by_limit : map.get file.pages.pages page ≡ None → (page < page_limit) ⊎ (page_limit ≤ page) → map.get pages page ≡ None
      by_limit none (inl small) = no_page_within page none small
      by_limit none (inr past) = no_page_past page past

      by : (o : Option ℕ) → map.get file.pages.pages page ≡ o → map.get pages page ≡ option_map (block_at image) o
      by None e = by_limit e (cases_lt page page_limit)
      by (Some at) e = some_page page at e
