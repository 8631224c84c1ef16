-- An image has one base.
use Rattle.std.proofs.Common.{◌≡◌, ℕ, ◌<◌, List, [], refl, sym, ap, ◌∙◌, subst}
use Rattle.std.specs.Prelude.{Option, Some, None}
use Rattle.std.specs.Option.{unwrap_or}
use Rattle.std.proofs.lemmas.Option.{none-some}
use Rattle.std.specs.Cmp.{nat_cmp_total}
use Rattle.std.specs.FinMap as map
use Rattle.std.specs.FinMap.{nat_cmp-IsAntisymmetric}
use Rattle.f2_format.specs.Offsets.{page_limit}
use Rattle.f2_model.specs.Content.{PageMap}
use Rattle.f2_model.specs.Tree.{Rows, ROOT}
use Rattle.f2_model.specs.declared.rows.Row.{Row}
use Rattle.f2_model.specs.declared.rows.Kind.{Kind}
use Rattle.f2_model.specs.declared.rows.Kind.TheVariants.{Regular, Directory}
use Rattle.f2_image.specs.Images.{Image}
use Rattle.f2_image.specs.Packs.{Checkpoint}
use Rattle.f2_image.specs.Nodes.{block_there, page_address}
use Rattle.f2_image.specs.Bases.{IsReached, root, below, HasContent, IsBaseRow, IsBase, inode_kind}
use Rattle.f2_image.proofs.OneName.{Carries, carries, root_carries}

-- what two options that have one thing have is the same
pub same_some : {X : Type 0} (x y : X) → Some x ≡ Some y → x ≡ y
same_some x y e = ap (λ o. unwrap_or o x) e

-- maps of pages that hold, within the limit, the same
pub same_pages : (a b : PageMap) (there : ℕ → Option (List ℕ))
    → ((page : ℕ) (bytes : List ℕ) → map.get a page ≡ Some bytes → page < page_limit) → ((page : ℕ) (bytes : List ℕ) → map.get b page ≡ Some bytes → page < page_limit)
    → ((page : ℕ) → page < page_limit → map.get a page ≡ there page) → ((page : ℕ) → page < page_limit → map.get b page ≡ there page) → a ≡ b
same_pages a b there in_a in_b a_is b_is = map.same_map nat_cmp_total nat_cmp-IsAntisymmetric a b (λ page. each page (map.get a page) (map.get b page) refl refl)
  where
    each : (page : ℕ) (x y : Option (List ℕ)) → map.get a page ≡ x → map.get b page ≡ y → map.get a page ≡ map.get b page
    each page None None p q = p ∙ sym q
    each page (Some x) y p q = let small = in_a page x p in a_is page small ∙ sym (b_is page small)
    each page None (Some y) p q = let small = in_b page y q in a_is page small ∙ sym (b_is page small)

module _ (image : Image) (ckpt : Checkpoint) where
  -- the directory and the name with which an ino was reached
  abbrev directory_of : (ino : ℕ) → IsReached image ckpt ino → ℕ
  directory_of _ root = ROOT
  directory_of _ (below directory dentry up has) = directory

  abbrev name_of : (ino : ℕ) → IsReached image ckpt ino → List ℕ
  name_of _ root = []
  name_of _ (below directory dentry up has) = dentry.name

  stands : (tree : Rows) → IsBase image ckpt tree → (ino : ℕ) (reached : IsReached image ckpt ino) → Carries tree ino (directory_of ino reached) (name_of ino reached)
  stands tree base _ root = root_carries tree base.root
  stands tree base _ (below directory dentry up has) = carries tree dentry.ino directory dentry.name (base.names directory dentry up has)

  -- the contents of two rows of one inode
  same_content : (inode : List ℕ) (kind : Kind) (a b : Row) → HasContent image ckpt inode kind a → HasContent image ckpt inode kind b → (a.size ≡ b.size) × (a.pages ≡ b.pages)
  same_content inode Regular a b p q =
      (p.0 ∙ sym q.0, same_pages a.pages b.pages (λ page. block_there image (page_address image ckpt inode page)) p.2 q.2 p.1 q.1)
  same_content inode Directory a b p q = (p.0 ∙ sym q.0, p.1 ∙ sym q.1)

  same_row : (ino directory : ℕ) (name : List ℕ) (a b : Row) → IsBaseRow image ckpt ino a → IsBaseRow image ckpt ino b
      → (a.parent ≡ directory) × (a.name ≡ name) → (b.parent ≡ directory) × (b.name ≡ name) → a ≡ b
  same_row ino directory name a b p q at_a at_b =
      let inode : p.inode ≡ q.inode = same_some p.inode q.inode (sym p.is.there ∙ q.is.there) in
      let kind : a.kind ≡ b.kind = same_some a.kind b.kind (sym p.is.is_kind ∙ ap inode_kind inode ∙ q.is.is_kind) in
      let other : HasContent image ckpt p.inode a.kind b = subst (λ k. HasContent image ckpt p.inode k b) (sym kind) (subst (λ n. HasContent image ckpt n b.kind b) (sym inode) q.content) in
      let content = same_content p.inode a.kind a b p.content other in
      let inos = p.own ∙ sym q.own in
      let parents = at_a.0 ∙ sym at_b.0 in
      let names = at_a.1 ∙ sym at_b.1 in
      λ i. record { ino = inos i; kind = kind i; parent = parents i; name = names i; size = content.0 i; pages = content.1 i }

  -- what a base has under an ino that is reached
  there_at : (tree : Rows) → IsBase image ckpt tree → (ino : ℕ) (reached : IsReached image ckpt ino) (row : Row) → map.get tree ino ≡ Some row
      → (row.parent ≡ directory_of ino reached) × (row.name ≡ name_of ino reached)
  there_at tree base ino reached row there =
      let at = stands tree base ino reached in
      let same : at.row ≡ row = same_some at.row row (sym at.there ∙ there) in
      (subst (λ r. r.parent ≡ directory_of ino reached) same at.parent, subst (λ r. r.name ≡ name_of ino reached) same at.named)

  pub one_base : (a b : Rows) → IsBase image ckpt a → IsBase image ckpt b → a ≡ b
  one_base a b p q = map.same_map nat_cmp_total nat_cmp-IsAntisymmetric a b (λ ino. each ino (map.get a ino) (map.get b ino) refl refl)
    where
      each : (ino : ℕ) (x y : Option Row) → map.get a ino ≡ x → map.get b ino ≡ y → map.get a ino ≡ map.get b ino
      each ino None None s t = s ∙ sym t
      each ino (Some x) None s t =
          let at = stands b q ino (p.rows ino x s).reached in
          absurd (none-some at.row (sym t ∙ at.there))
      each ino None (Some y) s t =
          let at = stands a p ino (q.rows ino y t).reached in
          absurd (none-some at.row (sym s ∙ at.there))
      each ino (Some x) (Some y) s t =
          let row = p.rows ino x s in
          s ∙ ap Some (same_row ino (directory_of ino row.reached) (name_of ino row.reached) x y row (q.rows ino y t) (there_at a p ino row.reached x s) (there_at b q ino row.reached y t)) ∙ sym t
