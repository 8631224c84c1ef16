-- An image with a base has one list of marks.
use Rattle.std.proofs.Common.{◌≡◌, ℕ, List, [], ◌∷◌, refl, sym, ◌∙◌, subst}
use Rattle.std.specs.Prelude.{Option, Some, None}
use Rattle.std.specs.List.{AllZip}
use Rattle.std.specs.FinMap as map
use Rattle.f2_model.specs.Tree.{Rows}
use Rattle.f2_model.specs.State.{Mark}
use Rattle.f2_model.specs.declared.rows.Row.{Row}
use Rattle.f2_image.specs.Images.{Image}
use Rattle.f2_image.specs.Packs.{Checkpoint}
use Rattle.f2_image.specs.Nodes.{block_there}
use Rattle.f2_image.specs.Chains.{Logged, chain, block_in, marked_places, marked_address, IsNamed, IsMark, AreMarks}
use Rattle.f2_image.proofs.OneBase.{same_some, same_pages}
use Rattle.f2_image.proofs.OneName.{told_alone}

-- two lists that go with one list
one_list : {X Y : Type 0} (R : X → Y → Type 0) → ((x : X) (a b : Y) → R x a → R x b → a ≡ b) → (xs : List X) (ys zs : List Y) → AllZip R xs ys → AllZip R xs zs → ys ≡ zs
one_list R one [] [] [] p q = refl
one_list R one [] [] (b ∷ zs) p q = absurd q
one_list R one [] (a ∷ ys) zs p q = absurd p
one_list R one (x ∷ xs) [] bs p q = absurd p
one_list R one (x ∷ xs) (a ∷ ys) [] p q = absurd q
one_list R one (x ∷ xs) (a ∷ ys) (b ∷ zs) p q =
    let first = one x a b p.0 q.0 in
    let rest = one_list R one xs ys zs p.1 q.1 in
    λ i. first i ∷ rest i

same_names : (base : Rows) (inode : List ℕ) (a b : Row) (old : Option Row) → IsNamed base inode a old → IsNamed base inode b old → (a.parent ≡ b.parent) × (a.name ≡ b.name)
same_names base inode a b None p q =
    let first = told_alone a _ _ p in
    let second = told_alone b _ _ q in
    (first.1 ∙ sym second.1, first.2 ∙ sym second.2)
same_names base inode a b (Some old) p q = (p.1 ∙ sym q.1, p.2 ∙ sym q.2)

module _ (image : Image) (ckpt : Checkpoint) (base : Rows) where
  one_mark : (log : List Logged) (place : ℕ) (a b : Mark) → IsMark image ckpt base log place a → IsMark image ckpt base log place b → a ≡ b
  one_mark log place a b p q =
      let ino : a.ino ≡ b.ino = p.ino ∙ sym q.ino in
      let row_ino : a.row.ino ≡ b.row.ino = p.row_ino ∙ ino ∙ sym q.row_ino in
      let kind : a.row.kind ≡ b.row.kind = same_some a.row.kind b.row.kind (sym p.kind ∙ q.kind) in
      let size : a.row.size ≡ b.row.size = p.size ∙ sym q.size in
      let pages = same_pages a.row.pages b.row.pages (λ page. block_there image (marked_address image ckpt log place page)) p.pages.within q.pages.within p.pages.blocks q.pages.blocks in
      let names = same_names base (block_in log place) a.row b.row (map.get base a.ino) p.named (subst (λ n. IsNamed base (block_in log place) b.row (map.get base n)) (sym ino) q.named) in
      λ i. record { ino = ino i; row = record { ino = row_ino i; kind = kind i; parent = names.0 i; name = names.1 i; size = size i; pages = pages i } }

  pub one_list_of_marks : (a b : List Mark) → AreMarks image ckpt base a → AreMarks image ckpt base b → a ≡ b
  one_list_of_marks a b p q = one_list (IsMark image ckpt base (chain image ckpt)) (one_mark (chain image ckpt)) (marked_places (chain image ckpt)) a b p q
