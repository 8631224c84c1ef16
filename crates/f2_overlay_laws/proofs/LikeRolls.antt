-- The row of a mark is the file as it was rolled from the mark's place.
use Rattle.std.proofs.Common.{◌≡◌, ◌≢◌, ◌⊎◌, inl, inr, ℕ, ◌<◌, ◌≤◌, cond, List, refl, sym, ap, ◌∙◌, subst, arith}
use Rattle.std.specs.Prelude.{Option, Some, None}
use Rattle.std.specs.Option.{option_map, unwrap_or}
use Rattle.std.specs.FinMap as map
use Rattle.std.proofs.lemmas.Bool.{cases_lt, ne_eqb}
use Rattle.f2_format.specs.Offsets.{page_limit}
use Rattle.f2_model.specs.Tree.{Rows}
use Rattle.f2_model.specs.State.{Mark}
use Rattle.f2_model.specs.declared.rows.Row.{Row}
use Rattle.f2_model.specs.declared.rows.Kind.{Kind}
use Rattle.f2_model.specs.declared.rows.Kind.TheVariants.{Regular, Directory}
use Rattle.f2_image.specs.Images.{Image, block_at}
use Rattle.f2_image.specs.Packs.{Checkpoint}
use Rattle.f2_image.specs.Nodes.{block_there}
use Rattle.f2_image.specs.Bases.{inode_kind}
use Rattle.f2_image.specs.Chains.{chain, block_in, marked_address, IsNamed, IsMark}
use Rattle.f2_image.proofs.OneName.{told_alone}
use Rattle.f2_overlay.specs.Rolls.{IsRollNamed, IsRollAt}
use Rattle.f2_overlay.specs.declared.rolls.Roll.{Roll}
use Rattle.f2_recover.specs.declared.rows.BaseRow.{BaseRow}
use Rattle.f2_recover.specs.declared.walk.Walk.{Walk}
use Rattle.f2_recover_laws.specs.Sound.{AreAlike}
use Rattle.f2_overlay_laws.specs.Rolled.{IsRollLike}

-- a kind that isn't a directory's
regular_of : (kind : Kind) (told : Option Kind) → told ≡ Some kind → told ≢ Some Directory → kind ≡ Regular
regular_of Regular told is other = refl
regular_of Directory told is other = absurd (other is)

some_there : (image : Image) (at : ℕ) → at ≢ 0 → block_there image at ≡ Some (block_at image at)
some_there image at some = ap (λ b. cond b None (Some (block_at image at))) (ne_eqb at 0 some)

-- the base's directory and name, or those that the block brings
same_names : (image : Image) (tree : Rows) (block : List ℕ) (row : Row) (roll : Roll) (old : Option Row) (base : Option BaseRow) → AreAlike image old base → IsNamed tree block row old → IsRollNamed block roll base
    → (row.parent ≡ roll.parent) × (row.name ≡ roll.name)
same_names image tree block row roll None None like p q = let told = told_alone row _ _ p in (told.1 ∙ sym q.0, told.2 ∙ sym q.1)
same_names image tree block row roll None (Some base) like p q = absurd like
same_names image tree block row roll (Some old) None like p q = absurd like
same_names image tree block row roll (Some old) (Some base) like p q = (p.1 ∙ like.parent ∙ sym q.0, p.2 ∙ like.named ∙ sym q.1)

module _ (image : Image) (ckpt : Checkpoint) (walk : Walk) (base : Rows) (place ino : ℕ) (mark : Mark) (roll : Roll) (is : IsMark image ckpt base (chain image ckpt) place mark) (at : IsRollAt image ckpt walk place ino roll) where
  abbrev address : ℕ → ℕ
  address page = marked_address image ckpt (chain image ckpt) place page

  same_page : (page : ℕ) → map.get mark.row.pages page ≡ option_map (block_at image) (map.get roll.pages page)
  same_page page = by (map.get roll.pages page) refl
    where
      known : (o : Option ℕ) → map.get roll.pages page ≡ o → page < page_limit → map.get mark.row.pages page ≡ block_there image (unwrap_or o 0)
      known o e small = is.pages.blocks page small ∙ ap (block_there image) (sym (at.pages page small) ∙ ap (λ (p : Option ℕ). unwrap_or p 0) e)

      past : page_limit ≤ page → (o : Option (List ℕ)) → map.get mark.row.pages page ≡ o → o ≡ None
      past high None e = refl
      past high (Some bytes) e = let small = is.pages.within page bytes e in absurd (omega (arith, small, high))

      none : map.get roll.pages page ≡ None → (page < page_limit) ⊎ (page_limit ≤ page) → map.get mark.row.pages page ≡ None
      none e (inl small) = known None e small
      none e (inr high) = past high (map.get mark.row.pages page) refl

      by : (o : Option ℕ) → map.get roll.pages page ≡ o → map.get mark.row.pages page ≡ option_map (block_at image) o
      by None e = none e (cases_lt page page_limit)
      by (Some address) e = known (Some address) e (at.within page address e) ∙ some_there image address (at.there page address e)

  pub mark_like : mark.ino ≡ ino → inode_kind (block_in (chain image ckpt) place) ≢ Some Directory → AreAlike image (map.get base ino) (map.get walk.rows ino) → IsRollLike image mark.row roll
  mark_like own file like =
      let block = block_in (chain image ckpt) place in
      let named : IsNamed base block mark.row (map.get base ino) = subst (λ n. IsNamed base block mark.row (map.get base n)) own is.named in
      let names = same_names image base block mark.row roll (map.get base ino) (map.get walk.rows ino) like named at.named in
      record {
        kind = regular_of mark.row.kind (inode_kind block) is.kind file;
        parent = names.0;
        named = names.1;
        size = is.size ∙ sym at.size;
        pages = same_page;
      }
