-- The marks of a log, where its blocks stay and their pages' blocks have no other contents.
use Rattle.std.proofs.Common.{◌≡◌, ◌≢◌, ℕ, ◌≤◌, IsTrue, List, Option, Some, sym, ap, ◌∙◌, subst, arith}
use Rattle.std.specs.FinMap as map
use Rattle.f2_format.specs.Geometry.{is_in_data}
use Rattle.f2_format.specs.Footer.{footer_ino, has_dentry_mark}
use Rattle.f2_format.specs.Inode.{inode_of, NAME_BYTES}
use Rattle.f2_disk.specs.Contents.{Contents}
use Rattle.f2_model.specs.Tree.{Rows}
use Rattle.f2_model.specs.State.{State, Mark}
use Rattle.f2_image.specs.Bases.{inode_kind}
use Rattle.f2_image.specs.Chains.{block_in, IsNamed}
use Rattle.f2_stored.specs.Layout.{Reference, Layout, chained}
use Rattle.f2_stored.specs.Marks.{HasPage, none, there, address_at, HoldsMark}
use Rattle.f2_room_laws.specs.Fitting.{AreFitting}
use Rattle.f2_model.specs.declared.bounds.Limits.{Limits}
use Rattle.f2_change_laws.proofs.Fewer.{Fewer}

page_kept : (lists new : Contents) (at : ℕ) (page : Option (List ℕ)) → (at ≢ 0 → Fewer lists new at) → HasPage lists at page → HasPage new at page
page_kept lists new at page fewer none = none
page_kept lists new at page fewer (there place bytes some is) = there place bytes some ((fewer some).one bytes is)

module _ (lists new : Contents) (layout other : Layout) (base : Rows) (place : ℕ) (mark : Mark)
    (same : other.base ≡ layout.base) (block : block_in (chained other) place ≡ block_in (chained layout) place)
    (addresses : (page : ℕ) → address_at other place page ≡ address_at layout place page)
    (owners : (at : ℕ) (owner : ℕ × ℕ) → map.get layout.owners at ≡ Some owner → map.get other.owners at ≡ Some owner)
    (fewer : (at : ℕ) (owner : ℕ × ℕ) → map.get layout.owners at ≡ Some owner → IsTrue (is_in_data layout.base.ckpt.geom at) → Fewer lists new at) where
  pub mark_kept : HoldsMark lists layout base place mark → HoldsMark new other base place mark
  mark_kept holds = record {
    ino = holds.ino ∙ ap footer_ino (sym block);
    row_ino = holds.row_ino;
    regular = holds.regular;
    kind = ap inode_kind block ∙ holds.kind;
    size = holds.size ∙ ap (λ (b : List ℕ). (inode_of b).size) (sym block);
    most_size = holds.most_size;
    name_length = subst (λ (b : List ℕ). (inode_of b).name_length ≤ NAME_BYTES) (sym block) holds.name_length;
    named = subst (λ (b : List ℕ). IsNamed base b mark.row (map.get base mark.ino)) (sym block) holds.named;
    dentry = ap has_dentry_mark block ∙ holds.dentry;
    within = holds.within;
    pages = λ page less. subst (λ at. HasPage new at (map.get mark.row.pages page)) (sym (addresses page))
        (page_kept lists new (address_at layout place page) (map.get mark.row.pages page) (λ some. fewer (address_at layout place page) (mark.ino, page) (holds.owned page less some) (holds.in_zone page less some)) (holds.pages page less));
    owned = λ page less some. owners (address_at other place page) (mark.ino, page)
        (subst (λ at. map.get layout.owners at ≡ Some (mark.ino, page)) (sym (addresses page)) (holds.owned page less (λ zero. some (addresses page ∙ zero))));
    in_zone = λ page less some. subst (λ (held : Reference). IsTrue (is_in_data held.ckpt.geom (address_at other place page))) (sym same)
        (subst (λ at. IsTrue (is_in_data layout.base.ckpt.geom at)) (sym (addresses page)) (holds.in_zone page less (λ zero. some (addresses page ∙ zero))));
  }

-- the marks of a state that leaves the same and acknowledges no fewer
pub fitting_kept : (limits : Limits) (state : State) (tree : Option Rows) (acknowledged : ℕ) → state.acknowledged ≤ acknowledged → AreFitting limits state
    → AreFitting limits (record state { pending = tree; acknowledged = acknowledged })
fitting_kept limits state tree acknowledged more fitting = record {
  base = fitting.base;
  names = fitting.names;
  trees = λ place least most. fitting.trees place (omega (arith, more, least)) most;
}
