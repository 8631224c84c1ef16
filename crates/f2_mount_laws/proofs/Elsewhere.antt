-- Nothing of a tree that is taken over stands at a free address.
use Rattle.std.proofs.Common.{◌≡◌, ◌≢◌, ◌⊎◌, inl, inr, ℕ, zero, suc, ◌<◌, List, [], ◌∷◌, length, map as map_list, Contains, slice_index_or, refl, sym, ap, ◌∙◌, subst, arith}
use Rattle.std.specs.Prelude.{Some}
use Rattle.std.specs.FinMap as map
use Rattle.f2_image.specs.Chains.{Logged, chain, no_block}
use Rattle.f2_image.specs.Reached.{IsPage}
use Rattle.f2_image_laws.specs.Depending as depending
use Rattle.f2_stored.specs.Places.{NodeAt, Places}
use Rattle.f2_stored.specs.Trees.{Unwritten}
use Rattle.f2_stored.specs.Layout.{Layout}
use Rattle.f2_stored.specs.Bases as bases
use Rattle.f2_stored.specs.Changes.{tells, depends, logged, IsFree}
use Rattle.f2_stored.specs.Kept.{IsElsewhere}
use Rattle.f2_disk.specs.Contents.{Contents}
use Rattle.f2_model.specs.State.{State}
use Rattle.f2_place_laws.specs.Living.{with_page, with_node}
use Rattle.f2_place_laws.proofs.Pairs.{pair, same_or_other, put_here, put_other}
use Rattle.f2_image.proofs.OneBase.{same_some}
use Rattle.f2_mount_laws.specs.Writing.{GoesOn, FreeAddressesAreElsewhere, WrittenPagesStayElsewhere, WrittenNodesStayElsewhere}
use Rattle.f2_mount_laws.proofs.Old.{is_node, node_at}
use Rattle.f2_mount_laws.proofs.TakenNodes.{NodeIs, in_base, in_log, new, node_is}
use Rattle.f2_mount_laws.proofs.TakenPages.{PageIs, read, page_is}
use Rattle.f2_mount_laws.proofs.TakenPages as pages

-- the address at a place of a log is among its addresses
in_addresses : (log : List Logged) (place : ℕ) → place < length log → Contains (map_list (λ one. one.at) log) ((slice_index_or log place no_block).at)
in_addresses [] place small = absurd (omega (arith, small))
in_addresses (one ∷ rest) zero small = (0, omega arith, refl)
in_addresses (one ∷ rest) (suc place) small = let later = in_addresses rest place (omega (arith, small)) in (suc later.0, omega (arith, later.1), later.2)

module _ (lists : Contents) (layout : Layout) (state : State) (places : Places) (unwritten : Unwritten) (at : ℕ) (goes : GoesOn lists layout state places unwritten) (free : IsFree layout at) where
  abbrev Is : ℕ → ℕ → NodeAt → Type 0
  Is ino offset n = NodeIs layout.base.image layout.base.ckpt state.base state.marks state.live places unwritten goes.image.base.means goes.taken ino offset n

  not_first : at ≢ 0
  not_first none = free.base (tells (subst (bases.TellsCheckpoint layout.base.ckpt) (sym none) bases.first_superblock))

  node_off : (ino offset : ℕ) (n : NodeAt) → Is ino offset n → n.at ≢ at
  node_off ino offset n (in_base there) same =
      free.base (depends (depending.node ino offset n.nid (is_node layout.base.image layout.base.ckpt state.base goes.image.base.means.is_base goes.taken.old goes.taken.stands ino offset n there)
      (sym (node_at layout.base.image layout.base.ckpt state.base goes.image.base.means.is_base goes.taken.old goes.taken.stands ino offset n there ∙ same))))
  node_off ino offset n (in_log its) same =
      free.base (logged (subst (Contains (map_list (λ one. one.at) (chain layout.base.image layout.base.ckpt))) (sym its.at_is ∙ same) (in_addresses (chain layout.base.image layout.base.ckpt) its.place its.within)))
  node_off ino offset n (new other nowhere own) same = not_first (sym same ∙ nowhere)

  abbrev PageOf : ℕ → ℕ → ℕ → Type 0
  PageOf ino page other = PageIs layout.base.image layout.base.ckpt state.base state.marks state.live places unwritten goes.image.base.means goes.taken ino page other

  page_off : (ino page other : ℕ) → PageOf ino page other → other ≢ at
  page_off ino page other (read its) same = free.base (depends (depending.page ino page (subst (IsPage layout.base.image layout.base.ckpt ino page) same its)))
  page_off ino page other (pages.new nowhere) same = not_first (sym same ∙ nowhere)

  elsewhere : IsElsewhere places at
  elsewhere = record {
    nodes = λ ino offset n there. node_off ino offset n (node_is layout.base.image layout.base.ckpt state.base state.marks state.live places unwritten goes.image.base.means goes.taken ino offset n there);
    pages = λ ino page other there. page_off ino page other (page_is layout.base.image layout.base.ckpt state.base state.marks state.live places unwritten goes.image.base.means goes.taken ino page other there);
  }

pub are_elsewhere : FreeAddressesAreElsewhere
are_elsewhere lists layout state places unwritten at goes free = elsewhere lists layout state places unwritten at goes free

-- once more was written
pub pages_elsewhere : WrittenPagesStayElsewhere
pages_elsewhere places ino page fresh at off apart = record { nodes = off.nodes; pages = λ file other its there. by_key file other its there (same_or_other (file, other) (ino, page)) }
  where
    by_key : (file other its : ℕ) → map.get (with_page places ino page fresh).pages (file, other) ≡ Some its → (pair file other ≡ pair ino page) ⊎ (pair file other ≢ pair ino page) → its ≢ at
    by_key file other its there (inl same) =
        let is_new : its ≡ fresh = same_some its fresh (sym there ∙ ap (map.get (with_page places ino page fresh).pages) same ∙ put_here places.pages (ino, page) fresh) in
        λ e. apart (sym is_new ∙ e)
    by_key file other its there (inr differ) = off.pages file other its (sym (put_other places.pages (ino, page) fresh (file, other) differ) ∙ there)

pub nodes_elsewhere : WrittenNodesStayElsewhere
nodes_elsewhere places ino offset node at off apart = record { nodes = λ file other n there. by_key file other n there (same_or_other (file, other) (ino, offset)); pages = off.pages }
  where
    by_key : (file other : ℕ) (n : NodeAt) → map.get (with_node places ino offset node).nodes (file, other) ≡ Some n → (pair file other ≡ pair ino offset) ⊎ (pair file other ≢ pair ino offset) → n.at ≢ at
    by_key file other n there (inl same) =
        let is_new : n ≡ node = same_some n node (sym there ∙ ap (map.get (with_node places ino offset node).nodes) same ∙ put_here places.nodes (ino, offset) node) in
        λ e. apart (ap (λ (m : NodeAt). m.at) (sym is_new) ∙ e)
    by_key file other n there (inr differ) = off.nodes file other n (sym (put_other places.nodes (ino, offset) node (file, other) differ) ∙ there)
