-- A block that reads as a node is the block of that node.
use Rattle.std.proofs.Common.{◌≡◌, ◌≢◌, ℕ, zero, suc, ◌+◌, ◌<◌, cond, List, length, get_or, Some, refl, ap, subst, ◌∙◌, inl, inr, arith}
use Rattle.std.specs.Prelude.{map as map_list, slice_index_or}
use Rattle.std.proofs.lemmas.Option.{same_Some}
use Rattle.std.proofs.lemmas.Bool.{cases_eq, ne_eqb}
use Rattle.f2_format.specs.Offsets.{inode_pages, node_slots, direct_of, direct_slot}
use Rattle.f2_format.specs.Inode.{InodeFields, inode_of, node_word, NIDS_AN_INODE}
use Rattle.f2_model.specs.declared.rows.Row.{Row}
use Rattle.f2_model.specs.declared.rows.Kind.{Kind}
use Rattle.f2_model.specs.declared.rows.Kind.TheVariants.{Regular, Directory}
use Rattle.f2_node_block.specs.Inodes.{mode_of}
use Rattle.f2_image.specs.Bases.{inode_kind, kind_of_mode}
use Rattle.f2_image.specs.Reached.{offset_below, nids_of_node, nid_in}
use Rattle.f2_image.specs.Faults.{IsForeign}
use Rattle.f2_blocks.specs.Blocks.{Numbered, ReadsAs, address_of, nid_of, word_of, fields_of}
use Rattle.f2_blocks.specs.Tree.{nodes_of_inode, node_at, first_page_of, node_limit}
use Rattle.f2_blocks.specs.declared.rows.NodeRow.{NodeRow}
use Rattle.f2_blocks.proofs.Shape.{in_slot}
use Rattle.f2_blocks.proofs.Fields.{word_of-page}
use Rattle.f2_blocks.proofs.Words.{get_or-words_of}
use Rattle.f2_stored.specs.Places.{NodeAt, Places, nid_at, page_at, IsNodeBlock, IsInodeOf}
use Rattle.f2_block_laws.specs.Nodes.{TellTheSame, HasFooter, TellsRow}
use Rattle.f2_block_laws.proofs.Below.{IsInner, is_below, is_inner}

-- the node that an inode's slot names
pub record IsTop (slot low : ℕ) : Type 0 where
  pub is : get_or nodes_of_inode slot 0 ≡ low
  pub inner : IsInner low

top_of : (slot n low : ℕ) → get_or nodes_of_inode slot 0 ≡ n → n ≢ 0 → n < node_limit → Some n ≡ Some low → IsTop slot low
top_of slot n low at other high is =
    let same = same_Some n low is in
    record { is = at ∙ same; inner = subst IsInner same (record { other = other; high = high }) }

is_top : (slot low : ℕ) → slot < 5 → offset_below 0 slot ≡ Some low → IsTop slot low
unfolding offset_below
is_top zero low small is = top_of 0 1 low refl (λ e. omega arith) (omega arith) is
is_top (suc zero) low small is = top_of 1 2 low refl (λ e. omega arith) (omega arith) is
is_top (suc (suc zero)) low small is = top_of 2 3 low refl (λ e. omega arith) (omega arith) is
is_top (suc (suc (suc zero))) low small is = top_of 3 1022 low refl (λ e. omega arith) (omega arith) is
is_top (suc (suc (suc (suc zero)))) low small is = top_of 4 2041 low refl (λ e. omega arith) (omega arith) is
is_top (suc (suc (suc (suc (suc k))))) low small is = absurd (omega arith)

-- the nid in a slot of an inode
nid_in_slot : (nid : ℕ → ℕ) (slot : ℕ) → slot < 5 → get_or (map_list nid nodes_of_inode) slot 0 ≡ nid (get_or nodes_of_inode slot 0)
nid_in_slot nid zero small = refl
nid_in_slot nid (suc zero) small = refl
nid_in_slot nid (suc (suc zero)) small = refl
nid_in_slot nid (suc (suc (suc zero))) small = refl
nid_in_slot nid (suc (suc (suc (suc zero)))) small = refl
nid_in_slot nid (suc (suc (suc (suc (suc k))))) small = absurd (omega arith)

module _ (places : Places) (ino : ℕ) (made : NodeRow) (pages nids : Numbered) (same : TellTheSame places ino pages nids) (offset : ℕ) (block : List ℕ) (reads : ReadsAs made pages nids offset block) where
  lower_of_inode : offset ≡ 0 → (slot low : ℕ) → slot < nids_of_node offset → offset_below offset slot ≡ Some low → nid_in block offset slot ≡ nid_at places ino low
  lower_of_inode e slot low small is =
      let few : slot < 5 = subst (λ n. slot < nids_of_node n) e small in
      let top = is_top slot low few (subst (λ n. offset_below n slot ≡ Some low) e is) in
      let here : nid_in block offset slot ≡ get_or (inode_of block).nids slot 0 = ap (λ n. nid_in block n slot) e in
      let fields : get_or (inode_of block).nids slot 0 ≡ get_or (map_list (nid_of pages nids) nodes_of_inode) slot 0 = ap (λ (f : InodeFields). get_or f.nids slot 0) (reads.inode e) in
      here ∙ fields ∙ nid_in_slot (nid_of pages nids) slot few ∙ ap (nid_of pages nids) top.is ∙ same.numbers low top.inner.other top.inner.high

  lower_of_node : offset ≢ 0 → (slot low : ℕ) → slot < nids_of_node offset → offset_below offset slot ≡ Some low → nid_in block offset slot ≡ nid_at places ino low
  lower_of_node other slot low small is =
      let few : slot < node_slots = subst (λ b. slot < cond b NIDS_AN_INODE node_slots) (ne_eqb offset 0 other) small in
      let at = is_below offset slot low other is in
      let inner = is_inner offset slot low other few is in
      let here : nid_in block offset slot ≡ node_word block slot = ap (λ b. cond b (get_or (inode_of block).nids slot 0) (node_word block slot)) (ne_eqb offset 0 other) in
      let word : word_of pages nids offset slot ≡ nid_of pages nids (node_at offset slot) = ap (λ b. cond b (nid_of pages nids (node_at offset slot)) (address_of pages (first_page_of offset + slot))) at.kind in
      here ∙ reads.words other slot few ∙ word ∙ ap (nid_of pages nids) at.is ∙ same.numbers low inner.other inner.high

  lower : (slot low : ℕ) → slot < nids_of_node offset → offset_below offset slot ≡ Some low → nid_in block offset slot ≡ nid_at places ino low
  lower slot low small is =
      elim (cases_eq offset 0) [
        | inl e ↦ lower_of_inode e slot low small is
        | inr other ↦ lower_of_node other slot low small is
      ]

  own_pages : (page : ℕ) → direct_of page ≡ Some offset → node_word block (direct_slot page) ≡ page_at places ino page
  own_pages page direct =
      let slot = in_slot page offset direct in
      reads.words (λ none. omega (arith, slot.low)) (direct_slot page) (omega arith) ∙ word_of-page pages nids page offset direct ∙ same.addresses page slot.within

  pub is_node_block : (node : NodeAt) → HasFooter ino offset node.nid block → IsNodeBlock places ino offset node block
  is_node_block node footer = record {
    footer_nid = footer.is_nid;
    footer_ino = footer.is_ino;
    footer_offset = footer.is_offset;
    lower = lower;
    pages = own_pages;
  }

-- the kind that an inode's mode tells
kind_is : (kind : Kind) → kind_of_mode (mode_of kind) ≡ Some kind
kind_is Regular = refl
kind_is Directory = refl

module _ (places : Places) (row : Row) (made : NodeRow) (pages nids : Numbered) (block : List ℕ) (same : TellTheSame places row.ino pages nids) (reads : ReadsAs made pages nids 0 block) (tells : TellsRow made row) where
  fields : inode_of block ≡ fields_of made pages nids
  fields = reads.inode refl

  kind : inode_kind block ≡ Some row.kind
  kind = ap (λ (f : InodeFields). kind_of_mode f.mode) fields ∙ kind_is made.kind ∙ ap Some tells.kind

  own : ¬ (IsForeign block)
  own (inl none) = let told = kind in absurd (cc)
  own (inr (inl long)) =
      let name : (inode_of block).name_length ≡ length made.name.now = ap (λ (f : InodeFields). f.name_length) fields in
      omega (arith, long, name, tells.most_name)
  own (inr (inr large)) =
      let size : (inode_of block).size ≡ made.size = ap (λ (f : InodeFields). f.size) fields in
      omega (arith, large, size, tells.most_size)

  addresses : (page : ℕ) → page < inode_pages → slice_index_or (inode_of block).addresses page 0 ≡ page_at places row.ino page
  addresses page low =
      ap (λ (f : InodeFields). get_or f.addresses page 0) fields
      ∙ get_or-words_of (address_of pages) inode_pages page low
      ∙ same.addresses page (omega (arith, low))

  pub is_inode_of : IsInodeOf places row block
  is_inode_of = record {
    kind = kind;
    own = own;
    size = λ regular. ap (λ (f : InodeFields). f.size) fields ∙ tells.own_size regular;
    addresses = addresses;
  }
