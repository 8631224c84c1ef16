-- An inode that was written is the inode that is read.
use Rattle.std.proofs.Common.{◌≡◌, ℕ, ◌+◌, ◌-◌, ◌*◌, ◌^◌, ◌<◌, ◌≤◌, List, [], ◌∷◌, ◌++◌, length, take, drop, get_or, Option, Ok, Some, refl, sym, ap, ◌∙◌, arith, length-append, length-drop, get_or-drop}
use Rattle.std.specs.List.{flat_map}
use Rattle.std.proofs.lemmas.Bool.{cond-false, le-ltb}
use Rattle.std.proofs.lemmas.List.{take-append-drop, length-take-le}
use Rattle.std.proofs.lemmas.Grind.{same_number_lists}
use Rattle.f2_format.specs.Bytes.{Field, number_at, number_bytes, numbers_at, with_bytes, with_fields, zeros}
use Rattle.f2_format.specs.Inode.{InodeFields, inode_of, inode_bytes, SIZE_LIMIT}
use Rattle.f2_format.proofs.BytesLemmas.{length-number_bytes, length-with_bytes, length-flat_map_numbers, number_at-with_bytes_same, numbers_at-with_bytes_same, slice_range-with_bytes_same}
use Rattle.f2_model.specs.declared.rows.Kind.{Kind}
use Rattle.f2_model.specs.declared.rows.Kind.TheVariants.{Regular, Directory}
use Rattle.f2_node_block.specs.declared.inodes.Inode.{Inode}
use Rattle.f2_node_block.specs.Inodes.{IsPadded, checked_inode, checked_with, fields_of, known_kind, links_of, mode_of, padded_name}
use Rattle.f2_node_block.proofs.Pieces.{get_or-zeros, length-zeros}
use Rattle.f2_node_block.proofs.Rows.{Past, bytes-stay, number-stays, numbers-stay, with_fields-append}

-- the values that the fields of an inode can have
pub record Fits (inode : InodeFields) : Type 0 where
  pub mode : inode.mode < 2 ^ 16
  pub links : inode.links < 2 ^ 32
  pub size : inode.size < 2 ^ 64
  pub blocks : inode.blocks < 2 ^ 64
  pub parent : inode.parent < 2 ^ 32
  pub name_length : inode.name_length < 2 ^ 32
  pub name : length inode.name ≡ 255
  pub addresses : length inode.addresses ≡ 923
  pub each_address : (k : ℕ) → k < 923 → get_or inode.addresses k 0 < 2 ^ 32
  pub nids : length inode.nids ≡ 5
  pub each_nid : (k : ℕ) → k < 5 → get_or inode.nids k 0 < 2 ^ 32

-- the last fields of an inode, from these on
abbrev pub from_nids : InodeFields → List Field
from_nids inode = (4052, flat_map (number_bytes 4) inode.nids) ∷ []

abbrev pub from_addresses : InodeFields → List Field
from_addresses inode = (360, flat_map (number_bytes 4) inode.addresses) ∷ from_nids inode

abbrev pub from_name : InodeFields → List Field
from_name inode = (92, inode.name) ∷ from_addresses inode

abbrev pub from_name_length : InodeFields → List Field
from_name_length inode = (88, number_bytes 4 inode.name_length) ∷ from_name inode

abbrev pub from_parent : InodeFields → List Field
from_parent inode = (84, number_bytes 4 inode.parent) ∷ from_name_length inode

abbrev pub from_blocks : InodeFields → List Field
from_blocks inode = (24, number_bytes 8 inode.blocks) ∷ from_parent inode

abbrev pub from_size : InodeFields → List Field
from_size inode = (16, number_bytes 8 inode.size) ∷ from_blocks inode

abbrev pub from_links : InodeFields → List Field
from_links inode = (12, number_bytes 4 inode.links) ∷ from_size inode

-- all fields of an inode
abbrev pub all_fields : InodeFields → List Field
all_fields inode = (0, number_bytes 2 inode.mode) ∷ from_links inode

-- the fields from these on begin at k or past it, and end before the footer
past_nids : (k : ℕ) (inode : InodeFields) → Fits inode → k ≤ 4052 → Past k 4072 (from_nids inode)
past_nids k inode fits before =
    let long = fits.nids in
    (before, omega (arith, length-flat_map_numbers 4 inode.nids), tt)

past_addresses : (k : ℕ) (inode : InodeFields) → Fits inode → k ≤ 360 → Past k 4072 (from_addresses inode)
past_addresses k inode fits before =
    let long = fits.addresses in
    (before, omega (arith, length-flat_map_numbers 4 inode.addresses), past_nids k inode fits (omega arith))

past_name : (k : ℕ) (inode : InodeFields) → Fits inode → k ≤ 92 → Past k 4072 (from_name inode)
past_name k inode fits before =
    let long = fits.name in
    (before, omega arith, past_addresses k inode fits (omega arith))

past_name_length : (k : ℕ) (inode : InodeFields) → Fits inode → k ≤ 88 → Past k 4072 (from_name_length inode)
past_name_length k inode fits before =
    (before, omega (arith, length-number_bytes 4 inode.name_length), past_name k inode fits (omega arith))

past_parent : (k : ℕ) (inode : InodeFields) → Fits inode → k ≤ 84 → Past k 4072 (from_parent inode)
past_parent k inode fits before =
    (before, omega (arith, length-number_bytes 4 inode.parent), past_name_length k inode fits (omega arith))

past_blocks : (k : ℕ) (inode : InodeFields) → Fits inode → k ≤ 24 → Past k 4072 (from_blocks inode)
past_blocks k inode fits before =
    (before, omega (arith, length-number_bytes 8 inode.blocks), past_parent k inode fits (omega arith))

past_size : (k : ℕ) (inode : InodeFields) → Fits inode → k ≤ 16 → Past k 4072 (from_size inode)
past_size k inode fits before =
    (before, omega (arith, length-number_bytes 8 inode.size), past_blocks k inode fits (omega arith))

past_links : (k : ℕ) (inode : InodeFields) → Fits inode → k ≤ 12 → Past k 4072 (from_links inode)
past_links k inode fits before =
    (before, omega (arith, length-number_bytes 4 inode.links), past_size k inode fits (omega arith))

past_all : (inode : InodeFields) → Fits inode → Past 0 4072 (all_fields inode)
past_all inode fits =
    (omega arith, omega (arith, length-number_bytes 2 inode.mode), past_links 0 inode fits (omega arith))

-- a field that is a number is read, once it and the fields past it were written
number-reads : (n at number : ℕ) (block : List ℕ) (fields : List Field) → at + n ≤ 4072 → 4072 ≤ length block → number < 256 ^ n → Past (at + n) 4072 fields
    → number_at n (with_fields block ((at, number_bytes n number) ∷ fields)) at ≡ number
number-reads n at number block fields room long small past =
    let width = length-number_bytes n number in
    let kept = length-with_bytes block at (number_bytes n number) (omega arith) in
    number-stays n at 4072 (with_bytes block at (number_bytes n number)) fields (omega arith) past
    ∙ number_at-with_bytes_same n block at number (omega arith) small

-- the same of numbers
numbers-read : (at count : ℕ) (numbers block : List ℕ) (fields : List Field) → at + 4 * count ≤ 4072 → 4072 ≤ length block → length numbers ≡ count
    → ((k : ℕ) → k < count → get_or numbers k 0 < 2 ^ 32) → Past (at + 4 * count) 4072 fields
    → numbers_at 4 (with_fields block ((at, flat_map (number_bytes 4) numbers) ∷ fields)) at count ≡ numbers
numbers-read at count numbers block fields room long is small past =
    let bytes = flat_map (number_bytes 4) numbers in
    let width = length-flat_map_numbers 4 numbers in
    let kept = length-with_bytes block at bytes (omega arith) in
    numbers-stay 4 at count 4072 (with_bytes block at bytes) fields (omega arith) past
    ∙ numbers_at-with_bytes_same 4 block at numbers count (omega arith) is small

-- an inode that was written over any block is read
pub inode_of-with_fields : (block : List ℕ) (inode : InodeFields) → 4072 ≤ length block → Fits inode → inode_of (with_fields block (all_fields inode)) ≡ inode
inode_of-with_fields block inode long fits =
    let mode_width = length-number_bytes 2 inode.mode in
    let links_width = length-number_bytes 4 inode.links in
    let size_width = length-number_bytes 8 inode.size in
    let blocks_width = length-number_bytes 8 inode.blocks in
    let parent_width = length-number_bytes 4 inode.parent in
    let name_length_width = length-number_bytes 4 inode.name_length in
    let name_width = fits.name in
    let with_mode = with_bytes block 0 (number_bytes 2 inode.mode) in
    let long1 = length-with_bytes block 0 (number_bytes 2 inode.mode) (omega arith) in
    let with_links = with_bytes with_mode 12 (number_bytes 4 inode.links) in
    let long2 = length-with_bytes with_mode 12 (number_bytes 4 inode.links) (omega arith) in
    let with_size = with_bytes with_links 16 (number_bytes 8 inode.size) in
    let long3 = length-with_bytes with_links 16 (number_bytes 8 inode.size) (omega arith) in
    let with_blocks = with_bytes with_size 24 (number_bytes 8 inode.blocks) in
    let long4 = length-with_bytes with_size 24 (number_bytes 8 inode.blocks) (omega arith) in
    let with_parent = with_bytes with_blocks 84 (number_bytes 4 inode.parent) in
    let long5 = length-with_bytes with_blocks 84 (number_bytes 4 inode.parent) (omega arith) in
    let with_name_length = with_bytes with_parent 88 (number_bytes 4 inode.name_length) in
    let long6 = length-with_bytes with_parent 88 (number_bytes 4 inode.name_length) (omega arith) in
    let with_name = with_bytes with_name_length 92 inode.name in
    let long7 = length-with_bytes with_name_length 92 inode.name (omega arith) in
    let with_addresses = with_bytes with_name 360 (flat_map (number_bytes 4) inode.addresses) in
    let addresses_count = fits.addresses in
    let addresses_width = length-flat_map_numbers 4 inode.addresses in
    let long8 = length-with_bytes with_name 360 (flat_map (number_bytes 4) inode.addresses) (omega arith) in
    let mode = number-reads 2 0 inode.mode block (from_links inode) (omega arith) (omega arith) fits.mode (past_links 2 inode fits (omega arith)) in
    let links = number-reads 4 12 inode.links with_mode (from_size inode) (omega arith) (omega arith) fits.links (past_size 16 inode fits (omega arith)) in
    let size = number-reads 8 16 inode.size with_links (from_blocks inode) (omega arith) (omega arith) fits.size (past_blocks 24 inode fits (omega arith)) in
    let blocks = number-reads 8 24 inode.blocks with_size (from_parent inode) (omega arith) (omega arith) fits.blocks (past_parent 32 inode fits (omega arith)) in
    let parent = number-reads 4 84 inode.parent with_blocks (from_name_length inode) (omega arith) (omega arith) fits.parent (past_name_length 88 inode fits (omega arith)) in
    let name_length = number-reads 4 88 inode.name_length with_parent (from_name inode) (omega arith) (omega arith) fits.name_length (past_name 92 inode fits (omega arith)) in
    let name = bytes-stay 92 347 4072 with_name (from_addresses inode) (omega arith) (past_addresses 347 inode fits (omega arith)) ∙ slice_range-with_bytes_same with_name_length 92 inode.name 347 (omega arith) (omega arith) in
    let addresses = numbers-read 360 923 inode.addresses with_name (from_nids inode) (omega arith) (omega arith) fits.addresses fits.each_address (past_nids 4052 inode fits (omega arith)) in
    let nids = numbers-read 4052 5 inode.nids with_addresses [] (omega arith) (omega arith) fits.nids fits.each_nid tt in
    rw (mode, links, size, blocks, parent, name_length, name, addresses, nids) refl

-- the bytes of an inode in front of a footer are its fields over zeros
pub inode_bytes-is : (inode : InodeFields) (footer : List ℕ) → Fits inode → inode_bytes inode ++ footer ≡ with_fields (zeros 4072 ++ footer) (all_fields inode)
inode_bytes-is inode footer fits =
    let long = length-zeros 4072 in
    sym (with_fields-append 4072 (zeros 4072) footer (all_fields inode) (omega arith) (past_all inode fits))

-- an inode that was written in front of a footer is read
pub inode_of-inode_bytes : (inode : InodeFields) (footer : List ℕ) → Fits inode → inode_of (inode_bytes inode ++ footer) ≡ inode
inode_of-inode_bytes inode footer fits =
    let long = length-zeros 4072 in
    let both = length-append (zeros 4072) footer in
    ap inode_of (inode_bytes-is inode footer fits) ∙ inode_of-with_fields (zeros 4072 ++ footer) inode (omega arith) fits

-- zeros over all that stands before the footer
pub zeros-written : (block : List ℕ) → with_bytes block 0 (zeros 4072) ≡ zeros 4072 ++ drop 4072 block
unfolding with_bytes
zeros-written block =
    let all : 0 + length (zeros 4072) ≡ 4072 = omega (arith, length-zeros 4072) in
    ap (λ (n : ℕ). zeros 4072 ++ drop n block) all

known_kind-mode_of : (kind : Kind) → known_kind (mode_of kind) ≡ Some kind
known_kind-mode_of Regular = refl
known_kind-mode_of Directory = refl

mode_of-lt : (kind : Kind) → mode_of kind < 2 ^ 16
mode_of-lt Regular = omega arith
mode_of-lt Directory = omega arith

links_of-lt : (kind : Kind) → links_of kind < 2 ^ 32
links_of-lt Regular = omega arith
links_of-lt Directory = omega arith

-- a padded name has 255 bytes
length-padded_name : (inode : Inode) → length inode.name ≡ 255 → inode.name_len < 256 → length (padded_name inode) ≡ 255
length-padded_name inode long fits =
    let front = length-take-le {A = ℕ} inode.name_len inode.name (omega arith) in
    let back = length-zeros (255 - inode.name_len) in
    omega (arith, length-append (take inode.name_len inode.name) (zeros (255 - inode.name_len)))

-- the fields of an inode fit where its values have their types
pub Fits-fields_of : (inode : Inode) (blocks : ℕ) → inode.size < 2 ^ 64 → blocks < 2 ^ 64 → inode.pino < 2 ^ 32 → inode.name_len < 256
    → length inode.name ≡ 255 → length inode.addr ≡ 923 → ((k : ℕ) → get_or inode.addr k 0 < 2 ^ 32)
    → length inode.nid ≡ 5 → ((k : ℕ) → get_or inode.nid k 0 < 2 ^ 32) → Fits (fields_of inode blocks)
Fits-fields_of inode blocks size blocks_fit parent name_length name addresses each_address nids each_nid =
    record {
      mode = mode_of-lt inode.kind;
      links = links_of-lt inode.kind;
      size = size;
      blocks = blocks_fit;
      parent = parent;
      name_length = omega arith;
      name = length-padded_name inode name name_length;
      addresses = addresses;
      each_address = λ k h. each_address k;
      nids = nids;
      each_nid = λ k h. each_nid k;
    }

-- a name with zeros behind it stays
padded_name-is : (inode : Inode) → length inode.name ≡ 255 → inode.name_len < 256 → IsPadded inode → padded_name inode ≡ inode.name
padded_name-is inode long fits padded =
    let front = length-take-le {A = ℕ} inode.name_len inode.name (omega arith) in
    let back = length-drop inode.name_len inode.name in
    let zero_rest : zeros (255 - inode.name_len) ≡ drop inode.name_len inode.name =
    same_number_lists (zeros (255 - inode.name_len)) (drop inode.name_len inode.name) (omega (arith, length-zeros (255 - inode.name_len)))
    (λ k h.
    let within : k < 255 - inode.name_len = omega (arith, length-zeros (255 - inode.name_len)) in
    get_or-zeros (255 - inode.name_len) k within
    ∙ sym (get_or-drop inode.name_len inode.name k 0 ∙ padded (inode.name_len + k) (omega arith))) in
    ap (λ (xs : List ℕ). take inode.name_len inode.name ++ xs) zero_rest ∙ take-append-drop inode.name_len inode.name

-- the fields of an inode tell it
pub checked_inode-fields_of : (inode : Inode) (blocks : ℕ) → length inode.name ≡ 255 → inode.name_len < 256 → inode.size ≤ SIZE_LIMIT → IsPadded inode
    → checked_inode (fields_of inode blocks) ≡ Ok inode
checked_inode-fields_of inode blocks long fits within padded =
    let name_length = le-ltb 255 inode.name_len (omega arith) in
    let size = le-ltb SIZE_LIMIT inode.size within in
    ap (λ (kind : Option Kind). checked_with kind (fields_of inode blocks)) (known_kind-mode_of inode.kind)
    ∙ cond-false _ _ _ name_length
    ∙ cond-false _ _ _ size
    ∙ ap (λ (name : List ℕ). Ok (record inode { name = name })) (padded_name-is inode long fits padded)
