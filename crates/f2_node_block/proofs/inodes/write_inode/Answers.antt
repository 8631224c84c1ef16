use Rattle.std.proofs.Common.{◌≡◌, ◌∙◌, ℕ, List, ap, sym, drop, rules}
use Rattle.f2_format.specs.Bytes.{number_bytes, with_bytes, with_fields, zeros}
use Rattle.f2_format.specs.Inode.{InodeFields, inode_of}
use Rattle.f2_node_block.specs.declared.inodes.Inode.{Inode}
use Rattle.f2_node_block.specs.Inodes.{checked_inode, fields_of}
use Rattle.f2_node_block.proofs.InodeLemmas.{Fits-fields_of, all_fields, checked_inode-fields_of, from_addresses, from_blocks, from_links, from_name, from_name_length, from_nids, from_parent, from_size, inode_bytes-is, inode_of-inode_bytes, zeros-written}
use Rattle.f2_node_block.proofs.Rows.{field-before}
use Rattle.f2_node_block.proofs.inodes.write_inode.Goals as goal

pub returns-clause-written : goal.returns-clause-written
unfolding zeros
returns-clause-written c =
    let inode : Inode = c.args.i.now in
    let fits = Fits-fields_of inode c.args.blocks (search rules) (search rules) (search rules) (search rules) (search rules) (search rules) c.put_words.ensures.fits (search rules) c.put_words-2.ensures.fits in
    let fields : InodeFields = fields_of inode c.args.blocks in
    let after9 : c.put_words-2.new.b ≡ with_fields c.put_words.new.b (from_nids fields) = c.put_words-2.ensures.written in
    let after8 = field-before _ _ _ 360 _ (from_nids fields) after9 c.put_words.ensures.written in
    let after7 = field-before _ _ _ 92 _ (from_addresses fields) after8 (c.put_bytes-2.ensures ∙ ap (λ (name : List ℕ). with_bytes c.put32-3.new.b 92 name) c.padded.ensures) in
    let after6 = field-before _ _ _ 88 _ (from_name fields) after7 c.put32-3.ensures.written in
    let after5 = field-before _ _ _ 84 _ (from_name_length fields) after6 c.put32-2.ensures.written in
    let after4 = field-before _ _ _ 24 _ (from_parent fields) after5 c.put64-2.ensures.written in
    let after3 = field-before _ _ _ 16 _ (from_blocks fields) after4 c.put64.ensures.written in
    let after2 = field-before _ _ _ 12 _ (from_size fields) after3 (c.put32.ensures.written ∙ ap (λ (links : ℕ). with_bytes c.put16.new.b 12 (number_bytes 4 links)) c.links_of.ensures) in
    let after1 : c.put_words-2.new.b ≡ with_fields c.put_bytes.new.b (all_fields fields) =
    field-before _ _ _ 0 _ (from_links fields) after2 (c.put16.ensures.written ∙ ap (λ (mode : ℕ). with_bytes c.put_bytes.new.b 0 (number_bytes 2 mode)) c.mode_of.ensures) in
    after1
    ∙ ap (λ (b : List ℕ). with_fields b (all_fields fields)) (c.put_bytes.ensures ∙ zeros-written c.args.b.now)
    ∙ sym (inode_bytes-is fields (drop 4072 c.args.b.now) fits)

pub returns-clause-reads_back : goal.returns-clause-reads_back
returns-clause-reads_back c within padded =
    let inode : Inode = c.args.i.now in
    let fits = Fits-fields_of inode c.args.blocks (search rules) (search rules) (search rules) (search rules) (search rules) (search rules) c.put_words.ensures.fits (search rules) c.put_words-2.ensures.fits in
    ap (λ (b : List ℕ). checked_inode (inode_of b)) (returns-clause-written c)
    ∙ ap checked_inode (inode_of-inode_bytes (fields_of inode c.args.blocks) (drop 4072 c.args.b.now) fits)
    ∙ checked_inode-fields_of inode c.args.blocks (search rules) (search rules) within padded
