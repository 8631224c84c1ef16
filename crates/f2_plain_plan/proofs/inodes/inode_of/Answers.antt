use Rattle.std.proofs.Common.{◌≡◌, ◌∙◌, ◌≤◌, ℕ, List, sym, subst, ap, arith, replicate, get_or, length}
use Rattle.std.specs.Prelude.{slice_index_or}
use Rattle.std.proofs.lemmas.List.{get_or-replicate}
use Rattle.f2_footer.specs.declared.Footer.{Footer}
use Rattle.f2_format.specs.Footer.{flag_offset}
use Rattle.f2_format.specs.Inode.{inode_of, SIZE_LIMIT}
use Rattle.f2_node_block.specs.declared.inodes.Inode.{Inode}
use Rattle.f2_plain_plan.proofs.InodeSteps.{number_behind, read_says, zero_behind}
use Rattle.f2_plain_plan.proofs.inodes.inode_of.Goals as goal

pub returns-clause-inode : goal.returns-clause-inode
returns-clause-inode c =
    let inode : Inode = record { kind = c.args.row.now.kind; size = c.size_of.result; pino = c.args.row.now.parent; name_len = c.len.result; name = c.padded.result; addr = c.args.place.now.addresses; nid = replicate 5 0 } in
    let small : inode.size ≤ SIZE_LIMIT = c.size_of.ensures.within c.requires.size in
    let says = read_says (inode_of c.write_inode.new.b) inode (c.write_inode.ensures.reads_back small (λ k h. ap (λ (xs : List ℕ). get_or xs k 0) c.padded.ensures ∙ zero_behind c.args.row.now.name _ k (subst (λ n. n ≤ k) c.len.ensures h))) in
    let footer = c.write.ensures.reads_back ∙ c.footer_of.ensures in
    let same : length c.write_inode.new.b ≡ length c.write.new.b = c.write_inode.array_long ∙ sym c.write.array_long in
    let long : 4072 ≤ length c.write.new.b = omega (arith, c.write.array_long) in
    let stays = λ (n at : ℕ) (h : 4072 ≤ at). number_behind 4072 n at _ c.write.new.b c.write_inode.new.b c.write_inode.ensures.written same long h in
    record {
      kind = says.kind;
      size = subst (λ n. n ≤ SIZE_LIMIT) (sym says.size) small;
      own_size = λ r. says.size ∙ c.size_of.ensures.file r;
      name_length = says.name_length;
      addresses = says.addresses;
      no_nids = λ slot h. ap (λ (l : List ℕ). slice_index_or l slot 0) says.nids ∙ get_or-replicate 5 slot 0 0 h;
      nid = stays 4 4072 (omega arith) ∙ ap (λ (f : Footer). f.nid) footer;
      ino = stays 4 4076 (omega arith) ∙ ap (λ (f : Footer). f.ino) footer;
      offset = ap flag_offset (stays 4 4080 (omega arith)) ∙ ap (λ (f : Footer). f.offset) footer;
    }

pub returns-clause-unlogged : goal.returns-clause-unlogged
returns-clause-unlogged c =
    let same : length c.write_inode.new.b ≡ length c.write.new.b = c.write_inode.array_long ∙ sym c.write.array_long in
    let long : 4072 ≤ length c.write.new.b = omega (arith, c.write.array_long) in
    number_behind 4072 8 4084 _ c.write.new.b c.write_inode.new.b c.write_inode.ensures.written same long (omega arith)
    ∙ ap (λ (f : Footer). f.cp_ver) (c.write.ensures.reads_back ∙ c.footer_of.ensures)
