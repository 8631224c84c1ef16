-- A block of a node reads its bytes before the footer alone.
use Rattle.std.proofs.Common.{◌≡◌, ℕ, ◌+◌, ◌*◌, ◌<◌, List, length, take, get_or, ap, sym, ◌∙◌, arith}
use Rattle.std.proofs.lemmas.List.{get_or-take}
use Rattle.f2_format.specs.Inode.{inode_of, node_word}
use Rattle.f2_format.specs.Offsets.{node_slots}
use Rattle.f2_format.proofs.BytesLemmas.{number_at-same, numbers_at-same, slice_range-same}
use Rattle.f2_blocks.specs.Blocks.{Numbered, ReadsAs}
use Rattle.f2_blocks.specs.declared.rows.NodeRow.{NodeRow}

module _ (old new : List ℕ) (long : length new ≡ length old) (same : take 4072 new ≡ take 4072 old) where
  byte-same : (k : ℕ) → k < 4072 → get_or new k 0 ≡ get_or old k 0
  byte-same k h = sym (get_or-take 4072 new k 0 h) ∙ ap (λ (bytes : List ℕ). get_or bytes k 0) same ∙ get_or-take 4072 old k 0 h

  word-same : (slot : ℕ) → slot < node_slots → node_word new slot ≡ node_word old slot
  word-same slot within = number_at-same 4 new old (4 * slot) (4 * slot) (λ k h. byte-same (4 * slot + k) (omega arith))

  inode-same : inode_of new ≡ inode_of old
  inode-same =
      let mode = number_at-same 2 new old 0 0 (λ k h. byte-same (0 + k) (omega arith)) in
      let links = number_at-same 4 new old 12 12 (λ k h. byte-same (12 + k) (omega arith)) in
      let size = number_at-same 8 new old 16 16 (λ k h. byte-same (16 + k) (omega arith)) in
      let blocks = number_at-same 8 new old 24 24 (λ k h. byte-same (24 + k) (omega arith)) in
      let parent = number_at-same 4 new old 84 84 (λ k h. byte-same (84 + k) (omega arith)) in
      let name_length = number_at-same 4 new old 88 88 (λ k h. byte-same (88 + k) (omega arith)) in
      let name = slice_range-same new old 92 347 long (λ k low high. byte-same k (omega arith)) in
      let addresses = numbers_at-same 4 new old 360 923 (λ k low high. byte-same k (omega arith)) in
      let nids = numbers_at-same 4 new old 4052 5 (λ k low high. byte-same k (omega arith)) in
      λ i.
      record {
        mode = mode i;
        links = links i;
        size = size i;
        blocks = blocks i;
        parent = parent i;
        name_length = name_length i;
        name = name i;
        addresses = addresses i;
        nids = nids i;
      }

  pub ReadsAs-same : (row : NodeRow) (pages nids : Numbered) (offset : ℕ) → ReadsAs row pages nids offset old → ReadsAs row pages nids offset new
  ReadsAs-same row pages nids offset reads = record {
    inode = λ first. inode-same ∙ reads.inode first;
    words = λ other slot within. word-same slot within ∙ reads.words other slot within;
  }
