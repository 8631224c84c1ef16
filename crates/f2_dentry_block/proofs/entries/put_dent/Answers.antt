use Rattle.std.proofs.Common.{◌≡◌, ℕ, ◌+◌, ◌-◌, ◌*◌, ◌/◌, List, [], ◌∷◌, length, set, ap, ◌∙◌, arith}
use Rattle.f2_format.specs.Bytes.{number_bytes, with_bytes}
use Rattle.f2_format.specs.Dentry.{with_slots_used}
use Rattle.f2_format.specs.Packing.{slots_of_name}
use Rattle.f2_format.proofs.BytesLemmas.{slice_set-is}
use Rattle.f2_dentry_block.specs.Dents.{type_of}
use Rattle.f2_dentry_block.proofs.Fields.{put_mid-bytes}
use Rattle.f2_dentry_block.proofs.entries.put_dent.Goals as goal

pub returns : goal.returns
returns c =
    let slot = c.args.slot in
    let name = c.args.dent.now.name in
    let ino = number_bytes 4 c.args.dent.now.ino in
    let entry = 30 + 11 * slot in
    let from = 2384 + 8 * slot in
    let same = c.as_slice-name.ensures in
    let count : length c.as_slice-name.result.now ≡ length name = ap length same in
    let slots : c.slots_of_len.result ≡ slots_of_name name = c.slots_of_len.ensures ∙ ap (λ (n : ℕ). (n + 7) / 8) count in
    let most = c.requires.length.most in
    let long = c.put16.array_long in
    let marked = c.mark_all.ensures ∙ ap (λ (n : ℕ). with_slots_used c.args.b.now slot n) slots in
    let with_ino = c.put32.ensures.written ∙ ap (λ (b : List ℕ). with_bytes b (entry + 4) ino) marked in
    let with_length =
    c.put16.ensures.written
    ∙ ap (λ (n : ℕ). with_bytes c.put32.new.b (entry + 8) (number_bytes 2 n)) count
    ∙ ap (λ (b : List ℕ). with_bytes b (entry + 8) (number_bytes 2 (length name))) with_ino in
    let with_type =
    slice_set-is c.put16.new.b (entry + 10) c.file_type.result (omega arith)
    ∙ ap (λ (t : ℕ). with_bytes c.put16.new.b (entry + 10) (t ∷ [])) c.file_type.ensures
    ∙ ap (λ (b : List ℕ). with_bytes b (entry + 10) (type_of c.args.dent.now.kind ∷ [])) with_length in
    put_mid-bytes (set c.put16.new.b (entry + 10) c.file_type.result) name c.copy_from_slice.new.self from
    (from + length c.as_slice-name.result.now - from) (c.copy_from_slice.ensures.after ∙ same) (omega arith)
    ∙ ap (λ (b : List ℕ). with_bytes b from name) with_type
