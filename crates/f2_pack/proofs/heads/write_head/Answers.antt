use Rattle.std.proofs.Common.{◌≡◌, ℕ, List, drop, length, ap, sym, ◌∙◌, arith, length-drop}
use Rattle.std.proofs.lemmas.List.{length-take-le}
use borrow.Rule.Slice.PartMut.{put_mid}
use Rattle.f2_format.specs.Bytes.{number_bytes, with_bytes, zeros}
use Rattle.f2_format.specs.Pack.{head_of, unsealed_head}
use Rattle.f2_format.specs.Seal.{seal_of}
use Rattle.f2_pack.specs.Packs.{fields_of}
use Rattle.f2_pack.proofs.HeadLemmas.{IsPack-alone, head_of-head_block, length-unsealed, put_mid-bytes, seal_of-sealed}
use Rattle.f2_pack.proofs.heads.write_head.Goals as goal

-- the bitmap's bytes, as they were copied
copied : (c : goal.After-put32-4) → c.copy_from_slice.new.self ≡ c.args.h.now.bitmap
copied c = c.copy_from_slice.ensures.after ∙ c.bytes.ensures

bitmap_long : (c : goal.After-put32-4) → length c.args.h.now.bitmap ≡ 128
bitmap_long c =
    let before = c.put32-3.new.b in
    let long = c.put32-3.array_long in
    sym (ap length (copied c)) ∙ c.copy_from_slice.ensures.len ∙ length-take-le 128 (drop 64 before) (omega (arith, length-drop 64 before))

-- the block before it was sealed
unsealed : (c : goal.After-put32-4) → put_mid 64 128 c.put32-3.new.b c.copy_from_slice.new.self ≡ unsealed_head (fields_of c.args.h.now c.args.nat)
unfolding zeros
unsealed c =
    let bitmap = c.args.h.now.bitmap in
    put_mid-bytes c.put32-3.new.b bitmap c.copy_from_slice.new.self 64 128 (copied c) (sym (bitmap_long c))
    ∙ ap (λ (b : List ℕ). with_bytes b 64 bitmap)
    (c.put32-3.ensures.written
    ∙ ap (λ (b : List ℕ). with_bytes b 16 (number_bytes 4 c.args.h.now.flags))
    (c.put32-2.ensures.written
    ∙ ap (λ (b : List ℕ). with_bytes b 12 (number_bytes 4 c.args.h.now.log_start))
    (c.put32.ensures.written
    ∙ ap (λ (b : List ℕ). with_bytes b 8 (number_bytes 4 c.args.nat)) c.put64.ensures.written)))

pub returns-clause-written : goal.returns-clause-written
returns-clause-written c =
    c.put32-4.ensures.written
    ∙ ap (λ (n : ℕ). with_bytes (put_mid 64 128 c.put32-3.new.b c.copy_from_slice.new.self) 4092 (number_bytes 4 n)) c.seal-check_sum.ensures
    ∙ ap (λ (b : List ℕ). with_bytes b 4092 (number_bytes 4 (seal_of b))) (unsealed c)

pub returns-clause-reads_back : goal.returns-clause-reads_back
returns-clause-reads_back c =
    ap head_of (returns-clause-written c)
    ∙ head_of-head_block (fields_of c.args.h.now c.args.nat)
    (record { version = omega arith; nat = omega arith; log_start = omega arith; flags = omega arith; bitmap = bitmap_long c })

pub returns-clause-valid : goal.returns-clause-valid
returns-clause-valid c geom version nat log_start =
    let block = unsealed_head (fields_of c.args.h.now c.args.nat) in
    let long = length-unsealed (fields_of c.args.h.now c.args.nat) (bitmap_long c) in
    let right = c.put32-4.ensures.reads_back
    ∙ c.seal-check_sum.ensures
    ∙ ap seal_of (unsealed c)
    ∙ sym (seal_of-sealed block (number_bytes 4 (seal_of block)) long)
    ∙ sym (ap seal_of (returns-clause-written c)) in
    IsPack-alone geom c.put32-4.new.b (fields_of c.args.h.now c.args.nat) right (returns-clause-reads_back c) version nat log_start
