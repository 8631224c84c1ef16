-- The fields of a dentry, once they were written.
use Rattle.std.proofs.Common.{◌≡◌, ℕ, ◌+◌, ◌^◌, ◌<◌, ◌≤◌, List, [], ◌∷◌, ◌++◌, length, take, drop, get_or, slice_range, ap, ◌∙◌, arith, drop-drop}
use Rattle.std.proofs.lemmas.List.{get_or_at, length-take-le}
use borrow.Rule.Slice.PartMut.{put_mid}
use Rattle.f2_format.specs.Bytes.{number_at, number_bytes, with_bytes, with_fields}
use Rattle.f2_format.specs.Dentry.{Dentry}
use Rattle.f2_format.proofs.BytesLemmas.{length-number_bytes, length-with_bytes, get_or-with_bytes_before, get_or-with_bytes_past, number_at-with_bytes_same, number_at-with_bytes_before, slice_range-with_bytes_same}

-- a block with the fields of a dentry: the entry begins at `entry`, and the name at `name`
abbrev pub with_entry : List ℕ → ℕ → ℕ → Dentry → List ℕ
with_entry block entry name dentry =
    with_fields block
    ((entry + 4, number_bytes 4 dentry.ino)
    ∷ (entry + 8, number_bytes 2 (length dentry.name))
    ∷ (entry + 10, dentry.type ∷ [])
    ∷ (name, dentry.name)
    ∷ [])

-- what such a block reads as
pub record HasEntry (old new : List ℕ) (entry name : ℕ) (dentry : Dentry) : Type 0 where
  pub long : length new ≡ length old
  pub before : (k : ℕ) → k < entry + 4 → get_or new k 0 ≡ get_or old k 0
  pub between : (k : ℕ) → entry + 11 ≤ k → k < name → get_or new k 0 ≡ get_or old k 0
  pub ino : number_at 4 new (entry + 4) ≡ dentry.ino
  pub length_field : number_at 2 new (entry + 8) ≡ length dentry.name
  pub type : get_or new (entry + 10) 0 ≡ dentry.type
  pub name_bytes : slice_range new name (name + length dentry.name) ≡ dentry.name

-- one byte that was written is read
get_or-with_byte : (block : List ℕ) (at byte : ℕ) → at ≤ length block → get_or (with_bytes block at (byte ∷ [])) at 0 ≡ byte
unfolding with_bytes
get_or-with_byte block at byte fits = get_or_at (take at block) byte (drop (at + 1) block) 0 at (length-take-le at block fits)

pub HasEntry-with_entry : (block : List ℕ) (entry name : ℕ) (dentry : Dentry) → entry + 11 ≤ name → name + length dentry.name ≤ length block
    → dentry.ino < 2 ^ 32 → length dentry.name < 2 ^ 16 → HasEntry block (with_entry block entry name dentry) entry name dentry
HasEntry-with_entry block entry name dentry apart fits ino_fits name_fits =
    let ino = number_bytes 4 dentry.ino in
    let ino_long = length-number_bytes 4 dentry.ino in
    let size = number_bytes 2 (length dentry.name) in
    let size_long = length-number_bytes 2 (length dentry.name) in
    let a = with_bytes block (entry + 4) ino in
    let a_long : length a ≡ length block = length-with_bytes block (entry + 4) ino (omega arith) in
    let b = with_bytes a (entry + 8) size in
    let b_long : length b ≡ length a = length-with_bytes a (entry + 8) size (omega arith) in
    let c = with_bytes b (entry + 10) (dentry.type ∷ []) in
    let c_long : length c ≡ length b = length-with_bytes b (entry + 10) (dentry.type ∷ []) (omega arith) in
    let d = with_bytes c name dentry.name in
    let d_long : length d ≡ length c = length-with_bytes c name dentry.name (omega arith) in
    record {
      long = omega arith;
      before = λ k h.
          get_or-with_bytes_before c name dentry.name k (omega arith) (omega arith)
          ∙ get_or-with_bytes_before b (entry + 10) (dentry.type ∷ []) k (omega arith) (omega arith)
          ∙ get_or-with_bytes_before a (entry + 8) size k (omega arith) (omega arith)
          ∙ get_or-with_bytes_before block (entry + 4) ino k (omega arith) (omega arith);
      between = λ k low high.
          get_or-with_bytes_before c name dentry.name k (omega arith) (omega arith)
          ∙ get_or-with_bytes_past b (entry + 10) (dentry.type ∷ []) k (omega arith) (omega arith)
          ∙ get_or-with_bytes_past a (entry + 8) size k (omega arith) (omega arith)
          ∙ get_or-with_bytes_past block (entry + 4) ino k (omega arith) (omega arith);
      ino =
          number_at-with_bytes_before 4 c name dentry.name (entry + 4) (omega arith) (omega arith)
          ∙ number_at-with_bytes_before 4 b (entry + 10) (dentry.type ∷ []) (entry + 4) (omega arith) (omega arith)
          ∙ number_at-with_bytes_before 4 a (entry + 8) size (entry + 4) (omega arith) (omega arith)
          ∙ number_at-with_bytes_same 4 block (entry + 4) dentry.ino (omega arith) (omega arith);
      length_field =
          number_at-with_bytes_before 2 c name dentry.name (entry + 8) (omega arith) (omega arith)
          ∙ number_at-with_bytes_before 2 b (entry + 10) (dentry.type ∷ []) (entry + 8) (omega arith) (omega arith)
          ∙ number_at-with_bytes_same 2 a (entry + 8) (length dentry.name) (omega arith) (omega arith);
      type =
          get_or-with_bytes_before c name dentry.name (entry + 10) (omega arith) (omega arith)
          ∙ get_or-with_byte b (entry + 10) dentry.type (omega arith);
      name_bytes = slice_range-with_bytes_same c name dentry.name (name + length dentry.name) (omega arith) (omega arith);
    }

-- bytes copied over a part of a block
pub put_mid-bytes : (block bytes written : List ℕ) (at n : ℕ) → written ≡ bytes → n ≡ length bytes → put_mid at n block written ≡ with_bytes block at bytes
unfolding with_bytes
put_mid-bytes block bytes written at n is count =
    ap (λ (xs : List ℕ). take at block ++ (xs ++ drop n (drop at block))) is
    ∙ ap (λ (xs : List ℕ). take at block ++ (bytes ++ xs)) (drop-drop n at block ∙ ap (λ (k : ℕ). drop (at + k) block) count)
