-- What an entry that was put into a block of the table does to the block.
use Rattle.std.proofs.Common.{◌≡◌, ◌≢◌, ℕ, ◌+◌, ◌*◌, ◌≤◌, List, [], ◌∷◌, length, set, ap, ◌∙◌, inl, inr, refl, arith, length-append}
use Rattle.std.proofs.lemmas.Bool.{cases_lt}
use Rattle.f2_format.specs.Bytes.{number_bytes, with_bytes}
use Rattle.f2_format.specs.Nat.{NodePlace, nat_entry, nat_entry_bytes, with_nat_entry}
use Rattle.f2_format.proofs.BytesLemmas.{length-number_bytes, slice_set-is, with_bytes-next, number_at-with_bytes_before, number_at-with_bytes_past}

-- an entry has nine bytes
pub length-nat_entry_bytes : (entry : NodePlace) → length (nat_entry_bytes entry) ≡ 9
length-nat_entry_bytes entry =
    omega (arith, length-append (number_bytes 4 entry.0) (number_bytes 4 entry.1), length-number_bytes 4 entry.0, length-number_bytes 4 entry.1)

-- version, ino and address, one after another
pub with_bytes-entry : (block : List ℕ) (at : ℕ) (entry : NodePlace) → at + 9 ≤ length block
    → with_bytes (with_bytes (set block at 0) (at + 1) (number_bytes 4 entry.0)) (at + 5) (number_bytes 4 entry.1) ≡ with_bytes block at (nat_entry_bytes entry)
with_bytes-entry block at entry fits =
    let ino = number_bytes 4 entry.0 in
    let addr = number_bytes 4 entry.1 in
    let long = length-number_bytes 4 entry.0 in
    ap (λ (b : List ℕ). with_bytes (with_bytes b (at + 1) ino) (at + 5) addr) (slice_set-is block at 0 (omega arith))
    ∙ ap (λ (b : List ℕ). with_bytes b (at + 5) addr) (with_bytes-next block at (at + 1) (0 ∷ []) ino refl (omega arith))
    ∙ with_bytes-next block at (at + 5) (0 ∷ ino) addr (omega arith) (omega arith)

-- every other entry stays
pub nat_entry-with_nat_entry_other : (block : List ℕ) (place : ℕ) (entry : NodePlace) (other : ℕ) → 9 * place + 9 ≤ length block → other ≢ place
    → nat_entry (with_nat_entry block place entry) other ≡ nat_entry block other
nat_entry-with_nat_entry_other block place entry other fits apart =
    let bytes = nat_entry_bytes entry in
    let long = length-nat_entry_bytes entry in
    elim (cases_lt other place) [
      | inl before ↦
          let ino = number_at-with_bytes_before 4 block (9 * place) bytes (9 * other + 1) (omega arith) (omega arith) in
          let addr = number_at-with_bytes_before 4 block (9 * place) bytes (9 * other + 5) (omega arith) (omega arith) in
          rw (ino, addr) refl
      | inr past ↦
          let ino = number_at-with_bytes_past 4 block (9 * place) bytes (9 * other + 1) (omega arith) (omega arith) in
          let addr = number_at-with_bytes_past 4 block (9 * place) bytes (9 * other + 5) (omega arith) (omega arith) in
          rw (ino, addr) refl
    ]
