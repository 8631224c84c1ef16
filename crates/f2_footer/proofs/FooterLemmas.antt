-- A footer that was written is the footer that is read.
use Rattle.std.proofs.Common.{◌≡◌, ℕ, ◌^◌, ◌<◌, List, [], ◌∷◌, length, refl, ap, ◌∙◌, arith}
use Rattle.f2_format.specs.Bytes.{number_at, with_fields}
use Rattle.f2_format.specs.Footer.{flag_of, flag_offset, flag_has}
use Rattle.f2_format.proofs.FieldLemmas.{Number, num, part_reads}
use Rattle.f2_format.proofs.FlagLemmas.{flag_offset-flag_of, flag_has-fsync, flag_has-dentry, flag_of-lt}
use Rattle.f2_footer.specs.declared.Footer.{Footer}
use Rattle.f2_footer.specs.Footer.{footer_of, fields_of}

-- the numbers of a footer
abbrev pub numbers : Footer → List Number
numbers f =
    num 4072 4 f.nid ∷ num 4076 4 f.ino ∷ num 4080 4 (flag_of f.offset f.fsync f.dent) ∷ num 4084 8 f.cp_ver ∷ num 4092 4 f.next ∷ []

-- the values that a footer can have
pub record Fits (f : Footer) : Type 0 where
  pub nid : f.nid < 2 ^ 32
  pub ino : f.ino < 2 ^ 32
  pub offset : f.offset < 2 ^ 29
  pub cp_ver : f.cp_ver < 2 ^ 64
  pub next : f.next < 2 ^ 32

pub footer_of-with_fields : (block : List ℕ) (f : Footer) → length block ≡ 4096 → Fits f → footer_of (with_fields block (fields_of f)) ≡ f
footer_of-with_fields block f is fits =
    let nid = part_reads 4 4072 4096 block (numbers f) is refl fits.nid in
    let ino = part_reads 4 4076 4096 block (numbers f) is refl fits.ino in
    let flag = part_reads 4 4080 4096 block (numbers f) is refl (flag_of-lt f.offset f.fsync f.dent fits.offset) in
    let cp_ver = part_reads 8 4084 4096 block (numbers f) is refl fits.cp_ver in
    let next = part_reads 4 4092 4096 block (numbers f) is refl fits.next in
    let offset = ap flag_offset flag ∙ flag_offset-flag_of f.offset f.fsync f.dent in
    let fsync = ap (λ (x : ℕ). flag_has x 1) flag ∙ flag_has-fsync f.offset f.fsync f.dent in
    let dent = ap (λ (x : ℕ). flag_has x 2) flag ∙ flag_has-dentry f.offset f.fsync f.dent in
    rw (nid, ino, offset, fsync, dent, cp_ver, next) refl
