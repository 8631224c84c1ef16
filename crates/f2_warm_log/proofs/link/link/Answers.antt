use Rattle.std.proofs.Common.{ℕ, List, [], ◌∷◌, ap, refl, rules}
use Rattle.f2_format.specs.Footer.{flag_offset, flag_has}
use Rattle.f2_format.proofs.FieldLemmas.{Number, num, part_reads, take-with_numbers}
use Rattle.f2_warm_log.proofs.link.link.Goals as goal

pub returns-clause-footer : goal.returns-clause-footer
returns-clause-footer c =
    let b = c.args.b.now in
    let numbers : List Number = num 4084 8 c.args.version ∷ num 4092 4 c.args.next ∷ [] in
    let nid = part_reads 4 4072 4096 b numbers c.told-b refl in
    let ino = part_reads 4 4076 4096 b numbers c.told-b refl in
    let flag = part_reads 4 4080 4096 b numbers c.told-b refl in
    let cp_ver = part_reads 8 4084 4096 b numbers c.told-b refl (search rules) in
    let next = part_reads 4 4092 4096 b numbers c.told-b refl (search rules) in
    let offset = ap flag_offset flag in
    let fsync = ap (λ (x : ℕ). flag_has x 1) flag in
    let dent = ap (λ (x : ℕ). flag_has x 2) flag in
    rw (c.put32.ensures.written, c.put64.ensures.written) (rw (nid, ino, offset, fsync, dent, cp_ver, next) refl)

pub returns-clause-kept : goal.returns-clause-kept
returns-clause-kept c =
    let numbers : List Number = num 4084 8 c.args.version ∷ num 4092 4 c.args.next ∷ [] in
    rw (c.put32.ensures.written, c.put64.ensures.written) (take-with_numbers 4084 4096 c.args.b.now numbers c.told-b refl refl)
