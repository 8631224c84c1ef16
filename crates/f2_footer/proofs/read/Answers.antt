use Rattle.std.proofs.Common.{◌≡◌, ◌-◌, ◌∙◌, ap, refl, arith}
use Rattle.f2_format.specs.Bytes.{number_at}
use Rattle.f2_format.specs.Footer.{flag_offset, flag_has}
use Rattle.f2_format.proofs.Slices.{number_at-rest}
use Rattle.f2_format.proofs.FlagLemmas.{flag_has-test}
use Rattle.f2_footer.proofs.read.Goals as goal

pub returns : goal.returns
returns c =
    let b = c.args.b.now in
    let nid : c.read_u32.result ≡ number_at 4 b 4072 = c.read_u32.ensures ∙ number_at-rest 4 4072 24 b (omega arith) in
    let ino : c.read_u32-2.result ≡ number_at 4 b 4076 = c.read_u32-2.ensures ∙ number_at-rest 4 4076 20 b (omega arith) in
    let flag : c.read_u32-flag.result ≡ number_at 4 b 4080 = c.read_u32-flag.ensures ∙ number_at-rest 4 4080 16 b (omega arith) in
    let cp_ver : c.read_u64.result ≡ number_at 8 b 4084 = c.read_u64.ensures ∙ number_at-rest 8 4084 12 b (omega arith) in
    let next : c.read_u32-3.result ≡ number_at 4 b 4092 = c.read_u32-3.ensures ∙ number_at-rest 4 4092 4 b (omega arith) in
    let fsync = flag_has-test c.read_u32-flag.result 1 in
    let dent = flag_has-test c.read_u32-flag.result 2 in
    rw (fsync, dent, nid, ino, flag, cp_ver, next) refl
