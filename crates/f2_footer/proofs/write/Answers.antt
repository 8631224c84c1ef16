use Rattle.std.proofs.Common.{◌≡◌, ℕ, ◌∙◌, List, [], ◌∷◌, length, take, ap, refl, arith, rules}
use Rattle.f2_format.proofs.FieldLemmas.{Number, num, with_numbers, length-with_numbers, take-with_numbers}
use Rattle.f2_format.proofs.Slices.{put_mid-number_on}
use Rattle.f2_footer.specs.Footer.{footer_of}
use Rattle.f2_footer.proofs.FooterLemmas.{numbers, footer_of-with_fields}
use Rattle.f2_footer.proofs.write.Goals as goal

pub returns-clause-written : goal.returns-clause-written
returns-clause-written c =
    let b = c.args.b.now in
    let f = c.args.f in
    let one : List Number = num 4072 4 f.nid ∷ [] in
    let two : List Number = num 4072 4 f.nid ∷ num 4076 4 f.ino ∷ [] in
    let three : List Number = num 4072 4 f.nid ∷ num 4076 4 f.ino ∷ num 4080 4 c.flag_of.result ∷ [] in
    let four : List Number = num 4072 4 f.nid ∷ num 4076 4 f.ino ∷ num 4080 4 c.flag_of.result ∷ num 4084 8 f.cp_ver ∷ [] in
    let len1 : length (with_numbers b one) ≡ 4096 = length-with_numbers 4096 b one c.told-b refl in
    let len2 : length (with_numbers b two) ≡ 4096 = length-with_numbers 4096 b two c.told-b refl in
    let len3 : length (with_numbers b three) ≡ 4096 = length-with_numbers 4096 b three c.told-b refl in
    let len4 : length (with_numbers b four) ≡ 4096 = length-with_numbers 4096 b four c.told-b refl in
    let after1 = put_mid-number_on 4 f.nid 4072 24 b b c.write_u32.new.buf (omega arith) (omega arith) refl c.write_u32.ensures in
    let after2 = put_mid-number_on 4 f.ino 4076 20 _ (with_numbers b one) c.write_u32-2.new.buf (omega arith) (omega arith) after1 c.write_u32-2.ensures in
    let after3 = put_mid-number_on 4 c.flag_of.result 4080 16 _ (with_numbers b two) c.write_u32-3.new.buf (omega arith) (omega arith) after2 c.write_u32-3.ensures in
    let after4 = put_mid-number_on 8 f.cp_ver 4084 12 _ (with_numbers b three) c.write_u64.new.buf (omega arith) (omega arith) after3 c.write_u64.ensures in
    let after5 = put_mid-number_on 4 f.next 4092 4 _ (with_numbers b four) c.write_u32-4.new.buf (omega arith) (omega arith) after4 c.write_u32-4.ensures in
    rw (← c.flag_of.ensures) after5

pub returns-clause-reads_back : goal.returns-clause-reads_back
returns-clause-reads_back c =
    ap footer_of (returns-clause-written c)
    ∙ footer_of-with_fields c.args.b.now c.args.f c.told-b
    record { nid = search rules; ino = search rules; offset = c.requires; cp_ver = search rules; next = search rules }

pub returns-clause-kept : goal.returns-clause-kept
returns-clause-kept c =
    ap (λ (b : List ℕ). take 4072 b) (returns-clause-written c)
    ∙ take-with_numbers 4072 4096 c.args.b.now (numbers c.args.f) c.told-b refl refl
