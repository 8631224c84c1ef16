use Rattle.std.proofs.Common.{◌≡◌, ℕ, ◌+◌, ◌*◌, List, ap, ◌∙◌, refl, arith}
use Rattle.f2_format.specs.Bytes.{number_at, number_bytes, with_bytes}
use Rattle.f2_format.specs.Nat.{nat_entry}
use Rattle.f2_format.proofs.BytesLemmas.{number_at-with_bytes_before}
use Rattle.f2_nat_block.specs.NatEntry.{place_of}
use Rattle.f2_nat_block.proofs.EntryLemmas.{with_bytes-entry, nat_entry-with_nat_entry_other}
use Rattle.f2_nat_block.proofs.entries.set.Goals as goal

pub returns-clause-written : goal.returns-clause-written
returns-clause-written c =
    c.put32-2.ensures.written
    ∙ ap (λ (b : List ℕ). with_bytes b (9 * c.args.place + 5) (number_bytes 4 c.args.e.addr)) c.put32.ensures.written
    ∙ with_bytes-entry c.args.b.now (9 * c.args.place) (place_of c.args.e) (omega arith)

pub returns-clause-reads_back : goal.returns-clause-reads_back
returns-clause-reads_back c =
    let at = 9 * c.args.place in
    let ino : number_at 4 c.put32-2.new.b (at + 1) ≡ c.args.e.ino =
    ap (λ (b : List ℕ). number_at 4 b (at + 1)) c.put32-2.ensures.written
    ∙ number_at-with_bytes_before 4 c.put32.new.b (at + 5) (number_bytes 4 c.args.e.addr) (at + 1) (omega arith) (omega arith)
    ∙ c.put32.ensures.reads_back in
    rw (ino, c.put32-2.ensures.reads_back) refl

pub returns-clause-others : goal.returns-clause-others
returns-clause-others c other within apart =
    ap (λ (b : List ℕ). nat_entry b other) (returns-clause-written c)
    ∙ nat_entry-with_nat_entry_other c.args.b.now c.args.place (place_of c.args.e) other (omega arith) apart
