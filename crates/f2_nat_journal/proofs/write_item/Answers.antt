use Rattle.std.proofs.Common.{ℕ, ◌+◌, ◌*◌, List, set, ap, ◌∙◌, arith, rules}
use Rattle.f2_format.specs.Bytes.{number_bytes, with_bytes}
use Rattle.f2_nat_block.specs.NatEntry.{place_of}
use Rattle.f2_nat_journal.proofs.ItemBytes.{with_bytes-item}
use Rattle.f2_nat_journal.proofs.write_item.Goals as goal

pub returns-clause-written : goal.returns-clause-written
returns-clause-written c =
    let at = 3586 + 13 * c.args.place in
    c.put32-3.ensures.written
    ∙ ap (λ (b : List ℕ). with_bytes b (at + 9) (number_bytes 4 c.args.e.addr)) c.put32-2.ensures.written
    ∙ ap (λ (b : List ℕ). with_bytes (with_bytes (set b (at + 4) 0) (at + 5) (number_bytes 4 c.args.e.ino)) (at + 9) (number_bytes 4 c.args.e.addr)) c.put32.ensures.written
    ∙ with_bytes-item c.args.b.now at (c.args.nid, place_of c.args.e) (omega arith)

pub returns-clause-fits : goal.returns-clause-fits
returns-clause-fits c = (search rules, search rules, search rules)
