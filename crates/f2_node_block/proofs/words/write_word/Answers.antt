use Rattle.std.proofs.Common.{◌*◌, ℕ, List, ap, ◌∙◌, inl, inr, arith, drop}
use Rattle.std.proofs.lemmas.Bool.{cases_lt}
use Rattle.f2_format.specs.Bytes.{number_bytes}
use Rattle.f2_format.specs.Inode.{node_word}
use Rattle.f2_format.proofs.BytesLemmas.{length-number_bytes, number_at-with_bytes_before, number_at-with_bytes_past, drop-with_bytes_past}
use Rattle.f2_node_block.proofs.words.write_word.Goals as goal

pub returns-clause-others : goal.returns-clause-others
returns-clause-others c s within apart =
    let at = 4 * c.args.slot in
    let word = number_bytes 4 c.args.v in
    let long = length-number_bytes 4 c.args.v in
    ap (λ (b : List ℕ). node_word b s) c.put32.ensures.written
    ∙ elim (cases_lt s c.args.slot) [
      | inl before ↦ number_at-with_bytes_before 4 c.args.b.now at word (4 * s) (omega arith) (omega arith)
      | inr past ↦ number_at-with_bytes_past 4 c.args.b.now at word (4 * s) (omega arith) (omega arith)
    ]

pub returns-clause-footer : goal.returns-clause-footer
returns-clause-footer c =
    let long = length-number_bytes 4 c.args.v in
    ap (λ (b : List ℕ). drop 4072 b) c.put32.ensures.written
    ∙ drop-with_bytes_past 4072 c.args.b.now (4 * c.args.slot) (number_bytes 4 c.args.v) (omega arith) (omega arith)
