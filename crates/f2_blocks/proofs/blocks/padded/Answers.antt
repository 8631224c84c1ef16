use Rattle.std.proofs.Common.{◌∙◌, ◌++◌, ◌-◌, ℕ, List, ap, arith, drop, replicate}
use Rattle.f2_format.specs.Bytes.{zeros}
use Rattle.f2_node_block.proofs.Pieces.{drop-zeros}
use Rattle.f2_blocks.proofs.blocks.padded.Goals as goal

pub returns : goal.returns
returns c =
    ap (λ (xs : List ℕ). xs ++ drop c.len.result (replicate 255 0)) (c.copy_from_slice.ensures.after ∙ c.as_slice.ensures)
    ∙ ap (λ (xs : List ℕ). c.args.name.now ++ xs) (drop-zeros c.len.result 255 (omega arith))
    ∙ ap (λ n. c.args.name.now ++ zeros (255 - n)) c.len.ensures
