use Rattle.std.proofs.Common.{◌∙◌, ◌++◌, ℕ, List, ap, arith, drop, take, replicate}
use Rattle.f2_node_block.proofs.Pieces.{drop-zeros}
use Rattle.f2_node_block.proofs.inodes.padded.Goals as goal

pub returns : goal.returns
returns c =
    let len = c.args.i.now.name_len in
    ap (λ (xs : List ℕ). xs ++ drop len (replicate 255 0)) c.copy_from_slice.ensures.after
    ∙ ap (λ (xs : List ℕ). take len c.args.i.now.name ++ xs) (drop-zeros len 255 (omega arith))
