-- A chain is no longer than the blocks that it may have.
use Rattle.std.proofs.Common.{ℕ, zero, suc, ◌≤◌, ◌==◌, Bool, true, false, cond, List, [], ◌∷◌, length, arith}
use Rattle.f2_format.specs.Footer.{footer_version, footer_next}
use Rattle.f2_image.specs.Images.{Image, block_at}
use Rattle.f2_image.specs.Chains.{Logged, chain_from}

one_longer : (b c : Bool) (x : Logged) (xs : List Logged) (n : ℕ) → length xs ≤ n → length (cond b [] (cond c (x ∷ xs) [])) ≤ suc n
one_longer true c x xs n h = omega arith
one_longer false true x xs n h = omega (arith, h)
one_longer false false x xs n h = omega arith

pub chain_from-ends : (image : Image) (version most at : ℕ) → length (chain_from image version most at) ≤ most
chain_from-ends image version zero at = omega arith
chain_from-ends image version (suc most) at =
    let block = block_at image at in
    one_longer (at == 0) (footer_version block == version) (record { at = at; block = block }) (chain_from image version most (footer_next block)) most (chain_from-ends image version most (footer_next block))
