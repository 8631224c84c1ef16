-- A tree whose pages stand within an image stands within each disk that has room for the image.
use Rattle.std.proofs.Common.{◌≤◌, ◌<◌, ℕ, arith}
use Rattle.std.proofs.lemmas.List.Elements.{All-weaker}
use Rattle.f2_found.specs.Places.{IsWithinBlocks}
use Rattle.f2_found.specs.declared.found.Found.{Found}

pub within_more : (less more : ℕ) (tree : Found) → less ≤ more → IsWithinBlocks less tree → IsWithinBlocks more tree
within_more less more tree fits within ino row there = All-weaker (λ listed. listed.at < less) (λ listed. listed.at < more) (λ listed below. omega (arith, fits, below)) row.pages (within ino row there)
