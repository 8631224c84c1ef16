-- A walk along a chain, block by block.
use Rattle.std.proofs.Common.{◌≡◌, ℕ, zero, suc, ◌+◌, ◌-◌, ◌<◌, ◌≤◌, ◌==◌, Bool, true, false, cond, List, [], ◌∷◌, ◌++◌, length, Some, None, refl, sym, ap, ◌∙◌, arith, subst, append_assoc, append-nil, length-append}
use Rattle.std.specs.Prelude.{slice_index_or}
use Rattle.std.proofs.Math.Seq.{get_or-append_seam}
use Rattle.f2_format.specs.Footer.{footer_version, footer_next}
use Rattle.f2_image.specs.Images.{Image, block_at}
use Rattle.f2_image.specs.Chains.{Logged, chain_from, no_block}
use Rattle.f2_scan.specs.Logs.{logged_at}

-- where the log has no block at an address, the chain ends before it
no_more : (b c : Bool) (x : Logged) (xs : List Logged) → cond b None (cond c (Some x) None) ≡ None → cond b [] (cond c (x ∷ xs) []) ≡ []
no_more true c x xs h = refl
no_more false true x xs h = cc
no_more false false x xs h = refl

pub chain_ends : (image : Image) (version most at : ℕ) → logged_at image version at ≡ None → chain_from image version most at ≡ []
chain_ends image version zero at h = refl
chain_ends image version (suc most) at h =
    no_more (at == 0) (footer_version (block_at image at) == version) (record { at = at; block = block_at image at }) (chain_from image version most (footer_next (block_at image at))) h

-- where it has one, the chain goes on with it
one_more : (b c : Bool) (x y : Logged) (f : Logged → List Logged) → cond b None (cond c (Some y) None) ≡ Some x → cond b [] (cond c (y ∷ f y) []) ≡ x ∷ f x
one_more true c x y f h = cc
one_more false true x y f h = let e : y ≡ x = cc in ap (λ (z : Logged). z ∷ f z) e
one_more false false x y f h = cc

pub chain_goes : (image : Image) (version most at : ℕ) (x : Logged) → logged_at image version at ≡ Some x
    → chain_from image version (suc most) at ≡ x ∷ chain_from image version most (footer_next x.block)
chain_goes image version most at x h =
    one_more (at == 0) (footer_version (block_at image at) == version) x (record { at = at; block = block_at image at }) (λ (l : Logged). chain_from image version most (footer_next l.block)) h

-- the chain from `start` begins with this log, and goes on at this address
pub record IsWalked (image : Image) (version start : ℕ) (log : List Logged) (at : ℕ) : Type 0 where
  pub so : (rest : ℕ) → chain_from image version (length log + rest) start ≡ log ++ chain_from image version rest at

pub walked_none : (image : Image) (version start : ℕ) → IsWalked image version start [] start
walked_none image version start = record { so = λ rest. ap (λ (n : ℕ). chain_from image version n start) (omega arith) }

pub walked_more : (image : Image) (version start : ℕ) (log : List Logged) (at : ℕ) (x : Logged) → IsWalked image version start log at → logged_at image version at ≡ Some x
    → IsWalked image version start (log ++ x ∷ []) (footer_next x.block)
walked_more image version start log at x walked there =
    record {
      so = λ rest.
          let tail : List Logged = chain_from image version rest (footer_next x.block) in
          let count : length (log ++ x ∷ []) + rest ≡ length log + suc rest = omega (arith, length-append log (x ∷ [])) in
          ap (λ (n : ℕ). chain_from image version n start) count
          ∙ walked.so (suc rest)
          ∙ ap (λ (xs : List Logged). log ++ xs) (chain_goes image version rest at x there)
          ∙ sym (append_assoc log (x ∷ []) tail);
    }

-- the whole chain, where the log has no block more
pub walked_all : (image : Image) (version start : ℕ) (log : List Logged) (at most : ℕ) → IsWalked image version start log at → logged_at image version at ≡ None → length log ≤ most
    → chain_from image version most start ≡ log
walked_all image version start log at most walked none within =
    let rest = most - length log in
    let count : most ≡ length log + rest = omega (arith, within) in
    ap (λ (n : ℕ). chain_from image version n start) count
    ∙ walked.so rest
    ∙ ap (λ (xs : List Logged). log ++ xs) (chain_ends image version rest at none)
    ∙ append-nil log

-- the block that the log has next stands in the chain behind those walked
pub record StandsNext (chain log : List Logged) (x : Logged) : Type 0 where
  pub within : length log < length chain
  pub is : slice_index_or chain (length log) no_block ≡ x

pub walked_next : (image : Image) (version start : ℕ) (log : List Logged) (at most : ℕ) (x : Logged) → IsWalked image version start log at → logged_at image version at ≡ Some x → length log < most
    → StandsNext (chain_from image version most start) log x
walked_next image version start log at most x walked there within =
    let rest = most - length log - 1 in
    let count : most ≡ length log + suc rest = omega (arith, within) in
    let tail : List Logged = chain_from image version rest (footer_next x.block) in
    let is : chain_from image version most start ≡ log ++ x ∷ tail =
    ap (λ (n : ℕ). chain_from image version n start) count
    ∙ walked.so (suc rest)
    ∙ ap (λ (xs : List Logged). log ++ xs) (chain_goes image version rest at x there) in
    subst (λ (xs : List Logged). StandsNext xs log x) (sym is)
    (record { within = omega (arith, length-append log (x ∷ tail)); is = get_or-append_seam log x tail no_block })
