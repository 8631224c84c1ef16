use Rattle.std.proofs.Common.{◌≤◌, length, arith, subst, codes, [], ◌∷◌}
use Rattle.std.proofs.lemmas.Grind.{common_steps}
use Rattle.f2_script.specs.Grammar.{IsRequest}
use Rattle.f2_script.proofs.WordLemmas.{shown_first}
use Rattle.f2_script.proofs.RequestLemmas.{write_none}
use Rattle.f2_script.proofs.requests.write_of.Goals as goal
use Rattle.f2_script.proofs.requests.write_of.Goals.{then-is_empty-via-then-is_empty, then-is_empty-via-else-is_empty+then-len-gt-MOST_PIECES}

pub returns-then-is_empty : goal.returns-then-is_empty
returns-then-is_empty c = λ x h.
    let are = rw c.in-Some-2.is at c.in_ok-pieces.ensures in
    let words = shown_first c.args.words.now record { ref_ptr = (0, 0); now = [] } c.in-len1-up.len_at_least in
    let bad : (1 ≤ length c.in-Some-2.pieces) × (length c.in-Some-2.pieces ≤ 8) → ⊥ = λ b. elim c.then-is_empty.branch [
      | then-is_empty-via-then-is_empty w ↦ let low = b.0 in grind (arith, common_steps)
      | then-is_empty-via-else-is_empty+then-len-gt-MOST_PIECES w ↦ let high = b.1 in grind (arith, common_steps)
    ] in
    write_none _ _ c.in-Some-2.pieces are bad x (subst (λ texts. IsRequest (codes "write" ∷ texts) x) words h)
