-- A set and one number more.
use Rattle.std.proofs.Common.{◌≡◌, ◌⊎◌, ℕ, ◌+◌, Bool, true, false, cond, ◌||◌, refl, sym, ap, ◌∙◌, inl, inr, eq-eqb}
use Rattle.std.specs.Ordering.{nat_cmp, eq_by_cmp}
use Rattle.std.specs.Cmp.{nat_cmp_total, unsigned_tied}
use Rattle.std.specs.FinSet as set
use Rattle.std.proofs.lemmas.Bool.{eqb-true}

abbrev pub Numbers : Type 0
Numbers = set.FinSet nat_cmp

pub not_both : {b : Bool} → b ≡ true → b ≡ false → ⊥
not_both {b} t f = no (sym t ∙ f)
  where
    no : true ≡ false → ⊥
    no e = cc

pub not_true : (b : Bool) → (b ≡ true → ⊥) → b ≡ false
not_true true h = absurd (h refl)
not_true false h = refl

module _ (taken : Numbers) (at : ℕ) where
  pub here : set.contains (set.insert taken at) at ≡ true
  here = set.contains-insert nat_cmp_total taken at at ∙ ap (λ (b : Bool). b || set.contains taken at) (unsigned_tied at at ∙ eq-eqb at at refl)

  pub stays : (q : ℕ) → set.contains taken q ≡ true → set.contains (set.insert taken at) q ≡ true
  stays q h = set.contains-insert nat_cmp_total taken at q ∙ ap (λ (b : Bool). eq_by_cmp nat_cmp q at || b) h ∙ or_true (eq_by_cmp nat_cmp q at)
    where
      or_true : (b : Bool) → (b || true) ≡ true
      or_true true = refl
      or_true false = refl

  pub one_of : (q : ℕ) → set.contains (set.insert taken at) q ≡ true → (q ≡ at) ⊎ (set.contains taken q ≡ true)
  one_of q h = by_tie (eq_by_cmp nat_cmp q at) refl (sym (set.contains-insert nat_cmp_total taken at q) ∙ h)
    where
      by_tie : (b : Bool) → eq_by_cmp nat_cmp q at ≡ b → (b || set.contains taken q) ≡ true → (q ≡ at) ⊎ (set.contains taken q ≡ true)
      by_tie true t h = inl (eqb-true q at (sym (unsigned_tied q at) ∙ t))
      by_tie false t h = inr h

  pub one_more : set.contains taken at ≡ false → set.len (set.insert taken at) ≡ set.len taken + 1
  one_more none = set.len-insert nat_cmp_total taken at ∙ ap (λ (b : Bool). cond b (set.len taken) (set.len taken + 1)) none
