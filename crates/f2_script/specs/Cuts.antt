-- How a text is taken apart.
use Rattle.std.specs.Prelude.{◌≡◌, ◌≢◌, ℕ, Option, Some, None, List, ◌∷◌, ◌++◌}
use Rattle.std.specs.List.{AllByRecursion}

-- what a reader found: something of which P holds, or nothing, where P holds of nothing
abbrev pub Finds : {X : Type 0} → (X → Type 0) → Option X → Type 0
Finds {X} P None = (x : X) → ¬ (P x)
Finds P (Some x) = P x

-- the byte doesn't stand in the text
abbrev pub Lacks : ℕ → List ℕ → Type 0
Lacks byte text = AllByRecursion (λ b. b ≢ byte) text

-- what stands before the first such byte of the text, and after it
pub record IsCutAt (byte : ℕ) (text before after : List ℕ) : Type 0 where
  pub whole : text ≡ before ++ byte ∷ after
  pub first : Lacks byte before
