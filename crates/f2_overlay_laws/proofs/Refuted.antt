-- Facts of which none is false.
use Rattle.std.proofs.Common.{◌⊎◌, inl, inr}

pub neither : {A B : Type 0} → A → B → ¬ A ⊎ ¬ B → ⊥
neither a b (inl bad) = bad a
neither a b (inr bad) = bad b

pub none_of_three : {A B C : Type 0} → A → B → C → ¬ A ⊎ ¬ B ⊎ ¬ C → ⊥
none_of_three a b c (inl bad) = bad a
none_of_three a b c (inr (inl bad)) = bad b
none_of_three a b c (inr (inr bad)) = bad c
