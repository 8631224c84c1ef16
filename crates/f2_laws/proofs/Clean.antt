-- Sets of pairs that have none of a file.
use Rattle.std.proofs.Common.{◌≡◌, ◌≢◌, ℕ, Bool, true, false, not, ◌||◌, ◌&&◌, List, [], ◌∷◌, refl, sym, ap, ◌∙◌, true≢false}
use Rattle.std.specs.Prelude.{Option, Some, None, ◌==◌}
use Rattle.std.specs.List.{list_any, find}
use Rattle.std.proofs.lemmas.Bool.{eq-eqb}
use Rattle.std.specs.Ordering.{eq_by_cmp, is_eq}
use Rattle.std.specs.declared.cmp.Ordering.{Ordering}
use Rattle.std.specs.declared.cmp.Ordering.TheVariants.{Less, Equal, Greater}
use Rattle.std.specs.FinSet as set
use Rattle.f2_model.specs.Rising.{rising}
use Rattle.f2_model.proofs.RisingLemmas.{contains-rising}
use Rattle.f2_model.specs.State.{Pairs, pair_cmp, with_pairs, without_pairs, without_ino}
use Rattle.f2_model.specs.Step.{second_of, least_of}
use Rattle.f2_laws.specs.Freezing.{IsClean}
use Rattle.f2_laws.proofs.Orders.{pair_cmp_total, pair_cmp-IsAntisymmetric}
use Rattle.f2_laws.proofs.Values.{find_none}

-- pairs that compare equal have one ino
equal_pairs : (a b : ℕ × ℕ) → eq_by_cmp pair_cmp a b ≡ true → a ≡ b
equal_pairs a b e = pair_cmp-IsAntisymmetric a b (by_order (pair_cmp a b) e)
  where
    by_order : (o : Ordering) → is_eq o ≡ true → o ≡ Equal
    by_order Less e = absurd (true≢false (sym e))
    by_order Equal e = refl
    by_order Greater e = absurd (true≢false (sym e))

-- pairs of two inos don't
pub other_pairs : (a b : ℕ × ℕ) → a.0 ≢ b.0 → eq_by_cmp pair_cmp a b ≡ false
other_pairs a b apart = by_test (eq_by_cmp pair_cmp a b) refl
  where
    by_test : (t : Bool) → eq_by_cmp pair_cmp a b ≡ t → t ≡ false
    by_test true e = absurd (apart (ap (λ (pair : ℕ × ℕ). pair.0) (equal_pairs a b e)))
    by_test false e = refl

and_false : (a b : Bool) → b ≡ false → (a && b) ≡ false
and_false true b e = e
and_false false b e = refl

module _ (pairs : Pairs) (ino : ℕ) (clean : IsClean pairs ino) where
  pub clean_without : (pair : ℕ × ℕ) → IsClean (set.remove pairs pair) ino
  clean_without pair number = set.contains-remove pair_cmp_total pairs pair (ino, number) ∙ and_false _ _ (clean number)

  pub clean_with : (other number : ℕ) → ino ≢ other → IsClean (set.insert pairs (other, number)) ino
  clean_with other number apart at =
      set.contains-insert pair_cmp_total pairs (other, number) (ino, at)
      ∙ ap (λ b. b || set.contains pairs (ino, at)) (other_pairs (ino, at) (other, number) apart)
      ∙ clean at

  pub clean_without_ino : (other : ℕ) → IsClean (without_ino other pairs) ino
  clean_without_ino other at =
      set.contains-retain pairs (λ pair. not (pair.0 == other)) (ino, at) (λ pair same. ap (λ (pair : ℕ × ℕ). not (pair.0 == other)) (sym (pair_cmp-IsAntisymmetric (ino, at) pair same)))
      ∙ ap (λ b. b && not (ino == other)) (clean at)

pub clean_without_all : (pairs : Pairs) (ino other : ℕ) (numbers : List ℕ) → IsClean pairs ino → IsClean (without_pairs other pairs numbers) ino
clean_without_all pairs ino other [] clean = clean
clean_without_all pairs ino other (number ∷ numbers) clean = clean_without_all (set.remove pairs (other, number)) ino other numbers (clean_without pairs ino clean (other, number))

pub clean_with_all : (pairs : Pairs) (ino other : ℕ) (numbers : List ℕ) → ino ≢ other → IsClean pairs ino → IsClean (with_pairs other pairs numbers) ino
clean_with_all pairs ino other [] apart clean = clean
clean_with_all pairs ino other (number ∷ numbers) apart clean = clean_with_all (set.insert pairs (other, number)) ino other numbers apart (clean_with pairs ino clean other number apart)

-- where no page or node of a file is the least, none is there
pub none_least : (pairs : Pairs) (ino : ℕ) → least_of pairs ino ≡ None → IsClean pairs ino
none_least pairs ino none number = contains-rising pair_cmp_total pairs (ino, number) ∙ no_pair (rising pairs) (find_none (λ pair. pair.0 == ino) (rising pairs) (nothing_found (find (λ pair. pair.0 == ino) (rising pairs)) none))
  where
    nothing_found : (o : Option (ℕ × ℕ)) → second_of o ≡ None → o ≡ None
    nothing_found None e = refl
    nothing_found (Some pair) e = absurd (cc)

    no_pair : (xs : List (ℕ × ℕ)) → list_any (λ (pair : ℕ × ℕ). pair.0 == ino) xs ≡ false → list_any (eq_by_cmp pair_cmp (ino, number)) xs ≡ false
    no_pair [] h = refl
    no_pair (x ∷ xs) h = by_test (no_pair xs) (x.0 == ino) refl h
      where
        by_test : (list_any (λ (pair : ℕ × ℕ). pair.0 == ino) xs ≡ false → list_any (eq_by_cmp pair_cmp (ino, number)) xs ≡ false) → (b : Bool) → (x.0 == ino) ≡ b → (b || list_any (λ (pair : ℕ × ℕ). pair.0 == ino) xs) ≡ false → (eq_by_cmp pair_cmp (ino, number) x || list_any (eq_by_cmp pair_cmp (ino, number)) xs) ≡ false
        by_test rest true e h = absurd (true≢false h)
        by_test rest false e h =
            ap (λ b. b || list_any (eq_by_cmp pair_cmp (ino, number)) xs) (other_pairs (ino, number) x (λ same. true≢false (sym (eq-eqb x.0 ino (sym same)) ∙ e)))
            ∙ rest h
