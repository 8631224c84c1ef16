-- Numbers of lists, direct nodes of pages, and pages of a map.
use Rattle.std.proofs.Common.{◌≡◌, ◌⊎◌, inl, inr, ℕ, ◌<◌, Bool, true, false, cond, ◌||◌, List, [], ◌∷◌, ◌++◌, IsSome, refl, sym, ap, ◌∙◌, arith, true≢false}
use Rattle.std.specs.Prelude.{Option, Some, None, nat_lt, if◌then◌else◌, ◌==◌}
use Rattle.std.specs.List.{cons_option, filter, list_any}
use Rattle.std.specs.Ordering.{nat_cmp, eq_by_cmp}
use Rattle.std.specs.Cmp.{unsigned_tied}
use Rattle.std.specs.FinMap as map
use Rattle.std.proofs.lemmas.Bool.{eqb-true, eq-eqb}
use Rattle.std.proofs.lemmas.Bool.Decides.{nat_tests}
use Rattle.f2_format.specs.Offsets.{inode_pages, page_limit, direct_of, direct_number, nth_direct}
use Rattle.f2_image.specs.Reached.{IsDirect}
use Rattle.f2_model.specs.Content.{PageMap}
use Rattle.f2_model.specs.State.{directs_of}
use Rattle.f2_laws.proofs.Listed.{Has}
use Rattle.f2_laws.proofs.Walks.{some_same}

or_true : (a : Bool) → (a || true) ≡ true
or_true true = refl
or_true false = refl

-- one of a list that passes a test
pub any_has : (test : ℕ → Bool) (n : ℕ) (numbers : List ℕ) → Has n numbers → test n ≡ true → list_any test numbers ≡ true
any_has test n [] h is = absurd h
any_has test n (number ∷ numbers) (inl same) is = ap (λ b. b || list_any test numbers) (ap test (sym same) ∙ is)
any_has test n (number ∷ numbers) (inr h) is = ap (λ b. test number || b) (any_has test n numbers h is) ∙ or_true (test number)

pub has_any : (n : ℕ) (numbers : List ℕ) → Has n numbers → list_any (λ other. other == n) numbers ≡ true
has_any n numbers h = any_has (λ other. other == n) n numbers h (eq-eqb n n refl)

pub has_filter : (test : ℕ → Bool) (n : ℕ) (numbers : List ℕ) → Has n numbers → test n ≡ true → Has n (filter test numbers)
has_filter test n [] h is = absurd h
has_filter test n (number ∷ numbers) (inl same) is = by_test (test number) (ap test (sym same) ∙ is)
  where
    by_test : (b : Bool) → b ≡ true → Has n (cond b (number ∷ filter test numbers) (filter test numbers))
    by_test true e = inl same
    by_test false e = absurd (true≢false (sym e))
has_filter test n (number ∷ numbers) (inr h) is = by_test (has_filter test n numbers h is) (test number)
  where
    by_test : Has n (filter test numbers) → (b : Bool) → Has n (cond b (number ∷ filter test numbers) (filter test numbers))
    by_test rest true = inr rest
    by_test rest false = rest

pub filtered : (test : ℕ → Bool) (n : ℕ) (numbers : List ℕ) → Has n (filter test numbers) → Has n numbers × (test n ≡ true)
filtered test n [] h = absurd h
filtered test n (number ∷ numbers) h = by_test (filtered test n numbers) (test number) refl h
  where
    by_test : (Has n (filter test numbers) → Has n numbers × (test n ≡ true)) → (b : Bool) → test number ≡ b → Has n (cond b (number ∷ filter test numbers) (filter test numbers)) → Has n (number ∷ numbers) × (test n ≡ true)
    by_test rest true is (inl same) = (inl same, ap test same ∙ is)
    by_test rest true is (inr h) = let found = rest h in (inr found.0, found.1)
    by_test rest false is h = let found = rest h in (inr found.0, found.1)

pub has_either : (n : ℕ) (numbers more : List ℕ) → Has n (numbers ++ more) → Has n numbers ⊎ Has n more
has_either n [] more h = inr h
has_either n (number ∷ numbers) more (inl same) = inl (inl same)
has_either n (number ∷ numbers) more (inr h) = by_side (has_either n numbers more h)
  where
    by_side : Has n numbers ⊎ Has n more → Has n (number ∷ numbers) ⊎ Has n more
    by_side (inl h) = inl (inr h)
    by_side (inr h) = inr h

-- a direct node that pages stand in has one of them
pub page_of_direct : (offset : ℕ) (pages : List ℕ) → Has offset (directs_of pages) → (page : ℕ) × Has page pages × (direct_of page ≡ Some offset)
page_of_direct offset [] h = absurd h
page_of_direct offset (page ∷ pages) h = by_direct (page_of_direct offset pages) (direct_of page) refl h
  where
    by_direct : (Has offset (directs_of pages) → (one : ℕ) × Has one pages × (direct_of one ≡ Some offset)) → (o : Option ℕ) → direct_of page ≡ o → Has offset (cons_option o (directs_of pages)) → (one : ℕ) × Has one (page ∷ pages) × (direct_of one ≡ Some offset)
    by_direct rest None e h = let found = rest h in (found.0, inr found.1, found.2)
    by_direct rest (Some other) e (inl same) = (page, inl refl, e ∙ ap Some (sym same))
    by_direct rest (Some other) e (inr h) = let found = rest h in (found.0, inr found.1, found.2)

pub direct_is : (page offset : ℕ) → direct_of page ≡ Some offset → IsDirect offset
unfolding direct_of
direct_is page offset h = by_low (nat_lt page inode_pages) refl h
  where
    by_high : (b : Bool) → nat_lt page page_limit ≡ b → (if b then Some (nth_direct (direct_number page)) else None) ≡ Some offset → IsDirect offset
    by_high false e h = absurd (cc)
    by_high true e h =
        let within : page < page_limit = grind (arith, nat_tests) in
        record { number = direct_number page; within = omega (arith, within); is = some_same h }

    by_low : (b : Bool) → nat_lt page inode_pages ≡ b → (if b then None else (if nat_lt page page_limit then Some (nth_direct (direct_number page)) else None)) ≡ Some offset → IsDirect offset
    by_low true e h = absurd (cc)
    by_low false e h = by_high (nat_lt page page_limit) refl h

-- a page of a map is among its keys, and the other way round
pub key_listed : (pages : PageMap) (page : ℕ) → IsSome (map.get pages page) → Has page (map.keys pages)
key_listed pages page is = by_any (map.keys pages) (sym (map.contains_key-keys pages page) ∙ is)
  where
    by_any : (numbers : List ℕ) → list_any (eq_by_cmp nat_cmp page) numbers ≡ true → Has page numbers
    by_any [] h = absurd (true≢false (sym h))
    by_any (number ∷ numbers) h = by_test (by_any numbers) (eq_by_cmp nat_cmp page number) refl h
      where
        by_test : (list_any (eq_by_cmp nat_cmp page) numbers ≡ true → Has page numbers) → (b : Bool) → eq_by_cmp nat_cmp page number ≡ b → (b || list_any (eq_by_cmp nat_cmp page) numbers) ≡ true → Has page (number ∷ numbers)
        by_test rest true tie h = inl (eqb-true page number (sym (unsigned_tied page number) ∙ tie))
        by_test rest false tie h = inr (rest h)
