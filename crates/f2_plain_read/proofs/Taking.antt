-- The addresses of the pages of a file, taken one after another.
use Rattle.std.proofs.Common.{◌≡◌, ◌≢◌, ℕ, ◌+◌, ◌<◌, ◌==◌, Bool, true, false, cond, ◌||◌, List, length, take, refl, sym, ap, subst, ◌∙◌, arith, inl, inr, eq-eqb}
use Rattle.std.specs.Prelude.{◌⊎◌, not, IsTrue}
use Rattle.std.specs.List.{count_by, slice_index}
use Rattle.std.specs.Ordering.{nat_cmp, eq_by_cmp}
use Rattle.std.specs.Cmp.{nat_cmp_total, unsigned_tied}
use Rattle.std.specs.FinSet as set
use Rattle.std.proofs.lemmas.Bool.{eqb-true, ne_eqb}
use Rattle.std.proofs.lemmas.List.Sums.{count_by_more_no, count_by_more_yes}
use Rattle.f2_format.specs.Geometry.{ImageGeometry, is_in_data}
use Rattle.f2_laws.proofs.Places.{same_or_other}
use Rattle.f2_plain_read.specs.Keeping.{IsFreePage, AreNew, IsAmong, AreTaken}

abbrev pub Taken : Type 0
Taken = set.FinSet nat_cmp

pub not_both : {b : Bool} → b ≡ true → b ≡ false → ⊥
not_both {b} t f = no (sym t ∙ f)
  where
    no : true ≡ false → ⊥
    no e = cc

pub not_true : (b : Bool) → (b ≡ true → ⊥) → b ≡ false
not_true true h = absurd (h refl)
not_true false h = refl

-- a set and one number more
module _ (taken : Taken) (at : ℕ) where
  pub here : set.contains (set.insert taken at) at ≡ true
  here = set.contains-insert nat_cmp_total taken at at ∙ ap (λ (b : Bool). b || set.contains taken at) (unsigned_tied at at ∙ eq-eqb at at refl)

  pub stays : (q : ℕ) → set.contains taken q ≡ true → set.contains (set.insert taken at) q ≡ true
  stays q h = set.contains-insert nat_cmp_total taken at q ∙ ap (λ (b : Bool). eq_by_cmp nat_cmp q at || b) h ∙ or_true (eq_by_cmp nat_cmp q at)
    where
      or_true : (b : Bool) → (b || true) ≡ true
      or_true true = refl
      or_true false = refl

  pub one_of : (q : ℕ) → set.contains (set.insert taken at) q ≡ true → (q ≡ at) ⊎ (set.contains taken q ≡ true)
  one_of q h = by_tie (eq_by_cmp nat_cmp q at) refl (sym (set.contains-insert nat_cmp_total taken at q) ∙ h)
    where
      by_tie : (b : Bool) → eq_by_cmp nat_cmp q at ≡ b → (b || set.contains taken q) ≡ true → (q ≡ at) ⊎ (set.contains taken q ≡ true)
      by_tie true t h = inl (eqb-true q at (sym (unsigned_tied q at) ∙ t))
      by_tie false t h = inr h

  pub one_more : set.contains taken at ≡ false → set.len (set.insert taken at) ≡ set.len taken + 1
  one_more none = set.len-insert nat_cmp_total taken at ∙ ap (λ (b : Bool). cond b (set.len taken) (set.len taken + 1)) none

module _ (geom : ImageGeometry) (old now : Taken) (addresses : List ℕ) (i : ℕ) where
  abbrev at_page : ℕ → ℕ
  at_page page = slice_index addresses page

  among_more : (q : ℕ) → IsAmong addresses i q → IsAmong addresses (i + 1) q
  among_more q h = (h.0, (omega (arith, h.1.0), h.1.1, h.1.2))

  among_zero : at_page i ≡ 0 → (q : ℕ) → IsAmong addresses (i + 1) q → IsAmong addresses i q
  among_zero zero q h = by_page (same_or_other h.0 i)
    where
      by_page : (h.0 ≡ i) ⊎ (h.0 ≢ i) → IsAmong addresses i q
      by_page (inl same) = absurd (h.1.2 (sym h.1.1 ∙ ap at_page same ∙ zero))
      by_page (inr other) = (h.0, (omega (arith, h.1.0, other), h.1.1, h.1.2))

  -- an address that isn't there
  module _ (zero : at_page i ≡ 0) where
    lower : (page : ℕ) → page < i + 1 → at_page page ≢ 0 → page < i
    lower page below there = by_page (same_or_other page i)
      where
        by_page : (page ≡ i) ⊎ (page ≢ i) → page < i
        by_page (inl same) = absurd (there (ap at_page same ∙ zero))
        by_page (inr other) = omega arith

    pub new_zero : AreNew geom old addresses i → AreNew geom old addresses (i + 1)
    new_zero new =
        record {
          inside = λ page below there. new.inside page (lower page below there) there;
          fresh = λ page below there. new.fresh page (lower page below there) there;
          apart = λ page more below also there same. new.apart page more (lower page below there) (lower more also (λ none. there (same ∙ none))) there same;
        }

    pub taken_zero : i < length addresses → AreTaken old now addresses i → AreTaken old now addresses (i + 1)
    taken_zero short taken =
        record {
          members = λ q h. by_part q (taken.members q h);
          kept = taken.kept;
          added = λ q h. taken.added q (among_zero zero q h);
          count_is = taken.count_is ∙ ap (λ (n : ℕ). set.len old + n) (sym (count_by_more_no (λ at. not (at == 0)) addresses i 0 short (ap not (eq-eqb (at_page i) 0 zero))));
        }
      where
        by_part : (q : ℕ) → (set.contains old q ≡ true) ⊎ IsAmong addresses i q → (set.contains old q ≡ true) ⊎ IsAmong addresses (i + 1) q
        by_part q (inl h) = inl h
        by_part q (inr h) = inr (among_more q h)

  -- an address that is there and free
  module _ (there : at_page i ≢ 0) (free : IsFreePage geom now (at_page i)) (taken : AreTaken old now addresses i) where
    pub new_more : AreNew geom old addresses i → AreNew geom old addresses (i + 1)
    new_more new =
        record {
          inside = λ page below other. by_inside page below other (same_or_other page i);
          fresh = λ page below other. by_fresh page below other (same_or_other page i);
          apart = λ page more below also other same. by_apart page more below also other same (same_or_other page i) (same_or_other more i);
        }
      where
        by_inside : (page : ℕ) → page < i + 1 → at_page page ≢ 0 → (page ≡ i) ⊎ (page ≢ i) → IsTrue (is_in_data geom (at_page page))
        by_inside page below other (inl same) = ap (λ (n : ℕ). is_in_data geom (at_page n)) same ∙ free.inside
        by_inside page below other (inr apart) = new.inside page (omega arith) other

        by_fresh : (page : ℕ) → page < i + 1 → at_page page ≢ 0 → (page ≡ i) ⊎ (page ≢ i) → set.contains old (at_page page) ≡ false
        by_fresh page below other (inl same) = ap (λ (n : ℕ). set.contains old (at_page n)) same ∙ not_true (set.contains old (at_page i)) (λ h. not_both (taken.kept (at_page i) h) free.free)
        by_fresh page below other (inr apart) = new.fresh page (omega arith) other

        -- no earlier page has this address
        earlier : (page : ℕ) → page < i → at_page page ≡ at_page i → ⊥
        earlier page low same = not_both (taken.added (at_page i) (page, (low, same, there))) free.free

        by_apart : (page more : ℕ) → page < i + 1 → more < i + 1 → at_page page ≢ 0 → at_page page ≡ at_page more → (page ≡ i) ⊎ (page ≢ i) → (more ≡ i) ⊎ (more ≢ i) → page ≡ more
        by_apart page more below also other same (inl a) (inl b) = a ∙ sym b
        by_apart page more below also other same (inl a) (inr b) = absurd (earlier more (omega arith) (sym same ∙ ap at_page a))
        by_apart page more below also other same (inr a) (inl b) = absurd (earlier page (omega arith) (same ∙ ap at_page b))
        by_apart page more below also other same (inr a) (inr b) = new.apart page more (omega arith) (omega arith) other same

    pub taken_more : i < length addresses → AreTaken old (set.insert now (at_page i)) addresses (i + 1)
    taken_more short =
        record {
          members = λ q h. by_member q (one_of now (at_page i) q h);
          kept = λ q h. stays now (at_page i) q (taken.kept q h);
          added = λ q h. by_added q h (same_or_other h.0 i);
          count_is =
              one_more now (at_page i) free.free ∙ ap (λ (n : ℕ). n + 1) taken.count_is
              ∙ counted (count_by_more_yes (λ at. not (at == 0)) addresses i 0 short (ap not (ne_eqb (at_page i) 0 there)));
        }
      where
        by_part : (q : ℕ) → (set.contains old q ≡ true) ⊎ IsAmong addresses i q → (set.contains old q ≡ true) ⊎ IsAmong addresses (i + 1) q
        by_part q (inl h) = inl h
        by_part q (inr h) = inr (among_more q h)

        by_member : (q : ℕ) → (q ≡ at_page i) ⊎ (set.contains now q ≡ true) → (set.contains old q ≡ true) ⊎ IsAmong addresses (i + 1) q
        by_member q (inl same) = inr (i, (omega arith, sym same, λ none. there (sym same ∙ none)))
        by_member q (inr h) = by_part q (taken.members q h)

        by_added : (q : ℕ) (h : IsAmong addresses (i + 1) q) → (h.0 ≡ i) ⊎ (h.0 ≢ i) → set.contains (set.insert now (at_page i)) q ≡ true
        by_added q h (inl same) = subst (λ (n : ℕ). set.contains (set.insert now (at_page i)) n ≡ true) (ap at_page (sym same) ∙ h.1.1) (here now (at_page i))
        by_added q h (inr other) = stays now (at_page i) q (taken.added q (h.0, (omega (arith, h.1.0, other), h.1.1, h.1.2)))

        counted : count_by (λ at. not (at == 0)) (take (i + 1) addresses) ≡ count_by (λ at. not (at == 0)) (take i addresses) + 1
            → set.len old + count_by (λ at. not (at == 0)) (take i addresses) + 1 ≡ set.len old + count_by (λ at. not (at == 0)) (take (i + 1) addresses)
        counted e = omega (arith, e)

  -- where all are new, the next one is free
  pub free_here : (count : ℕ) → AreNew geom old addresses count → i < count → AreTaken old now addresses i → at_page i ≢ 0 → IsFreePage geom now (at_page i)
  free_here count new below taken there =
      record {
        inside = new.inside i below there;
        free = not_true (set.contains now (at_page i)) (λ h. by_part (taken.members (at_page i) h));
      }
    where
      by_part : (set.contains old (at_page i) ≡ true) ⊎ IsAmong addresses i (at_page i) → ⊥
      by_part (inl h) = not_both h (new.fresh i below there)
      by_part (inr h) = let same : h.0 ≡ i = new.apart h.0 i (omega (arith, h.1.0)) below (λ none. there (sym h.1.1 ∙ none)) h.1.1 in omega (arith, h.1.0, same)

-- nothing was taken yet
pub new_none : (geom : ImageGeometry) (old : Taken) (addresses : List ℕ) → AreNew geom old addresses 0
new_none geom old addresses = record { inside = λ page below there. absurd (omega arith); fresh = λ page below there. absurd (omega arith); apart = λ page more below also there same. absurd (omega arith) }

pub taken_none : (old : Taken) (addresses : List ℕ) → AreTaken old old addresses 0
taken_none old addresses = record { members = λ q h. inl h; kept = λ q h. h; added = λ q h. absurd (omega (arith, h.1.0)); count_is = omega arith }
