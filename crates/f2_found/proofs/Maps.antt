-- What a map has with an entry more or less, key by key.
use Rattle.std.proofs.Common.{◌≡◌, ◌⊎◌, inl, inr, ℕ, Bool, true, false, cond, List, refl, sym, ap, ◌∙◌}
use Rattle.std.specs.Prelude.{Option, Some, None}
use Rattle.std.specs.Ordering.{nat_cmp, eq_by_cmp, is_eq}
use Rattle.std.specs.declared.cmp.Ordering.{Ordering}
use Rattle.std.specs.declared.cmp.Ordering.TheVariants.{Equal}
use Rattle.std.specs.Cmp.{nat_cmp_total, Equal-is, tied_itself}
use Rattle.std.specs.Cmp.Lexicographic.{slice_cmp, nat_list_cmp_total}
use Rattle.std.specs.FinMap as map
use Rattle.std.specs.FinMap.{FinMap, nat_cmp-IsAntisymmetric, slice_cmp-IsAntisymmetric}

pub not_none : {X : Type 0} (x : X) → None ≡ Some x → ⊥
not_none x e = cc

pub one_some : {X : Type 0} (x y : X) → Some x ≡ Some y → x ≡ y
one_some x y e = cc

-- the order of names
abbrev pub names_cmp : List ℕ → List ℕ → Ordering
names_cmp = slice_cmp nat_cmp

pub same_name : (p q : List ℕ) → names_cmp p q ≡ Equal → p ≡ q
same_name = slice_cmp-IsAntisymmetric nat_cmp-IsAntisymmetric

tied_same : (p q : List ℕ) → eq_by_cmp names_cmp p q ≡ true → p ≡ q
tied_same p q tied = same_name p q ((Equal-is (names_cmp p q)).0 tied)

-- an entry that is taken out and put again with another value
pub put_again : {X : Type 0} (m : FinMap nat_cmp X) (k : ℕ) (v : X) → map.insert (map.remove m k) k v ≡ map.insert m k v
put_again m k v = map.same_map nat_cmp_total nat_cmp-IsAntisymmetric _ _ (λ q.
    map.get-insert nat_cmp_total (map.remove m k) k v q
    ∙ by (eq_by_cmp nat_cmp q k) (map.get m q) (map.get (map.remove m k) q) (map.get-remove nat_cmp_total m k q)
    ∙ sym (map.get-insert nat_cmp_total m k v q))
  where
    by : (b : Bool) (o p : Option _) → p ≡ cond b None o → cond b (Some v) p ≡ cond b (Some v) o
    by true o p e = refl
    by false o p e = e

-- an entry that isn't there is taken out
pub remove_none : {X : Type 0} (m : FinMap nat_cmp X) (k : ℕ) → map.get m k ≡ None → map.remove m k ≡ m
remove_none m k none = map.same_map nat_cmp_total nat_cmp-IsAntisymmetric _ _ (λ q. map.get-remove nat_cmp_total m k q ∙ by q (eq_by_cmp nat_cmp q k) refl)
  where
    by : (q : ℕ) (b : Bool) → eq_by_cmp nat_cmp q k ≡ b → cond b None (map.get m q) ≡ map.get m q
    by q true t = sym none ∙ ap (map.get m) (sym (nat_cmp-IsAntisymmetric q k ((Equal-is (nat_cmp q k)).0 t)))
    by q false t = refl

-- entries that are found by names
module _ {X : Type 0} (m : FinMap (slice_cmp nat_cmp) X) (name : List ℕ) (v : X) where
  step : (q : List ℕ) (b : Bool) → eq_by_cmp names_cmp q name ≡ b → map.get (map.insert m name v) q ≡ cond b (Some v) (map.get m q)
  step q b t = map.get-insert nat_list_cmp_total m name v q ∙ ap (λ (c : Bool). cond c (Some v) (map.get m q)) t

  pub get_named : map.get (map.insert m name v) name ≡ Some v
  get_named = step name true (ap is_eq (tied_itself nat_list_cmp_total name))

  -- an entry under a name is the new one, or an old one under another name
  pub named_cases : (q : List ℕ) → ((q ≡ name) × (map.get (map.insert m name v) q ≡ Some v)) ⊎ (map.get (map.insert m name v) q ≡ map.get m q)
  named_cases q = by (eq_by_cmp names_cmp q name) refl
    where
      by : (b : Bool) → eq_by_cmp names_cmp q name ≡ b → ((q ≡ name) × (map.get (map.insert m name v) q ≡ Some v)) ⊎ (map.get (map.insert m name v) q ≡ map.get m q)
      by true t = inl (tied_same q name t, step q true t)
      by false t = inr (step q false t)
