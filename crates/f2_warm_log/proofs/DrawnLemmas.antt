-- The zone's drawn addresses, of which there is one at most.
use Rattle.std.proofs.Common.{◌≡◌, ℕ, Bool, true, false, ◌&&◌, ◌||◌, not, ap, sym, ◌∙◌, refl, arith, nat_cmp}
use Rattle.std.specs.Cmp.{nat_cmp_total, unsigned_tied}
use Rattle.std.specs.Ordering.{eq_by_cmp}
use Rattle.std.specs.FinSet as set
use Rattle.std.specs.FinSet.{nat_cmp-IsAntisymmetric, same_set, contains-empty, contains-insert, contains-remove, len-empty}
use Rattle.std.proofs.lemmas.Bool.Decides.{nat_tests}

-- the one that was drawn is there
pub contains-one : (drawn : set.FinSet nat_cmp) (at : ℕ) → drawn ≡ set.insert set.empty at → set.contains drawn at ≡ true
contains-one drawn at one = rw one (grind (arith, nat_tests, contains-insert nat_cmp_total set.empty at at, unsigned_tied at at))

-- what is added and taken away isn't there
none_left : (same there : Bool) → there ≡ false → (not same && (same || there)) ≡ false
none_left true there absent = refl
none_left false there absent = absent

-- once it is written none is left
pub remove-one : (drawn : set.FinSet nat_cmp) (at : ℕ) → drawn ≡ set.insert set.empty at → set.remove drawn at ≡ set.empty
remove-one drawn at one =
    rw one (same_set nat_cmp_total nat_cmp-IsAntisymmetric (set.remove (set.insert set.empty at) at) set.empty (λ q.
    rw (contains-remove nat_cmp_total (set.insert set.empty at) at q, contains-insert nat_cmp_total set.empty at q)
    (none_left (eq_by_cmp nat_cmp q at) (set.contains set.empty q) (contains-empty nat_cmp q) ∙ sym (contains-empty nat_cmp q))))

pub len-remove_one : (drawn : set.FinSet nat_cmp) (at : ℕ) → drawn ≡ set.insert set.empty at → set.len (set.remove drawn at) ≡ 0
len-remove_one drawn at one = ap set.len (remove-one drawn at one) ∙ len-empty nat_cmp
