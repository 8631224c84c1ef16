-- The names that were seen in directories, as a set of borrowed keys.
use Rattle.std.proofs.Common.{◌≡◌, ◌≢◌, ◌↔◌, ℕ, Bool, true, false, cond, not, ◌||◌, ◌&&◌, Bor, List, [], ◌∷◌, refl, sym, ap, ◌∙◌, true≢false}
use Rattle.std.specs.Prelude.{if◌then◌else◌, ◌==◌}
use Rattle.std.specs.List.{list_any}
use Rattle.std.specs.Ordering.{nat_cmp, is_eq, ordering_then}
use Rattle.std.specs.declared.cmp.Ordering.{Ordering}
use Rattle.std.specs.declared.cmp.Ordering.TheVariants.{Less, Equal, Greater}
use Rattle.std.specs.Cmp.{unsigned_tied}
use Rattle.std.proofs.lemmas.Bool.{eq-eqb, ne_eqb}
use Rattle.std.proofs.lemmas.Map.Text.{is_eq-slice_cmp}
use Rattle.std.specs.Cmp.Lexicographic.{slice_cmp}
use Rattle.std.specs.BTreeSet.{BTreeSet, contains}
use Rattle.f2_model.specs.Names.{same_name}
use Rattle.f2_model.specs.Tree.{ROOT, stands_at}
use Rattle.f2_model.specs.declared.rows.Row.{Row}
use Rattle.f2_plain_check.proofs.Apart.{AreNew}

-- directories with names in them
abbrev pub Named : Type 0
Named = ℕ × Bor (List ℕ)

abbrev pub named_cmp : Named → Named → Ordering
named_cmp a b = ordering_then (nat_cmp a.0 b.0) (slice_cmp nat_cmp a.1.now b.1.now)

-- the names that were seen are those of some rows
pub record AreNamesOf (seen : BTreeSet Named) (rows : List Row) : Type 0 where
  pub same : (named : Named) → contains named_cmp seen named ≡ list_any (stands_at named.0 named.1.now) rows

-- what is left of rows decides whether all of them are new
pub record AreLeft (seen : BTreeSet Named) (left all : List Row) : Type 0 where
  pub before : List Row
  pub names : AreNamesOf seen before
  pub decide : AreNew before left ↔ AreNew [] all

-- a name more that was seen: whether it is this one or stood there before
tied_both : (a b : Ordering) → is_eq (ordering_then a b) ≡ (is_eq a && is_eq b)
tied_both Less b = refl
tied_both Equal b = refl
tied_both Greater b = refl

cond_or : (a b : Bool) → cond a true b ≡ (a || b)
cond_or true b = refl
cond_or false b = refl

or_false : (a : Bool) → a ≡ (a || false)
or_false true = refl
or_false false = refl

tied_stands : (row : Row) (name : Bor (List ℕ)) (named : Named) → name.now ≡ row.name → row.ino ≢ ROOT → is_eq (named_cmp (row.parent, name) named) ≡ stands_at named.0 named.1.now row
tied_stands row name named is below =
    tied_both (nat_cmp row.parent named.0) (slice_cmp nat_cmp name.now named.1.now)
    ∙ ap (λ b. b && is_eq (slice_cmp nat_cmp name.now named.1.now)) (unsigned_tied row.parent named.0)
    ∙ ap (λ b. row.parent == named.0 && b) (is_eq-slice_cmp name.now named.1.now ∙ ap (λ bytes. same_name bytes named.1.now) is)
    ∙ or_false (row.parent == named.0 && same_name row.name named.1.now)
    ∙ sym (ap (λ b. list_any (λ (at : ℕ × List ℕ). at.0 == named.0 && same_name at.1 named.1.now) (if b then [] else ((row.parent, row.name) ∷ []))) (ne_eqb row.ino ROOT below))

root_nowhere : (row : Row) (named : Named) → row.ino ≡ ROOT → stands_at named.0 named.1.now row ≡ false
root_nowhere row named is = ap (λ b. list_any (λ (at : ℕ × List ℕ). at.0 == named.0 && same_name at.1 named.1.now) (if b then [] else ((row.parent, row.name) ∷ []))) (eq-eqb row.ino ROOT is)

-- nothing was seen yet
pub none_seen : (seen : BTreeSet Named) (all : List Row) → seen.keys ≡ [] → AreLeft seen all all
none_seen seen all none = record {
  before = [];
  names = record { same = λ named. ap (list_any (λ k. is_eq (named_cmp named k))) none };
  decide = (λ new. new, λ new. new);
}

module _ (seen : BTreeSet Named) (row : Row) (left all : List Row) (now : AreLeft seen (row ∷ left) all) where
  -- the root has no name
  pub root_passed : row.ino ≡ ROOT → AreLeft seen left all
  root_passed is = record {
    before = row ∷ now.before;
    names = record { same = λ named. now.names.same named ∙ sym (ap (λ b. b || list_any (stands_at named.0 named.1.now) now.before) (root_nowhere row named is)) };
    decide = (λ new. now.decide.0 (λ below. absurd (below is), new), λ new. (now.decide.1 new).1);
  }

  module _ (name : Bor (List ℕ)) (is : name.now ≡ row.name) (below : row.ino ≢ ROOT) where
    asked : contains named_cmp seen (row.parent, name) ≡ list_any (stands_at row.parent row.name) now.before
    asked = now.names.same (row.parent, name) ∙ ap (λ bytes. list_any (stands_at row.parent bytes) now.before) is

    -- a name that wasn't seen before
    pub name_passed : (next : BTreeSet Named) → contains named_cmp seen (row.parent, name) ≡ false →
        ((named : Named) → contains named_cmp next named ≡ cond (is_eq (named_cmp (row.parent, name) named)) true (contains named_cmp seen named)) → AreLeft next left all
    name_passed next none put = record {
      before = row ∷ now.before;
      names = record {
        same = λ named.
            put named ∙ cond_or (is_eq (named_cmp (row.parent, name) named)) (contains named_cmp seen named)
            ∙ ap (λ b. b || contains named_cmp seen named) (tied_stands row name named is below)
            ∙ ap (λ b. stands_at named.0 named.1.now row || b) (now.names.same named);
      };
      decide = (λ new. now.decide.0 (λ _. sym asked ∙ none, new), λ new. (now.decide.1 new).1);
    }

    -- a name that was
    pub name_taken : contains named_cmp seen (row.parent, name) ≡ true → AreNew [] all → ⊥
    name_taken there new = true≢false (sym there ∙ asked ∙ (now.decide.1 new).0 below)

pub turned : {b : Bool} (a : Bool) → not a ≡ b → a ≡ not b
turned true e = ap not e
turned false e = ap not e
