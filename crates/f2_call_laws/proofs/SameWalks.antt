-- A change of a row that leaves its kind, its directory and its name leads each path where it led.
use Rattle.std.proofs.Common.{◌≡◌, ◌≢◌, ◌⊎◌, inl, inr, ℕ, Bool, true, false, List, [], ◌∷◌, refl, sym, ap, ◌∙◌, subst, true≢false}
use Rattle.std.specs.Prelude.{Option, Some, None, Ok, Err, if◌then◌else◌}
use Rattle.std.specs.FinMap as map
use Rattle.f2_model.specs.Tree.{Rows, ROOT, IsGoodTree, is_directory, stands_at, child, walked, walk, or_no_entry}
use Rattle.f2_model.specs.declared.rows.Row.{Row}
use Rattle.f2_model.specs.declared.replies.Reply.TheVariants.{NotDir}
use Rattle.f2_laws.proofs.Maps.{get_put, get_put-other}
use Rattle.f2_laws.proofs.Places.{same_or_other}
use Rattle.f2_laws.proofs.Values.{value_found, none_found}
use Rattle.f2_laws.proofs.Walks.{some_same, StandsIn, stands, child_there}

-- two rows that stand at the same place
record IsTwin (one other : Row) : Type 0 where
  pub ino : other.ino ≡ one.ino
  pub kind : other.kind ≡ one.kind
  pub stands : (directory : ℕ) (name : List ℕ) → stands_at directory name other ≡ stands_at directory name one

module _ (most more : ℕ) (tree after : Rows) (good : IsGoodTree most tree) (good_after : IsGoodTree more after)
    (twin : (ino : ℕ) (row : Row) → map.get tree ino ≡ Some row → (other : Row) × (map.get after ino ≡ Some other) × IsTwin row other) where
  -- a row's twin is what its name leads to
  child_twin : (directory : ℕ) (name : List ℕ) (row : Row) → child tree directory name ≡ Some row → (other : Row) × (child after directory name ≡ Some other) × (map.get after row.ino ≡ Some other) × IsTwin row other
  child_twin directory name row h = by_child (child after directory name) refl
    where
      there : map.get tree row.ino ≡ Some row
      there = (child_there most tree good directory name row h).0

      pair : (other : Row) × (map.get after row.ino ≡ Some other) × IsTwin row other
      pair = twin row.ino row there

      at_name : stands_at directory name pair.0 ≡ true
      at_name = pair.2.stands directory name ∙ (value_found tree (stands_at directory name) row h).0

      by_child : (o : Option Row) → child after directory name ≡ o → (other : Row) × (child after directory name ≡ Some other) × (map.get after row.ino ≡ Some other) × IsTwin row other
      by_child None e = absurd (true≢false (sym at_name ∙ none_found after (stands_at directory name) row.ino pair.0 e pair.1))
      by_child (Some found) e =
          let here = child_there more after good_after directory name found e in
          let own : pair.0.ino ≡ row.ino = pair.2.ino in
          let mine : StandsIn directory name pair.0 = stands directory name pair.0 at_name in
          let same_ino : found.ino ≡ row.ino =
          good_after.apart found.ino row.ino found pair.0 here.0 pair.1 here.1.not_root (λ root. mine.not_root (own ∙ root)) (here.1.parent ∙ sym mine.parent) (here.1.name_is ∙ sym mine.name_is) in
          let same : found ≡ pair.0 = some_same (sym here.0 ∙ ap (map.get after) same_ino ∙ pair.1) in
          (pair.0, e ∙ ap Some same, pair.1, pair.2)

  -- names lead from a row and its twin to a row and its twin
  abbrev LeadAlike : List (List ℕ) → Row → Type 0
  LeadAlike names end = (next now : Row) → map.get tree next.ino ≡ Some next → map.get after next.ino ≡ Some now → IsTwin next now → walked tree names next ≡ Ok end → (last : Row) × (walked after names now ≡ Ok last) × (map.get after end.ino ≡ Some last)

  walked_twin : (names : List (List ℕ)) (row other end : Row) → map.get tree row.ino ≡ Some row → map.get after row.ino ≡ Some other → IsTwin row other → walked tree names row ≡ Ok end
      → (now : Row) × (walked after names other ≡ Ok now) × (map.get after end.ino ≡ Some now)
  walked_twin [] row other end there there_now is h =
      let same : row ≡ end = cc in
      (other, refl, subst (λ (r : Row). map.get after r.ino ≡ Some other) same there_now)
  walked_twin (name ∷ names) row other end there there_now is h = by_kind (λ next now next_there now_there twins led. walked_twin names next now end next_there now_there twins led) (is_directory row.kind) refl h
    where
      by_child : LeadAlike names end → (o : Option Row) → child tree row.ino name ≡ o → or_no_entry o (walked tree names) ≡ Ok end → (last : Row) × (or_no_entry (child after other.ino name) (walked after names) ≡ Ok last) × (map.get after end.ino ≡ Some last)
      by_child rest None e h = absurd (cc)
      by_child rest (Some next) e h =
          let to = child_twin row.ino name next e in
          let led = rest next to.0 (child_there most tree good row.ino name next e).0 to.2 to.3 h in
          (led.0, ap (λ o. or_no_entry o (walked after names)) (ap (λ i. child after i name) is.ino ∙ to.1) ∙ led.1, led.2)

      by_kind : LeadAlike names end → (b : Bool) → is_directory row.kind ≡ b → (if b then or_no_entry (child tree row.ino name) (walked tree names) else Err NotDir) ≡ Ok end
          → (last : Row) × (walked after (name ∷ names) other ≡ Ok last) × (map.get after end.ino ≡ Some last)
      by_kind rest false kind h = absurd (cc)
      by_kind rest true kind h =
          let led = by_child rest (child tree row.ino name) refl h in
          (led.0, ap (λ b. if b then or_no_entry (child after other.ino name) (walked after names) else Err NotDir) (ap is_directory is.kind ∙ kind) ∙ led.1, led.2)

  walk_twin : (path : List (List ℕ)) (end : Row) → walk tree path ≡ Ok end → (now : Row) × (walk after path ≡ Ok now) × (map.get after end.ino ≡ Some now)
  walk_twin path end h =
      let root = good.root.0 in
      let there : map.get tree ROOT ≡ Some root = good.root.1 in
      let ino : root.ino ≡ ROOT = good.root.2.ino in
      let other = twin ROOT root there in
      let from : walked tree path root ≡ Ok end = sym (ap (λ o. or_no_entry o (walked tree path)) there) ∙ h in
      let led = walked_twin path root other.0 end (ap (map.get tree) ino ∙ there) (ap (map.get after) ino ∙ other.1) other.2 from in
      (led.0, ap (λ o. or_no_entry o (walked after path)) other.1 ∙ led.1, led.2)

-- the changed row is where the path of the row leads
pub leads_there : (most more : ℕ) (tree : Rows) (good : IsGoodTree most tree) (row put : Row) → map.get tree row.ino ≡ Some row → put.ino ≡ row.ino → put.kind ≡ row.kind
    → ((directory : ℕ) (name : List ℕ) → stands_at directory name put ≡ stands_at directory name row) → IsGoodTree more (map.insert tree row.ino put)
    → (path : List (List ℕ)) → walk tree path ≡ Ok row → walk (map.insert tree row.ino put) path ≡ Ok put
leads_there most more tree good row put there ino kind stand good_after path h =
    let led = walk_twin most more tree (map.insert tree row.ino put) good good_after (λ at one found. by_ino at one found (same_or_other at row.ino)) path row h in
    led.1 ∙ ap Ok (some_same (sym led.2 ∙ get_put tree row.ino put))
  where
    by_ino : (at : ℕ) (one : Row) → map.get tree at ≡ Some one → (at ≡ row.ino) ⊎ (at ≢ row.ino) → (other : Row) × (map.get (map.insert tree row.ino put) at ≡ Some other) × IsTwin one other
    by_ino at one found (inl same) =
        let is : row ≡ one = some_same (sym there ∙ ap (map.get tree) (sym same) ∙ found) in
        (put, ap (map.get (map.insert tree row.ino put)) same ∙ get_put tree row.ino put, subst (λ (r : Row). IsTwin r put) is (record { ino = ino; kind = kind; stands = stand }))
    by_ino at one found (inr other) = (one, get_put-other tree row.ino put at other ∙ found, record { ino = refl; kind = refl; stands = λ directory name. refl })
