-- Where the rows of a tree stand after one of them was moved.
use Rattle.std.proofs.Common.{◌≡◌, ◌≢◌, ◌⊎◌, inl, inr, ℕ, zero, suc, ◌+◌, ◌<◌, ◌≤◌, true, false, ◌&&◌, List, [], ◌∷◌, ◌++◌, length, take, refl, sym, ap, subst, ◌∙◌, arith, append_assoc, length-append}
use Rattle.std.specs.Prelude.{Option, Some, None, if◌then◌else◌, ◌==◌, nat_lt}
use Rattle.std.specs.Cmp.Lexicographic.{pointwise}
use Rattle.std.specs.FinMap as map
use Rattle.std.proofs.lemmas.List.{append-nil, take-append-le}
use Rattle.std.proofs.Math.Seq.{take-length}
use Rattle.std.proofs.lemmas.Bool.{eq-eqb, ne_eqb, ltb-false, lt-ltb}
use Rattle.f2_model.specs.Names.{same_name}
use Rattle.f2_model.specs.Tree.{Rows, ROOT, MOST_DEPTH, IsGoodTree, IsAtDepth, most_depth, is_directory}
use Rattle.f2_model.specs.Call.{steps_up, is_too_deep, puts_too_deep, goes_below}
use Rattle.f2_model.specs.declared.rows.Row.{Row}
use Rattle.f2_model.specs.declared.rows.Kind.{Kind}
use Rattle.f2_model.specs.declared.rows.Kind.TheVariants.{Regular, Directory}
use Rattle.f2_laws.proofs.Maps.{get_put-other}
use Rattle.f2_laws.proofs.Values.{no_value}
use Rattle.f2_laws.proofs.Walks.{some_same, Leads, leads_once, turned_onto}
use Rattle.f2_laws.proofs.Places.{same_or_other}
use Rattle.f2_laws.proofs.Names.{same_name-refl}

-- names turned round
abbrev turned : List (List ℕ) → List (List ℕ)
turned names = turned_onto [] names

turned-onto : (above names : List (List ℕ)) → turned_onto above names ≡ turned names ++ above
turned-onto above [] = refl
turned-onto above (name ∷ names) =
    turned-onto (name ∷ above) names ∙ sym (append_assoc (turned names) (name ∷ []) above) ∙ ap (λ l. l ++ above) (sym (turned-onto (name ∷ []) names))

turned-append : (xs ys : List (List ℕ)) → turned (xs ++ ys) ≡ turned ys ++ turned xs
turned-append [] ys = sym (append-nil (turned ys))
turned-append (x ∷ xs) ys =
    turned-onto (x ∷ []) (xs ++ ys) ∙ ap (λ l. l ++ x ∷ []) (turned-append xs ys) ∙ append_assoc (turned ys) (turned xs) (x ∷ []) ∙ ap (λ l. turned ys ++ l) (sym (turned-onto (x ∷ []) xs))

turned_twice : (xs : List (List ℕ)) → turned (turned xs) ≡ xs
turned_twice [] = refl
turned_twice (x ∷ xs) = ap turned (turned-onto (x ∷ []) xs) ∙ turned-append (turned xs) (x ∷ []) ∙ ap (λ l. x ∷ l) (turned_twice xs)

all_same : (names : List (List ℕ)) → pointwise same_name names names ≡ true
all_same [] = refl
all_same (name ∷ names) = ap (λ b. b && pointwise same_name names names) (same_name-refl name) ∙ all_same names

-- a path that begins with another and goes on is below it
pub goes_on : (top more : List (List ℕ)) (last : List ℕ) → goes_below ((top ++ more) ++ last ∷ []) top ≡ true
goes_on top more last =
    let whole = (top ++ more) ++ last ∷ [] in
    let longer : length top < length whole = omega (arith, length-append (top ++ more) (last ∷ []), length-append top more) in
    let front : take (length top) whole ≡ top =
    ap (λ l. take (length top) l) (append_assoc top more (last ∷ [])) ∙ take-append-le (length top) top (more ++ last ∷ []) (le_same (length top)) ∙ take-length top in
    ap (λ b. b && nat_lt (length top) (length whole)) (ap (λ l. pointwise same_name top l) front ∙ all_same top) ∙ lt-ltb (length top) (length whole) longer
  where
    le_same : (n : ℕ) → n ≤ n
    le_same n = omega arith

-- an ino is so many steps below another one
abbrev pub IsBelow : Rows → ℕ → ℕ → ℕ → Type 0
IsBelow tree top zero ino = ino ≡ top
IsBelow tree top (suc steps) ino = (ino ≢ top) × (ino ≢ ROOT) × ((row : Row) × (map.get tree ino ≡ Some row) × IsBelow tree top steps row.parent)

-- the names that lead up from an ino end in those that lead up from one above it
below_leads : (tree : Rows) (top : ℕ) (others : List (List ℕ)) → Leads tree others top → (steps ino : ℕ) (names : List (List ℕ)) → IsBelow tree top steps ino → Leads tree names ino → (more : List (List ℕ)) × (names ≡ more ++ others)
below_leads tree top others high zero ino names below low = ([], leads_once tree names others ino low (subst (Leads tree others) (sym below) high))
below_leads tree top others high (suc steps) ino [] below low = absurd (below.1 low)
below_leads tree top others high (suc steps) ino (name ∷ names) below low =
    let same : low.1.0 ≡ below.2.0 = some_same (sym low.1.1 ∙ below.2.1) in
    let rest = below_leads tree top others high steps below.2.0.parent names below.2.2 (subst (λ (r : Row). Leads tree names r.parent) same low.1.3) in
    (name ∷ rest.0, ap (λ l. name ∷ l) rest.1)

-- so a path to a row below another one begins with the path to that one
pub path_begins : (tree : Rows) (top ino steps : ℕ) (path from : List (List ℕ)) → Leads tree (turned from) top → Leads tree (turned path) ino → IsBelow tree top steps ino → (more : List (List ℕ)) × (path ≡ from ++ more)
path_begins tree top ino steps path from high low below =
    let rest = below_leads tree top (turned from) high steps ino (turned path) below low in
    (turned rest.0, sym (turned_twice path) ∙ ap turned rest.1 ∙ turned-append rest.0 (turned from) ∙ ap (λ l. l ++ turned rest.0) (turned_twice from))

module _ (most : ℕ) (tree : Rows) (good : IsGoodTree most tree) (put : Row) where
  -- a row of the tree keeps its depth, or it is so many steps below the row that is put
  pub kept_or_below : (depth ino : ℕ) → IsAtDepth tree depth ino → put.ino ≢ ROOT → (IsAtDepth (map.insert tree put.ino put) depth ino) ⊎ ((steps : ℕ) × (steps ≤ depth) × IsBelow tree put.ino steps ino)
  kept_or_below zero ino h not_root = inl h
  kept_or_below (suc depth) ino h not_root = by_ino (kept_or_below depth h.1.0.parent h.1.2 not_root) (same_or_other ino put.ino)
    where
      by_ino : (IsAtDepth (map.insert tree put.ino put) depth h.1.0.parent) ⊎ ((steps : ℕ) × (steps ≤ depth) × IsBelow tree put.ino steps h.1.0.parent) → (ino ≡ put.ino) ⊎ (ino ≢ put.ino) → (IsAtDepth (map.insert tree put.ino put) (suc depth) ino) ⊎ ((steps : ℕ) × (steps ≤ suc depth) × IsBelow tree put.ino steps ino)
      by_ino rest (inl same) = inr (0, omega arith, same)
      by_ino (inl rest) (inr other) = inl (h.0, (h.1.0, get_put-other tree put.ino put ino other ∙ h.1.1, rest))
      by_ino (inr rest) (inr other) = inr (suc rest.0, omega (arith, rest.1), (other, h.0, (h.1.0, h.1.1, rest.2)))

  -- below the row that is put, depths are counted from its new one
  pub below_depth : (high : ℕ) → IsAtDepth (map.insert tree put.ino put) high put.ino → (steps ino : ℕ) → IsBelow tree put.ino steps ino → (depth : ℕ) × (depth ≡ high + steps) × IsAtDepth (map.insert tree put.ino put) depth ino
  below_depth high top zero ino below = (high, omega arith, subst (IsAtDepth (map.insert tree put.ino put) high) (sym below) top)
  below_depth high top (suc steps) ino below =
      let rest = below_depth high top steps below.2.0.parent below.2.2 in
      (suc rest.0, omega (arith, rest.1), (below.1, (below.2.0, get_put-other tree put.ino put ino below.0 ∙ below.2.1, rest.2)))

  from_row : Option Row → (Row → Option ℕ) → Option ℕ
  from_row None next = None
  from_row (Some up) next = next up

  -- steps up to a row are found where there are few enough
  steps_found : (few steps ino : ℕ) (row : Row) → steps ≤ few → map.get tree ino ≡ Some row → IsBelow tree put.ino steps ino → steps_up tree few put.ino row ≡ Some steps
  steps_found few zero ino row le there below = at_top few (eq-eqb row.ino put.ino (good.keyed ino row there ∙ below))
    where
      at_top : (few : ℕ) → (row.ino == put.ino) ≡ true → steps_up tree few put.ino row ≡ Some 0
      at_top zero e = ap (λ b. if b then Some 0 else None) e
      at_top (suc few) e = rw e
  steps_found zero (suc steps) ino row le there below = absurd (omega arith)
  steps_found (suc few) (suc steps) ino row le there below =
      let same : below.2.0 ≡ row = some_same (sym below.2.1 ∙ there) in
      let up = good.parents ino row there in
      let rest = steps_found few steps row.parent up.0 (omega arith) up.1 (subst (λ (r : Row). IsBelow tree put.ino steps r.parent) same below.2.2) in
      let not_top : (row.ino == put.ino) ≡ false = ne_eqb row.ino put.ino (λ e. below.0 (sym (good.keyed ino row there) ∙ e)) in
      let next : steps + 1 ≡ suc steps = omega arith in
      rw (not_top, up.1, rest) (ap (λ n. Some n) next)

  -- no directory at or below a row that may be moved to a depth comes to stand too deep
  directory_fits : (depth : ℕ) → puts_too_deep tree depth put ≡ false → (steps ino : ℕ) (row : Row) → steps ≤ MOST_DEPTH + 1 → map.get tree ino ≡ Some row → row.kind ≡ Directory → IsBelow tree put.ino steps ino → depth + steps ≤ MOST_DEPTH
  directory_fits depth fits steps ino row le there kind below =
      let few : ℕ = MOST_DEPTH + 1 in
      let found = steps_found (MOST_DEPTH + 1) steps ino row le there below in
      let none = no_value tree (λ other. is_directory other.kind && is_too_deep depth (steps_up tree (MOST_DEPTH + 1) put.ino other)) ino row fits there in
      let test : is_too_deep depth (Some steps) ≡ false =
      sym (ap (λ k. is_directory k && is_too_deep depth (steps_up tree (MOST_DEPTH + 1) put.ino row)) kind ∙ ap (λ o. is_too_deep depth o) found) ∙ none in
      ltb-false MOST_DEPTH (depth + steps) test

  -- nor does a row of any kind
  row_fits : (depth : ℕ) → puts_too_deep tree depth put ≡ false → depth ≤ MOST_DEPTH + 1 → (steps ino : ℕ) (row : Row) → steps ≤ MOST_DEPTH + 1 → map.get tree ino ≡ Some row → IsBelow tree put.ino steps ino → depth + steps ≤ most_depth row.kind
  row_fits depth fits most_high steps ino row le there below = by_kind row.kind refl
    where
      file_fits : (steps : ℕ) → steps ≤ MOST_DEPTH + 1 → IsBelow tree put.ino steps ino → depth + steps ≤ MOST_DEPTH + 1
      file_fits zero le below = omega arith
      file_fits (suc steps) le below =
          let up = good.parents ino below.2.0 below.2.1 in
          let above = directory_fits depth fits steps below.2.0.parent up.0 (omega arith) up.1 up.2 below.2.2 in
          omega arith

      by_kind : (kind : Kind) → row.kind ≡ kind → depth + steps ≤ most_depth kind
      by_kind Directory e = directory_fits depth fits steps ino row le there e below
      by_kind Regular e = file_fits steps le below

  -- so each row of the tree has a depth that it may have
  pub moved_reached : (high : ℕ) → put.ino ≢ ROOT → puts_too_deep tree high put ≡ false → high ≤ MOST_DEPTH + 1 → IsAtDepth (map.insert tree put.ino put) high put.ino → (ino : ℕ) (before : Row) → map.get tree ino ≡ Some before → (depth : ℕ) × (depth ≤ most_depth before.kind) × IsAtDepth (map.insert tree put.ino put) depth ino
  moved_reached high not_root fits most_high top ino before there =
      let r = good.reached ino before there in
      by_place r.0 r.1 (kept_or_below r.0 ino r.2 not_root)
    where
      deepest : (kind : Kind) → most_depth kind ≤ MOST_DEPTH + 1
      deepest Directory = omega arith
      deepest Regular = omega arith

      by_place : (depth : ℕ) → depth ≤ most_depth before.kind → (IsAtDepth (map.insert tree put.ino put) depth ino) ⊎ ((steps : ℕ) × (steps ≤ depth) × IsBelow tree put.ino steps ino) → (depth : ℕ) × (depth ≤ most_depth before.kind) × IsAtDepth (map.insert tree put.ino put) depth ino
      by_place depth most_here (inl kept) = (depth, most_here, kept)
      by_place depth most_here (inr below) =
          let few : below.0 ≤ MOST_DEPTH + 1 = omega (arith, below.1, deepest before.kind) in
          let d = below_depth high top below.0 ino below.2 in
          (d.0, subst (λ n. n ≤ most_depth before.kind) (sym d.1) (row_fits high fits most_high below.0 ino before few there below.2), d.2)
