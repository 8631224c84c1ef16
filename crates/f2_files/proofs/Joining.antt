-- What the tests of a row that is to join others come to.
use Rattle.std.proofs.Common.{◌≡◌, ◌≢◌, ◌⊎◌, inl, inr, ℕ, ◌<◌, Bool, true, false, not, ◌&&◌, ◌||◌, List, [], ◌∷◌, refl, sym, ap, subst, ◌∙◌, true≢false, arith}
use Rattle.std.specs.Prelude.{Option, Some, None, is_some, nat_le, nat_lt, if◌then◌else◌}
use Rattle.std.specs.Bool.{then_some}
use Rattle.std.specs.FinMap as map
use Rattle.std.proofs.lemmas.Bool.{ltb-false}
use Rattle.f2_model.specs.Lists.{first_some}
use Rattle.f2_model.specs.Names.{is_good_name}
use Rattle.f2_model.specs.Tree.{ROOT, is_directory}
use Rattle.f2_model.specs.declared.rows.Kind.{Kind}
use Rattle.f2_model.specs.declared.rows.Kind.TheVariants.{Regular, Directory}
use Rattle.f2_dir.specs.Entries.{Entries}
use Rattle.f2_laws.proofs.Maps.{get_put-other}
use Rattle.f2_laws.proofs.Walks.{some_none}
use Rattle.f2_files.specs.Joins.{is_bad_ino, is_bad_size, has_far_page, Namesake, MayJoin, IsWrong, row_fault, with_own_names}
use Rattle.f2_files.specs.Led.{Dirs, Place, bound_in, with_name, BindsNames}
use Rattle.f2_files.specs.Shape.{Shapes}
use Rattle.f2_files.specs.declared.joins.RowFault.{RowFault}
use Rattle.f2_files.specs.declared.joins.RowFault.TheVariants.{BadIno, NoDirectory, BadName, NameTaken, BadSize, BadPage}
use Rattle.f2_files.specs.declared.shapes.Shape.{Shape}
use Rattle.f2_files.proofs.Binding.{binds_added}
use Rattle.f2_files.proofs.Creating.{some_names, bound_beside, keys_with_file, keys_with_directory, no_directory}

-- one of several tests
passed_test : (b : Bool) (fault : RowFault) (rest : List (Option RowFault)) → first_some (then_some b fault ∷ rest) ≡ None → (b ≡ false) × (first_some rest ≡ None)
passed_test true fault rest h = absurd (cc)
passed_test false fault rest h = (refl, h)

failed_test : (b : Bool) (fault one : RowFault) (rest : List (Option RowFault)) → first_some (then_some b fault ∷ rest) ≡ Some one → ((b ≡ true) × (fault ≡ one)) ⊎ (first_some rest ≡ Some one)
failed_test true fault one rest h = inl (refl, cc)
failed_test false fault one rest h = inr h

neither : (a b : Bool) → (a || b) ≡ false → (a ≡ false) × (b ≡ false)
neither true b h = absurd (true≢false h)
neither false b h = (refl, h)

not_false : (b : Bool) → not b ≡ false → b ≡ true
not_false true h = refl
not_false false h = absurd (true≢false h)

not_true : (b : Bool) → not b ≡ true → b ≡ false
not_true true h = absurd (true≢false (sym h))
not_true false h = refl

no_one : {X : Type 0} (o : Option X) → is_some o ≡ false → o ≡ None
no_one None h = refl
no_one (Some x) h = absurd (true≢false h)

some_one : {X : Type 0} (o : Option X) → is_some o ≡ true → (x : X) × (o ≡ Some x)
some_one None h = absurd (true≢false (sym h))
some_one (Some x) h = (x, refl)

above : (ino : ℕ) → nat_le ino ROOT ≡ false → ROOT < ino
above ino h = grind arith

no_size : (kind : Kind) (size : ℕ) → (is_directory kind && nat_lt 0 size) ≡ false → kind ≡ Directory → size ≡ 0
no_size Directory size h is = omega (arith, ltb-false 0 size h)
no_size Regular size h is = absurd (cc)

module _ (shapes : Shapes) (dirs : Dirs) (binds : BindsNames shapes dirs) (row : Shape) where
  namesake : (place : Place) → bound_in dirs row.parent row.name ≡ Some place → Namesake shapes row
  namesake place is =
      let at = binds.only row.parent row.name place.0 place.1 is in
      record { ino = place.0; shape = at.0; there = at.1; other = at.2; parent = at.3; name = at.4 }

  no_namesake : bound_in dirs row.parent row.name ≡ None → Namesake shapes row → ⊥
  no_namesake none same =
      some_none (sym (binds.bound same.ino same.shape same.there same.other) ∙ ap (λ d. bound_in dirs d same.shape.name) same.parent ∙ ap (bound_in dirs row.parent) same.name ∙ none)

  module _ (most : ℕ) where
    pub may_join : row_fault most shapes dirs row ≡ None → MayJoin most shapes row
    may_join h =
        let ino = passed_test (is_bad_ino shapes row.ino) BadIno _ h in
        let directory = passed_test (not (map.contains_key dirs row.parent)) NoDirectory _ ino.1 in
        let name = passed_test (not (is_good_name row.name)) BadName _ directory.1 in
        let taken = passed_test (is_some (bound_in dirs row.parent row.name)) NameTaken _ name.1 in
        let size = passed_test (is_bad_size most row) BadSize _ taken.1 in
        let page = passed_test (has_far_page row.pages) BadPage _ size.1 in
        let new = neither (nat_le row.ino ROOT) (is_some (map.get shapes row.ino)) ino.0 in
        let sizes = neither (nat_lt most row.size) (is_directory row.kind && nat_lt 0 row.size) size.0 in
        record {
          above = above row.ino new.0;
          free = no_one (map.get shapes row.ino) new.1;
          directory = sym (binds.directories row.parent) ∙ not_false (map.contains_key dirs row.parent) directory.0;
          name = not_false (is_good_name row.name) name.0;
          apart = no_namesake (no_one (bound_in dirs row.parent row.name) taken.0);
          size = ltb-false most row.size sizes.0;
          empty = no_size row.kind row.size sizes.1;
          near = page.0;
        }

    pub unbound : row_fault most shapes dirs row ≡ None → bound_in dirs row.parent row.name ≡ None
    unbound h =
        let ino = passed_test (is_bad_ino shapes row.ino) BadIno _ h in
        let directory = passed_test (not (map.contains_key dirs row.parent)) NoDirectory _ ino.1 in
        let name = passed_test (not (is_good_name row.name)) BadName _ directory.1 in
        let taken = passed_test (is_some (bound_in dirs row.parent row.name)) NameTaken _ name.1 in
        no_one (bound_in dirs row.parent row.name) taken.0

    pub is_wrong : (fault : RowFault) → row_fault most shapes dirs row ≡ Some fault → IsWrong most shapes row fault
    is_wrong fault h = by_ino (failed_test (is_bad_ino shapes row.ino) BadIno fault _ h)
      where
        of : (one : RowFault) → one ≡ fault → IsWrong most shapes row one → IsWrong most shapes row fault
        of one same wrong = subst (IsWrong most shapes row) same wrong

        by_page : ((has_far_page row.pages ≡ true) × (BadPage ≡ fault)) ⊎ (None ≡ Some fault) → IsWrong most shapes row fault
        by_page (inl (is, same)) = of BadPage same is
        by_page (inr none) = absurd (cc)

        by_size : ((is_bad_size most row ≡ true) × (BadSize ≡ fault)) ⊎ (first_some (then_some (has_far_page row.pages) BadPage ∷ []) ≡ Some fault) → IsWrong most shapes row fault
        by_size (inl (is, same)) = of BadSize same is
        by_size (inr h) = by_page (failed_test (has_far_page row.pages) BadPage fault [] h)

        by_taken : ((is_some (bound_in dirs row.parent row.name) ≡ true) × (NameTaken ≡ fault)) ⊎ (first_some (then_some (is_bad_size most row) BadSize ∷ then_some (has_far_page row.pages) BadPage ∷ []) ≡ Some fault) → IsWrong most shapes row fault
        by_taken (inl (is, same)) = let one = some_one (bound_in dirs row.parent row.name) is in of NameTaken same (namesake one.0 one.1)
        by_taken (inr h) = by_size (failed_test (is_bad_size most row) BadSize fault _ h)

        by_name : ((not (is_good_name row.name) ≡ true) × (BadName ≡ fault)) ⊎ (first_some (then_some (is_some (bound_in dirs row.parent row.name)) NameTaken ∷ then_some (is_bad_size most row) BadSize ∷ then_some (has_far_page row.pages) BadPage ∷ []) ≡ Some fault) → IsWrong most shapes row fault
        by_name (inl (is, same)) = of BadName same (not_true (is_good_name row.name) is)
        by_name (inr h) = by_taken (failed_test (is_some (bound_in dirs row.parent row.name)) NameTaken fault _ h)

        by_directory : ((not (map.contains_key dirs row.parent) ≡ true) × (NoDirectory ≡ fault)) ⊎ (first_some (then_some (not (is_good_name row.name)) BadName ∷ then_some (is_some (bound_in dirs row.parent row.name)) NameTaken ∷ then_some (is_bad_size most row) BadSize ∷ then_some (has_far_page row.pages) BadPage ∷ []) ≡ Some fault) → IsWrong most shapes row fault
        by_directory (inl (is, same)) = of NoDirectory same (sym (binds.directories row.parent) ∙ not_true (map.contains_key dirs row.parent) is)
        by_directory (inr h) = by_name (failed_test (not (is_good_name row.name)) BadName fault _ h)

        by_ino : ((is_bad_ino shapes row.ino ≡ true) × (BadIno ≡ fault)) ⊎ (first_some (then_some (not (map.contains_key dirs row.parent)) NoDirectory ∷ then_some (not (is_good_name row.name)) BadName ∷ then_some (is_some (bound_in dirs row.parent row.name)) NameTaken ∷ then_some (is_bad_size most row) BadSize ∷ then_some (has_far_page row.pages) BadPage ∷ []) ≡ Some fault) → IsWrong most shapes row fault
        by_ino (inl (is, same)) = of BadIno same is
        by_ino (inr h) = by_directory (failed_test (not (map.contains_key dirs row.parent)) NoDirectory fault _ h)

    -- names bind rows once the row has joined
    pub binds_joined : row_fault most shapes dirs row ≡ None → BindsNames (map.insert shapes row.ino row) (with_name (with_own_names dirs row) row.parent row.name (row.ino, row.kind))
    binds_joined h =
        let may = may_join h in
        by_kind may.free (λ same. omega (arith, may.above, same)) (some_names (map.get dirs row.parent) (binds.directories row.parent ∙ may.directory)) row.kind refl
      where
        by_kind : map.get shapes row.ino ≡ None → row.ino ≢ ROOT → (names : Entries) × (map.get dirs row.parent ≡ Some names) → (kind : Kind) → row.kind ≡ kind
            → BindsNames (map.insert shapes row.ino row) (with_name (if is_directory kind then map.insert dirs row.ino map.empty else dirs) row.parent row.name (row.ino, row.kind))
        by_kind free not_root names Regular is = binds_added shapes dirs binds dirs (λ at name. refl) row (keys_with_file shapes dirs binds row free is) free not_root names.0 names.1 (unbound h)
        by_kind free not_root names Directory is =
            let none = no_directory shapes dirs binds row.ino free in
            let apart : row.parent ≢ row.ino = λ same. some_none (sym names.1 ∙ ap (λ i. map.get dirs i) same ∙ none) in
            binds_added shapes dirs binds (map.insert dirs row.ino map.empty) (bound_beside shapes dirs binds row.ino none) row (keys_with_directory shapes dirs binds row free is) free not_root names.0
            (get_put-other dirs row.ino map.empty row.parent apart ∙ names.1) (unbound h)
