-- Names of a directory, bound one after another.
use Rattle.std.proofs.Common.{◌≡◌, ℕ, List, [], ◌∷◌, ◌++◌, map as map_list, refl, sym, ap, subst, ◌∙◌}
use Rattle.std.specs.Prelude.{None}
use Rattle.std.specs.FinMap as map
use Rattle.std.proofs.lemmas.List.{map-append}
use Rattle.f2_dentry_block.specs.Dents.{dentry_of}
use Rattle.f2_dentry_block.specs.declared.dents.Dent.{Dent}
use Rattle.f2_format.specs.Dentry.{Dentry}
use Rattle.f2_plain_read.specs.Bindings.{NameMap, with_name, with_names, AreFresh}

module _ (directory : ℕ) where
  with_names-append : (names : NameMap) (xs : List Dentry) (x : Dentry) → with_names directory names (xs ++ x ∷ []) ≡ with_name directory (with_names directory names xs) x
  with_names-append names [] x = refl
  with_names-append names (y ∷ xs) x = with_names-append (with_name directory names y) xs x

  fresh_there : (names : NameMap) (xs : List Dentry) (x : Dentry) (rest : List Dentry) → AreFresh directory names (xs ++ x ∷ rest) → map.get (with_names directory names xs) x.ino ≡ None
  fresh_there names [] x rest h = h.0
  fresh_there names (y ∷ xs) x rest h = fresh_there (with_name directory names y) xs x rest h.1

  pub one_more : (old now new : NameMap) (xs : List Dent) (x : Dent) → now ≡ with_names directory old (map_list dentry_of xs) → new ≡ with_name directory now (dentry_of x)
      → new ≡ with_names directory old (map_list dentry_of (xs ++ x ∷ []))
  one_more old now new xs x is more =
      more ∙ ap (λ (names : NameMap). with_name directory names (dentry_of x)) is
      ∙ sym (with_names-append old (map_list dentry_of xs) (dentry_of x))
      ∙ ap (with_names directory old) (sym (map-append dentry_of xs (x ∷ [])))

  pub not_fresh : (old now : NameMap) (xs : List Dent) (x : Dent) (rest all : List Dent) → now ≡ with_names directory old (map_list dentry_of xs) → xs ++ x ∷ rest ≡ all
      → (map.get now x.ino ≡ None → ⊥) → AreFresh directory old (map_list dentry_of all) → ⊥
  not_fresh old now xs x rest all is whole there fresh =
      let parted : AreFresh directory old (map_list dentry_of xs ++ dentry_of x ∷ map_list dentry_of rest) =
      subst (AreFresh directory old) (ap (map_list dentry_of) (sym whole) ∙ map-append dentry_of xs (x ∷ rest)) fresh in
      there (ap (λ (names : NameMap). map.get names x.ino) is ∙ fresh_there old (map_list dentry_of xs) (dentry_of x) (map_list dentry_of rest) parted)
