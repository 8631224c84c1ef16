-- Names that are brought, once a file brings one more.
use Rattle.std.proofs.Common.{◌≡◌, ◌⊎◌, inl, inr, ℕ, Bool, true, false, cond, List, refl, sym, ap, ◌∙◌, eq-eqb}
use Rattle.std.specs.Prelude.{Option, Some, None}
use Rattle.std.specs.Option.{option_and_then, option_map, unwrap_or}
use Rattle.std.specs.Ordering.{nat_cmp, eq_by_cmp, is_eq}
use Rattle.std.specs.Cmp.{nat_cmp_total, unsigned_tied, Equal-is, tied_itself}
use Rattle.std.specs.Cmp.Lexicographic.{slice_cmp, nat_list_cmp_total}
use Rattle.std.specs.FinMap as map
use Rattle.std.specs.FinMap.{nat_cmp-IsAntisymmetric, slice_cmp-IsAntisymmetric}
use Rattle.std.proofs.lemmas.Bool.{eqb-true}
use Rattle.f2_model.specs.declared.rows.Kind.{Kind}
use Rattle.f2_model.specs.declared.rows.Kind.TheVariants.{Regular}
use Rattle.f2_dir.specs.Entries.{Entries}
use Rattle.f2_overlay.specs.Brought.{BroughtNames, bringer, with_bringer, IsBrought}

-- whether two names are the same, and two directories
abbrev is_name : List ℕ → List ℕ → Bool
is_name = eq_by_cmp (slice_cmp nat_cmp)

abbrev is_ino : ℕ → ℕ → Bool
is_ino = eq_by_cmp nat_cmp

name_same : (p q : List ℕ) → is_name p q ≡ true → p ≡ q
name_same p q tied = slice_cmp-IsAntisymmetric nat_cmp-IsAntisymmetric p q ((Equal-is (slice_cmp nat_cmp p q)).0 tied)

name_itself : (name : List ℕ) → is_name name name ≡ true
name_itself name = ap is_eq (tied_itself nat_list_cmp_total name)

ino_same : (a b : ℕ) → is_ino a b ≡ true → a ≡ b
ino_same a b tied = eqb-true a b (sym (unsigned_tied a b) ∙ tied)

ino_itself : (a : ℕ) → is_ino a a ≡ true
ino_itself a = unsigned_tied a a ∙ eq-eqb a a refl

-- what a directory's names say, where they are some
abbrev pub of_names : Option Entries → List ℕ → Option ℕ
of_names names name = option_and_then (λ (entries : Entries). option_map (λ (place : ℕ × Kind). place.0) (map.get entries name)) names

module _ (ino : ℕ) (name : List ℕ) where
  -- the names of one directory, once one more is there
  there_in : (entries : Entries) → of_names (Some (map.insert entries name (ino, Regular))) name ≡ Some ino
  there_in entries = ap (option_map (λ (place : ℕ × Kind). place.0)) (map.get-insert nat_list_cmp_total entries name (ino, Regular) name ∙ ap (λ (b : Bool). cond b (Some (ino, Regular)) (map.get entries name)) (name_itself name))

  others_in : (entries : Entries) (more : List ℕ) → is_name more name ≡ false → of_names (Some (map.insert entries name (ino, Regular))) more ≡ of_names (Some entries) more
  others_in entries more other = ap (option_map (λ (place : ℕ × Kind). place.0)) (map.get-insert nat_list_cmp_total entries name (ino, Regular) more ∙ ap (λ (b : Bool). cond b (Some (ino, Regular)) (map.get entries more)) other)

  -- no names are the same as none
  none_in : (names : Option Entries) (more : List ℕ) → of_names (Some (unwrap_or names map.empty)) more ≡ of_names names more
  none_in None more = ap (option_map (λ (place : ℕ × Kind). place.0)) (map.get-empty (slice_cmp nat_cmp) more)
  none_in (Some entries) more = refl

module _ (old : BroughtNames) (directory : ℕ) (name : List ℕ) (ino : ℕ) where
  abbrev entries : Entries
  entries = map.insert (unwrap_or (map.get old directory) map.empty) name (ino, Regular)

  with_own : map.get (with_bringer old directory name ino) directory ≡ Some entries
  with_own = map.get-insert nat_cmp_total old directory entries directory ∙ ap (λ (b : Bool). cond b (Some entries) (map.get old directory)) (ino_itself directory)

  with_there : bringer (with_bringer old directory name ino) directory name ≡ Some ino
  with_there = ap (λ names. of_names names name) with_own ∙ there_in ino name (unwrap_or (map.get old directory) map.empty)

  with_others : (of : ℕ) (more : List ℕ) → ¬ ((of ≡ directory) × (more ≡ name)) → bringer (with_bringer old directory name ino) of more ≡ bringer old of more
  with_others of more other = by_ino (is_ino of directory) refl
    where
      by_name : (b : Bool) → is_name more name ≡ b → of ≡ directory → of_names (Some entries) more ≡ of_names (map.get old of) more
      by_name true tied same = absurd (other (same, name_same more name tied))
      by_name false apart same =
          others_in ino name (unwrap_or (map.get old directory) map.empty) more apart ∙ none_in ino name (map.get old directory) more ∙ ap (λ d. of_names (map.get old d) more) (sym same)

      by_ino : (b : Bool) → is_ino of directory ≡ b → bringer (with_bringer old directory name ino) of more ≡ bringer old of more
      by_ino true tied =
          ap (λ names. of_names names more) (map.get-insert nat_cmp_total old directory entries of ∙ ap (λ (b : Bool). cond b (Some entries) (map.get old of)) tied)
          ∙ by_name (is_name more name) refl (ino_same of directory tied)
      by_ino false apart = ap (λ names. of_names names more) (map.get-insert nat_cmp_total old directory entries of ∙ ap (λ (b : Bool). cond b (Some entries) (map.get old of)) apart)

  -- a name that no file brought yet
  pub brought_new : bringer old directory name ≡ None → IsBrought old (with_bringer old directory name ino) directory name ino
  brought_new none = record {
    own = λ other there. no other (sym none ∙ there);
    there = with_there;
    others = with_others;
  }
    where
      no : (other : ℕ) → None ≡ Some other → other ≡ ino
      no other e = absurd (cc)

-- where no names are, no file brings one
pub nobody : (directory : ℕ) (name : List ℕ) → bringer map.empty directory name ≡ None
nobody directory name = ap (λ names. of_names names name) (map.get-empty nat_cmp directory)

module _ (old new : BroughtNames) (directory : ℕ) (name : List ℕ) (ino : ℕ) (brought : IsBrought old new directory name ino) where
  -- a name in a directory is the one that was brought, or another
  same_or_other : (of : ℕ) (more : List ℕ) → ((of ≡ directory) × (more ≡ name)) ⊎ ¬ ((of ≡ directory) × (more ≡ name))
  same_or_other of more = by_ino (is_ino of directory) refl (is_name more name) refl
    where
      not_both : {b : Bool} → b ≡ true → b ≡ false → ⊥
      not_both {b} t f = no (sym t ∙ f)
        where
          no : true ≡ false → ⊥
          no e = cc

      by_ino : (b : Bool) → is_ino of directory ≡ b → (d : Bool) → is_name more name ≡ d → ((of ≡ directory) × (more ≡ name)) ⊎ ¬ ((of ≡ directory) × (more ≡ name))
      by_ino true tied true too = inl (ino_same of directory tied, name_same more name too)
      by_ino true tied false apart = inr (λ same. not_both (ap (λ n. is_name n name) same.1 ∙ name_itself name) apart)
      by_ino false apart d e = inr (λ same. not_both (ap (λ n. is_ino n directory) same.0 ∙ ino_itself directory) apart)

  -- what was brought before stays
  pub still_brought : (of : ℕ) (more : List ℕ) (other : ℕ) → bringer old of more ≡ Some other → bringer new of more ≡ Some other
  still_brought of more other there = by_case (same_or_other of more)
    where
      by_case : ((of ≡ directory) × (more ≡ name)) ⊎ ¬ ((of ≡ directory) × (more ≡ name)) → bringer new of more ≡ Some other
      by_case (inl same) =
          let here : bringer old directory name ≡ Some other = ap (λ d. bringer old d name) (sym same.0) ∙ ap (bringer old of) (sym same.1) ∙ there in
          ap (λ d. bringer new d more) same.0 ∙ ap (bringer new directory) same.1 ∙ brought.there ∙ ap Some (sym (brought.own other here))
      by_case (inr other) = brought.others of more other ∙ there

  -- what is brought was brought before, or is the new one
  pub brought_by : (of : ℕ) (more : List ℕ) (other : ℕ) → bringer new of more ≡ Some other → (bringer old of more ≡ Some other) ⊎ ((of ≡ directory) × (more ≡ name) × (other ≡ ino))
  brought_by of more other there = by_case (same_or_other of more)
    where
      same_value : (a b : ℕ) → Some a ≡ Some b → a ≡ b
      same_value a b e = cc

      by_case : ((of ≡ directory) × (more ≡ name)) ⊎ ¬ ((of ≡ directory) × (more ≡ name)) → (bringer old of more ≡ Some other) ⊎ ((of ≡ directory) × (more ≡ name) × (other ≡ ino))
      by_case (inl same) =
          let here : bringer new directory name ≡ Some other = ap (λ d. bringer new d name) (sym same.0) ∙ ap (bringer new of) (sym same.1) ∙ there in
          inr (same.0, same.1, same_value other ino (sym here ∙ brought.there))
      by_case (inr apart) = inl (sym (brought.others of more apart) ∙ there)
