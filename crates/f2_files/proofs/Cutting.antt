-- What a cut leaves of the addresses of pages and the nids of nodes.
use Rattle.std.proofs.Common.{◌≡◌, ◌≢◌, ◌⊎◌, inl, inr, ℕ, ◌*◌, cond, sym, ap, ◌∙◌}
use Rattle.std.specs.Prelude.{Some, None}
use Rattle.std.specs.FinMap as map
use Rattle.std.specs.FinMap.{nat_cmp-IsAntisymmetric}
use Rattle.std.proofs.lemmas.Bool.{lt-ltb, le-ltb}
use Rattle.f2_laws.proofs.Maps.{get_put, get_put-other}
use Rattle.f2_laws.proofs.Places.{same_or_other}
use Rattle.f2_laws.proofs.Walks.{some_same, some_none}
use Rattle.f2_model.specs.Content.{PAGE, begins_before}
use Rattle.f2_files.specs.Cuts.{Addressed, pages_before}
use Rattle.f2_files.specs.Known.{Known, ArePlacesCut}
use Rattle.f2_files.specs.Shape.{Shapes}
use Rattle.f2_files.specs.declared.shapes.Shape.{Shape}

get-before : (pages : Addressed) (size page : ℕ) → map.get (pages_before pages size) page ≡ cond (begins_before size page) (map.get pages page) None
get-before pages size page = map.get-retain_keys pages (begins_before size) page (λ x tie. ap (begins_before size) (sym (nat_cmp-IsAntisymmetric page x tie)))

module _ (old new : Known) (shapes : Shapes) (seen : shapes ≡ old.shapes) (ino size : ℕ) where
  pub places_missing : map.get shapes ino ≡ None → new.shapes ≡ shapes → ArePlacesCut old new ino size
  places_missing none is =
      let same : new.shapes ≡ old.shapes = is ∙ seen in
      let missing : map.get old.shapes ino ≡ None = ap (λ (s : Shapes). map.get s ino) (sym seen) ∙ none in
      record {
        others = λ other _. ap (λ (s : Shapes). map.get s other) same;
        missing = λ _. ap (λ (s : Shapes). map.get s ino) same ∙ missing;
        nids = λ other shape now was there. ap (λ (s : Shape). s.nids) (some_same (sym there ∙ ap (λ (s : Shapes). map.get s other) same ∙ was));
        kept = λ page shape now was there below. absurd (some_none (sym was ∙ missing));
        gone = λ page now there past. absurd (some_none (sym there ∙ ap (λ (s : Shapes). map.get s ino) same ∙ missing));
      }

  pub places_cut : (row : Shape) → map.get shapes ino ≡ Some row → new.shapes ≡ map.insert shapes ino (record row { size = size; pages = pages_before row.pages size }) → ArePlacesCut old new ino size
  places_cut row there is = record {
    others = λ other apart. ap (λ (s : Shapes). map.get s other) is ∙ get_put-other shapes ino (record row { size = size; pages = pages_before row.pages size }) other apart ∙ ap (λ (s : Shapes). map.get s other) seen;
    missing = λ none. absurd (some_none (sym there ∙ ap (λ (s : Shapes). map.get s ino) seen ∙ none));
    nids = λ other shape now was h. nids other shape now was h (same_or_other other ino);
    kept = λ page shape now was h below.
        ap (λ (s : Shape). map.get s.pages page) (sym (after now h)) ∙ get-before row.pages size page
        ∙ ap (λ b. cond b (map.get row.pages page) None) (lt-ltb (page * PAGE) size below)
        ∙ ap (λ (s : Shape). map.get s.pages page) (before shape was);
    gone = λ page now h past.
        ap (λ (s : Shape). map.get s.pages page) (sym (after now h)) ∙ get-before row.pages size page
        ∙ ap (λ b. cond b (map.get row.pages page) None) (le-ltb (page * PAGE) size past);
  }
    where
      after : (now : Shape) → map.get new.shapes ino ≡ Some now → (record row { size = size; pages = pages_before row.pages size }) ≡ now
      after now h = some_same (sym (get_put shapes ino (record row { size = size; pages = pages_before row.pages size })) ∙ ap (λ (s : Shapes). map.get s ino) (sym is) ∙ h)

      before : (shape : Shape) → map.get old.shapes ino ≡ Some shape → row ≡ shape
      before shape h = some_same (sym there ∙ ap (λ (s : Shapes). map.get s ino) seen ∙ h)

      nids : (other : ℕ) (shape now : Shape) → map.get old.shapes other ≡ Some shape → map.get new.shapes other ≡ Some now → (other ≡ ino) ⊎ (other ≢ ino) → now.nids ≡ shape.nids
      nids other shape now was h (inl same) =
          ap (λ (s : Shape). s.nids) (sym (after now (ap (map.get new.shapes) (sym same) ∙ h)))
          ∙ ap (λ (s : Shape). s.nids) (before shape (ap (map.get old.shapes) (sym same) ∙ was))
      nids other shape now was h (inr apart) =
          ap (λ (s : Shape). s.nids) (some_same (sym h ∙ ap (λ (s : Shapes). map.get s other) is ∙ get_put-other shapes ino (record row { size = size; pages = pages_before row.pages size }) other apart ∙ ap (λ (s : Shapes). map.get s other) seen ∙ was))
