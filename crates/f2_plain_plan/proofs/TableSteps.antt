-- The blocks of the table are planned one after another.
use Rattle.std.proofs.Common.{ℕ, ◌+◌, inl, inr, Bool, List, [], ◌∷◌, ◌++◌, sym, ap, subst, ◌∙◌, arith}
use Rattle.std.proofs.lemmas.Bool.{cases_eq}
use Rattle.std.proofs.lemmas.List.{map-append, append_assoc}
use Rattle.std.proofs.lemmas.List.Elements.{Contains-push, Contains-append_left}
use Rattle.std.proofs.lemmas.List.FromFn.{map-range_with_len_more}
use Rattle.f2_format.specs.Geometry.{ImageGeometry, nat_address}
use Rattle.f2_laid.specs.Laid.{PlaceMap}
use Rattle.f2_laid.specs.Planned.{Writes}
use Rattle.f2_laid.specs.declared.planned.Planned.{Planned}
use Rattle.f2_plain_plan.specs.Tables.{AddsTables, IsTableBlock}

pub table_more : (geom : ImageGeometry) (second : Bool) (places : PlaceMap) (end : ℕ) (blocks after : List Planned) (bytes : List ℕ) → AddsTables geom second places end blocks after → IsTableBlock places end bytes
    → AddsTables geom second places (end + 1) blocks (after ++ record { at = nat_address geom end second; block = bytes } ∷ [])
table_more geom second places end blocks after bytes so_far entries =
    let one : Planned = record { at = nat_address geom end second; block = bytes } in
    record {
      more = so_far.more ++ one ∷ [];
      added = ap (λ l. l ++ one ∷ []) so_far.added ∙ append_assoc blocks so_far.more (one ∷ []);
      ats = map-append (λ (some : Planned). some.at) so_far.more (one ∷ []) ∙ ap (λ l. l ++ nat_address geom end second ∷ []) so_far.ats ∙ sym (map-range_with_len_more (λ block. nat_address geom block second) 0 end end (omega arith));
      tables = λ block h. elim (cases_eq block end) [
        | inl e ↦ record { bytes = bytes; written = subst (λ b. Writes (so_far.more ++ one ∷ []) (nat_address geom b second) bytes) (sym e) (Contains-push so_far.more one); entries = subst (λ b. IsTableBlock places b bytes) (sym e) entries }
        | inr ne ↦ let old = so_far.tables block (omega arith) in record { bytes = old.bytes; written = Contains-append_left so_far.more (one ∷ []) _ old.written; entries = old.entries }
      ];
    }
