-- What is found on a disk that holds one image.
use Rattle.std.proofs.Common.{◌≡◌, true, false, is_err, Result, Ok, Err, OnOk, refl, sym, ap, ◌∙◌, subst, true≢false, nat_eq, ◌&&◌, eq-eqb}
use Rattle.std.specs.Prelude.{Option, Some, None, IfSome, option_map}
use Rattle.f2_format.specs.Geometry.{ImageGeometry}
use Rattle.f2_disk.specs.Contents.{Contents, flushed, latest}
use Rattle.f2_model.specs.Tree.{Rows}
use Rattle.f2_laid.specs.Laid.{IsLaid}
use Rattle.f2_laid.specs.declared.stored.Stored.{Stored}
use Rattle.f2_flat.specs.Flat.{IsFlat}
use Rattle.f2_core.specs.Seen.{IsHeld}
use Rattle.f2_core.specs.Found.{FindsHeld, NoneIsHeld, StaysHeld}
use Rattle.f2_plain_read.specs.Reads.{IsAllLaidIn, HasNoneLaid}
use Rattle.f2_core.specs.declared.volumes.Volume.{Volume}
use Rattle.f2_core.proofs.Held.{held-storable, held-flushed, held-laid}

pub same_sizes : (a b : ImageGeometry) → a ≡ b → (nat_eq a.blocks b.blocks && nat_eq a.nat b.nat) ≡ true
same_sizes a b same =
    let blocks : nat_eq a.blocks b.blocks ≡ true = eq-eqb a.blocks b.blocks (ap (λ (e : ImageGeometry). e.blocks) same) in
    let nat : nat_eq a.nat b.nat ≡ true = eq-eqb a.nat b.nat (ap (λ (e : ImageGeometry). e.nat) same) in
    rw (blocks, nat) refl

-- a fact of an `Ok`, where the result is no `Err`
pub on_ok : {A E : Type 0} {P : Type 0} (result : Result A E) → is_err result ≡ false → OnOk result P → P
on_ok (Ok x) none p = p
on_ok (Err e) none p = absurd (true≢false none)

flushed_laid : (geom : ImageGeometry) (lists : Contents) (base : Rows) (stored : Stored) → IsHeld geom lists base stored → IsLaid (latest (flushed lists)) base stored
flushed_laid geom lists base stored held = subst (λ l. IsLaid (latest l) base stored) (sym (held-flushed geom lists base stored held)) (held-laid geom lists base stored held)

pub finds : (geom : ImageGeometry) (was now : Option Contents) (tree : Rows) (stored : Stored) → now ≡ option_map flushed was → IfSome now (λ lists. IsAllLaidIn (latest lists) tree stored) → FindsHeld geom was (record { files = tree; stored = stored })
finds geom None now tree stored is found = tt
finds geom (Some lists) now tree stored is found = λ base other flat held.
    let at = subst (λ o. IfSome o (λ l. IsAllLaidIn (latest l) tree stored)) is found in
    at base other (held-storable geom lists base other held flat) (flushed_laid geom lists base other held)

pub finds_none : (geom : ImageGeometry) (was now : Option Contents) → now ≡ option_map flushed was → IfSome now (λ lists. HasNoneLaid (latest lists)) → NoneIsHeld geom was
finds_none geom None now is none = tt
finds_none geom (Some lists) now is none = λ base stored flat version held.
    let at = subst (λ o. IfSome o (λ l. HasNoneLaid (latest l))) is none in
    at base stored (held-storable geom lists base stored held flat) version (flushed_laid geom lists base stored held)

-- what was found can't be the tree of a disk that holds one, where it isn't flat or has other sizes
pub finds_other : (geom : ImageGeometry) (was : Option Contents) (volume : Volume) → FindsHeld geom was volume → (IsFlat geom volume.files → volume.stored.geometry ≡ geom → ⊥) → NoneIsHeld geom was
finds_other geom None volume found other = tt
finds_other geom (Some lists) volume found other = λ base stored flat version held.
    let same = found base stored flat held in
    other (subst (IsFlat geom) (sym same.0) flat) (ap (λ (s : Stored). s.geometry) same.1 ∙ held.sizes)

pub stays_held : (geom : ImageGeometry) (was now after : Option Contents) → now ≡ option_map flushed was → after ≡ now → StaysHeld geom was after
stays_held geom None now after is same = tt
stays_held geom (Some lists) now after is same = λ base stored held. same ∙ is ∙ ap (λ l. Some l) (held-flushed geom lists base stored held)
