-- The pages with which a mark of a file begins.
use Rattle.std.proofs.Common.{◌≡◌, ℕ, List, sym, subst}
use Rattle.std.specs.Prelude.{Option, Some, None, Result, Ok, Err, IfOk}
use Rattle.std.specs.FinMap as map
use Rattle.f2_recover.specs.Seeing.{IsList}
use Rattle.f2_recover.specs.declared.nodes.PageAt.{PageAt}
use Rattle.f2_recover.specs.declared.rows.BaseRow.{BaseRow}
use Rattle.f2_overlay.specs.Owning.{Pages}
use Rattle.f2_overlay.specs.Rolling.{StartAs}
use Rattle.f2_overlay.specs.declared.rolls.Roll.{Roll}

pub if_ok : {T E : Type 0} (r : Result T E) (P Q : T → Type 0) → ((x : T) → P x → Q x) → IfOk r P → IfOk r Q
if_ok (Ok x) P Q f h = f x h
if_ok (Err e) P Q f h = tt

-- they are those of a list
abbrev pub AreThose : List PageAt → Pages → Type 0
AreThose list copied = (limit : ℕ) (pages : Pages) → IsList limit pages list → (page : ℕ) → map.get copied page ≡ map.get pages page

pub start_row : (roll : Option Roll) (base : Option BaseRow) (row : BaseRow) (list : List PageAt) (copied : Pages) → roll ≡ None → base ≡ Some row → list ≡ row.file.nodes.list.items → AreThose list copied → StartAs roll base copied
start_row roll base row list copied none there same those =
    subst (λ (o : Option Roll). StartAs o base copied) (sym none)
    (subst (λ (o : Option BaseRow). StartAs None o copied) (sym there) (λ limit is page. those limit row.file.nodes.pages.pages (subst (λ (xs : List PageAt). IsList limit row.file.nodes.pages.pages xs) (sym same) is) page))
