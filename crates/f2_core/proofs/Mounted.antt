-- What a mount of a closed core comes to.
use Rattle.std.proofs.Common.{◌≡◌, ◌⊎◌, inl, inr, Result, Ok, Err, is_err, OnErr, true, false, refl, sym, ap, ◌∙◌, true≢false}
use Rattle.std.specs.Prelude.{Option, Some, None, IfSome, IsSome, is_some}
use Rattle.f2_format.specs.Geometry.{ImageGeometry}
use Rattle.f2_disk.specs.Contents.{Contents}
use Rattle.f2_model.specs.Tree.{Rows}
use Rattle.f2_model.specs.State.{State}
use Rattle.f2_model.specs.declared.events.Answer.TheVariants as answers
use Rattle.f2_model.specs.declared.events.MountRefusal.TheVariants as refusals
use Rattle.f2_model.specs.declared.events.Event.TheVariants.{Mount}
use Rattle.f2_model.specs.History.{History}
use Rattle.f2_laid.specs.declared.stored.Stored.{Stored}
use Rattle.f2_flat.specs.Flat.{IsFlat}
use Rattle.f2_core.specs.Seen.{IsHeld, IsIn}
use Rattle.f2_core.specs.Events.{ComesTo}
use Rattle.f2_core.specs.Found.{FindsHeld, StaysHeld}
use Rattle.f2_model.specs.declared.events.MountRefusal.{MountRefusal}
use Rattle.f2_core.specs.declared.volumes.Volume.{Volume}
use Rattle.f2_core.proofs.Comes.{seen}
use Rattle.f2_core.proofs.Unchanged.{unmounted, unfound}

pub on_err : {A E : Type 0} {P : Type 0} (result : Result A E) → is_err result ≡ true → OnErr result P → P
on_err (Ok x) none p = absurd (true≢false (sym none))
on_err (Err e) none p = p

pub some_of : {X : Type 0} (o : Option X) → is_some o ≡ true → (x : X) × (o ≡ Some x)
some_of None is = absurd (true≢false (sym is))
some_of (Some x) is = (x, refl)

pub none_of : {X : Type 0} (o : Option X) → is_some o ≡ false → o ≡ None
none_of None is = refl
none_of (Some x) is = absurd (true≢false is)

-- a disk that tells what it holds, and holds one image, keeps it where that is so
pub still_told : (geom : ImageGeometry) (was now : Option Contents) (base : Rows) (stored : Stored) → IsSome was → IfSome was (λ lists. IsHeld geom lists base stored) → StaysHeld geom was now → now ≡ was
still_told geom None now base stored tells held stays = absurd (cc)
still_told geom (Some lists) now base stored tells held stays = stays base stored held

-- and its tree is found
pub found_is : (geom : ImageGeometry) (was : Option Contents) (base : Rows) (stored : Stored) (volume : Volume) → IsSome was → IsFlat geom base → IfSome was (λ lists. IsHeld geom lists base stored) → FindsHeld geom was volume
    → (volume.files ≡ base) × (volume.stored ≡ stored)
found_is geom None base stored volume tells flat held found = absurd (cc)
found_is geom (Some lists) base stored volume tells flat held found = found base stored flat held

-- a mount that finds no tree, where no call of the disk failed
pub not_found : {D : Type 0} (disk after_disk : D) (geom : ImageGeometry) (volume : Option Volume) (before room after : History) (was told : Option Contents) (from : State) (why : MountRefusal) → IsIn geom was volume before from → volume ≡ None
    → ((why ≡ refusals.ReadFailed) ⊎ (why ≡ refusals.WriteFailed) → ⊥) → (why ≡ refusals.BadImage → after ≡ room) → (why ≡ refusals.NoMemory → after ≡ room) → room.entries ≡ before.entries → room.choices ≡ before.choices → told ≡ was
    → ComesTo (seen disk geom volume before) (seen after_disk geom volume after) told from Mount (answers.NotMounted why)
not_found disk after_disk geom volume before room after was told from refusals.ReadFailed at none calm bad memory entries choices same = absurd (calm (inl refl))
not_found disk after_disk geom volume before room after was told from refusals.WriteFailed at none calm bad memory entries choices same = absurd (calm (inr refl))
not_found disk after_disk geom volume before room after was told from refusals.BadImage at none calm bad memory entries choices same =
    unfound disk after_disk geom volume before after was told from at none (ap (λ (h : History). h.entries) (bad refl) ∙ entries) (ap (λ (h : History). h.choices) (bad refl) ∙ choices) same
not_found disk after_disk geom volume before room after was told from refusals.NoMemory at none calm bad memory entries choices same =
    unmounted disk after_disk geom volume before after was told from at none (ap (λ (h : History). h.entries) (memory refl) ∙ entries) (ap (λ (h : History). h.choices) (memory refl) ∙ choices) same
