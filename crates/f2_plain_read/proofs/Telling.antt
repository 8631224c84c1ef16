-- Disks that tell what they hold, and values that are equal.
use Rattle.std.proofs.Common.{◌≡◌, true, false, refl, sym, ap, ◌∙◌, subst}
use Rattle.std.specs.Prelude.{Option, Some, None, is_some, Result, Ok, Err}
use Rattle.std.specs.Option.{IfSome}
use Rattle.std.specs.Result.{IsErrAnd}
use Rattle.f2_disk.specs.Contents.{Contents, latest}
use Rattle.f2_disk.specs.Meter.{Meter}
use Rattle.f2_disk.specs.Using.{OnlyReads}
use Rattle.f2_disk.proofs.UsingLaws.{reads_then}
use Rattle.f2_image.specs.Images.{Image}
use Rattle.f2_plain_read.specs.Told.{Tells}
use Rattle.f2_plain_read.specs.Faults.{unbuilt}
use Rattle.f2_plain_read.specs.declared.faults.BuildFault.{BuildFault}
use Rattle.f2_plain_read.specs.declared.faults.BuildFault.TheVariants as build
use Rattle.f2_plain_read.specs.declared.faults.ReadFault.{ReadFault}
use Rattle.f2_plain_read.specs.declared.faults.ReadFault.TheVariants.{Bad, Memory}

-- what holds where contents are told holds of the image that is told
pub told : (held : Option Contents) (P : Image → Type 0) → IfSome held (λ lists. P (latest lists)) → (image : Image) → Tells held image → P image
told None P h image t = absurd (some_none _ t.1)
  where
    some_none : {X : Type 0} (x : X) → None ≡ Some x → ⊥
    some_none x e = cc
told (Some lists) P h image t = subst P (sym (t.2 ∙ ap latest (one_some t.0 lists (sym t.1)))) h
  where
    one_some : (a b : Contents) → Some a ≡ Some b → a ≡ b
    one_some a b e = cc

-- the same the other way round
pub telling : (held : Option Contents) (P : Image → Type 0) → ((image : Image) → Tells held image → P image) → IfSome held (λ lists. P (latest lists))
telling None P h = tt
telling (Some lists) P h = h (latest lists) (lists, refl, refl)

-- what is told stays told
pub tells_on : (held now : Option Contents) (image : Image) → now ≡ held → Tells held image → Tells now image
tells_on held now image same t = (t.0, same ∙ t.1, t.2)

-- options that are equal
pub none_is : {X : Type 0} (a b : Option X) → false ≡ is_some a → a ≡ b → b ≡ None
none_is None b h e = sym e
none_is (Some x) b h e = absurd (no h)
  where
    no : false ≡ true → ⊥
    no h = cc

pub some_isnt : {X : Type 0} (a b : Option X) → true ≡ is_some a → a ≡ b → b ≡ None → ⊥
some_isnt None b h e n = no h
  where
    no : true ≡ false → ⊥
    no h = cc
some_isnt (Some x) b h e n = no (e ∙ n)
  where
    no : Some x ≡ None → ⊥
    no h = cc

pub parts : {X Y : Type 0} (a b : X × Y) → Some a ≡ Some b → (a.0 ≡ b.0) × (a.1 ≡ b.1)
parts a b e = (ap (λ p. p.0) (same a b e), ap (λ p. p.1) (same a b e))
  where
    same : {Z : Type 0} (a b : Z) → Some a ≡ Some b → a ≡ b
    same a b e = cc

-- a fault that is passed on is the one that came
pub fault_came : {X Y E : Type 0} (r : Result X E) (fault other : E) → IsErrAnd r (λ e. e ≡ fault) → r ≡ Err other → ◌≡◌ {A = Result Y E} (Err fault) (Err other)
fault_came (Ok x) fault other is h = absurd is
fault_came {X} {Y} {E} (Err e) fault other is h = ap Err (sym is ∙ same e other h)
  where
    same : (a b : E) → ◌≡◌ {A = Result X E} (Err a) (Err b) → a ≡ b
    same a b h = cc

-- what makes no tree is what came, and not want of memory
pub bad_came : {X Y : Type 0} (r : Result X ReadFault) (fault : BuildFault) → IsErrAnd r (λ e. e ≡ unbuilt fault) → r ≡ Err Bad → ◌≡◌ {A = Result Y BuildFault} (Err fault) (Err build.Bad)
bad_came (Ok x) fault is h = absurd is
bad_came {X} (Err e) build.Bad is h = refl
bad_came {X} (Err e) build.Memory is h = absurd (wrong (sym is ∙ same e Bad h))
  where
    same : (a b : ReadFault) → ◌≡◌ {A = Result X ReadFault} (Err a) (Err b) → a ≡ b
    same a b h = cc

    wrong : Memory ≡ Bad → ⊥
    wrong h = cc

-- runs of calls on values of one type
module _ {D : Type 0} (contents : D → Option Contents) (meter : D → Meter) where
  pub reads_to : (old mid new same : D) → same ≡ new → OnlyReads contents meter old mid → OnlyReads contents meter mid new → OnlyReads contents meter old same
  reads_to old mid new same is first second = subst (OnlyReads contents meter old) (sym is) (reads_then contents meter old mid new first second)

  pub reads_as : (old mid same : D) → same ≡ mid → OnlyReads contents meter old mid → OnlyReads contents meter old same
  reads_as old mid same is first = subst (OnlyReads contents meter old) (sym is) first
