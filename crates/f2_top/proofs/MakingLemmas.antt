-- What the command that makes an image does, from what its parts do.
use Rattle.std.proofs.Common.{◌≡◌, ℕ, ◌+◌, ◌-◌, ◌^◌, ◌≤◌, min, List, [], ◌∷◌, length, map, get_or, refl, sym, ap, ◌∙◌, subst, arith, inl, inr, ◌⊎◌, false, is_err, Result, Ok, Err}
use Rattle.std.specs.Prelude.{codes, decimal, Option, Some, None, option_map, OnOk}
use Rattle.std.specs.Io.KnownBytes.{Appends}
use Rattle.std.proofs.lemmas.Fmt.{decimal_injective}
use Rattle.f2_format.specs.Geometry.{ImageGeometry}
use Rattle.f2_disk.specs.Contents.{Contents, WhereTold, latest, flushed}
use Rattle.f2_disk.specs.Meter.{Meter, HasFailed}
use Rattle.f2_disk.proofs.ContentsLaws.{latest_alone, told_same}
use Rattle.f2_layout.specs.Refusal.{geometry_of}
use Rattle.f2_layout.specs.declared.geometry.BadGeometry.{BadGeometry}
use Rattle.f2_mount.specs.Making.{HasNewImage}
use Rattle.f2_script.specs.Words.{IsWord, Number}
use Rattle.f2_play.specs.declared.status.Status.{Status}
use Rattle.f2_play.specs.declared.status.Status.TheVariants as status
use Rattle.f2_play.specs.Endings.{last_line}
use Rattle.f2_play.proofs.Playing.{geometry_of-ok}
use Rattle.f2_top.specs.Streams.{PutsSome}
use Rattle.f2_top.specs.Replay.{Finishes, said_whole, broken_off}
use Rattle.f2_top.specs.Making.{IsMkfs, ReadsTheSame, MakesBy, Makes, IsMade}

-- sizes
abbrev pub sizes : ℕ → ℕ → ImageGeometry
sizes blocks nat = record { blocks = blocks; nat = nat }

-- words ask for an image of one geom
pub one_geom : (words : List (List ℕ)) (a b : ImageGeometry) → IsMkfs words a → IsMkfs words b → a ≡ b
one_geom words a b one other =
    let same = sym one.are ∙ other.are in
    let blocks : a.blocks ≡ b.blocks = decimal_injective a.blocks b.blocks (omega (arith, one.blocks)) (omega (arith, other.blocks)) (ap (λ (l : List (List ℕ)). get_or l 2 []) same) in
    let nat : a.nat ≡ b.nat = decimal_injective a.nat b.nat (omega (arith, one.nat)) (omega (arith, other.nat)) (ap (λ (l : List (List ℕ)). get_or l 3 []) same) in
    ap (λ n. sizes n a.nat) blocks ∙ ap (λ n. sizes b.blocks n) nat

-- sizes that break no limit
pub own_sizes : (asked got : ImageGeometry) → ◌≡◌ {A = Result ImageGeometry BadGeometry} (Ok got) (geometry_of asked) → geometry_of asked ≡ Ok asked
own_sizes asked got is = sym is ∙ ap Ok (geometry_of-ok asked got (sym is))

pub same_sizes : (asked got : ImageGeometry) → ◌≡◌ {A = Result ImageGeometry BadGeometry} (Ok got) (geometry_of asked) → got ≡ asked
same_sizes asked got is = geometry_of-ok asked got (sym is)

-- what is said of a call that succeeded
pub on_ok : {T E : Type 0} (result : Result T E) {P : Type 0} → is_err result ≡ false → OnOk result P → P
on_ok (Ok v) fine said = said
on_ok (Err e) fine said = absurd (cc)

-- what is the same as before, and what a flush leaves, reads the same
pub told_still : (told now : Option Contents) → now ≡ told → WhereTold told now ReadsTheSame
told_still told now same = subst (λ t. WhereTold told t ReadsTheSame) (sym same) (told_same told ReadsTheSame (λ c. refl))

pub told_flushed : (told now : Option Contents) → now ≡ option_map flushed told → WhereTold told now ReadsTheSame
told_flushed None now flush = subst (λ t. WhereTold None t ReadsTheSame) (sym flush) tt
told_flushed (Some lists) now flush = subst (λ t. WhereTold (Some lists) t ReadsTheSame) (sym flush) (latest_alone (latest lists))

-- an image that was made after a flush
pub told_new : (geom : ImageGeometry) (told mid now : Option Contents) → mid ≡ option_map flushed told → WhereTold mid now (HasNewImage geom) → WhereTold told now (HasNewImage geom)
told_new geom None mid now flush made = subst (λ m. WhereTold m now (HasNewImage geom)) flush made
told_new geom (Some lists) mid now flush made = new now (subst (λ m. WhereTold m now (HasNewImage geom)) flush made)
  where
    new : (now : Option Contents) → WhereTold (Some (flushed lists)) now (HasNewImage geom) → WhereTold (Some lists) now (HasNewImage geom)
    new None made = made
    new (Some after) made = made

-- a count that rose after it didn't fall
earlier : (a b c most : ℕ) → a ≤ b → min (b + 1) most ≤ c → min (a + 1) most ≤ c
earlier a b c most less rose = omega (arith, less, rose)

pub failed_later : (old mid new : Meter) → old.faults ≤ mid.faults → HasFailed mid new → HasFailed old new
failed_later old mid new less rose = earlier old.faults mid.faults new.faults (2 ^ 64 - 1) less rose

-- what was done, and its text went out
whole : (geom : ImageGeometry) (told now : Option Contents) (old new : Meter) (s : Status) (text : List ℕ) → MakesBy geom told now old new s text → Makes geom told now old new s text
whole geom told now old new status.Done text makes = makes
whole geom told now old new status.Usage text makes = absurd makes
whole geom told now old new status.TooLong text makes = absurd makes
whole geom told now old new (status.Script line) text makes = absurd makes
whole geom told now old new status.SourceFault text makes = absurd makes
whole geom told now old new status.SinkFault text makes = absurd makes
whole geom told now old new status.DiskFault text makes = makes
whole geom told now old new (status.BadImage bad) text makes = makes
whole geom told now old new (status.Geometry limit value) text makes = makes
whole geom told now old new status.Memory text makes = makes

pub made_whole : (geom : ImageGeometry) (told now : Option Contents) (old new : Meter) (before after : Option (List ℕ)) (s : Status) (text : List ℕ)
    → MakesBy geom told now old new s text → Appends before after text → IsMade geom told now old new before after s
made_whole geom told now old new before after s text makes gone = record { out = text; written = gone; makes = whole geom told now old new s text makes }

-- or the sink failed in it
pub made_cut : (geom : ImageGeometry) (told now : Option Contents) (old new : Meter) (before after : Option (List ℕ)) (s : Status) (text : List ℕ)
    → MakesBy geom told now old new s text → PutsSome before after text → IsMade geom told now old new before after status.SinkFault
made_cut geom told now old new before after s text makes some = record {
  out = some.gone;
  written = some.written;
  makes = record { status = s; text = text; makes = makes; cut = some.cut };
}

-- what has its last line alone as its text
pub made_finished : (geom : ImageGeometry) (told now : Option Contents) (old new : Meter) (before after : Option (List ℕ)) (s ending : Status)
    → MakesBy geom told now old new s (last_line s) → Finishes before after s ending → IsMade geom told now old new before after ending
made_finished geom told now old new before after s ending makes (said_whole same line) =
    subst (IsMade geom told now old new before after) (sym same) (made_whole geom told now old new before after s (last_line s) makes line)
made_finished geom told now old new before after s ending makes (broken_off failed loud some) =
    subst (IsMade geom told now old new before after) (sym failed) (made_cut geom told now old new before after s (last_line s) makes some)

-- which faults it has, by its status
pub no_source : (geom : ImageGeometry) (told now : Option Contents) (old new : Meter) (s : Status) (text : List ℕ) → MakesBy geom told now old new s text → ¬ (s ≡ status.SourceFault)
no_source geom told now old new s text makes is = absurd (subst (λ e. MakesBy geom told now old new e text) is makes)

pub no_sink : (geom : ImageGeometry) (told now : Option Contents) (old new : Meter) (s : Status) (text : List ℕ) → MakesBy geom told now old new s text → ¬ (s ≡ status.SinkFault)
no_sink geom told now old new s text makes is = absurd (subst (λ e. MakesBy geom told now old new e text) is makes)

pub disk_failed : (geom : ImageGeometry) (told now : Option Contents) (old new : Meter) (s : Status) (text : List ℕ) → MakesBy geom told now old new s text → s ≡ status.DiskFault → HasFailed old new
disk_failed geom told now old new s text makes is =
    let fault : MakesBy geom told now old new status.DiskFault text = subst (λ e. MakesBy geom told now old new e text) is makes in fault.1

-- the status that a last line is of, by the one that the run ends with
pub finished_other : (before after : Option (List ℕ)) (s ending : Status) → Finishes before after s ending → (ending ≡ s) ⊎ (ending ≡ status.SinkFault)
finished_other before after s ending (said_whole same line) = inl same
finished_other before after s ending (broken_off failed loud some) = inr failed

-- the first, the third and the last of four items
pub four_items : {X Y : Type 0} (f : X → Y) (xs : List X) (a b c : X) → length xs ≡ 4 → a ≡ get_or xs 0 a → b ≡ get_or xs 2 b → c ≡ get_or xs 3 c → (y : Y) × (map f xs ≡ f a ∷ y ∷ f b ∷ f c ∷ [])
four_items f [] a b c n p q r = absurd (omega (arith, n))
four_items f (x ∷ []) a b c n p q r = absurd (omega (arith, n))
four_items f (x ∷ y ∷ []) a b c n p q r = absurd (omega (arith, n))
four_items f (x ∷ y ∷ z ∷ []) a b c n p q r = absurd (omega (arith, n))
four_items f (x ∷ y ∷ z ∷ w ∷ []) a b c n p q r = (f y, ap (λ t. f t ∷ f y ∷ f z ∷ f w ∷ []) (sym p) ∙ ap (λ t. f a ∷ f y ∷ f t ∷ f w ∷ []) (sym q) ∙ ap (λ t. f a ∷ f y ∷ f b ∷ f t ∷ []) (sym r))
four_items f (x ∷ y ∷ z ∷ w ∷ v ∷ xs) a b c n p q r = absurd (omega (arith, n))

-- four words that ask for an image
pub asks : (words : List (List ℕ)) (command image third last : List ℕ) (blocks nat : ℕ) → words ≡ command ∷ image ∷ third ∷ last ∷ [] → command ≡ codes "mkfs"
    → IsWord (Number 0 4294967295 blocks) third → IsWord (Number 0 4294967295 nat) last → IsMkfs words (sizes blocks nat)
asks words command image third last blocks nat four said one other = record {
  image = image;
  are = four ∙ ap (λ t. t ∷ image ∷ third ∷ last ∷ []) said ∙ ap (λ t. codes "mkfs" ∷ image ∷ t ∷ last ∷ []) one.2 ∙ ap (λ t. codes "mkfs" ∷ image ∷ decimal blocks ∷ t ∷ []) other.2;
  blocks = (let most = one.1 in omega (arith, most));
  nat = (let most = other.1 in omega (arith, most));
}
